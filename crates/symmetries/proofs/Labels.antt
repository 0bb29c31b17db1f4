-- Lists of the ported eliminations and the chain passes on a relabelled board. Assumes nothing.
use mathlib.Core.Path.{◌≡◌, refl, sym, ap, ◌∙◌}
use mathlib.Core.Bool.{Bool, true, not, true≢false}
use mathlib.Core.List.{List, [], ◌∷◌}
use Prim.Native.Nat.{ℕ, ◌≤◌, ◌<◌}
use native.Mathlib.Decide.{dec_lt}
use native.Mathlib.Omega.{arith}
use lib.Dec.{eqb}
use lib.IntN.{ℤ}
use lib.ListN.{get_or-eq_default}
use Rattle.stops.specs.Answer.{Answer, gives, map, passing}
use Rattle.candidates.specs.Masks.{has}
use Rattle.candidates.proofs.Held.{has-none}
use Rattle.candidates.proofs.Tests.{bool_iff, both_left, both_right}
use Rattle.steps.specs.Boards.{Board, at, givens_of, together, givens, given, is_open, with_masks, Admissible, same_masks}
use Rattle.steps.specs.Calls.{Call, update_candidates, naked_pairs_call, box_line_call, x_wing_call, naked_singles_call, hidden_singles_call, advanced_call, wide, settling_call, chain_call, x_chain_call, Outcome, outcome, answer, left, run}
use Rattle.steps.specs.Passes.{changed}
use Rattle.steps.proofs.Check.{givens-length}
use Rattle.steps.proofs.Lists.{Good, call-admissible, call-admits, board-givens, accepted}
use Rattle.steps.proofs.Masks.{same_refl, same-eq}
use Rattle.symmetries.specs.Changes.{Moves, OneToOne, Change, Symmetry, changed_masks, changed_clues, changed_board, relabelling}
use Rattle.symmetries.specs.OtherClothes.{follows_labels, all_follow, flags}
use Rattle.symmetries.proofs.Changed.{Nine, nine-ext, nine-out, changed-has, changed-nine, changed-back}
use Rattle.symmetries.proofs.Givens.{open-follows, admissible-follows, admissible-nine, clues-follow, entries-follow}
use Rattle.symmetries.proofs.Moves.{undone_change}
use Rattle.symmetries.proofs.NakedPairs.{naked-pairs-follow}
use Rattle.symmetries.proofs.OneDigit.{Relabelled}
use Rattle.symmetries.proofs.OneDigitPasses.{box-lines-follow, x-wings-follow, chains-follow, x-chains-follow}
use Rattle.symmetries.proofs.SixKinds.{labels}

-- ---- boards that are not refused

pub answered : (k : Call) (b : Board) → Good Admissible b → answer k b ≡ gives (outcome k (givens b) b.masks)
unfolding answer
answered k b r = ap (λ (w : Answer (Unit {0})). passing w (outcome k (givens b) b.masks)) (accepted b r)

pub good-follows : {w : Change} → Symmetry w → {b : Board} → Good Admissible b → Good Admissible (changed_board w b)
good-follows s {b} r =
    record { clues = clues-follow s r.clues; entries = entries-follow s r.entries; masks = admissible-follows s b.clues b.entries r.masks }

pub good-nine : {b : Board} → Good Admissible b → Nine b.masks
good-nine {b} r = admissible-nine (board-givens b) r.masks

-- the masks that a call leaves
pub left-nine : (k : Call) {b : Board} → Good Admissible b → Nine (outcome k (givens b) b.masks).masks
left-nine k {b} r = admissible-nine (board-givens b) (call-admissible k (givens b) b.masks (board-givens b) r.masks)

-- what a call leaves follows, if its masks do
pub call-follows : {w : Change} → Symmetry w → (k : Call) {b : Board} → Good Admissible b
    → (outcome k (givens (changed_board w b)) (changed_masks w b.masks)).masks ≡ changed_masks w (outcome k (givens b) b.masks).masks
    → left (changed_board w b) (answer k (changed_board w b)) ≡ changed_board w (left b (answer k b))
call-follows {w} s k {b} r e =
    ap (left (changed_board w b)) (answered k (changed_board w b) (good-follows s r)) ∙ (λ i. with_masks (changed_board w b) (e i))
    ∙ sym (ap (λ (x : Answer Outcome). changed_board w (left b x)) (answered k b r))

module _ {f : Moves} (o : OneToOne 9 f) where
  abbrev W : Change
  W = relabelling f

  -- ---- relabelled masks, digit by digit

  changed-relabelled : {m : List ℕ} → Nine m → Relabelled f m (changed_masks W m)
  changed-relabelled {m} k d l = record { held = λ c. go c (dec_lt c 81) }
    where
      go : (c : ℕ) → Dec (c < 81) → has (at m c) d ≡ has (at (changed_masks W m) c) (f.to d)
      go c (yes i) = sym (changed-has W m c (f.to d) i (o.to d l) ∙ ap (has (at m c)) (o.back d l))
      go c (no i) =
          ap (λ (x : ℕ). has x d) (nine-out k c (omega arith)) ∙ has-none d
          ∙ sym (ap (λ (x : ℕ). has x (f.to d)) (nine-out (changed-nine W m) c (omega arith)) ∙ has-none (f.to d))

  relabelled-changed : (m n : List ℕ) → Nine n → Relabelled f m n → n ≡ changed_masks W m
  relabelled-changed m n k r =
      nine-ext k (changed-nine W m)
      (λ c d h l. sym (changed-has W m c d h l ∙ (r (f.from d) (o.from d l)).held c ∙ ap (has (at n c)) (o.forth d l)))

  -- masks that stay are those that stay when relabelled
  same-changed : {m n : List ℕ} → Nine m → Nine n → changed (changed_masks W m) (changed_masks W n) ≡ changed m n
  same-changed {m} {n} k l =
      ap not (bool_iff (same_masks (changed_masks W m) (changed_masks W n)) (same_masks m n) (λ t. there (back (same-eq (changed_masks W m) (changed_masks W n) t)))
      (λ t. there (ap (changed_masks W) (same-eq m n t))))
    where
      there : {x y : List ℕ} → x ≡ y → same_masks x y ≡ true
      there {x} {y} e = ap (same_masks x) (sym e) ∙ same_refl x

      back : changed_masks W m ≡ changed_masks W n → m ≡ n
      back e = sym (changed-back (labels f o) k) ∙ ap (changed_masks (undone_change W)) e ∙ changed-back (labels f o) l

  -- ---- one call

  module _ (b : Board) (r : Good Admissible b) where
    abbrev G : List ℕ
    G = givens b

    abbrev H : List ℕ
    H = givens (changed_board W b)

    abbrev M : List ℕ
    M = b.masks

    abbrev N : List ℕ
    N = changed_masks W b.masks

    free : (c : ℕ) → is_open G c ≡ is_open H c
    free c = go (dec_lt c 81)
      where
        out : (zs es : List ℤ) → 81 ≤ c → given (givens_of (together zs es)) c ≡ 0
        out zs es h = get_or-eq_default (givens_of (together zs es)) 0 {n = c} (omega (arith, givens-length (together zs es)))

        go : Dec (c < 81) → is_open G c ≡ is_open H c
        go (yes h) = sym (open-follows (labels f o) b.clues b.entries c h)
        go (no h) =
            ap (λ (x : ℕ). eqb x 0) (out b.clues b.entries (omega arith)) ∙ sym (ap (λ (x : ℕ). eqb x 0) (out (changed_clues W b.clues) (changed_clues W b.entries) (omega arith)))

    start : Relabelled f M N
    start = changed-relabelled (good-nine r)

    relabelled : (k : Call) → follows_labels k ≡ true → Relabelled f (outcome k G M).masks (outcome k H N).masks
    unfolding outcome
    relabelled naked_pairs_call t = (naked-pairs-follow o G H free M N (record { small₁ = (good-nine r).small; small₂ = (changed-nine W M).small; digit = start })).digit
    relabelled box_line_call t = box-lines-follow G H free o M N start
    relabelled x_wing_call t = x-wings-follow G H free o M N start
    relabelled chain_call t = chains-follow G H free o M N start
    relabelled x_chain_call t = x-chains-follow G H free o M N start
    relabelled update_candidates t = absurd (true≢false (sym t))
    relabelled naked_singles_call t = absurd (true≢false (sym t))
    relabelled hidden_singles_call t = absurd (true≢false (sym t))
    relabelled advanced_call t = absurd (true≢false (sym t))
    relabelled (wide k) t = absurd (true≢false (sym t))
    relabelled settling_call t = absurd (true≢false (sym t))

    masks-follow : (k : Call) → follows_labels k ≡ true → (outcome k H N).masks ≡ changed_masks W (outcome k G M).masks
    masks-follow k t = relabelled-changed (outcome k G M).masks (outcome k H N).masks (left-nine k (good-follows (labels f o) r)) (relabelled k t)

    -- each of these calls says whether it removed anything
    flag_is : (k : Call) → follows_labels k ≡ true → (g m : List ℕ) → (outcome k g m).flag ≡ changed m (outcome k g m).masks
    unfolding outcome
    flag_is naked_pairs_call t g m = refl
    flag_is box_line_call t g m = refl
    flag_is x_wing_call t g m = refl
    flag_is chain_call t g m = refl
    flag_is x_chain_call t g m = refl
    flag_is update_candidates t g m = absurd (true≢false (sym t))
    flag_is naked_singles_call t g m = absurd (true≢false (sym t))
    flag_is hidden_singles_call t g m = absurd (true≢false (sym t))
    flag_is advanced_call t g m = absurd (true≢false (sym t))
    flag_is (wide k) t g m = absurd (true≢false (sym t))
    flag_is settling_call t g m = absurd (true≢false (sym t))

    flag-follows : (k : Call) → follows_labels k ≡ true → (outcome k H N).flag ≡ (outcome k G M).flag
    flag-follows k t = flag_is k t H N ∙ ap (changed N) (masks-follow k t) ∙ same-changed (good-nine r) (left-nine k r) ∙ sym (flag_is k t G M)

  -- ---- lists

  pub lists-follow : (ks : List Call) (b : Board) → all_follow ks ≡ true → Good Admissible b
      → (run ks (changed_board W b) ≡ changed_board W (run ks b)) × (flags ks (changed_board W b) ≡ flags ks b)
  unfolding run flags
  lists-follow [] b t r = (refl, refl)
  lists-follow (k ∷ ks) b t r =
      let more = lists-follow ks (left b (answer k b)) (both_right (follows_labels k) (all_follow ks) t) (call-admits k b r) in
      (ap (run ks) now ∙ more.0, λ i. said i ∷ (ap (flags ks) now ∙ more.1) i)
    where
      one : follows_labels k ≡ true
      one = both_left (follows_labels k) (all_follow ks) t

      now : left (changed_board W b) (answer k (changed_board W b)) ≡ changed_board W (left b (answer k b))
      now = call-follows (labels f o) k r (masks-follow b r k one)

      flag : Answer Outcome → Answer Bool
      flag = map (λ (x : Outcome). x.flag)

      said : flag (answer k (changed_board W b)) ≡ flag (answer k b)
      said = ap flag (answered k (changed_board W b) (good-follows (labels f o) r)) ∙ ap gives (flag-follows b r k one) ∙ sym (ap flag (answered k b r))
