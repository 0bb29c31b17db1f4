-- Clues and entries in other clothes: the givens, the fresh masks and the check of a board follow. Assumes nothing.
use mathlib.Core.Path.{◌≡◌, refl, sym, ap, ◌∙◌, subst}
use mathlib.Core.Logic.{◌≢◌, ◌↔◌}
use mathlib.Core.Bool.{Bool, true, false, cond, not, ◌||◌}
use mathlib.Core.List.{List}
use Prim.Native.Nat.{ℕ, suc, ◌-◌, ◌≤◌, ◌<◌}
use native.Mathlib.Decide.{dec_lt}
use native.Mathlib.Omega.{arith}
use borrow.Author.Tests.{eqb-true, eqb-false, ne_eqb, le-leb}
use lib.Dec.{eqb, leb}
use lib.IntN.{ℤ, pos}
use lib.ListN.{length, get_or}
use Rattle.candidates.proofs.Tests.{by-test, cond-true, cond-false, neither}
use Rattle.grid.specs.Cells.{sees}
use Rattle.grid.proofs.Cells.{at_cells, cells-size, map-cells}
use Rattle.steps.specs.Boards.{Board, at, digit_of, no_digit, givens_of, joint_of, together, given, is_open, fresh, Givens, Under, Admissible}
use Rattle.steps.specs.Calls.{bad_clue, bad_entry, Clues, Entries, Admitted, opened_with}
use Rattle.steps.specs.Published.{Candidate, FreshCandidate, FreshMasks}
use Rattle.steps.proofs.Check.{digit-small, given-clue, clues-givens, admitted, admits}
use Rattle.steps.proofs.Entries.{together_at}
use Rattle.steps.proofs.Fresh.{mask-small}
use Rattle.steps.proofs.FreshDigits.{fresh-clue, fresh-open, fresh-masks}
use Rattle.symmetries.specs.Changes.{Moves, OneToOne, Change, Symmetry, and_then, chained, relabelled_clue, relabelled_mask, changed_masks, changed_clues, changed_board}
use Rattle.symmetries.proofs.Changed.{Nine, nine-in, changed-at, changed-out, changed-has, changed-nine, changed-under}
use Rattle.symmetries.proofs.Incidence.{sees-to}
use Rattle.symmetries.proofs.Moves.{symmetry-undone}

-- ---- one cell

module _ {f : Moves} (o : OneToOne 9 f) where
  -- a given digit, 0 where there is none
  abbrev pub labelled : ℕ → ℕ
  labelled x = cond (eqb x 0) 0 (suc (f.to (x - 1)))

  label-lt : (x : ℕ) → x ≤ 9 → x ≢ 0 → f.to (x - 1) < 9
  label-lt x h n = o.to (x - 1) (omega (arith, n))

  label-open : (x : ℕ) → eqb (labelled x) 0 ≡ eqb x 0
  label-open x = by-test (λ (y : ℕ). eqb y 0 ≡ eqb x 0) (eqb x 0) 0 (suc (f.to (x - 1))) (λ t. sym t) (λ t. ne_eqb (suc (f.to (x - 1))) 0 (λ e. omega arith) ∙ sym t)

  label-digit : (z : ℤ) → digit_of (relabelled_clue f z) ≡ labelled (digit_of z)
  label-digit z = go (no_digit z) refl
    where
      go : (t : Bool) → no_digit z ≡ t → digit_of (relabelled_clue f z) ≡ labelled (digit_of z)
      go true t =
          ap digit_of (cond-true (no_digit z) z (pos (suc (f.to (digit_of z - 1)))) t) ∙ eqb-true (digit_of z) 0 t
          ∙ sym (cond-true (no_digit z) 0 (suc (f.to (digit_of z - 1))) t)
      go false t =
          ap digit_of (cond-false (no_digit z) z (pos (suc (f.to (digit_of z - 1)))) t)
          ∙ cond-true (leb (suc (f.to (digit_of z - 1))) 9) (suc (f.to (digit_of z - 1))) 0 (le-leb (suc (f.to (digit_of z - 1))) 9 (omega (arith, label-lt (digit_of z) (digit-small z) (eqb-false (digit_of z) 0 t))))
          ∙ sym (cond-false (no_digit z) 0 (suc (f.to (digit_of z - 1))) t)

  label-none : (z : ℤ) → no_digit (relabelled_clue f z) ≡ no_digit z
  label-none z = ap (λ (x : ℕ). eqb x 0) (label-digit z) ∙ label-open (digit_of z)

  label-joint : (a b : ℤ) → joint_of (relabelled_clue f a) (relabelled_clue f b) ≡ relabelled_clue f (joint_of a b)
  label-joint a b = go (no_digit a) refl
    where
      go : (t : Bool) → no_digit a ≡ t → joint_of (relabelled_clue f a) (relabelled_clue f b) ≡ relabelled_clue f (joint_of a b)
      go true t = cond-true (no_digit (relabelled_clue f a)) (relabelled_clue f b) (relabelled_clue f a) (label-none a ∙ t) ∙ sym (ap (relabelled_clue f) (cond-true (no_digit a) b a t))
      go false t = cond-false (no_digit (relabelled_clue f a)) (relabelled_clue f b) (relabelled_clue f a) (label-none a ∙ t) ∙ sym (ap (relabelled_clue f) (cond-false (no_digit a) b a t))

  label-good : (z : ℤ) → bad_clue z ≡ false → bad_clue (relabelled_clue f z) ≡ false
  label-good z h =
      by-test (λ (y : ℤ). bad_clue y ≡ false) (no_digit z) z (pos (suc (f.to (digit_of z - 1)))) (λ t. h)
      (λ t. ap not (le-leb (suc (f.to (digit_of z - 1))) 9 (omega (arith, label-lt (digit_of z) (digit-small z) (eqb-false (digit_of z) 0 t)))))

  label-entry : (k e : ℤ) → bad_entry k e ≡ false → bad_entry (relabelled_clue f k) (relabelled_clue f e) ≡ false
  label-entry k e h =
      let w = (neither (bad_clue e) (not (no_digit e || no_digit k))).0 h in
      (neither (bad_clue (relabelled_clue f e)) (not (no_digit (relabelled_clue f e) || no_digit (relabelled_clue f k)))).1
      (label-good e w.0, (λ i. not (label-none e i || label-none k i)) ∙ w.1)

  -- which digit a label was
  label_is : (x d : ℕ) → x ≤ 9 → d < 9 → (labelled x ≡ suc d) ↔ (x ≡ suc (f.from d))
  label_is x d hx hd = go (eqb x 0) refl
    where
      go : (t : Bool) → eqb x 0 ≡ t → (labelled x ≡ suc d) ↔ (x ≡ suc (f.from d))
      go true t = (
        λ e. absurd (zero-suc (labelled x) (cond-true (eqb x 0) 0 (suc (f.to (x - 1))) t) e),
        λ e. absurd (zero-suc x (eqb-true x 0 t) e),
      )
        where
          zero-suc : {k : ℕ} (n : ℕ) → n ≡ 0 → n ≡ suc k → ⊥
          zero-suc n p q = omega arith
      go false t = (
        λ e. one (sym (o.back (x - 1) (omega (arith, eqb-false x 0 t))) ∙ ap f.from (less (sym is ∙ e))) (eqb-false x 0 t),
        λ e. is ∙ ap (λ (y : ℕ). suc (f.to y)) (less' e) ∙ ap suc (o.forth d hd),
      )
        where
          is : labelled x ≡ suc (f.to (x - 1))
          is = cond-false (eqb x 0) 0 (suc (f.to (x - 1))) t

          less : {a b : ℕ} → suc a ≡ suc b → a ≡ b
          less q = omega arith

          less' : {a : ℕ} → x ≡ suc a → x - 1 ≡ a
          less' q = omega arith

          one : {a : ℕ} → x - 1 ≡ a → x ≢ 0 → x ≡ suc a
          one q n = omega (arith, n)

-- ---- clues and entries

module _ {w : Change} (s : Symmetry w) where
  clue-at : (zs : List ℤ) (c : ℕ) → c < 81 → get_or (changed_clues w zs) c (pos 0) ≡ relabelled_clue w.digits (get_or zs (w.cells.from c) (pos 0))
  unfolding changed_clues
  clue-at zs c h = at_cells (pos 0) (λ c. relabelled_clue w.digits (get_or zs (w.cells.from c) (pos 0))) c h

  clues-size : (zs : List ℤ) → length (changed_clues w zs) ≡ 81
  unfolding changed_clues
  clues-size zs = cells-size (λ c. relabelled_clue w.digits (get_or zs (w.cells.from c) (pos 0)))

  pub clues-follow : {clues : List ℤ} → Clues clues → Clues (changed_clues w clues)
  clues-follow {clues} k =
      record {
        size = clues-size clues;
        good = λ c h. ap bad_clue (clue-at clues c h) ∙ label-good s.digits (get_or clues (w.cells.from c) (pos 0)) (k.good (w.cells.from c) (s.cells.from c h));
      }

  pub entries-follow : {clues entries : List ℤ} → Entries clues entries → Entries (changed_clues w clues) (changed_clues w entries)
  entries-follow {clues} {entries} k =
      record {
        size = clues-size entries;
        good = λ c h. (λ i. bad_entry (clue-at clues c h i) (clue-at entries c h i))
            ∙ label-entry s.digits (get_or clues (w.cells.from c) (pos 0)) (get_or entries (w.cells.from c) (pos 0)) (k.good (w.cells.from c) (s.cells.from c h));
      }

  -- ---- givens

  module _ (clues entries : List ℤ) where
    abbrev G : List ℕ
    G = givens_of (together clues entries)

    abbrev H : List ℕ
    H = givens_of (together (changed_clues w clues) (changed_clues w entries))

    given-follows : (c : ℕ) → c < 81 → given H c ≡ labelled s.digits (given G (w.cells.from c))
    given-follows c h =
        let e = w.cells.from c in
        let l = s.cells.from c h in
        let a = get_or clues e (pos 0) in
        let b = get_or entries e (pos 0) in
        given-clue (together (changed_clues w clues) (changed_clues w entries)) c h
        ∙ ap digit_of (together_at (changed_clues w clues) (changed_clues w entries) c h ∙ (λ i. joint_of (clue-at clues c h i) (clue-at entries c h i)) ∙ label-joint s.digits a b)
        ∙ label-digit s.digits (joint_of a b) ∙ ap (labelled s.digits) (sym (given-clue (together clues entries) e l ∙ ap digit_of (together_at clues entries e l)))

    pub open-follows : (c : ℕ) → c < 81 → is_open H c ≡ is_open G (w.cells.from c)
    open-follows c h = ap (λ (x : ℕ). eqb x 0) (given-follows c h) ∙ label-open s.digits (given G (w.cells.from c))

    given_is : (c d : ℕ) → c < 81 → d < 9 → (given H c ≡ suc d) ↔ (given G (w.cells.from c) ≡ suc (w.digits.from d))
    given_is c d h k =
        let l = label_is s.digits (given G (w.cells.from c)) d ((clues-givens (together clues entries)).small (w.cells.from c)) k in
        (λ e. l.0 (sym (given-follows c h) ∙ e), λ e. given-follows c h ∙ l.1 e)

    -- ---- fresh masks

    ok : Givens G
    ok = clues-givens (together clues entries)

    fresh-there : (c d : ℕ) → c < 81 → FreshCandidate G (w.cells.from c) (w.digits.from d) → d < 9 → FreshCandidate H c d
    fresh-there c d h k l =
        record {
          digit = l;
          unseen = λ e he t q. k.unseen (w.cells.from e) (s.cells.from e he) (sees-to (symmetry-undone s) c e h he t) ((given_is e d he l).0 q);
        }

    fresh-back : (c d : ℕ) → c < 81 → FreshCandidate H c d → FreshCandidate G (w.cells.from c) (w.digits.from d)
    fresh-back c d h k =
        record {
          digit = s.digits.from d k.digit;
          unseen = λ e he t q.
              k.unseen (w.cells.to e) (s.cells.to e he)
              (subst (λ (x : ℕ). sees x (w.cells.to e) ≡ true) (s.cells.forth c h) (sees-to s (w.cells.from c) e (s.cells.from c h) he t))
              ((given_is (w.cells.to e) d (s.cells.to e he) k.digit).1 (ap (given G) (s.cells.back e he) ∙ q));
        }

    changed-fresh : FreshMasks H (changed_masks w (fresh G))
    changed-fresh =
        record {
          size = (changed-nine w (fresh G)).size;
          open_cells = λ c d h f.
              let z = fresh-open G ok (w.cells.from c) (w.digits.from d) (s.cells.from c h) (sym (open-follows c h) ∙ f) in
              (λ t. let i = inside c d t in fresh-there c d h (z.0 (sym (changed-has w (fresh G) c d h i) ∙ t)) i, λ t. changed-has w (fresh G) c d h t.digit ∙ z.1 (fresh-back c d h t));
          clue_cells = λ c d h f.
              let z = fresh-clue G ok (w.cells.from c) (w.digits.from d) (s.cells.from c h) (sym (open-follows c h) ∙ f) in
              (λ t. let i = inside c d t in (given_is c d h i).1 (z.0 (sym (changed-has w (fresh G) c d h i) ∙ t)), λ t. let i = digit_lt c d t in changed-has w (fresh G) c d h i ∙ z.1 ((given_is c d h i).0 t));
        }
      where
        inside : (c d : ℕ) → Candidate (changed_masks w (fresh G)) c d → d < 9
        inside c d t = (nine-in (changed-nine w (fresh G)) c d t).1

        digit_lt : (c d : ℕ) → given H c ≡ suc d → d < 9
        digit_lt c d e = omega (arith, (clues-givens (together (changed_clues w clues) (changed_clues w entries))).small c, e)

    pub fresh-follows : changed_masks w (fresh G) ≡ fresh H
    fresh-follows = (fresh-masks H (clues-givens (together (changed_clues w clues) (changed_clues w entries))) (changed_masks w (fresh G))).0 changed-fresh

    -- ---- masks that a call takes

    pub admissible-follows : {m : List ℕ} → Admissible G m → Admissible H (changed_masks w m)
    admissible-follows {m} a =
        record {
          size = (changed-nine w m).size;
          under = subst (λ (z : List ℕ). Under (changed_masks w m) z) fresh-follows (changed-under w a.under);
          clues = λ c f. same c f (dec_lt c 81) ∙ ap (λ (z : List ℕ). at z c) fresh-follows;
        }
      where
        same : (c : ℕ) → is_open H c ≡ false → Dec (c < 81) → at (changed_masks w m) c ≡ at (changed_masks w (fresh G)) c
        same c f (yes h) = changed-at w m c h ∙ ap (relabelled_mask w.digits) (a.clues (w.cells.from c) (sym (open-follows c h) ∙ f)) ∙ sym (changed-at w (fresh G) c h)
        same c f (no h) = changed-out w m c (omega arith) ∙ sym (changed-out w (fresh G) c (omega arith))

-- ---- boards

pub admissible-nine : {g m : List ℕ} → Givens g → Admissible g m → Nine m
admissible-nine {g} ok a = record { size = a.size; small = mask-small g ok a.under }

pub board-follows : {w : Change} → Symmetry w → (b : Board) → Admitted b → Admitted (changed_board w b)
board-follows {w} s b a =
    let k = admits b a in
    let clues = clues-follow s k.0 in
    let entries = entries-follow s k.1 in
    let masks = admissible-follows s b.clues b.entries k.2 in
    record { clues = clues.size; entries = entries.size; masks = masks.size; taken = admitted (changed_board w b) clues entries masks }

pub fresh-board : {w : Change} → Symmetry w → (clues entries : List ℤ) → changed_board w (opened_with clues entries) ≡ opened_with (changed_clues w clues) (changed_clues w entries)
unfolding opened_with
fresh-board {w} s clues entries = λ i. record { clues = changed_clues w clues; entries = changed_clues w entries; masks = fresh-follows s clues entries i }

-- ---- one change after another

label-then : {f : Moves} → OneToOne 9 f → (h : Moves) (z : ℤ) → relabelled_clue (and_then f h) z ≡ relabelled_clue h (relabelled_clue f z)
label-then {f} o h z = go (no_digit z) refl
  where
    d : ℕ
    d = digit_of z - 1

    less : {x a : ℕ} → x ≡ suc a → x - 1 ≡ a
    less e = omega arith

    go : (t : Bool) → no_digit z ≡ t → relabelled_clue (and_then f h) z ≡ relabelled_clue h (relabelled_clue f z)
    go true t =
        cond-true (no_digit z) z (pos (suc (h.to (f.to d)))) t
        ∙ sym (ap (relabelled_clue h) (cond-true (no_digit z) z (pos (suc (f.to d))) t) ∙ cond-true (no_digit z) z (pos (suc (h.to d))) t)
    go false t =
        cond-false (no_digit z) z (pos (suc (h.to (f.to d)))) t ∙ ap (λ (x : ℕ). pos (suc (h.to x))) (sym (less (label-digit o z ∙ cond-false (no_digit z) 0 (suc (f.to d)) t)))
        ∙ sym (cond-false (no_digit (relabelled_clue f z)) (relabelled_clue f z) (pos (suc (h.to (digit_of (relabelled_clue f z) - 1)))) (label-none o z ∙ t))

pub clues-then : (v w : Change) → Symmetry v → Symmetry w → (zs : List ℤ) → changed_clues (chained v w) zs ≡ changed_clues w (changed_clues v zs)
unfolding changed_clues
clues-then v w s t zs =
    map-cells (λ c. relabelled_clue (and_then v.digits w.digits) (get_or zs (v.cells.from (w.cells.from c)) (pos 0)))
    (λ c. relabelled_clue w.digits (get_or (changed_clues v zs) (w.cells.from c) (pos 0)))
    (λ c h. label-then s.digits w.digits (get_or zs (v.cells.from (w.cells.from c)) (pos 0)) ∙ ap (relabelled_clue w.digits) (sym (clue-at s zs (w.cells.from c) (t.cells.from c h))))
