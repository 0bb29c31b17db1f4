-- Singles: each test is the published single, the reports are those of the published pass in its order, and so each is a single. Assumes nothing.
use mathlib.Core.Path.{◌≡◌, refl, sym, ap, ◌∙◌, subst}
use mathlib.Core.Logic.{◌↔◌, ⊎_elim}
use mathlib.Core.Bool.{Bool, true, false, cond, ◌&&◌, true≢false}
use mathlib.Core.List.Memᴰ
use mathlib.Core.List.{List, [], ◌∷◌, ◌++◌, append-nil, Memᴰ}
use mathlib.Core.Option.{Option, none, some}
use Prim.Native.Nat.{ℕ, suc, ◌+◌, ◌<◌}
use native.Mathlib.Numerals.{add-one}
use native.Mathlib.Omega.{arith}
use borrow.Author.Tests.{eqb-true, eq-eqb, ne_eqb}
use lib.Dec.{eqb}
use lib.IntN.{ℤ, pos}
use Rattle.candidates.specs.Masks.{low_nine, count, lowest}
use Rattle.candidates.specs.Sets.{only_of}
use Rattle.candidates.proofs.FewDigits.{One, one-count, count-one}
use Rattle.candidates.proofs.Only.{Says, single-says}
use Rattle.candidates.proofs.Tests.{cond-true, cond-false, both, both_left, both_right}
use Rattle.grid.specs.Cells.{cells}
use Rattle.grid.specs.Units.{unit_cell}
use Rattle.grid.proofs.Lists.{each_same}
use Rattle.steps.specs.Boards.{at, is_open}
use Rattle.steps.specs.Loops.{each, for, up_to}
use Rattle.steps.specs.Ported.{spots}
use Rattle.steps.specs.Published.{NakedSingle, HiddenSingle, report_of, Turn, NakedSingleTurn, HiddenSingleTurn, NakedSinglePass, HiddenSinglePass}
use Rattle.steps.specs.Singles.{Report, report_if, report_only, naked_at, naked_singles, hidden_singles}
use Rattle.steps.proofs.Loops.{each-adds, in-up_to}
use Rattle.steps.proofs.PassTurns.{each-turns, turn_by, turns-keep, Any}
use Rattle.steps.proofs.Spots.{spots-small, one-hidden, hidden-one}

-- every report of the list is as Q says
abbrev AllAre : (Report → Type 0) → List Report → Type 0
AllAre Q rs = (r : Report) → Memᴰ r rs → Q r

-- ---- one report, where a test holds

reported : (t : Bool) (c d : ℕ) → t ≡ true → report_if t c d ≡ report_of c d ∷ []
reported t c d e = cond-true t (record { cell = c; digit = d + 1 } ∷ []) [] e ∙ ap (λ (n : ℕ). record { cell = c; digit = n } ∷ []) (add-one d)

-- a turn that reports where its test holds
module _ {pattern : ℕ → Type 0} {report : ℕ → Report} (t : Bool) (test : (t ≡ true) ↔ ((a : ℕ) × pattern a)) (rs ss : List Report) where
  report-turn : (c d : ℕ) → ((a : ℕ) → pattern a → report a ≡ report_of c d) → Turn pattern (λ a ss. ss ≡ rs ++ report a ∷ []) rs ss ↔ (ss ≡ rs ++ report_if t c d)
  report-turn c d same =
      turn_by (λ a x y p q. p ∙ sym q) t test
      (λ a p. ap (λ (r : List Report). rs ++ r) (reported t c d (test.1 (a, p)) ∙ ap (λ (r : Report). r ∷ []) (sym (same a p))))
      (λ e. ap (λ (r : List Report). rs ++ r) (cond-false t (record { cell = c; digit = d + 1 } ∷ []) [] e) ∙ append-nil rs) ss

  -- what is so of the patterns' reports is so of all
  report-keeps : (Q : Report → Type 0) → ((a : ℕ) → pattern a → Q (report a)) → Turn pattern (λ a ss. ss ≡ rs ++ report a ∷ []) rs ss → AllAre Q rs → AllAre Q ss
  report-keeps Q holds w all = go t refl
    where
      go : (b : Bool) → t ≡ b → AllAre Q ss
      go true e =
          let a = test.0 e in
          subst (AllAre Q) (sym (w.some a.0 a.1)) (λ r k. ⊎_elim (all r) (λ l. subst Q (sym (Memᴰ.eq_of_singleton l)) (holds a.0 a.1)) (Memᴰ.append_cases rs k))
      go false e = subst (AllAre Q) (sym (w.none (λ a p. true≢false (sym (test.1 (a, p)) ∙ e)))) all

-- ---- naked singles

module _ (g m : List ℕ) (small : (c : ℕ) → at m c < 512) where
  -- an open cell with one candidate
  abbrev naked_test : ℕ → Bool
  naked_test c = is_open g c && eqb (count (at m c)) 1

  one-naked : (c : ℕ) → naked_test c ≡ true → NakedSingle g m c (lowest (at m c))
  one-naked c t =
      let o = count-one (at m c) (omega (arith, small c)) (eqb-true (count (at m c)) 1 (both_right (is_open g c) (eqb (count (at m c)) 1) t)) in
      record { holder = record { free = both_left (is_open g c) (eqb (count (at m c)) 1) t; held = o.held }; alone = o.alone }

  naked-one : {c d : ℕ} → NakedSingle g m c d → naked_test c ≡ true
  naked-one {c} {d} s = both s.holder.free (eq-eqb (count (at m c)) 1 (one-count {d = d} (record { held = s.holder.held; alone = s.alone })))

  pub naked-single : (c : ℕ) → (naked_test c ≡ true) ↔ ((d : ℕ) × NakedSingle g m c d)
  naked-single c = (λ t. (lowest (at m c), one-naked c t), λ w. naked-one w.1)

  -- its digit is the lowest candidate
  pub naked-digit : {c d : ℕ} → NakedSingle g m c d → d ≡ lowest (at m c)
  naked-digit {c} {d} s = sym (s.alone (lowest (at m c)) (one-naked c (naked-one s)).holder.held)

  -- what `single_candidate` answers of an open cell, by count
  pub naked-at : (c : ℕ) → naked_at g m c ≡ report_if (naked_test c) c (lowest (at m c))
  naked-at c = go (is_open g c) (only_of (at m c)) (single-says (at m c) refl)
    where
      all-nine : low_nine (at m c) ≡ at m c
      all-nine = omega (arith, small c)

      told : (z : ℤ) (k : ℕ) → z ≡ pos (suc k) → One (at m c) k → report_only c (some z) ≡ report_if (eqb (count (at m c)) 1) c (lowest (at m c))
      told z k e o =
          let low = o.alone (lowest (at m c)) (count-one (at m c) (omega (arith, small c)) (one-count o)).held in
          rw (reported (eqb (count (at m c)) 1) c (lowest (at m c)) (eq-eqb (count (at m c)) 1 (one-count o)), low, e)

      go : (t : Bool) (o : Option ℤ) → Says (at m c) o → cond t (report_only c o) [] ≡ report_if (t && eqb (count (at m c)) 1) c (lowest (at m c))
      go true (some z) w = told z w.place w.digit (rw all-nine at w.one)
      go true none w =
          sym (cond-false (eqb (count (at m c)) 1) (record { cell = c; digit = lowest (at m c) + 1 } ∷ []) [] (ne_eqb (count (at m c)) 1 (rw all-nine at w)))
      go false o w = refl

  naked-turn : (c : ℕ) (rs ss : List Report) → NakedSingleTurn g m c rs ss ↔ (ss ≡ rs ++ naked_at g m c)
  naked-turn c rs ss = rw (naked-at c) (report-turn (naked_test c) (naked-single c) rs ss c (lowest (at m c)) (λ d s. ap (report_of c) (naked-digit s)))

  pub naked-singles : (rs : List Report) → NakedSinglePass g m rs ↔ (rs ≡ naked_singles g m)
  naked-singles rs =
      let pass = (each-turns Any cells (λ c k ss z. (naked-turn c ss, tt)) [] tt).0 rs in
      (λ w. pass.0 w ∙ all, λ e. pass.1 (e ∙ sym all))
    where
      all : each (λ c rs. rs ++ naked_at g m c) cells [] ≡ naked_singles g m
      all = unfold naked_singles in each-adds (naked_at g m) cells []

  -- so a report is a naked single
  pub naked-reports : {rs : List Report} → NakedSinglePass g m rs → (c d : ℕ) → Memᴰ (report_of c d) rs → (c < 81) × NakedSingle g m c d
  naked-reports {rs} w c d k =
      turns-keep (AllAre Single) cells (λ c k rs ss. report-keeps (naked_test c) (naked-single c) rs ss Single (λ d s. put c d (below c k) s)) [] rs w (λ r k. absurd (Memᴰ.not-nil k)) (report_of c d) k d refl
    where
      Single : Report → Type 0
      Single r = (d : ℕ) → r.digit ≡ suc d → (r.cell < 81) × NakedSingle g m r.cell d

      below : (c : ℕ) → Memᴰ c cells → c < 81
      below c k = unfold cells in in-up_to 81 c k

      put : (c a : ℕ) → c < 81 → NakedSingle g m c a → Single (report_of c a)
      put c a h s d e =
          let q : a ≡ d = omega arith in
          (h, rw q at s)

-- ---- hidden singles

module _ (g m : List ℕ) (u d : ℕ) (h : u < 27) where
  one_single : eqb (count (spots g m u d)) 1 ≡ true → HiddenSingle g m u d (unit_cell u (lowest (spots g m u d)))
  one_single t = one-hidden g m u d (lowest (spots g m u d)) (count-one (spots g m u d) (spots-small g m u d) (eqb-true (count (spots g m u d)) 1 t))

  single-one : {c : ℕ} → HiddenSingle g m u d c → eqb (count (spots g m u d)) 1 ≡ true
  single-one {c} s = eq-eqb (count (spots g m u d)) 1 (one-count (hidden-one g m u d h c s))

  pub hidden-single : (eqb (count (spots g m u d)) 1 ≡ true) ↔ ((c : ℕ) × HiddenSingle g m u d c)
  hidden-single = (λ t. (unit_cell u (lowest (spots g m u d)), one_single t), λ w. single-one w.1)

  -- its cell is at the lowest place
  pub hidden-cell : {c : ℕ} → HiddenSingle g m u d c → c ≡ unit_cell u (lowest (spots g m u d))
  hidden-cell {c} s =
      let o = one_single (single-one s) in
      sym (s.alone (unit_cell u (lowest (spots g m u d))) o.member o.holder)

module _ (g m : List ℕ) where
  abbrev hidden_at : ℕ → ℕ → List Report
  hidden_at u d = report_if (eqb (count (spots g m u d)) 1) (unit_cell u (lowest (spots g m u d))) d

  hidden-turn : (u d : ℕ) → u < 27 → (rs ss : List Report) → HiddenSingleTurn g m u d rs ss ↔ (ss ≡ rs ++ hidden_at u d)
  hidden-turn u d h rs ss = report-turn (eqb (count (spots g m u d)) 1) (hidden-single g m u d h) rs ss (unit_cell u (lowest (spots g m u d))) d (λ c s. ap (λ (c : ℕ). report_of c d) (hidden-cell g m u d h s))

  pub hidden-singles : (rs : List Report) → HiddenSinglePass g m rs ↔ (rs ≡ hidden_singles g m)
  hidden-singles rs =
      let pass = (each-turns Any (up_to 27) (λ u p. each-turns Any (up_to 9) (λ d q ss z. (hidden-turn u d (in-up_to 27 u p) ss, tt))) [] tt).0 rs in
      (λ w. pass.0 w ∙ all, λ e. pass.1 (e ∙ sym all))
    where
      all : each (λ u. each (λ d rs. rs ++ hidden_at u d) (up_to 9)) (up_to 27) [] ≡ hidden_singles g m
      all =
          unfold hidden_singles in
          each_same (λ u. each (λ d rs. rs ++ hidden_at u d) (up_to 9)) (λ u rs. rs ++ for (up_to 9) (hidden_at u)) (up_to 27) (λ u k. each-adds (hidden_at u) (up_to 9)) []
          ∙ each-adds (λ u. for (up_to 9) (hidden_at u)) (up_to 27) []

  -- so a report is a hidden single
  pub hidden-reports : {rs : List Report} → HiddenSinglePass g m rs → (c d : ℕ) → Memᴰ (report_of c d) rs → (u : ℕ) × (u < 27) × (d < 9) × HiddenSingle g m u d c
  hidden-reports {rs} w c d k =
      turns-keep (AllAre Single) (up_to 27) (λ u p. turns-keep (AllAre Single) (up_to 9)
      (λ d q rs ss. report-keeps (eqb (count (spots g m u d)) 1) (hidden-single g m u d (in-up_to 27 u p)) rs ss Single (λ c s. put u d c (in-up_to 27 u p) (in-up_to 9 d q) s)))
      [] rs w (λ r k. absurd (Memᴰ.not-nil k)) (report_of c d) k d refl
    where
      Single : Report → Type 0
      Single r = (d : ℕ) → r.digit ≡ suc d → (u : ℕ) × (u < 27) × (d < 9) × HiddenSingle g m u d r.cell

      put : (u k c : ℕ) → u < 27 → k < 9 → HiddenSingle g m u k c → Single (report_of c k)
      put u k c h l s d e =
          let q : k ≡ d = omega arith in
          (u, h, omega arith, rw q at s)
