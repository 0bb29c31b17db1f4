use mathlib.Core.Path.{◌≡◌, refl, sym, ap, ◌∙◌}
use mathlib.Core.Logic.{◌≢◌}
use mathlib.Core.Bool.{Bool, true, false, cond, not, ◌&&◌, and-true, and-false, true≢false}
use mathlib.Core.List.{List}
use Prim.Native.Nat.{ℕ, ◌+◌, ◌-◌, ◌≤◌, ◌<◌}
use native.Mathlib.Omega.{arith}
use borrow.Author.Tests.{eq-eqb, ne_eqb}
use lib.Dec.{eqb}
use lib.IntN.{ℤ, pos}
use lib.ListN.{set, replicate}
use mir.Syntax.{w32}
use mir.Val.{to_z, of_z}
use Rattle.candidates.specs.Masks.{low_nine, count}
use Rattle.candidates.specs.Sets.{only_answer, only_of, single_candidate_of, digit_or0}
use Rattle.candidates.specs.declared.SingleCandidate.{SingleCandidate}
use Rattle.candidates.specs.declared.SingleCandidate.TheVariants as only
use Rattle.candidates.proofs.FewDigits.{one-count}
use Rattle.candidates.proofs.Only.{Only, single-tells, digit-read}
use Rattle.grid.specs.Cells.{cells}
use Rattle.grid.specs.Fillings.{verified}
use Rattle.grid.specs.Lists.{range, all}
use Rattle.grid.proofs.Fills.{filled, fill_start, fill_on, fill_end}
use Rattle.grid.proofs.Lists.{all-on, all-stop, all_end}
use Rattle.steps.specs.Boards.{at}
use Rattle.board.specs.Boards.{all_single, none_empty, only_digits, verdict_of}
use Rattle.board.specs.declared.Verdict.TheVariants.{Dead, Finished}
use Rattle.board.proofs.Answered.{is-dead, is_open_lem, is-full}
use Rattle.board.proofs.verdicts.verdict_of.Invariants.{Left}
use Rattle.board.proofs.verdicts.verdict_of.Goals as goal
use Rattle.board.proofs.verdicts.verdict_of.Goals.{in-Several, in-Digit}

module _ {m : List ℕ} {digits : List ℤ} {finished : Bool} {i : ℕ} (l : Left m digits finished i) where
  -- ---- the cell i

  dead : i < 81 → count (low_nine (at m i)) ≡ 0 → Dead ≡ verdict_of m
  dead h e =
      is-dead m (sym l.some ∙ all-stop (λ c. not (eqb (count (low_nine (at m c))) 0)) 81 i h (ap not (eq-eqb (count (low_nine (at m i))) 0 e)))

  some-on : i < 81 → count (low_nine (at m i)) ≢ 0 → all (λ c. not (eqb (count (low_nine (at m c))) 0)) (range (81 - (i + 1)) (i + 1)) ≡ none_empty m
  some-on h n = sym (all-on (λ c. not (eqb (count (low_nine (at m c))) 0)) 81 i h (ap not (ne_eqb (count (low_nine (at m i))) 0 n))) ∙ l.some

  digit : i < 81 → {z : ℤ} → only.Digit z ≡ single_candidate_of (at m i) → {ds : List ℤ} → ds ≡ set digits i (to_z w32 (of_z w32 z)) → {f : Bool} → f ≡ finished → Left m ds f (i + 1)
  digit h {z} s {ds} q {f} p =
      let o : Only (at m i) z = single-tells (at m i) s in
      let e = one-count o.one in
      let next = all (λ c. eqb (count (low_nine (at m c))) 1) (range (81 - (i + 1)) (i + 1)) in
      record {
        some = some-on h (λ z. omega arith);
        one = ap (λ (b : Bool). b && next) p ∙ ap (λ (b : Bool). finished && b) (sym (all-on (λ c. eqb (count (low_nine (at m c))) 1) 81 i h (eq-eqb (count (low_nine (at m i))) 1 e))) ∙ l.one;
        full = λ t. ap (filled (λ c. digit_or0 (only_of (at m c))) 81 (i + 1)) (q ∙ ap (set digits i) (digit-read o)) ∙ fill_on (λ c. digit_or0 (only_of (at m c))) 81 i digits (l.full (sym p ∙ t)) h (ap (λ (r : SingleCandidate). digit_or0 (only_answer r)) s);
      }

  several : i < 81 → 2 ≤ count (low_nine (at m i)) → {ds : List ℤ} {f : Bool} → f ≡ false → Left m ds f (i + 1)
  several h e {ds} {f} p =
      let next = all (λ c. eqb (count (low_nine (at m c))) 1) (range (81 - (i + 1)) (i + 1)) in
      let here = all-stop (λ c. eqb (count (low_nine (at m c))) 1) 81 i h (ne_eqb (count (low_nine (at m i))) 1 (λ z. omega arith)) in
      record {
        some = some-on h (λ z. omega arith);
        one = ap (λ (b : Bool). b && next) p ∙ sym (and-false finished) ∙ ap (λ (b : Bool). finished && b) (sym here) ∙ l.one;
        full = λ t. absurd (true≢false (sym t ∙ p));
      }

  -- ---- no cell is left

  over : 81 ≤ i → (none_empty m ≡ true) × (all_single m ≡ finished)
  over h = (
    sym l.some ∙ all_end (λ c. not (eqb (count (low_nine (at m c))) 0)) 81 i h,
    sym l.one ∙ ap (λ (b : Bool). finished && b) (all_end (λ c. eqb (count (low_nine (at m c))) 1) 81 i h) ∙ and-true finished,
  )

  verifies : 81 ≤ i → finished ≡ true → {t : Bool} → t ≡ verified digits → cond t Finished Dead ≡ verdict_of m
  verifies h f {t} e =
      let w = over h in
      let is = fill_end (λ c. digit_or0 (only_of (at m c))) 81 i digits (l.full f) h in
      ap (λ (b : Bool). cond b Finished Dead) (e ∙ ap verified is) ∙ sym (is-full m w.0 (w.1 ∙ f))

pub loop-cell-init : goal.loop-cell-init
unfolding cells only_digits
loop-cell-init c = record { some = refl; one = refl; full = λ t. fill_start _ 81 (replicate 81 (pos 0)) refl }

pub returns-in-Empty : goal.returns-in-Empty
returns-in-Empty c =
    dead c.loop-cell.invariant (omega arith) (single-tells _ (sym c.in-Empty.is ∙ c.single_candidate.ensures))

pub loop-cell-preserved : goal.loop-cell-preserved
loop-cell-preserved c =
    let l = c.loop-cell.invariant in
    elim c.match-single_candidate.branch [
      | in-Several w ↦ rw w.digits-is (several l (omega arith) (single-tells _ (sym w.in-Several.is ∙ c.single_candidate.ensures)) w.finished-is)
      | in-Digit w ↦ digit l (omega arith) (sym w.in-Digit.is ∙ c.single_candidate.ensures) w.digits-is w.finished-is
    ]

pub returns-then-not-finished : goal.returns-then-not-finished
returns-then-not-finished c =
    let w = over c.loop-cell.invariant c.loop-cell-test.false in
    is_open_lem _ w.0 (w.1 ∙ c.if-not-finished.true)

pub returns-then-verify_solution : goal.returns-then-verify_solution
returns-then-verify_solution c =
    ap (λ (t : Bool). cond t Finished Dead) (sym c.if-verify_solution.true) ∙ verifies c.loop-cell.invariant c.loop-cell-test.false c.if-not-finished.false c.verify_solution.ensures

pub returns : goal.returns
returns c =
    ap (λ (t : Bool). cond t Finished Dead) (sym c.if-verify_solution.false) ∙ verifies c.loop-cell.invariant c.loop-cell-test.false c.if-not-finished.false c.verify_solution.ensures
