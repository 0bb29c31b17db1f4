use mathlib.Core.Path.{◌≡◌, refl, sym, ap, ◌∙◌}
use mathlib.Core.List.{[], ◌∷◌, ◌++◌}
use mathlib.Core.Option.{none}
use Prim.Native.Nat.{ℕ, ◌-◌, ◌<◌, ◌^◌}
use native.Mathlib.Omega.{arith}
use lib.IntN.{ℤ, pos}
use lib.ListN.{length, get_or, take, length-append}
use mir.Facts.{to_z-of_z}
use mir.Syntax.{w32}
use Rattle.stops.specs.Answer.{gives, stop}
use Rattle.stops.specs.declared.Stop.TheVariants.{OtherByte, SheetCells}
use Rattle.stops.proofs.Numbers.{small}
use Rattle.grid.specs.Cells.{cells}
use Rattle.grid.specs.Lists.{range}
use Rattle.steps.specs.Loops.{first}
use Rattle.steps.proofs.Searches.{found, passed, ended}
use Rattle.text.specs.Sheets.{is_stranger, first_stranger, unruled}
use Rattle.text.specs.Texts.{clues_of}
use Rattle.text.proofs.Gathering.{ruling-met, cell-met, met-few, all-met, clue-stored, clue-dropped}
use Rattle.text.proofs.SheetAnswers.{cells_told, miscounted, counted, no-stranger, stranger-is}
use Rattle.text.proofs.sheets.read_cells.Goals.{else-not-is_passed_over, then-not-is_passed_over+else-is_other, then-count-lt81, else-count-lt81}
use Rattle.text.proofs.sheets.read_cells.Goals as goal

pub loop-index-init : goal.loop-index-init
unfolding cells
loop-index-init c =
    let s = c.args.sheet.now in
    let e : length s - 0 ≡ length s = omega arith in
    (refl, refl, omega arith, ap (λ (n : ℕ). first (λ i. is_stranger (get_or s i 0)) (range n 0)) e)

pub returns-then-is_other : goal.returns-then-is_other
returns-then-is_other c =
    let s = c.args.sheet.now in
    let i = c.loop-index.index in
    let at = c.is_other.ensures ∙ stranger-is (get_or s i 0) (sym c.is_passed_over.ensures ∙ c.if-not-is_passed_over.true) in
    ap (λ (z : ℤ). stop (OtherByte z)) (small (omega arith))
    ∙ cells_told s (found _ (length s) i c.loop-index.invariant.3 c.loop-index-test.true at c.if-is_other.true)

pub overflow_add-count : goal.overflow_add-count
overflow_add-count c =
    omega (arith, c.loop-index.invariant.1, c.loop-index.invariant.2, met-few c.args.sheet.now c.loop-index.index c.loop-index.invariant.2)

pub loop-index-preserved : goal.loop-index-preserved
loop-index-preserved c =
    let s = c.args.sheet.now in
    let i = c.loop-index.index in
    let h = c.loop-index-test.true in
    let at = c.is_passed_over.ensures in
    let xs = unruled (take i s) in
    let b = get_or s i 0 in
    elim c.if-not-is_passed_over.branch [
      | then-not-is_passed_over+else-is_other w ↦
          let t = w.if-not-is_passed_over.true in
          let m = cell-met s i h at t in
          let cell : w.if-count-lt81.clues ≡ clues_of (xs ++ (b ∷ [])) =
          elim w.if-count-lt81.branch [
            | then-count-lt81 v ↦ v.clues-is ∙ clue-stored xs b c.loop-index.invariant.0 c.loop-index.invariant.1 (to_z-of_z {w = w32} (record { sfits = v.byte_clue.type_inv }) ∙ v.byte_clue.ensures) v.if-count-lt81.true
            | else-count-lt81 v ↦ v.clues-is ∙ c.loop-index.invariant.0 ∙ clue-dropped xs b (omega (arith, v.if-count-lt81.false, c.loop-index.invariant.1))
          ] in (
            w.clues-is ∙ cell ∙ sym (ap clues_of m),
            omega (arith, w.count-is, c.loop-index.invariant.1, ap length m, length-append xs (b ∷ [])),
            omega arith,
            passed _ (length s) i c.loop-index.invariant.3 h (w.is_other.ensures ∙ stranger-is b (sym at ∙ t)) w.if-is_other.false,
          )
      | else-not-is_passed_over w ↦
          let t = w.if-not-is_passed_over.false in
          let m = ruling-met s i h at t in (
            w.clues-is ∙ c.loop-index.invariant.0 ∙ sym (ap clues_of m),
            w.count-is ∙ c.loop-index.invariant.1 ∙ sym (ap length m),
            omega arith,
            passed _ (length s) i c.loop-index.invariant.3 h (no-stranger b (sym at ∙ t)) refl,
          )
    ]

pub overflow_cast-result-then-count-ne81 : goal.overflow_cast-result-then-count-ne81
overflow_cast-result-then-count-ne81 c =
    let few : c.loop-index.count < 2 ^ 63 = (
    omega (arith, c.loop-index.invariant.1, c.loop-index.invariant.2, met-few c.args.sheet.now c.loop-index.index c.loop-index.invariant.2)
    ) in
    record { sfits = few }

pub returns-then-count-ne81 : goal.returns-then-count-ne81
returns-then-count-ne81 c =
    let met : c.loop-index.count ≡ length (unruled c.args.sheet.now) = (
    c.loop-index.invariant.1 ∙ ap length (all-met c.args.sheet.now c.loop-index.index c.loop-index-test.false)
    ) in
    let unstrange : none ≡ first_stranger c.args.sheet.now = (
    ended _ (length c.args.sheet.now) c.loop-index.index c.loop-index.invariant.3 c.loop-index-test.false
    ) in
    let few : c.loop-index.count < 2 ^ 63 = (
    omega (arith, c.loop-index.invariant.1, c.loop-index.invariant.2, met-few c.args.sheet.now c.loop-index.index c.loop-index.invariant.2)
    ) in
    let s = c.args.sheet.now in
    ap (λ (z : ℤ). stop (SheetCells z)) (small (few)) ∙ ap (λ (n : ℕ). stop (SheetCells (pos n))) (met)
    ∙ miscounted (unruled s) (λ q. c.if-count-ne81.true (met ∙ q)) ∙ cells_told s (unstrange)

pub returns : goal.returns
returns c =
    let met : c.loop-index.count ≡ length (unruled c.args.sheet.now) = (
    c.loop-index.invariant.1 ∙ ap length (all-met c.args.sheet.now c.loop-index.index c.loop-index-test.false)
    ) in
    let unstrange : none ≡ first_stranger c.args.sheet.now = (
    ended _ (length c.args.sheet.now) c.loop-index.index c.loop-index.invariant.3 c.loop-index-test.false
    ) in
    let s = c.args.sheet.now in
    ap gives (c.loop-index.invariant.0 ∙ ap clues_of (all-met s c.loop-index.index c.loop-index-test.false))
    ∙ counted (unruled s) (sym (met) ∙ c.if-count-ne81.false) ∙ cells_told s (unstrange)
