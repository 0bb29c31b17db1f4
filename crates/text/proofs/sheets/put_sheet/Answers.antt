use mathlib.Core.Path.{◌≡◌, refl, sym, ap, ◌∙◌}
use mathlib.Core.List.{List, ◌++◌, map}
use Prim.Native.Nat.{ℕ, ◌+◌, ◌*◌, ◌/◌, ◌%◌}
use borrow.Author.Tests.{eq-eqb, ne_eqb}
use lib.Dec.{eqb}
use lib.IntN.{ℤ, pos}
use lib.ListN.{length, get_or, set, drop, length-set}
use mir.Facts.{to_z-of_z}
use mir.Syntax.{w32}
use Rattle.candidates.proofs.Tests.{cond-true, cond-false}
use Rattle.grid.specs.Lists.{range}
use Rattle.grid.proofs.Fills.{filled, fill-front, fill_on, fill_end}
use Rattle.steps.specs.Loops.{for}
use Rattle.text.specs.Texts.{clue_byte}
use Rattle.text.specs.Sheets.{canonical_sheet}
use Rattle.text.proofs.sheets.put_sheet.Goals.{else-col-eq9, then-col-eq9}
use Rattle.text.proofs.sheets.put_sheet.Invariants.{byte_at}
use Rattle.text.proofs.sheets.put_sheet.Goals as goal

by-offset : (z : List ℤ) → map (byte_at z) (range 90 0) ≡ canonical_sheet z
unfolding canonical_sheet for
by-offset z = refl

pub loop-index-init : goal.loop-index-init
loop-index-init c =
    let a = c.args in
    (refl, fill-front (byte_at a.grid.now) 90 a.out.now c.requires ∙ ap (λ (bs : List ℕ). bs ++ drop 90 a.out.now) (by-offset a.grid.now))

pub loop-index-preserved : goal.loop-index-preserved
loop-index-preserved c =
    let z = c.args.grid.now in
    let i = c.loop-index.index in
    let on : (x : ℕ) → c.if-col-eq9.out ≡ set c.loop-index.out i x → x ≡ byte_at z i → (length c.if-col-eq9.out ≡ length c.args.out.now) × (filled (byte_at z) 90 (i + 1) c.if-col-eq9.out ≡ canonical_sheet z ++ drop 90 c.args.out.now) =
    λ x put is. (
      ap length put ∙ length-set c.loop-index.out i x ∙ c.loop-index.invariant.0,
      ap (filled (byte_at z) 90 (i + 1)) put ∙ fill_on (byte_at z) 90 i c.loop-index.out c.loop-index.invariant.1 c.loop-index-test.true is,
    ) in
    elim c.if-col-eq9.branch [
      | then-col-eq9 w ↦ on 10 w.out-is (sym (cond-true (eqb (i % 10) 9) 10 _ (eq-eqb (i % 10) 9 w.if-col-eq9.true)))
      | else-col-eq9 w ↦
          on w.clue_byte.result w.out-is
          (w.clue_byte.ensures ∙ ap clue_byte (to_z-of_z {w = w32} {z = get_or z (9 * (i / 10) + i % 10) (pos 0)} (record { sfits = w.clue_byte-arg-1.given }))
          ∙ sym (cond-false (eqb (i % 10) 9) 10 _ (ne_eqb (i % 10) 9 w.if-col-eq9.false)))
    ]

pub returns : goal.returns
returns c =
    fill_end (byte_at c.args.grid.now) 90 c.loop-index.index c.loop-index.out c.loop-index.invariant.1 c.loop-index-test.false
