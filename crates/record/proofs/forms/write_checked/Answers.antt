use mathlib.Core.Path.{ap, ◌∙◌}
use mathlib.Core.List.{List}
use Prim.Native.Nat.{ℕ}
use lib.ListN.{length, take, replicate, length-replicate}
use Rattle.stops.specs.Answer.{Answer}
use Rattle.board.specs.Boards.{board_of}
use Rattle.text.specs.Texts.{written}
use Rattle.record.specs.Records.{bytes_in, write_in}
use Rattle.record.proofs.Rooms.{record-leads}
use native.Mathlib.Omega.{arith}
use Rattle.record.proofs.forms.write_checked.Goals as goal

pub returns : goal.returns
returns c =
    let a = c.args in
    let b = board_of a.board.now in
    let n = c.put_record-count.ensures.1 in
    let e = ap (λ (m : ℕ). write_in m (length a.out.now)) n in
    let r = record-leads a.form b (replicate {A = ℕ} 1786 0) (omega (arith, length-replicate {A = ℕ} 1786 0)) n c.put_record-count.ensures.0 in (
      c.copy_out.ensures.0 ∙ e,
      c.copy_out.ensures.1 ∙ ap (λ (w : Answer ℕ). written w (take c.put_record-count.result c.put_record-count.new.bytes) a.out.now) e
          ∙ ap (λ (x : List ℕ). written (write_in (length (bytes_in a.form b)) (length a.out.now)) x a.out.now) r,
    )
