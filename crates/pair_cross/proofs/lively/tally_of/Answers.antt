use mathlib.Core.Path.{◌≡◌, refl, ap, ◌∙◌}
use Prim.Native.Nat.{ℕ}
use native.Mathlib.Omega.{arith}
use Rattle.candidates.specs.Masks.{union}
use Rattle.grid.proofs.Lists.{turn-done, turns-over}
use Rattle.pair_cross.specs.code.Lively.{tally_of}
use Rattle.pair_cross.specs.declared.lively.Tally.{Tally}
use Rattle.pair_cross.proofs.lively.tally_of.Invariants.{turn}
use Rattle.pair_cross.proofs.lively.tally_of.Goals as goal

tally-is : {a b c d e f : ℕ} → a ≡ d → b ≡ e → c ≡ f → ◌≡◌ {A = Tally} (record { once = a; twice = b; thrice = c }) (record { once = d; twice = e; thrice = f })
tally-is p q r = rw (p, q, r)

pub loop-held-init : goal.loop-held-init
unfolding tally_of
loop-held-init c = refl

pub loop-held-preserved : goal.loop-held-preserved
loop-held-preserved c =
    let l = c.loop-held in
    let a = c.args in
    turn-done (turn a.nine.now) 9 l.held-index (omega arith)
    (tally-is c.join-once.ensures
    (c.join-twice.ensures ∙ ap (union l.twice) c.meet-in-loop-held.ensures)
    (c.join-thrice.ensures ∙ ap (union l.thrice) c.meet.ensures))
    l.invariant

pub returns : goal.returns
returns c =
    let a = c.args in
    turns-over (turn a.nine.now) 9 c.loop-held.held-index c.loop-held-test.false c.loop-held.invariant
