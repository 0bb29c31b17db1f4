-- Each turn uses some of what is left of the piece, and no more than all of it.
use Rattle.std.proofs.Common.{rules, arith, ap, ℕ, List, length, ◌-◌, ◌<◌, ◌≤◌, ◌≡◌, drop, length-take, length-drop}
use Rattle.rounds.specs.declared.cuts.Fed.{Fed}
use Rattle.rounds.specs.declared.cuts.State.{State}
use Rattle.rounds.specs.code.Cuts.{fed}
use Rattle.rounds.proofs.Whole.{cuts-say}
use Rattle.round.proofs.feed_piece.Goals as goal

uses : (s : State) (rest : List ℕ) (f : Fed) → f ≡ fed s rest → 0 < length rest → (0 < f.used) × (f.used ≤ length rest)
uses s rest f e more =
    let is = ap (λ (f : Fed). f.used) e in
    let used = cuts-say.used s rest more in
    (omega (arith, is, used.0), omega (arith, is, used.1))

pub slice_bounds-rest-count : goal.slice_bounds-rest-count
slice_bounds-rest-count g c =
    let more : 0 < length c.loop-rest.rest.now = search rules in
    (uses c.loop-rest.now c.loop-rest.rest.now c.feed-fed.result c.feed-fed.ensures.0 more).1

pub slice_bounds-rest-start : goal.slice_bounds-rest-start
slice_bounds-rest-start g c =
    let more : 0 < length c.loop-rest.rest.now = search rules in
    let used = (uses c.loop-rest.now c.loop-rest.rest.now c.feed-fed.result c.feed-fed.ensures.0 more).1 in
    search rules

pub loop-rest-smaller : goal.loop-rest-smaller
loop-rest-smaller g c =
    let more : 0 < length c.loop-rest.rest.now = search rules in
    let used = uses c.loop-rest.now c.loop-rest.rest.now c.feed-fed.result c.feed-fed.ensures.0 more in
    omega (arith, used.0, used.1, length-take (length c.loop-rest.rest.now - c.feed-fed.result.used) (drop c.feed-fed.result.used c.loop-rest.rest.now), length-drop c.feed-fed.result.used c.loop-rest.rest.now)
