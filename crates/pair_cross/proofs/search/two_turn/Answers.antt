-- `pair_cross::search::two_turn` meets its contract. Assumes nothing.
use mathlib.Core.Path.{◌≡◌, sym, ap, ap₂, ◌∙◌}
use mathlib.Core.List.{List}
use Prim.Native.Nat.{ℕ, ◌<◌}
use native.Mathlib.Omega.{arith}
use lib.Bits.{bit_and, and_zero_r}
use lib.ListN.{set}
use Rattle.candidates.specs.Masks.{union}
use Rattle.steps.specs.Boards.{at, same_masks}
use Rattle.steps.specs.code.Logs.{log_after}
use Rattle.steps.proofs.StepLogs.{log-idle}
use Rattle.lanes.specs.code.Lanes.{nines}
use Rattle.pair_cross.specs.code.Twos.{line_masks, reach_of, lines_turned, lines_taken, lines_instances}
use Rattle.pair_cross.specs.declared.twos.Frame.{Frame}
use Rattle.pair_cross.specs.code.Search.{open_held, lines_left, Seen}
use Rattle.pair_cross.proofs.FrameInstances.{lines-each}
use Rattle.pair_cross.proofs.LinesLeft.{open-seen, turned-seen, held-seen, left-seen, lost-seen}
use Rattle.pair_cross.proofs.search.two_turn.Goals as goal

-- nothing is lost
still : (g m : List ℕ) (log : List ℕ) (F : Frame) (q n : List ℕ) (h i j : ℕ) → Seen g m F q n h → i < j → j < 9
    → bit_and (open_held n (set (set q i 0) j 0)) (reach_of (union (at n i) (at n j))) ≡ 0
    → (lines_taken g F i j m ≡ m) × (log_after g (lines_instances F i j) m log ≡ log)
still g m log F q n h i j w hi hj e =
    let idle = open-seen w i j hi hj e in
    (idle, log-idle g (lines_instances F i j) m log (lines-each g F w.framed i j m ∙ idle))

pub returns-then-lost-eq0 : goal.returns-then-lost-eq0
returns-then-lost-eq0 c =
    let lost-is : c.reach-lost.result ≡ reach_of (union (at c.args.held.now c.args.i) (at c.args.held.now c.args.j)) = (
    c.reach-lost.ensures ∙ ap reach_of c.join-two.ensures
    ) in
    let a = c.args in
    let others = open_held a.held.now (set (set a.doors.now a.i 0) a.j 0) in
    let s = still a.givens.now a.masks.now a.log.now a.frame a.doors.now a.held.now a.heat a.i a.j c.requires.0 c.requires.1 c.requires.2 (ap (bit_and others) (sym (lost-is) ∙ c.if-lost-eq0.true) ∙ and_zero_r others) in record {
      masks_after = sym s.0;
      seen = c.requires.0;
      log_after = sym s.1;
    }

pub returns-then-meet-eq0 : goal.returns-then-meet-eq0
returns-then-meet-eq0 c =
    let lost-is : c.reach-lost.result ≡ reach_of (union (at c.args.held.now c.args.i) (at c.args.held.now c.args.j)) = (
    c.reach-lost.ensures ∙ ap reach_of c.join-two.ensures
    ) in
    let open_is : let a = c.args in
    c.meet.result ≡ bit_and (open_held a.held.now (set (set a.doors.now a.i 0) a.j 0)) (reach_of (union (at a.held.now a.i) (at a.held.now a.j))) = (
    let a = c.args in
    c.meet.ensures ∙ ap₂ bit_and (c.open_held.ensures ∙ ap (open_held a.held.now) c.other_doors-rest.ensures) (lost-is)
    ) in
    let a = c.args in
    let s = still a.givens.now a.masks.now a.log.now a.frame a.doors.now a.held.now a.heat a.i a.j c.requires.0 c.requires.1 c.requires.2 (sym (open_is) ∙ c.if-meet-eq0.true) in record {
      masks_after = sym s.0;
      seen = c.requires.0;
      log_after = sym s.1;
    }

pub two_lines-requires : goal.two_lines-requires
two_lines-requires c =
    let lost-is : c.reach-lost.result ≡ reach_of (union (at c.args.held.now c.args.i) (at c.args.held.now c.args.j)) = (
    c.reach-lost.ensures ∙ ap reach_of c.join-two.ensures
    ) in
    let open_is : let a = c.args in
    c.meet.result ≡ bit_and (open_held a.held.now (set (set a.doors.now a.i 0) a.j 0)) (reach_of (union (at a.held.now a.i) (at a.held.now a.j))) = (
    let a = c.args in
    c.meet.ensures ∙ ap₂ bit_and (c.open_held.ensures ∙ ap (open_held a.held.now) c.other_doors-rest.ensures) (lost-is)
    ) in
    let a = c.args in
    let w = c.requires.0 in (
      w.framed,
      omega arith,
      omega arith,
      c.join-two.ensures ∙ held-seen w a.i a.j c.requires.1 c.requires.2,
      ap (λ (x : ℕ). same_masks a.masks.now (lines_turned a.givens.now a.frame a.i a.j x a.masks.now)) c.join-two.ensures
          ∙ lost-seen w a.i a.j c.requires.1 c.requires.2 (λ e. c.if-meet-eq0.false (open_is ∙ e)),
    )

pub returns : goal.returns
returns c =
    let lost-is : c.reach-lost.result ≡ reach_of (union (at c.args.held.now c.args.i) (at c.args.held.now c.args.j)) = (
    c.reach-lost.ensures ∙ ap reach_of c.join-two.ensures
    ) in
    let a = c.args in
    let g = a.givens.now in
    let F = a.frame in
    let w = c.requires.0 in
    let turned = c.two_lines.ensures.masks_after ∙ ap (λ (x : ℕ). lines_turned g F a.i a.j x a.masks.now) c.join-two.ensures in record {
      masks_after = turned ∙ turned-seen w a.i a.j c.requires.1 c.requires.2;
      seen = record {
        framed = w.framed;
        doors = w.doors;
        held =
            c.lines_left-left.ensures
            ∙ ap₂ (lines_left a.held.now) c.other_doors-rest.ensures (lost-is)
            ∙ left-seen w a.i a.j c.requires.1 c.requires.2 ∙ ap (λ (m : List ℕ). nines (line_masks m F)) (sym turned);
        heat = c.heat_of.ensures;
      };
      log_after = c.two_lines.ensures.log_after;
    }
