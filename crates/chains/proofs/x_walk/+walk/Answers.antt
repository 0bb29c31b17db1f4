use mathlib.Core.Path.{◌≡◌, sym, ap, ◌∙◌}
use mathlib.Core.Bool.{Bool, not}
use mathlib.Core.List.{List, [], ◌∷◌, ◌++◌, reverse}
use Prim.Native.Nat.{ℕ, ◌-◌}
use native.Mathlib.Omega.{arith}
use lib.ListN.{length}
use Rattle.std.specs.Prelude.{Some}
use Rattle.std.proofs.lemmas.List.{length-reverse}
use Rattle.grid.proofs.Lists.{turn-done, turns-over}
use Rattle.steps.specs.Loops.{each, up_to}
use Rattle.chains.specs.code.XLinks.{some_cell, link_at, end_here, walk_ends, marked}
use Rattle.chains.proofs.Trails.{met, in_front, one_longer}
use Rattle.chains.proofs.XMarks.{visited, onward, deepest, gone-on, no-link, cell-of, no_cell}
use Rattle.chains.proofs.x_walk.+walk.Invariants.{marks}
use Rattle.chains.proofs.x_walk.+walk.Goals.{in-Some, in_default}
use Rattle.chains.proofs.x_walk.+walk.Goals as goal

-- a link that is gone on to marks what the walk marks one level deeper
walked : (linked sums : List ℕ) (weak : Bool) (path longer : List ℕ) (c i x : ℕ) (l new next : List Bool) → longer ≡ path ++ (c ∷ []) → Some x ≡ some_cell (link_at linked sums weak c i)
    → next ≡ new → new ≡ marked (walk_ends linked sums (6 - length longer) (not weak) (reverse longer) x) l → next ≡ marks linked sums c weak path i l
walked linked sums weak path longer c i x l new next e is p q =
    let n : 6 - length longer ≡ 5 - length path = omega (arith, one_longer c path longer e) in
    let w = cell-of is in
    p ∙ q ∙ ap (λ (n : ℕ). marked (walk_ends linked sums n (not weak) (reverse longer) x) l) n
    ∙ ap (λ (r : List ℕ). marked (walk_ends linked sums (5 - length path) (not weak) r x) l) (in_front c path longer e)
    ∙ gone-on linked sums (5 - length path) weak (reverse path) c i x w.0 w.1 l

pub returns-then-contains : goal.returns-then-contains
returns-then-contains t c =
    let a = c.args in
    visited a.links.now.linked a.links.now.sums (length a.path.now) a.weak (reverse a.path.now) a.cell c.requires.0 (length-reverse a.path.now) (met a.cell a.path.now ∙ sym c.contains.ensures ∙ c.if-contains.true) a.ends.now

pub returns-then-depth-eq5 : goal.returns-then-depth-eq5
returns-then-depth-eq5 t c =
    let a = c.args in
    c.mark.ensures
    ∙ ap (λ (k : ℕ). marked (end_here a.weak k a.cell) a.ends.now) c.len-depth.ensures.length
    ∙ deepest a.links.now.linked a.links.now.sums (length a.path.now) a.weak (reverse a.path.now) a.cell c.requires.0 (length-reverse a.path.now) (met a.cell a.path.now ∙ sym c.contains.ensures ∙ c.if-contains.false) (sym c.len-depth.ensures.length ∙ c.if-depth-eq5.true) a.ends.now

pub loop-i-preserved : goal.loop-i-preserved
loop-i-preserved t c =
    let a = c.args in
    let i = c.loop-i.i in
    let longer = c.followed_by-longer in
    turn-done (marks a.links.now.linked a.links.now.sums a.cell a.weak a.path.now) c.count-i-end.result i (omega arith)
    (elim c.match-link_at.branch [
      | in-Some w ↦
          walked a.links.now.linked a.links.now.sums a.weak a.path.now longer.result a.cell i w.in-Some.next c.loop-i.ends w.walk.new.ends c.match-link_at.ends longer.ensures (sym w.in-Some.is ∙ c.link_at.ensures) w.ends-is w.walk.ensures
      | in_default w ↦ w.ends-is ∙ no-link a.links.now.linked a.links.now.sums (5 - length a.path.now) a.weak (reverse a.path.now) a.cell i (no_cell (sym w.in_default.is ∙ c.link_at.ensures)) c.loop-i.ends
    ]) c.loop-i.invariant

pub returns : goal.returns
returns t c =
    let a = c.args in
    let f = marks a.links.now.linked a.links.now.sums a.cell a.weak a.path.now in
    let r = c.count-i-end.result in
    turns-over f r c.loop-i.i (omega arith) c.loop-i.invariant
    ∙ ap (each f (up_to r)) (c.mark.ensures ∙ ap (λ (k : ℕ). marked (end_here a.weak k a.cell) a.ends.now) c.len-depth.ensures.length)
    ∙ ap (λ (n : ℕ). each f (up_to n) (marked (end_here a.weak (length a.path.now) a.cell) a.ends.now)) c.count-i-end.ensures
    ∙ onward a.links.now.linked a.links.now.sums (length a.path.now) a.weak (reverse a.path.now) a.cell c.requires.0 (length-reverse a.path.now) (met a.cell a.path.now ∙ sym c.contains.ensures ∙ c.if-contains.false) a.ends.now
