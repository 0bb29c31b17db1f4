use mathlib.Core.Path.{sym, ap, ◌∙◌}
use mathlib.Core.List.{List}
use Prim.Native.Nat.{ℕ, ◌+◌, ◌-◌}
use Rattle.stops.specs.Answer.{map}
use Rattle.stops.proofs.Answers.{passed-on}
use Rattle.record.specs.Sections.{after, with_sets, read_entries}
use Rattle.record.proofs.Entries.{named-entry, named_small}
use Rattle.record.proofs.SectionsRead.{read-on, read-end}
use native.Mathlib.Omega.{arith}
use Rattle.record.proofs.sections.read_entries.Goals as goal

pub returns-in_err-candidate : goal.returns-in_err-candidate
returns-in_err-candidate c =
    let a = c.args in
    let l = c.loop in
    ap (map (with_sets l.sets)) (passed-on _ c.from_residual.ensures.1)
    ∙ read-on a.section a.free.now a.bytes.now (a.count - l.counter) l.low l.at l.sets (a.count - (l.counter + 1)) (omega arith) c.in_err-candidate.ensures
    ∙ l.invariant

pub add-requires : goal.add-requires
add-requires c = named_small _ _ _ _ _ (named-entry _ _ _ _ _ c.in_ok-candidate.candidate (sym c.in_ok-candidate.ensures))

pub next_low-low-requires : goal.next_low-low-requires
next_low-low-requires c = named_small _ _ _ _ _ (named-entry _ _ _ _ _ c.in_ok-candidate.candidate (sym c.in_ok-candidate.ensures))

pub overflow_add-at : goal.overflow_add-at
overflow_add-at c = omega (arith, (named-entry _ _ _ _ _ c.in_ok-candidate.candidate (sym c.in_ok-candidate.ensures)).within)

pub loop-preserved : goal.loop-preserved
loop-preserved c =
    let a = c.args in
    let l = c.loop in
    let m = a.count - (l.counter + 1) in
    let candidate = c.in_ok-candidate.candidate in
    ap (λ (x : ℕ). read_entries a.section a.free.now a.bytes.now m x (l.at + 2) c.add.new.sets) c.next_low-low.ensures
    ∙ ap (λ (x : List ℕ). read_entries a.section a.free.now a.bytes.now m (after a.section candidate) (l.at + 2) x) c.add.ensures
    ∙ read-on a.section a.free.now a.bytes.now (a.count - l.counter) l.low l.at l.sets m (omega arith) c.in_ok-candidate.ensures ∙ l.invariant

pub returns : goal.returns
returns c =
    let a = c.args in
    let l = c.loop in
    read-end a.section a.free.now a.bytes.now (a.count - l.counter) l.low l.at l.sets (omega arith) ∙ l.invariant
