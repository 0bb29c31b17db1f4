-- Each arm is the entry of the table at its number.
use mathlib.Core.Path.{◌≡◌, ap, ◌∙◌}
use mathlib.Core.Bool.{Bool}
use Prim.Native.Nat.{ℕ, ◌<◌, ◌^◌}
use native.Mathlib.Omega.{arith}
use lib.Count.{ones-le}
use lib.IntN.{ℤ, pos}
use mir.Facts.{to_z-of_z, to_z_pos}
use mir.Syntax.{w64}
use mir.Val.{to_z}
use Rattle.stops.specs.Answer.{Answer, map}
use Rattle.candidates.specs.Masks.{low_nine, count}
use Rattle.candidates.specs.Sets.{single_of, contains_of, insert_of, inserted, removed}
use Rattle.candidates.specs.declared.SingleCandidate.{SingleCandidate}
use Rattle.sudoku.specs.Codes.{given, coded, test_number, no_number}
use Rattle.sudoku.specs.Sets.{new_set, single_code}
use Rattle.sudoku.proofs.Calls.{called, not-called}
use Rattle.sudoku.proofs.sets.set_call.Goals as goal

small_count : (m : ℕ) → count (low_nine m) < 2 ^ 63
small_count m = omega (arith, ones-le 9 (low_nine m) (omega arith))

pub returns-in-0 : goal.returns-in-0
returns-in-0 c =
    c.of_given.ensures ∙ ap (given (pos 0)) c.new.ensures
    ∙ called 0 c.args.call c.args.mask c.args.digit c.in-0.is

pub returns-in-1 : goal.returns-in-1
returns-in-1 c =
    c.of_given-in-1.ensures ∙ ap (given (pos 0)) c.full.ensures
    ∙ called 1 c.args.call c.args.mask c.args.digit c.in-1.is

pub returns-in-2 : goal.returns-in-2
returns-in-2 c =
    c.of_new.ensures ∙ ap new_set (c.single.ensures ∙ ap single_of (to_z-of_z c.ranges.digit))
    ∙ called 2 c.args.call c.args.mask c.args.digit c.in-2.is

pub returns-in-3 : goal.returns-in-3
returns-in-3 c =
    c.of_presence.ensures ∙ ap (λ (a : Answer Bool). coded (map test_number a) c.args.mask) (c.contains.ensures ∙ ap (contains_of c.args.mask) (to_z-of_z c.ranges.digit))
    ∙ called 3 c.args.call c.args.mask c.args.digit c.in-3.is

pub returns-in-4 : goal.returns-in-4
returns-in-4 c =
    c.insert_call.ensures ∙ ap (λ (z : ℤ). coded (map no_number (insert_of z)) (inserted c.args.mask z)) (to_z-of_z c.ranges.digit)
    ∙ called 4 c.args.call c.args.mask c.args.digit c.in-4.is

pub returns-in-5 : goal.returns-in-5
returns-in-5 c =
    c.remove_call.ensures ∙ ap (λ (z : ℤ). coded (map test_number (contains_of c.args.mask z)) (removed c.args.mask z)) (to_z-of_z c.ranges.digit)
    ∙ called 5 c.args.call c.args.mask c.args.digit c.in-5.is

pub returns-in-6 : goal.returns-in-6
returns-in-6 c =
    c.of_given-in-6.ensures ∙ ap (given (pos 0)) c.clear.ensures
    ∙ called 6 c.args.call c.args.mask c.args.digit c.in-6.is

pub returns-in-7 : goal.returns-in-7
returns-in-7 c =
    let m = c.args.mask in
    let n : to_z w64 c.len.result ≡ pos (count (low_nine m)) = to_z_pos w64 {n = c.len.result} (omega (arith, c.len.ensures, small_count m)) ∙ ap pos c.len.ensures in
    c.of_given-in-7.ensures ∙ ap (λ (v : ℤ). given v m) n
    ∙ called 7 c.args.call c.args.mask c.args.digit c.in-7.is

pub returns-in-8 : goal.returns-in-8
returns-in-8 c =
    let v = to_z-of_z {w = w64} (record { sfits = c.of_test.type_inv }) ∙ c.of_test.ensures ∙ ap test_number c.is_empty.ensures in
    c.of_given-in-8.ensures ∙ ap (λ (v : ℤ). given v c.args.mask) v
    ∙ called 8 c.args.call c.args.mask c.args.digit c.in-8.is

pub returns-in-9 : goal.returns-in-9
returns-in-9 c =
    c.of_single.ensures ∙ ap (λ (r : SingleCandidate). single_code r c.args.mask) c.single_candidate.ensures
    ∙ called 9 c.args.call c.args.mask c.args.digit c.in-9.is

pub returns-in-10 : goal.returns-in-10
returns-in-10 c =
    c.of_given-in-10.ensures ∙ ap (given (pos 0)) c.iter.ensures.0
    ∙ called 10 c.args.call c.args.mask c.args.digit c.in-10.is

pub returns-in_default : goal.returns-in_default
returns-in_default c =
    c.of_unknown.ensures ∙ not-called c.args.call c.args.mask c.args.digit (omega arith)
