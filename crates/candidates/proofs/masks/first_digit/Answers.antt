use Rattle.std.proofs.Common.{ℕ, ◌+◌, ◌/◌, ◌^◌, sym, ap, arith}
use Rattle.candidates.proofs.Counts.{first-end, first-shifted, lowest-le}
use Rattle.candidates.proofs.masks.first_digit.Goals as goal

pub returns-then-from-ge9 : goal.returns-then-from-ge9
returns-then-from-ge9 c = sym (first-end c.args.mask c.args.from c.if-from-ge9.true)

pub overflow_add-place : goal.overflow_add-place
overflow_add-place c =
    let a = c.args in
    omega (arith, c.lowest_digit.ensures, lowest-le (a.mask / 2 ^ a.from))

pub returns-then-place-lt9 : goal.returns-then-place-lt9
returns-then-place-lt9 c =
    let a = c.args in
    (first-shifted a.mask a.from (omega (arith, c.if-from-ge9.false)) (ap (λ (k : ℕ). a.from + k) c.lowest_digit.ensures)).0 c.if-place-lt9.true

pub returns : goal.returns
returns c =
    let a = c.args in
    (first-shifted a.mask a.from (omega (arith, c.if-from-ge9.false)) (ap (λ (k : ℕ). a.from + k) c.lowest_digit.ensures)).1 c.if-place-lt9.false
