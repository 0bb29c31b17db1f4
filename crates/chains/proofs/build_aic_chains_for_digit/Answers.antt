-- `chains::build_aic_chains_for_digit` meets its contract. Assumes nothing.
use mathlib.Core.Path.{◌≡◌, sym, ap, ◌∙◌}
use mathlib.Core.List.{List}
use mathlib.Core.Option.{none}
use Prim.Native.Nat.{ℕ}
use native.Mathlib.Omega.{arith}
use borrow.Author.Tests.{lt-ltb}
use lib.Dec.{ltb}
use Rattle.candidates.specs.Masks.{single}
use Rattle.candidates.proofs.Membership.{place-single}
use Rattle.candidates.proofs.Tests.{cond-true}
use Rattle.steps.specs.Boards.{is_open}
use Rattle.steps.specs.Chains.{chain_end, lose_found, chain_digit}
use Rattle.steps.specs.Steps.{lose_at}
use Rattle.chains.specs.code.Links.{found_cell}
use Rattle.cells.specs.code.Places.{lose_in}
use Rattle.chains.proofs.Holders.{end-in-grid}
use Rattle.chains.proofs.build_aic_chains_for_digit.Goals as goal

nothing : (g m : List ℕ) (d : ℕ) → none ≡ chain_end g m d → chain_digit g d m ≡ m
unfolding chain_digit
nothing g m d q = sym (ap (lose_found g d m) q)

pub returns-in_default : goal.returns-in_default
returns-in_default c =
    let a = c.args in
    let e = nothing a.givens.now a.masks.now a.digit (sym (ap found_cell c.in_default.is) ∙ c.chain_end.ensures) in
    simp e

pub returns-in-Some : goal.returns-in-Some
unfolding chain_digit
returns-in-Some c =
    let a = c.args in
    let e = c.in-Some.cell in
    let q = sym (ap found_cell c.in-Some.is) ∙ c.chain_end.ensures in
    let one = place-single a.digit (omega (arith, c.requires)) in
    c.lose_at.ensures.masks_after ∙ ap (λ (k : ℕ). lose_in (is_open a.givens.now) e k a.masks.now) (c.digit_mask.ensures ∙ one)
    ∙ cond-true (ltb e 81) (lose_at (is_open a.givens.now) e (single a.digit) a.masks.now) a.masks.now (lt-ltb e 81 (end-in-grid a.givens.now a.masks.now a.digit e q))
    ∙ ap (lose_found a.givens.now a.digit a.masks.now) q
