-- `passes::over::is_over` meets its contract. Assumes nothing.
use mathlib.Core.Path.{◌≡◌, refl, sym, ap, ◌∙◌}
use mathlib.Core.Logic.{◌≢◌}
use mathlib.Core.Bool.{Bool, true, false, ◌&&◌, ◌||◌}
use Prim.Native.Nat.{ℕ, ◌≤◌, ◌<◌}
use native.Mathlib.Omega.{arith}
use borrow.Author.Tests.{eq-eqb, ne_eqb, le-leb, lt-leb}
use lib.Dec.{eqb, leb}
use Rattle.cells.specs.code.Places.{loose_digits}
use Rattle.passes.specs.code.Over.{beside_one, lacked_in, is_over}
use Rattle.passes.proofs.over.is_over.Goals as goal

-- the test by its numbers
abbrev test : ℕ → ℕ → ℕ → ℕ → Bool
test left more loose lacked = leb left 81 && (eqb more 0 && (eqb loose 0 || eqb lacked 0))

module _ (left more loose lacked : ℕ) where
  many : 81 < left → false ≡ test left more loose lacked
  many h = rw (lt-leb left 81 h) refl

  several : left ≤ 81 → more ≢ 0 → false ≡ test left more loose lacked
  several h n = rw (le-leb left 81 h, ne_eqb more 0 n) refl

  dead : left ≤ 81 → more ≡ 0 → loose ≡ 0 → true ≡ test left more loose lacked
  dead h e f = rw (le-leb left 81 h, eq-eqb more 0 e, eq-eqb loose 0 f) refl

  full : left ≤ 81 → more ≡ 0 → loose ≢ 0 → eqb lacked 0 ≡ test left more loose lacked
  full h e n = rw (le-leb left 81 h, eq-eqb more 0 e, ne_eqb loose 0 n) refl

pub returns-then-left-gt81 : goal.returns-then-left-gt81
unfolding is_over
returns-then-left-gt81 c =
    let a = c.args in
    many a.left (beside_one a.laid.now.masks) (loose_digits a.givens.now a.laid.now.masks) (lacked_in a.laid.now.lanes) c.if-left-gt81.true

pub returns-then-beside_one-ne0 : goal.returns-then-beside_one-ne0
unfolding is_over
returns-then-beside_one-ne0 c =
    let a = c.args in
    several a.left (beside_one a.laid.now.masks) (loose_digits a.givens.now a.laid.now.masks) (lacked_in a.laid.now.lanes) (omega (arith, c.if-left-gt81.false)) (λ e. c.if-beside_one-ne0.true (c.beside_one.ensures ∙ e))

pub returns-then-loose_digits-eq0 : goal.returns-then-loose_digits-eq0
unfolding is_over
returns-then-loose_digits-eq0 c =
    let a = c.args in
    dead a.left (beside_one a.laid.now.masks) (loose_digits a.givens.now a.laid.now.masks) (lacked_in a.laid.now.lanes) (omega (arith, c.if-left-gt81.false)) (sym c.beside_one.ensures ∙ c.if-beside_one-ne0.false) (sym c.loose_digits.ensures ∙ c.if-loose_digits-eq0.true)

pub returns : goal.returns
unfolding is_over
returns c =
    let a = c.args in
    ap (λ (x : ℕ). eqb x 0) c.lacked.ensures
    ∙ full a.left (beside_one a.laid.now.masks) (loose_digits a.givens.now a.laid.now.masks) (lacked_in a.laid.now.lanes) (omega (arith, c.if-left-gt81.false)) (sym c.beside_one.ensures ∙ c.if-beside_one-ne0.false) (λ e. c.if-loose_digits-eq0.false (c.loose_digits.ensures ∙ e))
