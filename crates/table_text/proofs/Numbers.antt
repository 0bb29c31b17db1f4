-- The numbers of a row, one after the other. Assumes nothing.
use mathlib.Core.Path.{◌≡◌, refl, sym, ap, ◌∙◌}
use mathlib.Core.Bool.{Bool, true, false}
use mathlib.Core.List.{List, [], ◌∷◌, ◌++◌}
use Prim.Native.Nat.{ℕ, ◌+◌, ◌-◌, ◌≤◌, ◌<◌}
use Rattle.candidates.proofs.Tests.{cond-true, cond-false}
use Rattle.grid.specs.Cells.{cells}
use Rattle.grid.specs.code.Scopes.{in_scope}
use Rattle.grid.specs.declared.scopes.Scope.{Scope}
use Rattle.grid.proofs.Lists.{range-on, range-end}
use Rattle.steps.specs.Loops.{each, for, range, select}
use Rattle.table_text.specs.Tables.{later, numbers}
use Rattle.output.specs.declared.Pen.{Pen}
use Rattle.output.specs.code.Tapes.{append}
use Rattle.output.specs.code.Pens.{writes}
use Rattle.table_text.specs.code.Pushes.{entry, entries, in_row}
use Rattle.output.proofs.Pens.{writes-joined}

one_more : (first : Bool) (n : ℕ) (ns : List ℕ) → entry first n ++ entries false ns ≡ entries first (n ∷ ns)
unfolding entry entries numbers later for
one_more true n ns = refl
one_more false n ns = refl

none_left : (first : Bool) → entries first [] ≡ []
unfolding entries numbers later for
none_left true = refl
none_left false = refl

-- the numbers of a row that pass the test, from c on
module _ (f : ℕ → Bool) (c : ℕ) where
  abbrev left : List ℕ
  left = select f (range (81 - c) c)

  abbrev next : List ℕ
  next = select f (range (81 - (c + 1)) (c + 1))

  module _ {room : ℕ} (first : Bool) (p : Pen room) where
    pub taken : {q : Pen room} → c < 81 → f c ≡ true → q ≡ writes (append room (entry first c)) p → writes (append room (entries false next)) q ≡ writes (append room (entries first left)) p
    taken h e s =
        writes-joined (entry first c) (entries false next) p s refl
        ∙ ap (λ (ns : List ℕ). writes (append room ns) p) (one_more first c next)
        ∙ ap (λ (ns : List ℕ). writes (append room (entries first ns)) p) (sym (ap (select f) (range-on 81 c h) ∙ cond-true (f c) (c ∷ next) next e))

    pub passed : c < 81 → f c ≡ false → writes (append room (entries first next)) p ≡ writes (append room (entries first left)) p
    passed h e =
        ap (λ (ns : List ℕ). writes (append room (entries first ns)) p) (sym (ap (select f) (range-on 81 c h) ∙ cond-false (f c) (c ∷ next) next e))

    pub row-over : 81 ≤ c → p ≡ writes (append room (entries first left)) p
    unfolding append each
    row-over h = sym (ap (λ (ns : List ℕ). writes (append room (entries first (select f ns))) p) (range-end 81 c h) ∙ ap (λ (ns : List ℕ). writes (append room ns) p) (none_left first))

-- all of them
pub whole : {room : ℕ} (s : Scope) (p : Pen room) → writes (append room (entries true (select (in_scope s) (range 81 0)))) p ≡ writes (append room (numbers (in_row s))) p
unfolding entries in_row cells
whole s p = refl
