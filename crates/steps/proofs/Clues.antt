-- A correct filling that keeps the clues lies in the fresh masks, and no other lies in admissible ones. Assumes nothing.
use mathlib.Core.Path.{◌≡◌, refl, sym, ap, ◌∙◌, subst}
use mathlib.Core.Logic.{◌≢◌}
use mathlib.Core.Bool.{Bool, true, false}
use mathlib.Core.List.{List}
use Prim.Native.Nat.{ℕ, suc, ◌-◌, ◌<◌}
use native.Mathlib.Omega.{arith}
use borrow.Author.Tests.{eqb-true, eqb-false}
use lib.IntN.{ℤ, pos}
use lib.ListN.{get_or}
use Rattle.candidates.proofs.Held.{Held}
use Rattle.candidates.proofs.Places.{place-pos}
use Rattle.grid.specs.Cells.{sees}
use Rattle.grid.specs.Fillings.{number_at, Correct}
use Rattle.candidates.specs.Sets.{place}
use Rattle.grid.specs.Units.{unit_cell, Member}
use Rattle.grid.proofs.Cells.{sees-shared}
use Rattle.grid.proofs.Fillings.{number_of, place-lt, same_number_lem, correct-complete, digit-once}
use Rattle.grid.proofs.Pigeonhole.{onto}
use Rattle.grid.proofs.Units.{at_place, member_below}
use Rattle.steps.specs.Boards.{at, givens_of, given, is_open, fresh, Givens, Admissible}
use Rattle.steps.specs.Calls.{Clues}
use Rattle.steps.specs.Fillings.{KeepsClues, InMasks}
use Rattle.steps.proofs.Check.{clues-givens, given-clue, good-digit}
use Rattle.steps.proofs.Fillings.{Filling, Inside}
use Rattle.steps.proofs.FreshDigits.{fresh-open, fresh-clue}

-- ---- a correct filling, by places

-- the place of the digit in each cell
abbrev pub placed : List ℤ → ℕ → ℕ
placed f c = place (number_at f c)

pub correct-filling : (f : List ℤ) → Correct f → Filling (placed f)
correct-filling f ok = record { small = λ c h. place-lt (ok.digits c h); once = once; every = every }
  where
    once : (u c e : ℕ) → u < 27 → Member u c → Member u e → c ≢ e → placed f c ≢ placed f e
    once u c e h m n d q = d (digit-once ok h m n (same_number_lem (number_at f c) (number_at f e) (place-lt (ok.digits c (member_below h m))) q))

    every : (u d : ℕ) → u < 27 → d < 9 → (c : ℕ) × Member u c × (placed f c ≡ d)
    every u d h k =
        let w = onto 9 (λ i. placed f (unit_cell u i)) ((correct-complete ok).at u h) d k in
        (unit_cell u w.0, at_place u w.0 w.1, w.2)

-- ---- keeping the clues, by places

pos-same : (a b : ℕ) → pos a ≡ pos b → a ≡ b
pos-same a b e = cc

module _ (clues : List ℤ) (ok : Clues clues) where
  abbrev g : List ℕ
  g = givens_of clues

  clue-given : (c : ℕ) → c < 81 → get_or clues c (pos 0) ≡ pos (given g c)
  clue-given c h = sym (ap pos (given-clue clues c h) ∙ good-digit (get_or clues c (pos 0)) (ok.good c h))

  module _ (f : List ℤ) (right : Correct f) where
    -- the filling's places at clue cells are the clues'
    keeps-place : KeepsClues clues f → (c : ℕ) → c < 81 → is_open g c ≡ false → placed f c ≡ given g c - 1
    keeps-place k c h o =
        let some : given g c ≢ 0 = eqb-false (given g c) 0 o in
        ap place (k.kept c h (λ e. some (pos-same (given g c) 0 (sym (clue-given c h) ∙ e))) ∙ clue-given c h)
        ∙ place-pos (given g c) (omega arith) ((clues-givens clues).small c)

    place-keeps : ((c : ℕ) → c < 81 → is_open g c ≡ false → placed f c ≡ given g c - 1) → KeepsClues clues f
    place-keeps k = record { kept = λ c h n. go c h n (is_open g c) refl }
      where
        go : (c : ℕ) → c < 81 → get_or clues c (pos 0) ≢ pos 0 → (o : Bool) → is_open g c ≡ o → number_at f c ≡ get_or clues c (pos 0)
        go c h n true o = absurd (n (clue-given c h ∙ ap pos (eqb-true (given g c) 0 o)))
        go c h n false o =
            let some : given g c ≢ 0 = eqb-false (given g c) 0 o in
            number_of (number_at f c) (given g c - 1) (k c h o) (omega (arith, (clues-givens clues).small c)) ∙ ap pos (omega arith) ∙ sym (clue-given c h)

    -- a filling that keeps the clues takes each digit from the fresh masks
    pub keeps-fresh : KeepsClues clues f → Inside (placed f) (fresh g)
    keeps-fresh k c h = held (is_open g c) refl
      where
        ok' : Givens g
        ok' = clues-givens clues

        -- a cell with a clue that c sees has another digit
        unseen : (e : ℕ) → e < 81 → sees c e ≡ true → (o : Bool) → is_open g e ≡ o → given g e ≡ suc (placed f c) → ⊥
        unseen e l t true o q = omega (arith, eqb-true (given g e) 0 o)
        unseen e l t false o q =
            let s = sees-shared c e h l t in
            (correct-filling f right).once s.shared c e s.within s.first s.second s.different (omega (arith, keeps-place k e l o))

        held : (o : Bool) → is_open g c ≡ o → Held (at (fresh g) c) (placed f c)
        held true o =
            (fresh-open g ok' c (placed f c) h o).1 (record { digit = (correct-filling f right).small c h; unseen = λ e l t q. unseen e l t (is_open g e) refl q })
        held false o = (fresh-clue g ok' c (placed f c) h o).1 (omega (arith, keeps-place k c h o, eqb-false (given g c) 0 o))

    -- and in admissible masks no other is there
    pub in-keeps : (m : List ℕ) → Admissible g m → InMasks m f → KeepsClues clues f
    in-keeps m a i =
        place-keeps (λ c h o. omega (arith, (fresh-clue g (clues-givens clues) c (placed f c) h o).0 (subst (λ (x : ℕ). Held x (placed f c)) (a.clues c o) (i.held c h))))
