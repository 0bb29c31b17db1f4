-- What is left of a sheet without its rulings, byte by byte, and its clues in an array. Assumes nothing.
use mathlib.Core.Path.{◌≡◌, refl, sym, ap, ◌∙◌}
use mathlib.Core.Bool.{Bool, true, false, cond, not}
use mathlib.Core.List.{List, [], ◌∷◌, ◌++◌, append-nil}
use Prim.Native.Nat.{ℕ, suc, ◌+◌, ◌≤◌, ◌<◌}
use native.Mathlib.Numerals.{add-one}
use native.Mathlib.Decide.{ℕ_discrete, dec_lt}
use native.Mathlib.Omega.{arith}
use lib.IntN.{ℤ, pos}
use lib.ListN.{length, get_or, set, take, length-set, length-append, get_or-append, get_or-eq_default}
use lib.Seq.{take-suc, take_all, length-take-le, ext_get_or, get_or-set_same, get_or-set_other, get_or_at}
use Rattle.candidates.proofs.Tests.{cond-true, cond-false}
use Rattle.grid.specs.Cells.{cells}
use Rattle.grid.specs.Lists.{select}
use Rattle.grid.proofs.Cells.{at_cells}
use Rattle.text.specs.Sheets.{passed_over, unruled}
use Rattle.text.specs.Texts.{byte_clue, clues_of}

-- ---- selections

module _ (f : ℕ → Bool) where
  pub select-append : (xs ys : List ℕ) → select f (xs ++ ys) ≡ select f xs ++ select f ys
  select-append [] ys = refl
  select-append (x ∷ xs) ys = go (f x) (select-append xs ys)
    where
      go : (t : Bool) → select f (xs ++ ys) ≡ select f xs ++ select f ys
          → cond t (x ∷ select f (xs ++ ys)) (select f (xs ++ ys)) ≡ cond t (x ∷ select f xs) (select f xs) ++ select f ys
      go true e = ap (λ (zs : List ℕ). x ∷ zs) e
      go false e = e

  select-few : (xs : List ℕ) → length (select f xs) ≤ length xs
  select-few [] = omega arith
  select-few (x ∷ xs) = go (f x) (select-few xs)
    where
      go : (t : Bool) → length (select f xs) ≤ length xs → length (cond t (x ∷ select f xs) (select f xs)) ≤ suc (length xs)
      go true h = omega arith
      go false h = omega arith

pub unruled-few : (sheet : List ℕ) → length (unruled sheet) ≤ length sheet
unruled-few sheet = select-few (λ b. not (passed_over b)) sheet

-- ---- one byte more

module _ (sheet : List ℕ) (i : ℕ) (h : i < length sheet) {t : Bool} (at : t ≡ passed_over (get_or sheet i 0)) where
  one_more : unruled (take (i + 1) sheet) ≡ unruled (take i sheet) ++ unruled (get_or sheet i 0 ∷ [])
  one_more =
      ap (λ (n : ℕ). unruled (take n sheet)) (add-one i) ∙ ap unruled (take-suc sheet i 0 h)
      ∙ select-append (λ b. not (passed_over b)) (take i sheet) (get_or sheet i 0 ∷ [])

  pub ruling-met : t ≡ true → unruled (take (i + 1) sheet) ≡ unruled (take i sheet)
  ruling-met e =
      one_more
      ∙ ap (λ (ys : List ℕ). unruled (take i sheet) ++ ys) (cond-false (not (passed_over (get_or sheet i 0))) (get_or sheet i 0 ∷ []) [] (ap not (sym at ∙ e)))
      ∙ append-nil (unruled (take i sheet))

  pub cell-met : t ≡ false → unruled (take (i + 1) sheet) ≡ unruled (take i sheet) ++ (get_or sheet i 0 ∷ [])
  cell-met e =
      one_more
      ∙ ap (λ (ys : List ℕ). unruled (take i sheet) ++ ys) (cond-true (not (passed_over (get_or sheet i 0))) (get_or sheet i 0 ∷ []) [] (ap not (sym at ∙ e)))

pub met-few : (sheet : List ℕ) (i : ℕ) → i ≤ length sheet → length (unruled (take i sheet)) ≤ i
met-few sheet i h = omega (arith, unruled-few (take i sheet), length-take-le i sheet h)

pub all-met : (sheet : List ℕ) (i : ℕ) → length sheet ≤ i → unruled (take i sheet) ≡ unruled sheet
all-met sheet i h = ap unruled (take_all i sheet h)

-- ---- the clues of one byte more

module _ (xs : List ℕ) (b : ℕ) where
  elsewhere : (c : ℕ) → (c ≡ length xs → ⊥) → get_or xs c 0 ≡ get_or (xs ++ (b ∷ [])) c 0
  elsewhere c n = go (dec_lt c (length xs))
    where
      go : Dec (c < length xs) → get_or xs c 0 ≡ get_or (xs ++ (b ∷ [])) c 0
      go (yes h) = sym (get_or-append xs (b ∷ []) 0 c h)
      go (no h) =
          get_or-eq_default xs 0 (omega arith)
          ∙ sym (get_or-eq_default (xs ++ (b ∷ [])) 0 (omega (arith, length-append xs (b ∷ []))))

  -- the first 81 are all that is kept
  pub clue-dropped : 81 ≤ length xs → clues_of xs ≡ clues_of (xs ++ (b ∷ []))
  unfolding cells
  clue-dropped h = ext_get_or (pos 0) (clues_of xs) (clues_of (xs ++ (b ∷ []))) refl one
    where
      one : (c : ℕ) → c < 81 → get_or (clues_of xs) c (pos 0) ≡ get_or (clues_of (xs ++ (b ∷ []))) c (pos 0)
      one c k =
          at_cells (pos 0) (λ i. byte_clue (get_or xs i 0)) c k ∙ ap byte_clue (elsewhere c (λ e. omega arith))
          ∙ sym (at_cells (pos 0) (λ i. byte_clue (get_or (xs ++ (b ∷ [])) i 0)) c k)

  pub clue-put : length xs < 81 → set (clues_of xs) (length xs) (byte_clue b) ≡ clues_of (xs ++ (b ∷ []))
  unfolding cells
  clue-put h = ext_get_or (pos 0) (set (clues_of xs) (length xs) (byte_clue b)) (clues_of (xs ++ (b ∷ []))) (length-set (clues_of xs) (length xs) (byte_clue b)) one
    where
      one : (c : ℕ) → c < length (set (clues_of xs) (length xs) (byte_clue b)) → get_or (set (clues_of xs) (length xs) (byte_clue b)) c (pos 0) ≡ get_or (clues_of (xs ++ (b ∷ []))) c (pos 0)
      one c l = go (ℕ_discrete c (length xs))
        where
          k : c < 81
          k = omega (arith, l, length-set (clues_of xs) (length xs) (byte_clue b))

          go : Dec (c ≡ length xs) → get_or (set (clues_of xs) (length xs) (byte_clue b)) c (pos 0) ≡ get_or (clues_of (xs ++ (b ∷ []))) c (pos 0)
          go (yes e) =
              ap (λ (n : ℕ). get_or (set (clues_of xs) (length xs) (byte_clue b)) n (pos 0)) e ∙ get_or-set_same (clues_of xs) (length xs) (byte_clue b) (pos 0) h
              ∙ sym (at_cells (pos 0) (λ i. byte_clue (get_or (xs ++ (b ∷ [])) i 0)) c k ∙ ap byte_clue (get_or_at xs b [] 0 c (sym e)))
          go (no n) =
              get_or-set_other (clues_of xs) (length xs) c (byte_clue b) (pos 0) n ∙ at_cells (pos 0) (λ i. byte_clue (get_or xs i 0)) c k ∙ ap byte_clue (elsewhere c n)
              ∙ sym (at_cells (pos 0) (λ i. byte_clue (get_or (xs ++ (b ∷ [])) i 0)) c k)

  -- the same as the code holds it: n cells were met before this one, and v is its clue
  pub clue-stored : {held : List ℤ} {n : ℕ} {v : ℤ} → held ≡ clues_of xs → n ≡ length xs → v ≡ byte_clue b → n < 81 → set held n v ≡ clues_of (xs ++ (b ∷ []))
  clue-stored {held} {n} {v} p q r h =
      ap (λ (l : List ℤ). set l n v) p ∙ ap (λ (m : ℕ). set (clues_of xs) m v) q ∙ ap (set (clues_of xs) (length xs)) r ∙ clue-put (omega arith)
