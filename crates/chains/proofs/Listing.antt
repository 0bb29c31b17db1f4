-- A list that is read member by member, and one that is made member by member. Assumes nothing.
use mathlib.Core.Path.{◌≡◌, refl, sym, ap, ap₂, ◌∙◌}
use mathlib.Core.Bool.{Bool, true, false, cond, not, ◌||◌}
use mathlib.Core.List.{List, [], ◌∷◌, ◌++◌, map, append_assoc, append-nil}
use Prim.Native.Nat.{ℕ, zero, suc, ◌+◌, ◌≤◌, ◌<◌}
use native.Mathlib.Omega.{arith}
use borrow.Author.Tests.{ne_eqb}
use lib.Dec.{eqb}
use lib.ListN.{length, take, drop}
use lib.Seq.{drop-cons, take-length, append_snoc}
use Rattle.std.specs.List.{list_any}
use Rattle.std.proofs.lemmas.List.{length-append}
use Rattle.candidates.proofs.Tests.{cond-true, cond-false}
use Rattle.steps.specs.Boards.{at}
use Rattle.steps.specs.Loops.{any, range, select, up_to}
use Rattle.steps.specs.Chains.{two_of}
use Rattle.chains.specs.code.Links.{others}

-- ---- reading

as-taken : (xs : List ℕ) (n k : ℕ) → k + n ≤ length xs → map (at xs) (range n k) ≡ take n (drop k xs)
as-taken xs zero k h = refl
as-taken xs (suc n) k h =
    ap (λ (l : List ℕ). at xs k ∷ l) (as-taken xs n (suc k) (omega arith)) ∙ sym (ap (take (suc n)) (drop-cons xs k 0 (omega arith)))

pub entries : (xs : List ℕ) → map (at xs) (up_to (length xs)) ≡ xs
entries xs = as-taken xs (length xs) 0 (omega arith) ∙ take-length xs

pub any-is : (f : ℕ → Bool) (xs : List ℕ) → any f xs ≡ list_any f xs
any-is f [] = refl
any-is f (x ∷ xs) = ap (λ (t : Bool). f x || t) (any-is f xs)

-- ---- making: a selection of which ys stand in the list, and l is still to be looked at

pub few-selected : (f : ℕ → Bool) (xs : List ℕ) → length (select f xs) ≤ length xs
few-selected f [] = omega arith
few-selected f (x ∷ xs) = go (f x) (few-selected f xs)
  where
    go : (t : Bool) → length (select f xs) ≤ length xs → length (cond t (x ∷ select f xs) (select f xs)) ≤ length (x ∷ xs)
    go true h = omega (arith, h)
    go false h = omega (arith, h)

module _ (f : ℕ → Bool) (ys : List ℕ) {x : ℕ} {l xs whole : List ℕ} (next : l ≡ x ∷ xs) (inv : ys ++ select f l ≡ whole) where
  at_next : ys ++ select f (x ∷ xs) ≡ whole
  at_next = ap (λ (l : List ℕ). ys ++ select f l) (sym next) ∙ inv

  pub chosen : {zs : List ℕ} → f x ≡ true → zs ≡ ys ++ (x ∷ []) → zs ++ select f xs ≡ whole
  chosen t p =
      ap (λ (l : List ℕ). l ++ select f xs) p ∙ append_snoc ys x (select f xs)
      ∙ ap (λ (l : List ℕ). ys ++ l) (sym (cond-true (f x) (x ∷ select f xs) (select f xs) t)) ∙ at_next

  pub passed : {zs : List ℕ} → f x ≡ false → zs ≡ ys → zs ++ select f xs ≡ whole
  passed t p =
      ap (λ (l : List ℕ). l ++ select f xs) p
      ∙ ap (λ (l : List ℕ). ys ++ l) (sym (cond-false (f x) (x ∷ select f xs) (select f xs) t)) ∙ at_next

  -- a member that is chosen still has room
  pub room : f x ≡ true → length ys < length whole
  room t =
      let e = sym (length-append ys (x ∷ select f xs)) ∙ ap length (ap (λ (l : List ℕ). ys ++ l) (sym (cond-true (f x) (x ∷ select f xs) (select f xs) t)) ∙ at_next) in
      omega (arith, e)

-- the same where the whole is the selection of zs: a list of n has room for it
pub has-room : (f : ℕ → Bool) (ys zs : List ℕ) {x : ℕ} {l xs : List ℕ} (n : ℕ) → l ≡ x ∷ xs → ys ++ select f l ≡ select f zs → length zs ≤ n → f x ≡ true → length ys < n
has-room f ys zs n next inv few t = omega (arith, room f ys next inv t, few-selected f zs, few)

-- ---- the other of two

pub no-pair : (xs : List ℕ) → (length xs ≡ 2 → ⊥) → two_of xs ≡ []
no-pair xs h = cond-false (eqb (length xs) 2) xs [] (ne_eqb (length xs) 2 h)

pub few-others : (c : ℕ) (xs : List ℕ) → length (others c (two_of xs)) ≤ 2
few-others c [] = omega arith
few-others c (x ∷ []) = omega arith
few-others c (x ∷ y ∷ []) = few-selected (λ e. not (eqb e c)) (x ∷ y ∷ [])
few-others c (x ∷ y ∷ z ∷ xs) = omega (arith, ap (λ (l : List ℕ). length (others c l)) (no-pair (x ∷ y ∷ z ∷ xs) (λ e. omega (arith, e))))

-- ---- three lists one after the other

pub three-joined : {a b c b' c' x y z : List ℕ} → x ≡ a → y ≡ x ++ b' → b' ≡ b → z ≡ y ++ c' → c' ≡ c → z ≡ a ++ (b ++ (c ++ []))
three-joined {a} {b} {c} {c' = c'} p q r s t =
    s ∙ ap₂ ◌++◌ (q ∙ ap₂ ◌++◌ p r) t ∙ append_assoc a b c ∙ ap (λ (l : List ℕ). a ++ (b ++ l)) (sym (append-nil c))
