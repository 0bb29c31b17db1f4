-- Going through a list or a range in its order.
use Rattle.std.specs.Prelude.{Bool, true, cond, ◌&&◌, List, [], ◌∷◌, ℕ, zero, suc}

-- the n numbers from k on, rising
abbrev pub range : ℕ → ℕ → List ℕ
range zero k = []
range (suc n) k = k ∷ range n (suc k)

-- those of a list that pass the test, in the list's order
abbrev pub select : (ℕ → Bool) → List ℕ → List ℕ
select f [] = []
select f (c ∷ cs) = cond (f c) (c ∷ select f cs) (select f cs)

-- every element passes the test
abbrev pub all {ℓ} : {A : Type ℓ} → (A → Bool) → List A → Bool
all f [] = true
all f (x ∷ xs) = let r = all f xs in f x && r

-- a step for each element of a list, in its order
unfoldable pub each {ℓ κ} : {A : Type ℓ} {S : Type κ} → (A → S → S) → List A → S → S
each f [] s = s
each f (x ∷ xs) s = each f xs (f x s)
