-- Lent bytes.
use Rattle.std.specs.Prelude.{List, [], ◌∷◌, ℕ}

-- bytes over the first of those that are lent: "later bytes keep"
abbrev pub over : List ℕ → List ℕ → List ℕ
over [] lent = lent
over (x ∷ xs) [] = []
over (x ∷ xs) (y ∷ ys) = x ∷ over xs ys
