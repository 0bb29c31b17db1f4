-- Input lines and their parts: "a filter over standard input of any length, one grid a line".
use Rattle.std.specs.Prelude.{Bool, cond, ◌||◌, List, [], ◌∷◌, ◌++◌, ℕ, eqb, get_or, take}
use Rattle.std.proofs.Math.Option.{Option, none, some}
use Rattle.card.specs.Cards.{length_without}

-- ---- the lines of an input

-- a last line that no byte 10 ends is a line where there is any of it
abbrev pub last_line : List ℕ → List (List ℕ)
last_line [] = []
last_line (b ∷ bs) = (b ∷ bs) ∷ []

-- cutting at byte 10; `line` is what stands since the last one
unfoldable pub cut : List ℕ → List ℕ → List (List ℕ)
cut line [] = last_line line
cut line (b ∷ bs) =
    let whole = line ∷ cut [] bs in
    let longer = cut (line ++ (b ∷ [])) bs in
    cond (eqb b 10) whole longer

abbrev pub lines_in : List ℕ → List (List ℕ)
lines_in input = cut [] input

-- ---- the parts of a line

-- "One final carriage return is dropped."
abbrev pub bare_length : List ℕ → ℕ
bare_length line = length_without 13 line

abbrev pub bare : List ℕ → List ℕ
bare line = take (bare_length line) line

-- "Empty lines and lines that begin with `#` are handed on as they are"; one carriage return is an empty line too
abbrev pub is_handed_on : List ℕ → Bool
is_handed_on line = eqb (bare_length line) 0 || eqb (get_or line 0 0) 35

-- "space, tab, comma or semicolon"
abbrev pub is_separator : ℕ → Bool
is_separator b = eqb b 32 || eqb b 9 || eqb b 44 || eqb b 59

-- "the grid is the bytes before the first" separator
unfoldable pub grid_in : List ℕ → List ℕ
grid_in [] = []
grid_in (b ∷ bs) = let rest = b ∷ grid_in bs in cond (is_separator b) [] rest

-- "what follows that one separator is the printed answer"
unfoldable pub answer_in : List ℕ → Option (List ℕ)
answer_in [] = none
answer_in (b ∷ bs) = let rest = answer_in bs in cond (is_separator b) (some bs) rest
