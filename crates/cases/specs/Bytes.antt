-- The texts of the cases that `scorecard` is given, and what it prints for them by document 01, byte by byte; the characters stand in the comments.
use Rattle.std.specs.Prelude.{List, [], ◌∷◌, ◌++◌, map, ℕ, ◌+◌, ℤ, nat_abs, replicate}

-- a text with the newline that is dropped: "drops one final newline (byte 10)"
abbrev pub ended : List ℕ → List ℕ
ended text = text ++ (10 ∷ [])

-- "P3 `a` as last of 81": the others are dots
abbrev pub p3_text : List ℕ
p3_text = replicate 80 46 ++ (97 ∷ [])

-- "P10 row 1 `456......`, row 2 `789......`, rest open": `.` is byte 46, and the digits are 49 to 57
unfoldable pub p10_text : List ℕ
p10_text =
    46 ∷ 46 ∷ 46 ∷ 46 ∷ 46 ∷ 46 ∷ 46 ∷ 46 ∷ 46 ∷
    52 ∷ 53 ∷ 54 ∷ 46 ∷ 46 ∷ 46 ∷ 46 ∷ 46 ∷ 46 ∷
    55 ∷ 56 ∷ 57 ∷ 46 ∷ 46 ∷ 46 ∷ 46 ∷ 46 ∷ 46 ∷
    46 ∷ 46 ∷ 46 ∷ 46 ∷ 46 ∷ 46 ∷ 46 ∷ 46 ∷ 46 ∷
    46 ∷ 46 ∷ 46 ∷ 46 ∷ 46 ∷ 46 ∷ 46 ∷ 46 ∷ 46 ∷
    46 ∷ 46 ∷ 46 ∷ 46 ∷ 46 ∷ 46 ∷ 46 ∷ 46 ∷ 46 ∷
    46 ∷ 46 ∷ 46 ∷ 46 ∷ 46 ∷ 46 ∷ 46 ∷ 46 ∷ 46 ∷
    46 ∷ 46 ∷ 46 ∷ 46 ∷ 46 ∷ 46 ∷ 46 ∷ 46 ∷ 46 ∷
    46 ∷ 46 ∷ 46 ∷ 46 ∷ 46 ∷ 46 ∷ 46 ∷ 46 ∷ 46 ∷ []

-- the three steps by which settling removes P10's 18 candidates: Pointing, the first box, digit 1, 2 or 3, row 0 (document 02, F-10)
abbrev pub p10_steps : List ℕ
p10_steps = 3 ∷ 18 ∷ 1 ∷ 0 ∷ 0 ∷ 0 ∷ 3 ∷ 18 ∷ 2 ∷ 0 ∷ 0 ∷ 0 ∷ 3 ∷ 18 ∷ 3 ∷ 0 ∷ 0 ∷ 0 ∷ []

-- the text of 81 digits
abbrev pub digit_text : List ℤ → List ℕ
digit_text grid = map (λ z. nat_abs z + 48) grid

-- ---- what is printed

-- "or `refused N P`, each line ended by byte 10": `refused 1 80`
unfoldable pub p2_line : List ℕ
p2_line = 114 ∷ 101 ∷ 102 ∷ 117 ∷ 115 ∷ 101 ∷ 100 ∷ 32 ∷ 49 ∷ 32 ∷ 56 ∷ 48 ∷ 10 ∷ []

-- `refused 2 80`
unfoldable pub p3_line : List ℕ
p3_line = 114 ∷ 101 ∷ 102 ∷ 117 ∷ 115 ∷ 101 ∷ 100 ∷ 32 ∷ 50 ∷ 32 ∷ 56 ∷ 48 ∷ 10 ∷ []

-- "`scorecard` given P10's text prints" six lines; the last is `line ` and 81 bytes, which stand here by rows
unfoldable pub p10_card : List ℕ
p10_card =
    -- `clues 6`
    99 ∷ 108 ∷ 117 ∷ 101 ∷ 115 ∷ 32 ∷ 54 ∷ 10 ∷
    -- `reported 0`
    114 ∷ 101 ∷ 112 ∷ 111 ∷ 114 ∷ 116 ∷ 101 ∷ 100 ∷ 32 ∷ 48 ∷ 10 ∷
    -- `sweeps 2`
    115 ∷ 119 ∷ 101 ∷ 101 ∷ 112 ∷ 115 ∷ 32 ∷ 50 ∷ 10 ∷
    -- `removed 18`
    114 ∷ 101 ∷ 109 ∷ 111 ∷ 118 ∷ 101 ∷ 100 ∷ 32 ∷ 49 ∷ 56 ∷ 10 ∷
    -- `verdict open`
    118 ∷ 101 ∷ 114 ∷ 100 ∷ 105 ∷ 99 ∷ 116 ∷ 32 ∷ 111 ∷ 112 ∷ 101 ∷ 110 ∷ 10 ∷
    -- `line .........456......789............................................................`
    108 ∷ 105 ∷ 110 ∷ 101 ∷ 32 ∷
    46 ∷ 46 ∷ 46 ∷ 46 ∷ 46 ∷ 46 ∷ 46 ∷ 46 ∷ 46 ∷
    52 ∷ 53 ∷ 54 ∷ 46 ∷ 46 ∷ 46 ∷ 46 ∷ 46 ∷ 46 ∷
    55 ∷ 56 ∷ 57 ∷ 46 ∷ 46 ∷ 46 ∷ 46 ∷ 46 ∷ 46 ∷
    46 ∷ 46 ∷ 46 ∷ 46 ∷ 46 ∷ 46 ∷ 46 ∷ 46 ∷ 46 ∷
    46 ∷ 46 ∷ 46 ∷ 46 ∷ 46 ∷ 46 ∷ 46 ∷ 46 ∷ 46 ∷
    46 ∷ 46 ∷ 46 ∷ 46 ∷ 46 ∷ 46 ∷ 46 ∷ 46 ∷ 46 ∷
    46 ∷ 46 ∷ 46 ∷ 46 ∷ 46 ∷ 46 ∷ 46 ∷ 46 ∷ 46 ∷
    46 ∷ 46 ∷ 46 ∷ 46 ∷ 46 ∷ 46 ∷ 46 ∷ 46 ∷ 46 ∷
    46 ∷ 46 ∷ 46 ∷ 46 ∷ 46 ∷ 46 ∷ 46 ∷ 46 ∷ 46 ∷
    10 ∷ []

-- the card of 81 clues, with its verdict and its last line
unfoldable pub full_card : List ℕ → List ℕ → List ℕ
full_card verdict line =
    -- `clues 81`
    (99 ∷ 108 ∷ 117 ∷ 101 ∷ 115 ∷ 32 ∷ 56 ∷ 49 ∷ 10 ∷
    -- `reported 0`
    114 ∷ 101 ∷ 112 ∷ 111 ∷ 114 ∷ 116 ∷ 101 ∷ 100 ∷ 32 ∷ 48 ∷ 10 ∷
    -- `sweeps 1`
    115 ∷ 119 ∷ 101 ∷ 101 ∷ 112 ∷ 115 ∷ 32 ∷ 49 ∷ 10 ∷
    -- `removed 0`
    114 ∷ 101 ∷ 109 ∷ 111 ∷ 118 ∷ 101 ∷ 100 ∷ 32 ∷ 48 ∷ 10 ∷
    -- `verdict `
    118 ∷ 101 ∷ 114 ∷ 100 ∷ 105 ∷ 99 ∷ 116 ∷ 32 ∷ [])
    ++ verdict ++
    -- `line `
    (10 ∷ 108 ∷ 105 ∷ 110 ∷ 101 ∷ 32 ∷ []) ++ line ++ (10 ∷ [])

-- `finished` and `dead`
abbrev pub finished_word : List ℕ
finished_word = 102 ∷ 105 ∷ 110 ∷ 105 ∷ 115 ∷ 104 ∷ 101 ∷ 100 ∷ []

abbrev pub dead_word : List ℕ
dead_word = 100 ∷ 101 ∷ 97 ∷ 100 ∷ []
