-- The difficulty figure on numbers and arrays (document 02, F-14): what the export answers.
use Rattle.std.specs.Prelude.{List, ℤ, pos}
use Rattle.stops.specs.Answer.{Answer, gives, stop}
use Rattle.steps.specs.Boards.{Board}
use Rattle.steps.specs.Difficulty.{Figure, difficulty_of}
use Rattle.sudoku.specs.Codes.{four, refused}

-- the values are the quotient and the remainder; beside them how many cells the points are divided by
abbrev pub figure_code : Answer Figure → List ℤ
figure_code (gives f) = four (pos 0) (pos f.cells) (pos f.quotient) (pos f.remainder)
figure_code (stop s) = refused s 0

abbrev pub difficulty_code : Board → List ℤ
difficulty_code b = figure_code (difficulty_of b)
