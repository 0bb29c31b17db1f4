-- What the difficulty call answers (document 02, F-14).
use Rattle.steps.specs.Difficulty as S
use Rattle.difficulty.specs.declared.Figure.{Figure}

-- the figure of the definitions that a figure of the code is
abbrev pub figure_in : Figure → S.Figure
figure_in f = record { points = f.points; cells = f.cells; quotient = f.quotient; remainder = f.remainder }
