-- How a filled grid stands to a board (demand 3). A filled grid is 81 signed numbers; which are correct is the verifier's to say.
use Rattle.std.specs.Prelude.{◌≡◌, ◌≢◌, true, List, ℕ, ◌<◌, ℤ, pos, get_or}
use Rattle.candidates.specs.Masks.{has}
use Rattle.grid.specs.Fillings.{number_at}
use Rattle.candidates.specs.Sets.{place}
use Rattle.steps.specs.Boards.{Board, at}

-- "A filled grid keeps every clue if each clue cell has its clue's digit."
pub record KeepsClues (clues f : List ℤ) : Type 0 where
  pub kept : (c : ℕ) → c < 81 → get_or clues c (pos 0) ≢ pos 0 → number_at f c ≡ get_or clues c (pos 0)

-- it "keeps clues and the entries then on the board" (document 02, F-6)
pub record Keeps (b : Board) (f : List ℤ) : Type 0 where
  pub clues : KeepsClues b.clues f
  pub entries : KeepsClues b.entries f

-- it "takes each cell's digit from that cell's mask"
pub record InMasks (m : List ℕ) (f : List ℤ) : Type 0 where
  pub held : (c : ℕ) → c < 81 → has (at m c) (place (number_at f c)) ≡ true
