-- What the program's lines promise beyond their words.
use Rattle.std.specs.Prelude.{◌≡◌, List, [], ◌++◌, ℕ, ◌<◌, ◌≤◌, ℤ, length, take}
use Rattle.stops.specs.Answer.{gives}
use Rattle.board.specs.Boards.{only_digits}
use Rattle.board.specs.declared.Verdict.TheVariants.{Dead, Finished}
use Rattle.text.specs.Texts.{clues_of, parse_of}
use Rattle.card.specs.Cards.{card_for}
use Rattle.output.specs.Lent.{over}
use Rattle.rounds.specs.declared.cuts.State.{State}
use Rattle.rounds.specs.declared.cuts.Out.{Out}
use Rattle.rounds.specs.declared.cuts.Out.TheVariants.{Piece, Lent}
use Rattle.rounds.specs.declared.cuts.Fed.{Fed}
use Rattle.rounds.specs.declared.answers.Checked.TheVariants.{Right}
use Rattle.rounds.specs.Answers.{answer_check}
use Rattle.rounds.specs.Rounds.{round_output}
use Rattle.rounds.specs.Summaries.{top, tally_of}

-- "Where a finished board and a right answer could differ, name the theorem that makes it impossible": of a grid that is read, with an answer that is right
pub record RightAnswer (grid answer : List ℕ) (clues : List ℤ) : Type 0 where
  -- beside `finished` its digits are the card's only digits
  pub finished : (card_for clues).verdict ≡ Finished → clues_of answer ≡ only_digits (card_for clues).masks
  -- and it never stands beside `dead`
  pub dead : (card_for clues).verdict ≡ Dead → ⊥

pub record AnswersSay : Type 0 where
  pub right : (grid answer : List ℕ) (clues : List ℤ) → parse_of grid ≡ gives clues → answer_check grid answer ≡ Right → RightAnswer grid answer clues

-- ---- an input in pieces

-- what is to be handed out after a call: the first bytes of its piece as they are, or of the lent bytes as it left them
abbrev pub first_bytes : Out → List ℕ → List ℕ → List ℕ
first_bytes (Piece n) piece lent = take n piece
first_bytes (Lent n) piece lent = take n lent

abbrev pub handed_out : Fed → List ℕ → List ℕ → List ℕ
handed_out f piece lent = first_bytes f.out piece lent

-- The contracts of `fresh_state`, `feed` and `finish` (src/cuts.rt) name these five functions. The promise is one on any five: what they are is not asked.
module _ (fresh_state : State) (fed : State → List ℕ → Fed) (fed_bytes : State → List ℕ → List ℕ) (last_state : State → State) (last_bytes : State → List ℕ) where
  -- Calls of `feed` on any pieces, one after the other: the state that they leave, the input, which is what they used of the pieces, and all that is handed out.
  pub data Calls : State → List ℕ → List ℕ → Type 0 where
    fresh : Calls fresh_state [] []
    next : {s : State} {input out : List ℕ} (piece lent : List ℕ) → length lent ≡ 256 → Calls s input out → Calls (fed s piece).state (input ++ take (fed s piece).used piece) (out ++ handed_out (fed s piece) piece (over (fed_bytes s piece) lent))

  -- `finish` after them: all that is handed out is the output of the whole input, and the tally is its tally.
  pub record Whole (s : State) (input out : List ℕ) : Type 0 where
    pub output : (lent : List ℕ) → length lent ≡ 256 → out ++ take (length (last_bytes s)) (over (last_bytes s) lent) ≡ round_output input
    pub tally : (last_state s).tally ≡ tally_of input

  pub record CutsSay : Type 0 where
    -- a call uses some of its piece: calls on a piece, and on what each leaves of it, come to its end
    pub used : (s : State) (piece : List ℕ) → 0 < length piece → (0 < (fed s piece).used) × ((fed s piece).used ≤ length piece)
    -- wherever the pieces end, of an input of fewer bytes than counting goes to
    pub cut : {s : State} {input out : List ℕ} → Calls s input out → length input < top → Whole s input out
