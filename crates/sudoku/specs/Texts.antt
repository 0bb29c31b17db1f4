-- The text writer and the card on numbers and lent bytes: what each answers, and what the bytes hold after it.
use Rattle.std.specs.Prelude.{List, ℕ, ℤ, pos, length}
use Rattle.stops.specs.Answer.{map}
use Rattle.text.specs.Texts.{text_of, write_of, written}
use Rattle.card.specs.Cards.{card_bytes, card_lines, card_of}
use Rattle.output.specs.Lent.{over}
use Rattle.sudoku.specs.Codes.{coded}

-- ---- the text writer, which "returns 81"

abbrev pub text_code : List ℤ → List ℕ → List ℤ
text_code clues lent = coded (map pos (write_of 81 clues (length lent))) 0

abbrev pub written_text : List ℤ → List ℕ → List ℕ
written_text clues lent = written (write_of 81 clues (length lent)) (text_of clues) lent

-- ---- the card: the value is how many bytes it has, and the stops are the reader's

abbrev pub card_code : List ℕ → List ℤ
card_code input = coded (map (λ card. pos (length (card_bytes card))) (card_of input)) 0

abbrev pub written_card : List ℕ → List ℕ → List ℕ
written_card input lent = over (card_lines (card_of input)) lent
