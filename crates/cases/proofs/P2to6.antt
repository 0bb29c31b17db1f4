-- P2 and P3 (texts), P4 (clues out of range), P5 (one open cell) and P6 (the verifier). Assumes nothing.
use mathlib.Core.Path.{◌≡◌, refl, ◌∙◌}
use mathlib.Core.List.{List}
use Prim.Native.Nat.{ℕ}
use native.Mathlib.Omega.{arith}
use lib.Count.{ones}
use lib.IntN.{pos}
use lib.ListN.{length}
use Rattle.stops.specs.Answer.{stop}
use Rattle.stops.specs.declared.Stop.TheVariants.{TextLength, OtherByte}
use Rattle.candidates.specs.Masks.{first_place, gather}
use Rattle.grid.specs.Cells.{cells, peers}
use Rattle.grid.specs.Fillings.{verified}
use Rattle.grid.specs.Lists.{each}
use Rattle.grid.specs.Units.{units, unit}
use Rattle.steps.specs.Boards.{givens_of, taken, fresh}
use Rattle.steps.specs.Calls.{Clues, outcome, check_of}
use Rattle.steps.specs.Loops.{for, first}
use Rattle.steps.specs.Ported.{spots}
use Rattle.steps.specs.Singles.{naked_singles, hidden_singles}
use Rattle.steps.proofs.Check.{clues-by}
use Rattle.board.specs.Boards.{open_of}
use Rattle.text.specs.Texts.{parse_of}
use Rattle.card.specs.Cards.{printed}
use Rattle.output.specs.Decimals.{digits_in, decimal}
use Rattle.card.specs.Layout.{line_of, refusal_bytes}
use Rattle.cases.specs.Bytes.{p3_text, p2_line, p3_line}
use Rattle.cases.specs.Grids.{grid_of, grid_a, p1, p4_low, p4_high, p5, exchanged}
use Rattle.cases.specs.Cases.{Case2, Case3, Case4, Case5, Case6}
use Rattle.cases.proofs.Texts.{prints, prints-ended}

short : (text : List ℕ) → length text ≡ 80 → parse_of text ≡ stop (TextLength (pos 80))
unfolding parse_of
short text e = rw e

line1 : printed (stop (TextLength (pos 80))) ≡ p2_line
unfolding p2_line refusal_bytes line_of decimal digits_in
line1 = refl

pub p2-holds : Case2
p2-holds =
    record {
      short = short;
      row = refl;
      card = λ text e h. prints text (short text e) (rw e h) ∙ line1;
      card_ended = λ text e. prints-ended text (short text e) ∙ line1;
    }

last : parse_of p3_text ≡ stop (OtherByte (pos 80))
unfolding parse_of first cells
last = refl

line2 : printed (stop (OtherByte (pos 80))) ≡ p3_line
unfolding p3_line refusal_bytes line_of decimal digits_in
line2 = refl

pub p3-holds : Case3
p3-holds = record { last = last; row = refl; card = prints p3_text last (λ e. omega arith) ∙ line2; card_ended = prints-ended p3_text last ∙ line2 }

pub p4-holds : Case4
unfolding p4_low p4_high p1 grid_of for check_of open_of first cells
p4-holds = record { opens_low = refl; opens_high = refl; low = λ es m. refl; high = λ es m. refl; row_low = refl; row_high = refl }

pub p5-clues : Clues p5
unfolding p5 grid_a grid_of for
p5-clues = clues-by p5 refl tt

pub p5-holds : Case5
unfolding p5 grid_a grid_of for givens_of fresh taken each cells peers outcome naked_singles hidden_singles spots gather first_place ones unit units
p5-holds = record { mask = refl; naked = refl; hidden = refl }

pub p6-holds : Case6
unfolding grid_a exchanged grid_of for verified cells units
p6-holds = record { right = refl; nothing = refl; ten = refl; lowest = refl; swapped = refl }
