-- P10: box-line, settling in two sweeps, and the card. Assumes nothing.
use mathlib.Core.Path.{◌≡◌, refl, sym, ap, ◌∙◌}
use mathlib.Core.Bool.{false, not}
use mathlib.Core.List.{List, [], ◌∷◌}
use Prim.Native.Nat.{ℕ, ◌-◌}
use native.Mathlib.Omega.{arith}
use lib.Count.{ones_in, ones}
use lib.ListN.{length, get_or}
use Rattle.stops.specs.Answer.{gives}
use Rattle.candidates.specs.Masks.{first_place, gather}
use Rattle.grid.specs.Cells.{cells, peers}
use Rattle.grid.specs.Lists.{each}
use Rattle.grid.specs.Units.{units, unit}
use Rattle.steps.specs.Boards.{givens_of, fresh, taken, total, same_masks}
use Rattle.steps.specs.Calls.{Outcome, box_line_call, advanced_call, settling_call, outcome}
use Rattle.steps.specs.Instances.{step_of, lones, places, pointings, claimings}
use Rattle.steps.specs.Loops.{for, first}
use Rattle.steps.specs.Passes.{Lone, Place, Pair, Pointing, Claiming, Cross, instances, pass, sweep, settle, removed_by}
use Rattle.steps.specs.Ported.{spots, box_line_at, box_lines}
use Rattle.steps.specs.Singles.{naked_singles, hidden_singles}
use Rattle.steps.specs.Steps.{step_taken}
use Rattle.steps.proofs.Masks.{same_refl}
use Rattle.board.specs.Boards.{clue_count, verdict_of}
use Rattle.text.specs.Texts.{parse_of}
use Rattle.card.specs.declared.layout.Card.{Card}
use Rattle.board.specs.declared.Verdict.TheVariants.{Open}
use Rattle.card.specs.Cards.{card_for, card_bytes}
use Rattle.output.specs.Decimals.{digits_in, decimal}
use Rattle.card.specs.Layout.{line_of, cell_byte}
use Rattle.cases.specs.Bytes.{p10_text, p10_card}
use Rattle.cases.specs.Cases.{Case10, fresh_masks, on_fresh}
use Rattle.cases.specs.Grids.{grid_of, p10}
use Rattle.cases.proofs.Idle.{pair-idle, cross-idle}
use Rattle.cases.proofs.Laws.{Values, fresh-value, call-value, sweep-by, next-sweep, last-sweep}
use Rattle.cases.proofs.Texts.{prints, prints-ended}

unfoldable pub g : List ℕ
g =
    0 ∷ 0 ∷ 0 ∷ 0 ∷ 0 ∷ 0 ∷ 0 ∷ 0 ∷ 0 ∷
    4 ∷ 5 ∷ 6 ∷ 0 ∷ 0 ∷ 0 ∷ 0 ∷ 0 ∷ 0 ∷
    7 ∷ 8 ∷ 9 ∷ 0 ∷ 0 ∷ 0 ∷ 0 ∷ 0 ∷ 0 ∷
    0 ∷ 0 ∷ 0 ∷ 0 ∷ 0 ∷ 0 ∷ 0 ∷ 0 ∷ 0 ∷
    0 ∷ 0 ∷ 0 ∷ 0 ∷ 0 ∷ 0 ∷ 0 ∷ 0 ∷ 0 ∷
    0 ∷ 0 ∷ 0 ∷ 0 ∷ 0 ∷ 0 ∷ 0 ∷ 0 ∷ 0 ∷
    0 ∷ 0 ∷ 0 ∷ 0 ∷ 0 ∷ 0 ∷ 0 ∷ 0 ∷ 0 ∷
    0 ∷ 0 ∷ 0 ∷ 0 ∷ 0 ∷ 0 ∷ 0 ∷ 0 ∷ 0 ∷
    0 ∷ 0 ∷ 0 ∷ 0 ∷ 0 ∷ 0 ∷ 0 ∷ 0 ∷ 0 ∷ []

unfoldable pub m : List ℕ
m =
    7 ∷ 7 ∷ 7 ∷ 511 ∷ 511 ∷ 511 ∷ 511 ∷ 511 ∷ 511 ∷
    8 ∷ 16 ∷ 32 ∷ 455 ∷ 455 ∷ 455 ∷ 455 ∷ 455 ∷ 455 ∷
    64 ∷ 128 ∷ 256 ∷ 63 ∷ 63 ∷ 63 ∷ 63 ∷ 63 ∷ 63 ∷
    439 ∷ 367 ∷ 223 ∷ 511 ∷ 511 ∷ 511 ∷ 511 ∷ 511 ∷ 511 ∷
    439 ∷ 367 ∷ 223 ∷ 511 ∷ 511 ∷ 511 ∷ 511 ∷ 511 ∷ 511 ∷
    439 ∷ 367 ∷ 223 ∷ 511 ∷ 511 ∷ 511 ∷ 511 ∷ 511 ∷ 511 ∷
    439 ∷ 367 ∷ 223 ∷ 511 ∷ 511 ∷ 511 ∷ 511 ∷ 511 ∷ 511 ∷
    439 ∷ 367 ∷ 223 ∷ 511 ∷ 511 ∷ 511 ∷ 511 ∷ 511 ∷ 511 ∷
    439 ∷ 367 ∷ 223 ∷ 511 ∷ 511 ∷ 511 ∷ 511 ∷ 511 ∷ 511 ∷ []

-- row 0 outside the first box has lost 1, 2 and 3
unfoldable pub n : List ℕ
n =
    7 ∷ 7 ∷ 7 ∷ 504 ∷ 504 ∷ 504 ∷ 504 ∷ 504 ∷ 504 ∷
    8 ∷ 16 ∷ 32 ∷ 455 ∷ 455 ∷ 455 ∷ 455 ∷ 455 ∷ 455 ∷
    64 ∷ 128 ∷ 256 ∷ 63 ∷ 63 ∷ 63 ∷ 63 ∷ 63 ∷ 63 ∷
    439 ∷ 367 ∷ 223 ∷ 511 ∷ 511 ∷ 511 ∷ 511 ∷ 511 ∷ 511 ∷
    439 ∷ 367 ∷ 223 ∷ 511 ∷ 511 ∷ 511 ∷ 511 ∷ 511 ∷ 511 ∷
    439 ∷ 367 ∷ 223 ∷ 511 ∷ 511 ∷ 511 ∷ 511 ∷ 511 ∷ 511 ∷
    439 ∷ 367 ∷ 223 ∷ 511 ∷ 511 ∷ 511 ∷ 511 ∷ 511 ∷ 511 ∷
    439 ∷ 367 ∷ 223 ∷ 511 ∷ 511 ∷ 511 ∷ 511 ∷ 511 ∷ 511 ∷
    439 ∷ 367 ∷ 223 ∷ 511 ∷ 511 ∷ 511 ∷ 511 ∷ 511 ∷ 511 ∷ []

pub values : Values p10 g m
unfolding p10 grid_of for givens_of g m fresh taken each cells peers
values = record { givens = refl; masks = refl }

eighteen : removed_by m n ≡ 18
unfolding total ones m n
eighteen = refl

differ : same_masks m n ≡ false
unfolding m n
differ = refl

-- ---- box-line

box-lines : box_lines g m ≡ n
unfolding g m n box_lines box_line_at spots gather ones each unit units
box-lines = refl

box-lines-again : box_lines g n ≡ n
unfolding g n box_lines box_line_at spots gather ones each unit units
box-lines-again = refl

first_run : (on_fresh box_line_call p10).masks ≡ n
unfolding outcome
first_run = ap (λ (o : Outcome). o.masks) (call-value values box_line_call) ∙ box-lines

second_run : outcome box_line_call (givens_of p10) (on_fresh box_line_call p10).masks ≡ outcome box_line_call g n
second_run =
    ap (λ (l : List ℕ). outcome box_line_call l (on_fresh box_line_call p10).masks) values.givens
    ∙ ap (outcome box_line_call g) first_run

none-reported : (outcome advanced_call g m).reports ≡ []
unfolding g m outcome naked_singles hidden_singles spots gather first_place ones each for cells unit units
none-reported = refl

-- ---- the two sweeps

pub lone₁ : pass g Lone m ≡ m
unfolding g m pass instances lones each step_taken step_of for peers cells
lone₁ = refl

pub place₁ : pass g Place m ≡ m
unfolding g m pass instances places each step_taken step_of for unit units
place₁ = refl

pub pair₁ : pass g Pair m ≡ m
unfolding g m ones_in unit units
pair₁ = pair-idle g m tt

pub pointing₁ : pass g Pointing m ≡ n
unfolding g m n pass instances pointings each step_taken step_of for unit units
pointing₁ = refl

pub lone₂ : pass g Lone n ≡ n
unfolding g n pass instances lones each step_taken step_of for peers cells
lone₂ = refl

pub place₂ : pass g Place n ≡ n
unfolding g n pass instances places each step_taken step_of for unit units
place₂ = refl

pub pair₂ : pass g Pair n ≡ n
unfolding g n ones_in unit units
pair₂ = pair-idle g n tt

pub pointing₂ : pass g Pointing n ≡ n
unfolding g n pass instances pointings each step_taken step_of for unit units
pointing₂ = refl

pub claiming : pass g Claiming n ≡ n
unfolding g n pass instances claimings each step_taken step_of for unit units
claiming = refl

pub cross : pass g Cross n ≡ n
unfolding g n spots gather ones_in unit units
cross = cross-idle g n tt

pub sweep₁ : sweep g m ≡ n
sweep₁ = sweep-by g m lone₁ place₁ pair₁ pointing₁ claiming cross

pub sweep₂ : sweep g n ≡ n
sweep₂ = sweep-by g n lone₂ place₂ pair₂ pointing₂ claiming cross

pub settles : settle g m ≡ record { sweeps = 2; left = n }
settles = next-sweep g 729 m sweep₁ differ ∙ rw (last-sweep g 728 n sweep₂)

settling-value : outcome settling_call g m ≡ record { flag = false; reports = []; sweeps = 2; removed = 18; masks = n }
unfolding outcome
settling-value = rw (settles, eighteen)

-- ---- the card

reads : parse_of p10_text ≡ gives p10
unfolding p10_text p10 grid_of for parse_of first cells
reads = refl

six : clue_count g cells ≡ 6
unfolding g clue_count cells
six = refl

still_open : verdict_of n ≡ Open
unfolding n verdict_of ones cells
still_open = refl

card : Card
card = record { clues = 6; reported = 0; sweeps = 2; removed = 18; verdict = Open; masks = n }

card-value : card_for p10 ≡ card
unfolding card_for card
card-value = rw (values.givens, values.masks, settling-value, none-reported, six, still_open)

bytes : card_bytes card ≡ p10_card
unfolding n card p10_card card_bytes line_of decimal digits_in cell_byte first_place ones cells
bytes = refl

shows : card_bytes (card_for p10) ≡ p10_card
shows = ap card_bytes card-value ∙ bytes

unended : get_or p10_text (length p10_text - 1) 0 ≡ 10 → ⊥
unfolding p10_text
unended e = omega arith

pub p10-holds : Case10
unfolding outcome
p10-holds =
    record {
      read = reads;
      flag = ap (λ (o : Outcome). o.flag) (call-value values box_line_call) ∙ ap (λ (l : List ℕ). not (same_masks m l)) box-lines ∙ ap not differ;
      removed = ap (removed_by (fresh_masks p10)) first_run ∙ ap (λ (l : List ℕ). removed_by l n) (fresh-value values) ∙ eighteen;
      again = ap (λ (o : Outcome). o.flag) second_run ∙ ap (λ (l : List ℕ). not (same_masks n l)) box-lines-again ∙ ap not (same_refl n);
      same = ap (λ (o : Outcome). o.masks) second_run ∙ box-lines-again ∙ sym first_run;
      reported = ap (λ (o : Outcome). o.reports) (call-value values advanced_call) ∙ none-reported;
      sweeps = ap (λ (o : Outcome). o.sweeps) (call-value values settling_call ∙ settling-value);
      settled = ap (λ (o : Outcome). o.removed) (call-value values settling_call ∙ settling-value);
      card = prints p10_text reads unended ∙ shows;
      card_ended = prints-ended p10_text reads ∙ shows;
    }
