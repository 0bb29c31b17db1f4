-- Cards of 81 clues: no cell is open, so nothing is lost, and the verifier decides. Assumes nothing.
use mathlib.Core.Path.{◌≡◌, refl, ap, ◌∙◌}
use mathlib.Core.Bool.{false, not}
use mathlib.Core.List.{List, [], ◌∷◌, ◌++◌, map}
use Prim.Native.Nat.{ℕ, ◌-◌, ◌^◌, ◌<◌}
use native.Mathlib.Decide.{dec_lt}
use native.Mathlib.Omega.{arith}
use borrow.Author.Tests.{not-true, eqb-false}
use lib.Count.{ones}
use lib.Dec.{T, eqb}
use lib.IntN.{ℤ}
use lib.ListN.{length, get_or, set}
use lib.Seq.{set_out}
use Rattle.stops.specs.Answer.{gives}
use Rattle.candidates.specs.Masks.{minus, first_place, gather}
use Rattle.candidates.proofs.Tests.{by-test, cond-false, all_below, below, T_true}
use Rattle.grid.specs.Cells.{cells, peers}
use Rattle.grid.specs.Fillings.{verified}
use Rattle.grid.specs.Units.{units, unit}
use Rattle.steps.specs.Boards.{at, givens_of, is_open, fresh, taken, total}
use Rattle.steps.specs.Calls.{outcome}
use Rattle.steps.specs.Loops.{each, for, first}
use Rattle.steps.specs.Passes.{Kind, instances, instance_taken, pass, settle, removed_by}
use Rattle.steps.specs.Instances.{step_of}
use Rattle.steps.specs.Ported.{spots}
use Rattle.steps.specs.Singles.{naked_singles, hidden_singles}
use Rattle.steps.specs.Steps.{Step, applies, lose_at, lose_all, step_taken}
use Rattle.steps.proofs.Loops.{each-idle}
use Rattle.board.specs.Boards.{clue_count, only_digits, verdict_of}
use Rattle.board.specs.declared.Verdict.{Verdict}
use Rattle.board.specs.declared.Verdict.TheVariants.{Dead, Finished}
use Rattle.text.specs.Texts.{parse_of}
use Rattle.card.specs.Cards.{card_of, card_for, card_bytes, printed}
use Rattle.output.specs.Decimals.{digits_in, decimal}
use Rattle.card.specs.Layout.{line_of, cell_byte}
use Rattle.cases.specs.Bytes.{digit_text, full_card, finished_word, dead_word}
use Rattle.cases.specs.Cases.{CaseFull}
use Rattle.cases.specs.Grids.{grid_of, grid_a, exchanged}
use Rattle.cases.proofs.Laws.{Values, settled-still}
use Rattle.cases.proofs.Texts.{prints}

-- ---- no open cell

module _ (g m : List ℕ) (size : length m ≡ 81) (full : (c : ℕ) → c < 81 → is_open g c ≡ false) where
  none-lost : (c k : ℕ) → lose_at (is_open g) c k m ≡ m
  none-lost c k = go (dec_lt c 81)
    where
      go : Dec (c < 81) → lose_at (is_open g) c k m ≡ m
      go (yes h) = cond-false (is_open g c) (set m c (minus (at m c) k)) m (full c h)
      go (no h) = by-test (λ (l : List ℕ). l ≡ m) (is_open g c) (set m c (minus (at m c) k)) m (λ t. set_out m c (minus (at m c) k) (omega arith)) (λ t. refl)

  none-taken : (s : Step) → step_taken (is_open g) s m ≡ m
  unfolding step_taken
  none-taken s =
      by-test (λ (l : List ℕ). l ≡ m) (applies s m) (lose_all (is_open g) s.hits s.loses m) m
      (λ t. each-idle (λ c. lose_at (is_open g) c (s.loses c)) s.hits m (λ c h. none-lost c (s.loses c)))
      (λ t. refl)

  still : (k : Kind) → pass g k m ≡ m
  unfolding pass
  still k = each-idle (instance_taken g) (instances k) m (λ x h. none-taken (step_of x))

-- ---- the card of 81 clues

-- no cell of the grid is open
abbrev Full : List ℕ → Type 0
Full g = T (all_below 81 (λ c. not (is_open g c)))

module _ {clues : List ℤ} {g m : List ℕ} (values : Values clues g m) (size : length m ≡ 81) (full : Full g) where
  settles : settle g m ≡ record { sweeps = 1; left = m }
  settles = settled-still g m (still g m size (λ c h. not-true (is_open g c) (T_true _ (below 81 (λ c. not (is_open g c)) full c h))))

  card-value : {v : Verdict} → verdict_of m ≡ v → clue_count g cells ≡ 81 → naked_singles g m ++ hidden_singles g m ≡ [] → removed_by m m ≡ 0
      → card_for clues ≡ record { clues = 81; reported = 0; sweeps = 1; removed = 0; verdict = v; masks = m }
  unfolding card_for outcome
  card-value p q r s = rw (values.givens, values.masks, settles, p, q, r, s)

-- ---- grid A, and the same with cells 0 and 1 exchanged

-- the digit of each clue, alone
abbrev alone : List ℕ → List ℕ
alone g = map (λ d. 2 ^ (d - 1)) g

rows : List ℕ
rows =
    3 ∷ 4 ∷ 5 ∷ 6 ∷ 7 ∷ 8 ∷ 9 ∷
    4 ∷ 5 ∷ 6 ∷ 7 ∷ 8 ∷ 9 ∷ 1 ∷ 2 ∷ 3 ∷
    7 ∷ 8 ∷ 9 ∷ 1 ∷ 2 ∷ 3 ∷ 4 ∷ 5 ∷ 6 ∷
    2 ∷ 3 ∷ 1 ∷ 5 ∷ 6 ∷ 4 ∷ 8 ∷ 9 ∷ 7 ∷
    5 ∷ 6 ∷ 4 ∷ 8 ∷ 9 ∷ 7 ∷ 2 ∷ 3 ∷ 1 ∷
    8 ∷ 9 ∷ 7 ∷ 2 ∷ 3 ∷ 1 ∷ 5 ∷ 6 ∷ 4 ∷
    3 ∷ 1 ∷ 2 ∷ 6 ∷ 4 ∷ 5 ∷ 9 ∷ 7 ∷ 8 ∷
    6 ∷ 4 ∷ 5 ∷ 9 ∷ 7 ∷ 8 ∷ 3 ∷ 1 ∷ 2 ∷
    9 ∷ 7 ∷ 8 ∷ 3 ∷ 1 ∷ 2 ∷ 6 ∷ 4 ∷ 5 ∷ []

g : List ℕ
g = 1 ∷ 2 ∷ rows

h : List ℕ
h = 2 ∷ 1 ∷ rows

-- what is evaluated of a full grid
record Evaluated (clues : List ℤ) (g : List ℕ) (v : Verdict) (word : List ℕ) : Type 0 where
  values : Values clues g (alone g)
  size : length (alone g) ≡ 81
  full : Full g
  reads : parse_of (digit_text clues) ≡ gives clues
  last : eqb (get_or (digit_text clues) (length (digit_text clues) - 1) 0) 10 ≡ false
  verdict : verdict_of (alone g) ≡ v
  count : clue_count g cells ≡ 81
  silent : naked_singles g (alone g) ++ hidden_singles g (alone g) ≡ []
  removed : removed_by (alone g) (alone g) ≡ 0
  bytes : card_bytes (record { clues = 81; reported = 0; sweeps = 1; removed = 0; verdict = v; masks = alone g }) ≡ full_card word (digit_text clues)

shows : {clues : List ℤ} {g : List ℕ} {v : Verdict} {word : List ℕ} → Evaluated clues g v word → printed (card_of (digit_text clues)) ≡ full_card word (digit_text clues)
shows {clues} e =
    prints (digit_text clues) e.reads (eqb-false _ 10 e.last)
    ∙ ap card_bytes (card-value e.values e.size e.full e.verdict e.count e.silent e.removed) ∙ e.bytes

right : Evaluated grid_a g Finished finished_word
unfolding g rows grid_a grid_of givens_of fresh taken parse_of first verdict_of only_digits verified clue_count naked_singles hidden_singles spots gather total full_card card_bytes line_of decimal digits_in cell_byte first_place ones each for cells peers unit units
right = record { values = record { givens = refl; masks = refl }; size = refl; full = tt; reads = refl; last = refl; verdict = refl; count = refl; silent = refl; removed = refl; bytes = refl }

repeated : Evaluated exchanged h Dead dead_word
unfolding h rows exchanged grid_a grid_of givens_of fresh taken parse_of first verdict_of only_digits verified clue_count naked_singles hidden_singles spots gather total full_card card_bytes line_of decimal digits_in cell_byte first_place ones each for cells peers unit units
repeated = record { values = record { givens = refl; masks = refl }; size = refl; full = tt; reads = refl; last = refl; verdict = refl; count = refl; silent = refl; removed = refl; bytes = refl }

pub full-holds : CaseFull
full-holds = record { right = shows right; repeated = shows repeated }
