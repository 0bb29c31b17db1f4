-- Demand 2: "Reader, fresh masks, singles, the three eliminations and the verifier are also proved against definitions from the Sudoku rules and the published step descriptions."
-- The calls' contracts go by `fresh`, `verified` and `outcome`. Here these are held to the rules (grid/specs/Fillings) and to the published descriptions (Published), which they meet and nothing else does. The reader's definition is text/specs/Texts. proofs/Demand2.antt shows it.
use Rattle.std.specs.Prelude.{◌≡◌, ◌↔◌, true, List, ℕ, ℤ, length}
use Rattle.grid.specs.Fillings.{verified, Correct}
use Rattle.steps.specs.Boards.{fresh, Givens, Admissible}
use Rattle.steps.specs.Calls.{naked_pairs_call, box_line_call, x_wing_call, naked_singles_call, hidden_singles_call, outcome}
use Rattle.steps.specs.Published.{FreshMasks, NakedSinglePass, HiddenSinglePass, NakedPairPass, BoxLinePass, XWingPass}
use Rattle.steps.specs.Singles.{Report}

-- g are givens and m masks; where nothing is asked of them, they are any lists.
pub record Demand2 : Type 0 where
  -- "A clue cell's mask is its digit alone"; "an open cell holds d exactly if no peer's clue is d"
  pub fresh_masks : (g : List ℕ) → Givens g → (n : List ℕ) → FreshMasks g n ↔ (n ≡ fresh g)
  -- "yes exactly if all 81 signed 32-bit numbers are 1 to 9 and no unit repeats one"
  pub verifier : (f : List ℤ) → length f ≡ 81 → (verified f ≡ true) ↔ Correct f
  -- "Naked: open cells rising with one candidate"
  pub naked_singles : (g m : List ℕ) → Givens g → Admissible g m → (rs : List Report) → NakedSinglePass g m rs ↔ (rs ≡ (outcome naked_singles_call g m).reports)
  -- "Hidden: rows, columns, boxes, in each unit digits rising, where one open cell holds it; .. repeats kept"
  pub hidden_singles : (g m : List ℕ) (rs : List Report) → HiddenSinglePass g m rs ↔ (rs ≡ (outcome hidden_singles_call g m).reports)
  -- "Naked pairs: rows, columns, boxes. First cell rising, second above it, both open, equal masks of two digits, tested when reached: other open cells of the unit lose both."
  pub naked_pairs : (g m : List ℕ) → Givens g → Admissible g m → (n : List ℕ) → NakedPairPass g m n ↔ (n ≡ (outcome naked_pairs_call g m).masks)
  -- "Box-line: box, then digit. Two or more open cells of the box hold d. All in one row: open cells of that row outside the box lose d. Then columns likewise."
  pub box_lines : (g m n : List ℕ) → BoxLinePass g m n ↔ (n ≡ (outcome box_line_call g m).masks)
  -- "X-wing: per digit, list all rows with exactly two open cells holding d, then for each two listed rows (in order) with equal columns, the open cells of all other rows lose d in those columns. .. After all digits, the same with rows and columns exchanged."
  pub x_wings : (g m n : List ℕ) → XWingPass g m n ↔ (n ≡ (outcome x_wing_call g m).masks)
