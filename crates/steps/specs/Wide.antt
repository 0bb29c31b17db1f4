-- The wide passes in plain words (module 8; Claiming: document 02, F-5): for each kind when an instance applies and what it loses, by "there is" and "for all" over cells, units and digits, and which masks are settled. proofs/Wide.antt shows that the steps of Instances are these, on all masks.
-- "Conditions read all 81 masks, clue cells too; only open cells lose digits": g are the givens, m the masks. Digits are places 0 to 8; of what else a mask may hold nothing is asked.
use Rattle.std.specs.Prelude.{◌≡◌, ◌≢◌, ◌⊎◌, ◌↔◌, true, ℕ, ◌+◌, ◌≤◌, ◌<◌}
use mathlib.Core.List.{List, Memᴰ}
use Rattle.grid.specs.Units.{unit_cell, Member, ShareUnit}
use Rattle.steps.specs.Instances.{Instance, lone, place, pair, pointing, claiming, cross, exchanged, line_of, box_of, step_of}
use Rattle.steps.specs.Passes.{Kind, instances, instance_taken, Settled}
use Rattle.steps.specs.Published.{Open, Candidate, Without, NakedPairLoss, LockedLoss, Crossing, XWingLoss}
use Rattle.steps.specs.Steps.{applies}

-- ---- Lone

-- "The cell holds nothing but d (or nothing)"
pub record LoneCell (m : List ℕ) (c d : ℕ) : Type 0 where
  pub alone : (a : ℕ) → a < 9 → Candidate m c a → a ≡ d

-- "its peers lose d": the open ones
pub record LoneLoss (g : List ℕ) (c d : ℕ) (x k : ℕ) : Type 0 where
  pub peer : ShareUnit c x
  pub free : Open g x
  pub digit : k ≡ d

-- ---- Place

-- "No other cell of the unit holds d"
pub record OnlyPlace (m : List ℕ) (u d c : ℕ) : Type 0 where
  pub alone : (e : ℕ) → Member u e → Candidate m e d → e ≡ c

-- "the cell loses all but d", if it is open
pub record PlaceLoss (g : List ℕ) (d c : ℕ) (x k : ℕ) : Type 0 where
  pub cell : x ≡ c
  pub free : Open g x
  pub digit : k < 9
  pub other : k ≢ d

-- ---- Pair

-- "Both hold nothing outside a, b"; "the unit's other cells lose both" is `NakedPairLoss`
pub record PairCells (m : List ℕ) (c e a b : ℕ) : Type 0 where
  pub first : (d : ℕ) → d < 9 → Candidate m c d → (d ≡ a) ⊎ (d ≡ b)
  pub second : (d : ℕ) → d < 9 → Candidate m e d → (d ≡ a) ⊎ (d ≡ b)

-- ---- Pointing and Claiming

-- "All cells of the box holding d are on that line", and "all cells of a row or column that hold d are in one box", over any two units u and v; what v's cells outside u lose is `LockedLoss`
pub record Locked (m : List ℕ) (u v d : ℕ) : Type 0 where
  pub inside : (e : ℕ) → Member u e → Candidate m e d → Member v e

-- a box u and a row or column v that have a cell in common
pub record Meets (u v : ℕ) : Type 0 where
  pub box : (18 ≤ u) × (u < 27)
  pub line : v < 18
  pub shared : ℕ
  pub in_box : Member u shared
  pub in_line : Member v shared

-- ---- Cross

-- "All cells holding d in those rows are in c1 or c2", over any lines u, v and x, y; "the cells of those columns outside r1 and r2 lose d" is `XWingLoss`
pub record CrossCells (m : List ℕ) (u v x y d : ℕ) : Type 0 where
  pub inside : (e : ℕ) → Member u e ⊎ Member v e → Candidate m e d → Member x e ⊎ Member y e

-- ---- instances

-- the condition of an instance
abbrev pub Condition : List ℕ → Instance → Type 0
Condition m (lone c d) = LoneCell m c d
Condition m (place u d i) = OnlyPlace m u d (unit_cell u i)
Condition m (pair u i j a b) = PairCells m (unit_cell u i) (unit_cell u j) a b
Condition m (pointing b d k) = Locked m (18 + b) (line_of b k) d
Condition m (claiming l d k) = Locked m l (box_of l k) d
Condition m (cross d r₁ r₂ c₁ c₂) = CrossCells m r₁ r₂ (9 + c₁) (9 + c₂) d
Condition m (exchanged d c₁ c₂ r₁ r₂) = CrossCells m (9 + c₁) (9 + c₂) r₁ r₂ d

-- what an instance loses, by cell and digit
abbrev pub Loss : List ℕ → Instance → ℕ → ℕ → Type 0
Loss g (lone c d) = LoneLoss g c d
Loss g (place u d i) = PlaceLoss g d (unit_cell u i)
Loss g (pair u i j a b) = NakedPairLoss g u (unit_cell u i) (unit_cell u j) a b
Loss g (pointing b d k) = LockedLoss g (18 + b) (line_of b k) d
Loss g (claiming l d k) = LockedLoss g l (box_of l k) d
Loss g (cross d r₁ r₂ c₁ c₂) = XWingLoss g r₁ r₂ (9 + c₁) (9 + c₂) d
Loss g (exchanged d c₁ c₂ r₁ r₂) = XWingLoss g (9 + c₁) (9 + c₂) r₁ r₂ d

-- An instance on the masks m: its test passes exactly if its condition holds; then exactly its open cells lose exactly its digits, and else nothing is lost.
pub record InWords (g m : List ℕ) (x : Instance) : Type 0 where
  pub test : (applies (step_of x) m ≡ true) ↔ Condition m x
  pub loses : Condition m x → Without m (Loss g x) (instance_taken g x m)
  pub keeps : ¬ (Condition m x) → instance_taken g x m ≡ m

-- ---- settled masks

-- a candidate that the loss names
pub record Removes (m : List ℕ) (loss : ℕ → ℕ → Type 0) : Type 0 where
  pub cell : ℕ
  pub digit : ℕ
  pub held : Candidate m cell digit
  pub lost : loss cell digit

-- "no instance of the six" would remove a candidate, over all cells, units and digits
pub record NoneRemoves (g m : List ℕ) : Type 0 where
  -- "Lone: cell, digit d"
  pub on_lone : (c d : ℕ) → c < 81 → d < 9 → LoneCell m c d → ¬ (Removes m (LoneLoss g c d))
  -- "Place: unit, digit d, cell of it"
  pub on_place : (u d c : ℕ) → u < 27 → d < 9 → Member u c → OnlyPlace m u d c → ¬ (Removes m (PlaceLoss g d c))
  -- "Pair: unit, two cells, digits a < b"
  pub on_pair : (u c e a b : ℕ) → u < 27 → Member u c → Member u e → c ≢ e → a < 9 → b < 9 → a ≢ b → PairCells m c e a b → ¬ (Removes m (NakedPairLoss g u c e a b))
  -- "Pointing: box, digit, its three rows then three columns"
  pub on_pointing : (u v d : ℕ) → Meets u v → d < 9 → Locked m u v d → ¬ (Removes m (LockedLoss g u v d))
  -- Claiming: row or column u, digit, box v that meets it
  pub on_claiming : (u v d : ℕ) → Meets v u → d < 9 → Locked m u v d → ¬ (Removes m (LockedLoss g u v d))
  -- "Cross: digit, rows r1 < r2, columns c1 < c2", and exchanged
  pub on_cross : (u v x y d : ℕ) → Crossing u v x y → d < 9 → CrossCells m u v x y d → ¬ (Removes m (XWingLoss g u v x y d))

-- ---- the promise

-- Every instance of the six passes is as the words say, and masks are settled exactly if no instance would remove a candidate.
pub record Module8 : Type 0 where
  pub instance : (k : Kind) (x : Instance) → Memᴰ x (instances k) → (g m : List ℕ) → InWords g m x
  pub settled : (g m : List ℕ) → Settled g m ↔ NoneRemoves g m
