-- The published descriptions of the ported steps, by "there is" and "for all" over cells and digits of a unit: when a step is there, and what it reports or loses.
-- g are the givens, m the masks; digits are places. That the engine's fresh masks and its ported calls are these is demand 2 (Demand2).
use Rattle.std.specs.Prelude.{◌≡◌, ◌≢◌, ◌⊎◌, ◌↔◌, true, false, List, [], ◌∷◌, ◌++◌, ℕ, suc, ◌+◌, ◌≤◌, ◌<◌, length}
use Rattle.candidates.specs.Masks.{has}
use Rattle.grid.specs.Cells.{sees, cells}
use Rattle.grid.specs.Units.{unit_cell, Member}
use Rattle.steps.specs.Boards.{at, given, is_open}
use Rattle.steps.specs.Instances.{line_of}
use Rattle.steps.specs.Loops.{up_to, above}
use Rattle.steps.specs.Singles.{Report}

-- the cell has no given digit
abbrev pub Open : List ℕ → ℕ → Type 0
Open g c = is_open g c ≡ true

-- d is a candidate of the cell
abbrev pub Candidate : List ℕ → ℕ → ℕ → Type 0
Candidate m c d = has (at m c) d ≡ true

-- an open cell of which d is a candidate
pub record Holder (g m : List ℕ) (d c : ℕ) : Type 0 where
  pub free : Open g c
  pub held : Candidate m c d

-- What a removal leaves: n has the candidates of m but for those that `lost` names, by cell and digit.
pub record Without (m : List ℕ) (lost : ℕ → ℕ → Type 0) (n : List ℕ) : Type 0 where
  pub size : length n ≡ length m
  pub left : (c d : ℕ) → Candidate n c d ↔ (Candidate m c d × ¬ (lost c d))

-- ---- fresh candidates

-- From the rules: no cell that c sees is given d.
pub record FreshCandidate (g : List ℕ) (c d : ℕ) : Type 0 where
  pub digit : d < 9
  pub unseen : (e : ℕ) → e < 81 → sees c e ≡ true → given g e ≢ suc d

-- the 81 masks of a fresh board
pub record FreshMasks (g n : List ℕ) : Type 0 where
  pub size : length n ≡ 81
  -- "an open cell holds d exactly if no peer's clue is d"
  pub open_cells : (c d : ℕ) → c < 81 → Open g c → Candidate n c d ↔ FreshCandidate g c d
  -- "A clue cell's mask is its digit alone"
  pub clue_cells : (c d : ℕ) → c < 81 → is_open g c ≡ false → Candidate n c d ↔ (given g c ≡ suc d)

-- ---- singles

-- Naked single: d is the only candidate of an open cell.
pub record NakedSingle (g m : List ℕ) (c d : ℕ) : Type 0 where
  pub holder : Holder g m d c
  pub alone : (a : ℕ) → Candidate m c a → a ≡ d

-- Hidden single: of the open cells of a unit, c alone holds d.
pub record HiddenSingle (g m : List ℕ) (u d c : ℕ) : Type 0 where
  pub member : Member u c
  pub holder : Holder g m d c
  pub alone : (e : ℕ) → Member u e → Holder g m d e → e ≡ c

-- the report of d in cell c
abbrev pub report_of : ℕ → ℕ → Report
report_of c d = record { cell = c; digit = suc d }

-- ---- naked pair

-- Two open cells of a unit that have the same two candidates and no others.
pub record NakedPair (g m : List ℕ) (u c e a b : ℕ) : Type 0 where
  pub apart : c ≢ e
  pub first : Member u c
  pub second : Member u e
  pub free₁ : Open g c
  pub free₂ : Open g e
  pub digits : a ≢ b
  pub held₁ : (d : ℕ) → Candidate m c d ↔ ((d ≡ a) ⊎ (d ≡ b))
  pub held₂ : (d : ℕ) → Candidate m e d ↔ ((d ≡ a) ⊎ (d ≡ b))

-- the other open cells of the unit lose both digits
pub record NakedPairLoss (g : List ℕ) (u c e a b : ℕ) (x d : ℕ) : Type 0 where
  pub member : Member u x
  pub free : Open g x
  pub other₁ : x ≢ c
  pub other₂ : x ≢ e
  pub digit : (d ≡ a) ⊎ (d ≡ b)

-- ---- pointing

-- The open cells of box u that hold d, two or more, all lie in line v.
pub record Pointing (g m : List ℕ) (u v d : ℕ) : Type 0 where
  pub one : ℕ
  pub two : ℕ
  pub apart : one ≢ two
  pub member₁ : Member u one
  pub member₂ : Member u two
  pub holder₁ : Holder g m d one
  pub holder₂ : Holder g m d two
  pub inside : (e : ℕ) → Member u e → Holder g m d e → Member v e

-- the open cells of v outside u lose d
pub record LockedLoss (g : List ℕ) (u v d : ℕ) (x k : ℕ) : Type 0 where
  pub member : Member v x
  pub free : Open g x
  pub outside : ¬ (Member u x)
  pub digit : k ≡ d

-- ---- X-wing

abbrev pub Rows : ℕ → ℕ → Type 0
Rows u v = (u < 9) × (v < 9)

abbrev pub Columns : ℕ → ℕ → Type 0
Columns u v = (9 ≤ u) × (u < 18) × (9 ≤ v) × (v < 18)

-- Two different rows u and v and two different columns x and y, or the other way round.
pub record Crossing (u v x y : ℕ) : Type 0 where
  pub lines : (Rows u v × Columns x y) ⊎ (Columns u v × Rows x y)
  pub apart₁ : u ≢ v
  pub apart₂ : x ≢ y

-- Of the open cells of u just those in x and y hold d, and of v likewise.
pub record XWing (g m : List ℕ) (u v x y d : ℕ) : Type 0 where
  pub crossing : Crossing u v x y
  pub corner₁ : (e : ℕ) → Member u e → Holder g m d e ↔ (Member x e ⊎ Member y e)
  pub corner₂ : (e : ℕ) → Member v e → Holder g m d e ↔ (Member x e ⊎ Member y e)

-- the open cells of x and y outside u and v lose d
pub record XWingLoss (g : List ℕ) (u v x y d : ℕ) (e k : ℕ) : Type 0 where
  pub member : Member x e ⊎ Member y e
  pub free : Open g e
  pub outside₁ : ¬ (Member u e)
  pub outside₂ : ¬ (Member v e)
  pub digit : k ≡ d

-- ---- passes

-- One turn of a pass, from s to t: where the pattern is there, t is what the pattern makes of s; where it is not, t is s.
pub record Turn {A S : Type 0} (pattern : A → Type 0) (makes : A → S → Type 0) (s t : S) : Type 0 where
  pub some : (a : A) → pattern a → makes a t
  pub none : ((a : A) → ¬ (pattern a)) → t ≡ s

-- turns one after the other, one for each member of a list
pub data Turns {A S : Type 0} (turn : A → S → S → Type 0) : List A → S → S → Type 0 where
  done : {s : S} → Turns turn [] s s
  next : {x : A} {xs : List A} {s t o : S} → turn x s t → Turns turn xs t o → Turns turn (x ∷ xs) s o

-- a single is one report more, behind those that there are
abbrev pub NakedSingleTurn : List ℕ → List ℕ → ℕ → List Report → List Report → Type 0
NakedSingleTurn g m c rs ss = Turn (λ d. NakedSingle g m c d) (λ d ss. ss ≡ rs ++ report_of c d ∷ []) rs ss

abbrev pub HiddenSingleTurn : List ℕ → List ℕ → ℕ → ℕ → List Report → List Report → Type 0
HiddenSingleTurn g m u d rs ss = Turn (λ c. HiddenSingle g m u d c) (λ c ss. ss ≡ rs ++ report_of c d ∷ []) rs ss

-- an elimination loses what its pattern names
abbrev pub NakedPairTurn : List ℕ → ℕ → ℕ → ℕ → List ℕ → List ℕ → Type 0
NakedPairTurn g u c e m n = Turn (λ (w : ℕ × ℕ). NakedPair g m u c e w.0 w.1) (λ w. Without m (NakedPairLoss g u c e w.0 w.1)) m n

abbrev pub PointingTurn : List ℕ → ℕ → ℕ → ℕ → List ℕ → List ℕ → Type 0
PointingTurn g u v d m n = Turn (λ (w : Unit {0}). Pointing g m u v d) (λ w. Without m (LockedLoss g u v d)) m n

-- the pattern is sought in the masks o
abbrev pub XWingTurn : List ℕ → List ℕ → ℕ → ℕ → ℕ → List ℕ → List ℕ → Type 0
XWingTurn g o d u v m n = Turn (λ (w : ℕ × ℕ). XWing g o u v w.0 w.1 d) (λ w. Without m (XWingLoss g u v w.0 w.1 d)) m n

-- "open cells rising with one candidate", from no reports on
abbrev pub NakedSinglePass : List ℕ → List ℕ → List Report → Type 0
NakedSinglePass g m rs = Turns (NakedSingleTurn g m) cells [] rs

-- "rows, columns, boxes, in each unit digits rising, where one open cell holds it; .. repeats kept"
abbrev pub HiddenSinglePass : List ℕ → List ℕ → List Report → Type 0
HiddenSinglePass g m rs = Turns (λ u. Turns (HiddenSingleTurn g m u) (up_to 9)) (up_to 27) [] rs

-- "rows, columns, boxes. First cell rising, second above it, .. tested when reached"
abbrev pub NakedPairPass : List ℕ → List ℕ → List ℕ → Type 0
NakedPairPass g = Turns (λ u. Turns (λ i. Turns (λ j. NakedPairTurn g u (unit_cell u i) (unit_cell u j)) (above i 9)) (up_to 9)) (up_to 27)

-- "box, then digit. .. Then columns likewise"
abbrev pub BoxLinePass : List ℕ → List ℕ → List ℕ → Type 0
BoxLinePass g = Turns (λ b. Turns (λ d. Turns (λ k. PointingTurn g (18 + b) (line_of b k) d) (up_to 6)) (up_to 9)) (up_to 9)

-- the lines are the nine from unit l on; "The list is not renewed between": the pattern is sought in the masks of the digit's start
abbrev pub XWingDigit : List ℕ → ℕ → ℕ → List ℕ → List ℕ → Type 0
XWingDigit g l d m n = Turns (λ r. Turns (λ s. XWingTurn g m d (l + r) (l + s)) (above r 9)) (up_to 9) m n

-- rows, "After all digits, the same with rows and columns exchanged"
pub record XWingPass (g m n : List ℕ) : Type 0 where
  pub between : List ℕ
  pub rows : Turns (XWingDigit g 0) (up_to 9) m between
  pub columns : Turns (XWingDigit g 9) (up_to 9) between n
