-- Document 02, F-13, the promise: what follows a change of clothes. proofs/OtherClothes.antt shows it.
-- "Sweep counts and the order of reports may differ between the two", and of these nothing is said; crate cases has a grid where they do.
use Rattle.std.specs.Prelude.{◌≡◌, Bool, true, false, ◌&&◌, List, [], ◌∷◌, ℕ, ◌<◌, ℤ}
use Rattle.stops.specs.Answer.{Answer, map}
use Rattle.steps.specs.Boards.{Board, givens}
use Rattle.steps.specs.Calls.{Clues, Entries, Admitted, Call, update_candidates, naked_pairs_call, box_line_call, x_wing_call, naked_singles_call, hidden_singles_call, advanced_call, wide, settling_call, chain_call, x_chain_call, without_chain, Outcome, answer, left, run, opened_with}
use Rattle.steps.specs.Passes.{Settled}
use Rattle.symmetries.specs.Changes.{Moves, OneToOne, Change, Symmetry, chained, changed_clues, changed_board, relabelling, InOneGroup, rows_exchanged, columns_exchanged, bands_exchanged, stacks_exchanged, turned}

-- ---- lists of eliminations

-- "the ported eliminations or either chain pass"
abbrev pub follows_labels : Call → Bool
follows_labels naked_pairs_call = true
follows_labels box_line_call = true
follows_labels x_wing_call = true
follows_labels chain_call = true
follows_labels x_chain_call = true
follows_labels update_candidates = false
follows_labels naked_singles_call = false
follows_labels hidden_singles_call = false
follows_labels advanced_call = false
follows_labels (wide k) = false
follows_labels settling_call = false

abbrev pub all_follow : List Call → Bool
all_follow [] = true
all_follow (k ∷ ks) = follows_labels k && all_follow ks

-- what the calls of a list say of progress, one after the other
unfoldable pub flags : List Call → Board → List (Answer Bool)
flags [] b = []
flags (k ∷ ks) b = map (λ (o : Outcome). o.flag) (answer k b) ∷ flags ks (left b (answer k b))

-- ---- settled boards

-- the board that settling leaves
abbrev pub settled_board : Board → Board
settled_board b = run (settling_call ∷ []) b

-- "A board is settled when none of the" six "wide steps would remove a candidate."
abbrev pub IsSettled : Board → Type 0
IsSettled b = Settled (givens b) b.masks

-- ---- the promise

pub record OtherClothes : Type 0 where
  -- each of the six kinds is a symmetry, and so is any chain of symmetries, which changes a board as they do one after the other
  pub labels : (f : Moves) → OneToOne 9 f → Symmetry (relabelling f)
  pub rows : (r s : ℕ) → r < 9 → s < 9 → InOneGroup r s → Symmetry (rows_exchanged r s)
  pub columns : (k l : ℕ) → k < 9 → l < 9 → InOneGroup k l → Symmetry (columns_exchanged k l)
  pub bands : (a b : ℕ) → a < 3 → b < 3 → Symmetry (bands_exchanged a b)
  pub stacks : (a b : ℕ) → a < 3 → b < 3 → Symmetry (stacks_exchanged a b)
  pub turns : Symmetry turned
  pub chains : (v w : Change) → Symmetry v → Symmetry w → Symmetry (chained v w)
  pub after : (v w : Change) → Symmetry v → Symmetry w → (b : Board) → changed_board (chained v w) b ≡ changed_board w (changed_board v b)
  -- a change takes boards that no listed stop refuses to such boards, and fresh boards to fresh ones
  pub admitted : (w : Change) → Symmetry w → (b : Board) → Admitted b → Admitted (changed_board w b)
  pub fresh : (w : Change) → Symmetry w → (clues entries : List ℤ) → Clues clues → Entries clues entries
      → changed_board w (opened_with clues entries) ≡ opened_with (changed_clues w clues) (changed_clues w entries)
  -- "Relabelling the nine digits one to one and then running any list of the ported eliminations or either chain pass gives the relabelled masks of the run without it, and the same progress flags."
  pub lists : (f : Moves) → OneToOne 9 f → (b : Board) → Admitted b → (ks : List Call) → all_follow ks ≡ true
      → (run ks (changed_board (relabelling f) b) ≡ changed_board (relabelling f) (run ks b)) × (flags ks (changed_board (relabelling f) b) ≡ flags ks b)
  -- "The settled board follows": settling the changed board gives the changed masks
  pub settled : (w : Change) → Symmetry w → (b : Board) → Admitted b → settled_board (changed_board w b) ≡ changed_board w (settled_board b)
  -- and so the grid's own: any two lists that contain neither chain pass and end settled, one on the grid and one on the grid in other clothes
  pub ends : (w : Change) → Symmetry w → (clues entries : List ℤ) → Clues clues → Entries clues entries → (ks ls : List Call) → without_chain ks ≡ true → without_chain ls ≡ true
      → IsSettled (run ks (opened_with clues entries)) → IsSettled (run ls (opened_with (changed_clues w clues) (changed_clues w entries)))
      → run ls (opened_with (changed_clues w clues) (changed_clues w entries)) ≡ changed_board w (run ks (opened_with clues entries))
