-- P1, the empty grid. Assumes nothing.
use mathlib.Core.Path.{◌≡◌, refl, ap, ◌∙◌}
use mathlib.Core.Bool.{false}
use mathlib.Core.List.{List, [], ◌∷◌}
use Prim.Native.Nat.{ℕ}
use lib.Count.{ones_in, ones}
use lib.ListN.{replicate}
use Rattle.candidates.specs.Masks.{gather}
use Rattle.grid.specs.Cells.{cells, peers}
use Rattle.grid.specs.Lists.{each}
use Rattle.grid.specs.Units.{units, unit}
use Rattle.steps.specs.Boards.{givens_of, together, fresh, taken, total}
use Rattle.steps.specs.Calls.{Outcome, naked_singles_call, hidden_singles_call, advanced_call, settling_call, outcome, opened, opened_with}
use Rattle.steps.specs.Chains.{first_some, weak_links, strong_links, enter, chain_end, chain_digit, chains}
use Rattle.steps.specs.Instances.{step_of, lones, places, pointings, claimings}
use Rattle.steps.specs.Loops.{for, first}
use Rattle.steps.specs.Passes.{Kind, Lone, Place, Pair, Pointing, Claiming, Cross, instances, pass, settle, Sweeps, removed_by}
use Rattle.steps.specs.Ported.{spots, naked_pair_at, naked_pairs, box_line_at, box_lines, x_wing_at, x_wing_digit, x_wings}
use Rattle.steps.specs.Singles.{naked_singles, hidden_singles}
use Rattle.steps.specs.Steps.{step_taken}
use Rattle.text.specs.Texts.{parse_of}
use Rattle.record.specs.declared.forms.Form.TheVariants.{Old}
use Rattle.record.specs.Records.{bytes_in, digit_sets, lacking}
use Rattle.record.specs.Sections.{section_bytes, candidates}
use Rattle.cases.specs.Grids.{grid_of, p1}
use Rattle.cases.specs.Cases.{Case1}
use Rattle.cases.proofs.Idle.{pair-idle, cross-idle}
use Rattle.cases.proofs.Laws.{Values, fresh-value, call-value, all-idle, settled-still, every-pass}

g : List ℕ
g = replicate 81 0

m : List ℕ
m = replicate 81 511

values : Values p1 g m
unfolding p1 grid_of for givens_of g m fresh taken each cells peers
values = record { givens = refl; masks = refl }

-- ---- the passes

naked-pairs : naked_pairs g m ≡ m
unfolding g m naked_pairs naked_pair_at ones each unit units
naked-pairs = refl

box-lines : box_lines g m ≡ m
unfolding g m box_lines box_line_at spots gather ones each unit units
box-lines = refl

x-wings : x_wings g m ≡ m
unfolding g m x_wings x_wing_digit x_wing_at spots gather ones each unit units
x-wings = refl

chain-pass : chains g m ≡ m
unfolding g m chains chain_digit chain_end enter first_some weak_links strong_links each for unit units peers cells
chain-pass = refl

lone : pass g Lone m ≡ m
unfolding g m pass instances lones each step_taken step_of for peers cells
lone = refl

place : pass g Place m ≡ m
unfolding g m pass instances places each step_taken step_of for unit units
place = refl

pair : pass g Pair m ≡ m
unfolding g m ones_in unit units
pair = pair-idle g m tt

pointing : pass g Pointing m ≡ m
unfolding g m pass instances pointings each step_taken step_of for unit units
pointing = refl

claiming : pass g Claiming m ≡ m
unfolding g m pass instances claimings each step_taken step_of for unit units
claiming = refl

cross : pass g Cross m ≡ m
unfolding g m spots gather ones_in unit units
cross = cross-idle g m tt

wide-pass : (k : Kind) → pass g k m ≡ m
wide-pass = every-pass g m lone place pair pointing claiming cross

-- ---- singles

nothing-naked : (outcome naked_singles_call g m).flag ≡ false
unfolding g m outcome naked_singles ones for cells
nothing-naked = refl

nothing_hidden : (outcome hidden_singles_call g m).flag ≡ false
unfolding g m outcome hidden_singles spots gather ones for unit units
nothing_hidden = refl

no-progress : (outcome advanced_call g m).flag ≡ false
unfolding g m outcome naked_singles hidden_singles naked_pairs naked_pair_at spots gather ones each for cells unit units
no-progress = refl

-- ---- settling

settles : settle g m ≡ record { sweeps = 1; left = m }
settles = settled-still g m wide-pass

none-removed : removed_by m m ≡ 0
unfolding total ones m
none-removed = refl

-- ---- the record

no_bytes : bytes_in Old (opened p1) ≡ 0 ∷ 0 ∷ 0 ∷ []
unfolding bytes_in opened_with together section_bytes digit_sets lacking candidates p1 grid_of for givens_of fresh taken each cells peers
no_bytes = refl

pub p1-holds : Case1
unfolding m outcome parse_of first cells p1 grid_of for
p1-holds =
    record {
      read = refl;
      masks = fresh-value values;
      passes = all-idle values naked-pairs box-lines x-wings chain-pass wide-pass;
      naked = ap (λ (o : Outcome). o.flag) (call-value values naked_singles_call) ∙ nothing-naked;
      hidden = ap (λ (o : Outcome). o.flag) (call-value values hidden_singles_call) ∙ nothing_hidden;
      advanced = ap (λ (o : Outcome). o.flag) (call-value values advanced_call) ∙ no-progress;
      sweeps = ap (λ (o : Outcome). o.sweeps) (call-value values settling_call) ∙ ap (λ (s : Sweeps). s.sweeps) settles;
      removed =
          ap (λ (o : Outcome). o.removed) (call-value values settling_call)
          ∙ ap (λ (s : Sweeps). removed_by m s.left) settles ∙ none-removed;
      bytes = no_bytes;
    }
