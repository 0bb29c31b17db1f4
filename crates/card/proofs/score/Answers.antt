-- `card::score` meets its contract: each part of the card, and the counts, are what its function gives. Assumes nothing.
use mathlib.Core.Path.{◌≡◌, ap, ◌∙◌}
use mathlib.Core.List.{◌++◌}
use lib.ListN.{length}
use Rattle.grid.specs.Cells.{cells}
use Rattle.steps.specs.Boards.{givens_of, fresh}
use Rattle.steps.specs.Calls.{outcome}
use Rattle.steps.specs.Difficulty.{pass_counts}
use Rattle.steps.specs.Passes.{settle, removed_by}
use Rattle.steps.specs.Singles.{naked_singles, hidden_singles}
use Rattle.board.specs.Boards.{clue_count, verdict_of}
use Rattle.techniques.specs.Reports.{reports_of}
use Rattle.techniques.specs.declared.singles.Reports.{Reports}
use Rattle.card.specs.Cards.{card_for}
use Rattle.card.proofs.score.Goals as goal

pub returns : goal.returns
unfolding card_for outcome reports_of
returns c =
    let g = givens_of c.args.clues.now in
    let f = fresh g in
    let is = c.givens_of-givens.ensures in
    let masks : c.fresh_masks-masks.result ≡ f = c.fresh_masks-masks.ensures ∙ ap fresh is in
    let reports : c.singles-reported.result ≡ reports_of (naked_singles g f ++ hidden_singles g f) = c.singles-reported.ensures ∙ rw (is, masks) in
    let s = c.settle-counts in
    let removed_each : s.new.counts ≡ pass_counts g f = s.ensures.counts_after ∙ rw (is, masks) in
    let left : s.new.masks ≡ (settle g f).left = s.ensures.masks_after ∙ rw (is, masks) in
    let sweeps : s.result.sweeps ≡ (settle g f).sweeps = s.ensures.sweeps_value ∙ rw (is, masks) in
    let removed : s.result.removed ≡ removed_by f (settle g f).left = s.ensures.removed_value ∙ rw (masks, left) in
    let clues : c.count_clues.result ≡ clue_count g cells = c.count_clues.ensures in
    let verdict : c.verdict_of.result ≡ verdict_of (settle g f).left = c.verdict_of.ensures ∙ ap verdict_of left in
    let reported : c.singles-reported.result.count ≡ length (naked_singles g f ++ hidden_singles g f) = ap (λ (q : Reports). q.count) reports in
    (cc, removed_each)
