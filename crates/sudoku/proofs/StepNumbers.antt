-- What a step tells and reports is its answer as numbers and bytes, and small. Assumes nothing.
use mathlib.Core.Path.{◌≡◌, refl, sym, ap, ap₂, subst, ◌∙◌}
use mathlib.Core.Bool.{Bool}
use mathlib.Core.List.{List, []}
use mathlib.Core.Option.{some}
use Prim.Native.Nat.{ℕ, ◌≤◌}
use native.Mathlib.Omega.{arith}
use lib.IntN.{pos}
use lib.ListN.{length, replicate}
use mir.Syntax.{w64}
use mir.Val.{SFits}
use Rattle.std.specs.Prelude.{Ok}
use Rattle.stops.specs.Answer.{Answer, gives, stop, map, passing, value_or}
use Rattle.stops.proofs.Answers.{gives_same, stop-gives}
use Rattle.steps.specs.Boards.{Board, Givens, Admissible, givens, together}
use Rattle.steps.specs.Calls.{Call, update_candidates, naked_pairs_call, box_line_call, x_wing_call, naked_singles_call, hidden_singles_call, advanced_call, wide, settling_call, chain_call, x_chain_call, Outcome, outcome, check_of, Admitted, answer}
use Rattle.steps.specs.Loops.{each}
use Rattle.steps.specs.Singles.{Report}
use Rattle.steps.proofs.Check.{admits, clues-givens}
use Rattle.steps.proofs.Fresh.{total-most}
use Rattle.steps.proofs.Lists as lists
use Rattle.techniques.specs.Reports.{filled, reports_of}
use Rattle.techniques.specs.code.Pushes.{append, cleared}
use Rattle.techniques.specs.code.Searches.{search_call}
use Rattle.techniques.specs.declared.Search.{Search}
use Rattle.techniques.specs.declared.singles.Reports.{Reports}
use Rattle.techniques.proofs.ReportLists.{answered-few, stands}
use Rattle.passes.specs.Settlings.{Settles, counts_of, steps_done}
use Rattle.passes.specs.declared.Counts.{Counts}
use Rattle.passes.specs.declared.Settled.{Settled}
use Rattle.passes.proofs.StepValues.{few-steps}
use Rattle.calls.specs.code.QuietSteps.{quiet_call, told_of}
use Rattle.calls.specs.declared.kinds.QuietStep.{QuietStep}
use Rattle.calls.specs.declared.quiet.Told.{Told}
use Rattle.calls.proofs.Arms.{quiet-unreporting, uncounted-search}
use Rattle.sudoku.specs.Settlings.{settled_code, settle_code}
use Rattle.sudoku.specs.Steps.{answer_code, outcome_bytes, report_bytes, values_code}
use Rattle.sudoku.proofs.Fitting.{place-fits}

-- ---- what a step counts is small

record Small (o : Outcome) : Type 0 where
  sweeps : o.sweeps ≤ 730
  removed : o.removed ≤ 729

still : {o : Outcome} → o.sweeps ≡ 0 → o.removed ≡ 0 → Small o
still s r = record { sweeps = omega arith; removed = omega arith }

call-small : (k : Call) (g m : List ℕ) → Givens g → Admissible g m → Small (outcome k g m)
unfolding outcome
call-small update_candidates g m ok a = still refl refl
call-small naked_pairs_call g m ok a = still refl refl
call-small box_line_call g m ok a = still refl refl
call-small x_wing_call g m ok a = still refl refl
call-small naked_singles_call g m ok a = still refl refl
call-small hidden_singles_call g m ok a = still refl refl
call-small advanced_call g m ok a = still refl refl
call-small (wide k) g m ok a = still refl refl
call-small settling_call g m ok a = record { sweeps = (lists.settles g m ok a).most; removed = omega (arith, total-most g m ok a) }
call-small chain_call g m ok a = still refl refl
call-small x_chain_call g m ok a = still refl refl

-- what an answer counts fits an `i64`
abbrev pub AnswerFits : Answer Outcome → Type 0
AnswerFits (gives o) = SFits w64 (pos o.sweeps) × SFits w64 (pos o.removed)
AnswerFits (stop s) = Unit {0}

pub answer-fits : (b : Board) → length b.clues ≡ 81 → length b.entries ≡ 81 → length b.masks ≡ 81 → (k : Call) → AnswerFits (answer k b)
unfolding answer
answer-fits b clues entries masks k = go (check_of b) refl
  where
    go : (a : Answer (Unit {0})) → check_of b ≡ a → AnswerFits (passing a (outcome k (givens b) b.masks))
    go (stop s) e = tt
    go (gives u) e =
        let w : Admitted b = record { clues = clues; entries = entries; masks = masks; taken = e } in
        let s = call-small k (givens b) b.masks (clues-givens (together b.clues b.entries)) (admits b w).2 in
        (place-fits (omega (arith, s.sweeps)), place-fits (omega (arith, s.removed)))

no_bytes : replicate 648 0 ≡ report_bytes (reports_of [])
unfolding report_bytes reports_of filled each
no_bytes = refl

-- ---- a step that reports nothing

module _ (q : QuietStep) (b : Board) {t : Told} where
  pub told-fits : AnswerFits (answer (quiet_call q) b) → gives t ≡ map told_of (answer (quiet_call q) b) → SFits w64 (pos t.sweeps) × SFits w64 (pos t.removed)
  told-fits = go (answer (quiet_call q) b)
    where
      go : (a : Answer Outcome) → AnswerFits a → gives t ≡ map told_of a → SFits w64 (pos t.sweeps) × SFits w64 (pos t.removed)
      go (gives o) f e = subst (λ (t : Told). SFits w64 (pos t.sweeps) × SFits w64 (pos t.removed)) (sym (gives_same e)) f
      go (stop s) f e = absurd (stop-gives (sym e))

  -- its number of reports is 0, and their bytes are zeros
  pub told-put : gives t ≡ map told_of (answer (quiet_call q) b) → (n : ℕ) (lent : List ℕ)
      → (values_code n t.made 0 t.sweeps t.removed ≡ answer_code n (some (answer (quiet_call q) b))) × (replicate 648 0 ≡ value_or lent (map outcome_bytes (answer (quiet_call q) b)))
  unfolding answer
  told-put e n lent = go (check_of b) e
    where
      o : Outcome
      o = outcome (quiet_call q) (givens b) b.masks

      none : [] ≡ o.reports
      none = sym (quiet-unreporting q (givens b) b.masks)

      go : (a : Answer (Unit {0})) → gives t ≡ map told_of (passing a o) → (values_code n t.made 0 t.sweeps t.removed ≡ answer_code n (some (passing a o))) × (replicate 648 0 ≡ value_or lent (map outcome_bytes (passing a o)))
      go (gives u) e = (
        ap₂ (λ (t : Told) (rs : List Report). values_code n t.made (length rs) t.sweeps t.removed) (gives_same e) none,
        no_bytes ∙ ap (λ (rs : List Report). report_bytes (reports_of rs)) none,
      )
      go (stop s) e = absurd (stop-gives (sym e))

-- ---- a step that reports

module _ (s : Search) (b : Board) {made : Bool} (flag : gives made ≡ map (λ o. o.flag) (answer (search_call s) b)) where
  abbrev found : List Report
  found = value_or [] (map (λ o. o.reports) (answer (search_call s) b))

  pub found-put : (n : ℕ) (lent : List ℕ) → (values_code n made (length found) 0 0 ≡ answer_code n (some (answer (search_call s) b))) × (report_bytes (reports_of found) ≡ value_or lent (map outcome_bytes (answer (search_call s) b)))
  unfolding answer
  found-put n lent = go (check_of b) flag
    where
      o : Outcome
      o = outcome (search_call s) (givens b) b.masks

      w : (o.sweeps ≡ 0) × (o.removed ≡ 0)
      w = uncounted-search s (givens b) b.masks

      go : (a : Answer (Unit {0})) → gives made ≡ map (λ o. o.flag) (passing a o)
          → (values_code n made (length (value_or [] (map (λ o. o.reports) (passing a o)))) 0 0 ≡ answer_code n (some (passing a o)))
          × (report_bytes (reports_of (value_or [] (map (λ o. o.reports) (passing a o)))) ≡ value_or lent (map outcome_bytes (passing a o)))
      go (gives u) e = (λ i. values_code n (gives_same e i) (length o.reports) (sym w.0 i) (sym w.1 i), refl)
      go (stop s) e = absurd (stop-gives (sym e))

  module _ {empty q : Reports} (new : empty ≡ reports_of []) (put : q ≡ append found (cleared empty)) where
    pub found-list : q ≡ reports_of found
    unfolding reports_of
    found-list = put ∙ ap (λ (q : Reports). append found (cleared q)) new ∙ stands found (answered-few s b)

    pub found-count : q.count ≡ length found
    unfolding reports_of
    found-count = ap (λ (q : Reports). q.count) found-list

    pub found-few : SFits w64 (pos q.count)
    found-few = place-fits (omega (arith, found-count, answered-few s b))

-- ---- settling

module _ (b : Board) (clues : length b.clues ≡ 81) (entries : length b.entries ≡ 81) (masks : length b.masks ≡ 81) {done : Settled} {after : Board} (settles : Settles b (Ok done) after) where
  settled-fits : SFits w64 (pos done.counts.sweeps) × SFits w64 (pos done.counts.removed)
  settled-fits = go (answer settling_call b) (answer-fits b clues entries masks settling_call) settles.counts
    where
      go : (a : Answer Outcome) → AnswerFits a → gives done.counts ≡ map counts_of a → SFits w64 (pos done.counts.sweeps) × SFits w64 (pos done.counts.removed)
      go (gives o) f e = subst (λ (k : Counts). SFits w64 (pos k.sweeps) × SFits w64 (pos k.removed)) (sym (gives_same e)) f
      go (stop s) f e = absurd (stop-gives (sym e))

  step-count : done.steps.count ≡ length (steps_done b)
  step-count = go (answer settling_call b) settles.step_count
    where
      go : (a : Answer Outcome) → gives done.steps.count ≡ map (λ _. length (steps_done b)) a → done.steps.count ≡ length (steps_done b)
      go (gives o) e = gives_same e
      go (stop s) e = absurd (stop-gives (sym e))

  pub settling-fits : SFits w64 (pos done.steps.count) × SFits w64 (pos done.counts.sweeps) × SFits w64 (pos done.counts.removed)
  settling-fits = (place-fits (omega (arith, step-count, few-steps b clues entries masks)), settled-fits.0, settled-fits.1)

  pub settled-put : settled_code done.steps.count (gives done.counts) ≡ settle_code b
  settled-put = ap₂ settled_code step-count settles.counts
