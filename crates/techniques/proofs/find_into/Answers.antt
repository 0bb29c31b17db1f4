-- Each arm says which search it is.
use mathlib.Core.Path.{◌≡◌, refl, sym, ap, subst, ◌∙◌}
use mathlib.Core.Bool.{Bool}
use mathlib.Core.List.{List}
use Prim.Native.Nat.{ℕ}
use native.Mathlib.Omega.{arith}
use Rattle.steps.specs.Calls.{outcome}
use Rattle.steps.specs.Singles.{naked_singles, hidden_singles}
use Rattle.techniques.specs.code.Pushes.{append, cleared}
use Rattle.techniques.specs.code.Searches.{search_call}
use Rattle.techniques.specs.declared.Search.{Search}
use Rattle.techniques.specs.declared.singles.Reports.{Reports}
use Rattle.techniques.proofs.ReportLists.{naked-few, hidden-few, some-found}
use Rattle.techniques.proofs.find_into.Goals as goal

-- what is ensured of a search
abbrev Ensured : (g m : List ℕ) → Reports → Search → Bool → Reports → List ℕ → Type 0
Ensured g m q s made r after =
    (made ≡ (outcome (search_call s) g m).flag) × ((r ≡ append (outcome (search_call s) g m).reports q) × (after ≡ (outcome (search_call s) g m).masks))

-- one search for another that is the same
by_name : (g m : List ℕ) (q : Reports) {s t : Search} {made : Bool} {r : Reports} {after : List ℕ} → s ≡ t → Ensured g m q s made r after → Ensured g m q t made r after
by_name g m q {made = made} {r = r} {after = after} e h = subst (λ (s : Search). Ensured g m q s made r after) e h

pub returns-in-Naked : goal.returns-in-Naked
unfolding outcome
returns-in-Naked c =
    let a = c.args in
    let g = a.givens.now in
    let m = a.masks.now in
    let found = c.naked_singles.ensures.reports_after ∙ ap (append (naked_singles g m)) c.clear.ensures in
    let few = naked-few g m in
    let made = c.any.ensures ∙ some-found (naked_singles g m) (omega (arith, few)) (cleared a.reports.now) refl found in
    let e = by_name g m (cleared a.reports.now) (sym c.in-Naked.is) (made, (found, refl)) in
    record { made_value = e.0; reports_after = e.1.0; masks_after = e.1.1 }

pub returns-in-Hidden : goal.returns-in-Hidden
unfolding outcome
returns-in-Hidden c =
    let a = c.args in
    let g = a.givens.now in
    let m = a.masks.now in
    let found = c.hidden_singles.ensures ∙ ap (append (hidden_singles g m)) c.clear-in-Hidden.ensures in
    let few = hidden-few g m in
    let made = c.any-in-Hidden.ensures ∙ some-found (hidden_singles g m) (omega (arith, few)) (cleared a.reports.now) refl found in
    let e = by_name g m (cleared a.reports.now) (sym c.in-Hidden.is) (made, (found, refl)) in
    record { made_value = e.0; reports_after = e.1.0; masks_after = e.1.1 }
