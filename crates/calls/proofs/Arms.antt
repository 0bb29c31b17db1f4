-- A step hands back what the call of its number ensures. Assumes nothing.
use mathlib.Core.Path.{◌≡◌, refl, sym, ap, ◌∙◌}
use mathlib.Core.Bool.{Bool, false}
use mathlib.Core.List.{List, []}
use mathlib.Core.Option
use mathlib.Core.Option.{Option, none, some}
use Prim.Native.Nat.{ℕ}
use Rattle.std.specs.Prelude.{Result, Ok, Err, IsErrAnd}
use Rattle.std.proofs.lemmas.Result.{err_from_is_err_and}
use Rattle.stops.specs.Answer.{Answer, answer_of, gives, stop, passing, map}
use Rattle.stops.specs.declared.Stop.{Stop}
use Rattle.stops.proofs.Answers.{map-map}
use Rattle.steps.specs.Boards as S
use Rattle.steps.specs.Boards.{givens}
use Rattle.steps.specs.Calls.{Call, update_candidates, naked_singles_call, hidden_singles_call, advanced_call, settling_call, Outcome, check_of, outcome, answer}
use Rattle.techniques.specs.Reports.{reports_of}
use Rattle.techniques.specs.code.Searches.{search_call}
use Rattle.techniques.specs.declared.Reported.{Reported}
use Rattle.techniques.specs.declared.Search.{Search}
use Rattle.techniques.specs.declared.Search.TheVariants as search
use Rattle.techniques.specs.declared.singles.Reports.{Reports}
use Rattle.passes.specs.Settlings.{counts_of}
use Rattle.passes.specs.declared.Counts.{Counts}
use Rattle.eliminations.specs.code.Calls.{call_of}
use Rattle.eliminations.specs.declared.Elimination.{Elimination}
use Rattle.eliminations.specs.declared.Elimination.TheVariants as by
use Rattle.calls.specs.StepNumbers.{step_call, step_answer, stepped, stepping}
use Rattle.calls.specs.code.QuietSteps.{told_of, quiet_call, quiet_answer, unreporting}
use Rattle.calls.specs.declared.StepError.{StepError}
use Rattle.calls.specs.declared.StepError.TheVariants.{Refused}
use Rattle.calls.specs.declared.Stepped.{Stepped}
use Rattle.calls.specs.declared.kinds.QuietStep.{QuietStep}
use Rattle.calls.specs.declared.kinds.QuietStep.TheVariants as quiet
use Rattle.calls.specs.declared.quiet.Told.{Told}

-- the step of a number
pub step_is : (b : S.Board) (k : Call) (n : ℕ) → some k ≡ step_call n → some (answer k b) ≡ step_answer n b
unfolding step_answer
step_is b k n is = ap (Option.map (λ (k : Call). answer k b)) is

pub no-step-is : (b : S.Board) (n : ℕ) → none ≡ step_call n → none ≡ step_answer n b
unfolding step_answer
no-step-is b n is = ap (Option.map (λ (k : Call). answer k b)) is

-- ---- the quiet step of a number

quiet-of : (b : S.Board) (n : ℕ) {o : Option Call} → o ≡ step_call n → Option.map (λ (k : Call). answer k b) (unreporting o) ≡ quiet_answer n b
unfolding quiet_answer
quiet-of b n is = ap (λ (o : Option Call). Option.map (λ (k : Call). answer k b) (unreporting o)) is

quiet-stays : (q : QuietStep) → some (quiet_call q) ≡ unreporting (some (quiet_call q))
quiet-stays quiet.Update = refl
quiet-stays quiet.Settle = refl
quiet-stays (quiet.Eliminate by.NakedPairs) = refl
quiet-stays (quiet.Eliminate by.BoxLine) = refl
quiet-stays (quiet.Eliminate by.XWing) = refl
quiet-stays (quiet.Eliminate by.Lone) = refl
quiet-stays (quiet.Eliminate by.Place) = refl
quiet-stays (quiet.Eliminate by.Pair) = refl
quiet-stays (quiet.Eliminate by.Pointing) = refl
quiet-stays (quiet.Eliminate by.Claiming) = refl
quiet-stays (quiet.Eliminate by.Cross) = refl
quiet-stays (quiet.Eliminate by.Chains) = refl
quiet-stays (quiet.Eliminate by.XChains) = refl

search-goes : (x : Search) → none ≡ unreporting (some (search_call x))
search-goes search.Naked = refl
search-goes search.Hidden = refl
search-goes search.Advanced = refl

pub quiet_is : (b : S.Board) (q : QuietStep) (n : ℕ) → some (quiet_call q) ≡ step_call n → some (answer (quiet_call q) b) ≡ quiet_answer n b
quiet_is b q n is = ap (Option.map (λ (k : Call). answer k b)) (quiet-stays q) ∙ quiet-of b n is

pub search-is : (b : S.Board) (x : Search) (n : ℕ) → some (search_call x) ≡ step_call n → none ≡ quiet_answer n b
search-is b x n is = ap (Option.map (λ (k : Call). answer k b)) (search-goes x) ∙ quiet-of b n is

pub no-quiet-is : (b : S.Board) (n : ℕ) → none ≡ step_call n → none ≡ quiet_answer n b
no-quiet-is b n is = quiet-of b n is

-- ---- parts of an answer

-- two parts that are the same of the outcome
module _ {A : Type 0} (f g : Outcome → A) (k : Call) (b : S.Board) where
  same-part : f (outcome k (givens b) b.masks) ≡ g (outcome k (givens b) b.masks) → map f (answer k b) ≡ map g (answer k b)
  unfolding answer
  same-part e = go (check_of b)
    where
      go : (a : Answer (Unit {0})) → map f (passing a (outcome k (givens b) b.masks)) ≡ map g (passing a (outcome k (givens b) b.masks))
      go (gives u) = ap gives e
      go (stop s) = refl

-- a call that counts nothing
abbrev pub Uncounted : Call → Type 0
Uncounted k = (g m : List ℕ) → ((outcome k g m).sweeps ≡ 0) × ((outcome k g m).removed ≡ 0)

-- its flag is all that it tells
abbrev pub flagged : Bool → Told
flagged t = record { made = t; sweeps = 0; removed = 0 }

told-same : (t : Bool) (s q : ℕ) → 0 ≡ s → 0 ≡ q → flagged t ≡ record { made = t; sweeps = s; removed = q }
told-same t s q e f = λ i. record { made = t; sweeps = e i; removed = f i }

pub uncounted-tells : (k : Call) (b : S.Board) → Uncounted k → {f : Answer Bool} → f ≡ map (λ (o : Outcome). o.flag) (answer k b) → map flagged f ≡ map told_of (answer k b)
uncounted-tells k b q e =
    let w = q (givens b) b.masks in
    let o = outcome k (givens b) b.masks in
    ap (map flagged) e ∙ map-map flagged (λ (o : Outcome). o.flag) (answer k b)
    ∙ same-part (λ (o : Outcome). flagged o.flag) told_of k b (told-same o.flag o.sweeps o.removed (sym w.0) (sym w.1))

-- settling has no flag
abbrev pub counted : Counts → Told
counted n = record { made = false; sweeps = n.sweeps; removed = n.removed }

pub settling-tells : (b : S.Board) {a : Answer Counts} → a ≡ map counts_of (answer settling_call b) → map counted a ≡ map told_of (answer settling_call b)
unfolding outcome
settling-tells b e =
    ap (map counted) e ∙ map-map counted counts_of (answer settling_call b) ∙ same-part (λ (o : Outcome). counted (counts_of o)) told_of settling_call b refl

-- `update_candidates` has no flag
pub update-tells : (b : S.Board) {a : Answer (Unit {0})} → a ≡ check_of b → map (λ _. flagged false) a ≡ map told_of (answer update_candidates b)
unfolding answer outcome
update-tells b e = ap (map (λ _. flagged false)) e ∙ sym (map-map told_of (λ _. outcome update_candidates (givens b) b.masks) (check_of b))

-- ---- what a step hands back

-- of a call that reports
abbrev pub of_reported : Reported → Stepped
of_reported d = record { made = d.made; reports = d.reports; sweeps = 0; removed = 0 }

stepped-same : (t : Bool) (rs : Reports) (s q : ℕ) → 0 ≡ s → 0 ≡ q → {u : Bool} → u ≡ t → {ps : Reports} → ps ≡ rs → ◌≡◌ {A = Stepped} (record { made = u; reports = ps; sweeps = 0; removed = 0 }) (record { made = t; reports = rs; sweeps = s; removed = q })
stepped-same t rs s q e f g h = λ i. record { made = g i; reports = h i; sweeps = e i; removed = f i }

gives-made : {A : Type 0} {a b : A} → ◌≡◌ {A = Answer A} (gives a) (gives b) → a ≡ b
gives-made q = cc

pub reported-hands : (k : Call) (b : S.Board) → Uncounted k → (r : Result Reported Stop) → map (λ (d : Reported). d.made) (answer_of r) ≡ map (λ (o : Outcome). o.flag) (answer k b)
    → map (λ (d : Reported). d.reports) (answer_of r) ≡ map (λ (o : Outcome). reports_of o.reports) (answer k b) → map of_reported (answer_of r) ≡ map stepped (answer k b)
unfolding answer
reported-hands k b q r flag reports = go r (check_of b) flag reports
  where
    w : ((outcome k (givens b) b.masks).sweeps ≡ 0) × ((outcome k (givens b) b.masks).removed ≡ 0)
    w = q (givens b) b.masks

    o : Outcome
    o = outcome k (givens b) b.masks

    go : (r : Result Reported Stop) (a : Answer (Unit {0})) → map (λ (d : Reported). d.made) (answer_of r) ≡ map (λ (o : Outcome). o.flag) (passing a o)
        → map (λ (d : Reported). d.reports) (answer_of r) ≡ map (λ (o : Outcome). reports_of o.reports) (passing a o) → map of_reported (answer_of r) ≡ map stepped (passing a o)
    go (Ok d) (gives u) e f = ap gives (stepped-same o.flag (reports_of o.reports) o.sweeps o.removed (sym w.0) (sym w.1) (gives-made e) (gives-made f))
    go (Ok d) (stop s) e f = cc
    go (Err s) (gives u) e f = cc
    go (Err s) (stop t) e f = cc

-- of a call that reports nothing
abbrev pub Unreporting : Call → Type 0
Unreporting k = (g m : List ℕ) → (outcome k g m).reports ≡ []

abbrev pub of_told : Told → Stepped
of_told t = record { made = t.made; reports = reports_of []; sweeps = t.sweeps; removed = t.removed }

pub quiet-hands : (k : Call) (b : S.Board) → Unreporting k → {a : Answer Told} → a ≡ map told_of (answer k b) → map of_told a ≡ map stepped (answer k b)
quiet-hands k b q e =
    let o = outcome k (givens b) b.masks in
    ap (map of_told) e ∙ map-map of_told told_of (answer k b)
    ∙ same-part (λ (o : Outcome). of_told (told_of o)) stepped k b (λ i. record { made = o.flag; reports = reports_of (sym (q (givens b) b.masks) i); sweeps = o.sweeps; removed = o.removed })

pub quiet-unreporting : (q : QuietStep) → Unreporting (quiet_call q)
unfolding outcome
quiet-unreporting quiet.Update g m = refl
quiet-unreporting quiet.Settle g m = refl
quiet-unreporting (quiet.Eliminate by.NakedPairs) g m = refl
quiet-unreporting (quiet.Eliminate by.BoxLine) g m = refl
quiet-unreporting (quiet.Eliminate by.XWing) g m = refl
quiet-unreporting (quiet.Eliminate by.Lone) g m = refl
quiet-unreporting (quiet.Eliminate by.Place) g m = refl
quiet-unreporting (quiet.Eliminate by.Pair) g m = refl
quiet-unreporting (quiet.Eliminate by.Pointing) g m = refl
quiet-unreporting (quiet.Eliminate by.Claiming) g m = refl
quiet-unreporting (quiet.Eliminate by.Cross) g m = refl
quiet-unreporting (quiet.Eliminate by.Chains) g m = refl
quiet-unreporting (quiet.Eliminate by.XChains) g m = refl

-- ---- the calls that count nothing

pub uncounted-update : Uncounted update_candidates
unfolding outcome
uncounted-update g m = (refl, refl)

pub uncounted-elimination : (x : Elimination) → Uncounted (call_of x)
unfolding outcome
uncounted-elimination by.NakedPairs g m = (refl, refl)
uncounted-elimination by.BoxLine g m = (refl, refl)
uncounted-elimination by.XWing g m = (refl, refl)
uncounted-elimination by.Lone g m = (refl, refl)
uncounted-elimination by.Place g m = (refl, refl)
uncounted-elimination by.Pair g m = (refl, refl)
uncounted-elimination by.Pointing g m = (refl, refl)
uncounted-elimination by.Claiming g m = (refl, refl)
uncounted-elimination by.Cross g m = (refl, refl)
uncounted-elimination by.Chains g m = (refl, refl)
uncounted-elimination by.XChains g m = (refl, refl)

pub uncounted-naked : Uncounted naked_singles_call
unfolding outcome
uncounted-naked g m = (refl, refl)

pub uncounted-hidden : Uncounted hidden_singles_call
unfolding outcome
uncounted-hidden g m = (refl, refl)

pub uncounted-advanced : Uncounted advanced_call
unfolding outcome
uncounted-advanced g m = (refl, refl)

pub uncounted-search : (x : Search) → Uncounted (search_call x)
uncounted-search search.Naked = uncounted-naked
uncounted-search search.Hidden = uncounted-hidden
uncounted-search search.Advanced = uncounted-advanced

-- what a `?` hands on as a step's error is the stop that it met
pub step-refused : {A : Type 0} (r : Result A StepError) {s : Stop} → IsErrAnd r (λ e. e ≡ Refused s) → stepping r ≡ some (stop s)
step-refused r h = let p = err_from_is_err_and r h in ap stepping p.1 ∙ ap (λ (e : StepError). stepping (Err e)) p.2
