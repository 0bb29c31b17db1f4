-- Reports in a value: what a push and a list of pushes make of it, and that no list of singles is too long for it. Assumes nothing.
use mathlib.Core.Path.{◌≡◌, refl, sym, ap, ◌∙◌}
use mathlib.Core.Bool.{Bool, true, false, cond}
use mathlib.Core.List.{List, [], ◌∷◌, ◌++◌, map, append_assoc, append-nil, map-append}
use mathlib.Core.Option.{Option, none, some}
use Prim.Native.Nat.{ℕ, ◌+◌, ◌*◌, ◌≤◌, ◌<◌}
use native.Mathlib.Omega.{arith}
use borrow.Author.Tests.{lt-ltb}
use lib.Dec.{eqb, ltb, lit≤}
use lib.IntN.{ℤ}
use lib.ListN.{length, set, length-append, length-map}
use Rattle.stops.specs.Answer as answers
use Rattle.stops.specs.Answer.{Answer, gives, stop, passing, value_or}
use Rattle.candidates.specs.Masks.{count, lowest}
use Rattle.candidates.specs.Sets.{only_of}
use Rattle.candidates.proofs.Tests.{cond-true}
use Rattle.grid.specs.Cells.{cells}
use Rattle.grid.specs.Units.{unit_cell}
use Rattle.grid.proofs.Fills.{fill-next}
use Rattle.steps.specs.Boards.{Board, at, givens, is_open}
use Rattle.steps.specs.Calls.{answer, check_of, is_some, outcome}
use Rattle.steps.specs.Loops.{each, for, up_to}
use Rattle.steps.specs.Ported.{spots}
use Rattle.steps.specs.Singles.{Report, report_if, report_only, naked_at, naked_singles, hidden_singles}
use Rattle.techniques.specs.declared.singles.Reports.{Reports}
use Rattle.techniques.specs.declared.Search.{Search}
use Rattle.techniques.specs.declared.Search.TheVariants as search
use Rattle.techniques.specs.Reports.{filled, reports_of}
use Rattle.techniques.specs.code.Pushes.{pushed, append}
use Rattle.techniques.specs.code.Searches.{search_call}

-- ---- one report

pub append-one : (t : Bool) (c d : ℕ) (q : Reports) → append (report_if t c d) q ≡ cond t (pushed q c (d + 1)) q
unfolding append each
append-one true c d q = refl
append-one false c d q = refl

reports_same : {a b c d : List ℕ} {m n : ℕ} → a ≡ b → c ≡ d → m ≡ n → ◌≡◌ {A = Reports} (record { cells = a; digits = c; count = m }) (record { cells = b; digits = d; count = n })
reports_same p q s = cc

-- ---- a value that a list stands in

push-on : (rs : List Report) (r : Report) → length rs < 324 → pushed (reports_of rs) r.cell r.digit ≡ reports_of (rs ++ (r ∷ []))
unfolding pushed reports_of filled
push-on rs r h =
    cond-true (ltb (length rs) 324) (record { cells = set (filled (map (λ r. r.cell) rs)) (length rs) r.cell; digits = set (filled (map (λ r. r.digit) rs)) (length rs) r.digit; count = length rs + 1 }) (reports_of rs)
    (lt-ltb (length rs) 324 h)
    ∙ reports_same (field (λ r. r.cell)) (field (λ r. r.digit)) (sym (length-append rs (r ∷ [])))
  where
    field : (f : Report → ℕ) → set (filled (map f rs)) (length rs) (f r) ≡ filled (map f (rs ++ (r ∷ [])))
    field f = fill-next 0 324 (map f rs) (length rs) (f r) (length-map rs f) h ∙ ap filled (sym (map-append f rs (r ∷ [])))

append-on : (rs ns : List Report) → length rs + length ns ≤ 324 → append ns (reports_of rs) ≡ reports_of (rs ++ ns)
unfolding append each
append-on rs [] h = ap reports_of (sym (append-nil rs))
append-on rs (n ∷ ns) h =
    ap (each (λ r q. pushed q r.cell r.digit) ns) (push-on rs n (omega arith))
    ∙ append-on (rs ++ (n ∷ [])) ns (omega (arith, length-append rs (n ∷ []))) ∙ ap reports_of (append_assoc rs (n ∷ []) ns)

-- ---- no list is too long

for-length : {A B : Type 0} (n : ℕ) (xs : List A) (f : A → List B) → ((x : A) → length (f x) ≤ n) → length (for xs f) ≤ length xs * n
unfolding for
for-length n [] f h = omega arith
for-length n (x ∷ xs) f h = omega (arith, length-append (f x) (for xs f), h x, for-length n xs f h)

one-naked : (t : Bool) (c : ℕ) (o : Option ℤ) → length (cond t (report_only c o) []) ≤ 1
one-naked true c (some z) = lit≤ tt
one-naked true c none = lit≤ tt
one-naked false c o = lit≤ tt

one-report : (t : Bool) (c d : ℕ) → length (report_if t c d) ≤ 1
one-report true c d = lit≤ tt
one-report false c d = lit≤ tt

module _ (g m : List ℕ) where
  pub naked-few : length (naked_singles g m) ≤ 81
  unfolding naked_singles cells
  naked-few = for-length 1 cells (naked_at g m) (λ c. one-naked (is_open g c) c (only_of (at m c)))

  pub hidden-few : length (hidden_singles g m) ≤ 243
  unfolding hidden_singles
  hidden-few =
      for-length 9 (up_to 27) (λ u. for (up_to 9) λ d. report_if (eqb (count (spots g m u d)) 1) (unit_cell u (lowest (spots g m u d))) d)
      (λ u. for-length 1 (up_to 9) (λ d. report_if (eqb (count (spots g m u d)) 1) (unit_cell u (lowest (spots g m u d))) d)
      (λ d. one-report (eqb (count (spots g m u d)) 1) (unit_cell u (lowest (spots g m u d))) d))

  pub singles-few : length (naked_singles g m ++ hidden_singles g m) ≤ 324
  singles-few = omega (arith, length-append (naked_singles g m) (hidden_singles g m), naked-few, hidden-few)

found-few : (s : Search) (g m : List ℕ) → length (outcome (search_call s) g m).reports ≤ 324
unfolding outcome
found-few search.Naked g m = omega (arith, naked-few g m)
found-few search.Hidden g m = omega (arith, hidden-few g m)
found-few search.Advanced g m = singles-few g m

pub answered-few : (s : Search) (b : Board) → length (value_or [] (answers.map (λ o. o.reports) (answer (search_call s) b))) ≤ 324
unfolding answer
answered-few s b = go (check_of b)
  where
    go : (a : Answer (Unit {0})) → length (value_or [] (answers.map (λ o. o.reports) (passing a (outcome (search_call s) (givens b) b.masks)))) ≤ 324
    go (gives u) = found-few s (givens b) b.masks
    go (stop t) = omega arith

-- ---- a list where there is no report before

pub new-empty : {q : Reports} → q ≡ reports_of [] → q.count ≡ 0
unfolding reports_of
new-empty e = ap (λ (q : Reports). q.count) e

pub stands : (rs : List Report) → length rs ≤ 324 → append rs (reports_of []) ≡ reports_of rs
stands rs few = append-on [] rs (omega (arith, few))

append-count : (rs : List Report) (q : Reports) → q.count + length rs ≤ 324 → (append rs q).count ≡ q.count + length rs
unfolding append each pushed
append-count [] q h = omega arith
append-count (r ∷ rs) q h =
    let one = cond-true (ltb q.count 324) (record { cells = set q.cells q.count r.cell; digits = set q.digits q.count r.digit; count = q.count + 1 }) q (lt-ltb q.count 324 (omega arith)) in
    let more : (pushed q r.cell r.digit).count ≡ q.count + 1 = ap (λ (q : Reports). q.count) one in
    append-count rs (pushed q r.cell r.digit) (omega arith) ∙ omega arith

-- "A report is progress."
pub some-found : (rs : List Report) → length rs ≤ 324 → (q : Reports) {r : Reports} → q.count ≡ 0 → r ≡ append rs q → ltb 0 r.count ≡ is_some rs
some-found rs few q empty e = ap (λ (q : Reports). ltb 0 q.count) e ∙ ap (ltb 0) (append-count rs q (omega (arith, few, empty)) ∙ ap (λ (n : ℕ). n + length rs) empty) ∙ some rs
  where
    some : (rs : List Report) → ltb 0 (0 + length rs) ≡ is_some rs
    some [] = refl
    some (r ∷ rs) = lt-ltb 0 (0 + length (r ∷ rs)) (omega arith)
