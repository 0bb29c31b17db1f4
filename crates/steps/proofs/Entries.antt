-- Clues and entries together are one clue grid, and keeping it is keeping both; entering and rubbing out leave entries that stop 8 admits. Assumes nothing.
use mathlib.Core.Path.{◌≡◌, refl, sym, ap, ◌∙◌, subst}
use mathlib.Core.Logic.{◌≢◌, ⊎_elim}
use mathlib.Core.Bool.{Bool, true, false, not, ◌||◌, true≢false}
use mathlib.Core.List.{List}
use Prim.Native.Nat.{ℕ, ◌<◌}
use native.Mathlib.Decide.{ℕ_discrete}
use native.Mathlib.Omega.{arith}
use borrow.Author.Tests.{eqb-true, leb-false, not-false}
use lib.Dec.{eqb, leb}
use lib.IntN.{ℤ, pos, negsuc}
use lib.ListN.{length, get_or, set, length-set, get_or-replicate}
use lib.Seq.{get_or-set_same, get_or-set_other}
use Rattle.stops.specs.Answer.{Answer, gives, stop, map, then, value_or}
use Rattle.stops.specs.declared.Stop.{Stop}
use Rattle.stops.specs.declared.Stop.TheVariants.{BadDigit, NoCell, ClueCell, AlreadyEntered, NotEntered}
use Rattle.stops.proofs.Answers.{gives_same, stop-gives}
use Rattle.candidates.proofs.Tests.{by-test, cond-true, cond-false, either, neither}
use Rattle.grid.specs.Fillings.{number_at}
use Rattle.grid.proofs.Cells.{at_cells, cells-size, map-cells}
use Rattle.steps.specs.Boards.{Board, digit_of, no_digit, givens_of, joint_of, together, no_entries, fresh}
use Rattle.steps.specs.Calls.{Clues, Entries, bad_clue, bad_entry, check_of, opened, opened_with}
use Rattle.steps.specs.Entries.{EntryCall, enter, rub_out, stop_if, entries_after, entry_answer}
use Rattle.steps.specs.Fillings.{KeepsClues, Keeps}
use Rattle.steps.proofs.Check.{good-digit}

-- ---- one cell

-- no digit, so nothing there
none-zero : (z : ℤ) → bad_clue z ≡ false → no_digit z ≡ true → z ≡ pos 0
none-zero z h e = sym (good-digit z h) ∙ ap pos (eqb-true (digit_of z) 0 e)

pub some-digit : (z : ℤ) → bad_clue z ≡ false → z ≢ pos 0 → no_digit z ≡ false
some-digit z h n = go (no_digit z) refl
  where
    go : (t : Bool) → no_digit z ≡ t → no_digit z ≡ false
    go true t = absurd (n (none-zero z h t))
    go false t = t

digit-good : (z : ℤ) → no_digit z ≡ false → bad_clue z ≡ false
digit-good (pos n) e = go (leb n 9) refl
  where
    go : (t : Bool) → leb n 9 ≡ t → not (leb n 9) ≡ false
    go true t = ap not t
    go false t = absurd (true≢false (sym (ap (λ (k : ℕ). eqb k 0) (cond-false (leb n 9) n 0 t)) ∙ e))
digit-good (negsuc n) e = absurd (true≢false e)

-- what stop 8 leaves: a number 0 to 9, and no clue beside a digit
pub entry-fits : (k e : ℤ) → bad_entry k e ≡ false → bad_clue e ≡ false
entry-fits k e h = ((neither (bad_clue e) (not (no_digit e || no_digit k))).0 h).0

pub entry-alone : (k e : ℤ) → bad_entry k e ≡ false → e ≢ pos 0 → no_digit k ≡ true
entry-alone k e h n =
    ⊎_elim (λ t. absurd (n (none-zero e (entry-fits k e h) t))) (λ t. t)
    ((either (no_digit e) (no_digit k)).0 (not-false (no_digit e || no_digit k) ((neither (bad_clue e) (not (no_digit e || no_digit k))).0 h).1))

entry-good : (k z : ℤ) → no_digit z ≡ false → no_digit k ≡ true → bad_entry k z ≡ false
entry-good k z p q = rw (digit-good z p, p, q)

-- ---- the whole grid

module _ (clues entries : List ℤ) where
  pub together_at : (c : ℕ) → c < 81 → get_or (together clues entries) c (pos 0) ≡ joint_of (get_or clues c (pos 0)) (get_or entries c (pos 0))
  unfolding together
  together_at c h = at_cells (pos 0) (λ c. joint_of (get_or clues c (pos 0)) (get_or entries c (pos 0))) c h

  together-size : length (together clues entries) ≡ 81
  unfolding together
  together-size = cells-size (λ c. joint_of (get_or clues c (pos 0)) (get_or entries c (pos 0)))

  pub together-clues : Clues clues → Entries clues entries → Clues (together clues entries)
  together-clues ok en =
      record {
        size = together-size;
        good = λ c h.
            subst (λ (z : ℤ). bad_clue z ≡ false) (sym (together_at c h))
            (by-test (λ (z : ℤ). bad_clue z ≡ false) (no_digit (get_or clues c (pos 0))) (get_or entries c (pos 0)) (get_or clues c (pos 0))
            (λ t. entry-fits (get_or clues c (pos 0)) (get_or entries c (pos 0)) (en.good c h)) (λ t. ok.good c h));
      }

  -- an entry is what stands in its cell, and so is a clue
  pub entry-there : Entries clues entries → (c : ℕ) → c < 81 → get_or entries c (pos 0) ≢ pos 0 → get_or (together clues entries) c (pos 0) ≡ get_or entries c (pos 0)
  entry-there en c h n =
      together_at c h
      ∙ cond-true (no_digit (get_or clues c (pos 0))) (get_or entries c (pos 0)) (get_or clues c (pos 0)) (entry-alone (get_or clues c (pos 0)) (get_or entries c (pos 0)) (en.good c h) n)

  clue-there : Clues clues → (c : ℕ) → c < 81 → get_or clues c (pos 0) ≢ pos 0 → get_or (together clues entries) c (pos 0) ≡ get_or clues c (pos 0)
  clue-there ok c h n =
      together_at c h
      ∙ cond-false (no_digit (get_or clues c (pos 0))) (get_or entries c (pos 0)) (get_or clues c (pos 0)) (some-digit (get_or clues c (pos 0)) (ok.good c h) n)

-- keeping clues and entries is keeping the one grid
module _ (b : Board) (f : List ℤ) where
  abbrev T : List ℤ
  T = together b.clues b.entries

  pub keeps-together : Keeps b f → KeepsClues T f
  keeps-together k =
      record {
        kept = λ c h.
            subst (λ (z : ℤ). z ≢ pos 0 → number_at f c ≡ z) (sym (together_at b.clues b.entries c h))
            (by-test (λ (z : ℤ). z ≢ pos 0 → number_at f c ≡ z) (no_digit (get_or b.clues c (pos 0))) (get_or b.entries c (pos 0)) (get_or b.clues c (pos 0))
            (λ t n. k.entries.kept c h n) (λ t n. k.clues.kept c h n));
      }

  pub together-keeps : Clues b.clues → Entries b.clues b.entries → KeepsClues T f → Keeps b f
  together-keeps ok en k =
      record {
        clues = record { kept = λ c h n. of c h (clue-there b.clues b.entries ok c h n) n };
        entries = record { kept = λ c h n. of c h (entry-there b.clues b.entries en c h n) n };
      }
    where
      of : (c : ℕ) → c < 81 → {z : ℤ} → get_or T c (pos 0) ≡ z → z ≢ pos 0 → number_at f c ≡ z
      of c h e n = k.kept c h (λ w. n (sym e ∙ w)) ∙ e

-- ---- no entries

no-entry : (c : ℕ) → c < 81 → get_or no_entries c (pos 0) ≡ pos 0
no-entry c h = get_or-replicate 81 c (pos 0) (pos 0) h

pub givens-none : (clues : List ℤ) → givens_of (together clues no_entries) ≡ givens_of clues
unfolding givens_of
givens-none clues =
    map-cells (λ c. digit_of (get_or (together clues no_entries) c (pos 0))) (λ c. digit_of (get_or clues c (pos 0)))
    (λ c h. ap digit_of (together_at clues no_entries c h)
    ∙ by-test (λ (z : ℤ). digit_of z ≡ digit_of (get_or clues c (pos 0))) (no_digit (get_or clues c (pos 0))) (get_or no_entries c (pos 0)) (get_or clues c (pos 0))
    (λ t. ap digit_of (no-entry c h) ∙ sym (eqb-true (digit_of (get_or clues c (pos 0))) 0 t)) (λ t. refl))

-- the fresh board of a clue grid has the fresh masks of its clues
pub opened-masks : (clues : List ℤ) → (opened clues).masks ≡ fresh (givens_of clues)
unfolding opened_with
opened-masks clues = ap fresh (givens-none clues)

none-good : (k : ℤ) → bad_entry k (pos 0) ≡ false
none-good k = refl

pub no-entries : (clues : List ℤ) → Entries clues no_entries
no-entries clues =
    record { size = refl; good = λ c h. subst (λ (z : ℤ). bad_entry (get_or clues c (pos 0)) z ≡ false) (sym (no-entry c h)) (none-good (get_or clues c (pos 0))) }

-- a filling that keeps the clues of a board without entries keeps the board
pub keeps-none : (b : Board) → b.entries ≡ no_entries → (f : List ℤ) → KeepsClues b.clues f → Keeps b f
keeps-none b e f k = record { clues = k; entries = record { kept = λ c h n. absurd (n (ap (λ (l : List ℤ). get_or l c (pos 0)) e ∙ no-entry c h)) } }

-- ---- entering and rubbing out

-- a call that is not stopped
past : {A : Type 0} (t : Bool) (s : Stop) (a : Answer A) {v : A} → stop_if t s a ≡ gives v → (t ≡ false) × (a ≡ gives v)
past true s a e = absurd (stop-gives e)
past false s a e = (refl, e)

-- what is known of a cell whose entry changes, and of the number that it then has
pub record Rewrites (clues entries : List ℤ) (k : EntryCall) (es : List ℤ) : Type 0 where
  pub cell : ℕ
  pub number : ℤ
  pub inside : cell < 81
  pub good : bad_entry (get_or clues cell (pos 0)) number ≡ false
  pub is : set entries cell number ≡ es
  -- a cell that has an entry is changed by rubbing it out alone
  pub rubs : get_or entries cell (pos 0) ≢ pos 0 → k ≡ rub_out cell

module _ (clues entries : List ℤ) (en : Entries clues entries) where
  pub rewrites : (k : EntryCall) (es : List ℤ) → entries_after k clues entries ≡ gives es → Rewrites clues entries k es
  unfolding entries_after
  rewrites (enter c z) es e =
      let p5 = past (leb 81 c) (NoCell c) _ e in
      let p4 = past (no_digit z) (BadDigit z) _ p5.1 in
      let p12 = past (not (no_digit (get_or clues c (pos 0)))) (ClueCell c) _ p4.1 in
      let p13 = past (not (no_digit (get_or entries c (pos 0)))) (AlreadyEntered c) _ p12.1 in
      let h : c < 81 = omega (arith, leb-false 81 c p5.0) in
      record {
        cell = c;
        number = z;
        inside = h;
        good = entry-good (get_or clues c (pos 0)) z p4.0 (not-false (no_digit (get_or clues c (pos 0))) p12.0);
        is = gives_same p13.1;
        rubs = λ n.
            absurd (true≢false (sym (not-false (no_digit (get_or entries c (pos 0))) p13.0)
            ∙ some-digit (get_or entries c (pos 0)) (entry-fits (get_or clues c (pos 0)) (get_or entries c (pos 0)) (en.good c h)) n));
      }
  rewrites (rub_out c) es e =
      let p5 = past (leb 81 c) (NoCell c) _ e in
      let p12 = past (not (no_digit (get_or clues c (pos 0)))) (ClueCell c) _ p5.1 in
      let p13 = past (no_digit (get_or entries c (pos 0))) (NotEntered c) _ p12.1 in
      record { cell = c; number = pos 0; inside = omega (arith, leb-false 81 c p5.0); good = refl; is = gives_same p13.1; rubs = λ n. refl }

  pub entries-stay : (k : EntryCall) (es : List ℤ) → entries_after k clues entries ≡ gives es → Entries clues es
  entries-stay k es e = subst (Entries clues) w.is (record { size = length-set entries w.cell w.number ∙ en.size; good = λ c h. go c h (ℕ_discrete c w.cell) })
    where
      w : Rewrites clues entries k es
      w = rewrites k es e

      go : (c : ℕ) → c < 81 → Dec (c ≡ w.cell) → bad_entry (get_or clues c (pos 0)) (get_or (set entries w.cell w.number) c (pos 0)) ≡ false
      go c h (yes p) = rw (p, get_or-set_same entries w.cell w.number (pos 0) (omega (arith, en.size, w.inside))) w.good
      go c h (no n) = rw (get_or-set_other entries w.cell c w.number (pos 0) n) (en.good c h)

  -- an entry stays unless it is rubbed out
  pub entry-stays : (k : EntryCall) (es : List ℤ) → entries_after k clues entries ≡ gives es → (c : ℕ) → get_or entries c (pos 0) ≢ pos 0 → k ≢ rub_out c → get_or es c (pos 0) ≡ get_or entries c (pos 0)
  entry-stays k es e c n other = ap (λ (l : List ℤ). get_or l c (pos 0)) (sym w.is) ∙ go (ℕ_discrete c w.cell)
    where
      w : Rewrites clues entries k es
      w = rewrites k es e

      go : Dec (c ≡ w.cell) → get_or (set entries w.cell w.number) c (pos 0) ≡ get_or entries c (pos 0)
      go (yes p) = absurd (other (w.rubs (λ q. n (ap (λ (i : ℕ). get_or entries i (pos 0)) p ∙ q)) ∙ ap rub_out (sym p)))
      go (no d) = get_or-set_other entries w.cell c w.number (pos 0) d

-- what holds of the board that it leaves: the board as it was, or one worked out afresh
pub entry-leaves : (P : Board → Type 0) (k : EntryCall) (b : Board) → P b → ((es : List ℤ) → entries_after k b.clues b.entries ≡ gives es → P (opened_with b.clues es)) → P (value_or b (entry_answer k b))
unfolding entry_answer
entry-leaves P k b same fresh = checked (check_of b)
  where
    done : (a : Answer (List ℤ)) → entries_after k b.clues b.entries ≡ a → P (value_or b (map (opened_with b.clues) a))
    done (stop s) e = same
    done (gives es) e = fresh es e

    checked : (w : Answer (Unit {0})) → P (value_or b (then w (λ _. map (opened_with b.clues) (entries_after k b.clues b.entries))))
    checked (stop s) = same
    checked (gives u) = done (entries_after k b.clues b.entries) refl
