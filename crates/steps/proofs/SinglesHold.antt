-- A reported single is the cell's digit in every correct filling that keeps the clues and the entries. Assumes nothing.
use mathlib.Core.Path.{◌≡◌, sym, ap, ◌∙◌, subst, refl}
use mathlib.Core.Bool.{true}
use mathlib.Core.List.{List, Memᴰ}
use Prim.Native.Nat.{ℕ, suc, ◌<◌}
use native.Mathlib.Omega.{arith}
use lib.IntN.{ℤ, pos}
use lib.ListN.{length}
use Rattle.candidates.proofs.Held.{Held}
use Rattle.grid.specs.Fillings.{number_at, verified, Correct}
use Rattle.grid.proofs.Fillings.{number_of, verified-correct}
use Rattle.grid.proofs.Units.{member_below}
use Rattle.steps.specs.Boards.{Board, at, together, givens, Givens, Admissible}
use Rattle.steps.specs.Calls.{Clues, Entries, without_ported, opened_with}
use Rattle.steps.specs.Entries.{Deed, calls_in, play}
use Rattle.steps.specs.SinglesHold.{SinglesHold}
use Rattle.steps.specs.Fillings.{Keeps, InMasks}
use Rattle.steps.specs.Singles.{naked_singles, hidden_singles}
use Rattle.steps.specs.Published.{NakedSingle, HiddenSingle, report_of}
use Rattle.steps.proofs.Check.{clues-givens}
use Rattle.steps.proofs.Clues.{correct-filling, placed}
use Rattle.steps.proofs.Fresh.{mask-small}
use Rattle.steps.proofs.Holders.{holder-open}
use Rattle.steps.proofs.ListTheorem.{FillingsStay}
use Rattle.steps.proofs.Lists.{Good, Keeping, played, list-theorem}
use Rattle.steps.proofs.Reports.{naked-singles, naked-reports, hidden-singles, hidden-reports}

module _ (g m : List ℕ) (ok : Givens g) (a : Admissible g m) (f : List ℤ) (right : Correct f) (inside : InMasks m f) where
  naked-true : (c d : ℕ) → c < 81 → NakedSingle g m c d → number_at f c ≡ pos (suc d)
  naked-true c d h s =
      let e : placed f c ≡ d = s.alone (placed f c) (inside.held c h) in
      number_of (number_at f c) d e (omega (arith, (correct-filling f right).small c h))

  hidden-true : (u d c : ℕ) → u < 27 → d < 9 → HiddenSingle g m u d c → number_at f c ≡ pos (suc d)
  hidden-true u d c hu hd s =
      let w = (correct-filling f right).every u d hu hd in
      -- the digit's cell is open, since the reported cell holds the digit too; so it is the reported one
      let held = subst (λ (k : ℕ). Held (at m w.0) k) w.2 (inside.held w.0 (member_below hu w.1)) in
      let same : w.0 ≡ c = s.alone w.0 w.1 (holder-open g ok m a u d hu s.member s.holder w.1 held) in
      number_of (number_at f c) d (ap (placed f) (sym same) ∙ w.2) hd

  naked-reported : (c d : ℕ) → Memᴰ (report_of c d) (naked_singles g m) → number_at f c ≡ pos (suc d)
  naked-reported c d h =
      let small = mask-small g ok a.under in
      let w = naked-reports g m small ((naked-singles g m small _).1 refl) c d h in
      naked-true c d w.0 w.1

  hidden-reported : (c d : ℕ) → Memᴰ (report_of c d) (hidden_singles g m) → number_at f c ≡ pos (suc d)
  hidden-reported c d h =
      let w = hidden-reports g m ((hidden-singles g m _).1 refl) c d h in
      hidden-true w.0 d c w.1 w.2 w.3

module _ (clues entries : List ℤ) (ok : Clues clues) (en : Entries clues entries) (xs : List Deed) (n : without_ported (calls_in xs) ≡ true) (b : Board) (is : b ≡ play xs (opened_with clues entries))
    (f : List ℤ) (size : length f ≡ 81) (v : verified f ≡ true) (k : Keeps b f) where
  inside : InMasks b.masks f
  inside = (subst FillingsStay (sym is) (list-theorem.fillings clues entries ok en xs n) f size v).1 k

  a : Admissible (givens b) b.masks
  a = (subst (Good Keeping) (sym is) (played clues entries ok en xs n)).masks.admissible

  digits : Givens (givens b)
  digits = clues-givens (together b.clues b.entries)

  naked : (c d : ℕ) → Memᴰ (report_of c d) (naked_singles (givens b) b.masks) → number_at f c ≡ pos (suc d)
  naked = naked-reported (givens b) b.masks digits a f (verified-correct f size v) inside

  hidden : (c d : ℕ) → Memᴰ (report_of c d) (hidden_singles (givens b) b.masks) → number_at f c ≡ pos (suc d)
  hidden = hidden-reported (givens b) b.masks digits a f (verified-correct f size v) inside

pub singles-hold : SinglesHold
singles-hold = record { naked = naked; hidden = hidden }
