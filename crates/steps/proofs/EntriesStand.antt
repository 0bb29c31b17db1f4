-- An entry's cell has its digit alone as its mask, and no call but rubbing it out changes that. Assumes nothing.
use mathlib.Core.Path.{◌≡◌, refl, sym, ap, ◌∙◌, subst}
use mathlib.Core.Logic.{◌≢◌}
use mathlib.Core.Bool.{false}
use Prim.Native.Nat.{ℕ, ◌-◌, ◌<◌}
use native.Mathlib.Omega.{arith}
use borrow.Author.Tests.{eqb-false, ne_eqb}
use lib.Dec.{eqb}
use lib.IntN.{ℤ, pos}
use lib.ListN.{get_or}
use Rattle.stops.specs.Answer.{Answer, gives, stop}
use Rattle.candidates.specs.Masks.{minus, single, place_mask}
use Rattle.candidates.specs.Sets.{place}
use Rattle.candidates.proofs.Membership.{place-single}
use Rattle.candidates.proofs.Places.{place-pos}
use Rattle.candidates.proofs.Tests.{cond-false}
use Rattle.steps.specs.Boards.{Board, digit_of, together, givens, given, is_open, given_mask, taken, Admissible}
use Rattle.steps.specs.Calls.{Entries, Outcome, answer, left, opened_with}
use Rattle.steps.specs.Entries.{rub_out, Deed, step, entry, deed, entry_at, HasEntry, EntriesStand}
use Rattle.steps.proofs.Check.{digit-small, good-digit, given-clue}
use Rattle.steps.proofs.Entries.{some-digit, entry-fits, entry-there, entry-stays, entry-leaves, givens-none}
use Rattle.steps.proofs.Fresh.{fresh_at_lem}
use Rattle.steps.proofs.Lists.{Good, admitted-good, deed-admits}

-- on a good board, from what the entry is
module _ (b : Board) (r : Good Admissible b) (c : ℕ) (h : c < 81) (n : entry_at b c ≢ pos 0) where
  z : ℤ
  z = entry_at b c

  good : pos (digit_of z) ≡ z
  unfolding z
  good = good-digit z (entry-fits (get_or b.clues c (pos 0)) z (r.entries.good c h))

  some : digit_of z ≢ 0
  unfolding z
  some = eqb-false (digit_of z) 0 (some-digit z (entry-fits (get_or b.clues c (pos 0)) z (r.entries.good c h)) n)

  given-entry : given (givens b) c ≡ digit_of z
  unfolding z
  given-entry = given-clue (together b.clues b.entries) c h ∙ ap digit_of (entry-there b.clues b.entries r.entries c h n)

  shut : is_open (givens b) c ≡ false
  shut = ap (λ (d : ℕ). eqb d 0) given-entry ∙ ne_eqb (digit_of z) 0 some

  pub has-entry : HasEntry b c (entry_at b c)
  unfolding z
  has-entry =
      record {
        entry = refl;
        mask =
            r.masks.clues c shut ∙ fresh_at_lem (givens b) c h ∙ cond-false (is_open (givens b) c) (minus 511 (taken (givens b) c)) (given_mask (givens b) c) shut
            ∙ cond-false (is_open (givens b) c) 0 (place_mask (given (givens b) c - 1)) shut ∙ ap (λ (d : ℕ). place_mask (d - 1)) given-entry
            ∙ place-single (digit_of z - 1) (omega (arith, digit-small z))
            ∙ ap single (sym (place-pos (digit_of z) (omega (arith, some)) (digit-small z)) ∙ ap place good);
      }

-- what a call leaves in the cell
module _ (b : Board) (en : Entries b.clues b.entries) (c : ℕ) (n : entry_at b c ≢ pos 0) where
  step-leaves : (a : Answer Outcome) → entry_at (left b a) c ≡ entry_at b c
  step-leaves (gives o) = refl
  step-leaves (stop s) = refl

  pub deed-leaves : (x : Deed) → x ≢ entry (rub_out c) → entry_at (deed x b) c ≡ entry_at b c
  unfolding deed opened_with
  deed-leaves (step k) other = step-leaves (answer k b)
  deed-leaves (entry k) other =
      entry-leaves (λ (a : Board). entry_at a c ≡ entry_at b c) k b refl (λ es e. entry-stays b.clues b.entries en k es e c n (λ q. other (ap entry q)))

pub entries-stand : EntriesStand
entries-stand =
    record {
      without = givens-none;
      alone = λ b a c h n. has-entry b (admitted-good b a) c h n;
      stays = λ b a c h n x other.
          let r = admitted-good b a in
          let e = deed-leaves b r.entries c n x other in
          subst (HasEntry (deed x b) c) e (has-entry (deed x b) (deed-admits x b r) c h (λ q. n (sym e ∙ q)));
    }
