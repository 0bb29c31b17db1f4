-- One entry of a section: which bytes are well formed, and what stands at an offset. Assumes nothing.
use mathlib.Core.Path.{◌≡◌, refl, sym, ap, ◌∙◌}
use mathlib.Core.Bool.{Bool, true, false, cond, ◌&&◌}
use mathlib.Core.List.{List}
use Prim.Native.Nat.{ℕ, ◌+◌, ◌-◌, ◌*◌, ◌≤◌, ◌<◌, ◌^◌}
use native.Mathlib.Omega.{arith}
use borrow.Author.Tests.{le-leb, lt-leb, leb-true}
use lib.Dec.{leb, lit≤}
use lib.IntN.{ℤ, pos}
use lib.ListN.{length, get_or}
use mir.Syntax.{w64}
use mir.Val.{to_z}
use Rattle.stops.specs.Answer.{Answer, gives, stop, then}
use Rattle.stops.specs.declared.Stop.{Stop}
use Rattle.stops.specs.declared.Stop.TheVariants.{RecordBytes, RecordEntry}
use Rattle.stops.proofs.Answers.{gives_same, stop-gives}
use Rattle.stops.proofs.Numbers.{small}
use Rattle.candidates.specs.Masks.{has}
use Rattle.candidates.proofs.Tests.{both_left, both_right, cond-true, cond-false}
use Rattle.steps.specs.Boards.{at}
use Rattle.cells.specs.code.Places.{mask_at}
use Rattle.cells.proofs.Places.{mask_at_lem}
use Rattle.record.specs.declared.sections.Section.{Section}
use Rattle.record.specs.declared.sections.Section.TheVariants.{Digits, Removed}
use Rattle.record.specs.Sections.{width, outside, number_at, named, well_formed, entry_of, entry_at}

-- ---- an answer that is given

pub then-gives : {A B : Type 0} (a : Answer A) {f : A → Answer B} {b : B} → then a f ≡ gives b → (x : A) × (a ≡ gives x) × (f x ≡ gives b)
then-gives (gives x) e = (x, refl, e)
then-gives (stop s) e = absurd (stop-gives e)

pub tested-gives : {A : Type 0} (t : Bool) (a : Answer A) (s : Stop) {b : A} → cond t a (stop s) ≡ gives b → (t ≡ true) × (a ≡ gives b)
tested-gives true a s e = (refl, e)
tested-gives false a s e = absurd (stop-gives e)

-- a place in the record, as the code holds it
pub placed : {A : Type 0} (case : ℤ → Stop) {n : ℕ} → n < 2 ^ 63 → ◌≡◌ {A = Answer A} (stop (case (to_z w64 n))) (stop (case (pos n)))
placed case h = ap (λ (z : ℤ). stop (case z)) (small h)

-- ---- well-formed bytes

pub record Formed (low c d : ℕ) : Type 0 where
  pub cell : c ≤ 80
  pub some : 1 ≤ d
  pub digit : d ≤ 9
  pub rises : low ≤ named c d

module _ (low c d : ℕ) where
  pub cell-above : 80 < c → false ≡ well_formed low c d
  cell-above h = rw (lt-leb c 80 h)

  module _ (h : c ≤ 80) where
    pub digit-none : d < 1 → false ≡ well_formed low c d
    digit-none l = rw (le-leb c 80 h, lt-leb 1 d l)

    module _ (l : 1 ≤ d) where
      pub digit-above : 9 < d → false ≡ well_formed low c d
      digit-above m = rw (le-leb c 80 h, le-leb 1 d l, lt-leb d 9 m)

      pub rising : d ≤ 9 → leb low (named c d) ≡ well_formed low c d
      rising m = rw (le-leb c 80 h, le-leb 1 d l, le-leb d 9 m)

  pub formed : well_formed low c d ≡ true → Formed low c d
  formed t =
      let abc = both_left (leb c 80 && leb 1 d && leb d 9) (leb low (named c d)) t in
      let ab = both_left (leb c 80 && leb 1 d) (leb d 9) abc in
      record {
        cell = leb-true c 80 (both_left (leb c 80) (leb 1 d) ab);
        some = leb-true 1 d (both_right (leb c 80) (leb 1 d) ab);
        digit = leb-true d 9 (both_right (leb c 80 && leb 1 d) (leb d 9) abc);
        rises = leb-true low (named c d) (both_right (leb c 80 && leb 1 d && leb d 9) (leb low (named c d)) t);
      }

  pub well : Formed low c d → well_formed low c d ≡ true
  well f = sym (rising f.cell f.some f.digit) ∙ le-leb low (named c d) f.rises

-- the mask of a cell, as the code reads it
pub cell-mask : (free : List ℕ) {low c d : ℕ} → Formed low c d → mask_at free c ≡ at free c
cell-mask free {c = c} f = mask_at_lem free c (omega (arith, f.cell))

-- ---- a count

module _ (bs : List ℕ) (i : ℕ) {k : Section} {b : ℕ} (p : b ≡ get_or bs i 0) where
  pub number-one : k ≡ Digits → b ≡ number_at (width k) bs i
  number-one e =
      let z : b ≡ get_or bs i 0 + 256 * 0 = omega arith in
      z ∙ ap (λ (k : Section). number_at (width k) bs i) (sym e)

  pub number-two : {d : ℕ} → d ≡ get_or bs (i + 1) 0 → k ≡ Removed → b + 256 * d ≡ number_at (width k) bs i
  number-two {d} q e =
      let z : b + 256 * d ≡ get_or bs i 0 + 256 * (get_or bs (i + 1) 0 + 256 * 0) = omega arith in
      z ∙ ap (λ (k : Section). number_at (width k) bs i) (sym e)

pub width_some : (k : Section) → 1 ≤ width k
width_some Digits = lit≤ tt
width_some Removed = lit≤ tt

pub width-most : (k : Section) → width k ≤ 2
width-most Digits = lit≤ tt
width-most Removed = lit≤ tt

-- ---- an entry at an offset

module _ (k : Section) (free bs : List ℕ) (low i : ℕ) where
  pub entry-missing : length bs < i + 2 → stop (RecordBytes (pos (length bs))) ≡ entry_at k free bs low i
  unfolding entry_at
  entry-missing h = sym (cond-false (leb (i + 2) (length bs)) _ (stop (RecordBytes (pos (length bs)))) (lt-leb (i + 2) (length bs) h))

  module _ (h : i + 2 ≤ length bs) {c d : ℕ} (p : c ≡ get_or bs i 0) (q : d ≡ get_or bs (i + 1) 0) where
    entry_whole : entry_of k free low i c d ≡ entry_at k free bs low i
    unfolding entry_at
    entry_whole = rw (p, q, le-leb (i + 2) (length bs) h)

    pub entry-bad : well_formed low c d ≡ false → stop (RecordEntry (pos i)) ≡ entry_at k free bs low i
    entry-bad t = sym (cond-false (well_formed low c d) _ (stop (RecordEntry (pos i))) t) ∙ entry_whole

    module _ (t : well_formed low c d ≡ true) where
      tested : cond (has (at free c) (d - 1)) (gives (named c d)) (stop (outside k (pos i))) ≡ entry_at k free bs low i
      tested = sym (cond-true (well_formed low c d) _ (stop (RecordEntry (pos i))) t) ∙ entry_whole

      pub entry-outside : has (at free c) (d - 1) ≡ false → stop (outside k (pos i)) ≡ entry_at k free bs low i
      entry-outside u = sym (cond-false (has (at free c) (d - 1)) (gives (named c d)) (stop (outside k (pos i))) u) ∙ tested

      pub entry_named : has (at free c) (d - 1) ≡ true → gives (named c d) ≡ entry_at k free bs low i
      entry_named u = sym (cond-true (has (at free c) (d - 1)) (gives (named c d)) (stop (outside k (pos i))) u) ∙ tested

  -- an entry that is read
  pub record Named (e : ℕ) : Type 0 where
    pub within : i + 2 ≤ length bs
    pub bytes : Formed low (get_or bs i 0) (get_or bs (i + 1) 0)
    pub is : e ≡ named (get_or bs i 0) (get_or bs (i + 1) 0)
    pub held : has (at free (get_or bs i 0)) (get_or bs (i + 1) 0 - 1) ≡ true

  pub named-entry : (e : ℕ) → entry_at k free bs low i ≡ gives e → Named e
  unfolding entry_at
  named-entry e t =
      let x = tested-gives (leb (i + 2) (length bs)) _ _ t in
      let y = tested-gives (well_formed low (get_or bs i 0) (get_or bs (i + 1) 0)) _ _ x.1 in
      let z = tested-gives (has (at free (get_or bs i 0)) (get_or bs (i + 1) 0 - 1)) _ _ y.1 in
      record {
        within = leb-true (i + 2) (length bs) x.0;
        bytes = formed low (get_or bs i 0) (get_or bs (i + 1) 0) y.0;
        is = sym (gives_same z.1);
        held = z.0;
      }

  pub named_small : {e : ℕ} → Named e → e < 729
  named_small n = omega (arith, n.is, n.bytes.cell, n.bytes.some, n.bytes.digit)
