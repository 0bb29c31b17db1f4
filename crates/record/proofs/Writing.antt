-- Writing sections: the candidates that are still to be written, the length of a section, and what the writer answers. Assumes nothing.
use mathlib.Core.Path.{◌≡◌, refl, sym, ap, ◌∙◌}
use mathlib.Core.Bool.{Bool}
use mathlib.Core.List.{List, [], ◌∷◌, ◌++◌}
use Prim.Native.Nat.{ℕ, zero, suc, ◌+◌, ◌-◌, ◌*◌, ◌/◌, ◌%◌, ◌≤◌, ◌<◌}
use native.Mathlib.Nat.{le_refl}
use native.Mathlib.Numerals.{add-one}
use native.Mathlib.Omega.{arith}
use borrow.Author.Tests.{le-leb, lt-leb}
use lib.Dec.{leb}
use lib.IntN.{pos}
use lib.ListN.{length, set, length-append}
use Rattle.stops.specs.Answer.{gives, stop}
use Rattle.stops.specs.declared.Stop.TheVariants.{TooFewBytes}
use Rattle.candidates.proofs.Tests.{by-test, cond-true, cond-false}
use Rattle.grid.proofs.Lists.{range-end}
use Rattle.steps.specs.Boards.{Board, givens, givens_of, fresh}
use Rattle.steps.specs.Loops.{range, select}
use Rattle.record.specs.declared.forms.Form.{Form}
use Rattle.record.specs.declared.forms.Form.TheVariants.{New}
use Rattle.record.specs.declared.sections.Section.{Section}
use Rattle.record.specs.declared.sections.Section.TheVariants.{Digits, Removed}
use Rattle.record.specs.Records.{digit_sets, lacking, entry_section, bytes_in, write_in}
use Rattle.record.specs.Sections.{width, in_sets, candidates, entry_bytes, low_first, section_bytes, stored}
use Rattle.record.proofs.Stores.{stored-append, stored-apart}

-- ---- the candidates from k on

unfoldable pub rest : List ℕ → ℕ → List ℕ
rest s k = select (in_sets s) (range (729 - k) k)

module _ (s : List ℕ) where
  pub rest-start : rest s 0 ≡ candidates s
  unfolding rest candidates
  rest-start = refl

  module _ (k : ℕ) where
    pub rest_end : 729 ≤ k → rest s k ≡ []
    unfolding rest
    rest_end h = ap (select (in_sets s)) (range-end 729 k h)

-- ---- lengths

pub select-length : (f : ℕ → Bool) (n k : ℕ) → length (select f (range n k)) ≤ n
select-length f zero k = le_refl 0
select-length f (suc n) k =
    by-test (λ (l : List ℕ). length l ≤ suc n) (f k) (k ∷ select f (range n (suc k))) (select f (range n (suc k)))
    (λ t. omega (arith, select-length f n (suc k))) (λ t. omega (arith, select-length f n (suc k)))

pub candidates-few : (s : List ℕ) → length (candidates s) ≤ 729
unfolding candidates
candidates-few s = select-length (in_sets s) 729 0

pub entries-length : (ks : List ℕ) → length (entry_bytes ks) ≡ 2 * length ks
entries-length [] = refl
entries-length (k ∷ ks) = omega (arith, entries-length ks)

pub entries-append : (ks js : List ℕ) → entry_bytes (ks ++ js) ≡ entry_bytes ks ++ entry_bytes js
entries-append [] js = refl
entries-append (k ∷ ks) js = ap (λ (l : List ℕ). k / 9 ∷ (k % 9 + 1) ∷ l) (entries-append ks js)

pub number-length : (w n : ℕ) → length (low_first w n) ≡ w
number-length zero n = refl
number-length (suc w) n = ap suc (number-length w (n / 256))

module _ (k : Section) (s : List ℕ) where
  pub section-length : length (section_bytes k s) ≡ width k + 2 * length (candidates s)
  unfolding section_bytes
  section-length =
      length-append (low_first (width k) (length (candidates s))) (entry_bytes (candidates s))
      ∙ omega (arith, number-length (width k) (length (candidates s)), entries-length (candidates s))

  -- the entries first, and then the count before them
  pub section-put : (l : List ℕ) (i n : ℕ) → n ≡ length (candidates s)
      → stored (stored l (i + width k) (entry_bytes (candidates s))) i (low_first (width k) n) ≡ stored l i (section_bytes k s)
  unfolding section_bytes
  section-put l i n e =
      let count = low_first (width k) (length (candidates s)) in
      let w = number-length (width k) (length (candidates s)) in
      ap (λ (m : ℕ). stored (stored l (i + width k) (entry_bytes (candidates s))) i (low_first (width k) m)) e
      ∙ sym (stored-apart l i count (i + width k) (entry_bytes (candidates s)) (omega arith))
      ∙ ap (λ (m : ℕ). stored (stored l i count) (i + m) (entry_bytes (candidates s))) (sym w)
      ∙ sym (stored-append l i count (entry_bytes (candidates s)))

-- ---- the count

module _ (l : List ℕ) (i n : ℕ) where
  pub count-one : {k : Section} → k ≡ Digits → set l i (n % 256) ≡ stored l i (low_first (width k) n)
  count-one e = ap (λ (k : Section). stored l i (low_first (width k) n)) (sym e)

  pub count-two : {k : Section} → n < 65536 → k ≡ Removed → set (set l i (n % 256)) (i + 1) (n / 256) ≡ stored l i (low_first (width k) n)
  count-two h e =
      let high : n / 256 ≡ n / 256 % 256 = omega arith in
      ap (λ (j : ℕ). set (set l i (n % 256)) j (n / 256)) (add-one i) ∙ ap (λ (b : ℕ). set (set l i (n % 256)) (suc i) b) high
      ∙ ap (λ (k : Section). stored l i (low_first (width k) n)) (sym e)

-- ---- the record

pub record-size : (b : Board) → length (bytes_in New b)
    ≡ 4 + 2 * length (candidates (digit_sets (givens_of b.clues))) + 2 * length (candidates (digit_sets (givens_of b.entries))) + 2 * length (candidates (lacking (fresh (givens b)) b.masks))
unfolding bytes_in
record-size b =
    let cs = digit_sets (givens_of b.clues) in
    let es = digit_sets (givens_of b.entries) in
    let ls = lacking (fresh (givens b)) b.masks in
    omega (
      arith,
      length-append (section_bytes Digits cs) (section_bytes Digits es ++ section_bytes Removed ls),
      length-append (section_bytes Digits es) (section_bytes Removed ls),
      section-length Digits cs,
      section-length Digits es,
      section-length Removed ls,
    )

module _ (k : Form) (b : Board) where
  pub record_is : {g f cs es ls : List ℕ} → g ≡ givens b → f ≡ fresh g → cs ≡ digit_sets (givens_of b.clues) → es ≡ digit_sets (givens_of b.entries) → ls ≡ lacking f b.masks
      → section_bytes Digits cs ++ (entry_section k es ++ section_bytes Removed ls) ≡ bytes_in k b
  unfolding bytes_in
  record_is p q r e t =
      let w = t ∙ ap (λ (x : List ℕ). lacking x b.masks) (q ∙ ap fresh p) in
      λ i. section_bytes Digits (r i) ++ (entry_section k (e i) ++ section_bytes Removed (w i))

module _ (n lent : ℕ) where
  pub write-short : lent < n → stop (TooFewBytes (pos lent)) ≡ write_in n lent
  write-short h = sym (cond-false (leb n lent) (gives n) (stop (TooFewBytes (pos lent))) (lt-leb n lent h))

  pub write-whole : n ≤ lent → gives n ≡ write_in n lent
  write-whole h = sym (cond-true (leb n lent) (gives n) (stop (TooFewBytes (pos lent))) (le-leb n lent h))
