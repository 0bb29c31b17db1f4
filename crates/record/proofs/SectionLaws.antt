-- A section that is read is the one that is written of its sets, and the other way about; over the section, with no case for clues or removals.
-- Assumes nothing.
use mathlib.Core.Path.{◌≡◌, refl, sym, ap, ◌∙◌, subst}
use mathlib.Core.Logic.{⊎_elim}
use mathlib.Core.Bool.{true, true≢false}
use mathlib.Core.List.{List, [], ◌∷◌, ◌++◌, append_assoc, append-nil}
use Prim.Native.Nat.{ℕ, zero, suc, ◌+◌, ◌-◌, ◌*◌, ◌/◌, ◌%◌, ◌≤◌, ◌<◌, zero-le}
use native.Mathlib.Nat.{add-zero, le_refl}
use native.Mathlib.Numerals.{add-one}
use native.Mathlib.Omega.{arith}
use borrow.Author.Tests.{leb-true}
use lib.Dec.{leb, lit<}
use lib.ListN.{length, get_or, drop, length-append, length-drop, length-set, length-replicate}
use lib.Seq.{append_snoc, drop_at, drop-cons, get_or-drop, drop-drop}
use Rattle.stops.specs.Answer.{Answer, gives, then}
use Rattle.stops.proofs.Answers.{gives_same}
use Rattle.candidates.specs.Masks.{has, single, union}
use Rattle.candidates.proofs.Tests.{by-test}
use Rattle.steps.specs.Boards.{at}
use Rattle.steps.specs.Loops.{each, range, select}
use Rattle.record.specs.declared.sections.Section.{Section}
use Rattle.record.specs.declared.sections.Section.TheVariants.{Digits, Removed}
use Rattle.record.specs.Sections.{width, after, in_sets, candidates, entry_bytes, low_first, section_bytes, number_at, named, entry_at, with, SectionRead, with_sets, read_entries, no_sets, read_section}
use Rattle.record.proofs.CandidateLists.{in-cases, with-small, added-last, at_none, in-none, candidates-none, sets_same}
use Rattle.record.proofs.Entries.{then-gives, tested-gives, well, width_some, entry_named, Named, named-entry, named_small}
use Rattle.record.proofs.SectionsRead.{section-read}
use Rattle.record.proofs.Writing.{candidates-few, entries-append, number-length, section-length}

-- ---- lists of entries

-- the next two bytes
two_bytes : (bs : List ℕ) (i : ℕ) → i + 2 ≤ length bs → drop i bs ≡ get_or bs i 0 ∷ get_or bs (i + 1) 0 ∷ drop (i + 2) bs
two_bytes bs i h =
    let n : suc (suc i) ≡ i + 2 = omega arith in
    drop-cons bs i 0 (omega arith) ∙ ap (λ (l : List ℕ). get_or bs i 0 ∷ l) (drop-cons bs (suc i) 0 (omega arith))
    ∙ ap (λ (j : ℕ). get_or bs i 0 ∷ get_or bs j 0 ∷ drop (suc (suc i)) bs) (sym (add-one i))
    ∙ ap (λ (j : ℕ). get_or bs i 0 ∷ get_or bs (i + 1) 0 ∷ drop j bs) n

pub after-above : (k : Section) (e : ℕ) → e < after k e
after-above Digits e = omega arith
after-above Removed e = omega arith

-- sets that a section can hold: of the free candidates, and of a clue's cell no other
pub record Holds (k : Section) (free s : List ℕ) : Type 0 where
  pub size : length s ≡ 81
  pub small : (c : ℕ) → at s c < 512
  pub fits : (a b : ℕ) → in_sets s a ≡ true → in_sets s b ≡ true → a < b → after k a ≤ b
  pub within : (j : ℕ) → in_sets s j ≡ true → in_sets free j ≡ true

-- ---- a section that is read

-- n entries are left of `count` that began at `start`
record Reads (k : Section) (free bs : List ℕ) (start count n low i : ℕ) (s : List ℕ) : Type 0 where
  pub holds : Holds k free s
  pub below : (j : ℕ) → in_sets s j ≡ true → after k j ≤ low
  pub number : length (candidates s) + n ≡ count
  pub bytes : drop start bs ≡ entry_bytes (candidates s) ++ drop i bs

module _ (k : Section) (free bs : List ℕ) where
  module _ (start count n low i : ℕ) (s : List ℕ) (r : Reads k free bs start count (suc n) low i s) (e : ℕ) (m : Named k free bs low i e) where
    size : length s ≡ 81
    size = r.holds.size

    small : e < 729
    small = named_small k free bs low i m

    cell : get_or bs i 0 ≡ e / 9
    cell = omega (arith, m.is, m.bytes.some, m.bytes.digit)

    digit : get_or bs (i + 1) 0 ≡ e % 9 + 1
    digit = omega (arith, m.is, m.bytes.some, m.bytes.digit)

    low-le : low ≤ e
    low-le = omega (arith, m.is, m.bytes.rises)

    lower : (j : ℕ) → in_sets s j ≡ true → j < e
    lower j t = omega (arith, r.below j t, after-above k j, low-le)

    list : candidates (with s e) ≡ candidates s ++ (e ∷ [])
    list = added-last s e size small lower

    is_free : in_sets free e ≡ true
    is_free =
        let d : get_or bs (i + 1) 0 - 1 ≡ e % 9 = omega (arith, digit) in
        ap (λ (c : ℕ). has (at free c) (e % 9)) (sym cell) ∙ ap (has (at free (get_or bs i 0))) (sym d) ∙ m.held

    reads_on : Reads k free bs start count n (after k e) (i + 2) (with s e)
    reads_on =
        record {
          holds =
              record {
                size = length-set s (e / 9) (union (at s (e / 9)) (single (e % 9))) ∙ size;
                small = with-small s e size small r.holds.small;
                fits = pairs;
                within = λ j t. ⊎_elim (λ u. r.holds.within j u) (λ (q : j ≡ e). rw q is_free) (in-cases s e size small j t);
              };
          below = λ j t. ⊎_elim (λ u. omega (arith, r.below j u, low-le, after-above k e)) (λ (q : j ≡ e). rw q (le_refl (after k e))) (in-cases s e size small j t);
          number = omega (arith, r.number, ap length list, length-append (candidates s) (e ∷ []));
          bytes = run;
        }
      where
        pairs : (a b : ℕ) → in_sets (with s e) a ≡ true → in_sets (with s e) b ≡ true → a < b → after k a ≤ b
        pairs a b t u h =
            ⊎_elim
            (λ v. ⊎_elim (λ w. r.holds.fits a b v w h) (λ (q : b ≡ e). omega (arith, r.below a v, low-le)) (in-cases s e size small b u))
            (λ (p : a ≡ e). ⊎_elim (λ w. absurd (omega (arith, lower b w))) (λ (q : b ≡ e). absurd (omega arith)) (in-cases s e size small b u))
            (in-cases s e size small a t)

        run : drop start bs ≡ entry_bytes (candidates (with s e)) ++ drop (i + 2) bs
        run =
            r.bytes ∙ ap (λ (l : List ℕ). entry_bytes (candidates s) ++ l) (two_bytes bs i m.within)
            ∙ ap (λ (x : ℕ). entry_bytes (candidates s) ++ (x ∷ get_or bs (i + 1) 0 ∷ drop (i + 2) bs)) cell
            ∙ ap (λ (x : ℕ). entry_bytes (candidates s) ++ (e / 9 ∷ x ∷ drop (i + 2) bs)) digit
            ∙ sym (append_assoc (entry_bytes (candidates s)) (entry_bytes (e ∷ [])) (drop (i + 2) bs))
            ∙ ap (λ (l : List ℕ). l ++ drop (i + 2) bs) (sym (entries-append (candidates s) (e ∷ [])) ∙ ap entry_bytes (sym list))

  read_all : (start count n low i : ℕ) (s : List ℕ) → Reads k free bs start count n low i s → (r : SectionRead) → read_entries k free bs n low i s ≡ gives r → (l : ℕ) × Reads k free bs start count 0 l r.next r.sets
  unfolding read_entries
  read_all start count zero low i s p r t = subst (λ (x : SectionRead). (l : ℕ) × Reads k free bs start count 0 l x.next x.sets) (gives_same t) (low, p)
  read_all start count (suc n) low i s p r t =
      let w = then-gives (entry_at k free bs low i) t in
      read_all start count n (after k w.0) (i + 2) (with s w.0) (reads_on start count n low i s p w.0 (named-entry k free bs low i w.0 w.1)) r w.2

-- the count's bytes
pub count-bytes : (w : ℕ) (bs : List ℕ) (i : ℕ) → ((j : ℕ) → get_or bs j 0 < 256) → i + w ≤ length bs → drop i bs ≡ low_first w (number_at w bs i) ++ drop (i + w) bs
count-bytes zero bs i h l = ap (λ (j : ℕ). drop j bs) (sym (add-zero i))
count-bytes (suc w) bs i h l =
    let n = number_at w bs (i + 1) in
    let low : get_or bs i 0 ≡ (get_or bs i 0 + 256 * n) % 256 = omega (arith, h i) in
    let high : n ≡ (get_or bs i 0 + 256 * n) / 256 = omega (arith, h i) in
    let m : i + 1 + w ≡ i + suc w = omega arith in
    drop-cons bs i 0 (omega arith) ∙ ap (λ (j : ℕ). get_or bs i 0 ∷ drop j bs) (sym (add-one i))
    ∙ ap (λ (l : List ℕ). get_or bs i 0 ∷ l) (count-bytes w bs (i + 1) h (omega arith))
    ∙ ap (λ (x : ℕ). x ∷ (low_first w n ++ drop (i + 1 + w) bs)) low
    ∙ ap (λ (x : ℕ). (get_or bs i 0 + 256 * n) % 256 ∷ (low_first w x ++ drop (i + 1 + w) bs)) high
    ∙ ap (λ (j : ℕ). (get_or bs i 0 + 256 * n) % 256 ∷ (low_first w ((get_or bs i 0 + 256 * n) / 256) ++ drop j bs)) m

-- a section that was read at offset i, up to its end
pub section-of : (k : Section) (free bs : List ℕ) (i : ℕ) (r : SectionRead) → ((j : ℕ) → get_or bs j 0 < 256) → read_section k free bs i ≡ gives r
    → Holds k free r.sets × (drop i bs ≡ section_bytes k r.sets ++ drop r.next bs)
unfolding read_section section_bytes
section-of k free bs i r h t =
    let w = (read_all k free bs (i + width k) n n 0 (i + width k) no_sets begins r long.1).1 in
    let m : length (candidates r.sets) ≡ n = omega (arith, w.number) in (
      w.holds,
      count-bytes (width k) bs i h (leb-true (i + width k) (length bs) long.0)
          ∙ ap (λ (l : List ℕ). low_first (width k) n ++ l) w.bytes
          ∙ sym (append_assoc (low_first (width k) n) (entry_bytes (candidates r.sets)) (drop r.next bs))
          ∙ ap (λ (x : ℕ). low_first (width k) x ++ entry_bytes (candidates r.sets) ++ drop r.next bs) (sym m),
    )
  where
    n : ℕ
    n = number_at (width k) bs i

    begins : Reads k free bs (i + width k) n n 0 (i + width k) no_sets
    begins =
        record {
          holds =
              record {
                size = length-replicate {A = ℕ} 81 0;
                small = λ c. rw (at_none c) (lit< tt);
                fits = λ a b u v l. absurd (true≢false (sym u ∙ in-none a));
                within = λ j u. absurd (true≢false (sym u ∙ in-none j));
              };
          below = λ j u. absurd (true≢false (sym u ∙ in-none j));
          number = ap (λ (ks : List ℕ). length ks + n) candidates-none ∙ omega arith;
          bytes = sym (ap (λ (ks : List ℕ). entry_bytes ks ++ drop (i + width k) bs) candidates-none);
        }

    long : (leb (i + width k) (length bs) ≡ true) × (read_entries k free bs n 0 (i + width k) no_sets ≡ gives r)
    long = tested-gives (leb (i + width k) (length bs)) _ _ t

-- ---- a section that is written

-- entries that can be read from the candidate low on
data Rises (k : Section) (free : List ℕ) : ℕ → List ℕ → Type 0 where
  none : {low : ℕ} → Rises k free low []
  next : {low e : ℕ} {es : List ℕ} → low ≤ e → e < 729 → in_sets free e ≡ true → Rises k free (after k e) es → Rises k free low (e ∷ es)

rises-range : (k : Section) (free s : List ℕ) → Holds k free s → (n j low : ℕ) → j + n ≤ 729 → ((a : ℕ) → j ≤ a → in_sets s a ≡ true → low ≤ a)
    → Rises k free low (select (in_sets s) (range n j))
rises-range k free s h zero j low m p = none
rises-range k free s h (suc n) j low m p =
    by-test (λ (l : List ℕ). Rises k free low l) (in_sets s j) (j ∷ select (in_sets s) (range n (suc j))) (select (in_sets s) (range n (suc j)))
    (λ t. next (p j (le_refl j) t) (omega arith) (h.within j t) (rises-range k free s h n (suc j) (after k j) (omega arith) (λ a l u. h.fits j a t u l)))
    (λ t. rises-range k free s h n (suc j) low (omega arith) (λ a l u. p a (omega arith) u))

rises : (k : Section) (free s : List ℕ) → Holds k free s → Rises k free 0 (candidates s)
unfolding candidates
rises k free s h = rises-range k free s h 729 0 0 (omega arith) (λ a l u. zero-le)

abbrev adding : List ℕ → List ℕ → List ℕ
adding es s = each (λ e s. with s e) es s

-- the sets that the entries make
record Grown (s : List ℕ) (es : List ℕ) (t : List ℕ) : Type 0 where
  pub list : candidates t ≡ candidates s ++ es
  pub size : length t ≡ 81
  pub small : (c : ℕ) → at t c < 512

grown : (k : Section) (free : List ℕ) {low : ℕ} {es : List ℕ} → Rises k free low es → (s : List ℕ) → length s ≡ 81 → ((c : ℕ) → at s c < 512)
    → ((j : ℕ) → in_sets s j ≡ true → j < low) → Grown s es (adding es s)
unfolding each
grown k free none s size small below = record { list = sym (append-nil (candidates s)); size = size; small = small }
grown k free (next {low} {e} {es} l m f p) s size small below =
    let g = grown k free p (with s e) (length-set s (e / 9) (union (at s (e / 9)) (single (e % 9))) ∙ size) (with-small s e size m small)
    (λ j t. ⊎_elim (λ u. omega (arith, below j u, after-above k e)) (λ (q : j ≡ e). omega (arith, after-above k e)) (in-cases s e size m j t)) in
    record {
      list = g.list ∙ ap (λ (x : List ℕ). x ++ es) (added-last s e size m (λ j u. omega (arith, below j u))) ∙ append_snoc (candidates s) e es;
      size = g.size;
      small = g.small;
    }

-- the entries of sets make the sets again
made_again : (k : Section) (free s : List ℕ) → Holds k free s → adding (candidates s) no_sets ≡ s
made_again k free s h =
    let g = grown k free (rises k free s h) no_sets (length-replicate {A = ℕ} 81 0) (λ c. rw (at_none c) (lit< tt)) (λ j u. absurd (true≢false (sym u ∙ in-none j))) in
    sets_same (adding (candidates s) no_sets) s g.size h.size g.small h.small (g.list ∙ ap (λ (l : List ℕ). l ++ candidates s) candidates-none)

read-rises : (k : Section) (free bs : List ℕ) {low : ℕ} {es : List ℕ} → Rises k free low es → (i : ℕ) (s t : List ℕ) → drop i bs ≡ entry_bytes es ++ t
    → read_entries k free bs (length es) low i s ≡ gives (with_sets (adding es s) (i + 2 * length es))
unfolding read_entries each
read-rises k free bs none i s t q =
    let n : i ≡ i + 2 * 0 = omega arith in
    ap (λ (j : ℕ). gives (with_sets s j)) n
read-rises k free bs (next {low} {e} {es} l m f p) i s t q =
    let n : i + 2 + 2 * length es ≡ i + 2 * suc (length es) = omega arith in
    ap (λ (a : Answer ℕ). then a (λ e. read_entries k free bs (length es) (after k e) (i + 2) (with s e))) entry
    ∙ read-rises k free bs p (i + 2) (with s e) t (sym (drop-drop 2 i bs) ∙ ap (drop 2) q) ∙ ap (λ (j : ℕ). gives (with_sets (adding es (with s e)) j)) n
  where
    long : i + 2 ≤ length bs
    long = omega (arith, length-drop i bs, ap length q)

    cell : e / 9 ≡ get_or bs i 0
    cell = sym (ap (λ (j : ℕ). get_or bs j 0) (sym (add-zero i)) ∙ sym (get_or-drop i bs 0 0) ∙ ap (λ (l : List ℕ). get_or l 0 0) q)

    digit : e % 9 + 1 ≡ get_or bs (i + 1) 0
    digit = sym (sym (get_or-drop i bs 1 0) ∙ ap (λ (l : List ℕ). get_or l 1 0) q)

    entry : entry_at k free bs low i ≡ gives e
    entry =
        let z : e ≡ named (e / 9) (e % 9 + 1) = omega arith in
        let d : e % 9 + 1 - 1 ≡ e % 9 = omega arith in
        sym (ap gives z ∙ entry_named k free bs low i long cell digit (well low (e / 9) (e % 9 + 1) (record { cell = omega arith; some = omega arith; digit = omega arith; rises = omega arith })) (ap (has (at free (e / 9))) d ∙ f))

-- ---- the count fits its bytes

abbrev Room : ℕ → ℕ → Type 0
Room zero n = n ≡ 0
Room (suc w) n = Room w (n / 256)

number-back : (w : ℕ) (bs : List ℕ) (i n : ℕ) (t : List ℕ) → Room w n → drop i bs ≡ low_first w n ++ t → number_at w bs i ≡ n
number-back zero bs i n t h q = sym h
number-back (suc w) bs i n t h q =
    let low : get_or bs i 0 ≡ n % 256 = ap (λ (j : ℕ). get_or bs j 0) (sym (add-zero i)) ∙ sym (get_or-drop i bs 0 0) ∙ ap (λ (l : List ℕ). get_or l 0 0) q in
    omega (arith, low, number-back w bs (i + 1) (n / 256) t h (sym (drop-drop 1 i bs) ∙ ap (drop 1) q))

-- clues take a cell each
clues-few : (free : List ℕ) {low : ℕ} {es : List ℕ} → Rises Digits free low es → low % 9 ≡ 0 → low ≤ 729 → low + 9 * length es ≤ 729
clues-few free none h l = omega arith
clues-few free (next {low} {e} {es} a m f p) h l = omega (arith, clues-few free p (omega arith) (omega arith))

pub digits-few : (free s : List ℕ) → Holds Digits free s → length (candidates s) ≤ 81
digits-few free s h = omega (arith, clues-few free (rises Digits free s h) refl (omega arith))

pub room : (k : Section) (free s : List ℕ) → Holds k free s → Room (width k) (length (candidates s))
room Digits free s h = omega (arith, digits-few free s h)
room Removed free s h = omega (arith, candidates-few s)

split : (k : Section) (s t : List ℕ) → section_bytes k s ++ t ≡ low_first (width k) (length (candidates s)) ++ (entry_bytes (candidates s) ++ t)
unfolding section_bytes
split k s t = append_assoc (low_first (width k) (length (candidates s))) (entry_bytes (candidates s)) t

-- a section that was written is read again
pub section-back : (k : Section) (free s bs : List ℕ) (i : ℕ) (t : List ℕ) → Holds k free s → drop i bs ≡ section_bytes k s ++ t
    → read_section k free bs i ≡ gives (with_sets s (i + length (section_bytes k s)))
section-back k free s bs i t h q =
    sym (section-read k free bs i long) ∙ ap (λ (n : ℕ). read_entries k free bs n 0 (i + width k) no_sets) number
    ∙ read-rises k free bs (rises k free s h) (i + width k) no_sets t rest ∙ ap (λ (x : List ℕ). gives (with_sets x (i + width k + 2 * length (candidates s)))) (made_again k free s h)
    ∙ ap (λ (j : ℕ). gives (with_sets s j)) end
  where
    parts : drop i bs ≡ low_first (width k) (length (candidates s)) ++ (entry_bytes (candidates s) ++ t)
    parts = q ∙ split k s t

    long : i + width k ≤ length bs
    long = omega (arith, length-drop i bs, ap length parts, length-append (low_first (width k) (length (candidates s))) (entry_bytes (candidates s) ++ t), number-length (width k) (length (candidates s)), width_some k)

    number : number_at (width k) bs i ≡ length (candidates s)
    number = number-back (width k) bs i (length (candidates s)) (entry_bytes (candidates s) ++ t) (room k free s h) parts

    rest : drop (i + width k) bs ≡ entry_bytes (candidates s) ++ t
    rest = sym (drop-drop (width k) i bs) ∙ ap (drop (width k)) parts ∙ drop_at (low_first (width k) (length (candidates s))) (entry_bytes (candidates s) ++ t) (width k) (number-length (width k) (length (candidates s)))

    end : i + width k + 2 * length (candidates s) ≡ i + length (section_bytes k s)
    end = omega (arith, section-length k s)
