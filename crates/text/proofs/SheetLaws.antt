-- What is promised of sheets: an accepted sheet is a text that 01's reader accepts, with rulings; rulings move nothing but offsets. Assumes nothing.
use mathlib.Core.Path.{◌≡◌, refl, sym, ap, ◌∙◌, subst}
use mathlib.Core.Logic.{⊎_elim}
use mathlib.Core.Bool.{Bool, true, false, cond, not, true≢false}
use mathlib.Core.List.Memᴰ
use mathlib.Core.List.{List, [], ◌∷◌, ◌++◌, map, append-nil, Memᴰ}
use mathlib.Core.Option
use mathlib.Core.Option.{Option, none, some, some-ne-none, some-injective}
use Prim.Native.Nat.{ℕ, zero, suc, ◌+◌, ◌*◌, ◌≤◌, ◌<◌}
use native.Mathlib.Decide.{ℕ_discrete, dec_le}
use native.Mathlib.Omega.{arith}
use borrow.Author.Tests.{not-true}
use lib.IntN.{ℤ, pos}
use lib.ListN.{length, get_or, length-map, get_or-map}
use lib.Seq.{ext_get_or}
use Rattle.stops.specs.Answer.{Answer, gives, stop, then, stop_at}
use Rattle.stops.specs.Stops.{row_of}
use Rattle.stops.specs.declared.Stop.{Stop}
use Rattle.stops.specs.declared.Stop.TheVariants.{OtherByte, SheetCells}
use Rattle.stops.proofs.Answers.{gives_same, stop-gives}
use Rattle.candidates.proofs.Tests.{cond-true, cond-false, T_true}
use Rattle.grid.specs.Cells.{cells}
use Rattle.grid.specs.Lists.{range, select}
use Rattle.grid.proofs.Cells.{at_cells}
use Rattle.grid.proofs.Lists.{mem-place, place-mem, mem-select, select-mem, map_same}
use Rattle.steps.specs.Calls.{Clues}
use Rattle.steps.specs.Loops.{first, for, up_to}
use Rattle.steps.proofs.Loops.{for-same}
use Rattle.text.specs.Sheets.{passed_over, unruled, is_stranger, first_stranger, cells_in, sheet_of, sheet_line, canonical_sheet}
use Rattle.text.specs.SheetLaws.{Ruled, done, kept, inserted, inserted_before, SheetLaws}
use Rattle.text.specs.Texts.{byte_cell, no_cell, is_other, cell_clue, byte_clue, clues_of, parse_of, clue_byte, text_of}
use Rattle.text.proofs.Gathering.{select-append}
use Rattle.text.proofs.Readings.{Reads, accepted, accepts, read-clues, writes-read, clue-cell, plain-test}
use Rattle.text.proofs.SheetAnswers.{too_long, within, cells_told, miscounted, counted, no-stranger, stranger-is}

-- ---- the first stranger, byte by byte

-- the same as a recursion over the bytes
strange : List ℕ → Option ℕ
strange [] = none
strange (b ∷ bs) = cond (is_stranger b) (some 0) (Option.map suc (strange bs))

first-later : (f : ℕ → Bool) (n k : ℕ) → first f (range n (suc k)) ≡ Option.map suc (first (λ i. f (suc i)) (range n k))
unfolding first
first-later f zero k = refl
first-later f (suc n) k = go (f (suc k)) (first-later f n (suc k))
  where
    go : (t : Bool) → first f (range n (suc (suc k))) ≡ Option.map suc (first (λ i. f (suc i)) (range n (suc k)))
        → cond t (some (suc k)) (first f (range n (suc (suc k)))) ≡ Option.map suc (cond t (some k) (first (λ i. f (suc i)) (range n (suc k))))
    go true e = refl
    go false e = e

by_bytes : (bs : List ℕ) → first_stranger bs ≡ strange bs
unfolding first strange
by_bytes [] = refl
by_bytes (b ∷ bs) =
    ap (λ (r : Option ℕ). cond (is_stranger b) (some 0) r) (first-later (λ i. is_stranger (get_or (b ∷ bs) i 0)) (length bs) 0 ∙ ap (Option.map suc) (by_bytes bs))

-- ---- the answer of a sheet that is short enough

-- o is the first stranger, text what is left
abbrev answer : Option ℕ → List ℕ → Answer (List ℤ)
answer o text = then (stop_at OtherByte o) (λ _. cells_in text)

short : (s : List ℕ) → length s ≤ 4096 → sheet_of s ≡ answer (strange s) (unruled s)
short s h = sym (cells_told s (sym (by_bytes s)) ∙ within s h)

rows : {s t : Stop} → ◌≡◌ {A = Answer (List ℤ)} (stop s) (stop t) → (row_of s).number ≡ (row_of t).number
rows {s} {t} e = ap number e
  where
    number : Answer (List ℤ) → ℕ
    number (gives z) = 0
    number (stop s) = (row_of s).number

module _ (text : List ℕ) (z : List ℤ) where
  cells-gave : cells_in text ≡ gives z → (length text ≡ 81) × (clues_of text ≡ z)
  cells-gave e = go (ℕ_discrete (length text) 81)
    where
      go : Dec (length text ≡ 81) → (length text ≡ 81) × (clues_of text ≡ z)
      go (yes h) = (h, gives_same (counted text h ∙ e))
      go (no h) = absurd (stop-gives (miscounted text h ∙ e))

  gave : (o : Option ℕ) → answer o text ≡ gives z → (o ≡ none) × (length text ≡ 81) × (clues_of text ≡ z)
  gave (some i) e = absurd (stop-gives e)
  gave none e = let w = cells-gave e in (refl, w.0, w.1)

module _ (text : List ℕ) where
  told-count : (o : Option ℕ) (n : ℤ) → answer o text ≡ stop (SheetCells n) → o ≡ none
  told-count none n e = refl
  told-count (some i) n e = absurd (let w = rows e in omega arith)

  told-offset : (o : Option ℕ) (i : ℕ) → answer o text ≡ stop (OtherByte (pos i)) → o ≡ some i
  told-offset (some j) i e = cc
  told-offset none i e = go (ℕ_discrete (length text) 81)
    where
      go : Dec (length text ≡ 81) → none ≡ some i
      go (yes h) = absurd (stop-gives (sym (counted text h ∙ e)))
      go (no h) = absurd (let w = rows (miscounted text h ∙ e) in omega arith)

-- ---- the strangers of a sheet

shifted_none : (o : Option ℕ) → Option.map suc o ≡ none → o ≡ none
shifted_none none e = refl
shifted_none (some i) e = absurd (some-ne-none (suc i) e)

none-strange : (s : List ℕ) → strange s ≡ none → (b : ℕ) → Memᴰ b s → is_stranger b ≡ false
unfolding strange
none-strange [] e b m = absurd (Memᴰ.not-nil m)
none-strange (x ∷ xs) e b m = go (is_stranger x) refl e (λ q. none-strange xs q b)
  where
    go : (t : Bool) → is_stranger x ≡ t → cond t (some 0) (Option.map suc (strange xs)) ≡ none → (strange xs ≡ none → Memᴰ b xs → is_stranger b ≡ false) → is_stranger b ≡ false
    go true is e more = absurd (some-ne-none 0 e)
    go false is e more = ⊎_elim (λ (q : b ≡ x). ap is_stranger q ∙ is) (more (shifted_none (strange xs) e)) (Memᴰ.cases_cons m)

strange-none : (s : List ℕ) → ((b : ℕ) → Memᴰ b s → is_stranger b ≡ false) → strange s ≡ none
unfolding strange
strange-none [] h = refl
strange-none (x ∷ xs) h =
    cond-false (is_stranger x) (some 0) (Option.map suc (strange xs)) (h x (Memᴰ.head refl)) ∙ ap (Option.map suc) (strange-none xs (λ b m. h b (Memᴰ.tail m)))

-- ---- an accepted sheet is an accepted text with rulings

module _ (s : List ℕ) (z : List ℤ) where
  short-enough : sheet_of s ≡ gives z → length s ≤ 4096
  short-enough e = go (dec_le (length s) 4096)
    where
      go : Dec (length s ≤ 4096) → length s ≤ 4096
      go (yes h) = h
      go (no h) = absurd (stop-gives (too_long s (omega arith) ∙ e))

  sheet-reads : sheet_of s ≡ gives z → Reads (unruled s) z
  sheet-reads e =
      let w = gave (unruled s) z (strange s) (sym (short s (short-enough e)) ∙ e) in
      record {
        size = w.1;
        plain = λ i h.
            let m = mem-select (λ b. not (passed_over b)) s (get_or (unruled s) i 0) (place-mem (unruled s) 0 i (omega (arith, w.1))) in
            stranger-is (get_or (unruled s) i 0) (not-true (passed_over (get_or (unruled s) i 0)) m.1) ∙ none-strange s w.0 (get_or (unruled s) i 0) m.0;
        is = w.2;
      }

  reads-sheet : length s ≤ 4096 → Reads (unruled s) z → sheet_of s ≡ gives z
  reads-sheet h r =
      short s h ∙ ap (λ (o : Option ℕ). answer o (unruled s)) (strange-none s fine) ∙ sym (counted (unruled s) r.size) ∙ ap gives r.is
    where
      fine : (b : ℕ) → Memᴰ b s → is_stranger b ≡ false
      fine b m = go (passed_over b) refl
        where
          go : (t : Bool) → passed_over b ≡ t → is_stranger b ≡ false
          go true e = sym (no-stranger b e)
          go false e =
              let p = mem-place 0 (select-mem (λ b. not (passed_over b)) s b m (ap not e)) in
              sym (stranger-is b e) ∙ ap is_other (sym p.2) ∙ r.plain p.0 (omega (arith, p.1, r.size))

-- ---- texts and canonical sheets

select-all : (f : ℕ → Bool) (l : List ℕ) → ((c : ℕ) → Memᴰ c l → f c ≡ true) → select f l ≡ l
select-all f [] h = refl
select-all f (x ∷ xs) h =
    cond-true (f x) (x ∷ select f xs) (select f xs) (h x (Memᴰ.head refl)) ∙ ap (λ (ys : List ℕ). x ∷ ys) (select-all f xs (λ c m. h c (Memᴰ.tail m)))

select-for : (f : ℕ → Bool) (xs : List ℕ) (g : ℕ → List ℕ) → select f (for xs g) ≡ for xs (λ x. select f (g x))
unfolding for
select-for f [] g = refl
select-for f (x ∷ xs) g = select-append f (g x) (for xs g) ∙ ap (λ (ys : List ℕ). select f (g x) ++ ys) (select-for f xs g)

-- no byte of a cell is passed over
cell_stays : (b : ℕ) → is_other b ≡ false → not (passed_over b) ≡ true
cell_stays b e = T_true _ (plain-test (λ b. not (passed_over b)) tt b e)

text-sheet : (t : List ℕ) (z : List ℤ) → parse_of t ≡ gives z → sheet_of t ≡ gives z
text-sheet t z e =
    let r = accepted t z e in
    let all : unruled t ≡ t = select-all (λ b. not (passed_over b)) t (λ b m. let p = mem-place 0 m in cell_stays b (ap is_other (sym p.2) ∙ r.plain p.0 (omega (arith, p.1, r.size)))) in
    reads-sheet t z (omega (arith, r.size)) (subst (λ (x : List ℕ). Reads x z) (sym all) r)

module _ (z : List ℤ) where
  abbrev nine : ℕ → List ℕ
  nine row = map (λ col. clue_byte (get_or z (9 * row + col) (pos 0))) (up_to 9)

  line-cells : (row : ℕ) → unruled (sheet_line z row) ≡ nine row
  line-cells row =
      select-append (λ b. not (passed_over b)) (nine row) (10 ∷ [])
      ∙ append-nil (unruled (nine row))
      ∙ select-all (λ b. not (passed_over b)) (nine row) (λ b m. let p = Memᴰ.of_map (λ col. clue_byte (get_or z (9 * row + col) (pos 0))) (up_to 9) m in cell_stays b (ap is_other (sym p.2) ∙ ap no_cell (clue-cell (get_or z (9 * row + p.0) (pos 0)))))

  canonical-cells : unruled (canonical_sheet z) ≡ text_of z
  unfolding canonical_sheet for cells
  canonical-cells = select-for (λ b. not (passed_over b)) (up_to 9) (sheet_line z) ∙ for-same (λ row. unruled (sheet_line z row)) nine (up_to 9) (λ row m. line-cells row)

  canonical-length : length (canonical_sheet z) ≤ 4096
  unfolding canonical_sheet for
  canonical-length = omega arith

  canonical-back : Clues z → sheet_of (canonical_sheet z) ≡ gives z
  canonical-back ok =
      reads-sheet (canonical_sheet z) z canonical-length (subst (λ (x : List ℕ). Reads x z) (sym canonical-cells) (accepted (text_of z) z (writes-read z ok)))

-- ---- equal cells

-- the clues, by what the bytes stand for
clues-by-cells : (t : List ℕ) → clues_of t ≡ map (λ i. cell_clue (get_or (map byte_cell t) i none)) cells
clues-by-cells t = map_same (λ i. byte_clue (get_or t i 0)) (λ i. cell_clue (get_or (map byte_cell t) i none)) cells (λ i m. ap cell_clue (sym (get_or-map byte_cell t i 0)))

pos-same : {i j : ℕ} → pos i ≡ pos j → i ≡ j
pos-same e = cc

one_cell : (a b : Option ℕ) → no_cell a ≡ false → no_cell b ≡ false → cell_clue a ≡ cell_clue b → a ≡ b
one_cell none b p q e = absurd (true≢false p)
one_cell (some i) none p q e = absurd (true≢false q)
one_cell (some i) (some j) p q e = ap some (pos-same e)

cells_same : (t u : List ℕ) (z : List ℤ) → Reads t z → Reads u z → map byte_cell t ≡ map byte_cell u
cells_same t u z p q = ext_get_or none (map byte_cell t) (map byte_cell u) (length-map t byte_cell ∙ p.size ∙ sym (length-map u byte_cell ∙ q.size)) one
  where
    one : (i : ℕ) → i < length (map byte_cell t) → get_or (map byte_cell t) i none ≡ get_or (map byte_cell u) i none
    one i h =
        let k : i < 81 = omega (arith, h, length-map t byte_cell, p.size) in
        get_or-map byte_cell t i 0 ∙ one_cell (byte_cell (get_or t i 0)) (byte_cell (get_or u i 0)) (p.plain i k) (q.plain i k)
        (sym (at_cells (pos 0) (λ i. byte_clue (get_or t i 0)) i k) ∙ ap (λ (l : List ℤ). get_or l i (pos 0)) (p.is ∙ sym q.is) ∙ at_cells (pos 0) (λ i. byte_clue (get_or u i 0)) i k)
        ∙ sym (get_or-map byte_cell u i 0)

sheet-clues : (s : List ℕ) (z : List ℤ) → sheet_of s ≡ gives z → Clues z
sheet-clues s z e = read-clues (unruled s) z (accepts (unruled s) z (sheet-reads s z e))

module _ (s t : List ℕ) (y z : List ℤ) (p : sheet_of s ≡ gives y) (q : sheet_of t ≡ gives z) where
  same_bytes : map byte_cell (unruled s) ≡ map byte_cell (unruled t) → canonical_sheet y ≡ canonical_sheet z
  same_bytes e =
      ap canonical_sheet (sym (sheet-reads s y p).is ∙ clues-by-cells (unruled s)
      ∙ ap (λ (os : List (Option ℕ)). map (λ i. cell_clue (get_or os i none)) cells) e
      ∙ sym (clues-by-cells (unruled t)) ∙ (sheet-reads t z q).is)

  same-cells : canonical_sheet y ≡ canonical_sheet z → map byte_cell (unruled s) ≡ map byte_cell (unruled t)
  same-cells e =
      let k : y ≡ z = gives_same (sym (canonical-back y (sheet-clues s y p)) ∙ ap sheet_of e ∙ canonical-back z (sheet-clues t z q)) in
      cells_same (unruled s) (unruled t) y (sheet-reads s y p) (subst (Reads (unruled t)) (sym k) (sheet-reads t z q))

-- ---- rulings more

ruled-text : {s t : List ℕ} → Ruled s t → unruled s ≡ unruled t
ruled-text done = refl
ruled-text (kept b r) = ap (λ (bs : List ℕ). cond (not (passed_over b)) (b ∷ bs) bs) (ruled-text r)
ruled-text (inserted b {s} {t} p r) = ruled-text r ∙ sym (cond-false (not (passed_over b)) (b ∷ unruled t) (unruled t) (ap not p))

ruled-longer : {s t : List ℕ} → Ruled s t → length s ≤ length t
ruled-longer done = omega arith
ruled-longer (kept b r) = let h = ruled-longer r in omega arith
ruled-longer (inserted b p r) = let h = ruled-longer r in omega arith

passed-by : (b : ℕ) (bs : List ℕ) → passed_over b ≡ true → strange (b ∷ bs) ≡ Option.map suc (strange bs)
unfolding strange
passed-by b bs p = cond-false (is_stranger b) (some 0) (Option.map suc (strange bs)) (sym (no-stranger b p))

ruled-none : {s t : List ℕ} → Ruled s t → strange s ≡ none → strange t ≡ none
unfolding strange
ruled-none done e = refl
ruled-none (kept b {s} {t} r) e = go (is_stranger b) e (ruled-none r)
  where
    go : (x : Bool) → cond x (some 0) (Option.map suc (strange s)) ≡ none → (strange s ≡ none → strange t ≡ none) → cond x (some 0) (Option.map suc (strange t)) ≡ none
    go true e more = absurd (some-ne-none 0 e)
    go false e more = ap (Option.map suc) (more (shifted_none (strange s) e))
ruled-none (inserted b {s} {t} p r) e = passed-by b t p ∙ ap (Option.map suc) (ruled-none r e)

shifted-some : (o : Option ℕ) (i : ℕ) → Option.map suc o ≡ some i → (j : ℕ) × (o ≡ some j) × (i ≡ suc j)
shifted-some none i e = absurd (some-ne-none i (sym e))
shifted-some (some j) i e = (j, refl, sym (some-injective (suc j) i e))

ruled-some : {s t : List ℕ} (r : Ruled s t) (i : ℕ) → strange s ≡ some i → strange t ≡ some (i + inserted_before r i)
unfolding strange
ruled-some done i e = absurd (some-ne-none i (sym e))
ruled-some (kept b {s} {t} r) i e = go (is_stranger b) i e (ruled-some r)
  where
    go : (x : Bool) (i : ℕ) → cond x (some 0) (Option.map suc (strange s)) ≡ some i → ((j : ℕ) → strange s ≡ some j → strange t ≡ some (j + inserted_before r j))
        → cond x (some 0) (Option.map suc (strange t)) ≡ some (i + inserted_before (kept b r) i)
    go true zero e more = refl
    go true (suc i) e more = let q = some-injective 0 (suc i) e in absurd (omega arith)
    go false zero e more = let w = shifted-some (strange s) zero e in let q = w.2 in absurd (omega arith)
    go false (suc i) e more =
        let w = shifted-some (strange s) (suc i) e in
        let k : strange s ≡ some i = w.1 ∙ ap some (let q = w.2 in omega arith) in
        ap (Option.map suc) (more i k) ∙ ap some (omega arith)
ruled-some (inserted b {s} {t} p r) i e = passed-by b t p ∙ ap (Option.map suc) (ruled-some r i e) ∙ ap some (omega arith)

module _ {s t : List ℕ} (r : Ruled s t) (h : length t ≤ 4096) where
  before : sheet_of s ≡ answer (strange s) (unruled s)
  before = short s (omega (arith, h, ruled-longer r))

  after : {o : Option ℕ} → strange t ≡ o → sheet_of t ≡ answer o (unruled s)
  after {o} e = short t h ∙ ap (λ (x : Option ℕ). answer x (unruled t)) e ∙ ap (answer o) (sym (ruled-text r))

  -- no stranger: nothing of the answer moves
  unmoved : strange s ≡ none → sheet_of t ≡ sheet_of s
  unmoved e = after (ruled-none r e) ∙ ap (λ (o : Option ℕ). answer o (unruled s)) (sym e) ∙ sym before

  ruled-cells : (z : List ℤ) → sheet_of s ≡ gives z → sheet_of t ≡ gives z
  ruled-cells z e = unmoved (gave (unruled s) z (strange s) (sym before ∙ e)).0 ∙ e

  ruled-count : (n : ℤ) → sheet_of s ≡ stop (SheetCells n) → sheet_of t ≡ stop (SheetCells n)
  ruled-count n e = unmoved (told-count (unruled s) (strange s) n (sym before ∙ e)) ∙ e

  ruled-offset : (i : ℕ) → sheet_of s ≡ stop (OtherByte (pos i)) → sheet_of t ≡ stop (OtherByte (pos (i + inserted_before r i)))
  ruled-offset i e = after (ruled-some r i (told-offset (unruled s) (strange s) i (sym before ∙ e)))

-- ---- the laws

pub sheet-laws : SheetLaws
sheet-laws =
    record {
      same = λ s t y z p q. (same_bytes s t y z p q, same-cells s t y z p q);
      back = canonical-back;
      clues = sheet-clues;
      left = λ s z h. (λ e. accepts (unruled s) z (sheet-reads s z e), λ e. reads-sheet s z h (accepted (unruled s) z e));
      text = text-sheet;
      cells = λ r h. ruled-cells r h;
      count = λ r h. ruled-count r h;
      offset = λ r h. ruled-offset r h;
    }
