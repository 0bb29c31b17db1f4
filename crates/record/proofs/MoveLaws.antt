-- A record that is moved stays the record of its board, and is moved back to the same bytes. Assumes nothing.
use mathlib.Core.Path.{◌≡◌, refl, sym, ap, ◌∙◌, subst}
use mathlib.Core.Logic.{⊎_elim}
use mathlib.Core.Bool.{Bool, true, false, cond}
use mathlib.Core.List.Memᴰ
use mathlib.Core.List.{List, [], ◌∷◌, ◌++◌, Memᴰ}
use Prim.Native.Nat.{ℕ, suc, ◌+◌, ◌*◌, ◌%◌, ◌<◌}
use native.Mathlib.Omega.{arith}
use borrow.Author.Tests.{eqb-true}
use lib.Dec.{eqb}
use lib.IntN.{ℤ, pos}
use lib.ListN.{length, get_or, take, drop, get_or-replicate, length-replicate}
use lib.Seq.{ext_get_or, drop_at, take_at}
use Rattle.stops.specs.Answer.{Answer, gives, stop, map, then, passing}
use Rattle.stops.proofs.Answers.{gives_same, stop-gives}
use Rattle.grid.specs.Cells.{cells}
use Rattle.grid.proofs.Lists.{range-mem}
use Rattle.steps.specs.Boards.{Board, givens_of, givens, given, is_open, fresh, no_entries}
use Rattle.steps.specs.Calls.{Admitted}
use Rattle.steps.proofs.Check.{admits, given-clue, good-digit, clues-givens}
use Rattle.steps.proofs.Entries.{entry-fits}
use Rattle.board.specs.Boards.{clue_count}
use Rattle.record.specs.declared.forms.Form.{Form}
use Rattle.record.specs.declared.forms.Form.TheVariants.{Old, New}
use Rattle.record.specs.declared.sections.Section.TheVariants.{Digits, Removed}
use Rattle.record.specs.Laws.{Bytes, MoveLaws}
use Rattle.record.specs.Moves.{other, unentered, movable, moved_of}
use Rattle.record.specs.Records.{digit_sets, lacking, bytes_in, all_sets, read_in}
use Rattle.record.specs.Sections.{candidates, section_bytes}
use Rattle.record.proofs.BoardSets.{clues-hold}
use Rattle.record.proofs.Entries.{then-gives, tested-gives}
use Rattle.record.proofs.Laws.{EntriesIn, read_back, write_again}
use Rattle.record.proofs.SectionLaws.{room}
use Rattle.record.proofs.Writing.{section-length}

-- ---- no entries

-- no cell of the list is given a digit
none-counted : (g cs : List ℕ) → clue_count g cs ≡ 0 → (c : ℕ) → Memᴰ c cs → is_open g c ≡ true
unfolding clue_count
none-counted g [] e c m = absurd (Memᴰ.not-nil m)
none-counted g (x ∷ cs) e c m = go (is_open g x) refl e (λ n r. none-counted g cs n c r)
  where
    go : (t : Bool) → is_open g x ≡ t → cond t (clue_count g cs) (suc (clue_count g cs)) ≡ 0 → (clue_count g cs ≡ 0 → Memᴰ c cs → is_open g c ≡ true) → is_open g c ≡ true
    go true o e more = ⊎_elim (λ p. ap (is_open g) p ∙ o) (λ r. more e r) (Memᴰ.cases_cons m)
    go false o e more = absurd (omega arith)

counted_none : clue_count (givens_of no_entries) cells ≡ 0
unfolding clue_count givens_of cells
counted_none = refl

module _ (b : Board) where
  pub bare-unentered : b.entries ≡ no_entries → unentered b ≡ gives tt
  bare-unentered e = rw (e, counted_none)

  -- an admitted board that can be moved back
  unentered-bare : Admitted b → unentered b ≡ gives tt → b.entries ≡ no_entries
  unfolding cells
  unentered-bare a t =
      let w = admits b a in
      let n = eqb-true (clue_count (givens_of b.entries) cells) 0 (tested-gives (eqb (clue_count (givens_of b.entries) cells) 0) (gives (tt {0})) _ t).0 in
      ext_get_or (pos 0) b.entries no_entries (w.1.size ∙ sym (length-replicate {A = ℤ} 81 (pos 0)))
      (λ c h.
      let l : c < 81 = omega (arith, w.1.size) in
      let o = none-counted (givens_of b.entries) cells n c (range-mem 81 0 c (omega arith) (omega arith)) in
      let z = sym (given-clue b.entries c l) ∙ eqb-true (given (givens_of b.entries) c) 0 o in
      sym (good-digit (get_or b.entries c (pos 0)) (entry-fits (get_or b.clues c (pos 0)) (get_or b.entries c (pos 0)) (w.1.good c l)))
      ∙ ap pos z ∙ sym (get_or-replicate 81 c (pos 0) (pos 0) l))

-- ---- moving

-- the board of a record that can be moved, and what is known of it
record Moves (k : Form) (bs ns : List ℕ) : Type 0 where
  pub board : Board
  pub read : read_in k bs ≡ gives board
  pub bytes : bytes_in (other k) board ≡ ns
  pub admitted : Admitted board
  pub bare : board.entries ≡ no_entries
  pub again : bytes_in k board ≡ bs

passing-gives : {A : Type 0} (a : Answer (Unit {0})) {x y : A} → passing a x ≡ gives y → (a ≡ gives tt) × (x ≡ y)
passing-gives (gives u) e = (refl, gives_same e)
passing-gives (stop s) e = absurd (stop-gives e)

map_gives : {A B : Type 0} (f : A → B) (a : Answer A) {y : B} → map f a ≡ gives y → (x : A) × (a ≡ gives x) × (f x ≡ y)
map_gives f (gives x) e = (x, refl, gives_same e)
map_gives f (stop s) e = absurd (stop-gives e)

moves : (k : Form) (bs : List ℕ) → Bytes bs → (ns : List ℕ) → moved_of k bs ≡ gives ns → Moves k bs ns
unfolding moved_of
moves Old bs h ns t =
    let m = map_gives (bytes_in New) (read_in Old bs) t in
    let w = write_again Old bs h m.0 m.1 in
    record { board = m.0; read = m.1; bytes = m.2; admitted = w.admitted; bare = w.held; again = w.bytes }
moves New bs h ns t =
    let m = map_gives (bytes_in Old) (movable New bs) t in
    let r = then-gives (read_in New bs) m.1 in
    let u = passing-gives (unentered r.0) r.2 in
    let is = r.1 ∙ ap gives u.1 in
    let w = write_again New bs h m.0 is in
    record { board = m.0; read = is; bytes = m.2; admitted = w.admitted; bare = unentered-bare m.0 w.admitted (subst (λ (x : Board). unentered x ≡ gives tt) u.1 u.0); again = w.bytes }

-- a record of a board without entries can be moved
bare-held : (k : Form) {es : List ℤ} → es ≡ no_entries → EntriesIn k es
bare-held Old e = e
bare-held New e = tt

movable-read : (k : Form) (bs : List ℕ) (b : Board) → b.entries ≡ no_entries → read_in k bs ≡ gives b → moved_of k bs ≡ gives (bytes_in (other k) b)
unfolding moved_of
movable-read Old bs b bare t = ap (map (bytes_in New)) t
movable-read New bs b bare t =
    ap (λ (a : Answer Board). map (bytes_in Old) (then a (λ b. passing (unentered b) b))) t ∙ ap (λ (a : Answer (Unit {0})). map (bytes_in Old) (passing a b)) (bare-unentered b bare)

other-twice : (k : Form) → other (other k) ≡ k
other-twice Old = refl
other-twice New = refl

module _ (k : Form) (bs : List ℕ) (h : Bytes bs) (ns : List ℕ) (t : moved_of k bs ≡ gives ns) where
  m : Moves k bs ns
  m = moves k bs h ns t

  other-read : read_in (other k) ns ≡ gives m.board
  other-read = ap (read_in (other k)) (sym m.bytes) ∙ read_back (other k) m.board m.admitted (bare-held (other k) m.bare)

  moved_back : moved_of (other k) ns ≡ gives bs
  moved_back = movable-read (other k) ns m.board m.bare other-read ∙ ap (λ (f : Form). gives (bytes_in f m.board)) (other-twice k) ∙ ap gives m.again

  same-board : read_in (other k) ns ≡ read_in k bs
  same-board = other-read ∙ sym m.read

-- ---- the entry count of 0

none-section : section_bytes Digits (digit_sets (givens_of no_entries)) ≡ 0 ∷ []
unfolding section_bytes candidates digit_sets givens_of cells
none-section = refl

module _ (bs : List ℕ) (h : Bytes bs) (ns : List ℕ) (t : moved_of Old bs ≡ gives ns) where
  b : Board
  b = (moves Old bs h ns t).board

  cs : List ℕ
  cs = digit_sets (givens_of b.clues)

  first : List ℕ
  first = section_bytes Digits cs

  third : List ℕ
  third = section_bytes Removed (lacking (fresh (givens b)) b.masks)

  old : first ++ third ≡ bs
  unfolding b cs first third bytes_in
  old = (moves Old bs h ns t).again

  new : first ++ (0 ∷ third) ≡ ns
  unfolding b cs first third bytes_in
  new =
      ap (λ (l : List ℕ). first ++ (l ++ third)) (sym (ap (λ (es : List ℤ). section_bytes Digits (digit_sets (givens_of es))) (moves Old bs h ns t).bare ∙ none-section))
      ∙ (moves Old bs h ns t).bytes

  -- the first byte is the number of clues
  number : get_or bs 0 0 ≡ length (candidates cs)
  unfolding b cs first section_bytes
  number =
      let n : length (candidates cs) % 256 ≡ length (candidates cs) = omega (arith, room Digits all_sets cs (clues-hold (givens_of b.clues) (clues-givens b.clues))) in
      ap (λ (l : List ℕ). get_or l 0 0) (sym old) ∙ n

  front : length first ≡ 1 + 2 * get_or bs 0 0
  unfolding cs first
  front = omega (arith, section-length Digits cs, number)

  count-put : ns ≡ take (1 + 2 * get_or bs 0 0) bs ++ (0 ∷ drop (1 + 2 * get_or bs 0 0) bs)
  count-put =
      sym (ap (λ (l : List ℕ). take (1 + 2 * get_or bs 0 0) l ++ (0 ∷ drop (1 + 2 * get_or bs 0 0) l)) (sym old)
      ∙ ap (λ (l : List ℕ). l ++ (0 ∷ drop (1 + 2 * get_or bs 0 0) (first ++ third))) (take_at first third (1 + 2 * get_or bs 0 0) front)
      ∙ ap (λ (l : List ℕ). first ++ (0 ∷ l)) (drop_at first third (1 + 2 * get_or bs 0 0) front) ∙ new)

pub move-laws : MoveLaws
unfolding moved_of
move-laws =
    record {
      onward = λ bs b t. ap (map (bytes_in New)) t;
      back = λ bs b t bare. movable-read New bs b bare t;
      again = moved_back;
      board = same-board;
      count = count-put;
    }
