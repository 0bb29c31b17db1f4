-- What is held of a line after its bytes, one after the other: its first 256 bytes and the length of its grid. Assumes nothing.
use mathlib.Core.Path.{◌≡◌, refl, sym, ap, ap₂, ◌∙◌}
use mathlib.Core.Bool.{Bool, true, false, cond, ◌||◌}
use mathlib.Core.List.{List, [], ◌∷◌}
use Prim.Native.Nat.{ℕ, ◌+◌, ◌-◌, ◌≤◌, ◌<◌, min}
use native.Mathlib.Decide.{dec_le}
use native.Mathlib.Omega.{arith}
use borrow.Author.Tests.{lt-ltb, le-ltb}
use lib.Dec.{eqb, ltb}
use lib.ListN.{length, get_or, set, take, drop, take-append-drop}
use lib.Seq.{take_all, take-length, length-take-le}
use Rattle.candidates.proofs.Tests.{cond-true, cond-false}
use Rattle.steps.specs.Loops.{each, any}
use Rattle.output.specs.Lent.{over}
use Rattle.output.specs.code.Tapes.{Tape, tape, pushed, append}
use Rattle.output.proofs.Lent.{over-length}
use Rattle.output.proofs.Tapes.{joined, stands}
use Rattle.rounds.specs.Lines.{bare_length, bare, is_separator, grid_in}
use Rattle.rounds.specs.Summaries.{top, counted}
use Rattle.rounds.specs.code.Cuts.{Held, held, fresh_line, grown, kept_one, bare_grid, whole_of}
use Rattle.rounds.proofs.Grids.{grid-all, grid-few, whole_is}

-- ---- the bytes that are kept

abbrev tape_of : Held → Tape
tape_of h = tape h.kept h.line.end

kept-tape : (l : List ℕ) (h : Held) → tape_of (each kept_one l h) ≡ append 256 l (tape_of h)
unfolding append each kept_one
kept-tape [] h = refl
kept-tape (b ∷ bs) h = kept-tape bs (kept_one b h)

pub take-over : (xs lent : List ℕ) → length xs ≤ length lent → take (length xs) (over xs lent) ≡ xs
take-over [] lent h = refl
take-over (x ∷ xs) [] h = absurd (omega arith)
take-over (x ∷ xs) (y ∷ lent) h = ap (λ (l : List ℕ). x ∷ l) (take-over xs lent (omega arith))

full-stays : (ys : List ℕ) (t : Tape) → 256 ≤ t.end → append 256 ys t ≡ t
unfolding append each pushed
full-stays [] t h = refl
full-stays (y ∷ ys) t h = ap (append 256 ys) (cond-false (ltb t.end 256) (tape (set t.bytes t.end y) (t.end + 1)) t (le-ltb t.end 256 h)) ∙ full-stays ys t h

-- lent bytes that are 256 take the first 256
module _ (l lent : List ℕ) (size : length lent ≡ 256) where
  filled : append 256 l (tape lent 0) ≡ tape (over (take 256 l) lent) (length (take 256 l))
  filled = go (dec_le (length l) 256)
    where
      go : Dec (length l ≤ 256) → append 256 l (tape lent 0) ≡ tape (over (take 256 l) lent) (length (take 256 l))
      go (yes h) = stands 256 lent l h ∙ ap (λ (k : List ℕ). tape (over k lent) (length k)) (sym (take_all 256 l h))
      go (no h) =
          let n = length-take-le 256 l (omega arith) in
          ap (λ (k : List ℕ). append 256 k (tape lent 0)) (sym (take-append-drop 256 l))
          ∙ sym (joined 256 (take 256 l) (drop 256 l) (tape lent 0) refl refl)
          ∙ ap (append 256 (drop 256 l)) (stands 256 lent (take 256 l) (omega (arith, n)))
          ∙ full-stays (drop 256 l) (tape (over (take 256 l) lent) (length (take 256 l))) (omega (arith, n))

-- ---- what is known of them

kept-passed : (l : List ℕ) (h : Held) → (each kept_one l h).line.passed ≡ h.line.passed
unfolding each kept_one
kept-passed [] h = refl
kept-passed (b ∷ bs) h = kept-passed bs (kept_one b h)

kept-parted : (l : List ℕ) (h : Held) → (each kept_one l h).line.parted ≡ (h.line.parted || any is_separator l)
unfolding each kept_one
kept-parted [] h = none h.line.parted
  where
    none : (p : Bool) → p ≡ (p || false)
    none true = refl
    none false = refl
kept-parted (b ∷ bs) h = kept-parted bs (kept_one b h) ∙ regroup h.line.parted (is_separator b) (any is_separator bs)
  where
    regroup : (p q r : Bool) → ((p || q) || r) ≡ (p || (q || r))
    regroup true q r = refl
    regroup false q r = refl

-- the last of the bytes, z where there are none
unfoldable last_from : ℕ → List ℕ → ℕ
last_from z [] = z
last_from z (b ∷ bs) = last_from b bs

kept-last : (l : List ℕ) (h : Held) → (each kept_one l h).line.last ≡ last_from h.line.last l
unfolding each kept_one last_from
kept-last [] h = refl
kept-last (b ∷ bs) h = kept-last bs (kept_one b h)

last-at : (b : ℕ) (bs : List ℕ) → last_from b bs ≡ get_or (b ∷ bs) (length bs) 0
unfolding last_from
last-at b [] = refl
last-at b (c ∷ cs) = last-at c cs

last-is : (l : List ℕ) → last_from 0 l ≡ get_or l (length l - 1) 0
unfolding last_from
last-is [] = refl
last-is (b ∷ bs) =
    let n : length bs ≡ length (b ∷ bs) - 1 = omega arith in
    last-at b bs ∙ ap (λ (k : ℕ). get_or (b ∷ bs) k 0) n

kept-grid : (l : List ℕ) (h : Held) → h.line.grid + length l ≤ top → (each kept_one l h).line.grid ≡ cond h.line.parted h.line.grid (h.line.grid + length (grid_in l))
unfolding each kept_one grid_in
kept-grid [] h most = go h.line.parted h.line.grid
  where
    go : (p : Bool) (g : ℕ) → g ≡ cond p g (g + 0)
    go true g = refl
    go false g = omega arith
kept-grid (b ∷ bs) h most = kept-grid bs (kept_one b h) (room (h.line.parted || is_separator b)) ∙ go h.line.parted (is_separator b)
  where
    g : ℕ
    g = h.line.grid

    one : counted g ≡ g + 1
    one = cond-true (ltb g top) (g + 1) g (lt-ltb g top (omega (arith, most)))

    room : (p : Bool) → grown p g + length bs ≤ top
    room true = omega (arith, most)
    room false = omega (arith, most, one)

    n : ℕ
    n = length (grid_in bs)

    go : (p s : Bool) → cond (p || s) (grown (p || s) g) (grown (p || s) g + n) ≡ cond p g (g + length (cond s [] (b ∷ grid_in bs)))
    go true s = refl
    go false true = omega arith
    go false false = omega (arith, one)

-- ---- at the end of a line

module _ (l lent : List ℕ) where
  abbrev h : Held
  h = each kept_one l (held lent fresh_line)

  pub never-passed : h.line.passed ≡ false
  never-passed = kept-passed l (held lent fresh_line)

  module _ (size : length lent ≡ 256) where
    pub kept-first : take h.line.end h.kept ≡ take 256 l
    kept-first =
        let t = kept-tape l (held lent fresh_line) ∙ filled l lent size in
        ap (λ (t : Tape). take t.end t.bytes) t ∙ take-over (take 256 l) lent (omega (arith, length-first, size))
      where
        length-first : length (take 256 l) ≤ 256
        length-first = go (dec_le (length l) 256)
          where
            go : Dec (length l ≤ 256) → length (take 256 l) ≤ 256
            go (yes k) = omega (arith, ap length (take_all 256 l k))
            go (no k) = omega (arith, length-take-le 256 l (omega arith))

    pub kept-size : length h.kept ≡ 256
    kept-size = ap (λ (t : Tape). length t.bytes) (kept-tape l (held lent fresh_line) ∙ filled l lent size) ∙ over-length (take 256 l) lent ∙ size

  module _ (few : length l < top) where
    grid-counted : bare_grid h.line ≡ length (grid_in (bare l))
    grid-counted =
        ap₂ (λ (p : Bool) (g : ℕ). cond p g (cond (eqb h.line.last 13) (g - 1) g)) (kept-parted l (held lent fresh_line)) (kept-grid l (held lent fresh_line) (omega arith))
        ∙ ap (λ (z : ℕ). cond (any is_separator l) n (cond (eqb z 13) (n - 1) n)) (kept-last l (held lent fresh_line) ∙ last-is l)
        ∙ go (any is_separator l) refl
        ∙ sym (whole_is l)
      where
        n : ℕ
        n = 0 + length (grid_in l)

        go : (t : Bool) → any is_separator l ≡ t → cond t n (cond (eqb (get_or l (length l - 1) 0) 13) (n - 1) n) ≡ cond t (length (grid_in l)) (bare_length l)
        go true e = omega arith
        go false e =
            let all : n ≡ length l = omega (arith, ap length (ap grid_in (sym (take-length l)) ∙ grid-all l (length l) e ∙ take-length l)) in
            ap (λ (k : ℕ). cond (eqb (get_or l (length l - 1) 0) 13) (k - 1) k) all

    pub whole-counted : whole_of h.line ≡ length (grid_in (bare l))
    unfolding whole_of
    whole-counted = ap (min top) grid-counted ∙ omega (arith, grid-few l)
