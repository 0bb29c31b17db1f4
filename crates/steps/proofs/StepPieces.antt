-- A list of bytes six by six: a piece of six is taken apart by its kind, a shorter one names none, and instances as bytes are those instances as steps. Assumes nothing.
use mathlib.Core.Path.{◌≡◌, refl, sym, ap, ◌∙◌}
use mathlib.Core.Bool.{cond}
use mathlib.Core.List.{List, [], ◌∷◌, ◌++◌, map, Memᴰ}
use mathlib.Core.Option.{Option, none, some, some-ne-none}
use Prim.Native.Nat.{ℕ, zero, suc, ◌+◌, ◌*◌, ◌/◌, ◌≤◌, ◌<◌}
use native.Mathlib.Decide.{dec_lt}
use native.Mathlib.Omega.{arith}
use borrow.Author.Tests.{le-leb, lt-leb}
use lib.Dec.{leb}
use lib.ListN.{length, get_or, take, drop, length-take, length-drop, length-append}
use lib.Seq.{ext_get_or, get_or-take, get_or-drop, take_at, drop-append-add}
use Rattle.candidates.proofs.Tests.{cond-true, cond-false}
use Rattle.grid.proofs.Lists.{map_same}
use Rattle.grid.proofs.Units.{cell_below}
use Rattle.steps.specs.Instances.{Instance}
use Rattle.steps.specs.Loops.{for, range, up_to}
use Rattle.steps.specs.StepLists.{step_bytes, step_named, step_count, steps_of, bytes_of}
use Rattle.steps.specs.StepPromises.{Listed}
use Rattle.steps.specs.code.Decoding.{named_by, named_at}
use Rattle.steps.proofs.Instances.{Within, listed, line-below, box-below}
use Rattle.steps.proofs.StepBytes.{bytes-decode, names, named-is, six-bytes}

-- ---- one piece

pub six-named : (k p q r s t : ℕ) → step_named (k ∷ p ∷ q ∷ r ∷ s ∷ t ∷ []) ≡ named_by k p q r s t
six-named k p q r s t = go (named_by k p q r s t) refl
  where
    six : List ℕ
    six = k ∷ p ∷ q ∷ r ∷ s ∷ t ∷ []

    apart : named_at six 0 ≡ named_by k p q r s t
    apart = unfold named_at in refl

    go : (w : Option Instance) → named_by k p q r s t ≡ w → step_named six ≡ w
    go (some x) e = (names six x).1 (named-is k p q r s t x e)
    go none e = found (step_named six) refl
      where
        found : (w : Option Instance) → step_named six ≡ w → w ≡ none
        found none o = refl
        found (some y) o =
            let v = (names six y).0 o in
            absurd (some-ne-none y (sym (bytes-decode y v.0) ∙ ap (λ (l : List ℕ). named_at l 0) v.1 ∙ apart ∙ e))

-- six bytes, by their numbers
six-from : (bs : List ℕ) (n : ℕ) → n + 6 ≤ length bs → take 6 (drop n bs) ≡ get_or bs n 0 ∷ get_or bs (n + 1) 0 ∷ get_or bs (n + 2) 0 ∷ get_or bs (n + 3) 0 ∷ get_or bs (n + 4) 0 ∷ get_or bs (n + 5) 0 ∷ []
six-from bs n h = ext_get_or 0 (take 6 (drop n bs)) (get_or bs n 0 ∷ get_or bs (n + 1) 0 ∷ get_or bs (n + 2) 0 ∷ get_or bs (n + 3) 0 ∷ get_or bs (n + 4) 0 ∷ get_or bs (n + 5) 0 ∷ []) size (λ i k. at i (omega (arith, size, k)))
  where
    size : length (take 6 (drop n bs)) ≡ 6
    size = omega (arith, length-take 6 (drop n bs), length-drop n bs)

    here : (i : ℕ) → i < 6 → get_or (take 6 (drop n bs)) i 0 ≡ get_or bs (n + i) 0
    here i k = get_or-take 6 (drop n bs) i 0 k ∙ get_or-drop n bs i 0

    at : (i : ℕ) → i < 6 → get_or (take 6 (drop n bs)) i 0 ≡ get_or (get_or bs n 0 ∷ get_or bs (n + 1) 0 ∷ get_or bs (n + 2) 0 ∷ get_or bs (n + 3) 0 ∷ get_or bs (n + 4) 0 ∷ get_or bs (n + 5) 0 ∷ []) i 0
    at zero k = here 0 k ∙ ap (λ (j : ℕ). get_or bs j 0) (omega arith)
    at (suc zero) k = here 1 k
    at (suc (suc zero)) k = here 2 k
    at (suc (suc (suc zero))) k = here 3 k
    at (suc (suc (suc (suc zero)))) k = here 4 k
    at (suc (suc (suc (suc (suc zero))))) k = here 5 k
    at (suc (suc (suc (suc (suc (suc i)))))) k = absurd (omega arith)

pub piece-named : (bs : List ℕ) (n : ℕ) → step_named (take 6 (drop n bs)) ≡ named_at bs n
unfolding named_at
piece-named bs n = go (dec_lt (length bs) (n + 6))
  where
    by : Option Instance
    by = named_by (get_or bs n 0) (get_or bs (n + 1) 0) (get_or bs (n + 2) 0) (get_or bs (n + 3) 0) (get_or bs (n + 4) 0) (get_or bs (n + 5) 0)

    short : length bs < n + 6 → (w : Option Instance) → step_named (take 6 (drop n bs)) ≡ w → w ≡ none
    short h none e = refl
    short h (some x) e =
        let v = (names (take 6 (drop n bs)) x).0 e in
        absurd (omega (arith, six-bytes x, ap (λ (l : List ℕ). length l) v.1, length-take 6 (drop n bs), length-drop n bs))

    go : Dec (length bs < n + 6) → step_named (take 6 (drop n bs)) ≡ cond (leb (n + 6) (length bs)) by none
    go (yes h) = short h (step_named (take 6 (drop n bs))) refl ∙ sym (cond-false (leb (n + 6) (length bs)) by none (lt-leb (n + 6) (length bs) h))
    go (no h) =
        ap step_named (six-from bs n (omega arith)) ∙ six-named (get_or bs n 0) (get_or bs (n + 1) 0) (get_or bs (n + 2) 0) (get_or bs (n + 3) 0) (get_or bs (n + 4) 0) (get_or bs (n + 5) 0)
        ∙ sym (cond-true (leb (n + 6) (length bs)) by none (le-leb (n + 6) (length bs) (omega arith)))

-- the steps of a list as code finds them
pub steps-at : (bs : List ℕ) → steps_of bs ≡ map (λ i. named_at bs (6 * i)) (up_to (step_count bs))
unfolding steps_of
steps-at bs = map_same (λ i. step_named (take 6 (drop (6 * i) bs))) (λ i. named_at bs (6 * i)) (up_to (step_count bs)) (λ i k. piece-named bs (6 * i))

-- ---- pieces one after the other

map-later : {A : Type 0} (f : ℕ → A) (n k : ℕ) → map f (range n (suc k)) ≡ map (λ i. f (suc i)) (range n k)
map-later f zero k = refl
map-later f (suc n) k = ap (λ l. f (suc k) ∷ l) (map-later f n (suc k))

pub steps_first : (p bs : List ℕ) → length p ≡ 6 → steps_of (p ++ bs) ≡ step_named p ∷ steps_of bs
unfolding steps_of
steps_first p bs l =
    ap (λ (n : ℕ). map piece (up_to n)) more
    ∙ ap (λ (x : Option Instance). x ∷ map piece (range (step_count bs) 1)) (ap step_named (take_at p bs 6 l))
    ∙ ap (λ (xs : List (Option Instance)). step_named p ∷ xs)
    (map-later piece (step_count bs) 0 ∙ map_same (λ i. piece (suc i)) (λ i. step_named (take 6 (drop (6 * i) bs))) (up_to (step_count bs)) (λ i k. ap (λ (xs : List ℕ). step_named (take 6 xs)) (later i)))
  where
    piece : ℕ → Option Instance
    piece i = step_named (take 6 (drop (6 * i) (p ++ bs)))

    more : step_count (p ++ bs) ≡ suc (step_count bs)
    more = ap (λ (n : ℕ). (n + 5) / 6) (length-append p bs) ∙ omega arith

    later : (i : ℕ) → drop (6 * suc i) (p ++ bs) ≡ drop (6 * i) bs
    later i =
        let n : 6 * suc i ≡ length p + 6 * i = omega arith in
        ap (λ (n : ℕ). drop n (p ++ bs)) n ∙ drop-append-add p bs (6 * i)

pub bytes_steps : (xs : List Instance) → ((x : Instance) → Memᴰ x xs → Listed x) → steps_of (bytes_of xs) ≡ map some xs
unfolding bytes_of for
bytes_steps [] h = unfold steps_of in refl
bytes_steps (x ∷ xs) h =
    steps_first (step_bytes x) (for xs step_bytes) (six-bytes x)
    ∙ ap (λ (s : Option Instance). s ∷ steps_of (for xs step_bytes)) ((names (step_bytes x) x).1 (h x (Memᴰ.head refl), refl))
    ∙ ap (λ (ss : List (Option Instance)). some x ∷ ss) (bytes_steps xs (λ y k. h y (Memᴰ.tail k)))

pub bytes-length : (xs : List Instance) → length (bytes_of xs) ≡ 6 * length xs
unfolding bytes_of for
bytes-length [] = refl
bytes-length (x ∷ xs) = omega (arith, length-append (step_bytes x) (for xs step_bytes), six-bytes x, bytes-length xs)

-- ---- each is a byte

small : {a b c d e f : ℕ} → a < 256 → b < 256 → c < 256 → d < 256 → e < 256 → f < 256 → (i : ℕ) → get_or (a ∷ b ∷ c ∷ d ∷ e ∷ f ∷ []) i 0 < 256
small ha hb hc hd he hf zero = ha
small ha hb hc hd he hf (suc zero) = hb
small ha hb hc hd he hf (suc (suc zero)) = hc
small ha hb hc hd he hf (suc (suc (suc zero))) = hd
small ha hb hc hd he hf (suc (suc (suc (suc zero)))) = he
small ha hb hc hd he hf (suc (suc (suc (suc (suc zero))))) = hf
small ha hb hc hd he hf (suc (suc (suc (suc (suc (suc i)))))) = omega arith

abbrev Small : Instance → Type 0
Small x = (i : ℕ) → get_or (step_bytes x) i 0 < 256

smalls : Within Small
unfolding step_bytes
smalls = record {
  on_lone = λ c d hc hd. small (omega arith) (omega arith) (omega arith) (omega arith) (omega arith) (omega arith);
  on_place = λ u d i hu hd hi. small (omega arith) (omega arith) (omega arith) (omega (arith, cell_below u i hu hi)) (omega arith) (omega arith);
  on_pair = λ u i j a b hu ij hj ab hb. small (omega arith) (omega arith) (omega (arith, cell_below u i hu (omega arith))) (omega (arith, cell_below u j hu hj)) (omega arith) (omega arith);
  on_pointing = λ b d k hb hd hk. small (omega arith) (omega arith) (omega arith) (omega (arith, line-below b k hb hk)) (omega arith) (omega arith);
  on_claiming = λ l d k hl hd hk. small (omega arith) (omega arith) (omega arith) (omega (arith, box-below l k hl hk)) (omega arith) (omega arith);
  on_cross = λ d r s a b hd rs hs ab hb. small (omega arith) (omega arith) (omega arith) (omega arith) (omega arith) (omega arith);
  on_exchanged = λ d a b r s hd ab hb rs hs. small (omega arith) (omega arith) (omega arith) (omega arith) (omega arith) (omega arith);
}

pub byte-below : (x : Instance) → Listed x → (i : ℕ) → get_or (step_bytes x) i 0 < 256
byte-below x l = listed Small smalls l.kind x l.listed
