-- The log of at most 729 steps, begun with zeros: their bytes, zeros, and how many they are. Assumes nothing.
use mathlib.Core.Path.{◌≡◌, refl, sym, ap, ◌∙◌}
use mathlib.Core.List.{List, [], ◌∷◌, ◌++◌, map, append_assoc, append-nil}
use Prim.Native.Nat.{ℕ, suc, ◌+◌, ◌*◌, ◌-◌, ◌/◌, ◌%◌, ◌≤◌, ◌<◌}
use native.Mathlib.Nat.{zero-add, suc-add, mod-add-div}
use native.Mathlib.Omega.{arith}
use borrow.Author.Tests.{lt-ltb}
use lib.Dec.{ltb}
use lib.ListN.{length, length-append, replicate, length-replicate, replicate-append-replicate, set, length-map, get_or-append}
use lib.Seq.{get_or-append-add, set-append_seam, ext_get_or}
use Rattle.candidates.proofs.Tests.{cond-true}
use Rattle.grid.proofs.Lists.{at-up_to, range_length}
use Rattle.steps.specs.Boards.{at}
use Rattle.steps.specs.Instances.{Instance, lone, place, pair, pointing, claiming, cross, exchanged}
use Rattle.steps.specs.Loops.{each, for, up_to}
use Rattle.steps.specs.StepLists.{step_bytes, bytes_of}
use Rattle.steps.specs.code.Logs.{steps_noted, put_six, put_count, noted}
use Rattle.steps.proofs.StepPieces.{bytes-length}

-- ---- stores behind a list

set_after : (ps bs : List ℕ) (k v : ℕ) → set (ps ++ bs) (length ps + k) v ≡ ps ++ set bs k v
set_after [] bs k v = ap (λ (n : ℕ). set bs n v) (zero-add k)
set_after (p ∷ ps) bs k v = ap (λ (n : ℕ). set (p ∷ (ps ++ bs)) n v) (suc-add (length ps) k) ∙ ap (λ (r : List ℕ). p ∷ r) (set_after ps bs k v)

-- the same where the list's length is i
module _ (ps : List ℕ) (i : ℕ) (h : length ps ≡ i) where
  set-from : (bs : List ℕ) (k v : ℕ) → set (ps ++ bs) (i + k) v ≡ ps ++ set bs k v
  set-from bs k v = ap (λ (n : ℕ). set (ps ++ bs) (n + k) v) (sym h) ∙ set_after ps bs k v

  set_here : (y : ℕ) (bs : List ℕ) (v : ℕ) → set (ps ++ y ∷ bs) i v ≡ ps ++ v ∷ bs
  set_here y bs v = ap (λ (n : ℕ). set (ps ++ y ∷ bs) n v) (sym h) ∙ set-append_seam ps y bs v

  put_six_lem : (bs w : List ℕ) → put_six i bs (ps ++ 0 ∷ 0 ∷ 0 ∷ 0 ∷ 0 ∷ 0 ∷ w) ≡ ps ++ at bs 0 ∷ at bs 1 ∷ at bs 2 ∷ at bs 3 ∷ at bs 4 ∷ at bs 5 ∷ w
  unfolding put_six
  put_six_lem bs w =
      let b = at bs in
      ap (λ (l : List ℕ). set (set (set (set (set l (i + 1) (b 1)) (i + 2) (b 2)) (i + 3) (b 3)) (i + 4) (b 4)) (i + 5) (b 5)) (set_here 0 (0 ∷ 0 ∷ 0 ∷ 0 ∷ 0 ∷ w) (b 0))
      ∙ ap (λ (l : List ℕ). set (set (set (set l (i + 2) (b 2)) (i + 3) (b 3)) (i + 4) (b 4)) (i + 5) (b 5)) (set-from (b 0 ∷ 0 ∷ 0 ∷ 0 ∷ 0 ∷ 0 ∷ w) 1 (b 1))
      ∙ ap (λ (l : List ℕ). set (set (set l (i + 3) (b 3)) (i + 4) (b 4)) (i + 5) (b 5)) (set-from (b 0 ∷ b 1 ∷ 0 ∷ 0 ∷ 0 ∷ 0 ∷ w) 2 (b 2))
      ∙ ap (λ (l : List ℕ). set (set l (i + 4) (b 4)) (i + 5) (b 5)) (set-from (b 0 ∷ b 1 ∷ b 2 ∷ 0 ∷ 0 ∷ 0 ∷ w) 3 (b 3))
      ∙ ap (λ (l : List ℕ). set l (i + 5) (b 5)) (set-from (b 0 ∷ b 1 ∷ b 2 ∷ b 3 ∷ 0 ∷ 0 ∷ w) 4 (b 4))
      ∙ set-from (b 0 ∷ b 1 ∷ b 2 ∷ b 3 ∷ b 4 ∷ 0 ∷ w) 5 (b 5)

six-of : (x : Instance) (w : List ℕ) → at (step_bytes x) 0 ∷ at (step_bytes x) 1 ∷ at (step_bytes x) 2 ∷ at (step_bytes x) 3 ∷ at (step_bytes x) 4 ∷ at (step_bytes x) 5 ∷ w ≡ step_bytes x ++ w
unfolding step_bytes
six-of (lone c d) w = refl
six-of (place u d i) w = refl
six-of (pair u i j a b) w = refl
six-of (pointing b d k) w = refl
six-of (claiming l d k) w = refl
six-of (cross d r₁ r₂ c₁ c₂) w = refl
six-of (exchanged d c₁ c₂ r₁ r₂) w = refl

-- ---- a log that holds these steps

spare : List Instance → List ℕ
spare xs = replicate (4374 - 6 * length xs) 0

abbrev count_bytes : ℕ → List ℕ
count_bytes n = n % 256 ∷ n / 256 ∷ []

pub log_held : List Instance → List ℕ
log_held xs = (bytes_of xs ++ spare xs) ++ count_bytes (length xs)

module _ (xs : List Instance) (h : length xs ≤ 729) where
  bytes-full : length (bytes_of xs ++ spare xs) ≡ 4374
  unfolding spare
  bytes-full = omega (arith, length-append (bytes_of xs) (spare xs), bytes-length xs, length-replicate {A = ℕ} (4374 - 6 * length xs) 0)

  pub held-count : steps_noted (log_held xs) ≡ length xs
  unfolding log_held
  held-count =
      let n = length xs in
      let p = bytes_of xs ++ spare xs in
      let low : at (log_held xs) 4374 ≡ n % 256 = ap (λ (k : ℕ). at (log_held xs) (k + 0)) (sym bytes-full) ∙ get_or-append-add p (count_bytes n) 0 0 in
      let high : at (log_held xs) 4375 ≡ n / 256 = ap (λ (k : ℕ). at (log_held xs) (k + 1)) (sym bytes-full) ∙ get_or-append-add p (count_bytes n) 1 0 in
      omega (arith, low, high, mod-add-div n 256)

bytes-one-more : (xs : List Instance) (x : Instance) → bytes_of (xs ++ x ∷ []) ≡ bytes_of xs ++ step_bytes x
unfolding bytes_of for
bytes-one-more [] x = append-nil (step_bytes x)
bytes-one-more (y ∷ ys) x = ap (λ (l : List ℕ). step_bytes y ++ l) (bytes-one-more ys x) ∙ sym (append_assoc (step_bytes y) (for ys step_bytes) (step_bytes x))

module _ (xs : List Instance) (x : Instance) (h : length xs < 729) where
  more : length (xs ++ x ∷ []) ≡ length xs + 1
  more = length-append xs (x ∷ [])

  room : spare xs ≡ 0 ∷ 0 ∷ 0 ∷ 0 ∷ 0 ∷ 0 ∷ spare (xs ++ x ∷ [])
  unfolding spare
  room =
      let rest = 4374 - 6 * length (xs ++ x ∷ []) in
      let e : 4374 - 6 * length xs ≡ suc (suc (suc (suc (suc (suc rest))))) = omega (arith, more) in
      ap (λ (n : ℕ). replicate {A = ℕ} n 0) e

  pub note-held : noted (step_bytes x) (log_held xs) ≡ log_held (xs ++ x ∷ [])
  unfolding noted put_count log_held
  note-held =
      let n = length xs in
      let bs = step_bytes x in
      let was = bytes_of xs in
      let left = spare (xs ++ x ∷ []) in
      let few : n ≤ 729 = omega arith in
      let grown : ℕ → List ℕ = λ k. put_count (k + 1) (put_six (6 * k) bs (log_held xs)) in
      let written : put_six (6 * n) bs (log_held xs) ≡ ((was ++ bs) ++ left) ++ count_bytes n =
      ap (put_six (6 * n) bs) (append_assoc was (spare xs) (count_bytes n) ∙ ap (λ (l : List ℕ). was ++ (l ++ count_bytes n)) room)
      ∙ put_six_lem was (6 * n) (bytes-length xs) bs (left ++ count_bytes n)
      ∙ ap (λ (l : List ℕ). was ++ l) (six-of x (left ++ count_bytes n))
      ∙ sym (append_assoc was bs (left ++ count_bytes n)) ∙ sym (append_assoc (was ++ bs) left (count_bytes n)) in
      let full : length ((was ++ bs) ++ left) ≡ 4374 = ap (λ (l : List ℕ). length (l ++ left)) (sym (bytes-one-more xs x)) ∙ bytes-full (xs ++ x ∷ []) (omega (arith, more)) in
      cond-true (ltb (steps_noted (log_held xs)) 729) (grown (steps_noted (log_held xs))) (log_held xs) (lt-ltb (steps_noted (log_held xs)) 729 (omega (arith, held-count xs few)))
      ∙ ap grown (held-count xs few)
      ∙ ap (put_count (n + 1)) written
      ∙ ap (λ (l : List ℕ). set l 4375 ((n + 1) / 256)) (set-from ((was ++ bs) ++ left) 4374 full (count_bytes n) 0 ((n + 1) % 256))
      ∙ set-from ((was ++ bs) ++ left) 4374 full ((n + 1) % 256 ∷ n / 256 ∷ []) 1 ((n + 1) / 256)
      ∙ ap (λ (l : List ℕ). (l ++ left) ++ count_bytes (n + 1)) (sym (bytes-one-more xs x))
      ∙ ap (λ (k : ℕ). (bytes_of (xs ++ x ∷ []) ++ left) ++ count_bytes k) (sym more)

-- steps after steps
pub log-held : (xs ys : List Instance) → length xs + length ys ≤ 729 → each (λ x. noted (step_bytes x)) ys (log_held xs) ≡ log_held (xs ++ ys)
unfolding each
log-held xs [] h = ap log_held (sym (append-nil xs))
log-held xs (y ∷ ys) h =
    ap (each (λ x. noted (step_bytes x)) ys) (note-held xs y (omega arith)) ∙ log-held (xs ++ y ∷ []) ys (omega (arith, length-append xs (y ∷ []))) ∙ ap log_held (append_assoc xs (y ∷ []) ys)

-- an empty one
pub log-empty : replicate 4376 0 ≡ log_held []
unfolding log_held spare bytes_of for
log-empty = sym (replicate-append-replicate {A = ℕ} 4374 2 0)

-- its bytes, without their number
front : (p q : List ℕ) (n : ℕ) → length p ≡ n → map (at (p ++ q)) (up_to n) ≡ p
front p q n e =
    ext_get_or 0 (map (at (p ++ q)) (up_to n)) p (sizes ∙ sym e)
    (λ i h. at-up_to (at (p ++ q)) 0 n i (omega (arith, sizes)) ∙ get_or-append p q 0 i (omega (arith, sizes)))
  where
    sizes : length (map (at (p ++ q)) (up_to n)) ≡ n
    sizes = length-map (up_to n) (at (p ++ q)) ∙ range_length n 0

pub held_bytes : (xs : List Instance) → length xs ≤ 729 → map (at (log_held xs)) (up_to 4374) ≡ bytes_of xs ++ replicate (4374 - length (bytes_of xs)) 0
unfolding log_held spare
held_bytes xs h =
    front (bytes_of xs ++ spare xs) (count_bytes (length xs)) 4374 (bytes-full xs h)
    ∙ ap (λ (k : ℕ). bytes_of xs ++ replicate {A = ℕ} (4374 - k) 0) (sym (bytes-length xs))
