-- The tally of settling, pass by pass and sweep by sweep. Assumes nothing.
use mathlib.Core.Path.{◌≡◌, refl, sym, ap, ap₂, ◌∙◌}
use mathlib.Core.Logic.{◌≢◌, ◌⊎◌, ⊎_elim}
use mathlib.Core.Bool.{Bool, true, false}
use mathlib.Core.List.{List, [], ◌∷◌, ◌++◌, map, Memᴰ}
use Prim.Native.Nat.{ℕ, zero, suc, ◌+◌, ◌-◌, ◌≤◌, ◌<◌}
use native.Mathlib.Nat.{zero-add, add-zero}
use native.Mathlib.Numerals.{add-one}
use native.Mathlib.Decide.{dec_lt}
use native.Mathlib.Omega.{arith}
use mir.Syntax.{w64}
use mir.Val.{Fits}
use lib.ListN.{length, length-map, length-set, set, take, replicate, get_or-eq_default}
use lib.Seq.{take_all, take-suc, ext_get_or, get_or_at, get_or-set_same, get_or-set_other, set-get_or}
use Rattle.grid.proofs.Lists.{at-up_to, range_length}
use Rattle.steps.specs.Boards.{at, same_masks, total}
use Rattle.steps.specs.Difficulty.{summed, added, removed_each, removed_in}
use Rattle.steps.specs.Loops.{each, up_to}
use Rattle.steps.specs.Passes.{kinds, pass, sweep}
use Rattle.steps.proofs.Difficulty.{six-counts}
use Rattle.steps.proofs.Loops.{each-idle}
use Rattle.steps.proofs.Masks.{total-under, total-less, same-eq, differ}
use Rattle.steps.proofs.Reach.{reach-under, reach-length, pass-reach}
use Rattle.steps.proofs.Settling.{each-still}
use Rattle.passes.specs.code.Rounds.{nth_kind}
use Rattle.passes.specs.code.Tallies.{tallied, tally_with, Tally}

-- ---- lists of numbers

-- a list of known length, number by number
by-places : (n : ℕ) (l : List ℕ) → length l ≡ n → l ≡ map (at l) (up_to n)
by-places n l e =
    ext_get_or 0 l (map (at l) (up_to n)) (e ∙ sym (length-map (up_to n) (at l) ∙ range_length n 0)) (λ i h. sym (at-up_to (at l) 0 n i (omega (arith, h, e))))

summed-set : (l : List ℕ) (i x : ℕ) → i < length l → summed (set l i x) + at l i ≡ summed l + x
unfolding summed
summed-set [] i x h = absurd (omega (arith, h))
summed-set (y ∷ ys) zero x h = omega arith
summed-set (y ∷ ys) (suc i) x h = omega (arith, summed-set ys i x (omega (arith, h)))

at-summed : (l : List ℕ) (i : ℕ) → at l i ≤ summed l
unfolding summed
at-summed [] i = omega arith
at-summed (x ∷ xs) zero = omega arith
at-summed (x ∷ xs) (suc i) = omega (arith, at-summed xs i)

-- two of them
pub two-summed : (l : List ℕ) (i j : ℕ) → i ≢ j → at l i + at l j ≤ summed l
two-summed l i j d = go (dec_lt j (length l))
  where
    go : Dec (j < length l) → at l i + at l j ≤ summed l
    go (yes h) = omega (arith, summed-set l j 0 h, at-summed (set l j 0) i, get_or-set_other l j i 0 0 d)
    go (no h) = omega (arith, at-summed l i, get_or-eq_default l 0 {n = j} (omega (arith, h)))

added-length : (xs ys : List ℕ) → length ys ≤ length xs → length (added xs ys) ≡ length ys
unfolding added
added-length [] [] h = refl
added-length [] (y ∷ ys) h = absurd (omega (arith, h))
added-length (x ∷ xs) [] h = refl
added-length (x ∷ xs) (y ∷ ys) h = ap suc (added-length xs ys (omega (arith, h)))

added-assoc : (xs ys zs : List ℕ) → added (added xs ys) zs ≡ added xs (added ys zs)
unfolding added
added-assoc [] ys zs = refl
added-assoc (x ∷ xs) [] zs = refl
added-assoc (x ∷ xs) (y ∷ ys) [] = refl
added-assoc (x ∷ xs) (y ∷ ys) (z ∷ zs) =
    let e : x + y + z ≡ x + (y + z) = omega arith in
    ap₂ ◌∷◌ e (added-assoc xs ys zs)

added_none : (n : ℕ) (l : List ℕ) → n ≤ length l → added l (replicate n 0) ≡ take n l
unfolding added
added_none zero [] h = refl
added_none zero (x ∷ xs) h = refl
added_none (suc n) [] h = absurd (omega (arith, h))
added_none (suc n) (x ∷ xs) h = ap₂ ◌∷◌ (add-zero x) (added_none n xs (omega (arith, h)))

-- what comes after as many numbers has no bearing
added-front : (xs ys zs : List ℕ) → length zs ≤ length xs → added (xs ++ ys) zs ≡ added xs zs
unfolding added
added-front [] [] [] h = refl
added-front [] (y ∷ ys) [] h = refl
added-front [] ys (z ∷ zs) h = absurd (omega (arith, h))
added-front (x ∷ xs) ys [] h = refl
added-front (x ∷ xs) ys (z ∷ zs) h = ap (λ (l : List ℕ). (x + z) ∷ l) (added-front xs ys zs (omega (arith, h)))

-- ---- a pass

-- one that leaves all that there were changes nothing
tallied-idle : {m t : List ℕ} → Tally m t → (w : ℕ) → tallied w (total m) t ≡ t
unfolding tallied
tallied-idle {m} {t} s w =
    let none : at t w + (at t 6 - total m) ≡ at t w = omega (arith, s.left) in
    ap₂ (λ (x y : ℕ). set (set t w x) 6 y) none (sym s.left) ∙ ap (λ (l : List ℕ). set l 6 (at t 6)) (set-get_or t w 0) ∙ set-get_or t 6 0

tally-next : {m n t : List ℕ} → Tally m t → (w : ℕ) → w < 6 → total n ≤ total m → Tally n (tallied w (total n) t)
unfolding tallied
tally-next {m} {n} {t} s w h f =
    let x = at t w + (at t 6 - total n) in
    let u = set t w x in
    let long : length u ≡ 7 = length-set t w x ∙ s.size in
    let other : at u 6 ≡ at t 6 = get_or-set_other t w 6 x 0 (λ e. absurd (omega (arith, e, h))) in
    let same : summed (set u 6 (total n)) ≡ summed t = omega (arith, summed-set t w x (omega (arith, h, s.size)), summed-set u 6 (total n) (omega (arith, long)), other, s.left, f) in
    record {
      size = length-set u 6 (total n) ∙ long;
      left = get_or-set_same u 6 (total n) 0 (omega (arith, long));
      few = rw same s.few;
    }

module _ (g : List ℕ) where
  -- the pass of number w, on masks and their tally
  abbrev pub tally_turn : ℕ → List ℕ × List ℕ → List ℕ × List ℕ
  tally_turn w s = (pass g (nth_kind w) s.0, tallied w (total (pass g (nth_kind w) s.0)) s.1)

  pub pass-fewer : (w : ℕ) (m : List ℕ) → total (pass g (nth_kind w) m) ≤ total m
  pass-fewer w m = let r = pass-reach g (nth_kind w) m in total-under (pass g (nth_kind w) m) m (reach-length g r) (reach-under g r)

  -- one that leaves as many candidates removed nothing
  pub pass_same : (w : ℕ) (m : List ℕ) {o : List ℕ} → o ≡ pass g (nth_kind w) m → total o ≡ total m → o ≡ m
  pass_same w m {o} e t = go (same_masks m o) refl
    where
      go : (b : Bool) → same_masks m o ≡ b → o ≡ m
      go true s = sym (same-eq m o s)
      go false s =
          let r = pass-reach g (nth_kind w) m in
          absurd (omega (arith, total-less o m (ap length e ∙ reach-length g r) (rw e (reach-under g r)) (λ q. differ m o s (sym q)), t))

  -- ---- a sweep

  six-turns : (m : List ℕ) (a b c d e f : ℕ) → each tally_turn (up_to 6) (m, a ∷ b ∷ c ∷ d ∷ e ∷ f ∷ total m ∷ []) ≡ (sweep g m, tally_with (removed_each g kinds m) (sweep g m) (a ∷ b ∷ c ∷ d ∷ e ∷ f ∷ total m ∷ []))
  unfolding each tallied tally_with added removed_each sweep nth_kind
  six-turns m a b c d e f = refl

  pub sweep-tally : {m t : List ℕ} → Tally m t → each tally_turn (up_to 6) (m, t) ≡ (sweep g m, tally_with (removed_each g kinds m) (sweep g m) t)
  sweep-tally {m} {t} s =
      let known = by-places 7 t s.size ∙ ap (λ (x : ℕ). at t 0 ∷ at t 1 ∷ at t 2 ∷ at t 3 ∷ at t 4 ∷ at t 5 ∷ x ∷ []) s.left in
      ap (λ (u : List ℕ). each tally_turn (up_to 6) (m, u)) known ∙ six-turns m (at t 0) (at t 1) (at t 2) (at t 3) (at t 4) (at t 5)
      ∙ sym (ap (λ (u : List ℕ). (sweep g m, tally_with (removed_each g kinds m) (sweep g m) u)) known)

  pub swept-tally : (m t : List ℕ) {n u : List ℕ} → ◌≡◌ {A = List ℕ × List ℕ} (n, u) (sweep g m, tally_with (removed_each g kinds m) (sweep g m) t) → u ≡ tally_with (removed_each g kinds m) n t
  swept-tally m t e =
      ap (λ (s : List ℕ × List ℕ). s.1) e ∙ ap (λ (o : List ℕ). tally_with (removed_each g kinds m) o t) (sym (ap (λ (s : List ℕ × List ℕ). s.0) e))

  module _ {m t : List ℕ} (s : Tally m t) where
    -- passes that remove nothing count nothing
    pub left-uncounted : (ws : List ℕ) → each (λ w. pass g (nth_kind w)) ws m ≡ m → each tally_turn ws (m, t) ≡ (m, t)
    left-uncounted ws e =
        each-idle tally_turn ws (m, t) λ w k.
        ap (λ (n : List ℕ). (n, tallied w (total n) t)) (still w k) ∙ ap (λ (u : List ℕ). (m, u)) (tallied-idle s w)
      where
        still : (w : ℕ) → Memᴰ w ws → pass g (nth_kind w) m ≡ m
        still = each-still (λ w. pass g (nth_kind w)) (λ w n. reach-under g (pass-reach g (nth_kind w) n)) (λ w n. reach-length g (pass-reach g (nth_kind w) n)) ws m e

    -- one pass: counted where it is asked to be, and elsewhere only where it removed nothing
    pub tally-turn : {o u : List ℕ} (w : ℕ) → w < 6 → o ≡ pass g (nth_kind w) m → (u ≡ tallied w (total o) t) ⊎ ((o ≡ m) × (u ≡ t)) → Tally o u × ◌≡◌ {A = List ℕ × List ℕ} (o, u) (tally_turn w (m, t))
    tally-turn {o} {u} w h did how =
        let e = ⊎_elim (λ x. x) (λ (x : (o ≡ m) × (u ≡ t)). x.1 ∙ sym (tallied-idle s w) ∙ ap (λ (n : List ℕ). tallied w (total n) t) (sym x.0)) how in
        (rw e (tally-next s w h (omega (arith, pass-fewer w m, ap total did))), ap₂ (λ (n v : List ℕ). (n, v)) did (e ∙ ap (λ (n : List ℕ). tallied w (total n) t) did))

  -- ---- sweeps

  -- a sweep done: its counts stand in the tally
  pub counts-next : {m n t u whole : List ℕ} (k : ℕ) → Tally m t → n ≡ sweep g m → u ≡ tally_with (removed_each g kinds m) n t → added t (removed_in g (k + 1) m) ≡ whole → added u (removed_in g k n) ≡ whole
  unfolding tally_with removed_in removed_each
  counts-next {m} {n} {t} k s swept e all =
      let now = removed_each g kinds m in
      let later = removed_in g k n in
      let long = added-length t now (omega (arith, s.size)) in
      ap (λ (v : List ℕ). added v later) e ∙ added-front (added t now) (total n ∷ []) later (omega (arith, six-counts g k n, long)) ∙ added-assoc t now later
      ∙ ap (λ (o : List ℕ). added t (added now (removed_in g k o))) swept ∙ ap (λ (j : ℕ). added t (removed_in g j m)) (sym (add-one k)) ∙ all

  -- no sweep is left
  pub counts-over : {n t whole : List ℕ} → Tally n t → added t (removed_in g 0 n) ≡ whole → t ≡ whole ++ total n ∷ []
  unfolding removed_in added
  counts-over {n} {t} s all =
      let long : 6 < length t = omega (arith, s.size) in
      sym (take_all 7 t (omega (arith, s.size))) ∙ take-suc t 6 0 long ∙ ap (λ (x : ℕ). take 6 t ++ x ∷ []) s.left ∙ ap (λ (l : List ℕ). l ++ total n ∷ []) (sym (added_none 6 t (omega (arith, long))) ∙ all)

-- ---- the first tally and the last

pub tally-start : (m : List ℕ) {x : ℕ} → x ≡ total m → Fits w64 x → Tally m (0 ∷ 0 ∷ 0 ∷ 0 ∷ 0 ∷ 0 ∷ x ∷ [])
unfolding summed
tally-start m {x} e h =
    let all : summed (0 ∷ 0 ∷ 0 ∷ 0 ∷ 0 ∷ 0 ∷ x ∷ []) ≡ x = omega arith in
    record { size = refl; left = e; few = rw all h }

added-zeros : (n : ℕ) (zs p : List ℕ) → length p ≡ n → added (replicate n 0 ++ zs) p ≡ p
unfolding added
added-zeros zero [] [] e = refl
added-zeros zero (z ∷ zs) [] e = refl
added-zeros zero zs (x ∷ xs) e = absurd (omega (arith, e))
added-zeros (suc n) zs [] e = absurd (omega (arith, e))
added-zeros (suc n) zs (x ∷ xs) e = ap₂ ◌∷◌ (zero-add x) (added-zeros n zs xs (omega (arith, e)))

module _ (p n : List ℕ) {t : List ℕ} (x : ℕ) (six : length p ≡ 6) (e : t ≡ tally_with p n (0 ∷ 0 ∷ 0 ∷ 0 ∷ 0 ∷ 0 ∷ x ∷ [])) where
  counted-from-zeros : t ≡ p ++ total n ∷ []
  unfolding tally_with
  counted-from-zeros = e ∙ ap (λ (l : List ℕ). l ++ total n ∷ []) (added-zeros 6 (x ∷ []) p six)

  abbrev first : List ℕ → List ℕ
  first l = at l 0 ∷ at l 1 ∷ at l 2 ∷ at l 3 ∷ at l 4 ∷ at l 5 ∷ []

  pub tally-counts : at t 0 ∷ at t 1 ∷ at t 2 ∷ at t 3 ∷ at t 4 ∷ at t 5 ∷ [] ≡ p
  tally-counts =
      let known = by-places 6 p six in
      ap first counted-from-zeros ∙ ap (λ (q : List ℕ). first (q ++ total n ∷ [])) known ∙ sym known

  pub tally-left : at t 6 ≡ total n
  tally-left = ap (λ (l : List ℕ). at l 6) counted-from-zeros ∙ get_or_at p (total n) [] 0 6 six
