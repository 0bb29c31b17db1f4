-- The X-chain search finds exactly the chains in words: `x-chain-laws`. It takes an admissible board to an admissible one. Assumes nothing.
use mathlib.Core.Path.{◌≡◌, refl, sym, ◌∙◌, subst}
use mathlib.Core.Logic.{◌≢◌, ◌⊎◌, ◌↔◌, inl, inr, ⊎_elim}
use mathlib.Core.Bool.{Bool, true, false, cond, not, ◌&&◌, true≢false}
use mathlib.Core.List.Memᴰ
use mathlib.Core.List.{List, [], ◌∷◌, ◌++◌, Memᴰ}
use Prim.Native.Nat.{ℕ, zero, suc, ◌+◌, ◌-◌, ◌*◌, ◌<◌}
use native.Mathlib.Omega.{arith}
use borrow.Author.Tests.{eqb-false, ne_eqb}
use lib.Dec.{eqb, leb}
use lib.ListN.{length}
use Rattle.candidates.specs.Masks.{single}
use Rattle.candidates.proofs.Held.{Held, held-power, none-held}
use Rattle.candidates.proofs.Tests.{both, both_left, both_right, neither, cond-true}
use Rattle.grid.specs.Cells.{sees, cells}
use Rattle.grid.specs.Units.{ShareUnit}
use Rattle.grid.proofs.Cells.{sees-shared, shared_sees}
use Rattle.grid.proofs.Lists.{mem-select, select-mem, mem-range, range-mem}
use Rattle.grid.proofs.Units.{member_below}
use Rattle.steps.specs.Boards.{at, is_open, Admissible}
use Rattle.steps.specs.Chains.{on_path, links}
use Rattle.steps.specs.Loops.{for, select, any, up_to}
use Rattle.steps.specs.Ported.{holds}
use Rattle.steps.specs.Published.{Holder, Without}
use Rattle.steps.specs.XChains.{StrongLink, WeakLink, XChain, XChainLoss, XChainPass, ends_from, chain_ends, caught, x_chain_digit, x_chains, XChainLaws}
use Rattle.steps.proofs.Links.{strong-back, weak-back, strong-link, weak-link}
use Rattle.steps.proofs.Loops.{each_keeps, in-for, for-in, any-member, member-any}
use Rattle.steps.proofs.Losses.{Lost, lost-digits, without-same, without-again}
use Rattle.steps.proofs.Masks.{under-trans}
use Rattle.steps.proofs.PassTurns.{each-turns, Any}
use Rattle.steps.proofs.Spots.{holder-holds, holds-holder}
use Rattle.steps.proofs.Steps.{all_under, all-length, all-shut}

-- ---- different cells

-- no cell stands on the path that follows it
Apart : List ℕ → Type 0
Apart [] = Unit
Apart (c ∷ cs) = (on_path c cs ≡ false) × Apart cs

off-path : (c : ℕ) (cs : List ℕ) → ((i : ℕ) → i < length cs → c ≢ at cs i) → on_path c cs ≡ false
off-path c [] h = refl
off-path c (e ∷ cs) h = (neither (eqb c e) (on_path c cs)).1 (ne_eqb c e (h 0 (omega arith)), off-path c cs (λ i l. h (suc i) (omega arith)))

path-off : (c : ℕ) (cs : List ℕ) → on_path c cs ≡ false → (i : ℕ) → i < length cs → c ≢ at cs i
path-off c [] t i l = absurd (omega arith)
path-off c (e ∷ cs) t zero l = eqb-false c e ((neither (eqb c e) (on_path c cs)).0 t).0
path-off c (e ∷ cs) t (suc i) l = path-off c cs ((neither (eqb c e) (on_path c cs)).0 t).1 i (omega arith)

apart : (cs : List ℕ) → ((i j : ℕ) → i < j → j < length cs → at cs i ≢ at cs j) → Apart cs
unfolding Apart
apart [] h = tt
apart (c ∷ cs) h = (off-path c cs (λ i l. h 0 (suc i) (omega arith) (omega arith)), apart cs (λ i j l r. h (suc i) (suc j) (omega arith) (omega arith)))

differ : (cs : List ℕ) → Apart cs → (i j : ℕ) → i < j → j < length cs → at cs i ≢ at cs j
unfolding Apart
differ [] w i j l r = absurd (omega arith)
differ (c ∷ cs) w zero zero l r = absurd (omega arith)
differ (c ∷ cs) w zero (suc j) l r = path-off c cs w.0 j (omega arith)
differ (c ∷ cs) w (suc i) zero l r = absurd (omega arith)
differ (c ∷ cs) w (suc i) (suc j) l r = differ cs w.1 i j (omega arith) (omega arith)

module _ (g m : List ℕ) (d : ℕ) where
  abbrev Strong : ℕ → ℕ → Type 0
  Strong = StrongLink g m d

  abbrev Weak : ℕ → ℕ → Type 0
  Weak = WeakLink g m d

  -- ---- a chain, cell by cell

  four : (a b c e : ℕ) → Apart (a ∷ b ∷ c ∷ e ∷ []) → Strong a b → Weak b c → Strong c e → XChain g m d (a ∷ b ∷ c ∷ e ∷ [])
  four a b c e w p q r = record { size = inl refl; different = differ (a ∷ b ∷ c ∷ e ∷ []) w; strong = strong; weak = weak }
    where
      cs : List ℕ
      cs = a ∷ b ∷ c ∷ e ∷ []

      strong : (k : ℕ) → 2 * k + 1 < 4 → Strong (at cs (2 * k)) (at cs (2 * k + 1))
      strong zero h = p
      strong (suc zero) h = r
      strong (suc (suc k)) h = absurd (omega arith)

      weak : (k : ℕ) → 2 * k + 2 < 4 → Weak (at cs (2 * k + 1)) (at cs (2 * k + 2))
      weak zero h = q
      weak (suc k) h = absurd (omega arith)

  six : (a b c e f h : ℕ) → Apart (a ∷ b ∷ c ∷ e ∷ f ∷ h ∷ []) → Strong a b → Weak b c → Strong c e → Weak e f → Strong f h → XChain g m d (a ∷ b ∷ c ∷ e ∷ f ∷ h ∷ [])
  six a b c e f h w p q r s t = record { size = inr refl; different = differ (a ∷ b ∷ c ∷ e ∷ f ∷ h ∷ []) w; strong = strong; weak = weak }
    where
      cs : List ℕ
      cs = a ∷ b ∷ c ∷ e ∷ f ∷ h ∷ []

      strong : (k : ℕ) → 2 * k + 1 < 6 → Strong (at cs (2 * k)) (at cs (2 * k + 1))
      strong zero l = p
      strong (suc zero) l = r
      strong (suc (suc zero)) l = t
      strong (suc (suc (suc k))) l = absurd (omega arith)

      weak : (k : ℕ) → 2 * k + 2 < 6 → Weak (at cs (2 * k + 1)) (at cs (2 * k + 2))
      weak zero l = q
      weak (suc zero) l = s
      weak (suc (suc k)) l = absurd (omega arith)

  -- ---- the search, cell by cell

  -- a chain ends in the cell that it enters, or goes on from it
  pub Enters : ℕ → Bool → List ℕ → ℕ → ℕ → Type 0
  Enters n weak path c z =
      (((weak && leb 3 (length path)) ≡ true) × (z ≡ c)) ⊎ ((e : ℕ) × Memᴰ e (links g m d weak c) × Memᴰ z (ends_from g m d n (not weak) (c ∷ path) e))

  pub entered : (n : ℕ) (weak : Bool) (path : List ℕ) (c z : ℕ) → Memᴰ z (ends_from g m d (suc n) weak path c) → (on_path c path ≡ false) × Enters n weak path c z
  unfolding ends_from Enters
  entered n weak path c z k = go (on_path c path) refl k
    where
      here : List ℕ
      here = cond (weak && leb 3 (length path)) (c ∷ []) []

      onward : List ℕ
      onward = for (links g m d weak c) (ends_from g m d n (not weak) (c ∷ path))

      ends : (t : Bool) → (weak && leb 3 (length path)) ≡ t → Memᴰ z (cond t (c ∷ []) []) → ((weak && leb 3 (length path)) ≡ true) × (z ≡ c)
      ends true e h = (e, Memᴰ.eq_of_singleton h)
      ends false e h = absurd (Memᴰ.not-nil h)

      go : (t : Bool) → on_path c path ≡ t → Memᴰ z (cond t [] (here ++ onward)) → (on_path c path ≡ false) × Enters n weak path c z
      go true e k = absurd (Memᴰ.not-nil k)
      go false e k = (
        e,
        ⊎_elim (λ h. inl (ends (weak && leb 3 (length path)) refl h)) (λ h. inr (in-for (links g m d weak c) (ends_from g m d n (not weak) (c ∷ path)) z h))
            (Memᴰ.append_cases here k),
      )

  pub enters : (n : ℕ) (weak : Bool) (path : List ℕ) (c z : ℕ) → on_path c path ≡ false → Enters n weak path c z → Memᴰ z (ends_from g m d (suc n) weak path c)
  unfolding ends_from Enters
  enters n weak path c z off w =
      rw off
      (⊎_elim
      (λ p. Memᴰ.append_left (for (links g m d weak c) (ends_from g m d n (not weak) (c ∷ path))) (subst (λ (l : List ℕ). Memᴰ z l) (sym (cond-true (weak && leb 3 (length path)) (c ∷ []) [] p.0)) (Memᴰ.head p.1)))
      (λ p. Memᴰ.append_right (cond (weak && leb 3 (length path)) (c ∷ []) []) (for-in (links g m d weak c) (ends_from g m d n (not weak) (c ∷ path)) p.0 z p.1 p.2)) w)

  -- ---- what is found is a chain, its end first

  record Between (s z : ℕ) : Type 0 where
    chain : List ℕ
    is : XChain g m d chain
    first : at chain 0 ≡ z
    last : at chain (length chain - 1) ≡ s
    below : z < 81

  link-below : {c e : ℕ} → ShareUnit c e → e < 81
  link-below s = member_below s.within s.second

  strong-on : (n : ℕ) (path : List ℕ) (c z : ℕ) → c < 81 → Holder g m d c → Memᴰ z (ends_from g m d (suc n) false path c)
      → (on_path c path ≡ false) × ((e : ℕ) × Strong c e × Memᴰ z (ends_from g m d n true (c ∷ path) e))
  unfolding Enters
  strong-on n path c z h p k =
      let w = entered n false path c z k in
      (w.0, ⊎_elim (λ q. absurd (true≢false (sym q.0))) (λ q. (q.0, (strong-link g m d q.0 h p).0 q.1, q.2)) w.1)

  weak-on : (n : ℕ) (path : List ℕ) (c z : ℕ) → c < 81 → Holder g m d c → Memᴰ z (ends_from g m d (suc n) true path c)
      → (on_path c path ≡ false) × (((leb 3 (length path) ≡ true) × (z ≡ c)) ⊎ ((e : ℕ) × Weak c e × Memᴰ z (ends_from g m d n false (c ∷ path) e)))
  unfolding Enters
  weak-on n path c z h p k =
      let w = entered n true path c z k in
      (w.0, ⊎_elim (λ q. inl q) (λ q. inr (q.0, (weak-link g m d q.0 h p).0 q.1, q.2)) w.1)

  found : (a z : ℕ) → a < 81 → Holder g m d a → Memᴰ z (chain_ends g m d a) → Between a z
  unfolding Apart ends_from
  found a z h p k = second (strong-on 5 [] a z h p k).1
    where
      sixth : (b c e f x : ℕ) → Strong a b → Weak b c → Strong c e → Weak e f → Strong f x → Apart (f ∷ e ∷ c ∷ b ∷ a ∷ [])
          → (on_path x (f ∷ e ∷ c ∷ b ∷ a ∷ []) ≡ false) × (((true ≡ true) × (z ≡ x)) ⊎ ((y : ℕ) × Weak x y × Memᴰ z [])) → Between a z
      sixth b c e f x s w t v u o r =
          ⊎_elim
          (λ q.
          record {
            chain = x ∷ f ∷ e ∷ c ∷ b ∷ a ∷ [];
            is = six x f e c b a (r.0, o) (strong-back g m d u) (weak-back g m d v) (strong-back g m d t) (weak-back g m d w) (strong-back g m d s);
            first = sym q.1;
            last = refl;
            below = subst (λ (y : ℕ). y < 81) (sym q.1) (link-below u.two);
          })
          (λ q. absurd (Memᴰ.not-nil q.2)) r.1

      fifth : (b c e f : ℕ) → Strong a b → Weak b c → Strong c e → Weak e f → Apart (e ∷ c ∷ b ∷ a ∷ []) → Memᴰ z (ends_from g m d 2 false (e ∷ c ∷ b ∷ a ∷ []) f) → Between a z
      fifth b c e f s w t v o l =
          let r = strong-on 1 (e ∷ c ∷ b ∷ a ∷ []) f z (link-below v.two) v.holder₂ l in
          let u = r.1.1 in
          sixth b c e f r.1.0 s w t v u (r.0, o) (weak-on 0 (f ∷ e ∷ c ∷ b ∷ a ∷ []) r.1.0 z (link-below u.two) u.holder₂ r.1.2)

      fourth : (b c e : ℕ) → Strong a b → Weak b c → Strong c e → Apart (c ∷ b ∷ a ∷ [])
          → (on_path e (c ∷ b ∷ a ∷ []) ≡ false) × (((true ≡ true) × (z ≡ e)) ⊎ ((f : ℕ) × Weak e f × Memᴰ z (ends_from g m d 2 false (e ∷ c ∷ b ∷ a ∷ []) f))) → Between a z
      fourth b c e s w t o r =
          ⊎_elim
          (λ q.
          record {
            chain = e ∷ c ∷ b ∷ a ∷ [];
            is = four e c b a (r.0, o) (strong-back g m d t) (weak-back g m d w) (strong-back g m d s);
            first = sym q.1;
            last = refl;
            below = subst (λ (y : ℕ). y < 81) (sym q.1) (link-below t.two);
          })
          (λ q. fifth b c e q.0 s w t q.1 (r.0, o) q.2) r.1

      third : (b c : ℕ) → Strong a b → Weak b c → Apart (b ∷ a ∷ []) → Memᴰ z (ends_from g m d 4 false (b ∷ a ∷ []) c) → Between a z
      third b c s w o l =
          let r = strong-on 3 (b ∷ a ∷ []) c z (link-below w.two) w.holder₂ l in
          let t = r.1.1 in
          fourth b c r.1.0 s w t (r.0, o) (weak-on 2 (c ∷ b ∷ a ∷ []) r.1.0 z (link-below t.two) t.holder₂ r.1.2)

      second : (b : ℕ) × Strong a b × Memᴰ z (ends_from g m d 5 true (a ∷ []) b) → Between a z
      second (b, s, l) =
          let r = weak-on 4 (a ∷ []) b z (link-below s.two) s.holder₂ l in
          ⊎_elim (λ q. absurd (true≢false (sym q.0))) (λ q. third b q.0 s q.1 (r.0, (refl, tt)) q.2) r.1

  -- ---- a chain is found from its last cell

  strong-step : (n : ℕ) (path : List ℕ) (c e z : ℕ) → on_path e path ≡ false → Strong c e → Memᴰ z (ends_from g m d n true (e ∷ path) c) → Memᴰ z (ends_from g m d (suc n) false path e)
  unfolding Enters
  strong-step n path c e z off s k = enters n false path e z off (inr (c, (strong-link g m d c (link-below s.two) s.holder₂).1 (strong-back g m d s), k))

  weak-step : (n : ℕ) (path : List ℕ) (c e z : ℕ) → on_path e path ≡ false → Weak c e → Memᴰ z (ends_from g m d n false (e ∷ path) c) → Memᴰ z (ends_from g m d (suc n) true path e)
  unfolding Enters
  weak-step n path c e z off s k = enters n true path e z off (inr (c, (weak-link g m d c (link-below s.two) s.holder₂).1 (weak-back g m d s), k))

  ends : (n : ℕ) (path : List ℕ) (c : ℕ) → on_path c path ≡ false → leb 3 (length path) ≡ true → Memᴰ c (ends_from g m d (suc n) true path c)
  unfolding Enters
  ends n path c off long = enters n true path c c off (inl (long, refl))

  Finds : List ℕ → Type 0
  Finds cs = (at cs (length cs - 1) < 81) × Holder g m d (at cs (length cs - 1)) × Memᴰ (at cs 0) (chain_ends g m d (at cs (length cs - 1)))

  finds : (cs : List ℕ) → XChain g m d cs → Finds cs
  unfolding Apart Finds
  finds cs x = ⊎_elim (λ n. of_four cs x n (apart cs x.different)) (λ n. of-six cs x n (apart cs x.different)) x.size
    where
      of_four : (cs : List ℕ) → XChain g m d cs → length cs ≡ 4 → Apart cs → Finds cs
      of_four (a ∷ b ∷ c ∷ e ∷ []) x n o =
          let s = x.strong 1 (omega arith) in (
            link-below s.two,
            s.holder₂,
            strong-step 5 [] c e a refl s
                (weak-step 4 (e ∷ []) b c a o.1.1.0 (x.weak 0 (omega arith))
                (strong-step 3 (c ∷ e ∷ []) a b a o.1.0 (x.strong 0 (omega arith)) (ends 2 (b ∷ c ∷ e ∷ []) a o.0 refl))),
          )
      of_four [] x n o = absurd (omega arith)
      of_four (a ∷ []) x n o = absurd (omega arith)
      of_four (a ∷ b ∷ []) x n o = absurd (omega arith)
      of_four (a ∷ b ∷ c ∷ []) x n o = absurd (omega arith)
      of_four (a ∷ b ∷ c ∷ e ∷ f ∷ cs) x n o = absurd (omega arith)

      of-six : (cs : List ℕ) → XChain g m d cs → length cs ≡ 6 → Apart cs → Finds cs
      of-six (a ∷ b ∷ c ∷ e ∷ f ∷ h ∷ []) x n o =
          let s = x.strong 2 (omega arith) in (
            link-below s.two,
            s.holder₂,
            strong-step 5 [] f h a refl s
                (weak-step 4 (h ∷ []) e f a o.1.1.1.1.0 (x.weak 1 (omega arith))
                (strong-step 3 (f ∷ h ∷ []) c e a o.1.1.1.0 (x.strong 1 (omega arith))
                (weak-step 2 (e ∷ f ∷ h ∷ []) b c a o.1.1.0 (x.weak 0 (omega arith))
                (strong-step 1 (c ∷ e ∷ f ∷ h ∷ []) a b a o.1.0 (x.strong 0 (omega arith)) (ends 0 (b ∷ c ∷ e ∷ f ∷ h ∷ []) a o.0 refl))))),
          )
      of-six [] x n o = absurd (omega arith)
      of-six (a ∷ []) x n o = absurd (omega arith)
      of-six (a ∷ b ∷ []) x n o = absurd (omega arith)
      of-six (a ∷ b ∷ c ∷ []) x n o = absurd (omega arith)
      of-six (a ∷ b ∷ c ∷ e ∷ []) x n o = absurd (omega arith)
      of-six (a ∷ b ∷ c ∷ e ∷ f ∷ []) x n o = absurd (omega arith)
      of-six (a ∷ b ∷ c ∷ e ∷ f ∷ h ∷ i ∷ cs) x n o = absurd (omega arith)

  -- ---- what is lost

  cell_in : (c : ℕ) → c < 81 → Memᴰ c cells
  unfolding cells
  cell_in c h = range-mem 81 0 c (omega arith) (omega arith)

  in_cell : (c : ℕ) → Memᴰ c cells → c < 81
  unfolding cells
  in_cell c k = omega (arith, mem-range 81 0 c k)

  catches : {x k : ℕ} → XChainLoss g m d x k → caught g m d x ≡ true
  unfolding caught Finds
  catches {x} l =
      let s = at l.chain (length l.chain - 1) in
      let w = finds l.chain l.is in
      member-any (λ s. any (λ e. sees s x && sees e x) (chain_ends g m d s)) (select (holds g m d) cells) s (select-mem (holds g m d) cells s (cell_in s w.0) (holder-holds g m w.1))
      (member-any (λ e. sees s x && sees e x) (chain_ends g m d s) (at l.chain 0) w.2 (both (shared_sees l.end) (shared_sees l.start)))

  caught-by : (x : ℕ) → x < 81 → is_open g x ≡ true → caught g m d x ≡ true → XChainLoss g m d x d
  unfolding caught
  caught-by x h o t = from (any-member (λ s. any (λ e. sees s x && sees e x) (chain_ends g m d s)) (select (holds g m d) cells) t)
    where
      loss : (s e : ℕ) → s < 81 → Between s e → (sees s x && sees e x) ≡ true → XChainLoss g m d x d
      loss s e l b t =
          record {
            chain = b.chain;
            is = b.is;
            free = o;
            start = subst (λ (c : ℕ). ShareUnit c x) (sym b.first) (sees-shared e x b.below h (both_right (sees s x) (sees e x) t));
            end = subst (λ (c : ℕ). ShareUnit c x) (sym b.last) (sees-shared s x l h (both_left (sees s x) (sees e x) t));
            digit = refl;
          }

      from : (s : ℕ) × Memᴰ s (select (holds g m d) cells) × (any (λ e. sees s x && sees e x) (chain_ends g m d s) ≡ true) → XChainLoss g m d x d
      from (s, k, t) =
          let w = any-member (λ e. sees s x && sees e x) (chain_ends g m d s) t in
          let a = mem-select (holds g m d) cells s k in
          loss s w.0 (in_cell s a.0) (found s w.0 (in_cell s a.0) (holds-holder g m d s a.1) w.1) w.2

  abbrev loses : ℕ → ℕ
  loses x = cond (caught g m d x) (single d) 0

  lost : (x k : ℕ) → XChainLoss g m d x k ↔ Lost (is_open g) loses cells x k
  lost x k = (there, λ l. back (caught g m d x) refl l.digit (in_cell x l.listed) l.free)
    where
      there : XChainLoss g m d x k → Lost (is_open g) loses cells x k
      there l =
          record {
            listed = cell_in x (link-below l.start);
            free = l.free;
            digit = subst (λ (y : ℕ). Held y k) (sym (cond-true (caught g m d x) (single d) 0 (catches l))) ((held-power d k).1 l.digit);
          }

      back : (t : Bool) → caught g m d x ≡ t → Held (cond t (single d) 0) k → x < 81 → is_open g x ≡ true → XChainLoss g m d x k
      back true t q h o = subst (XChainLoss g m d x) (sym ((held-power d k).0 q)) (caught-by x h o t)
      back false t q h o = absurd (none-held k q)

  pub digit-loses : Without m (XChainLoss g m d) (x_chain_digit g d m)
  unfolding x_chain_digit
  digit-loses = without-again lost (record { size = all-length (is_open g) cells loses m; left = lost-digits (is_open g) loses cells m })

  pub digit-admissible : Admissible g m → Admissible g (x_chain_digit g d m)
  unfolding x_chain_digit
  digit-admissible a =
      record {
        size = all-length (is_open g) cells loses m ∙ a.size;
        under = under-trans (all_under (is_open g) cells loses m) a.under;
        clues = λ c f. all-shut (is_open g) cells loses m c f ∙ a.clues c f;
      }

-- ---- the pass

pub x-chains-admissible : (g m : List ℕ) → Admissible g m → Admissible g (x_chains g m)
unfolding x_chains
x-chains-admissible g m a = each_keeps (x_chain_digit g) (Admissible g) (up_to 9) (λ d k n b. digit-admissible g n d b) m a

pass : (g m n : List ℕ) → XChainPass g m n ↔ (n ≡ x_chains g m)
unfolding x_chains
pass g m = (each-turns Any (up_to 9) (λ d k m z. (turn d m, tt)) m tt).0
  where
    turn : (d : ℕ) (m n : List ℕ) → Without m (XChainLoss g m d) n ↔ (n ≡ x_chain_digit g d m)
    turn d m n = (λ w. without-same w (digit-loses g m d), λ e. subst (λ (n : List ℕ). Without m (XChainLoss g m d) n) (sym e) (digit-loses g m d))

pub x-chain-laws : XChainLaws
x-chain-laws = record { digit = digit-loses; pass = pass }
