-- What the code loses from each start is what the X-chain pass loses of the digit. Assumes nothing.
use mathlib.Core.Path.{◌≡◌, refl, sym, ap, ◌∙◌, subst}
use mathlib.Core.Logic.{◌⊎◌, inl, inr, ⊎_elim}
use mathlib.Core.Bool.{Bool, true, false, cond, not, ◌&&◌, true≢false}
use mathlib.Core.List.{List, [], ◌∷◌, ◌++◌, Memᴰ}
use Prim.Native.Nat.{ℕ, zero, suc, ◌<◌}
use native.Mathlib.Decide.{ℕ_discrete}
use native.Mathlib.Omega.{arith}
use borrow.Author.Tests.{lt-ltb, lt-leb}
use lib.Dec.{ltb, leb}
use lib.ListN.{length, get_or, set, replicate, length-set}
use lib.Seq.{ext_get_or, get_or-set_same, get_or-set_other}
use Rattle.candidates.specs.Masks.{single}
use Rattle.candidates.proofs.Held.{Held, held-power, held-ext, none-held}
use Rattle.candidates.proofs.Tests.{both, both_left, both_right, cond-true, cond-false}
use Rattle.std.specs.List.{list_any}
use Rattle.grid.specs.Cells.{sees, cells}
use Rattle.grid.proofs.Lists.{mem-select, select-mem, range-mem, each_same}
use Rattle.steps.specs.Boards.{at, is_open}
use Rattle.steps.specs.Chains.{on_path, links}
use Rattle.steps.specs.Loops.{each, for, select, any}
use Rattle.steps.specs.Ported.{holds}
use Rattle.steps.specs.Published.{Candidate}
use Rattle.steps.specs.Steps.{lose_at, lose_all}
use Rattle.steps.specs.XChains.{StrongLink, ends_from, chain_ends, caught, x_chain_digit}
use Rattle.steps.proofs.Links.{strong-back, strong-link, weak-link}
use Rattle.steps.proofs.Loops.{each-for, in-for, for-in, any-member, member-any}
use Rattle.steps.proofs.Losses.{Lost, lost-digits}
use Rattle.steps.proofs.Spots.{holder-holds, holds-holder}
use Rattle.steps.proofs.Steps.{all-length}
use Rattle.grid.proofs.Units.{member_below}
use Rattle.chains.specs.code.XLinks.{pair_sums, is_linked, walk_ends, marked, no_ends, end_sees, ends_of, lose_caught, lose_from}
use Rattle.chains.proofs.Listing.{any-is}
use Rattle.chains.proofs.XWalks.{hs, sums, in-hs, hs-in, in-linked, unlinked, unlinked-ends, ends-are}

-- ---- marks

mark-in : (cs : List ℕ) (l : List Bool) (z : ℕ) → get_or (marked cs l) z false ≡ true → Memᴰ z cs ⊎ (get_or l z false ≡ true)
unfolding marked each
mark-in [] l z e = inr e
mark-in (c ∷ cs) l z e = ⊎_elim (λ k. inl (mathlib.Core.List.Memᴰ.tail k)) (λ t. go (ℕ_discrete z c) t) (mark-in cs (set l c true) z e)
  where
    go : Dec (z ≡ c) → get_or (set l c true) z false ≡ true → Memᴰ z (c ∷ cs) ⊎ (get_or l z false ≡ true)
    go (yes q) t = inl (mathlib.Core.List.Memᴰ.head q)
    go (no n) t = inr (sym (get_or-set_other l c z true false n) ∙ t)

in-mark : (cs : List ℕ) (l : List Bool) (z : ℕ) → z < length l → Memᴰ z cs ⊎ (get_or l z false ≡ true) → get_or (marked cs l) z false ≡ true
unfolding marked each
in-mark [] l z h w = ⊎_elim (λ k. absurd (mathlib.Core.List.Memᴰ.not-nil k)) (λ t. t) w
in-mark (c ∷ cs) l z h w = in-mark cs (set l c true) z (omega (arith, length-set l c true)) (⊎_elim (λ k. ⊎_elim (λ q. inr (here q)) (λ r. inl r) (mathlib.Core.List.Memᴰ.cases_cons k)) (λ t. inr (go (ℕ_discrete z c) t)) w)
  where
    here : z ≡ c → get_or (set l c true) z false ≡ true
    here q = subst (λ (k : ℕ). get_or (set l k true) z false ≡ true) q (get_or-set_same l z true false h)

    go : Dec (z ≡ c) → get_or l z false ≡ true → get_or (set l c true) z false ≡ true
    go (yes q) t = here q
    go (no n) t = get_or-set_other l c z true false n ∙ t

-- ---- a loop with a test is a loop over a selection

each-select : {S : Type 0} (p : ℕ → Bool) (f : ℕ → S → S) (xs : List ℕ) (s : S) → each (λ x s. cond (p x) (f x s) s) xs s ≡ each f (select p xs) s
unfolding each
each-select p f [] s = refl
each-select {S = S} p f (x ∷ xs) s = go (p x) (λ t. each-select p f xs t)
  where
    go : (b : Bool) → ((t : S) → each (λ x s. cond (p x) (f x s) s) xs t ≡ each f (select p xs) t) → each (λ x s. cond (p x) (f x s) s) xs (cond b (f x s) s) ≡ each f (cond b (x ∷ select p xs) (select p xs)) s
    go true later = later (f x s)
    go false later = later s

module _ (g m : List ℕ) (d : ℕ) where
  -- ---- ends are linked, and so are starts

  linked-by : {c e : ℕ} → Memᴰ c (hs g m d) → StrongLink g m d c e → is_linked (sums g m d) c ≡ true
  linked-by {c} {e} k l = go (is_linked (sums g m d) c) refl
    where
      go : (t : Bool) → is_linked (sums g m d) c ≡ t → is_linked (sums g m d) c ≡ true
      go true t = t
      go false t =
          absurd (mathlib.Core.List.Memᴰ.not-nil (subst (λ (xs : List ℕ). Memᴰ e xs) (unlinked g m d k t) ((strong-link g m d e (in-hs g m d k).0 (holds-holder g m d c (in-hs g m d k).1)).1 l)))

  -- the links of a holder are holders, and a strong one is linked
  goes_on : (weak : Bool) (c e : ℕ) → Memᴰ c (hs g m d) → Memᴰ e (links g m d weak c) → Memᴰ e (hs g m d) × (not weak ≡ true → is_linked (sums g m d) e ≡ true)
  goes_on true c e k l =
      let w = (weak-link g m d e (in-hs g m d k).0 (holds-holder g m d c (in-hs g m d k).1)).0 l in
      (hs-in g m d (member_below w.two.within w.two.second) (holder-holds g m w.holder₂), λ t. absurd (true≢false (sym t)))
  goes_on false c e k l =
      let w = (strong-link g m d e (in-hs g m d k).0 (holds-holder g m d c (in-hs g m d k).1)).0 l in
      let r = hs-in g m d (member_below w.two.within w.two.second) (holder-holds g m w.holder₂) in
      (r, λ t. linked-by r (strong-back g m d w))

  ends-linked : (n : ℕ) (weak : Bool) (path : List ℕ) (c z : ℕ) → Memᴰ c (hs g m d) → (weak ≡ true → is_linked (sums g m d) c ≡ true) → Memᴰ z (ends_from g m d n weak path c)
      → Memᴰ z (hs g m d) × (is_linked (sums g m d) z ≡ true)
  unfolding ends_from
  ends-linked zero weak path c z k t l = absurd (mathlib.Core.List.Memᴰ.not-nil l)
  ends-linked (suc n) weak path c z k t l =
      go (on_path c path) l
      (λ e p q. let w = goes_on weak c e k p in ends-linked n (not weak) (c ∷ path) e z w.0 w.1 q)
    where
      ends : (b : Bool) → (weak && leb 3 (length path)) ≡ b → Memᴰ z (cond b (c ∷ []) []) → Memᴰ z (hs g m d) × (is_linked (sums g m d) z ≡ true)
      ends true e h =
          subst (λ (y : ℕ). Memᴰ y (hs g m d) × (is_linked (sums g m d) y ≡ true)) (sym (mathlib.Core.List.Memᴰ.eq_of_singleton h)) (k, t (both_left weak (leb 3 (length path)) e))
      ends false e h = absurd (mathlib.Core.List.Memᴰ.not-nil h)

      go : (b : Bool) → Memᴰ z (cond b [] (cond (weak && leb 3 (length path)) (c ∷ []) [] ++ for (links g m d weak c) (ends_from g m d n (not weak) (c ∷ path))))
          → ((e : ℕ) → Memᴰ e (links g m d weak c) → Memᴰ z (ends_from g m d n (not weak) (c ∷ path) e) → Memᴰ z (hs g m d) × (is_linked (sums g m d) z ≡ true))
          → Memᴰ z (hs g m d) × (is_linked (sums g m d) z ≡ true)
      go true l later = absurd (mathlib.Core.List.Memᴰ.not-nil l)
      go false l later =
          ⊎_elim (λ h. ends (weak && leb 3 (length path)) refl h)
          (λ h.
          let w = in-for (links g m d weak c) (ends_from g m d n (not weak) (c ∷ path)) z h in
          later w.0 w.1 w.2)
          (mathlib.Core.List.Memᴰ.append_cases (cond (weak && leb 3 (length path)) (c ∷ []) []) l)

  end-linked : (s z : ℕ) → Memᴰ s (hs g m d) → Memᴰ z (chain_ends g m d s) → Memᴰ z (hs g m d) × (is_linked (sums g m d) z ≡ true)
  end-linked s z k l = ends-linked 6 false [] s z k (λ t. absurd (true≢false (sym t))) l

  start-linked : (s z : ℕ) → Memᴰ s (hs g m d) → Memᴰ z (chain_ends g m d s) → is_linked (sums g m d) s ≡ true
  start-linked s z k l = go (is_linked (sums g m d) s) refl
    where
      go : (t : Bool) → is_linked (sums g m d) s ≡ t → is_linked (sums g m d) s ≡ true
      go true t = t
      go false t = absurd (mathlib.Core.List.Memᴰ.not-nil (subst (λ (xs : List ℕ). Memᴰ z xs) (unlinked-ends g m d k t 6 []) l))

  module _ (linked : List ℕ) (are : linked ≡ select (is_linked (sums g m d)) (hs g m d)) where
    abbrev ls : List ℕ
    ls = linked

    abbrev marks : ℕ → List Bool
    marks s = ends_of linked (sums g m d) s

    -- a holder that sees the start and a marked end
    abbrev catches : ℕ → ℕ → Bool
    catches s x = sees s x && list_any (end_sees (marks s) x) ls

    in-ls : {c : ℕ} → Memᴰ c ls → Memᴰ c (hs g m d) × (is_linked (sums g m d) c ≡ true)
    in-ls {c} k = mem-select (is_linked (sums g m d)) (hs g m d) c (subst (λ (l : List ℕ). Memᴰ c l) are k)

    ls-in : {c : ℕ} → Memᴰ c (hs g m d) → is_linked (sums g m d) c ≡ true → Memᴰ c ls
    ls-in {c} k t = subst (λ (l : List ℕ). Memᴰ c l) (sym are) (select-mem (is_linked (sums g m d)) (hs g m d) c k t)

    marked-end : (s z : ℕ) → Memᴰ s (hs g m d) → get_or (marks s) z false ≡ true → Memᴰ z (chain_ends g m d s)
    marked-end s z k t =
        subst (λ (l : List ℕ). Memᴰ z l) (ends-are g m d linked are 6 false [] s k)
        (⊎_elim (λ l. l) (λ e. absurd (true≢false (sym e ∙ unmarked z))) (mark-in (walk_ends linked (sums g m d) 6 false [] s) no_ends z t))
      where
        unmarked : (z : ℕ) → get_or no_ends z false ≡ false
        unmarked z = none 81 z
          where
            none : (n z : ℕ) → get_or (replicate n false) z false ≡ false
            none zero z = refl
            none (suc n) zero = refl
            none (suc n) (suc z) = none n z

    end_marked : (s z : ℕ) → Memᴰ s (hs g m d) → z < 81 → Memᴰ z (chain_ends g m d s) → get_or (marks s) z false ≡ true
    end_marked s z k h l =
        in-mark (walk_ends linked (sums g m d) 6 false [] s) no_ends z h
        (inl (subst (λ (l : List ℕ). Memᴰ z l) (sym (ends-are g m d linked are 6 false [] s k)) l))

    -- ---- what is caught

    caught-holder : (s x : ℕ) → Memᴰ s ls → catches s x ≡ true → caught g m d x ≡ true
    unfolding caught
    caught-holder s x k t =
        let a = in-ls k in
        let w = any-member (end_sees (marks s) x) ls (any-is (end_sees (marks s) x) ls ∙ both_right (sees s x) (list_any (end_sees (marks s) x) ls) t) in
        let r = seen w.0 (leb 81 w.0) refl w.2 in
        member-any (λ s. any (λ e. sees s x && sees e x) (chain_ends g m d s)) (select (holds g m d) cells) s a.0
        (member-any (λ e. sees s x && sees e x) (chain_ends g m d s) w.0 (marked-end s w.0 a.0 r.0) (both (both_left (sees s x) (list_any (end_sees (marks s) x) ls) t) r.1))
      where
        seen : (z : ℕ) (b : Bool) → leb 81 z ≡ b → cond b false (get_or (marks s) z false && sees z x) ≡ true → (get_or (marks s) z false ≡ true) × (sees z x ≡ true)
        seen z true e t = absurd (true≢false (sym t))
        seen z false e t = (both_left (get_or (marks s) z false) (sees z x) t, both_right (get_or (marks s) z false) (sees z x) t)

    holder-caught : (x : ℕ) → caught g m d x ≡ true → (s : ℕ) × Memᴰ s ls × (catches s x ≡ true)
    unfolding caught
    holder-caught x t = from (any-member (λ s. any (λ e. sees s x && sees e x) (chain_ends g m d s)) (select (holds g m d) cells) t)
      where
        from : (s : ℕ) × Memᴰ s (hs g m d) × (any (λ e. sees s x && sees e x) (chain_ends g m d s) ≡ true) → (s : ℕ) × Memᴰ s ls × (catches s x ≡ true)
        from (s, k, t) =
            let w = any-member (λ e. sees s x && sees e x) (chain_ends g m d s) t in
            let z = w.0 in
            let e = end-linked s z k w.1 in
            let h = (in-hs g m d e.0).0 in (
              s,
              ls-in k (start-linked s z k w.1),
              both (both_left (sees s x) (sees z x) w.2)
                  (member-any (end_sees (marks s) x) ls z (ls-in e.0 e.1)
                  (cond-false (leb 81 z) false (get_or (marks s) z false && sees z x) (lt-leb 81 z h) ∙ both (end_marked s z k h w.1) (both_right (sees s x) (sees z x) w.2))),
            )

    -- ---- what is lost

    -- the cells that lose the digit, start by start
    abbrev losers : List ℕ
    losers = for ls (λ s. select (catches s) (hs g m d))

    one-start : (s : ℕ) (n : List ℕ) → lose_from g (single d) (hs g m d) linked (sums g m d) s n ≡ each (λ x. lose_at (is_open g) x (single d)) (select (catches s) (hs g m d)) n
    unfolding lose_from
    one-start s n =
        each_same (lose_caught g (single d) ls s (marks s)) (λ x n. cond (catches s x) (lose_at (is_open g) x (single d) n) n) (hs g m d)
        (λ x k n. ap (λ (o : List ℕ). cond (catches s x) o n) (cond-true (ltb x 81) (lose_at (is_open g) x (single d) n) n (lt-ltb x 81 (in-hs g m d k).0))) n
        ∙ each-select (catches s) (λ x. lose_at (is_open g) x (single d)) (hs g m d) n

    abbrev after : List ℕ
    after = lose_all (is_open g) losers (λ x. single d) m

    abbrev loses : ℕ → ℕ
    loses x = cond (caught g m d x) (single d) 0

    to : (c j : ℕ) → Lost (is_open g) (λ x. single d) losers c j → Lost (is_open g) loses cells c j
    unfolding cells
    to c j l =
        let w = in-for ls (λ s. select (catches s) (hs g m d)) c l.listed in
        let k = mem-select (catches w.0) (hs g m d) c w.2 in
        record {
          listed = range-mem 81 0 c (omega arith) (omega (arith, (in-hs g m d k.0).0));
          free = l.free;
          digit = subst (λ (y : ℕ). Held y j) (sym (cond-true (caught g m d c) (single d) 0 (caught-holder w.0 c w.1 k.1))) l.digit;
        }

    from : (c j : ℕ) → Candidate m c j → Lost (is_open g) loses cells c j → Lost (is_open g) (λ x. single d) losers c j
    unfolding cells
    from c j held l = go (caught g m d c) refl l.digit
      where
        go : (t : Bool) → caught g m d c ≡ t → Held (cond t (single d) 0) j → Lost (is_open g) (λ x. single d) losers c j
        go true t q =
            let w = holder-caught c t in
            let e : j ≡ d = (held-power d j).0 q in
            let holder : Memᴰ c (hs g m d) = select-mem (holds g m d) cells c l.listed (both l.free (subst (λ (k : ℕ). Candidate m c k) e held)) in
            record {
              listed = for-in ls (λ s. select (catches s) (hs g m d)) w.0 c w.1 (select-mem (catches w.0) (hs g m d) c holder w.2);
              free = l.free;
              digit = q;
            }
        go false t q = absurd (none-held j q)

    lost-same : after ≡ x_chain_digit g d m
    unfolding x_chain_digit
    lost-same =
        ext_get_or 0 after (lose_all (is_open g) cells loses m) (all-length (is_open g) losers (λ x. single d) m ∙ sym (all-length (is_open g) cells loses m))
        (λ c h. held-ext (at after c) (at (lose_all (is_open g) cells loses m) c) (λ j.
        let p = lost-digits (is_open g) (λ x. single d) losers m c j in
        let q = lost-digits (is_open g) loses cells m c j in
        (λ t. let w = p.0 t in q.1 (w.0, λ l. w.1 (from c j w.0 l)), λ t. let w = q.0 t in p.1 (w.0, λ l. w.1 (to c j l)))))

    pub digit-is : each (lose_from g (single d) (hs g m d) linked (sums g m d)) ls m ≡ x_chain_digit g d m
    digit-is =
        each_same (lose_from g (single d) (hs g m d) linked (sums g m d)) (λ s. each (λ x. lose_at (is_open g) x (single d)) (select (catches s) (hs g m d))) ls (λ s k n. one-start s n) m
        ∙ sym (each-for (λ x. lose_at (is_open g) x (single d)) ls (λ s. select (catches s) (hs g m d)) m) ∙ lost-same

-- ---- the lists of the code: the holders, the units' sums and the linked cells

module _ (g m : List ℕ) (d : ℕ) (held ss linked : List ℕ) (eh : held ≡ hs g m d) (es : ss ≡ pair_sums held) (el : linked ≡ select (is_linked ss) held) where
  sums-are : ss ≡ sums g m d
  sums-are = es ∙ ap pair_sums eh

  linked-are : linked ≡ select (is_linked (sums g m d)) (hs g m d)
  linked-are = el ∙ (λ i. select (is_linked (sums-are i)) (eh i))

  pub linked-below : (j : ℕ) → j < length linked → at linked j < 81
  linked-below j h = (in-hs g m d (in-linked g m d linked linked-are j h)).0

  pub digit-over : {k : ℕ} → k ≡ single d → each (lose_from g k held linked ss) linked m ≡ x_chain_digit g d m
  digit-over {k} ek =
      ap (λ (k : ℕ). each (lose_from g k held linked ss) linked m) ek
      ∙ (λ i. each (lose_from g (single d) (eh i) linked (sums-are i)) linked m) ∙ digit-is g m d linked linked-are
