-- The fresh masks are those of the rules: a clue cell holds its digit, an open cell those that no cell that it sees is given. Assumes nothing.
use mathlib.Core.Path.{◌≡◌, refl, sym, ◌∙◌, subst}
use mathlib.Core.Logic.{◌⊎◌, ◌↔◌, inr, ⊎_elim}
use mathlib.Core.Bool.{Bool, true, false}
use mathlib.Core.List.{List, Memᴰ}
use Prim.Native.Nat.{ℕ, suc, ◌-◌, ◌^◌, ◌<◌}
use native.Mathlib.Omega.{arith}
use borrow.Author.Tests.{eqb-true, eqb-false}
use lib.Dec.{lit<}
use lib.Seq.{ext_get_or}
use Rattle.candidates.specs.Masks.{union, minus, place_mask}
use Rattle.candidates.proofs.Membership.{place-single}
use Rattle.candidates.proofs.Tests.{cond-true, cond-false}
use Rattle.grid.specs.Cells.{sees, peers}
use Rattle.grid.proofs.Cells.{peer-sees, sees-peer}
use Rattle.grid.proofs.Unions.{held-gathered}
use Rattle.steps.specs.Boards.{at, given, is_open, given_mask, taken, fresh, Givens}
use Rattle.steps.specs.Loops.{each}
use Rattle.steps.specs.Published.{Candidate, FreshCandidate, FreshMasks}
use Rattle.candidates.proofs.Held.{Held, none-held, held_below, held_all, held-power, held-minus, held-ext}
use Rattle.steps.proofs.Fresh.{fresh-length, fresh_at_lem}

module _ (g : List ℕ) (ok : Givens g) where
  -- the mask of a given digit
  pub held-given : (c d : ℕ) → Held (given_mask g c) d ↔ (given g c ≡ suc d)
  held-given c d = go (is_open g c) refl
    where
      go : (b : Bool) → is_open g c ≡ b → Held (given_mask g c) d ↔ (given g c ≡ suc d)
      go true e = (
        λ t. absurd (none-held d (subst (λ (x : ℕ). Held x d) (cond-true (is_open g c) 0 (place_mask (given g c - 1)) e) t)),
        λ q. absurd (zero-suc (given g c) (eqb-true (given g c) 0 e) q),
      )
        where
          zero-suc : (n : ℕ) → n ≡ 0 → n ≡ suc d → ⊥
          zero-suc n p q = omega arith
      go false e = (
        λ t. back ((held-power (given g c - 1) d).0 (subst (λ (x : ℕ). Held x d) mask t)),
        λ q. subst (λ (x : ℕ). Held x d) (sym mask) ((held-power (given g c - 1) d).1 (omega arith)),
      )
        where
          mask : given_mask g c ≡ 2 ^ (given g c - 1)
          mask =
              cond-false (is_open g c) 0 (place_mask (given g c - 1)) e
              ∙ place-single (given g c - 1) (omega (arith, ok.small c))

          back : d ≡ given g c - 1 → given g c ≡ suc d
          back q = omega (arith, eqb-false (given g c) 0 e)

  held-taken : (c d : ℕ) → Held (taken g c) d ↔ ((e : ℕ) × (e < 81) × (sees c e ≡ true) × (given g e ≡ suc d))
  unfolding taken
  held-taken c d = (λ t. ⊎_elim (λ z. absurd (none-held d z)) (λ w. seen w.0 w.1 w.2) (all.0 t), λ w. all.1 (inr (w.0, sees-peer c w.0 w.1 w.2, (held-given w.0 d).1 w.3)))
    where
      all : Held (each (λ e k. union k (given_mask g e)) (peers c) 0) d ↔ (Held 0 d ⊎ ((e : ℕ) × Memᴰ e (peers c) × Held (given_mask g e) d))
      all = held-gathered (given_mask g) (peers c) 0 d

      seen : (e : ℕ) → Memᴰ e (peers c) → Held (given_mask g e) d → (e : ℕ) × (e < 81) × (sees c e ≡ true) × (given g e ≡ suc d)
      seen e k t = (e, (peer-sees c e k).0, (peer-sees c e k).1, (held-given e d).0 t)

  -- the digits that are not taken
  held-rest : (c d : ℕ) → Held (minus 511 (taken g c)) d ↔ ((d < 9) × ¬ (Held (taken g c) d))
  held-rest c d = (λ t. down ((held-minus 511 (taken g c) d).0 t), λ w. (held-minus 511 (taken g c) d).1 (held_all d w.0, w.1))
    where
      down : Held 511 d × ¬ (Held (taken g c) d) → (d < 9) × ¬ (Held (taken g c) d)
      down w = (held_below 511 9 d (lit< tt) w.0, w.1)

  pub fresh-clue : (c d : ℕ) → c < 81 → is_open g c ≡ false → Candidate (fresh g) c d ↔ (given g c ≡ suc d)
  fresh-clue c d h f = subst (λ (x : ℕ). Held x d ↔ (given g c ≡ suc d)) (sym (fresh_at_lem g c h ∙ cond-false (is_open g c) (minus 511 (taken g c)) (given_mask g c) f)) (held-given c d)

  pub fresh-open : (c d : ℕ) → c < 81 → is_open g c ≡ true → Candidate (fresh g) c d ↔ FreshCandidate g c d
  fresh-open c d h f = subst (λ (x : ℕ). Held x d ↔ FreshCandidate g c d) (sym (fresh_at_lem g c h ∙ cond-true (is_open g c) (minus 511 (taken g c)) (given_mask g c) f))
      (λ t. down ((held-rest c d).0 t), λ w. (held-rest c d).1 (w.digit, λ t. up w ((held-taken c d).0 t)))
    where
      down : (d < 9) × ¬ (Held (taken g c) d) → FreshCandidate g c d
      down w = record { digit = w.0; unseen = λ e k s q. w.1 ((held-taken c d).1 (e, k, s, q)) }

      up : FreshCandidate g c d → ((e : ℕ) × (e < 81) × (sees c e ≡ true) × (given g e ≡ suc d)) → ⊥
      up w s = w.unseen s.0 s.1 s.2 s.3

  fresh_meets : FreshMasks g (fresh g)
  fresh_meets = record { size = fresh-length g; open_cells = fresh-open; clue_cells = fresh-clue }

  -- the rules leave one choice of masks
  fresh-same : {m n : List ℕ} → FreshMasks g m → FreshMasks g n → m ≡ n
  fresh-same {m} {n} p q = ext_get_or 0 m n (p.size ∙ sym q.size) (λ c h. held-ext (at m c) (at n c) (λ d. go c d (omega (arith, p.size)) (is_open g c) refl))
    where
      go : (c d : ℕ) → c < 81 → (b : Bool) → is_open g c ≡ b → Held (at m c) d ↔ Held (at n c) d
      go c d h true e = (λ t. (q.open_cells c d h e).1 ((p.open_cells c d h e).0 t), λ t. (p.open_cells c d h e).1 ((q.open_cells c d h e).0 t))
      go c d h false e = (λ t. (q.clue_cells c d h e).1 ((p.clue_cells c d h e).0 t), λ t. (p.clue_cells c d h e).1 ((q.clue_cells c d h e).0 t))

  pub fresh-masks : (n : List ℕ) → FreshMasks g n ↔ (n ≡ fresh g)
  fresh-masks n = (λ p. fresh-same p fresh_meets, λ e. subst (FreshMasks g) (sym e) fresh_meets)
