-- Masks in other clothes: what they hold, their order, and the change undone. Assumes nothing.
use mathlib.Core.Path.{◌≡◌, sym, ap, ◌∙◌, subst}
use mathlib.Core.List.{List}
use Prim.Native.Nat.{ℕ, ◌≤◌, ◌<◌}
use native.Mathlib.Decide.{dec_lt}
use native.Mathlib.Omega.{arith}
use lib.ListN.{length, get_or-eq_default}
use lib.Seq.{ext_get_or}
use Rattle.candidates.specs.Masks.{has}
use Rattle.candidates.proofs.Held.{Held, none-held, held-ext, held_below, held-sub, sub_held, has-gather}
use Rattle.candidates.proofs.Membership.{gather-lt}
use Rattle.grid.proofs.Cells.{at_cells, past-cells, cells-size}
use Rattle.steps.specs.Boards.{at, is_open, Under}
use Rattle.symmetries.specs.Changes.{Change, Symmetry, chained, relabelled_mask, changed_masks}
use Rattle.symmetries.proofs.Moves.{undone_change, symmetry-undone}

-- 81 masks of nine digits
pub record Nine (m : List ℕ) : Type 0 where
  pub size : length m ≡ 81
  pub small : (c : ℕ) → at m c < 512

module _ {m : List ℕ} (k : Nine m) where
  pub nine-out : (c : ℕ) → 81 ≤ c → at m c ≡ 0
  nine-out c h = get_or-eq_default m 0 {n = c} (omega (arith, k.size))

  pub nine-in : (c d : ℕ) → Held (at m c) d → (c < 81) × (d < 9)
  nine-in c d t = (go (dec_lt c 81), held_below (at m c) 9 d (k.small c) t)
    where
      go : Dec (c < 81) → c < 81
      go (yes h) = h
      go (no h) = absurd (none-held d (subst (λ (x : ℕ). Held x d) (nine-out c (omega arith)) t))

-- they are what they hold
pub nine-ext : {m n : List ℕ} → Nine m → Nine n → ((c d : ℕ) → c < 81 → d < 9 → has (at m c) d ≡ has (at n c) d) → m ≡ n
nine-ext {m} {n} p q same =
    ext_get_or 0 m n (p.size ∙ sym q.size) (λ c h. held-ext (at m c) (at n c) (λ d. (
      λ t. let i = nine-in p c d t in sym (same c d i.0 i.1) ∙ t,
      λ t. let i = nine-in q c d t in same c d i.0 i.1 ∙ t,
    )))

module _ (w : Change) (m : List ℕ) where
  pub changed-at : (c : ℕ) → c < 81 → at (changed_masks w m) c ≡ relabelled_mask w.digits (at m (w.cells.from c))
  unfolding changed_masks
  changed-at c h = at_cells 0 (λ c. relabelled_mask w.digits (at m (w.cells.from c))) c h

  pub changed-out : (c : ℕ) → 81 ≤ c → at (changed_masks w m) c ≡ 0
  unfolding changed_masks
  changed-out c h = past-cells 0 (λ c. relabelled_mask w.digits (at m (w.cells.from c))) c h

  pub changed-has : (c d : ℕ) → c < 81 → d < 9 → has (at (changed_masks w m) c) d ≡ has (at m (w.cells.from c)) (w.digits.from d)
  changed-has c d h k = ap (λ (x : ℕ). has x d) (changed-at c h) ∙ has-gather (λ d. has (at m (w.cells.from c)) (w.digits.from d)) 9 d k

  pub changed-nine : Nine (changed_masks w m)
  unfolding changed_masks
  changed-nine = record { size = cells-size (λ c. relabelled_mask w.digits (at m (w.cells.from c))); small = λ c. go c (dec_lt c 81) }
    where
      go : (c : ℕ) → Dec (c < 81) → at (changed_masks w m) c < 512
      go c (yes h) = rw (changed-at c h) (gather-lt (λ d. has (at m (w.cells.from c)) (w.digits.from d)) 9)
      go c (no h) = rw (changed-out c (omega arith)) (omega arith)

pub changed-under : (w : Change) {m n : List ℕ} → Under m n → Under (changed_masks w m) (changed_masks w n)
changed-under w {m} {n} u =
    record {
      at = λ c. sub_held (at (changed_masks w m) c) (at (changed_masks w n) c) (λ d k.
          let h = nine-in (changed-nine w m) c d k in
          changed-has w n c d h.0 h.1 ∙ held-sub (w.digits.from d) (u.at (w.cells.from c)) (sym (changed-has w m c d h.0 h.1) ∙ k));
    }

module _ {w : Change} (s : Symmetry w) where
  pub changed-back : {m : List ℕ} → Nine m → changed_masks (undone_change w) (changed_masks w m) ≡ m
  changed-back {m} k =
      nine-ext (changed-nine (undone_change w) (changed_masks w m)) k (λ c d h l.
      changed-has (undone_change w) (changed_masks w m) c d h l ∙ changed-has w m (w.cells.to c) (w.digits.to d) (s.cells.to c h) (s.digits.to d l)
      ∙ (λ i. has (at m (s.cells.back c h i)) (s.digits.back d l i)))

pub changed-forth : {w : Change} → Symmetry w → {m : List ℕ} → Nine m → changed_masks w (changed_masks (undone_change w) m) ≡ m
changed-forth {w} s {m} k = changed-back (symmetry-undone s) k

pub changed_then : (v w : Change) → Symmetry v → Symmetry w → (m : List ℕ) → changed_masks (chained v w) m ≡ changed_masks w (changed_masks v m)
changed_then v w s t m =
    nine-ext (changed-nine (chained v w) m) (changed-nine w (changed_masks v m)) (λ c d h k.
    changed-has (chained v w) m c d h k ∙ sym (changed-has v m (w.cells.from c) (w.digits.from d) (t.cells.from c h) (t.digits.from d k))
    ∙ sym (changed-has w (changed_masks v m) c d h k))

-- h and n are the givens g and the masks m in other clothes, as far as a wide pass sees
pub record Worn (w : Change) (g m h n : List ℕ) : Type 0 where
  pub free : (c : ℕ) → c < 81 → is_open h (w.cells.to c) ≡ is_open g c
  pub held : (c d : ℕ) → c < 81 → d < 9 → has (at n (w.cells.to c)) (w.digits.to d) ≡ has (at m c) d

module _ {w : Change} (s : Symmetry w) where
  pub worn-by : (g h m : List ℕ) → ((c : ℕ) → c < 81 → is_open h c ≡ is_open g (w.cells.from c)) → Worn w g m h (changed_masks w m)
  worn-by g h m free =
      record {
        free = λ c l. free (w.cells.to c) (s.cells.to c l) ∙ ap (is_open g) (s.cells.back c l);
        held = λ c d l k. changed-has w m (w.cells.to c) (w.digits.to d) (s.cells.to c l) (s.digits.to d k) ∙ (λ i. has (at m (s.cells.back c l i)) (s.digits.back d k i));
      }

  pub worn-off : {g m h n : List ℕ} → Worn w g m h n → Worn (undone_change w) h n g m
  worn-off {g} {m} {h} {n} p =
      record {
        free = λ c l. sym (p.free (w.cells.from c) (s.cells.from c l)) ∙ ap (is_open h) (s.cells.forth c l);
        held = λ c d l k. sym (p.held (w.cells.from c) (w.digits.from d) (s.cells.from c l) (s.digits.from d k)) ∙ (λ i. has (at n (s.cells.forth c l i)) (s.digits.forth d k i));
      }
