-- Why no clue cell of a unit holds what an open cell of it holds. Assumes nothing.
use mathlib.Core.Path.{◌≡◌, refl, sym, ap, ◌∙◌, subst}
use mathlib.Core.Bool.{Bool, true, false, true≢false}
use mathlib.Core.List.{List}
use Prim.Native.Nat.{ℕ, ◌<◌}
use Rattle.candidates.proofs.Held.{Held, held-sub}
use Rattle.grid.specs.Units.{Member}
use Rattle.grid.proofs.Cells.{share-sees}
use Rattle.grid.proofs.Units.{member_below, member-in}
use Rattle.steps.specs.Boards.{is_open, Givens, Admissible}
use Rattle.steps.specs.Published.{Open, Candidate, Holder}
use Rattle.steps.proofs.FreshDigits.{fresh-open, fresh-clue}

-- Where an open cell of a unit holds d, every cell of it that holds d is open.
pub holder-open : (g : List ℕ) → Givens g → (m : List ℕ) → Admissible g m → (u d : ℕ) → u < 27 → {c e : ℕ} → Member u c → Holder g m d c → Member u e → Candidate m e d → Holder g m d e
holder-open g ok m ad u d within {c} {e} p h q t = record { free = go (is_open g e) refl; held = t }
  where
    go : (o : Bool) → is_open g e ≡ o → Open g e
    go true o = o
    go false o =
        absurd (((fresh-open g ok c d (member_below within p) h.free).0 (held-sub d (ad.under.at c) h.held)).unseen e (member_below within q)
        (share-sees u c e within (λ s. true≢false (sym h.free ∙ ap (is_open g) s ∙ o)) (member-in within p) (member-in within q))
        ((fresh-clue g ok e d (member_below within q) o).0 (subst (λ (x : ℕ). Held x d) (ad.clues e o) t)))
