-- The X-chain pass costs no correct filling: of the two ends of a chain one has the digit, in every filling inside admissible masks. Assumes nothing.
use mathlib.Core.Path.{◌≡◌, sym, ap, ◌∙◌, subst}
use mathlib.Core.Logic.{◌≢◌, ◌⊎◌, inl, inr, ⊎_elim}
use mathlib.Core.List.{List}
use Prim.Native.Nat.{ℕ, ◌-◌, ◌<◌}
use native.Mathlib.Omega.{arith}
use lib.ListN.{length}
use Rattle.candidates.proofs.Held.{Held}
use Rattle.grid.specs.Units.{ShareUnit}
use Rattle.grid.proofs.Units.{member_below}
use Rattle.steps.specs.Boards.{at, Givens, Admissible}
use Rattle.steps.specs.Loops.{up_to}
use Rattle.steps.specs.XChains.{StrongLink, WeakLink, XChain, XChainLoss, x_chain_digit, x_chains}
use Rattle.steps.proofs.Fillings.{Filling, Inside}
use Rattle.steps.proofs.Holders.{holder-open}
use Rattle.steps.proofs.Loops.{each_keeps, in-up_to}
use Rattle.steps.proofs.XChains.{digit-loses, digit-admissible}

module _ (g : List ℕ) (ok : Givens g) (p : ℕ → ℕ) (F : Filling p) where
  apart : {d c e : ℕ} → ShareUnit c e → p c ≡ d → p e ≢ d
  apart s q r = F.once s.shared _ _ s.within s.first s.second s.different (q ∙ sym r)

  module _ (m : List ℕ) (a : Admissible g m) (inside : Inside p m) (d : ℕ) (hd : d < 9) where
    -- the unit's cell with the digit is open, since another open cell of it holds the digit, and so is one of the two
    strong-takes : {c e : ℕ} → StrongLink g m d c e → (p c ≡ d) ⊎ (p e ≡ d)
    strong-takes l =
        let s = l.two in
        let w = F.every s.shared d s.within hd in
        let held = subst (λ (k : ℕ). Held (at m w.0) k) w.2 (inside w.0 (member_below s.within w.1)) in
        ⊎_elim (λ q. inl (ap p (sym q) ∙ w.2)) (λ q. inr (ap p (sym q) ∙ w.2))
        (l.alone w.0 w.1 (holder-open g ok m a s.shared d s.within s.first l.holder₁ w.1 held))

    -- two links further
    on : {s c e f : ℕ} → (p s ≡ d) ⊎ (p c ≡ d) → WeakLink g m d c e → StrongLink g m d e f → (p s ≡ d) ⊎ (p f ≡ d)
    on t w l = ⊎_elim (λ q. inl q) (λ q. ⊎_elim (λ r. absurd (apart w.two q r)) (λ r. inr r) (strong-takes l)) t

    chain-takes : (cs : List ℕ) → XChain g m d cs → (p (at cs 0) ≡ d) ⊎ (p (at cs (length cs - 1)) ≡ d)
    chain-takes cs x =
        ⊎_elim
        (λ n. subst (λ (k : ℕ). (p (at cs 0) ≡ d) ⊎ (p (at cs (k - 1)) ≡ d)) (sym n)
        (on (strong-takes (x.strong 0 (omega (arith, n)))) (x.weak 0 (omega (arith, n))) (x.strong 1 (omega (arith, n)))))
        (λ n. subst (λ (k : ℕ). (p (at cs 0) ≡ d) ⊎ (p (at cs (k - 1)) ≡ d)) (sym n)
        (on (on (strong-takes (x.strong 0 (omega (arith, n)))) (x.weak 0 (omega (arith, n))) (x.strong 1 (omega (arith, n)))) (x.weak 1 (omega (arith, n))) (x.strong 2 (omega (arith, n)))))
        x.size

    -- so a cell that sees both has another
    not-lost : (c : ℕ) → ¬ (XChainLoss g m d c (p c))
    not-lost c l = ⊎_elim (λ q. apart l.start q l.digit) (λ q. apart l.end q l.digit) (chain-takes l.chain l.is)

    digit-keeps : Inside p (x_chain_digit g d m)
    digit-keeps c h = ((digit-loses g m d).left c (p c)).1 (inside c h, not-lost c)

  pub x-chains-keep : (m : List ℕ) → Admissible g m → Inside p m → Inside p (x_chains g m)
  unfolding x_chains
  x-chains-keep m a i =
      (each_keeps (x_chain_digit g) (λ n. Admissible g n × Inside p n) (up_to 9)
      (λ d k n w. (digit-admissible g n d w.0, digit-keeps n w.0 w.1 d (in-up_to 9 d k))) m (a, i)).1
