-- Module 8 in plain words is met: `module8`, whose statement is specs/Wide.antt. Assumes nothing.
use mathlib.Core.Path.{◌≡◌, refl, sym, ◌∙◌, subst}
use mathlib.Core.Logic.{◌↔◌, inl, inr}
use mathlib.Core.Bool.{Bool, true, false, true≢false}
use mathlib.Core.List.{List, Memᴰ}
use Prim.Native.Nat.{ℕ, ◌+◌, ◌<◌}
use native.Mathlib.Omega.{arith}
use Rattle.grid.specs.Units.{unit_cell}
use Rattle.grid.proofs.Units.{at_place, cells-differ}
use Rattle.steps.specs.Boards.{is_open}
use Rattle.steps.specs.Instances.{Instance, lone, place, pair, pointing, claiming, cross, exchanged, both, line_of, box_of, step_of}
use Rattle.steps.specs.Passes.{Kind, instances, instance_taken, Settled}
use Rattle.steps.specs.Published.{Candidate, Without}
use Rattle.steps.specs.Steps.{applies}
use Rattle.steps.specs.Wide.{Condition, Loss, InWords, Removes, NoneRemoves, Module8}
use Rattle.steps.proofs.Conditions.{lone-applies, place-applies, pair-applies, locked-applies, cross-applies}
use Rattle.steps.proofs.Digits.{held_two}
use Rattle.steps.proofs.Effects.{lone-lost, place-lost, pair-lost, locked-lost, cross-lost}
use Rattle.steps.proofs.Instances.{Within, listed, line-below, box-below}
use Rattle.steps.proofs.Losses.{Lost, step-loses, without-same}
use Rattle.steps.proofs.Named.{line-meets, box-meets, Listed, lone-named, place-named, pair-named, pointing-named, claiming-named, cross-named}
use Rattle.steps.proofs.Taking.{left_alone}

-- ---- instances on given masks

module _ (g m : List ℕ) where
  -- from what a step reads and loses
  in_words : (x : Instance) → (applies (step_of x) m ≡ true) ↔ Condition m x → ((e d : ℕ) → Loss g x e d ↔ Lost (is_open g) (step_of x).loses (step_of x).hits e d) → InWords g m x
  in_words x test lost =
      record {
        test = test;
        loses = λ w. step-loses (is_open g) (step_of x) m (test.1 w) lost;
        keeps = λ n. kept n (applies (step_of x) m) refl;
      }
    where
      kept : ¬ (Condition m x) → (t : Bool) → applies (step_of x) m ≡ t → instance_taken g x m ≡ m
      kept n true t = absurd (n (test.0 t))
      kept n false t = sym (left_alone (is_open g) (step_of x) m t)

  lone-words : (c d : ℕ) → c < 81 → d < 9 → InWords g m (lone c d)
  unfolding step_of
  lone-words c d hc hd = in_words (lone c d) (lone-applies m c d) (lone-lost g c d hc)

  place-words : (u d i : ℕ) → u < 27 → d < 9 → i < 9 → InWords g m (place u d i)
  unfolding step_of
  place-words u d i hu hd hi = in_words (place u d i) (place-applies m u d (unit_cell u i) hu) (place-lost g u d (unit_cell u i))

  pair-words : (u i j a b : ℕ) → u < 27 → i < j → j < 9 → a < b → b < 9 → InWords g m (pair u i j a b)
  unfolding step_of
  pair-words u i j a b hu ij hj ab hb =
      in_words (pair u i j a b) (pair-applies m u (unit_cell u i) (unit_cell u j) a b)
      (pair-lost g (unit_cell u i) (unit_cell u j) (both a b) hu (held_two a b))

  pointing-words : (b d k : ℕ) → b < 9 → d < 9 → k < 6 → InWords g m (pointing b d k)
  unfolding step_of
  pointing-words b d k hb hd hk =
      in_words (pointing b d k) (locked-applies m (18 + b) (line_of b k) d (omega arith) (line-below b k hb hk))
      (locked-lost g (omega arith) (line-below b k hb hk) d)

  claiming-words : (l d k : ℕ) → l < 18 → d < 9 → k < 3 → InWords g m (claiming l d k)
  unfolding step_of
  claiming-words l d k hl hd hk =
      in_words (claiming l d k) (locked-applies m l (box_of l k) d (omega arith) (box-below l k hl hk))
      (locked-lost g (omega arith) (box-below l k hl hk) d)

  cross-words : (d r s a b : ℕ) → d < 9 → r < s → s < 9 → a < b → b < 9 → InWords g m (cross d r s a b)
  unfolding step_of
  cross-words d r s a b hd rs hs ab hb =
      in_words (cross d r s a b) (cross-applies m d r s (9 + a) (9 + b) (omega arith) (omega arith) (omega arith) (omega arith))
      (cross-lost g (omega arith) (omega arith) (omega arith) (omega arith) (inl (refl, refl)) d)

  exchanged-words : (d a b r s : ℕ) → d < 9 → a < b → b < 9 → r < s → s < 9 → InWords g m (exchanged d a b r s)
  unfolding step_of
  exchanged-words d a b r s hd ab hb rs hs =
      in_words (exchanged d a b r s) (cross-applies m d (9 + a) (9 + b) r s (omega arith) (omega arith) (omega arith) (omega arith))
      (cross-lost g (omega arith) (omega arith) (omega arith) (omega arith) (inl (refl, refl)) d)

  pub words : (k : Kind) (x : Instance) → Memᴰ x (instances k) → InWords g m x
  words =
      listed (InWords g m) (record {
        on_lone = lone-words;
        on_place = place-words;
        on_pair = pair-words;
        on_pointing = pointing-words;
        on_claiming = claiming-words;
        on_cross = cross-words;
        on_exchanged = exchanged-words;
      })

  -- ---- settled masks

  -- where an instance applies, it would remove nothing
  abbrev Idle : Type 0 → (ℕ → ℕ → Type 0) → Type 0
  Idle condition loss = condition → ¬ (Removes m loss)

  -- an instance leaves the masks exactly if it is idle
  still-idle : (k : Kind) (x : Instance) → Memᴰ x (instances k) → (instance_taken g x m ≡ m) ↔ Idle (Condition m x) (Loss g x)
  still-idle k x l = (
    λ e w r. (((p.loses w).left r.cell r.digit).0 (subst (λ (n : List ℕ). Candidate n r.cell r.digit) (sym e) r.held)).1 r.lost,
    λ f. back f (applies (step_of x) m) refl,
  )
    where
      p : InWords g m x
      p = words k x l

      -- masks without what they do not hold
      same : ¬ (Removes m (Loss g x)) → Without m (Loss g x) m
      same n = record { size = refl; left = λ c d. (λ h. (h, λ l. n (record { cell = c; digit = d; held = h; lost = l })), λ w. w.0) }

      back : Idle (Condition m x) (Loss g x) → (t : Bool) → applies (step_of x) m ≡ t → instance_taken g x m ≡ m
      back f true t =
          let w = p.test.0 t in
          without-same (p.loses w) (same (f w))
      back f false t = p.keeps (λ w. true≢false (sym (p.test.1 w) ∙ t))

  none-settled : NoneRemoves g m → Settled g m
  none-settled n = record { still = λ k x l. (still-idle k x l).1 (listed (λ x. Idle (Condition m x) (Loss g x)) idle k x l) }
    where
      idle : Within (λ x. Idle (Condition m x) (Loss g x))
      idle =
          record {
            on_lone = λ c d hc hd. n.on_lone c d hc hd;
            on_place = λ u d i hu hd hi. n.on_place u d (unit_cell u i) hu hd (at_place u i hi);
            on_pair = λ u i j a b hu ij hj ab hb.
                n.on_pair u (unit_cell u i) (unit_cell u j) a b hu (at_place u i (omega arith)) (at_place u j hj)
                (cells-differ u i j hu (omega arith) hj (omega arith)) (omega arith) hb (omega arith);
            on_pointing = λ b d k hb hd hk. n.on_pointing (18 + b) (line_of b k) d (line-meets b k hb hk) hd;
            on_claiming = λ l d k hl hd hk. n.on_claiming l (box_of l k) d (box-meets l k hl hk) hd;
            on_cross = λ d r s a b hd rs hs ab hb. n.on_cross r s (9 + a) (9 + b) d (record { lines = inl (omega arith); apart₁ = omega arith; apart₂ = omega arith }) hd;
            on_exchanged = λ d a b r s hd ab hb rs hs. n.on_cross (9 + a) (9 + b) r s d (record { lines = inr (omega arith); apart₁ = omega arith; apart₂ = omega arith }) hd;
          }

  settled-none : Settled g m → NoneRemoves g m
  settled-none s =
      record {
        on_lone = λ c d hc hd. idle (lone-named g m c d hc hd);
        on_place = λ u d c hu hd p. idle (place-named g m u d c hu hd p);
        on_pair = λ u c e a b hu p q n ha hb ab. idle (pair-named g m u c e a b hu p q n ha hb ab);
        on_pointing = λ u v d w hd. idle (pointing-named g m u v d w hd);
        on_claiming = λ u v d w hd. idle (claiming-named g m u v d w hd);
        on_cross = λ u v x y d w hd. idle (cross-named g m u v x y d w hd);
      }
    where
      idle : {A : Type 0} {l : ℕ → ℕ → Type 0} → Listed g m A l → Idle A l
      idle n w r =
          (still-idle n.kind n.instance n.listed).0 (s.still n.kind n.instance n.listed) (n.when w)
          (record { cell = r.cell; digit = r.digit; held = r.held; lost = (n.what r.cell r.digit).0 r.lost })

pub module8 : Module8
module8 = record { instance = λ k x l g m. words g m k x l; settled = λ g m. (settled-none g m, none-settled g m) }
