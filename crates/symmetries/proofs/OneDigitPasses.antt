-- Box-line, X-wing and both chain passes see and change one digit at a time. Assumes nothing.
use mathlib.Core.Path.{◌≡◌, refl, ◌∙◌}
use mathlib.Core.Logic.{◌≢◌}
use mathlib.Core.Bool.{Bool, true, false, cond, not, ◌&&◌, ◌||◌}
use mathlib.Core.List.{List, [], ◌∷◌, ◌++◌}
use mathlib.Core.Option.{Option, none, some}
use Prim.Native.Nat.{ℕ, zero, suc, ◌+◌}
use lib.Dec.{eqb, leb}
use lib.ListN.{length}
use Rattle.candidates.specs.Masks.{count, single, gather}
use Rattle.grid.specs.Cells.{row, col, box, sees, cells, peers}
use Rattle.grid.specs.Units.{unit, unit_cell, in_unit}
use Rattle.steps.specs.Boards.{is_open}
use Rattle.steps.specs.Chains.{or_else, first_some, on_path, two_of, weak_links, strong_links, elimination, enter, chain_end, lose_found, chain_digit, chains}
use Rattle.steps.specs.Instances.{line_of}
use Rattle.steps.specs.Loops.{each, for, first, select, all, any, up_to, above}
use Rattle.steps.specs.Ported.{holds, spots, is_box_line, box_line_at, box_lines, is_x_wing, x_wing_at, x_wing_digit, x_wings, first_across, second_across}
use Rattle.steps.specs.Steps.{lose_all}
use Rattle.steps.specs.XChains.{ends_from, caught, x_chain_digit, x_chains}
use Rattle.symmetries.specs.Changes.{Moves, OneToOne}
use Rattle.symmetries.proofs.OneDigit.{Same, same_self, unless_spared, others-stay, same-lost, when-keeps, when-same, each_two, each_same, Relabelled, OneDigit, digits-turn}

-- ---- what each turn leaves

wing-keeps : (g : List ℕ) (lines across d e : ℕ) (m : List ℕ) → e ≢ d → Same e e (x_wing_digit g lines across d m) m
unfolding x_wing_digit x_wing_at
wing-keeps g lines across d e m n =
    each_same _ e (up_to 9) (λ r. each_same _ e (above r 9)
    (λ s a. when-keeps (is_x_wing g m (lines + r) (lines + s) d) (others-stay (is_open g) _ (λ x. in_unit (lines + r) x || in_unit (lines + s) x) d e a n))) m

line-keeps : (g : List ℕ) (b d e : ℕ) (m : List ℕ) → e ≢ d → Same e e (each (λ k. box_line_at g (18 + b) (line_of b k) d) (up_to 6) m) m
unfolding box_line_at
line-keeps g b d e m n =
    each_same _ e (up_to 6) (λ k a. when-keeps (is_box_line g a (18 + b) (line_of b k) d) (others-stay (is_open g) (unit (line_of b k)) (in_unit (18 + b)) d e a n)) m

found-keeps : (g : List ℕ) (d e : ℕ) (m : List ℕ) → e ≢ d → (o : Option ℕ) → Same e e (lose_found g d m o) m
found-keeps g d e m n none = same_self e m
found-keeps g d e m n (some x) = unfold each in others-stay (is_open g) (x ∷ []) (λ _. false) d e m n

-- a cell that no chain catches is spared
spared-form : (g : List ℕ) (d : ℕ) (m : List ℕ) → x_chain_digit g d m ≡ lose_all (is_open g) cells (unless_spared (λ x. not (caught g m d x)) d) m
unfolding x_chain_digit
spared-form g d m i = lose_all (is_open g) cells (λ x. otherwise (caught g m d x) i) m
  where
    otherwise : (t : Bool) → cond t (single d) 0 ≡ cond (not t) 0 (single d)
    otherwise true = refl
    otherwise false = refl

x-chain-keeps : (g : List ℕ) (d e : ℕ) (m : List ℕ) → e ≢ d → Same e e (x_chain_digit g d m) m
x-chain-keeps g d e m n = rw (spared-form g d m) (others-stay (is_open g) cells (λ x. not (caught g m d x)) d e m n)

-- ---- on two boards with the same open cells, digit d of the one and e of the other

module _ (g h : List ℕ) (free : (c : ℕ) → is_open g c ≡ is_open h c) where
  module _ {d e : ℕ} {m n : List ℕ} (s : Same d e m n) where
    holds_same : (c : ℕ) → holds g m d c ≡ holds h n e c
    holds_same c i = free c i && s.held c i

    spots-same : (u : ℕ) → spots g m u d ≡ spots h n u e
    unfolding spots
    spots-same u i = gather (λ j. holds_same (unit_cell u j) i) 9

    weak-same : (c : ℕ) → weak_links g m d c ≡ weak_links h n e c
    unfolding weak_links
    weak-same c i = select (λ x. holds_same x i) (peers c)

    strong-same : (c : ℕ) → strong_links g m d c ≡ strong_links h n e c
    unfolding strong_links
    strong-same c i = for (row c ∷ (9 + col c) ∷ (18 + box c) ∷ []) λ u. select (λ x. not (eqb x c)) (two_of (select (λ x. holds_same x i) (unit u)))

    elimination-same : (a c : ℕ) → elimination g m d a c ≡ elimination h n e a c
    unfolding elimination
    elimination-same a c i = cond (sees a c) (first (λ x. sees a x && sees c x && holds_same x i) cells) none

    enter-same : (k a : ℕ) (weak : Bool) (path : List ℕ) (c : ℕ) → enter g m d k a weak path c ≡ enter h n e k a weak path c
    unfolding enter
    enter-same zero a weak path c = refl
    enter-same (suc k) a weak path c = λ i.
        cond (on_path c path) none
        (or_else (cond (leb 3 (length path)) (elimination-same a c i) none)
        (first_some (λ x. enter-same k a (not weak) (c ∷ path) x i) (cond weak (weak-same c i) (strong-same c i))))

    end_same : chain_end g m d ≡ chain_end h n e
    unfolding chain_end
    end_same i = first_some (λ a. enter-same 7 a true [] a i) (select (λ x. holds_same x i) cells)

    found-same : (o : Option ℕ) → Same d e (lose_found g d m o) (lose_found h e n o)
    found-same none = s
    found-same (some x) = unfold each in same-lost (is_open g) (is_open h) free (x ∷ []) (λ _. false) s

    line_same : (b k : ℕ) → Same d e (box_line_at g (18 + b) (line_of b k) d m) (box_line_at h (18 + b) (line_of b k) e n)
    unfolding box_line_at
    line_same b k =
        rw test (when-same (is_box_line h n (18 + b) (line_of b k) e) (same-lost (is_open g) (is_open h) free (unit (line_of b k)) (in_unit (18 + b)) s) s)
      where
        test : is_box_line g m (18 + b) (line_of b k) d ≡ is_box_line h n (18 + b) (line_of b k) e
        test i = leb 2 (count (spots-same (18 + b) i)) && all (λ x. not (holds_same x i) || in_unit (line_of b k) x) (unit (18 + b))

    ends_same : (k : ℕ) (weak : Bool) (path : List ℕ) (c : ℕ) → ends_from g m d k weak path c ≡ ends_from h n e k weak path c
    unfolding ends_from
    ends_same zero weak path c = refl
    ends_same (suc k) weak path c = λ i.
        cond (on_path c path) []
        (cond (weak && leb 3 (length path)) (c ∷ []) [] ++ for (cond weak (weak-same c i) (strong-same c i)) (λ x. ends_same k (not weak) (c ∷ path) x i))

    caught-same : (x : ℕ) → caught g m d x ≡ caught h n e x
    unfolding caught
    caught-same x i = any (λ a. any (λ f. sees a x && sees f x) (ends_same 6 false [] a i)) (select (λ y. holds_same y i) cells)

    x-chain-same : Same d e (x_chain_digit g d m) (x_chain_digit h e n)
    x-chain-same =
        let same : lose_all (is_open g) cells (unless_spared (λ x. not (caught g m d x)) d) m ≡ lose_all (is_open g) cells (unless_spared (λ x. not (caught h n e x)) d) m = λ i. lose_all (is_open g) cells (unless_spared (λ x. not (caught-same x i)) d) m in
        rw (spared-form g d m ∙ same, spared-form h e n)
        (same-lost (is_open g) (is_open h) free cells (λ x. not (caught h n e x)) s)

  -- o and p are the masks when the list was made
  wing-same : {d e : ℕ} {o p m n : List ℕ} → Same d e o p → Same d e m n → (across u v : ℕ) → Same d e (x_wing_at g o across d u v m) (x_wing_at h p across e u v n)
  unfolding x_wing_at
  wing-same {d} {e} {o} {p} {m} {n} q s across u v =
      rw (spots-same q u, spots-same q v)
      (when-same (eqb (count (spots h p u e)) 2 && eqb (spots h p u e) (spots h p v e))
      (same-lost (is_open g) (is_open h) free (unit (first_across across (spots h p u e)) ++ unit (second_across across (spots h p u e))) (λ x. in_unit u x || in_unit v x) s) s)

  -- ---- digit by digit

  wing-turns : (lines across : ℕ) → OneDigit (x_wing_digit g lines across) (x_wing_digit h lines across)
  unfolding x_wing_digit
  wing-turns lines across =
      record {
        keeps₁ = wing-keeps g lines across;
        keeps₂ = wing-keeps h lines across;
        turn = λ {d} {e} {m} {n} s. each_two _ _ (Same d e) (up_to 9) (λ r k. each_two _ _ (Same d e) (above r 9) (λ q l a b t. wing-same s t across (lines + r) (lines + q))) m n s;
      }

  line-turns : (b : ℕ) → OneDigit (λ d. each (λ k. box_line_at g (18 + b) (line_of b k) d) (up_to 6)) (λ d. each (λ k. box_line_at h (18 + b) (line_of b k) d) (up_to 6))
  line-turns b =
      record {
        keeps₁ = line-keeps g b;
        keeps₂ = line-keeps h b;
        turn = λ {d} {e} {m} {n} s. each_two _ _ (Same d e) (up_to 6) (λ k l a c t. line_same t b k) m n s;
      }

  chain-turns : OneDigit (chain_digit g) (chain_digit h)
  unfolding chain_digit
  chain-turns =
      record {
        keeps₁ = λ d e m n. found-keeps g d e m n (chain_end g m d);
        keeps₂ = λ d e m n. found-keeps h d e m n (chain_end h m d);
        turn = λ {d} {e} {m} {n} s. rw (end_same s) (found-same s (chain_end h n e));
      }

  x-chain-turns : OneDigit (x_chain_digit g) (x_chain_digit h)
  x-chain-turns = record { keeps₁ = x-chain-keeps g; keeps₂ = x-chain-keeps h; turn = λ s. x-chain-same s }

  -- ---- the passes

  module _ {f : Moves} (o : OneToOne 9 f) where
    pub box-lines-follow : (m n : List ℕ) → Relabelled f m n → Relabelled f (box_lines g m) (box_lines h n)
    unfolding box_lines
    box-lines-follow m n r = each_two _ _ (Relabelled f) (up_to 9) (λ b k a c t. digits-turn o (line-turns b) a c t) m n r

    pub x-wings-follow : (m n : List ℕ) → Relabelled f m n → Relabelled f (x_wings g m) (x_wings h n)
    unfolding x_wings
    x-wings-follow m n r = digits-turn o (wing-turns 9 0) _ _ (digits-turn o (wing-turns 0 9) m n r)

    pub chains-follow : (m n : List ℕ) → Relabelled f m n → Relabelled f (chains g m) (chains h n)
    unfolding chains
    chains-follow m n r = digits-turn o chain-turns m n r

    pub x-chains-follow : (m n : List ℕ) → Relabelled f m n → Relabelled f (x_chains g m) (x_chains h n)
    unfolding x_chains
    x-chains-follow m n r = digits-turn o x-chain-turns m n r
