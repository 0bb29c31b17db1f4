-- Settled masks are settled in other clothes, and settling follows: it leaves the greatest settled masks below its own. Assumes nothing.
use mathlib.Core.Path.{◌≡◌, sym, ap, ◌∙◌, subst}
use mathlib.Core.Logic.{◌⊎◌, inl, inr, ⊎_elim}
use mathlib.Core.Bool.{true}
use mathlib.Core.List.{List}
use Prim.Native.Nat.{ℕ, ◌<◌}
use native.Mathlib.Omega.{arith}
use Rattle.grid.specs.Units.{Member}
use Rattle.grid.proofs.Units.{member_below}
use Rattle.steps.specs.Boards.{is_open, Under}
use Rattle.steps.specs.Passes.{Settled, settle}
use Rattle.steps.specs.Published.{Candidate, NakedPairLoss, LockedLoss, Crossing, XWingLoss}
use Rattle.steps.specs.Wide.{LoneCell, LoneLoss, OnlyPlace, PlaceLoss, PairCells, Locked, CrossCells, Removes, NoneRemoves}
use Rattle.steps.proofs.ListTheorem.{SettlingEnds}
use Rattle.steps.proofs.Masks.{under-trans, under-eq, under-antisym}
use Rattle.steps.proofs.Wide.{module8}
use Rattle.symmetries.specs.Changes.{Change, Symmetry, changed_masks}
use Rattle.symmetries.proofs.Changed.{Nine, changed-nine, changed-under, changed-back, changed-forth, Worn, worn-by, worn-off}
use Rattle.symmetries.proofs.Incidence.{member-to, share-to, meets-to, crossing-to}
use Rattle.symmetries.proofs.Moves.{undone_change, symmetry-undone, comes, same-to}

module _ {w : Change} (s : Symmetry w) {g m h n : List ℕ} (p : Worn w g m h n) where
  -- ---- what is read: a candidate of m is one of n

  candidate-to : (c d : ℕ) → c < 81 → d < 9 → Candidate m c d → Candidate n (w.cells.to c) (w.digits.to d)
  candidate-to c d hc hd k = p.held c d hc hd ∙ k

  -- of a digit that is named by what it becomes
  candidate-at : (e d : ℕ) → e < 81 → d < 9 → Candidate m e (w.digits.from d) → Candidate n (w.cells.to e) d
  candidate-at e d he hd k = subst (Candidate n (w.cells.to e)) (s.digits.forth d hd) (candidate-to e (w.digits.from d) he (s.digits.from d hd) k)

  -- and of a cell
  candidate-in : (c a : ℕ) → c < 81 → a < 9 → Candidate m (w.cells.from c) a → Candidate n c (w.digits.to a)
  candidate-in c a hc ha k = subst (λ (x : ℕ). Candidate n x (w.digits.to a)) (s.cells.forth c hc) (candidate-to (w.cells.from c) a (s.cells.from c hc) ha k)

  -- a cell of a unit that is named by what it becomes
  member-at : {u e : ℕ} → u < 27 → Member (w.units.from u) e → Member u (w.cells.to e)
  member-at {u} {e} hu k = subst (λ (v : ℕ). Member v (w.cells.to e)) (s.units.forth u hu) (member-to s (s.units.from u hu) k)

  off : {u e : ℕ} → u < 27 → Member u e → Member (w.units.from u) (w.cells.from e)
  off hu k = member-to (symmetry-undone s) hu k

  -- a cell whose image lies in a unit
  back_in : {u e : ℕ} → u < 27 → e < 81 → Member u (w.cells.to e) → Member (w.units.from u) e
  back_in {u} {e} hu he k = subst (Member (w.units.from u)) (s.cells.back e he) (off hu k)

  -- ---- what would be removed: a candidate of n is one of m

  removes : {lost gone : ℕ → ℕ → Type 0} → ((x k : ℕ) → gone x k → (x < 81) × (k < 9) × lost (w.cells.from x) (w.digits.from k)) → Removes n gone → Removes m lost
  removes f r =
      let v = f r.cell r.digit r.lost in
      record { cell = w.cells.from r.cell; digit = w.digits.from r.digit; held = (worn-off s p).held r.cell r.digit v.0 v.1 ∙ r.held; lost = v.2 }

  free_off : (x : ℕ) → x < 81 → is_open h x ≡ true → is_open g (w.cells.from x) ≡ true
  free_off x hx f = (worn-off s p).free x hx ∙ f

  is_lt : {k d : ℕ} → d < 9 → k ≡ d → k < 9
  is_lt {k} {d} hd e = subst (λ (x : ℕ). x < 9) (sym e) hd

  -- two digits
  either-off : {a b : ℕ} (k : ℕ) → (k ≡ a) ⊎ (k ≡ b) → (w.digits.from k ≡ w.digits.from a) ⊎ (w.digits.from k ≡ w.digits.from b)
  either-off k = ⊎_elim (λ e. inl (ap w.digits.from e)) (λ e. inr (ap w.digits.from e))

  pub none-follows : NoneRemoves g m → NoneRemoves h n
  none-follows z =
      record {
        on_lone = λ c d hc hd k r. z.on_lone (w.cells.from c) (w.digits.from d) (s.cells.from c hc) (s.digits.from d hd) (lone c d hc k) (removes (lone-off c d hd) r);
        on_place = λ u d c hu hd m k r. z.on_place (w.units.from u) (w.digits.from d) (w.cells.from c) (s.units.from u hu) (s.digits.from d hd) (off hu m) (place u d c hu hd k) (removes (place-off d c (member_below hu m) hd) r);
        on_pair = λ u c e a b hu i j ne ha hb ab k r.
            z.on_pair (w.units.from u) (w.cells.from c) (w.cells.from e) (w.digits.from a) (w.digits.from b) (s.units.from u hu) (off hu i) (off hu j)
            (λ q. ne (same-to (symmetry-undone s).cells (member_below hu i) (member_below hu j) q)) (s.digits.from a ha) (s.digits.from b hb)
            (λ q. ab (same-to (symmetry-undone s).digits ha hb q)) (pair c e a b (member_below hu i) (member_below hu j) k) (removes (pair-off u c e a b hu (member_below hu i) (member_below hu j) ha hb) r);
        on_pointing = λ u v d k hd l r. z.on_pointing (w.units.from u) (w.units.from v) (w.digits.from d) (meets-to (symmetry-undone s) k) (s.digits.from d hd) (locked u v d k.box.1 (omega (arith, k.line)) hd l)
            (removes (locked-off u v d k.box.1 (omega (arith, k.line)) hd) r);
        on_claiming = λ u v d k hd l r. z.on_claiming (w.units.from u) (w.units.from v) (w.digits.from d) (meets-to (symmetry-undone s) k) (s.digits.from d hd) (locked u v d (omega (arith, k.line)) k.box.1 hd l)
            (removes (locked-off u v d (omega (arith, k.line)) k.box.1 hd) r);
        on_cross = λ u v x y d k hd l r.
            let b = below k in
            z.on_cross (w.units.from u) (w.units.from v) (w.units.from x) (w.units.from y) (w.digits.from d) (crossing-to (symmetry-undone s) k) (s.digits.from d hd)
            (cross u v x y d b.0 b.1 b.2 b.3 hd l) (removes (cross-off u v x y d b.0 b.1 b.2 b.3 hd) r);
      }
    where
      lone : (c d : ℕ) → c < 81 → LoneCell n c d → LoneCell m (w.cells.from c) (w.digits.from d)
      lone c d hc k = record { alone = λ a ha q. comes s.digits ha (k.alone (w.digits.to a) (s.digits.to a ha) (candidate-in c a hc ha q)) }

      lone-off : (c d : ℕ) → d < 9 → (x k : ℕ) → LoneLoss h c d x k → (x < 81) × (k < 9) × LoneLoss g (w.cells.from c) (w.digits.from d) (w.cells.from x) (w.digits.from k)
      lone-off c d hd x k l =
          let hx = member_below l.peer.within l.peer.second in
          (hx, is_lt hd l.digit, record { peer = share-to (symmetry-undone s) l.peer; free = free_off x hx l.free; digit = ap w.digits.from l.digit })

      place : (u d c : ℕ) → u < 27 → d < 9 → OnlyPlace n u d c → OnlyPlace m (w.units.from u) (w.digits.from d) (w.cells.from c)
      place u d c hu hd k =
          record {
            alone = λ e i q.
                let he = member_below (s.units.from u hu) i in
                comes s.cells he (k.alone (w.cells.to e) (member-at hu i) (candidate-at e d he hd q));
          }

      place-off : (d c : ℕ) → c < 81 → d < 9 → (x k : ℕ) → PlaceLoss h d c x k → (x < 81) × (k < 9) × PlaceLoss g (w.digits.from d) (w.cells.from c) (w.cells.from x) (w.digits.from k)
      place-off d c hc hd x k l =
          let hx : x < 81 = subst (λ (y : ℕ). y < 81) (sym l.cell) hc in (
            hx,
            l.digit,
            record {
              cell = ap w.cells.from l.cell;
              free = free_off x hx l.free;
              digit = s.digits.from k l.digit;
              other = λ q. l.other (same-to (symmetry-undone s).digits l.digit hd q);
            },
          )

      pair : (c e a b : ℕ) → c < 81 → e < 81 → PairCells n c e a b → PairCells m (w.cells.from c) (w.cells.from e) (w.digits.from a) (w.digits.from b)
      pair c e a b hc he k = record { first = λ d hd q. only d hd (k.first (w.digits.to d) (s.digits.to d hd) (candidate-in c d hc hd q)); second = λ d hd q. only d hd (k.second (w.digits.to d) (s.digits.to d hd) (candidate-in e d he hd q)) }
        where
          only : (d : ℕ) → d < 9 → (w.digits.to d ≡ a) ⊎ (w.digits.to d ≡ b) → (d ≡ w.digits.from a) ⊎ (d ≡ w.digits.from b)
          only d hd = ⊎_elim (λ q. inl (comes s.digits hd q)) (λ q. inr (comes s.digits hd q))

      pair-off : (u c e a b : ℕ) → u < 27 → c < 81 → e < 81 → a < 9 → b < 9 → (x k : ℕ) → NakedPairLoss h u c e a b x k
          → (x < 81) × (k < 9) × NakedPairLoss g (w.units.from u) (w.cells.from c) (w.cells.from e) (w.digits.from a) (w.digits.from b) (w.cells.from x) (w.digits.from k)
      pair-off u c e a b hu hc he ha hb x k l =
          let hx = member_below hu l.member in (
            hx,
            ⊎_elim (is_lt ha) (is_lt hb) l.digit,
            record {
              member = off hu l.member;
              free = free_off x hx l.free;
              other₁ = λ q. l.other₁ (same-to (symmetry-undone s).cells hx hc q);
              other₂ = λ q. l.other₂ (same-to (symmetry-undone s).cells hx he q);
              digit = either-off k l.digit;
            },
          )

      locked : (u v d : ℕ) → u < 27 → v < 27 → d < 9 → Locked n u v d → Locked m (w.units.from u) (w.units.from v) (w.digits.from d)
      locked u v d hu hv hd k =
          record {
            inside = λ e i q.
                let he = member_below (s.units.from u hu) i in
                back_in hv he (k.inside (w.cells.to e) (member-at hu i) (candidate-at e d he hd q));
          }

      locked-off : (u v d : ℕ) → u < 27 → v < 27 → d < 9 → (x k : ℕ) → LockedLoss h u v d x k
          → (x < 81) × (k < 9) × LockedLoss g (w.units.from u) (w.units.from v) (w.digits.from d) (w.cells.from x) (w.digits.from k)
      locked-off u v d hu hv hd x k l =
          let hx = member_below hv l.member in (
            hx,
            is_lt hd l.digit,
            record {
              member = off hv l.member;
              free = free_off x hx l.free;
              outside = λ i. l.outside (subst (Member u) (s.cells.forth x hx) (member-at hu i));
              digit = ap w.digits.from l.digit;
            },
          )

      below : {u v x y : ℕ} → Crossing u v x y → (u < 27) × (v < 27) × (x < 27) × (y < 27)
      below k =
          ⊎_elim (λ q. (omega (arith, q.0.0), omega (arith, q.0.1), omega (arith, q.1.1), omega (arith, q.1.3)))
          (λ q. (omega (arith, q.0.1), omega (arith, q.0.3), omega (arith, q.1.0), omega (arith, q.1.1))) k.lines

      cross : (u v x y d : ℕ) → u < 27 → v < 27 → x < 27 → y < 27 → d < 9 → CrossCells n u v x y d
          → CrossCells m (w.units.from u) (w.units.from v) (w.units.from x) (w.units.from y) (w.digits.from d)
      cross u v x y d hu hv hx hy hd k =
          record {
            inside = λ e i q.
                let he : e < 81 = ⊎_elim (member_below (s.units.from u hu)) (member_below (s.units.from v hv)) i in
                ⊎_elim (λ j. inl (back_in hx he j)) (λ j. inr (back_in hy he j))
                (k.inside (w.cells.to e) (⊎_elim (λ j. inl (member-at hu j)) (λ j. inr (member-at hv j)) i) (candidate-at e d he hd q));
          }

      cross-off : (u v x y d : ℕ) → u < 27 → v < 27 → x < 27 → y < 27 → d < 9 → (e k : ℕ) → XWingLoss h u v x y d e k
          → (e < 81) × (k < 9) × XWingLoss g (w.units.from u) (w.units.from v) (w.units.from x) (w.units.from y) (w.digits.from d) (w.cells.from e) (w.digits.from k)
      cross-off u v x y d hu hv hx hy hd e k l =
          let he : e < 81 = ⊎_elim (member_below hx) (member_below hy) l.member in (
            he,
            is_lt hd l.digit,
            record {
              member = ⊎_elim (λ j. inl (off hx j)) (λ j. inr (off hy j)) l.member;
              free = free_off e he l.free;
              outside₁ = λ i. l.outside₁ (subst (Member u) (s.cells.forth e he) (member-at hu i));
              outside₂ = λ i. l.outside₂ (subst (Member v) (s.cells.forth e he) (member-at hv i));
              digit = ap w.digits.from l.digit;
            },
          )

  pub settled-follows : Settled g m → Settled h n
  settled-follows z = (module8.settled h n).1 (none-follows ((module8.settled g m).0 z))

-- Settling follows. g and m are givens and masks, h the givens in other clothes.
module _ {w : Change} (s : Symmetry w) (g h m : List ℕ) (free : (c : ℕ) → c < 81 → is_open h c ≡ is_open g (w.cells.from c)) (nine : Nine m)
    (e : SettlingEnds g m) (f : SettlingEnds h (changed_masks w m)) (k : Nine (settle g m).left) (l : Nine (settle h (changed_masks w m)).left) where
  abbrev Z : List ℕ
  Z = (settle g m).left

  abbrev Y : List ℕ
  Y = (settle h (changed_masks w m)).left

  free_back : (c : ℕ) → c < 81 → is_open g c ≡ is_open h (w.cells.to c)
  free_back c a = sym (free (w.cells.to c) (s.cells.to c a) ∙ ap (is_open g) (s.cells.back c a))

  -- in other clothes what settling leaves is settled, and so it is below what settling leaves there
  above : Under (changed_masks w Z) Y
  above = f.greatest (changed_masks w Z) (settled-follows s (worn-by s g h Z free) e.ends) (changed-under w e.below)

  -- and the other way round
  back : Under (changed_masks (undone_change w) Y) Z
  back =
      e.greatest (changed_masks (undone_change w) Y) (settled-follows (symmetry-undone s) (worn-by (symmetry-undone s) h g Y free_back) f.ends)
      (under-trans (changed-under (undone_change w) f.below) (under-eq (changed-back s nine)))

  pub settling-follows : Y ≡ changed_masks w Z
  settling-follows =
      under-antisym (l.size ∙ sym (changed-nine w Z).size) (under-trans (under-eq (sym (changed-forth s l))) (changed-under w back)) above
