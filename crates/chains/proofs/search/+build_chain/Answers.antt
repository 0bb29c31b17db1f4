use mathlib.Core.Path.{◌≡◌, sym, ap, ap₂, ◌∙◌}
use mathlib.Core.Bool.{Bool, false, not}
use mathlib.Core.List.{List, [], ◌∷◌, ◌++◌, reverse}
use Prim.Native.Nat.{ℕ, ◌-◌, ◌≤◌}
use native.Mathlib.Omega.{arith}
use lib.ListN.{length}
use Rattle.std.specs.Prelude.{is_some}
use Rattle.std.specs.Prelude as std
use Rattle.std.proofs.lemmas.List.{length-reverse}
use Rattle.steps.specs.Boards.{at}
use Rattle.steps.specs.Chains.{first_some, on_path}
use Rattle.chains.specs.code.Links.{found_cell, links_in, elimination_in, enter_in}
use Rattle.chains.proofs.Trails.{met, in_front, one_longer}
use Rattle.chains.proofs.Searching.{ends, goes_on, finds-none}
use Rattle.chains.proofs.Holders.{visited, eliminates, onward, deepest}
use Rattle.chains.proofs.search.+build_chain.Invariants.{deeper}
use Rattle.chains.proofs.search.+build_chain.Goals as goal

-- what is left is the search one level deeper, after the path with the cell
left : (hs : List ℕ) (s : ℕ) (weak : Bool) (path longer : List ℕ) (c : ℕ) (o : std.Option ℕ) (links : List ℕ) → length path ≤ 6 → on_path c (reverse path) ≡ false → found_cell o ≡ elimination_in hs (length path) s c → is_some o ≡ false
    → longer ≡ path ++ (c ∷ []) → links ≡ links_in hs weak c → first_some (deeper hs s weak path longer) links ≡ enter_in hs (7 - length path) s weak (reverse path) c
left hs s weak path longer c o links short fresh here nothing e are =
    ap₂ (λ (l xs : List ℕ). first_some (enter_in hs (6 - length path) s (not weak) l) xs) (in_front c path longer e) are
    ∙ sym (onward hs (length path) s weak (reverse path) c short (length-reverse path) fresh o here nothing)

-- and a link's answer is that search's
answered : (hs : List ℕ) (s : ℕ) (weak : Bool) (path longer : List ℕ) (c x : ℕ) (o : std.Option ℕ) → longer ≡ path ++ (c ∷ []) → found_cell o ≡ enter_in hs (7 - length longer) s (not weak) (reverse longer) x → found_cell o ≡ deeper hs s weak path longer x
answered hs s weak path longer c x o e q =
    let n : 7 - length longer ≡ 6 - length path = omega (arith, one_longer c path longer e) in
    q ∙ ap (λ (n : ℕ). enter_in hs n s (not weak) (reverse longer) x) n

pub returns-then-contains : goal.returns-then-contains
returns-then-contains t c =
    let a = c.args in
    sym (visited a.holders.now (length a.path.now) a.start a.weak (reverse a.path.now) a.cell c.requires (length-reverse a.path.now) (met a.cell a.path.now ∙ sym c.contains.ensures ∙ c.if-contains.true))

pub returns-then-is_some : goal.returns-then-is_some
returns-then-is_some t c =
    let a = c.args in
    let here = c.find_aic_elimination-here.ensures ∙ ap₂ (λ (hs : List ℕ) (k : ℕ). elimination_in hs k a.start a.cell) c.as_slice.ensures c.len-depth.ensures.length in
    sym (eliminates a.holders.now (length a.path.now) a.start a.weak (reverse a.path.now) a.cell c.requires (length-reverse a.path.now) (met a.cell a.path.now ∙ sym c.contains.ensures ∙ c.if-contains.false) c.find_aic_elimination-here.result here (sym c.is_some.ensures ∙ c.if-is_some.true))

pub returns-then-depth-eq6 : goal.returns-then-depth-eq6
returns-then-depth-eq6 t c =
    let a = c.args in
    let here = c.find_aic_elimination-here.ensures ∙ ap₂ (λ (hs : List ℕ) (k : ℕ). elimination_in hs k a.start a.cell) c.as_slice.ensures c.len-depth.ensures.length in
    sym (deepest a.holders.now (length a.path.now) a.start a.weak (reverse a.path.now) a.cell c.requires (length-reverse a.path.now) (met a.cell a.path.now ∙ sym c.contains.ensures ∙ c.if-contains.false) c.find_aic_elimination-here.result here (sym c.is_some.ensures ∙ c.if-is_some.false) (sym c.len-depth.ensures.length ∙ c.if-depth-eq6.true))

pub returns-then-is_some-2 : goal.returns-then-is_some-2
returns-then-is_some-2 t c =
    let a = c.args in
    let longer = c.followed_by-longer in
    let xs = c.as_slice-next-items in
    let i = c.loop-next.next-index in
    let here = c.find_aic_elimination-here.ensures ∙ ap₂ (λ (hs : List ℕ) (k : ℕ). elimination_in hs k a.start a.cell) c.as_slice.ensures c.len-depth.ensures.length in
    ends (deeper a.holders.now a.start a.weak a.path.now longer.result) xs.result.now i c.loop-next.invariant c.build_chain-found.result (omega arith)
    (answered a.holders.now a.start a.weak a.path.now longer.result a.cell (at xs.result.now i) c.build_chain-found.result longer.ensures c.build_chain-found.ensures)
    (sym c.is_some-in-loop-next.ensures ∙ c.if-is_some-2.true)
    ∙ left a.holders.now a.start a.weak a.path.now longer.result a.cell c.find_aic_elimination-here.result xs.result.now c.requires (met a.cell a.path.now ∙ sym c.contains.ensures ∙ c.if-contains.false) here (sym c.is_some.ensures ∙ c.if-is_some.false) longer.ensures (xs.ensures.same ∙ c.links-links.ensures)

pub loop-next-preserved : goal.loop-next-preserved
loop-next-preserved t c =
    let a = c.args in
    let longer = c.followed_by-longer in
    let xs = c.as_slice-next-items.result.now in
    let i = c.loop-next.next-index in
    goes_on (deeper a.holders.now a.start a.weak a.path.now longer.result) xs i c.loop-next.invariant c.build_chain-found.result (omega arith)
    (answered a.holders.now a.start a.weak a.path.now longer.result a.cell (at xs i) c.build_chain-found.result longer.ensures c.build_chain-found.ensures)
    (sym c.is_some-in-loop-next.ensures ∙ c.if-is_some-2.false)

pub returns : goal.returns
returns t c =
    let a = c.args in
    let longer = c.followed_by-longer in
    let xs = c.as_slice-next-items in
    let here = c.find_aic_elimination-here.ensures ∙ ap₂ (λ (hs : List ℕ) (k : ℕ). elimination_in hs k a.start a.cell) c.as_slice.ensures c.len-depth.ensures.length in
    finds-none (deeper a.holders.now a.start a.weak a.path.now longer.result) xs.result.now c.loop-next.next-index c.loop-next.invariant (omega arith)
    ∙ left a.holders.now a.start a.weak a.path.now longer.result a.cell c.find_aic_elimination-here.result xs.result.now c.requires (met a.cell a.path.now ∙ sym c.contains.ensures ∙ c.if-contains.false) here (sym c.is_some.ensures ∙ c.if-is_some.false) longer.ensures (xs.ensures.same ∙ c.links-links.ensures)
