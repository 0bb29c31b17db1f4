-- `lone_place::lones::lone_at` meets its contract. Assumes nothing.
use mathlib.Core.Path.{◌≡◌, sym, ap, ◌∙◌}
use mathlib.Core.Bool.{Bool, true}
use mathlib.Core.List.{List}
use Prim.Native.Nat.{ℕ, ◌<◌}
use lib.Bits.{bit_and}
use lib.Dec.{eqb}
use Rattle.candidates.specs.Masks.{count, minus, single}
use Rattle.steps.specs.Instances.{lone}
use Rattle.steps.specs.Passes.{instance_taken}
use Rattle.steps.specs.StepLists.{step_bytes}
use Rattle.steps.proofs.StepLogs.{log-none}
use Rattle.cells.specs.code.Places.{mask_at}
use Rattle.cells.proofs.Losses.{noted-lost, noted-kept}
use Rattle.cells.proofs.NineBits.{place_is}
use Rattle.lone_place.specs.code.Turns.{peers_lose}
use Rattle.lone_place.proofs.Taking.{lone_test, lone-taken, lone-left}
use Rattle.lone_place.proofs.lones.lone_at.Goals as goal

-- what is tested
tested : (m : List ℕ) (c d : ℕ) {k : ℕ} {r : Bool} → k ≡ single d → r ≡ eqb (count (bit_and (mask_at m c) (minus 511 k))) 0 → r ≡ lone_test m c d
tested m c d e r = r ∙ ap (λ (k : ℕ). eqb (count (bit_and (mask_at m c) (minus 511 k))) 0) e

-- where the test passes, the peers' loss is the step
taken : (g m : List ℕ) (c d : ℕ) {k : ℕ} {o : List ℕ} → c < 81 → k ≡ single d → lone_test m c d ≡ true → o ≡ peers_lose g c k m → o ≡ instance_taken g (lone c d) m
taken g m c d h e t o = o ∙ ap (λ (k : ℕ). peers_lose g c k m) e ∙ lone-taken g m c d h t

pub returns-then-lose_peers : goal.returns-then-lose_peers
unfolding step_bytes
returns-then-lose_peers c =
    let a = c.args in
    let g = a.givens.now in
    let m = a.masks.now in
    let one : c.digit_mask-one.result ≡ single a.digit = c.digit_mask-one.ensures ∙ place_is a.digit c.requires.1 in
    let test : c.is_none.result ≡ lone_test m a.cell a.digit = tested m a.cell a.digit one (c.is_none.ensures ∙ ap (λ (x : ℕ). eqb (count x) 0) (cc)) in
    let e = taken g m a.cell a.digit c.requires.0 one (sym test ∙ c.if-is_none.true) c.lose_peers.ensures.masks_after in record {
      masks_after = e;
      log_after = c.note.ensures ∙ noted-lost g (lone a.cell a.digit) m e a.log.now (sym c.lose_peers.ensures.value ∙ c.if-lose_peers.true);
    }

pub returns-else-lose_peers : goal.returns-else-lose_peers
returns-else-lose_peers c =
    let a = c.args in
    let g = a.givens.now in
    let m = a.masks.now in
    let one : c.digit_mask-one.result ≡ single a.digit = c.digit_mask-one.ensures ∙ place_is a.digit c.requires.1 in
    let test : c.is_none.result ≡ lone_test m a.cell a.digit = tested m a.cell a.digit one (c.is_none.ensures ∙ ap (λ (x : ℕ). eqb (count x) 0) (cc)) in
    let e = taken g m a.cell a.digit c.requires.0 one (sym test ∙ c.if-is_none.true) c.lose_peers.ensures.masks_after in record {
      masks_after = e;
      log_after = noted-kept g (lone a.cell a.digit) m e a.log.now (sym c.lose_peers.ensures.value ∙ c.if-lose_peers.false);
    }

pub returns-else-is_none : goal.returns-else-is_none
returns-else-is_none c =
    let a = c.args in
    let g = a.givens.now in
    let m = a.masks.now in
    let one : c.digit_mask-one.result ≡ single a.digit = c.digit_mask-one.ensures ∙ place_is a.digit c.requires.1 in
    let test : c.is_none.result ≡ lone_test m a.cell a.digit = tested m a.cell a.digit one (c.is_none.ensures ∙ ap (λ (x : ℕ). eqb (count x) 0) (cc)) in
    let e = lone-left g m a.cell a.digit c.requires.0 (sym test ∙ c.if-is_none.false) in record {
      masks_after = e;
      log_after = sym (log-none g (lone a.cell a.digit) m a.log.now (sym e));
    }
