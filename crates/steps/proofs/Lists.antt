-- The theorem about lists of calls and about settling: `list-theorem`. Assumes nothing.
use mathlib.Core.Path.{◌≡◌, refl, sym, ap, ◌∙◌, subst}
use mathlib.Core.Logic.{◌⊎◌, ◌↔◌, inl, inr, ⊎_elim}
use mathlib.Core.Bool.{Bool, true, false, not, true≢false}
use mathlib.Core.List as lists
use mathlib.Core.List.{List, [], ◌∷◌}
use Prim.Native.Nat.{ℕ}
use native.Mathlib.Omega.{arith}
use borrow.Author.Tests.{not-true}
use lib.IntN.{ℤ}
use lib.ListN.{length}
use Rattle.candidates.proofs.Tests.{by-test}
use Rattle.grid.specs.Fillings.{verified}
use Rattle.grid.proofs.Fillings.{verified-correct}
use Rattle.candidates.proofs.Tests.{both_left, both_right}
use Rattle.steps.specs.Boards.{Board, givens_of, together, givens, no_entries, fresh, Givens, Admissible}
use Rattle.steps.specs.Calls.{Clues, Entries, Admitted, Call, Outcome, update_candidates, naked_pairs_call, box_line_call, x_wing_call, naked_singles_call, hidden_singles_call, advanced_call, wide, settling_call, chain_call, x_chain_call, is_ported, is_chain, without, without_ported, without_chain, outcome, advanced_outcome, answer, left, check_of, run, opened, opened_with}
use Rattle.steps.specs.Entries.{EntryCall, entry_answer, Deed, step, entry, deed, play, calls_in}
use Rattle.stops.specs.Answer.{Answer, gives, stop, passing, value_or}
use Rattle.steps.proofs.ListTheorem.{BoardSettled, OneEnd, FillingsStay, SettlingEnds, ListTheorem}
use Rattle.steps.specs.Fillings.{KeepsClues, InMasks}
use Rattle.steps.specs.Passes.{Settled, settle}
use Rattle.steps.proofs.Chains.{chains-admissible}
use Rattle.steps.proofs.Check.{clues-givens, admitted, admits}
use Rattle.steps.proofs.Clues.{placed, correct-filling, keeps-fresh, in-keeps}
use Rattle.steps.proofs.Entries.{together-clues, keeps-together, together-keeps, no-entries, keeps-none, entries-stay, entry-leaves}
use Rattle.steps.proofs.Fillings.{Filling, Inside, reach-inside}
use Rattle.steps.proofs.Fresh.{fresh-admissible, total-most}
use Rattle.steps.proofs.Ported.{naked_pairs-reach, box_lines-reach, x_wings-reach}
use Rattle.steps.proofs.Masks.{total-under}
use Rattle.steps.proofs.Reach.{Reach, start, reach-trans, reach-eq, reach-under, reach-length, reach-admissible, reach-keeps, pass-reach, one_end}
use Rattle.steps.proofs.Settling.{SettledIn, settles-in}
use Rattle.steps.proofs.XChainFillings.{x-chains-keep}
use Rattle.steps.proofs.XChains.{x-chains-admissible}

-- ---- one call

settling-from : (g m : List ℕ) → Givens g → Admissible g m → SettledIn g m (settle g m)
settling-from g m ok a = settles-in g 730 m (omega (arith, total-most g m ok a))

-- its masks come by wide instances, or are the fresh ones again
call-leaves : (k : Call) (g m : List ℕ) → is_chain k ≡ false → Givens g → Admissible g m → Reach g m (outcome k g m).masks ⊎ ((outcome k g m).masks ≡ fresh g)
unfolding outcome
call-leaves update_candidates g m n ok a = inr refl
call-leaves naked_pairs_call g m n ok a = inl (naked_pairs-reach g m ok a)
call-leaves box_line_call g m n ok a = inl (box_lines-reach g m ok a)
call-leaves x_wing_call g m n ok a = inl (x_wings-reach g m ok a)
call-leaves naked_singles_call g m n ok a = inl start
call-leaves hidden_singles_call g m n ok a = inl start
call-leaves advanced_call g m n ok a =
    by-test (λ (n : List ℕ). Reach g m n ⊎ (n ≡ fresh g)) (advanced_outcome g m).flag (fresh g) m (λ t. inr refl) (λ t. inl start)
call-leaves (wide k) g m n ok a = inl (pass-reach g k m)
call-leaves settling_call g m n ok a = inl (settling-from g m ok a).reach
call-leaves chain_call g m n ok a = absurd (true≢false n)
call-leaves x_chain_call g m n ok a = absurd (true≢false n)

-- every call leaves masks that the next one takes
pub call-admissible : (k : Call) (g m : List ℕ) → Givens g → Admissible g m → Admissible g (outcome k g m).masks
unfolding outcome
call-admissible update_candidates g m ok a = fresh-admissible g
call-admissible naked_pairs_call g m ok a = reach-admissible g (naked_pairs-reach g m ok a) a
call-admissible box_line_call g m ok a = reach-admissible g (box_lines-reach g m ok a) a
call-admissible x_wing_call g m ok a = reach-admissible g (x_wings-reach g m ok a) a
call-admissible naked_singles_call g m ok a = a
call-admissible hidden_singles_call g m ok a = a
call-admissible advanced_call g m ok a = by-test (Admissible g) (advanced_outcome g m).flag (fresh g) m (λ t. fresh-admissible g) (λ t. a)
call-admissible (wide k) g m ok a = reach-admissible g (pass-reach g k m) a
call-admissible settling_call g m ok a = reach-admissible g (settling-from g m ok a).reach a
call-admissible chain_call g m ok a = chains-admissible g m a
call-admissible x_chain_call g m ok a = x-chains-admissible g m a

-- ---- fillings

-- admissible masks that have lost no filling which the fresh ones have
pub record Keeping (g m : List ℕ) : Type 0 where
  pub admissible : Admissible g m
  pub fillings : (p : ℕ → ℕ) → Filling p → Inside p (fresh g) → Inside p m

fresh-keeping : (g : List ℕ) → Keeping g (fresh g)
fresh-keeping g = record { admissible = fresh-admissible g; fillings = λ p F i. i }

-- the chain pass that is not the ported one
other-chain : (k : Call) → is_ported k ≡ false → is_chain k ≡ true → k ≡ x_chain_call
other-chain x_chain_call n c = refl
other-chain chain_call n c = absurd (true≢false n)
other-chain update_candidates n c = absurd (true≢false (sym c))
other-chain naked_pairs_call n c = absurd (true≢false (sym c))
other-chain box_line_call n c = absurd (true≢false (sym c))
other-chain x_wing_call n c = absurd (true≢false (sym c))
other-chain naked_singles_call n c = absurd (true≢false (sym c))
other-chain hidden_singles_call n c = absurd (true≢false (sym c))
other-chain advanced_call n c = absurd (true≢false (sym c))
other-chain (wide w) n c = absurd (true≢false (sym c))
other-chain settling_call n c = absurd (true≢false (sym c))

call-keeping : (k : Call) (g m : List ℕ) → is_ported k ≡ false → Givens g → Keeping g m → Keeping g (outcome k g m).masks
unfolding outcome
call-keeping k g m n ok r = record { admissible = call-admissible k g m ok r.admissible; fillings = λ p F i. go p F i (is_chain k) refl }
  where
    go : (p : ℕ → ℕ) → Filling p → Inside p (fresh g) → (t : Bool) → is_chain k ≡ t → Inside p (outcome k g m).masks
    go p F i false t =
        ⊎_elim (λ w. reach-inside g p F (r.fillings p F i) w) (λ e. subst (Inside p) (sym e) i) (call-leaves k g m t ok r.admissible)
    go p F i true t =
        subst (λ (k : Call). Inside p (outcome k g m).masks) (sym (other-chain k n t)) (x-chains-keep g ok p F m r.admissible (r.fillings p F i))

-- ---- one call on a board

-- clues and entries that no stop refuses, and a property of givens and masks
pub record Good (P : List ℕ → List ℕ → Type 0) (b : Board) : Type 0 where
  pub clues : Clues b.clues
  pub entries : Entries b.clues b.entries
  pub masks : P (givens b) b.masks

-- a property that the fresh masks have
abbrev Starts : (List ℕ → List ℕ → Type 0) → Type 0
Starts P = (g : List ℕ) → P g (fresh g)

-- masks that wide instances reach from the fresh ones
abbrev pub Reached : List ℕ → List ℕ → Type 0
Reached g m = Reach g (fresh g) m

pub board-givens : (b : Board) → Givens (givens b)
board-givens b = clues-givens (together b.clues b.entries)

pub reached-admissible : {b : Board} → Good Reached b → Good Admissible b
reached-admissible {b} r = record { clues = r.clues; entries = r.entries; masks = reach-admissible (givens b) r.masks (fresh-admissible (givens b)) }

pub keeping-admissible : {b : Board} → Good Keeping b → Good Admissible b
keeping-admissible r = record { clues = r.clues; entries = r.entries; masks = r.masks.admissible }

-- on such a board
pub keeping-fillings : (B : Board) → Good Keeping B → FillingsStay B
keeping-fillings B p f l v =
    let t = together-clues B.clues B.entries p.clues p.entries in
    let r = verified-correct f l v in (
      λ i. together-keeps B f p.clues p.entries (in-keeps (together B.clues B.entries) t f r B.masks p.masks.admissible i),
      λ k. record { held = p.masks.fillings (placed f) (correct-filling f r) (keeps-fresh (together B.clues B.entries) t f r (keeps-together B f k)) },
    )

pub admitted-good : (b : Board) → Admitted b → Good Admissible b
admitted-good b a = let w = admits b a in record { clues = w.0; entries = w.1; masks = w.2 }

pub accepted : (b : Board) → Good Admissible b → check_of b ≡ gives tt
accepted b r = admitted b r.clues r.entries r.masks

pub opened-good : (P : List ℕ → List ℕ → Type 0) → Starts P → (clues entries : List ℤ) → Clues clues → Entries clues entries → Good P (opened_with clues entries)
unfolding opened_with
opened-good P fresh clues entries ok en = record { clues = ok; entries = en; masks = fresh (givens_of (together clues entries)) }

-- on a board that is not refused
call-board : (P : List ℕ → List ℕ → Type 0) (k : Call) (b : Board) → Good Admissible b → P (givens b) (outcome k (givens b) b.masks).masks → Good P (left b (answer k b))
unfolding answer
call-board P k b r p =
    subst (λ (w : Answer (Unit {0})). Good P (left b (passing w (outcome k (givens b) b.masks)))) (sym (accepted b r)) (record { clues = r.clues; entries = r.entries; masks = p })

pub call-admits : (k : Call) (b : Board) → Good Admissible b → Good Admissible (left b (answer k b))
call-admits k b r = call-board Admissible k b r (call-admissible k (givens b) b.masks (board-givens b) r.masks)

call-reached : (k : Call) (b : Board) → is_chain k ≡ false → Good Reached b → Good Reached (left b (answer k b))
call-reached k b n r =
    let a = reached-admissible r in
    call-board Reached k b a
    (⊎_elim (λ p. reach-trans (givens b) r.masks p) (λ e. reach-eq (givens b) start (sym e)) (call-leaves k (givens b) b.masks n (board-givens b) a.masks))

call-keeps : (k : Call) (b : Board) → is_ported k ≡ false → Good Keeping b → Good Keeping (left b (answer k b))
call-keeps k b n r = call-board Keeping k b (keeping-admissible r) (call-keeping k (givens b) b.masks n (board-givens b) r.masks)

-- entering and rubbing out, refused or not
entry-good : (P : List ℕ → List ℕ → Type 0) → Starts P → (k : EntryCall) (b : Board) → Good P b → Good P (value_or b (entry_answer k b))
entry-good P fresh k b r =
    entry-leaves (Good P) k b r (λ es e. opened-good P fresh b.clues es r.clues (entries-stay b.clues b.entries r.entries k es e))

pub deed-admits : (x : Deed) (b : Board) → Good Admissible b → Good Admissible (deed x b)
unfolding deed
deed-admits (step k) b r = call-admits k b r
deed-admits (entry k) b r = entry-good Admissible fresh-admissible k b r

-- ---- lists

play-admits : (xs : List Deed) (b : Board) → Good Admissible b → Good Admissible (play xs b)
unfolding play
play-admits [] b r = r
play-admits (x ∷ xs) b r = play-admits xs (deed x b) (deed-admits x b r)

-- a list without a sort of calls, where every other call keeps the property
play-good : (P : List ℕ → List ℕ → Type 0) → Starts P → (sort : Call → Bool) → ((k : Call) (b : Board) → sort k ≡ false → Good P b → Good P (left b (answer k b)))
    → (xs : List Deed) (b : Board) → without sort (calls_in xs) ≡ true → Good P b → Good P (play xs b)
unfolding play deed
play-good P fresh sort keeps [] b n r = r
play-good P fresh sort keeps (step k ∷ xs) b n r =
    play-good P fresh sort keeps xs (left b (answer k b)) (both_right (not (sort k)) (without sort (calls_in xs)) n)
    (keeps k b (not-true (sort k) (both_left (not (sort k)) (without sort (calls_in xs)) n)) r)
play-good P fresh sort keeps (entry k ∷ xs) b n r = play-good P fresh sort keeps xs (value_or b (entry_answer k b)) n (entry-good P fresh k b r)

-- a list of board calls alone
pub play-run : (ks : List Call) (b : Board) → play (lists.map step ks) b ≡ run ks b
unfolding play run deed
play-run [] b = refl
play-run (k ∷ ks) b = play-run ks (left b (answer k b))

pub calls_alone : (ks : List Call) → calls_in (lists.map step ks) ≡ ks
calls_alone [] = refl
calls_alone (k ∷ ks) = ap (λ (l : List Call). k ∷ l) (calls_alone ks)

run-reached : (ks : List Call) (b : Board) → without_chain ks ≡ true → Good Reached b → Good Reached (run ks b)
run-reached ks b n r = subst (Good Reached) (play-run ks b) (play-good Reached (λ g. start) is_chain call-reached (lists.map step ks) b (ap without_chain (calls_alone ks) ∙ n) r)

-- it leaves clues and entries
run-fixed : (ks : List Call) (b : Board) → ((run ks b).clues ≡ b.clues) × ((run ks b).entries ≡ b.entries)
unfolding run
run-fixed [] b = (refl, refl)
run-fixed (k ∷ ks) b =
    let w = run-fixed ks (left b (answer k b)) in
    let v = one (answer k b) in
    (w.0 ∙ v.0, w.1 ∙ v.1)
  where
    one : (a : Answer Outcome) → ((left b a).clues ≡ b.clues) × ((left b a).entries ≡ b.entries)
    one (gives o) = (refl, refl)
    one (stop s) = (refl, refl)

-- entering and rubbing out leave a fresh board
enter-afresh : (clues : List ℤ) (ks : List EntryCall) (b : Board) → b ≡ opened_with clues b.entries → play (lists.map entry ks) b ≡ opened_with clues (play (lists.map entry ks) b).entries
unfolding play deed opened_with
enter-afresh clues [] b e = e
enter-afresh clues (k ∷ ks) b e =
    enter-afresh clues ks (value_or b (entry_answer k b))
    (entry-leaves (λ (b : Board). b ≡ opened_with clues b.entries) k b e (λ es t. ap (λ (l : List ℤ). opened_with l es) (ap (λ (x : Board). x.clues) e)))

-- ---- the theorem

module _ (clues entries : List ℤ) (ok : Clues clues) (en : Entries clues entries) where
  abbrev O : Board
  O = opened_with clues entries

  pub played : (xs : List Deed) → without_ported (calls_in xs) ≡ true → Good Keeping (play xs O)
  played xs n = play-good Keeping fresh-keeping is_ported call-keeps xs O n (opened-good Keeping fresh-keeping clues entries ok en)

  never-refused : (xs : List Deed) → check_of (play xs O) ≡ gives tt
  never-refused xs = accepted (play xs O) (play-admits xs O (opened-good Admissible fresh-admissible clues entries ok en))

  fillings-stay : (xs : List Deed) → without_ported (calls_in xs) ≡ true → FillingsStay (play xs O)
  fillings-stay xs n = keeping-fillings (play xs O) (played xs n)

  lists-end : (ks ls : List Call) → without_chain ks ≡ true → without_chain ls ≡ true → OneEnd (run ks O) (run ls O)
  lists-end ks ls nk nl s = (λ e. subst BoardSettled e s, λ t. same t)
    where
      reached : (ks : List Call) → without_chain ks ≡ true → Good Reached (run ks O)
      reached ks n = run-reached ks O n (opened-good Reached (λ g. start) clues entries ok en)

      same : BoardSettled (run ls O) → run ks O ≡ run ls O
      same t =
          let c : (run ks O).clues ≡ (run ls O).clues = (run-fixed ks O).0 ∙ sym (run-fixed ls O).0 in
          let e : (run ks O).entries ≡ (run ls O).entries = (run-fixed ks O).1 ∙ sym (run-fixed ls O).1 in
          let g : givens (run ls O) ≡ givens (run ks O) = sym (λ i. givens_of (together (c i) (e i))) in
          let q : Reached (givens (run ks O)) (run ls O).masks = subst (λ (h : List ℕ). Reached h (run ls O).masks) g (reached ls nl).masks in
          let m : (run ks O).masks ≡ (run ls O).masks = one_end (givens (run ks O)) (reached ks nk).masks q s (subst (λ (h : List ℕ). Settled h (run ls O).masks) g t) in
          λ i. record { clues = c i; entries = e i; masks = m i }

pub settles : (g m : List ℕ) → Givens g → Admissible g m → SettlingEnds g m
settles g m ok a =
    let s = settling-from g m ok a in
    let less = total-under (settle g m).left m (reach-length g s.reach) (reach-under g s.reach) in
    record {
      ends = s.ends;
      greatest = λ z t p. reach-keeps g t p s.reach;
      below = reach-under g s.reach;
      counted = omega arith;
      bound = omega (arith, s.bound);
      most = omega (arith, s.bound, total-most g m ok a);
      some = s.some;
      goes = s.goes;
      stops = s.stops;
      final = s.final;
    }

pub list-theorem : ListTheorem
unfolding opened_with
list-theorem =
    record {
      taken = never-refused;
      fillings = fillings-stay;
      lists = lists-end;
      afresh = λ clues entries ks. enter-afresh clues ks (opened_with clues entries) refl;
      settling = λ b a. settles (givens b) b.masks (board-givens b) (admitted-good b a).masks;
    }

-- Lists of board calls from the fresh board of the clues alone: no entry ever comes up, so what is kept is the clues.
module _ (clues : List ℤ) (ok : Clues clues) where
  pub opened-taken : check_of (opened clues) ≡ gives tt
  unfolding play
  opened-taken = never-refused clues no_entries ok (no-entries clues) []

  pub run-fillings : (ks : List Call) → without_ported ks ≡ true → (f : List ℤ) → length f ≡ 81 → verified f ≡ true → InMasks (run ks (opened clues)).masks f ↔ KeepsClues clues f
  unfolding opened_with
  run-fillings ks n f l v = (
    λ i. subst (λ (z : List ℤ). KeepsClues z f) fixed.0 ((stay f l v).0 i).clues,
    λ k. (stay f l v).1 (keeps-none B fixed.1 f (subst (λ (z : List ℤ). KeepsClues z f) (sym fixed.0) k)),
  )
    where
      B : Board
      B = run ks (opened clues)

      fixed : (B.clues ≡ clues) × (B.entries ≡ no_entries)
      fixed = run-fixed ks (opened clues)

      stay : FillingsStay B
      stay = subst FillingsStay (play-run ks (opened clues)) (fillings-stay clues no_entries ok (no-entries clues) (lists.map step ks) (ap without_ported (calls_alone ks) ∙ n))
