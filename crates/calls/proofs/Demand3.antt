-- Demand 3 of what the calls hand back, from the theorem about lists of calls and about settling (steps/proofs/Lists). Assumes nothing.
use mathlib.Core.Path.{◌≡◌, refl, sym, ap, ◌∙◌, subst}
use mathlib.Core.Logic.{◌↔◌}
use mathlib.Core.Bool.{Bool, true}
use mathlib.Core.List as lists
use mathlib.Core.List.{List, [], ◌∷◌, ◌++◌}
use mathlib.Core.Option.{none}
use Prim.Native.Nat.{ℕ, ◌+◌}
use lib.IntN.{ℤ}
use Rattle.std.specs.Prelude.{Result, Ok, Err}
use Rattle.stops.specs.Answer.{Answer, answer_of, gives, stop, passing, value_or, map}
use Rattle.stops.specs.declared.Stop.{Stop}
use Rattle.stops.proofs.Answers.{gives_same, stop-gives}
use Rattle.steps.specs.Boards as S
use Rattle.steps.specs.Boards.{no_entries, same_board, total}
use Rattle.steps.specs.Calls.{Clues, Entries, Call, without_ported, without_chain, wide, settling_call, check_of, Admitted, Outcome, outcome, answer, left, opened_with, run}
use Rattle.steps.specs.Entries.{EntryCall, entry_answer, Deed, step, entry, deed, play, calls_in}
use Rattle.steps.specs.Passes.{Kind, sweep, settle, removed_by}
use Rattle.steps.proofs.Entries.{entry-leaves}
use Rattle.steps.proofs.EqualBoards.{equal-boards}
use Rattle.steps.proofs.ListTheorem as steps
use Rattle.steps.proofs.Lists.{play-run, calls_alone, list-theorem}
use Rattle.board.specs.Boards.{board_of, no_board, open_of, open_with_of}
use Rattle.board.specs.Entering.{Enters}
use Rattle.board.specs.declared.Board.{Board}
use Rattle.board.proofs.Checks.{clues-open, entries-open}
use Rattle.eliminations.specs.Eliminations.{Eliminates}
use Rattle.passes.specs.Settlings.{counts_of, Settles}
use Rattle.passes.specs.declared.Settled as code
use Rattle.calls.specs.Demand3.{After, StepsWithoutPorted, StepsWithoutChain, givens_in, IsSettled, OneEnd, FillingsStay, Afresh, PassDone, SettlingDone, Demand3}
use Rattle.calls.specs.Replays.{Run, ran, no_step, first_no_step, calls_of, replay_of, replaying, Replays}
use Rattle.calls.specs.declared.ReplayError.{ReplayError}
use Rattle.calls.specs.declared.ReplayError.TheVariants.{NoStep, Refused}
use Rattle.calls.proofs.Numbers.{all-steps, ported-calls, chain-calls}
use Rattle.calls.proofs.Runs.{run-replayed}

-- ---- an answer of the code that is no stop

made : (p : Result Bool Stop) (f : Bool) → answer_of p ≡ gives f → p ≡ Ok f
made (Ok g) f e = ap Ok (gives_same e)
made (Err s) f e = absurd (stop-gives e)

ran-same : {b c : S.Board} → ◌≡◌ {A = Run} (ran b) (ran c) → b ≡ c
ran-same q = cc

ran-none : {i : ℕ} {c : S.Board} → ◌≡◌ {A = Run} (no_step i) (ran c) → ⊥
ran-none q = cc

done : (r : Result Board ReplayError) (c : S.Board) → replaying r ≡ gives (ran c) → (b : Board) × (r ≡ Ok b) × (board_of b ≡ c)
done (Ok b) c e = (b, refl, ran-same (gives_same e))
done (Err (Refused s)) c e = absurd (stop-gives e)
done (Err (NoStep i)) c e = absurd (ran-none (gives_same e))

-- ---- the boards after a list

play-snoc : (xs : List Deed) (x : Deed) (b : S.Board) → play (xs ++ x ∷ []) b ≡ deed x (play xs b)
unfolding play
play-snoc [] x b = refl
play-snoc (y ∷ xs) x b = play-snoc xs x (deed y b)

-- boards that are the same by definition are the same
same : (B C : Board) → board_of B ≡ board_of C → B ≡ C
same B C e = λ i. record { clues = (e i).clues; entries = (e i).entries; masks = (e i).masks }

opens : (clues : List ℤ) → Clues clues → (b : Board) → board_of b ≡ value_or no_board (open_of clues) → After clues no_entries [] b
unfolding play
opens clues ok b e = e ∙ ap (value_or no_board) (clues-open clues ok)

opens-with : (clues entries : List ℤ) → Clues clues → Entries clues entries → (b : Board) → board_of b ≡ value_or no_board (open_with_of clues entries) → After clues entries [] b
unfolding play
opens-with clues entries ok en b e = e ∙ ap (value_or no_board) (entries-open clues entries ok en)

calls : (clues entries : List ℤ) (xs : List Deed) (b : Board) → After clues entries xs b → (k : Call) (c : Board) → board_of c ≡ left (board_of b) (answer k (board_of b)) → After clues entries (xs ++ step k ∷ []) c
unfolding deed
calls clues entries xs b at k c e = e ∙ ap (λ (b : S.Board). left b (answer k b)) at ∙ sym (play-snoc xs (step k) (opened_with clues entries))

enters : (clues entries : List ℤ) (xs : List Deed) (b : Board) → After clues entries xs b → (k : EntryCall) (r : Result (Unit {0}) Stop) (c : Board) → Enters k (board_of b) r (board_of c) → After clues entries (xs ++ entry k ∷ []) c
unfolding deed
enters clues entries xs b at k r c e = e.board ∙ ap (λ (b : S.Board). value_or b (entry_answer k b)) at ∙ sym (play-snoc xs (entry k) (opened_with clues entries))

replays : (clues entries : List ℤ) → Clues clues → Entries clues entries → (ns : List ℕ) → first_no_step ns ≡ none → (r : Result Board ReplayError) → Replays clues entries ns r
    → (B : Board) × (r ≡ Ok B) × After clues entries (lists.map step (calls_of ns)) B
replays clues entries ok en ns steps r e =
    let is : replay_of clues entries ns ≡ gives (ran (run (calls_of ns) (opened_with clues entries))) = sym (run-replayed clues entries ns (sym (entries-open clues entries ok en)) (sym steps)) in
    let d = done r _ (e ∙ is) in (d.0, d.1, d.2 ∙ sym (play-run (calls_of ns) (opened_with clues entries)))

step-clues : (b : S.Board) (a : Answer Outcome) → (left b a).clues ≡ b.clues
step-clues b (gives o) = refl
step-clues b (stop s) = refl

play-clues : (xs : List Deed) (b : S.Board) → (play xs b).clues ≡ b.clues
unfolding play deed opened_with
play-clues [] b = refl
play-clues (step k ∷ xs) b = play-clues xs (left b (answer k b)) ∙ step-clues b (answer k b)
play-clues (entry k ∷ xs) b = play-clues xs (value_or b (entry_answer k b)) ∙ entry-leaves (λ (a : S.Board). a.clues ≡ b.clues) k b refl (λ es e. refl)

printed : (clues entries : List ℤ) (xs : List Deed) (B : Board) → After clues entries xs B → B.clues ≡ clues
unfolding opened_with
printed clues entries xs B at = ap (λ (b : S.Board). b.clues) at ∙ play-clues xs (opened_with clues entries)

taken : (clues entries : List ℤ) → Clues clues → Entries clues entries → (xs : List Deed) (b : Board) → After clues entries xs b → check_of (board_of b) ≡ gives tt
taken clues entries ok en xs b at = ap check_of at ∙ list-theorem.taken clues entries ok en xs

fillings : (clues entries : List ℤ) → Clues clues → Entries clues entries → (xs : List Deed) → without_ported (calls_in xs) ≡ true → (B : Board) → After clues entries xs B → FillingsStay B
fillings clues entries ok en xs n B at = subst steps.FillingsStay (sym at) (list-theorem.fillings clues entries ok en xs n)

lists-end : (clues entries : List ℤ) → Clues clues → Entries clues entries → (ks ls : List Call) → without_chain ks ≡ true → without_chain ls ≡ true → (B C : Board)
    → After clues entries (lists.map step ks) B → After clues entries (lists.map step ls) C → OneEnd B C
lists-end clues entries ok en ks ls nk nl B C at bt s =
    let p = at ∙ play-run ks (opened_with clues entries) in
    let q = bt ∙ play-run ls (opened_with clues entries) in
    let one = list-theorem.lists clues entries ok en ks ls nk nl (subst steps.BoardSettled p s) in
    (λ e. subst IsSettled e s, λ t. same B C (p ∙ one.1 (subst steps.BoardSettled q t) ∙ sym q))

equal : (B C : Board) → (same_board (board_of B) (board_of C) ≡ true) ↔ (B ≡ C)
equal B C = let t = equal-boards.test (board_of B) (board_of C) in (λ s. same B C (t.0 s), λ e. t.1 (ap board_of e))

replayed-fillings : (clues entries : List ℤ) → Clues clues → Entries clues entries → (ns : List ℕ) → StepsWithoutPorted ns → (r : Result Board ReplayError) → Replays clues entries ns r
    → (B : Board) × (r ≡ Ok B) × FillingsStay B
replayed-fillings clues entries ok en ns n r e =
    let d = replays clues entries ok en ns n.steps r e in
    (d.0, d.1, fillings clues entries ok en (lists.map step (calls_of ns)) (ap without_ported (calls_alone (calls_of ns)) ∙ n.none_of) d.0 d.2)

replayed-lists : (clues entries : List ℤ) → Clues clues → Entries clues entries → (ns ms : List ℕ) → StepsWithoutChain ns → StepsWithoutChain ms → (r s : Result Board ReplayError) → Replays clues entries ns r → Replays clues entries ms s
    → (B : Board) × (C : Board) × (r ≡ Ok B) × (s ≡ Ok C) × OneEnd B C
replayed-lists clues entries ok en ns ms n m r s p q =
    let d = replays clues entries ok en ns n.steps r p in
    let f = replays clues entries ok en ms m.steps s q in
    (d.0, f.0, d.1, f.1, lists-end clues entries ok en (calls_of ns) (calls_of ms) n.none_of m.none_of d.0 f.0 d.2 f.2)

entered : (clues entries : List ℤ) (ks ls : List EntryCall) (B C : Board) → After clues entries (lists.map entry ks) B → After clues entries (lists.map entry ls) C → Afresh clues B C
entered clues entries ks ls B C p q = record { fresh = fresh ks B p; same = λ e. same B C (fresh ks B p ∙ ap (opened_with clues) e ∙ sym (fresh ls C q)) }
  where
    fresh : (ks : List EntryCall) (B : Board) → After clues entries (lists.map entry ks) B → board_of B ≡ opened_with clues B.entries
    fresh ks B p = p ∙ list-theorem.afresh clues entries ks ∙ ap (λ (b : S.Board). opened_with clues b.entries) (sym p)

-- ---- a call on a board that is not refused

module _ (b : Board) (ok : Admitted (board_of b)) where
  given : (k : Call) → answer k (board_of b) ≡ gives (outcome k (givens_in b) b.masks)
  unfolding answer
  given k = ap (λ (a : Answer (Unit {0})). passing a (outcome k (givens_in b) b.masks)) ok.taken

  passes : (k : Kind) (r : Result Bool Stop) (c : Board) → Eliminates (wide k) (board_of b) r (board_of c) → PassDone k b r c
  unfolding outcome
  passes k r c e =
      let board = e.board ∙ ap (left (board_of b)) (given (wide k)) in
      record {
        answer = made r _ (e.flag ∙ ap (map (λ (o : Outcome). o.flag)) (given (wide k)));
        clues = ap (λ (b : S.Board). b.clues) board;
        entries = ap (λ (b : S.Board). b.entries) board;
        masks = ap (λ (b : S.Board). b.masks) board;
      }

  settles : (r : Result code.Settled Stop) (c : Board) → Settles (board_of b) r (board_of c)
      → SettlingDone b r c (settle (givens_in b) b.masks).sweeps (removed_by b.masks (settle (givens_in b) b.masks).left)
  unfolding outcome
  settles r c e =
      let s = list-theorem.settling (board_of b) ok in
      let board = e.board ∙ ap (left (board_of b)) (given settling_call) in
      let masks = ap (λ (b : S.Board). b.masks) board in
      let final = masks ∙ s.final in
      record {
        answer = e.counts ∙ ap (map counts_of) (given settling_call);
        clues = ap (λ (b : S.Board). b.clues) board;
        entries = ap (λ (b : S.Board). b.entries) board;
        masks = final;
        ends = subst steps.BoardSettled (sym board) s.ends;
        some = s.some;
        goes = s.goes;
        stops = ap (sweep (givens_in b)) final ∙ s.stops ∙ sym final;
        counted = ap (λ (m : List ℕ). total m + removed_by b.masks (settle (givens_in b) b.masks).left) masks ∙ s.counted;
        bound = s.bound;
        most = s.most;
      }

pub demand3 : Demand3
demand3 =
    record {
      opens = opens;
      opens_with = opens-with;
      calls = calls;
      enters = enters;
      replays = replays;
      printed = printed;
      taken = taken;
      fillings = fillings;
      lists = lists-end;
      equal = equal;
      replayed_fillings = replayed-fillings;
      replayed_lists = replayed-lists;
      below_ported = λ ns h. record { steps = all-steps ns (λ i k. (h i k).0); none_of = ported-calls ns h };
      below_chain = λ ns h. record { steps = all-steps ns (λ i k. (h i k).0); none_of = chain-calls ns h };
      entered = entered;
      passes = λ k b ok r c e. passes b ok k r c e;
      settling = λ b ok r c e. (_, _, settles b ok r c e);
    }
