-- The pieces of an input, wherever they end, give the lines of the whole input and its tally. Assumes nothing.
use mathlib.Core.Path.{◌≡◌, refl, sym, ap, ap₂, subst, ◌∙◌}
use mathlib.Core.Bool.{Bool, true, false, not, ◌&&◌, ◌||◌, true≢false}
use mathlib.Core.List.{List, [], ◌∷◌, ◌++◌, append-nil, append_assoc}
use Prim.Native.Nat.{ℕ, ◌+◌, ◌<◌}
use native.Mathlib.Omega.{arith}
use borrow.Author.Tests.{eqb-true}
use lib.Dec.{eqb}
use lib.ListN.{length, get_or, take, replicate, length-append}
use Rattle.candidates.proofs.Tests.{cond-true, cond-false}
use Rattle.steps.specs.Loops.{each, for}
use Rattle.steps.proofs.Loops.{each_append}
use Rattle.output.specs.Lent.{over}
use Rattle.rounds.specs.declared.cuts.Line.{Line}
use Rattle.rounds.specs.declared.cuts.State.{State}
use Rattle.rounds.specs.Lines.{last_line, cut, bare_length, bare, is_handed_on}
use Rattle.rounds.specs.Rounds.{handed_on, outcome_of, outcome_bytes, text_outcome, round_line}
use Rattle.rounds.specs.Summaries.{top, tallied, no_tally}
use Rattle.rounds.specs.Promises.{Calls, fresh, next, Whole, CutsSay}
use Rattle.rounds.specs.code.Kept.{outcome_from}
use Rattle.rounds.specs.code.Cuts.{state_with, Held, held, fresh_line, fresh_state, passed_line, kept_one, held_outcome, done_bytes, done_state, is_passed, keep_on, fed, fed_bytes, is_begun, last_bytes, last_state, Run, run, stepped, finished}
use Rattle.rounds.proofs.Cutting.{passed-bytes, passed-state, held_bytes, held-state, begun-bytes, begun-state, unbegun-bytes, unbegun-state}
use Rattle.rounds.proofs.Feeding.{step_end, step-passed, step_kept, kept-plain, keep-none, keep-more, each_first, each_none, fed-goes}
use Rattle.rounds.proofs.Held.{take-over, never-passed, kept-first, kept-size, whole-counted}
use Rattle.rounds.proofs.Outcomes.{from_is, bytes-is}
use Rattle.rounds.proofs.Short.{last-short}
use Rattle.rounds.proofs.Used.{used-within, used-some}

-- ---- calls are the bytes that they used, one after the other

calls-step : {s : State} {input out : List ℕ} → Calls fresh_state fed fed_bytes last_state last_bytes s input out → run s out ≡ each stepped input (run fresh_state [])
calls-step fresh = sym (each_none (run fresh_state []))
calls-step (next {s} {input} {out} piece lent room calls) =
    let n = (fed s piece).used in
    fed-goes s piece lent out room
    ∙ ap (each stepped (take n piece)) (calls-step calls)
    ∙ sym (each_append stepped input (take n piece) (run fresh_state []))

-- ---- a line that is kept

-- the state after the bytes l of a line
abbrev standing : List ℕ → List ℕ → List ℕ → State
standing lent tally l = keep_on (state_with lent fresh_line tally) l

abbrev is_plain : List ℕ → Bool
is_plain l = eqb (get_or l 0 0) 35

module _ (lent tally l : List ℕ) (size : length lent ≡ 256) (few : length l < top) (plain : is_plain l ≡ false) where
  abbrev s : State
  s = standing lent tally l

  unpassed : s.line.passed ≡ false
  unfolding keep_on
  unpassed = never-passed l lent

  outcome-is : held_outcome s ≡ outcome_of l
  unfolding keep_on
  outcome-is = ap₂ outcome_from (kept-first l lent size) (whole-counted l lent few) ∙ from_is l plain

  line-bytes : done_bytes s ≡ round_line l
  unfolding keep_on round_line
  line-bytes = sym (held_bytes s unpassed) ∙ ap₂ outcome_bytes (kept-first l lent size) outcome-is ∙ bytes-is l plain

  line-state : done_state s ≡ standing s.kept (tallied (outcome_of l) tally) []
  unfolding keep_on each
  line-state = sym (held-state s unpassed) ∙ ap (λ t. state_with s.kept fresh_line t) (ap (λ o. tallied o tally) outcome-is)

  still : length s.kept ≡ 256
  unfolding keep_on
  still = kept-size l lent size

-- ---- a line that is handed on

hash-bytes : (l : List ℕ) → round_line (35 ∷ l) ≡ (35 ∷ l) ++ (10 ∷ [])
unfolding round_line outcome_of
hash-bytes l = ap (outcome_bytes (35 ∷ l)) (cond-true (is_handed_on (35 ∷ l)) handed_on (text_outcome (bare (35 ∷ l))) (either (eqb (bare_length (35 ∷ l)) 0)))
  where
    either : (b : Bool) → (b || true) ≡ true
    either true = refl
    either false = refl

hash-tally : (l tally : List ℕ) → tallied (outcome_of (35 ∷ l)) tally ≡ tally
unfolding outcome_of tallied
hash-tally l tally = ap (λ o. tallied o tally) (cond-true (is_handed_on (35 ∷ l)) handed_on (text_outcome (bare (35 ∷ l))) (either (eqb (bare_length (35 ∷ l)) 0)))
  where
    either : (b : Bool) → (b || true) ≡ true
    either true = refl
    either false = refl

-- ---- a line that has begun is not handed on later

stays_plain : (s : State) (bs : List ℕ) → ((c : ℕ) → is_passed s.line c ≡ false) → (c : ℕ) → is_passed (keep_on s bs).line c ≡ false
stays_plain s [] h c = ap (λ (x : State). is_passed x.line c) (keep-none s) ∙ h c
stays_plain s (b ∷ bs) h c =
    ap (λ (x : State). is_passed x.line c) (sym (keep-more s b bs)) ∙ stays_plain (keep_on s (b ∷ [])) bs (λ d. kept-plain s b d (h b)) c

module _ (lent tally : List ℕ) where
  abbrev start : State
  start = state_with lent fresh_line tally

  plain-on : (b : ℕ) (bs : List ℕ) → eqb b 35 ≡ false → (c : ℕ) → is_passed (standing lent tally (b ∷ bs)).line c ≡ false
  plain-on b bs e c =
      ap (λ (x : State). is_passed x.line c) (sym (keep-more start b bs)) ∙ stays_plain (keep_on start (b ∷ [])) bs (λ d. kept-plain start b d e) c

  begun-on : (b : ℕ) (bs : List ℕ) → eqb b 35 ≡ false → is_begun (standing lent tally (b ∷ bs)).line ≡ true
  begun-on b bs e = let l = (standing lent tally (b ∷ bs)).line in go l.passed (eqb l.end 0) (plain-on b bs e 35)
    where
      go : (p q : Bool) → (p || (q && true)) ≡ false → (p || not q) ≡ true
      go true q e = refl
      go false true e = absurd (true≢false e)
      go false false e = refl

  keep_append : (l : List ℕ) (b : ℕ) → keep_on (standing lent tally l) (b ∷ []) ≡ standing lent tally (l ++ (b ∷ []))
  unfolding keep_on
  keep_append l b = ap (λ (h : Held). state_with h.kept h.line tally) (sym (each_append kept_one l (b ∷ []) (held lent fresh_line)))

-- ---- from any place of the input on

-- o is handed out, l stands of the line, and bs is left
record Says (r : Run) (o l bs tally : List ℕ) : Type 0 where
  pub output : (finished r).out ≡ o ++ for (cut l bs) round_line
  pub counts : (finished r).state.tally ≡ each (λ line. tallied (outcome_of line)) (cut l bs) tally

record Both (bs : List ℕ) : Type 0 where
  pub keeps : (lent tally l o : List ℕ) → length lent ≡ 256 → length l + length bs < top → is_plain l ≡ false → Says (each stepped bs (run (standing lent tally l) o)) o l bs tally
  pub hands : (kept tally : List ℕ) (x : Line) (l o : List ℕ) → length kept ≡ 256 → length bs < top → Says (each stepped bs (run (state_with kept (passed_line x) tally) (o ++ (35 ∷ l)))) o (35 ∷ l) bs tally

cut-ten : (l : List ℕ) (b : ℕ) (bs : List ℕ) → eqb b 10 ≡ true → cut l (b ∷ bs) ≡ l ∷ cut [] bs
unfolding cut
cut-ten l b bs e = cond-true (eqb b 10) (l ∷ cut [] bs) (cut (l ++ (b ∷ [])) bs) e

cut_on : (l : List ℕ) (b : ℕ) (bs : List ℕ) → eqb b 10 ≡ false → cut l (b ∷ bs) ≡ cut (l ++ (b ∷ [])) bs
unfolding cut
cut_on l b bs e = cond-false (eqb b 10) (l ∷ cut [] bs) (cut (l ++ (b ∷ [])) bs) e

-- a line ended, and the rest of the input says the rest
after_line : {r : Run} (o l : List ℕ) (b : ℕ) (bs tally : List ℕ) → eqb b 10 ≡ true → Says r (o ++ round_line l) [] bs (tallied (outcome_of l) tally) → Says r o l (b ∷ bs) tally
unfolding each for
after_line o l b bs tally e w =
    let c = sym (cut-ten l b bs e) in
    record {
      output = w.output ∙ append_assoc o (round_line l) (for (cut [] bs) round_line) ∙ ap (λ (ls : List (List ℕ)). o ++ for ls round_line) c;
      counts = w.counts ∙ ap (λ (ls : List (List ℕ)). each (λ line. tallied (outcome_of line)) ls tally) c;
    }

longer-line : {r : Run} (o l : List ℕ) (b : ℕ) (bs tally : List ℕ) → eqb b 10 ≡ false → Says r o (l ++ (b ∷ [])) bs tally → Says r o l (b ∷ bs) tally
longer-line o l b bs tally e w =
    let c = sym (cut_on l b bs e) in
    record {
      output = w.output ∙ ap (λ (ls : List (List ℕ)). o ++ for ls round_line) c;
      counts = w.counts ∙ ap (λ (ls : List (List ℕ)). each (λ line. tallied (outcome_of line)) ls tally) c;
    }

says_at : {r q : Run} {o l bs tally : List ℕ} → r ≡ q → Says q o l bs tally → Says r o l bs tally
says_at {r} {q} {o} {l} {bs} {tally} e w = subst (λ (x : Run). Says x o l bs tally) (sym e) w

-- the end of the input

last_says : (s : State) (o l tally : List ℕ) → is_begun s.line ≡ true → done_bytes s ≡ round_line l → (done_state s).tally ≡ tallied (outcome_of l) tally → (last_line l ≡ l ∷ []) → Says (run s o) o l [] tally
unfolding cut each for
last_says s o l tally e bytes counts one =
    record {
      output = ap (λ (x : List ℕ). o ++ x) (sym (begun-bytes s e) ∙ bytes ∙ sym (append-nil (round_line l))) ∙ ap (λ (ls : List (List ℕ)). o ++ for ls round_line) (sym one);
      counts = ap (λ (x : State). x.tally) (sym (begun-state s e)) ∙ counts ∙ ap (λ (ls : List (List ℕ)). each (λ line. tallied (outcome_of line)) ls tally) (sym one);
    }

none-says : (lent tally o : List ℕ) → Says (run (standing lent tally []) o) o [] [] tally
unfolding cut each for keep_on
none-says lent tally o =
    let s = state_with lent fresh_line tally in
    record { output = ap (λ (x : List ℕ). o ++ x) (sym (unbegun-bytes s refl)); counts = ap (λ (x : State). x.tally) (sym (unbegun-state s refl)) }

end-keeps : (lent tally l o : List ℕ) → length lent ≡ 256 → length l < top → is_plain l ≡ false → Says (run (standing lent tally l) o) o l [] tally
end-keeps lent tally [] o size few plain = none-says lent tally o
end-keeps lent tally (b ∷ bs) o size few plain =
    let l = b ∷ bs in
    last_says (standing lent tally l) o l tally (begun-on lent tally b bs plain) (line-bytes lent tally l size few plain)
    (ap (λ (x : State). x.tally) (line-state lent tally l size few plain) ∙ ap (λ (x : State). x.tally) (keep-none (state_with (standing lent tally l).kept fresh_line (tallied (outcome_of l) tally)))) refl

-- what is handed on has all its bytes out, and its byte 10 comes
hash-done : (kept tally : List ℕ) (x : Line) (l o : List ℕ) → let s = state_with kept (passed_line x) tally in (o ++ (35 ∷ l)) ++ done_bytes s ≡ o ++ round_line (35 ∷ l)
hash-done kept tally x l o =
    let s = state_with kept (passed_line x) tally in
    ap (λ (y : List ℕ). (o ++ (35 ∷ l)) ++ y) (sym (passed-bytes s refl)) ∙ append_assoc o (35 ∷ l) (10 ∷ []) ∙ ap (λ (y : List ℕ). o ++ y) (sym (hash-bytes l))

end-hands : (kept tally : List ℕ) (x : Line) (l o : List ℕ) → Says (run (state_with kept (passed_line x) tally) (o ++ (35 ∷ l))) o (35 ∷ l) [] tally
unfolding cut each for
end-hands kept tally x l o =
    let s = state_with kept (passed_line x) tally in
    record {
      output = ap (λ (y : List ℕ). (o ++ (35 ∷ l)) ++ y) (sym (begun-bytes s refl)) ∙ hash-done kept tally x l o ∙ ap (λ (y : List ℕ). o ++ y) (sym (append-nil (round_line (35 ∷ l))));
      counts = ap (λ (y : State). y.tally) (sym (begun-state s refl) ∙ sym (passed-state s refl)) ∙ sym (hash-tally l tally);
    }

plain-longer : (l : List ℕ) (b : ℕ) → is_plain l ≡ false → (l ≡ [] → eqb b 35 ≡ false) → is_plain (l ++ (b ∷ [])) ≡ false
plain-longer [] b p h = h refl
plain-longer (c ∷ cs) b p h = p

cons-not : {c : ℕ} {cs : List ℕ} → ◌≡◌ {A = List ℕ} (c ∷ cs) [] → ⊥
cons-not e = omega (arith, ap length e)

-- one byte more

keeps_on : (b : ℕ) (bs : List ℕ) → Both bs → (lent tally l o : List ℕ) → length lent ≡ 256 → length l + length (b ∷ bs) < top → is_plain l ≡ false → Says (each stepped bs (stepped b (run (standing lent tally l) o))) o l (b ∷ bs) tally
keeps_on b bs ih lent tally l o size few plain = go (eqb b 10) refl l refl
  where
    s : State
    s = standing lent tally l

    ten : eqb b 10 ≡ true → Says (each stepped bs (stepped b (run s o))) o l (b ∷ bs) tally
    ten e =
        let short : length l < top = omega (arith, few) in
        after_line o l b bs tally e
        (says_at (ap (each stepped bs) (step_end b (run s o) e ∙ ap₂ run (line-state lent tally l size short plain) (ap (λ (x : List ℕ). o ++ x) (line-bytes lent tally l size short plain))))
        (ih.keeps s.kept (tallied (outcome_of l) tally) [] (o ++ round_line l) (still lent tally l size short plain) (omega (arith, few)) refl))

    more : eqb b 10 ≡ false → is_passed s.line b ≡ false → (l ≡ [] → eqb b 35 ≡ false) → Says (each stepped bs (stepped b (run s o))) o l (b ∷ bs) tally
    more e p h =
        longer-line o l b bs tally e
        (says_at (ap (each stepped bs) (step_kept b (run s o) e p ∙ ap (λ (x : State). run x o) (keep_append lent tally l b)))
        (ih.keeps lent tally (l ++ (b ∷ [])) o size (omega (arith, few, length-append l (b ∷ []))) (plain-longer l b plain h)))

    begin : eqb b 10 ≡ false → l ≡ [] → eqb b 35 ≡ true → Says (each stepped bs (stepped b (run s o))) o l (b ∷ bs) tally
    begin e none h =
        let first : s ≡ state_with lent fresh_line tally = ap (standing lent tally) none ∙ keep-none (state_with lent fresh_line tally) in
        let hash : b ≡ 35 = eqb-true b 35 h in
        longer-line o l b bs tally e
        (subst (λ (x : List ℕ). Says (each stepped bs (stepped b (run s o))) o (x ++ (b ∷ [])) bs tally) (sym none)
        (says_at (ap (λ (x : State). each stepped bs (stepped b (run x o))) first ∙ ap (each stepped bs) (step-passed b (run (state_with lent fresh_line tally) o) e h))
        (subst (λ (c : ℕ). Says (each stepped bs (run (state_with lent (passed_line fresh_line) tally) (o ++ (c ∷ [])))) o (c ∷ []) bs tally) (sym hash) (ih.hands lent tally fresh_line [] o size (omega (arith, few))))))

    go : (t : Bool) → eqb b 10 ≡ t → (k : List ℕ) → l ≡ k → Says (each stepped bs (stepped b (run s o))) o l (b ∷ bs) tally
    go true e k is = ten e
    go false e [] is = pick (eqb b 35) refl
      where
        pick : (t : Bool) → eqb b 35 ≡ t → Says (each stepped bs (stepped b (run s o))) o l (b ∷ bs) tally
        pick true h = begin e is h
        pick false h = more e (ap (λ (x : State). is_passed x.line b) (ap (standing lent tally) is ∙ keep-none (state_with lent fresh_line tally)) ∙ h) (λ _. h)
    go false e (c ∷ cs) is =
        let plain' : eqb c 35 ≡ false = sym (ap is_plain is) ∙ plain in
        more e (ap (λ (x : List ℕ). is_passed (standing lent tally x).line b) is ∙ plain-on lent tally c cs plain' b) (λ none. absurd (cons-not (sym is ∙ none)))

hands_on : (b : ℕ) (bs : List ℕ) → Both bs → (kept tally : List ℕ) (x : Line) (l o : List ℕ) → length kept ≡ 256 → length (b ∷ bs) < top → Says (each stepped bs (stepped b (run (state_with kept (passed_line x) tally) (o ++ (35 ∷ l))))) o (35 ∷ l) (b ∷ bs) tally
hands_on b bs ih kept tally x l o size few = go (eqb b 10) refl
  where
    s : State
    s = state_with kept (passed_line x) tally

    go : (t : Bool) → eqb b 10 ≡ t → Says (each stepped bs (stepped b (run s (o ++ (35 ∷ l))))) o (35 ∷ l) (b ∷ bs) tally
    go true e =
        after_line o (35 ∷ l) b bs tally e
        (subst (λ (y : List ℕ). Says (each stepped bs (stepped b (run s (o ++ (35 ∷ l))))) (o ++ round_line (35 ∷ l)) [] bs y) (sym (hash-tally l tally))
        (says_at (ap (each stepped bs) (step_end b (run s (o ++ (35 ∷ l))) e ∙ ap₂ run (sym (passed-state s refl) ∙ sym (keep-none (state_with kept fresh_line tally))) (hash-done kept tally x l o)))
        (ih.keeps kept tally [] (o ++ round_line (35 ∷ l)) size (omega (arith, few)) refl)))
    go false e =
        longer-line o (35 ∷ l) b bs tally e
        (says_at (ap (each stepped bs) (step-passed b (run s (o ++ (35 ∷ l))) e refl ∙ ap (run s) (append_assoc o (35 ∷ l) (b ∷ []))))
        (ih.hands kept tally x (l ++ (b ∷ [])) o size (omega (arith, few))))

both : (bs : List ℕ) → Both bs
both [] =
    record {
      keeps = λ lent tally l o size few plain. says_at (each_none (run (standing lent tally l) o)) (end-keeps lent tally l o size (omega (arith, few)) plain);
      hands = λ kept tally x l o size few. says_at (each_none (run (state_with kept (passed_line x) tally) (o ++ (35 ∷ l)))) (end-hands kept tally x l o);
    }
both (b ∷ bs) =
    let ih = both bs in
    record {
      keeps = λ lent tally l o size few plain. says_at (each_first b bs (run (standing lent tally l) o)) (keeps_on b bs ih lent tally l o size few plain);
      hands = λ kept tally x l o size few. says_at (each_first b bs (run (state_with kept (passed_line x) tally) (o ++ (35 ∷ l)))) (hands_on b bs ih kept tally x l o size few);
    }

-- what `finish` writes over lent bytes
last-over : (s : State) (lent : List ℕ) → length lent ≡ 256 → take (length (last_bytes s)) (over (last_bytes s) lent) ≡ last_bytes s
last-over s lent room = take-over (last_bytes s) lent (omega (arith, room, last-short s))

pub cuts-say : CutsSay fresh_state fed fed_bytes last_state last_bytes
cuts-say = record { used = λ s piece some. (used-some s piece some, used-within s piece); cut = λ calls few. whole calls few }
  where
    whole : {s : State} {input out : List ℕ} → Calls fresh_state fed fed_bytes last_state last_bytes s input out → length input < top → Whole fresh_state fed fed_bytes last_state last_bytes s input out
    whole {s} {input} {out} calls few =
        let lent : List ℕ = replicate 256 0 in
        let start = state_with lent fresh_line no_tally in
        let same = calls-step calls ∙ ap (λ (x : State). each stepped input (run x [])) (sym (keep-none start)) in
        let w = (both input).keeps lent no_tally [] [] refl (omega (arith, few)) refl in
        record {
          output = λ lent room. ap (λ (x : List ℕ). out ++ x) (last-over s lent room) ∙ ap (λ (r : Run). (finished r).out) same ∙ w.output;
          tally = ap (λ (r : Run). (finished r).state.tally) same ∙ w.counts;
        }
