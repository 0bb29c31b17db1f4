-- The end of a line and a call on a piece: each case, as the code finds it. Assumes nothing.
use mathlib.Core.Path.{◌≡◌, sym, ap, ◌∙◌}
use mathlib.Core.Bool.{Bool, true, false, cond}
use mathlib.Core.List.{List, [], ◌∷◌}
use mathlib.Core.Logic.{◌≢◌}
use Prim.Native.Nat.{ℕ, suc, ◌+◌, ◌≤◌, ◌<◌}
use native.Mathlib.Numerals.{add-one}
use borrow.Author.Tests.{eq-eqb, ne_eqb, lt-ltb, le-ltb}
use lib.Dec.{eqb, ltb}
use lib.ListN.{length, get_or, take, drop, drop_of_length-le}
use lib.Seq.{drop-cons}
use Rattle.candidates.proofs.Tests.{cond-true, cond-false}
use Rattle.rounds.specs.declared.cuts.State.{State}
use Rattle.rounds.specs.declared.cuts.Fed.{Fed}
use Rattle.rounds.specs.Rounds.{outcome_bytes}
use Rattle.rounds.specs.Summaries.{tallied}
use Rattle.rounds.specs.declared.cuts.Out.TheVariants.{Lent}
use Rattle.rounds.specs.code.Cuts.{line_with, state_with, fed_with, fresh_line, held, held_outcome, done_bytes, done_state, line_end, is_passed, pass_on, keep_on, fed, fed_bytes, is_begun, last_bytes, last_state}

pub held_same : {k k' : List ℕ} {e e' g g' : ℕ} {p p' : Bool} (b : ℕ) (q : Bool) → k ≡ k' → e ≡ e' → g ≡ g' → p ≡ p' → held k (line_with e g p b q) ≡ held k' (line_with e' g' p' b q)
held_same b q r s t u = cc

module _ (xs : List ℕ) (i : ℕ) where
  module _ (h : i < length xs) where
    from : line_end (drop i xs) ≡ line_end (get_or xs i 0 ∷ drop (i + 1) xs)
    from = ap line_end (drop-cons xs i 0 h) ∙ ap (λ (k : ℕ). line_end (get_or xs i 0 ∷ drop k xs)) (sym (add-one i))

    pub end-here : get_or xs i 0 ≡ 10 → line_end (drop i xs) ≡ 0
    unfolding line_end
    end-here e = from ∙ cond-true (eqb (get_or xs i 0) 10) 0 (suc (line_end (drop (i + 1) xs))) (eq-eqb (get_or xs i 0) 10 e)

    pub end_later : get_or xs i 0 ≢ 10 → line_end (drop i xs) ≡ suc (line_end (drop (i + 1) xs))
    unfolding line_end
    end_later n = from ∙ cond-false (eqb (get_or xs i 0) 10) 0 (suc (line_end (drop (i + 1) xs))) (ne_eqb (get_or xs i 0) 10 n)

  pub end_none : length xs ≤ i → line_end (drop i xs) ≡ 0
  unfolding line_end
  end_none h = ap line_end (drop_of_length-le xs h)

-- ---- the end of a line

module _ (s : State) where
  abbrev bytes : List ℕ
  bytes = outcome_bytes (take s.line.end s.kept) (held_outcome s)

  module _ (e : s.line.passed ≡ true) where
    pub passed-bytes : 10 ∷ [] ≡ done_bytes s
    unfolding done_bytes
    passed-bytes = sym (cond-true s.line.passed (10 ∷ []) bytes e)

    pub passed-state : state_with s.kept fresh_line s.tally ≡ done_state s
    unfolding done_state
    passed-state = ap (state_with s.kept fresh_line) (sym (cond-true s.line.passed s.tally (tallied (held_outcome s) s.tally) e))

  module _ (e : s.line.passed ≡ false) where
    pub held_bytes : outcome_bytes (take s.line.end s.kept) (held_outcome s) ≡ done_bytes s
    unfolding done_bytes
    held_bytes = sym (cond-false s.line.passed (10 ∷ []) bytes e)

    pub held-state : state_with s.kept fresh_line (tallied (held_outcome s) s.tally) ≡ done_state s
    unfolding done_state
    held-state = ap (state_with s.kept fresh_line) (sym (cond-false s.line.passed s.tally (tallied (held_outcome s) s.tally) e))

  -- ---- the end of the input

  module _ (e : is_begun s.line ≡ true) where
    pub begun-bytes : done_bytes s ≡ last_bytes s
    unfolding last_bytes
    begun-bytes = sym (cond-true (is_begun s.line) (done_bytes s) [] e)

    pub begun-state : done_state s ≡ last_state s
    unfolding last_state
    begun-state = sym (cond-true (is_begun s.line) (done_state s) s e)

  module _ (e : is_begun s.line ≡ false) where
    pub unbegun-bytes : [] ≡ last_bytes s
    unfolding last_bytes
    unbegun-bytes = sym (cond-false (is_begun s.line) (done_bytes s) [] e)

    pub unbegun-state : s ≡ last_state s
    unfolding last_state
    unbegun-state = sym (cond-false (is_begun s.line) (done_state s) s e)

-- ---- a call on a piece

module _ (s : State) (piece : List ℕ) where
  abbrev n : ℕ
  n = line_end piece

  abbrev k : State
  k = keep_on s (take n piece)

  abbrev whole : Fed
  whole = fed_with (done_state k) (n + 1) (Lent (length (done_bytes k)))

  abbrev part : Fed
  part = fed_with k n (Lent 0)

  module _ (e : is_passed s.line (get_or piece 0 0) ≡ true) where
    pub passed-fed : pass_on s (length piece) n ≡ fed s piece
    unfolding fed
    passed-fed = sym (cond-true (is_passed s.line (get_or piece 0 0)) (pass_on s (length piece) n) (cond (ltb n (length piece)) whole part) e)

    pub passed_none : [] ≡ fed_bytes s piece
    unfolding fed_bytes
    passed_none = sym (cond-true (is_passed s.line (get_or piece 0 0)) [] (cond (ltb n (length piece)) (done_bytes k) []) e)

  module _ (e : is_passed s.line (get_or piece 0 0) ≡ false) where
    pub whole-fed : n < length piece → whole ≡ fed s piece
    unfolding fed
    whole-fed h =
        sym (cond-true (ltb n (length piece)) whole part (lt-ltb n (length piece) h))
        ∙ sym (cond-false (is_passed s.line (get_or piece 0 0)) (pass_on s (length piece) n) (cond (ltb n (length piece)) whole part) e)

    pub whole-bytes : n < length piece → done_bytes k ≡ fed_bytes s piece
    unfolding fed_bytes
    whole-bytes h =
        sym (cond-true (ltb n (length piece)) (done_bytes k) [] (lt-ltb n (length piece) h))
        ∙ sym (cond-false (is_passed s.line (get_or piece 0 0)) [] (cond (ltb n (length piece)) (done_bytes k) []) e)

    pub part-fed : length piece ≤ n → part ≡ fed s piece
    unfolding fed
    part-fed h =
        sym (cond-false (ltb n (length piece)) whole part (le-ltb n (length piece) h))
        ∙ sym (cond-false (is_passed s.line (get_or piece 0 0)) (pass_on s (length piece) n) (cond (ltb n (length piece)) whole part) e)

    pub part_none : length piece ≤ n → [] ≡ fed_bytes s piece
    unfolding fed_bytes
    part_none h =
        sym (cond-false (ltb n (length piece)) (done_bytes k) [] (le-ltb n (length piece) h))
        ∙ sym (cond-false (is_passed s.line (get_or piece 0 0)) [] (cond (ltb n (length piece)) (done_bytes k) []) e)
