-- A call on a piece does what its bytes do, one after the other. Assumes nothing.
use mathlib.Core.Path.{◌≡◌, refl, sym, ap, ap₂, subst, ◌∙◌}
use mathlib.Core.Bool.{Bool, true, false, cond, ◌&&◌, ◌||◌}
use mathlib.Core.List.{List, [], ◌∷◌, ◌++◌, append-nil, append_assoc}
use Prim.Native.Nat.{ℕ, suc, ◌+◌, ◌≤◌, ◌<◌}
use native.Mathlib.Numerals.{add-one}
use native.Mathlib.Decide.{dec_lt}
use native.Mathlib.Omega.{arith}
use borrow.Author.Tests.{eqb-true, eq-eqb, ne_eqb, ltb-false, lt-ltb, le-ltb}
use lib.Dec.{eqb, ltb}
use lib.ListN.{length, get_or, take, set}
use lib.Seq.{take-suc}
use Rattle.candidates.proofs.Tests.{by-test, cond-true, cond-false, neither}
use Rattle.steps.specs.Loops.{each}
use Rattle.steps.proofs.Loops.{each_append}
use Rattle.output.specs.Lent.{over}
use Rattle.output.specs.code.Tapes.{Tape, tape, pushed}
use Rattle.rounds.specs.declared.cuts.Line.{Line}
use Rattle.rounds.specs.declared.cuts.State.{State}
use Rattle.rounds.specs.declared.cuts.Fed.{Fed}
use Rattle.rounds.specs.Promises.{handed_out}
use Rattle.rounds.specs.declared.cuts.Out.TheVariants.{Piece}
use Rattle.rounds.specs.code.Cuts.{state_with, fed_with, fresh_line, passed_line, kept_one, done_bytes, done_state, line_end, is_passed, pass_on, keep_on, fed, fed_bytes, Run, run, line_done, passed_one, keep_one, stepped}
use Rattle.rounds.proofs.Cutting.{passed-bytes, passed-state, passed-fed, passed_none, whole-fed, whole-bytes, part-fed, part_none}
use Rattle.rounds.proofs.Held.{take-over}
use Rattle.rounds.proofs.Short.{done-short}

-- ---- one byte

module _ (b : ℕ) (r : Run) where
  abbrev other : Run
  other = cond (is_passed r.state.line b) (passed_one b r) (keep_one b r)

  pub step_end : eqb b 10 ≡ true → stepped b r ≡ line_done r
  unfolding stepped
  step_end e = cond-true (eqb b 10) (line_done r) other e

  module _ (e : eqb b 10 ≡ false) where
    pub step-passed : is_passed r.state.line b ≡ true → stepped b r ≡ passed_one b r
    unfolding stepped
    step-passed p = cond-false (eqb b 10) (line_done r) other e ∙ cond-true (is_passed r.state.line b) (passed_one b r) (keep_one b r) p

    pub step_kept : is_passed r.state.line b ≡ false → stepped b r ≡ keep_one b r
    unfolding stepped
    step_kept p = cond-false (eqb b 10) (line_done r) other e ∙ cond-false (is_passed r.state.line b) (passed_one b r) (keep_one b r) p

-- once a byte is kept, the line is not one that is handed on
pub kept-plain : (s : State) (b c : ℕ) → is_passed s.line b ≡ false → is_passed (keep_on s (b ∷ [])).line c ≡ false
unfolding keep_on kept_one each pushed
kept-plain s b c e =
    let p = ((neither s.line.passed (eqb s.line.end 0 && eqb b 35)).0 e).0 in
    rw (p, some)
  where
    some : eqb (cond (ltb s.line.end 256) (tape (set s.kept s.line.end b) (s.line.end + 1)) (tape s.kept s.line.end)).end 0 ≡ false
    some = by-test (λ (t : Tape). eqb t.end 0 ≡ false) (ltb s.line.end 256) (tape (set s.kept s.line.end b) (s.line.end + 1)) (tape s.kept s.line.end) (λ t. ne_eqb (s.line.end + 1) 0 (λ e. omega (arith, e))) (λ t. ne_eqb s.line.end 0 (λ e. omega (arith, e, ltb-false s.line.end 256 t)))

-- ---- the bytes before the first byte 10

end-ten : (b : ℕ) (bs : List ℕ) → eqb b 10 ≡ true → line_end (b ∷ bs) ≡ 0
unfolding line_end
end-ten b bs e = cond-true (eqb b 10) 0 (suc (line_end bs)) e

end_on : (b : ℕ) (bs : List ℕ) → eqb b 10 ≡ false → line_end (b ∷ bs) ≡ suc (line_end bs)
unfolding line_end
end_on b bs e = cond-false (eqb b 10) 0 (suc (line_end bs)) e

abbrev front : List ℕ → List ℕ
front piece = take (line_end piece) piece

front-ten : (b : ℕ) (bs : List ℕ) → eqb b 10 ≡ true → front (b ∷ bs) ≡ []
front-ten b bs e = ap (λ (n : ℕ). take n (b ∷ bs)) (end-ten b bs e)

front-on : (b : ℕ) (bs : List ℕ) → eqb b 10 ≡ false → front (b ∷ bs) ≡ b ∷ front bs
front-on b bs e = ap (λ (n : ℕ). take n (b ∷ bs)) (end_on b bs e)

pub each_first : (b : ℕ) (bs : List ℕ) (r : Run) → each stepped (b ∷ bs) r ≡ each stepped bs (stepped b r)
unfolding each
each_first b bs r = refl

pub each_none : (r : Run) → each stepped [] r ≡ r
unfolding each
each_none r = refl

module _ (kept tally : List ℕ) (l : Line) where
  abbrev on : State
  on = state_with kept (passed_line l) tally

  run-passed : (piece o : List ℕ) → each stepped (front piece) (run on o) ≡ run on (o ++ front piece)
  unfolding line_end
  run-passed [] o = each_none (run on o) ∙ ap (run on) (sym (append-nil o))
  run-passed (b ∷ bs) o = go (eqb b 10) refl (run-passed bs (o ++ (b ∷ [])))
    where
      go : (t : Bool) → eqb b 10 ≡ t → each stepped (front bs) (run on (o ++ (b ∷ []))) ≡ run on ((o ++ (b ∷ [])) ++ front bs) → each stepped (front (b ∷ bs)) (run on o) ≡ run on (o ++ front (b ∷ bs))
      go true e more =
          let f = front-ten b bs e in
          ap (λ (x : List ℕ). each stepped x (run on o)) f ∙ each_none (run on o) ∙ ap (run on) (sym (append-nil o)) ∙ ap (λ (x : List ℕ). run on (o ++ x)) (sym f)
      go false e more =
          let f = front-on b bs e in
          ap (λ (x : List ℕ). each stepped x (run on o)) f
          ∙ each_first b (front bs) (run on o)
          ∙ ap (each stepped (front bs)) (step-passed b (run on o) e refl)
          ∙ more
          ∙ ap (run on) (append_assoc o (b ∷ []) (front bs))
          ∙ ap (λ (x : List ℕ). run on (o ++ x)) (sym f)

passed-alone : (p q : Bool) → (p || (q && false)) ≡ true → p ≡ true
passed-alone true q e = refl
passed-alone false true e = e
passed-alone false false e = e

module _ (s : State) where
  abbrev handing : State
  handing = state_with s.kept (passed_line s.line) s.tally

  same-passed : s.line.passed ≡ true → s ≡ handing
  same-passed e = ap (λ (t : Bool). state_with s.kept (record { end = s.line.end; grid = s.line.grid; parted = s.line.parted; last = s.line.last; passed = t }) s.tally) e

  first-passed : (piece o : List ℕ) → is_passed s.line (get_or piece 0 0) ≡ true → each stepped (front piece) (run s o) ≡ run handing (o ++ front piece)
  unfolding line_end
  first-passed [] o p =
      each_none (run s o) ∙ ap₂ run (same-passed (passed-alone s.line.passed (eqb s.line.end 0) p)) (sym (append-nil o))
  first-passed (b ∷ bs) o p = go (eqb b 10) refl
    where
      go : (t : Bool) → eqb b 10 ≡ t → each stepped (front (b ∷ bs)) (run s o) ≡ run handing (o ++ front (b ∷ bs))
      go true e =
          let f = front-ten b bs e in
          let q = subst (λ (x : ℕ). is_passed s.line x ≡ true) (eqb-true b 10 e) p in
          ap (λ (x : List ℕ). each stepped x (run s o)) f ∙ each_none (run s o)
          ∙ ap₂ run (same-passed (passed-alone s.line.passed (eqb s.line.end 0) q)) (sym (append-nil o)) ∙ ap (λ (x : List ℕ). run handing (o ++ x)) (sym f)
      go false e =
          let f = front-on b bs e in
          ap (λ (x : List ℕ). each stepped x (run s o)) f
          ∙ each_first b (front bs) (run s o)
          ∙ ap (each stepped (front bs)) (step-passed b (run s o) e p)
          ∙ run-passed s.kept s.tally s.line bs (o ++ (b ∷ []))
          ∙ ap (run handing) (append_assoc o (b ∷ []) (front bs))
          ∙ ap (λ (x : List ℕ). run handing (o ++ x)) (sym f)

pub keep-none : (s : State) → keep_on s [] ≡ s
unfolding keep_on each
keep-none s = refl

pub keep-more : (s : State) (b : ℕ) (bs : List ℕ) → keep_on (keep_on s (b ∷ [])) bs ≡ keep_on s (b ∷ bs)
unfolding keep_on each
keep-more s b bs = refl

run-kept : (s : State) (piece o : List ℕ) → is_passed s.line (get_or piece 0 0) ≡ false → each stepped (front piece) (run s o) ≡ run (keep_on s (front piece)) o
unfolding line_end
run-kept s [] o p = each_none (run s o) ∙ ap (λ (x : State). run x o) (sym (keep-none s))
run-kept s (b ∷ bs) o p = go (eqb b 10) refl (run-kept (keep_on s (b ∷ [])) bs o (kept-plain s b (get_or bs 0 0) p))
  where
    go : (t : Bool) → eqb b 10 ≡ t → each stepped (front bs) (run (keep_on s (b ∷ [])) o) ≡ run (keep_on (keep_on s (b ∷ [])) (front bs)) o → each stepped (front (b ∷ bs)) (run s o) ≡ run (keep_on s (front (b ∷ bs))) o
    go true e more =
        let f = front-ten b bs e in
        ap (λ (x : List ℕ). each stepped x (run s o)) f ∙ each_none (run s o) ∙ ap (λ (x : State). run x o) (sym (keep-none s)) ∙ ap (λ (x : List ℕ). run (keep_on s x) o) (sym f)
    go false e more =
        let f = front-on b bs e in
        ap (λ (x : List ℕ). each stepped x (run s o)) f
        ∙ each_first b (front bs) (run s o)
        ∙ ap (each stepped (front bs)) (step_kept b (run s o) e p)
        ∙ more
        ∙ ap (λ (x : State). run x o) (keep-more s b (front bs))
        ∙ ap (λ (x : List ℕ). run (keep_on s x) o) (sym f)

-- ---- the byte 10

ten-at : (xs : List ℕ) → line_end xs < length xs → get_or xs (line_end xs) 0 ≡ 10
ten-at [] h = absurd (omega arith)
ten-at (b ∷ bs) h = go (eqb b 10) refl (ten-at bs)
  where
    go : (t : Bool) → eqb b 10 ≡ t → (line_end bs < length bs → get_or bs (line_end bs) 0 ≡ 10) → get_or (b ∷ bs) (line_end (b ∷ bs)) 0 ≡ 10
    go true e more = ap (λ (n : ℕ). get_or (b ∷ bs) n 0) (end-ten b bs e) ∙ eqb-true b 10 e
    go false e more = ap (λ (n : ℕ). get_or (b ∷ bs) n 0) (end_on b bs e) ∙ more (omega (arith, h, end_on b bs e))

module _ (piece : List ℕ) (h : line_end piece < length piece) (r : Run) {t : Run} where
  -- the bytes before it make t of r
  pub with-ten : each stepped (front piece) r ≡ t → each stepped (take (line_end piece + 1) piece) r ≡ line_done t
  with-ten e =
      ap (λ (x : List ℕ). each stepped x r) (ap (λ (n : ℕ). take n piece) (add-one (line_end piece)) ∙ take-suc piece (line_end piece) 0 h ∙ ap (λ (b : ℕ). front piece ++ (b ∷ [])) (ten-at piece h))
      ∙ each_append stepped (front piece) (10 ∷ []) r
      ∙ ap (each stepped (10 ∷ [])) e
      ∙ each_first 10 [] t
      ∙ each_none (stepped 10 t)
      ∙ step_end 10 t (eq-eqb 10 10 refl)

-- ---- a call

module _ (s : State) (piece lent o : List ℕ) where
  abbrev Goes : Fed → List ℕ → Type 0
  Goes f bytes = run f.state (o ++ handed_out f piece (over bytes lent)) ≡ each stepped (take f.used piece) (run s o)

  goes_by : {f : Fed} {bytes : List ℕ} → f ≡ fed s piece → bytes ≡ fed_bytes s piece → Goes f bytes → Goes (fed s piece) (fed_bytes s piece)
  goes_by {f} {bytes} p q g = subst (λ (x : Fed). Goes x (fed_bytes s piece)) p (subst (λ (x : List ℕ). Goes f x) q g)

  pass-whole : line_end piece < length piece → fed_with (state_with s.kept fresh_line s.tally) (line_end piece + 1) (Piece (line_end piece + 1)) ≡ pass_on s (length piece) (line_end piece)
  unfolding pass_on
  pass-whole h = sym (cond-true (ltb (line_end piece) (length piece)) (fed_with (state_with s.kept fresh_line s.tally) (line_end piece + 1) (Piece (line_end piece + 1))) (fed_with (handing s) (line_end piece) (Piece (line_end piece))) (lt-ltb (line_end piece) (length piece) h))

  pass-part : length piece ≤ line_end piece → fed_with (handing s) (line_end piece) (Piece (line_end piece)) ≡ pass_on s (length piece) (line_end piece)
  unfolding pass_on
  pass-part h = sym (cond-false (ltb (line_end piece) (length piece)) (fed_with (state_with s.kept fresh_line s.tally) (line_end piece + 1) (Piece (line_end piece + 1))) (fed_with (handing s) (line_end piece) (Piece (line_end piece))) (le-ltb (line_end piece) (length piece) h))

  -- "the first n bytes, with the byte 10 after them"
  ended-front : line_end piece < length piece → (o ++ front piece) ++ (10 ∷ []) ≡ o ++ take (line_end piece + 1) piece
  ended-front h =
      append_assoc o (front piece) (10 ∷ [])
      ∙ ap (λ (x : List ℕ). o ++ x) (sym (ap (λ (n : ℕ). take n piece) (add-one (line_end piece)) ∙ take-suc piece (line_end piece) 0 h ∙ ap (λ (b : ℕ). front piece ++ (b ∷ [])) (ten-at piece h)))

  pub fed-goes : length lent ≡ 256 → Goes (fed s piece) (fed_bytes s piece)
  fed-goes room = go (is_passed s.line (get_or piece 0 0)) refl (dec_lt (line_end piece) (length piece))
    where
      go : (t : Bool) → is_passed s.line (get_or piece 0 0) ≡ t → Dec (line_end piece < length piece) → Goes (fed s piece) (fed_bytes s piece)
      go true p (yes h) =
          goes_by (pass-whole h ∙ passed-fed s piece p) (passed_none s piece p)
          (ap₂ run (passed-state (handing s) refl) (sym (ended-front h) ∙ ap (λ (x : List ℕ). (o ++ front piece) ++ x) (passed-bytes (handing s) refl))
          ∙ sym (with-ten piece h (run s o) (first-passed s piece o p)))
      go true p (no h) = goes_by (pass-part (omega arith) ∙ passed-fed s piece p) (passed_none s piece p) (sym (first-passed s piece o p))
      go false p (yes h) =
          let k = keep_on s (front piece) in
          let made = take-over (done_bytes k) lent (omega (arith, room, done-short k)) in
          goes_by (whole-fed s piece p h) (whole-bytes s piece p h) (ap (λ (x : List ℕ). run (done_state k) (o ++ x)) made ∙ sym (with-ten piece h (run s o) (run-kept s piece o p)))
      go false p (no h) =
          let all : length piece ≤ line_end piece = omega arith in
          goes_by (part-fed s piece p all) (part_none s piece p all) (ap (run (keep_on s (front piece))) (append-nil o) ∙ sym (run-kept s piece o p))
