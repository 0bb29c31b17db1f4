-- Cutting bytes into lines: what a call does with a piece of the input, and the same byte by byte.
use Rattle.std.specs.Prelude.{Bool, true, false, cond, not, ◌&&◌, ◌||◌, List, [], ◌∷◌, ◌++◌, ℕ, suc, ◌+◌, ◌-◌, min, eqb, ltb, length, get_or, take, replicate}
use Rattle.steps.specs.Loops.{each}
use Rattle.output.specs.code.Tapes.{tape, pushed}
use Rattle.rounds.specs.declared.cuts.Line.{Line}
use Rattle.rounds.specs.declared.cuts.State.{State}
use Rattle.rounds.specs.declared.cuts.Out.{Out}
use Rattle.rounds.specs.declared.cuts.Out.TheVariants.{Piece, Lent}
use Rattle.rounds.specs.declared.cuts.Fed.{Fed}
use Rattle.rounds.specs.Lines.{is_separator}
use Rattle.rounds.specs.Rounds.{Outcome, outcome_bytes}
use Rattle.rounds.specs.Summaries.{top, counted, tallied, no_tally}
use Rattle.rounds.specs.code.Kept.{outcome_from}

abbrev pub line_with : ℕ → ℕ → Bool → ℕ → Bool → Line
line_with end grid parted last passed = record { end = end; grid = grid; parted = parted; last = last; passed = passed }

abbrev pub state_with : List ℕ → Line → List ℕ → State
state_with kept line tally = record { kept = kept; line = line; tally = tally }

abbrev pub fed_with : State → ℕ → Out → Fed
fed_with state used out = record { state = state; used = used; out = out }

abbrev pub fresh_line : Line
fresh_line = line_with 0 0 false 0 false

abbrev pub fresh_state : State
fresh_state = state_with (replicate 256 0) fresh_line no_tally

-- ---- one more byte of a line that is kept

pub record Held : Type 0 where
  pub kept : List ℕ
  pub line : Line

abbrev pub held : List ℕ → Line → Held
held kept line = record { kept = kept; line = line }

-- the grid grows up to the first separator
abbrev pub grown : Bool → ℕ → ℕ
grown parted grid = cond parted grid (counted grid)

unfoldable pub kept_one : ℕ → Held → Held
kept_one b h =
    let t = pushed 256 (tape h.kept h.line.end) b in
    let parted = h.line.parted || is_separator b in
    held t.bytes (line_with t.end (grown parted h.line.grid) parted b h.line.passed)

-- ---- the end of a line

-- the length of its grid: where no separator came, a final carriage return is none of it
abbrev pub bare_grid : Line → ℕ
bare_grid l = cond l.parted l.grid (cond (eqb l.last 13) (l.grid - 1) l.grid)

unfoldable pub whole_of : Line → ℕ
whole_of l = min top (bare_grid l)

abbrev pub held_outcome : State → Outcome
held_outcome s = outcome_from (take s.line.end s.kept) (whole_of s.line)

-- a line that was handed on as it came has its byte 10 left
unfoldable pub done_bytes : State → List ℕ
done_bytes s = cond s.line.passed (10 ∷ []) (outcome_bytes (take s.line.end s.kept) (held_outcome s))

unfoldable pub done_state : State → State
done_state s = state_with s.kept fresh_line (cond s.line.passed s.tally (tallied (held_outcome s) s.tally))

-- ---- a call on a piece

-- how many bytes stand before the first byte 10
unfoldable pub line_end : List ℕ → ℕ
line_end [] = 0
line_end (b ∷ bs) = let rest = line_end bs in cond (eqb b 10) 0 (suc rest)

-- the line began with `#`, or does so with this byte
abbrev pub is_passed : Line → ℕ → Bool
is_passed l b = l.passed || (eqb l.end 0 && eqb b 35)

abbrev pub passed_line : Line → Line
passed_line l = line_with l.end l.grid l.parted l.last true

-- the bytes of the piece, with the byte 10 where there is one, as they are
unfoldable pub pass_on : State → ℕ → ℕ → Fed
pass_on s length end =
    cond (ltb end length) (fed_with (state_with s.kept fresh_line s.tally) (end + 1) (Piece (end + 1))) (fed_with (state_with s.kept (passed_line s.line) s.tally) end (Piece end))

unfoldable pub keep_on : State → List ℕ → State
keep_on s bytes =
    let h = each kept_one bytes (held s.kept s.line) in
    state_with h.kept h.line s.tally

unfoldable pub fed : State → List ℕ → Fed
fed s piece =
    let n = line_end piece in
    let k = keep_on s (take n piece) in
    cond (is_passed s.line (get_or piece 0 0)) (pass_on s (length piece) n)
    (cond (ltb n (length piece)) (fed_with (done_state k) (n + 1) (Lent (length (done_bytes k)))) (fed_with k n (Lent 0)))

-- what it makes of its own: nothing where bytes are handed on as they are
unfoldable pub fed_bytes : State → List ℕ → List ℕ
fed_bytes s piece =
    let n = line_end piece in
    cond (is_passed s.line (get_or piece 0 0)) [] (cond (ltb n (length piece)) (done_bytes (keep_on s (take n piece))) [])

-- a last line that no byte 10 ends
abbrev pub is_begun : Line → Bool
is_begun l = l.passed || not (eqb l.end 0)

unfoldable pub last_bytes : State → List ℕ
last_bytes s = cond (is_begun s.line) (done_bytes s) []

unfoldable pub last_state : State → State
last_state s = cond (is_begun s.line) (done_state s) s

-- ---- the same byte by byte, with all that is handed out

pub record Run : Type 0 where
  pub state : State
  pub out : List ℕ

abbrev pub run : State → List ℕ → Run
run state out = record { state = state; out = out }

abbrev pub line_done : Run → Run
line_done r = run (done_state r.state) (r.out ++ done_bytes r.state)

abbrev pub passed_one : ℕ → Run → Run
passed_one b r = run (state_with r.state.kept (passed_line r.state.line) r.state.tally) (r.out ++ (b ∷ []))

abbrev pub keep_one : ℕ → Run → Run
keep_one b r = run (keep_on r.state (b ∷ [])) r.out

unfoldable pub stepped : ℕ → Run → Run
stepped b r = cond (eqb b 10) (line_done r) (cond (is_passed r.state.line b) (passed_one b r) (keep_one b r))

abbrev pub finished : Run → Run
finished r = run (last_state r.state) (r.out ++ last_bytes r.state)
