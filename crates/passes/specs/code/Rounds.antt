-- Sweeps that end as soon as six passes in a row have removed nothing.
use Rattle.std.specs.Prelude.{◌≡◌, ◌≢◌, List, ℕ, ◌+◌, ◌≤◌, ◌<◌, get_or}
use Rattle.steps.specs.Passes.{Kind, Cross, kinds, pass, sweep}

-- a wide pass by its number in a sweep
unfoldable pub nth_kind : ℕ → Kind
nth_kind i = get_or kinds i Cross

-- of the first n passes of a sweep the last i remove nothing from m
pub record IdleTo (g : List ℕ) (n i : ℕ) (m : List ℕ) : Type 0 where
  pub still : (j : ℕ) → n ≤ j + i → j < n → pass g (nth_kind j) m ≡ m

-- the last i passes of a sweep remove nothing
abbrev pub LastIdle : List ℕ → ℕ → List ℕ → Type 0
LastIdle g i m = IdleTo g 6 i m

-- what a sweep that began with m hands back: the masks n, and how many passes in a row have removed nothing, 6 only where the whole sweep removes nothing
pub record Swept (g m n : List ℕ) (idle : ℕ) : Type 0 where
  pub few : idle ≤ 6
  pub swept : n ≡ sweep g m
  pub stops : idle ≡ 6 → n ≡ m
  pub goes : idle < 6 → (n ≢ m) × LastIdle g idle n
