-- The promise on the peer table (document 02, F-12): "a peer table of 1,620 cell numbers, 81 rows of 20, rising", where "each peer row is .. exactly the
-- other cells that share a unit with its cell, over the whole table together".
use Rattle.std.specs.Prelude.{◌≡◌, ◌↔◌, ℕ, ◌<◌, length, get_or}
use mathlib.Core.List.{List, [], Memᴰ}
use Rattle.grid.specs.Units.{ShareUnit}

pub record PeerRows (table : List (List ℕ)) : Type 0 where
  pub rows : length table ≡ 81
  pub twenty : (c : ℕ) → c < 81 → length (get_or table c []) ≡ 20
  pub rising : (c i j : ℕ) → c < 81 → i < j → j < 20 → get_or (get_or table c []) i 0 < get_or (get_or table c []) j 0
  pub exactly : (c e : ℕ) → c < 81 → Memᴰ e (get_or table c []) ↔ ShareUnit c e
