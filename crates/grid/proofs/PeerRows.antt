-- The peer table keeps its promise: its rows are the peers of the cells, and what is known of the peers holds of them. Assumes nothing.
use mathlib.Core.Path.{◌≡◌, sym, ap, ◌∙◌, subst}
use mathlib.Core.Logic.{◌↔◌}
use mathlib.Core.List.{List, [], Memᴰ}
use Prim.Native.Nat.{ℕ, ◌<◌}
use lib.Dec.{ltb, ltb→lt}
use lib.ListN.{length, get_or}
use Rattle.candidates.proofs.Tests.{all_below, below, below_both}
use Rattle.grid.specs.Cells.{cells, peers, peer_table}
use Rattle.grid.specs.Units.{ShareUnit}
use Rattle.grid.specs.PeerRows.{PeerRows}
use Rattle.grid.proofs.Cells.{at_cells, cells-size, twenty, peer-sees, sees-peer, sees-shared, shared_sees}
use Rattle.grid.proofs.Units.{member_below}

pub peer-row : (c : ℕ) → c < 81 → get_or peer_table c [] ≡ peers c
unfolding peer_table
peer-row c h = at_cells [] peers c h

peers-rise : (c i j : ℕ) → c < 81 → i < j → j < 20 → get_or (peers c) i 0 < get_or (peers c) j 0
unfolding peers cells
peers-rise c i j h l k =
    ltb→lt (get_or (peers c) i 0) (get_or (peers c) j 0)
    (below j (λ i. ltb (get_or (peers c) i 0) (get_or (peers c) j 0))
    (below_both 81 20 (λ c j. all_below j (λ i. ltb (get_or (peers c) i 0) (get_or (peers c) j 0))) tt c j h k) i l)

pub peer-rows : PeerRows peer_table
unfolding peer_table
peer-rows = record {
  rows = cells-size peers;
  twenty = λ c h. ap (λ (l : List ℕ). length l) (peer-row c h) ∙ twenty c h;
  rising = λ c i j h l k. subst (λ (p : List ℕ). get_or p i 0 < get_or p j 0) (sym (peer-row c h)) (peers-rise c i j h l k);
  exactly = λ c e h. subst (λ (p : List ℕ). Memᴰ e p ↔ ShareUnit c e) (sym (peer-row c h)) (down c e h, up c e);
}
  where
    down : (c e : ℕ) → c < 81 → Memᴰ e (peers c) → ShareUnit c e
    down c e h m = let p = peer-sees c e m in sees-shared c e h p.0 p.1

    up : (c e : ℕ) → ShareUnit c e → Memᴰ e (peers c)
    up c e s = sees-peer c e (member_below s.within s.second) (shared_sees s)
