-- The X-chain pass (document 02, F-9), "the published one" beside the ported chain pass: strong links at both ends, so that no correct filling is lost.
-- First in words, by "there is" and "for all" over cells and links; then the search, which `x_chains` is; that the two are the same is `XChainLaws`, which proofs/XChains.antt shows.
use Rattle.std.specs.Prelude.{◌≡◌, ◌≢◌, ◌⊎◌, ◌↔◌, Bool, false, cond, not, ◌&&◌, List, [], ◌∷◌, ◌++◌, ℕ, zero, suc, ◌+◌, ◌-◌, ◌*◌, ◌<◌, leb, length}
use Rattle.candidates.specs.Masks.{single}
use Rattle.grid.specs.Cells.{sees, cells}
use Rattle.grid.specs.Units.{Member, ShareUnit}
use Rattle.steps.specs.Boards.{at, is_open}
use Rattle.steps.specs.Chains.{on_path, links}
use Rattle.steps.specs.Loops.{each, for, select, any, up_to}
use Rattle.steps.specs.Ported.{holds}
use Rattle.steps.specs.Published.{Open, Holder, Without, Turns}
use Rattle.steps.specs.Steps.{lose_all}

-- ---- in words: g are the givens, m the masks, d a place

-- "strong (row, column, box with exactly two open holders ..)"
pub record StrongLink (g m : List ℕ) (d c e : ℕ) : Type 0 where
  pub two : ShareUnit c e
  pub holder₁ : Holder g m d c
  pub holder₂ : Holder g m d e
  pub alone : (x : ℕ) → Member two.shared x → Holder g m d x → (x ≡ c) ⊎ (x ≡ e)

-- "weak links (other open holders seen ..)"
pub record WeakLink (g m : List ℕ) (d c e : ℕ) : Type 0 where
  pub two : ShareUnit c e
  pub holder₁ : Holder g m d c
  pub holder₂ : Holder g m d e

-- "A chain has 4 or 6 different open cells, its links in turn strong and weak, strong at both ends."
pub record XChain (g m : List ℕ) (d : ℕ) (cs : List ℕ) : Type 0 where
  pub size : (length cs ≡ 4) ⊎ (length cs ≡ 6)
  pub different : (i j : ℕ) → i < j → j < length cs → at cs i ≢ at cs j
  pub strong : (k : ℕ) → 2 * k + 1 < length cs → StrongLink g m d (at cs (2 * k)) (at cs (2 * k + 1))
  pub weak : (k : ℕ) → 2 * k + 2 < length cs → WeakLink g m d (at cs (2 * k + 1)) (at cs (2 * k + 2))

-- "Exactly the open cells that see both ends of some such chain, and are neither end, lose the digit."
pub record XChainLoss (g m : List ℕ) (d : ℕ) (x k : ℕ) : Type 0 where
  pub chain : List ℕ
  pub is : XChain g m d chain
  pub free : Open g x
  pub start : ShareUnit (at chain 0) x
  pub end : ShareUnit (at chain (length chain - 1)) x
  pub digit : k ≡ d

-- "Digits run rising. For each digit the links .. are taken from the masks at its start."
abbrev pub XChainPass : List ℕ → List ℕ → List ℕ → Type 0
XChainPass g = Turns (λ d m n. Without m (XChainLoss g m d) n) (up_to 9)

-- ---- the search

module _ (g m : List ℕ) (d : ℕ) where
  -- The ends of the chains that enter cell c after `path`, whose cells they do not enter again; weak says that a weak link comes next. An end was entered by a strong link, and is the fourth cell or the sixth.
  -- n is how many cells may still be entered.
  unfoldable pub ends_from : ℕ → Bool → List ℕ → ℕ → List ℕ
  ends_from zero weak path c = []
  ends_from (suc n) weak path c =
      let here = cond (weak && leb 3 (length path)) (c ∷ []) [] in
      let onward = for (links g m d weak c) (ends_from n (not weak) (c ∷ path)) in
      cond (on_path c path) [] (here ++ onward)

  -- the ends of the chains from s, which begin with a strong link
  abbrev pub chain_ends : ℕ → List ℕ
  chain_ends s = ends_from 6 false [] s

  -- the cell sees both ends of some chain; a cell does not see itself
  unfoldable pub caught : ℕ → Bool
  caught x = any (λ s. any (λ e. sees s x && sees e x) (chain_ends s)) (select (holds g m d) cells)

-- the test reads the masks at the digit's start, and all that it names is lost at once
unfoldable pub x_chain_digit : List ℕ → ℕ → List ℕ → List ℕ
x_chain_digit g d m = lose_all (is_open g) cells (λ x. cond (caught g m d x) (single d) 0) m

unfoldable pub x_chains : List ℕ → List ℕ → List ℕ
x_chains g m = each (x_chain_digit g) (up_to 9) m

-- ---- the promise

-- on all masks
pub record XChainLaws : Type 0 where
  pub digit : (g m : List ℕ) (d : ℕ) → Without m (XChainLoss g m d) (x_chain_digit g d m)
  pub pass : (g m n : List ℕ) → XChainPass g m n ↔ (n ≡ x_chains g m)
