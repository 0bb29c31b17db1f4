-- A search of a list member by member: the first answer that is one. Assumes nothing.
use mathlib.Core.Path.{◌≡◌, refl, sym, ap, ◌∙◌}
use mathlib.Core.Bool.{true, false, true≢false, false≢true}
use mathlib.Core.List.{List}
use mathlib.Core.Option.{Option, none}
use Prim.Native.Nat.{ℕ, ◌+◌, ◌≤◌, ◌<◌}
use lib.ListN.{length, drop, drop_of_length-le}
use Rattle.std.proofs.lemmas.List.{at_drop_more}
use Rattle.steps.specs.Boards.{at}
use Rattle.steps.specs.Chains.{or_else, first_some}
use Rattle.std.specs.Prelude.{is_some, Some, None}
use Rattle.std.specs.Prelude as std
use Rattle.chains.specs.code.Links.{found_cell}

pub or-found : (o : std.Option ℕ) (p : Option ℕ) → is_some o ≡ true → or_else (found_cell o) p ≡ found_cell o
or-found None p t = absurd (false≢true t)
or-found (Some e) p t = refl

pub or_nothing : (o : std.Option ℕ) (p : Option ℕ) → is_some o ≡ false → or_else (found_cell o) p ≡ p
or_nothing None p t = refl
or_nothing (Some e) p t = absurd (true≢false t)

-- at member i, where the answer is o
module _ (f : ℕ → Option ℕ) (xs : List ℕ) (i : ℕ) {whole : Option ℕ} (inv : first_some f (drop i xs) ≡ whole) where
  at_member : {p : Option ℕ} → i < length xs → p ≡ f (at xs i) → or_else p (first_some f (drop (i + 1) xs)) ≡ whole
  unfolding first_some
  at_member h e =
      ap (λ (p : Option ℕ). or_else p (first_some f (drop (i + 1) xs))) e ∙ sym (at_drop_more (first_some f) xs i 0 h) ∙ inv

  pub ends : (o : std.Option ℕ) → i < length xs → found_cell o ≡ f (at xs i) → is_some o ≡ true → found_cell o ≡ whole
  ends o h e t = sym (or-found o (first_some f (drop (i + 1) xs)) t) ∙ at_member h e

  pub goes_on : (o : std.Option ℕ) → i < length xs → found_cell o ≡ f (at xs i) → is_some o ≡ false → first_some f (drop (i + 1) xs) ≡ whole
  goes_on o h e t = sym (or_nothing o (first_some f (drop (i + 1) xs)) t) ∙ at_member h e

  pub finds-none : length xs ≤ i → none ≡ whole
  unfolding first_some
  finds-none h = sym (ap (first_some f) (drop_of_length-le xs h)) ∙ inv
