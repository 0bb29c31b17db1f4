-- Laws of answers. Assumes nothing.
use mathlib.Core.Path.{◌≡◌, refl, sym, ap, ◌∙◌}
use mathlib.Core.Option.{Option, none, some}
use Prim.Native.Nat.{ℕ, ◌<◌, ◌^◌}
use native.Mathlib.Omega.{arith}
use lib.IntN.{ℤ}
use mir.Syntax.{w64}
use mir.Val.{to_z}
use Rattle.stops.specs.Answer.{Answer, gives, stop, map, then, passing, stop_at, answer_of}
use Rattle.std.specs.Prelude.{Result, Ok, Err, IsErrAnd}
use Rattle.std.proofs.lemmas.Result.{err_from_is_err_and}
use Rattle.stops.specs.declared.Stop.{Stop}
use Rattle.stops.proofs.Numbers.{small}

pub gives_same : {A : Type 0} {a b : A} → ◌≡◌ {A = Answer A} (gives a) (gives b) → a ≡ b
gives_same q = cc

pub stop-gives : {A : Type 0} {a : A} {s : Stop} → ◌≡◌ {A = Answer A} (stop s) (gives a) → ⊥
stop-gives q = let w : ◌≡◌ {A = ℕ} 0 1 = cc in omega arith

pub map-map : {A B C : Type 0} (f : B → C) (g : A → B) (a : Answer A) → map f (map g a) ≡ map (λ x. f (g x)) a
map-map f g (gives x) = refl
map-map f g (stop s) = refl

pub then-then : {A B C : Type 0} (a : Answer A) (f : A → Answer B) (g : B → Answer C) → then (then a f) g ≡ then a (λ x. then (f x) g)
then-then (gives x) f g = refl
then-then (stop s) f g = refl

pub map-then : {A B C : Type 0} (h : B → C) (a : Answer A) (f : A → Answer B) → map h (then a f) ≡ then a (λ x. map h (f x))
map-then h (gives x) f = refl
map-then h (stop s) f = refl

-- a check c that answers k, and which of its cases it is
pub told : {A : Type 0} {c d : Result A Stop} {k : Answer A} → answer_of c ≡ k → c ≡ d → answer_of d ≡ k
told e is = ap answer_of (sym is) ∙ e

-- a number that a search found, as the code holds it
pub found-stop : (case : ℤ → Stop) {n : ℕ} {r : Option ℕ} → n < 2 ^ 63 → some n ≡ r → stop (case (to_z w64 n)) ≡ stop_at case r
found-stop case h e = ap (λ (z : ℤ). stop (case z)) (small h) ∙ ap (stop_at case) e

pub none_found : (case : ℤ → Stop) {r : Option ℕ} → none ≡ r → gives tt ≡ stop_at case r
none_found case e = ap (stop_at case) e

-- what stands beside a check that answers k
module _ {A : Type 0} (c : Result (Unit {0}) Stop) {k : Answer (Unit {0})} (e : answer_of c ≡ k) where
  pub refused-beside : {s : Stop} → c ≡ Err s → (x y : A) → passing (answer_of c) x ≡ passing k y
  refused-beside is x y = ap (λ (d : Result (Unit {0}) Stop). passing (answer_of d) x) is ∙ ap (λ (a : Answer (Unit {0})). passing a y) (told e is)

  pub passed-beside : {x y : A} → x ≡ y → passing (answer_of c) x ≡ passing k y
  passed-beside {x} {y} same = ap (passing (answer_of c)) same ∙ ap (λ (a : Answer (Unit {0})). passing a y) e

-- what a `?` hands on is the stop that it met
pub passed-on : {A : Type 0} (r : Result A Stop) {s : Stop} → IsErrAnd r (λ t. t ≡ s) → answer_of r ≡ stop s
passed-on r h = let p = err_from_is_err_and r h in ap answer_of p.1 ∙ ap stop p.2

-- where an answer gives a value, it gives any other that is put in its place
pub put_in-place : {A B C : Type 0} {x : A} (f : C → A) (a : Answer C) → gives x ≡ map f a → (y : B) → gives y ≡ map (λ _. y) a
put_in-place f (gives c) e y = refl
put_in-place f (stop s) e y = absurd (stop-gives (sym e))
