-- A whole line, from what each push made of the lines before it. Assumes nothing.
use mathlib.Core.Path.{◌≡◌}
use mathlib.Core.List.{List, [], ◌∷◌, ◌++◌}
use Prim.Native.Nat.{ℕ}
use Rattle.output.specs.declared.Pen.{Pen}
use Rattle.output.specs.code.Tapes.{append}
use Rattle.output.specs.code.Pens.{writes}
use Rattle.output.proofs.Pens.{writes-joined}
use Rattle.card.specs.Layout.{line_of}

pub line-joined : {room : ℕ} (label rest : List ℕ) (p : Pen room) {a b r : Pen room} → a ≡ writes (append room label) p → b ≡ writes (append room rest) a → r ≡ writes (append room (10 ∷ [])) b → r ≡ writes (append room (line_of label rest)) p
unfolding line_of
line-joined label rest p l m n = writes-joined (label ++ rest) (10 ∷ []) p (writes-joined label rest p l m) n
