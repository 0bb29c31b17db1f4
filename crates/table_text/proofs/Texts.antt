-- Rows and tables, one after the other, and the two tables whole. Assumes nothing.
use mathlib.Core.Path.{◌≡◌, refl, sym, ap, ◌∙◌}
use mathlib.Core.List.{List, [], ◌∷◌, ◌++◌, map}
use Prim.Native.Nat.{ℕ}
use lib.Dec.{eqb→eq}
use lib.ListN.{length}
use Rattle.grid.specs.Cells.{cells, peers, peer_table}
use Rattle.output.specs.Decimals.{digits_in, decimal}
use Rattle.steps.specs.Loops.{each, for, up_to}
use Rattle.table_text.specs.Tables.{later, numbers, row_line, table_lines, units_header, peers_header, unit_rows, tables_text}
use Rattle.output.specs.declared.Pen.{Pen}
use Rattle.output.specs.code.Tapes.{append}
use Rattle.output.specs.code.Pens.{writes}
use Rattle.table_text.specs.code.Pushes.{in_row, rows_of}
use Rattle.table_text.specs.declared.Table.TheVariants as table
use Rattle.output.proofs.Pens.{writes-joined}

-- a row and a table, from what each push made of the text before it
module _ {room : ℕ} (p : Pen room) {a b r : Pen room} where
  pub row-joined : (ns : List ℕ) → a ≡ writes (append room (91 ∷ [])) p → b ≡ writes (append room (numbers ns)) a → r ≡ writes (append room (93 ∷ 44 ∷ 10 ∷ [])) b → r ≡ writes (append room (row_line ns)) p
  unfolding row_line
  row-joined ns k l m = writes-joined (91 ∷ numbers ns) (93 ∷ 44 ∷ 10 ∷ []) p (writes-joined (91 ∷ []) (numbers ns) p k l) m

  pub table-joined : (header : List ℕ) (rows : List (List ℕ)) → a ≡ writes (append room header) p → b ≡ writes (append room (for rows row_line)) a → r ≡ writes (append room (93 ∷ 59 ∷ 10 ∷ [])) b → r ≡ writes (append room (table_lines header rows)) p
  unfolding table_lines
  table-joined header rows k l m = writes-joined (header ++ for rows row_line) (93 ∷ 59 ∷ 10 ∷ []) p (writes-joined header (for rows row_line) p k l) m

-- rows row by row
pub rows-each : {room : ℕ} (f : ℕ → List ℕ) (is : List ℕ) (p : Pen room) → each (λ i p. writes (append room (row_line (f i))) p) is p ≡ writes (append room (for (map f is) row_line)) p
unfolding each for append
rows-each f [] p = refl
rows-each {room} f (i ∷ is) p = rows-each f is (writes (append room (row_line (f i))) p) ∙ writes-joined (row_line (f i)) (for (map f is) row_line) p refl refl

-- ---- the rows by their rule

unit-rows : unit_rows ≡ rows_of table.Units 27
unfolding unit_rows in_row
unit-rows = refl

all-cells : cells ≡ up_to 81
unfolding cells
all-cells = refl

peer-rows : peer_table ≡ rows_of table.Peers 81
unfolding peer_table peers in_row
peer-rows = ap (map peers) all-cells

pub both-tables : table_lines units_header (rows_of table.Units 27) ++ table_lines peers_header (rows_of table.Peers 81) ≡ tables_text
unfolding tables_text
both-tables = sym (ap (λ (rows : List (List ℕ)). table_lines units_header rows ++ table_lines peers_header peer_table) unit-rows ∙ ap (λ (rows : List (List ℕ)). table_lines units_header (rows_of table.Units 27) ++ table_lines peers_header rows) peer-rows)

-- ---- how many bytes there are

pub text-length : length tables_text ≡ 7515
unfolding tables_text table_lines row_line numbers later for decimal digits_in unit_rows peer_table peers cells
text-length = eqb→eq (length tables_text) 7515 tt
