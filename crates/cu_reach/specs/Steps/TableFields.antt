-- The fields of a line that asks for a table.
use Rattle.std.specs.Prelude.{ℕ, List, ◌∷◌, Option, Some, None, Err, ◌≡◌, false, length, map, nat_lt, true}
use Rattle.std.specs.List.{list_all}
use Rattle.cu_model.specs.Numbers.{is_number_word, number_value}
use Rattle.cu_reach.specs.declared.lines.ManyRefusal.TheVariants.{Line}
use Rattle.cu_reach.specs.declared.tables.Scan.{Scan}
use Rattle.cu_reach.specs.declared.tables.TableFields.{TableFields}
use Rattle.cu_reach.specs.NodeFields.{fields_in}
use Rattle.cu_reach.specs.ReachLines.{table_of_fields}

-- these first fields, or none where a line of so many fields asks for no table
abbrev pub HasTable : List (List ℕ) → Option TableFields → Type 0
HasTable fields None = (nodes : ℕ) → table_of_fields nodes fields ≡ Err Line
HasTable fields (Some table) = fields ≡ table.word.now ∷ table.second.now ∷ table.count.now ∷ fields_in table.nodes

-- so many number words, and whether all are below a number of nodes
pub record IsScanned (nodes : ℕ) (fields : List (List ℕ)) (scan : Scan) : Type 0 where
  pub numbers : list_all is_number_word fields ≡ true
  pub counted : scan.count ≡ length fields
  pub below : scan.in_range ≡ list_all (λ number. nat_lt number nodes) (map number_value fields)

-- the same, or none where some field is no number word
abbrev pub HasScanned : ℕ → List (List ℕ) → Option Scan → Type 0
HasScanned nodes fields None = list_all is_number_word fields ≡ false
HasScanned nodes fields (Some scan) = IsScanned nodes fields scan
