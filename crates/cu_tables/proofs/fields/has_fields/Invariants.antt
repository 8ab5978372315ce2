use Rattle.std.proofs.Common.{◌≡◌, drop, map}
use Rattle.std.specs.Prelude.{bytes_eq}
use Rattle.std.specs.Cmp.Lexicographic.{pointwise}
use Rattle.csv.specs.Records.{fields_of}
use Rattle.cu_tables.proofs.fields.has_fields.Given as goal

abbrev pub invariant-loop-i : goal.invariant-loop-i
invariant-loop-i l = pointwise bytes_eq (fields_of l.row) (map (λ f. f.now) l.fields) ≡ pointwise bytes_eq (drop l.i (fields_of l.row)) (drop l.i (map (λ f. f.now) l.fields))
