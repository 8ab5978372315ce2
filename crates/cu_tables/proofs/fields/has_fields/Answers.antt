use Rattle.std.proofs.Common.{◌∙◌, ◌+◌, ℕ, List, Bor, Bool, map, drop, sym, ap, arith}
use Rattle.std.specs.Prelude.{bytes_eq, ◌&&◌}
use Rattle.std.specs.Cmp.Lexicographic.{pointwise}
use Rattle.std.proofs.lemmas.Bool.{not-false, not-true}
use Rattle.csv.specs.Records.{fields_of}
use Rattle.cu_tables.proofs.FieldFacts.{compare_next}
use Rattle.cu_tables.proofs.fields.has_fields.Goals as goal

pub returns-then-ne : goal.returns-then-ne
returns-then-ne c =
    let k = compare_next (fields_of c.args.row.now) c.args.fields.now _ c.loop-i.i (omega arith) (omega arith) in
    let other = not-true _ (sym c.ne.ensures ∙ c.if-ne.true) in
    let differ = rw c.field.ensures at other in
    sym (c.loop-i.invariant ∙ k ∙ ap (λ (b : Bool). b
    && pointwise bytes_eq (drop (c.loop-i.i + 1) (fields_of c.args.row.now))
    (drop (c.loop-i.i + 1) (map (λ (f : Bor (List ℕ)). f.now) c.args.fields.now))) differ)

pub loop-i-preserved : goal.loop-i-preserved
loop-i-preserved c =
    let k = compare_next (fields_of c.args.row.now) c.args.fields.now _ c.loop-i.i (omega arith) (omega arith) in
    let other = not-false _ (sym c.ne.ensures ∙ c.if-ne.false) in
    let same = rw c.field.ensures at other in
    c.loop-i.invariant ∙ k ∙ ap (λ (b : Bool). b && pointwise bytes_eq (drop (c.loop-i.i + 1) (fields_of c.args.row.now))
    (drop (c.loop-i.i + 1) (map (λ (f : Bor (List ℕ)). f.now) c.args.fields.now))) same
