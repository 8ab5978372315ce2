use Rattle.std.proofs.Common.{◌≢◌, Option, Bor, List, ℕ, Some, ap, length, map, sym, subst}
use Rattle.std.proofs.lemmas.List.{length-map}
use Rattle.csv.specs.declared.writer.QuoteStyle.TheVariants as style
use Rattle.cu_tables.specs.WrittenTexts.{AddsRow, WrittenText}
use Rattle.cu_tables.specs.Steps.Written.{written}
use Rattle.cu_tables.specs.declared.writing.RowWriter.TheInside.{Inside}
use Rattle.cu_tables.proofs.WriteFacts.{row_added}
use Rattle.cu_tables.proofs.writing.RowWriter.write_row.Goals as goal

pub returns-clause-ok : goal.returns-clause-ok
returns-clause-ok c =
    let (setup, fields, wrote) = c.self.invariant c.if-self.false in
    let plain : c.self.inside.writer.cfg.style ≢ style.NonNumeric = rw setup (λ e. cc e) in
    let row = map (λ (f : Bor (List ℕ)). f.now) c.args.fields.now in
    let after : Inside = record { writer = c.write_fields.new.self; width = Some (length c.args.fields.now); failed = c.self.inside.failed } in
    subst (λ (o : Option WrittenText). AddsRow o (written after) row) c.self.view_is
    (row_added c.self.inside after row c.if-self.false c.if-self.false (ap Some (sym (length-map c.args.fields.now (λ (f : Bor (List ℕ)). f.now))))
    (rw setup at (c.in-Ok.ensures.bytes fields wrote plain)))
