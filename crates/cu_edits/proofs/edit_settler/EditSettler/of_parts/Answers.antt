use Rattle.std.proofs.Common.{ap}
use Rattle.cu_edits.specs.Steps.Parts.{settling_over}
use Rattle.cu_edits.proofs.edit_settler.EditSettler.of_parts.Goals as goal

pub invariant_of-result : goal.invariant_of-result
invariant_of-result g c = (record { none = c.new-settled.ensures.items; parts = c.requires.fit.0 }, c.requires.learned)

pub returns : goal.returns
returns g c = ap (settling_over c.args.parts) c.new-settled.ensures.items
