use Rattle.std.proofs.Common.{◌∙◌, refl, sym}
use Rattle.cu_edits.proofs.PackedNext.{if_some}
use Rattle.cu_edits.proofs.settling_packed.new_list.Goals as goal

pub returns-then-is_as_before-clause-outcome : goal.returns-then-is_as_before-clause-outcome
returns-then-is_as_before-clause-outcome g c = (sym c.entries.ensures.all ∙ c.is_as_before.ensures.same c.if-is_as_before.true, c.is_as_before.ensures.ways c.if-is_as_before.true)

pub returns-then-is_as_before-clause-standing : goal.returns-then-is_as_before-clause-standing
returns-then-is_as_before-clause-standing g c = if_some c.args.found.function _ (λ function is. (refl, is))
