use Rattle.std.proofs.Common.{List, ap, sym, ◌∙◌}
use Rattle.cu_arrival.specs.declared.runs.Run.{Run}
use Rattle.cu_arrival.specs.Runs.{arrival_value}
use Rattle.cu_runs.proofs.merging.link_and_compare.Goals as goal

pub returns-clause-merged : goal.returns-clause-merged
returns-clause-merged c arrival same is =
    c.in_ok-compare.ensures.merged arrival
    (λ s late early. same s late early ∙ sym (ap (λ (xs : List Run). arrival_value xs s) c.deref.ensures.value ∙ c.in_ok-link_between.ensures.value s late early)) is
