use Rattle.std.proofs.Common.{rules}
use Rattle.cu_model.specs.Days.{day}
use Rattle.cu_arrival.specs.declared.runs.Run.{Run}
use Rattle.cu_arrival.specs.Runs.{IsArrivalFunction}
use Rattle.cu_model.proofs.Begun.{few_items}
use Rattle.cu_arrival.proofs.runs.Arrival.runs.Goals as goal

pub returns-clause-few : goal.returns-clause-few
returns-clause-few c =
    let valid : IsArrivalFunction c.args.self.now = search rules in
    let few = few_items (λ (run : Run). run.from) day c.args.self.now valid.rises (λ i d h. (valid.limits i d h).0) in
    search rules
