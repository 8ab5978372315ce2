use Rattle.std.proofs.Common.{◌≡◌, ◌-◌, ◌∙◌, List, ap, length, subst, sym, take}
use Rattle.cu_arrival.specs.declared.runs.Run.{Run}
use Rattle.cu_arrival.specs.Runs.{IsArrivalFunction, arrival_value}
use Rattle.cu_runs.proofs.Arrivals.{runs_function, runs_value, travelled_onward}
use Rattle.cu_runs.proofs.day_function.DayFunction.to_arrival.Goals as goal

pub from_runs-requires : goal.from_runs-requires
from_runs-requires c =
    let packed = c.self.inside.packed.items in
    let cut : c.deref-2.result.now ≡ take (length packed - 1) packed =
    c.deref-2.ensures.value ∙ c.in_ok-runs.ensures ∙ ap (λ (ws : List Run). take (length ws - 1) ws) c.deref.ensures.value in
    subst IsArrivalFunction (sym cut) (runs_function packed c.self.invariant.function (travelled_onward packed c.self.inside.least c.self.invariant.slower))

pub returns-clause-value : goal.returns-clause-value
returns-clause-value c t =
    let packed = c.self.inside.packed.items in
    let cut : c.deref-2.result.now ≡ take (length packed - 1) packed =
    c.deref-2.ensures.value ∙ c.in_ok-runs.ensures ∙ ap (λ (ws : List Run). take (length ws - 1) ws) c.deref.ensures.value in
    ap (λ (rs : List Run). arrival_value rs t) (c.in_ok-arrival.ensures ∙ cut) ∙ runs_value packed c.self.invariant.function t ∙ ap (λ (rs : List Run). arrival_value rs t) c.self.view_is
