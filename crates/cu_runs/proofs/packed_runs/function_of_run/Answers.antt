use Rattle.std.proofs.Common.{◌≡◌, ◌<◌, ◌∙◌, [], ◌∷◌, ℕ, List, sym, subst, ap}
use Rattle.cu_model.specs.Days.{day}
use Rattle.cu_arrival.specs.declared.runs.Run.{Run}
use Rattle.cu_arrival.specs.Runs.{arrival_value, arrives}
use Rattle.cu_runs.specs.PackedRuns.{IsPackedFunction, end_run}
use Rattle.cu_runs.proofs.OneRun.{one_value, one_function}
use Rattle.cu_runs.proofs.packed_runs.function_of_run.Goals as goal

pub returns-clause-function : goal.returns-clause-function
returns-clause-function c =
    let items : c.in_ok-packed.packed.items ≡ c.args.run ∷ end_run ∷ [] = c.in_ok-packed.ensures.items ∙ ap (λ (r : Run). c.args.run ∷ r ∷ []) c.end.ensures in
    subst IsPackedFunction (sym items) (one_function c.args.run c.requires.from c.requires.number)

pub returns-clause-value : goal.returns-clause-value
returns-clause-value c =
    let items : c.in_ok-packed.packed.items ≡ c.args.run ∷ end_run ∷ [] = c.in_ok-packed.ensures.items ∙ ap (λ (r : Run). c.args.run ∷ r ∷ []) c.end.ensures in
    subst (λ (packed : List Run). (t : ℕ) → t < day → arrival_value packed t ≡ arrives c.args.run.rule t) (sym items) (one_value c.args.run c.requires.from)
