use Rattle.std.proofs.Common.{◌≤◌, ◌<◌, ℕ, List, subst, sym}
use Rattle.cu_model.specs.Days.{day}
use Rattle.cu_runs.specs.declared.packed_runs.TheConstants.{MAX_NUMBER}
use Rattle.cu_runs.specs.Least.{Held, least_arrival}
use Rattle.cu_runs.proofs.merger.Merger.least_runs.Goals as goal

pub least_runs-requires-clause-limit : goal.least_runs-requires-clause-limit
least_runs-requires-clause-limit c = subst (λ (hs : List Held). (t : ℕ) → t < day → least_arrival hs t ≤ MAX_NUMBER) (sym c.self.view_is) c.requires
