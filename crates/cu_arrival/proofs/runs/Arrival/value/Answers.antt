use Rattle.std.proofs.Common.{◌≡◌, ◌≤◌, ℕ, sym, subst, rules}
use Rattle.cu_arrival.specs.Runs.{arrival_value}
use Rattle.cu_arrival.proofs.RunLaws.{arrival_value-onward, arrival_value-fifo}
use Rattle.cu_arrival.proofs.runs.Arrival.value.Goals as goal

pub returns-clause-onward : goal.returns-clause-onward
returns-clause-onward c =
    let value : c.departing.result ≡ arrival_value c.args.self.now c.args.second = search rules in
    subst (λ (x : ℕ). c.args.second ≤ x) (sym value) (arrival_value-onward c.args.self.now (search rules) c.args.second)

pub returns-clause-fifo : goal.returns-clause-fifo
returns-clause-fifo c later h =
    let value : c.departing.result ≡ arrival_value c.args.self.now c.args.second = search rules in
    subst (λ (x : ℕ). x ≤ arrival_value c.args.self.now later) (sym value) (arrival_value-fifo c.args.self.now (search rules) c.args.second later h)
