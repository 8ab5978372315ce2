use Rattle.std.proofs.Common.{◌≡◌, ◌≤◌, ℕ, sym, subst, rules}
use Rattle.cu_model.specs.Profiles.{profile_value}
use Rattle.cu_model.proofs.ProfileLaws.{profile_value-onward, profile_value-fifo}
use Rattle.cu_model.proofs.profiles.Profile.arrive.Goals as goal

pub returns-clause-onward : goal.returns-clause-onward
returns-clause-onward c =
    let value : c.arrival.result ≡ profile_value c.args.self.now c.args.second = search rules in
    subst (λ (x : ℕ). c.args.second ≤ x) (sym value) (profile_value-onward c.args.self.now (search rules) c.args.second)

pub returns-clause-fifo : goal.returns-clause-fifo
returns-clause-fifo c later h =
    let value : c.arrival.result ≡ profile_value c.args.self.now c.args.second = search rules in
    subst (λ (x : ℕ). x ≤ profile_value c.args.self.now later) (sym value) (profile_value-fifo c.args.self.now (search rules) c.args.second later h)
