use Rattle.std.proofs.Common.{arith, ap, ◌∙◌, ◌<◌}
use Rattle.cu_model.specs.Days.{day}
use Rattle.cu_arrival.specs.declared.runs.Run.{Run}
use Rattle.cu_arrival.specs.Runs.{arrives}
use Rattle.cu_brief.proofs.InForce.{in_force_ends, in_force_until, in_force_value}
use Rattle.cu_brief.proofs.in_force.in_force_at.Goals as goal

pub returns-clause-some : goal.returns-clause-some
returns-clause-some c =
    let ends = in_force_ends c.args.brief.now.runs.now c.requires.brief c.args.second c.index_near-index.result c.requires.second c.index_near-index.ensures.force in
    omega (arith, ends.0, c.end_of.ensures)

pub returns-clause-in_day : goal.returns-clause-in_day
returns-clause-in_day c =
    let ends = in_force_ends c.args.brief.now.runs.now c.requires.brief c.args.second c.index_near-index.result c.requires.second c.index_near-index.ensures.force in
    omega (arith, ends.1, c.end_of.ensures)

pub returns-clause-holds : goal.returns-clause-holds
returns-clause-holds c t late early =
    let brief = c.args.brief.now.runs.now in
    let index = c.index_near-index.result in
    let ends = in_force_ends brief c.requires.brief c.args.second index c.requires.second c.index_near-index.ensures.force in
    let force = in_force_until brief c.args.second t index c.index_near-index.ensures.force late (omega (arith, early, c.end_of.ensures)) in
    let today : t < day = omega (arith, early, ends.1, c.end_of.ensures) in
    ap (λ (r : Run). arrives r.rule t) c.packed_of.ensures ∙ in_force_value c.args.brief.now.base brief t index 0 c.requires.brief today force
