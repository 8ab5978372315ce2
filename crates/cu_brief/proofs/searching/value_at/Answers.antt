use Rattle.std.proofs.Common.{◌∙◌, ◌-◌}
use Rattle.cu_model.proofs.Begun.{in_order}
use Rattle.cu_brief.specs.BriefRuns.{brief_from}
use Rattle.cu_brief.proofs.InForce.{first_begun, in_force_value, point_in_force}
use Rattle.cu_brief.proofs.searching.value_at.Goals as goal

pub begun-requires : goal.begun-requires
begun-requires c = in_order brief_from c.args.brief.now c.requires.brief.rises

pub returns : goal.returns
returns c =
    let brief = c.args.brief.now in
    let first = first_begun brief c.requires.brief c.args.second in
    let both = point_in_force brief c.args.second c.begun.result (first 0).0 (λ d. (first d).1) c.begun.ensures.point c.begun.ensures.bound in
    c.arrival.ensures ∙ in_force_value c.args.base brief c.args.second (c.begun.result - 1) 0 c.requires.brief c.requires.second both.1
