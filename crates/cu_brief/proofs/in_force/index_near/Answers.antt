use Rattle.cu_model.proofs.Begun.{in_order}
use Rattle.cu_brief.specs.BriefRuns.{brief_from}
use Rattle.cu_brief.proofs.in_force.index_near.Goals as goal

pub begun-requires : goal.begun-requires
begun-requires c = in_order brief_from c.args.brief.now c.requires.brief.rises
