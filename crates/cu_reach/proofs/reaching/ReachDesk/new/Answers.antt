use Rattle.std.proofs.Common.{◌∙◌}
use Rattle.cu_reach.proofs.DeskLaws.{labels_count}
use Rattle.cu_reach.proofs.reaching.ReachDesk.new.Goals as goal

pub returns : goal.returns
returns c = record { nodes = labels_count c.in_ok-new.field-0 ∙ c.in_ok-new.ensures.nodes }
