use Rattle.cu_edits.proofs.BuiltCustomized.{built_customized}
use Rattle.cu_edits.proofs.customized.CustomizedEdges.all.Goals as goal

pub returns-clause-customized : goal.returns-clause-customized
returns-clause-customized c h built edge at = built_customized h built edge
