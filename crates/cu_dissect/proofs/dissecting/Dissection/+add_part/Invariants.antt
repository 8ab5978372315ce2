use Rattle.std.proofs.Common.{length}
use Rattle.cu_dissect.proofs.dissecting.Dissection.+add_part.Given as goal

abbrev pub decreases-add_part : goal.decreases-add_part
decreases-add_part g l = length l.part.now
