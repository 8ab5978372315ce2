-- The links behind the place are turned.
use Rattle.std.proofs.Common.{◌<◌, length}
use Rattle.cu_links.proofs.Depths.{depth_by}
use Rattle.cu_links.proofs.Turning.{IsTurning}
use Rattle.cu_links.proofs.chain.turn.Given as goal

abbrev pub invariant-links : goal.invariant-links
invariant-links l = record { within : l.place < length l.links; turning : IsTurning l.fn.links l.links l.fn.place l.place l.next }

abbrev pub decreases-links : goal.decreases-links
decreases-links l = depth_by (length l.fn.links) l.fn.links l.place
