use Rattle.cu_chordal.specs.Steps.Flat.{edges_in}
use Rattle.cu_chordal.proofs.Handing.{IsHanding, latest_size}
use Rattle.cu_chordal.proofs.closure.gather_all.Given as goal

abbrev pub invariant-children : goal.invariant-children
invariant-children l = IsHanding (edges_in l.table) l.links l.rank l.room l.stamps l.part.items l.child

abbrev pub decreases-children : goal.decreases-children
decreases-children l = latest_size l.child
