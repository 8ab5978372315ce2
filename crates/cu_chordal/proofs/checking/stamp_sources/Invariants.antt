use Rattle.cu_chordal.specs.Lists.{edges_below}
use Rattle.cu_chordal.proofs.Checked.{IsCounting}
use Rattle.cu_chordal.proofs.Handing.{latest_size}
use Rattle.cu_chordal.proofs.checking.stamp_sources.Given as goal

abbrev pub invariant-children : goal.invariant-children
invariant-children l = IsCounting (edges_below l.starts l.uppers l.rank) l.links l.rank l.stamps l.count l.child

abbrev pub decreases-children : goal.decreases-children
decreases-children l = latest_size l.child
