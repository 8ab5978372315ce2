-- The legs so far, and those from the last point on.
use Rattle.std.proofs.Common.{◌≡◌, ◌++◌, drop}
use Rattle.std.specs.Prelude.{slice_index_or}
use Rattle.cu_wait.specs.declared.points.Mode.TheVariants.{Line}
use Rattle.cu_wait.specs.Legs.{legs_from, legs_of}
use Rattle.cu_wait.proofs.points.legs_of.Given as goal

abbrev pub invariant-points : goal.invariant-points
invariant-points l =
    l.legs.items ++ legs_from (slice_index_or l.points 0 (record { second = 0; mode = Line; travel = 0 })).travel l.point (drop l.next-index l.next-items) ≡ legs_of l.points
