-- The legs before those that are left were listed.
use Rattle.std.proofs.Common.{◌≤◌, ◌+◌, drop}
use Rattle.cu_model.specs.Days.{day}
use Rattle.cu_wait.specs.Legs.{day_least, hull_at}
use Rattle.cu_wait.specs.Steps.Listed.{IsListed}
use Rattle.cu_wait.proofs.ListedLegs.{AreLeft, start_of}
use Rattle.cu_wait.proofs.hull.list_legs.Given as goal

abbrev pub invariant-legs : goal.invariant-legs
invariant-legs l =
    AreLeft (hull_at l.legs) (day + day_least l.legs) (drop l.index l.legs) (drop l.index l.bounds)
    × (l.listing.last.from ≤ start_of (drop l.index l.legs)) × IsListed (hull_at l.legs) l.listing (start_of (drop l.index l.legs))
