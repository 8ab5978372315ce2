-- The network after an edit: a profile's pieces replaced, or the profile of one road.
use Rattle.std.specs.Prelude.{ℕ, List, Option, Some, None, ◌<◌, length, slice_get, slice_set}
use Rattle.cu_model.specs.declared.roads.RoadArc.{RoadArc}
use Rattle.cu_model.specs.declared.roads.Edit.{Edit}
use Rattle.cu_model.specs.declared.roads.Edit.TheVariants.{Set, Assign}
use Rattle.cu_model.specs.Networks.{NetworkValue}

-- these roads, where one of them has the profile with this number; out of range leaves all
abbrev pub reassigned : Option RoadArc → ℕ → ℕ → List RoadArc → List RoadArc
reassigned None a profile arcs = arcs
reassigned (Some arc) a profile arcs = slice_set arcs a (record arc { profile = profile })

abbrev pub edited : NetworkValue → Edit → NetworkValue
edited g (Set profile pieces) = record g { profiles = slice_set g.profiles profile pieces }
edited g (Assign a profile) = record g { arcs = reassigned (slice_get g.arcs a) a profile g.arcs }

-- an edit's numbers are those of a profile, or of a road and a profile
abbrev pub IsEditInRange : NetworkValue → Edit → Type 0
IsEditInRange g (Set profile pieces) = profile < length g.profiles
IsEditInRange g (Assign a profile) = (a < length g.arcs) × (profile < length g.profiles)
