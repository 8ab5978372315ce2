-- The points of the measured profiles that are kept by number, none where an edit has set the pieces of one.
use Rattle.std.specs.Prelude.{ℕ, List, ◌∷◌, ◌++◌, Bool, Option, Some, None, codes, decimal, slice_get, slice_set}
use Rattle.cu_model.specs.declared.roads.Edit.{Edit}
use Rattle.cu_model.specs.declared.roads.Edit.TheVariants.{Set, Assign}
use Rattle.cu_model.specs.declared.roads.RoadArc.{RoadArc}
use Rattle.cu_model.specs.Networks.{NetworkValue}
use Rattle.cu_drive.specs.RoadTexts.{arrival_text, behind_blank}
use Rattle.cu_wait.specs.declared.points.Point.{Point}
use Rattle.cu_wait.specs.LeftSeconds.{left_at}
use Rattle.cu_wait.specs.Measured.{raw_arrival}
use Rattle.cu_wait.specs.Networks.{RawProfile, Measured, InPieces}

-- when one leaves on a profile: on one that is kept as its points say, on any other at once
abbrev pub left_by : Option (Option (List Point)) → ℕ → ℕ
left_by (Some (Some points)) second = left_at (raw_arrival points) second
left_by _ second = second

-- the same on a road
abbrev pub left_of_road : List (Option (List Point)) → Option RoadArc → ℕ → ℕ
left_of_road kept None second = second
left_of_road kept (Some arc) second = left_by (slice_get kept arc.profile) second

-- a road's number, the second at which one comes to it, and that at which one leaves
abbrev pub waited_road_text : Bool → (road second left : ℕ) → List ℕ
waited_road_text first road second left = behind_blank first (decimal road ++ 44 ∷ decimal second ++ 44 ∷ decimal left)

-- what is written of a road by these points
abbrev pub kept_text : List (Option (List Point)) → List RoadArc → Bool → (road second : ℕ) → List ℕ
kept_text kept arcs first road second = waited_road_text first road second (left_of_road kept (slice_get arcs road) second)

-- an arrival over a walk that is driven from an absolute second, said by these points
abbrev pub says_kept : List (Option (List Point)) → NetworkValue → (second arrival : ℕ) → List ℕ → List ℕ
says_kept kept g second arrival walk = arrival_text (codes " drive=") (kept_text kept g.arcs) g second arrival walk

-- the points that are kept of a profile
abbrev pub kept_of : RawProfile → Option (List Point)
kept_of (Measured points) = Some points
kept_of (InPieces pieces) = None

-- the points that are kept after an edit: none of a profile that is set
abbrev pub kept_after : Edit → List (Option (List Point)) → List (Option (List Point))
kept_after (Set profile pieces) kept = slice_set kept profile None
kept_after (Assign a profile) kept = kept
