-- How a reader of nodes or of roads goes from row to row.
use Rattle.std.specs.Prelude.{ℕ, List, Bool, true, false, Option, Some, None, Result, Err, ◌≡◌, ◌≢◌, ◌<◌, if◌then◌else◌}
use Rattle.cu_model.specs.declared.profiles.Piece.{Piece}
use Rattle.cu_model.specs.declared.roads.RoadArc.{RoadArc}
use Rattle.cu_tables.specs.Tables.{field_of, kept_number}
use Rattle.cu_profile.specs.declared.refusals.ProfileRefusal.{ProfileRefusal}
use Rattle.cu_profile.specs.declared.refusals.ProfileRefusal.TheVariants as profile
use Rattle.cu_roads.specs.declared.refusals.RoadRefusal.{RoadRefusal}
use Rattle.cu_roads.specs.declared.refusals.RoadRefusal.TheVariants as refusal
use Rattle.cu_roads.specs.declared.nodes.NodeRow.{NodeRow}
use Rattle.cu_roads.specs.declared.arcs.ArcRow.{ArcRow}
use Rattle.cu_roads.specs.NetworkTexts.{has_arc_numbers, has_node_numbers, place_of_row}

-- the numbers of a node's row, where its fields are such numbers
abbrev pub node_row_of : List (List ℕ) → Option NodeRow
node_row_of row = if has_node_numbers row then Some (record { node = kept_number (field_of row 0); place = place_of_row row }) else None

-- the numbers of a road's row, where its fields are numbers
abbrev pub arc_row_of : List (List ℕ) → Option ArcRow
arc_row_of row = if has_arc_numbers row then Some (record {
  number = kept_number (field_of row 0);
  arc = record { tail = kept_number (field_of row 1); head = kept_number (field_of row 2); profile = kept_number (field_of row 3) };
}) else None

-- a road whose ends and profile are below these numbers
abbrev pub IsBetween : ℕ → ℕ → RoadArc → Type 0
IsBetween nodes profiles arc = (arc.tail < nodes) × (arc.head < nodes) × (arc.profile < profiles)

-- what the profiles are refused for goes into a refusal of the network, unless memory ran out
abbrev pub IsRefusedForProfiles : Result (List (List Piece)) ProfileRefusal → RoadRefusal → Type 0
IsRefusedForProfiles given refusal.NoMemory = Unit {0}
IsRefusedForProfiles given (refusal.Profiles why) = (given ≡ Err why) × (why ≢ profile.NoMemory)
IsRefusedForProfiles given other = ⊥

-- whether a refusal is one of the profiles
abbrev pub is_of_profiles : RoadRefusal → Bool
is_of_profiles (refusal.Profiles why) = true
is_of_profiles other = false
