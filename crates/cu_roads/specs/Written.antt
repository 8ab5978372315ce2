-- The texts that a network and its places are written as.
use Rattle.std.specs.Prelude.{ℕ, List, [], ◌∷◌, ◌+◌, decimal}
use Rattle.csv.proofs.RoundTrip.{rows_text}
use Rattle.cu_model.specs.declared.roads.RoadArc.{RoadArc}
use Rattle.cu_profile.specs.Written.{table_of}
use Rattle.cu_roads.specs.declared.places.Place.{Place}
use Rattle.cu_roads.specs.NetworkTexts.{NetworkRead, arc_header, node_header}

-- the row of a node with this number
abbrev pub written_place : ℕ → Place → List (List ℕ)
written_place number place = decimal number ∷ decimal place.x ∷ decimal place.y ∷ []

-- the row of a road with this number
abbrev pub written_arc : ℕ → RoadArc → List (List ℕ)
written_arc number arc = decimal number ∷ decimal arc.tail ∷ decimal arc.head ∷ decimal arc.profile ∷ []

-- a row for each value, the first with this number
abbrev pub rows_from : {T : Type 0} → (ℕ → T → List (List ℕ)) → ℕ → List T → List (List (List ℕ))
rows_from row number [] = []
rows_from row number (value ∷ values) = row number value ∷ rows_from row (number + 1) values

abbrev pub node_table : List Place → List (List (List ℕ))
node_table places = node_header ∷ rows_from written_place 0 places

abbrev pub arc_table : List RoadArc → List (List (List ℕ))
arc_table arcs = arc_header ∷ rows_from written_arc 0 arcs

-- the bytes of three tables
pub record ThreeTexts : Type 0 where
  pub nodes : List ℕ
  pub roads : List ℕ
  pub profiles : List ℕ

-- the tables of a network and its places, in plain decimals, each row ended by LF
unfoldable pub written_network : NetworkRead → ThreeTexts
written_network read = record {
  nodes = rows_text (node_table read.places);
  roads = rows_text (arc_table read.network.arcs);
  profiles = rows_text (table_of read.network.profiles);
}
