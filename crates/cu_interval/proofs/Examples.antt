-- The definitions, computed on small networks.
use Rattle.std.proofs.Common.{◌≡◌, ℕ, List, [], ◌∷◌, Some, refl}
use Rattle.cu_model.specs.declared.profiles.Piece.{Piece}
use Rattle.cu_model.specs.declared.profiles.Rule.{Rule}
use Rattle.cu_model.specs.declared.profiles.Rule.TheVariants.{Travel, Until}
use Rattle.cu_model.specs.declared.roads.RoadArc.{RoadArc}
use Rattle.cu_model.specs.Networks.{NetworkValue}
use Rattle.cu_chordal.specs.declared.graph.Ends.{Ends}
use Rattle.cu_interval.specs.declared.ways.Dir.TheVariants.{Up, Down}
use Rattle.cu_interval.specs.declared.ways.Way.{Way}
use Rattle.cu_interval.specs.declared.ways.Way.TheVariants.{Road, Via}
use Rattle.cu_interval.specs.declared.ways.Entry.{Entry}
use Rattle.cu_interval.specs.declared.relaxing.Relaxed.TheVariants.{At, NoWay, Long}
use Rattle.cu_interval.specs.Hierarchies.{HierarchyValue, list_of, list_from}
use Rattle.cu_interval.specs.Unpacking.{unpacked_walk, relaxed}
use Rattle.cu_interval.specs.Resettling.{rebuilt}

abbrev pub piece : ℕ → Rule → Piece
piece from rule = record { from = from; rule = rule }

abbrev pub road : ℕ → ℕ → ℕ → RoadArc
road tail head profile = record { tail = tail; head = head; profile = profile }

abbrev pub entry : ℕ → Way → Entry
entry from way = record { from = from; way = way }

abbrev pub ends : ℕ → ℕ → Ends
ends low high = record { low = low; high = high }

-- three nodes, one road over the day's traffic, and a detour over the middle node
abbrev pub three : NetworkValue
three = record {
  nodes = 3;
  arcs = road 0 1 0 ∷ road 1 2 1 ∷ road 0 2 2 ∷ [];
  profiles =
      (piece 0 (Travel 60) ∷ [])
      ∷ (piece 0 (Travel 100) ∷ piece 28800 (Travel 300) ∷ piece 35800 (Until 36100) ∷ piece 36000 (Travel 100) ∷ [])
      ∷ (piece 0 (Travel 250) ∷ []) ∷ [];
}

abbrev pub three_built : HierarchyValue
three_built = record {
  network = three;
  order = record { node_at = 1 ∷ 0 ∷ 2 ∷ []; rank_of = 1 ∷ 0 ∷ 2 ∷ [] };
  edges = ends 0 1 ∷ ends 0 2 ∷ ends 1 2 ∷ [];
  lists =
      []
      ∷ (entry 0 (Road 0) ∷ [])
      ∷ (entry 0 (Road 1) ∷ [])
      ∷ []
      ∷ (entry 0 (Via 0) ∷ entry 28740 (Road 2) ∷ entry 35851 (Via 0) ∷ [])
      ∷ [] ∷ [];
}

list_there : list_from three_built 1 2 ≡ list_of three_built 2 Up
list_there = refl

walk_at_0 : unpacked_walk three_built 1 2 0 ≡ 0 ∷ 1 ∷ []
walk_at_0 = refl

walk_at_28800 : unpacked_walk three_built 1 2 28800 ≡ 2 ∷ []
walk_at_28800 = refl

walk_at_35850 : unpacked_walk three_built 1 2 35850 ≡ 2 ∷ []
walk_at_35850 = refl

walk_at_35851 : unpacked_walk three_built 1 2 35851 ≡ 0 ∷ 1 ∷ []
walk_at_35851 = refl

relaxed_at_0 : relaxed three_built 2 Up 0 ≡ At 160
relaxed_at_0 = refl

relaxed_at_28800 : relaxed three_built 2 Up 28800 ≡ At 29050
relaxed_at_28800 = refl

relaxed_at_35850 : relaxed three_built 2 Up 35850 ≡ At 36100
relaxed_at_35850 = refl

relaxed_at_35851 : relaxed three_built 2 Up 35851 ≡ At 36100
relaxed_at_35851 = refl

-- driven on past midnight
relaxed_at_86399 : relaxed three_built 2 Up 86399 ≡ At 86559
relaxed_at_86399 = refl

relaxed_next_day : relaxed three_built 2 Up 115200 ≡ At 115450
relaxed_next_day = refl

relaxed_down : relaxed three_built 2 Down 0 ≡ NoWay
relaxed_down = refl

rebuilt_at_28800 : rebuilt three_built 1 2 28800 ≡ Some 29050
rebuilt_at_28800 = refl

rebuilt_at_86399 : rebuilt three_built 1 2 86399 ≡ Some 86559
rebuilt_at_86399 = refl

rebuilt_next_day : rebuilt three_built 1 2 115200 ≡ Some 115450
rebuilt_next_day = refl

-- four nodes, all joined, with forged lists
abbrev pub four : NetworkValue
four = record {
  nodes = 4;
  arcs = road 0 1 0 ∷ road 0 2 0 ∷ road 0 3 0 ∷ road 1 0 0 ∷ road 1 2 0 ∷ road 1 3 0 ∷ road 2 0 0 ∷ road 2 1 0 ∷ road 2 3 0 ∷ road 3 0 0 ∷ road 3 1 0 ∷ road 3 2 0 ∷ [];
  profiles = (piece 0 (Travel 10) ∷ []) ∷ [];
}

abbrev pub by : Way → List Entry
by way = entry 0 way ∷ []

-- the lists of edge 3 down, 4 up and 5 up are given
abbrev pub four_with : List Entry → List Entry → List Entry → HierarchyValue
four_with third fourth fifth = record {
  network = four;
  order = record { node_at = 0 ∷ 1 ∷ 2 ∷ 3 ∷ []; rank_of = 0 ∷ 1 ∷ 2 ∷ 3 ∷ [] };
  edges = ends 0 1 ∷ ends 0 2 ∷ ends 0 3 ∷ ends 1 2 ∷ ends 1 3 ∷ ends 2 3 ∷ [];
  lists = by (Road 0) ∷ by (Road 3) ∷ by (Road 1) ∷ by (Road 6) ∷ by (Road 2) ∷ by (Road 9) ∷ by (Road 4) ∷ third ∷ fourth ∷ by (Road 10) ∷ fifth ∷ by (Road 11) ∷ [];
}

abbrev pub forged : HierarchyValue
forged = four_with (by (Via 0)) (by (Via 0)) (by (Via 1))

abbrev pub built : HierarchyValue
built = four_with (by (Road 7)) (by (Road 5)) (by (Road 8))

forged_walk : unpacked_walk forged 2 3 0 ≡ 6 ∷ 0 ∷ 3 ∷ 2 ∷ []
forged_walk = refl

forged_long : relaxed forged 5 Up 0 ≡ Long
forged_long = refl

forged_first_half : relaxed forged 3 Down 0 ≡ At 20
forged_first_half = refl

built_answer : relaxed built 5 Up 0 ≡ At 10
built_answer = refl

forged_value : rebuilt forged 2 3 0 ≡ Some 40
forged_value = refl

-- one edge with two roads that tie
abbrev pub two : NetworkValue
two = record {
  nodes = 2;
  arcs = road 0 0 0 ∷ road 0 1 1 ∷ road 0 1 2 ∷ [];
  profiles =
      (piece 0 (Travel 0) ∷ [])
      ∷ (piece 0 (Travel 50) ∷ [])
      ∷ (piece 0 (Travel 40) ∷ piece 1000 (Travel 60) ∷ piece 2000 (Until 2060) ∷ piece 2020 (Travel 40) ∷ []) ∷ [];
}

abbrev pub two_built : HierarchyValue
two_built = record {
  network = two;
  order = record { node_at = 0 ∷ 1 ∷ []; rank_of = 0 ∷ 1 ∷ [] };
  edges = ends 0 1 ∷ [];
  lists = (entry 0 (Road 2) ∷ entry 1000 (Road 1) ∷ entry 2011 (Road 2) ∷ []) ∷ [] ∷ [];
}

tie_walk : unpacked_walk two_built 0 1 2010 ≡ 1 ∷ []
tie_walk = refl

tie_answer : relaxed two_built 0 Up 2010 ≡ At 2060
tie_answer = refl

after_tie : relaxed two_built 0 Up 2011 ≡ At 2060
after_tie = refl
