-- `build NODES ROADS PROFILES ORDER OUT`: the packed file of a network's built hierarchy, stored.
use Rattle.std.specs.Prelude.{ℕ, List, [], ◌∷◌, ◌⊎◌, false, codes, length}
use Rattle.cu_io.specs.Shelves.{ShelfState}
use Rattle.cu_interval.specs.Hierarchies.{HierarchyValue, IsBuilt}
use Rattle.cu_pack.specs.Spelling.{spelling}
use Rattle.cu_roads.specs.declared.places.Place.{Place}
use Rattle.cu_cli.specs.declared.stops.Stop.{Stop}
use Rattle.cu_cli.specs.Endings.{Ending, EndsPacking, IsTooLarge, StopsBefore, packed_file}
use Rattle.cu_cli.specs.Meanings.{Meaning, no_command}
use Rattle.cu_cli.specs.Preparing.{IsServable, Prepares, StopsPreparing}
use Rattle.cu_cli.specs.Stops.{numbers_text}
use Rattle.cu_cli.specs.Words.{OrderAsked, TablesAsked, order_of_word}

-- what is said of a hierarchy that is stored: its nodes, its roads, its edges and the bytes of its file
abbrev pub built_text : HierarchyValue → ℕ → List ℕ
built_text h bytes = numbers_text (codes "built") (h.network.nodes ∷ length h.network.arcs ∷ length h.edges ∷ bytes ∷ [])

-- a network, whatever its places are, and its order were prepared, and the packed file of their built hierarchy is stored and said; or the
-- first refusal stopped it
abbrev pub EndsBuild : TablesAsked → OrderAsked → (out : List ℕ) → ShelfState → ShelfState → Ending → Type 0
EndsBuild tables asked out before now work =
    ((h : HierarchyValue) × (places : List Place) × IsBuilt h
    × Prepares before tables asked (record { network = h.network; places = places }) h.order
    × EndsPacking before now [] (packed_file out h) (built_text h (length (spelling h))) work)
    ⊎ ((why : Stop) × StopsPreparing before now tables asked why × StopsBefore why work)

unfoldable pub building : TablesAsked → OrderAsked → (out : List ℕ) → Meaning
building tables asked out =
    record { ends = EndsBuild tables asked out; script = false; can = IsServable tables asked; stops = IsTooLarge }

-- what the words behind `build` ask for
abbrev pub build_of : List (List ℕ) → Meaning
build_of (nodes ∷ roads ∷ profiles ∷ order ∷ out ∷ []) =
    building (record { nodes = nodes; roads = roads; profiles = profiles }) (order_of_word order) out
build_of _ = no_command
