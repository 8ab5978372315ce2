-- The first ones of a list, and one more.
use Rattle.std.proofs.Common.{◌≡◌, ◌≤◌, ◌<◌, ◌+◌, ℕ, List, Some, length, sym, subst, take}
use Rattle.std.specs.Prelude.{All, slice_get}
use Rattle.std.specs.List.{Contains}
use Rattle.std.proofs.lemmas.List.{take_all}
use Rattle.std.proofs.lemmas.List.Elements.{All-more}
use Rattle.std.proofs.lemmas.Option.{get_or_from_slice_get, slice_get-get_or, slice_get_within}
use Rattle.cu_model.specs.Networks.{NetworkValue}
use Rattle.cu_model.specs.Orders.{OrderValue}
use Rattle.cu_chordal.specs.declared.graph.Ends.{Ends}
use Rattle.cu_chordal.proofs.Linked.{road_within}
use Rattle.cu_interval.specs.declared.ways.Dir.{Dir}
use Rattle.cu_interval.specs.EdgeArcs.{AreEdgeArcs}
use Rattle.cu_interval.specs.Hierarchies.{list_number}

pub all_next : {X : Type 0} (P : X → Type 0) (xs : List X) (i : ℕ) (x : X) → slice_get xs i ≡ Some x → All P (take i xs) → P x → All P (take (i + 1) xs)
all_next P xs i x there all p = All-more P xs i x (slice_get_within xs i x there) all (subst P (sym (get_or_from_slice_get xs i x x there)) p)

pub all_of_first : {X : Type 0} (P : X → Type 0) (xs : List X) (i : ℕ) → length xs ≤ i → All P (take i xs) → All P xs
all_of_first P xs i done all = subst (All P) (take_all i xs done) all

-- the roads of an edge are roads of the network
pub road_below : (g : NetworkValue) (o : OrderValue) (edges : List Ends) (lists : List (List ℕ)) (edge : ℕ) (dir : Dir) → AreEdgeArcs g o edges lists → edge < length edges
    → (list : List ℕ) → slice_get lists (list_number edge dir) ≡ Some list → (a : ℕ) → Contains list a → a < length g.arcs
road_below g o edges lists edge dir are inside list at a c =
    let ends = slice_get-get_or edges edge (record { low = 0; high = 0 }) inside in
    road_within g o a _ _ (((are.each edge dir _ list ends at).exact a).0 c)
