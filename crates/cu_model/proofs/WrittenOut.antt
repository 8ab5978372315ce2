-- Networks and orders that are written out road by road and node by node: a test that computes says that they are sound.
use Rattle.std.proofs.Common.{◌≡◌, ◌<◌, ℕ, List, Bool, true, false, refl, subst, sym, length, eqb}
use Rattle.std.specs.Prelude.{◌&&◌, nat_le, nat_lt}
use Rattle.std.specs.List.{AllByRecursion, list_all}
use Rattle.std.specs.Set.{distinct_count}
use Rattle.std.specs.Cmp.{nat_eq_equiv}
use Rattle.std.proofs.lemmas.Bool.{eqb-true, leb-true, ltb-true}
use Rattle.std.proofs.lemmas.List.Elements.{All-from_recursion, All-weaker}
use Rattle.std.proofs.lemmas.List.Sums.{AllPass-from_list_all}
use Rattle.std.proofs.lemmas.Map.Made.{IsDistinct-from_count}
use Rattle.cu_model.specs.declared.limits.TheConstants.{MAX_ARCS, MAX_NODES, MAX_PROFILES}
use Rattle.cu_model.specs.declared.profiles.Piece.{Piece}
use Rattle.cu_model.specs.declared.roads.RoadArc.{RoadArc}
use Rattle.cu_model.specs.Networks.{IsArcInRange, IsNetwork, NetworkValue}
use Rattle.cu_model.specs.Orders.{ListsEachNodeOnce}
use Rattle.cu_model.specs.Profiles.{IsProfile}

all_true : (p q r : Bool) → (p && q && r) ≡ true → (p ≡ true) × (q ≡ true) × (r ≡ true)
all_true true true r e = (refl, refl, e)
all_true true false r e = absurd (cc e)
all_true false q r e = absurd (cc e)

-- a road, by its ends and its profile
abbrev pub road : ℕ → ℕ → ℕ → RoadArc
road tail head profile = record { tail = tail; head = head; profile = profile }

-- whether a road's ends and profile are below these counts
abbrev pub is_in_range : ℕ → ℕ → RoadArc → Bool
is_in_range nodes profiles arc = nat_lt arc.tail nodes && nat_lt arc.head nodes && nat_lt arc.profile profiles

-- whether there are no more nodes, roads and profiles than there may be
abbrev pub is_small : ℕ → ℕ → ℕ → Bool
is_small nodes arcs profiles = nat_le nodes MAX_NODES && nat_le arcs MAX_ARCS && nat_le profiles MAX_PROFILES

ranges : (nodes : ℕ) (roads : List RoadArc) (given : List (List Piece)) (arc : RoadArc) → is_in_range nodes (length given) arc ≡ true
    → IsArcInRange (record { nodes = nodes; arcs = roads; profiles = given }) arc
ranges nodes roads given arc passes =
    let (tail, head, profile) = all_true (nat_lt arc.tail nodes) (nat_lt arc.head nodes) (nat_lt arc.profile (length given)) passes in
    (ltb-true _ _ tail, ltb-true _ _ head, ltb-true _ _ profile)

-- a network of these roads and profiles
pub written_network : (nodes : ℕ) (roads arcs : List RoadArc) (given profiles : List (List Piece))
    → is_small nodes (length roads) (length given) ≡ true → list_all (is_in_range nodes (length given)) roads ≡ true
    → AllByRecursion IsProfile given → arcs ≡ roads → profiles ≡ given
    → IsNetwork (record { nodes = nodes; arcs = arcs; profiles = profiles })
written_network nodes roads arcs given profiles small in_range valid same_roads same_profiles =
    let g : NetworkValue = record { nodes = nodes; arcs = roads; profiles = given } in
    let (few_nodes, few_arcs, few_profiles) = all_true (nat_le nodes MAX_NODES) (nat_le (length roads) MAX_ARCS) (nat_le (length given) MAX_PROFILES) small in
    let sound : IsNetwork g = record {
      few_nodes = leb-true _ _ few_nodes;
      few_arcs = leb-true _ _ few_arcs;
      few_profiles = leb-true _ _ few_profiles;
      in_range = All-weaker _ (IsArcInRange g) (ranges nodes roads given) roads (AllPass-from_list_all (is_in_range nodes (length given)) roads in_range);
      valid = All-from_recursion IsProfile given valid;
    } in
    rw (same_roads, same_profiles) sound

-- whether a list has each number below its length once, and no more of them than nodes may be
abbrev pub is_each_once : List ℕ → Bool
is_each_once nodes = nat_le (length nodes) MAX_NODES && list_all (λ node. nat_lt node (length nodes)) nodes && eqb (distinct_count eqb nodes) (length nodes)

-- an order of these nodes
pub written_order : (written nodes : List ℕ) → is_each_once written ≡ true → nodes ≡ written → ListsEachNodeOnce nodes
written_order written nodes passes same =
    let low : Bool = list_all (λ node. nat_lt node (length written)) written in
    let differ : Bool = eqb (distinct_count eqb written) (length written) in
    let (few, below, distinct) = all_true (nat_le (length written) MAX_NODES) low differ passes in
    let each : ListsEachNodeOnce written = record {
      few = leb-true _ _ few;
      in_range = All-weaker _ (λ node. node < length written) (λ node lt. ltb-true _ _ lt) written
          (AllPass-from_list_all (λ node. nat_lt node (length written)) written below);
      once = IsDistinct-from_count nat_eq_equiv written (eqb-true _ _ distinct);
    } in
    subst ListsEachNodeOnce (sym same) each
