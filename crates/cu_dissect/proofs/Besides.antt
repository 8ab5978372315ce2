-- Neighbours of nodes, and which nodes are beside marked ones.
use Rattle.std.proofs.Common.{◌≡◌, ◌<◌, ◌+◌, ◌*◌, ℕ, List, [], ◌∷◌, ◌++◌, Bool, true, false, cond, ◌&&◌, ◌||◌, Some, eqb, length, take, get_or, refl, sym, ◌∙◌, ap, subst, arith}
use Rattle.std.specs.Prelude.{All, slice_get}
use Rattle.std.specs.List.{flat_map, list_any}
use Rattle.std.proofs.lemmas.List.{flat_map_more, take_more}
use Rattle.std.proofs.lemmas.List.Elements.{All-cons, All-head, All-nil, All-tail}
use Rattle.std.proofs.lemmas.Option.{get_or_from_slice_get, same_Some, slice_get_within}
use Rattle.cu_model.specs.declared.roads.RoadArc.{RoadArc}
use Rattle.cu_model.specs.Networks.{IsNetwork, NetworkValue}
use Rattle.cu_chordal.specs.Groups.{AreGroups, group_of}
use Rattle.cu_chordal.proofs.Linked.{group_member}
use Rattle.cu_chordal.proofs.Members.{all_from_members}
use Rattle.cu_dissect.specs.Dissection.{has, joins, touches}
use Rattle.cu_dissect.specs.Steps.Parts.{HoldsNeighbours, far_ends, is_beside, is_marked, near_ends}

abbrev both_ends : (RoadArc → ℕ) → (RoadArc → ℕ) → RoadArc → List ℕ
both_ends first second arc = first arc ∷ second arc ∷ []

append_two : (xs : List ℕ) (x y : ℕ) → (xs ++ (x ∷ [])) ++ (y ∷ []) ≡ xs ++ (x ∷ y ∷ [])
append_two [] x y = refl
append_two (z ∷ xs) x y = ap (λ (ys : List ℕ). z ∷ ys) (append_two xs x y)

-- the ends of one more road
pub ends_more : (first second : RoadArc → ℕ) (arcs : List RoadArc) (i : ℕ) (arc : RoadArc) (ends one two : List ℕ) → slice_get arcs i ≡ Some arc
    → ends ≡ flat_map (both_ends first second) (take i arcs)
    → one ≡ ends ++ (first arc ∷ []) → two ≡ one ++ (second arc ∷ []) → two ≡ flat_map (both_ends first second) (take (i + 1) arcs)
ends_more first second arcs i arc ends one two at before first_is second_is =
    let within : i < length arcs = slice_get_within arcs i arc at in
    let here : get_or arcs i arc ≡ arc = get_or_from_slice_get arcs i arc arc at in
    let more : take (i + 1) arcs ≡ take i arcs ++ (arc ∷ []) = take_more arcs i arc within ∙ ap (λ (a : RoadArc). take i arcs ++ (a ∷ [])) here in
    let whole = flat_map_more (both_ends first second) [] (take i arcs) arc in
    let joined : two ≡ flat_map (both_ends first second) (take i arcs) ++ (first arc ∷ second arc ∷ []) =
    second_is ∙ ap (λ (xs : List ℕ). xs ++ (second arc ∷ [])) (first_is ∙ ap (λ (xs : List ℕ). xs ++ (first arc ∷ [])) before)
    ∙ append_two (flat_map (both_ends first second) (take i arcs)) (first arc) (second arc) in
    joined ∙ whole ∙ ap (flat_map (both_ends first second)) (sym more)

pub ends_long : (first second : RoadArc → ℕ) (arcs : List RoadArc) → length (flat_map (both_ends first second) arcs) ≡ 2 * length arcs
ends_long first second [] = refl
ends_long first second (arc ∷ arcs) = let rest = ends_long first second arcs in omega (arith, rest)

ends_below : (n : ℕ) (first second : RoadArc → ℕ) (arcs : List RoadArc) → All (λ arc. (first arc < n) × (second arc < n)) arcs → All (λ node. node < n) (flat_map (both_ends first second) arcs)
ends_below n first second [] all = All-nil (λ node. node < n)
ends_below n first second (arc ∷ arcs) all =
    let here = All-head (λ (a : RoadArc). (first a < n) × (second a < n)) arc arcs all in
    let rest = ends_below n first second arcs (All-tail (λ (a : RoadArc). (first a < n) × (second a < n)) arc arcs all) in
    All-cons (λ node. node < n) (first arc) (second arc ∷ flat_map (both_ends first second) arcs) here.0 (All-cons (λ node. node < n) (second arc) (flat_map (both_ends first second) arcs) here.1 rest)

pub near_below : (g : NetworkValue) → IsNetwork g → All (λ node. node < g.nodes) (near_ends g.arcs)
near_below g f = ends_below g.nodes (λ arc. arc.tail) (λ arc. arc.head) g.arcs (λ k d h. let range = f.in_range k d h in (range.0, range.1))

pub far_below : (g : NetworkValue) → IsNetwork g → All (λ node. node < g.nodes) (far_ends g.arcs)
far_below g f = ends_below g.nodes (λ arc. arc.head) (λ arc. arc.tail) g.arcs (λ k d h. let range = f.in_range k d h in (range.1, range.0))

-- the groups of the far ends by the near ones are the neighbours
pub neighbours_held : (g : NetworkValue) (neighbours : List (List ℕ)) → IsNetwork g → AreGroups (near_ends g.arcs) (far_ends g.arcs) g.nodes neighbours → HoldsNeighbours g neighbours
neighbours_held g neighbours f groups = record {
  groups = groups;
  in_range = λ node list at.
      let within : node < g.nodes = omega (arith, slice_get_within neighbours node list at, groups.long) in
      let same : group_of (near_ends g.arcs) (far_ends g.arcs) node ≡ list = same_Some (group_of (near_ends g.arcs) (far_ends g.arcs) node) list (sym (groups.each node within) ∙ at) in
      subst (All (λ other. other < g.nodes)) same (all_from_members (λ other. other < g.nodes) (group_of (near_ends g.arcs) (far_ends g.arcs) node)
      (λ other c. let m = group_member (near_ends g.arcs) (far_ends g.arcs) node other c in subst (λ k. k < g.nodes) m.4 (far_below g f m.0 0 m.2)));
}

any_grouped : (m : ℕ → Bool) (b : Bool) (x : ℕ) (xs : List ℕ) → list_any m (cond b (x ∷ xs) xs) ≡ ((b && m x) || list_any m xs)
any_grouped m true x xs = refl
any_grouped m false x xs = refl

or_regroup : (p q r : Bool) → (p || (q || r)) ≡ ((p || q) || r)
or_regroup true q r = refl
or_regroup false q r = refl

-- a neighbour in the list is a road to it or from it
pub marked_touches : (m : ℕ → Bool) (nodes : List ℕ) (node : ℕ) (arcs : List RoadArc) → ((v : ℕ) → m v ≡ has nodes v)
    → list_any m (group_of (near_ends arcs) (far_ends arcs) node) ≡ list_any (joins nodes node) arcs
marked_touches m nodes node [] same = refl
marked_touches m nodes node (arc ∷ arcs) same =
    let rest : List ℕ = group_of (near_ends arcs) (far_ends arcs) node in
    let inner : List ℕ = cond (eqb arc.head node) (arc.tail ∷ rest) rest in
    let outer : list_any m (cond (eqb arc.tail node) (arc.head ∷ inner) inner) ≡ ((eqb arc.tail node && m arc.head) || list_any m inner) = any_grouped m (eqb arc.tail node) arc.head inner in
    let second : list_any m inner ≡ ((eqb arc.head node && m arc.tail) || list_any m rest) = any_grouped m (eqb arc.head node) arc.tail rest in
    outer ∙ ap (λ (b : Bool). (eqb arc.tail node && b) || list_any m inner) (same arc.head)
    ∙ ap (λ (b : Bool). (eqb arc.tail node && has nodes arc.head) || b)
    (second ∙ ap (λ (b : Bool). (eqb arc.head node && b) || list_any m rest) (same arc.tail)
    ∙ ap (λ (b : Bool). (eqb arc.head node && has nodes arc.tail) || b) (marked_touches m nodes node arcs same))
    ∙ or_regroup (eqb arc.tail node && has nodes arc.head) (eqb arc.head node && has nodes arc.tail) (list_any (joins nodes node) arcs)

-- where just these nodes are marked, a node with a marked neighbour touches one of them
pub beside_touches : (g : NetworkValue) (neighbours : List (List ℕ)) (marks : List Bool) (nodes : List ℕ) (node : ℕ) → HoldsNeighbours g neighbours
    → ((v : ℕ) → get_or marks v false ≡ has nodes v) → node < g.nodes
    → is_beside neighbours marks node ≡ touches g nodes node
beside_touches g neighbours marks nodes node f same within =
    let list : get_or neighbours node [] ≡ group_of (near_ends g.arcs) (far_ends g.arcs) node =
    get_or_from_slice_get neighbours node (group_of (near_ends g.arcs) (far_ends g.arcs) node) [] (f.groups.each node within) in
    ap (is_marked marks) list ∙ marked_touches (λ v. get_or marks v false) nodes node g.arcs same
