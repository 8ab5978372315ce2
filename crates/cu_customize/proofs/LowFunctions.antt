-- Where the functions handed in are those of a network and order, what is settled by them is what low walks say.
use Rattle.std.proofs.Common.{◌≡◌, ◌<◌, ◌+◌, ◌^◌, ◌∙◌, ℕ, List, [], ◌∷◌, Option, Some, None, refl, sym, ap, subst, arith, true, false, ltb, min}
use Rattle.std.specs.Prelude.{IsSome}
use Rattle.cu_model.specs.Networks.{NetworkValue, IsNetwork}
use Rattle.cu_model.specs.Orders.{OrderValue, IsOrder}
use Rattle.cu_model.specs.Days.{day}
use Rattle.cu_model.specs.Roads.{drive, is_closed_arc}
use Rattle.cu_model.proofs.RoadLaws.{links_within}
use Rattle.cu_chordal.specs.declared.graph.Ends.{Ends}
use Rattle.cu_chordal.specs.Edges.{LinksRanks, ListsEdges}
use Rattle.cu_chordal.specs.Graphs.{HasEdge}
use Rattle.cu_chordal.proofs.Members.{member_at, place_of}
use Rattle.cu_interval.specs.declared.ways.Dir.{Dir}
use Rattle.cu_interval.specs.declared.ways.Dir.TheVariants.{Up, Down}
use Rattle.cu_interval.specs.declared.ways.Entry.{Entry}
use Rattle.cu_interval.specs.declared.ways.Way.{Way}
use Rattle.cu_interval.specs.declared.ways.Way.TheVariants.{Road, Via}
use Rattle.cu_interval.specs.EdgeArcs.{AreArcsFrom}
use Rattle.cu_interval.specs.FirstWays.{Arrives, IsBuiltList, IsCandidate}
use Rattle.cu_interval.specs.Hierarchies.{number_from}
use Rattle.cu_interval.specs.Low.{HasLowWalk, IsLeastLowDrive}
use Rattle.cu_interval.proofs.BuiltWalks.{least_unique}
use Rattle.cu_interval.proofs.Lookups.{number_at, number_found}
use Rattle.cu_customize.specs.Functions.{AreFunctionsOf, FunctionsState, IsLowFunction, IsRoadFunction}
use Rattle.cu_customize.specs.Settling.{ArrivesBy, IsCandidateBy, IsSettledList, KnowsHalves, function_from, shortcut_of, through, value_at}
use Rattle.cu_interval.proofs.Bounds.{least-near}
use Rattle.cu_interval.proofs.LowLists.{low_edge, low_edge_back, runs_by}

-- what a shortcut of a network and order is settled by
pub record IsSetting (g : NetworkValue) (o : OrderValue) (edges : List Ends) (arcs : List ℕ) (f : FunctionsState) (u v : ℕ) : Type 0 where
  pub network : IsNetwork g
  pub order : IsOrder o
  pub listed : ListsEdges g o edges
  pub roads : AreArcsFrom g o u v arcs
  pub functions : AreFunctionsOf g o edges f
  pub halves : KnowsHalves edges f u v

pub down_function : (edges : List Ends) (f : FunctionsState) (u m : ℕ) → m < u → function_from edges f u m ≡ shortcut_of f (number_from 0 edges m u) Down
down_function edges f u m lt = let test : ltb u m ≡ false = grind (arith, lt) in rw test refl

pub up_function : (edges : List Ends) (f : FunctionsState) (m v : ℕ) → m < v → function_from edges f m v ≡ shortcut_of f (number_from 0 edges m v) Up
up_function edges f m v lt = let test : ltb m v ≡ true = grind (arith, lt) in rw test refl

-- only an edge has a function
pub some_edge : (edges : List Ends) (f : FunctionsState) (low high : ℕ) (dir : Dir) (number : Option ℕ) → number_from 0 edges low high ≡ number
    → IsSome (shortcut_of f number dir) → HasEdge edges low high
some_edge edges f low high dir None e some = absurd (cc some)
some_edge edges f low high dir (Some k) e some =
    let (j, same, at) = number_found 0 edges low high k e in
    member_at edges (record { low = low; high = high }) j at

pub down_edge : (edges : List Ends) (f : FunctionsState) (u m : ℕ) → m < u → IsSome (function_from edges f u m) → HasEdge edges m u
down_edge edges f u m lt some =
    some_edge edges f m u Down (number_from 0 edges m u) refl (subst (λ (x : Option (ℕ → ℕ)). IsSome x) (down_function edges f u m lt) some)

pub up_edge : (edges : List Ends) (f : FunctionsState) (m v : ℕ) → m < v → IsSome (function_from edges f m v) → HasEdge edges m v
up_edge edges f m v lt some =
    some_edge edges f m v Up (number_from 0 edges m v) refl (subst (λ (x : Option (ℕ → ℕ)). IsSome x) (up_function edges f m v lt) some)

-- the function that is known of a half is that of its low walks
pub down_low : (g : NetworkValue) (o : OrderValue) (edges : List Ends) (f : FunctionsState) → ListsEdges g o edges → AreFunctionsOf g o edges f → (u m : ℕ) → m < u → HasEdge edges m u
    → ((e : ℕ) → number_from 0 edges m u ≡ Some e → f.knows e Down ≡ true) → IsLowFunction g o u m (function_from edges f u m)
down_low g o edges f listed are u m lt edge known =
    let (j, at) = place_of edges (record { low = m; high = u }) edge in
    let sum : 0 + j ≡ j = omega arith in
    let number : number_from 0 edges m u ≡ Some j = number_at 0 edges j m u listed.sorted at ∙ ap (λ (x : ℕ). Some x) sum in
    let is = are.shortcuts j Down (record { low = m; high = u }) at (known j number) in
    let same : function_from edges f u m ≡ f.shortcut j Down = down_function edges f u m lt ∙ ap (λ (x : Option ℕ). shortcut_of f x Down) number in
    subst (λ (x : Option (ℕ → ℕ)). IsLowFunction g o u m x) (sym same) is

pub up_low : (g : NetworkValue) (o : OrderValue) (edges : List Ends) (f : FunctionsState) → ListsEdges g o edges → AreFunctionsOf g o edges f → (m v : ℕ) → m < v → HasEdge edges m v
    → ((e : ℕ) → number_from 0 edges m v ≡ Some e → f.knows e Up ≡ true) → IsLowFunction g o m v (function_from edges f m v)
up_low g o edges f listed are m v lt edge known =
    let (j, at) = place_of edges (record { low = m; high = v }) edge in
    let sum : 0 + j ≡ j = omega arith in
    let number : number_from 0 edges m v ≡ Some j = number_at 0 edges j m v listed.sorted at ∙ ap (λ (x : ℕ). Some x) sum in
    let is = are.shortcuts j Up (record { low = m; high = v }) at (known j number) in
    let same : function_from edges f m v ≡ f.shortcut j Up = up_function edges f m v lt ∙ ap (λ (x : Option ℕ). shortcut_of f x Up) number in
    subst (λ (x : Option (ℕ → ℕ)). IsLowFunction g o m v x) (sym same) is

-- it is there exactly where a low walk is
low_some : (g : NetworkValue) (o : OrderValue) (u v : ℕ) (f : Option (ℕ → ℕ)) → IsLowFunction g o u v f → IsSome f → HasLowWalk g o u v
low_some g o u v None h some = absurd (cc some)
low_some g o u v (Some f) h some = let (w, l, e) = (h 0).reached in (w, l)

some_low : (g : NetworkValue) (o : OrderValue) (u v : ℕ) (f : Option (ℕ → ℕ)) → IsLowFunction g o u v f → HasLowWalk g o u v → IsSome f
some_low g o u v None h walk = absurd (h walk)
some_low g o u v (Some f) h walk = refl

-- so where a low walk leads there is a least one
pub least_low : (g : NetworkValue) (o : OrderValue) (u v t : ℕ) (f : Option (ℕ → ℕ)) → IsLowFunction g o u v f → HasLowWalk g o u v → (a : ℕ) × IsLeastLowDrive g o u v t a
least_low g o u v t None h walk = absurd (h walk)
least_low g o u v t (Some f) h walk = (f t, h t)

-- both halves of a triangle
pub record AreHalves (g : NetworkValue) (o : OrderValue) (edges : List Ends) (f : FunctionsState) (u m v : ℕ) : Type 0 where
  pub first : IsLowFunction g o u m (function_from edges f u m)
  pub second : IsLowFunction g o m v (function_from edges f m v)

pub halves_at : (g : NetworkValue) (o : OrderValue) (edges : List Ends) (arcs : List ℕ) (f : FunctionsState) (u v : ℕ) → IsSetting g o edges arcs f u v
    → (m : ℕ) → m < u → m < v → HasEdge edges m u → HasEdge edges m v → AreHalves g o edges f u m v
halves_at g o edges arcs f u v s m mu mv one two =
    let known = s.halves m mu mv one two in
    record {
      first = down_low g o edges f s.listed s.functions u m mu one known.0;
      second = up_low g o edges f s.listed s.functions m v mv two known.1;
    }

road_open : (g : NetworkValue) (a : ℕ) (f : Option (ℕ → ℕ)) → IsRoadFunction g a f → IsSome f → is_closed_arc g a ≡ false
road_open g a None h some = absurd (cc some)
road_open g a (Some f) h some = h.0

open_road : (g : NetworkValue) (a : ℕ) (f : Option (ℕ → ℕ)) → IsRoadFunction g a f → is_closed_arc g a ≡ false → IsSome f
open_road g a None h free = absurd (cc (h, free))
open_road g a (Some f) h free = refl

road_there : (g : NetworkValue) (a t arrival : ℕ) (f : Option (ℕ → ℕ)) → IsRoadFunction g a f → value_at f t ≡ Some arrival → drive g (a ∷ []) t ≡ arrival
road_there g a t arrival None h e = absurd (cc e)
road_there g a t arrival (Some f) h e = sym (h.1 t) ∙ cc e

road_back : (g : NetworkValue) (a t arrival : ℕ) (f : Option (ℕ → ℕ)) → IsRoadFunction g a f → is_closed_arc g a ≡ false → drive g (a ∷ []) t ≡ arrival → value_at f t ≡ Some arrival
road_back g a t arrival None h free e = absurd (cc (h, free))
road_back g a t arrival (Some f) h free e = ap (λ (x : ℕ). Some x) (h.1 t ∙ e)

through_there : (g : NetworkValue) (o : OrderValue) → IsNetwork g → IsOrder o → (u m v t arrival : ℕ) (first second : Option (ℕ → ℕ))
    → IsLowFunction g o u m first → IsLowFunction g o m v second → t < day → through first second t ≡ Some arrival → Arrives g o u v t (Via m) arrival
through_there g o n k u m v t arrival None second h i lt e = absurd (cc e)
through_there g o n k u m v t arrival (Some f) None h i lt e = absurd (cc e)
through_there g o n k u m v t arrival (Some f) (Some b) h i lt e =
    let near = least-near g o n k u m t (f t) (h t) in
    let far = least-near g o n k m v (f t) (b (f t)) (i (f t)) in
    let is : min (b (f t)) (2 ^ 62) ≡ arrival = cc e in
    let same : b (f t) ≡ arrival = omega (arith, near, far, is, lt) in
    (f t, h t, subst (λ (x : ℕ). IsLeastLowDrive g o m v (f t) x) same (i (f t)))

through_back : (g : NetworkValue) (o : OrderValue) → IsNetwork g → IsOrder o → (u m v t arrival : ℕ) (first second : Option (ℕ → ℕ))
    → IsLowFunction g o u m first → IsLowFunction g o m v second → HasLowWalk g o u m → HasLowWalk g o m v → t < day → Arrives g o u v t (Via m) arrival → through first second t ≡ Some arrival
through_back g o n k u m v t arrival None second h i w x lt r = absurd (h w)
through_back g o n k u m v t arrival (Some f) None h i w x lt r = absurd (i x)
through_back g o n k u m v t arrival (Some f) (Some b) h i w x lt r =
    let near = least-near g o n k u m t (f t) (h t) in
    let far = least-near g o n k m v (f t) (b (f t)) (i (f t)) in
    let one : r.0 ≡ f t = least_unique g o u m t r.0 (f t) r.1 (h t) in
    let two : arrival ≡ b (f t) = least_unique g o m v (f t) arrival (b (f t)) (subst (λ (y : ℕ). IsLeastLowDrive g o m v y arrival) one r.2) (i (f t)) in
    let same : min (b (f t)) (2 ^ 62) ≡ arrival = omega (arith, near, far, two, lt) in
    ap (λ (y : ℕ). Some y) same

module _ (g : NetworkValue) (o : OrderValue) (edges : List Ends) (arcs : List ℕ) (f : FunctionsState) (u v : ℕ) (s : IsSetting g o edges arcs f u v) where
  road_function : (a : ℕ) → LinksRanks g o a u v → IsRoadFunction g a (f.road a)
  road_function a l = s.functions.roads a (links_within g a l.0 l.1 l.2)

  pub candidate_there : (way : Way) → IsCandidateBy edges arcs f u v way → IsCandidate g o u v way
  candidate_there (Road a) (held, some) =
      let l = (s.roads.exact a).0 held in
      let free = road_open g a (f.road a) (road_function a l) some in
      (l.0, l.1, (l.2, free), l.3, l.4)
  candidate_there (Via m) (mu, mv, one, two) =
      let halves = halves_at g o edges arcs f u v s m mu mv (down_edge edges f u m mu one) (up_edge edges f m v mv two) in
      (mu, mv, low_some g o u m (function_from edges f u m) halves.first one, low_some g o m v (function_from edges f m v) halves.second two)

  pub candidate_back : (way : Way) → IsCandidate g o u v way → IsCandidateBy edges arcs f u v way
  candidate_back (Road a) l =
      let links : LinksRanks g o a u v = (l.0, l.1, l.2.0, l.3, l.4) in
      ((s.roads.exact a).1 links, open_road g a (f.road a) (road_function a links) l.2.1)
  candidate_back (Via m) (mu, mv, one, two) =
      let halves = halves_at g o edges arcs f u v s m mu mv (low_edge_back g o edges s.listed u m one mu) (low_edge g o edges s.listed m v two mv) in
      (mu, mv, some_low g o u m (function_from edges f u m) halves.first one, some_low g o m v (function_from edges f m v) halves.second two)

  pub value_there : (t arrival : ℕ) (way : Way) → t < day → IsCandidate g o u v way → ArrivesBy edges f u v t way arrival → Arrives g o u v t way arrival
  value_there t arrival (Road a) lt l e = road_there g a t arrival (f.road a) (road_function a (l.0, l.1, l.2.0, l.3, l.4)) e
  value_there t arrival (Via m) lt (mu, mv, one, two) e =
      let halves = halves_at g o edges arcs f u v s m mu mv (low_edge_back g o edges s.listed u m one mu) (low_edge g o edges s.listed m v two mv) in
      through_there g o s.network s.order u m v t arrival (function_from edges f u m) (function_from edges f m v) halves.first halves.second lt e

  pub value_back : (t arrival : ℕ) (way : Way) → t < day → IsCandidate g o u v way → Arrives g o u v t way arrival → ArrivesBy edges f u v t way arrival
  value_back t arrival (Road a) lt l e = road_back g a t arrival (f.road a) (road_function a (l.0, l.1, l.2.0, l.3, l.4)) l.2.1 e
  value_back t arrival (Via m) lt (mu, mv, one, two) r =
      let halves = halves_at g o edges arcs f u v s m mu mv (low_edge_back g o edges s.listed u m one mu) (low_edge g o edges s.listed m v two mv) in
      through_back g o s.network s.order u m v t arrival (function_from edges f u m) (function_from edges f m v) halves.first halves.second one two lt r

  -- the settled list is the built one
  pub settled_built : (entries : List Entry) → IsSettledList edges arcs f u v entries → IsBuiltList g o u v entries
  settled_built entries settled =
      runs_by (IsCandidateBy edges arcs f u v) (IsCandidate g o u v) (ArrivesBy edges f u v) (Arrives g o u v) entries candidate_there candidate_back value_there value_back settled
