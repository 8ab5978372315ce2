-- What the functions that are known say of the resettled values.
use Rattle.std.proofs.Common.{◌≡◌, ◌≢◌, ◌<◌, ◌^◌, ◌∙◌, ℕ, Bool, List, [], Option, Some, None, refl, ap, sym, subst, arith, min, true, false, ltb, if◌then◌else◌, IsSome}
use Rattle.std.specs.Prelude.{option_map, slice_get}
use Rattle.cu_model.specs.declared.roads.Edit.{Edit}
use Rattle.cu_model.specs.Networks.{NetworkValue}
use Rattle.cu_model.specs.Orders.{OrderValue}
use Rattle.cu_model.specs.Roads.{arc_value, is_closed_arc}
use Rattle.cu_arrival.specs.declared.runs.Run.{Run}
use Rattle.cu_arrival.specs.Runs.{arrival_value}
use Rattle.cu_chordal.specs.declared.graph.Ends.{Ends}
use Rattle.cu_chordal.specs.Edges.{LinksRanks}
use Rattle.cu_chordal.specs.Graphs.{HasEdge}
use Rattle.cu_interval.specs.declared.ways.Dir.{Dir}
use Rattle.cu_interval.specs.declared.ways.Dir.TheVariants.{Up, Down}
use Rattle.cu_interval.specs.declared.ways.Way.{Way}
use Rattle.cu_interval.specs.declared.ways.Way.TheVariants.{Road, Via}
use Rattle.cu_interval.specs.declared.ways.Entry.{Entry}
use Rattle.cu_interval.specs.EdgeArcs.{AreArcsFrom}
use Rattle.cu_interval.specs.Hierarchies.{HierarchyValue, IsHierarchy, end_of, list_from, list_of, number_from, start_of}
use Rattle.cu_interval.specs.Resettling.{ArrivesIn, IsCandidateIn, rebuilt, then_at}
use Rattle.cu_interval.proofs.Lookups.{number_finds}
use Rattle.cu_interval.proofs.EndsLaws.{ends_rise}
use Rattle.cu_customize.specs.Functions.{FunctionsState}
use Rattle.cu_customize.specs.Settling.{ArrivesBy, IsCandidateBy, function_from, through, value_at}
use Rattle.cu_customize.proofs.LowFunctions.{down_edge, up_edge}
use Rattle.cu_unpack.specs.Rebuilds.{IsRebuiltFunction}
use Rattle.cu_edits.specs.declared.edge_functions.EdgeFunctions.{EdgeFunctions}
use Rattle.cu_edits.specs.Settling.{SettlingValue, settled_so_far}
use Rattle.cu_edits.specs.Steps.Known.{AreRebuilt, function_in, functions_of, known_function, road_in, values_of}
use Rattle.cu_edits.specs.Steps.Frames.{LeadsOver}
use Rattle.cu_edits.proofs.Frames.{ChoosesAlike}
use Rattle.cu_edits.proofs.Sides.{edge_down, edge_up, list_at}
use Rattle.cu_resettled.proofs.Unchanged.{joins_leads, leads_joins}
use Rattle.cu_resettled.specs.ResettlingAll.{edited_all}
use Rattle.cu_resettled.proofs.TouchedBySome.{all_ranks_edited, all_ranks_kept}

-- the function that is asked for between the ends of an edge is the edge's
function_at_ends : (h : HierarchyValue) → IsHierarchy h → (f : FunctionsState) (edge : ℕ) (dir : Dir) (ends : Ends) → slice_get h.edges edge ≡ Some ends
    → function_from h.edges f (start_of ends dir) (end_of ends dir) ≡ f.shortcut edge dir
function_at_ends h sound f edge Up ends e =
    let less = ends_rise h sound edge ends e in
    let lt : ltb ends.low ends.high ≡ true = grind (arith, less) in
    let at : number_from 0 h.edges ends.low ends.high ≡ Some edge = number_finds h.edges sound.graph.rising ends.low ends.high (Some edge) e in
    rw (lt, at) refl
function_at_ends h sound f edge Down ends e =
    let less = ends_rise h sound edge ends e in
    let ge : ltb ends.high ends.low ≡ false = grind (arith, less) in
    let at : number_from 0 h.edges ends.low ends.high ≡ Some edge = number_finds h.edges sound.graph.rising ends.low ends.high (Some edge) e in
    rw (ge, at) refl

-- also by the ranks that it leads from and to
pub function_at : (h : HierarchyValue) → IsHierarchy h → (f : FunctionsState) (edge : ℕ) (dir : Dir) (u v : ℕ) → LeadsOver h.edges edge dir u v → function_from h.edges f u v ≡ f.shortcut edge dir
function_at h sound f edge dir u v leads =
    subst (λ (x : ℕ). function_from h.edges f x v ≡ f.shortcut edge dir) leads.from
    (subst (λ (y : ℕ). function_from h.edges f (start_of leads.ends dir) y ≡ f.shortcut edge dir) leads.to (function_at_ends h sound f edge dir leads.ends leads.at))

-- a function between two ranks has the rebuilt values; none where the list is empty
abbrev pub HasRebuilt : HierarchyValue → ℕ → ℕ → Option (List Run) → Type 0
HasRebuilt h u v None = list_from h u v ≡ []
HasRebuilt h u v (Some runs) = (list_from h u v ≢ []) × ((t : ℕ) → rebuilt h u v t ≡ Some (arrival_value runs t))

-- what is asked for between two ranks is known, and has the rebuilt values
pub record IsHalf (h : HierarchyValue) (f : FunctionsState) (u v : ℕ) : Type 0 where
  pub function : Option (List Run)
  pub is : function_from h.edges f u v ≡ values_of function
  pub rebuilds : HasRebuilt h u v function

-- runs with the rebuilt values of an edge's list; none where it is empty
abbrev pub HasValues : HierarchyValue → ℕ → Dir → Option (List Run) → Type 0
HasValues h edge dir None = list_of h edge dir ≡ []
HasValues h edge dir (Some runs) = (list_of h edge dir ≢ [])
    × ((ends : Ends) → slice_get h.edges edge ≡ Some ends → (t : ℕ) → rebuilt h (start_of ends dir) (end_of ends dir) t ≡ Some (arrival_value runs t))

pub by_ranks : (before h : HierarchyValue) → IsHierarchy before → h.edges ≡ before.edges → (edge : ℕ) (dir : Dir) (u v : ℕ) (function : Option (List Run)) → LeadsOver before.edges edge dir u v
    → HasValues h edge dir function → HasRebuilt h u v function
by_ranks before h sound same edge dir u v None leads e = list_at before h sound same edge dir u v leads ∙ e
by_ranks before h sound same edge dir u v (Some runs) leads (some, values) =
    let at : slice_get h.edges edge ≡ Some leads.ends = ap (λ (es : List Ends). slice_get es edge) same ∙ leads.at in (
      subst (λ (es : List Entry). es ≢ []) (sym (list_at before h sound same edge dir u v leads)) some,
      λ t. subst (λ (x : ℕ). rebuilt h x v t ≡ Some (arrival_value runs t)) leads.from
          (subst (λ (y : ℕ). rebuilt h (start_of leads.ends dir) y t ≡ Some (arrival_value runs t)) leads.to (values leads.ends at t)),
    )

plain_values : (h : HierarchyValue) (edge : ℕ) (dir : Dir) (function : Option (List Run)) → IsRebuiltFunction h edge dir function → HasValues h edge dir function
plain_values h edge dir None is = is
plain_values h edge dir (Some runs) (some, is, values) = (some, values)

pub half_known : (s : SettlingValue) → IsHierarchy s.before → (g : NetworkValue) (known : List (Option EdgeFunctions)) (edge : ℕ) (dir : Dir) (u v : ℕ) (functions : EdgeFunctions)
    → LeadsOver s.before.edges edge dir u v → slice_get known edge ≡ Some (Some functions) → AreRebuilt (settled_so_far s) edge functions
    → IsHalf (settled_so_far s) (functions_of (record { network = g; known = known })) u v
half_known s sound g known edge dir u v functions leads there are = record {
  function = function_in functions dir;
  is = function_at s.before sound (functions_of (record { network = g; known = known })) edge dir u v leads ∙ ap (λ (o : Option (Option EdgeFunctions)). values_of (known_function o dir)) there;
  rebuilds = by_ranks s.before (settled_so_far s) sound refl edge dir u v (function_in functions dir) leads
      (plain_values (settled_so_far s) edge dir (function_in functions dir) (are dir));
}

some_list : (h : HierarchyValue) (u v : ℕ) (function : Option (List Run)) (asked : Option (ℕ → ℕ)) → asked ≡ values_of function → HasRebuilt h u v function → IsSome asked → list_from h u v ≢ []
some_list h u v None asked e none some = absurd (cc (subst IsSome e some))
some_list h u v (Some runs) asked e (list, values) some = list

some_function : (h : HierarchyValue) (u v : ℕ) (function : Option (List Run)) (asked : Option (ℕ → ℕ)) → asked ≡ values_of function → HasRebuilt h u v function → list_from h u v ≢ [] → IsSome asked
some_function h u v None asked e none some = absurd (some none)
some_function h u v (Some runs) asked e (list, values) some = subst IsSome (sym e) refl

-- the value of a way by a middle of which both halves have a list
via_value : (h : HierarchyValue) (u m v t : ℕ) (first second : Option (List Run)) (to on : Option (ℕ → ℕ)) → to ≡ values_of first → on ≡ values_of second
    → HasRebuilt h u m first → HasRebuilt h m v second → list_from h u m ≢ [] → list_from h m v ≢ [] → then_at (rebuilt h u m t) (rebuilt h m v) ≡ through to on t
via_value h u m v t None second to on p q none other some more = absurd (some none)
via_value h u m v t (Some r) None to on p q has none some more = absurd (more none)
via_value h u m v t (Some r) (Some s) to on p q (list, values) (other, later) some more =
    let by : through to on t ≡ Some (min (arrival_value s (arrival_value r t)) (2 ^ 62)) =
    ap (λ (o : Option (ℕ → ℕ)). through o on t) p ∙ ap (λ (o : Option (ℕ → ℕ)). through (Some (arrival_value r)) o t) q in
    ap (λ (o : Option ℕ). then_at o (rebuilt h m v)) (values t) ∙ ap (option_map (λ (y : ℕ). min y (2 ^ 62))) (later (arrival_value r t)) ∙ sym by

open_road : (g : NetworkValue) (a : ℕ) (b : Bool) → is_closed_arc g a ≡ b → IsSome (if b then None else Some (arc_value g a)) → is_closed_arc g a ≡ false
open_road g a true e some = absurd (cc some)
open_road g a false e some = e

road_there : (g : NetworkValue) (a : ℕ) → is_closed_arc g a ≡ false → road_in g a ≡ Some (arc_value g a)
road_there g a e = rw e refl

-- what settling knows of a way is what the hierarchy does: of a road its function, of a middle both halves
abbrev pub KnowsWay : HierarchyValue → FunctionsState → ℕ → ℕ → Way → Type 0
KnowsWay h f u v (Road a) = f.road a ≡ road_in h.network a
KnowsWay h f u v (Via m) = m < u → m < v → HasEdge h.edges m u → HasEdge h.edges m v → IsHalf h f u m × IsHalf h f m v

module _ (before : HierarchyValue) (edit : List Edit) (h : HierarchyValue) (network : h.network ≡ edited_all before.network edit) (order : h.order ≡ before.order) (roads : List ℕ) (f : FunctionsState)
    (u v : ℕ) (are : AreArcsFrom before.network before.order u v roads) where
  is_open : (a : ℕ) → KnowsWay h f u v (Road a) → IsSome (f.road a) → is_closed_arc h.network a ≡ false
  is_open a knows some = open_road h.network a (is_closed_arc h.network a) refl (subst IsSome knows some)

  -- what settling calls a candidate is one
  pub candidate_in : (way : Way) → KnowsWay h f u v way → IsCandidateBy h.edges roads f u v way → IsCandidateIn h u v way
  candidate_in (Road a) knows (c, some) =
      joins_leads h.network h.order a u v
      (subst (λ (g : NetworkValue). LinksRanks g h.order a u v) (sym network) (subst (λ (o : OrderValue). LinksRanks (edited_all before.network edit) o a u v) (sym order)
      (all_ranks_edited before.network before.order edit a u v ((are.exact a).0 c)))) (is_open a knows some)
  candidate_in (Via m) knows (to, on, first, second) =
      let halves = knows to on (down_edge h.edges f u m to first) (up_edge h.edges f m v on second) in (
        to,
        on,
        some_list h u m halves.0.function (function_from h.edges f u m) halves.0.is halves.0.rebuilds first,
        some_list h m v halves.1.function (function_from h.edges f m v) halves.1.is halves.1.rebuilds second,
      )

  -- and the other way round
  pub candidate_by : (way : Way) → KnowsWay h f u v way → IsCandidateIn h u v way → IsCandidateBy h.edges roads f u v way
  candidate_by (Road a) knows leads =
      let (joins, open_now) = leads_joins h.network h.order a u v leads in (
        (are.exact a).1 (all_ranks_kept before.network before.order edit a u v
            (subst (λ (o : OrderValue). LinksRanks (edited_all before.network edit) o a u v) order (subst (λ (g : NetworkValue). LinksRanks g h.order a u v) network joins))),
        subst IsSome (sym (knows ∙ road_there h.network a open_now)) refl,
      )
  candidate_by (Via m) knows (to, on, first, second) =
      let halves = knows to on (edge_down h u m to first) (edge_up h m v on second) in (
        to,
        on,
        some_function h u m halves.0.function (function_from h.edges f u m) halves.0.is halves.0.rebuilds first,
        some_function h m v halves.1.function (function_from h.edges f m v) halves.1.is halves.1.rebuilds second,
      )

  road_value : (a t : ℕ) → KnowsWay h f u v (Road a) → IsSome (f.road a) → value_at (f.road a) t ≡ Some (arc_value h.network a t)
  road_value a t knows some = ap (λ (o : Option (ℕ → ℕ)). value_at o t) (knows ∙ road_there h.network a (is_open a knows some))

  middle_value : (m t : ℕ) → KnowsWay h f u v (Via m) → IsCandidateBy h.edges roads f u v (Via m)
      → then_at (rebuilt h u m t) (rebuilt h m v) ≡ through (function_from h.edges f u m) (function_from h.edges f m v) t
  middle_value m t knows (to, on, first, second) =
      let halves = knows to on (down_edge h.edges f u m to first) (up_edge h.edges f m v on second) in
      via_value h u m v t halves.0.function halves.1.function (function_from h.edges f u m) (function_from h.edges f m v) halves.0.is halves.1.is halves.0.rebuilds halves.1.rebuilds
      (some_list h u m halves.0.function (function_from h.edges f u m) halves.0.is halves.0.rebuilds first)
      (some_list h m v halves.1.function (function_from h.edges f m v) halves.1.is halves.1.rebuilds second)

  -- it arrives alike
  pub arrives_in : (t : ℕ) (way : Way) (x : ℕ) → KnowsWay h f u v way → IsCandidateBy h.edges roads f u v way → ArrivesBy h.edges f u v t way x → ArrivesIn h u v t way x
  arrives_in t (Road a) x knows (c, some) e = sym (road_value a t knows some) ∙ e
  arrives_in t (Via m) x knows c e = middle_value m t knows c ∙ e

  pub arrives_by : (t : ℕ) (way : Way) (x : ℕ) → KnowsWay h f u v way → IsCandidateBy h.edges roads f u v way → ArrivesIn h u v t way x → ArrivesBy h.edges f u v t way x
  arrives_by t (Road a) x knows (c, some) e = road_value a t knows some ∙ e
  arrives_by t (Via m) x knows c e = sym (middle_value m t knows c) ∙ e

-- so it is with each way
pub record KnowsAll (h : HierarchyValue) (f : FunctionsState) (u v : ℕ) : Type 0 where
  pub road : (a : ℕ) → f.road a ≡ road_in h.network a
  pub halves : (m : ℕ) → m < u → m < v → HasEdge h.edges m u → HasEdge h.edges m v → IsHalf h f u m × IsHalf h f m v

pub knows_way : (h : HierarchyValue) (f : FunctionsState) (u v : ℕ) → KnowsAll h f u v → (way : Way) → KnowsWay h f u v way
knows_way h f u v knows (Road a) = knows.road a
knows_way h f u v knows (Via m) = knows.halves m

pub settled_alike : (before : HierarchyValue) (edit : List Edit) (h : HierarchyValue) → h.network ≡ edited_all before.network edit → h.order ≡ before.order → (roads : List ℕ) (f : FunctionsState) (u v : ℕ)
    → AreArcsFrom before.network before.order u v roads → KnowsAll h f u v
    → ChoosesAlike (IsCandidateBy h.edges roads f u v) (IsCandidateIn h u v) (ArrivesBy h.edges f u v) (ArrivesIn h u v)
settled_alike before edit h network order roads f u v are knows = record {
  there = λ way c. candidate_in before edit h network order roads f u v are way (knows_way h f u v knows way) c;
  back = λ way c. candidate_by before edit h network order roads f u v are way (knows_way h f u v knows way) c;
  arrives = λ t way x c e. arrives_in before edit h network order roads f u v are t way x (knows_way h f u v knows way) c e;
  arrived = λ t way x c e. arrives_by before edit h network order roads f u v are t way x (knows_way h f u v knows way) c e;
}
