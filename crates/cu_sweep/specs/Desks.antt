-- What a desk for queries holds: the calls of the walk that was found.
use Rattle.std.specs.Prelude.{ℕ, Bool, List, [], ◌∷◌, ◌++◌, ◌≡◌, ◌<◌, ◌^◌, Some, false, All, length, flat_map}
use Rattle.cu_model.specs.Roads.{drive}
use Rattle.cu_interval.specs.declared.relaxing.Call.{Call}
use Rattle.cu_interval.specs.Hierarchies.{HierarchyValue}
use Rattle.cu_sweep.specs.declared.finding.Found.{Found}
use Rattle.cu_sweep.specs.declared.finding.Found.TheVariants.{Arrive, NoWalk, Long}
use Rattle.cu_sweep.specs.Labels.{Label, down_label}
use Rattle.cu_drive.specs.RoadTexts.{driven_text}
use Rattle.cu_unpack.specs.Answers.{IsArriving, walk_over}

-- for how many nodes, the calls of the walk found, and whether it was turned since
pub record DeskValue : Type 0 where
  pub nodes : ℕ
  pub calls : List Call
  pub turned : Bool

-- a call over an edge that is there, whose relaxation arrives
pub record IsArrivingCall (h : HierarchyValue) (call : Call) : Type 0 where
  pub edge : call.edge < length h.edges
  pub time : call.second < 2 ^ 61
  pub answers : IsArriving h call.edge call.dir call.second

abbrev pub AreArriving : HierarchyValue → List Call → Type 0
AreArriving h calls = All (IsArrivingCall h) calls

-- the roads of the walks of these calls
abbrev pub roads_of : HierarchyValue → List Call → List ℕ
roads_of h calls = flat_map (λ call. walk_over h call.edge call.dir call.second) calls

-- where a walk was found, the desk has its calls, and all of them arrive
abbrev pub HoldsFound : HierarchyValue → ℕ → ℕ → ℕ → Found → DeskValue → Type 0
HoldsFound h from to second NoWalk desk = Unit {0}
HoldsFound h from to second (Long edge dir t) desk = Unit {0}
HoldsFound h from to second (Arrive arrival) desk =
    (label : Label) × (down_label h from second to ≡ Some label) × (desk.calls ≡ label.calls) × AreArriving h label.calls × (desk.turned ≡ false)

-- whether no call was before, after these
abbrev pub first_after : Bool → List Call → Bool
first_after first [] = first
first_after first (call ∷ calls) = false

-- what is written of a call that arrives: of each road of its walk what this text says of it and of the second at which it is entered
abbrev pub call_text : (Bool → ℕ → ℕ → List ℕ) → HierarchyValue → Bool → Call → List ℕ
call_text text h first call = driven_text text h.network first (walk_over h call.edge call.dir call.second) call.second

-- the texts of these calls, one behind the other: each of whether it is the first of all, and of the call
abbrev pub routed_text : (Bool → Call → List ℕ) → Bool → List Call → List ℕ
routed_text text first [] = []
routed_text text first (call ∷ calls) = text first call ++ routed_text text false calls

-- each call is asked at the second at which the roads of those before it arrive, the first at this one
abbrev pub AreChained : HierarchyValue → ℕ → List Call → Type 0
AreChained h t [] = Unit {0}
AreChained h t (call ∷ calls) = (call.second ≡ t) × AreChained h (drive h.network (walk_over h call.edge call.dir call.second) t) calls
