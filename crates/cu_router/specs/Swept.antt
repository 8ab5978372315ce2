-- The swept reply: what a hierarchy answers to a query, with the walk that its two sweeps choose among equal ones.
use Rattle.std.specs.Prelude.{ℕ, List, [], ◌≡◌, Option, Some, None, codes, slice_get}
use Rattle.cu_model.specs.declared.queries.Query.{Query}
use Rattle.cu_model.specs.Answers.{arrive_text}
use Rattle.cu_model.specs.Networks.{NetworkValue}
use Rattle.cu_model.specs.Orders.{OrderValue}
use Rattle.cu_drive.specs.DriveAnswers.{says_drive}
use Rattle.cu_interval.specs.declared.ways.Dir.{Dir}
use Rattle.cu_interval.specs.Hierarchies.{HierarchyValue, IsBuilt}
use Rattle.cu_reach.specs.ReachTexts.{damage_text, dir_text}
use Rattle.cu_sweep.specs.declared.finding.Found.{Found}
use Rattle.cu_sweep.specs.declared.finding.Found.TheVariants.{Arrive, NoWalk, Long}
use Rattle.cu_sweep.specs.Desks.{roads_of}
use Rattle.cu_sweep.specs.Labels.{Label, down_label}
use Rattle.cu_sweep.specs.Sweeps.{found}
use Rattle.cu_wait.specs.declared.points.Point.{Point}
use Rattle.cu_wait.specs.KeptPoints.{says_kept}

abbrev pub dir_word : Dir → List ℕ
dir_word dir = dir_text dir

-- the roads of a label's walk
abbrev pub label_roads : HierarchyValue → Option Label → List ℕ
label_roads h None = []
label_roads h (Some label) = roads_of h label.calls

-- what is said where the walk of this relaxation has as many roads as there are nodes
abbrev pub damaged_text : ℕ → Dir → ℕ → List ℕ
damaged_text edge dir second = damage_text edge dir second

-- an answer of the sweeps, where the end has this label: an arrival and its walk are said so
abbrev pub found_text : (ℕ → List ℕ → List ℕ) → HierarchyValue → Found → Option Label → List ℕ
found_text says h (Arrive arrival) label = says arrival (label_roads h label)
found_text says h NoWalk label = codes "unreachable"
found_text says h (Long edge dir second) label = damaged_text edge dir second

-- the swept reply between two ranks, with an arrival said so
abbrev pub swept_between : (ℕ → List ℕ → List ℕ) → HierarchyValue → (from to second : ℕ) → List ℕ
swept_between says h from to second = found_text says h (found h from to second) (down_label h from second to)

-- the same of the ranks of two nodes, where they have ranks
abbrev pub swept_of : (ℕ → List ℕ → List ℕ) → HierarchyValue → Option ℕ → Option ℕ → ℕ → List ℕ
swept_of says h (Some from) (Some to) second = swept_between says h from to second
swept_of says h _ _ second = []

-- the swept reply to a query, with an arrival said so: the walk doesn't depend on how it is said
abbrev pub swept_as : (ℕ → List ℕ → List ℕ) → HierarchyValue → Query → List ℕ
swept_as says h query = swept_of says h (slice_get h.order.rank_of query.from) (slice_get h.order.rank_of query.to) query.second

-- with the numbers of its roads
abbrev pub swept_reply : HierarchyValue → Query → List ℕ
swept_reply h query = swept_as arrive_text h query

-- with the drive of this walk from the query's second
abbrev pub swept_drive : HierarchyValue → Query → List ℕ
swept_drive h query = swept_as (says_drive h.network query.second) h query

-- with the seconds at which one comes to each of them and leaves, by the points that are kept of measured profiles
abbrev pub swept_waits : List (Option (List Point)) → HierarchyValue → Query → List ℕ
swept_waits kept h query = swept_as (says_kept kept h.network query.second) h query

-- the swept reply of the hierarchy that is built of this network under this order, with an arrival said so
abbrev pub IsSweptAs : (ℕ → List ℕ → List ℕ) → NetworkValue → OrderValue → Query → List ℕ → Type 0
IsSweptAs says g order query reply =
    (h : HierarchyValue) × (h.network ≡ g) × (h.order ≡ order) × IsBuilt h × (reply ≡ swept_as says h query)

abbrev pub IsSweptAnswer : NetworkValue → OrderValue → Query → List ℕ → Type 0
IsSweptAnswer g order query reply = IsSweptAs arrive_text g order query reply

abbrev pub IsSweptDrive : NetworkValue → OrderValue → Query → List ℕ → Type 0
IsSweptDrive g order query reply = IsSweptAs (says_drive g query.second) g order query reply
