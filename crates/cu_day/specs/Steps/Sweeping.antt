-- What the sweeps of a day leave: labels at each second of the day.
use Rattle.std.specs.Prelude.{ℕ, List, [], ◌∷◌, Option, Some, None, ◌≡◌, ◌≢◌, ◌≤◌, ◌<◌, ◌-◌, ◌⊎◌, All, IfSome, length, slice_get, flat_map}
use Rattle.std.specs.List.{Contains}
use Rattle.cu_model.specs.Days.{day}
use Rattle.cu_arrival.specs.declared.runs.Run.{Run}
use Rattle.cu_arrival.specs.Runs.{IsArrivalFunction, arrival_value}
use Rattle.cu_chordal.specs.Graphs.{up_of}
use Rattle.cu_interval.specs.declared.ways.Entry.{Entry}
use Rattle.cu_interval.specs.Hierarchies.{HierarchyValue, list_from}
use Rattle.cu_day.specs.DayChains.{list_drive}

-- an arc, from one rank to another
pub record Arc : Type 0 where
  pub start : ℕ
  pub end : ℕ

abbrev pub arc : ℕ → ℕ → Arc
arc x y = record { start = x; end = y }

-- a label came over an arc from another
pub record CameOver (Goes : ℕ → ℕ → Type 0) (drive : ℕ → ℕ → ℕ → ℕ) (label : ℕ → Option ℕ) (y a : ℕ) : Type 0 where
  pub from : ℕ
  pub before : ℕ
  pub had : label from ≡ Some before
  pub goes : Goes from y
  pub drives : drive from y before ≡ a

-- Labels of a sweep that begins with some, and goes by arcs of which each leads to a later turn: each label is one of these or came
-- over an arc; none is later than one of these, or than what counts of that which an arc makes of a second no earlier than another.
pub record IsSwept (Counts : ℕ → ℕ → Type 0) (Goes : ℕ → ℕ → Type 0) (drive : ℕ → ℕ → ℕ → ℕ) (turn : ℕ → ℕ) (Begins : ℕ → ℕ → Type 0)
    (label : ℕ → Option ℕ) : Type 0 where
  pub turns : (x y : ℕ) → Goes x y → turn x < turn y
  pub came : (y a : ℕ) → label y ≡ Some a → Begins y a ⊎ CameOver Goes drive label y a
  pub begun : (y b : ℕ) → Begins y b → (a : ℕ) × (label y ≡ Some a) × (a ≤ b)
  pub led : (x y b s : ℕ) → label x ≡ Some b → Goes x y → b ≤ s → Counts y (drive x y s) → (a : ℕ) × (label y ≡ Some a) × (a ≤ drive x y s)

-- An arc was taken, or left out where it gives nothing earlier that counts: its end's label is no later than it was, or than what the
-- arc makes of a second no earlier than the start's, and is one of these; all other labels are as they were.
pub record IsTaken (Counts : ℕ → ℕ → Type 0) (drive : ℕ → ℕ → ℕ → ℕ) (x y : ℕ) (before after : ℕ → Option ℕ) : Type 0 where
  pub others : (z : ℕ) → z ≢ y → after z ≡ before z
  pub kept : (a : ℕ) → before y ≡ Some a → (b : ℕ) × (after y ≡ Some b) × (b ≤ a)
  pub came : (a : ℕ) → after y ≡ Some a → (before y ≡ Some a) ⊎ ((b : ℕ) × (before x ≡ Some b) × (drive x y b ≡ a))
  pub led : (b s : ℕ) → before x ≡ Some b → b ≤ s → Counts y (drive x y s) → (a : ℕ) × (after y ≡ Some a) × (a ≤ drive x y s)

-- every second of arrival counts
abbrev pub Always : ℕ → ℕ → ℕ → Type 0
Always t rank second = Unit {0}

-- the upward sweep begins with the second itself at the start
abbrev pub BeginsAt : ℕ → ℕ → ℕ → ℕ → Type 0
BeginsAt from t x a = (x ≡ from) × (a ≡ t)

-- the downward one with what the upward one left
abbrev pub BeginsAs : (ℕ → Option ℕ) → ℕ → ℕ → Type 0
BeginsAs up x a = up x ≡ Some a

-- one of these arcs
abbrev pub Over : List Arc → ℕ → ℕ → Type 0
Over arcs x y = Contains arcs (arc x y)

-- when a label is reached, leaving at a second
abbrev pub value_at : Option (Option (List Run)) → ℕ → Option ℕ
value_at None t = None
value_at (Some None) t = None
value_at (Some (Some runs)) t = Some (arrival_value runs t)

abbrev pub label_at : List (Option (List Run)) → ℕ → ℕ → Option ℕ
label_at labels t rank = value_at (slice_get labels rank) t

-- each label that is there is an arrival function
abbrev pub AreSound : List (Option (List Run)) → Type 0
AreSound labels = All (λ (label : Option (List Run)). IfSome label IsArrivalFunction) labels

-- these arcs of the upward sweep from a rank were taken, as far as what they give counts at each second of the day
abbrev pub UpSwept : (ℕ → ℕ → ℕ → Type 0) → HierarchyValue → ℕ → List Arc → List (Option (List Run)) → Type 0
UpSwept Counts h from arcs labels =
    (t : ℕ) → t < day → IsSwept (Counts t) (Over arcs) (list_drive h) (λ x. x) (BeginsAt from t) (label_at labels t)

-- these arcs of the downward sweep were taken, which began with these labels
abbrev pub DownSwept : (ℕ → ℕ → ℕ → Type 0) → HierarchyValue → List (Option (List Run)) → List Arc → List (Option (List Run)) → Type 0
DownSwept Counts h ups arcs labels =
    (t : ℕ) → t < day → IsSwept (Counts t) (Over arcs) (list_drive h) (λ x. h.network.nodes - x) (BeginsAs (label_at ups t)) (label_at labels t)

-- the arc between two ranks, where its list isn't empty
abbrev pub arc_if : List Entry → ℕ → ℕ → List Arc
arc_if [] x y = []
arc_if (entry ∷ entries) x y = arc x y ∷ []

abbrev pub arc_over : HierarchyValue → ℕ → ℕ → List Arc
arc_over h x y = arc_if (list_from h x y) x y

-- the arcs from a rank up to these, and from these down to it
abbrev pub arcs_up : HierarchyValue → ℕ → List ℕ → List Arc
arcs_up h x ranks = flat_map (λ y. arc_over h x y) ranks

abbrev pub arcs_down : HierarchyValue → ℕ → List ℕ → List Arc
arcs_down h x ranks = flat_map (λ y. arc_over h y x) ranks

abbrev pub arcs_up_all : HierarchyValue → List ℕ → List Arc
arcs_up_all h ranks = flat_map (λ x. arcs_up h x (up_of h.edges x)) ranks

abbrev pub arcs_down_all : HierarchyValue → List ℕ → List Arc
arcs_down_all h ranks = flat_map (λ x. arcs_down h x (up_of h.edges x)) ranks

-- the arcs start below a rank, or above it
abbrev pub StartBelow : ℕ → List Arc → Type 0
StartBelow x arcs = (p q : ℕ) → Over arcs p q → p < x

abbrev pub StartAbove : ℕ → List Arc → Type 0
StartAbove x arcs = (p q : ℕ) → Over arcs p q → x < p

-- The list between two ranks was taken: nothing has changed where it is empty; else the arc was taken at each second of the day.
pub record TakesList (Counts : ℕ → ℕ → ℕ → Type 0) (h : HierarchyValue) (x y : ℕ) (before after : List (Option (List Run))) : Type 0 where
  pub long : length after ≡ length before
  pub sound : AreSound before → AreSound after
  pub none : list_from h x y ≡ [] → after ≡ before
  pub taken : list_from h x y ≢ [] → (t : ℕ) → t < day → IsTaken (Counts t) (list_drive h) x y (label_at before t) (label_at after t)
