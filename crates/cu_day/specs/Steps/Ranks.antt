-- The arcs of one rank, taken to or from some of its higher neighbours.
use Rattle.std.specs.Prelude.{ℕ, List, [], Option, ◌≡◌, ◌<◌, ◌==◌, ◌++◌, if◌then◌else◌, Some, None, length, reverse}
use Rattle.cu_model.specs.Days.{day}
use Rattle.std.specs.List.{Contains}
use Rattle.cu_arrival.specs.declared.runs.Run.{Run}
use Rattle.cu_elimtree.specs.SweepArcs.{ancestors_in}
use Rattle.cu_interval.specs.Hierarchies.{HierarchyValue, graph_of}
use Rattle.cu_day.specs.Steps.Sweeping.{Arc, AreSound, DownSwept, StartAbove, StartBelow, UpSwept, arcs_down, arcs_down_all, arcs_up, arcs_up_all, label_at}

-- upwards from a rank to these
pub record SpreadsTo (Counts : ℕ → ℕ → ℕ → Type 0) (h : HierarchyValue) (x : ℕ) (part : List ℕ) (before after : List (Option (List Run))) : Type 0 where
  pub long : length after ≡ length before
  pub sound : AreSound before → AreSound after
  pub swept : (from : ℕ) (arcs : List Arc) → StartBelow x arcs → UpSwept Counts h from arcs before
      → UpSwept Counts h from (arcs ++ arcs_up h x part) after

-- downwards to a rank from these, which are above it
pub record GathersFrom (Counts : ℕ → ℕ → ℕ → Type 0) (h : HierarchyValue) (x : ℕ) (part : List ℕ) (before after : List (Option (List Run))) : Type 0 where
  pub long : length after ≡ length before
  pub sound : AreSound before → AreSound after
  pub above : (y : ℕ) → Contains part y → x < y
  pub swept : (ups : List (Option (List Run))) (arcs : List Arc) → StartAbove x arcs → DownSwept Counts h ups arcs before
      → DownSwept Counts h ups (arcs ++ arcs_down h x part) after

-- the start is reached at once, and nothing else
pub record AreBegun (ranks from : ℕ) (labels : List (Option (List Run))) : Type 0 where
  pub long : length labels ≡ ranks
  pub sound : AreSound labels
  pub start : (t rank : ℕ) → t < day → label_at labels t rank ≡ (if rank == from then Some t else None)

-- the arcs up from these ranks were taken, from the first to the last
pub record HasSweptUp (Counts : ℕ → ℕ → ℕ → Type 0) (h : HierarchyValue) (path : List ℕ) (before after : List (Option (List Run))) : Type 0 where
  pub long : length after ≡ length before
  pub sound : AreSound before → AreSound after
  pub swept : (from : ℕ) → UpSwept Counts h from [] before → UpSwept Counts h from (arcs_up_all h path) after

-- the arcs down to these ranks were taken, in this order
abbrev pub DownSweptBy : (ℕ → ℕ → ℕ → Type 0) → HierarchyValue → List ℕ → List (Option (List Run)) → List (Option (List Run)) → Type 0
DownSweptBy Counts h done before after = (length after ≡ length before) × (AreSound before → AreSound after)
    × ((ups : List (Option (List Run))) → DownSwept Counts h ups [] before → DownSwept Counts h ups (arcs_down_all h done) after)

-- the same of ranks from the last to the first
abbrev pub HasSweptDown : (ℕ → ℕ → ℕ → Type 0) → HierarchyValue → List ℕ → List (Option (List Run)) → List (Option (List Run)) → Type 0
HasSweptDown Counts h path before after = DownSweptBy Counts h (reverse path) before after

-- both sweeps were made from labels that were begun: over the ancestors of the start, and over those of the end, as far as what they
-- give counts
pub record HasSwept (CountsUp CountsDown : ℕ → ℕ → ℕ → Type 0) (h : HierarchyValue) (from to : ℕ) (labels : List (Option (List Run))) : Type 0 where
  pub ranks : ℕ
  pub first : List (Option (List Run))
  pub ups : List (Option (List Run))
  pub begun : AreBegun ranks from first
  pub up : HasSweptUp CountsUp h (ancestors_in (graph_of h) from) first ups
  pub down : HasSweptDown CountsDown h (ancestors_in (graph_of h) to) ups labels
