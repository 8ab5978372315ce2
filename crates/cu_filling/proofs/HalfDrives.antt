-- The functions of both halves of a shortcut, linked.
use Rattle.std.proofs.Common.{◌≡◌, ◌∙◌, ℕ, List, Option, Some, sym, ap, subst}
use Rattle.std.specs.Prelude.{slice_get}
use Rattle.cu_arrival.specs.declared.runs.Run.{Run}
use Rattle.cu_arrival.specs.Runs.{arrival_value}
use Rattle.cu_runs.specs.PackedRuns.{IsPackedFunction, composed}
use Rattle.cu_chordal.specs.declared.graph.Ends.{Ends}
use Rattle.cu_interval.specs.declared.ways.Dir.{Dir}
use Rattle.cu_interval.specs.declared.shortcuts.Shortcut.{Shortcut}
use Rattle.cu_interval.specs.declared.relaxing.Relaxed.TheVariants.{At}
use Rattle.cu_interval.specs.Hierarchies.{HierarchyValue, end_of, start_of}
use Rattle.cu_interval.specs.Shortcuts.{AreHalves, number_of}
use Rattle.cu_interval.specs.Unpacking.{relaxed}
use Rattle.cu_store.specs.Known.{HasRuns, IsListFunction, KnownFunction, Knows}
use Rattle.cu_filling.specs.Filling.{DrivesVia}

-- the runs that are known of a shortcut are a function of its list
pub runs_known : (h : HierarchyValue) (known : List (Option (Option KnownFunction))) → Knows h known → (shortcut : Shortcut) (runs : List Run)
    → HasRuns (slice_get known (number_of shortcut)) runs → IsPackedFunction runs × ((t : ℕ) → relaxed h shortcut.edge shortcut.dir t ≡ At (arrival_value runs t))
runs_known h known knows shortcut runs (function, at, same) =
    let is : IsListFunction h shortcut.edge shortcut.dir function = knows shortcut.edge shortcut.dir (Some function) at in (
      subst IsPackedFunction same is.over_day,
      λ t. is.drives t ∙ ap (λ (rs : List Run). At (arrival_value rs t)) same,
    )

-- so both halves' linked are what the way by their middle drives
pub linked_drives : (h : HierarchyValue) (known : List (Option (Option KnownFunction))) → Knows h known → (whole : Shortcut) (middle : ℕ) (first second : Shortcut)
    → AreHalves h whole middle first second → (one two : List Run) → HasRuns (slice_get known (number_of first)) one → HasRuns (slice_get known (number_of second)) two
    → (ends : Ends) → slice_get h.edges whole.edge ≡ Some ends → (t arrival : ℕ) → arrival ≡ composed one two t → DrivesVia h ends whole.dir middle t arrival
linked_drives h known knows whole middle first second halves one two has_one has_two ends at t arrival is =
    let to = (runs_known h known knows first one has_one).1 in
    let on = (runs_known h known knows second two has_two).1 in
    let same : halves.ends ≡ ends = let a = halves.at in cc (a, at) in
    record {
      first = first.edge;
      to = halves.to ∙ ap (λ (e : Ends). Some (record { low = middle; high = start_of e whole.dir })) same;
      second = second.edge;
      on = halves.onward ∙ ap (λ (e : Ends). Some (record { low = middle; high = end_of e whole.dir })) same;
      between = arrival_value one t;
      arrives = ap (λ (d : Dir). relaxed h first.edge d t) (sym halves.down) ∙ to t;
      goes_on = ap (λ (d : Dir). relaxed h second.edge d (arrival_value one t)) (sym halves.up) ∙ on (arrival_value one t) ∙ ap At (sym is);
    }
