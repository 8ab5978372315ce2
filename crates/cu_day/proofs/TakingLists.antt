-- Labels after a list was taken by its function.
use Rattle.std.proofs.Common.{◌≡◌, ◌∙◌, ◌^◌, ℕ, List, Option, Some, None, refl, sym, ap, arith, min}
use Rattle.std.specs.Prelude.{option_map, slice_get}
use Rattle.cu_arrival.specs.declared.runs.Run.{Run}
use Rattle.cu_arrival.specs.Runs.{arrival_value}
use Rattle.cu_arrival.proofs.RunLaws.{arrival_value-fifo}
use Rattle.cu_chordal.specs.declared.graph.Ends.{Ends}
use Rattle.cu_interval.specs.declared.ways.Dir.{Dir}
use Rattle.cu_interval.specs.Hierarchies.{HierarchyValue, IsHierarchy, end_of, list_from, list_of, start_of}
use Rattle.cu_interval.specs.Resettling.{lesser_of}
use Rattle.cu_interval.proofs.Lookups.{list_from-edge}
use Rattle.cu_day.specs.DayChains.{list_drive, within_limit}
use Rattle.cu_unpack.specs.Rebuilds.{IsRebuiltFunction}
use Rattle.cu_day.specs.Steps.Sweeping.{TakesList, label_at}
use Rattle.cu_day.specs.Steps.Taking.{TakesArc}
use Rattle.cu_day.proofs.Arcs.{lesser_taken}

module _ (h : HierarchyValue) (sound : IsHierarchy h) (edge : ℕ) (dir : Dir) (ends : Ends) (at : slice_get h.edges edge ≡ Some ends) where
  between : list_from h (start_of ends dir) (end_of ends dir) ≡ list_of h edge dir
  between = list_from-edge h sound edge dir ends at

  pub none_takes : (Counts : ℕ → ℕ → ℕ → Type 0) (labels : List (Option (List Run))) → IsRebuiltFunction h edge dir None
      → TakesList Counts h (start_of ends dir) (end_of ends dir) labels labels
  none_takes Counts labels none = record {
    long = refl;
    sound = λ all. all;
    none = λ e. refl;
    taken = λ some. absurd (some (between ∙ none));
  }

  drives : (runs : List Run) → IsRebuiltFunction h edge dir (Some runs) → (t : ℕ)
      → list_drive h (start_of ends dir) (end_of ends dir) t ≡ min (arrival_value runs t) (2 ^ 62)
  drives runs function t = ap within_limit (function.2 ends at t)

  mapped : (runs : List Run) → IsRebuiltFunction h edge dir (Some runs) → (o : Option ℕ)
      → option_map (λ (s : ℕ). min (arrival_value runs s) (2 ^ 62)) o ≡ option_map (list_drive h (start_of ends dir) (end_of ends dir)) o
  mapped runs function None = refl
  mapped runs function (Some s) = ap Some (sym (drives runs function s))

  pub some_takes : (Counts : ℕ → ℕ → ℕ → Type 0) (runs : List Run) (before after : List (Option (List Run))) → IsRebuiltFunction h edge dir (Some runs)
      → TakesArc runs (start_of ends dir) (end_of ends dir) before after → TakesList Counts h (start_of ends dir) (end_of ends dir) before after
  some_takes Counts runs before after function takes = record {
    long = takes.long;
    sound = takes.sound;
    none = λ e. absurd (function.0 (sym between ∙ e));
    taken = λ some t within. lesser_taken (Counts t) (list_drive h) (start_of ends dir) (end_of ends dir) (label_at before t) (label_at after t)
        (λ s r le.
        let a = drives runs function s in
        let b = drives runs function r in
        let rises = arrival_value-fifo runs function.1 s r le in
        omega (arith, a, b, rises))
        (λ z apart. takes.others t z apart)
        (takes.end t within ∙ ap (lesser_of (label_at before t (end_of ends dir))) (mapped runs function (label_at before t (start_of ends dir))));
  }
