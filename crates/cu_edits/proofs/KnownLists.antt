-- Functions of lists that are known, and copies of them.
use Rattle.std.proofs.Common.{◌≡◌, ◌∙◌, ℕ, List, Option, Some, ap, subst, sym}
use Rattle.std.specs.Prelude.{slice_get}
use Rattle.cu_arrival.specs.declared.runs.Run.{Run}
use Rattle.cu_arrival.specs.Runs.{IsArrivalFunction, arrival_value}
use Rattle.cu_interval.specs.declared.ways.Dir.{Dir}
use Rattle.cu_interval.specs.Hierarchies.{HierarchyValue, list_number}
use Rattle.cu_unpack.specs.Rebuilds.{IsRebuiltFunction}
use Rattle.cu_unpack.specs.RebuiltRuns.{IsKnownList, IsRebuiltRuns, PackedValue}
use Rattle.cu_edits.specs.Learned.{ArePackedOf}

-- what is read of a list that is the same stands in it
pub read_at : {X : Type 0} (list same : List X) (place index : ℕ) (x : X) → same ≡ list → index ≡ place → slice_get same index ≡ Some x → slice_get list place ≡ Some x
read_at {X} list same place index x is number read =
    subst (λ (n : ℕ). slice_get list n ≡ Some x) number (subst (λ (xs : List X). slice_get xs index ≡ Some x) is read)

-- what is known of a list is its function
pub known_runs : (h : HierarchyValue) (packed : PackedValue) (edge : ℕ) (dir : Dir) (function : Option (List Run)) → ArePackedOf h packed
    → IsKnownList packed (list_number edge dir) → slice_get packed.functions (list_number edge dir) ≡ Some function → IsRebuiltRuns h edge dir function
known_runs h packed edge dir function are known at = are.keeps edge dir tt known function at

-- a function with the values of packed runs is rebuilt where these are
pub rebuilt_copy : (h : HierarchyValue) (edge : ℕ) (dir : Dir) (packed copy : List Run) → IsRebuiltRuns h edge dir (Some packed) → IsArrivalFunction copy
    → ((t : ℕ) → arrival_value copy t ≡ arrival_value packed t) → IsRebuiltFunction h edge dir (Some copy)
rebuilt_copy h edge dir packed copy is sound same = (is.0, sound, λ ends at t. is.3 ends at t ∙ ap Some (sym (same t)))
