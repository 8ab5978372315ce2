-- Where the functions of moved lists stand.
use Rattle.std.proofs.Common.{◌≡◌, ◌≤◌, ◌-◌, ◌∙◌, ℕ, suc, List, Option, Some, ap, sym, arith, length, get_or}
use Rattle.std.specs.Prelude.{All, slice_get}
use Rattle.std.proofs.lemmas.Option.{slice_get-get_or}
use Rattle.cu_model.proofs.RoadLaws.{all_at}
use Rattle.cu_arrival.specs.declared.runs.Run.{Run}
use Rattle.cu_interval.specs.declared.ways.Dir.{Dir}
use Rattle.cu_interval.specs.Hierarchies.{list_number}
use Rattle.cu_edits.specs.Steps.Moving.{IsMovedTo, MovedValue}

-- a place that isn't 0 is that of a function
pub moved_to : (moved : MovedValue) (edge : ℕ) (dir : Dir) (place : ℕ) (function : Option (List Run)) → All (λ (p : ℕ). p ≤ length moved.functions) moved.places
    → slice_get moved.places (list_number edge dir) ≡ Some place → (place ≡ 0 → ⊥) → function ≡ get_or moved.functions (place - 1) function → IsMovedTo moved edge dir function
moved_to moved edge dir place function within at some is =
    let inside = all_at (λ (p : ℕ). p ≤ length moved.functions) moved.places (list_number edge dir) place within at in
    let one_more : place ≡ suc (place - 1) = omega (arith, some) in
    (place - 1, at ∙ ap (λ (p : ℕ). Some p) one_more, slice_get-get_or moved.functions (place - 1) function (omega (arith, inside, some)) ∙ ap (λ (f : Option (List Run)). Some f) (sym is))
