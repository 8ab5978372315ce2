-- Settling by packed runs, as lists are forgotten.
use Rattle.std.proofs.Common.{◌≡◌, ◌∙◌, ℕ, List, Option, Some, None, false, sym, inl, inr}
use Rattle.std.specs.Prelude.{slice_get}
use Rattle.cu_arrival.specs.declared.runs.Run.{Run}
use Rattle.cu_chordal.specs.Graphs.{ChordalValue}
use Rattle.cu_interval.specs.declared.ways.Dir.{Dir}
use Rattle.cu_interval.specs.Hierarchies.{HierarchyValue, list_number}
use Rattle.cu_unpack.specs.RebuiltRuns.{AreSpared, IsKnownList, IsRebuiltRuns, PackedValue}
use Rattle.cu_edits.specs.Learned.{ArePackedOf}
use Rattle.cu_edits.specs.Settling.{SettlingValue}
use Rattle.cu_edits.specs.Steps.Moving.{MovedValue}
use Rattle.cu_edits.specs.Steps.Packed.{IsSettlingPacked}

-- those that stay are of the same hierarchy
pub packed_spared : (h : HierarchyValue) (before now : PackedValue) → ArePackedOf h before → AreSpared before now → ArePackedOf h now
packed_spared h before now packed spared = record {
  size = record { known = spared.known ∙ packed.size.known; functions = spared.functions ∙ packed.size.functions };
  keeps = keeps;
  unknown = unknown;
}
  where
    keeps : (edge : ℕ) (dir : Dir) → Unit {0} → IsKnownList now (list_number edge dir) → (function : Option (List Run))
        → slice_get now.functions (list_number edge dir) ≡ Some function → IsRebuiltRuns h edge dir function
    keeps edge dir own known function at = elim (spared.each (list_number edge dir)) [
      | inl same ↦ packed.keeps edge dir own (sym same.0 ∙ known) function (sym same.1 ∙ at)
      | inr forgotten ↦ absurd (cc (sym forgotten.0 ∙ known))
    ]

    unknown : (number : ℕ) → slice_get now.known number ≡ Some false → slice_get now.functions number ≡ Some None
    unknown number off = elim (spared.each number) [
      | inl same ↦ same.1 ∙ packed.unknown number (sym same.0 ∙ off)
      | inr forgotten ↦ forgotten.1
    ]

-- so it is of what a settler holds
pub holds_spared : (s : SettlingValue) (graph : ChordalValue) (arcs : List (List ℕ)) (packed now : PackedValue) (moved : MovedValue) → IsSettlingPacked s graph arcs packed moved
    → AreSpared packed now → IsSettlingPacked s graph arcs now moved
holds_spared s graph arcs packed now moved holds spared = record {
  are = holds.are;
  parts = holds.parts;
  known = packed_spared s.before packed now holds.known spared;
  places = holds.places;
  inside = holds.inside;
  stands = holds.stands;
  moves = holds.moves;
}
