-- The first bound that is wrong in a file is that of the hierarchy which its sections say.
use Rattle.std.proofs.Common.{◌≡◌, ◌*◌, ◌∙◌, ℕ, List, Option, None, Some, length, refl, ap, arith, sym}
use Rattle.std.specs.Option.{option_map}
use Rattle.cu_interval.specs.declared.shortcuts.Shortcut.{Shortcut}
use Rattle.cu_interval.specs.Hierarchies.{HierarchyValue}
use Rattle.cu_interval.specs.LeastBounds.{least_bound}
use Rattle.cu_interval.specs.Shortcuts.{number_of}
use Rattle.cu_interval.proofs.EndsLaws.{number_within}
use Rattle.cu_bounds.specs.KeptBounds.{FindsFirstWrong}
use Rattle.cu_pack.specs.Checks.{FindsFirst, IsWrongBound}
use Rattle.cu_pack.specs.Reading.{bound_in, counts_in, decoded}

pub first_bound : (bytes : List ℕ) (h : HierarchyValue) (found : Option Shortcut) → h ≡ decoded bytes → (counts_in bytes).edges ≡ length h.edges → FindsFirstWrong h (bound_in bytes) found
    → FindsFirst (IsWrongBound bytes) (2 * (counts_in bytes).edges) (option_map number_of found)
first_bound bytes h None same many right = λ list inside (edge, dir, within, number, other).
    other (ap (bound_in bytes) number ∙ right edge dir (omega (arith, within, many)) ∙ ap (λ (k : HierarchyValue). least_bound k edge dir) same)
first_bound bytes h (Some found) same many ((inside, wrong), right) =
    let within = number_within found.edge (length h.edges) found.dir inside in (
      omega (arith, within, many),
      (found.edge, found.dir, omega (arith, inside, many), refl, λ kept. wrong (kept ∙ ap (λ (k : HierarchyValue). least_bound k found.edge found.dir) (sym same))),
      λ list below (edge, dir, there, number, other).
          other (ap (bound_in bytes) number ∙ right edge dir (omega (arith, there, many)) (omega (arith, below, number)) ∙ ap (λ (k : HierarchyValue). least_bound k edge dir) same),
    )
