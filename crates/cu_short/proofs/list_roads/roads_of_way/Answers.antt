use Rattle.std.proofs.Common.{◌≡◌, ◌≤◌, ◌<◌, ℕ, arith, ap, slice_index_or, subst, sym, ◌∙◌}
use Rattle.std.specs.Prelude.{slice_index}
use Rattle.cu_model.specs.declared.limits.TheConstants.{MAX_NODES}
use Rattle.cu_bounds.specs.Steps.InTurn.{IsWayOf}
use Rattle.cu_bounds.proofs.HalfBounds.{halves_of}
use Rattle.cu_interval.specs.declared.shortcuts.Shortcut.{Shortcut}
use Rattle.cu_interval.specs.declared.ways.Way.{Way}
use Rattle.cu_interval.specs.declared.ways.Way.TheVariants.{Via}
use Rattle.cu_interval.specs.Hierarchies.{HierarchyValue, IsHierarchy, end_of, start_of}
use Rattle.cu_interval.specs.Shortcuts.{AreHalves, number_of}
use Rattle.cu_short.specs.Steps.Counted.{AreCountedBelow}
use Rattle.cu_short.proofs.Halves.{IsCountedHalf, counted_halves}
use Rattle.cu_short.proofs.list_roads.roads_of_way.Goals as goal

-- both halves come before the list, and their roads are counted
both_counted : (h : HierarchyValue) → IsHierarchy h → (counts : ℕ → ℕ) (whole : Shortcut) → AreCountedBelow h counts (number_of whole)
    → (way : Way) (m : ℕ) → way ≡ Via m → IsWayOf h whole way → (first second : Shortcut) → AreHalves h whole m first second
    → (u v : ℕ) × IsCountedHalf h counts (number_of whole) first u m × IsCountedHalf h counts (number_of whole) second m v
both_counted h f counts whole right way m is there first second halves =
    let by : IsWayOf h whole (Via m) = subst (IsWayOf h whole) is there in
    let both = counted_halves h f counts whole right m first second halves by by.0 by.1 in
    (start_of by.0 whole.dir, end_of by.0 whole.dir, both.0, both.1)

pub bounds-counts-list : goal.bounds-counts-list
bounds-counts-list g c =
    let both = both_counted (g.W.Ways.hierarchy c.args.ways.now) c.requires.sound (slice_index c.args.counts.now) c.args.shortcut c.requires.right
    c.args.way c.in-Via.middle c.in-Via.is c.requires.way c.halves.result.0 c.halves.result.1 (halves_of _ _ _ _ _ _ c.requires.finder.same c.halves.ensures.halves) in
    let below = both.2.below in
    omega (arith, c.list.ensures.number, below, c.requires.lists)

pub bounds-counts-list-in-Via : goal.bounds-counts-list-in-Via
bounds-counts-list-in-Via g c =
    let both = both_counted (g.W.Ways.hierarchy c.args.ways.now) c.requires.sound (slice_index c.args.counts.now) c.args.shortcut c.requires.right
    c.args.way c.in-Via.middle c.in-Via.is c.requires.way c.halves.result.0 c.halves.result.1 (halves_of _ _ _ _ _ _ c.requires.finder.same c.halves.ensures.halves) in
    let below = both.3.below in
    omega (arith, c.list-in-Via.ensures.number, below, c.requires.lists)

pub overflow_add-result : goal.overflow_add-result
overflow_add-result g c =
    let h : HierarchyValue = g.W.Ways.hierarchy c.args.ways.now in
    let counts = c.args.counts.now in
    let both = both_counted h c.requires.sound (slice_index counts) c.args.shortcut c.requires.right
    c.args.way c.in-Via.middle c.in-Via.is c.requires.way c.halves.result.0 c.halves.result.1 (halves_of _ _ _ _ _ _ c.requires.finder.same c.halves.ensures.halves) in
    let one : slice_index_or counts c.list.result 0 < h.network.nodes =
    subst (λ (n : ℕ). slice_index_or counts n 0 < h.network.nodes) (sym c.list.ensures.number) both.2.few in
    let two : slice_index_or counts c.list-in-Via.result 0 < h.network.nodes =
    subst (λ (n : ℕ). slice_index_or counts n 0 < h.network.nodes) (sym c.list-in-Via.ensures.number) both.3.few in
    let few : h.network.nodes ≤ MAX_NODES = c.requires.sound.network.few_nodes in
    omega (arith, one, two, few)

pub returns-in-Via-clause-most : goal.returns-in-Via-clause-most
returns-in-Via-clause-most g c =
    let h : HierarchyValue = g.W.Ways.hierarchy c.args.ways.now in
    let counts = c.args.counts.now in
    let by : IsWayOf h c.args.shortcut (Via c.in-Via.middle) = subst (IsWayOf h c.args.shortcut) c.in-Via.is c.requires.way in
    λ ends at.
    let (first, second) = counted_halves h c.requires.sound (slice_index counts) c.args.shortcut c.requires.right c.in-Via.middle
    c.halves.result.0 c.halves.result.1 (halves_of _ _ _ _ _ _ c.requires.finder.same c.halves.ensures.halves) by ends at in
    let one = ap (λ (n : ℕ). slice_index_or counts n 0) c.list.ensures.number ∙ first.right in
    let two = ap (λ (n : ℕ). slice_index_or counts n 0) c.list-in-Via.ensures.number ∙ second.right in
    rw c.in-Via.is (omega (arith, one, two))
