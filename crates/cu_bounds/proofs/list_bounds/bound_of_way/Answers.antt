use Rattle.std.proofs.Common.{◌≡◌, ℕ, arith, subst}
use Rattle.cu_interval.specs.declared.shortcuts.Shortcut.{Shortcut}
use Rattle.cu_interval.specs.declared.ways.Way.{Way}
use Rattle.cu_interval.specs.declared.ways.Way.TheVariants.{Via}
use Rattle.cu_interval.specs.Hierarchies.{HierarchyValue, IsHierarchy, end_of, start_of}
use Rattle.cu_interval.specs.LeastBounds.{bound_from}
use Rattle.cu_interval.specs.Shortcuts.{AreHalves, number_of}
use Rattle.cu_bounds.specs.KeptBounds.{AreRightBelow}
use Rattle.cu_bounds.specs.Steps.InTurn.{IsWayOf}
use Rattle.cu_bounds.proofs.HalfBounds.{IsKeptHalf, halves_of, kept_halves, read_half}
use Rattle.cu_bounds.proofs.list_bounds.bound_of_way.Goals as goal

-- both halves come before the list, and something is kept for them
both_kept : (h : HierarchyValue) → IsHierarchy h → (kept : ℕ → ℕ) (whole : Shortcut) → AreRightBelow h kept (number_of whole)
    → (way : Way) (m : ℕ) → way ≡ Via m → IsWayOf h whole way
    → (first second : Shortcut) → AreHalves h whole m first second
    → (a b : ℕ) × IsKeptHalf kept (number_of whole) first a × IsKeptHalf kept (number_of whole) second b
both_kept h f kept whole right way m is there first second halves =
    let by : IsWayOf h whole (Via m) = subst (IsWayOf h whole) is there in
    let both = kept_halves h f kept whole right m first second halves by by.0 by.1 in
    (bound_from h (start_of by.0 whole.dir) m, bound_from h m (end_of by.0 whole.dir), both.0, both.1)

pub overflow_cast-list : goal.overflow_cast-list
overflow_cast-list g c =
    let both = both_kept (g.W.Ways.hierarchy c.args.ways.now) c.requires.sound (g.K.KeptBounds.kept c.args.kept.now) c.args.shortcut c.requires.right
    c.args.way c.in-Via.middle c.in-Via.is c.requires.way c.halves.result.0 c.halves.result.1 (halves_of _ _ _ _ _ _ c.requires.finder.same c.halves.ensures.halves) in
    let fits = both.2.fits in
    omega (arith, c.list.ensures.number, fits)

pub kept-requires : goal.kept-requires
kept-requires g c =
    let both = both_kept (g.W.Ways.hierarchy c.args.ways.now) c.requires.sound (g.K.KeptBounds.kept c.args.kept.now) c.args.shortcut c.requires.right
    c.args.way c.in-Via.middle c.in-Via.is c.requires.way c.halves.result.0 c.halves.result.1 (halves_of _ _ _ _ _ _ c.requires.finder.same c.halves.ensures.halves) in
    let below = both.2.below in
    record { list = omega (arith, c.list.ensures.number, below, c.requires.lists) }

pub overflow_cast-list-in-Via : goal.overflow_cast-list-in-Via
overflow_cast-list-in-Via g c =
    let both = both_kept (g.W.Ways.hierarchy c.args.ways.now) c.requires.sound (g.K.KeptBounds.kept c.args.kept.now) c.args.shortcut c.requires.right
    c.args.way c.in-Via.middle c.in-Via.is c.requires.way c.halves.result.0 c.halves.result.1 (halves_of _ _ _ _ _ _ c.requires.finder.same c.halves.ensures.halves) in
    let fits = both.3.fits in
    omega (arith, c.list-in-Via.ensures.number, fits)

pub kept-requires-in-Via : goal.kept-requires-in-Via
kept-requires-in-Via g c =
    let both = both_kept (g.W.Ways.hierarchy c.args.ways.now) c.requires.sound (g.K.KeptBounds.kept c.args.kept.now) c.args.shortcut c.requires.right
    c.args.way c.in-Via.middle c.in-Via.is c.requires.way c.halves.result.0 c.halves.result.1 (halves_of _ _ _ _ _ _ c.requires.finder.same c.halves.ensures.halves) in
    let below = both.3.below in
    record { list = omega (arith, c.list-in-Via.ensures.number, below, c.requires.lists) }

pub overflow_add-sum : goal.overflow_add-sum
overflow_add-sum g c =
    let kept = g.K.KeptBounds.kept c.args.kept.now in
    let count = number_of c.args.shortcut in
    let (a, b, first, second) = both_kept (g.W.Ways.hierarchy c.args.ways.now) c.requires.sound kept c.args.shortcut c.requires.right
    c.args.way c.in-Via.middle c.in-Via.is c.requires.way c.halves.result.0 c.halves.result.1 (halves_of _ _ _ _ _ _ c.requires.finder.same c.halves.ensures.halves) in
    let one = read_half kept count a c.halves.result.0 first c.list.result c.kept.result c.list.ensures.number c.kept.ensures.kept in
    let two = read_half kept count b c.halves.result.1 second c.list-in-Via.result c.kept-in-Via.result
    c.list-in-Via.ensures.number c.kept-in-Via.ensures.kept in
    let near = first.near in
    let close = second.near in
    omega (arith, one, two, near, close)

pub returns-in-Via-clause-bound : goal.returns-in-Via-clause-bound
returns-in-Via-clause-bound g c =
    let h : HierarchyValue = g.W.Ways.hierarchy c.args.ways.now in
    let kept = g.K.KeptBounds.kept c.args.kept.now in
    let count = number_of c.args.shortcut in
    let by : IsWayOf h c.args.shortcut (Via c.in-Via.middle) = subst (IsWayOf h c.args.shortcut) c.in-Via.is c.requires.way in
    λ ends at.
    let (first, second) = kept_halves h c.requires.sound kept c.args.shortcut c.requires.right c.in-Via.middle
    c.halves.result.0 c.halves.result.1 (halves_of _ _ _ _ _ _ c.requires.finder.same c.halves.ensures.halves) by ends at in
    let one = read_half kept count _ c.halves.result.0 first c.list.result c.kept.result c.list.ensures.number c.kept.ensures.kept in
    let two = read_half kept count _ c.halves.result.1 second c.list-in-Via.result c.kept-in-Via.result
    c.list-in-Via.ensures.number c.kept-in-Via.ensures.kept in
    rw c.in-Via.is (omega (arith, one, two, c.min.ensures))
