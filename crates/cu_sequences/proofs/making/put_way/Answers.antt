use Rattle.std.proofs.Common.{◌≡◌, ℕ, Some, subst}
use Rattle.std.specs.Prelude.{slice_get}
use Rattle.cu_bounds.proofs.HalfBounds.{halves_of}
use Rattle.cu_interval.specs.Hierarchies.{HierarchyValue}
use Rattle.cu_sequences.proofs.Keeping.{halves_put, road_put}
use Rattle.cu_sequences.proofs.making.put_way.Goals as goal

pub returns-in-Road-clause-puts : goal.returns-in-Road-clause-puts
returns-in-Road-clause-puts g c =
    let h : HierarchyValue = g.W.Ways.hierarchy c.args.ways.now in
    road_put h c.requires.sound c.args.shortcut c.args.way c.args.roads.now.items c.put_road.new.roads.items c.put_road.result c.in-Road.road c.in-Road.is c.put_road.ensures.puts

pub returns-in-Via-clause-puts : goal.returns-in-Via-clause-puts
returns-in-Via-clause-puts g c =
    let h : HierarchyValue = g.W.Ways.hierarchy c.args.ways.now in
    let first = c.halves.result.0 in
    let second = c.halves.result.1 in
    let starts = c.args.starts.now in
    let one = c.start_at-one.result in
    let two = c.start_at-two.result in
    halves_put h c.requires.sound c.args.shortcut c.args.way c.args.roads.now.items c.put_both.new.roads.items c.put_both.result c.in-Via.middle c.in-Via.is first second
    (halves_of _ _ _ _ _ _ c.requires.finder.same c.halves.ensures.halves) starts c.requires.holds one two
    (λ some. subst (λ (n : ℕ). slice_get starts n ≡ Some one) c.list.ensures.number (c.start_at-one.ensures.there some))
    (λ some. subst (λ (n : ℕ). slice_get starts n ≡ Some two) c.list-in-Via.ensures.number (c.start_at-two.ensures.there some))
    c.put_both.ensures.puts
