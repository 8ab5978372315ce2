use Rattle.std.proofs.Common.{subst, sym}
use Rattle.cu_interval.specs.declared.ways.Way.{Way}
use Rattle.cu_unpack.specs.RebuiltRuns.{IsFarWay}
use Rattle.cu_unpack.specs.Steps.Rebuilding.{HasHalves, IsWayOf}
use Rattle.cu_unpack.specs.Steps.PackedRebuilding.{AddsWay, IsKnown}
use Rattle.cu_unpack.proofs.PackedWays.{adds_road_way, adds_via, far_via, first_packed, second_packed}
use Rattle.cu_unpack.proofs.packed_rebuilding.add_way.Goals as goal

pub function-requires : goal.function-requires
function-requires g c =
    let h = g.W.Ways.hierarchy c.args.ways.now in
    let way = subst (IsWayOf h c.args.shortcut) c.in-Via.is c.requires.way in
    let known = subst (HasHalves h (IsKnown c.args.table.now) c.args.shortcut) c.in-Via.is c.requires.halves in
    first_packed h c.requires.sound c.args.table.now c.requires.size c.args.shortcut c.halves.result.0 c.halves.result.1 c.in-Via.middle c.requires.keeps way known c.halves.ensures.halves

pub function-requires-in-Via : goal.function-requires-in-Via
function-requires-in-Via g c =
    let h = g.W.Ways.hierarchy c.args.ways.now in
    let way = subst (IsWayOf h c.args.shortcut) c.in-Via.is c.requires.way in
    let known = subst (HasHalves h (IsKnown c.args.table.now) c.args.shortcut) c.in-Via.is c.requires.halves in
    second_packed h c.requires.sound c.args.table.now c.requires.size c.args.shortcut c.halves.result.0 c.halves.result.1 c.in-Via.middle c.requires.keeps way known c.halves.ensures.halves

pub returns-in_ok-add_road-in-Road-clause-adds : goal.returns-in_ok-add_road-in-Road-clause-adds
returns-in_ok-add_road-in-Road-clause-adds g c said =
    let h = g.W.Ways.hierarchy c.args.ways.now in
    subst (λ (w : Way). AddsWay h c.args.shortcut w c.args.room.now c.add_road.new.self) (sym c.in-Road.is)
    (adds_road_way h c.args.shortcut c.in-Road.road c.args.room.now c.add_road.new.self c.in_ok-add_road-in-Road.ensures)

pub returns-in_ok-is_near-in-Via-clause-adds : goal.returns-in_ok-is_near-in-Via-clause-adds
returns-in_ok-is_near-in-Via-clause-adds g c said =
    let h = g.W.Ways.hierarchy c.args.ways.now in
    let way = subst (IsWayOf h c.args.shortcut) c.in-Via.is c.requires.way in
    let known = subst (HasHalves h (IsKnown c.args.table.now) c.args.shortcut) c.in-Via.is c.requires.halves in
    subst (λ (w : Way). AddsWay h c.args.shortcut w c.args.room.now c.add_both.new.self) (sym c.in-Via.is)
    (adds_via h c.requires.sound c.args.table.now c.requires.size c.args.shortcut c.halves.result.0 c.halves.result.1 c.in-Via.middle c.requires.keeps way known c.halves.ensures.halves
    c.function.result.now c.function-in-Via.result.now c.function.ensures c.function-in-Via.ensures c.args.room.now c.add_both.new.self (c.in_ok-is_near-in-Via.ensures.adds said))

pub returns-in_ok-is_near-in-Via-clause-far : goal.returns-in_ok-is_near-in-Via-clause-far
returns-in_ok-is_near-in-Via-clause-far g c said =
    let h = g.W.Ways.hierarchy c.args.ways.now in
    let way = subst (IsWayOf h c.args.shortcut) c.in-Via.is c.requires.way in
    let known = subst (HasHalves h (IsKnown c.args.table.now) c.args.shortcut) c.in-Via.is c.requires.halves in
    subst (IsFarWay h c.args.table.now c.args.shortcut.edge c.args.shortcut.dir) (sym c.in-Via.is)
    (far_via h c.requires.sound c.args.table.now c.requires.size c.args.shortcut c.halves.result.0 c.halves.result.1 c.in-Via.middle c.requires.keeps way known c.halves.ensures.halves
    c.function.result.now c.function-in-Via.result.now c.function.ensures c.function-in-Via.ensures (c.in_ok-is_near-in-Via.ensures.far said))
