use Rattle.std.proofs.Common.{◌≡◌, ◌<◌, ◌∙◌, ℕ, Option, Some, None, refl, sym, subst, arith, rules, length}
use Rattle.cu_interval.specs.declared.ways.Way.TheVariants.{Road, Via}
use Rattle.cu_interval.specs.Hierarchies.{HierarchyValue, list_of}
use Rattle.cu_interval.specs.WayLists.{way_at}
use Rattle.cu_interval.specs.Shortcuts.{IsMiddle}
use Rattle.cu_unpack.specs.declared.unpacking.Spot.{Spot}
use Rattle.cu_unpack.specs.Steps.Legs.{FindsRoad, Parts}
use Rattle.cu_unpack.proofs.Down.{next_low, next_within, part_lower, part_ready, part_somewhere, way_here, went_none, went_nowhere, went_part, went_road}
use Rattle.cu_unpack.proofs.unpacking.next_road.Goals as goal

pub parts-init : goal.parts-init
parts-init g c =
    let h = g.C.CountedWays.hierarchy c.args.ways.now in
    let low = next_low h c.requires.sound c.args.pending.now c.args.spot c.requires.somewhere in
    record {
      stays = refl;
      second = refl;
      somewhere = c.requires.somewhere;
      few = omega (arith, low);
      went = λ leg legs is. went_nowhere h leg legs c.args.spot.second c.args.pending.now c.args.spot (g.C.CountedWays.steps c.args.ways.now) is;
    }

pub counted_way-requires-clause-edge : goal.counted_way-requires-clause-edge
counted_way-requires-clause-edge g c =
    let i = c.parts.invariant in
    let within = next_within (g.C.CountedWays.hierarchy c.args.ways.now) c.parts.pending c.parts.spot i.somewhere in
    subst (λ (h : HierarchyValue). c.parts.spot.edge < length h.edges) (sym i.stays) within

pub returns-in_err-road-clause-finds : goal.returns-in_err-road-clause-finds
returns-in_err-road-clause-finds g c =
    let h = g.C.CountedWays.hierarchy c.args.ways.now in
    let before = g.C.CountedWays.steps c.args.ways.now in
    let now = g.C.CountedWays.steps c.parts.ways in
    let after = g.C.CountedWays.steps c.counted_way.new.self in
    let t = c.args.spot.second in
    let spot = c.parts.spot in
    let i = c.parts.invariant in
    let at : way_at (list_of h spot.edge spot.dir) t ≡ c.counted_way.result = way_here spot.edge spot.dir c.counted_way.ensures.way i.stays i.second in
    let none : c.counted_way.result ≡ None = search rules in
    let out : c.from_residual.result ≡ None = search rules in
    λ leg legs is.
    subst (λ (o : Option (Spot × ℕ)). FindsRoad h leg legs t c.parts.pending before after o) (sym out)
    (went_none h c.requires.sound leg legs t c.parts.pending spot before now after (i.went leg legs is) (at ∙ none) c.counted_way.ensures.counted)

pub returns-in-Road-clause-finds : goal.returns-in-Road-clause-finds
returns-in-Road-clause-finds g c =
    let h = g.C.CountedWays.hierarchy c.args.ways.now in
    let before = g.C.CountedWays.steps c.args.ways.now in
    let now = g.C.CountedWays.steps c.parts.ways in
    let after = g.C.CountedWays.steps c.counted_way.new.self in
    let t = c.args.spot.second in
    let spot = c.parts.spot in
    let i = c.parts.invariant in
    let at : way_at (list_of h spot.edge spot.dir) t ≡ c.counted_way.result = way_here spot.edge spot.dir c.counted_way.ensures.way i.stays i.second in
    let is : c.counted_way.result ≡ Some (Road c.in-Road.road) = search rules in
    λ leg legs place.
    went_road h c.requires.sound leg legs t c.parts.pending spot before now after c.in-Road.road (i.went leg legs place) (at ∙ is)
    c.counted_way.ensures.counted i.second

pub part-spot-requires-clause-middle : goal.part-spot-requires-clause-middle
part-spot-requires-clause-middle g c =
    let h = g.C.CountedWays.hierarchy c.args.ways.now in
    let t = c.args.spot.second in
    let spot = c.parts.spot in
    let m = c.in-Via.middle in
    let i = c.parts.invariant in
    let at : way_at (list_of h spot.edge spot.dir) t ≡ c.counted_way.result = way_here spot.edge spot.dir c.counted_way.ensures.way i.stays i.second in
    let is : c.counted_way.result ≡ Some (Via m) = search rules in
    let ready = part_ready h c.requires.sound c.parts.pending spot t m i.somewhere (at ∙ is) in
    subst (λ (k : HierarchyValue). IsMiddle k spot.edge spot.dir m) (sym (c.counted_way.ensures.stays ∙ i.stays)) ready.0

pub parts-smaller : goal.parts-smaller
parts-smaller g c =
    let h = g.C.CountedWays.hierarchy c.args.ways.now in
    let t = c.args.spot.second in
    let spot = c.parts.spot in
    let next = c.part-spot.result in
    let pending = c.parts.pending in
    let moved = c.part-spot.new.pending in
    let m = c.in-Via.middle in
    let i = c.parts.invariant in
    let at : way_at (list_of h spot.edge spot.dir) t ≡ c.counted_way.result = way_here spot.edge spot.dir c.counted_way.ensures.way i.stays i.second in
    let is : c.counted_way.result ≡ Some (Via m) = search rules in
    let parts : Parts h spot m pending moved next =
    subst (λ (k : HierarchyValue). Parts k spot m pending moved next) (c.counted_way.ensures.stays ∙ i.stays) c.part-spot.ensures.parts in
    part_lower h c.requires.sound pending pending moved spot next t m i.somewhere (at ∙ is) parts

pub parts-preserved : goal.parts-preserved
parts-preserved g c =
    let h = g.C.CountedWays.hierarchy c.args.ways.now in
    let before = g.C.CountedWays.steps c.args.ways.now in
    let now = g.C.CountedWays.steps c.parts.ways in
    let after = g.C.CountedWays.steps c.counted_way.new.self in
    let t = c.args.spot.second in
    let spot = c.parts.spot in
    let next = c.part-spot.result in
    let pending = c.parts.pending in
    let moved = c.part-spot.new.pending in
    let m = c.in-Via.middle in
    let i = c.parts.invariant in
    let at : way_at (list_of h spot.edge spot.dir) t ≡ c.counted_way.result = way_here spot.edge spot.dir c.counted_way.ensures.way i.stays i.second in
    let is : c.counted_way.result ≡ Some (Via m) = search rules in
    let parts : Parts h spot m pending moved next =
    subst (λ (k : HierarchyValue). Parts k spot m pending moved next) (c.counted_way.ensures.stays ∙ i.stays) c.part-spot.ensures.parts in
    let lower = part_lower h c.requires.sound pending pending moved spot next t m i.somewhere (at ∙ is) parts in
    let long : length c.parts.pending ≡ h.network.nodes = omega (arith, c.parts.auto.pending, c.requires.room) in
    let few = i.few in
    let one = c.counted_way.ensures.counted in
    record {
      stays = c.counted_way.ensures.stays ∙ i.stays;
      second = parts.second ∙ i.second;
      somewhere = part_somewhere h c.requires.sound pending moved spot next t m long i.somewhere (at ∙ is) parts;
      few = omega (arith, few, one, lower);
      went = λ leg legs place. went_part h c.requires.sound leg legs t pending moved spot next before now after m long (i.went leg legs place) (at ∙ is) one parts;
    }
