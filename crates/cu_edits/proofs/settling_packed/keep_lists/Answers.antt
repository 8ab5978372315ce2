use Rattle.std.proofs.Common.{List, arith, refl, subst, sym}
use Rattle.cu_interval.specs.declared.ways.Dir.TheVariants.{Down, Up}
use Rattle.cu_interval.specs.declared.ways.TouchedEdge.{TouchedEdge}
use Rattle.cu_edits.specs.Steps.Packed.{IsSettlingPacked}
use Rattle.cu_edits.specs.Steps.Holding.{settling_of}
use Rattle.cu_edits.specs.Steps.Parts.{settling_over}
use Rattle.cu_edits.proofs.LearntSides.{on_err}
use Rattle.cu_edits.proofs.PackedNext.{packed_kept, packed_one, packed_with, place_within}
use Rattle.cu_edits.proofs.settling_packed.keep_lists.Goals as goal

pub keep_settled-requires-clause-inside : goal.keep_settled-requires-clause-inside
keep_settled-requires-clause-inside g c = c.requires.holds.inside

pub keep_settled-requires-clause-edge : goal.keep_settled-requires-clause-edge
keep_settled-requires-clause-edge g c =
    place_within (settling_over c.args.parts.now c.args.settled.now.items) c.args.parts.now.graph c.args.parts.now.arcs c.args.state.now.functions c.args.state.now.moved c.args.edge
    c.requires.holds c.requires.asked

pub returns-in_err-keep_settled-clause-kept : goal.returns-in_err-keep_settled-clause-kept
returns-in_err-keep_settled-clause-kept g c = on_err _ c.in_err-keep_settled.ensures.kept

pub returns-in_err-keep_settled-clause-holds : goal.returns-in_err-keep_settled-clause-holds
returns-in_err-keep_settled-clause-holds g c =
    let h = c.args.parts.now.before in
    let edit = c.args.parts.now.edit in
    let graph = c.args.parts.now.graph in
    let arcs = c.args.parts.now.arcs in
    let packed = c.args.state.now.functions in
    let now = c.keep_settled.new.moved in
    subst (λ (settled : List TouchedEdge). IsSettlingPacked (settling_of h edit settled) graph arcs packed now) (sym {A = List TouchedEdge} c.in_err-keep_settled.ensures.kept)
    (packed_kept (settling_of h edit c.args.settled.now.items) graph arcs packed c.args.state.now.moved now c.in_err-keep_settled.ensures.more c.requires.holds)

pub returns-clause-edge : goal.returns-clause-edge
returns-clause-edge g c = refl

pub returns-clause-settled : goal.returns-clause-settled
returns-clause-settled g c = c.in_ok-keep_settled.ensures.settled

pub returns-clause-resettled : goal.returns-clause-resettled
returns-clause-resettled g c =
    let t : TouchedEdge = record { edge = c.args.edge; up = c.args.next.0.ways; down = c.args.next.1.ways } in
    let placed = c.in_ok-keep_settled.ensures.places in
    (packed_one c.args.parts.now.before c.args.parts.now.edit c.args.settled.now.items c.keep_settled.new.settled.items c.args.parts.now.graph c.args.parts.now.arcs
    c.args.state.now.functions c.args.state.now.moved placed.both.mid placed.kept c.keep_settled.new.moved t t c.args.next.0 c.args.next.1 placed.upwards placed.downwards c.requires.holds
    c.requires.asked c.requires.up c.requires.down refl refl placed.both.upper placed.both.lower placed.places placed.functions placed.low refl c.in_ok-keep_settled.ensures.settled).resettled

pub returns-clause-holds : goal.returns-clause-holds
returns-clause-holds g c =
    let h = c.args.parts.now.before in
    let edit = c.args.parts.now.edit in
    let t : TouchedEdge = record { edge = c.args.edge; up = c.args.next.0.ways; down = c.args.next.1.ways } in
    let placed = c.in_ok-keep_settled.ensures.places in
    let one =
    packed_one h edit c.args.settled.now.items c.keep_settled.new.settled.items c.args.parts.now.graph c.args.parts.now.arcs
    c.args.state.now.functions c.args.state.now.moved placed.both.mid placed.kept c.keep_settled.new.moved t t c.args.next.0 c.args.next.1 placed.upwards placed.downwards c.requires.holds
    c.requires.asked c.requires.up c.requires.down refl refl placed.both.upper placed.both.lower placed.places placed.functions placed.low refl c.in_ok-keep_settled.ensures.settled in
    packed_with (settling_of h edit c.keep_settled.new.settled.items) c.args.parts.now.graph c.args.parts.now.arcs c.args.state.now.functions c.keep_standing-2.new.functions
    c.keep_settled.new.moved one.holds
    (c.keep_standing-2.ensures.packed h (c.keep_standing.ensures.packed h c.requires.holds.known (one.standing Up)) (one.standing Down))

pub keep_standing-requires-clause-known : goal.keep_standing-requires-clause-known
keep_standing-requires-clause-known g c =
    let long = c.requires.holds.known.size.known in
    let places = c.requires.holds.places in
    let within =
    place_within (settling_over c.args.parts.now c.args.settled.now.items) c.args.parts.now.graph c.args.parts.now.arcs c.args.state.now.functions c.args.state.now.moved c.args.edge
    c.requires.holds c.requires.asked in
    omega (arith, long, places, within)

pub keep_standing-requires-clause-functions : goal.keep_standing-requires-clause-functions
keep_standing-requires-clause-functions g c =
    let long = c.requires.holds.known.size.functions in
    let places = c.requires.holds.places in
    let within =
    place_within (settling_over c.args.parts.now c.args.settled.now.items) c.args.parts.now.graph c.args.parts.now.arcs c.args.state.now.functions c.args.state.now.moved c.args.edge
    c.requires.holds c.requires.asked in
    omega (arith, long, places, within)

pub keep_standing-requires-2-clause-known : goal.keep_standing-requires-2-clause-known
keep_standing-requires-2-clause-known g c =
    let same = c.keep_standing.ensures.known in
    let long = c.requires.holds.known.size.known in
    let places = c.requires.holds.places in
    let within =
    place_within (settling_over c.args.parts.now c.args.settled.now.items) c.args.parts.now.graph c.args.parts.now.arcs c.args.state.now.functions c.args.state.now.moved c.args.edge
    c.requires.holds c.requires.asked in
    omega (arith, same, long, places, within)

pub keep_standing-requires-2-clause-functions : goal.keep_standing-requires-2-clause-functions
keep_standing-requires-2-clause-functions g c =
    let same = c.keep_standing.ensures.functions in
    let long = c.requires.holds.known.size.functions in
    let places = c.requires.holds.places in
    let within =
    place_within (settling_over c.args.parts.now c.args.settled.now.items) c.args.parts.now.graph c.args.parts.now.arcs c.args.state.now.functions c.args.state.now.moved c.args.edge
    c.requires.holds c.requires.asked in
    omega (arith, same, long, places, within)
