use Rattle.std.proofs.Common.{◌<◌, ◌*◌, ◌∙◌, ap, length, subst, sym}
use Rattle.cu_chordal.specs.Graphs.{ChordalValue}
use Rattle.cu_interval.specs.declared.ways.Dir.TheVariants.{Down, Up}
use Rattle.cu_customize.specs.Triangles.{AreTrianglesOf}
use Rattle.cu_edits.specs.Steps.Parts.{settling_over}
use Rattle.cu_edits.proofs.PackedNext.{edge_inside, new_list_over, packed_still}
use Rattle.cu_edits.specs.Steps.Moving.{MovedValue}
use Rattle.cu_edits.proofs.settling_packed.next_lists.Goals as goal

pub find-requires : goal.find-requires
find-requires g c = record {
  edge = subst (λ (k : ChordalValue). c.args.edge < length k.edges) (sym c.graph.ensures.same)
      (edge_inside (settling_over c.args.parts.now c.args.settled.now) c.args.parts.now.graph c.args.edge c.requires.holds.parts.hierarchy c.requires.asked);
}

pub next_list-requires-clause-triangles : goal.next_list-requires-clause-triangles
next_list-requires-clause-triangles g c = subst (λ (k : ChordalValue). AreTrianglesOf k.edges c.args.edge c.find.new.self) c.graph.ensures.same c.in_ok-find.ensures

pub next_list-requires-2-clause-triangles : goal.next_list-requires-2-clause-triangles
next_list-requires-2-clause-triangles g c =
    subst (AreTrianglesOf c.args.parts.now.graph.edges c.args.edge) (sym c.next_list.ensures.triangles)
    (subst (λ (k : ChordalValue). AreTrianglesOf k.edges c.args.edge c.find.new.self) c.graph.ensures.same c.in_ok-find.ensures)

pub next_list-requires-2-clause-edge : goal.next_list-requires-2-clause-edge
next_list-requires-2-clause-edge g c =
    edge_inside (settling_over c.args.parts.now c.args.settled.now) c.args.parts.now.graph c.args.edge
    c.requires.holds.parts.hierarchy c.requires.asked

pub returns-in_err-up-clause-holds : goal.returns-in_err-up-clause-holds
returns-in_err-up-clause-holds g c =
    packed_still (settling_over c.args.parts.now c.args.settled.now) c.args.parts.now.graph c.args.parts.now.arcs
    c.args.state.now.functions c.next_list.new.state.functions c.args.state.now.moved c.next_list.new.state.moved c.requires.holds c.next_list.ensures.learns c.next_list.ensures.moved

pub returns-in_default-clause-holds : goal.returns-in_default-clause-holds
returns-in_default-clause-holds g c =
    packed_still (settling_over c.args.parts.now c.args.settled.now) c.args.parts.now.graph c.args.parts.now.arcs
    c.args.state.now.functions c.next_list.new.state.functions c.args.state.now.moved c.next_list.new.state.moved c.requires.holds c.next_list.ensures.learns c.next_list.ensures.moved

pub returns-in_err-down-clause-holds : goal.returns-in_err-down-clause-holds
returns-in_err-down-clause-holds g c =
    let s = settling_over c.args.parts.now c.args.settled.now in
    let graph = c.args.parts.now.graph in
    let arcs = c.args.parts.now.arcs in
    packed_still s graph arcs c.next_list.new.state.functions c.next_list-2.new.state.functions c.next_list.new.state.moved c.next_list-2.new.state.moved
    (packed_still s graph arcs c.args.state.now.functions c.next_list.new.state.functions c.args.state.now.moved c.next_list.new.state.moved c.requires.holds c.next_list.ensures.learns
    c.next_list.ensures.moved)
    c.next_list-2.ensures.learns c.next_list-2.ensures.moved

pub returns-in_default-2-clause-holds : goal.returns-in_default-2-clause-holds
returns-in_default-2-clause-holds g c =
    let s = settling_over c.args.parts.now c.args.settled.now in
    let graph = c.args.parts.now.graph in
    let arcs = c.args.parts.now.arcs in
    packed_still s graph arcs c.next_list.new.state.functions c.next_list-2.new.state.functions c.next_list.new.state.moved c.next_list-2.new.state.moved
    (packed_still s graph arcs c.args.state.now.functions c.next_list.new.state.functions c.args.state.now.moved c.next_list.new.state.moved c.requires.holds c.next_list.ensures.learns
    c.next_list.ensures.moved)
    c.next_list-2.ensures.learns c.next_list-2.ensures.moved

pub returns-clause-down : goal.returns-clause-down
returns-clause-down g c =
    let s = settling_over c.args.parts.now c.args.settled.now in
    let first =
    packed_still s c.args.parts.now.graph c.args.parts.now.arcs c.args.state.now.functions c.next_list.new.state.functions c.args.state.now.moved c.next_list.new.state.moved
    c.requires.holds c.next_list.ensures.learns c.next_list.ensures.moved in
    new_list_over s c.next_list.new.state.moved c.next_list-2.new.state.moved c.args.edge Down c.in_ok-down.field-0 c.in-Some-2.down c.in-Some-2.is c.next_list-2.ensures.moved
    (c.in_ok-down.ensures.list c.args.settled.now first c.requires.asked)

pub returns-clause-holds : goal.returns-clause-holds
returns-clause-holds g c =
    let s = settling_over c.args.parts.now c.args.settled.now in
    let graph = c.args.parts.now.graph in
    let arcs = c.args.parts.now.arcs in
    packed_still s graph arcs c.next_list.new.state.functions c.next_list-2.new.state.functions c.next_list.new.state.moved c.next_list-2.new.state.moved
    (packed_still s graph arcs c.args.state.now.functions c.next_list.new.state.functions c.args.state.now.moved c.next_list.new.state.moved c.requires.holds c.next_list.ensures.learns
    c.next_list.ensures.moved)
    c.next_list-2.ensures.learns c.next_list-2.ensures.moved

pub next_list-requires-clause-moved : goal.next_list-requires-clause-moved
next_list-requires-clause-moved g c = c.requires.holds.places ∙ ap (λ (k : ChordalValue). 2 * length k.edges) (sym c.requires.holds.parts.hierarchy.0)

pub next_list-requires-clause-edge : goal.next_list-requires-clause-edge
next_list-requires-clause-edge g c =
    edge_inside (settling_over c.args.parts.now c.args.settled.now) c.args.parts.now.graph c.args.edge
    c.requires.holds.parts.hierarchy c.requires.asked

pub next_list-requires-2-clause-packed : goal.next_list-requires-2-clause-packed
next_list-requires-2-clause-packed g c = c.next_list.ensures.learns.packed

pub next_list-requires-2-clause-moved : goal.next_list-requires-2-clause-moved
next_list-requires-2-clause-moved g c =
    ap (λ (m : MovedValue). length m.places) c.next_list.ensures.moved ∙ c.requires.holds.places
    ∙ ap (λ (k : ChordalValue). 2 * length k.edges) (sym c.requires.holds.parts.hierarchy.0)

pub returns-clause-up : goal.returns-clause-up
returns-clause-up g c =
    new_list_over (settling_over c.args.parts.now c.args.settled.now) c.args.state.now.moved c.next_list-2.new.state.moved c.args.edge Up c.in_ok-up.field-0 c.in-Some.up c.in-Some.is
    (c.next_list-2.ensures.moved ∙ c.next_list.ensures.moved) (c.in_ok-up.ensures.list c.args.settled.now c.requires.holds c.requires.asked)
