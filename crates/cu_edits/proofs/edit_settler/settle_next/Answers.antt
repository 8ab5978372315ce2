use Rattle.std.proofs.Common.{ap, arith, length, refl}
use Rattle.cu_edits.specs.Steps.Parts.{settling_over}
use Rattle.cu_edits.proofs.SettlingNext.{ends_within, lower_sides, next_none, next_one, next_within}
use Rattle.cu_chordal.specs.Graphs.{ChordalValue}
use Rattle.cu_edits.proofs.edit_settler.settle_next.Goals as goal

pub ends-ends-requires : goal.ends-ends-requires
ends-ends-requires g c =
    next_within (settling_over c.args.parts.now c.args.settled.now.items) c.args.parts.now.graph c.args.parts.now.arcs c.args.rebuilt.now c.args.known.now c.args.edge
    c.requires.holds c.requires.asked

pub learn_sides-requires-clause-ranks : goal.learn_sides-requires-clause-ranks
learn_sides-requires-clause-ranks g c = ends_within c.args.parts.now.graph c.args.edge c.ends-ends.result c.ends-ends.ensures.sound c.ends-ends.ensures.there

pub learn_sides-requires-clause-size : goal.learn_sides-requires-clause-size
learn_sides-requires-clause-size g c = c.requires.holds.size

pub learn_sides-requires-clause-keeps : goal.learn_sides-requires-clause-keeps
learn_sides-requires-clause-keeps g c = c.requires.holds.keeps

pub learn_sides-requires-clause-known : goal.learn_sides-requires-clause-known
learn_sides-requires-clause-known g c = c.requires.holds.count

pub settle_edge-requires-clause-edge : goal.settle_edge-requires-clause-edge
settle_edge-requires-clause-edge g c =
    next_within (settling_over c.args.parts.now c.args.settled.now.items) c.args.parts.now.graph c.args.parts.now.arcs c.args.rebuilt.now c.args.known.now c.args.edge
    c.requires.holds c.requires.asked

pub settle_edge-requires-clause-sides : goal.settle_edge-requires-clause-sides
settle_edge-requires-clause-sides g c =
    lower_sides c.args.parts.now.graph.edges c.learn_sides.new.known c.args.edge c.ends-ends.result c.ends-ends.ensures.there c.in_ok-learn_sides.ensures.sides

pub returns-in_err-learn_sides-clause-holds : goal.returns-in_err-learn_sides-clause-holds
returns-in_err-learn_sides-clause-holds g c =
    let list = c.args.settled.now.items in
    next_none c.args.parts.now.before c.args.parts.now.edit list list c.args.parts.now.graph c.args.parts.now.arcs c.args.rebuilt.now c.learn_sides.new.rebuilt c.args.known.now c.learn_sides.new.known
    c.args.edge c.ends-ends.result c.requires.holds c.requires.asked c.ends-ends.ensures.there c.learn_sides.ensures.learns c.learn_sides.ensures.size c.learn_sides.ensures.keeps refl

pub returns-in_err-lists-clause-holds : goal.returns-in_err-lists-clause-holds
returns-in_err-lists-clause-holds g c =
    let list = c.args.settled.now.items in
    next_none c.args.parts.now.before c.args.parts.now.edit list list c.args.parts.now.graph c.args.parts.now.arcs c.args.rebuilt.now c.learn_sides.new.rebuilt c.args.known.now c.learn_sides.new.known
    c.args.edge c.ends-ends.result c.requires.holds c.requires.asked c.ends-ends.ensures.there c.learn_sides.ensures.learns c.learn_sides.ensures.size c.learn_sides.ensures.keeps refl

pub returns-in_err-push_copy-clause-holds : goal.returns-in_err-push_copy-clause-holds
returns-in_err-push_copy-clause-holds g c =
    next_none c.args.parts.now.before c.args.parts.now.edit c.args.settled.now.items c.push_copy.new.settled.items c.args.parts.now.graph c.args.parts.now.arcs
    c.args.rebuilt.now c.learn_sides.new.rebuilt
    c.args.known.now c.learn_sides.new.known c.args.edge c.ends-ends.result c.requires.holds c.requires.asked c.ends-ends.ensures.there c.learn_sides.ensures.learns c.learn_sides.ensures.size
    c.learn_sides.ensures.keeps c.in_err-push_copy.ensures.kept

pub returns-clause-edge : goal.returns-clause-edge
returns-clause-edge g c = c.in_ok-lists.ensures.number

pub returns-clause-settled : goal.returns-clause-settled
returns-clause-settled g c = c.in_ok-push_copy.ensures.added

pub returns-clause-resettled : goal.returns-clause-resettled
returns-clause-resettled g c =
    (next_one c.args.parts.now.before c.args.parts.now.edit c.args.settled.now.items c.push_copy.new.settled.items c.args.parts.now.graph c.args.parts.now.arcs
    c.args.rebuilt.now c.learn_sides.new.rebuilt
    c.args.known.now c.learn_sides.new.known c.know.new.known c.args.edge c.ends-ends.result c.in_ok-lists.lists c.in_ok-lists.lists c.in_ok-lists.functions
    c.requires.holds c.requires.asked c.ends-ends.ensures.there
    c.learn_sides.ensures.learns c.learn_sides.ensures.size c.learn_sides.ensures.keeps c.in_ok-learn_sides.ensures.sides c.in_ok-lists.ensures refl c.in_ok-push_copy.ensures.added
    c.know.ensures).resettled

pub returns-clause-holds : goal.returns-clause-holds
returns-clause-holds g c =
    (next_one c.args.parts.now.before c.args.parts.now.edit c.args.settled.now.items c.push_copy.new.settled.items c.args.parts.now.graph c.args.parts.now.arcs
    c.args.rebuilt.now c.learn_sides.new.rebuilt
    c.args.known.now c.learn_sides.new.known c.know.new.known c.args.edge c.ends-ends.result c.in_ok-lists.lists c.in_ok-lists.lists c.in_ok-lists.functions
    c.requires.holds c.requires.asked c.ends-ends.ensures.there
    c.learn_sides.ensures.learns c.learn_sides.ensures.size c.learn_sides.ensures.keeps c.in_ok-learn_sides.ensures.sides c.in_ok-lists.ensures
    refl c.in_ok-push_copy.ensures.added c.know.ensures).holds

pub know-requires : goal.know-requires
know-requires g c =
    let inside = next_within (settling_over c.args.parts.now c.args.settled.now.items) c.args.parts.now.graph c.args.parts.now.arcs c.args.rebuilt.now c.args.known.now c.args.edge
    c.requires.holds c.requires.asked in
    let count = c.requires.holds.count in
    let long = c.learn_sides.ensures.learns.long in
    let graph = ap (λ (k : ChordalValue). length k.edges) c.requires.holds.hierarchy.0 in
    omega (arith, inside, count, long, graph)
