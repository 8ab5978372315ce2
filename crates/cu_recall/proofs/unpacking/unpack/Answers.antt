use Rattle.std.proofs.Common.{◌∙◌, ap, arith, subst, sym}
use Rattle.cu_recall.specs.declared.pending.Asked.{Asked}
use Rattle.cu_recall.specs.Windows.{HoldsDriven}
use Rattle.cu_recall.specs.declared.pending.Spot.{Spot}
use Rattle.cu_recall.specs.Steps.InWork.{IsSomewhere}
use Rattle.cu_recall.proofs.Parting.{begun}
use Rattle.cu_recall.proofs.Unpacks.{some_roads, whole_long}
use Rattle.cu_recall.proofs.unpacking.unpack.Goals as goal

pub parts-init : goal.parts-init
parts-init c =
    let h = c.args.view.now in
    let is = c.start-spot.ensures in
    let none = ap (λ (spot : Spot). spot.roads) is in
    let nodes = c.nodes-nodes.ensures.count in
    let at = begun h c.requires.sound c.args.pending.now c.args.whole c.see.result c.requires.asked (c.see.ensures.holds h c.requires.knows) in
    record {
      sound = c.requires.sound;
      nodes = nodes;
      somewhere = subst (λ (spot : Spot). IsSomewhere h c.args.pending.now spot) (sym is) at.0;
      whole = ap (λ (spot : Spot). spot.whole) is;
      few = omega (arith, at.1, none, nodes);
      knows = c.requires.knows;
    }

pub returns-then-driven-nodes-clause-unpacks : goal.returns-then-driven-nodes-clause-unpacks
returns-then-driven-nodes-clause-unpacks c u v is =
    let h = c.args.view.now in
    let i = c.parts.invariant in
    let nodes = i.nodes in
    let long = whole_long h i.sound c.go_down.new.pending c.go_down.result.0 c.go_down.result.1 c.go_down.ensures.somewhere c.go_down.ensures.driven
    c.args.whole (c.go_down.ensures.whole ∙ i.whole) u v is in
    omega (arith, long, nodes, c.if-driven-nodes.true)

pub returns-in-Whole-clause-unpacks : goal.returns-in-Whole-clause-unpacks
returns-in-Whole-clause-unpacks c =
    let h = c.args.view.now in
    let i = c.parts.invariant in
    let nodes = i.nodes in
    let follows = c.in-Whole.ensures.follows in
    let count = follows.1 in
    (subst (λ (w : Asked). HoldsDriven h w.list w.second c.in-Whole.driven) (c.go_down.ensures.whole ∙ i.whole) follows.0, omega (arith, count, nodes, c.if-driven-nodes.false))

pub parts-smaller : goal.parts-smaller
parts-smaller c =
    let h = c.args.view.now in
    let i = c.parts.invariant in
    let few = i.few in
    let follows = c.in-Next.ensures.follows in
    let count = follows.1 in
    let some = some_roads h i.sound c.go_down.new.pending c.go_down.result.0 c.go_down.result.1 c.go_down.ensures.somewhere c.go_down.ensures.driven in
    omega (arith, few, count, some, c.go_down.ensures.roads)
