use Rattle.std.proofs.Common.{◌∙◌, ap, length, sym, subst}
use Rattle.std.specs.List.{range_with_len}
use Rattle.cu_chordal.specs.Graphs.{ChordalValue}
use Rattle.cu_reach.proofs.DeskLaws.{holds_reached, labels_count, least_where_built}
use Rattle.cu_reach.specs.declared.reaching.Reached.{Reached}
use Rattle.cu_reach.specs.Reaching.{HoldsReached, IsAllWhereBuilt, labels_of}
use Rattle.cu_reach.proofs.reaching.reach.Goals as goal

pub reach_all-requires-clause-nodes : goal.reach_all-requires-clause-nodes
reach_all-requires-clause-nodes g c = sym (labels_count c.desk.inside.labels) ∙ ap length c.desk.view_is ∙ c.requires.desk

pub reach_all-requires-clause-ranks : goal.reach_all-requires-clause-ranks
reach_all-requires-clause-ranks g c =
    let nodes = sym (labels_count c.desk.inside.labels) ∙ ap length c.desk.view_is ∙ c.requires.desk in
    c.deref.ensures.value ∙ c.desk.invariant ∙ ap (range_with_len 0) nodes

pub returns-clause-holds : goal.returns-clause-holds
returns-clause-holds g c =
    let h = g.R.Relaxer.hierarchy c.args.relaxer.now in
    let nodes = sym (labels_count c.desk.inside.labels) ∙ ap length c.desk.view_is ∙ c.requires.desk in
    subst (λ (answer : Reached). HoldsReached h c.args.from c.args.second answer (labels_of c.reach_all.new.self)) (sym c.reached_of.ensures)
    (holds_reached h c.args.from c.args.second c.reach_all.new.self c.reach_all.result
    (c.reach_all.ensures.nodes ∙ nodes ∙ ap (λ (graph : ChordalValue). graph.ranks) c.requires.graph.0) c.reach_all.ensures.reached)

pub returns-clause-least : goal.returns-clause-least
returns-clause-least g c =
    let h = g.R.Relaxer.hierarchy c.args.relaxer.now in
    subst (λ (answer : Reached). IsAllWhereBuilt h c.args.from c.args.second answer (labels_of c.reach_all.new.self)) (sym c.reached_of.ensures)
    (least_where_built h c.args.from c.args.second c.reach_all.new.self c.reach_all.result c.reach_all.ensures.least)
