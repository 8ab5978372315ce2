use Rattle.std.proofs.Common.{◌≡◌, sym, ap, subst, arith}
use Rattle.cu_chordal.specs.Graphs.{ChordalValue}
use Rattle.cu_interval.specs.Hierarchies.{HierarchyValue}
use Rattle.cu_sweep.specs.declared.finding.Found.TheVariants.{Arrive}
use Rattle.cu_sweep.specs.Answers.{IsLeastWhereBuilt}
use Rattle.cu_sweep.specs.Sweeps.{AddsAll, sweep_calls, until_long}
use Rattle.cu_sweep.proofs.Answering.{found_least, label_real}
use Rattle.cu_sweep.proofs.Driven.{limited_done, limited_over}
use Rattle.cu_sweep.proofs.Ending.{real_found}
use Rattle.cu_sweep.proofs.leading.query_until.Goals as goal

pub returns-in-Some-clause-least : goal.returns-in-Some-clause-least
returns-in-Some-clause-least g c =
    let h = g.R.Relaxer.hierarchy c.args.relaxer.now in
    let ranks : c.args.graph.now.ranks ≡ h.network.nodes = ap (λ (v : ChordalValue). v.ranks) c.requires.graph.0 in
    let (from, to) = c.requires.ranks in
    subst (IsLeastWhereBuilt h c.args.question.from c.args.question.to c.args.question.second) (sym c.in-Some.ensures.found)
    (found_least h c.requires.graph.1 c.args.question.from c.args.question.to c.args.question.second (omega (arith, from, ranks)) (omega (arith, to, ranks)) c.requires.second)

pub returns-in-Some-clause-real : goal.returns-in-Some-clause-real
returns-in-Some-clause-real g c =
    let h = g.R.Relaxer.hierarchy c.args.relaxer.now in
    let ranks : c.args.graph.now.ranks ≡ h.network.nodes = ap (λ (v : ChordalValue). v.ranks) c.requires.graph.0 in
    let (from, to) = c.requires.ranks in
    let label = label_real h c.requires.graph.1 c.args.question.from c.args.question.to c.args.question.second (omega (arith, from, ranks)) (omega (arith, to, ranks)) c.requires.second in
    real_found h c.args.question.from c.args.question.to c.args.question.second c.query_in_time.new.desk (Arrive c.in-Some.arrival) label c.in-Some.ensures.found c.in-Some.ensures.holds

pub returns-in-None-clause-least : goal.returns-in-None-clause-least
returns-in-None-clause-least g c =
    subst (λ (v : HierarchyValue). IsLeastWhereBuilt v c.args.question.from c.args.question.to c.args.question.second c.query.result) c.in-None.ensures.stays c.query.ensures.least

pub returns-in-Some-clause-told : goal.returns-in-Some-clause-told
returns-in-Some-clause-told g c =
    let p = c.args.question in
    limited_done (g.R.Relaxer.hierarchy c.args.relaxer.now) p.from p.to p.second (g.R.Relaxer.calls c.args.relaxer.now)
    (g.R.Relaxer.calls c.query_in_time.new.relaxer) c.in-Some.ensures.told

pub returns-in-None-clause-told : goal.returns-in-None-clause-told
returns-in-None-clause-told g c =
    let p = c.args.question in
    let h = g.R.Relaxer.hierarchy c.args.relaxer.now in
    let before = g.R.Relaxer.calls c.query_in_time.new.relaxer in
    let now = g.R.Relaxer.calls c.query.new.relaxer in
    let made = subst (λ (v : HierarchyValue). AddsAll before now (until_long v (sweep_calls v p.from p.to p.second))) c.in-None.ensures.stays c.query.ensures.told in
    limited_over h p.from p.to (g.R.Relaxer.calls c.args.relaxer.now) before now p.second c.in-None.ensures.told made
