use Rattle.std.proofs.Common.{◌≡◌, ◌*◌, ◌∙◌, Bool, List, Option, ap, length, subst, sym}
use Rattle.std.proofs.lemmas.Result.{IfOk-weaker}
use Rattle.cu_arrival.specs.declared.runs.Run.{Run}
use Rattle.cu_chordal.specs.declared.graph.Ends.{Ends}
use Rattle.cu_runs.specs.Layers.{layered}
use Rattle.cu_runs.proofs.Layers.{layered_long}
use Rattle.cu_edits.specs.Steps.Packed.{functions_at_hand}
use Rattle.cu_edits.specs.Steps.Triangles.{IsLimit}
use Rattle.cu_edits.proofs.AtHand.{rivals_at_hand, same_edges, told_sides}
use Rattle.cu_edits.proofs.LimitLaws.{places_of}
use Rattle.cu_edits.proofs.settling_packed.learn_rivals.Goals as goal

pub limit_of-limit-requires : goal.limit_of-limit-requires
limit_of-limit-requires g c =
    let asked = c.args.asked.now in
    let moved = asked.moved.now in
    let long : length c.over.result ≡ 2 * length c.args.parts.now.graph.edges =
    ap length c.over.ensures ∙ layered_long c.functions.result moved.places moved.functions ∙ ap length c.functions.ensures ∙ c.learn_ways.ensures.learns.packed.size.functions
    ∙ ap (λ (es : List Ends). 2 * length es) (sym (same_edges c.args.parts.now.before c.args.parts.now.graph c.requires.fit.0.hierarchy)) in
    places_of c.args.parts.now.graph.edges c.over.result asked.edge asked.dir asked.triangles.now long c.requires.edge c.requires.triangles

pub learn_middles-requires-clause-sides : goal.learn_middles-requires-clause-sides
learn_middles-requires-clause-sides g c =
    told_sides c.args.asked.now.moved.now c.args.parts.now.graph.edges c.args.asked.now.edge c.args.asked.now.triangles.now c.requires.moved c.requires.edge c.requires.triangles

pub returns-clause-known : goal.returns-clause-known
returns-clause-known g c =
    let asked = c.args.asked.now in
    let moved = asked.moved.now in
    let learnt = c.learn_ways.new.packed in
    let same : c.over.result ≡ functions_at_hand moved learnt =
    c.over.ensures ∙ ap (λ (fs : List (Option (List Run))). layered fs moved.places moved.functions) c.functions.ensures in
    let limit = subst (λ (fs : List (Option (List Run))). IsLimit fs asked.dir asked.triangles.now c.limit_of-limit.result) same c.limit_of-limit.ensures in
    IfOk-weaker c.learn_middles.result _ _
    (λ (is_near : Bool) known near. rivals_at_hand c.args.parts.now.before c.args.parts.now.graph c.requires.fit.0.hierarchy c.args.parts.now.edit
    c.args.parts.now.customized moved asked.edge asked.dir learnt c.learn_middles.new.packed asked.triangles.now c.limit_of-limit.result c.requires.triangles
    c.learn_ways.ensures.learns.packed c.learn_middles.ensures.learns limit (known near)) c.learn_middles.ensures.known
