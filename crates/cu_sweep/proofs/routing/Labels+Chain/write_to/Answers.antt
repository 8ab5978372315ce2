use Rattle.std.proofs.Common.{◌≡◌, ◌∙◌, ℕ, List, Option, true, ap, subst, sym}
use Rattle.cu_interval.specs.declared.relaxing.Call.{Call}
use Rattle.cu_io.proofs.Appending.{wrote_same}
use Rattle.cu_sweep.specs.Desks.{AreArriving, call_text, routed_text}
use Rattle.cu_sweep.specs.Places.{calls_found}
use Rattle.cu_sweep.specs.Swept.{LabelsValue}
use Rattle.cu_sweep.proofs.routing.Labels+Chain.write_to.Goals as goal

pub write_chain-requires-clause-arriving : goal.write_chain-requires-clause-arriving
write_chain-requires-clause-arriving g c =
    let inside = c.self.inside in
    let nodes = c.nodes.result in
    let now = c.args.self.now in
    let end = c.args.end in
    let calls : calls_found now.nodes now.seconds now.links end ≡ calls_found nodes c.deref.result.now inside.chain.links end =
    ap (λ (n : ℕ). calls_found n now.seconds now.links end) (sym c.nodes.ensures.count)
    ∙ ap (λ (v : LabelsValue). calls_found nodes v.seconds v.links end) (sym c.self.view_is)
    ∙ ap (λ (xs : List (Option ℕ)). calls_found nodes xs inside.chain.links end) (sym c.deref.ensures.value) in
    subst (AreArriving (g.W.Relaxer.hierarchy c.args.walker.now)) calls c.requires.arriving

pub returns-clause-wrote : goal.returns-clause-wrote
returns-clause-wrote g c =
    let inside = c.self.inside in
    let nodes = c.nodes.result in
    let now = c.args.self.now in
    let end = c.args.end in
    let calls : calls_found nodes c.deref.result.now inside.chain.links end ≡ calls_found now.nodes now.seconds now.links end =
    ap (λ (xs : List (Option ℕ)). calls_found nodes xs inside.chain.links end) c.deref.ensures.value
    ∙ ap (λ (v : LabelsValue). calls_found nodes v.seconds v.links end) c.self.view_is
    ∙ ap (λ (n : ℕ). calls_found n now.seconds now.links end) c.nodes.ensures.count in
    let text = call_text (g.P.WalkForm.text c.args.form.now) (g.W.Relaxer.hierarchy c.args.walker.now) in
    wrote_same (ap (λ (cs : List Call). routed_text text true cs) calls) c.write_chain.ensures.wrote
