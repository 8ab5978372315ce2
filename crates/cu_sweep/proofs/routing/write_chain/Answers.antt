use Rattle.std.proofs.Common.{◌≡◌, ◌∙◌, Bool, Some, None, refl, sym, subst, arith, rules}
use Rattle.std.specs.Prelude.{Ok, Err}
use Rattle.cu_links.specs.Chains.{link_at}
use Rattle.cu_io.specs.declared.sink.SinkFailed.{SinkFailed}
use Rattle.cu_io.specs.Sinks.{Wrote}
use Rattle.cu_io.proofs.Appending.{wrote_ok}
use Rattle.cu_interval.specs.Hierarchies.{HierarchyValue}
use Rattle.cu_sweep.specs.Desks.{AreArriving, call_text, routed_text}
use Rattle.cu_sweep.specs.Places.{calls_of_some}
use Rattle.cu_sweep.proofs.Readying.{chain_keeps}
use Rattle.cu_sweep.proofs.Turned.{begun_within, route_begun, route_next, route_on, route_over, route_stops}
use Rattle.cu_sweep.proofs.routing.write_chain.Goals as goal

pub reverse_from-place-requires-clause-place : goal.reverse_from-place-requires-clause-place
reverse_from-place-requires-clause-place g c = let places = c.requires.ready.places chain_keeps in omega (arith, places, c.requires.end)

pub links-init : goal.links-init
links-init g c =
    let text = call_text (g.P.WalkForm.text c.args.form.now) (g.W.Relaxer.hierarchy c.args.walker.now) in
    let nodes = c.args.reached.nodes in
    let seconds = c.args.reached.seconds.now in
    let before = c.args.chain.now.links in
    let after = c.reverse_from-place.new.self.links in
    let rises = c.requires.ready.rises c.requires.unturned in
    let end = c.args.end in
    let a = g.K.Sink.state c.args.sink.now in
    let place = c.reverse_from-place.result in
    let chain = c.reverse_from-place.ensures.chain in
    let begun = begun_within nodes before after end place rises c.requires.end chain in
    record {
      stays = refl;
      quiet = refl;
      within = begun.1;
      few = begun.0;
      on = route_begun text nodes seconds before after end place a rises c.requires.end chain;
    }

pub follow-requires-clause-place : goal.follow-requires-clause-place
follow-requires-clause-place g c =
    let places = c.requires.ready.places chain_keeps in
    omega (arith, c.links.invariant.within, places, c.reverse_from-place.ensures.places)

pub call_of-call-requires-clause-from : goal.call_of-call-requires-clause-from
call_of-call-requires-clause-from g c = omega (arith, c.links.invariant.within, c.requires.ready.long)

pub call_of-call-requires-clause-edge : goal.call_of-call-requires-clause-edge
call_of-call-requires-clause-edge g c =
    let text = call_text (g.P.WalkForm.text c.args.form.now) (g.W.Relaxer.hierarchy c.args.walker.now) in
    let nodes = c.args.reached.nodes in
    let seconds = c.args.reached.seconds.now in
    let before = c.args.chain.now.links in
    let after = c.reverse_from-place.new.self.links in
    let rises = c.requires.ready.rises c.requires.unturned in
    let end = c.args.end in
    let a = g.K.Sink.state c.args.sink.now in
    let h = g.W.Relaxer.hierarchy c.args.walker.now in
    let place = c.links.place in
    let first = c.links.first in
    let b = g.K.Sink.state c.links.sink in
    let next = c.in-Some.next in
    let edge = c.in-Some.edge in
    let on = c.links.invariant.on in
    let link : link_at after place ≡ Some (next, edge) = search rules in
    let step = route_next h text nodes seconds before after end place first a b next edge rises c.requires.end
    c.requires.arriving on link in
    step.small

pub write_some-requires : goal.write_some-requires
write_some-requires g c =
    let text = call_text (g.P.WalkForm.text c.args.form.now) (g.W.Relaxer.hierarchy c.args.walker.now) in
    let nodes = c.args.reached.nodes in
    let seconds = c.args.reached.seconds.now in
    let before = c.args.chain.now.links in
    let after = c.reverse_from-place.new.self.links in
    let rises = c.requires.ready.rises c.requires.unturned in
    let end = c.args.end in
    let a = g.K.Sink.state c.args.sink.now in
    let h = g.W.Relaxer.hierarchy c.args.walker.now in
    let place = c.links.place in
    let first = c.links.first in
    let b = g.K.Sink.state c.links.sink in
    let next = c.in-Some.next in
    let edge = c.in-Some.edge in
    let on = c.links.invariant.on in
    let link : link_at after place ≡ Some (next, edge) = search rules in
    let step = route_next h text nodes seconds before after end place first a b next edge rises c.requires.end
    c.requires.arriving on link in
    let call = calls_of_some c.call_of-call.result in
    let arriving : AreArriving h call = subst (AreArriving h) (sym c.call_of-call.ensures) step.arriving in
    record { arriving = subst (λ (v : HierarchyValue). AreArriving v call) (sym c.links.invariant.stays) arriving }

pub returns-in_err-first-clause-wrote : goal.returns-in_err-first-clause-wrote
returns-in_err-first-clause-wrote g c =
    let text = call_text (g.P.WalkForm.text c.args.form.now) (g.W.Relaxer.hierarchy c.args.walker.now) in
    let nodes = c.args.reached.nodes in
    let seconds = c.args.reached.seconds.now in
    let before = c.args.chain.now.links in
    let after = c.reverse_from-place.new.self.links in
    let rises = c.requires.ready.rises c.requires.unturned in
    let end = c.args.end in
    let a = g.K.Sink.state c.args.sink.now in
    let h = g.W.Relaxer.hierarchy c.args.walker.now in
    let place = c.links.place in
    let first = c.links.first in
    let b = g.K.Sink.state c.links.sink in
    let next = c.in-Some.next in
    let edge = c.in-Some.edge in
    let on = c.links.invariant.on in
    let link : link_at after place ≡ Some (next, edge) = search rules in
    let fault = c.in_err-first.field-0.0 in
    let d = g.K.Sink.state c.write_some.new.sink in
    let call = c.call_of-call.result in
    let wrote = subst (λ (v : HierarchyValue). Wrote {T = Bool} {E = SinkFailed} b d (Err fault)
    (routed_text (call_text (g.P.WalkForm.text c.args.form.now) v) first (calls_of_some call)))
    c.links.invariant.stays c.in_err-first.ensures.wrote in
    route_stops text nodes seconds before after end place first a b d next edge call SinkFailed fault
    c.from_residual.result on link c.call_of-call.ensures wrote c.from_residual.ensures.0

pub links-smaller : goal.links-smaller
links-smaller g c =
    let text = call_text (g.P.WalkForm.text c.args.form.now) (g.W.Relaxer.hierarchy c.args.walker.now) in
    let nodes = c.args.reached.nodes in
    let seconds = c.args.reached.seconds.now in
    let before = c.args.chain.now.links in
    let after = c.reverse_from-place.new.self.links in
    let rises = c.requires.ready.rises c.requires.unturned in
    let end = c.args.end in
    let a = g.K.Sink.state c.args.sink.now in
    let h = g.W.Relaxer.hierarchy c.args.walker.now in
    let place = c.links.place in
    let first = c.links.first in
    let b = g.K.Sink.state c.links.sink in
    let next = c.in-Some.next in
    let edge = c.in-Some.edge in
    let on = c.links.invariant.on in
    let link : link_at after place ≡ Some (next, edge) = search rules in
    let step = route_next h text nodes seconds before after end place first a b next edge rises c.requires.end
    c.requires.arriving on link in
    omega (arith, step.up, step.few)

pub links-preserved : goal.links-preserved
links-preserved g c =
    let text = call_text (g.P.WalkForm.text c.args.form.now) (g.W.Relaxer.hierarchy c.args.walker.now) in
    let nodes = c.args.reached.nodes in
    let seconds = c.args.reached.seconds.now in
    let before = c.args.chain.now.links in
    let after = c.reverse_from-place.new.self.links in
    let rises = c.requires.ready.rises c.requires.unturned in
    let end = c.args.end in
    let a = g.K.Sink.state c.args.sink.now in
    let h = g.W.Relaxer.hierarchy c.args.walker.now in
    let place = c.links.place in
    let first = c.links.first in
    let b = g.K.Sink.state c.links.sink in
    let next = c.in-Some.next in
    let edge = c.in-Some.edge in
    let on = c.links.invariant.on in
    let link : link_at after place ≡ Some (next, edge) = search rules in
    let step = route_next h text nodes seconds before after end place first a b next edge rises c.requires.end
    c.requires.arriving on link in
    let d = g.K.Sink.state c.write_some.new.sink in
    let call = c.call_of-call.result in
    let still = c.in_ok-first.first in
    let wrote = subst (λ (v : HierarchyValue). Wrote {T = Bool} {E = SinkFailed} b d (Ok still)
    (routed_text (call_text (g.P.WalkForm.text c.args.form.now) v) first (calls_of_some call)))
    c.links.invariant.stays c.in_ok-first.ensures.wrote in
    record {
      stays = c.write_some.ensures.stays ∙ c.links.invariant.stays;
      quiet = c.write_some.ensures.quiet ∙ c.links.invariant.quiet;
      within = step.within;
      few = step.few;
      on = route_on text nodes seconds before after end place first a b d next edge call still SinkFailed
          on link c.call_of-call.ensures wrote c.in_ok-first.ensures.first;
    }

pub returns-clause-wrote : goal.returns-clause-wrote
returns-clause-wrote g c =
    let text = call_text (g.P.WalkForm.text c.args.form.now) (g.W.Relaxer.hierarchy c.args.walker.now) in
    let nodes = c.args.reached.nodes in
    let seconds = c.args.reached.seconds.now in
    let before = c.args.chain.now.links in
    let after = c.reverse_from-place.new.self.links in
    let rises = c.requires.ready.rises c.requires.unturned in
    let end = c.args.end in
    let a = g.K.Sink.state c.args.sink.now in
    let place = c.links.place in
    let b = g.K.Sink.state c.links.sink in
    let none : link_at after place ≡ None = sym c.follow.ensures ∙ c.in_default.is in
    wrote_ok (route_over text nodes seconds before after end place c.links.first a b c.links.invariant.on none)
