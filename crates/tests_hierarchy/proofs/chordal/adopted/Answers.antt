use Rattle.std.proofs.Common.{List, None, Option, subst, ℕ}
use Rattle.cu_model.specs.Networks.{NetworkValue}
use Rattle.cu_chordal.specs.Lists.{HoldGraph}
use Rattle.cu_chordal.specs.WrongParts.{IsFirstWrong}
use Rattle.cu_chordal.proofs.Claims.{adopted}
use Rattle.tests_hierarchy.proofs.chordal.adopted.Given.{Over}
use Rattle.tests_hierarchy.proofs.chordal.adopted.Goals as goal

held : (g : Over) (c : goal.In-None g) → HoldGraph c.args.starts.items c.args.uppers.items
held g c =
    let net : NetworkValue = (g.N.Roads.network c.args.roads.now) in
    let given = subst (λ (found : Option ℕ). IsFirstWrong net c.args.order.now c.deref.result.now c.deref-2.result.now found) c.in-None.is c.in_ok-part.ensures in
    let none : IsFirstWrong net c.args.order.now c.args.starts.items c.args.uppers.items None =
    subst (λ (xs : List ℕ). IsFirstWrong net c.args.order.now xs c.args.uppers.items None) c.deref.ensures.value
    (subst (λ (xs : List ℕ). IsFirstWrong net c.args.order.now c.deref.result.now xs None) c.deref-2.ensures.value given) in
    (adopted net c.args.order.now c.args.starts.items c.args.uppers.items c.nodes-ranks.ensures.sound c.requires.same c.requires.starts c.requires.few none).held

pub of_lists-requires-clause-few_ranks : goal.of_lists-requires-clause-few_ranks
of_lists-requires-clause-few_ranks g c = (held g c).few_ranks

pub of_lists-requires-clause-first : goal.of_lists-requires-clause-first
of_lists-requires-clause-first g c = (held g c).first

pub of_lists-requires-clause-starts_rise : goal.of_lists-requires-clause-starts_rise
of_lists-requires-clause-starts_rise g c = (held g c).starts_rise

pub of_lists-requires-clause-whole : goal.of_lists-requires-clause-whole
of_lists-requires-clause-whole g c = (held g c).whole

pub of_lists-requires-clause-parts_rise : goal.of_lists-requires-clause-parts_rise
of_lists-requires-clause-parts_rise g c = (held g c).parts_rise

pub of_lists-requires-clause-higher : goal.of_lists-requires-clause-higher
of_lists-requires-clause-higher g c = (held g c).higher

pub of_lists-requires-clause-joined : goal.of_lists-requires-clause-joined
of_lists-requires-clause-joined g c = (held g c).joined
