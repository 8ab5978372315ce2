use Rattle.std.proofs.Common.{◌≡◌, Some, None, arith}
use Rattle.std.specs.Prelude.{slice_set}
use Rattle.std.proofs.lemmas.List.{length-set}
use Rattle.cu_links.specs.Chains.{link_at}
use Rattle.cu_links.proofs.Links.{link_of}
use Rattle.cu_links.proofs.Turning.{turning_begin, turning_end, turning_lower, turning_relinks, turning_step, turning_within}
use Rattle.cu_links.proofs.chain.turn.Goals as goal

pub links-init : goal.links-init
links-init c = record { within = c.requires.place; turning = turning_begin c.args.links.now c.args.place c.requires.grounded }

pub links-smaller : goal.links-smaller
links-smaller c =
    let i = c.links.invariant in
    let at : link_at c.links.links c.links.place ≡ Some (c.in-Some.from, c.in-Some.label) = link_of c.links.links c.links.place _ i.within c.in-Some.is in
    let (u, less) = turning_step c.args.links.now c.links.links c.args.place c.links.place c.links.next c.in-Some.from c.in-Some.label i.turning i.within at in
    turning_lower c.args.links.now c.links.links (slice_set c.links.links c.links.place c.links.next) c.args.place c.links.place c.in-Some.from c.links.next
    (Some (c.links.place, c.in-Some.label)) i.turning u less

pub links-preserved : goal.links-preserved
links-preserved c =
    let i = c.links.invariant in
    let at : link_at c.links.links c.links.place ≡ Some (c.in-Some.from, c.in-Some.label) = link_of c.links.links c.links.place _ i.within c.in-Some.is in
    let (u, less) = turning_step c.args.links.now c.links.links c.args.place c.links.place c.links.next c.in-Some.from c.in-Some.label i.turning i.within at in
    let inside = turning_within c.args.links.now c.links.links c.args.place c.links.place c.links.next c.in-Some.from c.in-Some.label i.turning c.requires.within at in
    let long = length-set c.links.links c.links.place c.links.next in
    record { within = omega (arith, inside, long); turning = u }

pub returns-clause-chain : goal.returns-clause-chain
returns-clause-chain c =
    let i = c.links.invariant in
    let at : link_at c.links.links c.links.place ≡ None = link_of c.links.links c.links.place _ i.within c.in_default.is in
    turning_end c.args.links.now c.links.links c.args.place c.links.place c.links.next i.turning i.within at

pub returns-clause-linked : goal.returns-clause-linked
returns-clause-linked c = turning_relinks c.args.links.now c.links.links c.args.place c.links.place c.links.next c.links.invariant.turning
