use Rattle.std.proofs.Common.{◌∙◌, not, length, ap, subst}
use Rattle.std.specs.List.{filter}
use Rattle.std.proofs.lemmas.List.{take_all}
use Rattle.std.proofs.lemmas.List.Elements.{filter_agree}
use Rattle.std.proofs.lemmas.List.Sums.{length-filter}
use Rattle.cu_dissect.specs.Dissection.{is_left, is_wide}
use Rattle.cu_dissect.specs.Steps.Keys.{IsLastLeft, is_upto}
use Rattle.cu_dissect.proofs.halving.halve.Goals as goal

pub returns-clause-left : goal.returns-clause-left
returns-clause-left c =
    let part = c.args.part.now in
    let wide = c.cuts_across_x-wide.result in
    let upto = is_upto c.args.places.now wide c.in_ok-last.last in
    let ends : IsLastLeft c.args.places.now (is_wide c.args.places.now part) part c.in_ok-last.last =
    subst (λ w. IsLastLeft c.args.places.now w part c.in_ok-last.last) c.cuts_across_x-wide.ensures c.in_ok-last.ensures in
    c.loop-node.invariant.left ∙ ap (filter upto) (take_all c.loop-node.node-index part c.loop-node-test.false)
    ∙ ap (λ w. filter (is_upto c.args.places.now w c.in_ok-last.last) part) c.cuts_across_x-wide.ensures
    ∙ filter_agree (is_upto c.args.places.now (is_wide c.args.places.now part) c.in_ok-last.last) (is_left c.args.places.now part) ends.tells part

pub returns-clause-rest : goal.returns-clause-rest
returns-clause-rest c =
    let part = c.args.part.now in
    let wide = c.cuts_across_x-wide.result in
    let upto = is_upto c.args.places.now wide c.in_ok-last.last in
    let ends : IsLastLeft c.args.places.now (is_wide c.args.places.now part) part c.in_ok-last.last =
    subst (λ w. IsLastLeft c.args.places.now w part c.in_ok-last.last) c.cuts_across_x-wide.ensures c.in_ok-last.ensures in
    c.loop-node.invariant.rest ∙ ap (filter (λ node. not (upto node))) (take_all c.loop-node.node-index part c.loop-node-test.false)
    ∙ ap (λ w. filter (λ node. not (is_upto c.args.places.now w c.in_ok-last.last node)) part) c.cuts_across_x-wide.ensures
    ∙ filter_agree (λ node. not (is_upto c.args.places.now (is_wide c.args.places.now part) c.in_ok-last.last node))
    (λ node. not (is_left c.args.places.now part node)) (λ node. ap not (ends.tells node)) part

pub returns-clause-half : goal.returns-clause-half
returns-clause-half c =
    let part = c.args.part.now in
    let upto = is_upto c.args.places.now c.cuts_across_x-wide.result c.in_ok-last.last in
    ap length (c.loop-node.invariant.left ∙ ap (filter upto) (take_all c.loop-node.node-index part c.loop-node-test.false)) ∙ length-filter upto part ∙ c.in_ok-last.ensures.half
