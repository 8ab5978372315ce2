use Rattle.std.proofs.Common.{◌-◌, ◌∙◌, Some, ap, arith, sym}
use Rattle.std.proofs.lemmas.Option.{slice_get-get_or}
use Rattle.cu_interval.specs.declared.ways.TouchedEdge.{TouchedEdge}
use Rattle.cu_bounds.proofs.Renewed.{edges_rise}
use Rattle.cu_pack.proofs.Rewrites.EditedLists.{in_order, last_more, untouched_last, untouched_none}
use Rattle.cu_pack.proofs.edited_ways.find_list.Goals as goal

pub count_up_to-count-requires : goal.count_up_to-count-requires
count_up_to-count-requires c = in_order c.args.lists.now c.requires.rising

pub returns-then-count-eq0-clause-none : goal.returns-then-count-eq0-clause-none
returns-then-count-eq0-clause-none c = untouched_none c.args.lists.now c.args.edge c.count_up_to-count.result c.count_up_to-count.ensures.point (omega arith)

pub returns-then-touched-edge-clause-none : goal.returns-then-touched-edge-clause-none
returns-then-touched-edge-clause-none c =
    let lists = c.args.lists.now in
    let count = c.count_up_to-count.result in
    let next = last_more count c.if-count-eq0.false in
    let at = slice_get-get_or lists (count - 1) _ (omega (arith, next, c.count_up_to-count.ensures.bound)) ∙ ap (λ (t : TouchedEdge). Some t) (sym c.index-lists-count.is) in
    untouched_last lists c.args.edge count c.count_up_to-count.ensures.point (edges_rise lists c.requires.rising) (count - 1) c.index-lists-count.result next at c.if-touched-edge.true

pub returns-clause-found : goal.returns-clause-found
returns-clause-found c =
    let lists = c.args.lists.now in
    let count = c.count_up_to-count.result in
    let next = last_more count c.if-count-eq0.false in
    let at = slice_get-get_or lists (count - 1) _ (omega (arith, next, c.count_up_to-count.ensures.bound)) ∙ ap (λ (t : TouchedEdge). Some t) (sym c.index-lists-count.is) in
    record { place = count - 1; touched = c.index-lists-count.result; there = at; same = c.if-touched-edge.false; list = c.list_of.ensures }
