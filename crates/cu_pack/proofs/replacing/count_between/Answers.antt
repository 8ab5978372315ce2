use Rattle.std.proofs.Common.{length, arith}
use Rattle.std.proofs.lemmas.List.Sums.{sum_by-take-le}
use Rattle.cu_pack.proofs.Numbering.Stretches.{total_on}
use Rattle.cu_pack.proofs.Numbering.Totals.{entries_in_limit}
use Rattle.cu_pack.proofs.replacing.count_between.Goals as goal

pub overflow_sub-result : goal.overflow_sub-result
overflow_sub-result c = let on = total_on c.args.view.now.lists c.args.first c.args.end c.requires.order in omega (arith, on, c.way_start.ensures.start, c.way_start-2.ensures.start)

pub returns-clause-count : goal.returns-clause-count
returns-clause-count c = let on = total_on c.args.view.now.lists c.args.first c.args.end c.requires.order in omega (arith, on, c.way_start.ensures.start, c.way_start-2.ensures.start)

pub returns-clause-few : goal.returns-clause-few
returns-clause-few c =
    let h = c.args.view.now in
    let most = sum_by-take-le length h.lists c.args.end in
    let limit = entries_in_limit h c.way_start.ensures.sound in
    omega (arith, most, limit, c.way_start.ensures.start)
