use Rattle.std.proofs.Common.{ℕ, ap, subst, sym, arith}
use Rattle.cu_interval.proofs.EndsLaws.{number_within}
use Rattle.cu_pack.specs.declared.layout.Counts.{Counts}
use Rattle.cu_pack.specs.Reading.{counts_in}
use Rattle.cu_pack.specs.Steps.Cursors.{AreCursors}
use Rattle.cu_pack.proofs.Numbering.Cursors.{cursors_more, lesser_end}
use Rattle.cu_pack.proofs.Read.WayEntries.{ends_inside, entries_decided, number_inside, start_inside}
use Rattle.cu_pack.proofs.checks.ways.are_entries_wrong.Goals as goal

pub list_number-list-requires : goal.list_number-list-requires
list_number-list-requires c =
    let inside = number_inside c.args.sections.now c.requires.graph c.args.edge c.args.ends c.requires.ends in
    let limits = c.requires.graph.roads.joined.ordered.sized.limited.limits in
    omega (arith, inside, limits.edges)

pub way_start-start-requires : goal.way_start-start-requires
way_start-start-requires c =
    let bytes = c.args.sections.now in
    let inside = number_inside bytes c.requires.graph c.args.edge c.args.ends c.requires.ends in
    let within = number_within c.args.edge (counts_in bytes).edges c.args.dir inside in
    record { list = omega (arith, within, c.list_number-list.ensures) }

pub overflow_add-list : goal.overflow_add-list
overflow_add-list c =
    let bytes = c.args.sections.now in
    let inside = number_inside bytes c.requires.graph c.args.edge c.args.ends c.requires.ends in
    let within = number_within c.args.edge (counts_in bytes).edges c.args.dir inside in
    let limits = c.requires.graph.roads.joined.ordered.sized.limited.limits in
    omega (arith, within, c.list_number-list.ensures, limits.edges)

pub way_start-end-requires : goal.way_start-end-requires
way_start-end-requires c =
    let bytes = c.args.sections.now in
    let inside = number_inside bytes c.requires.graph c.args.edge c.args.ends c.requires.ends in
    let within = number_within c.args.edge (counts_in bytes).edges c.args.dir inside in
    record { list = omega (arith, within, c.list_number-list.ensures) }

pub has_wrong_entry-requires-clause-from : goal.has_wrong_entry-requires-clause-from
has_wrong_entry-requires-clause-from c =
    let inside = start_inside c.args.sections.now c.requires.graph c.args.edge c.args.ends c.args.dir c.requires.ends in
    omega (arith, inside, c.leg_of-leg.ensures.from)

pub has_wrong_entry-requires-clause-places : goal.has_wrong_entry-requires-clause-places
has_wrong_entry-requires-clause-places c =
    let bytes = c.args.sections.now in
    let inside = ends_inside bytes c.requires.graph c.args.edge c.args.ends c.requires.ends in
    subst (λ (k : ℕ). AreCursors bytes k c.args.places.now)
    (sym (lesser_end c.args.ends c.args.dir c.leg_of-leg.result.from c.leg_of-leg.result.to inside.0 c.leg_of-leg.ensures.from c.leg_of-leg.ensures.to)) c.requires.places

pub returns-clause-wrong : goal.returns-clause-wrong
returns-clause-wrong c =
    let entries = ap (λ (counts : Counts). counts.entries) c.counts.ensures.counts in
    let within = c.if-end-counts.false in
    entries_decided c.args.sections.now c.args.edge c.args.dir c.args.ends c.list_number-list.result c.way_start-start.result c.way_start-end.result c.leg_of-leg.result.from
    c.leg_of-leg.result.to c.has_wrong_entry.result c.requires.ends c.list_number-list.ensures c.way_start-start.ensures.start c.way_start-end.ensures.start c.leg_of-leg.ensures.from
    c.leg_of-leg.ensures.to c.if-end-start.false (omega (arith, within, entries)) c.has_wrong_entry.ensures.wrong

pub returns-clause-places : goal.returns-clause-places
returns-clause-places c =
    let bytes = c.args.sections.now in
    let inside = ends_inside bytes c.requires.graph c.args.edge c.args.ends c.requires.ends in
    let lesser = lesser_end c.args.ends c.args.dir c.leg_of-leg.result.from c.leg_of-leg.result.to inside.0 c.leg_of-leg.ensures.from c.leg_of-leg.ensures.to in
    cursors_more bytes _ c.args.ends.low _ (omega (arith, lesser)) c.has_wrong_entry.ensures.places
