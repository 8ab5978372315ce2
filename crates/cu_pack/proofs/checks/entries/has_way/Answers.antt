use Rattle.std.proofs.Common.{◌<◌, ℕ, suc, subst, sym, arith}
use Rattle.cu_interval.proofs.EndsLaws.{number_within}
use Rattle.cu_pack.specs.Reading.{counts_in, way_start}
use Rattle.cu_pack.proofs.Read.WayEntries.{number_inside, way_what, way_where}
use Rattle.cu_pack.proofs.checks.entries.has_way.Goals as goal

pub list_number-requires : goal.list_number-requires
list_number-requires c =
    let inside = number_inside c.args.sections.now c.requires.graph c.in-Some.edge c.args.ends c.in-Some.ensures.found in
    let limits = c.requires.graph.roads.joined.ordered.sized.limited.limits in
    omega (arith, inside, limits.edges)

pub has_entries-requires-clause-list : goal.has_entries-requires-clause-list
has_entries-requires-clause-list c =
    let bytes = c.args.sections.now in
    let inside = number_inside bytes c.requires.graph c.in-Some.edge c.args.ends c.in-Some.ensures.found in
    let within = number_within c.in-Some.edge (counts_in bytes).edges c.args.dir inside in
    omega (arith, within, c.list_number.ensures)

pub returns-in-Some : goal.returns-in-Some
returns-in-Some c =
    let bytes = c.args.sections.now in
    let more : ℕ → Type 0 = λ list. way_start bytes list < way_start bytes (suc list) in (
      λ h.
          way_where bytes c.requires.graph c.in-Some.edge c.args.dir c.args.ends c.requires.high c.in-Some.ensures.found (subst more c.list_number.ensures (c.has_entries.ensures.0 h)),
      λ has.
          c.has_entries.ensures.1 (subst more (sym c.list_number.ensures) (way_what bytes c.requires.graph c.in-Some.edge c.args.dir c.args.ends c.requires.high c.in-Some.ensures.found has)),
    )
