use Rattle.cu_interval.specs.declared.ways.Dir.TheVariants.{Down}
use Rattle.cu_edits.specs.Steps.Moving.{IsUnmoved}
use Rattle.cu_edits.proofs.AtHand.{told_of}
use Rattle.cu_edits.proofs.BothHalves.{halves_are}
use Rattle.cu_edits.proofs.unchanged_lists.is_middle_unmoved.Goals as goal

pub are_both_unmoved-requires : goal.are_both_unmoved-requires
are_both_unmoved-requires g c =
    let moved = c.args.moved.now in
    let edges = c.args.parts.now.graph.edges in (
      told_of moved edges c.in-Some.first _ Down c.requires.moved c.in-Some.ensures.found.to,
      told_of moved edges c.in-Some.second _ Down c.requires.moved c.in-Some.ensures.found.on,
    )

pub returns-in-Some : goal.returns-in-Some
returns-in-Some g c is =
    let both = c.are_both_unmoved.ensures is in
    halves_are (IsUnmoved c.args.moved.now) c.args.parts.now.graph.edges c.in-Some.ensures.sound.rising c.args.ends c.args.dir c.args.middle c.in-Some.first c.in-Some.second
    c.in-Some.ensures.found both.0 both.1
