use Rattle.cu_edits.specs.Together.{edits_of}
use Rattle.cu_edits.proofs.StateLaws.{parts_of}
use Rattle.cu_edits.proofs.edit_parts.EditParts.of.Goals as goal

pub invariant_of-result : goal.invariant_of-result
invariant_of-result g c =
    let h = g.W.Ways.hierarchy c.args.ways.now in
    let known = c.read_edits.ensures h.network c.requires.edits in (
      (
        parts_of h c.args.ground.graph.now (edits_of c.args.edits) c.args.ground.arcs.now c.requires.graph c.requires.arcs known.0 known.1,
        c.requires.customized,
      ),
      c.requires.edits,
      c.requires.bounds,
    )

pub returns-clause-fit : goal.returns-clause-fit
returns-clause-fit g c =
    let h = g.W.Ways.hierarchy c.args.ways.now in
    let known = c.read_edits.ensures h.network c.requires.edits in (
      parts_of h c.args.ground.graph.now (edits_of c.args.edits) c.args.ground.arcs.now c.requires.graph c.requires.arcs known.0 known.1,
      c.requires.customized,
    )
