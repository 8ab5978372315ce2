use Rattle.std.proofs.Common.{◌∙◌, ℕ, Some, ap, subst, sym}
use Rattle.cu_chordal.specs.declared.graph.Ends.{Ends}
use Rattle.cu_interval.specs.Shortcuts.{IsMiddle}
use Rattle.cu_pack.specs.Halves.{FinderValue}
use Rattle.cu_pack.specs.Reading.{decoded}
use Rattle.cu_pack.proofs.Read.EdgesRead.{edge_there}
use Rattle.cu_pack.proofs.Read.HalfEdges.{middle_inside}
use Rattle.cu_pack.proofs.halving.HalvesInFileHalving.halves.Goals as goal

pub low_from-low-requires-clause-edge : goal.low_from-low-requires-clause-edge
low_from-low-requires-clause-edge c =
    let middle = subst (λ (v : FinderValue). IsMiddle (decoded v.bytes) c.args.shortcut.edge c.args.shortcut.dir c.args.middle) (sym c.self.view_is)
    c.requires.middle in
    middle_inside c.self.inside.sections.now c.self.invariant.graph c.args.shortcut.edge c.args.shortcut.dir c.args.middle middle

pub upper-high-requires : goal.upper-high-requires
upper-high-requires c =
    let middle = subst (λ (v : FinderValue). IsMiddle (decoded v.bytes) c.args.shortcut.edge c.args.shortcut.dir c.args.middle) (sym c.self.view_is)
    c.requires.middle in
    record { edge = middle_inside c.self.inside.sections.now c.self.invariant.graph c.args.shortcut.edge c.args.shortcut.dir c.args.middle middle }

pub halves_by-requires-clause-ends : goal.halves_by-requires-clause-ends
halves_by-requires-clause-ends c =
    let bytes = c.self.inside.sections.now in
    let made : ℕ → Ends = λ high. record { low = c.low_from-low.result; high = high } in
    let found = c.low_from-low.ensures.low in
    edge_there bytes c.self.invariant.graph c.low_from-low.result found.inside c.args.shortcut.edge found.from found.until
    ∙ ap (λ high. Some (made high)) (sym c.upper-high.ensures.rank)
