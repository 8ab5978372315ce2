use Rattle.std.proofs.Common.{◌≡◌, None, arith, rules}
use Rattle.cu_unpack.proofs.HalfEdges.{all_there, entry_way, more_there}
use Rattle.cu_unpack.proofs.missing.missing_half.Goals as goal

pub missing_half_of-half-requires-clause-way : goal.missing_half_of-half-requires-clause-way
missing_half_of-half-requires-clause-way g c =
    entry_way (g.W.Ways.hierarchy c.args.ways.now) c.entry-entry.ensures.sound c.args.shortcut c.requires.edge c.loop-index.index c.entry-entry.result c.entry-entry.ensures.there

pub loop-index-preserved : goal.loop-index-preserved
loop-index-preserved g c =
    let none : c.missing_half_of-half.result ≡ None = search rules in
    more_there (g.W.Ways.hierarchy c.args.ways.now) (g.K.Known.knows c.args.known.now) c.args.shortcut c.loop-index.index c.entry-entry.result c.missing_half_of-half.result
    c.entry-entry.ensures.there none c.missing_half_of-half.ensures.missing c.loop-index.invariant

pub returns : goal.returns
returns g c = record {
  missing = all_there (g.W.Ways.hierarchy c.args.ways.now) (g.K.Known.knows c.args.known.now) c.args.shortcut c.loop-index.index
      (omega (arith, c.loop-index-test.false, c.entries-index-end.ensures.count)) c.loop-index.invariant;
}
