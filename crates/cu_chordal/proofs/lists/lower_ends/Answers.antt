use Rattle.cu_chordal.proofs.Listed.{lists_laid, lows_more}
use Rattle.cu_chordal.proofs.lists.lower_ends.Goals as goal

pub loop-rank-preserved : goal.loop-rank-preserved
loop-rank-preserved c =
    let laid = lists_laid c.args.starts.now c.args.uppers.now c.args.ranks c.requires.long c.requires.first c.requires.starts_rise c.requires.whole in
    lows_more c.args.starts.now c.args.uppers.now c.loop-rank.rank _ c.loop-rank.lows.items c.resize.new.self.items
    (laid.laid c.loop-rank.rank c.loop-rank-test.true) c.loop-rank.invariant c.loop-rank.lows.ok.0 c.in_ok-resize.ensures.items
