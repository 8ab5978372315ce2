use Rattle.cu_chordal.proofs.Adding.{before_none}
use Rattle.cu_chordal.proofs.closure.Closing.new.Goals as goal

pub returns : goal.returns
returns c =
    before_none c.args.ranks c.in_ok-new.field-0 (record { latest = c.in_ok-filled.field-0; before = c.in_ok-filled-2.field-0 })
    c.in_ok-filled-3.field-0.items c.in_ok-new.ensures.lows c.in_ok-new.ensures.highs c.in_ok-new.ensures.starts
    c.in_ok-filled.ensures c.in_ok-filled-2.ensures c.in_ok-filled-3.ensures
