use Rattle.std.proofs.Common.{◌-◌, arith}
use Rattle.cu_chordal.specs.Lists.{HoldGraph}
use Rattle.cu_chordal.proofs.Adopted.{counted, held_sound, held_table, lows_given}
use Rattle.cu_chordal.proofs.graph.Chordal.of_lists.Goals as goal

held : (c : goal.In_ok-lows) → HoldGraph c.args.starts.items c.args.uppers.items
held c = record {
  few_ranks = c.requires.few_ranks;
  few_edges = c.requires.few_edges;
  first = c.requires.first;
  starts_rise = c.requires.starts_rise;
  whole = c.requires.whole;
  parts_rise = c.requires.parts_rise;
  higher = c.requires.higher;
  joined = c.requires.joined;
}

pub of_table-requires-clause-table : goal.of_table-requires-clause-table
of_table-requires-clause-table c =
    held_table (c.len.result - 1) (record { lows = c.in_ok-lows.lows; starts = c.args.starts; highs = c.args.uppers })
    (counted c.args.starts.items c.len.result (omega (arith, c.len.ensures, c.args.starts.ok.0)) c.requires.first) (held c)
    (lows_given c.args.starts.items c.args.uppers.items _ _ c.in_ok-lows.lows.items c.deref.ensures.value c.deref-2.ensures.value c.in_ok-lows.ensures)

pub of_table-requires-clause-sound : goal.of_table-requires-clause-sound
of_table-requires-clause-sound c =
    held_sound (c.len.result - 1) (record { lows = c.in_ok-lows.lows; starts = c.args.starts; highs = c.args.uppers })
    (counted c.args.starts.items c.len.result (omega (arith, c.len.ensures, c.args.starts.ok.0)) c.requires.first) (held c)
    (lows_given c.args.starts.items c.args.uppers.items _ _ c.in_ok-lows.lows.items c.deref.ensures.value c.deref-2.ensures.value c.in_ok-lows.ensures)
