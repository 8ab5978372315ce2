use Rattle.cu_io.proofs.Appending.{wrote_stops, wrote_then}
use Rattle.cu_reach.specs.ReachTexts.{times_at, times_text}
use Rattle.std.specs.List.{range_with_len}
use Rattle.cu_reach.proofs.writing.put_done.Goals as goal

pub returns-in_err-put_all : goal.returns-in_err-put_all
returns-in_err-put_all g c = record {
  wrote = λ from second holds.
      let h = g.W.Ways.hierarchy c.args.ways.now in
      wrote_stops (times_text (times_at h from second (range_with_len 0 h.network.nodes))) c.from_residual.ensures.0 c.in_err-put_all.ensures.wrote;
}

pub returns : goal.returns
returns g c = record { wrote = λ from second holds. wrote_then c.in_ok-put_all.ensures.wrote (c.put_all_times.ensures.wrote from second holds) }
