use Rattle.std.proofs.Common.{◌≡◌, ◌+◌, ◌-◌, ◌∙◌, ℕ, List, arith, ap, sym}
use Rattle.std.specs.List.{range_with_len}
use Rattle.std.specs.Prelude.{Err, Ok}
use Rattle.cu_io.proofs.Appending.{wrote_same}
use Rattle.cu_reach.specs.ReachTexts.{times_at, times_text}
use Rattle.cu_reach.proofs.Gathering.{gathered_fails, gathered_ok, gathered_same, gathered_then, gathered_wrote}
use Rattle.cu_reach.proofs.TimeLaws.{range_at, range_more, time_known, times_more, times_whole}
use Rattle.cu_reach.proofs.writing.put_all_times.Goals as goal

pub nodes-preserved : goal.nodes-preserved
nodes-preserved g c = λ from second holds.
    let h = g.W.Ways.hierarchy c.args.ways.now in
    let node = c.nodes.node in
    let is = time_known h from second c.args.desk.now node c.rank.result c.label.result holds c.rank.ensures.there c.rank.ensures.range c.label.ensures in
    gathered_same (times_more h from second (range_with_len 0 node) node c.label.result is ∙ ap (λ (nodes : List ℕ). times_text (times_at h from second nodes)) (sym (range_more node)))
    (gathered_ok (gathered_then {r = Ok c.in_ok-put_time.field-0} (c.nodes.invariant from second holds) c.in_ok-put_time.ensures.gathered))

pub returns-in_err-put_time : goal.returns-in_err-put_time
returns-in_err-put_time g c = record {
  wrote = λ from second holds.
      let h = g.W.Ways.hierarchy c.args.ways.now in
      let node = c.nodes.node in
      let all = range_at h.network.nodes node (omega (arith, c.ranks-node-end.ensures.count, c.nodes-test.true)) in
      let is = time_known h from second c.args.desk.now node c.rank.result c.label.result holds c.rank.ensures.there c.rank.ensures.range c.label.ensures in
      let so_far = gathered_then {r = Err c.in_err-put_time.field-0.0} (c.nodes.invariant from second holds) c.in_err-put_time.ensures.gathered in
      wrote_same (times_whole h from second (range_with_len 0 h.network.nodes) (range_with_len 0 node) (range_with_len (node + 1) (h.network.nodes - (node + 1))) node c.label.result all is)
      (gathered_fails (times_text (times_at h from second (range_with_len (node + 1) (h.network.nodes - (node + 1))))) c.from_residual.ensures.0 so_far);
}

pub returns : goal.returns
returns g c = record {
  wrote = λ from second holds.
      let h = g.W.Ways.hierarchy c.args.ways.now in
      let all : c.nodes.node ≡ h.network.nodes = omega (arith, c.ranks-node-end.ensures.count, c.nodes-test.false, c.nodes.auto.node-end) in
      let rest = rw c.text.ensures at c.put_all.ensures.wrote in
      wrote_same (ap (λ (count : ℕ). times_text (times_at h from second (range_with_len 0 count))) all) (gathered_wrote (c.nodes.invariant from second holds) rest);
}
