use Rattle.std.proofs.Common.{◌≡◌, ◌∙◌, ◌++◌, ℕ, List, [], ◌∷◌, append_assoc, ap, sym}
use Rattle.std.proofs.lemmas.List.{append-nil}
use Rattle.std.specs.Prelude.{Err, Ok}
use Rattle.cu_io.proofs.Appending.{wrote_same}
use Rattle.cu_reach.specs.ReachTexts.{times_at, times_text}
use Rattle.cu_reach.proofs.Gathering.{gathered_fails, gathered_ok, gathered_same, gathered_then, gathered_wrote}
use Rattle.cu_reach.proofs.TimeLaws.{node_there, time_listed, times_more, times_whole}
use Rattle.cu_reach.proofs.writing.put_times.Goals as goal

pub nodes-preserved : goal.nodes-preserved
nodes-preserved g c =
    let h = g.W.Ways.hierarchy c.args.ways.now in
    let node = c.in-Some.node in
    let behind = c.next.new.self in
    let all : c.args.nodes ≡ c.nodes.yielded ++ (node ∷ behind) = c.nodes.invariant.whole ∙ ap (λ (xs : List ℕ). c.nodes.yielded ++ xs) c.in-Some.ensures.steps in
    record {
      whole = all ∙ sym (append_assoc c.nodes.yielded (node ∷ []) behind);
      gathered = λ from second holds.
          let is = time_listed h from second c.args.desk.now c.args.nodes node c.rank.result c.label.result holds (node_there c.args.nodes c.nodes.yielded behind node all) c.rank.ensures.there c.rank.ensures.range c.label.ensures in
          gathered_same (times_more h from second c.nodes.yielded node c.label.result is)
          (gathered_ok (gathered_then {r = Ok c.in_ok-put_time.field-0} (c.nodes.invariant.gathered from second holds) c.in_ok-put_time.ensures.gathered));
    }

pub returns-in_err-put_time : goal.returns-in_err-put_time
returns-in_err-put_time g c =
    let h = g.W.Ways.hierarchy c.args.ways.now in
    let node = c.in-Some.node in
    let behind = c.next.new.self in
    let all : c.args.nodes ≡ c.nodes.yielded ++ (node ∷ behind) = c.nodes.invariant.whole ∙ ap (λ (xs : List ℕ). c.nodes.yielded ++ xs) c.in-Some.ensures.steps in
    record {
      wrote = λ from second holds.
          let is = time_listed h from second c.args.desk.now c.args.nodes node c.rank.result c.label.result holds (node_there c.args.nodes c.nodes.yielded behind node all) c.rank.ensures.there c.rank.ensures.range c.label.ensures in
          let so_far = gathered_then {r = Err c.in_err-put_time.field-0.0} (c.nodes.invariant.gathered from second holds) c.in_err-put_time.ensures.gathered in
          wrote_same (times_whole h from second c.args.nodes c.nodes.yielded behind node c.label.result all is)
          (gathered_fails (times_text (times_at h from second behind)) c.from_residual.ensures.0 so_far);
    }

pub returns : goal.returns
returns g c =
    let h = g.W.Ways.hierarchy c.args.ways.now in
    let all : c.args.nodes ≡ c.nodes.yielded = c.nodes.invariant.whole ∙ ap (λ (xs : List ℕ). c.nodes.yielded ++ xs) c.in-None.ensures.steps.0 ∙ append-nil c.nodes.yielded in
    record {
      wrote = λ from second holds.
          let rest = rw c.text.ensures at c.put_all.ensures.wrote in
          wrote_same (ap (λ (nodes : List ℕ). times_text (times_at h from second nodes)) (sym all)) (gathered_wrote (c.nodes.invariant.gathered from second holds) rest);
    }
