use Rattle.std.proofs.Common.{arith, ◌≡◌, ◌<◌, ◌+◌, ◌∙◌, ℕ, ap, sym, subst, length, max, min}
use Rattle.cu_runs.proofs.DayLists.{two_packed}
use Rattle.cu_runs.proofs.TravelLaws.{begin_of, begin_read}
use Rattle.cu_filling.specs.Filling.{SaysUpTo}
use Rattle.cu_filling.proofs.AddedRuns.{reach_end, reach_more, reach_same, reach_start, same_rule}
use Rattle.cu_filling.proofs.stretches.add_runs.Goals as goal
use Rattle.cu_filling.proofs.stretches.add_runs.Goals.{then-start-end+in_ok-push_run, else-start-end}

pub runs-init : goal.runs-init
runs-init c = record {
  inside = let two = two_packed c.args.linked.now c.requires.day in omega (arith, two);
  says = λ f says agrees. subst (λ (n : ℕ). SaysUpTo f c.args.whole.now.items n) (sym (reach_start c.args.linked.now c.requires.day c.args.from c.args.until c.requires.some c.requires.in_day f agrees)) says;
}

pub runs-preserved : goal.runs-preserved
runs-preserved c =
    let linked = c.args.linked.now in
    let i = c.runs.index in
    let inside : i + 1 < length linked = omega (arith, c.runs-test.true) in
    let read = c.index-linked-index.result in
    let next = c.index-linked-index-in-runs.result in
    let here : begin_of linked i ≡ c.from.result = begin_read linked c.requires.day i read (omega (arith, inside)) c.index-linked-index.is ∙ sym c.from.ensures.from in
    let there : begin_of linked (i + 1) ≡ c.from-in-runs.result = begin_read linked c.requires.day (i + 1) next inside c.index-linked-index-in-runs.is ∙ sym c.from-in-runs.ensures.from in
    let start : c.max-start.result ≡ max (begin_of linked i) c.args.from = c.max-start.ensures ∙ ap (λ (n : ℕ). max n c.args.from) (sym here) in
    let end : c.min-end.result ≡ min (begin_of linked (i + 1)) c.args.until = c.min-end.ensures ∙ ap (λ (n : ℕ). min n c.args.until) (sym there) in
    record {
      inside = inside;
      says = λ f says agrees.
          let before = c.runs.invariant.says f says agrees in
          elim c.if-start-end.branch [
            | then-start-end+in_ok-push_run w ↦
                let rule = w.of.ensures.rule ∙ same_rule read.rule w.is_fixed.result w.number.result w.is_fixed.ensures w.number.ensures.number in
                let more = reach_more linked c.requires.day c.args.from c.args.until c.requires.some c.requires.in_day f agrees c.runs.whole.items w.push_run.new.list.items i c.max-start.result c.min-end.result read w.of.result
                inside c.index-linked-index.is start end w.if-start-end.true w.of.ensures.from rule w.in_ok-push_run.ensures before in
                rw w.whole-is more
            | else-start-end w ↦
                let still = reach_same linked c.requires.day c.args.from c.args.until c.requires.some c.requires.in_day f agrees c.runs.whole.items i c.max-start.result c.min-end.result
                inside start end w.if-start-end.false before in
                rw w.whole-is still
          ];
    }

pub returns : goal.returns
returns c f says agrees =
    subst (λ (n : ℕ). SaysUpTo f c.runs.whole.items n) (reach_end c.args.linked.now c.requires.day c.args.from c.args.until c.requires.some c.requires.in_day f agrees c.runs.index (omega (arith, c.runs.invariant.inside)))
    (c.runs.invariant.says f says agrees)
