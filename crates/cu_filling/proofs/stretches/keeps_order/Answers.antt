use Rattle.std.proofs.Common.{arith, ◌≡◌, ◌<◌, ◌+◌, ◌-◌, ◌∙◌, ℕ, ap, sym, length}
use Rattle.cu_arrival.specs.Runs.{arrival_value, arrives, rule_number}
use Rattle.cu_arrival.specs.declared.runs.Run.{Run}
use Rattle.cu_runs.proofs.DayLists.{two_packed}
use Rattle.cu_runs.proofs.TravelLaws.{begin_of, begin_read}
use Rattle.cu_filling.proofs.AddedRuns.{first_number, first_value, following_day, following_run, order_all, order_broken, order_more}
use Rattle.cu_filling.proofs.stretches.keeps_order.Goals as goal
use Rattle.cu_filling.proofs.stretches.keeps_order.Goals.{then-end-eq-END, else-end-eq-END}

pub overflow_add-following : goal.overflow_add-following
overflow_add-following c =
    let packed = c.args.packed.now in
    let two = two_packed packed c.requires.day in
    let read = c.index-packed-0.result in
    let small = c.requires.small 0 read (omega (arith, two)) in
    let same = ap (λ (r : Run). rule_number r.rule) c.index-packed-0.is in
    let number = first_number read.rule in
    omega (arith, small, same, number, c.arrives-first.ensures)

pub runs-preserved : goal.runs-preserved
runs-preserved c =
    let packed = c.args.packed.now in
    let inside : c.runs.index + 1 < length packed = omega (arith, c.runs-test.true) in
    let read = c.index-packed-index-in-runs.result in
    let next = c.index-packed-index.result in
    let at : begin_of packed (c.runs.index + 1) ≡ c.from-end.result = begin_read packed c.requires.day (c.runs.index + 1) next inside c.index-packed-index.is ∙ sym c.from-end.ensures.from in
    let two = two_packed packed c.requires.day in
    let first = first_value packed c.requires.day c.arrives-first.result c.index-packed-0.result c.index-packed-0.is two c.arrives-first.ensures in
    let following : c.if-end-eq-END.following ≡ arrival_value packed (begin_of packed (c.runs.index + 1)) =
    elim c.if-end-eq-END.branch [
      | then-end-eq-END w ↦ w.following-is ∙ following_day packed c.requires.day c.runs.index c.arrives-first.result c.from-end.result at w.if-end-eq-END.true first
      | else-end-eq-END w ↦ w.following-is ∙ w.arrives-following.ensures ∙ following_run packed c.requires.day c.runs.index c.from-end.result next inside c.index-packed-index.is at w.if-end-eq-END.false
    ] in
    record {
      inside = inside;
      order = order_more packed c.requires.day c.runs.index c.arrives-last.result c.if-end-eq-END.following read next inside c.index-packed-index-in-runs.is
          (c.arrives-last.ensures ∙ sym (ap (λ (n : ℕ). arrives read.rule (n - 1)) at)) following (omega (arith, c.if-last-following.false)) c.runs.invariant.order;
    }

pub returns-then-last-following-clause-not : goal.returns-then-last-following-clause-not
returns-then-last-following-clause-not c e order =
    let packed = c.args.packed.now in
    let inside : c.runs.index + 1 < length packed = omega (arith, c.runs-test.true) in
    let read = c.index-packed-index-in-runs.result in
    let next = c.index-packed-index.result in
    let at : begin_of packed (c.runs.index + 1) ≡ c.from-end.result = begin_read packed c.requires.day (c.runs.index + 1) next inside c.index-packed-index.is ∙ sym c.from-end.ensures.from in
    let two = two_packed packed c.requires.day in
    let first = first_value packed c.requires.day c.arrives-first.result c.index-packed-0.result c.index-packed-0.is two c.arrives-first.ensures in
    let following : c.if-end-eq-END.following ≡ arrival_value packed (begin_of packed (c.runs.index + 1)) =
    elim c.if-end-eq-END.branch [
      | then-end-eq-END w ↦ w.following-is ∙ following_day packed c.requires.day c.runs.index c.arrives-first.result c.from-end.result at w.if-end-eq-END.true first
      | else-end-eq-END w ↦ w.following-is ∙ w.arrives-following.ensures ∙ following_run packed c.requires.day c.runs.index c.from-end.result next inside c.index-packed-index.is at w.if-end-eq-END.false
    ] in
    order_broken packed c.requires.day c.runs.index c.arrives-last.result c.if-end-eq-END.following read inside c.index-packed-index-in-runs.is
    (c.arrives-last.ensures ∙ sym (ap (λ (n : ℕ). arrives read.rule (n - 1)) at)) following (omega (arith, c.if-last-following.true)) order

pub returns-clause-keeps : goal.returns-clause-keeps
returns-clause-keeps c e = order_all c.args.packed.now c.requires.day c.runs.index (omega (arith, c.runs.invariant.inside)) c.runs.invariant.order
