use Rattle.std.proofs.Common.{◌-◌, ◌∙◌, arith, rules, sym}
use Rattle.cu_reach.proofs.LatestLaws.{earlier_late, found_in_time, found_too_late, later_early, latest_found}
use Rattle.cu_reach.proofs.Queries.{one_more}
use Rattle.cu_reach.proofs.SearchLaws.{searched_done, searched_early, searched_late, searched_long}
use Rattle.cu_reach.proofs.departures.search.Goals as goal
use Rattle.cu_reach.proofs.departures.search.Goals.{in-NoWalk, in-Arrive+then-answer-by, in-Arrive+else-answer-by}

pub returns-in-Long-clause-told : goal.returns-in-Long-clause-told
returns-in-Long-clause-told g c =
    one_more _ _ _ _ _ (18 - c.seconds.left) 18 _ _ _ c.seconds.invariant.2 c.seconds.invariant.1 c.query.ensures.told
    (omega (arith, c.next_second-second.ensures.some, c.seconds.invariant.0.few))

pub seconds-preserved : goal.seconds-preserved
seconds-preserved g c =
    let s = c.seconds.invariant.0 in
    let next = c.next_second-second.ensures in
    let same = c.seconds.invariant.2 in
    let told = one_more _ _ _ _ _ (18 - c.seconds.left) (18 - (c.seconds.left - 1)) _ _ _ same c.seconds.invariant.1 c.query.ensures.told
    (omega (arith, next.some, s.few)) in (
      elim c.match-query.branch [
        | in-NoWalk w ↦ rw (w.early-is, w.arrival-is, w.late-is)
            (earlier_late _ _ _ _ _ _ _ s (found_too_late _ _ _ _ _ same c.query.ensures.least (rw w.in-NoWalk.is tt)) next.after next.before next.low)
        | in-Arrive+then-answer-by w ↦ rw (w.early-is, w.arrival-is, w.late-is)
            (later_early _ _ _ _ _ _ _ _ s (found_in_time _ _ _ _ _ _ same c.query.ensures.found c.query.ensures.least w.in-Arrive.is w.if-answer-by.true) next.before next.high)
        | in-Arrive+else-answer-by w ↦ rw (w.early-is, w.arrival-is, w.late-is)
            (earlier_late _ _ _ _ _ _ _ s (found_too_late _ _ _ _ _ same c.query.ensures.least (rw w.in-Arrive.is (omega (arith, w.if-answer-by.false)))) next.after next.before next.low)
      ],
      told,
      search rules,
      search rules,
      elim c.match-query.branch [
        | in-NoWalk w ↦ rw (w.early-is, w.arrival-is, w.late-is)
            (sym (searched_late _ _ _ _ _ _ _ _ _ next.some (omega (arith, c.seconds-test.true)) next.next _ same _ c.query.ensures.found (rw w.in-NoWalk.is tt)) ∙ c.seconds.invariant.4)
        | in-Arrive+then-answer-by w ↦ rw (w.early-is, w.arrival-is, w.late-is)
            (sym (searched_early _ _ _ _ _ _ _ _ _ next.some (omega (arith, c.seconds-test.true)) next.next _ same _ _ c.query.ensures.found w.in-Arrive.is w.if-answer-by.true) ∙ c.seconds.invariant.4)
        | in-Arrive+else-answer-by w ↦ rw (w.early-is, w.arrival-is, w.late-is)
            (sym (searched_late _ _ _ _ _ _ _ _ _ next.some (omega (arith, c.seconds-test.true)) next.next _ same _ c.query.ensures.found (rw w.in-Arrive.is (omega (arith, w.if-answer-by.false)))) ∙ c.seconds.invariant.4)
      ],
    )

pub returns-clause-latest : goal.returns-clause-latest
returns-clause-latest g c =
    let s = c.seconds.invariant.0 in
    latest_found _ _ _ _ c.seconds.late s.in_time (omega (arith, s.between, s.day)) (omega (arith, s.between, c.seconds-test.false)) s.too_late

pub returns-in-Long-clause-search : goal.returns-in-Long-clause-search
returns-in-Long-clause-search g c =
    let next = c.next_second-second.ensures in
    sym (searched_long _ _ _ _ _ _ _ _ _ next.some (omega (arith, c.seconds-test.true)) next.next _ c.seconds.invariant.2 _ _ _ _ c.query.ensures.found c.in-Long.is) ∙ c.seconds.invariant.4

pub returns-clause-search : goal.returns-clause-search
returns-clause-search g c =
    sym (searched_done _ _ _ _ c.seconds.left c.seconds.early c.seconds.arrival c.seconds.late (omega (arith, c.seconds.invariant.0.between, c.seconds-test.false))) ∙ c.seconds.invariant.4
