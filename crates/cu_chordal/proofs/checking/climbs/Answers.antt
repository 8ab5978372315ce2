use Rattle.cu_chordal.proofs.Checked.{climbing_all, no_climb, no_stamp_past}
use Rattle.cu_chordal.proofs.checking.climbs.Goals as goal
use Rattle.cu_chordal.proofs.checking.climbs.Goals.{then-upper-last-via-then-upper-last, then-upper-last-via-else-upper-last+then-upper-stamps}

pub returns-then-upper-last-clause-no : goal.returns-then-upper-last-clause-no
returns-then-upper-last-clause-no c = λ e climbs.
    elim c.then-upper-last.branch [
      | then-upper-last-via-then-upper-last w ↦
          no_climb c.args.rank c.loop-upper.upper-index c.loop-upper.last c.args.stamps.now c.args.part.now c.loop-upper-test.true c.loop-upper.invariant w.if-upper-last.true climbs
      | then-upper-last-via-else-upper-last+then-upper-stamps w ↦
          no_stamp_past c.args.rank c.loop-upper.upper-index c.args.stamps.now c.args.part.now c.loop-upper-test.true w.if-upper-stamps.true climbs
    ]

pub returns-clause-yes : goal.returns-clause-yes
returns-clause-yes c = λ e.
    climbing_all c.args.rank c.loop-upper.upper-index c.loop-upper.last c.args.stamps.now c.args.part.now c.loop-upper-test.false c.loop-upper.invariant
