use Rattle.std.proofs.Common.{◌<◌, arith, get_or, length}
use Rattle.std.specs.Prelude.{All}
use Rattle.cu_chordal.proofs.Checked.{counted_fewer, stamps_added, stamps_all, stamps_seen}
use Rattle.cu_chordal.proofs.checking.stamp_all.Goals as goal
use Rattle.cu_chordal.proofs.checking.stamp_all.Goals.{then-stamps-candidate, else-stamps-candidate}

pub overflow_add-total : goal.overflow_add-total
overflow_add-total c =
    let before = c.loop-candidate.invariant c.requires.counted.0 c.requires.counted.1 in
    let inside = c.requires.in_range c.loop-candidate.candidate-index 0 c.loop-candidate-test.true in
    let few = counted_fewer c.args.rank c.loop-candidate.total (get_or c.args.candidates.now c.loop-candidate.candidate-index 0) c.loop-candidate.stamps before.0
    (omega (arith, inside, c.loop-candidate.auto.stamps)) c.if-stamps-candidate.true before.1 in
    omega (arith, few, c.requires.few, c.loop-candidate.auto.stamps)

pub loop-candidate-preserved : goal.loop-candidate-preserved
loop-candidate-preserved c =
    elim c.if-stamps-candidate.branch [
      | then-stamps-candidate w ↦
          let inside : All (λ y. y < length c.loop-candidate.stamps) c.args.candidates.now = λ k d h. omega (arith, c.requires.in_range k d h, c.loop-candidate.auto.stamps) in
          stamps_added c.args.rank c.loop-candidate.candidate-index c.args.count c.loop-candidate.total c.if-stamps-candidate.total c.args.candidates.now
          c.args.stamps.now c.loop-candidate.stamps c.if-stamps-candidate.stamps c.loop-candidate-test.true inside w.if-stamps-candidate.true
          c.loop-candidate.invariant w.stamps-is w.total-is
      | else-stamps-candidate w ↦
          stamps_seen c.args.rank c.loop-candidate.candidate-index c.args.count c.loop-candidate.total c.if-stamps-candidate.total c.args.candidates.now
          c.args.stamps.now c.loop-candidate.stamps c.if-stamps-candidate.stamps c.loop-candidate-test.true w.if-stamps-candidate.false
          c.loop-candidate.invariant w.stamps-is w.total-is
    ]

pub returns : goal.returns
returns c =
    stamps_all c.args.rank c.loop-candidate.candidate-index c.args.count c.loop-candidate.total c.args.candidates.now c.args.stamps.now c.loop-candidate.stamps
    c.loop-candidate-test.false c.loop-candidate.invariant
