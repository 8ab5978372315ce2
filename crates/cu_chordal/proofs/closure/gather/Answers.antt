use Rattle.std.proofs.Common.{◌≡◌, arith, get_or, [], ◌∷◌, ◌++◌, refl}
use Rattle.std.proofs.lemmas.Slice.{pushed}
use Rattle.cu_chordal.proofs.Gathering.{gathering_added, gathering_seen, gathering_full}
use Rattle.cu_chordal.proofs.closure.gather.Goals as goal
use Rattle.cu_chordal.proofs.closure.gather.Goals.{then-stamps-candidate+else-len-room+in_ok-push, else-stamps-candidate}

pub returns-then-len-room-clause-too_many : goal.returns-then-len-room-clause-too_many
returns-then-len-room-clause-too_many c = λ e.
    gathering_full c.args.rank c.args.room c.loop-candidate.candidate-index c.args.candidates.now c.loop-candidate.stamps c.args.part.now.items c.loop-candidate.part.items c.loop-candidate-test.true
    (λ k d h. omega (arith, c.requires.in_range k d h, c.loop-candidate.auto.stamps)) c.if-stamps-candidate.true c.loop-candidate.invariant (omega (arith, c.loop-candidate.part.ok.0))

pub loop-candidate-preserved : goal.loop-candidate-preserved
loop-candidate-preserved c =
    elim c.if-stamps-candidate.branch [
      | then-stamps-candidate+else-len-room+in_ok-push w ↦
          let same : c.loop-candidate.part.items ≡ c.loop-candidate.part.items = refl in
          let grown : w.push.new.self.items ≡ c.loop-candidate.part.items ++ (get_or c.args.candidates.now c.loop-candidate.candidate-index 0 ∷ []) =
          pushed (get_or c.args.candidates.now c.loop-candidate.candidate-index 0 ∷ []) same w.in_ok-push.was w.push.ensures.items in
          gathering_added c.args.rank c.args.room c.loop-candidate.candidate-index c.args.candidates.now c.loop-candidate.stamps
          c.if-stamps-candidate.stamps c.args.part.now.items c.loop-candidate.part.items c.if-stamps-candidate.part.items
          c.loop-candidate-test.true (λ k d h. omega (arith, c.requires.in_range k d h, c.loop-candidate.auto.stamps)) w.if-stamps-candidate.true
          c.loop-candidate.invariant (omega (arith, w.if-len-room.false, c.loop-candidate.part.ok.0)) (cc) w.stamps-is
      | else-stamps-candidate w ↦
          gathering_seen c.args.rank c.args.room c.loop-candidate.candidate-index c.args.candidates.now c.loop-candidate.stamps
          c.if-stamps-candidate.stamps c.args.part.now.items c.loop-candidate.part.items c.if-stamps-candidate.part.items
          c.loop-candidate-test.true w.if-stamps-candidate.false c.loop-candidate.invariant (cc) w.stamps-is
    ]
