use Rattle.std.proofs.Common.{sym, subst}
use Rattle.cu_edits.specs.Steps.Moving.{KeepsMore}
use Rattle.cu_edits.proofs.LearntSides.{on_err}
use Rattle.cu_edits.proofs.Placing.{keeping_more, more_none}
use Rattle.cu_edits.proofs.settling_packed.keep_both.Goals as goal

pub returns-in_err-upwards-clause-more : goal.returns-in_err-upwards-clause-more
returns-in_err-upwards-clause-more c = on_err _ (more_none c.args.moved.now c.keep.new.self c.in_err-upwards.ensures.same)

pub returns-in_err-downwards-clause-more : goal.returns-in_err-downwards-clause-more
returns-in_err-downwards-clause-more c =
    on_err _ (subst (KeepsMore c.args.moved.now) (sym c.in_err-downwards.ensures.same)
    (keeping_more c.args.moved.now c.keep.new.self c.args.up c.in_ok-upwards.upwards c.in_ok-upwards.ensures.kept))

pub returns-clause-kept : goal.returns-clause-kept
returns-clause-kept c = record { mid = c.keep.new.self; upper = c.in_ok-upwards.ensures.kept; lower = c.in_ok-downwards.ensures.kept }
