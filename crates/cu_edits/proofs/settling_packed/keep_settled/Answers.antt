use Rattle.std.proofs.Common.{◌∷◌, ◌++◌, ◌∙◌, [], ap, arith, length, refl}
use Rattle.cu_interval.specs.declared.ways.TouchedEdge.{TouchedEdge}
use Rattle.cu_edits.proofs.LearntSides.{on_err}
use Rattle.cu_edits.proofs.Placing.{both_apart, both_more, both_own, lower_inside, more_none, upper_inside}
use Rattle.cu_edits.proofs.settling_packed.keep_settled.Goals as goal

pub place-requires-clause-edge : goal.place-requires-clause-edge
place-requires-clause-edge c =
    let same = (both_more c.args.moved.now c.keep_both.new.moved c.args.up c.args.down c.in_ok-upwards.upwards c.in_ok-upwards.downwards c.in_ok-upwards.ensures.kept).places in
    let long = ap length same in
    let within = c.requires.edge in omega (arith, long, within)

pub place-requires-clause-up : goal.place-requires-clause-up
place-requires-clause-up c = upper_inside c.args.moved.now c.keep_both.new.moved c.args.up c.args.down c.in_ok-upwards.upwards c.in_ok-upwards.downwards c.in_ok-upwards.ensures.kept

pub place-requires-clause-down : goal.place-requires-clause-down
place-requires-clause-down c = lower_inside c.args.moved.now c.keep_both.new.moved c.args.up c.args.down c.in_ok-upwards.upwards c.in_ok-upwards.downwards c.in_ok-upwards.ensures.kept

pub place-requires-clause-own : goal.place-requires-clause-own
place-requires-clause-own c =
    both_own c.args.moved.now c.keep_both.new.moved c.args.up c.args.down c.in_ok-upwards.upwards c.in_ok-upwards.downwards c.in_ok-upwards.ensures.kept c.requires.inside

pub place-requires-clause-apart : goal.place-requires-clause-apart
place-requires-clause-apart c = both_apart c.args.moved.now c.keep_both.new.moved c.args.up c.args.down c.in_ok-upwards.upwards c.in_ok-upwards.downwards c.in_ok-upwards.ensures.kept

pub returns-in_err-copy-clause-more : goal.returns-in_err-copy-clause-more
returns-in_err-copy-clause-more c = on_err _ (more_none c.args.moved.now c.args.moved.now refl)

pub returns-in_err-upwards-clause-more : goal.returns-in_err-upwards-clause-more
returns-in_err-upwards-clause-more c = on_err _ c.in_err-upwards.ensures.more

pub returns-in_err-push-clause-kept : goal.returns-in_err-push-clause-kept
returns-in_err-push-clause-kept c = on_err _ c.in_err-push.ensures.items

pub returns-in_err-push-clause-more : goal.returns-in_err-push-clause-more
returns-in_err-push-clause-more c =
    on_err _ (both_more c.args.moved.now c.keep_both.new.moved c.args.up c.args.down c.in_ok-upwards.upwards c.in_ok-upwards.downwards c.in_ok-upwards.ensures.kept)

pub returns-clause-settled : goal.returns-clause-settled
returns-clause-settled c = c.in_ok-push.ensures.items ∙ ap (λ (t : TouchedEdge). c.args.settled.now.items ++ (t ∷ [])) c.in_ok-copy.ensures

pub returns-clause-places : goal.returns-clause-places
returns-clause-places c = record {
  kept = c.keep_both.new.moved;
  upwards = c.in_ok-upwards.upwards;
  downwards = c.in_ok-upwards.downwards;
  both = c.in_ok-upwards.ensures.kept;
  places = c.place.ensures.places;
  functions = c.place.ensures.functions;
  low = c.place.ensures.low;
}
