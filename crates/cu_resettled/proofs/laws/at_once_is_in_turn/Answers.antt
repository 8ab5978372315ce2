use Rattle.cu_resettled.proofs.ResettledInTurn.{in_turn_at_once}
use Rattle.cu_resettled.proofs.ResettledThere.{at_once_in_turn}
use Rattle.cu_resettled.proofs.laws.at_once_is_in_turn.Goals as goal

pub returns : goal.returns
returns c = record {
  turns = λ old new edits sound after leave. (at_once_in_turn old new edits sound after leave, in_turn_at_once old new edits);
}
