use Rattle.std.proofs.Common.{[], subst, sym}
use Rattle.cu_resettled.specs.ResettlingAll.{IsResettledAll}
use Rattle.cu_resettled.proofs.ResettledInTurn.{composed, none_leaves, of_none}
use Rattle.cu_resettled.proofs.TouchedBySome.{all_of_one, one_of_all}
use Rattle.cu_resettled.proofs.laws.at_once_by_edits.Goals as goal

pub returns : goal.returns
returns c = record {
  none = λ old new. (none_leaves old new, λ same. subst (IsResettledAll old []) (sym same) (of_none old));
  one = λ old new edit. (one_of_all old new edit, all_of_one old new edit);
  more = composed;
}
