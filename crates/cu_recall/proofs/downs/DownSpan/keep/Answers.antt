use Rattle.std.proofs.Common.{refl}
use Rattle.cu_recall.proofs.DownLaws.{down_kept}
use Rattle.cu_recall.proofs.downs.DownSpan.keep.Goals as goal

pub returns : goal.returns
returns c = record { holds = λ h edge few driven held. down_kept h edge c.args.second c.args.driven c.args.self.now _ c.requires.window refl refl refl refl few driven held }
