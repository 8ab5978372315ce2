use Rattle.std.proofs.Common.{ℕ, List, sym, subst}
use Rattle.cu_pack.specs.Checks.{Spells}
use Rattle.cu_pack.proofs.Read.Bodies.{spelled_sealed}
use Rattle.cu_pack.proofs.view.PackedView.adopt.Goals as goal

pub adopt_unsealed-requires : goal.adopt_unsealed-requires
adopt_unsealed-requires c =
    let (h, spells) = c.requires.spelled in
    record { spelled = (h, subst (λ (bs : List ℕ). Spells bs h) (sym (spelled_sealed c.args.bytes.now h spells)) spells) }

pub returns : goal.returns
returns c =
    let (h, spells) = c.requires.spelled in
    record { spells = subst (λ (bs : List ℕ). Spells bs c.adopt_unsealed.result) (spelled_sealed c.args.bytes.now h spells) c.adopt_unsealed.ensures.spells }
