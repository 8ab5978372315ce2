use Rattle.std.proofs.Common.{ℕ, List, sym, subst}
use Rattle.cu_pack.specs.Checks.{Spells, sealed}
use Rattle.cu_pack.specs.Reading.{decoded}
use Rattle.cu_pack.proofs.Spelled.Again.{spelled_sections}
use Rattle.cu_pack.proofs.Viewed.Views.{said_again}
use Rattle.cu_pack.proofs.view.PackedView.adopt_unsealed.Goals as goal

pub unsealed-requires : goal.unsealed-requires
unsealed-requires c = let (h, spells) = c.requires.spelled in record { spelled = (h, spelled_sections (sealed c.args.bytes.now) h spells) }

pub invariant_of-result : goal.invariant_of-result
invariant_of-result c =
    subst (λ (bs : List ℕ). Spells bs (decoded bs)) (sym c.unsealed.ensures.same) (said_again (sealed c.args.bytes.now) c.requires.spelled.0 c.requires.spelled.1)

pub returns : goal.returns
returns c =
    let file = sealed c.args.bytes.now in
    record {
      spells = subst (λ (bs : List ℕ). Spells file (decoded bs)) (sym c.unsealed.ensures.same) (said_again file c.requires.spelled.0 c.requires.spelled.1);
    }
