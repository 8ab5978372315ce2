use Rattle.std.proofs.Common.{◌∙◌, ap, sym, subst}
use Rattle.std.proofs.lemmas.Result.{IfOk-weaker}
use Rattle.cu_bounds.specs.KeptBounds.{bounds_of}
use Rattle.cu_pack.specs.Reading.{decoded}
use Rattle.cu_pack.specs.Steps.Fronts.{SpellsSections}
use Rattle.cu_pack.proofs.Spelled.Again.{decoded_again}
use Rattle.cu_pack.proofs.Viewed.Views.{sections_again}
use Rattle.cu_pack.proofs.bounding.bounds_before.Goals as goal

pub of-requires : goal.of-requires
of-requires c =
    let (h, spells) = c.requires.spelled in
    record { spelled = subst (λ bs. SpellsSections bs (decoded bs)) (sym c.unsealed-sections.ensures.same) (sections_again _ h spells) }

pub returns : goal.returns
returns c = record {
  bounds = λ h spells.
      let said = c.of.ensures.said ∙ ap decoded c.unsealed-sections.ensures.same ∙ decoded_again _ h spells in
      IfOk-weaker c.least_bounds.result _ _ (λ bounds found. found ∙ ap bounds_of said) c.least_bounds.ensures.bounds;
}
