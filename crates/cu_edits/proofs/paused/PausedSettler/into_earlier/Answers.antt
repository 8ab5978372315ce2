use Rattle.std.proofs.Common.{◌∙◌, ap, subst, sym}
use Rattle.cu_edits.specs.Learned.{ArePackedOf}
use Rattle.cu_edits.specs.Paused.{PausedValue}
use Rattle.cu_edits.proofs.PausedLaws.{nothing_earlier, packed_earlier}
use Rattle.cu_edits.proofs.paused.PausedSettler.into_earlier.Goals as goal

pub returns-in-Nothing : goal.returns-in-Nothing
returns-in-Nothing c = λ h edit fits.
    nothing_earlier h edit c.args.self fits c.in-Nothing.learned (ap (λ (p : PausedValue). p.state) (sym c.self.view_is) ∙ c.in-Nothing.is)

pub returns-in-Packed : goal.returns-in-Packed
returns-in-Packed c = λ h edit fits.
    subst (ArePackedOf h) (sym c.before-in-Packed.ensures)
    (packed_earlier h edit c.args.self fits c.in-Packed.packed (ap (λ (p : PausedValue). p.state) (sym c.self.view_is) ∙ c.in-Packed.is))
