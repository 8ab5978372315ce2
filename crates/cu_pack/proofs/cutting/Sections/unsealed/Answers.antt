use Rattle.std.proofs.Common.{◌≡◌, ◌∙◌, ℕ, List, sym, subst, ap, arith}
use Rattle.cu_pack.specs.Layouts.{AreInLimits, file_length}
use Rattle.cu_pack.specs.Reading.{counts_in}
use Rattle.cu_pack.specs.Steps.Fronts.{SpellsSections}
use Rattle.cu_pack.proofs.Read.Bodies.{counts_kept, unsealed_front}
use Rattle.cu_pack.proofs.Viewed.Views.{limits_known, size_known}
use Rattle.cu_pack.proofs.cutting.Sections.unsealed.Goals as goal

pub of-requires : goal.of-requires
of-requires c = let long = unsealed_front c.args.bytes.now c.requires.spelled.0 c.requires.spelled.1 in record { long = omega (arith, long) }

pub header_counts-requires : goal.header_counts-requires
header_counts-requires c = record { long = unsealed_front c.args.bytes.now c.requires.spelled.0 c.requires.spelled.1 }

counted : (c : goal.After-header_counts) → c.header_counts.result ≡ counts_in c.of.result
counted c =
    let bytes = c.args.bytes.now in
    let long = unsealed_front bytes c.requires.spelled.0 c.requires.spelled.1 in
    c.header_counts.ensures ∙ counts_kept bytes c.of.result (omega (arith, long)) (sym c.of.ensures.sealed) long

told : (c : goal.After-header_counts) → SpellsSections c.of.result c.requires.spelled.0
told c = subst (λ (bs : List ℕ). SpellsSections bs c.requires.spelled.0) (sym c.of.ensures.sealed) c.requires.spelled.1

pub of-requires-2-clause-counts : goal.of-requires-2-clause-counts
of-requires-2-clause-counts c = counted c

pub of-requires-2-clause-limits : goal.of-requires-2-clause-limits
of-requires-2-clause-limits c = subst AreInLimits (sym (counted c)) (limits_known c.of.result c.requires.spelled.0 (told c))

pub of-requires-2-clause-size : goal.of-requires-2-clause-size
of-requires-2-clause-size c = ap file_length (counted c) ∙ size_known c.of.result c.requires.spelled.0 (told c)
