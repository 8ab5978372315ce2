use Rattle.std.proofs.Common.{◌∙◌, List, ap, rules, subst, sym, ℕ}
use Rattle.cu_pack.specs.Reading.{decoded}
use Rattle.cu_pack.specs.Spelling.{spelling}
use Rattle.cu_pack.specs.Steps.Fronts.{SpellsSections}
use Rattle.cu_pack.proofs.Spelled.Sealed.{first_pass}
use Rattle.cu_pack.proofs.migrating.migrate_telling.Goals as goal

pub file_with_bounds-requires : goal.file_with_bounds-requires
file_with_bounds-requires g c =
    let (passes, same) = c.in_ok-sections.ensures.ok in
    record { told = subst (λ (bs : List ℕ). SpellsSections bs (decoded bs)) (sym same) passes.told }

pub returns-clause-migrated : goal.returns-clause-migrated
returns-clause-migrated g c =
    let bytes = c.args.bytes.now in
    let (passes, same) = c.in_ok-sections.ensures.ok in
    let first = first_pass bytes (search rules) passes.ways.graph passes.ways.lists passes.kind in
    let file = c.in-Ok.ensures.spelled ∙ ap (λ (bs : List ℕ). spelling (decoded bs)) same in
    (decoded bytes, first, record { sound = first.sound; spelled = file })
