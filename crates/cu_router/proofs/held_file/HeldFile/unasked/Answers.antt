use Rattle.std.proofs.Common.{◌∙◌, ℕ, List, subst}
use Rattle.cu_pack.specs.Checks.{Spells}
use Rattle.cu_router.proofs.HeldLaws.{knows_of}
use Rattle.cu_router.proofs.held_file.HeldFile.unasked.Goals as goal

pub knowing-requires-clause-known : goal.knowing-requires-clause-known
knowing-requires-clause-known c = λ h spells.
    (let view = c.adopt.result in
    let here = subst (λ (bytes : List ℕ). Spells bytes view) c.deref.ensures.value c.adopt.ensures.spells in
    knows_of c.args.bytes.items view h c.in_ok-customized.customized here spells (c.in_ok-customized.ensures.long ∙ c.edges-edges.ensures.count) (c.in_ok-customized.ensures.customized h))
