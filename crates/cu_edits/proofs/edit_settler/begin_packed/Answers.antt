use Rattle.std.proofs.Common.{◌≡◌, ◌*◌, ◌∙◌, ap, length, subst, sym}
use Rattle.std.specs.Prelude.{All}
use Rattle.cu_edits.specs.Learned.{ArePackedOf}
use Rattle.cu_edits.specs.Steps.Moving.{MovedValue}
use Rattle.cu_edits.proofs.edit_settler.begin_packed.Goals as goal

pub returns-in-Ok-clause-functions : goal.returns-in-Ok-clause-functions
returns-in-Ok-clause-functions g c h long earlier = subst (ArePackedOf h) (sym c.packed_with.ensures.functions) (c.in_ok-learned.ensures h long earlier)

pub returns-in-Ok-clause-long : goal.returns-in-Ok-clause-long
returns-in-Ok-clause-long g c =
    let count = c.edges.ensures.count in
    ap (λ (m : MovedValue). length m.places) c.packed_with.ensures.moved ∙ c.in-Ok.ensures.long ∙ ap (λ n. 2 * n) count

pub returns-in-Ok-clause-none : goal.returns-in-Ok-clause-none
returns-in-Ok-clause-none g c = subst (λ (m : MovedValue). All (λ place. place ≡ 0) m.places) (sym c.packed_with.ensures.moved) c.in-Ok.ensures.none
