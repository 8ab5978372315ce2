use Rattle.std.proofs.Common.{◌≡◌, ◌⊎◌, ℕ, arith, min, subst, sym}
use Rattle.std.proofs.lemmas.List.Elements.{Contains-get_or}
use Rattle.cu_edits.specs.Steps.Bounds.{ArePlaced, TakeNoMoreThan, no_limit}
use Rattle.cu_edits.specs.Steps.Triangles.{IsLimit}
use Rattle.cu_edits.proofs.LimitLaws.{lesser_limit}
use Rattle.cu_edits.proofs.learning_packed.limit_of.Goals as goal

pub most_by-most-requires : goal.most_by-most-requires
most_by-most-requires c =
    subst (ArePlaced c.args.functions.now) (sym c.half_edges-edges.ensures) (c.requires c.loop-triangle.triangle-index _ c.loop-triangle-test.true)

pub loop-triangle-preserved : goal.loop-triangle-preserved
loop-triangle-preserved c =
    let functions = c.args.functions.now in
    let triangles = c.args.triangles.now in
    let most = c.most_by-most.result in
    let limit = c.loop-triangle.limit in
    let may = subst (λ (edges : ℕ × ℕ). (most ≡ no_limit) ⊎ TakeNoMoreThan functions most edges) c.half_edges-edges.ensures c.most_by-most.ensures in
    let same : min limit most ≡ c.min-limit.result = omega (arith, c.min-limit.ensures) in
    subst (IsLimit functions c.args.dir triangles) same
    (lesser_limit functions c.args.dir triangles limit most _ c.loop-triangle.invariant
    (Contains-get_or triangles c.loop-triangle.triangle-index _ c.loop-triangle-test.true) may)
