use Rattle.std.proofs.Common.{◌≡◌, ◌<◌, ◌+◌, ◌∙◌, ℕ, List, length, refl, subst, sym, take, arith}
use Rattle.std.proofs.Math.Seq.{take-length}
use Rattle.cu_customize.specs.declared.triangles.Triangle.{Triangle}
use Rattle.cu_customize.specs.Steps.Triangles.{AreTrianglesBy}
use Rattle.cu_customize.proofs.Filing.{filed_no, filed_one}
use Rattle.cu_customize.proofs.Loops.{lower_below}
use Rattle.cu_customize.proofs.PackedSettles.{all_by}
use Rattle.cu_customize.proofs.packed_settling.find_triangles.Goals.{in-Some+in_ok-push, in_default}
use Rattle.cu_customize.proofs.packed_settling.find_triangles.Goals as goal

pub triangle_by-requires : goal.triangle_by-requires
triangle_by-requires c =
    let down = c.down-middle-items.ensures in
    let below = (lower_below c.args.graph.now down.sound c.args.ends.low c.down-middle-items.result.now down.members c.loop-middle.middle-index (omega arith)).1 in
    let low = c.requires in
    omega (arith, below, low)

pub loop-middle-preserved : goal.loop-middle-preserved
loop-middle-preserved c =
    let edges = c.args.graph.now.edges in
    let downs = c.down-middle-items.result.now in
    let i = c.loop-middle.middle-index in
    let high = c.args.ends.high in
    let inside : i < length downs = omega arith in
    let rising = c.down-middle-items.ensures.rising in
    let edge = (lower_below c.args.graph.now c.down-middle-items.ensures.sound c.args.ends.low downs c.down-middle-items.ensures.members i inside).0 in
    elim c.match-triangle_by.branch [
      | in-Some+in_ok-push w ↦
          let is : c.match-triangle_by.triangles.items ≡ w.push.new.self.items = rw w.triangles-is refl in
          subst (λ (ts : List Triangle). AreTrianglesBy edges c.args.ends.low high (take (i + 1) downs) ts) (sym (is ∙ w.in_ok-push.ensures.items))
          (filed_one edges c.args.ends.low downs rising i inside high c.loop-middle.triangles.items c.loop-middle.invariant w.in-Some.triangle w.in-Some.ensures.1 w.in-Some.ensures.0)
      | in_default w ↦
          let is : c.match-triangle_by.triangles.items ≡ c.loop-middle.triangles.items = rw w.triangles-is refl in
          subst (λ (ts : List Triangle). AreTrianglesBy edges c.args.ends.low high (take (i + 1) downs) ts) (sym is)
          (filed_no edges c.args.ends.low downs rising i inside high c.loop-middle.triangles.items c.loop-middle.invariant (λ joined. w.in_default.ensures edge joined))
    ]

pub returns : goal.returns
returns c =
    let edges = c.args.graph.now.edges in
    let downs = c.down-middle-items.result.now in
    let all : c.loop-middle.middle-index ≡ length downs = omega arith in
    let whole : take c.loop-middle.middle-index downs ≡ downs = subst (λ (k : ℕ). take k downs ≡ downs) (sym all) (take-length downs) in
    all_by edges c.args.ends.low c.args.ends.high downs c.loop-middle.triangles.items (λ middle edge. (c.down-middle-items.ensures.members middle).1 edge)
    (subst (λ (ms : List ℕ). AreTrianglesBy edges c.args.ends.low c.args.ends.high ms c.loop-middle.triangles.items) whole c.loop-middle.invariant)
