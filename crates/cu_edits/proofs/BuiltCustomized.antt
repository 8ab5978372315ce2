-- In a built hierarchy each edge is customized: its built lists are the resettled ones.
use Rattle.std.proofs.Common.{ℕ, zero, suc, arith, min}
use Rattle.cu_interval.specs.Hierarchies.{HierarchyValue, IsBuilt, end_of, list_of, start_of}
use Rattle.cu_interval.proofs.BuiltWalks.{built_list}
use Rattle.cu_edits.specs.Customized.{IsCustomizedEdge}
use Rattle.cu_resettled.proofs.ResettledValues.{AreRebuiltBelow, built_list_resettled, built_rebuilt}

-- its rebuilt values are the least low drives
values_below : (h : HierarchyValue) → IsBuilt h → (m : ℕ) → AreRebuiltBelow h m
values_below h built zero x y lt = absurd (omega (arith, lt))
values_below h built (suc m) x y lt =
    built_rebuilt h built.sound x y (λ p q less. values_below h built m p q (omega (arith, less, lt))) (λ walk. built_list h built x y walk.0 walk.1)

pub built_customized : (h : HierarchyValue) → IsBuilt h → (edge : ℕ) → IsCustomizedEdge h edge
built_customized h built edge dir ends at =
    let u = start_of ends dir in
    let v = end_of ends dir in
    built_list_resettled h built.sound u v (values_below h built (min u v)) (list_of h edge dir) (built.built edge dir ends at)
