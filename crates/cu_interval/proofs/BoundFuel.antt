-- More fuel changes nothing in a least bound, so that of a middle is made of those of its halves.
use Rattle.std.proofs.Common.{◌≡◌, ◌≤◌, ◌<◌, ℕ, zero, suc, List, [], ◌∷◌, refl, arith, min}
use Rattle.std.specs.Prelude.{All}
use Rattle.cu_interval.specs.declared.ways.Way.{Way}
use Rattle.cu_interval.specs.declared.ways.Way.TheVariants.{Road, Via}
use Rattle.cu_interval.specs.declared.ways.Entry.{Entry}
use Rattle.cu_interval.specs.Hierarchies.{HierarchyValue, IsHierarchy, IsWellFormed, list_from}
use Rattle.cu_interval.proofs.Lookups.{list_formed}
use Rattle.cu_interval.specs.LeastBounds.{bound_by, bound_from, far, least_of, road_bound, way_bound}

pub least_of-same : (f g : Way → ℕ) (es : List Entry) → All (λ (e : Entry). f e.way ≡ g e.way) es → least_of f es ≡ least_of g es
least_of-same f g [] same = refl
least_of-same f g (e ∷ es) same =
    let rest = least_of-same f g es (λ k d h. same (suc k) d (omega (arith, h))) in
    let first = same 0 e (omega arith) in
    omega (arith, rest, first)

way_bound-same : (h : HierarchyValue) (road : ℕ → ℕ) (half more : ℕ → ℕ → ℕ) (u v : ℕ) (way : Way) → IsWellFormed h u v way
    → ((x y : ℕ) → min x y < min u v → half x y ≡ more x y) → way_bound road half u v way ≡ way_bound road more u v way
way_bound-same h road half more u v (Road a) formed same = refl
way_bound-same h road half more u v (Via m) formed same =
    let to = formed.0 in
    let on = formed.1 in
    let first = same u m (omega (arith, to, on)) in
    let second = same m v (omega (arith, to, on)) in
    omega (arith, first, second)

-- any fuel above the lower end gives the least bound
pub bound-fuel : (h : HierarchyValue) → IsHierarchy h → (road : ℕ → ℕ) (fuel more u v : ℕ) → min u v < fuel → min u v < more → bound_by road h fuel u v ≡ bound_by road h more u v
bound-fuel h f road zero more u v a b = absurd (omega (arith, a))
bound-fuel h f road (suc fuel) zero u v a b = absurd (omega (arith, b))
bound-fuel h f road (suc fuel) (suc more) u v a b =
    let formed = list_formed h f u v in
    least_of-same (way_bound road (bound_by road h fuel) u v) (way_bound road (bound_by road h more) u v) (list_from h u v)
    (λ k d lt. way_bound-same h road (bound_by road h fuel) (bound_by road h more) u v _ (formed k d lt)
    (λ x y low. bound-fuel h f road fuel more x y (omega (arith, a, low)) (omega (arith, b, low))))

-- the least bound of a list is the least over its ways, those of halves being least bounds themselves
pub bound_from-ways : (h : HierarchyValue) → IsHierarchy h → (u v : ℕ) → bound_from h u v ≡ least_of (way_bound (road_bound h.network) (bound_from h) u v) (list_from h u v)
bound_from-ways h f u v =
    let road = road_bound h.network in
    let formed = list_formed h f u v in
    least_of-same (way_bound road (bound_by road h (min u v)) u v) (way_bound road (bound_from h) u v) (list_from h u v)
    (λ k d lt. way_bound-same h road (bound_by road h (min u v)) (bound_from h) u v _ (formed k d lt)
    (λ x y low. bound-fuel h f road (min u v) (suc (min x y)) x y low (omega arith)))

-- no bound is above `far`
pub least_of-far : (f : Way → ℕ) (es : List Entry) → least_of f es ≤ far
least_of-far f [] = omega arith
least_of-far f (e ∷ es) = let rest = least_of-far f es in omega (arith, rest)
