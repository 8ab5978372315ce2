-- More fuel changes nothing in the most roads of a list, so that those of a middle are those of its halves together.
use Rattle.std.proofs.Common.{◌≡◌, ◌<◌, ◌≢◌, ℕ, zero, suc, List, [], ◌∷◌, refl, arith, min}
use Rattle.std.specs.Prelude.{All}
use Rattle.cu_interval.specs.declared.ways.Way.{Way}
use Rattle.cu_interval.specs.declared.ways.Way.TheVariants.{Road, Via}
use Rattle.cu_interval.specs.declared.ways.Entry.{Entry}
use Rattle.cu_interval.specs.Hierarchies.{HierarchyValue, IsHierarchy, IsWellFormed, list_from}
use Rattle.cu_interval.proofs.Lookups.{list_formed}
use Rattle.cu_short.specs.Shortness.{most_by, most_of, most_roads, way_roads}

most_of-same : (f g : Way → ℕ) (es : List Entry) → All (λ (e : Entry). f e.way ≡ g e.way) es → most_of f es ≡ most_of g es
most_of-same f g [] same = refl
most_of-same f g (e ∷ es) same =
    let rest = most_of-same f g es (λ k d lt. same (suc k) d (omega (arith, lt))) in
    let first = same 0 e (omega arith) in
    rw (first, rest) refl

way_roads-same : (h : HierarchyValue) (half more : ℕ → ℕ → ℕ) (u v : ℕ) (way : Way) → IsWellFormed h u v way
    → ((x y : ℕ) → min x y < min u v → list_from h x y ≢ [] → half x y ≡ more x y) → way_roads half u v way ≡ way_roads more u v way
way_roads-same h half more u v (Road a) formed same = refl
way_roads-same h half more u v (Via m) formed same =
    let (to, on, first, second, some, beyond) = formed in
    let one = same u m (omega (arith, to, on)) some in
    let two = same m v (omega (arith, to, on)) beyond in
    omega (arith, one, two)

most-fuel : (h : HierarchyValue) → IsHierarchy h → (fuel more u v : ℕ) → min u v < fuel → min u v < more → most_by h fuel u v ≡ most_by h more u v
most-fuel h f zero more u v a b = absurd (omega (arith, a))
most-fuel h f (suc fuel) zero u v a b = absurd (omega (arith, b))
most-fuel h f (suc fuel) (suc more) u v a b =
    let formed = list_formed h f u v in
    most_of-same (way_roads (most_by h fuel) u v) (way_roads (most_by h more) u v) (list_from h u v)
    (λ k d lt. way_roads-same h (most_by h fuel) (most_by h more) u v _ (formed k d lt)
    (λ x y low there. most-fuel h f fuel more x y (omega (arith, a, low)) (omega (arith, b, low))))

-- the most roads of a list are the most of its ways, by those of halves
pub most_roads-ways : (h : HierarchyValue) → IsHierarchy h → (u v : ℕ) → most_roads h u v ≡ most_of (way_roads (most_roads h) u v) (list_from h u v)
most_roads-ways h f u v =
    let formed = list_formed h f u v in
    most_of-same (way_roads (most_by h (min u v)) u v) (way_roads (most_roads h) u v) (list_from h u v)
    (λ k d lt. way_roads-same h (most_by h (min u v)) (most_roads h) u v _ (formed k d lt)
    (λ x y low there. most-fuel h f (min u v) (suc (min x y)) x y low (omega arith)))
