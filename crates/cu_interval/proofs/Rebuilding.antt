-- More fuel changes nothing in a rebuilt value.
use Rattle.std.proofs.Common.{◌≡◌, ◌<◌, ◌+◌, ◌*◌, ◌/◌, ◌%◌, ◌^◌, ◌∙◌, ℕ, zero, suc, List, [], ◌∷◌, Option, Some, None, refl, ap, arith, min}
use Rattle.std.specs.Prelude.{All, option_map}
use Rattle.cu_model.specs.Days.{day}
use Rattle.cu_interval.specs.declared.ways.Way.{Way}
use Rattle.cu_interval.specs.declared.ways.Way.TheVariants.{Road, Via}
use Rattle.cu_interval.specs.declared.ways.Entry.{Entry}
use Rattle.cu_interval.specs.Hierarchies.{HierarchyValue, IsHierarchy, IsWellFormed, list_from}
use Rattle.cu_interval.specs.Resettling.{least_in, lesser_of, rebuilt_by, then_at, value_by}
use Rattle.cu_interval.proofs.Lookups.{list_formed}

-- steps from the same to the same, and the least of the same values
pub then_at-same : (a b : Option ℕ) (f g : ℕ → Option ℕ) → a ≡ b → ((x : ℕ) → f x ≡ g x) → then_at a f ≡ then_at b g
then_at-same None b f g e same = ap (λ (o : Option ℕ). then_at o g) e
then_at-same (Some x) b f g e same = ap (λ (o : Option ℕ). option_map (λ (y : ℕ). min y (2 ^ 62)) o) (same x) ∙ ap (λ (o : Option ℕ). then_at o g) e

pub least_in-same : (f g : Way → Option ℕ) (es : List Entry) → All (λ (e : Entry). f e.way ≡ g e.way) es → least_in f es ≡ least_in g es
least_in-same f g [] same = refl
least_in-same f g (e ∷ es) same =
    let rest = least_in-same f g es (λ k d h. same (suc k) d (omega (arith, h))) in
    ap (λ (o : Option ℕ). lesser_of o (least_in f es)) (same 0 e (omega arith)) ∙ ap (λ (o : Option ℕ). lesser_of (g e.way) o) rest

value_by-same : (h : HierarchyValue) (half more : ℕ → ℕ → ℕ → Option ℕ) (u v t : ℕ) (way : Way) → IsWellFormed h u v way
    → ((x y s : ℕ) → min x y < min u v → half x y s ≡ more x y s) → value_by h.network half u v t way ≡ value_by h.network more u v t way
value_by-same h half more u v t (Road a) formed same = refl
value_by-same h half more u v t (Via m) formed same =
    let to = formed.0 in
    let on = formed.1 in
    then_at-same (half u m t) (more u m t) (half m v) (more m v) (same u m t (omega (arith, to, on))) (λ x. same m v x (omega (arith, to, on)))

-- any fuel above the lower end gives the rebuilt value
pub rebuilt-fuel : (h : HierarchyValue) → IsHierarchy h → (fuel more u v t : ℕ) → min u v < fuel → min u v < more → rebuilt_by h fuel u v t ≡ rebuilt_by h more u v t
rebuilt-fuel h f zero more u v t a b = absurd (omega (arith, a))
rebuilt-fuel h f (suc fuel) zero u v t a b = absurd (omega (arith, b))
rebuilt-fuel h f (suc fuel) (suc more) u v t a b =
    let formed = list_formed h f u v in
    ap (option_map (λ (value : ℕ). day * (t / day) + value))
    (least_in-same (value_by h.network (rebuilt_by h fuel) u v (t % day)) (value_by h.network (rebuilt_by h more) u v (t % day)) (list_from h u v)
    (λ k d lt. value_by-same h (rebuilt_by h fuel) (rebuilt_by h more) u v (t % day) _ (formed k d lt)
    (λ x y s low. rebuilt-fuel h f fuel more x y s (omega (arith, a, low)) (omega (arith, b, low)))))
