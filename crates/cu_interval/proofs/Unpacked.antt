-- In any hierarchy, built or not, an unpacked walk is a low walk.
use Rattle.std.proofs.Common.{◌≡◌, ◌≢◌, ◌<◌, ◌%◌, ℕ, zero, suc, List, [], ◌∷◌, Option, Some, None, refl, sym, subst, arith, inl, inr, min, ltb, true, false}
use Rattle.std.specs.Prelude.{slice_get}
use Rattle.std.proofs.lemmas.Bool.{cases_lt}
use Rattle.cu_model.specs.Days.{day}
use Rattle.cu_model.specs.Roads.{drive}
use Rattle.cu_model.proofs.RoadLaws.{all_at}
use Rattle.cu_interval.specs.declared.ways.Dir.{Dir}
use Rattle.cu_interval.specs.declared.ways.Dir.TheVariants.{Up, Down}
use Rattle.cu_interval.specs.declared.ways.Way.{Way}
use Rattle.cu_interval.specs.declared.ways.Way.TheVariants.{Road, Via}
use Rattle.cu_interval.specs.declared.ways.Entry.{Entry}
use Rattle.cu_interval.specs.Low.{IsLowWalk}
use Rattle.cu_interval.specs.WayLists.{IsWayList, way_in}
use Rattle.cu_interval.specs.Hierarchies.{HierarchyValue, IsHierarchy, entries_or_none, list_from, list_number, list_of, list_of_some, number_from, way_from}
use Rattle.cu_interval.specs.Unpacking.{unpacked, unpacked_walk, unpacked_way}
use Rattle.cu_interval.proofs.Lookups.{well_formed}
use Rattle.cu_interval.proofs.Unique.{some_way}
use Rattle.cu_interval.proofs.Walks.{below-append, below-more}

pub empty_list : IsWayList []
empty_list = record { begins = tt; within = λ k d h. absurd (omega (arith, h)); turns = λ k d h. absurd (omega (arith, h)) }

spelled_or : (o : Option (List Entry)) → ((es : List Entry) → o ≡ Some es → IsWayList es) → IsWayList (entries_or_none o)
spelled_or None f = empty_list
spelled_or (Some es) f = f es refl

module _ (h : HierarchyValue) (f : IsHierarchy h) where
  -- the lists of a hierarchy are way lists
  pub list_of_spelled : (edge : ℕ) (dir : Dir) → IsWayList (list_of h edge dir)
  list_of_spelled edge dir = spelled_or (slice_get h.lists (list_number edge dir)) (λ es e. all_at IsWayList h.lists (list_number edge dir) es f.spelled e)

  some_spelled : (o : Option ℕ) (dir : Dir) → IsWayList (list_of_some h o dir)
  some_spelled None dir = empty_list
  some_spelled (Some edge) dir = list_of_spelled edge dir

  pub list_from_spelled : (u v : ℕ) → IsWayList (list_from h u v)
  list_from_spelled u v =
      elim (cases_lt u v) [
        | inl lt ↦ let up : ltb u v ≡ true = grind (arith, lt) in rw up (some_spelled (number_from 0 h.edges u v) Up)
        | inr ge ↦ let down : ltb u v ≡ false = grind (arith, ge) in rw down (some_spelled (number_from 0 h.edges v u) Down)
      ]

pub way_there : (es : List Entry) → IsWayList es → es ≢ [] → (s : ℕ) → (way : Way) × (way_in es s ≡ Some way)
way_there [] f some s = absurd (some refl)
way_there (e ∷ es) f some s = some_way e es s f

module _ (h : HierarchyValue) (f : IsHierarchy h) where
  low_by : (fuel u v t : ℕ) → u ≢ v → (way : Way) → way_from h u v t ≡ Some way
      → ((x y s : ℕ) → min x y < min u v → x ≢ y → list_from h x y ≢ [] → IsLowWalk h.network h.order x (unpacked h fuel x y s) y)
      → IsLowWalk h.network h.order u (unpacked_way h.network (unpacked h fuel) u v t (Some way)) v
  low_by fuel u v t apart (Road a) e lower = (apart, well_formed h f u v t (Road a) e)
  low_by fuel u v t apart (Via m) e lower =
      let w = well_formed h f u v t (Via m) e in
      let mu = w.0 in
      let mv = w.1 in
      let first = unpacked h fuel u m t in
      let s = drive h.network first t in
      let p = lower u m t (omega (arith, mu, mv)) (λ same. absurd (omega (arith, mu, same))) w.4 in
      let q = lower m v s (omega (arith, mu, mv)) (λ same. absurd (omega (arith, mv, same))) w.5 in (
        apart,
        below-append h.network h.order (min u v) u m first (unpacked h fuel m v s) v (omega (arith, mu, mv)) (below-more h.network h.order (min u m) (min u v) u first m (omega (arith, mu, mv)) p.1)
            (below-more h.network h.order (min m v) (min u v) m (unpacked h fuel m v s) v (omega (arith, mu, mv)) q.1),
      )

  unpacked-low_by : (fuel u v t : ℕ) → min u v < fuel → u ≢ v → list_from h u v ≢ [] → IsLowWalk h.network h.order u (unpacked h fuel u v t) v
  unpacked-low_by zero u v t lt apart some = absurd (omega (arith, lt))
  unpacked-low_by (suc fuel) u v t lt apart some =
      let (way, e) = way_there (list_from h u v) (list_from_spelled h f u v) some (t % day) in
      let low = low_by fuel u v t apart way e (λ x y s less other list. unpacked-low_by fuel x y s (omega (arith, less, lt)) other list) in
      subst (λ (o : Option Way). IsLowWalk h.network h.order u (unpacked_way h.network (unpacked h fuel) u v t o) v) (sym e) low

  -- an unpacked walk of a list that isn't empty is a low walk
  pub unpacked-low : (u v t : ℕ) → u ≢ v → list_from h u v ≢ [] → IsLowWalk h.network h.order u (unpacked_walk h u v t) v
  unpacked-low u v t apart some = unpacked-low_by (suc (min u v)) u v t (omega arith) apart some
