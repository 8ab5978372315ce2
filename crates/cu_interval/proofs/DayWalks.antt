-- Unpacked walks repeat by whole days.
use Rattle.std.proofs.Common.{◌≡◌, ◌≢◌, ◌<◌, ◌+◌, ◌*◌, ◌/◌, ◌%◌, ◌∙◌, ℕ, zero, suc, List, [], ◌++◌, Option, Some, None, refl, sym, ap, arith, min}
use Rattle.std.proofs.lemmas.Nat.{div-add-mod'}
use Rattle.cu_model.specs.Days.{day}
use Rattle.cu_model.specs.Roads.{drive}
use Rattle.cu_interval.specs.declared.ways.Way.{Way}
use Rattle.cu_interval.specs.declared.ways.Way.TheVariants.{Road, Via}
use Rattle.cu_interval.specs.WayLists.{way_in}
use Rattle.cu_interval.specs.Hierarchies.{HierarchyValue, IsHierarchy, list_from, way_from}
use Rattle.cu_interval.specs.Unpacking.{unpacked, unpacked_walk, unpacked_way}
use Rattle.cu_interval.proofs.Days.{below-days}
use Rattle.cu_interval.proofs.Fuel.{unpacked-via}
use Rattle.cu_interval.proofs.Lookups.{middles_fall, well_formed}
use Rattle.cu_interval.proofs.Unpacked.{unpacked-low}

module _ (h : HierarchyValue) (f : IsHierarchy h) where
  -- driving an unpacked walk a day later arrives a day later
  pub drive_days : (u v k t s : ℕ) → u ≢ v → list_from h u v ≢ [] → drive h.network (unpacked_walk h u v s) (k * day + t) ≡ k * day + drive h.network (unpacked_walk h u v s) t
  drive_days u v k t s apart some =
      below-days h.network h.order f.network (min u v) u (unpacked_walk h u v s) v k t (unpacked-low h f u v s apart some).1

  -- the way in force is that of the day before
  pub way_days : (u v k t : ℕ) → way_from h u v (k * day + t) ≡ way_from h u v t
  way_days u v k t = let same : (k * day + t) % day ≡ t % day = omega arith in ap (way_in (list_from h u v)) same

  -- the walk of a way is that of the day before, where the walks of lower shortcuts are
  walk_by : (u v k t : ℕ) (way : Option Way) → way_from h u v t ≡ way
      → ((x y s : ℕ) → min x y < min u v → unpacked_walk h x y (k * day + s) ≡ unpacked_walk h x y s)
      → unpacked_walk h u v (k * day + t) ≡ unpacked_walk h u v t
  walk_by u v k t None e lower =
      let later = way_days u v k t ∙ e in
      ap (λ (o : Option Way). unpacked_way h.network (unpacked h (min u v)) u v (k * day + t) o) later
      ∙ sym (ap (λ (o : Option Way). unpacked_way h.network (unpacked h (min u v)) u v t o) e)
  walk_by u v k t (Some (Road r)) e lower =
      let later = way_days u v k t ∙ e in
      ap (λ (o : Option Way). unpacked_way h.network (unpacked h (min u v)) u v (k * day + t) o) later
      ∙ sym (ap (λ (o : Option Way). unpacked_way h.network (unpacked h (min u v)) u v t o) e)
  walk_by u v k t (Some (Via m)) e lower =
      let later = way_days u v k t ∙ e in
      let w = well_formed h f u v t (Via m) e in
      let mu = w.0 in
      let mv = w.1 in
      let g = h.network in
      let first = unpacked_walk h u m t in
      let s = drive g first t in
      let one : unpacked_walk h u m (k * day + t) ≡ first = lower u m t (omega (arith, mu, mv)) in
      let apart : u ≢ m = λ same. absurd (omega (arith, mu, same)) in
      let arrives : drive g first (k * day + t) ≡ k * day + s = drive_days u m k t t apart w.4 in
      let two : unpacked_walk h m v (k * day + s) ≡ unpacked_walk h m v s = lower m v s (omega (arith, mu, mv)) in
      unpacked-via h (middles_fall h f) u v (k * day + t) m later
      ∙ ap (λ (x : List ℕ). x ++ unpacked_walk h m v (drive g x (k * day + t))) one
      ∙ ap (λ (n : ℕ). first ++ unpacked_walk h m v n) arrives
      ∙ ap (λ (x : List ℕ). first ++ x) two
      ∙ sym (unpacked-via h (middles_fall h f) u v t m e)

  walk_below : (bound u v k t : ℕ) → min u v < bound → unpacked_walk h u v (k * day + t) ≡ unpacked_walk h u v t
  walk_below zero u v k t lt = absurd (omega (arith, lt))
  walk_below (suc bound) u v k t lt =
      walk_by u v k t (way_from h u v t) refl (λ x y s less. walk_below bound x y k s (omega (arith, less, lt)))

  -- the walk at any second is that of the day before
  pub walk_days : (u v k t : ℕ) → unpacked_walk h u v (k * day + t) ≡ unpacked_walk h u v t
  walk_days u v k t = walk_below (suc (min u v)) u v k t (omega arith)

  pub walk_on : (u v t : ℕ) → unpacked_walk h u v t ≡ unpacked_walk h u v (t % day)
  walk_on u v t = ap (λ (n : ℕ). unpacked_walk h u v n) (sym (div-add-mod' t day)) ∙ walk_days u v (t / day) (t % day)
