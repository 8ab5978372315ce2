-- Hierarchies that are read alike between two ranks have the same walks there, which arrive at the same seconds.
use Rattle.std.proofs.Common.{◌≡◌, ◌+◌, ◌%◌, ◌++◌, ◌∙◌, ℕ, zero, suc, List, [], ◌∷◌, Option, Some, None, refl, sym, ap, subst, length, min, nat_lt, if◌then◌else◌}
use Rattle.cu_model.specs.Days.{day}
use Rattle.cu_model.specs.Roads.{drive}
use Rattle.cu_model.proofs.RoadLaws.{drive-append}
use Rattle.cu_interval.specs.declared.ways.Way.{Way}
use Rattle.cu_interval.specs.declared.ways.Way.TheVariants.{Road, Via}
use Rattle.cu_interval.specs.declared.ways.Entry.{Entry}
use Rattle.cu_interval.specs.declared.relaxing.Relaxed.TheVariants.{At, Long}
use Rattle.cu_interval.specs.Hierarchies.{HierarchyValue, list_from, way_from}
use Rattle.cu_interval.specs.Unpacking.{answer_by, relaxed_from, unpacked, unpacked_walk, unpacked_way}
use Rattle.cu_interval.specs.WayLists.{way_in}
use Rattle.cu_interval.proofs.Lookups.{way_held}
use Rattle.cu_resettled.proofs.RebuiltBelow.{AreReadAlike, IsReadAlike}

-- the same roads, which arrive at the same second
abbrev pub IsDrivenAlike : HierarchyValue → HierarchyValue → List ℕ → List ℕ → ℕ → Type 0
IsDrivenAlike h k one two t = (one ≡ two) × (drive h.network one t ≡ drive k.network one t)

module _ (h k : HierarchyValue) (IsRead : ℕ → ℕ → Type 0) (alike : AreReadAlike h k IsRead) where
  -- the way in force between ranks that are read is the same, and read alike
  same_way : (u v t : ℕ) → IsRead u v → way_from h u v t ≡ way_from k u v t
  same_way u v t read = ap (λ (es : List Entry). way_in es (t % day)) (alike.lists u v read)

  way_read : (u v t : ℕ) (way : Way) → IsRead u v → way_from h u v t ≡ Some way → IsReadAlike h k IsRead u v way
  way_read u v t way read e = way_held (IsReadAlike h k IsRead u v) (list_from h u v) (t % day) way (alike.ways u v read) e

  way_alike : (fuel u v t : ℕ) (way : Option Way) → ((taken : Way) → way ≡ Some taken → IsReadAlike h k IsRead u v taken)
      → ((x y s : ℕ) → IsRead x y → IsDrivenAlike h k (unpacked h fuel x y s) (unpacked k fuel x y s) s)
      → IsDrivenAlike h k (unpacked_way h.network (unpacked h fuel) u v t way) (unpacked_way k.network (unpacked k fuel) u v t way) t
  way_alike fuel u v t None read halves = (refl, refl)
  way_alike fuel u v t (Some (Road a)) read halves = (refl, read (Road a) refl t)
  way_alike fuel u v t (Some (Via m)) read halves =
      let both = read (Via m) refl in
      let one = unpacked h fuel u m t in
      let s = drive h.network one t in
      let to = halves u m t both.0 in
      let two = unpacked h fuel m v s in
      let on = halves m v s both.1 in
      let later : drive k.network (unpacked k fuel u m t) t ≡ s = sym (to.1 ∙ ap (λ (w : List ℕ). drive k.network w t) to.0) in
      let second : two ≡ unpacked k fuel m v (drive k.network (unpacked k fuel u m t) t) = on.0 ∙ ap (unpacked k fuel m v) (sym later) in (
        ap (λ (w : List ℕ). w ++ two) to.0 ∙ ap (λ (w : List ℕ). unpacked k fuel u m t ++ w) second,
        drive-append h.network one two t ∙ on.1 ∙ sym (drive-append k.network one two t ∙ ap (drive k.network two) (sym to.1)),
      )

  pub walks_by : (fuel u v t : ℕ) → IsRead u v → IsDrivenAlike h k (unpacked h fuel u v t) (unpacked k fuel u v t) t
  walks_by zero u v t read = (refl, refl)
  walks_by (suc fuel) u v t read =
      subst (λ (way : Option Way). IsDrivenAlike h k (unpacked_way h.network (unpacked h fuel) u v t (way_from h u v t)) (unpacked_way k.network (unpacked k fuel) u v t way) t)
      (same_way u v t read)
      (way_alike fuel u v t (way_from h u v t) (λ taken e. way_read u v t taken read e) (λ x y s inner. walks_by fuel x y s inner))

  answer_alike : (es : List Entry) (walk other : List ℕ) (t : ℕ) → h.network.nodes ≡ k.network.nodes → IsDrivenAlike h k walk other t → answer_by h es walk t ≡ answer_by k es other t
  answer_alike [] walk other t nodes same = refl
  answer_alike (entry ∷ es) walk other t nodes (same, arrives) =
      ap (λ (n : ℕ). if nat_lt (length walk) n then At (drive h.network walk t) else Long) nodes
      ∙ ap (λ (x : ℕ). if nat_lt (length walk) k.network.nodes then At x else Long) arrives
      ∙ ap (λ (w : List ℕ). answer_by k (entry ∷ es) w t) same

  -- and so the same answers
  pub relaxed_alike : (u v t : ℕ) → h.network.nodes ≡ k.network.nodes → IsRead u v → relaxed_from h u v t ≡ relaxed_from k u v t
  relaxed_alike u v t nodes read =
      answer_alike (list_from h u v) (unpacked_walk h u v t) (unpacked_walk k u v t) t nodes (walks_by (suc (min u v)) u v t read)
      ∙ ap (λ (es : List Entry). answer_by k es (unpacked_walk k u v t) t) (alike.lists u v read)
