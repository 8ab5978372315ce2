-- What a list drives, by the way in force and its halves, where no walk is too long.
use Rattle.std.proofs.Common.{◌≡◌, ◌≢◌, ◌≤◌, ◌+◌, ◌*◌, ◌%◌, ◌∙◌, ℕ, List, [], ◌∷◌, Option, Some, true, false, ltb, refl, sym, ap, arith, inl, inr, length, min}
use Rattle.std.proofs.lemmas.Bool.{cases_lt}
use Rattle.std.specs.Prelude.{slice_get}
use Rattle.cu_model.specs.Days.{day}
use Rattle.cu_model.specs.Roads.{arc_value, drive}
use Rattle.cu_model.proofs.RoadLaws.{drive-append}
use Rattle.cu_chordal.specs.declared.graph.Ends.{Ends}
use Rattle.cu_interval.specs.declared.ways.Dir.{Dir}
use Rattle.cu_interval.specs.declared.ways.Dir.TheVariants.{Up, Down}
use Rattle.cu_interval.specs.declared.ways.Way.{Way}
use Rattle.cu_interval.specs.declared.ways.Way.TheVariants.{Road, Via}
use Rattle.cu_interval.specs.declared.ways.Entry.{Entry}
use Rattle.cu_interval.specs.declared.relaxing.Relaxed.TheVariants.{At, Long}
use Rattle.cu_interval.specs.WayLists.{way_in}
use Rattle.cu_interval.specs.Hierarchies.{HierarchyValue, IsHierarchy, start_of, end_of, list_from, list_of, way_from}
use Rattle.cu_interval.specs.Unpacking.{answer_by, relaxed, relaxed_ends, relaxed_from, unpacked, unpacked_walk, unpacked_way}
use Rattle.cu_interval.proofs.EndsLaws.{ends_apart, ends_range}
use Rattle.cu_interval.proofs.Fuel.{unpacked-via}
use Rattle.cu_interval.proofs.Lookups.{list_from-edge, middles_fall}
use Rattle.cu_interval.proofs.Unpacked.{unpacked-low}
use Rattle.cu_interval.proofs.Walks.{below-onward}
use Rattle.cu_short.specs.Shortness.{NeverLong}
use Rattle.cu_filling.specs.Filling.{DrivesBy, DrivesVia}
use Rattle.cu_interval.proofs.DayWalks.{drive_days, walk_days}

-- the answer of a list with a way, by how long the walk is
answer_at : (h : HierarchyValue) (es : List Entry) (walk : List ℕ) (t : ℕ) → es ≢ [] → (answer_by h es walk t ≡ Long → ⊥) → answer_by h es walk t ≡ At (drive h.network walk t)
answer_at h [] walk t some never = absurd (some refl)
answer_at h (x ∷ es) walk t some never = elim (cases_lt (length walk) h.network.nodes) [
  | inl lt ↦ let short : ltb (length walk) h.network.nodes ≡ true = grind (arith, lt) in rw short refl
  | inr ge ↦ let long : ltb (length walk) h.network.nodes ≡ false = grind (arith, ge) in absurd (never (rw long refl))
]

-- an answer that arrives is the drive of the walk
answer_of : (h : HierarchyValue) (es : List Entry) (walk : List ℕ) (t x : ℕ) → answer_by h es walk t ≡ At x → (es ≢ []) × (drive h.network walk t ≡ x)
answer_of h [] walk t x e = absurd (cc e)
answer_of h (entry ∷ es) walk t x e = elim (cases_lt (length walk) h.network.nodes) [
  | inl lt ↦
      let short : ltb (length walk) h.network.nodes ≡ true = grind (arith, lt) in
      let is : At (drive h.network walk t) ≡ At x = rw short at e in
      ((λ none. absurd (cc none)), cc is)
  | inr ge ↦
      let long : ltb (length walk) h.network.nodes ≡ false = grind (arith, ge) in
      let other : Long ≡ At x = rw long at e in
      absurd (cc other)
]

some_list : (es : List Entry) (s : ℕ) (way : Way) → way_in es s ≡ Some way → es ≢ []
some_list [] s way e none = cc e
some_list (x ∷ es) s way e none = cc none

module _ (h : HierarchyValue) (f : IsHierarchy h) (edge : ℕ) (dir : Dir) (ends : Ends) (at : slice_get h.edges edge ≡ Some ends) where
  pub relaxed_by : (t : ℕ) → relaxed h edge dir t ≡ relaxed_from h (start_of ends dir) (end_of ends dir) t
  relaxed_by t = ap (λ (o : Option Ends). relaxed_ends h o dir t) at

  apart : start_of ends dir ≢ end_of ends dir
  apart = let range = ends_range h f edge ends at in ends_apart ends dir range.0

  -- an answer is the drive of the walk
  pub walk_of : (t x : ℕ) → relaxed h edge dir t ≡ At x → (list_from h (start_of ends dir) (end_of ends dir) ≢ []) × (drive h.network (unpacked_walk h (start_of ends dir) (end_of ends dir) t) t ≡ x)
  walk_of t x e = answer_of h (list_from h (start_of ends dir) (end_of ends dir)) (unpacked_walk h (start_of ends dir) (end_of ends dir) t) t x (sym (relaxed_by t) ∙ e)

  -- no answer is before its departure
  pub answer_onward : (t x : ℕ) → relaxed h edge dir t ≡ At x → t ≤ x
  answer_onward t x e =
      let (some, drives) = walk_of t x e in
      let low = unpacked-low h f (start_of ends dir) (end_of ends dir) t apart some in
      let on = below-onward h.network h.order f.network _ (start_of ends dir) (unpacked_walk h (start_of ends dir) (end_of ends dir) t) (end_of ends dir) t low.1 in
      omega (arith, on, drives)

  pub same_list : list_from h (start_of ends dir) (end_of ends dir) ≡ list_of h edge dir
  same_list = list_from-edge h f edge dir ends at

  module _ (never : NeverLong h) where
    -- where there is a way it arrives when its walk does
    pub drives_walk : (t : ℕ) → list_from h (start_of ends dir) (end_of ends dir) ≢ [] → relaxed h edge dir t ≡ At (drive h.network (unpacked_walk h (start_of ends dir) (end_of ends dir) t) t)
    drives_walk t some =
        let u = start_of ends dir in
        let v = end_of ends dir in
        relaxed_by t ∙ answer_at h (list_from h u v) (unpacked_walk h u v t) t some (λ long. never edge dir t (relaxed_by t ∙ long))

    pub drives_road : (t a : ℕ) → way_from h (start_of ends dir) (end_of ends dir) t ≡ Some (Road a) → relaxed h edge dir t ≡ At (arc_value h.network a t)
    drives_road t a way =
        let u = start_of ends dir in
        let v = end_of ends dir in
        let walk : unpacked_walk h u v t ≡ a ∷ [] = ap (unpacked_way h.network (unpacked h (min u v)) u v t) way in
        drives_walk t (some_list (list_from h u v) (t % day) (Road a) way) ∙ ap (λ (w : List ℕ). At (drive h.network w t)) walk

    pub drives_via : (t m arrival : ℕ) → way_from h (start_of ends dir) (end_of ends dir) t ≡ Some (Via m) → DrivesVia h ends dir m t arrival → relaxed h edge dir t ≡ At arrival
    drives_via t m arrival way via =
        let g = h.network in
        let u = start_of ends dir in
        let v = end_of ends dir in
        let first = unpacked_walk h u m t in
        let x = via.between in
        let (some, one) = answer_of h (list_from h u m) first t x (sym (ap (λ (o : Option Ends). relaxed_ends h o Down t) via.to) ∙ via.arrives) in
        let (other, two) = answer_of h (list_from h m v) (unpacked_walk h m v x) x arrival (sym (ap (λ (o : Option Ends). relaxed_ends h o Up x) via.on) ∙ via.goes_on) in
        drives_walk t (some_list (list_from h u v) (t % day) (Via m) way)
        ∙ ap (λ (w : List ℕ). At (drive g w t)) (unpacked-via h (middles_fall h f) u v t m way)
        ∙ ap At (drive-append g first (unpacked_walk h m v (drive g first t)) t
        ∙ ap (λ (s : ℕ). drive g (unpacked_walk h m v s) s) one ∙ two)

    -- by the way in force
    pub drives_by : (t arrival : ℕ) (way : Way) → way_from h (start_of ends dir) (end_of ends dir) t ≡ Some way → DrivesBy h ends dir t way arrival → relaxed h edge dir t ≡ At arrival
    drives_by t arrival (Road a) way by = drives_road t a way ∙ ap At by
    drives_by t arrival (Via m) way by = drives_via t m arrival way by

    -- a day later it arrives a day later
    pub drives_later : (k t x : ℕ) → relaxed h edge dir t ≡ At x → relaxed h edge dir (k * day + t) ≡ At (k * day + x)
    drives_later k t x e =
        let u = start_of ends dir in
        let v = end_of ends dir in
        let (some, one) = walk_of t x e in
        drives_walk (k * day + t) some
        ∙ ap (λ (w : List ℕ). At (drive h.network w (k * day + t))) (walk_days h f u v k t)
        ∙ ap At (drive_days h f u v k t t apart some ∙ ap (λ (y : ℕ). k * day + y) one)
