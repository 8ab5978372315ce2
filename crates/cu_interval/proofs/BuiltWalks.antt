-- In a built hierarchy the unpacked walk drives to the least arrival over all low walks.
use Rattle.std.proofs.Common.{◌≡◌, ◌≢◌, ◌<◌, ◌%◌, ◌∙◌, ℕ, zero, suc, List, [], ◌∷◌, ◌++◌, Some, refl, sym, ap, subst, arith, inl, inr, min}
use Rattle.std.specs.Prelude.{slice_get}
use Rattle.std.proofs.lemmas.Bool.{cases_lt}
use Rattle.cu_model.specs.Networks.{NetworkValue}
use Rattle.cu_model.specs.Orders.{OrderValue}
use Rattle.cu_model.specs.Days.{day}
use Rattle.cu_model.specs.Roads.{drive}
use Rattle.cu_model.proofs.RoadLaws.{drive-append, leads-links}
use Rattle.cu_chordal.specs.declared.graph.Ends.{Ends}
use Rattle.cu_chordal.specs.Edges.{Adjacent, IsEdge, JoinedBelow}
use Rattle.cu_chordal.proofs.Joined.{joined_back}
use Rattle.cu_chordal.proofs.Members.{place_of}
use Rattle.cu_interval.specs.declared.ways.Dir.{Dir}
use Rattle.cu_interval.specs.declared.ways.Dir.TheVariants.{Up, Down}
use Rattle.cu_interval.specs.declared.ways.Way.{Way}
use Rattle.cu_interval.specs.declared.ways.Way.TheVariants.{Road, Via}
use Rattle.cu_interval.specs.declared.ways.Entry.{Entry}
use Rattle.cu_interval.specs.Low.{LeadsRanks, WalkBelow, IsLowWalk, HasLowWalk, IsLeastLowDrive}
use Rattle.cu_interval.specs.FirstWays.{Arrives, IsBuiltList, IsCandidate}
use Rattle.cu_interval.specs.Hierarchies.{HierarchyValue, IsBuilt, start_of, end_of, list_from, way_from}
use Rattle.cu_interval.specs.Unpacking.{unpacked, unpacked_walk, unpacked_way}
use Rattle.cu_interval.proofs.Candidates.{candidate_below}
use Rattle.cu_interval.proofs.Days.{built_first}
use Rattle.cu_interval.proofs.Fuel.{unpacked-via}
use Rattle.cu_interval.proofs.Lookups.{list_from-edge, middles_fall}
use Rattle.cu_interval.proofs.Middles.{first_least}
use Rattle.cu_interval.proofs.Unpacked.{list_from_spelled, unpacked-low, way_there}

-- a road that may be driven links the ranks
leads-adjacent : (g : NetworkValue) (o : OrderValue) (a u v : ℕ) → LeadsRanks g o a u v → Adjacent g o u v
leads-adjacent g o a u v l = (a, inl (l.0, l.1, leads-links g a l.0 l.1 l.2, l.3, l.4))

pub walk_path : (g : NetworkValue) (o : OrderValue) (m u : ℕ) (w : List ℕ) (v : ℕ) → WalkBelow g o m u w v → JoinedBelow g o m u v
walk_path g o m u [] v h = absurd h
walk_path g o m u (a ∷ []) v h = ([], leads-adjacent g o a u v h)
walk_path g o m u (a ∷ b ∷ w) v h =
    let (x, j, lt, more) = h in
    let rest = walk_path g o m x (b ∷ w) v more in
    (x ∷ rest.0, (leads-adjacent g o a u x j, lt, rest.1))

-- a low walk joins the ends of an edge
pub edge_under : (h : HierarchyValue) → IsBuilt h → (u v : ℕ) (w : List ℕ) → IsLowWalk h.network h.order u w v
    → (edge : ℕ) × (dir : Dir) × (ends : Ends) × (slice_get h.edges edge ≡ Some ends) × (start_of ends dir ≡ u) × (end_of ends dir ≡ v)
edge_under h f u v w l =
    let path = walk_path h.network h.order (min u v) u w v l.1 in
    elim (cases_lt u v) [
      | inl less ↦
          let is : IsEdge h.network h.order u v = (l.0, path) in
          let (edge, at) = place_of h.edges (record { low = u; high = v }) ((f.sound.edges.exact u v).1 (less, is)) in
          (edge, Up, record { low = u; high = v }, at, refl, refl)
      | inr more ↦
          let apart : v < u = let other = l.0 in omega (arith, more, other) in
          let back = joined_back h.network h.order (min u v) u path.0 v path.1 in
          let same : min u v ≡ min v u = omega arith in
          let is : IsEdge h.network h.order v u = ((λ e. absurd (omega (arith, e, apart))), subst (λ (m : ℕ). JoinedBelow h.network h.order m v u) same back) in
          let (edge, at) = place_of h.edges (record { low = v; high = u }) ((f.sound.edges.exact v u).1 (apart, is)) in
          (edge, Down, record { low = v; high = u }, at, refl, refl)
    ]

-- where a low walk leads, the list is the built one
pub built_list : (h : HierarchyValue) → IsBuilt h → (u v : ℕ) (w : List ℕ) → IsLowWalk h.network h.order u w v → IsBuiltList h.network h.order u v (list_from h u v)
built_list h f u v w l =
    let (edge, dir, ends, at, su, sv) = edge_under h f u v w l in
    let same = list_from-edge h f.sound edge dir ends at in
    let built = subst (λ (es : List Entry). IsBuiltList h.network h.order (start_of ends dir) (end_of ends dir) es) (sym same) (f.built edge dir ends at) in
    subst (λ (y : ℕ). IsBuiltList h.network h.order u y (list_from h u y)) sv
    (subst (λ (x : ℕ). IsBuiltList h.network h.order x (end_of ends dir) (list_from h x (end_of ends dir))) su built)

pub least_unique : (g : NetworkValue) (o : OrderValue) (u v t a b : ℕ) → IsLeastLowDrive g o u v t a → IsLeastLowDrive g o u v t b → a ≡ b
least_unique g o u v t a b f i =
    let (w, l, e) = f.reached in
    let (w2, l2, e2) = i.reached in
    let p = f.least w2 l2 in
    let q = i.least w l in
    omega (arith, p, q, e, e2)

-- a way arrives at one second
pub arrives_once : (g : NetworkValue) (o : OrderValue) (u v t : ℕ) (way : Way) (a b : ℕ) → Arrives g o u v t way a → Arrives g o u v t way b → a ≡ b
arrives_once g o u v t (Road r) a b p q = sym p ∙ q
arrives_once g o u v t (Via m) a b p q =
    let one : p.0 ≡ q.0 = least_unique g o u m t p.0 q.0 p.1 q.1 in
    least_unique g o m v q.0 a b (subst (λ (x : ℕ). IsLeastLowDrive g o m v x a) one p.2) q.2

abbrev pub IsRight : HierarchyValue → ℕ → ℕ → Type 0
IsRight h u v = (list_from h u v ≢ []) × ((t : ℕ) → IsLeastLowDrive h.network h.order u v t (drive h.network (unpacked_walk h u v t) t))

abbrev pub AreRightBelow : HierarchyValue → ℕ → Type 0
AreRightBelow h m = (x y : ℕ) (w : List ℕ) → min x y < m → IsLowWalk h.network h.order x w y → IsRight h x y

pub has_least : (h : HierarchyValue) (m : ℕ) → AreRightBelow h m → (x y s : ℕ) (w : List ℕ) → min x y < m → IsLowWalk h.network h.order x w y → (a : ℕ) × IsLeastLowDrive h.network h.order x y s a
has_least h m right x y s w lt l = (drive h.network (unpacked_walk h x y s) s, (right x y w lt l).1 s)

module _ (h : HierarchyValue) (f : IsBuilt h) where
  -- the unpacked walk arrives when the first way does
  pub own_walk : (u v t : ℕ) → AreRightBelow h (min u v) → (way : Way) → way_from h u v t ≡ Some way → (arrival : ℕ) → IsCandidate h.network h.order u v way
      → Arrives h.network h.order u v t way arrival → drive h.network (unpacked_walk h u v t) t ≡ arrival
  own_walk u v t right (Road a) e arrival c r =
      let walk : unpacked_walk h u v t ≡ a ∷ [] = ap (unpacked_way h.network (unpacked h (min u v)) u v t) e in
      ap (λ (w : List ℕ). drive h.network w t) walk ∙ r
  own_walk u v t right (Via m) e arrival c r =
      let mu = c.0 in
      let mv = c.1 in
      let first = unpacked_walk h u m t in
      let s = drive h.network first t in
      let walk : unpacked_walk h u v t ≡ first ++ unpacked_walk h m v s = unpacked-via h (middles_fall h f.sound) u v t m e in
      let one : s ≡ r.0 = least_unique h.network h.order u m t s r.0 ((right u m c.2.0 (omega (arith, mu, mv)) c.2.1).1 t) r.1 in
      let later = (right m v c.3.0 (omega (arith, mu, mv)) c.3.1).1 s in
      let two : drive h.network (unpacked_walk h m v s) s ≡ arrival =
      least_unique h.network h.order m v s (drive h.network (unpacked_walk h m v s) s) arrival later
      (subst (λ (x : ℕ). IsLeastLowDrive h.network h.order m v x arrival) (sym one) r.2) in
      ap (λ (w : List ℕ). drive h.network w t) walk ∙ drive-append h.network first (unpacked_walk h m v s) t ∙ two

  right_one : (u v : ℕ) (w : List ℕ) → AreRightBelow h (min u v) → IsLowWalk h.network h.order u w v → IsRight h u v
  right_one u v w right l =
      let g = h.network in
      let o = h.order in
      let n = f.sound.network in
      let has = has_least h (min u v) right in
      let some : list_from h u v ≢ [] = λ empty.
      let c = candidate_below g o n u v has (min u v) (omega arith) (omega arith) w 0 l.1 in
      (built_list h f u v w l).none empty c.way c.candidate in (
        some,
        λ t.
            let (way, e) = way_there (list_from h u v) (list_from_spelled h f.sound u v) some (t % day) in
            let first = built_first h f u v t way e in
            let own = own_walk u v t right way e first.arrival first.candidate first.arrives in
            record {
              reached = (unpacked_walk h u v t, unpacked-low h f.sound u v t l.0 some, refl);
              least = λ w2 l2. let p = first_least g o n u v t way has first w2 l2 in omega (arith, p, own);
            },
      )

  pub right_below : (m : ℕ) → AreRightBelow h m
  right_below zero x y w lt l = absurd (omega (arith, lt))
  right_below (suc m) x y w lt l = right_one x y w (λ x2 y2 w2 less l2. right_below m x2 y2 w2 (omega (arith, less, lt)) l2) l

  -- in a built hierarchy, where a low walk leads the list isn't empty, and the unpacked walk arrives first of all low walks
  pub built_least : (u v : ℕ) → HasLowWalk h.network h.order u v → IsRight h u v
  built_least u v k = right_below (suc (min u v)) u v k.0 (omega arith) k.1
