-- What a rebuilt value reads: lists from lower ends no higher than its own, and when their roads arrive.
use Rattle.std.proofs.Common.{◌≡◌, ◌≤◌, ◌<◌, ◌+◌, ◌*◌, ◌/◌, ◌%◌, ◌∙◌, ℕ, zero, suc, List, [], Option, Some, None, refl, ap, subst, arith, inl, inr, min, ltb, true, false, if◌then◌else◌}
use Rattle.std.specs.Prelude.{All, option_map, slice_get}
use Rattle.std.proofs.lemmas.Bool.{cases_lt}
use Rattle.cu_model.specs.Days.{day}
use Rattle.cu_model.specs.Roads.{arc_value}
use Rattle.cu_chordal.specs.declared.graph.Ends.{Ends}
use Rattle.cu_interval.specs.declared.ways.Dir.{Dir}
use Rattle.cu_interval.specs.declared.ways.Dir.TheVariants.{Up, Down}
use Rattle.cu_interval.specs.declared.ways.Way.{Way}
use Rattle.cu_interval.specs.declared.ways.Way.TheVariants.{Road, Via}
use Rattle.cu_interval.specs.declared.ways.Entry.{Entry}
use Rattle.cu_interval.specs.Hierarchies.{HierarchyValue, IsWellFormed, end_of, list_from, list_of, list_of_some, number_from, start_of}
use Rattle.cu_interval.specs.Resettling.{least_in, rebuilt, rebuilt_by, value_by}
use Rattle.cu_interval.proofs.Lookups.{number_found}
use Rattle.cu_interval.proofs.Rebuilding.{least_in-same, then_at-same}

-- the list from u to v among edges that are given
abbrev list_in : HierarchyValue → List Ends → ℕ → ℕ → List Entry
list_in h edges u v = if ltb u v then list_of_some h (number_from 0 edges u v) Up else list_of_some h (number_from 0 edges v u) Down

both_by : (h k : HierarchyValue) (Fact : List Entry → List Entry → Type 0) (number : Option ℕ) (dir : Dir) → Fact [] []
    → ((edge : ℕ) → number ≡ Some edge → Fact (list_of h edge dir) (list_of k edge dir))
    → Fact (list_of_some h number dir) (list_of_some k number dir)
both_by h k Fact None dir none each = none
both_by h k Fact (Some edge) dir none each = each edge refl

-- a fact of the lists from u to v in two hierarchies with the same edges: of no lists, or of those of an edge from u to v
pub lists_from_both : (h k : HierarchyValue) (u v : ℕ) (Fact : List Entry → List Entry → Type 0) → h.edges ≡ k.edges → Fact [] []
    → ((edge : ℕ) (dir : Dir) (ends : Ends) → slice_get h.edges edge ≡ Some ends → start_of ends dir ≡ u → end_of ends dir ≡ v → ends.low ≡ min u v
    → Fact (list_of h edge dir) (list_of k edge dir))
    → Fact (list_from h u v) (list_from k u v)
lists_from_both h k u v Fact edges none each =
    subst (λ (es : List Ends). Fact (list_from h u v) (list_in k es u v)) edges (elim (cases_lt u v) [
      | inl lt ↦
          let up : ltb u v ≡ true = grind (arith, lt) in
          rw up (both_by h k Fact (number_from 0 h.edges u v) Up none (λ edge e.
          let (j, is, at) = number_found 0 h.edges u v edge e in
          let same : edge ≡ j = omega (arith, is) in
          each edge Up (record { low = u; high = v }) (ap (slice_get h.edges) same ∙ at) refl refl (omega (arith, lt))))
      | inr ge ↦
          let down : ltb u v ≡ false = grind (arith, ge) in
          rw down (both_by h k Fact (number_from 0 h.edges v u) Down none (λ edge e.
          let (j, is, at) = number_found 0 h.edges v u edge e in
          let same : edge ≡ j = omega (arith, is) in
          each edge Down (record { low = v; high = u }) (ap (slice_get h.edges) same ∙ at) refl refl (omega (arith, ge))))
    ])

-- of what two hierarchies read for the ways from u to v: a road arrives at the same seconds, and both halves are read as well
abbrev pub IsReadAlike : HierarchyValue → HierarchyValue → (ℕ → ℕ → Type 0) → ℕ → ℕ → Way → Type 0
IsReadAlike h k IsRead u v (Road a) = (t : ℕ) → arc_value h.network a t ≡ arc_value k.network a t
IsReadAlike h k IsRead u v (Via m) = IsRead u m × IsRead m v

-- two hierarchies with the same lists between ranks that are read
pub record AreReadAlike (h k : HierarchyValue) (IsRead : ℕ → ℕ → Type 0) : Type 0 where
  pub lists : (u v : ℕ) → IsRead u v → list_from h u v ≡ list_from k u v
  pub ways : (u v : ℕ) → IsRead u v → All (λ (entry : Entry). IsReadAlike h k IsRead u v entry.way) (list_from h u v)

module _ (h k : HierarchyValue) (IsRead : ℕ → ℕ → Type 0) (alike : AreReadAlike h k IsRead) where
  value_alike : (half more : ℕ → ℕ → ℕ → Option ℕ) (u v t : ℕ) (way : Way) → IsReadAlike h k IsRead u v way
      → ((x y s : ℕ) → IsRead x y → half x y s ≡ more x y s)
      → value_by h.network half u v t way ≡ value_by k.network more u v t way
  value_alike half more u v t (Road a) same halves = ap (λ (x : ℕ). Some x) (same t)
  value_alike half more u v t (Via m) (to, on) halves = then_at-same (half u m t) (more u m t) (half m v) (more m v) (halves u m t to) (λ x. halves m v x on)

  rebuilt_by_alike : (fuel u v t : ℕ) → IsRead u v → rebuilt_by h fuel u v t ≡ rebuilt_by k fuel u v t
  rebuilt_by_alike zero u v t read = refl
  rebuilt_by_alike (suc fuel) u v t read =
      let ways = alike.ways u v read in
      let same = least_in-same (value_by h.network (rebuilt_by h fuel) u v (t % day)) (value_by k.network (rebuilt_by k fuel) u v (t % day)) (list_from h u v)
      (λ i d lt. value_alike (rebuilt_by h fuel) (rebuilt_by k fuel) u v (t % day) _ (ways i d lt) (λ x y s inner. rebuilt_by_alike fuel x y s inner)) in
      ap (option_map (λ (value : ℕ). day * (t / day) + value))
      (same ∙ ap (least_in (value_by k.network (rebuilt_by k fuel) u v (t % day))) (alike.lists u v read))

  -- hierarchies that are read alike between two ranks have the same rebuilt value there
  pub rebuilt_alike : (u v t : ℕ) → IsRead u v → rebuilt h u v t ≡ rebuilt k u v t
  rebuilt_alike u v t read = rebuilt_by_alike (suc (min u v)) u v t read

-- a road, or a middle below both ends
abbrev pub IsLowWay : ℕ → ℕ → Way → Type 0
IsLowWay u v (Road a) = Unit {0}
IsLowWay u v (Via m) = (m < u) × (m < v)

-- two hierarchies with the same edges, whose lists from lower ends up to a limit are the same, with middles below both ends, and whose roads
-- arrive at the same seconds
pub record AgreesBelow (h k : HierarchyValue) (limit : ℕ) : Type 0 where
  pub edges : h.edges ≡ k.edges
  pub lists : (edge : ℕ) (dir : Dir) (ends : Ends) → slice_get h.edges edge ≡ Some ends → ends.low ≤ limit → list_of h edge dir ≡ list_of k edge dir
  pub middles : (edge : ℕ) (dir : Dir) (ends : Ends) → slice_get h.edges edge ≡ Some ends → ends.low ≤ limit
      → All (λ (entry : Entry). IsLowWay (start_of ends dir) (end_of ends dir) entry.way) (list_of h edge dir)
  pub roads : (a t : ℕ) → arc_value h.network a t ≡ arc_value k.network a t

read_below : (h k : HierarchyValue) (limit u v : ℕ) (way : Way) → ((a t : ℕ) → arc_value h.network a t ≡ arc_value k.network a t) → IsLowWay u v way
    → min u v ≤ limit
    → IsReadAlike h k (λ x y. min x y ≤ limit) u v way
read_below h k limit u v (Road a) roads low le = roads a
read_below h k limit u v (Via m) roads (mu, mv) le = (omega (arith, mu, mv, le), omega (arith, mu, mv, le))

read_list : (h k : HierarchyValue) (limit u v : ℕ) (entries : List Entry) → ((a t : ℕ) → arc_value h.network a t ≡ arc_value k.network a t) → min u v ≤ limit
    → All (λ (entry : Entry). IsLowWay u v entry.way) entries → All (λ (entry : Entry). IsReadAlike h k (λ x y. min x y ≤ limit) u v entry.way) entries
read_list h k limit u v entries roads le low i d lt = read_below h k limit u v _ roads (low i d lt) le

-- the middles of a list are below both ends
low_list : (h k : HierarchyValue) (limit : ℕ) → AgreesBelow h k limit → (u v : ℕ) → min u v ≤ limit
    → All (λ (entry : Entry). IsLowWay u v entry.way) (list_from h u v)
low_list h k limit agree u v le =
    lists_from_both h h u v (λ one two. All (λ (entry : Entry). IsLowWay u v entry.way) one) refl (λ i d lt. absurd (omega (arith, lt)))
    (λ edge dir ends at from to low.
    subst (λ (x : ℕ). All (λ (entry : Entry). IsLowWay x v entry.way) (list_of h edge dir)) from
    (subst (λ (y : ℕ). All (λ (entry : Entry). IsLowWay (start_of ends dir) y entry.way) (list_of h edge dir)) to
    (agree.middles edge dir ends at (omega (arith, low, le)))))

-- the rebuilt value depends only on lists from lower ends up to its own
pub rebuilt_below : (h k : HierarchyValue) (limit : ℕ) → AgreesBelow h k limit → (u v t : ℕ) → min u v ≤ limit → rebuilt h u v t ≡ rebuilt k u v t
rebuilt_below h k limit agree u v t le =
    rebuilt_alike h k (λ x y. min x y ≤ limit) (record {
      lists = λ x y below. lists_from_both h k x y (λ one two. one ≡ two) agree.edges refl
          (λ edge dir ends at from to low. agree.lists edge dir ends at (omega (arith, low, below)));
      ways = λ x y below. read_list h k limit x y (list_from h x y) agree.roads below (low_list h k limit agree x y below);
    }) u v t le

pub formed_low : (h : HierarchyValue) (u v : ℕ) (way : Way) → IsWellFormed h u v way → IsLowWay u v way
formed_low h u v (Road a) formed = tt
formed_low h u v (Via m) formed = (formed.0, formed.1)
