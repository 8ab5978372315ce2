-- Where the lists from lower ends are of well formed ways, there is a resettled list between two ranks.
use Rattle.std.proofs.Common.{◌≡◌, ◌≢◌, ◌<◌, ◌+◌, ◌*◌, ◌/◌, ◌%◌, ◌^◌, ◌∙◌, ℕ, zero, suc, Bool, List, [], ◌∷◌, Option, Some, refl, ap, subst, arith, inl, inr, length, min, true, false}
use Rattle.std.specs.Prelude.{All, option_map, slice_get}
use Rattle.std.proofs.lemmas.Bool.{cases_lt}
use Rattle.cu_model.specs.Days.{day}
use Rattle.cu_model.specs.Roads.{drive, is_closed_arc}
use Rattle.cu_chordal.specs.declared.graph.Ends.{Ends}
use Rattle.cu_chordal.proofs.Decided.{Decided, between_within, both_decided}
use Rattle.cu_interval.specs.declared.ways.Dir.{Dir}
use Rattle.cu_interval.specs.declared.ways.Way.{Way}
use Rattle.cu_interval.specs.declared.ways.Way.TheVariants.{Road, Via}
use Rattle.cu_interval.specs.declared.ways.Entry.{Entry}
use Rattle.cu_interval.specs.Hierarchies.{HierarchyValue, IsWellFormed, end_of, list_from, list_of, start_of}
use Rattle.cu_interval.specs.Resettling.{ArrivesIn, IsCandidateIn, IsResettledList, rebuilt, rebuilt_by, then_at, value_by}
use Rattle.cu_resettled.proofs.FirstThere.{any_there, first_there}
use Rattle.cu_resettled.proofs.RebuiltBelow.{lists_from_both}
use Rattle.cu_resettled.proofs.ResettledDecided.{joins_decided}
use Rattle.cu_resettled.proofs.ResettledValues.{AreNoLess, least_in_some}
use Rattle.cu_resettled.proofs.RunsThere.{no_runs, runs_there}
use Rattle.cu_resettled.proofs.Unchanged.{joins_leads, leads_joins}

-- whether a way is a candidate is decided
closed_decided : (b : Bool) → Decided (b ≡ false)
closed_decided true = inr (λ e. absurd (cc e))
closed_decided false = inl refl

some_list : (entries : List Entry) → Decided (entries ≢ [])
some_list [] = inr (λ some. some refl)
some_list (entry ∷ entries) = inl (λ e. absurd (cc e))

less_than : (x y : ℕ) → Decided (x < y)
less_than x y =
    elim (cases_lt x y) [
      | inl less ↦ inl less
      | inr least ↦ inr (λ less. omega (arith, less, least))
    ]

candidate_decided : (h : HierarchyValue) (u v : ℕ) (way : Way) → Decided (IsCandidateIn h u v way)
candidate_decided h u v (Road a) =
    elim (both_decided _ _ (joins_decided (slice_get h.network.arcs a) h.order.rank_of u v) (closed_decided (is_closed_arc h.network a))) [
      | inl both ↦ inl (joins_leads h.network h.order a u v both.0 both.1)
      | inr off ↦ inr (λ leads. off (leads_joins h.network h.order a u v leads))
    ]
candidate_decided h u v (Via m) =
    elim (both_decided _ _ (both_decided _ _ (less_than m u) (less_than m v)) (both_decided _ _ (some_list (list_from h u m)) (some_list (list_from h m v)))) [
      | inl both ↦ inl (both.0.0, both.0.1, both.1.0, both.1.1)
      | inr off ↦ inr (λ c. off ((c.0, c.1), (c.2, c.3)))
    ]

-- the lists from lower ends below this are of ways that are well formed
abbrev pub AreFormedBelow : HierarchyValue → ℕ → Type 0
AreFormedBelow h low = (edge : ℕ) (dir : Dir) (ends : Ends) → slice_get h.edges edge ≡ Some ends → ends.low < low
    → All (λ (entry : Entry). IsWellFormed h (start_of ends dir) (end_of ends dir) entry.way) (list_of h edge dir)

-- so the ways between two ranks of which one is below it have values
module _ (h : HierarchyValue) (low : ℕ) (formed : AreFormedBelow h low) where
  formed_from : (x y : ℕ) → min x y < low → All (λ (entry : Entry). IsWellFormed h x y entry.way) (list_from h x y)
  formed_from x y lt =
      lists_from_both h h x y (λ one two. All (λ (entry : Entry). IsWellFormed h x y entry.way) one) refl (λ i d inside. absurd (omega (arith, inside)))
      (λ edge dir ends at from to is.
      subst (λ (u : ℕ). All (λ (entry : Entry). IsWellFormed h u y entry.way) (list_of h edge dir)) from
      (subst (λ (v : ℕ). All (λ (entry : Entry). IsWellFormed h (start_of ends dir) v entry.way) (list_of h edge dir)) to
      (formed edge dir ends at (omega (arith, is, lt)))))

  way_value : (half : ℕ → ℕ → ℕ → Option ℕ) (x y s : ℕ) (way : Way)
      → ((a b t : ℕ) → min a b < min x y → list_from h a b ≢ [] → (v : ℕ) × (half a b t ≡ Some v))
      → IsCandidateIn h x y way → (b : ℕ) × (value_by h.network half x y s way ≡ Some b)
  way_value half x y s (Road a) halves leads = (drive h.network (a ∷ []) s, refl)
  way_value half x y s (Via m) halves (mx, my, one, two) =
      let (p, to) = halves x m s (omega (arith, mx, my)) one in
      let (q, on) = halves m y p (omega (arith, mx, my)) two in
      (min q (2 ^ 62), ap (λ (o : Option ℕ). then_at o (half m y)) to ∙ ap (option_map (λ (z : ℕ). min z (2 ^ 62))) on)

  formed_candidate : (x y : ℕ) (way : Way) → IsWellFormed h x y way → IsCandidateIn h x y way
  formed_candidate x y (Road a) leads = leads
  formed_candidate x y (Via m) (mx, my, first, second, one, two) = (mx, my, one, two)

  value_there : (fuel x y t : ℕ) → min x y < fuel → min x y < low → list_from h x y ≢ [] → (a : ℕ) × (rebuilt_by h fuel x y t ≡ Some a)
  value_there zero x y t lt less some = absurd (omega (arith, lt))
  value_there (suc fuel) x y t lt less some =
      let value = value_by h.network (rebuilt_by h fuel) x y (t % day) in
      let all : AreNoLess value 0 (list_from h x y) = λ i d inside.
      let (b, is) = way_value (rebuilt_by h fuel) x y (t % day) _
      (λ p q s below there. value_there fuel p q s (omega (arith, below, lt)) (omega (arith, below, less)) there)
      (formed_candidate x y _ (formed_from x y less i d inside)) in
      (b, is, omega arith) in
      let (c, is, le, rest) = least_in_some value 0 (list_from h x y) some all in
      (day * (t / day) + c, ap (option_map (λ (v : ℕ). day * (t / day) + v)) is)

  candidate_value : (u v : ℕ) → ((m : ℕ) → m < u → m < v → m < low) → (s : ℕ) (way : Way) → IsCandidateIn h u v way
      → (a : ℕ) × (value_by h.network (rebuilt h) u v s way ≡ Some a)
  candidate_value u v below s (Road a) leads = (drive h.network (a ∷ []) s, refl)
  candidate_value u v below s (Via m) (mu, mv, one, two) =
      let lt = below m mu mv in
      let (p, to) = value_there (suc (min u m)) u m s (omega arith) (omega (arith, lt)) one in
      let (q, on) = value_there (suc (min m v)) m v p (omega arith) (omega (arith, lt)) two in
      (min q (2 ^ 62), ap (λ (o : Option ℕ). then_at o (rebuilt h m v)) to ∙ ap (option_map (λ (z : ℕ). min z (2 ^ 62))) on)

  few_roads : (u v a : ℕ) → IsCandidateIn h u v (Road a) → a < length h.network.arcs
  few_roads u v a leads = between_within h.network h.order u v a (inl (leads_joins h.network h.order a u v leads).0)

  -- and there is a resettled list
  pub list_there : (u v : ℕ) → ((m : ℕ) → m < u → m < v → m < low) → (entries : List Entry) × IsResettledList h u v entries
  list_there u v below =
      elim (any_there (IsCandidateIn h u v) (candidate_decided h u v) (length h.network.arcs) u (few_roads u v) (λ m c. c.0)) [
        | inl found ↦ runs_there (IsCandidateIn h u v) (ArrivesIn h u v) (λ s.
            first_there (IsCandidateIn h u v) (candidate_decided h u v) (length h.network.arcs) u (few_roads u v) (λ m c. c.0)
            (value_by h.network (rebuilt h) u v s) (candidate_value u v below s) found.0 found.1)
        | inr none ↦ ([], no_runs (IsCandidateIn h u v) (ArrivesIn h u v) none)
      ]
