-- In a built hierarchy the rebuilt values are the least low drives.
use Rattle.std.proofs.Common.{◌≡◌, ◌≢◌, ◌≤◌, ◌<◌, ◌+◌, ◌*◌, ◌/◌, ◌%◌, ◌^◌, ◌∙◌, ◌⊎◌, ℕ, zero, suc, List, [], ◌∷◌, Option, Some, None, refl, sym, ap, subst, arith, inl, inr, min}
use Rattle.std.specs.Prelude.{All, option_map, slice_get}
use Rattle.std.proofs.lemmas.List.Elements.{All-cons, All-nil}
use Rattle.std.proofs.lemmas.Nat.{div-add-mod', mod_below}
use Rattle.std.proofs.lemmas.Option.{same_Some}
use Rattle.cu_model.specs.declared.limits.TheConstants.{MAX_NODES, MAX_UNTIL}
use Rattle.cu_model.specs.Days.{day}
use Rattle.cu_model.specs.Roads.{drive}
use Rattle.cu_arrival.specs.declared.runs.Run.{Run}
use Rattle.cu_arrival.specs.Runs.{arrival_value}
use Rattle.cu_chordal.specs.declared.graph.Ends.{Ends}
use Rattle.cu_interval.specs.declared.ways.Dir.{Dir}
use Rattle.cu_interval.specs.declared.ways.Entry.{Entry}
use Rattle.cu_interval.specs.declared.ways.Way.{Way}
use Rattle.cu_interval.specs.declared.ways.Way.TheVariants.{Road, Via}
use Rattle.cu_interval.specs.FirstWays.{Arrives, IsCandidate}
use Rattle.cu_interval.specs.Hierarchies.{HierarchyValue, IsBuilt, IsWellFormed, list_from, start_of, end_of}
use Rattle.cu_interval.specs.Low.{HasLowWalk, IsLeastLowDrive}
use Rattle.cu_interval.specs.Resettling.{least_in, lesser_of, rebuilt, rebuilt_by, then_at, value_by}
use Rattle.cu_interval.specs.Unpacking.{unpacked_walk}
use Rattle.cu_interval.proofs.BuiltWalks.{arrives_once, built_least, own_walk, right_below}
use Rattle.cu_interval.proofs.Days.{built_first, least-days}
use Rattle.cu_interval.proofs.EndsLaws.{ends_apart, ends_range}
use Rattle.cu_interval.proofs.Lookups.{list_formed, list_from-edge, way_held}
use Rattle.cu_interval.proofs.Near.{least_near}
use Rattle.cu_interval.proofs.Rebuilding.{rebuilt-fuel}
use Rattle.cu_interval.proofs.Unpacked.{list_from_spelled, unpacked-low, way_there}
use Rattle.cu_chordal.proofs.Tables.{edge_within}
use Rattle.cu_interval.specs.Hierarchies.{graph_of}
use Rattle.cu_unpack.specs.LeastFunctions.{IsLeastFunction}
use Rattle.cu_unpack.specs.Rebuilds.{IsRebuiltFunction}

-- the value of an entry's way is there, and isn't less than this
abbrev IsNoLess : (Way → Option ℕ) → ℕ → Entry → Type 0
IsNoLess value least entry = (b : ℕ) × (value entry.way ≡ Some b) × (least ≤ b)

-- where no value is less than one, that one is the least in the list
abbrev IsLeastIn : (Way → Option ℕ) → ℕ → List Entry → Type 0
IsLeastIn value least entries = least_in value entries ≡ Some least

lesser_no_less : (least b c : ℕ) (o : Option ℕ) → lesser_of (Some b) o ≡ Some c → least ≤ b → ((d : ℕ) → o ≡ Some d → least ≤ d) → least ≤ c
lesser_no_less least b c None e le rest = let same : b ≡ c = cc e in omega (arith, le, same)
lesser_no_less least b c (Some d) e le rest = let more = rest d refl in let same : min b d ≡ c = cc e in omega (arith, le, more, same)

no_less : (value : Way → Option ℕ) (least : ℕ) (entries : List Entry) → All (IsNoLess value least) entries → (c : ℕ) → least_in value entries ≡ Some c → least ≤ c
no_less value least [] all c e = absurd (cc e)
no_less value least (entry ∷ entries) all c e =
    let (b, is, le) = all 0 entry (omega arith) in
    lesser_no_less least b c (least_in value entries) (sym (ap (λ (v : Option ℕ). lesser_of v (least_in value entries)) is) ∙ e) le
    (λ d rest. no_less value least entries (λ i k lt. all (suc i) k (omega (arith, lt))) d rest)

lesser_first : (least : ℕ) (o : Option ℕ) → ((c : ℕ) → o ≡ Some c → least ≤ c) → lesser_of (Some least) o ≡ Some least
lesser_first least None le = refl
lesser_first least (Some c) le = let more = le c refl in ap Some (omega (arith, more))

least_at : (value : Way → Option ℕ) (least : ℕ) (entries : List Entry) → All (IsNoLess value least) entries
    → All (λ (entry : Entry). value entry.way ≡ Some least → IsLeastIn value least entries) entries
least_at value least [] all = All-nil (λ (entry : Entry). value entry.way ≡ Some least → IsLeastIn value least [])
least_at value least (entry ∷ entries) all =
    let rest : All (IsNoLess value least) entries = λ i k lt. all (suc i) k (omega (arith, lt)) in
    All-cons (λ (e : Entry). value e.way ≡ Some least → IsLeastIn value least (entry ∷ entries)) entry entries
    (λ is. ap (λ (v : Option ℕ). lesser_of v (least_in value entries)) is ∙ lesser_first least (least_in value entries) (no_less value least entries rest))
    (λ i k lt is.
    let (b, at, le) = all 0 entry (omega arith) in
    let same : min b least ≡ least = omega (arith, le) in
    ap (λ (v : Option ℕ). lesser_of v (least_in value entries)) at ∙ ap (lesser_of (Some b)) (least_at value least entries rest i k lt is) ∙ ap Some same)

no_earlier : (a b : ℕ) (P : Type 0) → (a < b) ⊎ ((a ≡ b) × P) → a ≤ b
no_earlier a b P (inl less) = omega (arith, less)
no_earlier a b P (inr tie) = let same = tie.0 in omega (arith, same)

-- the rebuilt values are the least low drives
abbrev pub IsRightValue : HierarchyValue → ℕ → ℕ → Type 0
IsRightValue h u v = HasLowWalk h.network h.order u v → (t : ℕ) → (a : ℕ) × (rebuilt h u v t ≡ Some a) × IsLeastLowDrive h.network h.order u v t a

-- so they are between all ranks of which one is below this
abbrev pub AreRightValues : HierarchyValue → ℕ → Type 0
AreRightValues h m = (x y : ℕ) → min x y < m → IsRightValue h x y

module _ (h : HierarchyValue) (f : IsBuilt h) where
  pub some_walk : (u v : ℕ) → u ≢ v → list_from h u v ≢ [] → HasLowWalk h.network h.order u v
  some_walk u v apart some = (unpacked_walk h u v 0, unpacked-low h f.sound u v 0 apart some)

  formed_candidate : (u v : ℕ) (way : Way) → IsWellFormed h u v way → IsCandidate h.network h.order u v way
  formed_candidate u v (Road a) leads = leads
  formed_candidate u v (Via m) (mu, mv, one, two, to, on) =
      (mu, mv, some_walk u m (λ same. absurd (omega (arith, same, mu))) to, some_walk m v (λ same. absurd (omega (arith, same, mv))) on)

  -- a well-formed way arrives, and its value is when
  way_arrives : (u v s : ℕ) → AreRightValues h (min u v) → s < day → (way : Way) → IsWellFormed h u v way
      → (b : ℕ) × (value_by h.network (rebuilt_by h (min u v)) u v s way ≡ Some b) × Arrives h.network h.order u v s way b
  way_arrives u v s lower early (Road a) leads = (drive h.network (a ∷ []) s, refl, refl)
  way_arrives u v s lower early (Via m) formed =
      let (mu, mv, one, two, to, on) = formed in
      let (cu, cv, first, second) = formed_candidate u v (Via m) formed in
      let (x, is, least) = lower u m (omega (arith, mu, mv)) first s in
      let (y, at, later) = lower m v (omega (arith, mu, mv)) second x in
      let half : rebuilt_by h (min u v) u m s ≡ Some x = rebuilt-fuel h f.sound (min u v) (suc (min u m)) u m s (omega (arith, mu, mv)) (omega arith) ∙ is in
      let rest : rebuilt_by h (min u v) m v x ≡ Some y = rebuilt-fuel h f.sound (min u v) (suc (min m v)) m v x (omega (arith, mu, mv)) (omega arith) ∙ at in
      let near = least_near h.network h.order f.sound.network u m s x least in
      let far = least_near h.network h.order f.sound.network m v x y later in
      let within = (edge_within (graph_of h) f.sound.graph m u one).1 in
      let few = f.sound.network.few_nodes in
      let near_by : x ≤ s + MAX_NODES * MAX_UNTIL = omega (arith, near, mu, within, few) in
      let far_by : y ≤ x + MAX_NODES * MAX_UNTIL = omega (arith, far, mu, within, few) in
      let same : min y (2 ^ 62) ≡ y = omega (arith, near_by, far_by, early) in (
        y,
        ap (λ (o : Option ℕ). then_at o (rebuilt_by h (min u v) m v)) half ∙ ap (option_map (λ (z : ℕ). min z (2 ^ 62))) rest ∙ ap Some same,
        (x, least, later),
      )

  -- over the day the least value of the ways is the arrival of the one in force
  least_in_day : (u v s : ℕ) → AreRightValues h (min u v) → HasLowWalk h.network h.order u v → s < day
      → (a : ℕ) × (least_in (value_by h.network (rebuilt_by h (min u v)) u v s) (list_from h u v) ≡ Some a) × IsLeastLowDrive h.network h.order u v s a
  least_in_day u v s lower walk early =
      let value = value_by h.network (rebuilt_by h (min u v)) u v s in
      let right = built_least h f u v walk in
      let entries = list_from h u v in
      let (way, e) = way_there entries (list_from_spelled h f.sound u v) right.0 (s % day) in
      let first = built_first h f u v s way e in
      let all : All (IsNoLess value first.arrival) entries = λ i d within.
      let formed = list_formed h f.sound u v i d within in
      let (b, is, arrives) = way_arrives u v s lower early _ formed in
      (b, is, no_earlier first.arrival b _ (first.first _ b (formed_candidate u v _ formed) arrives)) in
      let own = way_held (λ w. IsWellFormed h u v w × (value w ≡ Some first.arrival → IsLeastIn value first.arrival entries)) entries (s % day) way
      (λ i d within. (list_formed h f.sound u v i d within, least_at value first.arrival entries all i d within)) e in
      let (b, is, arrives) = way_arrives u v s lower early way own.0 in
      let same : b ≡ first.arrival = arrives_once h.network h.order u v s way b first.arrival arrives first.arrives in
      let driven = own_walk h f u v s (right_below h f (min u v)) way e first.arrival first.candidate first.arrives in
      (first.arrival, own.1 (is ∙ ap Some same), subst (IsLeastLowDrive h.network h.order u v s) driven (right.1 s))

  right_value : (u v : ℕ) → AreRightValues h (min u v) → IsRightValue h u v
  right_value u v lower walk t =
      let (a, is, least) = least_in_day u v (t % day) lower walk (mod_below t day (omega arith)) in
      let later = least-days h.network h.order f.sound.network u v (t / day) (t % day) a least in
      let whole : (t / day) * day + t % day ≡ t = div-add-mod' t day in
      let days : (t / day) * day + a ≡ day * (t / day) + a = omega arith in (
        day * (t / day) + a,
        ap (option_map (λ (value : ℕ). day * (t / day) + value)) is,
        subst (IsLeastLowDrive h.network h.order u v t) days (subst (λ (x : ℕ). IsLeastLowDrive h.network h.order u v x ((t / day) * day + a)) whole later),
      )

  pub right_values : (m : ℕ) → AreRightValues h m
  right_values zero x y lt = absurd (omega (arith, lt))
  right_values (suc m) x y lt = right_value x y (λ p q less. right_values m p q (omega (arith, less, lt)))

  -- the rebuilt function of an edge in a direction is that of the least low drives between its ends
  pub rebuilt_least : (edge : ℕ) (dir : Dir) (ends : Ends) (function : Option (List Run)) → slice_get h.edges edge ≡ Some ends → IsRebuiltFunction h edge dir function
      → IsLeastFunction h.network h.order (start_of ends dir) (end_of ends dir) function
  rebuilt_least edge dir ends None at is = λ walk.
      (built_least h f (start_of ends dir) (end_of ends dir) walk).0 (list_from-edge h f.sound edge dir ends at ∙ is)
  rebuilt_least edge dir ends (Some runs) at is = λ t.
      let u = start_of ends dir in
      let v = end_of ends dir in
      let range = ends_range h f.sound edge ends at in
      let walk = some_walk u v (ends_apart ends dir range.0) (λ none. is.0 (sym (list_from-edge h f.sound edge dir ends at) ∙ none)) in
      let (a, value, least) = right_values (suc (min u v)) u v (omega arith) walk t in
      subst (IsLeastLowDrive h.network h.order u v t) (same_Some a (arrival_value runs t) (sym value ∙ is.2 ends at t)) least
