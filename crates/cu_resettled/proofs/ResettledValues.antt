-- Where the lists of a hierarchy are built, the rebuilt values are the least low drives.
use Rattle.std.proofs.Common.{◌≡◌, ◌≢◌, ◌≤◌, ◌<◌, ◌+◌, ◌*◌, ◌/◌, ◌%◌, ◌^◌, ◌∙◌, ◌⊎◌, ℕ, suc, List, [], ◌∷◌, Option, Some, None, refl, sym, ap, subst, arith, inl, inr, min}
use Rattle.std.specs.Prelude.{All, option_map}
use Rattle.std.proofs.lemmas.List.Elements.{All-cons, All-nil}
use Rattle.std.proofs.lemmas.Nat.{div-add-mod', mod_below}
use Rattle.std.proofs.lemmas.Option.{same_Some}
use Rattle.cu_model.specs.Days.{day}
use Rattle.cu_model.specs.Roads.{drive}
use Rattle.cu_interval.specs.declared.ways.Way.{Way}
use Rattle.cu_interval.specs.declared.ways.Way.TheVariants.{Road, Via}
use Rattle.cu_interval.specs.declared.ways.Entry.{Entry}
use Rattle.cu_interval.specs.FirstWays.{Arrives, IsBuiltList, IsCandidate, IsFirstWay}
use Rattle.cu_interval.specs.Hierarchies.{HierarchyValue, IsHierarchy, IsWellFormed, list_from}
use Rattle.cu_interval.specs.Low.{HasLowWalk, IsLeastLowDrive}
use Rattle.cu_interval.specs.Resettling.{ArrivesIn, IsCandidateIn, IsResettledList, least_in, lesser_of, rebuilt, rebuilt_by, then_at, value_by}
use Rattle.cu_interval.proofs.Days.{least-days}
use Rattle.cu_interval.proofs.Lookups.{list_formed, way_held}
use Rattle.cu_interval.proofs.Rebuilding.{least_in-same, rebuilt-fuel, then_at-same}
use Rattle.cu_interval.proofs.Unpacked.{unpacked-low, way_there}
use Rattle.cu_interval.specs.Unpacking.{unpacked_walk}
use Rattle.cu_interval.proofs.BuiltWalks.{arrives_once}
use Rattle.cu_interval.proofs.Bounds.{least-near}
use Rattle.cu_interval.proofs.LowLists.{HasLeastBelow, built_some, runs_by}
use Rattle.cu_resettled.proofs.ResettledLows.{first_is_least}

-- where a low walk leads, the list isn't empty, and the rebuilt value is the least low drive
pub record IsRebuilt (h : HierarchyValue) (u v : ℕ) : Type 0 where
  pub some : HasLowWalk h.network h.order u v → list_from h u v ≢ []
  pub value : HasLowWalk h.network h.order u v → (t : ℕ) → (a : ℕ) × (rebuilt h u v t ≡ Some a) × IsLeastLowDrive h.network h.order u v t a

-- so it is between all ranks of which one is below this
abbrev pub AreRebuiltBelow : HierarchyValue → ℕ → Type 0
AreRebuiltBelow h m = (x y : ℕ) → min x y < m → IsRebuilt h x y

pub has_least_below : (h : HierarchyValue) (m : ℕ) → AreRebuiltBelow h m → HasLeastBelow h.network h.order m
has_least_below h m lower x y t w lt low = let (a, e, least) = (lower x y lt).value (w, low) t in (a, least)

-- a list that isn't empty has a low walk
pub some_walk : (h : HierarchyValue) → IsHierarchy h → (u v : ℕ) → u ≢ v → list_from h u v ≢ [] → HasLowWalk h.network h.order u v
some_walk h sound u v apart some = (unpacked_walk h u v 0, unpacked-low h sound u v 0 apart some)

-- the value of each entry's way is there, and none is less than this
abbrev pub IsNoLess : (Way → Option ℕ) → ℕ → Entry → Type 0
IsNoLess value least entry = (b : ℕ) × (value entry.way ≡ Some b) × (least ≤ b)

abbrev pub AreNoLess : (Way → Option ℕ) → ℕ → List Entry → Type 0
AreNoLess value least entries = All (IsNoLess value least) entries

no_less : (value : Way → Option ℕ) (least lower : ℕ) (entries : List Entry) → lower ≤ least → AreNoLess value least entries → AreNoLess value lower entries
no_less value least lower entries le all i d lt = let (b, e, more) = all i d lt in (b, e, omega (arith, le, more))

-- the least value in a list: no less than what none is less than, and no value is less than it
least_in_list : (value : Way → Option ℕ) (lower : ℕ) (entry : Entry) (entries : List Entry) → AreNoLess value lower (entry ∷ entries)
    → (c : ℕ) × (least_in value (entry ∷ entries) ≡ Some c) × (lower ≤ c) × AreNoLess value c (entry ∷ entries)
least_in_list value lower entry [] all =
    let (b, e, le) = all 0 entry (omega arith) in
    (b, ap (λ (o : Option ℕ). lesser_of o None) e, le, All-cons (IsNoLess value b) entry [] (b, e, omega arith) (All-nil (IsNoLess value b)))
least_in_list value lower entry (next ∷ entries) all =
    let (b, e, le) = all 0 entry (omega arith) in
    let (c, is, more, rest) = least_in_list value lower next entries (λ i d lt. all (suc i) d (omega (arith, lt))) in (
      min b c,
      ap (λ (o : Option ℕ). lesser_of o (least_in value (next ∷ entries))) e ∙ ap (lesser_of (Some b)) is,
      omega (arith, le, more),
      All-cons (IsNoLess value (min b c)) entry (next ∷ entries) (b, e, omega arith) (no_less value c (min b c) (next ∷ entries) (omega arith) rest),
    )

pub least_in_some : (value : Way → Option ℕ) (lower : ℕ) (entries : List Entry) → entries ≢ [] → AreNoLess value lower entries
    → (c : ℕ) × (least_in value entries ≡ Some c) × (lower ≤ c) × AreNoLess value c entries
least_in_some value lower [] some all = absurd (some refl)
least_in_some value lower (entry ∷ entries) some all = least_in_list value lower entry entries all

no_earlier : (a b : ℕ) (P : Type 0) → (a < b) ⊎ ((a ≡ b) × P) → a ≤ b
no_earlier a b P (inl less) = omega (arith, less)
no_earlier a b P (inr tie) = let same = tie.0 in omega (arith, same)

value_by_fuel : (h : HierarchyValue) → IsHierarchy h → (u v s : ℕ) (way : Way) → IsWellFormed h u v way
    → value_by h.network (rebuilt_by h (min u v)) u v s way ≡ value_by h.network (rebuilt h) u v s way
value_by_fuel h sound u v s (Road r) formed = refl
value_by_fuel h sound u v s (Via m) (mu, mv, one, two, some, other) =
    then_at-same (rebuilt_by h (min u v) u m s) (rebuilt h u m s) (rebuilt_by h (min u v) m v) (rebuilt h m v)
    (rebuilt-fuel h sound (min u v) (suc (min u m)) u m s (omega (arith, mu, mv)) (omega arith))
    (λ x. rebuilt-fuel h sound (min u v) (suc (min m v)) m v x (omega (arith, mu, mv)) (omega arith))

-- the rebuilt value is the least value of the ways in the list by the rebuilt values of their halves
pub rebuilt_is : (h : HierarchyValue) → IsHierarchy h → (u v t : ℕ)
    → rebuilt h u v t ≡ option_map (λ (value : ℕ). day * (t / day) + value) (least_in (value_by h.network (rebuilt h) u v (t % day)) (list_from h u v))
rebuilt_is h sound u v t =
    ap (option_map (λ (value : ℕ). day * (t / day) + value)) (least_in-same
    (value_by h.network (rebuilt_by h (min u v)) u v (t % day)) (value_by h.network (rebuilt h) u v (t % day)) (list_from h u v)
    (λ i d lt. value_by_fuel h sound u v (t % day) _ (list_formed h sound u v i d lt)))

module _ (h : HierarchyValue) (sound : IsHierarchy h) (u v : ℕ) (lower : AreRebuiltBelow h (min u v)) where
  -- a candidate's value is its arrival
  pub candidate_value : (s : ℕ) (way : Way) → s < day → IsCandidate h.network h.order u v way
      → (a : ℕ) × (value_by h.network (rebuilt h) u v s way ≡ Some a) × Arrives h.network h.order u v s way a
  candidate_value s (Road r) lt leads = (drive h.network (r ∷ []) s, refl, refl)
  candidate_value s (Via m) lt (mu, mv, one, two) =
      let (x, first, to) = (lower u m (omega (arith, mu, mv))).value one s in
      let (y, second, on) = (lower m v (omega (arith, mu, mv))).value two x in
      let near = least-near h.network h.order sound.network sound.order u m s x to in
      let far = least-near h.network h.order sound.network sound.order m v x y on in
      let same : min y (2 ^ 62) ≡ y = omega (arith, near, far, lt) in (
        y,
        ap (λ (o : Option ℕ). then_at o (rebuilt h m v)) first ∙ ap (option_map (λ (z : ℕ). min z (2 ^ 62))) second ∙ ap (λ (z : ℕ). Some z) same,
        (x, to, on),
      )

  -- the candidates of the hierarchy are those by low walks, and arrive when these do
  candidate_there : (way : Way) → IsCandidateIn h u v way → IsCandidate h.network h.order u v way
  candidate_there (Road r) leads = leads
  candidate_there (Via m) (mu, mv, one, two) =
      (mu, mv, some_walk h sound u m (λ same. omega (arith, same, mu)) one, some_walk h sound m v (λ same. omega (arith, same, mv)) two)

  candidate_back : (way : Way) → IsCandidate h.network h.order u v way → IsCandidateIn h u v way
  candidate_back (Road r) leads = leads
  candidate_back (Via m) (mu, mv, one, two) = (mu, mv, (lower u m (omega (arith, mu, mv))).some one, (lower m v (omega (arith, mu, mv))).some two)

  arrival_there : (s a : ℕ) (way : Way) → s < day → IsCandidate h.network h.order u v way → ArrivesIn h u v s way a → Arrives h.network h.order u v s way a
  arrival_there s a way lt candidate e =
      let (b, is, arrives) = candidate_value s way lt candidate in
      subst (Arrives h.network h.order u v s way) (same_Some b a (sym is ∙ e)) arrives

  arrival_back : (s a : ℕ) (way : Way) → s < day → IsCandidate h.network h.order u v way → Arrives h.network h.order u v s way a → ArrivesIn h u v s way a
  arrival_back s a way lt candidate here =
      let (b, is, arrives) = candidate_value s way lt candidate in
      is ∙ ap (λ (x : ℕ). Some x) (arrives_once h.network h.order u v s way b a arrives here)

  -- so a resettled list is the built one
  pub resettled_list_built : (entries : List Entry) → IsResettledList h u v entries → IsBuiltList h.network h.order u v entries
  resettled_list_built entries settled =
      runs_by (IsCandidateIn h u v) (IsCandidate h.network h.order u v) (ArrivesIn h u v)
      (Arrives h.network h.order u v) entries candidate_there candidate_back arrival_there arrival_back settled

  -- and the built list is the resettled one
  pub built_list_resettled : (entries : List Entry) → IsBuiltList h.network h.order u v entries → IsResettledList h u v entries
  built_list_resettled entries built =
      runs_by (IsCandidate h.network h.order u v) (IsCandidateIn h u v) (Arrives h.network h.order u v) (ArrivesIn h u v) entries candidate_back candidate_there
      (λ s a way lt candidate e. arrival_back s a way lt (candidate_there way candidate) e)
      (λ s a way lt candidate e. arrival_there s a way lt (candidate_there way candidate) e) built

  formed_candidate : (way : Way) → IsWellFormed h u v way → IsCandidate h.network h.order u v way
  formed_candidate (Road r) leads = leads
  formed_candidate (Via m) (mu, mv, one, two, some, other) = candidate_there (Via m) (mu, mv, some, other)

  -- over the day the least value of a built list is the arrival of the way in force
  least_of_built : u ≢ v → IsBuiltList h.network h.order u v (list_from h u v) → list_from h u v ≢ [] → (s : ℕ) → s < day
      → (a : ℕ) × (least_in (value_by h.network (rebuilt h) u v s) (list_from h u v) ≡ Some a) × IsLeastLowDrive h.network h.order u v s a
  least_of_built apart built some s lt =
      let value = value_by h.network (rebuilt h) u v s in
      let (way, e) = way_there (list_from h u v) built.spelled some s in
      let first : IsFirstWay h.network h.order u v s way = built.first s way lt e in
      let all : AreNoLess value first.arrival (list_from h u v) = λ i d within.
      let candidate = formed_candidate _ (list_formed h sound u v i d within) in
      let (b, is, arrives) = candidate_value s _ lt candidate in
      (b, is, no_earlier first.arrival b _ (first.first _ b candidate arrives)) in
      let (c, is, more, rest) = least_in_some value first.arrival (list_from h u v) some all in
      let (b, at, less) = way_held (λ w. (b : ℕ) × (value w ≡ Some b) × (c ≤ b)) (list_from h u v) s way rest e in
      let own : value way ≡ Some first.arrival = arrival_back s first.arrival way lt first.candidate first.arrives in
      let same : b ≡ first.arrival = same_Some b first.arrival (sym at ∙ own) in
      let least : first.arrival ≡ c = omega (arith, more, less, same) in
      let here = first_is_least h.network h.order sound.network u v s apart (has_least_below h (min u v) lower) way first in
      (c, is, subst (IsLeastLowDrive h.network h.order u v s) least here)

  value_of_built : u ≢ v → IsBuiltList h.network h.order u v (list_from h u v) → list_from h u v ≢ [] → (t : ℕ)
      → (a : ℕ) × (rebuilt h u v t ≡ Some a) × IsLeastLowDrive h.network h.order u v t a
  value_of_built apart built some t =
      let (a, is, least) = least_of_built apart built some (t % day) (mod_below t day (omega arith)) in
      let later = least-days h.network h.order sound.network u v (t / day) (t % day) a least in
      let whole : (t / day) * day + t % day ≡ t = div-add-mod' t day in
      let days : (t / day) * day + a ≡ day * (t / day) + a = omega arith in (
        day * (t / day) + a,
        rebuilt_is h sound u v t ∙ ap (option_map (λ (value : ℕ). day * (t / day) + value)) is,
        subst (IsLeastLowDrive h.network h.order u v t) days (subst (λ (x : ℕ). IsLeastLowDrive h.network h.order u v x ((t / day) * day + a)) whole later),
      )

  -- where the list of two ranks is built, their rebuilt value is right
  pub built_rebuilt : (HasLowWalk h.network h.order u v → IsBuiltList h.network h.order u v (list_from h u v)) → IsRebuilt h u v
  built_rebuilt built =
      let some : HasLowWalk h.network h.order u v → list_from h u v ≢ [] = λ walk.
      built_some h.network h.order sound.network u v (has_least_below h (min u v) lower) (list_from h u v) (built walk) walk in
      record { some = some; value = λ walk t. value_of_built walk.1.0 (built walk) (some walk) t }
