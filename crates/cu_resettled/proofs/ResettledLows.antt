-- Where no road between two ranks is changed, nor a half of a way between them, the same lists are built in both networks.
use Rattle.std.proofs.Common.{◌≡◌, ◌≢◌, ◌<◌, ◌+◌, ◌*◌, ◌/◌, ◌%◌, ◌∙◌, ℕ, List, [], sym, subst, arith, min}
use Rattle.std.proofs.lemmas.Nat.{div-add-mod', mod_below}
use Rattle.cu_model.specs.Days.{day}
use Rattle.cu_model.specs.Networks.{NetworkValue, IsNetwork}
use Rattle.cu_model.specs.Orders.{OrderValue}
use Rattle.cu_interval.specs.declared.ways.Way.{Way}
use Rattle.cu_interval.specs.declared.ways.Way.TheVariants.{Road, Via}
use Rattle.cu_interval.specs.declared.ways.Entry.{Entry}
use Rattle.cu_interval.specs.FirstWays.{Arrives, IsBuiltList, IsCandidate, IsFirstWay}
use Rattle.cu_interval.specs.Low.{HasLowWalk, IsLeastLowDrive, LeadsRanks}
use Rattle.cu_interval.proofs.BuiltWalks.{arrives_once, least_unique}
use Rattle.cu_interval.proofs.Days.{least-days}
use Rattle.cu_interval.proofs.Middles.{first_least}
use Rattle.cu_interval.proofs.Unpacked.{way_there}
use Rattle.cu_interval.proofs.LowLists.{HasLeastBelow, built_some, candidate_walk, runs_by}
use Rattle.cu_resettled.proofs.ResettledRoads.{IsSameRoad, same_arrives, same_leads}

-- a first way arrives at the least low drive
pub first_is_least : (g : NetworkValue) (o : OrderValue) → IsNetwork g → (u v t : ℕ) → u ≢ v → HasLeastBelow g o (min u v) → (way : Way)
    → (first : IsFirstWay g o u v t way) → IsLeastLowDrive g o u v t first.arrival
first_is_least g o n u v t apart has way first = record {
  reached = candidate_walk g o u v t way first.arrival apart first.candidate first.arrives;
  least = first_least g o n u v t way has first;
}

-- what leads low from u to v in the first network does so in the second, and least drives arrive when they did
pub record KeepsLow (g h : NetworkValue) (o : OrderValue) (u v : ℕ) : Type 0 where
  pub walks : HasLowWalk g o u v → HasLowWalk h o u v
  pub drives : (t a : ℕ) → IsLeastLowDrive g o u v t a → IsLeastLowDrive h o u v t a

-- the roads between two ranks are the same, and so are the halves of ways between them
pub record KeepsWays (g h : NetworkValue) (o : OrderValue) (u v : ℕ) : Type 0 where
  pub roads : (a : ℕ) → LeadsRanks g o a u v → IsSameRoad g h a
  pub halves : (m : ℕ) → m < u → m < v → HasLowWalk g o u m → HasLowWalk g o m v → KeepsLow g h o u m × KeepsLow g h o m v

candidate_kept : (g h : NetworkValue) (o : OrderValue) (u v : ℕ) → KeepsWays g h o u v → (way : Way) → IsCandidate g o u v way → IsCandidate h o u v way
candidate_kept g h o u v keeps (Road a) leads = same_leads g h o a u v (keeps.roads a leads) leads
candidate_kept g h o u v keeps (Via m) (mu, mv, one, two) =
    let (first, second) = keeps.halves m mu mv one two in
    (mu, mv, first.walks one, second.walks two)

arrival_kept : (g h : NetworkValue) (o : OrderValue) (u v : ℕ) → KeepsWays g h o u v → (t a : ℕ) (way : Way) → IsCandidate g o u v way
    → Arrives g o u v t way a → Arrives h o u v t way a
arrival_kept g h o u v keeps t a (Road r) leads arrives = sym (same_arrives g h r t (keeps.roads r leads)) ∙ arrives
arrival_kept g h o u v keeps t a (Via m) (mu, mv, one, two) (between, to, on) =
    let (first, second) = keeps.halves m mu mv one two in
    (between, first.drives t between to, second.drives between a on)

-- the list that is built in one network is built in the other
pub built_kept : (g h : NetworkValue) (o : OrderValue) (u v : ℕ) → KeepsWays g h o u v → KeepsWays h g o u v → (entries : List Entry)
    → IsBuiltList g o u v entries → IsBuiltList h o u v entries
built_kept g h o u v there back entries built =
    runs_by (IsCandidate g o u v) (IsCandidate h o u v) (Arrives g o u v) (Arrives h o u v) entries (candidate_kept g h o u v there)
    (candidate_kept h g o u v back)
    (λ s a way lt d e. arrival_kept g h o u v there s a way (candidate_kept h g o u v back way d) e)
    (λ s a way lt d e. arrival_kept h g o u v back s a way d e) built

-- and at every second its way in force arrives at the least low drive of both
module _ (g h : NetworkValue) (o : OrderValue) (n : IsNetwork g) (k : IsNetwork h) (u v : ℕ) (apart : u ≢ v) (has : HasLeastBelow g o (min u v))
    (more : HasLeastBelow h o (min u v)) (keeps : KeepsWays g h o u v)
    (entries : List Entry) (built : IsBuiltList g o u v entries) (again : IsBuiltList h o u v entries) where
  least_in_day : entries ≢ [] → (s : ℕ) → s < day → (a : ℕ) × IsLeastLowDrive g o u v s a × IsLeastLowDrive h o u v s a
  least_in_day some s lt =
      let (way, e) = way_there entries built.spelled some s in
      let first = built.first s way lt e in
      let second = again.first s way lt e in
      let moved = arrival_kept g h o u v keeps s first.arrival way first.candidate first.arrives in
      let same : second.arrival ≡ first.arrival = arrives_once h o u v s way second.arrival first.arrival second.arrives moved in (
        first.arrival,
        first_is_least g o n u v s apart has way first,
        subst (IsLeastLowDrive h o u v s) same (first_is_least h o k u v s apart more way second),
      )

  least_both : entries ≢ [] → (t : ℕ) → (a : ℕ) × IsLeastLowDrive g o u v t a × IsLeastLowDrive h o u v t a
  least_both some t =
      let (a, one, two) = least_in_day some (t % day) (mod_below t day (omega arith)) in
      let whole : (t / day) * day + t % day ≡ t = div-add-mod' t day in (
        (t / day) * day + a,
        subst (λ (x : ℕ). IsLeastLowDrive g o u v x ((t / day) * day + a)) whole (least-days g o n u v (t / day) (t % day) a one),
        subst (λ (x : ℕ). IsLeastLowDrive h o u v x ((t / day) * day + a)) whole (least-days h o k u v (t / day) (t % day) a two),
      )

  -- so the low walks of the first network keep their drives in the second
  pub lows_kept : KeepsLow g h o u v
  lows_kept = record {
    walks = λ walk.
        let least = least_both (built_some g o n u v has entries built walk) 0 in
        let (w, l, e) = least.2.reached in
        (w, l);
    drives = λ t a here.
        let (w, l, e) = here.reached in
        let (b, one, two) = least_both (built_some g o n u v has entries built (w, l)) t in
        let same : b ≡ a = least_unique g o u v t b a one here in
        subst (IsLeastLowDrive h o u v t) same two;
  }
