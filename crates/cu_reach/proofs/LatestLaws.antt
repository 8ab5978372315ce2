-- Leaving later never arrives earlier, so nothing behind a second that is too late is in time.
use Rattle.std.proofs.Common.{◌≡◌, ◌≤◌, ◌<◌, ◌+◌, ◌-◌, ◌^◌, ◌⊎◌, ◌∙◌, ℕ, sym, subst, arith, inl, inr}
use Rattle.cu_model.specs.Days.{day}
use Rattle.cu_model.specs.Networks.{NetworkValue, IsNetwork}
use Rattle.cu_model.specs.Roads.{IsLeastArrival}
use Rattle.cu_interval.specs.Hierarchies.{HierarchyValue}
use Rattle.cu_sweep.specs.declared.finding.Found.{Found}
use Rattle.cu_sweep.specs.declared.finding.Found.TheVariants.{Arrive, NoWalk, Long}
use Rattle.cu_sweep.specs.Answers.{IsAnswer, IsLeastWhereBuilt}
use Rattle.cu_sweep.specs.Sweeps.{found}
use Rattle.cu_sweep.proofs.Peaks.{drive-rises}
use Rattle.cu_reach.specs.declared.departures.Departure.TheVariants as departure
use Rattle.cu_reach.specs.declared.departures.Journey.{Journey}
use Rattle.cu_reach.specs.Departures.{IsLatestWhereBuilt}
use Rattle.cu_reach.specs.Steps.Searching.{IsInTime, IsLate, IsTooLate, Searched}

pub least_rises : (g : NetworkValue) → IsNetwork g → (u v t s first later : ℕ) → t ≤ s → IsLeastArrival g u v t first → IsLeastArrival g u v s later
    → first ≤ later
least_rises g n u v t s first later le a b =
    let walk = b.reached.0 in
    let no_later = a.least walk b.reached.1 in
    let rises = drive-rises g n walk t s le in
    omega (arith, no_later, rises, b.reached.2)

-- a second behind one that is too late is too late
late_behind : (g : NetworkValue) → IsNetwork g → (u v by late later arrival : ℕ) → (answer : Found) → IsLate by answer → IsAnswer g u v late answer → late ≤ later
    → IsLeastArrival g u v later arrival → by < arrival
late_behind g n u v by late later arrival (Arrive first) is_late a le least =
    let rises = least_rises g n u v late later first arrival le a least in
    omega (arith, is_late, rises)
late_behind g n u v by late later arrival NoWalk is_late a le least = absurd (a least.reached.0 least.reached.1)
late_behind g n u v by late later arrival (Long edge dir second) is_late a le least = absurd a

-- the second before one that is too late, or before the day's end, is the latest that is in time
pub latest_found : (h : HierarchyValue) (journey : Journey) (second arrival late : ℕ) → IsInTime h journey second arrival → second < day → late ≡ second + 1
    → (late ≡ day) ⊎ IsTooLate h journey late
    → IsLatestWhereBuilt h journey.from journey.to journey.by (departure.Depart second arrival)
latest_found h journey second arrival late early within next (inl end) built u v start stop =
    (early.least built u v start stop, within, early.by, λ later a after before least. absurd (omega (arith, after, before, end, next)))
latest_found h journey second arrival late early within next (inr too_late) built u v start stop = (
  early.least built u v start stop,
  within,
  early.by,
  λ later a after before least.
      late_behind h.network built.sound.network u v journey.by late later a too_late.answer too_late.late (too_late.least built u v start stop)
      (omega (arith, after, next)) least,
)

-- an answer that is in time, of a hierarchy that stayed as it was
pub found_in_time : (h held : HierarchyValue) (journey : Journey) (second arrival : ℕ) (answer : Found) → held ≡ h → answer ≡ found held journey.from journey.to second
    → IsLeastWhereBuilt held journey.from journey.to second answer → answer ≡ Arrive arrival → arrival ≤ journey.by → IsInTime h journey second arrival
found_in_time h held journey second arrival answer same is least arrives by =
    subst (λ (one : HierarchyValue). IsInTime one journey second arrival) same (record {
      answer = sym is ∙ arrives;
      by = by;
      least = subst (λ (one : Found). IsLeastWhereBuilt held journey.from journey.to second one) arrives least;
    })

pub found_too_late : (h held : HierarchyValue) (journey : Journey) (second : ℕ) (answer : Found) → held ≡ h
    → IsLeastWhereBuilt held journey.from journey.to second answer → IsLate journey.by answer → IsTooLate h journey second
found_too_late h held journey second answer same least late =
    subst (λ (one : HierarchyValue). IsTooLate one journey second) same (record { answer = answer; late = late; least = least })

pub later_early : (h : HierarchyValue) (journey : Journey) (early arrival late left second answer : ℕ) → Searched h journey early arrival late left
    → IsInTime h journey second answer → second < late → late ≤ second + 2 ^ (left - 1) → Searched h journey second answer late (left - 1)
later_early h journey early arrival late left second answer s in_time before high = record {
  between = before;
  day = s.day;
  in_time = in_time;
  too_late = s.too_late;
  few = omega (arith, s.few);
  findable = high;
}

pub earlier_late : (h : HierarchyValue) (journey : Journey) (early arrival late left second : ℕ) → Searched h journey early arrival late left
    → IsTooLate h journey second → early < second → second < late → second ≤ early + 2 ^ (left - 1) → Searched h journey early arrival second (left - 1)
earlier_late h journey early arrival late left second s too_late after before low = record {
  between = after;
  day = omega (arith, s.day, before);
  in_time = s.in_time;
  too_late = inr too_late;
  few = omega (arith, s.few);
  findable = low;
}
