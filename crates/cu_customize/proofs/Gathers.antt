-- Candidates that are merged one after the other.
use Rattle.std.proofs.Common.{◌≡◌, ◌≢◌, ◌≤◌, ◌<◌, ◌+◌, ◌-◌, ◌^◌, ◌∙◌, ◌++◌, ◌⊎◌, ℕ, Bool, List, [], ◌∷◌, Option, Some, None, refl, sym, ap, subst, arith, inl, inr, length, map, min, ltb, true, false}
use Rattle.std.specs.Prelude.{IsSome, slice_get}
use Rattle.std.specs.List.{Contains}
use Rattle.std.proofs.lemmas.Bool.{cases_lt}
use Rattle.std.proofs.lemmas.List.Elements.{All-contains, Contains-append_left}
use Rattle.std.proofs.lemmas.Option.{slice_get_within}
use Rattle.cu_model.specs.Days.{day, IsOnward}
use Rattle.cu_model.specs.Networks.{NetworkValue, IsNetwork}
use Rattle.cu_model.specs.Roads.{arc_value, is_closed_arc}
use Rattle.cu_model.proofs.RoadLaws.{arc_value-near, arc_value-onward}
use Rattle.cu_arrival.specs.declared.runs.Run.{Run}
use Rattle.cu_arrival.specs.Runs.{arrival_value}
use Rattle.cu_chordal.proofs.Members.{member_at, none_in_nil}
use Rattle.cu_interval.specs.declared.ways.Way.{Way}
use Rattle.cu_interval.specs.declared.ways.Way.TheVariants.{Road, Via}
use Rattle.cu_interval.specs.WayLists.{GoesFirst}
use Rattle.cu_runs.specs.declared.merging.TheConstants.{MOST, NOBODY}
use Rattle.cu_customize.specs.declared.task.Task.{Task}
use Rattle.cu_runs.specs.Least.{Held, KeepsDayOrder, least_arrival, least_way, tie_with, way_with, IsAddedAt, IsStillAt}
use Rattle.cu_customize.specs.Settling.{value_at}
use Rattle.cu_customize.specs.Steps.Best.{IsOpenWay}
use Rattle.cu_customize.specs.Functions.{road_function, road_if}
use Rattle.cu_runs.specs.PackedRuns.{IsPackedFunction, composed}
use Rattle.cu_customize.specs.Steps.Gathering.{ArrivesIn, Gathers, GathersAt, IsBeaten, IsBound, IsGathered, IsGatheredBut, IsInTime, IsLeastAt, IsLeastWay}
use Rattle.cu_customize.specs.Steps.Gathering.{IsNear, IsNobodys, IsOpenIn, IsOrdered, IsRival, IsTask, IsWithin, state_of, ways_of}
use Rattle.cu_customize.specs.Triangles.{middles_in}
use Rattle.cu_runs.proofs.AddLaws.{composed_order}
use Rattle.cu_customize.proofs.Bests.{among_cases, arrives_once}
use Rattle.cu_customize.proofs.Loops.{member_map}
use Rattle.cu_customize.proofs.Places.{goes_before, goes_by_place}

abbrev pub HasFunction : NetworkValue → Task → Way → Type 0
HasFunction g task way = IsOpenWay task.graph.now.edges (state_of g task) task.leg.from task.leg.to way

-- a merger with no candidate
pub nothing_gathered : (g : NetworkValue) (task : Task) (held : List Held) → ((t : ℕ) → t < day → least_arrival held t ≡ MOST) → ((t : ℕ) → t < day → least_way held t ≡ NOBODY)
    → IsGatheredBut g task [] held
nothing_gathered g task held arrival way t lt = inl record { closed = λ w rival. none_in_nil w rival.0.0; arrival = arrival t lt; way = way t lt }

open_cases : (g : NetworkValue) (task : Task) (ways : List Way) (way w : Way) → IsOpenIn g task (ways ++ way ∷ []) w → IsOpenIn g task ways w ⊎ (way ≡ w)
open_cases g task ways way w among = among_cases task.graph.now.edges (state_of g task) task.leg.from task.leg.to ways way w among

pub at_once : (g : NetworkValue) (task : Task) (t : ℕ) (way : Way) (a b : ℕ) → ArrivesIn g task t way a → ArrivesIn g task t way b → a ≡ b
at_once g task t way a b one two = arrives_once task.graph.now.edges (state_of g task) task.leg.from task.leg.to t way a b one two

-- a rival is one of those before, or the way that is added
rival_cases : (g : NetworkValue) (task : Task) (ways : List Way) (way : Way) (t : ℕ) (w : Way) → IsRival g task (ways ++ way ∷ []) t w → IsRival g task ways t w ⊎ (way ≡ w)
rival_cases g task ways way t w (among, kept) = elim (open_cases g task ways way w among) [
  | inl before ↦ inl (before, kept)
  | inr same ↦ inr same
]

-- where nothing changes, and no rival is new, the least stays
pub stays_least : (g : NetworkValue) (task : Task) (before after : List Way) (old new : List Held) (t : ℕ) → IsStillAt old new t
    → ((w : Way) → IsRival g task after t w → IsRival g task before t w)
    → IsLeastAt g task (IsRival g task before t) (ways_of task) old t → IsLeastAt g task (IsRival g task after t) (ways_of task) new t
stays_least g task before after old new t still fewer is =
    let e = sym still.least in
    elim is [
      | inl nobody ↦ inl record { closed = λ w rival. nobody.closed w (fewer w rival); arrival = still.least ∙ nobody.arrival; way = still.chosen ∙ nobody.way }
      | inr (w, least) ↦ inr (
        w,
        record {
          there = subst (λ (n : ℕ). slice_get (ways_of task) n ≡ Some w) (sym still.chosen) least.there;
          among = least.among;
          arrives = subst (λ (x : ℕ). ArrivesIn g task t w x) e least.arrives;
          first = λ other later rival at. subst (λ (x : ℕ). (x < later) ⊎ ((x ≡ later) × ((w ≡ other) ⊎ GoesFirst w other))) e (least.first other later (fewer other rival) at);
          near = subst (λ (x : ℕ). IsInTime t x) e least.near;
          order = least.order;
        },
      )
    ]

-- a way that has no function or is left out changes nothing
pub gathers_none : (g : NetworkValue) (task : Task) (way : Way) (old new : List Held) (t : ℕ) → IsStillAt old new t → (HasFunction g task way → IsBeaten g task t way) → GathersAt g task way old new t
gathers_none g task way old new t still beaten ways is =
    stays_least g task ways (ways ++ way ∷ []) old new t still
    (λ w rival. elim (rival_cases g task ways way t w rival) [
      | inl before ↦ before
      | inr same ↦ absurd (rival.1 (subst (λ (x : Way). IsBeaten g task t x) same (beaten (subst (λ (x : Way). HasFunction g task x) (sym same) rival.0.1))))
    ])
    is

module _ (old : List Held) (number t : ℕ) where
  -- a tie goes to the lower number
  tie_lower : number < least_way old t → tie_with old number t ≡ 1
  tie_lower lower = let test : ltb number (least_way old t) ≡ true = grind (arith, lower) in rw test refl

  tie_higher : least_way old t ≤ number → tie_with old number t ≡ 0
  tie_higher higher = let test : ltb number (least_way old t) ≡ false = grind (arith, higher) in rw test refl

module _ (g : NetworkValue) (task : Task) (is : IsTask g task) (ways : List Way) (way : Way) (number : ℕ) (old new : List Held) (t a : ℕ) (there : slice_get (ways_of task) number ≡ Some way)
    (free : HasFunction g task way) (arrives : ArrivesIn g task t way a) (near : IsInTime t a) (ordered : IsOrdered g task way) (added : IsAddedAt old new number a t) where
  abbrev IsNext : Way → Type 0
  IsNext way_then = IsLeastWay g task (IsRival g task (ways ++ way ∷ []) t) (ways_of task) new t way_then

  -- where the way is earlier than the least so far, or as early and of a lower number, its number is taken
  number_taken : a < least_arrival old t + tie_with old number t → a ≤ least_arrival old t → (least_way new t ≡ number) × (least_arrival new t ≡ a)
  number_taken less few =
      let test : ltb a (least_arrival old t + tie_with old number t) ≡ true = grind (arith, less) in
      let value = added.least in
      (added.chosen ∙ (rw test refl), omega (arith, value, few))

  number_kept : least_arrival old t + tie_with old number t ≤ a → (least_way new t ≡ least_way old t) × (least_arrival new t ≡ least_arrival old t)
  number_kept more =
      let test : ltb a (least_arrival old t + tie_with old number t) ≡ false = grind (arith, more) in
      let value = added.least in
      (added.chosen ∙ (rw test refl), omega (arith, value, more))

  -- it is the least where it comes before each rival
  way_taken : a < least_arrival old t + tie_with old number t → a ≤ least_arrival old t
      → ((other : Way) (later : ℕ) → IsRival g task ways t other → ArrivesIn g task t other later → (a < later) ⊎ ((a ≡ later) × ((way ≡ other) ⊎ GoesFirst way other))) → IsNext way
  way_taken less few before =
      let (number_is, e) = number_taken less few in
      record {
        there = subst (λ (n : ℕ). slice_get (ways_of task) n ≡ Some way) (sym number_is) there;
        among = (member_at (ways_of task) way number there, free);
        arrives = subst (λ (x : ℕ). ArrivesIn g task t way x) (sym e) arrives;
        first = λ other later rival at. elim (rival_cases g task ways way t other rival) [
          | inl early ↦ subst (λ (x : ℕ). (x < later) ⊎ ((x ≡ later) × ((way ≡ other) ⊎ GoesFirst way other))) (sym e) (before other later early at)
          | inr same ↦ inr (e ∙ at_once g task t way a later arrives (subst (λ (x : Way). ArrivesIn g task t x later) (sym same) at), inl same)
        ];
        near = subst (λ (x : ℕ). IsInTime t x) (sym e) near;
        order = ordered;
      }

  added_first : IsNobodys (IsRival g task ways t) old t → IsNext way
  added_first nobody =
      let none = nobody.arrival in
      let few = near.1 in
      way_taken (omega (arith, few, none)) (omega (arith, few, none)) (λ other later rival at. absurd (nobody.closed other rival))

  module _ (w : Way) (least : IsLeastWay g task (IsRival g task ways t) (ways_of task) old t w) where
    added_earlier : a < least_arrival old t → IsNext way
    added_earlier less = way_taken (omega (arith, less)) (omega (arith, less)) (λ other later rival at. elim (least.first other later rival at) [
      | inl sooner ↦ inl (omega (arith, sooner, less))
      | inr tie ↦ let same = tie.0 in inl (omega (arith, same, less))
    ])

    added_lower : a ≡ least_arrival old t → number < least_way old t → IsNext way
    added_lower same lower =
        let tie = tie_lower old number t lower in
        let goes : GoesFirst way w = goes_by_place task.arcs.now (middles_in task.triangles.now) number (least_way old t) way w is.arcs_rise is.middles_rise there least.there lower in
        way_taken (omega (arith, same, tie)) (omega (arith, same)) (λ other later rival at. elim (least.first other later rival at) [
          | inl sooner ↦ inl (omega (arith, sooner, same))
          | inr also ↦ let equal = also.0 in inr (
            omega (arith, equal, same),
            elim also.1 [
              | inl one ↦ inr (subst (λ (x : Way). GoesFirst way x) one goes)
              | inr more ↦ inr (goes_before way w other goes more)
            ],
          )
        ])

    -- where it isn't, the least stays
    added_later : least_arrival old t + tie_with old number t ≤ a → (least_arrival old t ≡ a → (w ≡ way) ⊎ GoesFirst w way) → IsNext w
    added_later more goes =
        let kept = number_kept more in
        let e = kept.1 in
        record {
          there = subst (λ (n : ℕ). slice_get (ways_of task) n ≡ Some w) (sym kept.0) least.there;
          among = least.among;
          arrives = subst (λ (x : ℕ). ArrivesIn g task t w x) (sym e) least.arrives;
          first = λ other later rival at. elim (rival_cases g task ways way t other rival) [
            | inl early ↦ subst (λ (x : ℕ). (x < later) ⊎ ((x ≡ later) × ((w ≡ other) ⊎ GoesFirst w other))) (sym e) (least.first other later early at)
            | inr same ↦
                let is_a = at_once g task t way a later arrives (subst (λ (x : Way). ArrivesIn g task t x later) (sym same) at) in
                elim (cases_lt (least_arrival new t) later) [
                  | inl sooner ↦ inl sooner
                  | inr tie ↦
                      let equal : least_arrival old t ≡ a = omega (arith, tie, is_a, more, e) in
                      inr (omega (arith, equal, is_a, e), subst (λ (x : Way). (w ≡ x) ⊎ GoesFirst w x) same (goes equal))
                ]
          ];
          near = subst (λ (x : ℕ). IsInTime t x) (sym e) least.near;
          order = least.order;
        }

    added_higher : a ≡ least_arrival old t → least_way old t ≤ number → IsNext w
    added_higher same higher =
        let tie = tie_higher old number t higher in
        added_later (omega (arith, same, tie)) (λ equal. elim (cases_lt (least_way old t) number) [
          | inl below ↦ inr (goes_by_place task.arcs.now (middles_in task.triangles.now) (least_way old t) number w way is.arcs_rise is.middles_rise least.there there below)
          | inr above ↦
              let one : least_way old t ≡ number = omega (arith, higher, above) in
              let both : slice_get (ways_of task) number ≡ Some w = subst (λ (n : ℕ). slice_get (ways_of task) n ≡ Some w) one least.there in
              inl (cc (both, there))
        ])

    added_slower : least_arrival old t < a → IsNext w
    added_slower slower = elim (cases_lt number (least_way old t)) [
      | inl lower ↦ let tie = tie_lower old number t lower in added_later (omega (arith, slower, tie)) (λ equal. absurd (omega (arith, equal, slower)))
      | inr higher ↦ let tie = tie_higher old number t higher in added_later (omega (arith, slower, tie)) (λ equal. absurd (omega (arith, equal, slower)))
    ]

    added_next : (next : Way) × IsNext next
    added_next = elim (cases_lt a (least_arrival old t)) [
      | inl less ↦ (way, added_earlier less)
      | inr more ↦ elim (cases_lt (least_arrival old t) a) [
        | inl slower ↦ (w, added_slower slower)
        | inr few ↦
            let same : a ≡ least_arrival old t = omega (arith, more, few) in
            elim (cases_lt number (least_way old t)) [
              | inl lower ↦ (way, added_lower same lower)
              | inr higher ↦ (w, added_higher same higher)
            ]
      ]
    ]

-- a way that has a function is taken where it is earlier, or as early and of a lower number
pub gathers_at : (g : NetworkValue) (task : Task) → IsTask g task → (way : Way) (number : ℕ) (old new : List Held) (arrival : ℕ → ℕ) (t : ℕ) → t < day → slice_get (ways_of task) number ≡ Some way
    → HasFunction g task way → IsNear g task way → KeepsDayOrder arrival → ((s : ℕ) → s < day → ArrivesIn g task s way (arrival s)) → IsAddedAt old new number (arrival t) t
    → GathersAt g task way old new t
gathers_at g task is way number old new arrival t lt there free near order arrives added ways before =
    let a = arrival t in
    let at = arrives t lt in
    let within = near t a lt at in
    let ordered : IsOrdered g task way = (arrival, order, arrives) in
    elim before [
      | inl nobody ↦ inr (way, added_first g task is ways way number old new t a there free at within ordered added nobody)
      | inr (w, least) ↦ inr (added_next g task is ways way number old new t a there free at within ordered added w least)
    ]

pub gathers_one : (g : NetworkValue) (task : Task) → IsTask g task → (way : Way) (number : ℕ) (old new : List Held) (arrival : ℕ → ℕ) → slice_get (ways_of task) number ≡ Some way
    → HasFunction g task way → IsNear g task way → KeepsDayOrder arrival → ((t : ℕ) → t < day → ArrivesIn g task t way (arrival t))
    → ((t : ℕ) → t < day → least_arrival new t ≡ min (least_arrival old t) (arrival t)) → ((t : ℕ) → t < day → least_way new t ≡ way_with old (arrival t) number t)
    → Gathers g task way old new
gathers_one g task is way number old new arrival there free near order arrives least_is way_is t lt =
    gathers_at g task is way number old new arrival t lt there free near order arrives record { least = least_is t lt; chosen = way_is t lt }

-- all that may be the least are gathered where each of the others is beaten
pub gathered_fewer : (g : NetworkValue) (task : Task) (ways all : List Way) (held : List Held)
    → ((t : ℕ) (w : Way) → t < day → IsRival g task all t w → Contains ways w) → IsGatheredBut g task ways held
    → IsGatheredBut g task all held
gathered_fewer g task ways all held kept is t lt =
    stays_least g task ways all held held t record { least = refl; chosen = refl } (λ w rival. ((kept t w lt rival, rival.0.1), rival.1)) (is t lt)

-- the roads of a task are roads of the network
pub road_inside : (g : NetworkValue) (task : Task) → IsTask g task → (a : ℕ) → Contains task.arcs.now a → a < length g.arcs
road_inside g task is a held = All-contains (λ (x : ℕ). x < length g.arcs) task.arcs.now a is.arcs held

-- a closed road changes nothing
pub gathers_closed : (g : NetworkValue) (task : Task) (a : ℕ) (held : List Held) → is_closed_arc g a ≡ true → Gathers g task (Road a) held held
gathers_closed g task a held closed t lt =
    let none : road_function g a ≡ None = ap (λ (b : Bool). road_if b g a) closed in
    gathers_none g task (Road a) held held t record { least = refl; chosen = refl } (λ free. let no : IsSome {T = ℕ → ℕ} None = subst (λ (o : Option (ℕ → ℕ)). IsSome o) none free in absurd (cc no))

module _ (g : NetworkValue) (network : IsNetwork g) (task : Task) (is : IsTask g task) (a : ℕ) (held : Contains task.arcs.now a) (opened : is_closed_arc g a ≡ false) (packed : List Run)
    (value : (t : ℕ) → t < day → arrival_value packed t ≡ arc_value g a t) where
  road_some : road_function g a ≡ Some (arc_value g a)
  road_some = ap (λ (b : Bool). road_if b g a) opened

  road_free : HasFunction g task (Road a)
  road_free = subst (λ (o : Option (ℕ → ℕ)). IsSome o) (sym road_some) refl

  road_says : (t : ℕ) → ArrivesIn g task t (Road a) (arc_value g a t)
  road_says t = ap (λ (o : Option (ℕ → ℕ)). value_at o t) road_some

  -- the road never arrives before it leaves
  pub road_onward : IsOnward (arrival_value packed)
  road_onward t lt = let on = arc_value-onward g network a (road_inside g task is a held) t in let says = value t lt in omega (arith, on, says)

  -- one that isn't closed arrives as these packed runs say, where nobody goes anywhere else first
  pub gathers_road : (number : ℕ) (old new : List Held) → slice_get (ways_of task) number ≡ Some (Road a) → IsPackedFunction packed
      → ((t : ℕ) → t < day → least_arrival new t ≡ min (least_arrival old t) (composed task.stay.now packed t))
      → ((t : ℕ) → t < day → least_way new t ≡ way_with old (composed task.stay.now packed t) number t) → Gathers g task (Road a) old new
  gathers_road number old new there function least_is way_is =
      let inside = road_inside g task is a held in
      let near : IsNear g task (Road a) = λ t arrival lt e.
      let far = arc_value-near g network a inside t in
      let on = arc_value-onward g network a inside t in
      let same : arc_value g a t ≡ arrival = at_once g task t (Road a) (arc_value g a t) arrival (road_says t) e in
      (omega (arith, on, same), omega (arith, far, same, lt)) in
      let arrives : (t : ℕ) → t < day → ArrivesIn g task t (Road a) (composed task.stay.now packed t) = λ t lt.
      let at : composed task.stay.now packed t ≡ arc_value g a t = ap (arrival_value packed) (is.stay t lt) ∙ value t lt in
      subst (λ (x : ℕ). ArrivesIn g task t (Road a) x) (sym at) (road_says t) in
      gathers_one g task is (Road a) number old new (composed task.stay.now packed) there road_free near (composed_order task.stay.now packed is.stays function) arrives least_is way_is

  -- and never takes longer than they say
  pub road_bound : (most : ℕ) → ((t : ℕ) → t < day → arrival_value packed t ≤ t + most) → IsBound g task most
  road_bound most within = inr (λ t lt. (
    Road a,
    (Contains-append_left (map Road task.arcs.now) (map Via (middles_in task.triangles.now)) (Road a) (member_map Road task.arcs.now a held), road_free),
    (arc_value g a t, road_says t, let says = value t lt in let few = within t lt in omega (arith, says, few)),
  ))

-- more than any candidate takes
pub no_bound : (g : NetworkValue) (task : Task) (most : ℕ) → most ≡ 2 ^ 64 - 1 → IsBound g task most
no_bound g task most e = inl e

-- the lesser of two bounds is one
pub lesser_bound : (g : NetworkValue) (task : Task) (a b least : ℕ) → IsBound g task a → IsBound g task b → least ≡ min a b → IsBound g task least
lesser_bound g task a b least one two is =
    elim (cases_lt a b) [
      | inl less ↦ let same : a ≡ least = omega (arith, is, less) in subst (λ (n : ℕ). IsBound g task n) same one
      | inr more ↦ let same : b ≡ least = omega (arith, is, more) in subst (λ (n : ℕ). IsBound g task n) same two
    ]

-- where the least of second 0 is somebody's all numbers are those of ways
pub gathered_within : (g : NetworkValue) (task : Task) (ways : List Way) (held : List Held) → IsGathered g task ways held → least_way held 0 ≢ NOBODY → IsWithin ways held
gathered_within g task ways held is some =
    let somebodys : (t : ℕ) → t < day → (way : Way) × IsLeastWay g task (IsOpenIn g task ways) ways held t way = λ t lt. elim (is t lt) [
      | inl nobody ↦ elim (is 0 (omega arith)) [
        | inl none ↦ absurd (some none.way)
        | inr (w, least) ↦ absurd (nobody.closed w least.among)
      ]
      | inr found ↦ found
    ] in
    record {
      numbers = λ t lt. let (w, least) = somebodys t lt in slice_get_within ways (least_way held t) w least.there;
      arrivals = λ t lt. let (w, least) = somebodys t lt in least.near;
    }

-- no later departure arrives earlier
pub gathered_order : (g : NetworkValue) (task : Task) (ways : List Way) (held : List Held) → IsGathered g task ways held → KeepsDayOrder (least_arrival held)
gathered_order g task ways held is = record {
  in_day = λ s h. let order = no_earlier s (s + 1) 0 (omega (arith, h)) h (λ f order a e. let step = order.in_day s h in omega (arith, step, e)) in omega (arith, order);
  midnight = no_earlier (day - 1) 0 day (omega arith) (omega arith) (λ f order a e. let step = order.midnight in omega (arith, step, e));
}
  where
    no_earlier : (s t more : ℕ) → s < day → t < day → ((f : ℕ → ℕ) → KeepsDayOrder f → (a : ℕ) → f t ≡ a → f s ≤ more + a) → least_arrival held s ≤ more + least_arrival held t
    no_earlier s t more early late step = elim (is t late) [
      | inl nobody ↦ elim (is s early) [
        | inl none ↦ let here = none.arrival in let there = nobody.arrival in omega (arith, here, there)
        | inr (w, least) ↦ absurd (nobody.closed w least.among)
      ]
      | inr (w, least) ↦
          let (f, order, arrives) = least.order in
          let same = at_once g task t w (f t) (least_arrival held t) (arrives t late) least.arrives in
          let before = step f order (least_arrival held t) same in
          elim (is s early) [
            | inl none ↦ absurd (none.closed w least.among)
            | inr (x, first) ↦ elim (first.first w (f s) least.among (arrives s early)) [
              | inl sooner ↦ omega (arith, sooner, before)
              | inr tie ↦ let e = tie.0 in omega (arith, e, before)
            ]
          ]
    ]
