-- Points and their legs; the hull of the legs is the least raw arrival from each second on, however long one waits.
use Rattle.std.proofs.Common.{◌≡◌, ◌≤◌, ◌<◌, ◌+◌, ◌-◌, ◌*◌, ◌/◌, ◌%◌, ◌∙◌, ℕ, suc, List, [], ◌∷◌, All, refl, sym, subst, ap, arith, inl, inr}
use Rattle.std.specs.Prelude.{slice_index_or}
use Rattle.std.proofs.Math.Nat.{div-le_self}
use Rattle.std.proofs.lemmas.Nat.{div-add-mod', mod_below, mod-mul-add}
use Rattle.std.proofs.lemmas.Bool.{cases_lt, lt-ltb, le-ltb}
use Rattle.cu_model.specs.Begun.{Rises}
use Rattle.cu_model.specs.Days.{day, RepeatsDaily}
use Rattle.cu_model.proofs.DayLaws.{many_days}
use Rattle.cu_wait.specs.declared.points.Mode.{Mode}
use Rattle.cu_wait.specs.declared.points.Mode.TheVariants.{Line, Step}
use Rattle.cu_wait.specs.declared.points.Point.{Point}
use Rattle.cu_wait.specs.Measured.{on_line, travel_by, travel_behind, travel_from, raw_arrival, IsPoint, IsMeasured}
use Rattle.cu_wait.specs.Waits.{IsLeastFrom}
use Rattle.cu_wait.specs.Legs.{Tile, arrival_in, day_least, hull_at, last_by, leg_arrival, leg_behind, legs_from, legs_of}
use Rattle.cu_wait.proofs.LineLaws.{line_up}
use Rattle.cu_wait.proofs.LegLaws.{IsLeastOr, bound_is, hull_is}

zero_div : (seconds : ℕ) → 0 / seconds ≡ 0
zero_div seconds = let l = div-le_self 0 seconds in omega (arith, l)

-- a line between two like travel times is level
level : (travel behind seconds : ℕ) → on_line travel travel behind seconds ≡ travel
level travel behind seconds =
    let up = line_up travel travel behind seconds (omega arith) in
    let none : (travel - travel) * behind ≡ 0 = let h : travel - travel ≡ 0 = omega arith in ap (λ (x : ℕ). x * behind) h ∙ omega arith in
    let over = ap (λ (x : ℕ). travel + x / seconds) none in
    let z = zero_div seconds in
    omega (arith, up, over, z)

leg_arrives_by : (mode : Mode) (point : Point) (until next second : ℕ) → second + on_line point.travel (last_by mode point next) (second - point.second) (until - point.second)
    ≡ second + travel_by mode point until next second
leg_arrives_by Line point until next second = refl
leg_arrives_by Step point until next second = ap (λ (x : ℕ). second + x) (level point.travel (second - point.second) (until - point.second))

leg_arrives : (point : Point) (until next second : ℕ) → leg_arrival (leg_behind point until next) second ≡ second + travel_behind point until next second
leg_arrives point until next second = leg_arrives_by point.mode point until next second

pub tail_rises : (point next : Point) (points : List Point) → Rises (λ (p : Point). p.second) (point ∷ next ∷ points)
    → (point.second < next.second) × Rises (λ (p : Point). p.second) (next ∷ points)
tail_rises point next points rises = (
  rises 0 point (omega arith),
  λ k d h.
      let e : suc k + 1 ≡ suc (k + 1) = omega arith in
      subst (λ (i : ℕ). (slice_index_or (point ∷ next ∷ points) (suc k) d).second < (slice_index_or (point ∷ next ∷ points) i d).second) e (rises (suc k) d (omega (arith, h))),
)

pub tail_points : (point : Point) (points : List Point) → All IsPoint (point ∷ points) → IsPoint point × All IsPoint points
tail_points point points all = (all 0 point (omega arith), λ k d h. all (suc k) d (omega (arith, h)))

legs_tile : (first : ℕ) (point : Point) (points : List Point) → All IsPoint (point ∷ points) → Rises (λ (p : Point). p.second) (point ∷ points)
    → Tile point.second (legs_from first point points)
legs_tile first point [] limits rises = let h = (tail_points point [] limits).0.0 in (refl, h, refl)
legs_tile first point (next ∷ points) limits rises =
    let (here, rest) = tail_rises point next points rises in
    (refl, here, legs_tile first next points (tail_points point (next ∷ points) limits).1 rest)

legs_arrive : (first : ℕ) (point : Point) (points : List Point) (second : ℕ) → second < day
    → arrival_in (legs_from first point points) second ≡ second + travel_from first point points second
legs_arrive first point [] second lt = let b = lt-ltb second day lt in rw b (leg_arrives point day first second)
legs_arrive first point (next ∷ points) second lt =
    elim (cases_lt second next.second) [
      | inl here ↦ let b = lt-ltb second next.second here in rw b (leg_arrives point next.second next.travel second)
      | inr past ↦ let b = le-ltb second next.second past in rw b (legs_arrive first next points second lt)
    ]

first_second : (point : Point) (points : List Point) → IsMeasured (point ∷ points) → point.second ≡ 0
first_second point points m = let s = m.starts in cc s

-- the legs of a measured profile tile the day and arrive when it does
pub legs_are : (points : List Point) → IsMeasured points
    → Tile 0 (legs_of points) × ((second : ℕ) → second < day → arrival_in (legs_of points) second ≡ raw_arrival points second)
legs_are [] m = absurd (let s = m.starts in cc s)
legs_are (point ∷ points) m = (
  subst (λ (s : ℕ). Tile s (legs_of (point ∷ points))) (first_second point points m) (legs_tile point.travel point points m.limits m.rises),
  λ second lt. legs_arrive point.travel point points second lt
      ∙ ap (λ (s : ℕ). second + travel_from point.travel point points s) (sym (in_day second lt)),
)
  where
    in_day : (second : ℕ) → second < day → second % day ≡ second
    in_day second lt = let h = mod-mul-add 0 day second lt in let e : 0 * day + second ≡ second = omega arith in ap (λ (s : ℕ). s % day) (sym e) ∙ h

-- raw arrivals repeat by whole days
pub raw_days : (points : List Point) → RepeatsDaily (raw_arrival points)
raw_days points days second lt =
    let a = mod-mul-add days day second lt in
    let b : second % day ≡ second = let h = mod-mul-add 0 day second lt in let e : 0 * day + second ≡ second = omega arith in ap (λ (s : ℕ). s % day) (sym e) ∙ h in
    rw (a, b) (omega arith)

-- What is least among this day's and all of the next day's is least for ever: whoever waits longer than a day could have left a day earlier.
module _ (f : ℕ → ℕ) (repeats : RepeatsDaily f) (least : ℕ) (of_day : IsLeastOr f 0 (f 0) least) where
  day_reached : (s : ℕ) × (s < day) × (f s ≡ least)
  day_reached = elim of_day.reached [
    | inl at_once ↦ (0, omega arith, sym at_once)
    | inr (s, le, lt, is) ↦ (s, lt, is)
  ]

  pub least_of_days : (second value : ℕ) → second < day → IsLeastOr f second (day + least) value → IsLeastFrom f second value
  least_of_days second value lt or =
      let within = or.within in
      record {
        reached = elim or.reached [
          | inl next_day ↦
              let (s, in_day, is) = day_reached in
              let later = repeats 1 s in_day in
              (1 * day + s, omega (arith, lt), omega (arith, later, is, next_day))
          | inr (s, le, in_day, is) ↦ (s, le, is)
        ];
        least = λ s le. elim (cases_lt s day) [
          | inl today ↦ or.least s le today
          | inr later ↦
              let k = s / day in
              let r = s % day in
              let below = mod_below s day (omega arith) in
              let parts = div-add-mod' s day in
              let some : 1 ≤ k = elim (cases_lt k 1) [
                | inl none ↦ absurd (let z : k * day ≡ 0 = (let h : k ≡ 0 = omega (arith, none) in ap (λ (x : ℕ). x * day) h ∙ omega arith) in omega (arith, z, parts, below, later))
                | inr fine ↦ fine
              ] in
              let is = repeats k r below in
              let same = subst (λ (x : ℕ). f x ≡ k * day + f r) parts is in
              let low = of_day.least r (omega arith) below in
              let far : day ≤ k * day = omega (arith, some) in
              omega (arith, within, same, low, far)
        ];
      }

-- a value that repeats by days is least at every second, where it is in the day
module _ (f : ℕ → ℕ) (repeats : RepeatsDaily f) where
  pub least_always : (h : ℕ → ℕ) → RepeatsDaily h → ((second : ℕ) → second < day → IsLeastFrom f second (h second)) → (t : ℕ) → IsLeastFrom f t (h t)
  least_always h h_repeats in_day t =
      let k = t / day in
      let r = t % day in
      let below = mod_below t day (omega arith) in
      let parts = div-add-mod' t day in
      let l = in_day r below in
      let value = h_repeats k r below in
      subst (λ (x : ℕ). IsLeastFrom f x (h x)) parts (record {
        reached = (let (s, le, is) = l.reached in (k * day + s, omega (arith, le), shifted k s ∙ ap (λ (x : ℕ). k * day + x) is ∙ sym value));
        least = λ s le.
            let base : k * day + (s - k * day) ≡ s = omega (arith, le) in
            let low = l.least (s - k * day) (omega (arith, le)) in
            let at = shifted k (s - k * day) in
            let same = subst (λ (x : ℕ). f x ≡ k * day + f (s - k * day)) base at in
            omega (arith, low, same, value);
      })
    where
      shifted : (k s : ℕ) → f (k * day + s) ≡ k * day + f s
      shifted k s = many_days f repeats k s

-- the hull of a measured profile's legs is the least raw arrival from each second of the day on
pub hull_least : (points : List Point) → IsMeasured points → (second : ℕ) → second < day → IsLeastFrom (raw_arrival points) second (hull_at (legs_of points) second)
hull_least points m second lt =
    let (tile, same) = legs_are points m in
    let whole = alike 0 (arrival_in (legs_of points) 0) (day_least (legs_of points)) same (bound_is 0 (arrival_in (legs_of points) 0) (legs_of points) tile) in
    let start = same 0 (omega arith) in
    let of_day = subst (λ (e : ℕ). IsLeastOr (raw_arrival points) 0 e (day_least (legs_of points))) start whole in
    least_of_days (raw_arrival points) (raw_days points) (day_least (legs_of points)) of_day second (hull_at (legs_of points) second) lt
    (alike second (day + day_least (legs_of points)) (hull_at (legs_of points) second) same (hull_is 0 (day + day_least (legs_of points)) (legs_of points) tile second (omega arith) lt))
  where
    alike : (second end value : ℕ) → ((s : ℕ) → s < day → arrival_in (legs_of points) s ≡ raw_arrival points s)
        → IsLeastOr (arrival_in (legs_of points)) second end value → IsLeastOr (raw_arrival points) second end value
    alike second end value same or = let w = or.within in record {
      within = w;
      least = λ t le lt. let l = or.least t le lt in let e = same t lt in omega (arith, l, e);
      reached = elim or.reached [
        | inl is ↦ inl is
        | inr (t, le, lt, is) ↦ inr (t, le, lt, sym (same t lt) ∙ is)
      ];
    }
