-- Over a built hierarchy no walk is earlier than the end's label, where that is in time.
use Rattle.std.proofs.Common.{◌≡◌, ◌≤◌, ◌<◌, ◌+◌, ◌-◌, ◌∙◌, ◌^◌, ◌⊎◌, ℕ, List, Option, Some, None, refl, sym, ap, arith, inl, inr, min}
use Rattle.std.specs.List.{Contains}
use Rattle.std.proofs.lemmas.Bool.{cases_lt}
use Rattle.std.proofs.lemmas.Option.{same_Some}
use Rattle.cu_model.specs.Roads.{drive}
use Rattle.cu_elimtree.specs.SweepArcs.{ancestors_in}
use Rattle.cu_interval.specs.Hierarchies.{HierarchyValue, IsBuilt, graph_of}
use Rattle.cu_sweep.specs.Outlooks.{IsAhead, ahead_at}
use Rattle.cu_sweep.proofs.Ancestry.{ancestors_upwards, own_ancestor}
use Rattle.cu_sweep.proofs.Peaks.{IsRankWalk}
use Rattle.cu_sweep.proofs.Reaching.{IsReachedBy, sweeps_reach}
use Rattle.cu_day.specs.DayChains.{GoesDown, GoesUp, list_drive}
use Rattle.cu_day.specs.Steps.Sweeping.{BeginsAs, BeginsAt, IsSwept}
use Rattle.cu_day.proofs.Bounded.{list_takes}
use Rattle.cu_day.proofs.BuiltDays.{down_under, list_there, no_later_than, up_under}
use Rattle.cu_day.proofs.Counted.{climbs, falls}

-- a label, but no later than a second
abbrev clamped : Option ℕ → ℕ → Option ℕ
clamped None latest = Some latest
clamped (Some s) latest = Some (min s latest)

clamped_cases : (o : Option ℕ) (latest s : ℕ) → clamped o latest ≡ Some s → (o ≡ Some s) ⊎ (s ≡ latest)
clamped_cases None latest s e = inr (sym (same_Some latest s e))
clamped_cases (Some b) latest s e =
    let is = same_Some (min b latest) s e in
    elim (cases_lt latest b) [
      | inl late ↦ inr (omega (arith, is, late))
      | inr early ↦ inl (ap Some (omega (arith, is, early)))
    ]

clamped_below : (o : Option ℕ) (latest b s : ℕ) → o ≡ Some b → b ≤ s → IsReachedBy (clamped o latest) s
clamped_below o latest b s e le = (min b latest, ap (λ (label : Option ℕ). clamped label latest) e, omega (arith, le))

clamped_late : (o : Option ℕ) (latest s : ℕ) → latest ≤ s → IsReachedBy (clamped o latest) s
clamped_late None latest s le = (latest, refl, le)
clamped_late (Some b) latest s le = (min b latest, refl, omega (arith, le))

-- the first second at which so much is still to go that the end isn't in time
abbrev too_late : ℕ → ℕ → ℕ
too_late by ahead = (by + 1) - ahead

module _ (h : HierarchyValue) (f : IsBuilt h) (from to t by : ℕ) (early : by < 2 ^ 61) (from_there : from < h.network.nodes) (to_there : to < h.network.nodes)
    (ahead_up ahead_down : List ℕ) (ahead : IsAhead h from to ahead_up ahead_down) (rises falls_ : ℕ → ℕ) (up down : ℕ → Option ℕ)
    (swept_up : IsSwept (λ y s. s + ahead_at ahead_up y ≤ by) (GoesUp h from) (list_drive h) rises (BeginsAt from t) up)
    (swept_down : IsSwept (λ y s. s + ahead_at ahead_down y ≤ by) (GoesDown h to) (list_drive h) falls_ (BeginsAs up) down) where
  -- the labels, but none later than the first second that isn't in time
  abbrev up_by : ℕ → Option ℕ
  up_by x = clamped (up x) (too_late by (ahead_at ahead_up x))

  abbrev down_in : ℕ → Option ℕ
  down_in x = clamped (down x) (too_late by (ahead_at ahead_down x))

  abbrev down_by : ℕ → Option ℕ
  down_by x = clamped (down_in x) (too_late by (ahead_at ahead_up x))

  down_reached : (x b s : ℕ) → down x ≡ Some b → b ≤ s → IsReachedBy (down_by x) s
  down_reached x b s e le =
      let (v, is, less) = clamped_below (down x) (too_late by (ahead_at ahead_down x)) b s e le in
      clamped_below (down_in x) (too_late by (ahead_at ahead_up x)) v s is less

  down_late : (x s : ℕ) → too_late by (ahead_at ahead_down x) ≤ s → IsReachedBy (down_by x) s
  down_late x s le =
      let (v, is, less) = clamped_late (down x) (too_late by (ahead_at ahead_down x)) s le in
      clamped_below (down_in x) (too_late by (ahead_at ahead_up x)) v s is less

  climb_on : (x y s d : ℕ) → GoesUp h from x y → up_by x ≡ Some s → list_drive h x y s ≤ d → IsReachedBy (up_by y) d
  climb_on x y s d goes e soon =
      let takes = list_takes h f.sound x y s goes.1 in
      let less = climbs h f.sound from to to_there ahead_up ahead_down ahead x y goes in
      elim (cases_lt by (list_drive h x y s + ahead_at ahead_up y)) [
        | inl late ↦ clamped_late (up y) (too_late by (ahead_at ahead_up y)) d (omega (arith, late, soon))
        | inr counts ↦ elim (clamped_cases (up x) (too_late by (ahead_at ahead_up x)) s e) [
          | inl at ↦
              let led = swept_up.led x y s s at goes (omega arith) counts in
              clamped_below (up y) (too_late by (ahead_at ahead_up y)) led.0 d led.1 (let le = led.2 in omega (arith, le, soon))
          | inr late ↦ absurd (omega (arith, late, takes, less, counts, early))
        ]
      ]

  fall_on : (z y s d : ℕ) → Contains (ancestors_in (graph_of h) to) z → GoesDown h to z y → down_by z ≡ Some s → list_drive h z y s ≤ d → IsReachedBy (down_by y) d
  fall_on z y s d in_to goes e soon =
      let takes = list_takes h f.sound z y s goes.1 in
      let less = falls h f.sound from to to_there ahead_up ahead_down ahead z y goes in
      let turn = ahead.turn z in_to in
      elim (cases_lt by (list_drive h z y s + ahead_at ahead_down y)) [
        | inl late ↦ down_late y d (omega (arith, late, soon))
        | inr counts ↦ elim (clamped_cases (down_in z) (too_late by (ahead_at ahead_up z)) s e) [
          | inr late ↦ absurd (omega (arith, late, takes, less, turn, counts, early))
          | inl inner ↦ elim (clamped_cases (down z) (too_late by (ahead_at ahead_down z)) s inner) [
            | inl at ↦
                let led = swept_down.led z y s s at goes (omega arith) counts in
                down_reached y led.0 d led.1 (let le = led.2 in omega (arith, le, soon))
            | inr late ↦ absurd (omega (arith, late, takes, less, counts, early))
          ]
        ]
      ]

  turn_on : (x s : ℕ) → up_by x ≡ Some s → IsReachedBy (down_by x) s
  turn_on x s e = elim (clamped_cases (up x) (too_late by (ahead_at ahead_up x)) s e) [
    | inl at ↦ let begun = swept_down.begun x s at in down_reached x begun.0 s begun.1 begun.2
    | inr late ↦ clamped_late (down_in x) (too_late by (ahead_at ahead_up x)) s (omega (arith, late))
  ]

  all_reached : (walk : List ℕ) → IsRankWalk h.network h.order from walk to → IsReachedBy (down_by to) (drive h.network walk t)
  all_reached walk w =
      sweeps_reach h.network h.order f.sound.network (Contains (ancestors_in (graph_of h) from)) (Contains (ancestors_in (graph_of h) to)) up_by down_by
      (record {
        climb = λ x y s part c lt below e.
            let under = up_under h f x y part lt below in (
              ancestors_upwards (graph_of h) f.sound.graph from x y c under.has,
              climb_on x y s (drive h.network part s) ((c, under.has), list_there h f x y part under.low) e
                  (no_later_than h f x y part under.low s),
            );
        fall = λ y z s part c lt below e.
            let under = down_under h f y z part lt below in
            fall_on z y s (drive h.network part s) (ancestors_upwards (graph_of h) f.sound.graph to y z c under.has)
            ((c, under.has), list_there h f z y part under.low) e (no_later_than h f z y part under.low s);
        goes_up = λ y z part c lt below. ancestors_upwards (graph_of h) f.sound.graph to y z c (down_under h f y z part lt below).has;
        turn = turn_on;
      })
      from to t walk (own_ancestor (graph_of h) from from_there) (own_ancestor (graph_of h) to to_there)
      (let begun = swept_up.begun from t (refl, refl) in
      clamped_below (up from) (too_late by (ahead_at ahead_up from)) begun.0 t begun.1 begun.2) w

  -- the end's label, which is in time, is no later than any walk
  pub no_walk_earlier : (a : ℕ) → down to ≡ Some a → a ≤ by → (walk : List ℕ) → IsRankWalk h.network h.order from walk to → a ≤ drive h.network walk t
  no_walk_earlier a e le walk w =
      let (s, is, less) = all_reached walk w in
      let clamp_both = ap (λ (label : Option ℕ). clamped (clamped label (too_late by (ahead_at ahead_down to))) (too_late by (ahead_at ahead_up to))) e in
      let same = same_Some (min (min a (too_late by (ahead_at ahead_down to))) (too_late by (ahead_at ahead_up to))) s (sym clamp_both ∙ is) in
      let none = ahead.end in
      let turn = ahead.turn to (own_ancestor (graph_of h) to to_there) in
      omega (arith, same, none, turn, le, less)
