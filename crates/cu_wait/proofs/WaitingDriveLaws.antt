-- A walk driven with as little waiting as serves arrives when the network in pieces does.
use Rattle.std.proofs.Common.{◌≡◌, ◌+◌, ◌-◌, ◌*◌, ◌∙◌, ℕ, List, [], ◌∷◌, refl, sym, subst, ap, arith, inl}
use Rattle.cu_model.proofs.RoadLaws.{all_at}
use Rattle.cu_model.specs.declared.profiles.Piece.{Piece}
use Rattle.cu_model.specs.declared.queries.Query.{Query}
use Rattle.cu_model.specs.Answers.{IsArrival}
use Rattle.cu_model.specs.Days.{RepeatsDaily, day}
use Rattle.cu_model.specs.Networks.{IsNetwork, NetworkValue}
use Rattle.cu_model.specs.Profiles.{IsProfile, profile_value}
use Rattle.cu_model.specs.Roads.{arc_value, drive}
use Rattle.cu_model.proofs.ProfileLaws.{profile_value-days, profile_value-fifo}
use Rattle.cu_drive.specs.Drives.{Entered, entered}
use Rattle.cu_wait.specs.declared.points.Point.{Point}
use Rattle.cu_wait.specs.Converted.{IsConverted, StandFor}
use Rattle.cu_wait.specs.LeftSeconds.{IsLeft, left_at}
use Rattle.cu_wait.specs.Measured.{raw_arrival}
use Rattle.cu_wait.specs.Networks.{IsRawWalk, LeadsRaw, Measured, InPieces, RawNetwork, RawProfile, raw_arc_value, raw_value, waiting_drive}
use Rattle.cu_wait.specs.WaitingDrives.{IsDrivenWaiting, IsWaitingDriveAnswer, Waited, entered_of, waited, waiting_drive_text, waits_of}
use Rattle.cu_wait.specs.Waits.{IsLeastFrom}
use Rattle.cu_wait.proofs.AnswerLaws.{waiting_arrival}
use Rattle.cu_wait.proofs.HullLaws.{raw_days}
use Rattle.cu_wait.proofs.LeftLaws.{left_at_once, left_is_at}
use Rattle.cu_wait.proofs.WaitingLaws.{least_of_road, raw_by, stands_some, walk_raw}

-- there is one least value
pub least_one : (f : ℕ → ℕ) (t a b : ℕ) → IsLeastFrom f t a → IsLeastFrom f t b → a ≡ b
least_one f t a b first second =
    let (s, le, is) = first.reached in
    let (r, from, at) = second.reached in
    let low = first.least r from in
    let high = second.least s le in
    omega (arith, low, high, is, at)

-- on a profile in pieces one leaves at once
pub pieces_left : (pieces : List Piece) → IsProfile pieces → (second : ℕ) → IsLeft (profile_value pieces) second second
pieces_left pieces is second = left_at_once (profile_value pieces) second (profile_value-fifo pieces is second)

-- on a measured one at the second that is defined
pub points_left : (points : List Point) (second : ℕ) → IsLeft (raw_arrival points) second (left_at (raw_arrival points) second)
points_left points second = left_is_at (raw_arrival points) (raw_days points) second

module _ (raw : RawNetwork) (g : NetworkValue) (c : IsConverted raw g) (n : IsNetwork g) where
  -- on a road one leaves at a second at which one arrives when the road in pieces does
  pub arrives_left : (road u v t left : ℕ) → LeadsRaw raw road u v → IsLeft (raw_arc_value raw road) t left → raw_arc_value raw road left ≡ arc_value g road t
  arrives_left road u v t left leads is =
      least_one (raw_arc_value raw road) t (raw_arc_value raw road left) (arc_value g road t) is.least (least_of_road raw g c n road u v leads t)

  -- so one does at the end
  pub waits_arrive : (u : ℕ) (walk : List ℕ) (v t : ℕ) (stops : List Waited) → IsRawWalk raw u walk v → IsDrivenWaiting raw walk t stops
      → waiting_drive raw walk (waits_of stops) t ≡ drive g walk t
  waits_arrive u [] v t [] w is = refl
  waits_arrive u [] v t (stop ∷ stops) w is = absurd is
  waits_arrive u (road ∷ walk) v t [] w is = absurd is
  waits_arrive u (road ∷ walk) v t (stop ∷ stops) (x, leads, more) (same, second, left, rest) =
      let later = left.later in
      let e : t + (stop.left - stop.second) ≡ stop.left = omega (arith, second, later) in
      let on = arrives_left road u x t stop.left leads left in
      ap (λ (s : ℕ). waiting_drive raw walk (waits_of stops) (raw_arc_value raw road s)) e
      ∙ waits_arrive x walk v (raw_arc_value raw road stop.left) stops more rest
      ∙ ap (drive g walk) on

  -- the seconds are those at which the network in pieces enters the roads
  pub waits_enter : (u : ℕ) (walk : List ℕ) (v t : ℕ) (stops : List Waited) → IsRawWalk raw u walk v → IsDrivenWaiting raw walk t stops → entered_of stops ≡ entered g walk t
  waits_enter u [] v t [] w is = refl
  waits_enter u [] v t (stop ∷ stops) w is = absurd is
  waits_enter u (road ∷ walk) v t [] w is = absurd is
  waits_enter u (road ∷ walk) v t (stop ∷ stops) (x, leads, more) (same, second, left, rest) =
      let on = arrives_left road u x t stop.left leads left in
      ap (λ (r : ℕ). record { road = r; second = stop.second } ∷ entered_of stops) same
      ∙ ap (λ (s : ℕ). record { road = road; second = s } ∷ entered_of stops) second
      ∙ ap (λ (stops : List Entered). record { road = road; second = t } ∷ stops) (waits_enter x walk v (raw_arc_value raw road stop.left) stops more rest
      ∙ ap (entered g walk) on)

  profile_days : (profile : RawProfile) (pieces : List Piece) → StandFor profile pieces → IsProfile pieces → RepeatsDaily (raw_value profile)
  profile_days (Measured points) pieces stands valid = raw_days points
  profile_days (InPieces own) pieces stands valid = subst (λ (x : List Piece). RepeatsDaily (profile_value x)) stands (profile_value-days pieces valid)

  -- a road repeats by days
  pub road_days : (road u v : ℕ) → LeadsRaw raw road u v → RepeatsDaily (raw_arc_value raw road)
  road_days road u v (arc, profile, at, tail, head, there, free) =
      let (pieces, is, stands) = stands_some _ _ profile there (c.profiles arc.profile) in
      let valid = all_at IsProfile g.profiles arc.profile pieces n.valid is in
      let alike = raw_by raw road arc profile at there in
      λ days second lt. sym (alike (days * day + second)) ∙ profile_days profile pieces stands valid days second lt ∙ ap (λ (x : ℕ). days * day + x) (alike second)

  -- the seconds that are defined are such
  pub waited_is : (u : ℕ) (walk : List ℕ) (v t : ℕ) → IsRawWalk raw u walk v → IsDrivenWaiting raw walk t (waited raw walk t)
  waited_is u [] v t w = tt
  waited_is u (road ∷ walk) v t (x, leads, more) =
      let left = left_at (raw_arc_value raw road) t in
      (refl, refl, left_is_at (raw_arc_value raw road) (road_days road u x leads) t, waited_is x walk v (raw_arc_value raw road left) more)

  -- a least arrival, told with these seconds, is a right answer over all walks and all waits
  pub drive_answer : (query : Query) (arrival : ℕ) (walk : List ℕ) → IsArrival g query arrival walk
      → IsWaitingDriveAnswer raw query (waiting_drive_text arrival (waited raw walk query.second))
  drive_answer query arrival walk is =
      let w = walk_raw raw g c n query.from walk query.to is.joined in
      let stops = waited raw walk query.second in
      let driven = waited_is query.from walk query.to query.second w in
      inl (
        arrival,
        walk,
        stops,
        refl,
        waiting_arrival raw g c n query arrival walk is,
        driven,
        waits_arrive query.from walk query.to query.second stops w driven ∙ is.driven,
      )
