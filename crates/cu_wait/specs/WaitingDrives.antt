-- Drives with waits, road by road: when each road is entered, and when it is left for.
use Rattle.std.specs.Prelude.{ℕ, List, [], ◌∷◌, ◌++◌, ◌≡◌, ◌⊎◌, ◌-◌, codes, decimal, map}
use Rattle.std.specs.List.{join_by}
use Rattle.cu_model.specs.declared.queries.Query.{Query}
use Rattle.cu_drive.specs.Drives.{Entered}
use Rattle.cu_wait.specs.LeftSeconds.{IsLeft, left_at}
use Rattle.cu_wait.specs.Networks.{HasNoRawWalk, RawNetwork, raw_arc_value, waiting_drive}
use Rattle.cu_wait.specs.WaitingAnswers.{IsWaitingArrival}

-- a road of a drive, the second at which one is there, and that at which one leaves, having waited
pub record Waited : Type 0 where
  pub road : ℕ
  pub second : ℕ
  pub left : ℕ

-- The roads of a walk, driven from an absolute second by whoever waits at each road as little as serves to arrive there first: one is at the
-- first road then, and at each next one when the road before it arrives.
abbrev pub IsDrivenWaiting : RawNetwork → List ℕ → ℕ → List Waited → Type 0
IsDrivenWaiting g [] t [] = Unit {0}
IsDrivenWaiting g (road ∷ walk) t (stop ∷ stops) =
    (stop.road ≡ road) × (stop.second ≡ t) × IsLeft (raw_arc_value g road) t stop.left × IsDrivenWaiting g walk (raw_arc_value g road stop.left) stops
IsDrivenWaiting g _ t _ = ⊥

-- the roads and when they are entered
abbrev pub entered_of : List Waited → List Entered
entered_of stops = map (λ (stop : Waited). record { road = stop.road; second = stop.second }) stops

-- the wait at each road
abbrev pub waits_of : List Waited → List ℕ
waits_of stops = map (λ (stop : Waited). stop.left - stop.second) stops

abbrev pub waited_text : Waited → List ℕ
waited_text stop = decimal stop.road ++ 44 ∷ decimal stop.second ++ 44 ∷ decimal stop.left

-- the reply of an arrival by such a drive: `road,second,left` of each of its roads, a blank between two
abbrev pub waiting_drive_text : ℕ → List Waited → List ℕ
waiting_drive_text arrival stops = codes "arrive=" ++ decimal arrival ++ codes " drive=" ++ join_by waited_text (32 ∷ []) stops

-- `arrive=` with a least waiting arrival and a drive that, with the waits it tells, is a waiting drive that arrives then; or `unreachable`
-- exactly where there is no walk
abbrev pub IsWaitingDriveAnswer : RawNetwork → Query → List ℕ → Type 0
IsWaitingDriveAnswer g query reply =
    ((arrival : ℕ) × (walk : List ℕ) × (stops : List Waited) × (reply ≡ waiting_drive_text arrival stops) × IsWaitingArrival g query arrival walk
    × IsDrivenWaiting g walk query.second stops × (waiting_drive g walk (waits_of stops) query.second ≡ arrival))
    ⊎ ((reply ≡ codes "unreachable") × HasNoRawWalk g query.from query.to)

-- the drive of a walk, by the seconds at which one leaves
abbrev pub waited : RawNetwork → List ℕ → ℕ → List Waited
waited g [] t = []
waited g (road ∷ walk) t =
    record { road = road; second = t; left = left_at (raw_arc_value g road) t } ∷ waited g walk (raw_arc_value g road (left_at (raw_arc_value g road) t))

-- an arrival over a walk that is driven from an absolute second, said by this drive
abbrev pub says_waits : RawNetwork → (second arrival : ℕ) → List ℕ → List ℕ
says_waits g second arrival walk = waiting_drive_text arrival (waited g walk second)
