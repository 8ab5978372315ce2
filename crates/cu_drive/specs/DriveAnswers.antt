-- The reply to a query that asks for the seconds of its drive.
use Rattle.std.specs.Prelude.{ℕ, List, [], ◌∷◌, ◌++◌, ◌≡◌, ◌⊎◌, codes, decimal}
use Rattle.std.specs.List.{join_by}
use Rattle.cu_model.specs.declared.queries.Query.{Query}
use Rattle.cu_model.specs.Answers.{IsArrival}
use Rattle.cu_model.specs.Networks.{NetworkValue}
use Rattle.cu_model.specs.Roads.{HasNoWalk}
use Rattle.cu_drive.specs.Drives.{Entered, entered}

-- a least arrival and its walk, said so, or `unreachable` exactly where there is no walk
abbrev pub IsAnswerAs : (ℕ → List ℕ → List ℕ) → NetworkValue → Query → List ℕ → Type 0
IsAnswerAs says g query reply =
    ((arrival : ℕ) × (walk : List ℕ) × (reply ≡ says arrival walk) × IsArrival g query arrival walk)
    ⊎ ((reply ≡ codes "unreachable") × HasNoWalk g query.from query.to)

abbrev pub stop_text : Entered → List ℕ
stop_text stop = decimal stop.road ++ 44 ∷ decimal stop.second

-- the reply of an arrival by a drive: `road,second` of each of its roads, a blank between two
abbrev pub drive_text : ℕ → List Entered → List ℕ
drive_text arrival stops = codes "arrive=" ++ decimal arrival ++ codes " drive=" ++ join_by stop_text (32 ∷ []) stops

-- an arrival over a walk that is driven from an absolute second, said by its drive
abbrev pub says_drive : NetworkValue → (second arrival : ℕ) → List ℕ → List ℕ
says_drive g second arrival walk = drive_text arrival (entered g walk second)

-- a least arrival and the drive of its walk from the query's second, or `unreachable`
abbrev pub IsDriveAnswer : NetworkValue → Query → List ℕ → Type 0
IsDriveAnswer g query reply = IsAnswerAs (says_drive g query.second) g query reply
