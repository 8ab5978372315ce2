-- First ways: which way a shortcut is to take at a second, said by walks alone.
use Rattle.std.specs.Prelude.{ℕ, List, [], ◌∷◌, ◌≡◌, ◌<◌}
use Rattle.cu_model.specs.Networks.{NetworkValue}
use Rattle.cu_model.specs.Orders.{OrderValue}
use Rattle.cu_model.specs.Roads.{drive}
use Rattle.cu_interval.specs.declared.ways.Way.{Way}
use Rattle.cu_interval.specs.declared.ways.Way.TheVariants.{Road, Via}
use Rattle.cu_interval.specs.declared.ways.Entry.{Entry}
use Rattle.cu_interval.specs.Low.{LeadsRanks, HasLowWalk, IsLeastLowDrive}
use Rattle.cu_interval.specs.WayLists.{IsFirstEarliest, IsRunsOf}

-- the candidates from u to v: each road that leads there, and each lower middle that low walks join to both
abbrev pub IsCandidate : NetworkValue → OrderValue → ℕ → ℕ → Way → Type 0
IsCandidate g o u v (Road a) = LeadsRanks g o a u v
IsCandidate g o u v (Via m) = (m < u) × (m < v) × HasLowWalk g o u m × HasLowWalk g o m v

-- a road arrives as it is driven; a middle by the least drive to it, and from there by the least drive on
abbrev pub Arrives : NetworkValue → OrderValue → ℕ → ℕ → ℕ → Way → ℕ → Type 0
Arrives g o u v t (Road a) arrival = drive g (a ∷ []) t ≡ arrival
Arrives g o u v t (Via m) arrival = (between : ℕ) × IsLeastLowDrive g o u m t between × IsLeastLowDrive g o m v between arrival

-- the first way from u to v at t: the first candidate that arrives earliest
abbrev pub IsFirstWay : NetworkValue → OrderValue → ℕ → ℕ → ℕ → Way → Type 0
IsFirstWay g o u v t way = IsFirstEarliest (IsCandidate g o u v) (Arrives g o u v t) way

-- the built list from u to v: the maximal runs of its first ways over a day
abbrev pub IsBuiltList : NetworkValue → OrderValue → ℕ → ℕ → List Entry → Type 0
IsBuiltList g o u v entries = IsRunsOf (IsCandidate g o u v) (Arrives g o u v) entries
