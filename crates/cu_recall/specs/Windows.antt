-- What driving a list from a second of the day takes, and over which seconds around it that stays so.
use Rattle.std.specs.Prelude.{ℕ, ◌≤◌, ◌<◌, ◌+◌}
use Rattle.cu_model.specs.Days.{day}
use Rattle.cu_interval.specs.Hierarchies.{HierarchyValue}
use Rattle.cu_recall.specs.declared.spans.Driven.{Driven}
use Rattle.cu_recall.specs.Spans.{IsListFrom, WalkTakes}

-- so many seconds before a second, and fewer than so many after it
abbrev pub IsNear : ℕ → ℕ → ℕ → ℕ → Type 0
IsNear second back ahead t = (second ≤ t + back) × (t < second + ahead)

-- all of these are of the same day, and the second is among them
abbrev pub IsWindow : ℕ → ℕ → ℕ → Type 0
IsWindow second back ahead = (back ≤ second) × (0 < ahead) × (second + ahead ≤ day)

-- near a second, driving from u to v takes as long over as many roads
pub record IsDriven (h : HierarchyValue) (u v second : ℕ) (driven : Driven) : Type 0 where
  pub window : IsWindow second driven.back driven.ahead
  pub takes : (t : ℕ) → IsNear second driven.back driven.ahead t → WalkTakes h u v t driven.travel driven.roads

-- the same of the list with a number
abbrev pub HoldsDriven : HierarchyValue → ℕ → ℕ → Driven → Type 0
HoldsDriven h list second driven = (u v : ℕ) → IsListFrom h list u v → IsDriven h u v second driven
