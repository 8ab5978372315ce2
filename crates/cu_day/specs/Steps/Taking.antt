-- One arc, taken by its function.
use Rattle.std.specs.Prelude.{ℕ, List, Option, Some, None, ◌≡◌, ◌≢◌, ◌<◌, ◌^◌, length, min, option_map}
use Rattle.cu_model.specs.Days.{day}
use Rattle.cu_arrival.specs.declared.runs.Run.{Run}
use Rattle.cu_arrival.specs.Runs.{IsArrivalFunction, arrival_value}
use Rattle.cu_interval.specs.Resettling.{lesser_of}
use Rattle.cu_day.specs.Steps.Sweeping.{AreSound, label_at, value_at}

-- a function has, at each second of the day, the lesser of both
pub record IsEarlier (first : Option (List Run)) (second function : List Run) : Type 0 where
  pub sound : IsArrivalFunction function
  pub value : (t : ℕ) → t < day → Some (arrival_value function t) ≡ lesser_of (value_at (Some first) t) (Some (arrival_value second t))

-- a label is there, with the earlier of both
abbrev pub HasEarlier : Option (List Run) → List Run → Option (List Run) → Type 0
HasEarlier first second None = ⊥
HasEarlier first second (Some function) = IsEarlier first second function

-- the arc of a function was taken from one rank to another
pub record TakesArc (function : List Run) (x y : ℕ) (before after : List (Option (List Run))) : Type 0 where
  pub long : length after ≡ length before
  pub sound : AreSound before → AreSound after
  pub others : (t z : ℕ) → z ≢ y → label_at after t z ≡ label_at before t z
  pub end : (t : ℕ) → t < day → label_at after t y ≡ lesser_of (label_at before t y)
      (option_map (λ s. min (arrival_value function s) (2 ^ 62)) (label_at before t x))
