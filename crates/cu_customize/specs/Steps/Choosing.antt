-- One way more beside a list of ways: which of them is taken at each second.
use Rattle.std.specs.Prelude.{ℕ, Bool, List, Option, Some, None, ◌≡◌, ◌≢◌, ◌≤◌, ◌<◌, ◌+◌, ◌⊎◌, All, true, false, slice_get}
use Rattle.std.specs.Option.{option_map}
use Rattle.cu_model.specs.Begun.{Rises}
use Rattle.cu_model.specs.Days.{day}
use Rattle.cu_arrival.specs.declared.runs.Choice.{Choice}
use Rattle.cu_arrival.specs.Choices.{choice_at}
use Rattle.cu_interval.specs.declared.ways.Way.{Way}
use Rattle.cu_interval.specs.declared.ways.Entry.{Entry}
use Rattle.cu_interval.specs.WayLists.{way_in}
use Rattle.cu_customize.specs.declared.choosing.Front.{Front}

-- choices from rising seconds of the day, the first from 0
pub record AreTurns (choices : List Choice) : Type 0 where
  pub limits : All (λ (choice : Choice). choice.from < day) choices
  pub starts : option_map (λ (choice : Choice). choice.from) (slice_get choices 0) ≡ Some 0
  pub rises : Rises (λ (choice : Choice). choice.from) choices

-- the way that stands, or the other one
abbrev pub side : Bool → Option Way → Way → Option Way
side true standing way = Some way
side false standing way = standing

-- the other one where the choice is the second function's
abbrev pub chosen_by : Option Choice → Option Way → Way → Option Way
chosen_by None standing way = standing
chosen_by (Some choice) standing way = side choice.second standing way

-- the way of the list in force at a second of the day, or the other one where that is chosen
abbrev pub chosen : List Entry → List Choice → Way → ℕ → Option Way
chosen entries choices way second = chosen_by (choice_at choices second) (way_in entries second) way

-- the second from which an item that is there holds, else the end of the day
abbrev pub begin_or_day : Option ℕ → ℕ
begin_or_day None = day
begin_or_day (Some second) = second

-- the item with this index holds at a second: it has begun, and the next one hasn't
pub record IsInForce {A : Type 0} (from : A → ℕ) (items : List A) (index second : ℕ) : Type 0 where
  pub begun : (x : A) × (slice_get items index ≡ Some x) × (from x ≤ second)
  pub lasts : second < begin_or_day (option_map from (slice_get items (index + 1)))

-- a second, and the entry and the choice that hold at it, unless the day is over
pub record IsFront (entries : List Entry) (choices : List Choice) (front : Front) : Type 0 where
  pub within : front.at ≤ day
  pub entry : front.at < day → IsInForce (λ (entry : Entry). entry.from) entries front.entry front.at
  pub choice : front.at < day → IsInForce (λ (choice : Choice). choice.from) choices front.choice front.at

-- the next second at which the entry or the choice turns
pub record IsNextFront (entries : List Entry) (choices : List Choice) (old new : Front) : Type 0 where
  pub front : IsFront entries choices new
  pub later : old.at < new.at
  pub entry : new.at ≤ begin_or_day (option_map (λ (entry : Entry). entry.from) (slice_get entries (old.entry + 1)))
  pub choice : new.at ≤ begin_or_day (option_map (λ (choice : Choice). choice.from) (slice_get choices (old.choice + 1)))

-- an index moves on where its item ends at this second
abbrev pub IsMoved : ℕ → ℕ → ℕ → ℕ → Type 0
IsMoved end at old new = ((at ≡ end) × (new ≡ old + 1)) ⊎ ((at ≢ end) × (new ≡ old))
