-- The steps of a line reader on its way to a line.
use Rattle.std.specs.Prelude.{ℕ, List, [], ◌∷◌, ◌++◌, ◌+◌, ◌<◌, ◌≡◌, true, false, Option, Some, None, IfSome, length, take, drop}
use Rattle.cu_io.specs.Counts.{Rose}
use Rattle.cu_io.specs.Lines.{HasNoFeed}
use Rattle.cu_io.specs.LineReading.{ReaderState, TakesLine, Finds}
use Rattle.cu_io.specs.Sources.{SourceState}
use Rattle.cu_io.specs.Transfers.{Takes}
use Rattle.cu_io.specs.declared.line_reader.Found.{Found}
use Rattle.cu_io.specs.declared.line_reader.More.{More}
use Rattle.cu_io.specs.declared.line_reader.More.TheVariants as more

-- where the first line feed stands, if there is one
abbrev pub IsFeed : List ℕ → Option ℕ → Type 0
IsFeed bytes None = HasNoFeed bytes
IsFeed bytes (Some at) = (at < length bytes) × HasNoFeed (take at bytes) × (bytes ≡ take at bytes ++ 10 ∷ drop (at + 1) bytes)

-- what a step that may read gave
abbrev pub Gives : ReaderState → SourceState → SourceState → List ℕ → More → Type 0
Gives after source left chunk more.Bytes = (after.shown ≡ false) × (0 < length chunk) × (left.faults ≡ source.faults)
Gives after source left chunk more.End = (after.shown ≡ true) × (chunk ≡ []) × (left.faults ≡ source.faults)
Gives after source left chunk more.Fault = (after.shown ≡ false) × (chunk ≡ []) × (after.taken < after.take_limit) × Rose source.faults left.faults
Gives after source left chunk more.Spent = (after.shown ≡ false) × (chunk ≡ []) × (after.taken ≡ after.take_limit) × (left.faults ≡ source.faults)

-- a reader that took these bytes, and holds them behind those that it held
abbrev pub Holds : ReaderState → ReaderState → SourceState → SourceState → List ℕ → Type 0
Holds reader after source left chunk =
    TakesLine reader after source left chunk × (after.held ≡ reader.held ++ chunk) × (after.over ≡ reader.over)

-- a reader that has these bytes behind those that it held
abbrev pub holding_more : ReaderState → List ℕ → ReaderState
holding_more reader chunk = record reader { held = reader.held ++ chunk; line = []; taken = reader.taken + length chunk }

-- these bytes were the first of those left, and none where none was left
abbrev pub GivesChunk : Option (List ℕ) → Option (List ℕ) → List ℕ → Type 0
GivesChunk before now chunk = Takes before now chunk × (chunk ≡ [] → IfSome now (λ bytes. bytes ≡ []))

-- a step that may read
abbrev pub TakesMore : ReaderState → ReaderState → SourceState → SourceState → More → Type 0
TakesMore reader after source left what =
    (chunk : List ℕ) × Holds reader after source left chunk × Gives after source left chunk what

-- the steps of one call
abbrev pub Steps : ReaderState → ReaderState → SourceState → SourceState → Found → Type 0
Steps reader after source left what =
    (chunk : List ℕ) × TakesLine reader after source left chunk × Finds reader after source left chunk what × (after.over ≡ reader.over)
