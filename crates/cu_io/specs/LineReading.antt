-- What a line reader holds, and what one call of it takes from a source and hands out.
use Rattle.std.specs.Prelude.{ℕ, List, [], ◌++◌, ◌+◌, ◌<◌, ◌≤◌, ◌≡◌, Bool, true, false, is_some, IfSome, length}
use Rattle.cu_io.specs.Counts.{Rose}
use Rattle.cu_io.specs.Lines.{HasNoFeed, IsFirstLine, without_return}
use Rattle.cu_io.specs.Sources.{SourceState}
use Rattle.cu_io.specs.Transfers.{Takes}
use Rattle.cu_io.specs.declared.line_reader.Found.{Found}
use Rattle.cu_io.specs.declared.line_reader.Found.TheVariants as found
use Rattle.cu_io.specs.declared.line_reader.Line.{Line}
use Rattle.cu_io.specs.declared.line_reader.Line.TheVariants as line

-- a line reader: the bytes taken and not handed out; the line handed out last, without its line feed; how many bytes were taken in
-- all; whether a read showed the end of input; whether its work is over; the most bytes of a line, and the most bytes to take
pub record ReaderState : Type 0 where
  pub held : List ℕ
  pub line : List ℕ
  pub taken : ℕ
  pub shown : Bool
  pub over : Bool
  pub line_limit : ℕ
  pub take_limit : ℕ

-- no call may follow this answer
abbrev pub is_last : Found → Bool
is_last found.Text = false
is_last found.Long = false
is_last found.End = true
is_last found.Fault = true
is_last found.Spent = true

-- what was found in the bytes that were held, and those that were taken then; the source's count of faults rose where a fault was
-- found, and stayed where anything else was
abbrev pub Finds : ReaderState → ReaderState → SourceState → SourceState → List ℕ → Found → Type 0
Finds reader after source left chunk found.Text = IsFirstLine (reader.held ++ chunk) after.shown after.line after.held × (length after.line ≤ reader.line_limit) × (left.faults ≡ source.faults)
Finds reader after source left chunk found.Long = (line : List ℕ) × IsFirstLine (reader.held ++ chunk) after.shown line after.held × (reader.line_limit < length line) × (left.faults ≡ source.faults)
Finds reader after source left chunk found.End = (reader.held ++ chunk ≡ []) × (after.held ≡ []) × (after.shown ≡ true) × (left.faults ≡ source.faults)
Finds reader after source left chunk found.Fault = HasNoFeed (reader.held ++ chunk) × (after.shown ≡ false) × (after.taken < reader.take_limit) × Rose source.faults left.faults
Finds reader after source left chunk found.Spent = HasNoFeed (reader.held ++ chunk) × (after.shown ≡ false) × (after.taken ≡ reader.take_limit) × (left.faults ≡ source.faults)

-- one call took these bytes, no more than the limit allows, and none once the end was shown
pub record TakesLine (reader after : ReaderState) (source left : SourceState) (chunk : List ℕ) : Type 0 where
  pub takes : Takes source.left left.left chunk
  pub tells : is_some left.left ≡ is_some source.left
  pub later : source.faults ≤ left.faults
  pub taken : after.taken ≡ reader.taken + length chunk
  pub within : after.taken ≤ reader.take_limit
  pub line_limit : after.line_limit ≡ reader.line_limit
  pub take_limit : after.take_limit ≡ reader.take_limit
  pub rests : reader.shown ≡ true → (after.shown ≡ true) × (left ≡ source) × (chunk ≡ [])
  pub ends : reader.shown ≡ false → after.shown ≡ true → IfSome left.left (λ bytes. bytes ≡ [])
  pub unspent : reader.shown ≡ false → after.shown ≡ true → after.taken < after.take_limit

-- one call of a line reader
abbrev pub Reads : ReaderState → ReaderState → SourceState → SourceState → Found → Type 0
Reads reader after source left what =
    (chunk : List ℕ) × TakesLine reader after source left chunk × Finds reader after source left chunk what × (after.over ≡ is_last what)

-- what stands for a line
abbrev pub found_of : Line → Found
found_of (line.Text text) = found.Text
found_of line.Long = found.Long
found_of line.End = found.End
found_of line.Fault = found.Fault
found_of line.Spent = found.Spent

-- the text is the line without one carriage return at its end
abbrev pub Shows : ReaderState → Line → Type 0
Shows after (line.Text text) = text.now ≡ without_return after.line
Shows after _ = Unit {0}

-- one call of a line reader, the line that it shows, and no more bytes held behind it than it has room for
abbrev pub NextLine : ReaderState → ReaderState → SourceState → SourceState → Line → Type 0
NextLine reader after source left shown =
    Reads reader after source left (found_of shown) × Shows after shown × (length after.held ≤ after.line_limit + 1)
