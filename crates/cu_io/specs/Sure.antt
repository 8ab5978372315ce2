-- What a shelf that never fails holds.
use Rattle.std.specs.Prelude.{ℕ, List, [], Option, None, Some}
use Rattle.std.specs.Option.{option_map}
use Rattle.std.specs.BTreeMap.{get_by_text}
use Rattle.cu_io.specs.declared.sure.SureShelf.{SureShelf}
use Rattle.cu_io.specs.Sinks.{SinkState}
use Rattle.cu_io.specs.Sources.{SourceState}

-- these bytes, or none
abbrev pub bytes_or_none : Option (List ℕ) → List ℕ
bytes_or_none None = []
bytes_or_none (Some bytes) = bytes

-- the bytes under a name; none where nobody stored it
abbrev pub file_or_empty : SureShelf → List ℕ → List ℕ
file_or_empty shelf name = bytes_or_none (option_map (λ file. file.items) (get_by_text shelf.files name))

-- the most bytes of a file that can be loaded
abbrev pub sure_limit : SureShelf → ℕ
sure_limit shelf = shelf.limit

-- what a source with these bytes left that never fails tells: all of them, and no fault
abbrev pub sure_source : List ℕ → SourceState
sure_source bytes = record { left = Some bytes; faults = 0 }

-- what a sink that never fails tells: no bytes, and no fault
abbrev pub sure_sink : SinkState
sure_sink = record { written = None; flushed = 0; faults = 0 }
