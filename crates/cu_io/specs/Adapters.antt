-- What the adapters tell, and what stands behind them.
use Rattle.std.specs.Prelude.{◌≡◌, ℕ, ◌<◌, List, length, Option, None, IfSome}
use Rattle.std.specs.Io.KnownBytes.{Appends}
use Rattle.cu_io.specs.Shelves.{ShelfState}
use Rattle.cu_io.specs.Sinks.{SinkState}
use Rattle.cu_io.specs.Sources.{SourceState}
use Rattle.cu_io.specs.declared.disk.DiskShelf.{DiskShelf}
use Rattle.cu_io.specs.declared.disk.TheConstants.{LIMIT}
use Rattle.cu_io.specs.declared.standard.StdSource.{StdSource}
use Rattle.cu_io.specs.declared.standard.StdSink.{StdSink}

-- the source tells no bytes
abbrev pub source_state : {R : Type 0} → StdSource R → SourceState
source_state source = record { left = None; faults = source.faults }

-- the bytes that its reader will give, where these are known
abbrev pub source_remaining : {R : Type 0} → (R → Option (List ℕ)) → StdSource R → Option (List ℕ)
source_remaining remaining source = remaining source.reader

-- the sink tells no bytes
abbrev pub sink_state : {W : Type 0} → StdSink W → SinkState
sink_state sink = record { written = None; flushed = 0; faults = sink.faults }

-- the bytes that its writer holds, where these are known
abbrev pub sink_contents : {W : Type 0} → (W → Option (List ℕ)) → StdSink W → Option (List ℕ)
sink_contents contents sink = contents sink.writer

-- the shelf of files tells no bytes, and all names share its counts
abbrev pub disk_state : {R File Dir : Type 0} → DiskShelf R File Dir → ShelfState
disk_state shelf = record { held = None; most = LIMIT; load_faults = λ name. shelf.load_faults; store_faults = λ name. shelf.store_faults }

-- these are the bytes that some file had left, where these are known
pub record SomeGives {File : Type 0} (remaining : File → Option (List ℕ)) (bytes : List ℕ) : Type 0 where
  pub file : File
  pub gives : IfSome (remaining file) (λ left. bytes ≡ left)

-- some file had more bytes left than the limit, where these are known
pub record SomeGivesMore {File : Type 0} (remaining : File → Option (List ℕ)) (limit : ℕ) : Type 0 where
  pub file : File
  pub more : IfSome (remaining file) (λ left. limit < length left)

-- some file took these bytes behind those that it held, where these are known
pub record SomeTakes {File : Type 0} (contents : File → Option (List ℕ)) (bytes : List ℕ) : Type 0 where
  pub before : File
  pub now : File
  pub takes : Appends (contents before) (contents now) bytes
