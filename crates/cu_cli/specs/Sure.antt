-- How a run ends over a shelf, a source and a sink that never fail.
use Rattle.std.specs.Prelude.{Option, Some}
use Rattle.cu_io.specs.Shelves.{ShelfState}
use Rattle.cu_io.specs.Sure.{file_or_empty, sure_limit}
use Rattle.cu_io.specs.declared.sure.SureShelf.{SureShelf}
use Rattle.cu_cli.specs.declared.stops.Stop.{Stop}
use Rattle.cu_cli.specs.declared.stops.Stop.TheVariants as stop

-- what the shelf tells: its files, its limit, and no fault of any name
abbrev pub shelf_state : SureShelf → ShelfState
shelf_state shelf = record {
  held = Some (λ name. Some (file_or_empty shelf name));
  most = sure_limit shelf;
  load_faults = λ name. 0;
  store_faults = λ name. 0;
}

-- no load, store, read or write is what stopped the run
abbrev pub IsFaultless : Option Stop → Type 0
IsFaultless (Some (stop.Fault whose)) = ⊥
IsFaultless (Some stop.Source) = ⊥
IsFaultless (Some stop.Sink) = ⊥
IsFaultless _ = Unit {0}
