-- What a shelf in memory holds and counts.
use Rattle.std.specs.Prelude.{ℕ, List, Option, string_bytes}
use Rattle.std.specs.List.{count_by}
use Rattle.std.specs.Option.{option_map}
use Rattle.std.specs.Str.{bytes_eq}
use Rattle.std.specs.declared.string.String.{String}
use Rattle.std.specs.BTreeMap.{get_by_text}
use Rattle.std.specs.declared.alloc.Global.{Global}
use Rattle.cu_io.specs.declared.memory.memory_shelf.MemoryShelf.{MemoryShelf}
use Rattle.cu_io.specs.Memory.{CallList}

-- the bytes under a name, if there are any
abbrev pub file_under : MemoryShelf → List ℕ → Option (List ℕ)
file_under shelf name = option_map (λ file. file.items) (get_by_text shelf.files name)

-- how often a name stands in a list
abbrev pub times_named : List (String Global) → List ℕ → ℕ
times_named names name = count_by (λ other. bytes_eq (string_bytes other) name) names

-- the most bytes of a file that can be loaded
abbrev pub shelf_limit : MemoryShelf → ℕ
shelf_limit shelf = shelf.limit

-- how many loads of a name met a fault
abbrev pub failed_loads_of : MemoryShelf → List ℕ → ℕ
failed_loads_of shelf name = times_named shelf.failed_loads.items name

-- how many stores of a name met a fault
abbrev pub failed_stores_of : MemoryShelf → List ℕ → ℕ
failed_stores_of shelf name = times_named shelf.failed_stores.items name

-- its calls
abbrev pub shelf_calls : MemoryShelf → CallList
shelf_calls shelf = shelf.calls
