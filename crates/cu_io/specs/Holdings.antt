-- What a shelf holds under its names, where it tells, and what it answers. A name is the bytes of its text.
use Rattle.std.specs.Prelude.{◌≡◌, ◌≢◌, ℕ, ◌<◌, List, length, Option, None, Some, Result, Err}
use Rattle.cu_io.specs.declared.shelf.LoadFailed.{LoadFailed}
use Rattle.cu_io.specs.declared.shelf.LoadFailed.TheVariants as load
use Rattle.cu_io.specs.declared.shelf.StoreFailed.{StoreFailed}
use Rattle.cu_io.specs.declared.shelf.StoreFailed.TheVariants as store

-- the bytes held under a name, if the shelf tells and there are any
abbrev pub bytes_under : Option (List ℕ → Option (List ℕ)) → List ℕ → Option (List ℕ)
bytes_under None name = None
bytes_under (Some files) name = files name

-- these are the bytes under the name
abbrev pub Holds : Option (List ℕ → Option (List ℕ)) → List ℕ → List ℕ → Type 0
Holds None name bytes = Unit {0}
Holds (Some files) name bytes = files name ≡ Some bytes

-- the name has more bytes than the limit
abbrev pub HoldsMore : Option (List ℕ → Option (List ℕ)) → List ℕ → ℕ → Type 0
HoldsMore None name limit = Unit {0}
HoldsMore (Some files) name limit = (bytes : List ℕ) × (files name ≡ Some bytes) × (limit < length bytes)

-- every other name holds what it held
abbrev pub KeepsOthers : Option (List ℕ → Option (List ℕ)) → Option (List ℕ → Option (List ℕ)) → List ℕ → Type 0
KeepsOthers before now name = (other : List ℕ) → other ≢ name → bytes_under now other ≡ bytes_under before other

-- P, if the load met a fault
abbrev pub OnLoadFault : {T : Type 0} → Result T LoadFailed → Type 0 → Type 0
OnLoadFault (Err load.Fault) P = P
OnLoadFault _ P = Unit {0}

-- P, if the load found more bytes than the limit
abbrev pub OnTooLong : {T : Type 0} → Result T LoadFailed → Type 0 → Type 0
OnTooLong (Err load.TooLong) P = P
OnTooLong _ P = Unit {0}

-- P, if the store met a fault
abbrev pub OnStoreFault : {T : Type 0} → Result T StoreFailed → Type 0 → Type 0
OnStoreFault (Err store.Fault) P = P
OnStoreFault _ P = Unit {0}

-- P, unless the load met a fault
abbrev pub UnlessLoadFault : {T : Type 0} → Result T LoadFailed → Type 0 → Type 0
UnlessLoadFault (Err load.Fault) P = Unit {0}
UnlessLoadFault _ P = P

-- P, unless the store met a fault
abbrev pub UnlessStoreFault : {T : Type 0} → Result T StoreFailed → Type 0 → Type 0
UnlessStoreFault (Err store.Fault) P = Unit {0}
UnlessStoreFault _ P = P
