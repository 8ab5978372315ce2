-- What is said of a stop, step by step.
use Rattle.std.proofs.Common.{◌≡◌, ◌≢◌, ◌∷◌, [], ◌++◌, ℕ, List, refl, inl, inr}
use Rattle.std.specs.Prelude.{Option, Some, Result, Ok, Err, IfOk, IfErr, IsErr, IsErrAnd}
use Rattle.cu_io.specs.Sinks.{SinkState, Wrote, WroteLine}
use Rattle.cu_io.proofs.Appending.{wrote_nothing, wrote_stops, line_stops}
use Rattle.cu_cli.specs.declared.stops.Stop.{Stop}
use Rattle.cu_cli.specs.Steps.Outcomes.{Said, stop_of}

ends_some : (xs : List ℕ) → xs ++ 10 ∷ [] ≢ []
ends_some [] e = cc e
ends_some (x ∷ xs) e = cc e

-- a line was written
pub said_line : {T E : Type 0} (a b : SinkState) (r : Result T E) (line : List ℕ) → WroteLine a b r line → Said a b r (line ++ 10 ∷ [])
said_line a b (Ok x) line h = record { wrote = h.wrote; flushed = inr h.flushed; some = tt }
said_line a b (Err e) line h = record { wrote = h.wrote; flushed = tt; some = ends_some line }

-- a line broke off in its first text
pub line_breaks : {T E S F : Type 0} {a b : SinkState} {e : E} {r : Result S F} {xs : List ℕ} (rest : List ℕ) → IsErr r → Wrote {T = T} {E = E} a b (Err e) xs → WroteLine a b r (xs ++ rest)
line_breaks {T = T} {E = E} {e = e} rest is h = line_stops {T = T} {E = E} {e = e} is (wrote_stops rest refl h)

-- there is no line to write
pub said_nothing : {T E : Type 0} (a : SinkState) (x : T) → Said {T = T} {E = E} a a (Ok x) []
said_nothing a x = record { wrote = wrote_nothing a x; flushed = inl refl; some = tt }

-- a stop that is known
pub stop_is : {T : Type 0} (r : Result T Stop) (why : Option Stop) → IsErrAnd r (λ other. Some other ≡ why) → stop_of r ≡ why
stop_is (Ok x) why h = absurd h
stop_is (Err other) why h = h

pub if_ok_map : {T E : Type 0} (r : Result T E) (P Q : T → Type 0) → ((x : T) → P x → Q x) → IfOk r P → IfOk r Q
if_ok_map (Ok x) P Q f h = f x h
if_ok_map (Err e) P Q f h = tt

pub if_err_map : {T E : Type 0} (r : Result T E) (P Q : E → Type 0) → ((e : E) → P e → Q e) → IfErr r P → IfErr r Q
if_err_map (Ok x) P Q f h = tt
if_err_map (Err e) P Q f h = f e h
