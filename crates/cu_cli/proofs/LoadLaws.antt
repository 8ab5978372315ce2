-- Loads one after another.
use Rattle.std.proofs.Common.{◌≡◌, ℕ, List, [], ◌∷◌, ◌++◌, ◌∙◌, refl, ap, arith, inl, inr}
use Rattle.std.specs.Prelude.{Option, Some, None, Result, Ok, Err, IfErr}
use Rattle.cu_io.specs.Shelves.{ShelfState}
use Rattle.cu_cli.specs.declared.stops.Stop.{Stop}
use Rattle.cu_cli.specs.declared.stops.Stop.TheVariants as stop
use Rattle.cu_cli.specs.Preparing.{IsLoaded, StopsLoad, AreLoaded, StopsLoading}
use Rattle.cu_cli.specs.Runs.{CountsFaults}
use Rattle.cu_cli.specs.Steps.Loading.{OnlyLoads}
use Rattle.cu_cli.specs.Steps.Outcomes.{IsBeforeScript, IsRefusal, stop_of}
use Rattle.cu_cli.specs.Words.{FileAsked}

-- what is counted behind counts that didn't change
pub counts_behind : (a b c : ShelfState) (why : Option Stop) → b.load_faults ≡ a.load_faults → b.store_faults ≡ a.store_faults → CountsFaults why b c → CountsFaults why a c
counts_behind a b c (Some (stop.Fault whose)) loads stores (name, inl rose) =
    let same : b.load_faults name ≡ a.load_faults name = ap (λ (counts : List ℕ → ℕ). counts name) loads in
    (name, inl (omega (arith, same, rose)))
counts_behind a b c (Some (stop.Fault whose)) loads stores (name, inr rose) =
    let same : b.store_faults name ≡ a.store_faults name = ap (λ (counts : List ℕ → ℕ). counts name) stores in
    (name, inr (omega (arith, same, rose)))
counts_behind a b c _ loads stores k = (k.0 ∙ loads, k.1 ∙ stores)

-- no fault is behind a refusal
pub counts_refusal : (a b : ShelfState) (why : Stop) → IsRefusal why → CountsFaults None a b → CountsFaults (Some why) a b
counts_refusal a b (stop.Fault whose) h k = absurd h
counts_refusal a b _ h k = k

pub only_nothing : (a : ShelfState) → OnlyLoads None a a
only_nothing a = record { held = refl; most = refl; stores = refl; faults = (refl, refl) }

pub only_then : {a b c : ShelfState} (why : Option Stop) → OnlyLoads None a b → OnlyLoads why b c → OnlyLoads why a c
only_then {a = a} {b = b} {c = c} why h k = record {
  held = k.held ∙ h.held;
  most = k.most ∙ h.most;
  stores = k.stores ∙ h.stores;
  faults = counts_behind a b c why h.faults.0 h.faults.1 k.faults;
}

-- loads, and a refusal behind them
pub only_refused : {a b : ShelfState} (why : Stop) → IsRefusal why → OnlyLoads None a b → OnlyLoads (Some why) a b
only_refused {a = a} {b = b} why refusal h = record { held = h.held; most = h.most; stores = h.stores; faults = counts_refusal a b why refusal h.faults }

-- a refusal comes before the script
pub early : (why : Stop) → IsRefusal why → IsBeforeScript why
early (stop.Fault whose) h = absurd h
early stop.Source h = absurd h
early stop.Sink h = absurd h
early stop.TakeLimit h = absurd h
early _ h = tt

-- loads, and a reading behind them
pub only_read : {T : Type 0} {a b : ShelfState} (r : Result T Stop) → OnlyLoads None a b → IfErr r IsRefusal → OnlyLoads (stop_of r) a b
only_read (Ok x) h refusal = h
only_read (Err why) h refusal = only_refused why refusal h

-- a file that is loaded behind others could be loaded before them
pub loaded_behind : {a b : ShelfState} (file : FileAsked) (bytes : List ℕ) → OnlyLoads None a b → IsLoaded b file bytes → IsLoaded a file bytes
loaded_behind file bytes h (holds, short) = (rw h.held at holds, rw h.most at short)

pub all_loaded_behind : {a b : ShelfState} (files : List FileAsked) (texts : List (List ℕ)) → OnlyLoads None a b → AreLoaded b files texts → AreLoaded a files texts
all_loaded_behind [] [] h k = tt
all_loaded_behind [] (text ∷ texts) h k = absurd k
all_loaded_behind (file ∷ files) [] h k = absurd k
all_loaded_behind (file ∷ files) (text ∷ texts) h (loaded, more) = (loaded_behind file text h loaded, all_loaded_behind files texts h more)

-- a load that stops the run behind others that met no fault
pub stops_behind : {a b : ShelfState} (c : ShelfState) (file : FileAsked) (why : Stop) → OnlyLoads None a b → StopsLoad b c file why → StopsLoad a c file why
stops_behind {a = a} {b = b} c file (stop.Fault whose) h (same, rose) =
    let still : b.load_faults file.name ≡ a.load_faults file.name = ap (λ (counts : List ℕ → ℕ). counts file.name) h.faults.0 in
    (same, omega (arith, still, rose))
stops_behind c file (stop.TooLong whose) h (same, more, still) = (same, rw (h.held, h.most) at more, still ∙ h.faults.0)
stops_behind c file stop.NoMemory h k = tt
stops_behind c file _ h k = absurd k

pub stops_all_behind : {a b : ShelfState} (c : ShelfState) (files : List FileAsked) (why : Stop) → OnlyLoads None a b → StopsLoading b c files why → StopsLoading a c files why
stops_all_behind c [] why h k = absurd k
stops_all_behind c (file ∷ files) why h (inl stops) = inl (stops_behind c file why h stops)
stops_all_behind c (file ∷ files) why h (inr (text, loaded, more)) = inr (text, loaded_behind file text h loaded, stops_all_behind c files why h more)

-- the loads of more files behind those of some
pub loaded_then : (a : ShelfState) (files more : List FileAsked) (texts others : List (List ℕ)) → AreLoaded a files texts → AreLoaded a more others → AreLoaded a (files ++ more) (texts ++ others)
loaded_then a [] more [] others h k = k
loaded_then a [] more (text ∷ texts) others h k = absurd h
loaded_then a (file ∷ files) more [] others h k = absurd h
loaded_then a (file ∷ files) more (text ∷ texts) others (loaded, rest) k = (loaded, loaded_then a files more texts others rest k)

-- a load of the first files that stops the run stops the loading of more
pub stops_sooner : (a b : ShelfState) (files more : List FileAsked) (why : Stop) → StopsLoading a b files why → StopsLoading a b (files ++ more) why
stops_sooner a b [] more why h = absurd h
stops_sooner a b (file ∷ files) more why (inl stops) = inl stops
stops_sooner a b (file ∷ files) more why (inr (text, loaded, rest)) = inr (text, loaded, stops_sooner a b files more why rest)

-- and one behind the first files
pub stops_later : (a b : ShelfState) (files more : List FileAsked) (texts : List (List ℕ)) (why : Stop) → AreLoaded a files texts → StopsLoading a b more why → StopsLoading a b (files ++ more) why
stops_later a b [] more [] why h k = k
stops_later a b [] more (text ∷ texts) why h k = absurd h
stops_later a b (file ∷ files) more [] why h k = absurd h
stops_later a b (file ∷ files) more (text ∷ texts) why (loaded, rest) k = inr (text, loaded, stops_later a b files more texts why rest k)
