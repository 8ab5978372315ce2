-- Where no count of faults rises, no fault of a file ends a run.
use Rattle.std.proofs.Common.{◌≡◌, ◌∙◌, ℕ, List, inl, inr, refl, subst, sym}
use Rattle.std.specs.Prelude.{Option, Some, None}
use Rattle.cu_io.specs.Counts.{Rose}
use Rattle.cu_io.specs.Shelves.{ShelfState}
use Rattle.cu_io.specs.Sources.{SourceState}
use Rattle.cu_cli.specs.declared.stops.Role.{Role}
use Rattle.cu_cli.specs.declared.stops.Stop.{Stop}
use Rattle.cu_cli.specs.declared.stops.Stop.TheVariants as stop
use Rattle.cu_cli.specs.Endings.{Ending}
use Rattle.cu_cli.specs.Runs.{CountsFaults, EndsRun}
use Rattle.cu_cli.specs.Stops.{status_at}
use Rattle.cu_cli.specs.Sure.{IsFaultless}

-- no fault of a file ends a run where no count rises
pub no_fault : (a b : ShelfState) → ((name : List ℕ) → Rose (a.load_faults name) (b.load_faults name) → ⊥) → ((name : List ℕ) → Rose (a.store_faults name) (b.store_faults name) → ⊥)
    → (s t : SourceState) (words : List (List ℕ)) (ending : Ending) → EndsRun a b s t words ending → (whose : Role) → ending.stop ≡ Some (stop.Fault whose) → ⊥
no_fault a b loads stores s t words ending (work, taken, stored, ends, reads, counts, inl (same, output)) whose is =
    never (subst (λ (e : Option Stop). CountsFaults e a b) (sym same ∙ is) counts)
  where
    never : CountsFaults (Some (stop.Fault whose)) a b → ⊥
    never (name, inl rose) = loads name rose
    never (name, inr rose) = stores name rose
no_fault a b loads stores s t words ending (work, taken, stored, ends, reads, counts, inr (failed, said, front)) whose is = absurd (cc (failed, is))

-- what is no fault of a file, of the source or of the sink is no fault
pub faultless : (why : Option Stop) → ((whose : Role) → why ≡ Some (stop.Fault whose) → ⊥) → (status_at why ≡ 7 → ⊥) → (status_at why ≡ 8 → ⊥) → IsFaultless why
faultless None file source sink = tt
faultless (Some (stop.Fault whose)) file source sink = file whose refl
faultless (Some stop.Source) file source sink = source refl
faultless (Some stop.Sink) file source sink = sink refl
faultless (Some stop.Words) file source sink = tt
faultless (Some (stop.TooLong whose)) file source sink = tt
faultless (Some (stop.Network refusal)) file source sink = tt
faultless (Some (stop.Measured refusal)) file source sink = tt
faultless (Some (stop.Order refusal)) file source sink = tt
faultless (Some (stop.File refusal)) file source sink = tt
faultless (Some (stop.Differs found)) file source sink = tt
faultless (Some stop.TooManyEdges) file source sink = tt
faultless (Some (stop.TooLarge bytes)) file source sink = tt
faultless (Some stop.NoMemory) file source sink = tt
faultless (Some stop.TakeLimit) file source sink = tt
