-- Measured profiles read and stored.
use Rattle.std.proofs.Common.{◌≡◌, ◌≢◌, ◌∙◌, ◌∷◌, [], ℕ, List, length, inl, inr, sym, refl, subst}
use Rattle.std.specs.Prelude.{Result, Ok, Err}
use Rattle.cu_io.specs.Counts.{Rose}
use Rattle.cu_io.specs.Shelves.{ShelfState}
use Rattle.cu_wait.specs.declared.points.Point.{Point}
use Rattle.cu_wait.specs.declared.refusals.MeasuredRefusal.{MeasuredRefusal}
use Rattle.cu_wait.specs.declared.refusals.MeasuredRefusal.TheVariants as measured
use Rattle.cu_wait.specs.MeasuredTexts.{measured_of_text}
use Rattle.cu_cli.specs.declared.stops.Stop.{Stop}
use Rattle.cu_cli.specs.declared.stops.Stop.TheVariants as stop
use Rattle.cu_cli.specs.Commands.Measure.{IsMeasurable, StopsMeasured, StopsMeasuring, measured_file, measured_text, measuring, profiles_file}
use Rattle.cu_cli.specs.Steps.Outcomes.{IsRefusal, stop_of_measured}
use Rattle.cu_cli.proofs.Completeness.{IsComplete, loads_stop, same_texts, storing_stops}

-- the stop of a refused text, which comes before the script; want of memory has its own
pub stops_measured : (named : Result (List (List Point)) MeasuredRefusal) (refusal : MeasuredRefusal) → (refusal ≢ measured.NoMemory → named ≡ Err refusal)
    → StopsMeasured named (stop_of_measured refusal) × IsRefusal (stop_of_measured refusal)
stops_measured named measured.Header h = (h (λ e. cc e), tt)
stops_measured named (measured.Fields row) h = (h (λ e. cc e), tt)
stops_measured named (measured.Number row) h = (h (λ e. cc e), tt)
stops_measured named (measured.Sequence row) h = (h (λ e. cc e), tt)
stops_measured named (measured.TooMany row) h = (h (λ e. cc e), tt)
stops_measured named (measured.Mode row) h = (h (λ e. cc e), tt)
stops_measured named (measured.Limit row) h = (h (λ e. cc e), tt)
stops_measured named (measured.Start row) h = (h (λ e. cc e), tt)
stops_measured named (measured.Rising row) h = (h (λ e. cc e), tt)
stops_measured named measured.NoMemory h = (tt, tt)

-- the reading of a text that names measured profiles is stopped for want of memory alone
pub read_stops : (named : Result (List (List Point)) MeasuredRefusal) (points : List (List Point)) (why : Stop) → named ≡ Ok points → StopsMeasured named why → why ≡ stop.NoMemory
read_stops named points (stop.Measured refusal) is k = absurd (cc (is, k))
read_stops named points stop.NoMemory is k = refl
read_stops named points _ is k = absurd k

-- and so is all of it, where nothing fails
pub measuring_stops : (a b : ShelfState) (measured : List ℕ) (why : Stop) → IsMeasurable measured a
    → ((name : List ℕ) → Rose (a.load_faults name) (b.load_faults name) → ⊥) → StopsMeasuring a b (measured_file measured) why → why ≡ stop.NoMemory
measuring_stops a b measured why (files, text, points, told, loaded, named) fine (inl stops) =
    loads_stop a b files (measured_file measured ∷ []) (text ∷ []) why told (loaded, tt) fine (inl stops)
measuring_stops a b measured why (files, text, points, told, loaded, named) fine (inr (other, there, stops)) =
    let same = same_texts a files (measured_file measured ∷ []) (text ∷ []) (other ∷ []) told (loaded, tt) (there, tt) in
    let first : other ≡ text = cc same in
    read_stops (measured_of_text text) points why named (subst (λ (t : List ℕ). StopsMeasured (measured_of_text t) why) first stops)

pub measure_law : (measured out : List ℕ) → IsComplete (measuring measured out)
unfolding measuring
measure_law measured out a b work why can fine is (inl (text, points, profiles, loaded, named, converted, storing)) =
    inl (storing_stops a b [] (profiles_file out profiles ∷ []) (measured_text (length profiles)) why work fine is storing)
measure_law measured out a b work why can fine is (inr (other, stops, before)) =
    let same : other ≡ why = cc (before.0, is) in
    inl (sym same ∙ measuring_stops a b measured other can fine.loads stops)
