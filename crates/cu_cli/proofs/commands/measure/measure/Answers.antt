use Rattle.std.proofs.Common.{◌≡◌, ◌∙◌, ◌∷◌, [], ℕ, List, length, ap, arith, inl, inr, false}
use Rattle.std.specs.Prelude.{Option, Some, Ok}
use Rattle.cu_io.specs.Shelves.{ShelfState}
use Rattle.cu_io.specs.Sinks.{SinkState}
use Rattle.cu_io.specs.Sources.{SourceState}
use Rattle.csv.proofs.RoundTrip.{rows_text}
use Rattle.cu_model.specs.declared.profiles.Piece.{Piece}
use Rattle.cu_profile.specs.Written.{table_of}
use Rattle.cu_wait.specs.declared.points.Point.{Point}
use Rattle.cu_wait.specs.Converted.{AreConverted}
use Rattle.cu_wait.specs.MeasuredTexts.{measured_of_text}
use Rattle.cu_cli.specs.declared.commands.measure.MeasureWords.{MeasureWords}
use Rattle.cu_cli.specs.declared.stops.Stop.{Stop}
use Rattle.cu_cli.specs.declared.stops.Stop.TheVariants as stop
use Rattle.cu_cli.specs.Commands.Measure.{EndsMeasure, StopsMeasuring, measured_file, measured_text, measuring, profiles_file}
use Rattle.cu_cli.specs.Preparing.{IsLoaded}
use Rattle.cu_cli.specs.Steps.Asks.{measure_asked}
use Rattle.cu_cli.specs.Steps.Loading.{OnlyLoads}
use Rattle.cu_cli.specs.Steps.Outcomes.{Did, IsBeforeScript, Works, World, stop_of_measured, world_of}
use Rattle.cu_session.proofs.SessionLaws.{err_is}
use Rattle.cu_cli.proofs.Completeness.{works}
use Rattle.cu_cli.proofs.LoadLaws.{early, only_refused}
use Rattle.cu_cli.proofs.MeasureLaws.{measure_law, stops_measured}
use Rattle.cu_cli.proofs.StoreLaws.{Storing, stored_behind, storing_refused, storing_said, storing_unsaid}
use Rattle.cu_cli.proofs.WorkLaws.{behind_nothing, ends_so, stopped_before}
use Rattle.cu_cli.proofs.commands.measure.measure.Goals as goal

measure_works : (words : MeasureWords) {why : Option Stop} {before now : World} → Did false why (EndsMeasure words.measured.now words.out.now) before now → Works (measure_asked words) why before now
unfolding measuring
measure_works words done = works (measure_asked words) (measure_law words.measured.now words.out.now) done

-- the load, the reading or the writing was stopped
stopped : (words : MeasureWords) {a b : ShelfState} (s : SourceState) {k : SinkState} (why : Stop) → OnlyLoads (Some why) a b
    → StopsMeasuring a b (measured_file words.measured.now) why → IsBeforeScript why → Works (measure_asked words) (Some why) (world_of a s k) (world_of b s k)
stopped words s why loads stops before =
    measure_works words (stopped_before _ _ s _ (EndsMeasure words.measured.now words.out.now) why loads before (λ work ends. inr (why, stops, ends)))

-- the profiles were read, and the storing of their table ended
stored : (words : MeasureWords) {a c : ShelfState} (s : SourceState) {k now : SinkState} {why : Option Stop} (text : List ℕ) (points : List (List Point)) (profiles : List (List Piece))
    → IsLoaded a (measured_file words.measured.now) text → measured_of_text text ≡ Ok points → AreConverted points profiles
    → Did false why (Storing [] (profiles_file words.out.now profiles ∷ []) (measured_text (length profiles))) (world_of a s k) (world_of c s now)
    → Works (measure_asked words) why (world_of a s k) (world_of c s now)
stored words s text points profiles loaded read converted done = measure_works words (ends_so (λ work ends. inl (text, points, profiles, loaded, read, converted, ends)) done)

pub returns-in_err-text : goal.returns-in_err-text
returns-in_err-text g c =
    rw (err_is c.from_residual.result c.in_err-text.field-0.0 c.from_residual.ensures.1)
    (record { works = λ source. stopped c.args.asked source _ c.in_err-text.ensures.loads (inl c.in_err-text.ensures.err) c.in_err-text.ensures.before })

pub returns-in_err-profiles : goal.returns-in_err-profiles
returns-in_err-profiles g c =
    let refusal = c.in_err-profiles.field-0.0 in
    let refused = rw c.deref.ensures.value at c.in_err-profiles.ensures.refused in
    let (stops, before) = stops_measured (measured_of_text c.in_ok-text.text.items) refusal refused in
    rw (err_is c.from_residual-in_err-profiles.result (stop_of_measured refusal) c.from_residual-in_err-profiles.ensures.1)
    (record {
      works = λ source. stopped c.args.asked source (stop_of_measured refusal) (only_refused (stop_of_measured refusal) before c.in_ok-text.ensures.loads)
          (inr (c.in_ok-text.text.items, c.in_ok-text.ensures.ok, stops)) (early (stop_of_measured refusal) before);
    })

pub returns-in_err-table : goal.returns-in_err-table
returns-in_err-table g c =
    rw (err_is c.from_residual-in_err-table.result stop.NoMemory c.from_residual-in_err-table.ensures.1)
    (record {
      works = λ source. stopped c.args.asked source stop.NoMemory (only_refused stop.NoMemory tt c.in_ok-text.ensures.loads) (inr (c.in_ok-text.text.items, c.in_ok-text.ensures.ok, tt)) tt;
    })

pub returns-in_err-store_file : goal.returns-in_err-store_file
returns-in_err-store_file g c =
    let profiles = c.in_ok-profiles.profiles.items in
    let (points, named, converted) = rw c.deref.ensures.value at c.in_ok-profiles.ensures.ok in
    let written = c.deref-3.ensures.value ∙ c.in_ok-table.ensures.text ∙ ap (λ (ps : List (List Piece)). rows_text (table_of ps)) c.deref-2.ensures.value in
    let stores = rw written at c.in_err-store_file.ensures.stores in
    rw (err_is c.from_residual-in_err-store_file.result c.in_err-store_file.field-0.0 c.from_residual-in_err-store_file.ensures.1)
    (record {
      works = λ source. stored c.args.asked source c.in_ok-text.text.items points profiles c.in_ok-text.ensures.ok named converted
          (storing_refused source (behind_nothing _) (measured_text (length profiles)) (stored_behind c.in_ok-text.ensures.loads stores));
    })

pub returns-in_err-put_numbers_line : goal.returns-in_err-put_numbers_line
returns-in_err-put_numbers_line g c =
    let profiles = c.in_ok-profiles.profiles.items in
    let (points, named, converted) = rw c.deref.ensures.value at c.in_ok-profiles.ensures.ok in
    let written = c.deref-3.ensures.value ∙ c.in_ok-table.ensures.text ∙ ap (λ (ps : List (List Piece)). rows_text (table_of ps)) c.deref-2.ensures.value in
    let stores = rw written at c.in_ok-store_file.ensures.stores in
    let size : c.len.result ≡ length profiles = omega (arith, c.len.ensures, c.in_ok-profiles.profiles.ok.0) in
    let said = rw size at c.in_err-put_numbers_line.ensures.wrote in
    rw (err_is c.from_residual-in_err-put_numbers_line.result stop.Sink c.from_residual-in_err-put_numbers_line.ensures.1)
    (record {
      works = λ source. stored c.args.asked source c.in_ok-text.text.items points profiles c.in_ok-text.ensures.ok named converted
          (storing_unsaid source (behind_nothing _) (stored_behind c.in_ok-text.ensures.loads stores) said);
    })

pub returns : goal.returns
returns g c =
    let profiles = c.in_ok-profiles.profiles.items in
    let (points, named, converted) = rw c.deref.ensures.value at c.in_ok-profiles.ensures.ok in
    let written = c.deref-3.ensures.value ∙ c.in_ok-table.ensures.text ∙ ap (λ (ps : List (List Piece)). rows_text (table_of ps)) c.deref-2.ensures.value in
    let stores = rw written at c.in_ok-store_file.ensures.stores in
    let size : c.len.result ≡ length profiles = omega (arith, c.len.ensures, c.in_ok-profiles.profiles.ok.0) in
    let said = rw size at c.in_ok-put_numbers_line.ensures.wrote in
    record {
      works = λ source. stored c.args.asked source c.in_ok-text.text.items points profiles c.in_ok-text.ensures.ok named converted
          (storing_said source (behind_nothing _) (stored_behind c.in_ok-text.ensures.loads stores) said);
    }
