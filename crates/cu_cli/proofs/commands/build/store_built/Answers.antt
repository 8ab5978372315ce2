use Rattle.std.proofs.Common.{◌≡◌, ◌<◌, ◌≤◌, ◌∙◌, ◌∷◌, [], ℕ, List, length, ap, arith, inl, inr, false}
use Rattle.std.specs.Prelude.{Option}
use Rattle.cu_io.specs.Shelves.{ShelfState}
use Rattle.cu_io.specs.Sinks.{SinkState}
use Rattle.cu_io.specs.Sources.{SourceState}
use Rattle.cu_interval.specs.Hierarchies.{HierarchyValue}
use Rattle.cu_pack.specs.Spelling.{spelling}
use Rattle.cu_cli.specs.declared.stops.Stop.{Stop}
use Rattle.cu_cli.specs.declared.stops.Stop.TheVariants as stop
use Rattle.cu_cli.specs.Commands.Build.{built_text}
use Rattle.cu_cli.specs.Endings.{packed_file}
use Rattle.cu_cli.specs.Steps.Outcomes.{Did, world_of}
use Rattle.cu_cli.specs.Steps.Storing.{EndsBuilt}
use Rattle.cu_session.proofs.SessionLaws.{err_is}
use Rattle.cu_cli.proofs.LoadLaws.{only_refused}
use Rattle.cu_cli.proofs.StoreLaws.{Storing, stored_behind, storing_refused, storing_said, storing_unsaid}
use Rattle.cu_cli.proofs.WorkLaws.{behind_nothing, ends_so, stopped_before}
use Rattle.cu_cli.proofs.commands.build.store_built.Goals as goal

-- the file has few enough bytes, and its storing ended
stored : (out : List ℕ) (h : HierarchyValue) {a c : ShelfState} (s : SourceState) {k now : SinkState} {why : Option Stop} → length (spelling h) ≤ a.most
    → Did false why (Storing [] (packed_file out h ∷ []) (built_text h (length (spelling h)))) (world_of a s k) (world_of c s now)
    → Did false why (EndsBuilt out h) (world_of a s k) (world_of c s now)
stored out h s few done = ends_so (λ work ends. inl (inl (few, ends))) done

pub returns-in_err-bytes : goal.returns-in_err-bytes
returns-in_err-bytes g c =
    let h = c.args.hierarchy.now in
    rw (err_is c.from_residual.result stop.NoMemory c.from_residual.ensures.1)
    (record {
      did = λ first source loads. stopped_before _ _ source _ (EndsBuilt c.args.out.now h) stop.NoMemory (only_refused stop.NoMemory tt loads) tt (λ work ends. inr ends);
    })

pub returns-then-length-limit : goal.returns-then-length-limit
returns-then-length-limit g c =
    let h = c.args.hierarchy.now in
    let same : length c.in_ok-bytes.bytes.items ≡ length (spelling h) = ap (λ (bytes : List ℕ). length bytes) c.in_ok-bytes.ensures.spelled in
    let size : c.len-length.result ≡ length (spelling h) = omega (arith, same, c.len-length.ensures, c.in_ok-bytes.bytes.ok.0) in
    rw size
    (record {
      did = λ first source loads.
          let more : first.most < length (spelling h) = omega (arith, size, c.limit.ensures, loads.most, c.if-length-limit.true) in
          stopped_before _ _ source _ (EndsBuilt c.args.out.now h) (stop.TooLarge (length (spelling h))) (only_refused (stop.TooLarge (length (spelling h))) tt loads) tt
          (λ work ends. inl (inr (more, ends)));
    })

pub returns-in_err-store_file : goal.returns-in_err-store_file
returns-in_err-store_file g c =
    let h = c.args.hierarchy.now in
    let same : length c.in_ok-bytes.bytes.items ≡ length (spelling h) = ap (λ (bytes : List ℕ). length bytes) c.in_ok-bytes.ensures.spelled in
    let size : c.len-length.result ≡ length (spelling h) = omega (arith, same, c.len-length.ensures, c.in_ok-bytes.bytes.ok.0) in
    let text = c.deref.ensures.value ∙ c.in_ok-bytes.ensures.spelled in
    let stores = rw text at c.in_err-store_file.ensures.stores in
    rw (err_is c.from_residual-in_err-store_file.result c.in_err-store_file.field-0.0 c.from_residual-in_err-store_file.ensures.1)
    (record {
      did = λ first source loads.
          let few : length (spelling h) ≤ first.most = omega (arith, size, c.limit.ensures, loads.most, c.if-length-limit.false) in
          stored c.args.out.now h source few (storing_refused source (behind_nothing _) (built_text h (length (spelling h))) (stored_behind loads stores));
    })

pub returns-in_err-say_built : goal.returns-in_err-say_built
returns-in_err-say_built g c =
    let h = c.args.hierarchy.now in
    let same : length c.in_ok-bytes.bytes.items ≡ length (spelling h) = ap (λ (bytes : List ℕ). length bytes) c.in_ok-bytes.ensures.spelled in
    let size : c.len-length.result ≡ length (spelling h) = omega (arith, same, c.len-length.ensures, c.in_ok-bytes.bytes.ok.0) in
    let text = c.deref.ensures.value ∙ c.in_ok-bytes.ensures.spelled in
    let stores = rw text at c.in_ok-store_file.ensures.stores in
    let said = rw size at c.in_err-say_built.ensures.wrote in
    rw (err_is c.from_residual-in_err-say_built.result stop.Sink c.from_residual-in_err-say_built.ensures.1)
    (record {
      did = λ first source loads.
          let few : length (spelling h) ≤ first.most = omega (arith, size, c.limit.ensures, loads.most, c.if-length-limit.false) in
          stored c.args.out.now h source few (storing_unsaid source (behind_nothing _) (stored_behind loads stores) said);
    })

pub returns : goal.returns
returns g c =
    let h = c.args.hierarchy.now in
    let same : length c.in_ok-bytes.bytes.items ≡ length (spelling h) = ap (λ (bytes : List ℕ). length bytes) c.in_ok-bytes.ensures.spelled in
    let size : c.len-length.result ≡ length (spelling h) = omega (arith, same, c.len-length.ensures, c.in_ok-bytes.bytes.ok.0) in
    let text = c.deref.ensures.value ∙ c.in_ok-bytes.ensures.spelled in
    let stores = rw text at c.in_ok-store_file.ensures.stores in
    let said = rw size at c.in_ok-say_built.ensures.wrote in
    record {
      did = λ first source loads.
          let few : length (spelling h) ≤ first.most = omega (arith, size, c.limit.ensures, loads.most, c.if-length-limit.false) in
          stored c.args.out.now h source few (storing_said source (behind_nothing _) (stored_behind loads stores) said);
    }
