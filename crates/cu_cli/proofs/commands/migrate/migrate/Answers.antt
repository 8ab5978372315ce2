use Rattle.std.proofs.Common.{◌≡◌, ◌<◌, ◌≤◌, ◌∙◌, ◌∷◌, [], ℕ, List, length, ap, arith, inl, inr, sym, false}
use Rattle.std.specs.Prelude.{Option, Some, None}
use Rattle.cu_io.specs.Shelves.{ShelfState}
use Rattle.cu_io.specs.Sinks.{SinkState}
use Rattle.cu_io.specs.Sources.{SourceState}
use Rattle.cu_interval.specs.Hierarchies.{HierarchyValue}
use Rattle.cu_pack.specs.Spelling.{spelling}
use Rattle.cu_cli.specs.declared.commands.migrate.MigrateWords.{MigrateWords}
use Rattle.cu_cli.specs.declared.stops.Stop.{Stop}
use Rattle.cu_cli.specs.declared.stops.Stop.TheVariants as stop
use Rattle.cu_cli.specs.Commands.Migrate.{EndsMigrate, migrated_text, migrating}
use Rattle.cu_cli.specs.Endings.{packed_file}
use Rattle.cu_cli.specs.Opening.{Opens}
use Rattle.cu_cli.specs.Steps.Asks.{migrate_asked}
use Rattle.cu_cli.specs.Steps.Loading.{OnlyLoads}
use Rattle.cu_cli.specs.Steps.Outcomes.{Did, Works, World, world_of}
use Rattle.cu_cli.specs.Words.{hierarchy_file}
use Rattle.cu_session.proofs.SessionLaws.{err_is}
use Rattle.cu_cli.proofs.Completeness.{IsComplete, opening_stops, packing_stops, works}
use Rattle.cu_cli.proofs.LoadLaws.{only_refused}
use Rattle.cu_cli.proofs.StoreLaws.{Storing, stored_behind, storing_refused, storing_said, storing_unsaid}
use Rattle.cu_cli.proofs.WorkLaws.{behind_nothing, ends_so, stopped_before}
use Rattle.cu_cli.proofs.commands.migrate.migrate.Goals as goal

-- where nothing fails, what stops it is want of memory, or a file that is too large
migrate_law : (hierarchy out : List ℕ) → IsComplete (migrating hierarchy out)
unfolding migrating
migrate_law hierarchy out a b work why can fine is (inl (h, opens, packing)) =
    packing_stops a b [] (packed_file out h) (migrated_text (length (spelling h))) why work fine is packing
migrate_law hierarchy out a b work why can fine is (inr (other, stops, before)) =
    let same : other ≡ why = cc (before.0, is) in
    inl (sym same ∙ opening_stops a b (hierarchy_file hierarchy ∷ []) other can fine.loads stops)

migrate_works : (words : MigrateWords) {why : Option Stop} {before now : World} → Did false why (EndsMigrate words.hierarchy.now words.out.now) before now
    → Works (migrate_asked words) why before now
unfolding migrating
migrate_works words done = works (migrate_asked words) (migrate_law words.hierarchy.now words.out.now) done

module _ (words : MigrateWords) {a : ShelfState} (s : SourceState) {k : SinkState} (h : HierarchyValue) (opens : Opens a (hierarchy_file words.hierarchy.now ∷ []) h []) where
  -- the file has too many bytes
  large : {b : ShelfState} → OnlyLoads None a b → a.most < length (spelling h)
      → Works (migrate_asked words) (Some (stop.TooLarge (length (spelling h)))) (world_of a s k) (world_of b s k)
  large loads more =
      migrate_works words
      (stopped_before _ _ s _ (EndsMigrate words.hierarchy.now words.out.now) (stop.TooLarge (length (spelling h)))
      (only_refused (stop.TooLarge (length (spelling h))) tt loads) tt (λ work ends. inl (h, opens, inr (more, ends))))

  -- or few enough, and its storing ended
  stored : {c : ShelfState} {why : Option Stop} {now : SinkState} → length (spelling h) ≤ a.most
      → Did false why (Storing [] (packed_file words.out.now h ∷ []) (migrated_text (length (spelling h)))) (world_of a s k) (world_of c s now)
      → Works (migrate_asked words) why (world_of a s k) (world_of c s now)
  stored few done = migrate_works words (ends_so (λ work ends. inl (h, opens, inl (few, ends))) done)

pub returns-in_err-bytes : goal.returns-in_err-bytes
returns-in_err-bytes g c =
    rw (err_is c.from_residual.result c.in_err-bytes.field-0.0 c.from_residual.ensures.1)
    (record {
      works = λ source. migrate_works c.args.asked
          (stopped_before _ _ source _ (EndsMigrate c.args.asked.hierarchy.now c.args.asked.out.now) _ c.in_err-bytes.ensures.loads c.in_err-bytes.ensures.before
          (λ work ends. inr (_, c.in_err-bytes.ensures.err, ends)));
    })

pub returns-then-length-limit : goal.returns-then-length-limit
returns-then-length-limit g c =
    let (h, opens, spells) = c.in_ok-bytes.ensures.ok in
    let same : length c.in_ok-bytes.bytes.items ≡ length (spelling h) = ap (λ (bytes : List ℕ). length bytes) spells.spelled in
    let size : c.len-length.result ≡ length (spelling h) = omega (arith, same, c.len-length.ensures, c.in_ok-bytes.bytes.ok.0) in
    let more : (g.H.Shelf.state c.args.shelf.now).most < length (spelling h) = omega (arith, size, c.limit.ensures, c.in_ok-bytes.ensures.loads.most, c.if-length-limit.true) in
    rw size (record { works = λ source. large c.args.asked source h opens c.in_ok-bytes.ensures.loads more })

pub returns-in_err-store_file : goal.returns-in_err-store_file
returns-in_err-store_file g c =
    let (h, opens, spells) = c.in_ok-bytes.ensures.ok in
    let same : length c.in_ok-bytes.bytes.items ≡ length (spelling h) = ap (λ (bytes : List ℕ). length bytes) spells.spelled in
    let size : c.len-length.result ≡ length (spelling h) = omega (arith, same, c.len-length.ensures, c.in_ok-bytes.bytes.ok.0) in
    let few : length (spelling h) ≤ (g.H.Shelf.state c.args.shelf.now).most = omega (arith, size, c.limit.ensures, c.in_ok-bytes.ensures.loads.most, c.if-length-limit.false) in
    let stores = rw (c.deref.ensures.value ∙ spells.spelled) at c.in_err-store_file.ensures.stores in
    rw (err_is c.from_residual-in_err-store_file.result c.in_err-store_file.field-0.0 c.from_residual-in_err-store_file.ensures.1)
    (record {
      works = λ source. stored c.args.asked source h opens few
          (storing_refused source (behind_nothing _) (migrated_text (length (spelling h))) (stored_behind c.in_ok-bytes.ensures.loads stores));
    })

pub returns-in_err-put_numbers_line : goal.returns-in_err-put_numbers_line
returns-in_err-put_numbers_line g c =
    let (h, opens, spells) = c.in_ok-bytes.ensures.ok in
    let same : length c.in_ok-bytes.bytes.items ≡ length (spelling h) = ap (λ (bytes : List ℕ). length bytes) spells.spelled in
    let size : c.len-length.result ≡ length (spelling h) = omega (arith, same, c.len-length.ensures, c.in_ok-bytes.bytes.ok.0) in
    let few : length (spelling h) ≤ (g.H.Shelf.state c.args.shelf.now).most = omega (arith, size, c.limit.ensures, c.in_ok-bytes.ensures.loads.most, c.if-length-limit.false) in
    let stores = rw (c.deref.ensures.value ∙ spells.spelled) at c.in_ok-store_file.ensures.stores in
    let said = rw size at c.in_err-put_numbers_line.ensures.wrote in
    rw (err_is c.from_residual-in_err-put_numbers_line.result stop.Sink c.from_residual-in_err-put_numbers_line.ensures.1)
    (record {
      works = λ source. stored c.args.asked source h opens few
          (storing_unsaid source (behind_nothing _) (stored_behind c.in_ok-bytes.ensures.loads stores) said);
    })

pub returns : goal.returns
returns g c =
    let (h, opens, spells) = c.in_ok-bytes.ensures.ok in
    let same : length c.in_ok-bytes.bytes.items ≡ length (spelling h) = ap (λ (bytes : List ℕ). length bytes) spells.spelled in
    let size : c.len-length.result ≡ length (spelling h) = omega (arith, same, c.len-length.ensures, c.in_ok-bytes.bytes.ok.0) in
    let few : length (spelling h) ≤ (g.H.Shelf.state c.args.shelf.now).most = omega (arith, size, c.limit.ensures, c.in_ok-bytes.ensures.loads.most, c.if-length-limit.false) in
    let stores = rw (c.deref.ensures.value ∙ spells.spelled) at c.in_ok-store_file.ensures.stores in
    let said = rw size at c.in_ok-put_numbers_line.ensures.wrote in
    record {
      works = λ source. stored c.args.asked source h opens few
          (storing_said source (behind_nothing _) (stored_behind c.in_ok-bytes.ensures.loads stores) said);
    }
