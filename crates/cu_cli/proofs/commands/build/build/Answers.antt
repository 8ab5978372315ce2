use Rattle.std.proofs.Common.{◌≡◌, ◌∙◌, [], ℕ, List, length, inl, inr, sym, false}
use Rattle.std.specs.Prelude.{Option, Some}
use Rattle.cu_io.specs.Shelves.{ShelfState}
use Rattle.cu_io.specs.Sinks.{SinkState}
use Rattle.cu_io.specs.Sources.{SourceState}
use Rattle.cu_interval.specs.Hierarchies.{HierarchyValue}
use Rattle.cu_pack.specs.Spelling.{spelling}
use Rattle.cu_cli.specs.declared.commands.build.BuildWords.{BuildWords}
use Rattle.cu_cli.specs.declared.stops.Stop.{Stop}
use Rattle.cu_cli.specs.declared.stops.Stop.TheVariants as stop
use Rattle.cu_cli.specs.Commands.Build.{EndsBuild, building, built_text}
use Rattle.cu_cli.specs.Endings.{Ending, packed_file}
use Rattle.cu_cli.specs.Preparing.{StopsPreparing}
use Rattle.cu_cli.specs.Steps.Asks.{build_asked, order_asked, tables_asked}
use Rattle.cu_cli.specs.Steps.Loading.{HasBuilt, OnlyLoads}
use Rattle.cu_cli.specs.Steps.Outcomes.{Did, IsBeforeScript, Works, World, world_of}
use Rattle.cu_cli.specs.Steps.Storing.{EndsBuilt}
use Rattle.cu_cli.specs.Words.{OrderAsked, TablesAsked}
use Rattle.cu_session.proofs.SessionLaws.{err_is}
use Rattle.cu_cli.proofs.Completeness.{IsComplete, packing_stops, preparing_stops, works}
use Rattle.cu_cli.proofs.LoadLaws.{only_refused}
use Rattle.cu_cli.proofs.WorkLaws.{ends_so, has_built, stopped_before}
use Rattle.cu_cli.proofs.commands.build.build.Goals as goal

-- where nothing fails, what stops the building is want of memory, or a file that is too large
build_law : (tables : TablesAsked) (asked : OrderAsked) (out : List ℕ) → IsComplete (building tables asked out)
unfolding building
build_law tables asked out a b work why can fine is (inl (h, places, built, prepares, packing)) =
    packing_stops a b [] (packed_file out h) (built_text h (length (spelling h))) why work fine is packing
build_law tables asked out a b work why can fine is (inr (other, stops, before)) =
    let same : other ≡ why = cc (before.0, is) in
    inl (sym same ∙ preparing_stops a b tables asked other can fine.loads stops)

build_works : (words : BuildWords) {why : Option Stop} {before now : World} → Did false why (EndsBuild (tables_asked words.tables) (order_asked words.order) words.out.now) before now
    → Works (build_asked words) why before now
unfolding building
build_works words done = works (build_asked words) (build_law (tables_asked words.tables) (order_asked words.order) words.out.now) done

-- the preparing was stopped, or memory ran out behind it
stopped : (words : BuildWords) {a b : ShelfState} (s : SourceState) {k : SinkState} (why : Stop) → OnlyLoads (Some why) a b
    → StopsPreparing a b (tables_asked words.tables) (order_asked words.order) why → IsBeforeScript why → Works (build_asked words) (Some why) (world_of a s k) (world_of b s k)
stopped words s why loads stops before =
    build_works words (stopped_before _ _ s _ (EndsBuild (tables_asked words.tables) (order_asked words.order) words.out.now) why loads before (λ work ends. inr (why, stops, ends)))

-- the hierarchy was built, and the storing of its packed file ended
ended : (words : BuildWords) {a c : ShelfState} (s : SourceState) {k now : SinkState} {why : Option Stop} (h : HierarchyValue)
    → HasBuilt a (tables_asked words.tables) (order_asked words.order) h → Did false why (EndsBuilt words.out.now h) (world_of a s k) (world_of c s now)
    → Works (build_asked words) why (world_of a s k) (world_of c s now)
ended words {a = a} {c = c} s h has done = build_works words (ends_so by done)
  where
    by : (work : Ending) → EndsBuilt words.out.now h a c work → EndsBuild (tables_asked words.tables) (order_asked words.order) words.out.now a c work
    by work (inl packing) = inl (h, has.places, has.built, has.prepares, packing)
    by work (inr before) = inr (stop.NoMemory, inl (inl (inl tt)), before)

pub returns-in_err-prepared : goal.returns-in_err-prepared
returns-in_err-prepared g c =
    rw (err_is c.from_residual.result c.in_err-prepared.field-0.0 c.from_residual.ensures.1)
    (record { works = λ source. stopped c.args.asked source _ c.in_err-prepared.ensures.loads c.in_err-prepared.ensures.err c.in_err-prepared.ensures.before })

pub returns-in_err-hierarchy : goal.returns-in_err-hierarchy
returns-in_err-hierarchy g c =
    rw (err_is c.from_residual-in_err-hierarchy.result stop.NoMemory c.from_residual-in_err-hierarchy.ensures.1)
    (record { works = λ source. stopped c.args.asked source stop.NoMemory (only_refused stop.NoMemory tt c.in_ok-prepared.ensures.loads) (inl (inl (inl tt))) tt })

pub returns : goal.returns
returns g c =
    let h = c.in_ok-hierarchy.hierarchy in
    let asked = c.args.asked in
    let has : HasBuilt (g.H.Shelf.state c.args.shelf.now) (tables_asked asked.tables) (order_asked asked.order) h =
    has_built (tables_asked asked.tables) (order_asked asked.order) c.in_ok-prepared.prepared c.in_ok-prepared.ensures.ok c.in_ok-hierarchy.ensures.built
    c.in_ok-hierarchy.ensures.network c.in_ok-hierarchy.ensures.order in
    record { works = λ source. ended asked source h has (c.store_built.ensures.did _ source c.in_ok-prepared.ensures.loads) }
