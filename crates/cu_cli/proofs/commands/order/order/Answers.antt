use Rattle.std.proofs.Common.{◌≡◌, ◌∙◌, ◌∷◌, [], ℕ, List, inl, inr, sym, false}
use Rattle.std.specs.Prelude.{Option, Some, codes}
use Rattle.cu_io.specs.Shelves.{ShelfState}
use Rattle.cu_io.specs.Sinks.{SinkState}
use Rattle.cu_io.specs.Sources.{SourceState}
use Rattle.cu_model.specs.Orders.{OrderValue, IsOrder}
use Rattle.cu_roads.specs.NetworkTexts.{NetworkRead}
use Rattle.cu_cli.specs.declared.commands.order.OrderWords.{OrderWords}
use Rattle.cu_cli.specs.declared.stops.Stop.{Stop}
use Rattle.cu_cli.specs.declared.stops.Stop.TheVariants as stop
use Rattle.cu_cli.specs.Commands.Order.{EndsOrder, order_files_made, ordering}
use Rattle.cu_cli.specs.Preparing.{IsOrderGiven, ReadsTables, StopsTables}
use Rattle.cu_cli.specs.Stops.{numbers_text}
use Rattle.cu_cli.specs.Steps.Asks.{order_words_asked, tables_asked}
use Rattle.cu_cli.specs.Steps.Loading.{OnlyLoads}
use Rattle.cu_cli.specs.Steps.Outcomes.{Did, IsBeforeScript, Works, World, world_of}
use Rattle.cu_cli.specs.Words.{Dissected, TablesAsked, network_files}
use Rattle.cu_session.proofs.SessionLaws.{err_is}
use Rattle.cu_cli.proofs.Completeness.{IsComplete, storing_stops, tables_stop, works}
use Rattle.cu_cli.proofs.LoadLaws.{early, only_refused}
use Rattle.cu_cli.proofs.StoreLaws.{Storing, stored_behind, storing_refused, storing_said, storing_unsaid}
use Rattle.cu_cli.proofs.WorkLaws.{behind_nothing, ends_so, stopped_before}
use Rattle.cu_cli.proofs.commands.order.order.Goals as goal

-- where nothing fails, nothing but want of memory stops the ordering of tables that can be read
order_law : (tables : TablesAsked) (out : List ℕ) → IsComplete (ordering tables out)
unfolding ordering
order_law tables out a b work why can fine is (inl (read, order, reads, sound, given, storing)) =
    inl (storing_stops a b [] (order_files_made out order) (numbers_text (codes "ordered") (read.network.nodes ∷ [])) why work fine is storing)
order_law tables out a b work why (files, read, told, reads) fine is (inr (other, stops, before)) =
    let same : other ≡ why = cc (before.0, is) in
    inl (sym same ∙ tables_stop a b (network_files tables) files read [] other told reads fine.loads stops)

order_works : (words : OrderWords) {why : Option Stop} {before now : World} → Did false why (EndsOrder (tables_asked words.tables) words.out.now) before now → Works
    (order_words_asked words) why before now
unfolding ordering
order_works words done = works (order_words_asked words) (order_law (tables_asked words.tables) words.out.now) done

-- the loading or the reading was stopped, or memory ran out behind it
stopped : (words : OrderWords) {a b : ShelfState} (s : SourceState) {k : SinkState} (why : Stop) → OnlyLoads (Some why) a b
    → StopsTables a b (network_files (tables_asked words.tables)) why → IsBeforeScript why → Works (order_words_asked words) (Some why) (world_of a s k) (world_of b s k)
stopped words s why loads stops before =
    order_works words (stopped_before _ _ s _ (EndsOrder (tables_asked words.tables) words.out.now) why loads before (λ work ends. inr (why, stops, ends)))

-- the order was made, and its storing ended
ordered : (words : OrderWords) {a b : ShelfState} {s : SourceState} {k now : SinkState} {why : Option Stop} (read : NetworkRead) (order : OrderValue)
    → ReadsTables a (network_files (tables_asked words.tables)) read [] → IsOrder order → IsOrderGiven Dissected read [] order
    → Did false why (Storing [] (order_files_made words.out.now order) (numbers_text (codes "ordered") (read.network.nodes ∷ []))) (world_of a s k) (world_of b s now)
    → Works (order_words_asked words) why (world_of a s k) (world_of b s now)
ordered words read order reads sound given done = order_works words (ends_so (λ work ends. inl (read, order, reads, sound, given, ends)) done)

pub returns-in_err-texts : goal.returns-in_err-texts
returns-in_err-texts g c =
    rw (err_is c.from_residual.result c.in_err-texts.field-0.0 c.from_residual.ensures.1)
    (record { works = λ source. stopped c.args.asked source _ c.in_err-texts.ensures.loads (inl c.in_err-texts.ensures.err) c.in_err-texts.ensures.before })

pub returns-in_err-network : goal.returns-in_err-network
returns-in_err-network g c =
    let why = c.in_err-network.field-0.0 in
    let texts = c.in_ok-texts.texts in
    let refusal = c.in_err-network.ensures.before in
    rw (err_is c.from_residual-in_err-network.result why c.from_residual-in_err-network.ensures.1)
    (record {
      works = λ source. stopped c.args.asked source why (only_refused why refusal c.in_ok-texts.ensures.loads)
          (inr (texts.nodes.items, texts.roads.items, texts.profiles.items, [], c.in_ok-texts.ensures.ok, c.in_err-network.ensures.err)) (early why refusal);
    })

pub returns-in_err-order : goal.returns-in_err-order
returns-in_err-order g c =
    rw (err_is c.from_residual-in_err-order.result stop.NoMemory c.from_residual-in_err-order.ensures.1)
    (record { works = λ source. stopped c.args.asked source stop.NoMemory (only_refused stop.NoMemory tt c.in_ok-texts.ensures.loads) (inl (inl tt)) tt })

pub returns-in_err-text : goal.returns-in_err-text
returns-in_err-text g c =
    rw (err_is c.from_residual-in_err-text.result stop.NoMemory c.from_residual-in_err-text.ensures.1)
    (record { works = λ source. stopped c.args.asked source stop.NoMemory (only_refused stop.NoMemory tt c.in_ok-texts.ensures.loads) (inl (inl tt)) tt })

pub returns-in_err-store_file : goal.returns-in_err-store_file
returns-in_err-store_file g c =
    let read : NetworkRead = record { network = c.in_ok-network.network; places = c.in_ok-network.places } in
    let texts = c.in_ok-texts.texts in
    let reads : ReadsTables (g.H.Shelf.state c.args.shelf.now) (network_files (tables_asked c.args.asked.tables)) read [] =
    (texts.nodes.items, texts.roads.items, texts.profiles.items, c.in_ok-texts.ensures.ok, c.in_ok-network.ensures.ok) in
    let text = c.deref.ensures.value ∙ c.in_ok-text.ensures.text in
    let stores = rw text at c.in_err-store_file.ensures.stores in
    rw (err_is c.from_residual-in_err-store_file.result c.in_err-store_file.field-0.0 c.from_residual-in_err-store_file.ensures.1)
    (record {
      works = λ source. ordered c.args.asked read c.in_ok-order.order reads c.in_ok-order.ensures.sound c.in_ok-order.ensures.order
          (storing_refused source (behind_nothing _) (numbers_text (codes "ordered") (read.network.nodes ∷ [])) (stored_behind c.in_ok-texts.ensures.loads stores));
    })

pub returns-in_err-put_numbers_line : goal.returns-in_err-put_numbers_line
returns-in_err-put_numbers_line g c =
    let read : NetworkRead = record { network = c.in_ok-network.network; places = c.in_ok-network.places } in
    let texts = c.in_ok-texts.texts in
    let reads : ReadsTables (g.H.Shelf.state c.args.shelf.now) (network_files (tables_asked c.args.asked.tables)) read [] =
    (texts.nodes.items, texts.roads.items, texts.profiles.items, c.in_ok-texts.ensures.ok, c.in_ok-network.ensures.ok) in
    let text = c.deref.ensures.value ∙ c.in_ok-text.ensures.text in
    let stores = rw text at c.in_ok-store_file.ensures.stores in
    let said = rw (c.from.ensures ∙ c.nodes.ensures.count) at c.in_err-put_numbers_line.ensures.wrote in
    rw (err_is c.from_residual-in_err-put_numbers_line.result stop.Sink c.from_residual-in_err-put_numbers_line.ensures.1)
    (record {
      works = λ source. ordered c.args.asked read c.in_ok-order.order reads c.in_ok-order.ensures.sound c.in_ok-order.ensures.order
          (storing_unsaid source (behind_nothing _) (stored_behind c.in_ok-texts.ensures.loads stores) said);
    })

pub returns : goal.returns
returns g c =
    let read : NetworkRead = record { network = c.in_ok-network.network; places = c.in_ok-network.places } in
    let texts = c.in_ok-texts.texts in
    let reads : ReadsTables (g.H.Shelf.state c.args.shelf.now) (network_files (tables_asked c.args.asked.tables)) read [] =
    (texts.nodes.items, texts.roads.items, texts.profiles.items, c.in_ok-texts.ensures.ok, c.in_ok-network.ensures.ok) in
    let text = c.deref.ensures.value ∙ c.in_ok-text.ensures.text in
    let stores = rw text at c.in_ok-store_file.ensures.stores in
    let said = rw (c.from.ensures ∙ c.nodes.ensures.count) at c.in_ok-put_numbers_line.ensures.wrote in
    record {
      works = λ source. ordered c.args.asked read c.in_ok-order.order reads c.in_ok-order.ensures.sound c.in_ok-order.ensures.order
          (storing_said source (behind_nothing _) (stored_behind c.in_ok-texts.ensures.loads stores) said);
    }
