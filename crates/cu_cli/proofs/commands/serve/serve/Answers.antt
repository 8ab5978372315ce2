use Rattle.std.proofs.Common.{◌≡◌, ◌∙◌, inl, inr, refl, subst, sym, true}
use Rattle.std.specs.Prelude.{Option, Some, None}
use Rattle.cu_interval.specs.Hierarchies.{IsBuilt}
use Rattle.cu_pack.proofs.Spelled.Again.{same_hierarchy}
use Rattle.cu_session.specs.Replies.{IsOutput}
use Rattle.cu_session.proofs.SessionLaws.{err_is}
use Rattle.cu_cli.specs.Commands.Serve.{EndsServe, serving}
use Rattle.cu_cli.specs.declared.stops.Stop.{Stop}
use Rattle.cu_cli.specs.Steps.Outcomes.{Did, Works, World}
use Rattle.cu_cli.specs.Steps.Asks.{order_asked, tables_asked}
use Rattle.cu_cli.specs.Words.{OrderAsked, TablesAsked}
use Rattle.cu_cli.proofs.Completeness.{IsComplete, answers_stop, preparing_stops, works}
use Rattle.cu_cli.proofs.ReadLaws.{preparing_unread}
use Rattle.cu_cli.proofs.StopLaws.{stop_is}
use Rattle.cu_cli.proofs.WorkLaws.{answered, script_unread}
use Rattle.cu_cli.proofs.commands.serve.serve.Goals as goal

-- where nothing fails, nothing but want of memory stops the answering of a script
serve_law : (tables : TablesAsked) (asked : OrderAsked) → IsComplete (serving tables asked)
unfolding serving
serve_law tables asked a b work why can fine is (inl (read, order, prepares, answers)) = inl (answers_stop (IsOutput read.network order) work why fine is answers)
serve_law tables asked a b work why can fine is (inr (other, stops, before)) =
    let same : other ≡ why = cc (before.0, is) in
    inl (sym same ∙ preparing_stops a b tables asked other can fine.loads stops)

serve_works : (tables : TablesAsked) (asked : OrderAsked) {why : Option Stop} {before now : World} → Did true why (EndsServe tables asked) before now → Works (serving tables asked) why before now
unfolding serving
serve_works tables asked done = works (serving tables asked) (serve_law tables asked) done

pub returns-in_err-bytes : goal.returns-in_err-bytes
returns-in_err-bytes g c =
    let tables = tables_asked c.args.asked.tables in
    let order = order_asked c.args.asked.order in
    let stopped = c.in_err-bytes.ensures in
    rw (err_is c.from_residual.result c.in_err-bytes.field-0.0 c.from_residual.ensures.1)
    (record {
      works = serve_works tables order
          (script_unread _ _ _ _ (EndsServe tables order) c.in_err-bytes.field-0.0 stopped.loads stopped.before
          (preparing_unread (g.H.Shelf.state c.args.shelf.now) (g.H.Shelf.state c.pack_tables.new.shelf) tables order c.in_err-bytes.field-0.0 stopped.err)
          (λ work ends. inr (c.in_err-bytes.field-0.0, stopped.err, ends)));
    })

pub answer_built-requires : goal.answer_built-requires
answer_built-requires g c =
    let (h, has, spells) = c.in_ok-bytes.ensures.ok in
    record { spelled = (h, spells); built = λ other same. subst IsBuilt (same_hierarchy _ h other spells same) has.built }

pub returns-in_err-answer_built : goal.returns-in_err-answer_built
returns-in_err-answer_built g c =
    let tables = tables_asked c.args.asked.tables in
    let order = order_asked c.args.asked.order in
    let (h, has, spells) = c.in_ok-bytes.ensures.ok in
    let end = Some c.in_err-answer_built.field-0.0 in
    let done = c.in_err-answer_built.ensures.ended h spells in
    rw (stop_is c.from_residual-in_err-answer_built.result _ c.from_residual-in_err-answer_built.ensures.1)
    (record {
      works = serve_works tables order
          (answered _ _ _ _ _ _ end h (EndsServe tables order) c.in_ok-bytes.ensures.loads done
          (inl (record { network = h.network; places = has.places }, h.order, has.prepares, (end, refl, done.legal has.built, refl))));
    })

pub returns : goal.returns
returns g c =
    let tables = tables_asked c.args.asked.tables in
    let order = order_asked c.args.asked.order in
    let (h, has, spells) = c.in_ok-bytes.ensures.ok in
    let done = c.in_ok-answer_built.ensures.ended h spells in
    record {
      works = serve_works tables order
          (answered _ _ _ _ _ _ None h (EndsServe tables order) c.in_ok-bytes.ensures.loads done
          (inl (record { network = h.network; places = has.places }, h.order, has.prepares, (None, refl, done.legal has.built, refl))));
    }
