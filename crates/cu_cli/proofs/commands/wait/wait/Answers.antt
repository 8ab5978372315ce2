use Rattle.std.proofs.Common.{inl, inr, refl, subst, true}
use Rattle.std.specs.Prelude.{Option, Some, None}
use Rattle.cu_interval.specs.Hierarchies.{IsBuilt}
use Rattle.cu_pack.proofs.Spelled.Again.{same_hierarchy}
use Rattle.cu_session.proofs.SessionLaws.{err_is}
use Rattle.cu_cli.specs.Commands.Wait.{EndsWait, waiting}
use Rattle.cu_cli.specs.declared.stops.Stop.{Stop}
use Rattle.cu_cli.specs.Steps.Outcomes.{Did, Works, World}
use Rattle.cu_cli.specs.Steps.Asks.{order_asked, tables_asked}
use Rattle.cu_cli.specs.Words.{OrderAsked, TablesAsked}
use Rattle.cu_cli.proofs.Completeness.{works}
use Rattle.cu_cli.proofs.ReadLaws.{waiting_unread}
use Rattle.cu_cli.proofs.StopLaws.{stop_is}
use Rattle.cu_cli.proofs.WaitLaws.{wait_law}
use Rattle.cu_cli.proofs.WorkLaws.{script_unread, waited}
use Rattle.cu_cli.proofs.commands.wait.wait.Goals as goal

wait_works : (tables : TablesAsked) (asked : OrderAsked) {why : Option Stop} {before now : World} → Did true why (EndsWait tables asked) before now → Works (waiting tables asked) why before now
unfolding waiting
wait_works tables asked done = works (waiting tables asked) (wait_law tables asked) done

pub returns-in_err-packed : goal.returns-in_err-packed
returns-in_err-packed g c =
    let tables = tables_asked c.args.asked.tables in
    let order = order_asked c.args.asked.order in
    let stopped = c.in_err-packed.ensures in
    rw (err_is c.from_residual.result c.in_err-packed.field-0.0 c.from_residual.ensures.1)
    (record {
      works = wait_works tables order
          (script_unread _ _ _ _ (EndsWait tables order) c.in_err-packed.field-0.0 stopped.loads stopped.before
          (waiting_unread (g.H.Shelf.state c.args.shelf.now) (g.H.Shelf.state c.pack_measured.new.shelf) tables order c.in_err-packed.field-0.0 stopped.err)
          (λ work ends. inr (c.in_err-packed.field-0.0, stopped.err, ends)));
    })

pub answer_waiting-requires : goal.answer_waiting-requires
answer_waiting-requires g c =
    let (h, has, spells) = c.in_ok-packed.ensures.ok in
    record { spelled = (h, spells); built = λ other same. subst IsBuilt (same_hierarchy _ h other spells same) has.built }

pub returns-in_err-answer_waiting : goal.returns-in_err-answer_waiting
returns-in_err-answer_waiting g c =
    let tables = tables_asked c.args.asked.tables in
    let order = order_asked c.args.asked.order in
    let (h, has, spells) = c.in_ok-packed.ensures.ok in
    let end = Some c.in_err-answer_waiting.field-0.0 in
    let done = c.in_err-answer_waiting.ensures.ended h has.read.network spells has.converted has.measured in
    rw (stop_is c.from_residual-in_err-answer_waiting.result _ c.from_residual-in_err-answer_waiting.ensures.1)
    (record {
      works = wait_works tables order
          (waited _ _ _ _ _ _ end has.read.network h.order (EndsWait tables order) c.in_ok-packed.ensures.loads done
          (inl (has.read, h.order, has.prepares, (end, refl, done.answered, refl))));
    })

pub returns : goal.returns
returns g c =
    let tables = tables_asked c.args.asked.tables in
    let order = order_asked c.args.asked.order in
    let (h, has, spells) = c.in_ok-packed.ensures.ok in
    let done = c.in_ok-answer_waiting.ensures.ended h has.read.network spells has.converted has.measured in
    record {
      works = wait_works tables order
          (waited _ _ _ _ _ _ None has.read.network h.order (EndsWait tables order) c.in_ok-packed.ensures.loads done
          (inl (has.read, h.order, has.prepares, (None, refl, done.answered, refl))));
    }
