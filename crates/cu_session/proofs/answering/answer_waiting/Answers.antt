use Rattle.std.proofs.Common.{◌∙◌, ap, refl, subst, sym}
use Rattle.std.specs.Prelude.{map}
use Rattle.cu_model.specs.Orders.{OrderValue}
use Rattle.cu_interval.specs.Hierarchies.{HierarchyValue}
use Rattle.cu_pack.proofs.Spelled.Again.{same_hierarchy}
use Rattle.cu_wait.specs.Converted.{IsConverted}
use Rattle.cu_wait.specs.KeptPoints.{kept_of}
use Rattle.cu_session.specs.declared.stops.SessionStop.TheVariants as stop
use Rattle.cu_session.specs.Kept.{KeptValue}
use Rattle.cu_session.specs.Sessions.{EndsWaiting, stop_of}
use Rattle.cu_session.proofs.SessionLaws.{err_is}
use Rattle.cu_session.proofs.WaitingReplies.{StandsFor, kept_all, waiting_ends, waits_nothing}
use Rattle.cu_session.proofs.answering.answer_waiting.Goals as goal

pub returns-in_err-kept : goal.returns-in_err-kept
returns-in_err-kept g c =
    rw (err_is c.from_residual.result stop.NoMemory c.from_residual.ensures.1)
    (record { ended = λ h raw spells converted measured. waits_nothing raw h.order (g.S.Source.state c.args.source.now) (g.K.Sink.state c.args.sink.now) })

pub returns-in_err-router : goal.returns-in_err-router
returns-in_err-router g c =
    rw (err_is c.from_residual-in_err-router.result stop.NoMemory c.from_residual-in_err-router.ensures.1)
    (record { ended = λ h raw spells converted measured. waits_nothing raw h.order (g.S.Source.state c.args.source.now) (g.K.Sink.state c.args.sink.now) })

pub returns : goal.returns
returns g c = record {
  ended = λ h raw spells converted measured.
      let router = c.in_ok-router.router in
      let same = same_hierarchy c.args.bytes.items h router spells c.in_ok-router.ensures.held in
      let w : KeptValue = record { hierarchy = router; kept = c.in_ok-kept.kept.items } in
      let stands : StandsFor router.order w raw = record {
        built = (c.requires.built router c.in_ok-router.ensures.held, refl);
        converted = subst (λ (x : HierarchyValue). IsConverted raw x.network) same converted;
        kept = c.in_ok-kept.ensures.kept ∙ kept_all c.args.measured.items ∙ sym (ap (map kept_of) measured);
      } in
      let ends : OrderValue → Type 0 = λ order.
      EndsWaiting raw order (stop_of c.answer_lines.result) (g.S.Source.state c.args.source.now) (g.S.Source.state c.answer_lines.new.source)
      (g.K.Sink.state c.args.sink.now) (g.K.Sink.state c.answer_lines.new.sink) in
      subst ends (sym (ap (λ (x : HierarchyValue). x.order) same)) (waiting_ends w _ raw stands _ _ _ _ _ c.answer_lines.ensures.ended);
}
