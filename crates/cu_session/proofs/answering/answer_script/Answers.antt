use Rattle.std.proofs.Common.{sym, subst}
use Rattle.cu_interval.specs.Hierarchies.{HierarchyValue}
use Rattle.cu_pack.proofs.Spelled.Again.{same_hierarchy}
use Rattle.cu_session.specs.Sessions.{EndsSession, stop_of}
use Rattle.cu_session.proofs.answering.answer_script.Goals as goal

pub returns : goal.returns
returns g c = record {
  ended = λ h spells.
      let same = same_hierarchy c.args.bytes.items h c.in_ok-router.router spells c.in_ok-router.ensures.held in
      let ends : HierarchyValue → Type 0 = λ held.
      EndsSession held (stop_of c.answer_by.result) (g.S.Source.state c.args.source.now) (g.S.Source.state c.answer_by.new.source)
      (g.K.Sink.state c.args.sink.now) (g.K.Sink.state c.answer_by.new.sink) in
      subst ends (sym same) c.answer_by.ensures.ended;
}
