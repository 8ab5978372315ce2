use Rattle.std.proofs.Common.{◌≡◌, ℕ, List, get_or, arith, take, subst, sym}
use Rattle.std.specs.Prelude.{Ok}
use Rattle.std.proofs.lemmas.List.{take_all}
use Rattle.cu_session.specs.declared.editing.Said.{Said}
use Rattle.cu_session.specs.declared.editing.Said.TheVariants.{Long}
use Rattle.cu_session.specs.Steps.Planning.{WritesText, said_text, said_texts}
use Rattle.cu_session.proofs.PlannedLines.{texts_rest, texts_take, writes_err, writes_more, writes_none, writes_stop}
use Rattle.cu_session.proofs.editing.put_all_said.Goals as goal

pub loop-one-init : goal.loop-one-init
loop-one-init g c = writes_none (g.K.Sink.state c.args.sink.now)

pub loop-one-preserved : goal.loop-one-preserved
loop-one-preserved g c =
    let said = c.args.said.now in
    let index = c.loop-one.one-index in
    subst (λ (text : List ℕ). WritesText (Ok tt) text (g.K.Sink.state c.args.sink.now) (g.K.Sink.state c.put_said.new.sink)) (sym (texts_take said index Long c.loop-one-test.true))
    (writes_more (said_texts (take index said)) (said_text (get_or said index Long)) c.loop-one.invariant c.in_ok-put_said.ensures.wrote)

pub returns-in_err-put_said : goal.returns-in_err-put_said
returns-in_err-put_said g c =
    let said = c.args.said.now in
    let index = c.loop-one.one-index in
    let (more, is) = texts_rest said index Long c.loop-one-test.true in
    record {
      wrote = writes_err (g.K.Sink.state c.args.sink.now) (g.K.Sink.state c.put_said.new.sink) (said_texts said) c.from_residual.result c.from_residual.ensures.0
          (λ failed. writes_stop (said_texts (take index said)) (said_text (get_or said index Long)) more (said_texts said) failed c.loop-one.invariant c.in_err-put_said.ensures.wrote is);
    }

pub returns : goal.returns
returns g c =
    let said = c.args.said.now in
    let all : take c.loop-one.one-index said ≡ said = take_all c.loop-one.one-index said (omega (arith, c.loop-one-test.false)) in
    record {
      wrote = subst (λ (xs : List Said). WritesText (Ok tt) (said_texts xs) (g.K.Sink.state c.args.sink.now) (g.K.Sink.state c.loop-one.sink)) all c.loop-one.invariant;
    }
