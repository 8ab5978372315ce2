use Rattle.std.proofs.Common.{◌≡◌, ◌∙◌, ◌∷◌, [], ℕ, List, inl, inr, refl, sym, true}
use Rattle.std.specs.Prelude.{Option, Some, None}
use Rattle.cu_session.specs.Held.{IsHeldOutput}
use Rattle.cu_session.proofs.SessionLaws.{err_is}
use Rattle.cu_cli.specs.Commands.Ask.{EndsAsk, asking}
use Rattle.cu_cli.specs.declared.stops.Stop.{Stop}
use Rattle.cu_cli.specs.Steps.Outcomes.{Did, Works, World}
use Rattle.cu_cli.specs.Words.{hierarchy_file}
use Rattle.cu_cli.proofs.Completeness.{IsComplete, answers_stop, opening_stops, works}
use Rattle.cu_cli.proofs.ReadLaws.{opening_unread}
use Rattle.cu_cli.proofs.StopLaws.{stop_is}
use Rattle.cu_cli.proofs.WorkLaws.{answered, script_unread}
use Rattle.cu_cli.proofs.commands.ask.ask.Goals as goal

-- where nothing fails, nothing but want of memory stops the answering of a script
ask_law : (name : List ℕ) → IsComplete (asking name)
unfolding asking
ask_law name a b work why can fine is (inl (h, opens, answers, legal)) = inl (answers_stop (IsHeldOutput h) work why fine is answers)
ask_law name a b work why can fine is (inr (other, stops, before)) =
    let same : other ≡ why = cc (before.0, is) in
    inl (sym same ∙ opening_stops a b (hierarchy_file name ∷ []) other can fine.loads stops)

ask_works : (name : List ℕ) {why : Option Stop} {before now : World} → Did true why (EndsAsk name) before now → Works (asking name) why before now
unfolding asking
ask_works name done = works (asking name) (ask_law name) done

pub returns-in_err-bytes : goal.returns-in_err-bytes
returns-in_err-bytes g c =
    let name = c.args.asked.hierarchy.now in
    let stopped = c.in_err-bytes.ensures in
    rw (err_is c.from_residual.result c.in_err-bytes.field-0.0 c.from_residual.ensures.1)
    (record {
      works = ask_works name
          (script_unread _ _ _ _ (EndsAsk name) c.in_err-bytes.field-0.0 stopped.loads stopped.before
          (opening_unread (g.H.Shelf.state c.args.shelf.now) (g.H.Shelf.state c.open_file.new.shelf) name c.in_err-bytes.field-0.0 stopped.err)
          (λ work ends. inr (c.in_err-bytes.field-0.0, stopped.err, ends)));
    })

pub answer_script-requires : goal.answer_script-requires
answer_script-requires g c =
    let (h, opens, spells) = c.in_ok-bytes.ensures.ok in
    record { spelled = (h, spells) }

pub returns-in_err-answer_script : goal.returns-in_err-answer_script
returns-in_err-answer_script g c =
    let name = c.args.asked.hierarchy.now in
    let (h, opens, spells) = c.in_ok-bytes.ensures.ok in
    let end = Some c.in_err-answer_script.field-0.0 in
    let done = c.in_err-answer_script.ensures.ended h spells in
    rw (stop_is c.from_residual-in_err-answer_script.result _ c.from_residual-in_err-answer_script.ensures.1)
    (record {
      works = ask_works name
          (answered _ _ _ _ _ _ end h (EndsAsk name) c.in_ok-bytes.ensures.loads done
          (inl (h, opens, (end, refl, done.held, refl), (λ built. (end, refl, done.legal built, refl)))));
    })

pub returns : goal.returns
returns g c =
    let name = c.args.asked.hierarchy.now in
    let (h, opens, spells) = c.in_ok-bytes.ensures.ok in
    let done = c.in_ok-answer_script.ensures.ended h spells in
    record {
      works = ask_works name
          (answered _ _ _ _ _ _ None h (EndsAsk name) c.in_ok-bytes.ensures.loads done
          (inl (h, opens, (None, refl, done.held, refl), (λ built. (None, refl, done.legal built, refl)))));
    }
