use Rattle.std.proofs.Common.{◌≡◌, ◌∙◌, ℕ, Ok, ap, subst, sym}
use Rattle.cu_day.specs.DayLines.{day_of}
use Rattle.cu_interval.specs.Hierarchies.{HierarchyValue}
use Rattle.cu_session.specs.Held.{IsHeldReplyTo}
use Rattle.cu_session.specs.Questions.{asked_by_day}
use Rattle.cu_session.proofs.QuestionLaws.{day_answered}
use Rattle.cu_session.proofs.questions.put_day_reply.Goals as goal

pub returns-in-Ok : goal.returns-in-Ok
returns-in-Ok g c =
    let h = c.args.router.now in
    let line = c.args.line.now in
    let query = c.in-Ok.query in
    let nodes : c.nodes.result ≡ h.network.nodes = c.nodes.ensures.count ∙ ap (λ (v : HierarchyValue). v.network.nodes) c.view.ensures.same in
    let asked : day_of h.network.nodes line ≡ Ok query = ap (λ (n : ℕ). day_of n line) (sym nodes) ∙ sym c.check_day.ensures ∙ c.in-Ok.is in
    let (reply, told, wrote) = c.put_day.ensures.reply in
    let answered = day_answered h query reply (day_of h.network.nodes line) asked told in
    let stays = subst (λ (after : HierarchyValue). IsHeldReplyTo h (asked_by_day (day_of h.network.nodes line)) reply after) (sym c.put_day.ensures.stays) answered in
    record { reply = (reply, stays, wrote) }
