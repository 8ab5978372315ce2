use Rattle.std.proofs.Common.{◌≡◌, ◌∙◌, ℕ, Ok, ap, subst, sym}
use Rattle.cu_model.specs.Queries.{query_of}
use Rattle.cu_interval.specs.Hierarchies.{HierarchyValue}
use Rattle.cu_router.specs.Swept.{swept_reply}
use Rattle.cu_session.specs.Held.{IsHeldReplyTo}
use Rattle.cu_session.specs.Questions.{asked_by_query}
use Rattle.cu_session.proofs.QuestionLaws.{query_answered}
use Rattle.cu_session.proofs.questions.put_query_reply.Goals as goal

pub returns-in-Ok : goal.returns-in-Ok
returns-in-Ok g c =
    let h = c.args.router.now in
    let line = c.args.line.now in
    let query = c.in-Ok.query in
    let nodes : c.nodes.result ≡ h.network.nodes = c.nodes.ensures.count ∙ ap (λ (v : HierarchyValue). v.network.nodes) c.view.ensures.same in
    let asked : query_of h.network.nodes line ≡ Ok query = ap (λ (n : ℕ). query_of n line) (sym nodes) ∙ sym c.check_query.ensures ∙ c.in-Ok.is in
    let answered = query_answered h query (swept_reply h query) (query_of h.network.nodes line) asked c.put_answer.ensures.answer in
    let stays = subst (λ (after : HierarchyValue). IsHeldReplyTo h (asked_by_query (query_of h.network.nodes line)) (swept_reply h query) after) (sym c.put_answer.ensures.stays) answered in
    record { reply = (swept_reply h query, stays, c.put_answer.ensures.wrote) }
