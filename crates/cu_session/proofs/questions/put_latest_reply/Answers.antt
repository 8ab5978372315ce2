use Rattle.std.proofs.Common.{◌≡◌, ◌∙◌, ℕ, Ok, ap, subst, sym}
use Rattle.cu_interval.specs.Hierarchies.{HierarchyValue}
use Rattle.cu_reach.specs.ReachLines.{latest_of}
use Rattle.cu_reach.proofs.RangeLaws.{latest_within}
use Rattle.cu_session.specs.Held.{IsHeldReplyTo}
use Rattle.cu_session.specs.Questions.{asked_by_latest}
use Rattle.cu_session.proofs.QuestionLaws.{latest_answered}
use Rattle.cu_session.proofs.questions.put_latest_reply.Goals as goal

pub put_latest-requires : goal.put_latest-requires
put_latest-requires g c =
    let h = c.args.router.now in
    let line = c.args.line.now in
    let asked = c.in-Ok.asked in
    let nodes : c.nodes.result ≡ h.network.nodes = c.nodes.ensures.count ∙ ap (λ (v : HierarchyValue). v.network.nodes) c.view.ensures.same in
    let is : latest_of h.network.nodes line ≡ Ok asked = ap (λ (n : ℕ). latest_of n line) (sym nodes) ∙ sym c.check_latest.ensures ∙ c.in-Ok.is in
    let within = latest_within h.network.nodes line asked is in
    record { from = within.from; to = within.to; by = within.by }

pub returns-in-Ok : goal.returns-in-Ok
returns-in-Ok g c =
    let h = c.args.router.now in
    let line = c.args.line.now in
    let asked = c.in-Ok.asked in
    let nodes : c.nodes.result ≡ h.network.nodes = c.nodes.ensures.count ∙ ap (λ (v : HierarchyValue). v.network.nodes) c.view.ensures.same in
    let is : latest_of h.network.nodes line ≡ Ok asked = ap (λ (n : ℕ). latest_of n line) (sym nodes) ∙ sym c.check_latest.ensures ∙ c.in-Ok.is in
    let (reply, told, wrote) = c.put_latest.ensures.reply in
    let answered = latest_answered h asked reply (latest_of h.network.nodes line) is told in
    let stays = subst (λ (after : HierarchyValue). IsHeldReplyTo h (asked_by_latest (latest_of h.network.nodes line)) reply after) (sym c.put_latest.ensures.stays) answered in
    record { reply = (reply, stays, wrote) }
