use Rattle.std.proofs.Common.{◌≡◌, ◌∙◌, ℕ, Ok, ap, subst, sym}
use Rattle.cu_interval.specs.Hierarchies.{HierarchyValue}
use Rattle.cu_reach.specs.ReachLines.{reach_of}
use Rattle.cu_reach.specs.ReachTexts.{reach_reply}
use Rattle.cu_reach.proofs.RangeLaws.{reach_within}
use Rattle.cu_session.specs.Held.{IsHeldReplyTo}
use Rattle.cu_session.specs.Questions.{asked_by_reach}
use Rattle.cu_session.proofs.QuestionLaws.{reach_answered}
use Rattle.cu_session.proofs.questions.put_reach_reply.Goals as goal

pub put_reach-requires : goal.put_reach-requires
put_reach-requires g c =
    let h = c.args.router.now in
    let line = c.args.line.now in
    let asked = c.in-Ok.asked in
    let nodes : c.nodes.result ≡ h.network.nodes = c.nodes.ensures.count ∙ ap (λ (v : HierarchyValue). v.network.nodes) c.view.ensures.same in
    let is : reach_of h.network.nodes line ≡ Ok asked = ap (λ (n : ℕ). reach_of n line) (sym nodes) ∙ sym c.check_reach.ensures ∙ c.in-Ok.is in
    let within = reach_within h.network.nodes line asked is in
    record { from = within.from; second = within.second }

pub returns-in-Ok : goal.returns-in-Ok
returns-in-Ok g c =
    let h = c.args.router.now in
    let line = c.args.line.now in
    let asked = c.in-Ok.asked in
    let nodes : c.nodes.result ≡ h.network.nodes = c.nodes.ensures.count ∙ ap (λ (v : HierarchyValue). v.network.nodes) c.view.ensures.same in
    let is : reach_of h.network.nodes line ≡ Ok asked = ap (λ (n : ℕ). reach_of n line) (sym nodes) ∙ sym c.check_reach.ensures ∙ c.in-Ok.is in
    let told = reach_answered h asked (reach_of h.network.nodes line) is (reach_within h.network.nodes line asked is) in
    let stays = subst (λ (after : HierarchyValue). IsHeldReplyTo h (asked_by_reach (reach_of h.network.nodes line)) (reach_reply h asked) after) (sym c.put_reach.ensures.stays) told in
    record { reply = (reach_reply h asked, stays, c.put_reach.ensures.wrote) }
