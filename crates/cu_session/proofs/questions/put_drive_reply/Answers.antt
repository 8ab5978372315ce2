use Rattle.std.proofs.Common.{◌≡◌, ◌∙◌, ℕ, Ok, ap, subst, sym}
use Rattle.cu_drive.specs.DriveLines.{drive_of}
use Rattle.cu_interval.specs.Hierarchies.{HierarchyValue}
use Rattle.cu_router.specs.Swept.{swept_drive}
use Rattle.cu_session.specs.Held.{IsHeldReplyTo}
use Rattle.cu_session.specs.Questions.{asked_by_drive}
use Rattle.cu_session.proofs.QuestionLaws.{drive_answered}
use Rattle.cu_session.proofs.questions.put_drive_reply.Goals as goal

pub returns-in-Ok : goal.returns-in-Ok
returns-in-Ok g c =
    let h = c.args.router.now in
    let line = c.args.line.now in
    let query = c.in-Ok.query in
    let nodes : c.nodes.result ≡ h.network.nodes = c.nodes.ensures.count ∙ ap (λ (v : HierarchyValue). v.network.nodes) c.view.ensures.same in
    let asked : drive_of h.network.nodes line ≡ Ok query = ap (λ (n : ℕ). drive_of n line) (sym nodes) ∙ sym c.check_drive.ensures ∙ c.in-Ok.is in
    let answered = drive_answered h query (swept_drive h query) (drive_of h.network.nodes line) asked c.put_drive.ensures.answer in
    let stays = subst (λ (after : HierarchyValue). IsHeldReplyTo h (asked_by_drive (drive_of h.network.nodes line)) (swept_drive h query) after) (sym c.put_drive.ensures.stays) answered in
    record { reply = (swept_drive h query, stays, c.put_drive.ensures.wrote) }
