use Rattle.std.proofs.Common.{◌≡◌, ◌∙◌, ℕ, Ok, ap, sym}
use Rattle.cu_drive.specs.DriveLines.{drive_of}
use Rattle.cu_interval.specs.Hierarchies.{HierarchyValue}
use Rattle.cu_router.specs.Swept.{swept_waits}
use Rattle.cu_session.specs.Kept.{KeptValue}
use Rattle.cu_session.proofs.KeptReplies.{drive_kept}
use Rattle.cu_session.proofs.waiting.put_waits_reply.Goals as goal

pub returns-in-Ok-clause-reply : goal.returns-in-Ok-clause-reply
returns-in-Ok-clause-reply g c =
    let h = c.args.router.now in
    let w : KeptValue = record { hierarchy = h; kept = c.args.kept.now } in
    let line = c.args.line.now in
    let query = c.in-Ok.query in
    let reply = swept_waits w.kept h query in
    let nodes : c.nodes.result ≡ h.network.nodes = c.nodes.ensures.count ∙ ap (λ (v : HierarchyValue). v.network.nodes) c.view.ensures.same in
    let asked : drive_of h.network.nodes line ≡ Ok query = ap (λ (n : ℕ). drive_of n line) (sym nodes) ∙ sym c.check_drive.ensures ∙ c.in-Ok.is in
    (reply, drive_kept w query reply (drive_of h.network.nodes line) asked c.put_waits.ensures.answer, c.put_waits.ensures.wrote)
