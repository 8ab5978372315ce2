use Rattle.std.proofs.Common.{◌≢◌, ◌∙◌, ap, sym}
use Rattle.cu_interval.specs.Hierarchies.{HierarchyValue}
use Rattle.cu_session.specs.declared.questions.Kind.TheVariants as kind
use Rattle.cu_session.specs.Kept.{KeptValue}
use Rattle.cu_session.specs.Questions.{kind_of}
use Rattle.cu_session.proofs.KeptReplies.{drive_alone, edit_alone, held_alone}
use Rattle.cu_session.proofs.waiting.put_kept_reply.Goals as goal

pub returns-in-Drive : goal.returns-in-Drive
returns-in-Drive g c =
    let kept : HierarchyValue → KeptValue = λ h. record { hierarchy = h; kept = c.args.kept.now } in
    let line = c.args.line.now in
    let (reply, told, wrote) = c.put_waits_reply.ensures.reply in
    let is = drive_alone (kind_of line) (sym c.kind_of.ensures ∙ c.in-Drive.is) (kept c.args.router.now) (kept c.put_waits_reply.new.router) line reply told
    (ap kept c.put_waits_reply.ensures.stays) in
    record { reply = (reply, is, wrote) }

pub returns-in-Edit : goal.returns-in-Edit
returns-in-Edit g c =
    let w : KeptValue = record { hierarchy = c.args.router.now; kept = c.args.kept.now } in
    let after : KeptValue = record { hierarchy = c.put_kept_edit.new.router; kept = c.put_kept_edit.new.kept } in
    let line = c.args.line.now in
    let (reply, made, wrote) = c.put_kept_edit.ensures.reply in
    record { reply = (reply, edit_alone (kind_of line) (sym c.kind_of.ensures ∙ c.in-Edit.is) w after line reply made, wrote) }

pub returns-in_default : goal.returns-in_default
returns-in_default g c =
    let w : KeptValue = record { hierarchy = c.args.router.now; kept = c.args.kept.now } in
    let line = c.args.line.now in
    let (reply, held, wrote) = c.put_reply.ensures.reply in
    let drive : kind_of line ≢ kind.Drive = λ is. c.in_default.not-Drive (c.kind_of.ensures ∙ is) in
    let edit : kind_of line ≢ kind.Edit = λ is. c.in_default.not-Edit (c.kind_of.ensures ∙ is) in
    record { reply = (reply, held_alone (kind_of line) drive edit w line reply c.put_reply.new.router held, wrote) }
