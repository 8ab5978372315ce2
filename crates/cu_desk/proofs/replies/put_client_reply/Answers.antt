use Rattle.std.proofs.Common.{◌∙◌, length, sym}
use Rattle.cu_model.specs.Queries.{fields_of_line}
use Rattle.cu_desk.specs.declared.lines.Kind.TheVariants as kind
use Rattle.cu_desk.proofs.ReplyLaws.{asked_so, kind_asks}
use Rattle.cu_desk.proofs.replies.put_client_reply.Goals as goal

pub returns-in-Query : goal.returns-in-Query
returns-in-Query g c =
    let g_now = c.args.desk.now.published.network in
    let fields = fields_of_line c.args.asked.text.now in
    let (reply, right, wrote) = c.put_query_reply.ensures.reply in
    let asks = kind_asks kind.Query g_now.nodes (length g_now.arcs) (length g_now.profiles) c.args.asked.client fields (sym c.in-Query.is ∙ c.kind_of.ensures) in
    record { reply = (reply, asked_so c.args.desk.now _ _ _ reply asks right, wrote) }

pub returns-in-Cancel : goal.returns-in-Cancel
returns-in-Cancel g c =
    let g_now = c.args.desk.now.published.network in
    let fields = fields_of_line c.args.asked.text.now in
    let (reply, right, wrote) = c.put_cancel_reply.ensures.reply in
    let asks = kind_asks kind.Cancel g_now.nodes (length g_now.arcs) (length g_now.profiles) c.args.asked.client fields (sym c.in-Cancel.is ∙ c.kind_of.ensures) in
    record { reply = (reply, asked_so c.args.desk.now _ _ _ reply asks right, wrote) }

pub returns-in-Edit : goal.returns-in-Edit
returns-in-Edit g c =
    let g_now = c.args.desk.now.published.network in
    let fields = fields_of_line c.args.asked.text.now in
    let (reply, right, wrote) = c.put_edit_reply.ensures.reply in
    let asks = kind_asks kind.Edit g_now.nodes (length g_now.arcs) (length g_now.profiles) c.args.asked.client fields (sym c.in-Edit.is ∙ c.kind_of.ensures) in
    record { reply = (reply, asked_so c.args.desk.now _ _ _ reply asks right, wrote) }
