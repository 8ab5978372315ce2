use Rattle.std.proofs.Common.{◌≡◌, ◌∙◌, ℕ, Ok, ap, subst, sym}
use Rattle.cu_interval.specs.Hierarchies.{HierarchyValue}
use Rattle.cu_reach.specs.ReachLines.{table_of}
use Rattle.cu_reach.specs.ReachTexts.{table_reply}
use Rattle.cu_reach.proofs.RangeLaws.{table_within}
use Rattle.cu_session.specs.Held.{IsHeldReplyTo}
use Rattle.cu_session.specs.Questions.{asked_by_table}
use Rattle.cu_session.proofs.QuestionLaws.{table_answered}
use Rattle.cu_session.proofs.questions.put_table_reply.Goals as goal

pub put_table-requires : goal.put_table-requires
put_table-requires g c =
    let h = c.args.router.now in
    let line = c.args.line.now in
    let asked = c.in-Ok.asked in
    let nodes : c.nodes.result ≡ h.network.nodes = c.nodes.ensures.count ∙ ap (λ (v : HierarchyValue). v.network.nodes) c.view.ensures.same in
    let is : table_of h.network.nodes line ≡ Ok asked = ap (λ (n : ℕ). table_of n line) (sym nodes) ∙ sym c.check_table.ensures ∙ c.in-Ok.is in
    let within = table_within h.network.nodes line asked is in
    record { sources = within.sources; targets = within.targets; second = within.second }

pub returns : goal.returns
returns g c =
    let h = c.args.router.now in
    let line = c.args.line.now in
    let asked = c.in-Ok.asked in
    let nodes : c.nodes.result ≡ h.network.nodes = c.nodes.ensures.count ∙ ap (λ (v : HierarchyValue). v.network.nodes) c.view.ensures.same in
    let is : table_of h.network.nodes line ≡ Ok asked = ap (λ (n : ℕ). table_of n line) (sym nodes) ∙ sym c.check_table.ensures ∙ c.in-Ok.is in
    let told = table_answered h asked (table_of h.network.nodes line) is (table_within h.network.nodes line asked is) in
    let stays = subst (λ (after : HierarchyValue). IsHeldReplyTo h (asked_by_table (table_of h.network.nodes line)) (table_reply h asked) after) (sym c.put_table.ensures.stays) told in
    record { reply = (table_reply h asked, stays, c.put_table.ensures.wrote) }
