use Rattle.std.proofs.Common.{◌≡◌, ◌∙◌, List, ℕ, false, true, length, refl, subst, sym}
use Rattle.std.specs.Prelude.{bytes_eq, codes}
use Rattle.cu_desk.specs.Machine.{AsksStep, Fails}
use Rattle.cu_desk.specs.Says.{stepped_text}
use Rattle.cu_desk.proofs.ReplyLaws.{asked_so, line_asks, step_asks}
use Rattle.cu_desk.proofs.replies.put_reply.Goals as goal

pub returns-then-eq : goal.returns-then-eq
returns-then-eq g c =
    let desk = c.args.desk.now in
    let line = c.args.line.now in
    let step : bytes_eq line (codes "step") ≡ true = subst (λ (word : List ℕ). bytes_eq line word ≡ true) c.as_slice.ensures (sym c.eq.ensures ∙ c.if-eq.true) in
    record {
      reply = (stepped_text c.step-stepped.result, asked_so desk _ AsksStep _ _ (step_asks desk.published.network line step) c.step-stepped.ensures.reply, c.put_stepped.ensures.wrote);
    }

pub returns-in-Some : goal.returns-in-Some
returns-in-Some g c =
    let desk = c.args.desk.now in
    let network = desk.published.network in
    let line = c.args.line.now in
    let other : bytes_eq line (codes "step") ≡ false = subst (λ (word : List ℕ). bytes_eq line word ≡ false) c.as_slice.ensures (sym c.eq.ensures ∙ c.if-eq.false) in
    let cut = rw c.in-Some.is at c.cut_client.ensures.cut in
    let asks = line_asks network line other ∙ cut network.nodes (length network.arcs) (length network.profiles) in
    let (reply, right, wrote) = c.put_client_reply.ensures.reply in
    record { reply = (reply, asked_so desk _ _ _ reply asks right, wrote) }

pub returns-in-None : goal.returns-in-None
returns-in-None g c =
    let desk = c.args.desk.now in
    let network = desk.published.network in
    let line = c.args.line.now in
    let other : bytes_eq line (codes "step") ≡ false = subst (λ (word : List ℕ). bytes_eq line word ≡ false) c.as_slice.ensures (sym c.eq.ensures ∙ c.if-eq.false) in
    let cut = rw c.in-None.is at c.cut_client.ensures.cut in
    let asks = line_asks network line other ∙ cut network.nodes (length network.arcs) (length network.profiles) in
    record { reply = (codes "refused: line", asked_so desk desk (Fails (codes "line")) _ _ asks (refl, refl), c.put_all.ensures.wrote) }
