use Rattle.std.proofs.Common.{◌≡◌, Bool, subst, sym, true}
use Rattle.std.proofs.lemmas.Result.{IfOk-weaker}
use Rattle.cu_interval.specs.declared.ways.Way.{Way}
use Rattle.cu_edits.specs.Steps.Packed.{IsAtHand, IsWayAtHand}
use Rattle.cu_edits.specs.Steps.Moving.{HalvesAre}
use Rattle.cu_edits.proofs.learning_packed.learn_way.Goals as goal

pub returns-in-Via-clause-known : goal.returns-in-Via-clause-known
returns-in-Via-clause-known g c =
    let moved = c.args.asked.now.moved.now in
    let edges = c.args.parts.now.graph.edges in
    let now = c.learn_both.new.packed in
    IfOk-weaker c.learn_both.result (λ (is_near : Bool). is_near ≡ true → HalvesAre (IsAtHand moved now) edges c.args.ends c.args.asked.now.dir c.in-Via.middle)
    (λ (is_near : Bool). is_near ≡ true → IsWayAtHand moved now edges c.args.ends c.args.asked.now.dir c.args.way)
    (λ is_near known is. subst (λ (way : Way). IsWayAtHand moved now edges c.args.ends c.args.asked.now.dir way) (sym c.in-Via.is) (known is)) c.learn_both.ensures.known
