use Rattle.std.proofs.Common.{◌≡◌, Bool, true}
use Rattle.std.proofs.lemmas.Result.{IfOk-weaker}
use Rattle.cu_interval.specs.declared.ways.Dir.TheVariants.{Down}
use Rattle.cu_edits.specs.Steps.Packed.{IsAtHand}
use Rattle.cu_edits.specs.Steps.Moving.{BothAre, HalvesAre}
use Rattle.cu_edits.proofs.BothHalves.{halves_are}
use Rattle.cu_edits.proofs.AtHand.{told_of}
use Rattle.cu_edits.proofs.learning_packed.learn_both.Goals as goal

pub learn_halves-requires-clause-edges : goal.learn_halves-requires-clause-edges
learn_halves-requires-clause-edges g c =
    let moved = c.args.asked.now.moved.now in
    let edges = c.args.parts.now.graph.edges in (
      told_of moved edges c.in-Some.first _ Down c.requires.moved c.in-Some.ensures.found.to,
      told_of moved edges c.in-Some.second _ Down c.requires.moved c.in-Some.ensures.found.on,
    )

pub returns-clause-known : goal.returns-clause-known
returns-clause-known g c =
    let moved = c.args.asked.now.moved.now in
    let edges = c.args.parts.now.graph.edges in
    let now = c.learn_halves.new.packed in
    IfOk-weaker c.learn_halves.result (λ (is_near : Bool). is_near ≡ true → BothAre (IsAtHand moved now) (c.in-Some.first, c.in-Some.second))
    (λ (is_near : Bool). is_near ≡ true → HalvesAre (IsAtHand moved now) edges c.args.ends c.args.asked.now.dir c.args.middle)
    (λ is_near known is.
    halves_are (IsAtHand moved now) edges c.in-Some.ensures.sound.rising c.args.ends c.args.asked.now.dir c.args.middle c.in-Some.first c.in-Some.second c.in-Some.ensures.found (known is).0 (known is).1)
    c.learn_halves.ensures.known
