use Rattle.std.proofs.Common.{◌≡◌, Bool, arith, rules, true}
use Rattle.std.proofs.lemmas.Result.{IfOk-weaker}
use Rattle.cu_interval.specs.declared.ways.Dir.TheVariants.{Up, Down}
use Rattle.cu_edits.specs.Steps.Packed.{IsAtHand}
use Rattle.cu_edits.specs.Steps.Moving.{BothAre}
use Rattle.cu_edits.proofs.LearntPacked.{learns_then, still_at_hand}
use Rattle.cu_edits.proofs.learning_packed.learn_halves.Goals as goal

pub returns-clause-known : goal.returns-clause-known
returns-clause-known g c =
    let moved = c.args.moved.now in
    let now = c.learn_list-2.new.packed in
    let near : c.in_ok-learn_list.field-0 ≡ true = search rules in
    let one = still_at_hand c.args.parts.now.before moved c.learn_list.new.packed now c.learn_list-2.ensures.learns c.args.edges.0 Down (c.in_ok-learn_list.ensures.known near) in
    IfOk-weaker c.learn_list-2.result (λ (is_near : Bool). is_near ≡ true → IsAtHand moved now c.args.edges.1 Up) (λ (is_near : Bool). is_near ≡ true → BothAre (IsAtHand moved now) c.args.edges)
    (λ is_near two is. (one, two is)) c.learn_list-2.ensures.known

pub learn_list-requires-clause-edge : goal.learn_list-requires-clause-edge
learn_list-requires-clause-edge g c = let long = c.requires.moved in let told = c.requires.edges.0 in omega (arith, long, told)

pub learn_list-requires-clause-moved : goal.learn_list-requires-clause-moved
learn_list-requires-clause-moved g c = c.requires.edges.0

pub learn_list-requires-2-clause-edge : goal.learn_list-requires-2-clause-edge
learn_list-requires-2-clause-edge g c = let long = c.requires.moved in let told = c.requires.edges.1 in omega (arith, long, told)

pub learn_list-requires-2-clause-moved : goal.learn_list-requires-2-clause-moved
learn_list-requires-2-clause-moved g c = let told = c.requires.edges.1 in omega (arith, told)

pub learn_list-requires-2-clause-packed : goal.learn_list-requires-2-clause-packed
learn_list-requires-2-clause-packed g c = c.in_ok-learn_list.ensures.learns.packed

pub returns-clause-learns : goal.returns-clause-learns
returns-clause-learns g c =
    learns_then c.args.parts.now.before c.args.packed.now c.learn_list.new.packed c.learn_list-2.new.packed c.in_ok-learn_list.ensures.learns c.learn_list-2.ensures.learns
