use Rattle.std.proofs.Common.{◌≡◌, ◌+◌, ◌*◌, None, arith, rules, length}
use Rattle.std.specs.Prelude.{All}
use Rattle.std.proofs.lemmas.Grind.{common_steps}
use Rattle.cu_sweep.proofs.Readying.{new_ready}
use Rattle.cu_sweep.proofs.labels.Labels.new.Goals as goal

pub invariant_of-result : goal.invariant_of-result
invariant_of-result g c =
    let all : All (λ second. second ≡ None) c.in_ok-vec.field-0.items = λ k d lt. grind (arith, common_steps) in
    let long : length c.in_ok-vec.field-0.items ≡ 2 * c.args.nodes + 1 = search rules in
    let made = c.in_ok-with_places.field-0 in
    new_ready c.args.nodes c.in_ok-vec.field-0.items (g.K.Linking.links made) (g.K.Linking.turned made) c.requires long all c.in_ok-with_places.ensures.places c.in_ok-with_places.ensures.none
