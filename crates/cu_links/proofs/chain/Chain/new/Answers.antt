use Rattle.std.proofs.Common.{◌≡◌, ◌+◌, arith, rules, length}
use Rattle.std.specs.Prelude.{All, None}
use Rattle.std.proofs.lemmas.Grind.{common_steps}
use Rattle.cu_links.proofs.Setting.{kept_none}
use Rattle.cu_links.proofs.chain.Chain.new.Goals as goal

pub invariant_of-result : goal.invariant_of-result
invariant_of-result c =
    let all : All (λ link. link ≡ None) c.in_ok-vec.field-0.items = λ k d lt. grind (arith, common_steps) in
    let room : length c.in_ok-vec-2.field-0.items ≡ length c.in_ok-vec.field-0.items + 1 = search rules in
    kept_none c.in_ok-vec.field-0.items c.in_ok-vec-2.field-0.items room all
