use Rattle.std.proofs.Common.{rules, ◌≡◌, ◌<◌, ◌++◌, ◌∷◌, [], List, ℕ, arith, sym, subst, false, true, length, length-set, get_or, set}
use Rattle.cu_order.specs.Steps.Listed.{IsListed}
use Rattle.cu_order.proofs.SeenNodes.{listed_more}
use Rattle.cu_order.proofs.reader.ListedNodesTakesRows.take_row.Goals as goal

pub invariant_of-self-2 : goal.invariant_of-self-2
invariant_of-self-2 c =
    let seen = c.args.self.now.seen.items in
    let nodes = c.args.self.now.nodes.items in
    let node = c.in-Ok.node in
    let below : node < length seen = search rules in
    let unseen : get_or seen node false ≡ false = search rules in
    let more : c.push.new.self.items ≡ nodes ++ (node ∷ []) = search rules in
    let long = length-set seen node true in
    let limit = c.args.self.now.limit in
    record {
      limit = omega (arith, long, limit);
      listed = subst (λ (list : List ℕ). IsListed (set seen node true) list) (sym more) (listed_more seen nodes node c.args.self.now.listed below unseen);
    }
