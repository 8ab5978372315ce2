use Rattle.std.proofs.Common.{◌≡◌, ◌<◌, ◌∙◌, List, Some, arith, rules, ap, subst, length, refl}
use Rattle.std.specs.Prelude.{slice_get}
use Rattle.std.proofs.lemmas.Option.{slice_get_read}
use Rattle.cu_links.specs.declared.buckets.EdgeState.{EdgeState}
use Rattle.cu_links.specs.declared.buckets.EdgeState.TheVariants.{Free}
use Rattle.cu_links.proofs.Held.{buckets_more}
use Rattle.cu_links.proofs.buckets.RankBuckets.add.Goals as goal

pub invariant_of-self : goal.invariant_of-self
invariant_of-self c =
    let firsts = c.self.inside.firsts.items in
    let nexts = c.self.inside.nexts.items in
    let states = c.self.inside.states.items in
    let same : c.args.self.now.states ≡ states = search rules in
    let ranks : c.args.self.now.ranks ≡ length firsts = search rules in
    let last : c.args.self.now.last ≡ c.self.inside.last = search rules in
    let edge = subst (λ (xs : List EdgeState). c.args.edge < length xs) same c.requires.edge in
    let free : slice_get states c.args.edge ≡ Some Free = slice_get_read states (length states) c.args.edge c.index.result.now refl edge c.index.ensures ∙ ap Some c.in-Free.is in
    let first = slice_get_read firsts (length firsts) c.args.rank c.index-2.result.now refl (omega (arith, ranks, c.requires.rank)) c.index-2.ensures in
    buckets_more firsts nexts states c.self.inside.last c.args.edge c.args.rank c.index-2.result.now c.self.invariant free first (omega (arith, last, c.requires.onward))

pub returns-clause-fresh : goal.returns-clause-fresh
returns-clause-fresh c =
    let free : slice_get c.args.self.now.states c.args.edge ≡ Some Free = slice_get_read c.args.self.now.states (length c.args.self.now.states) c.args.edge
    c.index.result.now refl c.requires.edge (search rules) ∙ ap Some c.in-Free.is in
    ((λ t. free), λ f. refl)
