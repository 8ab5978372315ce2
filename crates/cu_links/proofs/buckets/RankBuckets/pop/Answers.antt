use Rattle.std.proofs.Common.{◌≤◌, ◌<◌, ℕ, List, Option, None, arith, rules, subst, sym, length, refl}
use Rattle.std.proofs.lemmas.Option.{slice_get_read}
use Rattle.cu_links.specs.Buckets.{BucketsValue, IsHeld, IsLowestHeld, Pops}
use Rattle.cu_links.specs.Steps.Bucketed.{FindsFirst, IsFirst}
use Rattle.cu_links.proofs.Held.{buckets_fewer, first_inside, lowest_held, first_held_at, none_held}
use Rattle.cu_links.proofs.buckets.RankBuckets.pop.Goals as goal

pub returns-in_err-edge-clause-pops : goal.returns-in_err-edge-clause-pops
returns-in_err-edge-clause-pops c =
    let firsts = c.self.inside.firsts.items in
    let last = c.self.inside.last in
    let none : FindsFirst firsts last None = subst (λ (xs : List (Option ℕ)). FindsFirst xs last None) c.deref.ensures.value c.in_err-edge.ensures in
    let free = none_held firsts c.self.inside.nexts.items c.self.inside.states.items last c.self.invariant none in
    subst (Pops c.args.self.now c.args.self.now) (sym c.from_residual.ensures)
    (refl, subst (λ (v : BucketsValue). (edge rank : ℕ) → IsHeld v edge rank → ⊥) c.self.view_is free)

pub index-requires : goal.index-requires
index-requires c =
    let first = subst (λ (xs : List (Option ℕ)). IsFirst xs c.self.inside.last c.in_ok-edge.edge c.in_ok-edge.rank) c.deref.ensures.value c.in_ok-edge.ensures in
    let inside = first_inside c.self.inside.firsts.items c.self.inside.nexts.items c.self.inside.states.items c.self.inside.last c.in_ok-edge.edge c.in_ok-edge.rank
    c.self.invariant first in
    omega (arith, inside.2, c.self.inside.nexts.ok.0)

pub index_mut-requires : goal.index_mut-requires
index_mut-requires c =
    let first = subst (λ (xs : List (Option ℕ)). IsFirst xs c.self.inside.last c.in_ok-edge.edge c.in_ok-edge.rank) c.deref.ensures.value c.in_ok-edge.ensures in
    let inside = first_inside c.self.inside.firsts.items c.self.inside.nexts.items c.self.inside.states.items c.self.inside.last c.in_ok-edge.edge c.in_ok-edge.rank
    c.self.invariant first in
    omega (arith, inside.0, c.self.inside.firsts.ok.0)

pub index_mut-requires-2 : goal.index_mut-requires-2
index_mut-requires-2 c =
    let first = subst (λ (xs : List (Option ℕ)). IsFirst xs c.self.inside.last c.in_ok-edge.edge c.in_ok-edge.rank) c.deref.ensures.value c.in_ok-edge.ensures in
    let inside = first_inside c.self.inside.firsts.items c.self.inside.nexts.items c.self.inside.states.items c.self.inside.last c.in_ok-edge.edge c.in_ok-edge.rank
    c.self.invariant first in
    omega (arith, inside.1, c.self.inside.states.ok.0)

pub invariant_of-self : goal.invariant_of-self
invariant_of-self c =
    let firsts = c.self.inside.firsts.items in
    let nexts = c.self.inside.nexts.items in
    let states = c.self.inside.states.items in
    let last = c.self.inside.last in
    let first = subst (λ (xs : List (Option ℕ)). IsFirst xs last c.in_ok-edge.edge c.in_ok-edge.rank) c.deref.ensures.value c.in_ok-edge.ensures in
    let inside = first_inside firsts nexts states last c.in_ok-edge.edge c.in_ok-edge.rank c.self.invariant first in
    let next = slice_get_read nexts (length nexts) c.in_ok-edge.edge c.index.result.now refl inside.2 c.index.ensures in
    buckets_fewer firsts nexts states last c.in_ok-edge.edge c.in_ok-edge.rank c.index.result.now c.self.invariant first next

pub returns-clause-pops : goal.returns-clause-pops
returns-clause-pops c =
    let firsts = c.self.inside.firsts.items in
    let nexts = c.self.inside.nexts.items in
    let states = c.self.inside.states.items in
    let last = c.self.inside.last in
    let edge = c.in_ok-edge.edge in
    let rank = c.in_ok-edge.rank in
    let first = subst (λ (xs : List (Option ℕ)). IsFirst xs last edge rank) c.deref.ensures.value c.in_ok-edge.ensures in
    let held = first_held_at firsts nexts states last edge rank c.self.invariant first.there in
    let lowest = lowest_held firsts nexts states last edge rank c.self.invariant first in
    (subst (λ (v : BucketsValue). IsLowestHeld v edge rank) c.self.view_is (record { held = held; lowest = lowest }), search rules)

pub returns-clause-onward : goal.returns-clause-onward
returns-clause-onward c =
    let firsts = c.self.inside.firsts.items in
    let nexts = c.self.inside.nexts.items in
    let states = c.self.inside.states.items in
    let last = c.self.inside.last in
    let edge = c.in_ok-edge.edge in
    let rank = c.in_ok-edge.rank in
    let first = subst (λ (xs : List (Option ℕ)). IsFirst xs last edge rank) c.deref.ensures.value c.in_ok-edge.ensures in
    let held = first_held_at firsts nexts states last edge rank c.self.invariant first.there in
    subst (λ (v : BucketsValue). (v.last ≤ rank) × (rank < v.ranks)) c.self.view_is (c.self.invariant.within edge rank held)
