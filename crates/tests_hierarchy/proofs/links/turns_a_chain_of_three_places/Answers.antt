use Rattle.std.proofs.Common.{◌≡◌, ◌<◌, ℕ, List, Option, arith, subst, sym, length}
use Rattle.cu_links.specs.Chains.{IsOnChainTo}
use Rattle.cu_links.proofs.Setting.{off_none, off_one}
use Rattle.tests_hierarchy.proofs.links.turns_a_chain_of_three_places.Goals as goal

pub set-requires-clause-apart : goal.set-requires-clause-apart
set-requires-clause-apart g c = off_none c.in_ok-chain.chain.links 1 0 (λ e. absurd (cc e)) c.in_ok-chain.ensures.none

pub set-requires-2-clause-apart : goal.set-requires-2-clause-apart
set-requires-2-clause-apart g c =
    let long = c.in_ok-chain.ensures.places in
    let inside : 1 < length c.in_ok-chain.chain.links = omega (arith, long) in
    subst (λ (links : List (Option (ℕ × ℕ))). IsOnChainTo links 2 1 → ⊥) (sym c.set.ensures.links)
    (off_one c.in_ok-chain.chain.links 1 0 7 2 1 (λ e. absurd (cc e)) (λ e. absurd (cc e)) inside c.in_ok-chain.ensures.none)
