use Rattle.std.proofs.Common.{◌≡◌, ◌<◌, ◌+◌, ◌∙◌, ℕ, Bool, List, Option, Some, rules, subst, sym, length}
use Rattle.std.specs.Prelude.{false, slice_set}
use Rattle.cu_links.specs.Chains.{IsOnChainTo, link_at}
use Rattle.cu_links.specs.Steps.Kept.{IsKept}
use Rattle.cu_links.proofs.Links.{link_read, no_link, some_link}
use Rattle.cu_links.proofs.Setting.{kept_again, kept_new, kept_room, kept_unturned}
use Rattle.cu_links.proofs.chain.Chain.set.Goals as goal

pub invariant_of-self : goal.invariant_of-self
invariant_of-self c =
    let links = c.self.inside.links.items in
    let noted = c.self.inside.noted.items in
    let count = c.self.inside.count in
    let unturned : c.self.inside.turned ≡ false = search rules in
    let kept = kept_unturned links noted count c.self.inside.turned unturned c.self.invariant in
    let same : c.args.self.now.links ≡ links = search rules in
    let place = subst (λ (ls : List (Option (ℕ × ℕ))). c.args.place < length ls) same c.requires.place in
    let from = subst (λ (ls : List (Option (ℕ × ℕ))). c.args.from < length ls) same c.requires.from in
    let apart = subst (λ (ls : List (Option (ℕ × ℕ))). IsOnChainTo ls c.args.place c.args.from → ⊥) same c.requires.apart in
    let read : link_at links c.args.place ≡ c.index.result.now = link_read links c.args.place c.index.result.now place c.index.ensures in
    let (link, is) = some_link c.index.result.now (sym c.is_some.ensures ∙ c.if-is_some.true) in
    subst (λ (b : Bool). IsKept (slice_set links c.args.place (Some (c.args.from, c.args.label))) noted count b) (sym unturned)
    (kept_again links noted count c.args.place c.args.from c.args.label link kept place from apart (read ∙ is))

pub index_mut-requires-2 : goal.index_mut-requires-2
index_mut-requires-2 c =
    let links = c.self.inside.links.items in
    let noted = c.self.inside.noted.items in
    let count = c.self.inside.count in
    let unturned : c.self.inside.turned ≡ false = search rules in
    let kept = kept_unturned links noted count c.self.inside.turned unturned c.self.invariant in
    let room = kept_room links noted count kept in
    search rules

pub invariant_of-self-2 : goal.invariant_of-self-2
invariant_of-self-2 c =
    let links = c.self.inside.links.items in
    let noted = c.self.inside.noted.items in
    let count = c.self.inside.count in
    let unturned : c.self.inside.turned ≡ false = search rules in
    let kept = kept_unturned links noted count c.self.inside.turned unturned c.self.invariant in
    let same : c.args.self.now.links ≡ links = search rules in
    let place = subst (λ (ls : List (Option (ℕ × ℕ))). c.args.place < length ls) same c.requires.place in
    let from = subst (λ (ls : List (Option (ℕ × ℕ))). c.args.from < length ls) same c.requires.from in
    let apart = subst (λ (ls : List (Option (ℕ × ℕ))). IsOnChainTo ls c.args.place c.args.from → ⊥) same c.requires.apart in
    let read : link_at links c.args.place ≡ c.index.result.now = link_read links c.args.place c.index.result.now place c.index.ensures in
    let none = no_link c.index.result.now (sym c.is_some.ensures ∙ c.if-is_some.false) in
    subst (λ (b : Bool). IsKept (slice_set links c.args.place (Some (c.args.from, c.args.label))) (slice_set noted count c.args.place) (count + 1) b) (sym unturned)
    (kept_new links noted count c.args.place c.args.from c.args.label kept place from apart (read ∙ none))
