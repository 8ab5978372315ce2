use Rattle.std.proofs.Common.{◌≡◌, ◌<◌, ◌+◌, ℕ, List, Option, rules, subst, sym, length}
use Rattle.std.specs.Prelude.{false, true, slice_set}
use Rattle.cu_links.specs.Steps.Kept.{IsGrounded, IsKept, Relinks}
use Rattle.cu_links.proofs.Setting.{kept_room, kept_turned, kept_unturned, whole_back}
use Rattle.cu_links.proofs.chain.Chain.reverse_from.Goals as goal

pub turn-first-requires-clause-grounded : goal.turn-first-requires-clause-grounded
turn-first-requires-clause-grounded c =
    let unturned : c.self.inside.turned ≡ false = search rules in
    let value : c.self.inside.links.items ≡ c.deref_mut.result.now = search rules in
    subst (λ (links : List (Option (ℕ × ℕ))). IsGrounded links c.args.place) value ((c.self.invariant.grow unturned).grounded c.args.place)

pub index_mut-requires : goal.index_mut-requires
index_mut-requires c =
    let unturned : c.self.inside.turned ≡ false = search rules in
    let room = kept_room c.self.inside.links.items c.self.inside.noted.items c.self.inside.count
    (kept_unturned c.self.inside.links.items c.self.inside.noted.items c.self.inside.count c.self.inside.turned unturned c.self.invariant) in
    search rules

pub invariant_of-self : goal.invariant_of-self
invariant_of-self c =
    let links = c.self.inside.links.items in
    let noted = c.self.inside.noted.items in
    let count = c.self.inside.count in
    let first = c.turn-first.result in
    let now = c.turn-first.new.links in
    let unturned : c.self.inside.turned ≡ false = search rules in
    let long : length now ≡ length links = search rules in
    let len : c.self.inside.links.len ≡ length now = search rules in
    let relinks = subst (λ (ls : List (Option (ℕ × ℕ))). Relinks ls now first) c.deref_mut.ensures.value c.turn-first.ensures.linked in
    let inside = subst (λ (ls : List (Option (ℕ × ℕ))). first < length ls) c.deref_mut.ensures.value c.turn-first.ensures.first in
    subst (λ (ls : List (Option (ℕ × ℕ))). IsKept ls (slice_set noted count first) (count + 1) true) (sym (whole_back c.self.inside.links.len now _ len))
    (kept_turned links now noted count first true (kept_unturned links noted count c.self.inside.turned unturned c.self.invariant) long inside relinks (λ e. absurd (cc e)))
