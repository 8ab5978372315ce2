use Rattle.std.proofs.Common.{◌≡◌, ◌+◌, ℕ, List, Option, arith, rules, subst, sym, length}
use Rattle.std.specs.Prelude.{false}
use Rattle.cu_links.specs.Steps.Kept.{IsKept}
use Rattle.cu_links.proofs.Setting.{kept_none, whole_back}
use Rattle.cu_links.proofs.chain.Chain.clear.Goals as goal

pub invariant_of-self : goal.invariant_of-self
invariant_of-self c =
    let noted = c.self.inside.noted.items in
    let long : length c.unlink.new.links ≡ length c.self.inside.links.items = search rules in
    let len : c.self.inside.links.len ≡ length c.unlink.new.links = search rules in
    let room : length noted ≡ length c.unlink.new.links + 1 = omega (arith, long, c.self.invariant.room) in
    subst (λ (links : List (Option (ℕ × ℕ))). IsKept links noted 0 false) (sym (whole_back c.self.inside.links.len c.unlink.new.links _ len))
    (kept_none c.unlink.new.links noted room c.unlink.ensures.none)
