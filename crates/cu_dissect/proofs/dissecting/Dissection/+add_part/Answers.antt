use Rattle.std.proofs.Common.{◌≡◌, ◌≤◌, ◌++◌, ◌∙◌, ℕ, List, length, arith, refl, ap, subst}
use Rattle.cu_dissect.specs.declared.dissecting.Dissection.{Dissection}
use Rattle.cu_dissect.specs.Dissection.{SplitValue, dissected_by}
use Rattle.cu_dissect.specs.Steps.Parts.{Adds}
use Rattle.cu_dissect.proofs.Around.{part_added}
use Rattle.cu_dissect.proofs.dissecting.Dissection.+add_part.Goals as goal

pub returns-clause-added : goal.returns-clause-added
returns-clause-added g t c =
    let net = c.args.map.now.network.now in
    let places = c.args.map.now.places.now in
    let split : SplitValue = c.in_ok-split.split in
    let adds : Dissection → Dissection → List ℕ → Type 0 = λ before after part. (fuel : ℕ) → length part ≤ fuel → Adds (dissected_by net places fuel part) before after in
    let left : c.deref.result.now ≡ split.left = c.deref.ensures.value ∙ ap (λ (s : SplitValue). s.left) c.split.view_is in
    let right : c.deref-2.result.now ≡ split.right = c.deref-2.ensures.value ∙ ap (λ (s : SplitValue). s.right) c.split.view_is in
    let separator : c.deref-3.result.now ≡ split.separator = c.deref-3.ensures.value ∙ ap (λ (s : SplitValue). s.separator) c.split.view_is in
    part_added net places c.args.part.now split c.args.self.now c.split_part.new.self c.add_part.new.self c.add_part-2.new.self _
    (omega (arith, c.if-part-le-UNSPLIT.false)) c.in_ok-split.ensures.exact c.in_ok-split.ensures.halves
    c.in_ok-split.ensures.order c.in_ok-split.ensures.listed (subst (adds c.split_part.new.self c.add_part.new.self) left c.in_ok-add_part.ensures.added)
    (subst (adds c.add_part.new.self c.add_part-2.new.self) right c.in_ok-add_part-2.ensures.added)
    (c.in_ok-extend_from_slice-2.ensures.items ∙ ap (λ (xs : List ℕ). c.add_part-2.new.self.order.items ++ xs) separator) refl
