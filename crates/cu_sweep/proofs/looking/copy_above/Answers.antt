use Rattle.std.proofs.Common.{◌≡◌, ◌≤◌, ◌<◌, ◌∙◌, ◌++◌, ◌∷◌, [], ℕ, length, length-set, List, sym, ap, subst, arith, inl, inr, get_or-set_same, get_or-set_other}
use Rattle.std.specs.Prelude.{All, slice_set}
use Rattle.std.specs.List.{Contains}
use Rattle.std.specs.Iterator.{Yields, YieldsFirst}
use Rattle.std.proofs.lemmas.Bool.{cases_eq}
use Rattle.std.proofs.lemmas.List.Elements.{All-set, Contains-append_cases}
use Rattle.cu_chordal.proofs.Members.{member_cases, none_in_nil}
use Rattle.cu_elimtree.specs.Trees.{ancestors_of}
use Rattle.cu_elimtree.proofs.Climbing.{yielded_first}
use Rattle.cu_interval.specs.LeastBounds.{far}
use Rattle.cu_sweep.specs.Outlooks.{ahead_at}
use Rattle.cu_sweep.proofs.Passes.{all_parts}
use Rattle.cu_sweep.proofs.looking.copy_above.Goals as goal

pub ranks-preserved : goal.ranks-preserved
ranks-preserved c =
    let i = c.ranks.invariant in
    let x = c.in-Some.ancestor in
    let before = c.ranks.yielded in
    let behind = c.next.new.self in
    let left : c.ranks.ancestor-iterator ≡ x ∷ behind = c.in-Some.ensures.steps in
    let whole : c.ancestors-ancestor-items.result ≡ before ++ c.ranks.ancestor-iterator =
    yielded_first (λ (left : List ℕ). left) c.ancestors-ancestor-items.result before c.ranks.ancestor-iterator
    (subst (λ s. Yields (YieldsFirst (λ (left : List ℕ). left)) s before c.ranks.ancestor-iterator) c.into_iter-ancestor-iterator.ensures.into_iter_gives c.ranks.yielded_by) in
    let all : ancestors_of c.args.tree.now c.args.rank ≡ before ++ (x ∷ behind) = sym c.ancestors-ancestor-items.ensures.left ∙ whole ∙ ap (λ (xs : List ℕ). before ++ xs) left in
    let below : x < length c.args.tree.now = all_parts (λ a. a < length c.args.tree.now) before x behind (subst (All (λ a. a < length c.args.tree.now)) all c.ancestors-ancestor-items.ensures.below) in
    let from = c.args.from.now in
    let into = c.ranks.into in
    let value = ahead_at from x in
    let places = c.requires.places.1 in
    let other_places = c.requires.places.0 in
    let long = i.places in
    let inside : x < length into = omega (arith, below, places, long) in
    let there_ : x < length from = omega (arith, below, other_places) in
    let near : value ≤ far = c.requires.near.0 x 0 there_ in
    let new = slice_set into x value in
    record {
      places = length-set into x value ∙ i.places;
      near = All-set (λ seconds. seconds ≤ far) into x value near i.near;
      copied = λ z m.
          elim (cases_eq z x) [
            | inl same ↦ subst (λ (r : ℕ). ahead_at new r ≡ ahead_at from r) (sym same) (get_or-set_same into x value 0 inside)
            | inr ne ↦
                let earlier : Contains before z = elim (Contains-append_cases before (x ∷ []) z m) [
                  | inl k ↦ k
                  | inr last ↦ elim (member_cases x [] z last) [
                    | inl is ↦ absurd (ne (sym is))
                    | inr none ↦ absurd (none_in_nil z none)
                  ]
                ] in
                get_or-set_other into x z value 0 ne ∙ i.copied z earlier
          ];
    }
