-- A chain, turned link by link from its last place to its first.
use Rattle.std.proofs.Common.{◌≡◌, ◌≢◌, ◌≤◌, ◌<◌, ◌∙◌, ℕ, zero, suc, List, [], ◌∷◌, Option, Some, None, refl, sym, subst, arith, inl, inr, length}
use Rattle.std.specs.Prelude.{slice_set}
use Rattle.std.proofs.lemmas.Bool.{cases_eq}
use Rattle.std.proofs.lemmas.List.{length-set}
use Rattle.cu_links.specs.Chains.{AreFollowed, IsChain, IsTurned, link_at}
use Rattle.cu_links.specs.Steps.Kept.{AreWithin, IsDeep, IsGrounded, Relinks}
use Rattle.cu_links.proofs.Depths.{deep_same, depth_by, depth_whole, same_from}
use Rattle.cu_links.proofs.Links.{link_here, link_other}

-- the steps behind the place are turned, and the next of them is at hand
abbrev pub IsNext : List (Option (ℕ × ℕ)) → Option (ℕ × ℕ) → List (ℕ × ℕ) → Type 0
IsNext now next [] = next ≡ None
IsNext now next (step ∷ steps) = (next ≡ Some step) × AreFollowed now step.0 steps

pub record IsTurning (old now : List (Option (ℕ × ℕ))) (last place : ℕ) (next : Option (ℕ × ℕ)) : Type 0 where
  pub long : length now ≡ length old
  pub depth : ℕ
  pub deep : IsDeep old depth place
  pub kept : (q m : ℕ) → IsDeep old m q → m ≤ depth → link_at now q ≡ link_at old q
  pub steps : List (ℕ × ℕ)
  pub chain : IsChain old place steps last
  pub ahead : IsNext now next steps
  pub relinks : (q : ℕ) (link : ℕ × ℕ) → link_at now q ≡ Some link → (other : ℕ × ℕ) × (link_at old q ≡ Some other)

pub turning_begin : (old : List (Option (ℕ × ℕ))) (last : ℕ) → IsGrounded old last → IsTurning old old last last None
turning_begin old last (n, d) = record {
  long = refl;
  depth = n;
  deep = d;
  kept = λ q m e le. refl;
  steps = [];
  chain = refl;
  ahead = refl;
  relinks = λ q link e. (link, e);
}

-- places of another depth keep what is followed from them
followed_kept : (old now : List (Option (ℕ × ℕ))) (place : ℕ) (link : Option (ℕ × ℕ)) (depth : ℕ) → IsDeep old depth place
    → (k a : ℕ) (steps : List (ℕ × ℕ)) (last : ℕ) → depth < k → IsDeep old k a → IsChain old a steps last → AreFollowed now a steps
    → AreFollowed (slice_set now place link) a steps
followed_kept old now place link depth d k a [] last lt e chain t =
    link_other now place a link (λ same. let both = deep_same old depth k a (subst (λ (p : ℕ). IsDeep old depth p) same d) e in absurd (omega (arith, lt, both))) ∙ t
followed_kept old now place link depth d k a (s ∷ steps) last lt e chain t =
    let apart : place ≢ a = λ same. let both = deep_same old depth k a (subst (λ (p : ℕ). IsDeep old depth p) same d) e in absurd (omega (arith, lt, both)) in
    (link_other now place a link apart ∙ t.0, followed_kept old now place link depth d (suc k) s.0 steps last (omega (arith, lt)) (a, s.1, chain.0, e) chain.1 t.1)

-- the place is written, and is followed by the steps behind it
followed_from : (old now : List (Option (ℕ × ℕ))) (place : ℕ) (next : Option (ℕ × ℕ)) (depth : ℕ) → place < length now → IsDeep old depth place
    → (steps : List (ℕ × ℕ)) (last : ℕ) → IsChain old place steps last → IsNext now next steps
    → AreFollowed (slice_set now place next) place steps
followed_from old now place next depth lt d [] last chain ahead = link_here now place next lt ∙ ahead
followed_from old now place next depth lt d (s ∷ steps) last chain ahead =
    (link_here now place next lt ∙ ahead.0, followed_kept old now place next depth d (suc depth) s.0 steps last (omega arith) (place, s.1, chain.0, d) chain.1 ahead.1)

step_by : (old now : List (Option (ℕ × ℕ))) (last place : ℕ) (next : Option (ℕ × ℕ)) (from label depth : ℕ) → place < length now → length now ≡ length old → IsDeep old depth place
    → ((q m : ℕ) → IsDeep old m q → m ≤ depth → link_at now q ≡ link_at old q)
    → (steps : List (ℕ × ℕ)) → IsChain old place steps last → IsNext now next steps
    → ((q : ℕ) (link : ℕ × ℕ) → link_at now q ≡ Some link → (other : ℕ × ℕ) × (link_at old q ≡ Some other))
    → link_at now place ≡ Some (from, label)
    → (t : IsTurning old (slice_set now place next) last from (Some (place, label))) × (suc t.depth ≡ depth)
step_by old now last place next from label zero lt long d kept steps chain ahead relinks at =
    let same = kept place zero d (omega arith) in
    absurd (cc (same, d, at))
step_by old now last place next from label (suc n) lt long d kept steps chain ahead relinks at =
    let there : link_at old place ≡ Some (from, label) = sym (kept place (suc n) d (omega arith)) ∙ at in
    let same = same_from (link_at old place) d.0 d.1 from label d.2 there in (
      record {
        long = length-set now place next ∙ long;
        depth = n;
        deep = subst (λ (p : ℕ). IsDeep old n p) same d.3;
        kept = λ q m e le.
            let apart : place ≢ q = λ is. let both = deep_same old (suc n) m q (subst (λ (p : ℕ). IsDeep old (suc n) p) is d) e in absurd (omega (arith, both, le)) in
            link_other now place q next apart ∙ kept q m e (omega (arith, le));
        steps = (place, label) ∷ steps;
        chain = (there, chain);
        ahead = (refl, followed_from old now place next (suc n) lt d steps last chain ahead);
        relinks = λ q link e.
            elim (cases_eq place q) [
              | inl is ↦ ((from, label), subst (λ (p : ℕ). link_at old p ≡ Some (from, label)) is there)
              | inr other ↦ relinks q link (sym (link_other now place q next other) ∙ e)
            ];
      },
      refl,
    )

module _ (old now : List (Option (ℕ × ℕ))) (last place : ℕ) (next : Option (ℕ × ℕ)) where
  -- one more link is turned
  pub turning_step : (from label : ℕ) (t : IsTurning old now last place next) → place < length now → link_at now place ≡ Some (from, label)
      → (u : IsTurning old (slice_set now place next) last from (Some (place, label))) × (suc u.depth ≡ t.depth)
  turning_step from label t lt at = step_by old now last place next from label t.depth lt t.long t.deep t.kept t.steps t.chain t.ahead t.relinks at

  -- the place from which the link leads is one
  pub turning_within : (from label : ℕ) (t : IsTurning old now last place next) → AreWithin old → link_at now place ≡ Some (from, label) → from < length now
  turning_within from label t within at =
      let below = within place (from, label) (sym (t.kept place t.depth t.deep (omega arith)) ∙ at) in
      let long = t.long in
      omega (arith, below, long)

  pub turning_depth : (t : IsTurning old now last place next) → depth_by (length old) old place ≡ t.depth
  turning_depth t = depth_whole old t.depth place t.deep

  -- the first place was reached
  pub turning_end : (t : IsTurning old now last place next) → place < length now → link_at now place ≡ None → IsTurned old (slice_set now place next) last place
  turning_end t lt at = record {
    steps = t.steps;
    chain = t.chain;
    whole = sym (t.kept place t.depth t.deep (omega arith)) ∙ at;
    followed = followed_from old now place next t.depth lt t.deep t.steps last t.chain t.ahead;
  }

  pub turning_relinks : (t : IsTurning old now last place next) → Relinks old (slice_set now place next) place
  turning_relinks t q link e =
      elim (cases_eq place q) [
        | inl is ↦ inl (sym is)
        | inr other ↦ inr (t.relinks q link (sym (link_other now place q next other) ∙ e))
      ]

-- fewer links lead to the place that is next
pub turning_lower : (old now moved : List (Option (ℕ × ℕ))) (last place from : ℕ) (next after : Option (ℕ × ℕ)) → (t : IsTurning old now last place next)
    → (u : IsTurning old moved last from after) → suc u.depth ≡ t.depth
    → depth_by (length old) old from < depth_by (length old) old place
turning_lower old now moved last place from next after t u less =
    let a = turning_depth old now last place next t in
    let b = turning_depth old moved last from after u in
    omega (arith, a, b, less)
