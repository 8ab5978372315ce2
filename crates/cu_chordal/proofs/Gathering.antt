-- Gathering numbers, each once.
use Rattle.std.proofs.Common.{◌≡◌, ◌≢◌, ◌≤◌, ◌<◌, ◌+◌, ℕ, List, [], ◌∷◌, ◌++◌, length, get_or, set, take, refl, sym, ◌∙◌, ap, subst, arith, inl, inr, ◌⊎◌}
use Rattle.std.specs.Prelude.{All}
use Rattle.std.specs.List.{Contains}
use Rattle.std.proofs.lemmas.Bool.{cases_eq}
use Rattle.std.proofs.lemmas.List.{get_or-set_same, get_or-set_other, take_more, take_all, length_push, length-take-le, get_or-take}
use Rattle.std.proofs.lemmas.List.Elements.{All-set, Contains-append_left, Contains-push_cases, Contains-push, Contains-get_or}
use Rattle.std.proofs.lemmas.List.Quantifiers.{all_pairs_push}
use Rattle.cu_chordal.specs.Steps.Closing.{AreStamped, Gathers, HasMoreThan, IsGathered}
use Rattle.cu_chordal.proofs.Members.{none_in_nil}

-- one more number with its stamp
pub stamped_more : (rank y : ℕ) (stamps part : List ℕ) → y < length stamps → get_or stamps y 0 ≢ rank + 1 → AreStamped rank stamps part
    → AreStamped rank (set stamps y (rank + 1)) (part ++ (y ∷ []))
stamped_more rank y stamps part inside fresh f = record {
  itself =
      let other : rank ≢ y = λ e. fresh (subst (λ k. get_or stamps k 0 ≡ rank + 1) e f.itself) in
      get_or-set_other stamps y rank (rank + 1) 0 other ∙ f.itself;
  stamped = λ z c.
      elim (Contains-push_cases part y z c) [
        | inl old ↦
            let other : z ≢ y = λ e. fresh (subst (λ k. get_or stamps k 0 ≡ rank + 1) e (f.stamped z old)) in
            get_or-set_other stamps y z (rank + 1) 0 other ∙ f.stamped z old
        | inr same ↦ subst (λ k. get_or (set stamps y (rank + 1)) k 0 ≡ rank + 1) same (get_or-set_same stamps y (rank + 1) 0 inside)
      ];
  known = λ z e.
      elim (cases_eq z y) [
        | inl same ↦ inr (subst (Contains (part ++ (y ∷ []))) (sym same) (Contains-push part y))
        | inr other ↦
            elim (f.known z (sym (get_or-set_other stamps y z (rank + 1) 0 other) ∙ e)) [
              | inl own ↦ inl own
              | inr old ↦ inr (Contains-append_left part (y ∷ []) z old)
            ]
      ];
  apart = λ c.
      elim (Contains-push_cases part y rank c) [
        | inl old ↦ f.apart old
        | inr same ↦ fresh (subst (λ k. get_or stamps k 0 ≡ rank + 1) (sym same) f.itself)
      ];
  once = all_pairs_push (λ (a b : ℕ). a ≢ b) part y f.once (λ k d h e. fresh (subst (λ z. get_or stamps z 0 ≡ rank + 1) e (f.stamped (get_or part k d) (Contains-get_or part k d h))));
  low = All-set (λ stamp. stamp ≤ rank + 1) stamps y (rank + 1) (omega arith) f.low;
}

-- one more candidate, added or seen before
pub gathers_push : (rank i y : ℕ) (candidates old new : List ℕ) → i < length candidates → y ≡ get_or candidates i 0 → y ≢ rank → Gathers rank (take i candidates) old new
    → Gathers rank (take (i + 1) candidates) old (new ++ (y ∷ []))
gathers_push rank i y candidates old new h read other f =
    let more : take (i + 1) candidates ≡ take i candidates ++ (y ∷ []) = take_more candidates i 0 h ∙ ap (λ k. take i candidates ++ (k ∷ [])) (sym read) in
    subst (λ cs. Gathers rank cs old (new ++ (y ∷ []))) (sym more) (record {
      kept = λ z c. Contains-append_left new (y ∷ []) z (f.kept z c);
      taken = λ z c ne.
          elim (Contains-push_cases (take i candidates) y z c) [
            | inl before ↦ Contains-append_left new (y ∷ []) z (f.taken z before ne)
            | inr same ↦ subst (Contains (new ++ (y ∷ []))) same (Contains-push new y)
          ];
      from = λ z c.
          elim (Contains-push_cases new y z c) [
            | inl before ↦ elim (f.from z before) [
              | inl was ↦ inl was
              | inr both ↦ inr (Contains-append_left (take i candidates) (y ∷ []) z both.0, both.1)
            ]
            | inr same ↦ inr (subst (Contains (take i candidates ++ (y ∷ []))) same (Contains-push (take i candidates) y), λ e. other (same ∙ e))
          ];
    })

pub gathers_seen : (rank i y : ℕ) (candidates old new : List ℕ) → i < length candidates → y ≡ get_or candidates i 0 → (y ≡ rank) ⊎ Contains new y → Gathers rank (take i candidates) old new
    → Gathers rank (take (i + 1) candidates) old new
gathers_seen rank i y candidates old new h read seen f =
    let more : take (i + 1) candidates ≡ take i candidates ++ (y ∷ []) = take_more candidates i 0 h ∙ ap (λ k. take i candidates ++ (k ∷ [])) (sym read) in
    subst (λ cs. Gathers rank cs old new) (sym more) (record {
      kept = f.kept;
      taken = λ z c ne.
          elim (Contains-push_cases (take i candidates) y z c) [
            | inl before ↦ f.taken z before ne
            | inr same ↦ elim seen [
              | inl own ↦ absurd (ne (sym same ∙ own))
              | inr there ↦ subst (Contains new) same there
            ]
          ];
      from = λ z c.
          elim (f.from z c) [
            | inl was ↦ inl was
            | inr both ↦ inr (Contains-append_left (take i candidates) (y ∷ []) z both.0, both.1)
          ];
    })

pub gathers_none : (rank : ℕ) (candidates old : List ℕ) → Gathers rank (take 0 candidates) old old
gathers_none rank candidates old = record { kept = λ z c. c; taken = λ z c ne. absurd (none_in_nil z c); from = λ z c. inl c }

pub gathers_all : (rank i : ℕ) (candidates old new : List ℕ) → length candidates ≤ i → Gathers rank (take i candidates) old new → Gathers rank candidates old new
gathers_all rank i candidates old new le f = subst (λ cs. Gathers rank cs old new) (take_all i candidates le) f

member_of_take : (i : ℕ) (xs : List ℕ) (z : ℕ) → i ≤ length xs → Contains (take i xs) z → Contains xs z
member_of_take i xs z le c =
    let short : length (take i xs) ≡ i = length-take-le i xs le in
    (c.0, omega (arith, c.1, short, le), sym (get_or-take i xs c.0 z (omega (arith, c.1, short))) ∙ c.2)

-- where there is no room for one more
too_many : (rank i y room : ℕ) (candidates stamps old new : List ℕ) → i < length candidates → y ≡ get_or candidates i 0 → get_or stamps y 0 ≢ rank + 1 → y < length stamps
    → AreStamped rank stamps new → Gathers rank (take i candidates) old new → length new ≡ room
    → HasMoreThan room (IsGathered rank old candidates)
too_many rank i y room candidates stamps old new h read fresh inside f g full =
    let stamped = stamped_more rank y stamps new inside fresh f in
    let other : y ≢ rank = λ e. fresh (subst (λ k. get_or stamps k 0 ≡ rank + 1) (sym e) f.itself) in
    let gathered = gathers_push rank i y candidates old new h read other g in (
      new ++ (y ∷ []),
      stamped.once,
      length_push new y ∙ ap (λ k. k + 1) full,
      λ z c. elim (gathered.from z c) [
        | inl was ↦ inl was
        | inr both ↦ inr (member_of_take (i + 1) candidates z (omega (arith, h)) both.0, both.1)
      ],
    )

pub fresh_is_other : (rank y : ℕ) (stamps part : List ℕ) → get_or stamps y 0 ≢ rank + 1 → AreStamped rank stamps part → y ≢ rank
fresh_is_other rank y stamps part fresh f e = fresh (subst (λ k. get_or stamps k 0 ≡ rank + 1) (sym e) f.itself)

-- the candidates so far were gathered
pub record IsGathering (rank room : ℕ) (candidates stamps old part : List ℕ) : Type 0 where
  pub marked : AreStamped rank stamps part
  pub gathered : Gathers rank candidates old part
  pub within : length part ≤ room

pub gathering_added : (rank room i : ℕ) (candidates stamps stamps_new old part part_new : List ℕ) → i < length candidates → All (λ y. y < length stamps) candidates
    → get_or stamps (get_or candidates i 0) 0 ≢ rank + 1 → IsGathering rank room (take i candidates) stamps old part → length part ≢ room
    → part_new ≡ part ++ (get_or candidates i 0 ∷ []) → stamps_new ≡ set stamps (get_or candidates i 0) (rank + 1)
    → IsGathering rank room (take (i + 1) candidates) stamps_new old part_new
gathering_added rank room i candidates stamps stamps_new old part part_new h inside fresh f space part_is stamps_is =
    let y : ℕ = get_or candidates i 0 in
    let long = length_push part y in
    subst (λ ss. IsGathering rank room (take (i + 1) candidates) ss old part_new) (sym stamps_is)
    (subst (IsGathering rank room (take (i + 1) candidates) (set stamps y (rank + 1)) old) (sym part_is) (record {
      marked = stamped_more rank y stamps part (inside i 0 h) fresh f.marked;
      gathered = gathers_push rank i y candidates old part h refl (fresh_is_other rank y stamps part fresh f.marked) f.gathered;
      within = omega (arith, long, f.within, space);
    }))

pub gathering_seen : (rank room i : ℕ) (candidates stamps stamps_new old part part_new : List ℕ) → i < length candidates
    → get_or stamps (get_or candidates i 0) 0 ≡ rank + 1 → IsGathering rank room (take i candidates) stamps old part → part_new ≡ part → stamps_new ≡ stamps
    → IsGathering rank room (take (i + 1) candidates) stamps_new old part_new
gathering_seen rank room i candidates stamps stamps_new old part part_new h seen f part_is stamps_is =
    let y : ℕ = get_or candidates i 0 in
    subst (λ ss. IsGathering rank room (take (i + 1) candidates) ss old part_new) (sym stamps_is)
    (subst (IsGathering rank room (take (i + 1) candidates) stamps old) (sym part_is) (record {
      marked = f.marked;
      gathered = gathers_seen rank i y candidates old part h refl (f.marked.known y seen) f.gathered;
      within = f.within;
    }))

pub gathering_none : (rank room : ℕ) (candidates stamps part : List ℕ) → AreStamped rank stamps part → length part ≤ room → IsGathering rank room (take 0 candidates) stamps part part
gathering_none rank room candidates stamps part f le = record { marked = f; gathered = gathers_none rank candidates part; within = le }

pub gathering_full : (rank room i : ℕ) (candidates stamps old part : List ℕ) → i < length candidates → All (λ y. y < length stamps) candidates
    → get_or stamps (get_or candidates i 0) 0 ≢ rank + 1 → IsGathering rank room (take i candidates) stamps old part → length part ≡ room
    → HasMoreThan room (IsGathered rank old candidates)
gathering_full rank room i candidates stamps old part h inside fresh f full =
    too_many rank i (get_or candidates i 0) room candidates stamps old part h refl fresh (inside i 0 h) f.marked f.gathered full
