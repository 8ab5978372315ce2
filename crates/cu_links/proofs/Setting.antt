-- A link that is set: no chain leads in a circle, and the place is noted.
use Rattle.std.proofs.Common.{◌≡◌, ◌≢◌, ◌<◌, ◌+◌, ◌∙◌, ◌++◌, ℕ, zero, suc, List, [], ◌∷◌, Option, Some, None, refl, ap, sym, subst, arith, inl, inr, length, take}
use Rattle.std.specs.Prelude.{All, false, Bool, slice_get, slice_set}
use Rattle.std.proofs.lemmas.Bool.{cases_eq}
use Rattle.std.proofs.Math.Seq.{take-append_seam}
use Rattle.std.proofs.lemmas.List.{length-set}
use Rattle.cu_model.proofs.OptionLaws.{same_value}
use Rattle.cu_links.specs.Chains.{IsChain, IsOnChainTo, link_at}
use Rattle.cu_links.specs.Steps.Kept.{IsDeep, IsGrounded, IsKept, IsNoted, MayGrow, Relinks, linked}
use Rattle.cu_links.proofs.Depths.{same_from}
use Rattle.cu_links.proofs.Links.{link_here, link_other, linked_few, linked_more, linked_same, noted_more, noted_new, places_more}

chain_push : (links : List (Option (ℕ × ℕ))) (a : ℕ) (steps : List (ℕ × ℕ)) (b c label : ℕ) → IsChain links a steps b → link_at links c ≡ Some (b, label)
    → IsChain links a (steps ++ ((c, label) ∷ [])) c
chain_push links a [] b c label same at = (at ∙ ap (λ (p : ℕ). Some (p, label)) (sym same), refl)
chain_push links a (s ∷ steps) b c label chain at = (chain.0, chain_push links s.0 steps b c label chain.1 at)

-- what leads to a place that the written one isn't on the way to stays
deep_kept : (links : List (Option (ℕ × ℕ))) (place : ℕ) (link : Option (ℕ × ℕ)) (n r : ℕ) → IsDeep links n r → (IsOnChainTo links place r → ⊥) → IsDeep (slice_set links place link) n r
deep_kept links place link zero r d off = link_other links place r link (λ same. off ([], same)) ∙ d
deep_kept links place link (suc n) r (from, label, at, rest) off = (
  from,
  label,
  link_other links place r link (λ same. off ([], same)) ∙ at,
  deep_kept links place link n from rest (λ on. off (on.0 ++ ((r, label) ∷ []), chain_push links place on.0 from r label on.1 at)),
)

regrounded : (links : List (Option (ℕ × ℕ))) (place from label : ℕ) → place < length links → IsGrounded (slice_set links place (Some (from, label))) from → (n q : ℕ) → IsDeep links n q
    → IsGrounded (slice_set links place (Some (from, label))) q
regrounded links place from label lt (k, deep) zero q d =
    elim (cases_eq place q) [
      | inl same ↦ (suc k, subst (λ (p : ℕ). IsDeep (slice_set links place (Some (from, label))) (suc k) p) same (from, label, link_here links place (Some (from, label)) lt, deep))
      | inr other ↦ (zero, link_other links place q (Some (from, label)) other ∙ d)
    ]
regrounded links place from label lt (k, deep) (suc n) q (from2, label2, at, rest) =
    let more = regrounded links place from label lt (k, deep) n from2 rest in
    elim (cases_eq place q) [
      | inl same ↦ (suc k, subst (λ (p : ℕ). IsDeep (slice_set links place (Some (from, label))) (suc k) p) same (from, label, link_here links place (Some (from, label)) lt, deep))
      | inr other ↦ (suc more.0, (from2, label2, link_other links place q (Some (from, label)) other ∙ at, more.1))
    ]

pub grow_set : (links : List (Option (ℕ × ℕ))) (count after place from label : ℕ) → MayGrow links count → place < length links → from < length links → (IsOnChainTo links place from → ⊥)
    → after ≡ linked (slice_set links place (Some (from, label))) → MayGrow (slice_set links place (Some (from, label))) after
grow_set links count after place from label g lt inside apart is =
    let (n, d) = g.grounded from in
    let reached : IsGrounded (slice_set links place (Some (from, label))) from = (n, deep_kept links place (Some (from, label)) n from d apart) in
    record {
      grounded = λ q. let (m, e) = g.grounded q in regrounded links place from label lt reached m q e;
      within = λ q link e.
          let long = length-set links place (Some (from, label)) in
          elim (cases_eq place q) [
            | inl same ↦
                let here : link_at (slice_set links place (Some (from, label))) q ≡ Some (from, label) =
                subst (λ (p : ℕ). link_at (slice_set links place (Some (from, label))) p ≡ Some (from, label)) same
                (link_here links place (Some (from, label)) lt) in
                let first : link.0 ≡ from = ap (λ (l : ℕ × ℕ). l.0) (same_value (link_at (slice_set links place (Some (from, label))) q) link (from, label) e here) in
                omega (arith, first, inside, long)
            | inr other ↦
                let before = g.within q link (sym (link_other links place q (Some (from, label)) other) ∙ e) in
                omega (arith, before, long)
          ];
      all = is;
    }

noted_long : (links : List (Option (ℕ × ℕ))) (place : ℕ) (link : Option (ℕ × ℕ)) (noted : List ℕ) (count : ℕ) → ((i p : ℕ) → i < count → slice_get noted i ≡ Some p → p < length links)
    → (i p : ℕ) → i < count → slice_get noted i ≡ Some p → p < length (slice_set links place link)
noted_long links place link noted count all i p lt e = let long = length-set links place link in let below = all i p lt e in omega (arith, long, below)

-- a place that has a link gets another
pub kept_again : (links : List (Option (ℕ × ℕ))) (noted : List ℕ) (count place from label : ℕ) (other : ℕ × ℕ) → IsKept links noted count false
    → place < length links → from < length links → (IsOnChainTo links place from → ⊥)
    → link_at links place ≡ Some other → IsKept (slice_set links place (Some (from, label))) noted count false
kept_again links noted count place from label other k lt inside apart at =
    let long = length-set links place (Some (from, label)) in
    let g = k.grow refl in
    let room = k.room in
    record {
      room = omega (arith, room, long);
      fits = k.fits;
      places = record {
        covers = λ q link e.
            elim (cases_eq place q) [
              | inl same ↦ k.places.covers q other (subst (λ (p : ℕ). link_at links p ≡ Some other) same at)
              | inr apart ↦ k.places.covers q link (sym (link_other links place q (Some (from, label)) apart) ∙ e)
            ];
        places = noted_long links place (Some (from, label)) noted count k.places.places;
      };
      grow = λ same. grow_set links count count place from label g lt inside apart (g.all ∙ sym (linked_same links place (from, label) other at));
    }

-- a place that has none is noted and gets its first
pub kept_new : (links : List (Option (ℕ × ℕ))) (noted : List ℕ) (count place from label : ℕ) → IsKept links noted count false → place < length links
    → from < length links → (IsOnChainTo links place from → ⊥)
    → link_at links place ≡ None → IsKept (slice_set links place (Some (from, label))) (slice_set noted count place) (count + 1) false
kept_new links noted count place from label k lt inside apart at =
    let long = length-set links place (Some (from, label)) in
    let noted_ = length-set noted count place in
    let g = k.grow refl in
    let room = k.room in
    let few = linked_few links in
    let count_ = g.all in
    let fits : count < length noted = omega (arith, room, few, count_) in
    let more = linked_more links place (from, label) lt at in
    record {
      room = omega (arith, room, long, noted_);
      fits = omega (arith, fits, noted_);
      places = record {
        covers = λ q link e.
            elim (cases_eq place q) [
              | inl same ↦ subst (λ (p : ℕ). IsNoted (slice_set noted count place) (count + 1) p) same (noted_new noted count place fits)
              | inr apart ↦ noted_more noted count place q (k.places.covers q link (sym (link_other links place q (Some (from, label)) apart) ∙ e))
            ];
        places = λ i p below e. let inside = places_more links noted count place fits lt k.places.places i p below e in omega (arith, inside, long);
      };
      grow = λ same. grow_set links count (count + 1) place from label g lt inside apart (omega (arith, more, count_));
    }

-- a chain was turned: its first place is noted
pub kept_turned : (links now : List (Option (ℕ × ℕ))) (noted : List ℕ) (count first : ℕ) (turned : Bool) → IsKept links noted count false
    → length now ≡ length links → first < length links → Relinks links now first
    → (turned ≡ false → ⊥) → IsKept now (slice_set noted count first) (count + 1) turned
kept_turned links now noted count first turned k long lt relinks is =
    let noted_ = length-set noted count first in
    let g = k.grow refl in
    let room = k.room in
    let few = linked_few links in
    let count_ = g.all in
    let fits : count < length noted = omega (arith, room, few, count_) in
    record {
      room = omega (arith, room, long, noted_);
      fits = omega (arith, fits, noted_);
      places = record {
        covers = λ q link e.
            elim (relinks q link e) [
              | inl same ↦ subst (λ (p : ℕ). IsNoted (slice_set noted count first) (count + 1) p) (sym same) (noted_new noted count first fits)
              | inr before ↦ noted_more noted count first q (k.places.covers q before.0 before.1)
            ];
        places = λ i p below e. let inside = places_more links noted count first fits lt k.places.places i p below e in omega (arith, inside, long);
      };
      grow = λ same. absurd (is same);
    }

-- there is room for one more
pub kept_room : (links : List (Option (ℕ × ℕ))) (noted : List ℕ) (count : ℕ) → IsKept links noted count false → count < length noted
kept_room links noted count k =
    let g = k.grow refl in
    let room = k.room in
    let few = linked_few links in
    let count_ = g.all in
    omega (arith, room, few, count_)

-- where nothing is linked, no place is
pub none_at : (links : List (Option (ℕ × ℕ))) (place : ℕ) → All (λ link. link ≡ None) links → link_at links place ≡ None
none_at [] place all = refl
none_at (x ∷ xs) zero all = all 0 x (omega arith)
none_at (x ∷ xs) (suc place) all = none_at xs place (λ k d lt. all (suc k) d (omega (arith, lt)))

none_linked : (links : List (Option (ℕ × ℕ))) → All (λ link. link ≡ None) links → linked links ≡ 0
none_linked [] all = refl
none_linked (None ∷ xs) all = none_linked xs (λ k d lt. all (suc k) d (omega (arith, lt)))
none_linked (Some l ∷ xs) all = absurd (cc (all 0 None (omega arith)))

-- no place has a link
pub kept_none : (links : List (Option (ℕ × ℕ))) (noted : List ℕ) → length noted ≡ length links + 1 → All (λ link. link ≡ None) links → IsKept links noted 0 false
kept_none links noted room all = record {
  room = room;
  fits = omega arith;
  places = record { covers = λ q link e. absurd (let none = none_at links q all in cc (none, e)); places = λ i p lt e. absurd (omega (arith, lt)) };
  grow = λ same. record {
    grounded = λ q. (0, none_at links q all);
    within = λ q link e. absurd (let none = none_at links q all in cc (none, e));
    all = sym (none_linked links all);
  };
}

-- a slice of a whole vector, written back
pub whole_back : {X : Type 0} (len : ℕ) (xs tail : List X) → len ≡ length xs → take len (xs ++ tail) ≡ xs
whole_back len xs tail e = ap (λ (n : ℕ). take n (xs ++ tail)) e ∙ take-append_seam xs tail

pub kept_unturned : (links : List (Option (ℕ × ℕ))) (noted : List ℕ) (count : ℕ) (turned : Bool) → turned ≡ false → IsKept links noted count turned → IsKept links noted count false
kept_unturned links noted count turned is k = subst (λ (b : Bool). IsKept links noted count b) is k

-- a place that no link is from is on the chain to no other
pub off_chain : (links : List (Option (ℕ × ℕ))) (a b : ℕ) → a ≢ b → ((q label : ℕ) → link_at links q ≡ Some (a, label) → ⊥) → IsOnChainTo links a b → ⊥
off_chain links a b apart none ([], same) = apart same
off_chain links a b apart none (s ∷ steps, chain) = none s.0 s.1 chain.0

-- where no place has a link, each place is on the chain to itself alone
pub off_none : (links : List (Option (ℕ × ℕ))) (a b : ℕ) → a ≢ b → All (λ link. link ≡ None) links → IsOnChainTo links a b → ⊥
off_none links a b apart all = off_chain links a b apart (λ q label e. let none = none_at links q all in absurd (cc (none, e)))

-- where only one place has a link, no other place but that from which it is is on the chain to another
pub off_one : (links : List (Option (ℕ × ℕ))) (place from label a b : ℕ) → a ≢ b → a ≢ from → place < length links → All (λ link. link ≡ None) links
    → IsOnChainTo (slice_set links place (Some (from, label))) a b → ⊥
off_one links place from label a b apart other lt all =
    off_chain (slice_set links place (Some (from, label))) a b apart (λ q tag e.
    elim (cases_eq place q) [
      | inl same ↦
          let here : link_at (slice_set links place (Some (from, label))) q ≡ Some (from, label) =
          subst (λ (p : ℕ). link_at (slice_set links place (Some (from, label))) p ≡ Some (from, label)) same (link_here links place (Some (from, label)) lt) in
          other (same_from (link_at (slice_set links place (Some (from, label))) q) a tag from label e here)
      | inr apart ↦ absurd (let none = link_other links place q (Some (from, label)) apart ∙ none_at links q all in cc (none, e))
    ])
