-- Links read and written.
use Rattle.std.proofs.Common.{◌≡◌, ◌≢◌, ◌≤◌, ◌<◌, ◌+◌, ◌∙◌, ℕ, zero, suc, List, [], ◌∷◌, Option, Some, None, refl, ap, sym, subst, arith, inl, inr, length, get_or}
use Rattle.std.specs.Prelude.{All, true, false, is_some, slice_get, slice_set}
use Rattle.std.proofs.lemmas.Bool.{cases_eq}
use Rattle.std.proofs.lemmas.Option.{slice_get-get_or, slice_get_read}
use Rattle.cu_model.proofs.ListLaws.{get_here, get_other}
use Rattle.cu_model.proofs.OptionLaws.{same_value}
use Rattle.cu_links.specs.Chains.{link_at, link_or_none}
use Rattle.cu_links.specs.Steps.Kept.{IsNoted, linked}

module _ (links : List (Option (ℕ × ℕ))) (place : ℕ) where
  pub link_here : (link : Option (ℕ × ℕ)) → place < length links → link_at (slice_set links place link) place ≡ link
  link_here link lt = ap link_or_none (get_here links place link lt)

  pub link_other : (other : ℕ) (link : Option (ℕ × ℕ)) → place ≢ other → link_at (slice_set links place link) other ≡ link_at links other
  link_other other link ne = ap link_or_none (get_other links place other link ne)

  -- a link that is read by its index
  pub link_of : (link : Option (ℕ × ℕ)) → place < length links → get_or links place None ≡ link → link_at links place ≡ link
  link_of link lt e = ap link_or_none (slice_get-get_or links place None lt) ∙ e

  pub link_read : (link : Option (ℕ × ℕ)) → place < length links → link ≡ get_or links place link → link_at links place ≡ link
  link_read link lt e = ap link_or_none (slice_get_read links (length links) place link refl lt e)

pub some_link : (o : Option (ℕ × ℕ)) → is_some o ≡ true → (link : ℕ × ℕ) × (o ≡ Some link)
some_link None e = absurd (cc e)
some_link (Some link) e = (link, refl)

pub no_link : (o : Option (ℕ × ℕ)) → is_some o ≡ false → o ≡ None
no_link None e = refl
no_link (Some link) e = absurd (cc e)

pub link_within : (links : List (Option (ℕ × ℕ))) (place : ℕ) (link : ℕ × ℕ) → link_at links place ≡ Some link → place < length links
link_within [] place link e = absurd (cc e)
link_within (x ∷ xs) zero link e = omega arith
link_within (x ∷ xs) (suc place) link e = let more = link_within xs place link e in omega (arith, more)

-- a place more has a link
pub linked_more : (links : List (Option (ℕ × ℕ))) (place : ℕ) (link : ℕ × ℕ) → place < length links → link_at links place ≡ None → linked (slice_set links place (Some link)) ≡ linked links + 1
linked_more [] place link lt none = absurd (omega (arith, lt))
linked_more (None ∷ xs) zero link lt none = omega arith
linked_more (Some y ∷ xs) zero link lt none = absurd (cc none)
linked_more (None ∷ xs) (suc place) link lt none = linked_more xs place link (omega (arith, lt)) none
linked_more (Some y ∷ xs) (suc place) link lt none = let more = linked_more xs place link (omega (arith, lt)) none in omega (arith, more)

-- a place has another link
pub linked_same : (links : List (Option (ℕ × ℕ))) (place : ℕ) (link other : ℕ × ℕ) → link_at links place ≡ Some other → linked (slice_set links place (Some link)) ≡ linked links
linked_same [] place link other e = absurd (cc e)
linked_same (None ∷ xs) zero link other e = absurd (cc e)
linked_same (Some y ∷ xs) zero link other e = refl
linked_same (None ∷ xs) (suc place) link other e = linked_same xs place link other e
linked_same (Some y ∷ xs) (suc place) link other e = ap (λ (n : ℕ). suc n) (linked_same xs place link other e)

pub linked_few : (links : List (Option (ℕ × ℕ))) → linked links ≤ length links
linked_few [] = omega arith
linked_few (None ∷ xs) = let more = linked_few xs in omega (arith, more)
linked_few (Some y ∷ xs) = let more = linked_few xs in omega (arith, more)

-- one more is noted
pub noted_more : (noted : List ℕ) (count place other : ℕ) → IsNoted noted count other → IsNoted (slice_set noted count place) (count + 1) other
noted_more noted count place other (i, lt, e) = (i, omega (arith, lt), get_other noted count i place (λ same. absurd (omega (arith, same, lt))) ∙ e)

pub noted_new : (noted : List ℕ) (count place : ℕ) → count < length noted → IsNoted (slice_set noted count place) (count + 1) place
noted_new noted count place lt = (count, omega arith, get_here noted count place lt)

-- what is noted stays a place
pub places_more : (links : List (Option (ℕ × ℕ))) (noted : List ℕ) (count place : ℕ) → count < length noted → place < length links
    → ((i p : ℕ) → i < count → slice_get noted i ≡ Some p → p < length links) → (i p : ℕ) → i < count + 1 → slice_get (slice_set noted count place) i ≡ Some p → p < length links
places_more links noted count place fits lt all i p below e =
    elim (cases_eq count i) [
      | inl same ↦
          let here : slice_get (slice_set noted count place) i ≡ Some place = subst (λ (k : ℕ). slice_get (slice_set noted count place) k ≡ Some place) same (get_here noted count place fits) in
          let is : p ≡ place = same_value _ p place e here in
          omega (arith, is, lt)
      | inr other ↦ all i p (omega (arith, below, other)) (sym (get_other noted count i place other) ∙ e)
    ]

option_none : (o : Option (ℕ × ℕ)) → ((link : ℕ × ℕ) → o ≡ Some link → ⊥) → o ≡ None
option_none None f = refl
option_none (Some link) f = absurd (f link refl)

-- where no place has a link, all are none
pub all_none : (links : List (Option (ℕ × ℕ))) → ((place : ℕ) (link : ℕ × ℕ) → link_at links place ≡ Some link → ⊥) → All (λ link. link ≡ None) links
all_none [] f k d lt = absurd (omega (arith, lt))
all_none (x ∷ xs) f zero d lt = option_none x (f 0)
all_none (x ∷ xs) f (suc k) d lt = all_none xs (λ place. f (suc place)) k d (omega (arith, lt))
