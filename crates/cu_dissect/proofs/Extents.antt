-- The least and the greatest of the coordinates of a part so far.
use Rattle.std.proofs.Common.{◌≡◌, ◌<◌, ◌≤◌, ◌+◌, ◌-◌, ℕ, List, length, take, get_or, min, max, sym, ◌∙◌, ap, arith}
use Rattle.std.specs.List.{fold}
use Rattle.std.proofs.lemmas.List.{get_or-map, length-map, take_all}
use Rattle.std.proofs.lemmas.List.Sums.{fold_more}
use Rattle.cu_roads.specs.declared.places.Place.{Place}
use Rattle.cu_dissect.specs.Dissection.{coordinates, place_of, spread}

-- of the first i numbers, or of the first alone where i is 0
pub record IsExtent (numbers : List ℕ) (i low high : ℕ) : Type 0 where
  pub least : low ≡ fold (λ a b. min a b) (get_or numbers 0 0) (take i numbers)
  pub greatest : high ≡ fold (λ a b. max a b) (get_or numbers 0 0) (take i numbers)

module _ (coordinate : Place → ℕ) (places : List Place) (part : List ℕ) where
  pub extent_start : (start : Place) (low high : ℕ) → 0 < length part → start ≡ place_of places (get_or part 0 0) → low ≡ coordinate start → high ≡ coordinate start
      → IsExtent (coordinates coordinate places part) 0 low high
  extent_start start low high some at is_low is_high =
      let first : get_or (coordinates coordinate places part) 0 0 ≡ coordinate (place_of places (get_or part 0 0)) = get_or-map (λ node. coordinate (place_of places node)) part 0 0 0 some in
      record { least = is_low ∙ ap coordinate at ∙ sym first; greatest = is_high ∙ ap coordinate at ∙ sym first }

  pub extent_more : (i low high new_low new_high : ℕ) (place : Place) → IsExtent (coordinates coordinate places part) i low high → i < length part
      → place ≡ place_of places (get_or part i 0) → new_low ≡ min low (coordinate place) → new_high ≡ max high (coordinate place)
      → IsExtent (coordinates coordinate places part) (i + 1) new_low new_high
  extent_more i low high new_low new_high place f below at is_low is_high =
      let numbers : List ℕ = coordinates coordinate places part in
      let there : get_or numbers i 0 ≡ coordinate place = get_or-map (λ node. coordinate (place_of places node)) part i 0 0 below ∙ ap coordinate (sym at) in
      let long : length numbers ≡ length part = length-map part (λ node. coordinate (place_of places node)) in
      let within : i < length numbers = omega (arith, below, long) in
      let low_more = fold_more (λ (a b : ℕ). min a b) (get_or numbers 0 0) numbers i 0 within in
      let high_more = fold_more (λ (a b : ℕ). max a b) (get_or numbers 0 0) numbers i 0 within in
      record {
        least = is_low ∙ ap (λ (a : ℕ). min a (coordinate place)) f.least ∙ sym (low_more ∙ ap (min (fold (λ a b. min a b) (get_or numbers 0 0) (take i numbers))) there);
        greatest = is_high ∙ ap (λ (a : ℕ). max a (coordinate place)) f.greatest ∙ sym (high_more ∙ ap (max (fold (λ a b. max a b) (get_or numbers 0 0) (take i numbers))) there);
      }

  pub extent_all : (i low high : ℕ) → IsExtent (coordinates coordinate places part) i low high → length part ≤ i → high - low ≡ spread coordinate places part
  extent_all i low high f whole =
      let numbers : List ℕ = coordinates coordinate places part in
      let long : length numbers ≡ length part = length-map part (λ node. coordinate (place_of places node)) in
      let all : take i numbers ≡ numbers = take_all i numbers (omega (arith, whole, long)) in
      let low_is : low ≡ fold (λ a b. min a b) (get_or numbers 0 0) numbers = f.least ∙ ap (fold (λ a b. min a b) (get_or numbers 0 0)) all in
      let high_is : high ≡ fold (λ a b. max a b) (get_or numbers 0 0) numbers = f.greatest ∙ ap (fold (λ a b. max a b) (get_or numbers 0 0)) all in
      ap (λ (a : ℕ). a - low) high_is ∙ ap (λ (b : ℕ). fold (λ x y. max x y) (get_or numbers 0 0) numbers - b) low_is
