-- Stretches of lists, and of a file's sections as they stand in its bytes.
use Rattle.std.proofs.Common.{◌≡◌, ◌≤◌, ◌+◌, ◌-◌, ◌*◌, ◌∙◌, ℕ, List, ◌++◌, length, take, drop, flat_map, ap, sym, subst, arith, mul-add}
use Rattle.std.specs.Prelude.{slice_range}
use Rattle.std.proofs.Math.Seq.{take-add}
use Rattle.std.proofs.lemmas.Grind.{flat_map-append}
use Rattle.std.proofs.lemmas.List.{append_assoc, length-drop, length-take-le, take-append-drop}
use Rattle.std.proofs.lemmas.List.Folds.{drop_split}
use Rattle.std.proofs.lemmas.List.Sums.{sum_by-append}
use Rattle.cu_pack.specs.Places.{StandsAt}
use Rattle.cu_pack.specs.Spelling.{total}
use Rattle.cu_pack.proofs.Read.Standing.{flat_flat_length, flat_length, stands_first, stands_second}

module _ {X : Type 0} (xs : List X) (a b : ℕ) (order : a ≤ b) where
  -- what is before a stretch and the stretch are what is before its end
  pub take_on : take a xs ++ slice_range xs a b ≡ take b xs
  take_on = let whole : a + (b - a) ≡ b = omega (arith, order) in sym (take-add a (b - a) xs) ∙ ap (λ (n : ℕ). take n xs) whole

  pub list_cut : xs ≡ take a xs ++ (slice_range xs a b ++ drop b xs)
  list_cut = sym (take-append-drop a xs) ∙ ap (λ (ys : List X). take a xs ++ ys) (drop_split xs a b order)

  pub stretch_long : b ≤ length xs → length (slice_range xs a b) ≡ b - a
  stretch_long inside = let left = length-drop a xs in length-take-le (b - a) (drop a xs) (omega (arith, left, inside, order))

  flat_cut : {A : Type 0} (f : X → List A) → flat_map f xs ≡ flat_map f (take a xs) ++ (flat_map f (slice_range xs a b) ++ flat_map f (drop b xs))
  flat_cut {A} f =
      ap (flat_map f) list_cut ∙ flat_map-append f (take a xs) (slice_range xs a b ++ drop b xs)
      ∙ ap (λ (ys : List A). flat_map f (take a xs) ++ ys) (flat_map-append f (slice_range xs a b) (drop b xs))

-- how many there are in the lists of a stretch
pub total_on : {T : Type 0} (lists : List (List T)) (a b : ℕ) → a ≤ b → total (take b lists) ≡ total (take a lists) + total (slice_range lists a b)
total_on {T} lists a b order = ap (λ (ls : List (List T)). total ls) (sym (take_on lists a b order)) ∙ sum_by-append length (take a lists) (slice_range lists a b)

-- what is made of a stretch, put behind what is made of the list before it
pub put_stretch : {X : Type 0} (f : X → List ℕ) (xs : List X) (a b : ℕ) (start before after : List ℕ) → a ≤ b → before ≡ start ++ flat_map f (take a xs)
    → after ≡ before ++ flat_map f (slice_range xs a b)
    → after ≡ start ++ flat_map f (take b xs)
put_stretch {X} f xs a b start before after order put more =
    more ∙ ap (λ (bs : List ℕ). bs ++ flat_map f (slice_range xs a b)) put ∙ append_assoc start (flat_map f (take a xs)) (flat_map f (slice_range xs a b))
    ∙ ap (λ (bs : List ℕ). start ++ bs) (sym (flat_map-append f (take a xs) (slice_range xs a b))) ∙ ap (λ (ys : List X). start ++ flat_map f ys) (take_on xs a b order)

-- what stands from a place to its end
pub stretch_of : (bytes : List ℕ) (at end : ℕ) (part : List ℕ) → StandsAt bytes at part → end ≡ at + length part → slice_range bytes at end ≡ part
stretch_of bytes at end part stands place = let long : end - at ≡ length part = omega (arith, place) in ap (λ (n : ℕ). take n (drop at bytes)) long ∙ stands

module _ {X : Type 0} (f : X → List ℕ) (bytes : List ℕ) (at : ℕ) (xs : List X) (all : StandsAt bytes at (flat_map f xs)) (a b : ℕ) (order : a ≤ b) where
  -- what is made of a stretch stands behind what is made of the list before it
  stretch_stands : (start : ℕ) → start ≡ at + length (flat_map f (take a xs)) → StandsAt bytes start (flat_map f (slice_range xs a b))
  stretch_stands start place =
      let front = flat_map f (take a xs) in
      let part = flat_map f (slice_range xs a b) in
      let rest = flat_map f (drop b xs) in
      let split = subst (StandsAt bytes at) (flat_cut xs a b order f) all in
      stands_first bytes start part rest (stands_second bytes at front (part ++ rest) split start place)

  -- where what is made of each is equally long
  pub stretch_even : (k : ℕ) → ((x : X) → length (f x) ≡ k) → b ≤ length xs → slice_range bytes (at + k * a) (at + k * b) ≡ flat_map f (slice_range xs a b)
  stretch_even k each inside =
      let before = flat_length f k each (take a xs) ∙ ap (λ (n : ℕ). k * n) (length-take-le a xs (omega (arith, order, inside))) in
      let long = flat_length f k each (slice_range xs a b) ∙ ap (λ (n : ℕ). k * n) (stretch_long xs a b order inside) in
      let on : a + (b - a) ≡ b = omega (arith, order) in
      let whole : k * b ≡ k * a + k * (b - a) = ap (λ (n : ℕ). k * n) (sym on) ∙ mul-add k a (b - a) in
      stretch_of bytes (at + k * a) (at + k * b) (flat_map f (slice_range xs a b)) (stretch_stands (at + k * a) (ap (λ (n : ℕ). at + n) (sym before))) (omega (arith, long, whole))

-- where it is made of lists, of twelve bytes for each item
pub stretch_lists : {X : Type 0} (f : X → List ℕ) → ((x : X) → length (f x) ≡ 12) → (bytes : List ℕ) (at : ℕ) (xss : List (List X))
    → StandsAt bytes at (flat_map (flat_map f) xss) → (a b first end : ℕ) → a ≤ b
    → first ≡ total (take a xss) → end ≡ total (take b xss) → slice_range bytes (at + 12 * first) (at + 12 * end) ≡ flat_map (flat_map f) (slice_range xss a b)
stretch_lists f each bytes at xss all a b first end order first_is end_is =
    let before = flat_flat_length f 12 each (take a xss) in
    let long = flat_flat_length f 12 each (slice_range xss a b) in
    let on = total_on xss a b order in
    let stands = stretch_stands (flat_map f) bytes at xss all a b order (at + 12 * first) (omega (arith, before, first_is)) in
    stretch_of bytes (at + 12 * first) (at + 12 * end) (flat_map (flat_map f) (slice_range xss a b)) stands (omega (arith, long, on, first_is, end_is))
