-- Bytes put one after another into whatever takes them.
use Rattle.std.proofs.Common.{◌≡◌, ◌≤◌, ◌+◌, ℕ, List, [], ◌++◌, Some, ap, flat_map, length, refl, subst, take}
use Rattle.std.specs.Prelude.{slice_get}
use Rattle.std.proofs.lemmas.List.{take_all}
use Rattle.cu_pack.proofs.Spelled.Putting.{put_more}

module _ {S : Type 0} (Grows : S → S → List ℕ → Type 0) where
  -- what was put is this too
  pub grows_same : (a b : S) (xs ys : List ℕ) → xs ≡ ys → Grows a b xs → Grows a b ys
  grows_same a b xs ys same h = subst (λ (bs : List ℕ). Grows a b bs) same h

  -- all pieces of a list
  pub grows_all : {X : Type 0} (f : X → List ℕ) (xs : List X) (i : ℕ) (a b : S) → length xs ≤ i → Grows a b (flat_map f (take i xs)) → Grows a b (flat_map f xs)
  grows_all {X} f xs i a b all h = grows_same a b (flat_map f (take i xs)) (flat_map f xs) (ap (λ (ys : List X). flat_map f ys) (take_all i xs all)) h

  module _ (more : (a b c : S) (xs ys : List ℕ) → Grows a b xs → Grows b c ys → Grows a c (xs ++ ys)) where
    -- one piece more of a list's
    pub grows_more : {X : Type 0} (f : X → List ℕ) (xs : List X) (i : ℕ) (x : X) (a b c : S) → slice_get xs i ≡ Some x → Grows a b (flat_map f (take i xs)) → Grows b c (f x)
        → Grows a c (flat_map f (take (i + 1) xs))
    grows_more f xs i x a b c there put one =
        let front = flat_map f (take i xs) in
        let same = put_more f xs i x [] front (front ++ f x) there refl refl in
        grows_same a c (front ++ f x) (flat_map f (take (i + 1) xs)) same (more a b c front (f x) put one)
