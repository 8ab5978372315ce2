-- Items made one by one from others: which has begun last, and that they begin at later and later seconds.
use Rattle.std.proofs.Common.{◌≡◌, ◌<◌, ◌+◌, ◌∙◌, ℕ, List, [], ◌∷◌, Bool, true, false, Option, Some, None, refl, sym, ap, arith, map, length}
use Rattle.std.specs.Prelude.{nat_le, slice_get, if◌then◌else◌}
use Rattle.std.specs.Option.{option_map}
use Rattle.std.proofs.lemmas.List.{length-map, get_or-map}
use Rattle.std.proofs.lemmas.Option.{slice_get-map}
use Rattle.cu_model.specs.Begun.{later_of, last_begun, Rises}
use Rattle.cu_model.proofs.Begun.{IsLastBegun}

pub later_map : {A B : Type 0} (f : A → B) (a b : Option A) → later_of (option_map f a) (option_map f b) ≡ option_map f (later_of a b)
later_map f a None = refl
later_map f a (Some b) = refl

pub if_map : {A B : Type 0} (f : A → B) (b : Bool) (a : A) → (if b then Some (f a) else None) ≡ option_map f (if b then Some a else None)
if_map f true a = refl
if_map f false a = refl

pub last_begun-map : {A B : Type 0} (f : A → B) (from : B → ℕ) (xs : List A) (s : ℕ)
    → last_begun from (map f xs) s ≡ option_map f (last_begun (λ (x : A). from (f x)) xs s)
last_begun-map f from [] s = refl
last_begun-map {A} f from (x ∷ xs) s =
    rw (last_begun-map f from xs s, if_map f (nat_le (from (f x)) s) x)
    (later_map f (if nat_le (from (f x)) s then Some x else None) (last_begun (λ (y : A). from (f y)) xs s))

from_map : {A B : Type 0} (f : A → B) (from : B → ℕ) (o : Option A) → option_map from (option_map f o) ≡ option_map (λ (x : A). from (f x)) o
from_map f from None = refl
from_map f from (Some x) = refl

pub starts-map : {A B : Type 0} (f : A → B) (from : B → ℕ) (xs : List A)
    → option_map from (slice_get (map f xs) 0) ≡ option_map (λ (x : A). from (f x)) (slice_get xs 0)
starts-map f from xs = ap (option_map from) (slice_get-map f xs 0) ∙ from_map f from (slice_get xs 0)

pub Rises-map : {A B : Type 0} (f : A → B) (from : B → ℕ) (xs : List A) → Rises (λ (x : A). from (f x)) xs → Rises from (map f xs)
Rises-map f from [] rises k d h = absurd (omega (arith, h))
Rises-map f from (x ∷ xs) rises k d h =
    let size = length-map (x ∷ xs) f in
    let inside : k + 1 < length (x ∷ xs) = omega (arith, size, h) in
    let step = rises k x inside in
    let here = ap from (get_or-map f (x ∷ xs) k x d (omega (arith, inside))) in
    let next = ap from (get_or-map f (x ∷ xs) (k + 1) x d inside) in
    omega (arith, here, next, step)

pub Rises-unmap : {A B : Type 0} (f : A → B) (from : B → ℕ) (xs : List A) → Rises from (map f xs) → Rises (λ (x : A). from (f x)) xs
Rises-unmap f from xs rises k d h =
    let size = length-map xs f in
    let step = rises k (f d) (omega (arith, size, h)) in
    let here = ap from (get_or-map f xs k d (f d) (omega (arith, h))) in
    let next = ap from (get_or-map f xs (k + 1) d (f d) h) in
    omega (arith, here, next, step)

-- the index of the last one that has begun is that of the one it was made from
pub last_index-map : {A B : Type 0} (f : A → B) (from : B → ℕ) (xs : List A) (s i : ℕ) → IsLastBegun (λ (x : A). from (f x)) xs s i
    → IsLastBegun from (map f xs) s i
last_index-map f from xs s i last =
    let (x, there, begun) = last.begun in
    let size = length-map xs f in
    record {
      within = let inside = last.within in omega (arith, size, inside);
      last = last_begun-map f from xs s ∙ ap (option_map f) last.last ∙ sym (slice_get-map f xs i);
      begun = (f x, slice_get-map f xs i ∙ ap (option_map f) there, begun);
    }
