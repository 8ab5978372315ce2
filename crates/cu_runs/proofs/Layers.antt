-- Functions in two layers, list by list.
use Rattle.std.proofs.Common.{◌≡◌, ◌≤◌, ◌<◌, ◌∷◌, ◌∙◌, ℕ, zero, suc, List, [], Option, Some, None, ap, refl, sym, arith, get_or, length}
use Rattle.std.specs.Option.{option_map}
use Rattle.std.specs.Prelude.{All, slice_get}
use Rattle.std.proofs.lemmas.List.{get_or_default, length-map}
use Rattle.std.proofs.lemmas.Option.{slice_get-get_or, slice_get-map}
use Rattle.cu_arrival.specs.declared.runs.Run.{Run}
use Rattle.cu_runs.specs.Layers.{layered, placed}

-- they are of as many lists as the older ones
pub layered_long : (functions : List (Option (List Run))) (places : List ℕ) (newer : List (Option (List Run))) → length (layered functions places newer) ≡ length functions
layered_long [] places newer = refl
layered_long (f ∷ fs) [] newer = refl
layered_long (f ∷ fs) (zero ∷ ps) newer = ap suc (layered_long fs ps newer)
layered_long (f ∷ fs) (suc p ∷ ps) newer = ap suc (layered_long fs ps newer)

-- with no place at all they are the older ones
pub layered_same : (functions newer : List (Option (List Run))) → layered functions [] newer ≡ functions
layered_same [] newer = refl
layered_same (f ∷ fs) newer = refl

-- a list behind those places has its older function
pub layered_behind : (functions : List (Option (List Run))) (places : List ℕ) (newer : List (Option (List Run))) (number : ℕ) → length places ≤ number
    → slice_get (layered functions places newer) number ≡ slice_get functions number
layered_behind [] places newer number behind = refl
layered_behind (f ∷ fs) [] newer number behind = refl
layered_behind (f ∷ fs) (zero ∷ ps) newer zero behind = absurd (omega (arith, behind))
layered_behind (f ∷ fs) (suc p ∷ ps) newer zero behind = absurd (omega (arith, behind))
layered_behind (f ∷ fs) (zero ∷ ps) newer (suc n) behind = layered_behind fs ps newer n (omega (arith, behind))
layered_behind (f ∷ fs) (suc p ∷ ps) newer (suc n) behind = layered_behind fs ps newer n (omega (arith, behind))

-- and so has one that has none
pub layered_older : (functions : List (Option (List Run))) (places : List ℕ) (newer : List (Option (List Run))) (number : ℕ) → slice_get places number ≡ Some 0
    → slice_get (layered functions places newer) number ≡ slice_get functions number
layered_older [] places newer number none = refl
layered_older (f ∷ fs) [] newer number none = refl
layered_older (f ∷ fs) (zero ∷ ps) newer zero none = refl
layered_older (f ∷ fs) (suc p ∷ ps) newer zero none = absurd (cc none)
layered_older (f ∷ fs) (zero ∷ ps) newer (suc n) none = layered_older fs ps newer n none
layered_older (f ∷ fs) (suc p ∷ ps) newer (suc n) none = layered_older fs ps newer n none

-- one that has a place has its newer function
pub layered_newer : (functions : List (Option (List Run))) (places : List ℕ) (newer : List (Option (List Run))) (number place : ℕ) → number < length functions
    → slice_get places number ≡ Some (suc place) → place < length newer → slice_get (layered functions places newer) number ≡ slice_get newer place
layered_newer [] places newer number place within there inside = absurd (omega (arith, within))
layered_newer (f ∷ fs) [] newer number place within there inside = absurd (cc there)
layered_newer (f ∷ fs) (zero ∷ ps) newer zero place within there inside = absurd (cc there)
layered_newer (f ∷ fs) (suc p ∷ ps) newer zero place within there inside =
    let same : p ≡ place = cc there in
    rw same (sym (slice_get-get_or newer place f inside))
layered_newer (f ∷ fs) (zero ∷ ps) newer (suc n) place within there inside = layered_newer fs ps newer n place (omega (arith, within)) there inside
layered_newer (f ∷ fs) (suc p ∷ ps) newer (suc n) place within there inside = layered_newer fs ps newer n place (omega (arith, within)) there inside

-- functions with places are as many as the places
pub placed_long : (places : List ℕ) (kept : List (Option (List Run))) → length (placed places kept) ≡ length places
placed_long places kept = length-map places (λ place. get_or kept place None)

-- a list has the function at its place
pub placed_there : (places : List ℕ) (kept : List (Option (List Run))) (number place : ℕ) → slice_get places number ≡ Some place
    → slice_get (placed places kept) number ≡ Some (get_or kept place None)
placed_there places kept number place there =
    slice_get-map (λ place. get_or kept place None) places number ∙ ap (option_map (λ place. get_or kept place None)) there

-- and that is one of those that are kept
pub placed_at : (places : List ℕ) (kept : List (Option (List Run))) (number : ℕ) (other : Option (List Run)) → All (λ place. place < length kept) places
    → number < length (placed places kept) → slice_get (placed places kept) number ≡ Some (get_or kept (get_or places number 0) other)
placed_at places kept number other inside within =
    let long = placed_long places kept in
    let few : number < length places = omega (arith, long, within) in
    placed_there places kept number (get_or places number 0) (slice_get-get_or places number 0 few)
    ∙ ap Some (get_or_default kept (get_or places number 0) None other (inside number 0 few))
