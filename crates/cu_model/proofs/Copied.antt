-- Lists that are copied element by element.
use Rattle.std.proofs.Common.{◌≡◌, ◌<◌, ◌+◌, ◌∙◌, ℕ, suc, List, [], ◌∷◌, ◌++◌, Some, length, take, get_or, sym, ap, subst, arith}
use Rattle.std.specs.Prelude.{slice_get}
use Rattle.std.proofs.Math.Seq.{take-suc}
use Rattle.std.proofs.lemmas.Option.{get_or_from_slice_get, slice_get-get_or, slice_get_within}
use Rattle.cu_model.specs.declared.profiles.Piece.{Piece}
use Rattle.cu_model.specs.Networks.{NetworkValue, IsNetwork}
use Rattle.cu_model.specs.Profiles.{IsProfile}
use Rattle.cu_model.specs.Roads.{pieces_of, pieces_or_none}

-- one more element
pub take_next : {A : Type 0} (xs old new : List A) (k : ℕ) (x : A) → slice_get xs k ≡ Some x → old ≡ take k xs → new ≡ old ++ (x ∷ []) → new ≡ take (k + 1) xs
take_next {A} xs old new k x there before more =
    let next : take (suc k) xs ≡ take k xs ++ (get_or xs k x ∷ []) = take-suc xs k x (slice_get_within xs k x there) in
    let last : get_or xs k x ≡ x = get_or_from_slice_get xs k x x there in
    let count : suc k ≡ k + 1 = omega arith in
    subst (λ (n : ℕ). new ≡ take n xs) count
    (more ∙ ap (λ (ys : List A). ys ++ (x ∷ [])) before ∙ ap (λ (y : A). take k xs ++ (y ∷ [])) (sym last) ∙ sym next)

-- the pieces of a profile that is there
pub pieces_there : (g : NetworkValue) → IsNetwork g → (profile : ℕ) → profile < length g.profiles → (pieces : List Piece) → pieces ≡ pieces_of g profile
    → (slice_get g.profiles profile ≡ Some pieces) × IsProfile pieces
pieces_there g sound profile lt pieces same =
    let there : slice_get g.profiles profile ≡ Some (get_or g.profiles profile []) = slice_get-get_or g.profiles profile [] lt in
    let is : pieces ≡ get_or g.profiles profile [] = same ∙ ap pieces_or_none there in
    (there ∙ ap Some (sym is), subst IsProfile (sym is) (sound.valid profile [] lt))
