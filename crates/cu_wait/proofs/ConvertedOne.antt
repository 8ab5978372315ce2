-- There is one network in pieces that stand for measured profiles.
use Rattle.std.proofs.Common.{◌≡◌, ◌∙◌, ℕ, zero, suc, List, [], ◌∷◌, Option, Some, None, sym, ap, refl, arith}
use Rattle.std.specs.Prelude.{slice_get}
use Rattle.cu_model.specs.declared.profiles.Piece.{Piece}
use Rattle.cu_model.specs.declared.roads.RoadArc.{RoadArc}
use Rattle.cu_model.specs.Networks.{NetworkValue}
use Rattle.cu_model.specs.Profiles.{profile_value}
use Rattle.cu_model.proofs.FormLaws.{same_form}
use Rattle.cu_wait.specs.Converted.{IsConverted, StandFor, StandForSome}
use Rattle.cu_wait.specs.Networks.{InPieces, Measured, RawNetwork, RawProfile}
use Rattle.cu_wait.specs.Waits.{IsLeastFrom}

least_one : (f : ℕ → ℕ) (t value other : ℕ) → IsLeastFrom f t value → IsLeastFrom f t other → value ≡ other
least_one f t value other a b =
    let (s, le, is) = a.reached in
    let (r, from, at) = b.reached in
    let low = b.least s le in
    let high = a.least r from in
    omega (arith, is, at, low, high)

pieces_one : (profile : RawProfile) (pieces other : List Piece) → StandFor profile pieces → StandFor profile other → other ≡ pieces
pieces_one (Measured points) pieces other a b =
    same_form (profile_value other) (profile_value pieces) other pieces (λ t lt. least_one _ t (profile_value other t) (profile_value pieces t) (b.0 t) (a.0 t)) b.2 a.2
pieces_one (InPieces own) pieces other a b = b ∙ sym a

some_one : (profile : Option RawProfile) (pieces other : Option (List Piece)) → StandForSome profile pieces → StandForSome profile other → other ≡ pieces
some_one None None None a b = refl
some_one None None (Some other) a b = absurd b
some_one None (Some pieces) other a b = absurd a
some_one (Some profile) None other a b = absurd a
some_one (Some profile) (Some pieces) None a b = absurd b
some_one (Some profile) (Some pieces) (Some other) a b = ap (λ (x : List Piece). Some x) (pieces_one profile pieces other a b)

-- lists with the same at each place are the same
same_items : (xs ys : List (List Piece)) → ((number : ℕ) → slice_get xs number ≡ slice_get ys number) → xs ≡ ys
same_items [] [] same = refl
same_items [] (y ∷ ys) same = absurd (cc (same 0))
same_items (x ∷ xs) [] same = absurd (cc (same 0))
same_items (x ∷ xs) (y ∷ ys) same =
    let first : x ≡ y = cc (same 0) in
    let rest = same_items xs ys (λ number. same (suc number)) in
    ap (λ (z : List Piece). z ∷ xs) first ∙ ap (λ (zs : List (List Piece)). y ∷ zs) rest

pub converted_one : (raw : RawNetwork) (g other : NetworkValue) → IsConverted raw g → IsConverted raw other → other ≡ g
converted_one raw g other a b =
    let make : ℕ → List RoadArc → List (List Piece) → NetworkValue = λ nodes arcs profiles. record { nodes = nodes; arcs = arcs; profiles = profiles } in
    let profiles = same_items other.profiles g.profiles (λ number. some_one (slice_get raw.profiles number) _ _ (a.profiles number) (b.profiles number)) in
    ap (λ (nodes : ℕ). make nodes other.arcs other.profiles) (b.nodes ∙ sym a.nodes) ∙ ap (λ (arcs : List RoadArc). make g.nodes arcs other.profiles) (b.arcs ∙ sym a.arcs)
    ∙ ap (make g.nodes g.arcs) profiles
