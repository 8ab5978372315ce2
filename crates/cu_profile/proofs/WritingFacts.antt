-- The rows that profiles are written as, one profile after the other.
use Rattle.std.proofs.Common.{◌≡◌, ◌∙◌, ◌+◌, ◌<◌, get_or, take, ℕ, suc, List, [], ◌∷◌, ◌++◌, length, map, sym, ap, arith, append_assoc, length-take}
use Rattle.std.proofs.lemmas.List.{append-nil, map-append, take_more}
use Rattle.cu_model.specs.declared.profiles.Piece.{Piece}
use Rattle.cu_profile.specs.ProfileTexts.{header}
use Rattle.cu_profile.specs.Written.{piece_row, rows_from, table_of}

-- one more profile behind others
pub rows_from-more : (number : ℕ) (profiles : List (List Piece)) (profile : List Piece)
    → rows_from number (profiles ++ (profile ∷ [])) ≡ rows_from number profiles ++ map (piece_row (number + length profiles)) profile
rows_from-more number [] profile =
    let same : number + 0 ≡ number = omega arith in
    rw same (append-nil (map (piece_row number) profile))
rows_from-more number (first ∷ profiles) profile =
    let same : (number + 1) + length profiles ≡ number + suc (length profiles) = omega arith in
    ap (λ (rows : List (List (List ℕ))). map (piece_row number) first ++ rows) (rows_from-more (number + 1) profiles profile)
    ∙ ap (λ (n : ℕ). map (piece_row number) first ++ (rows_from (number + 1) profiles ++ map (piece_row n) profile)) same
    ∙ sym (append_assoc (map (piece_row number) first) (rows_from (number + 1) profiles) (map (piece_row (number + suc (length profiles))) profile))

-- the text of the profiles before one, and of that one
pub table_more : (profiles : List (List Piece)) (profile : List Piece) (n : ℕ) → n ≡ length profiles
    → table_of profiles ++ map (piece_row n) profile ≡ table_of (profiles ++ (profile ∷ []))
table_more profiles profile n e =
    let same : n ≡ 0 + length profiles = omega (arith, e) in
    ap (λ (rows : List (List (List ℕ))). header ∷ rows) (ap (λ (k : ℕ). rows_from 0 profiles ++ map (piece_row k) profile) same ∙ sym (rows_from-more 0 profiles profile))

-- one more image
pub map_more : {A B : Type 0} (f : A → B) (xs : List A) (i : ℕ) (d : A) → i < length xs → map f (take i xs) ++ (f (get_or xs i d) ∷ []) ≡ map f (take (i + 1) xs)
map_more f xs i d h = sym (ap (map f) (take_more xs i d h) ∙ map-append f (take i xs) (get_or xs i d ∷ []))

-- the profiles before one, and that one
pub taken_with : (profiles : List (List Piece)) (profile : List Piece) (i : ℕ) → i < length profiles → profile ≡ get_or profiles i profile → take i profiles ++ (profile ∷ []) ≡ take (i + 1) profiles
taken_with profiles profile i h e =
    ap (λ (p : List Piece). take i profiles ++ (p ∷ [])) e ∙ sym (take_more profiles i profile h)

pub more_written : (profiles : List (List Piece)) (profile : List Piece) (i : ℕ) → i < length profiles → profile ≡ get_or profiles i profile
    → table_of (take i profiles) ++ map (piece_row i) profile ≡ table_of (take (i + 1) profiles)
more_written profiles profile i h e =
    let so_many : i ≡ length (take i profiles) = omega (arith, h, length-take i profiles) in
    table_more (take i profiles) profile i so_many ∙ ap table_of (taken_with profiles profile i h e)
