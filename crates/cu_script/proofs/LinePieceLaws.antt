-- The pieces of the fields of a line, and those of them that are named.
use Rattle.std.proofs.Common.{◌≡◌, ◌<◌, ◌≤◌, ◌++◌, ◌∙◌, cond, ℕ, List, [], ◌∷◌, true, false, Option, Some, None, length, refl, ap, sym, subst, append_assoc, arith, inl, inr}
use Rattle.std.specs.Option.{option_map}
use Rattle.std.specs.Prelude.{◌&&◌, Ok, Err}
use Rattle.std.proofs.lemmas.Grind.{common_steps}
use Rattle.std.proofs.lemmas.Bool.{and_parts, and_cases}
use Rattle.std.proofs.lemmas.List.Elements.{filter_map-append}
use Rattle.cu_model.specs.declared.profiles.Piece.{Piece}
use Rattle.cu_model.specs.declared.profiles.PieceRefusal.{PieceRefusal}
use Rattle.cu_model.specs.declared.profiles.PieceRefusal.TheVariants.{Kind, Fault}
use Rattle.cu_model.specs.declared.roads.Edit.TheVariants.{Set}
use Rattle.cu_model.specs.Faults.{piece_fault}
use Rattle.cu_model.specs.Numbers.{is_number_word}
use Rattle.cu_model.proofs.OptionLaws.{map-none}
use Rattle.cu_tables.specs.Tables.{kept_number}
use Rattle.cu_profile.specs.ProfileTexts.{piece_of_fields}
use Rattle.cu_script.specs.declared.lines.EditRefusal.TheVariants.{Piece as BadPiece}
use Rattle.cu_script.specs.EditLines.{PieceWords, pieces_named, set_faulted, set_named, words_of_pieces}
use Rattle.cu_script.specs.Steps.LinePieces.{all_named, pieces_begun, pieces_refusal, stand_by_threes, those_named}

-- a piece takes three fields
pub few_begun : (fields : List (List ℕ)) → length (pieces_begun fields) ≤ length fields
few_begun [] = omega arith
few_begun (from ∷ []) = omega arith
few_begun (from ∷ kind ∷ []) = omega arith
few_begun (from ∷ kind ∷ value ∷ fields) = elim (is_number_word from && is_number_word value)
    as (λ b. length (cond b (piece_of_fields kind (kept_number from) (kept_number value) ∷ pieces_begun fields) [])
    ≤ length (from ∷ kind ∷ value ∷ fields)) [
      | true ↦ omega (arith, few_begun fields)
      | false ↦ omega arith
    ]

-- there is room for one more piece
pub room : (fields : List (List ℕ)) (before behind : List (Option Piece)) (piece : Option Piece) (limit : ℕ) → length fields < limit
    → pieces_begun fields ≡ before ++ piece ∷ behind → length before < limit
room fields before behind piece limit few whole =
    let le : length (before ++ piece ∷ behind) ≤ length fields = subst (λ (ps : List (Option Piece)). length ps ≤ length fields) whole (few_begun fields) in
    grind (arith, common_steps, le, few)

-- one more named piece
pub named_push : (before : List (Option Piece)) (pieces : List Piece) (piece : Piece) → all_named before ≡ Some pieces
    → all_named (before ++ Some piece ∷ []) ≡ Some (pieces ++ piece ∷ [])
named_push [] pieces piece e = let none : [] ≡ pieces = cc e in rw (← none) refl
named_push (None ∷ before) pieces piece e = absurd (cc e)
named_push (Some first ∷ before) pieces piece e =
    elim (all_named before) as (λ o. all_named before ≡ o → option_map (λ more. first ∷ more) o ≡ Some pieces
    → option_map (λ more. first ∷ more) (all_named (before ++ Some piece ∷ [])) ≡ Some (pieces ++ piece ∷ [])) [
      | None ↦ λ _ none. absurd (cc none)
      | Some more ↦ λ same all. let these : first ∷ more ≡ pieces = cc all in rw (named_push before more piece same, ← these) refl
    ] refl e

-- a piece that is missing
pub named_stop : (before behind : List (Option Piece)) → all_named (before ++ None ∷ behind) ≡ None
named_stop [] behind = refl
named_stop (None ∷ before) behind = refl
named_stop (Some piece ∷ before) behind = rw (named_stop before behind) refl

pub those_push : (before : List (Option Piece)) (piece : Piece) → those_named (before ++ Some piece ∷ []) ≡ those_named before ++ piece ∷ []
those_push before piece = filter_map-append (λ p. p) before (Some piece ∷ [])

-- the first of those behind goes to those before
pub onward : {X : Type 0} (whole before behind rest : List X) (x : X) → whole ≡ before ++ behind → behind ≡ x ∷ rest
    → whole ≡ (before ++ x ∷ []) ++ rest
onward whole before behind rest x same first = same ∙ ap (λ xs. before ++ xs) first ∙ sym (append_assoc before (x ∷ []) rest)

pub named_those : (named : List (Option Piece)) (pieces : List Piece) → all_named named ≡ Some pieces → those_named named ≡ pieces
named_those [] pieces e = cc e
named_those (None ∷ named) pieces e = absurd (cc e)
named_those (Some piece ∷ named) pieces e =
    elim (all_named named) as (λ o. all_named named ≡ o → option_map (λ more. piece ∷ more) o ≡ Some pieces → piece ∷ those_named named ≡ pieces) [
      | None ↦ λ _ none. absurd (cc none)
      | Some more ↦ λ same all. ap (λ ps. piece ∷ ps) (named_those named more same) ∙ cc all
    ] refl e

pub few_named : (named : List (Option Piece)) → length (those_named named) ≤ length named
few_named [] = omega arith
few_named (None ∷ named) = omega (arith, few_named named)
few_named (Some piece ∷ named) = omega (arith, few_named named)

-- pieces without a refusal are all named, and have no fault
pub sound_named : (named : List (Option Piece)) → pieces_refusal (all_named named) ≡ None
    → (all_named named ≡ Some (those_named named)) × (piece_fault (those_named named) ≡ None)
sound_named named e = elim (all_named named) as (λ o. all_named named ≡ o → pieces_refusal o ≡ None
    → (all_named named ≡ Some (those_named named)) × (piece_fault (those_named named) ≡ None)) [
      | None ↦ λ _ refused. absurd (cc refused)
      | Some pieces ↦ λ same sound. subst (λ ps. (all_named named ≡ Some ps) × (piece_fault ps ≡ None)) (sym (named_those named pieces same))
          (same, map-none Fault (piece_fault pieces) sound)
    ] refl e

three_more : (from kind value : List ℕ) (fields : List (List ℕ)) (words : List PieceWords) → (is_number_word from && is_number_word value) ≡ true
    → words_of_pieces fields ≡ Some words → pieces_named words ≡ all_named (pieces_begun fields)
    → (words_of_pieces (from ∷ kind ∷ value ∷ fields) ≡ Some (record { from = from; kind = kind; value = value } ∷ words))
    × (pieces_named (record { from = from; kind = kind; value = value } ∷ words) ≡ all_named (pieces_begun (from ∷ kind ∷ value ∷ fields)))
three_more from kind value fields words both read named = (rw (both, read) refl, rw (both, named) refl)

-- the words of pieces that stand by threes
pub threes_named : (fields : List (List ℕ)) → stand_by_threes fields ≡ true
    → (words : List PieceWords) × (words_of_pieces fields ≡ Some words) × (pieces_named words ≡ all_named (pieces_begun fields))
threes_named [] e = ([], refl, refl)
threes_named (from ∷ []) e = absurd (cc e)
threes_named (from ∷ kind ∷ []) e = absurd (cc e)
threes_named (from ∷ kind ∷ value ∷ fields) e =
    let (both, threes) = and_parts (is_number_word from && is_number_word value) (stand_by_threes fields) e in
    let (words, read, named) = threes_named fields threes in
    let (all_read, all_named) = three_more from kind value fields words both read named in
    (record { from = from; kind = kind; value = value } ∷ words, all_read, all_named)

pub others_refused : (fields : List (List ℕ)) → stand_by_threes fields ≡ false → words_of_pieces fields ≡ None
others_refused [] e = absurd (cc e)
others_refused (from ∷ []) e = refl
others_refused (from ∷ kind ∷ []) e = refl
others_refused (from ∷ kind ∷ value ∷ fields) e = elim (and_cases (is_number_word from && is_number_word value) (stand_by_threes fields) e) [
  | inl either ↦ rw either refl
  | inr others ↦ elim (is_number_word from && is_number_word value)
      as (λ b. cond b (option_map (λ words. record { from = from; kind = kind; value = value } ∷ words) (words_of_pieces fields)) None ≡ None) [
        | true ↦ rw (others_refused fields others) refl
        | false ↦ refl
      ]
]

-- a profile's pieces in the place of their words, as far as they are named
pub set_sound : (profile : ℕ) (named : List (Option Piece)) → pieces_refusal (all_named named) ≡ None
    → set_named profile (all_named named) ≡ Ok (Set profile (those_named named))
set_sound profile named sound = let (all, unfaulted) = sound_named named sound in rw (all, unfaulted) refl

pub set_faulty : (profile : ℕ) (pieces : Option (List Piece)) (refusal : PieceRefusal) → pieces_refusal pieces ≡ Some refusal
    → set_named profile pieces ≡ Err (BadPiece refusal)
set_faulty profile None refusal e = let same : Kind ≡ refusal = cc e in rw (← same) refl
set_faulty profile (Some pieces) refusal e =
    elim (piece_fault pieces) as (λ o. option_map Fault o ≡ Some refusal → set_faulted profile pieces o ≡ Err (BadPiece refusal)) [
      | None ↦ λ none. absurd (cc none)
      | Some fault ↦ λ some. let same : Fault fault ≡ refusal = cc some in rw (← same) refl
    ] e
