-- Functions in places, as one is put in.
use Rattle.std.proofs.Common.{◌≡◌, ◌≢◌, ◌<◌, ◌∷◌, ◌++◌, ◌∙◌, ℕ, zero, suc, List, [], Option, Some, None, refl, sym, ap, subst, arith, inl, inr, length, get_or, replicate}
use Rattle.std.specs.Option.{option_map}
use Rattle.std.specs.Prelude.{All, slice_get, slice_set}
use Rattle.std.proofs.lemmas.Bool.{cases_eq}
use Rattle.std.proofs.lemmas.List.{length-set}
use Rattle.std.proofs.lemmas.List.Elements.{All-replicate, All-set}
use Rattle.std.proofs.lemmas.Option.{slice_get-map, slice_get_cases}
use Rattle.cu_model.proofs.ListLaws.{get_here, get_other, same_items}
use Rattle.cu_model.proofs.RoadLaws.{all_at}
use Rattle.cu_arrival.specs.declared.runs.Run.{Run}
use Rattle.cu_runs.specs.Layers.{placed}
use Rattle.cu_runs.proofs.Layers.{placed_long, placed_there}
use Rattle.cu_unpack.specs.Steps.PackedRebuilding.{HavePlaces}

abbrev Kept : Type 0
Kept = List (Option (List Run))

-- what is read behind others, and before
read_last : (kept : Kept) (function : Option (List Run)) → get_or (kept ++ function ∷ []) (length kept) None ≡ function
read_last [] function = refl
read_last (k ∷ kept) function = read_last kept function

read_first : (kept : Kept) (function : Option (List Run)) (place : ℕ) → place < length kept → get_or (kept ++ function ∷ []) place None ≡ get_or kept place None
read_first [] function place lt = absurd (omega (arith, lt))
read_first (k ∷ kept) function zero lt = refl
read_first (k ∷ kept) function (suc place) lt = read_first kept function place (omega (arith, lt))

longer : (kept : Kept) (function : Option (List Run)) → length (kept ++ function ∷ []) ≡ suc (length kept)
longer [] function = refl
longer (k ∷ kept) function = ap suc (longer kept function)

read_there : (kept : Kept) (place other : ℕ) (function : Option (List Run)) → place ≢ other → get_or (slice_set kept place function) other None ≡ get_or kept other None
read_there [] place other function apart = refl
read_there (k ∷ kept) zero zero function apart = absurd (apart refl)
read_there (k ∷ kept) zero (suc other) function apart = refl
read_there (k ∷ kept) (suc place) zero function apart = refl
read_there (k ∷ kept) (suc place) (suc other) function apart = read_there kept place other function (λ same. apart (ap suc same))

read_here : (kept : Kept) (place : ℕ) (function : Option (List Run)) → place < length kept → get_or (slice_set kept place function) place None ≡ function
read_here [] place function lt = absurd (omega (arith, lt))
read_here (k ∷ kept) zero function lt = refl
read_here (k ∷ kept) (suc place) function lt = read_here kept place function (omega (arith, lt))

-- none of the lists has a place of its own
pub no_places : (count : ℕ) (kept : Kept) → 0 < length kept → HavePlaces (replicate count 0) kept
no_places count kept some = record {
  inside = All-replicate (λ place. place < length kept) count 0 some;
  own = λ i j place at other. absurd (cc (all_at (λ place. place ≡ 0) (replicate count 0) i (suc place) (All-replicate (λ place. place ≡ 0) count 0 refl) at));
}

none_read : (count i : ℕ) (d : Option (List Run)) → i < length (placed (replicate count 0) (None ∷ [])) → get_or (placed (replicate count 0) (None ∷ [])) i d ≡ None
none_read zero i d lt = absurd (omega (arith, lt))
none_read (suc count) zero d lt = refl
none_read (suc count) (suc i) d lt = none_read count i d (omega (arith, lt))

pub none_placed : (count : ℕ) → All (λ function. function ≡ None) (placed (replicate count 0) (None ∷ []))
none_placed count = λ i d lt. none_read count i d lt

module _ (places : List ℕ) (kept : Kept) (have : HavePlaces places kept) (number : ℕ) (function : Option (List Run)) (within : number < length places) where
  within_placed : number < length (placed places kept)
  within_placed = let long = placed_long places kept in omega (arith, long, within)

  inside_at : (i place : ℕ) → slice_get places i ≡ Some place → place < length kept
  inside_at i place at = all_at (λ place. place < length kept) places i place have.inside at

  missing_at : (others : List ℕ) (all : Kept) (i : ℕ) → slice_get others i ≡ None → slice_get (placed others all) i ≡ None
  missing_at others all i at = slice_get-map (λ place. get_or all place None) others i ∙ ap (option_map (λ (place : ℕ). get_or all place None)) at

  -- another function at its place
  pub over_have : (place : ℕ) → HavePlaces places (slice_set kept place function)
  over_have place = record {
    inside = λ i d lt. let few = length-set kept place function in let before = have.inside i d lt in omega (arith, few, before);
    own = have.own;
  }

  pub over_placed : (place : ℕ) → slice_get places number ≡ Some (suc place) → placed places (slice_set kept (suc place) function) ≡ slice_set (placed places kept) number function
  over_placed place at = same_items (placed places (slice_set kept (suc place) function)) (slice_set (placed places kept) number function) each
    where
      changed : Kept
      changed = slice_set kept (suc place) function

      here : slice_get (placed places changed) number ≡ slice_get (slice_set (placed places kept) number function) number
      here = placed_there places changed number (suc place) at ∙ ap Some (read_here kept (suc place) function (inside_at number (suc place) at))
          ∙ sym (get_here (placed places kept) number function within_placed)

      apart_at : (i other : ℕ) → i ≢ number → slice_get places i ≡ Some other → suc place ≢ other
      apart_at i other apart there same = apart (have.own i number place (there ∙ ap Some (sym same)) at)

      elsewhere : (i : ℕ) → i ≢ number → slice_get (placed places changed) i ≡ slice_get (placed places kept) i
      elsewhere i apart = elim (slice_get_cases places i).1 [
        | inl (other, _, there, _) ↦ placed_there places changed i other there ∙ ap Some (read_there kept (suc place) other function (apart_at i other apart there))
            ∙ sym (placed_there places kept i other there)
        | inr (_, past) ↦ missing_at places changed i past ∙ sym (missing_at places kept i past)
      ]

      each : (i : ℕ) → slice_get (placed places changed) i ≡ slice_get (slice_set (placed places kept) number function) i
      each i = elim (cases_eq i number) [
        | inl same ↦ subst (λ (k : ℕ). slice_get (placed places changed) k ≡ slice_get (slice_set (placed places kept) number function) k) (sym same) here
        | inr apart ↦ elsewhere i apart ∙ sym (get_other (placed places kept) number i function (λ same. apart (sym same)))
      ]

  pub over_placed_at : (place : ℕ) → 0 < place → slice_get places number ≡ Some place → placed places (slice_set kept place function) ≡ slice_set (placed places kept) number function
  over_placed_at zero some at = absurd (omega (arith, some))
  over_placed_at (suc place) some at = over_placed place at

  -- one behind the others
  abbrev after : List ℕ
  after = slice_set places number (length kept)

  abbrev more : Kept
  more = kept ++ function ∷ []

  after_here : slice_get after number ≡ Some (length kept)
  after_here = get_here places number (length kept) within

  after_other : (i : ℕ) → i ≢ number → slice_get after i ≡ slice_get places i
  after_other i apart = get_other places number i (length kept) (λ same. apart (sym same))

  pub more_have : HavePlaces after more
  more_have = record { inside = inside; own = own }
    where
      inside : All (λ place. place < length more) after
      inside = let long = longer kept function in All-set (λ place. place < length more) places number (length kept) (omega (arith, long))
          (λ i d lt. let before = have.inside i d lt in omega (arith, long, before))

      -- a list with the last place is this one
      last : (i place : ℕ) → slice_get after i ≡ Some place → place ≡ length kept → i ≡ number
      last i place at same = elim (cases_eq i number) [
        | inl here ↦ here
        | inr apart ↦ let few = inside_at i place (sym (after_other i apart) ∙ at) in absurd (omega (arith, few, same))
      ]

      own : (i j place : ℕ) → slice_get after i ≡ Some (suc place) → slice_get after j ≡ Some (suc place) → i ≡ j
      own i j place at other = elim (cases_eq (suc place) (length kept)) [
        | inl same ↦ last i (suc place) at same ∙ sym (last j (suc place) other same)
        | inr apart ↦ have.own i j place (before i at apart) (before j other apart)
      ]
        where
          before : (k : ℕ) → slice_get after k ≡ Some (suc place) → suc place ≢ length kept → slice_get places k ≡ Some (suc place)
          before k there apart = elim (cases_eq k number) [
            | inl same ↦ absurd (apart (cc (sym there ∙ ap (λ (n : ℕ). slice_get after n) same ∙ after_here)))
            | inr other ↦ sym (after_other k other) ∙ there
          ]

  pub more_placed : placed after more ≡ slice_set (placed places kept) number function
  more_placed = same_items (placed after more) (slice_set (placed places kept) number function) each
    where
      here : slice_get (placed after more) number ≡ slice_get (slice_set (placed places kept) number function) number
      here = placed_there after more number (length kept) after_here ∙ ap Some (read_last kept function) ∙ sym (get_here (placed places kept) number function within_placed)

      elsewhere : (i : ℕ) → i ≢ number → slice_get (placed after more) i ≡ slice_get (placed places kept) i
      elsewhere i apart = elim (slice_get_cases places i).1 [
        | inl (other, _, there, _) ↦ placed_there after more i other (after_other i apart ∙ there) ∙ ap Some (read_first kept function other (inside_at i other there))
            ∙ sym (placed_there places kept i other there)
        | inr (_, past) ↦ missing_at after more i (after_other i apart ∙ past) ∙ sym (missing_at places kept i past)
      ]

      each : (i : ℕ) → slice_get (placed after more) i ≡ slice_get (slice_set (placed places kept) number function) i
      each i = elim (cases_eq i number) [
        | inl same ↦ subst (λ (k : ℕ). slice_get (placed after more) k ≡ slice_get (slice_set (placed places kept) number function) k) (sym same) here
        | inr apart ↦ elsewhere i apart ∙ sym (get_other (placed places kept) number i function (λ same. apart (sym same)))
      ]
