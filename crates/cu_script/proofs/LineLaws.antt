-- What the fields of an edit line stand for.
use Rattle.std.proofs.Common.{◌≡◌, ◌<◌, ◌≤◌, ◌+◌, ◌^◌, ◌∙◌, ◌==◌, cond, ℕ, Bool, List, [], ◌∷◌, true, false, Option, Some, None, length, refl, sym, subst, arith, inl, inr, nat_lt}
use Rattle.std.specs.Prelude.{Result, Err, min}
use Rattle.std.proofs.lemmas.Bool.{cases_lt, lt-ltb, le-ltb}
use Rattle.std.proofs.lemmas.List.Sums.{count_by-le-length}
use Rattle.std.proofs.lemmas.List.Splits.{length-slice_split}
use Rattle.cu_model.specs.Numbers.{is_number_word, number_value}
use Rattle.cu_model.specs.Queries.{fields_of_line}
use Rattle.cu_tables.specs.Tables.{kept_number}
use Rattle.cu_script.specs.declared.lines.EditRefusal.TheVariants.{Line, Profile, Piece as BadPiece}
use Rattle.cu_script.specs.declared.lines.EditRefusal.{EditRefusal}
use Rattle.cu_script.specs.declared.lines.Change.{Change}
use Rattle.cu_model.specs.declared.roads.Edit.{Edit}
use Rattle.cu_model.specs.declared.profiles.PieceRefusal.{PieceRefusal}
use Rattle.cu_script.specs.EditLines.{assign_of_fields, pieces_named, set_checked, set_named, set_of_fields, words_of_pieces}
use Rattle.cu_script.specs.Steps.LineChanges.{Reads, SetsPieces, set_answer}
use Rattle.cu_script.specs.Steps.LinePieces.{all_named, pieces_begun, pieces_refusal, stand_by_threes, those_named}
use Rattle.cu_script.proofs.LinePieceLaws.{others_refused, set_faulty, set_sound, sound_named, threes_named}

some_of : {X : Type 0} (xs : List X) (n : ℕ) → length xs ≡ n + 1 → (y : X) × (ys : List X) × (xs ≡ y ∷ ys)
some_of [] n e = absurd (omega (arith, e))
some_of (x ∷ xs) n e = (x, xs, refl)

-- a line has a field at least
pub fields_some : (line : List ℕ) → (first : List ℕ) × (more : List (List ℕ)) × (fields_of_line line ≡ first ∷ more)
fields_some line = some_of (fields_of_line line) _ (length-slice_split (λ b. b == 44) line)

-- a line has at most one field more than bytes
pub few_fields : (line : List ℕ) (fields limit : ℕ) → length line + 1 < limit → fields ≤ length (fields_of_line line) → fields < limit
few_fields line fields limit short le = omega (arith, length-slice_split (λ b. b == 44) line, count_by-le-length (λ b. b == 44) line, short, le)

-- a road's and a profile's number with more behind them make no edit
pub three_or_more : (arcs profiles : ℕ) (fields : List (List ℕ)) (arc profile : List ℕ) (rest : List ℕ)
    → fields ≡ arc ∷ profile ∷ fields_of_line rest → assign_of_fields arcs profiles fields ≡ Err Line
three_or_more arcs profiles fields arc profile rest e =
    let (y, ys, more) = fields_some rest in
    rw (e, more) refl

-- a number kept is below a number of 32 bits where the number is
pub kept_under : {X : Type 0} (f : ℕ → X) (x : X) (value limit : ℕ) → limit < 2 ^ 32
    → cond (nat_lt (min value 4294967295) limit) (f (min value 4294967295)) x ≡ cond (nat_lt value limit) (f value) x
kept_under f x value limit narrow = elim (cases_lt value limit) [
  | inl lt ↦ let same : min value 4294967295 ≡ value = omega (arith, lt, narrow) in rw same refl
  | inr le ↦
      let past : limit ≤ min value 4294967295 = omega (arith, le, narrow) in
      rw (le-ltb value limit le, le-ltb (min value 4294967295) limit past) refl
]

-- a profile's number, and pieces that stand by threes
pub set_read : (profiles : ℕ) (profile : List ℕ) (line : List ℕ) → profiles < 2 ^ 32 → is_number_word profile ≡ true
    → stand_by_threes (fields_of_line line) ≡ true
    → set_of_fields profiles (profile ∷ fields_of_line line) ≡ set_answer profiles (kept_number profile) (fields_of_line line)
set_read profiles profile line narrow number threes =
    let (words, read, named) = threes_named (fields_of_line line) threes in
    let (first, more, some) = fields_some line in
    let worded : words_of_pieces (first ∷ more) ≡ Some words = rw (← some) read in
    let kept = kept_under (λ n. set_named n (pieces_named words)) (Err Profile) (number_value profile) profiles narrow in
    subst (λ fields. set_of_fields profiles (profile ∷ fields) ≡ set_answer profiles (kept_number profile) (fields_of_line line)) (sym some)
    (rw (number, worded, ← named) (sym kept))

pub set_refused : (profiles : ℕ) (profile : List ℕ) (line : List ℕ) → stand_by_threes (fields_of_line line) ≡ false
    → set_of_fields profiles (profile ∷ fields_of_line line) ≡ Err Line
set_refused profiles profile line others =
    let none = others_refused (fields_of_line line) others in
    let (first, more, some) = fields_some line in
    let worded : words_of_pieces (first ∷ more) ≡ None = rw (← some) none in
    subst (λ fields. set_of_fields profiles (profile ∷ fields) ≡ Err Line) (sym some)
    (elim (is_number_word profile) as (λ b. cond b (set_checked profiles (number_value profile) (words_of_pieces (first ∷ more))) (Err Line) ≡ Err Line) [
      | true ↦ rw worded refl
      | false ↦ refl
    ])

-- a profile in range, and pieces without a fault
pub set_passes : (profiles profile : ℕ) (fields : List (List ℕ)) → profile < profiles → pieces_refusal (all_named (pieces_begun fields)) ≡ None
    → SetsPieces profiles (set_answer profiles profile fields) profile fields
set_passes profiles profile fields lt sound =
    let (all, unfaulted) = sound_named (pieces_begun fields) sound in
    record {
      pieces = those_named (pieces_begun fields);
      made = rw (lt-ltb profile profiles lt) (set_sound profile (pieces_begun fields) sound);
      named = all;
      sound = unfaulted;
      below = lt;
    }

pub set_fails : (profiles profile : ℕ) (fields : List (List ℕ)) (refusal : PieceRefusal) → profile < profiles
    → pieces_refusal (all_named (pieces_begun fields)) ≡ Some refusal → set_answer profiles profile fields ≡ Err (BadPiece refusal)
set_fails profiles profile fields refusal lt faulty =
    rw (lt-ltb profile profiles lt) (set_faulty profile (all_named (pieces_begun fields)) refusal faulty)

pub some_if : {X : Type 0} (b : Bool) (x y : X) → cond b (Some x) None ≡ Some y → (b ≡ true) × (x ≡ y)
some_if true x y e = (refl, cc e)
some_if false x y e = absurd (cc e)

-- what stands for one answer stands for an equal one
pub reads_same : (f g : ℕ → ℕ → Result Edit EditRefusal) (change : Option Change) → ((arcs profiles : ℕ) → f arcs profiles ≡ g arcs profiles)
    → Reads g change → Reads f change
reads_same f g None same read = λ arcs profiles. same arcs profiles ∙ read arcs profiles
reads_same f g (Some change) same read = λ arcs profiles a p. same arcs profiles ∙ read arcs profiles a p
