-- How what is kept and what is left change with one row.
use Rattle.std.proofs.Common.{◌≡◌, ◌≢◌, ◌∙◌, ◌<◌, ◌+◌, ℕ, suc, List, [], ◌∷◌, ◌++◌, Bool, true, false, Option, Some, None, Ok, length, refl, sym, ap, arith, inl, inr, append_assoc}
use Rattle.std.specs.Prelude.{◌⊎◌, ◌==◌, ◌||◌, not, if◌then◌else◌, option_to_list, IfSome}
use Rattle.std.specs.List.{cons_option, filter_map}
use Rattle.std.specs.Option.{option_or}
use Rattle.std.proofs.lemmas.Bool.{cases_Bool, eqb-true, eq-eqb, eqb-false, ne_eqb}
use Rattle.std.proofs.lemmas.List.{append-nil}
use Rattle.cu_model.proofs.Pushes.{option_or-assoc}
use Rattle.cu_model.specs.declared.limits.TheConstants.{MAX_PROFILES}
use Rattle.cu_model.specs.declared.profiles.Piece.{Piece}
use Rattle.cu_tables.proofs.TakingFacts.{Follows}
use Rattle.cu_profile.specs.declared.refusals.ProfileRefusal.{ProfileRefusal}
use Rattle.cu_profile.specs.declared.progress.ProfileRows.{ProfileRows}
use Rattle.cu_profile.specs.declared.rows.PieceRow.{PieceRow}
use Rattle.cu_profile.specs.declared.rows.TheConstants.{MAX_ROWS}
use Rattle.cu_profile.specs.ProfileTexts.{begin_with, by_profile, has_numbers, may_follow, missing, onto, piece_of_row, piece_row_fault, profile_number, profiles_of_groups}
use Rattle.cu_profile.specs.ProfileTexts.{rows_fault, then_more, wrong_kind}
use Rattle.cu_profile.specs.Steps.ReadRows.{AddsRow, BeginsRow, EndsProfile, EndsRows, groups_behind, IsBetweenRows, joined, last_profile, last_profile_with, RefusesRow, rows_behind, TakesRow}
use Rattle.cu_profile.proofs.KeptProfiles.{joined_kept, kept_few}

-- where none of five checks refuses, the last two pass
pub passes : {R : Type 0} (b1 b2 b3 b4 b5 : Bool) (x1 x2 x3 x4 x5 : R)
    → (if b1 then Some x1 else if not b2 then Some x2 else if not b3 then Some x3 else if not b4 then Some x4 else if b5 then Some x5 else None) ≡ None
    → (b4 ≡ true) × (b5 ≡ false)
passes true b2 b3 b4 b5 x1 x2 x3 x4 x5 e = absurd (cc e)
passes false false b3 b4 b5 x1 x2 x3 x4 x5 e = absurd (cc e)
passes false true false b4 b5 x1 x2 x3 x4 x5 e = absurd (cc e)
passes false true true false b5 x1 x2 x3 x4 x5 e = absurd (cc e)
passes false true true true true x1 x2 x3 x4 x5 e = absurd (cc e)
passes false true true true false x1 x2 x3 x4 x5 e = (refl, refl)

-- a row that passes its checks is of a profile that may follow, and of none too many
row_passes : (number : ℕ) (last : Option ℕ) (row : List (List ℕ)) → piece_row_fault number last row ≡ None → (may_follow last (profile_number row) ≡ true) × (profile_number row ≢ MAX_PROFILES)
row_passes number last row e =
    let k = passes (number == MAX_ROWS) (length row == 4) (has_numbers row) (may_follow last (profile_number row)) (profile_number row == MAX_PROFILES) _ _ _ _ _ e in
    (k.0, eqb-false (profile_number row) MAX_PROFILES k.1)

or-true : (a b : Bool) → (a || b) ≡ true → (a ≡ true) ⊎ (b ≡ true)
or-true true b e = inl refl
or-true false b e = inr e

-- behind a profile comes itself or the next one
pub next_profile : (last k : ℕ) → may_follow (Some last) k ≡ true → last ≢ k → k ≡ last + 1
next_profile last k e other = elim (or-true (k == last) (k == last + 1) e) [
  | inl same ↦ absurd (other (sym (eqb-true k last same)))
  | inr next ↦ eqb-true k (last + 1) next
]

-- a profile that may follow on one below a limit, and isn't at it, is below it
pub small_next : (most : ℕ) (last : Option ℕ) (k : ℕ) → 0 < most → IfSome last (λ l. l < most) → may_follow last k ≡ true → k ≢ most → k < most
small_next most None k some h e n = let z = eqb-true k 0 e in omega (arith, z, some)
small_next most (Some l) k some h e n = elim (or-true (k == l) (k == l + 1) e) [
  | inl same ↦ let z = eqb-true k l same in omega (arith, z, h)
  | inr next ↦ let z = eqb-true k (l + 1) next in omega (arith, z, h, n)
]

-- what a row that passes leaves for the rows behind it
pub rows_next : (number : ℕ) (last : Option ℕ) (row : List (List ℕ)) (rest : List (List (List ℕ))) → piece_row_fault number last row ≡ None
    → rows_fault number last (row ∷ rest) ≡ rows_fault (number + 1) (Some (profile_number row)) rest
rows_next number last row rest e = rw e refl

-- one more row of the last profile

pieces_more : (pieces : List Piece) (piece : Option Piece) (more : List Piece) → pieces ++ cons_option piece more ≡ (pieces ++ option_to_list piece) ++ more
pieces_more pieces None more = ap (λ (ps : List Piece). ps ++ more) (sym (append-nil pieces))
pieces_more pieces (Some piece) more = sym (append_assoc pieces (piece ∷ []) more)

with_row : (s t : ProfileRows) (line : PieceRow) (row : List (List ℕ)) (rows : List (List (List ℕ))) → AddsRow s t line → line.piece ≡ piece_of_row row
    → last_profile_with s (row ∷ rows) ≡ last_profile_with t rows
with_row s t line row rows a piece =
    let kind = option_or-assoc s.wrong_kind (missing s.row (piece_of_row row)) (wrong_kind (s.row + 1) rows) in
    let pieces = pieces_more s.pieces.items (piece_of_row row) (filter_map piece_of_row rows) in
    rw (a.first, a.wrong_kind, a.row, a.pieces, piece, kind, pieces) refl

option_or_none : {A : Type 0} (o : Option A) → option_or o None ≡ o
option_or_none None = refl
option_or_none (Some x) = refl

with_none : (s : ProfileRows) → last_profile_with s [] ≡ last_profile s
with_none s = rw (option_or_none s.wrong_kind, append-nil s.pieces.items) refl

same_profile : (k : ℕ) → (k == k) ≡ true
same_profile k = eq-eqb k k refl

groups_more : (s t : ProfileRows) (line : PieceRow) (row : List (List ℕ)) (groups : List (List (List (List ℕ)))) → AddsRow s t line → line.piece ≡ piece_of_row row
    → groups_behind s (Some (profile_number row)) (onto row groups) ≡ groups_behind t (Some (profile_number row)) groups
groups_more s t line row [] a piece = rw (same_profile (profile_number row), with_row s t line row [] a piece, with_none t) refl
groups_more s t line row (rows ∷ groups) a piece =
    let one = a.row in
    elim (cases_Bool (begin_with (profile_number row) rows)) [
      | inl same ↦
          let number : s.row + suc (length rows) ≡ t.row + length rows = omega (arith, one) in
          rw (same, same_profile (profile_number row), with_row s t line row rows a piece, number) refl
      | inr other ↦
          let number : s.row + 1 ≡ t.row = omega (arith, one) in
          rw (other, same_profile (profile_number row), with_row s t line row [] a piece, with_none t, number) refl
    ]

-- the first row of a profile

groups_begun : (s : ProfileRows) (row : List (List ℕ)) (groups : List (List (List (List ℕ)))) → s.first ≡ s.row → s.wrong_kind ≡ None → s.pieces.items ≡ []
    → profiles_of_groups s.row (onto row groups) ≡ groups_behind s (Some (profile_number row)) (onto row groups)
groups_begun s row [] first kind pieces = rw (same_profile (profile_number row), first, kind, pieces) refl
groups_begun s row (rows ∷ groups) first kind pieces = elim (cases_Bool (begin_with (profile_number row) rows)) [
  | inl same ↦ rw (same, same_profile (profile_number row), first, kind, pieces) refl
  | inr other ↦ rw (other, same_profile (profile_number row), first, kind, pieces) refl
]

groups_other : (s : ProfileRows) (last : ℕ) (row : List (List ℕ)) (groups : List (List (List (List ℕ)))) → last ≢ profile_number row
    → groups_behind s (Some last) (onto row groups) ≡ then_more (last_profile s) (profiles_of_groups s.row (onto row groups))
groups_other s last row groups other =
    let differ = ne_eqb (profile_number row) last (λ e. other (sym e)) in
    by_cases groups differ
  where
    by_cases : (groups : List (List (List (List ℕ)))) → (profile_number row == last) ≡ false
        → groups_behind s (Some last) (onto row groups) ≡ then_more (last_profile s) (profiles_of_groups s.row (onto row groups))
    by_cases [] differ = rw differ refl
    by_cases (rows ∷ groups) differ = elim (cases_Bool (begin_with (profile_number row) rows)) [
      | inl same ↦ rw (same, differ) refl
      | inr apart ↦ rw (apart, differ) refl
    ]

pub begins_none : (s : ProfileRows) (profile : ℕ) → s.last ≡ None → BeginsRow s s profile
begins_none s profile e = record {
  row = refl;
  few = λ between follows. let few = rw e at between.few in omega (arith, few);
  given = λ between row same groups. let fresh = between.fresh e in
      rw (e, same) (ap (joined s.fault s.profiles.items) (groups_begun s row groups fresh.0 fresh.1.0 fresh.1.1));
}

pub begins_same : (s : ProfileRows) (last profile : ℕ) → s.last ≡ Some last → last ≡ profile → BeginsRow s s profile
begins_same s last profile e same = record {
  row = refl;
  few = λ between follows. let few = rw e at between.few in omega (arith, few, same);
  given = λ between row is groups. rw (e, same) refl;
}

pub begins_other : (s t : ProfileRows) (last profile : ℕ) → s.last ≡ Some last → last ≢ profile → EndsProfile s t → BeginsRow s t profile
begins_other s t last profile e other x = record {
  row = x.row;
  few = λ between follows.
      let few = rw e at between.few in
      let next = next_profile last profile (rw e at follows) other in
      let more = kept_few (last_profile s) s.profiles.items t.profiles.items s.fault t.fault x.kept in
      omega (arith, few, next, more);
  given = λ between row same groups.
      let begun = ap (λ (n : ℕ). profiles_of_groups n (onto row groups)) (sym x.row) ∙ groups_begun t row groups (x.first ∙ sym x.row) x.wrong_kind x.pieces in
      rw (
        e,
        groups_other s last row groups (λ k. other (k ∙ sym same)),
        joined_kept (last_profile s) s.fault t.fault s.profiles.items t.profiles.items (profiles_of_groups s.row (onto row groups)) x.kept,
        begun,
        same,
      ) refl;
}

-- the rows end

pub ends_none : (s : ProfileRows) → s.last ≡ None → EndsRows s s
ends_none s e = record {
  given = rw e refl;
  few = λ between. let few = rw e at between.few in omega (arith, few);
}

pub ends_some : (s t : ProfileRows) (last : ℕ) → s.last ≡ Some last → EndsProfile s t → EndsRows s t
ends_some s t last e x = record {
  given = rw e (joined_kept (last_profile s) s.fault t.fault s.profiles.items t.profiles.items (Ok []) x.kept);
  few = λ between.
      let few = rw e at between.few in
      let small = rw e at between.small in
      let more = kept_few (last_profile s) s.profiles.items t.profiles.items s.fault t.fault x.kept in
      omega (arith, few, small, more);
}

-- a row that passes its checks leaves what is given to the rows behind it
pub takes_row : (s m t : ProfileRows) (row : List (List ℕ)) (line : PieceRow) → piece_row_fault s.row s.last row ≡ None → line.profile ≡ profile_number row → line.piece ≡ piece_of_row row
    → BeginsRow s m line.profile → AddsRow m t line → TakesRow s row t
takes_row s m t row line passed profile piece b a = λ between.
    let (follows, other) = row_passes s.row s.last row passed in
    let small = small_next MAX_PROFILES s.last (profile_number row) (omega arith) between.small follows other in
    let last : t.last ≡ Some (profile_number row) = a.last ∙ ap Some profile in
    let few = b.few between (rw profile follows) in (
      record {
        small = rw last small;
        few = rw (last, a.profiles, ← profile) few;
        fresh = λ none. absurd (cc (last, none));
      },
      λ rest.
          let faults : rows_fault t.row t.last rest ≡ rows_fault (s.row + 1) (Some (profile_number row)) rest = rw (a.row, b.row, last) refl in
          let kept : joined t.fault t.profiles.items (groups_behind t t.last (by_profile rest)) ≡ joined s.fault s.profiles.items (groups_behind s s.last (onto row (by_profile rest))) =
          ap (λ (f : Option ProfileRefusal). joined f t.profiles.items (groups_behind t t.last (by_profile rest))) a.fault
          ∙ ap (λ (ps : List (List Piece)). joined m.fault ps (groups_behind t t.last (by_profile rest))) a.profiles
          ∙ ap (λ (l : Option ℕ). joined m.fault m.profiles.items (groups_behind t l (by_profile rest))) last
          ∙ ap (joined m.fault m.profiles.items) (sym (groups_more m t line row (by_profile rest) a piece))
          ∙ ap (λ (k : ℕ). joined m.fault m.profiles.items (groups_behind m (Some k) (onto row (by_profile rest)))) (sym profile)
          ∙ sym (b.given between row profile (by_profile rest)) in
          rw (passed, faults, kept) refl,
    )

-- the reader goes through the rows as they give profiles
pub follows : Follows TakesRow RefusesRow IsBetweenRows rows_behind
follows = record {
  kept = λ s row t h between. (h between).0;
  taken = λ s row t rest h between. (h between).1 rest;
  refused = λ s row why t rest h between. rw (h.0 between) refl;
}
