-- Rows in groups by profile, taken one after the other.
use Rattle.std.proofs.Common.{◌≡◌, ◌≢◌, ◌∙◌, ◌<◌, ◌+◌, ℕ, List, [], ◌∷◌, ◌++◌, Option, Some, None, Result, Ok, Err, All, length, refl, sym, ap, arith, inl, inr}
use Rattle.std.specs.Option.{option_or}
use Rattle.std.proofs.lemmas.Bool.{cases_Bool, eq-eqb, ne_eqb}
use Rattle.std.proofs.lemmas.List.Elements.{All-head, All-tail}
use Rattle.cu_model.proofs.Pushes.{option_or-assoc}
use Rattle.cu_profile.specs.ProfileTexts.{begin_with, by_profile, first_fault, of_groups, onto, profile_number, then_more}
use Rattle.cu_wait.specs.Steps.ReadRows.{IsOf, last_profile}

-- a row goes onto the first of some groups
onto_more : (row : List (List ℕ)) (group : List (List (List ℕ))) (groups more : List (List (List (List ℕ)))) → onto row (group ∷ (groups ++ more)) ≡ onto row (group ∷ groups) ++ more
onto_more row group groups more = elim (cases_Bool (begin_with (profile_number row) group)) [
  | inl same ↦ rw same refl
  | inr other ↦ rw other refl
]

onto_some : (row : List (List ℕ)) (groups : List (List (List (List ℕ)))) → (group : List (List (List ℕ))) × (rest : List (List (List (List ℕ)))) × (onto row groups ≡ group ∷ rest)
onto_some row [] = (row ∷ [], [], refl)
onto_some row (rows ∷ groups) = elim (cases_Bool (begin_with (profile_number row) rows)) [
  | inl same ↦ (row ∷ rows, groups, rw same refl)
  | inr other ↦ (row ∷ [], rows ∷ groups, rw other refl)
]

-- rows of one profile are one group
own_group : (profile : ℕ) (row : List (List ℕ)) (rows : List (List (List ℕ))) → All (IsOf profile) (row ∷ rows) → by_profile (row ∷ rows) ≡ (row ∷ rows) ∷ []
own_group profile row [] all = refl
own_group profile row (next ∷ rows) all =
    let rest = own_group profile next rows (All-tail (IsOf profile) row (next ∷ rows) all) in
    let first = All-head (IsOf profile) row (next ∷ rows) all in
    let second = All-head (IsOf profile) next rows (All-tail (IsOf profile) row (next ∷ rows) all) in
    let same = eq-eqb (profile_number next) (profile_number row) (second ∙ sym first) in
    rw (rest, same) refl

-- and the last group, behind rows the last of which is of another
pub last_group : (profile : ℕ) (front own : List (List (List ℕ))) → 0 < length own → All (IsOf profile) own → last_profile None front ≢ Some profile
    → by_profile (front ++ own) ≡ by_profile front ++ (own ∷ [])
last_group profile front [] some all other = absurd (omega (arith, some))
last_group profile [] (row ∷ rows) some all other = own_group profile row rows all
last_group profile (row ∷ []) (next ∷ rows) some all other =
    let group = own_group profile next rows all in
    let is = All-head (IsOf profile) next rows all in
    let differ = ne_eqb (profile_number next) (profile_number row) (λ e. other (ap Some (sym e ∙ is))) in
    rw (group, differ) refl
last_group profile (row ∷ next ∷ front) (own ∷ rows) some all other =
    let rest = last_group profile (next ∷ front) (own ∷ rows) some all other in
    let (group, groups, is) = onto_some next (by_profile front) in
    ap (onto row) rest ∙ ap (λ (gs : List (List (List (List ℕ)))). onto row (gs ++ ((own ∷ rows) ∷ []))) is ∙ onto_more row group groups ((own ∷ rows) ∷ [])
    ∙ ap (λ (gs : List (List (List (List ℕ)))). onto row gs ++ ((own ∷ rows) ∷ [])) (sym is)

-- how many rows some groups have
abbrev pub rows_in : List (List (List (List ℕ))) → ℕ
rows_in [] = 0
rows_in (group ∷ groups) = length group + rows_in groups

onto_count : (row : List (List ℕ)) (groups : List (List (List (List ℕ)))) → rows_in (onto row groups) ≡ rows_in groups + 1
onto_count row [] = refl
onto_count row (rows ∷ groups) = elim (cases_Bool (begin_with (profile_number row) rows)) [
  | inl same ↦ let is : rows_in (onto row (rows ∷ groups)) ≡ rows_in ((row ∷ rows) ∷ groups) = rw same refl in omega (arith, is)
  | inr other ↦ let is : rows_in (onto row (rows ∷ groups)) ≡ rows_in ((row ∷ []) ∷ rows ∷ groups) = rw other refl in omega (arith, is)
]

pub as_many : (rows : List (List (List ℕ))) → rows_in (by_profile rows) ≡ length rows
as_many [] = refl
as_many (row ∷ rows) = let rest = as_many rows in let one = onto_count row (by_profile rows) in omega (arith, rest, one)

-- what is given, and then one more; the first refusal stands
abbrev pub then_last : {P R : Type 0} → Result (List P) R → Result P R → Result (List P) R
then_last (Err why) last = Err why
then_last (Ok given) (Err why) = Err why
then_last (Ok given) (Ok last) = Ok (given ++ (last ∷ []))

module _ {P R : Type 0} where
  only_one : (last : Result P R) → then_more last (Ok []) ≡ then_last (Ok []) last
  only_one (Ok profile) = refl
  only_one (Err why) = refl

  more_last : (first : Result P R) (given : Result (List P) R) (last : Result P R) → then_more first (then_last given last) ≡ then_last (then_more first given) last
  more_last (Err why) given last = refl
  more_last (Ok profile) (Err why) last = refl
  more_last (Ok profile) (Ok given) (Err why) = refl
  more_last (Ok profile) (Ok given) (Ok last) = refl

  -- what groups give with one more behind them
  pub groups_last : (of_rows : ℕ → List (List (List ℕ)) → Result P R) (first : ℕ) (groups : List (List (List (List ℕ)))) (rows : List (List (List ℕ)))
      → of_groups of_rows first (groups ++ (rows ∷ [])) ≡ then_last (of_groups of_rows first groups) (of_rows (first + rows_in groups) rows)
  groups_last of_rows first [] rows =
      let same : first ≡ first + 0 = omega arith in
      only_one (of_rows first rows) ∙ ap (λ (n : ℕ). then_last (Ok []) (of_rows n rows)) same
  groups_last of_rows first (group ∷ groups) rows =
      let same : (first + length group) + rows_in groups ≡ first + rows_in (group ∷ groups) = omega arith in
      ap (then_more (of_rows first group)) (groups_last of_rows (first + length group) groups rows)
      ∙ more_last (of_rows first group) (of_groups of_rows (first + length group) groups) (of_rows ((first + length group) + rows_in groups) rows)
      ∙ ap (λ (n : ℕ). then_last (of_groups of_rows first (group ∷ groups)) (of_rows n rows)) same

-- the first fault among rows and those behind them
pub fault_behind : {R : Type 0} (row_fault : ℕ → Option ℕ → List (List ℕ) → Option R) (number : ℕ) (last : Option ℕ) (rows more : List (List (List ℕ)))
    → first_fault row_fault number last (rows ++ more) ≡ option_or (first_fault row_fault number last rows) (first_fault row_fault (number + length rows) (last_profile last rows) more)
fault_behind row_fault number last [] more = let same : number ≡ number + 0 = omega arith in ap (λ (n : ℕ). first_fault row_fault n last more) same
fault_behind row_fault number last (row ∷ rows) more =
    let same : (number + 1) + length rows ≡ number + length (row ∷ rows) = omega arith in
    ap (option_or (row_fault number last row)) (fault_behind row_fault (number + 1) (Some (profile_number row)) rows more)
    ∙ sym (option_or-assoc (row_fault number last row) (first_fault row_fault (number + 1) (Some (profile_number row)) rows)
    (first_fault row_fault ((number + 1) + length rows) (last_profile last (row ∷ rows)) more))
    ∙ ap (λ (n : ℕ). option_or (first_fault row_fault number last (row ∷ rows)) (first_fault row_fault n (last_profile last (row ∷ rows)) more)) same

-- the profile of the last of rows and those behind them
pub last_behind : (last : Option ℕ) (rows more : List (List (List ℕ))) → last_profile last (rows ++ more) ≡ last_profile (last_profile last rows) more
last_behind last [] more = refl
last_behind last (row ∷ rows) more = last_behind (Some (profile_number row)) rows more
