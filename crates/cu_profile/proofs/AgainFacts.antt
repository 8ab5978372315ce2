-- What is written is read as the same profiles.
use Rattle.std.proofs.Common.{◌≡◌, ◌∙◌, ◌<◌, ◌≤◌, ◌+◌, ◌^◌, ℕ, List, [], ◌∷◌, ◌++◌, Bool, true, false, Option, Some, None, Result, Ok, length, map, min, refl, sym, ap, arith}
use Rattle.std.specs.Prelude.{All, decimal, nat_lt, ◌==◌, ◌||◌, not, if◌then◌else◌, sum_by}
use Rattle.std.specs.List.{cons_option, filter_map}
use Rattle.std.specs.Option.{option_or}
use Rattle.std.proofs.lemmas.Bool.{and_parts, eq-eqb, eqb-true, leb-true, ltb-true, ne_eqb}
use Rattle.std.proofs.lemmas.List.{map-append}
use Rattle.std.proofs.lemmas.List.Elements.{All-head, All-tail}
use Rattle.std.proofs.lemmas.List.Sums.{sum_by-cons}
use Rattle.csv.proofs.RoundTrip.{rows_text}
use Rattle.csv.specs.Writing.{fields_text, is_blank, read_back}
use Rattle.cu_model.specs.declared.limits.TheConstants.{MAX_PROFILES, MAX_TRAVEL, MAX_UNTIL}
use Rattle.cu_model.specs.declared.profiles.Piece.{Piece}
use Rattle.cu_model.specs.declared.profiles.Rule.{Rule}
use Rattle.cu_model.specs.declared.profiles.Rule.TheVariants.{Travel, Until, Closed}
use Rattle.cu_model.specs.Days.{day}
use Rattle.cu_model.specs.Numbers.{is_number_word}
use Rattle.cu_model.specs.Profiles.{is_in_limit, is_rule_in_limit, IsProfile}
use Rattle.cu_model.proofs.FaultLaws.{piece_fault_none_from}
use Rattle.cu_tables.specs.Checks.{below, unless}
use Rattle.cu_tables.specs.declared.fields.TheConstants.{WIDEST}
use Rattle.cu_tables.specs.Tables.{kept_number, rows_below, table}
use Rattle.cu_tables.proofs.FieldFacts.{and_three}
use Rattle.cu_tables.proofs.Numerals.{decimal_value, decimal_word}
use Rattle.cu_tables.proofs.Round.{table_of_rows}
use Rattle.cu_profile.specs.declared.refusals.ProfileRefusal.{ProfileRefusal}
use Rattle.cu_profile.specs.declared.refusals.ProfileRefusal.TheVariants.{Header, Fields, Number, Sequence, TooMany}
use Rattle.cu_profile.specs.declared.rows.TheConstants.{MAX_ROWS}
use Rattle.cu_profile.specs.ProfileTexts.{begin_with, by_profile, faulted, has_numbers, header, may_follow, missing, piece_of_fields, piece_of_row, piece_row_fault}
use Rattle.cu_profile.specs.ProfileTexts.{profile_checked, profile_number, profile_of_rows, profiles_of_groups, profiles_of_rows, profiles_of_text, rows_fault, then_more, wrong_kind}
use Rattle.cu_profile.specs.Written.{kind_word, piece_row, rows_from, rule_number, table_of}
use Rattle.cu_profile.proofs.RowFacts.{rows_next}

-- a piece within its limits
abbrev IsInLimit : Piece → Type 0
IsInLimit piece = is_in_limit piece ≡ true

-- the fields of a piece are read as the piece

rule_within : (rule : Rule) → is_rule_in_limit rule ≡ true → rule_number rule ≤ MAX_UNTIL
rule_within (Travel seconds) h = let k = leb-true seconds MAX_TRAVEL h in omega (arith, k)
rule_within (Until arrival) h = leb-true arrival MAX_UNTIL h
rule_within (Closed value) h = let k = eqb-true value 0 h in omega (arith, k)

in_limit : (piece : Piece) → IsInLimit piece → (piece.from < day) × (rule_number piece.rule ≤ MAX_UNTIL)
in_limit piece h = let k = and_parts (nat_lt piece.from day) (is_rule_in_limit piece.rule) h in (ltb-true piece.from day k.0, rule_within piece.rule k.1)

number_kept : (n : ℕ) → n ≤ WIDEST → kept_number (decimal n) ≡ n
number_kept n h =
    let kept : min n WIDEST ≡ n = omega (arith, h) in
    ap (λ (v : ℕ). min v WIDEST) (decimal_value n (omega (arith, h))) ∙ kept

fields_read : (from : ℕ) (rule : Rule) → piece_of_fields (kind_word rule) from (rule_number rule) ≡ Some (record { from = from; rule = rule })
fields_read from (Travel seconds) = refl
fields_read from (Until arrival) = refl
fields_read from (Closed value) = refl

piece_written : (number : ℕ) (piece : Piece) → IsInLimit piece → piece_of_row (piece_row number piece) ≡ Some piece
piece_written number piece h =
    let (from, seconds) = in_limit piece h in
    ap (λ (n : ℕ). piece_of_fields (kind_word piece.rule) n (kept_number (decimal (rule_number piece.rule)))) (number_kept piece.from (omega (arith, from)))
    ∙ ap (piece_of_fields (kind_word piece.rule) piece.from) (number_kept (rule_number piece.rule) (omega (arith, seconds)))
    ∙ fields_read piece.from piece.rule

-- the rows of a profile pass their checks

passes_all : (b1 b2 b3 b4 b5 : Bool) (x1 x2 x3 x4 x5 : ProfileRefusal) → b1 ≡ false → b2 ≡ true → b3 ≡ true → b4 ≡ true → b5 ≡ false
    → (if b1 then Some x1 else if not b2 then Some x2 else if not b3 then Some x3 else if not b4 then Some x4 else if b5 then Some x5 else None) ≡ None
passes_all b1 b2 b3 b4 b5 x1 x2 x3 x4 x5 e1 e2 e3 e4 e5 = rw (e1, e2, e3, e4, e5) refl

number_written : (number : ℕ) (piece : Piece) → number ≤ MAX_PROFILES → profile_number (piece_row number piece) ≡ number
number_written number piece h = decimal_value number (omega (arith, h))

row_written : (row number : ℕ) (last : Option ℕ) (piece : Piece) → row < MAX_ROWS → number < MAX_PROFILES → may_follow last number ≡ true → IsInLimit piece
    → piece_row_fault row last (piece_row number piece) ≡ None
row_written row number last piece small few follows h =
    let (from, seconds) = in_limit piece h in
    let same = number_written number piece (omega (arith, few)) in
    passes_all (row == MAX_ROWS) (length (piece_row number piece) == 4) (has_numbers (piece_row number piece)) (may_follow last (profile_number (piece_row number piece)))
    (profile_number (piece_row number piece) == MAX_PROFILES) (TooMany row) (Fields row) (Number row) (Sequence row) (TooMany row)
    (ne_eqb row MAX_ROWS (λ e. absurd (omega (arith, small, e)))) refl
    (and_three (is_number_word (decimal number)) (is_number_word (decimal piece.from)) (is_number_word (decimal (rule_number piece.rule)))
    (decimal_word number (omega (arith, few))) (decimal_word piece.from (omega (arith, from))) (decimal_word (rule_number piece.rule) (omega (arith, seconds))))
    (ap (may_follow last) same ∙ follows)
    (ap (λ (n : ℕ). n == MAX_PROFILES) same ∙ ne_eqb number MAX_PROFILES (λ e. absurd (omega (arith, few, e))))

row_next : (row number : ℕ) (last : Option ℕ) (piece : Piece) (rest : List (List (List ℕ))) → row < MAX_ROWS → number < MAX_PROFILES → may_follow last number ≡ true → IsInLimit piece
    → rows_fault row last (piece_row number piece ∷ rest) ≡ rows_fault (row + 1) (Some number) rest
row_next row number last piece rest small few follows h =
    rows_next row last (piece_row number piece) rest (row_written row number last piece small few follows h)
    ∙ ap (λ (n : ℕ). rows_fault (row + 1) (Some n) rest) (number_written number piece (omega (arith, few)))

or_left : (a b : Bool) → a ≡ true → (a || b) ≡ true
or_left a b e = rw e refl

or_right : (a b : Bool) → b ≡ true → (a || b) ≡ true
or_right true b e = refl
or_right false b e = e

same_follows : (number : ℕ) → may_follow (Some number) number ≡ true
same_follows number = or_left (number == number) (number == number + 1) (eq-eqb number number refl)

next_follows : (number : ℕ) → may_follow (Some number) (number + 1) ≡ true
next_follows number = or_right (number + 1 == number) (number + 1 == number + 1) (eq-eqb (number + 1) (number + 1) refl)

rows_of_profile : (row number : ℕ) (last : Option ℕ) (pieces : List Piece) (rest : List (List (List ℕ))) → All IsInLimit pieces → 0 < length pieces
    → number < MAX_PROFILES → may_follow last number ≡ true → row + length pieces ≤ MAX_ROWS
    → rows_fault row last (map (piece_row number) pieces ++ rest) ≡ rows_fault (row + length pieces) (Some number) rest
rows_of_profile row number last [] rest a some few follows small = absurd (omega (arith, some))
rows_of_profile row number last (piece ∷ []) rest a some few follows small =
    row_next row number last piece rest (omega (arith, small)) few follows (All-head IsInLimit piece [] a)
rows_of_profile row number last (piece ∷ next ∷ pieces) rest a some few follows small =
    let same : (row + 1) + length (next ∷ pieces) ≡ row + length (piece ∷ next ∷ pieces) = omega arith in
    row_next row number last piece (map (piece_row number) (next ∷ pieces) ++ rest) (omega (arith, small)) few follows (All-head IsInLimit piece (next ∷ pieces) a)
    ∙ rows_of_profile (row + 1) number (Some number) (next ∷ pieces) rest (All-tail IsInLimit piece (next ∷ pieces) a) (omega arith) few (same_follows number) (omega (arith, small))
    ∙ ap (λ (n : ℕ). rows_fault n (Some number) rest) same

some_pieces : (pieces : List Piece) → IsProfile pieces → 0 < length pieces
some_pieces [] v = absurd (cc v.starts)
some_pieces (piece ∷ pieces) v = omega arith

rows_pass : (row number : ℕ) (last : Option ℕ) (profiles : List (List Piece)) → All IsProfile profiles → may_follow last number ≡ true
    → number + length profiles ≤ MAX_PROFILES → row + sum_by length profiles ≤ MAX_ROWS → rows_fault row last (rows_from number profiles) ≡ None
rows_pass row number last [] v follows few small = refl
rows_pass row number last (profile ∷ profiles) v follows few small =
    let valid = All-head IsProfile profile profiles v in
    let sum = sum_by-cons length profile profiles in
    rows_of_profile row number last profile (rows_from (number + 1) profiles) valid.limits (some_pieces profile valid) (omega (arith, few)) follows (omega (arith, small, sum))
    ∙ rows_pass (row + length profile) (number + 1) (Some number) profiles (All-tail IsProfile profile profiles v) (next_follows number) (omega (arith, few)) (omega (arith, small, sum))

-- the rows of a profile are read as its pieces

kinds_written : (first number : ℕ) (pieces : List Piece) → All IsInLimit pieces → wrong_kind first (map (piece_row number) pieces) ≡ None
kinds_written first number [] a = refl
kinds_written first number (piece ∷ pieces) a =
    ap (λ (p : Option Piece). option_or (missing first p) (wrong_kind (first + 1) (map (piece_row number) pieces))) (piece_written number piece (All-head IsInLimit piece pieces a))
    ∙ kinds_written (first + 1) number pieces (All-tail IsInLimit piece pieces a)

pieces_written : (number : ℕ) (pieces : List Piece) → All IsInLimit pieces → filter_map piece_of_row (map (piece_row number) pieces) ≡ pieces
pieces_written number [] a = refl
pieces_written number (piece ∷ pieces) a =
    ap (λ (p : Option Piece). cons_option p (filter_map piece_of_row (map (piece_row number) pieces))) (piece_written number piece (All-head IsInLimit piece pieces a))
    ∙ ap (λ (ps : List Piece). piece ∷ ps) (pieces_written number pieces (All-tail IsInLimit piece pieces a))

profile_written : (first number : ℕ) (pieces : List Piece) → IsProfile pieces → profile_of_rows first (map (piece_row number) pieces) ≡ Ok pieces
profile_written first number pieces v =
    ap (λ (k : Option ℕ). profile_checked first k (filter_map piece_of_row (map (piece_row number) pieces))) (kinds_written first number pieces v.limits)
    ∙ ap (profile_checked first None) (pieces_written number pieces v.limits)
    ∙ ap (faulted first pieces) (piece_fault_none_from pieces v)

-- and in groups, those of one profile in each

abbrev groups_from : ℕ → List (List Piece) → List (List (List (List ℕ)))
groups_from number [] = []
groups_from number (profile ∷ profiles) = map (piece_row number) profile ∷ groups_from (number + 1) profiles

same_group : (number : ℕ) (piece next : Piece) (rows : List (List (List ℕ))) → number ≤ MAX_PROFILES → begin_with (profile_number (piece_row number piece)) (piece_row number next ∷ rows) ≡ true
same_group number piece next rows few =
    eq-eqb (profile_number (piece_row number next)) (profile_number (piece_row number piece)) (number_written number next few ∙ sym (number_written number piece few))

grouped : (number : ℕ) (pieces : List Piece) (rest : List (List (List ℕ))) (profiles : List (List Piece)) → number < MAX_PROFILES → 0 < length pieces → All IsProfile profiles
    → by_profile rest ≡ groups_from (number + 1) profiles → by_profile (map (piece_row number) pieces ++ rest) ≡ map (piece_row number) pieces ∷ groups_from (number + 1) profiles
grouped number [] rest profiles few some v e = absurd (omega (arith, some))
grouped number (piece ∷ next ∷ pieces) rest profiles few some v e =
    rw (grouped number (next ∷ pieces) rest profiles few (omega arith) v e, same_group number piece next (map (piece_row number) pieces) (omega (arith, few))) refl
grouped number (piece ∷ []) rest [] few some v e = rw e refl
grouped number (piece ∷ []) rest ([] ∷ profiles) few some v e = absurd (cc ((All-head IsProfile [] profiles v).starts))
grouped number (piece ∷ []) rest ((next ∷ pieces) ∷ profiles) few some v e =
    let one = number_written number piece (omega (arith, few)) in
    let two = number_written (number + 1) next (omega (arith, few)) in
    let other : (profile_number (piece_row (number + 1) next) == profile_number (piece_row number piece)) ≡ false =
    ne_eqb (profile_number (piece_row (number + 1) next)) (profile_number (piece_row number piece)) (λ h. absurd (omega (arith, one, two, h))) in
    rw (e, other) refl

all_grouped : (number : ℕ) (profiles : List (List Piece)) → All IsProfile profiles → number + length profiles ≤ MAX_PROFILES → by_profile (rows_from number profiles) ≡ groups_from number profiles
all_grouped number [] v few = refl
all_grouped number (profile ∷ profiles) v few =
    let rest = All-tail IsProfile profile profiles v in
    grouped number profile (rows_from (number + 1) profiles) profiles (omega (arith, few)) (some_pieces profile (All-head IsProfile profile profiles v)) rest
    (all_grouped (number + 1) profiles rest (omega (arith, few)))

profiles_again : (first number : ℕ) (profiles : List (List Piece)) → All IsProfile profiles → profiles_of_groups first (groups_from number profiles) ≡ Ok profiles
profiles_again first number [] v = refl
profiles_again first number (profile ∷ profiles) v =
    let rows = map (piece_row number) profile in
    ap (then_more (profile_of_rows first rows)) (profiles_again (first + length rows) (number + 1) profiles (All-tail IsProfile profile profiles v))
    ∙ ap (λ (p : Result (List Piece) ProfileRefusal). then_more p (Ok profiles)) (profile_written first number profile (All-head IsProfile profile profiles v))

-- the text is read as its rows

pieces_back : (number : ℕ) (pieces : List Piece) → map read_back (map (piece_row number) pieces) ≡ map (piece_row number) pieces
pieces_back number [] = refl
pieces_back number (piece ∷ pieces) = ap (λ (rows : List (List (List ℕ))). piece_row number piece ∷ rows) (pieces_back number pieces)

rows_back : (number : ℕ) (profiles : List (List Piece)) → map read_back (rows_from number profiles) ≡ rows_from number profiles
rows_back number [] = refl
rows_back number (profile ∷ profiles) =
    map-append read_back (map (piece_row number) profile) (rows_from (number + 1) profiles)
    ∙ ap (λ (rows : List (List (List ℕ))). rows ++ map read_back (rows_from (number + 1) profiles)) (pieces_back number profile)
    ∙ ap (λ (rows : List (List (List ℕ))). map (piece_row number) profile ++ rows) (rows_back (number + 1) profiles)

begins : (rows : List (List (List ℕ))) → (rest : List ℕ) × (rows_text (header ∷ rows) ≡ 112 ∷ rest)
unfolding rows_text fields_text is_blank
begins rows = (_, refl)

-- what is written is read as the same profiles
pub again : (profiles : List (List Piece)) → All IsProfile profiles → length profiles ≤ MAX_PROFILES → sum_by length profiles < 2 ^ 32
    → profiles_of_text (rows_text (table_of profiles)) ≡ Ok profiles
again profiles v few small =
    let rows = rows_from 0 profiles in
    let text = begins rows in
    let read : table (rows_text (table_of profiles)) ≡ table_of profiles =
    table_of_rows (table_of profiles) 112 text.0 text.1 (omega arith) ∙ ap (λ (rest : List (List (List ℕ))). header ∷ rest) (rows_back 0 profiles) in
    ap (λ (t : List (List (List ℕ))). below Header profiles_of_rows (rows_below header t)) read
    ∙ ap (λ (o : Option ProfileRefusal). unless o (profiles_of_groups 0 (by_profile rows))) (rows_pass 0 0 None profiles v refl (omega (arith, few)) (omega (arith, small)))
    ∙ ap (profiles_of_groups 0) (all_grouped 0 profiles v (omega (arith, few)))
    ∙ profiles_again 0 0 profiles v
