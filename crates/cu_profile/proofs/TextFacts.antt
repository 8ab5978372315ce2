-- What a text gives, once its rows were gone through.
use Rattle.std.proofs.Common.{◌≡◌, ◌∙◌, ℕ, List, [], Option, Some, None, Result, Ok, Err, refl, sym, ap, arith}
use Rattle.cu_model.specs.declared.profiles.Piece.{Piece}
use Rattle.std.specs.Prelude.{IfErr, IfOk}
use Rattle.cu_tables.specs.Checks.{Gives, IsRefused, below}
use Rattle.cu_tables.specs.Tables.{rows_below, table}
use Rattle.cu_tables.specs.Taking.{EndsBelow}
use Rattle.cu_tables.proofs.TakingFacts.{Leads, walked_below}
use Rattle.cu_profile.specs.declared.refusals.ProfileRefusal.{ProfileRefusal}
use Rattle.cu_profile.specs.declared.refusals.ProfileRefusal.TheVariants.{Header, NoMemory}
use Rattle.cu_profile.specs.declared.progress.ProfileRows.{ProfileRows}
use Rattle.cu_profile.specs.ProfileTexts.{by_profile, header, profiles_of_groups, profiles_of_rows, profiles_of_text, rows_fault}
use Rattle.cu_profile.specs.Steps.ReadRows.{groups_behind, IsBetweenRows, IsNew, RefusesRow, rows_behind, TakesRow}
use Rattle.cu_profile.proofs.KeptProfiles.{joined_none}
use Rattle.cu_profile.proofs.RowFacts.{follows}

new_between : (s : ProfileRows) → IsNew s → IsBetweenRows s
new_between s n = record {
  small = rw n.last tt;
  few = rw n.profiles (omega arith);
  fresh = λ none. (n.first ∙ sym n.row, (n.wrong_kind, n.pieces));
}

new_given : (s : ProfileRows) (rows : List (List (List ℕ))) → IsNew s → rows_behind s rows ≡ profiles_of_rows rows
new_given s rows n =
    let groups = by_profile rows in
    let faults : rows_fault s.row s.last rows ≡ rows_fault 0 None rows = ap (λ (k : ℕ). rows_fault k s.last rows) n.row ∙ ap (λ (l : Option ℕ). rows_fault 0 l rows) n.last in
    let behind : groups_behind s s.last groups ≡ profiles_of_groups 0 groups = ap (λ (l : Option ℕ). groups_behind s l groups) n.last ∙ ap (λ (k : ℕ). profiles_of_groups k groups) n.row in
    rw (faults, behind, n.fault, n.profiles, joined_none (profiles_of_groups 0 groups)) refl

-- what a text gives, once its rows were gone through
pub text_read : {U : Type 0} (names : List (List ℕ)) (text : List ℕ) (s t : ProfileRows) (answer : Result U ProfileRefusal) → names ≡ header → IsNew s
    → EndsBelow TakesRow RefusesRow Header s (rows_below names (table text)) t answer → Leads (profiles_of_text text) IsBetweenRows rows_behind t answer
text_read names text s t answer same n h =
    let k = walked_below follows s t (rows_below names (table text)) Header answer (new_between s n) h in
    from_new (rows_below header (table text)) (rw same at k)
  where
    given_new : (o : Option (List (List (List ℕ)))) → below Header (rows_behind s) o ≡ below Header profiles_of_rows o
    given_new None = refl
    given_new (Some rows) = new_given s rows n

    from_new : (o : Option (List (List (List ℕ)))) → Leads (below Header (rows_behind s) o) IsBetweenRows rows_behind t answer
        → Leads (below Header profiles_of_rows o) IsBetweenRows rows_behind t answer
    from_new o k = rw (given_new o) at k

-- what was finished is what the text gives
pub finished : {S : Type 0} (items : S → List (List Piece)) (answer : Result S ProfileRefusal) (all : Result (List (List Piece)) ProfileRefusal) (t : ProfileRows) → all ≡ rows_behind t []
    → IfOk answer (λ (profiles : S). rows_behind t [] ≡ Ok (items profiles)) → IfErr answer (IsRefused NoMemory (rows_behind t [])) → Gives NoMemory items all answer
finished items (Ok profiles) all t e ok refused = e ∙ ok
finished items (Err why) all t e ok refused = λ n. e ∙ refused n
