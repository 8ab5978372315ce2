-- The second of a query whose drive a line asks for is one of the day.
use Rattle.std.proofs.Common.{◌≡◌, ◌<◌, ℕ, Bool, true, false, List, [], ◌∷◌, refl, subst}
use Rattle.std.specs.Prelude.{Err, Ok, Result, ◌&&◌, if◌then◌else◌, nat_lt}
use Rattle.std.proofs.lemmas.Bool.{ltb-true}
use Rattle.cu_model.specs.declared.queries.Query.{Query}
use Rattle.cu_model.specs.declared.queries.QueryRefusal.{QueryRefusal}
use Rattle.cu_model.specs.declared.queries.QueryRefusal.TheVariants as refusal
use Rattle.cu_model.specs.Days.{day}
use Rattle.cu_model.specs.Numbers.{number_value}
use Rattle.cu_model.specs.Queries.{checked_query, fields_of_line}
use Rattle.cu_drive.specs.DriveLines.{drive_of, drive_of_fields}

-- what passes a check
passed : {T E : Type 0} (test : Bool) (checked : Result T E) (refusal : E) (value : T) → (if test then checked else Err refusal) ≡ Ok value
    → (test ≡ true) × (checked ≡ Ok value)
passed true checked refusal value e = (refl, e)
passed false checked refusal value e = absurd (cc e)

checked_second : (nodes from to second : ℕ) (query : Query) → checked_query nodes from to second ≡ Ok query → query.second < day
checked_second nodes from to second query e =
    let made : Query = record { from = from; to = to; second = second } in
    let by_second : Result Query QueryRefusal = if nat_lt second day then Ok made else Err refusal.Second in
    let (nodes_pass, second_checked) = passed (nat_lt from nodes && nat_lt to nodes) by_second refusal.Node query e in
    let (low, is) = passed (nat_lt second day) (Ok made) refusal.Second query second_checked in
    let same : made ≡ query = cc is in
    subst (λ (q : Query). q.second < day) same (ltb-true second day low)

fields_second : (nodes : ℕ) (fields : List (List ℕ)) (query : Query) → drive_of_fields nodes fields ≡ Ok query → query.second < day
fields_second nodes [] query e = absurd (cc e)
fields_second nodes (first ∷ []) query e = absurd (cc e)
fields_second nodes (first ∷ from ∷ []) query e = absurd (cc e)
fields_second nodes (first ∷ from ∷ to ∷ []) query e = absurd (cc e)
fields_second nodes (first ∷ from ∷ to ∷ second ∷ []) query e =
    checked_second nodes (number_value from) (number_value to) (number_value second) query (passed _ _ _ query e).1
fields_second nodes (first ∷ from ∷ to ∷ second ∷ more ∷ rest) query e = absurd (cc e)

pub drive_second : (nodes : ℕ) (text : List ℕ) (query : Query) → drive_of nodes text ≡ Ok query → query.second < day
drive_second nodes text query e = fields_second nodes (fields_of_line text) query e
