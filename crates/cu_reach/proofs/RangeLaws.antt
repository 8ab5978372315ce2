-- Lines that pass their checks ask for nodes of the network, and for seconds of the day.
use Rattle.std.proofs.Common.{◌≡◌, ◌<◌, ℕ, Bool, true, false, List, [], ◌∷◌, refl, subst}
use Rattle.std.specs.Prelude.{◌&&◌, ◌≤◌, ◌-◌, ◌*◌, All, Err, Ok, Result, drop, if◌then◌else◌, length, map, nat_le, nat_lt, take}
use Rattle.std.specs.List.{list_all}
use Rattle.std.proofs.lemmas.Bool.{leb-true, ltb-true}
use Rattle.std.proofs.lemmas.List.Elements.{All-cons, All-drop, All-nil, All-take}
use Rattle.cu_model.specs.Days.{day}
use Rattle.cu_model.specs.Numbers.{number_value}
use Rattle.cu_model.specs.Queries.{fields_of_line}
use Rattle.cu_reach.specs.declared.lines.LatestAsked.{LatestAsked}
use Rattle.cu_reach.specs.declared.lines.ReachAsked.{ReachAsked}
use Rattle.cu_reach.specs.declared.lines.TheConstants.{LATEST_BY, MAX_TABLE}
use Rattle.cu_reach.specs.Departures.{latest_by}
use Rattle.cu_reach.specs.NodeFields.{TableValue}
use Rattle.cu_reach.specs.ReachLines.{checked_latest, checked_reach, checked_table, latest_of, latest_of_fields, reach_of, reach_of_fields, table_of, table_of_fields}
use Rattle.cu_reach.proofs.TableLaws.{both}

-- what a table asks for is within a network of so many nodes
pub record IsTableWithin (nodes : ℕ) (asked : TableValue) : Type 0 where
  pub sources : All (λ node. node < nodes) asked.sources
  pub targets : All (λ node. node < nodes) asked.targets
  pub second : asked.second < day

all_low : (nodes : ℕ) (numbers : List ℕ) → list_all (λ number. nat_lt number nodes) numbers ≡ true → All (λ node. node < nodes) numbers
all_low nodes [] e = All-nil (λ node. node < nodes)
all_low nodes (number ∷ numbers) e =
    let (low, lows) = both (nat_lt number nodes) (list_all (λ n. nat_lt n nodes) numbers) e in
    All-cons (λ node. node < nodes) number numbers (ltb-true number nodes low) (all_low nodes numbers lows)

-- what passes a check
passed : {T E : Type 0} (test : Bool) (checked : Result T E) (refusal : E) (value : T) → (if test then checked else Err refusal) ≡ Ok value
    → (test ≡ true) × (checked ≡ Ok value)
passed true checked refusal value e = (refl, e)
passed false checked refusal value e = absurd (cc e)

checked_within : (nodes second count : ℕ) (numbers : List ℕ) (asked : TableValue) → checked_table nodes second count numbers ≡ Ok asked → IsTableWithin nodes asked
checked_within nodes second count numbers asked e =
    let (low, late) = passed (list_all (λ number. nat_lt number nodes) numbers) _ _ asked e in
    let (early, large) = passed (nat_lt second day) _ _ asked late in
    let (few, is) = passed (nat_le (count * (length numbers - count)) MAX_TABLE) _ _ asked large in
    let all = all_low nodes numbers low in
    let table : TableValue = record { second = second; sources = take count numbers; targets = drop count numbers } in
    let same : table ≡ asked = cc is in
    subst (IsTableWithin nodes) same (record {
      sources = All-take (λ node. node < nodes) count numbers all;
      targets = All-drop (λ node. node < nodes) count numbers all;
      second = ltb-true second day early;
    })

fields_within : (nodes : ℕ) (fields : List (List ℕ)) (asked : TableValue) → table_of_fields nodes fields ≡ Ok asked → IsTableWithin nodes asked
fields_within nodes [] asked e = absurd (cc e)
fields_within nodes (word ∷ []) asked e = absurd (cc e)
fields_within nodes (word ∷ second ∷ []) asked e = absurd (cc e)
fields_within nodes (word ∷ second ∷ count ∷ rest) asked e =
    checked_within nodes (number_value second) (number_value count) (map number_value rest) asked (passed _ _ _ asked e).1

pub table_within : (nodes : ℕ) (line : List ℕ) (asked : TableValue) → table_of nodes line ≡ Ok asked → IsTableWithin nodes asked
table_within nodes line asked e = fields_within nodes (fields_of_line line) asked e

-- what a reach asks for
pub record IsReachWithin (nodes : ℕ) (asked : ReachAsked) : Type 0 where
  pub from : asked.from < nodes
  pub second : asked.second < day

checked_reach_within : (nodes from second : ℕ) (asked : ReachAsked) → checked_reach nodes from second ≡ Ok asked → IsReachWithin nodes asked
checked_reach_within nodes from second asked e =
    let (low, late) = passed (nat_lt from nodes) _ _ asked e in
    let (early, is) = passed (nat_lt second day) _ _ asked late in
    let found : ReachAsked = record { from = from; second = second } in
    let same : found ≡ asked = cc is in
    subst (IsReachWithin nodes) same (record { from = ltb-true from nodes low; second = ltb-true second day early })

reach_fields_within : (nodes : ℕ) (fields : List (List ℕ)) (asked : ReachAsked) → reach_of_fields nodes fields ≡ Ok asked → IsReachWithin nodes asked
reach_fields_within nodes [] asked e = absurd (cc e)
reach_fields_within nodes (word ∷ []) asked e = absurd (cc e)
reach_fields_within nodes (word ∷ from ∷ []) asked e = absurd (cc e)
reach_fields_within nodes (word ∷ from ∷ second ∷ []) asked e =
    checked_reach_within nodes (number_value from) (number_value second) asked (passed _ _ _ asked e).1
reach_fields_within nodes (word ∷ from ∷ second ∷ more ∷ rest) asked e = absurd (cc e)

pub reach_within : (nodes : ℕ) (line : List ℕ) (asked : ReachAsked) → reach_of nodes line ≡ Ok asked → IsReachWithin nodes asked
reach_within nodes line asked e = reach_fields_within nodes (fields_of_line line) asked e

-- what a latest departure asks for
pub record IsLatestWithin (nodes : ℕ) (asked : LatestAsked) : Type 0 where
  pub from : asked.from < nodes
  pub to : asked.to < nodes
  pub by : asked.by ≤ latest_by

checked_latest_within : (nodes from to by : ℕ) (asked : LatestAsked) → checked_latest nodes from to by ≡ Ok asked → IsLatestWithin nodes asked
checked_latest_within nodes from to by asked e =
    let (low, late) = passed (nat_lt from nodes && nat_lt to nodes) _ _ asked e in
    let (begin, end) = both (nat_lt from nodes) (nat_lt to nodes) low in
    let (early, is) = passed (nat_le by LATEST_BY) _ _ asked late in
    let found : LatestAsked = record { from = from; to = to; by = by } in
    let same : found ≡ asked = cc is in
    subst (IsLatestWithin nodes) same (record { from = ltb-true from nodes begin; to = ltb-true to nodes end; by = leb-true by LATEST_BY early })

latest_fields_within : (nodes : ℕ) (fields : List (List ℕ)) (asked : LatestAsked) → latest_of_fields nodes fields ≡ Ok asked → IsLatestWithin nodes asked
latest_fields_within nodes [] asked e = absurd (cc e)
latest_fields_within nodes (word ∷ []) asked e = absurd (cc e)
latest_fields_within nodes (word ∷ from ∷ []) asked e = absurd (cc e)
latest_fields_within nodes (word ∷ from ∷ to ∷ []) asked e = absurd (cc e)
latest_fields_within nodes (word ∷ from ∷ to ∷ by ∷ []) asked e =
    checked_latest_within nodes (number_value from) (number_value to) (number_value by) asked (passed _ _ _ asked e).1
latest_fields_within nodes (word ∷ from ∷ to ∷ by ∷ more ∷ rest) asked e = absurd (cc e)

pub latest_within : (nodes : ℕ) (line : List ℕ) (asked : LatestAsked) → latest_of nodes line ≡ Ok asked → IsLatestWithin nodes asked
latest_within nodes line asked e = latest_fields_within nodes (fields_of_line line) asked e
