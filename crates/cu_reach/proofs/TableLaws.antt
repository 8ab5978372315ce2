-- What the fields of a line ask for a table.
use Rattle.std.proofs.Common.{◌≡◌, ◌≤◌, ◌*◌, ◌-◌, ◌∙◌, ◌^◌, ℕ, Bool, true, false, List, [], ◌∷◌, Some, None, length, refl, sym, ap, arith}
use Rattle.std.specs.Prelude.{◌&&◌, All, Ok, Result, bytes_eq, codes, drop, if◌then◌else◌, map, nat_le, nat_lt, take}
use Rattle.std.specs.List.{list_all}
use Rattle.std.proofs.lemmas.Bool.{ltb-true}
use Rattle.std.proofs.lemmas.Bool.Decides.{nat_tests}
use Rattle.std.proofs.lemmas.List.{drop-map, length-drop, length-map, take-map, take_rest}
use Rattle.std.proofs.lemmas.List.Elements.{All-cons, All-drop, All-take}
use Rattle.cu_model.specs.Days.{day}
use Rattle.cu_model.specs.declared.numbers.Number.{Number}
use Rattle.cu_model.specs.Numbers.{as_number, is_number_word, number_of, number_value, value_below}
use Rattle.cu_reach.specs.declared.lines.ManyRefusal.{ManyRefusal}
use Rattle.cu_reach.specs.declared.lines.TheConstants.{MAX_TABLE}
use Rattle.cu_reach.specs.declared.tables.Scan.{Scan}
use Rattle.cu_reach.specs.NodeFields.{IsNodeWord, TableValue}
use Rattle.cu_reach.specs.ReachLines.{checked_table, table_of_fields}
use Rattle.cu_reach.specs.Steps.TableFields.{IsScanned}

pub both : (a b : Bool) → (a && b) ≡ true → (a ≡ true) × (b ≡ true)
both true b e = (refl, e)
both false b e = absurd (cc e)

-- number words of nodes that are all below a number of nodes
pub node_words : (nodes : ℕ) → nodes ≤ 2 ^ 32 → (fields : List (List ℕ)) → list_all is_number_word fields ≡ true
    → list_all (λ number. nat_lt number nodes) (map number_value fields) ≡ true → All IsNodeWord fields
node_words nodes few [] numbers below = λ k d lt. absurd (omega (arith, lt))
node_words nodes few (word ∷ fields) numbers below =
    let (number, more) = both (is_number_word word) (list_all is_number_word fields) numbers in
    let (low, lows) = both (nat_lt (number_value word) nodes) (list_all (λ n. nat_lt n nodes) (map number_value fields)) below in
    All-cons IsNodeWord word fields (record { number = number; fits = omega (arith, ltb-true (number_value word) nodes low, few) })
    (node_words nodes few fields more lows)

-- the first of them, and those behind them
pub parts_of : (nodes : ℕ) (fields more : List (List ℕ)) (scan : Scan) (sources : ℕ) → nodes ≤ 2 ^ 32 → IsScanned nodes fields scan → scan.in_range ≡ true
    → sources ≤ scan.count → more ≡ drop sources fields
    → ((sources ≤ length fields) × All IsNodeWord (take sources fields))
    × ((scan.count - sources ≤ length more) × All IsNodeWord (take (scan.count - sources) more))
parts_of nodes fields more scan sources few scanned in_range within behind =
    let all = node_words nodes few fields scanned.numbers (sym scanned.below ∙ in_range) in
    let long = ap length behind in
    rw behind (
      (omega (arith, within, scanned.counted), All-take IsNodeWord sources fields all),
      (omega (arith, within, scanned.counted, length-drop sources fields), All-take IsNodeWord (scan.count - sources) (drop sources fields) (All-drop IsNodeWord sources fields all)),
    )

is_second : (s second : ℕ) → (below : Bool) → Some second ≡ (if below then Some s else None) → (below ≡ true) × (second ≡ s)
is_second s second true e = (refl, cc e)
is_second s second false e = absurd (cc e)

not_large : (most entries : ℕ) → nat_lt most entries ≡ false → nat_le entries most ≡ true
not_large most entries e = grind (arith, nat_tests)

-- these parts are the table that passes its checks
pub table_found : (nodes s second sources : ℕ) (fields more : List (List ℕ)) (scan : Scan) → IsScanned nodes fields scan → scan.in_range ≡ true
    → Some second ≡ value_below s day → sources ≤ scan.count → nat_lt MAX_TABLE (sources * (scan.count - sources)) ≡ false → more ≡ drop sources fields
    → Ok (record { second = second; sources = map number_value (take sources fields); targets = map number_value (take (scan.count - sources) more) })
    ≡ checked_table nodes s sources (map number_value fields)
table_found nodes s second sources fields more scan scanned in_range is within small behind =
    let (early, same) = is_second s second (nat_lt s day) is in
    let all = sym scanned.below ∙ in_range in
    let count = length-map fields number_value in
    let entries = not_large MAX_TABLE (sources * (scan.count - sources)) small in
    let rest = take_rest fields sources in
    let few = rw scanned.counted at entries in
    rw (all, early, count, few, behind, scanned.counted, rest, take-map number_value sources fields, drop-map number_value sources fields, same) refl

number_read : (word : List ℕ) (number : Number) (is_word : Bool) → Some number ≡ (if is_word then Some (as_number (number_value word)) else None)
    → (is_word ≡ true) × (number ≡ as_number (number_value word))
number_read word number true e = (refl, cc e)
number_read word number false e = absurd (cc e)

-- fields whose words and numbers are read ask for the table of these
pub table_read : (nodes sources : ℕ) (fields rest : List (List ℕ)) (word second count : List ℕ) (scan : Scan) (s c : Number) (answer : Result TableValue ManyRefusal)
    → fields ≡ word ∷ second ∷ count ∷ rest → true ≡ bytes_eq word (codes "t") → Some s ≡ number_of second → Some c ≡ number_of count
    → IsScanned nodes rest scan → ((value : ℕ) → c ≡ as_number value → Some sources ≡ (if nat_le value scan.count then Some value else None))
    → ((n t : ℕ) → IsScanned n rest scan → s ≡ as_number t → answer ≡ checked_table n t sources (map number_value rest))
    → answer ≡ table_of_fields nodes fields
table_read nodes sources fields rest word second count scan s c answer cut is_table is_second_word is_count scanned within asked =
    let (a, one) = number_read second s (is_number_word second) is_second_word in
    let (b, two) = number_read count c (is_number_word count) is_count in
    let (le, same) = is_second (number_value count) sources (nat_le (number_value count) scan.count) (within (number_value count) two) in
    let fits = rw scanned.counted at le in
    asked nodes (number_value second) scanned one ∙ (rw (cut, sym is_table, a, b, scanned.numbers, fits, same) refl)
