-- Lists that are known, as one more is.
use Rattle.std.proofs.Common.{◌≡◌, ◌≢◌, ◌<◌, ◌+◌, ◌∙◌, ℕ, Bool, true, false, List, Option, Some, None, refl, sym, ap, subst, arith, inl, inr, length, get_or}
use Rattle.std.specs.Prelude.{slice_get, slice_set, sum_by}
use Rattle.std.proofs.lemmas.Bool.{cases_eq}
use Rattle.std.proofs.lemmas.List.{length-set}
use Rattle.std.proofs.lemmas.List.Sums.{sum_by-set}
use Rattle.std.proofs.lemmas.Option.{slice_get-get_or}
use Rattle.cu_model.proofs.ListLaws.{get_here, get_other}
use Rattle.cu_arrival.specs.declared.runs.Run.{Run}
use Rattle.cu_interval.specs.declared.ways.Dir.{Dir}
use Rattle.cu_interval.specs.Hierarchies.{HierarchyValue, list_number}
use Rattle.cu_interval.proofs.EndsLaws.{number_parts, number_within}
use Rattle.cu_interval.specs.declared.shortcuts.Shortcut.{Shortcut}
use Rattle.cu_interval.specs.Shortcuts.{number_of}
use Rattle.cu_unpack.specs.RebuiltRuns.{IsLearned, IsNeeded, IsSameList, IsSized, KeepsPacked, Learns, PackedValue}
use Rattle.cu_unpack.specs.Steps.Rebuilding.{HasWays}
use Rattle.cu_unpack.specs.Steps.PackedRebuilding.{HasPacked, IsKnown, IsUnknown, LearnsOne}

-- a shortcut's list has a place
known_within : (edges : ℕ) (value : PackedValue) (shortcut : Shortcut) → IsSized edges value → shortcut.edge < edges → number_of shortcut < length value.known
known_within edges value shortcut size lt = let within = number_within shortcut.edge edges shortcut.dir lt in omega (arith, within, size.known)

pub function_within : (edges : ℕ) (value : PackedValue) (shortcut : Shortcut) → IsSized edges value → shortcut.edge < edges → number_of shortcut < length value.functions
function_within edges value shortcut size lt = let within = number_within shortcut.edge edges shortcut.dir lt in omega (arith, within, size.functions)

-- a shortcut with a way that is known has a function
pub known_packed : (h : HierarchyValue) (asked : ℕ) (value : PackedValue) → IsSized (length h.edges) value → KeepsPacked h (IsNeeded h.edges asked) value → (shortcut : Shortcut) → HasWays h shortcut
    → IsNeeded h.edges asked shortcut.edge → IsKnown value shortcut → HasPacked value shortcut
known_packed h asked value size keeps shortcut ways needed known =
    some_packed (get_or value.functions (number_of shortcut) None) (slice_get-get_or value.functions (number_of shortcut) None (function_within (length h.edges) value shortcut size ways.0))
  where
    some_packed : (function : Option (List Run)) → slice_get value.functions (number_of shortcut) ≡ Some function → HasPacked value shortcut
    some_packed None at = absurd (ways.1 (keeps shortcut.edge shortcut.dir needed known None at))
    some_packed (Some packed) at = (packed, at)

module _ (h : HierarchyValue) (shortcut : Shortcut) (before now : PackedValue) (size : IsSized (length h.edges) before) (lt : shortcut.edge < length h.edges)
    (one : LearnsOne h shortcut before now) where
  now_known : now.known ≡ slice_set before.known (number_of shortcut) true
  now_known = ap (λ (v : PackedValue). v.known) one.1

  now_functions : now.functions ≡ slice_set before.functions (number_of shortcut) one.0
  now_functions = ap (λ (v : PackedValue). v.functions) one.1

  pub one_sized : IsSized (length h.edges) now
  one_sized = record {
    known = ap length now_known ∙ length-set before.known (number_of shortcut) true ∙ size.known;
    functions = ap length now_functions ∙ length-set before.functions (number_of shortcut) one.0 ∙ size.functions;
  }

  -- the shortcut is known
  pub one_known : IsKnown now shortcut
  one_known =
      ap (λ (ks : List Bool). slice_get ks (number_of shortcut)) now_known ∙ get_here before.known (number_of shortcut) true (known_within (length h.edges) before shortcut size lt)

  one_function : slice_get now.functions (number_of shortcut) ≡ Some one.0
  one_function =
      ap (λ (fs : List (Option (List Run))). slice_get fs (number_of shortcut)) now_functions
      ∙ get_here before.functions (number_of shortcut) one.0 (function_within (length h.edges) before shortcut size lt)

  -- other lists are as they were
  one_others : (number : ℕ) → number ≢ number_of shortcut → IsSameList before now number
  one_others number apart = (
    ap (λ (ks : List Bool). slice_get ks number) now_known ∙ get_other before.known (number_of shortcut) number true (λ same. apart (sym same)),
    ap (λ (fs : List (Option (List Run))). slice_get fs number) now_functions ∙ get_other before.functions (number_of shortcut) number one.0 (λ same. apart (sym same)),
  )

  -- so it is learned
  pub learns_one : (asked : ℕ) → IsNeeded h.edges asked shortcut.edge → (IsKnown before shortcut → ⊥) → Learns h asked before now
  learns_one asked needed unknown edge dir =
      elim (cases_eq (list_number edge dir) (number_of shortcut)) [
        | inr apart ↦ inl (one_others (list_number edge dir) apart)
        | inl same ↦
            let (edges, dirs) = number_parts edge shortcut.edge dir shortcut.dir same in
            inr (subst (λ (e : ℕ). IsLearned h asked e dir before now) (sym edges) (subst (λ (d : Dir). IsLearned h asked shortcut.edge d before now) (sym dirs) here))
      ]
    where
      here : IsLearned h asked shortcut.edge shortcut.dir before now
      here = record { needed = needed; unknown = unknown; known = one_known; function = one.0; at = one_function; rebuilt = one.2 }

  -- what was unknown of higher edges still is
  pub still_unknown : (asked : ℕ) (other : Shortcut) → shortcut.edge < other.edge → IsUnknown h asked before other → IsUnknown h asked now other
  still_unknown asked other above ((ways, unknown), needed) =
      let apart : number_of other ≢ number_of shortcut = λ same. let edges = (number_parts other.edge shortcut.edge other.dir shortcut.dir same).0 in omega (arith, above, edges) in
      ((ways, λ known. unknown (sym (one_others (number_of other) apart).0 ∙ known)), needed)

-- how many lists aren't known
abbrev pub unknown_one : Bool → ℕ
unknown_one true = 0
unknown_one false = 1

abbrev pub count_unknown : PackedValue → ℕ
count_unknown value = sum_by unknown_one value.known

unknown_there : (known : Bool) → (known ≡ true → ⊥) → unknown_one known ≡ 1
unknown_there true unknown = absurd (unknown refl)
unknown_there false unknown = refl

-- one less is unknown
pub fewer_unknown : (h : HierarchyValue) (shortcut : Shortcut) (before now : PackedValue) → IsSized (length h.edges) before → shortcut.edge < length h.edges → LearnsOne h shortcut before now
    → (IsKnown before shortcut → ⊥) → count_unknown before ≡ count_unknown now + 1
fewer_unknown h shortcut before now size lt one unknown =
    let number = number_of shortcut in
    let inside = known_within (length h.edges) before shortcut size lt in
    let is_one : unknown_one (get_or before.known number true) ≡ 1 =
    unknown_there (get_or before.known number true) (λ e. unknown (slice_get-get_or before.known number true inside ∙ ap Some e)) in
    let sums = sum_by-set unknown_one before.known number true true inside in
    let same : count_unknown now ≡ sum_by unknown_one (slice_set before.known number true) = ap (λ (v : PackedValue). sum_by unknown_one v.known) one.1 in
    omega (arith, is_one, sums, same)

-- what is learned first and then is learned
pub learns_both : (h : HierarchyValue) (asked : ℕ) (start before now : PackedValue) → Learns h asked start before → Learns h asked before now → Learns h asked start now
learns_both h asked start before now first then edge dir =
    elim (first edge dir) [
      | inl same ↦ elim (then edge dir) [
        | inl too ↦ inl (too.0 ∙ same.0, too.1 ∙ same.1)
        | inr learned ↦ inr record {
          needed = learned.needed;
          unknown = λ known. learned.unknown (same.0 ∙ known);
          known = learned.known;
          function = learned.function;
          at = learned.at;
          rebuilt = learned.rebuilt;
        }
      ]
      | inr learned ↦ elim (then edge dir) [
        | inr again ↦ absurd (again.unknown learned.known)
        | inl same ↦ inr record {
          needed = learned.needed;
          unknown = learned.unknown;
          known = same.0 ∙ learned.known;
          function = learned.function;
          at = same.1 ∙ learned.at;
          rebuilt = learned.rebuilt;
        }
      ]
    ]
