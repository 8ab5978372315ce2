-- What is known stays so in a hierarchy, as lists are put and forgotten.
use Rattle.std.proofs.Common.{◌≡◌, ◌-◌, ◌++◌, ◌∙◌, ℕ, List, [], ◌∷◌, Option, Some, None, sym, ap, subst, arith, inl, inr, length, get_or, take}
use Rattle.std.specs.Prelude.{slice_set, All}
use Rattle.std.proofs.lemmas.Bool.{cases_eq}
use Rattle.std.proofs.lemmas.List.{length_push, length-set, get_or-set_other, get_or-set_same, take_at}
use Rattle.std.proofs.lemmas.Option.{get_or_from_slice_get, slice_get-get_or, slice_get_within}
use Rattle.cu_arrival.specs.declared.runs.Run.{Run}
use Rattle.cu_runs.specs.PackedRuns.{end_run}
use Rattle.cu_interval.specs.declared.ways.Dir.{Dir}
use Rattle.cu_interval.specs.Hierarchies.{HierarchyValue, list_number}
use Rattle.cu_store.specs.Known.{IsKnownOf, KnownFunction, Knows, ended}

-- nothing is known at first
pub knows_nothing : (h : HierarchyValue) (known : List (Option (Option KnownFunction))) → All (λ (k : Option (Option KnownFunction)). k ≡ None) known → Knows h known
knows_nothing h known none edge dir function at =
    let n = list_number edge dir in
    let is = get_or_from_slice_get known n (Some function) None at in
    let blank = none n None (slice_get_within known n (Some function) at) in
    absurd (cc (is, blank))

-- where one list is written with what is so of it
pub knows_set : (h : HierarchyValue) (known : List (Option (Option KnownFunction))) (list : ℕ) (what : Option (Option KnownFunction)) → Knows h known
    → ((edge : ℕ) (dir : Dir) (function : Option KnownFunction) → list_number edge dir ≡ list → what ≡ Some function → IsKnownOf h edge dir function)
    → Knows h (slice_set known list what)
knows_set h known list what knows one edge dir function at =
    let n = list_number edge dir in
    let long = length-set known list what in
    let within = slice_get_within (slice_set known list what) n (Some function) at in
    let is = get_or_from_slice_get (slice_set known list what) n (Some function) None at in
    elim (cases_eq n list) [
      | inl same ↦
          let written : get_or (slice_set known list what) n None ≡ what = subst (λ (i : ℕ). get_or (slice_set known list what) i None ≡ what) (sym same) (get_or-set_same known list what None (omega (arith, within, long, same))) in
          one edge dir function same (sym written ∙ is)
      | inr other ↦
          let read : get_or known n None ≡ Some function = sym (get_or-set_other known list n what None other) ∙ is in
          knows edge dir function (slice_get-get_or known n None (omega (arith, within, long)) ∙ ap Some read)
    ]

-- a list that is forgotten
pub knows_forget : (h : HierarchyValue) (known : List (Option (Option KnownFunction))) (list : ℕ) → Knows h known → Knows h (slice_set known list None)
knows_forget h known list knows = knows_set h known list None knows (λ edge dir function same e. absurd (cc e))

-- a function whose end is said plainly is as it was
pub ended_same : (packed runs : List Run) → packed ≡ runs ++ end_run ∷ [] → ended packed ≡ packed
ended_same packed runs e =
    let long = length_push runs end_run in
    let size = ap length e in
    let count : length runs ≡ length packed - 1 = omega (arith, long, size) in
    let front : take (length packed - 1) packed ≡ runs = ap (take (length packed - 1)) e ∙ take_at runs (end_run ∷ []) (length packed - 1) count in
    ap (λ (rs : List Run). rs ++ end_run ∷ []) front ∙ sym e
