-- Functions by the number of their list, as one more is kept.
use Rattle.std.proofs.Common.{◌≡◌, ◌≢◌, ◌<◌, ◌+◌, ◌∙◌, ℕ, List, Option, Some, None, refl, sym, ap, subst, arith, inl, inr, length, get_or}
use Rattle.std.specs.Prelude.{slice_get, slice_set, sum_by}
use Rattle.std.proofs.lemmas.Bool.{cases_eq}
use Rattle.std.proofs.lemmas.List.{length-set}
use Rattle.std.proofs.lemmas.List.Sums.{sum_by-set}
use Rattle.std.proofs.lemmas.Option.{slice_get-get_or}
use Rattle.cu_model.proofs.ListLaws.{get_here, get_other}
use Rattle.cu_arrival.specs.declared.runs.Run.{Run}
use Rattle.cu_interval.specs.declared.ways.Dir.{Dir}
use Rattle.cu_interval.specs.Hierarchies.{HierarchyValue, list_number}
use Rattle.cu_interval.proofs.EndsLaws.{number_parts, number_within}
use Rattle.cu_interval.specs.declared.shortcuts.Shortcut.{Shortcut}
use Rattle.cu_interval.specs.Shortcuts.{number_of}
use Rattle.cu_unpack.specs.Rebuilds.{IsKept, IsRebuiltFunction}
use Rattle.cu_unpack.specs.Steps.Rebuilding.{AreKept, IsMissing, KeepsOne}

-- a shortcut's list has a place among those of all edges
number_there : (h : HierarchyValue) (kept : List (Option (List Run))) (shortcut : Shortcut) → AreKept h kept → shortcut.edge < length h.edges → number_of shortcut < length kept
number_there h kept shortcut are lt = let within = number_within shortcut.edge (length h.edges) shortcut.dir lt in omega (arith, within, are.0)

one_more : (h : HierarchyValue) (kept : List (Option (List Run))) (shortcut : Shortcut) (runs : List Run) → shortcut.edge < length h.edges → AreKept h kept
    → IsRebuiltFunction h shortcut.edge shortcut.dir (Some runs) → AreKept h (slice_set kept (number_of shortcut) (Some runs))
one_more h kept shortcut runs lt are is = (
  length-set kept (number_of shortcut) (Some runs) ∙ are.0,
  λ edge dir other at.
      elim (cases_eq (list_number edge dir) (number_of shortcut)) [
        | inl same ↦
            let (edges, dirs) = number_parts edge shortcut.edge dir shortcut.dir same in
            let here = get_here kept (number_of shortcut) (Some runs) (number_there h kept shortcut are lt) in
            let at_number : slice_get (slice_set kept (number_of shortcut) (Some runs)) (number_of shortcut) ≡ Some (Some other) =
            subst (λ (n : ℕ). slice_get (slice_set kept (number_of shortcut) (Some runs)) n ≡ Some (Some other)) same at in
            let both : runs ≡ other = cc (here, at_number) in
            subst (λ (e : ℕ). IsRebuiltFunction h e dir (Some other)) (sym edges)
            (subst (λ (d : Dir). IsRebuiltFunction h shortcut.edge d (Some other)) (sym dirs)
            (subst (λ (r : List Run). IsRebuiltFunction h shortcut.edge shortcut.dir (Some r)) both is))
        | inr apart ↦ are.1 edge dir other (sym (get_other kept (number_of shortcut) (list_number edge dir) (Some runs) (λ same. apart (sym same))) ∙ at)
      ],
)

-- all that is kept is still right where one more is
pub are_kept : (h : HierarchyValue) (shortcut : Shortcut) (before now : List (Option (List Run))) → shortcut.edge < length h.edges → AreKept h before → KeepsOne h shortcut before now → AreKept h now
are_kept h shortcut before now lt are (runs, is, function) = subst (AreKept h) (sym is) (one_more h before shortcut runs lt are function)

-- what was missing still is, but for that one
pub still_missing : (h : HierarchyValue) (shortcut other : Shortcut) (before now : List (Option (List Run))) → shortcut.edge < other.edge → KeepsOne h shortcut before now
    → IsMissing h (IsKept before) other → IsMissing h (IsKept now) other
still_missing h shortcut other before now lt (runs, is, function) (ways, missing) = (
  ways,
  λ kept.
      let apart : number_of other ≢ number_of shortcut = λ same. let edges = (number_parts other.edge shortcut.edge other.dir shortcut.dir same).0 in omega (arith, lt, edges) in
      let here : slice_get (slice_set before (number_of shortcut) (Some runs)) (number_of other) ≡ Some (Some kept.0) =
      subst (λ (xs : List (Option (List Run))). slice_get xs (number_of other) ≡ Some (Some kept.0)) is kept.1 in
      missing (kept.0, sym (get_other before (number_of shortcut) (number_of other) (Some runs) (λ same. apart (sym same))) ∙ here),
)

-- how many functions aren't kept
abbrev pub missing_one : Option (List Run) → ℕ
missing_one None = 1
missing_one (Some runs) = 0

abbrev pub count_missing : List (Option (List Run)) → ℕ
count_missing kept = sum_by missing_one kept

none_there : (o : Option (List Run)) → ((runs : List Run) → o ≡ Some runs → ⊥) → missing_one o ≡ 1
none_there None missing = refl
none_there (Some runs) missing = absurd (missing runs refl)

-- one less is missing
pub fewer_missing : (h : HierarchyValue) (shortcut : Shortcut) (before now : List (Option (List Run))) → AreKept h before → IsMissing h (IsKept before) shortcut → KeepsOne h shortcut before now
    → count_missing before ≡ count_missing now + 1
fewer_missing h shortcut before now are (ways, missing) (runs, is, function) =
    let number = number_of shortcut in
    let inside = number_there h before shortcut are ways.0 in
    let one : missing_one (get_or before number None) ≡ 1 =
    none_there (get_or before number None) (λ found e. missing (found, slice_get-get_or before number None inside ∙ ap Some e)) in
    let sums = sum_by-set missing_one before number (Some runs) None inside in
    let same : count_missing now ≡ count_missing (slice_set before number (Some runs)) = ap count_missing is in
    omega (arith, one, sums, same)

-- a shortcut whose function is written is kept
pub kept_now : (h : HierarchyValue) (shortcut : Shortcut) (before now : List (Option (List Run))) → AreKept h before → shortcut.edge < length h.edges
    → KeepsOne h shortcut before now → IsKept now shortcut
kept_now h shortcut before now are lt (runs, is, function) =
    (runs, ap (λ (xs : List (Option (List Run))). slice_get xs (number_of shortcut)) is ∙ get_here before (number_of shortcut) (Some runs) (number_there h before shortcut are lt))
