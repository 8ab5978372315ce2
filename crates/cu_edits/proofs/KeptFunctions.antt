-- A list's function that is put among those of its hierarchy is one of them.
use Rattle.std.proofs.Common.{◌≡◌, ◌<◌, ◌∙◌, ℕ, List, true, Option, Some, inl, inr, length, subst, sym}
use Rattle.std.specs.Prelude.{slice_get, slice_set}
use Rattle.std.proofs.lemmas.Bool.{cases_eq}
use Rattle.std.proofs.lemmas.List.{length-set}
use Rattle.cu_model.proofs.ListLaws.{get_here, get_other}
use Rattle.cu_arrival.specs.declared.runs.Run.{Run}
use Rattle.cu_interval.specs.declared.ways.Dir.{Dir}
use Rattle.cu_interval.specs.Hierarchies.{HierarchyValue, list_number}
use Rattle.cu_interval.proofs.EndsLaws.{number_parts}
use Rattle.cu_unpack.specs.RebuiltRuns.{IsRebuiltRuns, PackedValue, with_list}
use Rattle.cu_edits.specs.Learned.{ArePackedOf}

pub put_packed : (h : HierarchyValue) (packed : PackedValue) (edge : ℕ) (dir : Dir) (function : Option (List Run)) → list_number edge dir < length packed.known
    → list_number edge dir < length packed.functions → ArePackedOf h packed → IsRebuiltRuns h edge dir function → ArePackedOf h (with_list packed (list_number edge dir) function)
put_packed h packed edge dir function in_known in_functions are rebuilt =
    let n = list_number edge dir in
    record {
      size = record { known = length-set packed.known n true ∙ are.size.known; functions = length-set packed.functions n function ∙ are.size.functions };
      keeps = λ e d own is given at. elim (cases_eq n (list_number e d)) [
        | inl same ↦
            let (edges, dirs) = number_parts edge e dir d same in
            let here = subst (λ (k : ℕ). slice_get (slice_set packed.functions n function) k ≡ Some function) same (get_here packed.functions n function in_functions) in
            let equal : function ≡ given = cc (here, at) in
            subst (λ (x : ℕ). IsRebuiltRuns h x d given) edges (subst (λ (x : Dir). IsRebuiltRuns h edge x given) dirs (subst (IsRebuiltRuns h edge dir) equal rebuilt))
        | inr other ↦
            are.keeps e d own (sym (get_other packed.known n (list_number e d) true other) ∙ is) given (sym (get_other packed.functions n (list_number e d) function other) ∙ at)
      ];
      unknown = λ number no. elim (cases_eq n number) [
        | inl same ↦
            let yes = subst (λ (k : ℕ). slice_get (slice_set packed.known n true) k ≡ Some true) same (get_here packed.known n true in_known) in
            absurd (cc (yes, no))
        | inr other ↦ get_other packed.functions n number function other ∙ are.unknown number (sym (get_other packed.known n number true other) ∙ no)
      ];
    }
