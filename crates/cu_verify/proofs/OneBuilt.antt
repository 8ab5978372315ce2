-- A network and an order have one built hierarchy.
use Rattle.std.proofs.Common.{◌≡◌, ◌<◌, ◌*◌, ◌∙◌, ℕ, List, [], length, get_or, sym, subst, arith}
use Rattle.std.specs.Prelude.{slice_get}
use Rattle.std.proofs.lemmas.List.{ext_get_or}
use Rattle.cu_interval.specs.declared.ways.Entry.{Entry}
use Rattle.cu_interval.specs.FirstWays.{IsCandidate, Arrives}
use Rattle.cu_interval.specs.Hierarchies.{HierarchyValue, IsBuilt, end_of, entries_or_none, list_of, start_of}
use Rattle.cu_interval.proofs.Unique.{runs_unique}
use Rattle.cu_interval.proofs.EndsLaws.{number_edge}
use Rattle.cu_resettled.proofs.ResettledOnce.{list_at}
use Rattle.cu_verify.specs.Verdicts.{with_lists}

module _ (h : HierarchyValue) (lists : List (List Entry)) (first : IsBuilt h) (second : IsBuilt (with_lists h lists)) where
  -- at each number stands the same list
  same_at : (k : ℕ) → k < 2 * length h.edges → get_or h.lists k [] ≡ get_or lists k []
  same_at k lt =
      let (edge, dir, ends, number, at) = number_edge h.edges k lt in
      let u = start_of ends dir in
      let v = end_of ends dir in
      let same : list_of h edge dir ≡ list_of (with_lists h lists) edge dir = runs_unique (IsCandidate h.network h.order u v) (Arrives h.network h.order u v)
      (list_of h edge dir) (list_of (with_lists h lists) edge dir) (first.built edge dir ends at) (second.built edge dir ends at) in
      list_at h.lists k ∙ subst (λ (n : ℕ). entries_or_none (slice_get h.lists n) ≡ entries_or_none (slice_get lists n)) (sym number) same ∙ sym (list_at lists k)

  -- two built hierarchies that differ in nothing but their lists have the same lists
  pub one_built : h.lists ≡ lists
  one_built =
      let count = first.sound.lists in
      ext_get_or [] h.lists lists (count ∙ sym second.sound.lists) (λ k lt. same_at k (omega (arith, count, lt)))
