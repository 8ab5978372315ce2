-- The calls of a day: those of one rank after the other.
use Rattle.std.proofs.Common.{◌≡◌, ◌<◌, ◌+◌, ◌∙◌, ◌++◌, ℕ, List, [], ◌∷◌, sym, ap, subst, append_assoc, map, reverse}
use Rattle.std.specs.List.{AllPairs, range_with_len}
use Rattle.std.proofs.lemmas.List.{append-nil}
use Rattle.std.proofs.lemmas.List.FromFn.{map-range_with_len_more}
use Rattle.std.proofs.lemmas.Grind.{flat_map-append}
use Rattle.cu_chordal.specs.Graphs.{ChordalValue}
use Rattle.cu_chordal.proofs.Members.{all_from_members, member_at}
use Rattle.cu_interval.specs.declared.ways.Dir.{Dir}
use Rattle.cu_interval.specs.declared.ways.Dir.TheVariants.{Up, Down}
use Rattle.cu_elimtree.specs.SweepArcs.{ancestors_in}
use Rattle.cu_interval.specs.Hierarchies.{HierarchyValue, IsHierarchy, graph_of}
use Rattle.cu_interval.specs.declared.shortcuts.Shortcut.{Shortcut}
use Rattle.cu_day.specs.DayCalls.{AddsSweepArcs, IsArcCall}
use Rattle.cu_sweep.specs.LedCalls.{arc_by, arcs_of_rank, arcs_of_ranks}
use Rattle.cu_sweep.proofs.ArcsOnce.{rise_apart, turned_apart}
use Rattle.cu_sweep.proofs.Behind.{turned_back}
use Rattle.cu_sweep.proofs.SomeArcs.{once_of_ranks, ranks_arc}

-- one more edge of a rank
pub one_call : (before mid after : List Shortcut) (dir : Dir) (first i edge : ℕ)
    → mid ≡ before ++ map (arc_by dir) (range_with_len first i) → edge ≡ first + i
    → after ≡ mid ++ (arc_by dir edge ∷ [])
    → after ≡ before ++ map (arc_by dir) (range_with_len first (i + 1))
one_call before mid after dir first i edge so is more =
    more ∙ ap (λ (cs : List Shortcut). cs ++ (arc_by dir edge ∷ [])) so
    ∙ append_assoc before (map (arc_by dir) (range_with_len first i)) (arc_by dir edge ∷ [])
    ∙ ap (λ (cs : List Shortcut). before ++ cs) (sym (map-range_with_len_more (arc_by dir) first i edge (sym is)))

-- one more rank
pub one_rank : (h : HierarchyValue) (before mid after : List Shortcut) (dir : Dir) (done : List ℕ) (x : ℕ)
    → mid ≡ before ++ arcs_of_ranks h dir done → after ≡ mid ++ arcs_of_rank h dir x
    → after ≡ before ++ arcs_of_ranks h dir (done ++ (x ∷ []))
one_rank h before mid after dir done x so more =
    more ∙ ap (λ (cs : List Shortcut). cs ++ arcs_of_rank h dir x) so ∙ append_assoc before (arcs_of_ranks h dir done) (arcs_of_rank h dir x)
    ∙ ap (λ (cs : List Shortcut). before ++ cs)
    (ap (λ (cs : List Shortcut). arcs_of_ranks h dir done ++ cs) (sym (append-nil (arcs_of_rank h dir x)))
    ∙ sym (flat_map-append (arcs_of_rank h dir) done (x ∷ [])))

pub adds_sweep_arcs : (h : HierarchyValue) → IsHierarchy h → (graph : ChordalValue) (from to : ℕ) (before mid now : List Shortcut)
    → graph ≡ graph_of h
    → AllPairs (λ a b. a < b) (ancestors_in (graph_of h) from) → AllPairs (λ a b. a < b) (ancestors_in (graph_of h) to)
    → mid ≡ before ++ arcs_of_ranks h Up (ancestors_in (graph_of h) from)
    → now ≡ mid ++ arcs_of_ranks h Down (reverse (ancestors_in (graph_of h) to))
    → AddsSweepArcs graph from to before now
adds_sweep_arcs h f graph from to before mid now same rise_from rise_to up down =
    let ups = arcs_of_ranks h Up (ancestors_in (graph_of h) from) in
    let downs = arcs_of_ranks h Down (reverse (ancestors_in (graph_of h) to)) in
    subst (λ (g : ChordalValue). AddsSweepArcs g from to before now) (sym same) (record {
      ups = ups;
      downs = downs;
      added = down ∙ ap (λ (cs : List Shortcut). cs ++ downs) up ∙ append_assoc before ups downs;
      up = all_from_members (IsArcCall (graph_of h) from Up) ups (λ c m.
          let (x, member, k) = ranks_arc h f Up (ancestors_in (graph_of h) from) c m in
          (k.same, record { low = x; high = k.high }, k.at, (member, member_at h.edges (record { low = x; high = k.high }) c.edge k.at)));
      down = all_from_members (IsArcCall (graph_of h) to Down) downs (λ c m.
          let (x, member, k) = ranks_arc h f Down (reverse (ancestors_in (graph_of h) to)) c m in (
            k.same,
            record { low = x; high = k.high },
            k.at,
            (turned_back (ancestors_in (graph_of h) to) x member, member_at h.edges (record { low = x; high = k.high }) c.edge k.at),
          ));
      once_up = once_of_ranks h f Up (ancestors_in (graph_of h) from) (rise_apart (ancestors_in (graph_of h) from) rise_from);
      once_down = once_of_ranks h f Down (reverse (ancestors_in (graph_of h) to)) (turned_apart (ancestors_in (graph_of h) to) (rise_apart (ancestors_in (graph_of h) to) rise_to));
    })
