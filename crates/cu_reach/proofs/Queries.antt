-- Calls of queries that are told one after another.
use Rattle.std.proofs.Common.{◌≡◌, ◌≤◌, ◌+◌, ℕ, List, [], ◌∷◌, ◌++◌, Option, sym, subst, arith}
use Rattle.std.specs.Prelude.{flat_map}
use Rattle.std.proofs.lemmas.List.{append-nil, length-append}
use Rattle.std.proofs.lemmas.List.Concat.{flat_map-append}
use Rattle.cu_interval.specs.declared.relaxing.Call.{Call}
use Rattle.cu_interval.specs.Hierarchies.{HierarchyValue}
use Rattle.cu_sweep.specs.Sweeps.{AddsAll, sweep_calls, until_long}
use Rattle.cu_sweep.proofs.Telling.{adds_none, adds_then}
use Rattle.cu_reach.specs.Departures.{AddsQueries}

abbrev pub told_by : HierarchyValue → ℕ → ℕ → ℕ → List Call
told_by h from to second = until_long h (sweep_calls h from to second)

pub no_queries : (h : HierarchyValue) (from to : ℕ) (before : Option (List Call)) → AddsQueries h from to 0 before before
no_queries h from to before = ([], omega arith, adds_none before)

pub one_query : (h : HierarchyValue) (from to second : ℕ) (before now : Option (List Call)) → AddsAll before now (told_by h from to second)
    → AddsQueries h from to 1 before now
one_query h from to second before now told =
    (second ∷ [], omega arith, subst (λ (calls : List Call). AddsAll before now calls) (sym (append-nil (told_by h from to second))) told)

pub queries_then : (h : HierarchyValue) (from to first more : ℕ) (before mid now : Option (List Call)) → AddsQueries h from to first before mid
    → AddsQueries h from to more mid now → AddsQueries h from to (first + more) before now
queries_then h from to first more before mid now a b =
    let joined = adds_then before mid now (flat_map (told_by h from to) a.0) (flat_map (told_by h from to) b.0) a.2 b.2 in (
      a.0 ++ b.0,
      omega (arith, length-append a.0 b.0, a.1, b.1),
      subst (λ (calls : List Call). AddsAll before now calls) (sym (flat_map-append (told_by h from to) a.0 b.0)) joined,
    )

pub queries_within : (h : HierarchyValue) (from to few most : ℕ) (before now : Option (List Call)) → few ≤ most → AddsQueries h from to few before now
    → AddsQueries h from to most before now
queries_within h from to few most before now le a = (a.0, omega (arith, le, a.1), a.2)

-- the same of a hierarchy that stayed as it was
pub queries_of : (h now_held : HierarchyValue) (from to most : ℕ) (before now : Option (List Call)) → now_held ≡ h → AddsQueries now_held from to most before now
    → AddsQueries h from to most before now
queries_of h now_held from to most before now same a = subst (λ (held : HierarchyValue). AddsQueries held from to most before now) same a

pub one_more : (h now_held : HierarchyValue) (from to second count most : ℕ) (before mid now : Option (List Call)) → now_held ≡ h
    → AddsQueries h from to count before mid → AddsAll mid now (told_by now_held from to second) → count + 1 ≤ most → AddsQueries h from to most before now
one_more h now_held from to second count most before mid now same a told le =
    queries_within h from to (count + 1) most before now le
    (queries_then h from to count 1 before mid now a (queries_of h now_held from to 1 mid now same (one_query now_held from to second mid now told)))
