-- The calls of one rank after another, told up to the first whose walk is too long.
use Rattle.std.proofs.Common.{◌≡◌, ◌∙◌, ◌<◌, ◌+◌, ℕ, List, [], ◌∷◌, ◌++◌, Option, Some, None, refl, sym, ap, subst, length}
use Rattle.std.specs.Prelude.{filter_map, is_some, slice_get, true, false}
use Rattle.std.proofs.lemmas.List.Elements.{filter_map-append}
use Rattle.std.proofs.lemmas.Option.{slice_get_within}
use Rattle.cu_chordal.specs.Graphs.{first_edge_of, up_of}
use Rattle.cu_chordal.proofs.Tables.{numbered}
use Rattle.cu_interval.specs.declared.relaxing.Call.{Call}
use Rattle.cu_interval.specs.declared.relaxing.Relaxed.{Relaxed}
use Rattle.cu_interval.specs.declared.relaxing.Relaxed.TheVariants.{At, NoWay, Long}
use Rattle.cu_interval.specs.Hierarchies.{HierarchyValue, IsHierarchy, number_from}
use Rattle.cu_interval.proofs.Lookups.{number_finds}
use Rattle.cu_interval.proofs.EndsLaws.{ends_range}
use Rattle.cu_sweep.specs.Sweeps.{AddsAll, answered, ended_by, first_long, long_or, until_long}
use Rattle.cu_sweep.specs.Places.{calls_of_some}
use Rattle.cu_sweep.specs.Steps.Sweeping.{long_by}
use Rattle.cu_sweep.proofs.Telling.{adds_none, adds_then, first_before, long_ends, until_before, until_none}

-- the calls to or from these neighbours were told, and none of their walks was too long
pub record IsRow (h : HierarchyValue) (f : ℕ → Option Call) (part : List ℕ) (before now : Option (List Call)) : Type 0 where
  pub short : first_long h (filter_map f part) ≡ None
  pub told : AddsAll before now (filter_map f part)

one_call : (f : ℕ → Option Call) (y : ℕ) (o : Option Call) → f y ≡ o → filter_map f (y ∷ []) ≡ calls_of_some o
one_call f y None e = rw e refl
one_call f y (Some call) e = rw e refl

one_more : (f : ℕ → Option Call) (part : List ℕ) (y : ℕ) (o : Option Call) → f y ≡ o → filter_map f (part ++ (y ∷ [])) ≡ filter_map f part ++ calls_of_some o
one_more f part y o e = filter_map-append f part (y ∷ []) ∙ ap (λ (calls : List Call). filter_map f part ++ calls) (one_call f y o e)

ended_one : (r : Relaxed) (call : Call) → ended_by r call [] ≡ call ∷ []
ended_one (At t) call = refl
ended_one NoWay call = refl
ended_one Long call = refl

until_one : (h : HierarchyValue) (o : Option Call) → until_long h (calls_of_some o) ≡ calls_of_some o
until_one h None = refl
until_one h (Some call) = ended_one (answered h call) call

-- what a single call's answer says
pub long_call : (r : Relaxed) (call : Call) → long_or r call None ≡ long_by r (Some call)
long_call (At t) call = refl
long_call NoWay call = refl
long_call Long call = refl

module _ (h : HierarchyValue) (f : ℕ → Option Call) where
  pub row_none : (calls : Option (List Call)) → IsRow h f [] calls calls
  row_none calls = record { short = refl; told = adds_none calls }

  pub row_more : (part : List ℕ) (before now after : Option (List Call)) (y : ℕ) (o : Option Call) → IsRow h f part before now → f y ≡ o
      → AddsAll now after (calls_of_some o) → first_long h (calls_of_some o) ≡ None → IsRow h f (part ++ (y ∷ [])) before after
  row_more part before now after y o row e told short =
      let same = one_more f part y o e in
      record {
        short = ap (first_long h) same ∙ first_before h (filter_map f part) (calls_of_some o) row.short ∙ short;
        told = subst (AddsAll before after) (sym same) (adds_then before now after (filter_map f part) (calls_of_some o) row.told told);
      }

  pub row_ends : (part : List ℕ) (before now after : Option (List Call)) (y : ℕ) (o : Option Call) (call : Call) (rest all : List ℕ)
      → IsRow h f part before now → f y ≡ o
      → AddsAll now after (calls_of_some o) → first_long h (calls_of_some o) ≡ Some call → all ≡ (part ++ (y ∷ [])) ++ rest
      → (first_long h (filter_map f all) ≡ Some call) × AddsAll before after (until_long h (filter_map f all))
  row_ends part before now after y o call rest all row e told long whole =
      let same = one_more f part y o e in
      let parted : filter_map f all ≡ (filter_map f part ++ calls_of_some o) ++ filter_map f rest =
      ap (filter_map f) whole ∙ filter_map-append f (part ++ (y ∷ [])) rest ∙ ap (λ (calls : List Call). calls ++ filter_map f rest) same in
      let first : first_long h (filter_map f part ++ calls_of_some o) ≡ Some call = first_before h (filter_map f part) (calls_of_some o) row.short ∙ long in
      let ends = long_ends h (filter_map f part ++ calls_of_some o) (filter_map f rest) call first in
      let until : until_long h (filter_map f all) ≡ filter_map f part ++ calls_of_some o =
      ap (until_long h) parted ∙ ends.1 ∙ until_before h (filter_map f part) (calls_of_some o) row.short ∙ ap (λ (calls : List Call). filter_map f part ++ calls) (until_one h o) in
      (ap (first_long h) parted ∙ ends.0, subst (AddsAll before after) (sym until) (adds_then before now after (filter_map f part) (calls_of_some o) row.told told))

  pub row_whole : (part : List ℕ) (before now : Option (List Call)) → IsRow h f part before now → AddsAll before now (until_long h (filter_map f part))
  row_whole part before now row = subst (AddsAll before now) (sym (until_none h (filter_map f part) row.short)) row.told

-- the edge to a higher neighbour
pub row_edge : (h : HierarchyValue) → IsHierarchy h → (x i y : ℕ) → slice_get (up_of h.edges x) i ≡ Some y
    → (number_from 0 h.edges x y ≡ Some (first_edge_of h.edges x + i)) × (first_edge_of h.edges x + i < length h.edges) × (x < y) × (y < h.network.nodes)
row_edge h f x i y e =
    let at = numbered h.edges x i y f.graph.rising e in
    let range = ends_range h f (first_edge_of h.edges x + i) (record { low = x; high = y }) at in
    (number_finds h.edges f.graph.rising x y (Some (first_edge_of h.edges x + i)) at, slice_get_within h.edges (first_edge_of h.edges x + i) (record { low = x; high = y }) at, range.0, range.1)

pub some_call : (o : Option Call) → is_some o ≡ true → (call : Call) × (o ≡ Some call)
some_call None e = absurd (cc e)
some_call (Some call) e = (call, refl)

pub no_call : (o : Option Call) → is_some o ≡ false → o ≡ None
no_call None e = refl
no_call (Some call) e = absurd (cc e)
