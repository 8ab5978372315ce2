-- The way in force, by the entry that was met last.
use Rattle.std.proofs.Common.{◌≡◌, ◌<◌, ◌/◌, ◌%◌, ◌∙◌, ℕ, Some, List, sym, ap, subst, arith, length}
use Rattle.std.specs.Prelude.{slice_get}
use Rattle.std.proofs.lemmas.Nat.{div-add-mod'}
use Rattle.std.proofs.lemmas.Option.{slice_get_within}
use Rattle.cu_model.specs.Days.{day}
use Rattle.cu_chordal.specs.declared.graph.Ends.{Ends}
use Rattle.cu_interval.specs.declared.ways.Dir.{Dir}
use Rattle.cu_interval.specs.declared.ways.Entry.{Entry}
use Rattle.cu_interval.specs.declared.ways.Way.{Way}
use Rattle.cu_interval.specs.declared.ways.Way.TheVariants as way
use Rattle.cu_interval.specs.WayLists.{way_at}
use Rattle.cu_interval.specs.Hierarchies.{HierarchyValue, IsHierarchy, list_number, list_of, way_from}
use Rattle.cu_interval.proofs.Lookups.{well_formed}
use Rattle.cu_recall.specs.declared.spans.Met.{Met}
use Rattle.cu_recall.specs.declared.spans.Parts.{Parts}
use Rattle.cu_recall.specs.declared.spans.Parts.TheVariants as part
use Rattle.cu_recall.specs.Spans.{HoldsParts, IsListFrom, low_of}
use Rattle.cu_recall.specs.Steps.Looks.{IsMetAt, edge_asked}
use Rattle.cu_interval.proofs.DayWalks.{way_days}
use Rattle.cu_recall.proofs.ListEnds.{edge_entries, edge_list, list_low}

module _ (h : HierarchyValue) (f : IsHierarchy h) (edge : ℕ) (dir : Dir) (t : ℕ) (inside : edge < length h.edges) (met : Met) (is_met : IsMetAt h (edge_asked edge dir t) met) where
  -- the way between both ranks is the list's, and that of the second of the day
  way_is : (u v : ℕ) (taken : Way) → IsListFrom h (list_number edge dir) u v → way_from h u v (t % day) ≡ Some taken → way_at (list_of h edge dir) t ≡ Some taken
  way_is u v taken is e =
      ap (λ (es : List Entry). way_at es t) (sym (edge_entries h f edge dir u v is)) ∙ ap (way_from h u v) (sym (div-add-mod' t day)) ∙ way_days h f u v (t / day) (t % day) ∙ e

  -- what the entry says between both ranks
  says : (parts : Parts) → met.parts ≡ parts → (u v : ℕ) → IsListFrom h (list_number edge dir) u v → HoldsParts h u v met.from met.until parts
  says parts same u v is =
      let low = is_met.1 in
      let high = is_met.2 in
      subst (HoldsParts h u v met.from met.until) same (is_met.0.1 u v is (omega (arith, low, high)))

  -- its road is the way
  pub road_way : (road : ℕ) → met.parts ≡ part.Road road → way_at (list_of h edge dir) t ≡ Some (way.Road road)
  road_way road same =
      let (u, v, is) = edge_list h edge dir inside in
      way_is u v (way.Road road) is (says (part.Road road) same u v is (t % day) is_met.1 is_met.2)

  -- the edge of its first half is there
  pub first_there : (first second : ℕ) → met.parts ≡ part.Halves first second → first / 2 < length h.edges
  first_there first second same =
      let (u, v, is) = edge_list h edge dir inside in
      let (m, both, taken) = says (part.Halves first second) same u v is in
      let (ends, at, from, to) = both.0 in
      slice_get_within h.edges (first / 2) ends at

  -- and its lower end is the middle of the way
  pub middle_way : (first second : ℕ) (ends : Ends) → met.parts ≡ part.Halves first second → slice_get h.edges (first / 2) ≡ Some ends → way_at (list_of h edge dir) t ≡ Some (way.Via ends.low)
  middle_way first second ends same at =
      let (u, v, is) = edge_list h edge dir inside in
      let (m, both, taken) = says (part.Halves first second) same u v is in
      let e = taken (t % day) is_met.1 is_met.2 in
      let mu = (well_formed h f u v (t % day) (way.Via m) e).0 in
      let low = list_low h f first u m both.0 in
      let middle : m ≡ ends.low = omega (arith, mu, low, ap low_of at) in
      way_is u v (way.Via m) is e ∙ ap (λ (n : ℕ). Some (way.Via n)) middle
