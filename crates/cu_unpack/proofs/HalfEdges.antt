-- The ways of a shortcut and the edges of their halves, which are lower.
use Rattle.std.proofs.Common.{◌≡◌, ◌≢◌, ◌≤◌, ◌<◌, ◌+◌, ◌∙◌, ℕ, List, [], ◌∷◌, ◌++◌, get_or, Option, Some, None, refl, sym, ap, subst, inl, inr, length, take}
use Rattle.std.specs.Prelude.{◌↔◌, IsTrue, is_some, slice_get, slice_set}
use Rattle.std.proofs.lemmas.List.{take_all, take_more}
use Rattle.std.proofs.lemmas.List.Elements.{All-more}
use Rattle.std.proofs.lemmas.Option.{get_or_from_slice_get, slice_get-get_or, slice_get_within}
use Rattle.cu_model.proofs.RoadLaws.{all_at}
use Rattle.cu_model.proofs.OptionLaws.{same_value}
use Rattle.cu_arrival.specs.declared.runs.Run.{Run}
use Rattle.cu_chordal.specs.declared.graph.Ends.{Ends}
use Rattle.cu_interval.specs.declared.ways.Dir.{Dir}
use Rattle.cu_interval.specs.declared.ways.Dir.TheVariants.{Up, Down}
use Rattle.cu_interval.specs.declared.ways.Way.TheVariants.{Via}
use Rattle.cu_interval.specs.declared.ways.Entry.{Entry}
use Rattle.cu_interval.specs.Hierarchies.{HierarchyValue, IsHierarchy, IsWellFormed, list_from, list_of, start_of, end_of}
use Rattle.cu_interval.proofs.Lookups.{list_from-edge, one_number}
use Rattle.cu_interval.proofs.EndsLaws.{below_low, number_below}
use Rattle.cu_interval.specs.declared.shortcuts.Shortcut.{Shortcut}
use Rattle.cu_interval.specs.Shortcuts.{AreHalves, number_of, ways_of}
use Rattle.cu_unpack.specs.RebuiltRuns.{IsSide}
use Rattle.cu_unpack.specs.Rebuilds.{IsKept}
use Rattle.cu_unpack.specs.Steps.Rebuilding.{FindsHalf, FindsMissing, HasHalves, HasWays, IsLeastOf, IsMissingHalf, IsWayOf, KeepsOne}
use Rattle.cu_unpack.proofs.WayFunctions.{least_rebuilt}

module _ (h : HierarchyValue) (f : IsHierarchy h) where
  -- an entry's way is one of the shortcut
  pub entry_way : (shortcut : Shortcut) → shortcut.edge < length h.edges → (i : ℕ) (entry : Entry) → slice_get (ways_of h shortcut) i ≡ Some entry
      → IsWayOf h shortcut entry.way
  entry_way shortcut lt i entry at =
      let none : Ends = record { low = 0; high = 0 } in
      let here = slice_get-get_or h.edges shortcut.edge none lt in
      let ends = get_or h.edges shortcut.edge none in
      let formed = f.formed shortcut.edge shortcut.dir ends here in
      (ends, here, all_at (λ (e : Entry). IsWellFormed h (start_of ends shortcut.dir) (end_of ends shortcut.dir) e.way) (ways_of h shortcut) i entry formed at)

  down_ways : (edge m u : ℕ) (dir : Dir) → dir ≡ Down → slice_get h.edges edge ≡ Some (record { low = m; high = u }) → list_from h u m ≢ [] → list_of h edge dir ≢ []
  down_ways edge m u Down down at some = λ none. some (list_from-edge h f edge Down (record { low = m; high = u }) at ∙ none)
  down_ways edge m u Up down at some = absurd (cc down)

  up_ways : (edge m v : ℕ) (dir : Dir) → dir ≡ Up → slice_get h.edges edge ≡ Some (record { low = m; high = v }) → list_from h m v ≢ [] → list_of h edge dir ≢ []
  up_ways edge m v Up up at some = λ none. some (list_from-edge h f edge Up (record { low = m; high = v }) at ∙ none)
  up_ways edge m v Down up at some = absurd (cc up)

  -- both halves have ways, and lower edges
  pub halves_lower : (whole first second : Shortcut) (m : ℕ) → IsWayOf h whole (Via m) → AreHalves h whole m first second
      → (HasWays h first × (first.edge < whole.edge)) × (HasWays h second × (second.edge < whole.edge))
  halves_lower whole first second m (ends, at, formed) halves =
      let same : halves.ends ≡ ends = same_value (slice_get h.edges whole.edge) halves.ends ends halves.at at in
      let u = start_of ends whole.dir in
      let v = end_of ends whole.dir in
      let low : slice_get h.edges first.edge ≡ Some (record { low = m; high = u }) =
      subst (λ (e : Ends). slice_get h.edges first.edge ≡ Some (record { low = m; high = start_of e whole.dir })) same halves.to in
      let high : slice_get h.edges second.edge ≡ Some (record { low = m; high = v }) =
      subst (λ (e : Ends). slice_get h.edges second.edge ≡ Some (record { low = m; high = end_of e whole.dir })) same halves.onward in
      let below = below_low ends whole.dir m formed.0 formed.1 in (
        (
          (slice_get_within h.edges first.edge _ low, down_ways first.edge m u first.dir halves.down low formed.4),
          number_below h.edges f.graph.rising first.edge whole.edge (record { low = m; high = u }) ends low at below,
        ),
        (
          (slice_get_within h.edges second.edge _ high, up_ways second.edge m v second.dir halves.up high formed.5),
          number_below h.edges f.graph.rising second.edge whole.edge (record { low = m; high = v }) ends high at below,
        ),
      )

-- and both edges are sides of the whole one
pub halves_sides : (h : HierarchyValue) (whole first second : Shortcut) (m : ℕ) → AreHalves h whole m first second → IsSide h.edges whole.edge first.edge × IsSide h.edges whole.edge second.edge
halves_sides h whole first second m halves = by_dir whole.dir halves.to halves.onward
  where
    by_dir : (dir : Dir) → slice_get h.edges first.edge ≡ Some (record { low = m; high = start_of halves.ends dir })
        → slice_get h.edges second.edge ≡ Some (record { low = m; high = end_of halves.ends dir }) → IsSide h.edges whole.edge first.edge × IsSide h.edges whole.edge second.edge
    by_dir Up to onward = (
      record { ends = halves.ends; at = halves.at; middle = m; first = first.edge; to_low = to; second = second.edge; to_high = onward; either = inl refl },
      record { ends = halves.ends; at = halves.at; middle = m; first = first.edge; to_low = to; second = second.edge; to_high = onward; either = inr refl },
    )
    by_dir Down to onward = (
      record { ends = halves.ends; at = halves.at; middle = m; first = second.edge; to_low = onward; second = first.edge; to_high = to; either = inr refl },
      record { ends = halves.ends; at = halves.at; middle = m; first = second.edge; to_low = onward; second = first.edge; to_high = to; either = inl refl },
    )

-- so a half that isn't there is missing
module _ (h : HierarchyValue) (f : IsHierarchy h) (IsThere : Shortcut → Type 0) (whole first second : Shortcut) (m : ℕ) (way : IsWayOf h whole (Via m))
    (halves : AreHalves h whole m first second) where
  pub first_missing : (IsThere first → ⊥) → IsMissingHalf h IsThere whole first
  first_missing lacks =
      let (ways, lower) = (halves_lower h f whole first second m way halves).0 in
      record { missing = (ways, lacks); lower = lower; side = (halves_sides h whole first second m halves).0 }

  pub second_missing : (IsThere second → ⊥) → IsMissingHalf h IsThere whole second
  second_missing lacks =
      let (ways, lower) = (halves_lower h f whole first second m way halves).1 in
      record { missing = (ways, lacks); lower = lower; side = (halves_sides h whole first second m halves).1 }

-- the halves at a middle are determined, so where these are there all are
pub halves_there : (h : HierarchyValue) → IsHierarchy h → (IsThere : Shortcut → Type 0) (whole first second : Shortcut) (m : ℕ) → AreHalves h whole m first second
    → IsThere first → IsThere second → HasHalves h IsThere whole (Via m)
halves_there h f IsThere whole first second m halves one two first_too second_too again =
    let same : halves.ends ≡ again.ends = same_value (slice_get h.edges whole.edge) halves.ends again.ends halves.at again.at in
    let low : slice_get h.edges first.edge ≡ Some (record { low = m; high = start_of again.ends whole.dir }) =
    subst (λ (e : Ends). slice_get h.edges first.edge ≡ Some (record { low = m; high = start_of e whole.dir })) same halves.to in
    let high : slice_get h.edges second.edge ≡ Some (record { low = m; high = end_of again.ends whole.dir }) =
    subst (λ (e : Ends). slice_get h.edges second.edge ≡ Some (record { low = m; high = end_of e whole.dir })) same halves.onward in
    let first_edge = one_number h.edges f.graph.rising first.edge first_too.edge m (start_of again.ends whole.dir) low again.to in
    let second_edge = one_number h.edges f.graph.rising second.edge second_too.edge m (end_of again.ends whole.dir) high again.onward in (
      subst IsThere (same_shortcut first first_too first_edge (halves.down ∙ sym again.down)) one,
      subst IsThere (same_shortcut second second_too second_edge (halves.up ∙ sym again.up)) two,
    )
  where
    same_shortcut : (a b : Shortcut) → a.edge ≡ b.edge → a.dir ≡ b.dir → a ≡ b
    same_shortcut a b edges dirs = ap (λ (e : ℕ). record { edge = e; dir = a.dir }) edges ∙ ap (λ (d : Dir). record { edge = b.edge; dir = d }) dirs

-- the halves of the ways of a shortcut
module _ (h : HierarchyValue) (IsThere : Shortcut → Type 0) (shortcut : Shortcut) where
  -- those of one way, where those of all are there
  pub entry_halves : (i : ℕ) (entry : Entry) → slice_get (ways_of h shortcut) i ≡ Some entry → FindsMissing h IsThere shortcut (ways_of h shortcut) None → HasHalves h IsThere shortcut entry.way
  entry_halves i entry there halves = all_at (λ (e : Entry). HasHalves h IsThere shortcut e.way) (ways_of h shortcut) i entry halves there

  -- those of one way more than the first
  pub more_there : (i : ℕ) (entry : Entry) (half : Option Shortcut) → slice_get (ways_of h shortcut) i ≡ Some entry → half ≡ None → FindsHalf h IsThere shortcut entry.way half
      → FindsMissing h IsThere shortcut (take i (ways_of h shortcut)) None → FindsMissing h IsThere shortcut (take (i + 1) (ways_of h shortcut)) None
  more_there i entry half there none found before =
      let HasAll : Entry → Type 0 = λ e. HasHalves h IsThere shortcut e.way in
      let same = get_or_from_slice_get (ways_of h shortcut) i entry entry there in
      All-more HasAll (ways_of h shortcut) i entry (slice_get_within (ways_of h shortcut) i entry there) before
      (subst HasAll (sym same) (subst (FindsHalf h IsThere shortcut entry.way) none found))

  -- and of all, where no more are left
  pub all_there : (i : ℕ) → length (ways_of h shortcut) ≤ i → FindsMissing h IsThere shortcut (take i (ways_of h shortcut)) None → FindsMissing h IsThere shortcut (ways_of h shortcut) None
  all_there i over = subst (λ (es : List Entry). FindsMissing h IsThere shortcut es None) (take_all i (ways_of h shortcut) over)

-- the first entries with one more
pub take_entry : (entries : List Entry) (i : ℕ) (entry : Entry) → slice_get entries i ≡ Some entry → take (i + 1) entries ≡ take i entries ++ entry ∷ []
take_entry entries i entry there =
    take_more entries i entry (slice_get_within entries i entry there) ∙ ap (λ (e : Entry). take i entries ++ e ∷ []) (get_or_from_slice_get entries i entry entry there)

-- the least of all ways is kept
pub keeps_one : (h : HierarchyValue) → IsHierarchy h → (shortcut : Shortcut) (before now : List (Option (List Run))) (function : Option (List Run)) → ways_of h shortcut ≢ []
    → IsLeastOf h shortcut (ways_of h shortcut) function → now ≡ slice_set before (number_of shortcut) function → KeepsOne h shortcut before now
keeps_one h f shortcut before now None some least is = absurd (some least)
keeps_one h f shortcut before now (Some runs) some least is = (runs, is, least_rebuilt h f shortcut (Some runs) least)

-- whether a function is kept
pub kept_is : (kept : List (Option (List Run))) (shortcut : Shortcut) (found : Option (List Run)) → slice_get kept (number_of shortcut) ≡ Some found → IsTrue (is_some found) ↔ IsKept kept shortcut
kept_is kept shortcut None at = (λ t. absurd (cc t), λ is. absurd (cc (is.1, at)))
kept_is kept shortcut (Some runs) at = (λ t. (runs, at), λ is. refl)
