-- The entries of a list, each in force from its second until the next one's, and the function that they make.
use Rattle.std.proofs.Common.{◌≡◌, ◌≢◌, ◌≤◌, ◌<◌, ◌+◌, ◌*◌, ◌/◌, ◌%◌, ◌∙◌, ℕ, suc, List, [], ◌∷◌, Some, refl, sym, ap, subst, arith, inl, inr, length}
use Rattle.std.specs.Prelude.{slice_get}
use Rattle.std.specs.Option.{option_map}
use Rattle.std.proofs.lemmas.Bool.{cases_lt}
use Rattle.std.proofs.lemmas.Nat.{div-add-mod', mod_below}
use Rattle.std.proofs.lemmas.Option.{get_or_from_slice_get, slice_get-get_or, slice_get_past, slice_get_within}
use Rattle.cu_model.specs.Begun.{Rises}
use Rattle.cu_model.specs.Days.{day, IsOnward}
use Rattle.cu_model.proofs.Begun.{begun_until}
use Rattle.cu_arrival.specs.declared.runs.Run.{Run}
use Rattle.cu_arrival.specs.Runs.{arrival_value}
use Rattle.cu_arrival.proofs.RunLaws.{value-days}
use Rattle.cu_runs.specs.PackedRuns.{IsDayList, IsPackedFunction}
use Rattle.cu_runs.proofs.LinkLaws.{closed}
use Rattle.cu_chordal.specs.declared.graph.Ends.{Ends}
use Rattle.cu_interval.specs.declared.shortcuts.Shortcut.{Shortcut}
use Rattle.cu_interval.specs.declared.ways.Entry.{Entry}
use Rattle.cu_interval.specs.declared.relaxing.Relaxed.{Relaxed}
use Rattle.cu_interval.specs.declared.relaxing.Relaxed.TheVariants.{At}
use Rattle.cu_interval.specs.Hierarchies.{HierarchyValue, IsHierarchy, IsWellFormed, end_of, list_from, start_of, way_from}
use Rattle.cu_interval.specs.Shortcuts.{ways_of}
use Rattle.cu_interval.specs.Unpacking.{relaxed}
use Rattle.cu_interval.specs.WayLists.{IsWayList, entry_in, way_in}
use Rattle.cu_interval.proofs.Unpacked.{list_of_spelled}
use Rattle.cu_short.specs.Shortness.{NeverLong}
use Rattle.cu_store.specs.Known.{IsListFunction, ended}
use Rattle.cu_store.proofs.KnowsLaws.{ended_same}
use Rattle.cu_filling.specs.Filling.{DrivesBy, IsDrivenBy, IsWayOf, SaysWhole, begin_at, from_of, list_drive, second_of}
use Rattle.cu_filling.proofs.ListDrives.{answer_onward, drives_by, drives_later, drives_walk, same_list}

module _ (entries : List Entry) (is : IsWayList entries) where
  entries_rise : Rises (λ (e : Entry). e.from) entries
  entries_rise k d h = (is.turns k d h).0

  -- an entry holds until the next one, or the day's end
  pub begin_next : (i : ℕ) (entry : Entry) → slice_get entries i ≡ Some entry → (entry.from < begin_at entries (i + 1)) × (begin_at entries (i + 1) ≤ day)
  begin_next i entry at =
      let within = slice_get_within entries i entry at in
      let same = get_or_from_slice_get entries i entry entry at in
      let here = ap (λ (e : Entry). e.from) same in
      elim (cases_lt (i + 1) (length entries)) [
        | inl lt ↦
            let next = ap from_of (slice_get-get_or entries (i + 1) entry lt) in
            let step = (is.turns i entry lt).0 in
            let limit = is.within (i + 1) entry lt in
            (omega (arith, here, next, step), omega (arith, next, limit))
        | inr ge ↦
            let next = ap from_of (slice_get_past entries (i + 1) ge) in
            let limit = is.within i entry within in
            (omega (arith, here, next, limit), omega (arith, next))
      ]

  -- and is in force there
  pub entry_on : (i : ℕ) (entry : Entry) (t : ℕ) → slice_get entries i ≡ Some entry → entry.from ≤ t → t < begin_at entries (i + 1) → entry_in entries t ≡ Some entry
  entry_on i entry t at late early =
      let within = slice_get_within entries i entry at in
      let same = get_or_from_slice_get entries i entry entry at in
      let here = ap (λ (e : Entry). e.from) same in
      begun_until (λ (e : Entry). e.from) entries entries_rise entry i t within (omega (arith, here, late))
      (λ more. let one : i + 1 ≡ suc i = omega arith in
      let next = ap from_of (ap (slice_get entries) one ∙ slice_get-get_or entries (suc i) entry more) in
      omega (arith, next, early))
      ∙ ap Some same

begin_by : (entries : List Entry) → IsWayList entries → entries ≢ [] → begin_at entries 0 ≡ 0
begin_by [] is some = absurd (some refl)
begin_by (e ∷ es) is some = is.begins

module _ (h : HierarchyValue) (f : IsHierarchy h) (shortcut : Shortcut) where
  pub spelled : IsWayList (ways_of h shortcut)
  spelled = list_of_spelled h f shortcut.edge shortcut.dir

  pub begin_first : ways_of h shortcut ≢ [] → begin_at (ways_of h shortcut) 0 ≡ 0
  begin_first some = begin_by (ways_of h shortcut) spelled some

  module _ (ends : Ends) (at : slice_get h.edges shortcut.edge ≡ Some ends) where
    -- the way of an entry is well formed
    pub entry_way : (i : ℕ) (entry : Entry) → slice_get (ways_of h shortcut) i ≡ Some entry → IsWayOf h shortcut entry.way
    entry_way i entry there =
        let within = slice_get_within (ways_of h shortcut) i entry there in
        let same = get_or_from_slice_get (ways_of h shortcut) i entry entry there in
        (ends, at, subst (λ (e : Entry). IsWellFormed h (start_of ends shortcut.dir) (end_of ends shortcut.dir) e.way) same (f.formed shortcut.edge shortcut.dir ends at i entry within))

    module _ (never : NeverLong h) where
      -- what an entry's way drives is what the list drives, as long as the entry is in force
      pub entry_driven : (i : ℕ) (entry : Entry) → slice_get (ways_of h shortcut) i ≡ Some entry
          → IsDrivenBy h shortcut entry.way entry.from (begin_at (ways_of h shortcut) (i + 1)) (list_drive h shortcut.edge shortcut.dir)
      entry_driven i entry there other here t arrival late early drives =
          let until = (begin_next (ways_of h shortcut) spelled i entry there).1 in
          let on = entry_on (ways_of h shortcut) spelled i entry t there late early in
          let in_day : t % day ≡ t = omega (arith, early, until) in
          let way : way_from h (start_of ends shortcut.dir) (end_of ends shortcut.dir) t ≡ Some entry.way =
          ap (λ (s : ℕ). way_in (list_from h (start_of ends shortcut.dir) (end_of ends shortcut.dir)) s) in_day
          ∙ ap (λ (es : List Entry). way_in es t) (same_list h f shortcut.edge shortcut.dir ends at)
          ∙ ap (option_map (λ (e : Entry). e.way)) on in
          let same : other ≡ ends = cc (here, at) in
          let driven = subst (λ (e : Ends). DrivesBy h e shortcut.dir t entry.way arrival) same drives in
          sym (ap second_of (drives_by h f shortcut.edge shortcut.dir ends at never t arrival entry.way way driven))

    -- what the list drives over the day, put together, is its function, where later departures don't arrive earlier
    module _ (never : NeverLong h) (some : ways_of h shortcut ≢ []) where
      pub drives_some : list_from h (start_of ends shortcut.dir) (end_of ends shortcut.dir) ≢ []
      drives_some none = some (sym (same_list h f shortcut.edge shortcut.dir ends at) ∙ none)

      -- relaxing it arrives at every second
      pub drives_then : (t : ℕ) → relaxed h shortcut.edge shortcut.dir t ≡ At (list_drive h shortcut.edge shortcut.dir t)
      drives_then t = let is = drives_walk h f shortcut.edge shortcut.dir ends at never t drives_some in is ∙ sym (ap (λ (r : Relaxed). At (second_of r)) is)

      pub whole_day : (whole : List Run) → SaysWhole h shortcut whole → IsDayList whole × ((t : ℕ) → t < day → arrival_value whole t ≡ list_drive h shortcut.edge shortcut.dir t)
      whole_day whole (runs, same, says) =
          let done = closed (list_drive h shortcut.edge shortcut.dir) runs says.tiled in
          subst (λ (rs : List Run). IsDayList rs × ((t : ℕ) → t < day → arrival_value rs t ≡ list_drive h shortcut.edge shortcut.dir t)) (sym same) done

      pub whole_onward : (whole : List Run) → SaysWhole h shortcut whole → IsOnward (arrival_value whole)
      whole_onward whole says s lt =
          let value = (whole_day whole says).1 s lt in
          let on = answer_onward h f shortcut.edge shortcut.dir ends at s (list_drive h shortcut.edge shortcut.dir s) (drives_then s) in
          omega (arith, value, on)

      drives_always : (whole : List Run) → SaysWhole h shortcut whole → (t : ℕ) → relaxed h shortcut.edge shortcut.dir t ≡ At (arrival_value whole t)
      drives_always whole says t =
          let (is, value) = whole_day whole says in
          let s = t % day in
          let k = t / day in
          let lt : s < day = mod_below t day (omega arith) in
          let parts : k * day + s ≡ t = div-add-mod' t day in
          let here : relaxed h shortcut.edge shortcut.dir s ≡ At (arrival_value whole s) = drives_then s ∙ ap At (sym (value s lt)) in
          let later = drives_later h f shortcut.edge shortcut.dir ends at never k s (arrival_value whole s) here in
          let repeats = value-days whole is.starts k s lt in
          subst (λ (n : ℕ). relaxed h shortcut.edge shortcut.dir n ≡ At (arrival_value whole n)) parts (later ∙ ap At (sym repeats))

      pub whole_function : (whole : List Run) → SaysWhole h shortcut whole → IsPackedFunction whole → IsListFunction h shortcut.edge shortcut.dir (record { runs = ended whole })
      whole_function whole says is =
          let same = ended_same whole says.0 says.1 in
          record {
            over_day = subst IsPackedFunction (sym same) is;
            onward = subst (λ (rs : List Run). IsOnward (arrival_value rs)) (sym same) (whole_onward whole says);
            drives = λ t. drives_always whole says t ∙ ap (λ (rs : List Run). At (arrival_value rs t)) (sym same);
          }
