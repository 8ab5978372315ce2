-- The sequences that are kept stay right where more is added, forgotten, or put for a list.
use Rattle.std.proofs.Common.{◌≡◌, ◌≢◌, ◌≤◌, ◌<◌, ◌+◌, ◌*◌, ◌++◌, ◌∙◌, ◌⊎◌, ℕ, List, [], ◌∷◌, Some, sym, ap, subst, arith, inl, inr, length, get_or, take}
use Rattle.std.specs.Prelude.{slice_get, slice_set}
use Rattle.std.specs.List.{Contains}
use Rattle.std.proofs.lemmas.Bool.{cases_eq, cases_lt}
use Rattle.std.proofs.lemmas.List.{get_or_append_left, get_or_push, length-set, length_push, take_more}
use Rattle.std.proofs.lemmas.Option.{get_or_from_slice_get, slice_get-get_or, slice_get_within}
use Rattle.cu_model.proofs.ListLaws.{get_here, get_other}
use Rattle.cu_model.proofs.OptionLaws.{same_value}
use Rattle.cu_chordal.specs.declared.graph.Ends.{Ends}
use Rattle.cu_interval.specs.declared.shortcuts.Shortcut.{Shortcut}
use Rattle.cu_interval.specs.declared.ways.Dir.{Dir}
use Rattle.cu_interval.specs.declared.ways.Dir.TheVariants.{Up, Down}
use Rattle.cu_interval.specs.declared.ways.Entry.{Entry}
use Rattle.cu_interval.specs.declared.ways.Way.{Way}
use Rattle.cu_interval.specs.declared.ways.Way.TheVariants.{Road, Via}
use Rattle.cu_interval.specs.Hierarchies.{HierarchyValue, IsHierarchy, end_of, list_number, start_of}
use Rattle.cu_interval.specs.Shortcuts.{AreHalves, number_of}
use Rattle.cu_interval.proofs.EndsLaws.{number_parts}
use Rattle.cu_sequences.specs.declared.sequences.TheConstants.{NO_START}
use Rattle.cu_sequences.specs.Kept.{AreSequences, AreSequencesBut, HoldsSequence, IsPlace, SequencesValue, roads_at}
use Rattle.cu_sequences.specs.Sequences.{IsSequence}
use Rattle.cu_sequences.specs.Steps.Putting.{Forgets, Grows, Puts, PutsBoth, PutsWay}
use Rattle.cu_sequences.proofs.Places.{grown, put_here}
use Rattle.cu_sequences.proofs.SequenceLaws.{sequence_road, sequence_via}

-- the only item of a list
pub only_entry : (es : List Entry) (entry : Entry) → length es ≡ 1 → slice_get es 0 ≡ Some entry → es ≡ entry ∷ []
only_entry [] entry one there = absurd (omega (arith, one))
only_entry (e ∷ []) entry one there = let same : e ≡ entry = cc there in ap (λ (x : Entry). x ∷ []) same
only_entry (e ∷ f ∷ es) entry one there = absurd (omega (arith, one))

module _ (h : HierarchyValue) where
  pub holds_grown : (u v start : ℕ) (before now : List ℕ) → Grows before now → HoldsSequence h u v before start → HoldsSequence h u v now start
  holds_grown u v start before now grows holds = λ some.
      (let (there, is) = holds some in
      let (still, same) = grown before now start grows there in
      (still, subst (IsSequence h u v) (sym same) is))

  pub sequences_grown : (starts before now : List ℕ) → Grows before now → AreSequences h (record { starts = starts; roads = before }) → AreSequences h (record { starts = starts; roads = now })
  sequences_grown starts before now grows are edge dir ends start at there =
      holds_grown (start_of ends dir) (end_of ends dir) start before now grows (are edge dir ends start at there)

  -- where a list's sequence is put
  pub sequences_set : (starts roads : List ℕ) (shortcut : Shortcut) (start : ℕ) → AreSequences h (record { starts = starts; roads = roads })
      → ((ends : Ends) → slice_get h.edges shortcut.edge ≡ Some ends → HoldsSequence h (start_of ends shortcut.dir) (end_of ends shortcut.dir) roads start)
      → AreSequences h (record { starts = slice_set starts (number_of shortcut) start; roads = roads })
  sequences_set starts roads shortcut start are here edge dir ends found at there =
      elim (cases_eq (list_number edge dir) (number_of shortcut)) [
        | inl same ↦
            let (e, d) = number_parts edge shortcut.edge dir shortcut.dir same in
            let own : slice_get h.edges shortcut.edge ≡ Some ends = subst (λ (n : ℕ). slice_get h.edges n ≡ Some ends) e at in
            let turned = subst (λ (k : Dir). HoldsSequence h (start_of ends k) (end_of ends k) roads start) (sym d) (here ends own) in
            let now = slice_set starts (number_of shortcut) start in
            let within = slice_get_within now (list_number edge dir) found there in
            let long = length-set starts (number_of shortcut) start in
            let put = get_here starts (number_of shortcut) start (omega (arith, within, long, same)) in
            let read : start ≡ found = same_value (slice_get now (number_of shortcut)) start found put (subst (λ (n : ℕ). slice_get now n ≡ Some found) same there) in
            subst (HoldsSequence h (start_of ends dir) (end_of ends dir) roads) read turned
        | inr other ↦
            are edge dir ends found at (sym (get_other starts (number_of shortcut) (list_number edge dir) start (λ is. other (sym is))) ∙ there)
      ]

  -- a half whose place is known
  pub half_holds : (kept : SequencesValue) → AreSequences h kept → (half : Shortcut) (dir : Dir) (ends : Ends) (start : ℕ) → half.dir ≡ dir → slice_get h.edges half.edge ≡ Some ends
      → (start ≢ NO_START → slice_get kept.starts (number_of half) ≡ Some start) → HoldsSequence h (start_of ends dir) (end_of ends dir) kept.roads start
  half_holds kept are half dir ends start same at read = λ some.
      subst (λ (d : Dir). IsPlace kept.roads start × IsSequence h (start_of ends d) (end_of ends d) (roads_at kept.roads start)) same
      (are half.edge half.dir ends start at (read some) some)

  module _ (f : IsHierarchy h) (shortcut : Shortcut) (way : Way) (before now : List ℕ) (start : ℕ) where
    -- a road was put
    pub road_put : (a : ℕ) → way ≡ Road a → Puts before now start (a ∷ []) → PutsWay h shortcut way now start
    road_put a same puts ends entry at list is = λ some.
        (let (there, reads) = put_here before now start (a ∷ []) (puts some) in
        let u = start_of ends shortcut.dir in
        let v = end_of ends shortcut.dir in
        (there, subst (IsSequence h u v) (sym reads) (sequence_road h f u v a entry list (is ∙ same))))

    -- both halves were
    pub halves_put : (m : ℕ) → way ≡ Via m → (first second : Shortcut) → AreHalves h shortcut m first second → (starts : List ℕ) → AreSequences h (record { starts = starts; roads = before })
        → (one two : ℕ) → (one ≢ NO_START → slice_get starts (number_of first) ≡ Some one) → (two ≢ NO_START → slice_get starts (number_of second) ≡ Some two)
        → PutsBoth before now start one two → PutsWay h shortcut way now start
    halves_put m same first second halves starts are one two to on puts ends entry at list is = λ some.
        (let kept : SequencesValue = record { starts = starts; roads = before } in
        let (some_one, some_two, put) = puts some in
        let u = start_of ends shortcut.dir in
        let v = end_of ends shortcut.dir in
        let whose : halves.ends ≡ ends = same_value (slice_get h.edges shortcut.edge) halves.ends ends halves.at at in
        let (place, walk) = half_holds kept are first Down (record { low = m; high = start_of halves.ends shortcut.dir }) one halves.down halves.to to some_one in
        let (place2, walk2) = half_holds kept are second Up (record { low = m; high = end_of halves.ends shortcut.dir }) two halves.up halves.onward on some_two in
        let from : IsSequence h u m (roads_at before one) = subst (λ (e : Ends). IsSequence h (start_of e shortcut.dir) m (roads_at before one)) whose walk in
        let onward : IsSequence h m v (roads_at before two) = subst (λ (e : Ends). IsSequence h m (end_of e shortcut.dir) (roads_at before two)) whose walk2 in
        let (there, reads) = put_here before now start (roads_at before one ++ roads_at before two) (put place place2) in
        (there, subst (IsSequence h u v) (sym reads) (sequence_via h f u v m entry (roads_at before one) (roads_at before two) list (is ∙ same) from onward)))

  -- what is left once the lists of some edges are forgotten
  pub sequences_left : (before now roads edges : List ℕ) → Forgets before now edges → AreSequencesBut h (record { starts = before; roads = roads }) edges
      → AreSequences h (record { starts = now; roads = roads })
  sequences_left before now roads edges forgets are edge dir ends start at there = λ some.
      (let (was, other) = forgets edge dir start there some in
      are edge dir ends start at other was some)

-- nothing is forgotten at first
pub forgets_none : (starts : List ℕ) → Forgets starts starts []
forgets_none starts edge dir start there some = (there, λ has. (let (k, lt, e) = has in absurd (omega (arith, lt))))

contains_pushed : (xs : List ℕ) (x y : ℕ) → Contains (xs ++ x ∷ []) y → Contains xs y ⊎ (y ≡ x)
contains_pushed xs x y (k, h, e) =
    let long = length_push xs x in
    elim (cases_lt k (length xs)) [
      | inl lt ↦ inl (k, lt, sym (get_or_append_left xs (x ∷ []) y k lt) ∙ e)
      | inr ge ↦
          let place : length xs ≡ k = omega (arith, ge, h, long) in
          inr (sym e ∙ get_or_push xs x y k place)
    ]

no_number : (other edge up : ℕ) (dir : Dir) → other ≡ edge → up ≡ 2 * edge → list_number other dir ≢ up → list_number other dir ≢ up + 1 → ⊥
no_number other edge up Up same is_up not_up not_down = not_up (omega (arith, same, is_up))
no_number other edge up Down same is_up not_up not_down = not_down (omega (arith, same, is_up))

-- nothing stands for the list that was forgotten
pub not_forgotten : (mid now : List ℕ) (list other start : ℕ) → ((s : ℕ) → slice_get now list ≡ Some s → s ≡ NO_START) → ((n : ℕ) → n ≢ list → slice_get now n ≡ slice_get mid n)
    → slice_get now other ≡ Some start → start ≢ NO_START → (slice_get mid other ≡ Some start) × (other ≢ list)
not_forgotten mid now list other start gone stay there some =
    let off : other ≢ list = λ same. some (gone start (subst (λ (n : ℕ). slice_get now n ≡ Some start) same there)) in
    (sym (stay other off) ∙ there, off)

-- both lists of one more edge are forgotten
pub forgets_more : (before mid half now edges : List ℕ) (i edge up : ℕ) → i < length edges → edge ≡ get_or edges i edge → up ≡ 2 * edge
    → ((s : ℕ) → slice_get half up ≡ Some s → s ≡ NO_START) → ((n : ℕ) → n ≢ up → slice_get half n ≡ slice_get mid n)
    → ((s : ℕ) → slice_get now (up + 1) ≡ Some s → s ≡ NO_START) → ((n : ℕ) → n ≢ up + 1 → slice_get now n ≡ slice_get half n)
    → Forgets before mid (take i edges) → Forgets before now (take (i + 1) edges)
forgets_more before mid half now edges i edge up inside same is_up gone stay gone2 stay2 forgets other dir start there some =
    let second = not_forgotten half now (up + 1) (list_number other dir) start gone2 stay2 there some in
    let first = not_forgotten mid half up (list_number other dir) start gone stay second.0 some in
    let was = forgets other dir start first.0 some in
    let front = take_more edges i edge inside in (
      was.0,
      λ has.
          (let pushed : Contains (take i edges ++ edge ∷ []) other = subst (λ (es : List ℕ). Contains es other) (front ∙ ap (λ (e : ℕ). take i edges ++ e ∷ []) (sym same)) has in
          elim (contains_pushed (take i edges) edge other pushed) [
            | inl old ↦ was.1 old
            | inr own ↦ no_number other edge up dir own is_up first.1 second.1
          ]),
    )

-- where places were made for more lists, at which nothing stands
pub sequences_longer : (h : HierarchyValue) (before now roads : List ℕ) → ((k d : ℕ) → k < length now → k < length before → get_or now k d ≡ get_or before k d)
    → ((k d : ℕ) → length before ≤ k → k < length now → get_or now k d ≡ NO_START) → AreSequences h (record { starts = before; roads = roads })
    → AreSequences h (record { starts = now; roads = roads })
sequences_longer h before now roads same none are edge dir ends start at there = λ some.
    let n = list_number edge dir in
    let within = slice_get_within now n start there in
    let is = get_or_from_slice_get now n start NO_START there in
    elim (cases_lt n (length before)) [
      | inl lt ↦
          let was : slice_get before n ≡ Some start = slice_get-get_or before n NO_START lt ∙ ap Some (sym (same n NO_START within lt) ∙ is) in
          are edge dir ends start at was some
      | inr ge ↦ absurd (some (sym is ∙ none n NO_START ge within))
    ]
