-- A list whose only entry is a road is a sequence of that road, and one whose only entry has two halves that are sequences is both of these behind one another.
use Rattle.std.proofs.Common.{◌≡◌, ◌≢◌, ◌<◌, ◌%◌, ◌∙◌, ℕ, zero, suc, List, [], ◌∷◌, ◌++◌, Option, Some, None, refl, ap, subst, arith, leb, true, min}
use Rattle.cu_model.specs.Days.{day}
use Rattle.cu_model.specs.Roads.{drive}
use Rattle.cu_interval.specs.declared.ways.Way.{Way}
use Rattle.cu_interval.specs.declared.ways.Way.TheVariants.{Road, Via}
use Rattle.cu_interval.specs.declared.ways.Entry.{Entry}
use Rattle.cu_interval.specs.WayLists.{IsWayList, way_in}
use Rattle.cu_interval.specs.Hierarchies.{HierarchyValue, IsHierarchy, list_from, way_from}
use Rattle.cu_interval.specs.Unpacking.{unpacked, unpacked_walk, unpacked_way}
use Rattle.cu_interval.proofs.Fuel.{unpacked-via}
use Rattle.cu_interval.proofs.Lookups.{middles_fall, well_formed}
use Rattle.cu_interval.proofs.Unpacked.{list_from_spelled}
use Rattle.cu_sequences.specs.Sequences.{IsSequence, joined, list_sequence, sequence_by, sequence_from, way_sequence}

-- the only entry of a way list is in force at every second
only_by : (entry : Entry) (s : ℕ) → entry.from ≡ 0 → way_in (entry ∷ []) s ≡ Some entry.way
only_by entry s begins = let low : leb entry.from s ≡ true = grind (arith, begins) in rw low refl

module _ (h : HierarchyValue) (f : IsHierarchy h) where
  only_way : (u v t : ℕ) (entry : Entry) → list_from h u v ≡ entry ∷ [] → way_from h u v t ≡ Some entry.way
  only_way u v t entry list =
      let spelled = subst IsWayList list (list_from_spelled h f u v) in
      ap (λ (es : List Entry). way_in es (t % day)) list ∙ only_by entry (t % day) spelled.begins

  some_way : (u v : ℕ) (entry : Entry) → list_from h u v ≡ entry ∷ [] → list_from h u v ≢ []
  some_way u v entry list none = cc (list, none)

  -- a list whose only entry is a road
  pub sequence_road : (u v a : ℕ) (entry : Entry) → list_from h u v ≡ entry ∷ [] → entry.way ≡ Road a → IsSequence h u v (a ∷ [])
  sequence_road u v a entry list way =
      (some_way u v entry list, λ t. ap (unpacked_way h.network (unpacked h (min u v)) u v t) (only_way u v t entry list ∙ ap Some way))

  -- a list whose only entry has two halves that are sequences
  pub sequence_via : (u v m : ℕ) (entry : Entry) (first second : List ℕ) → list_from h u v ≡ entry ∷ [] → entry.way ≡ Via m
      → IsSequence h u m first → IsSequence h m v second → IsSequence h u v (first ++ second)
  sequence_via u v m entry first second list way (some, to) (other, on) = (
    some_way u v entry list,
    λ t. unpacked-via h (middles_fall h f) u v t m (only_way u v t entry list ∙ ap Some way)
        ∙ ap (λ (w : List ℕ). w ++ unpacked_walk h m v (drive h.network (unpacked_walk h u m t) t)) (to t)
        ∙ ap (λ (w : List ℕ). first ++ w) (on (drive h.network (unpacked_walk h u m t) t)),
  )

  joined_by : (u v m : ℕ) (entry : Entry) (a b : Option (List ℕ)) (roads : List ℕ) → list_from h u v ≡ entry ∷ [] → entry.way ≡ Via m → joined a b ≡ Some roads
      → ((first : List ℕ) → a ≡ Some first → IsSequence h u m first) → ((second : List ℕ) → b ≡ Some second → IsSequence h m v second) → IsSequence h u v roads
  joined_by u v m entry None b roads list way e to on = absurd (cc e)
  joined_by u v m entry (Some first) None roads list way e to on = absurd (cc e)
  joined_by u v m entry (Some first) (Some second) roads list way e to on =
      let same : first ++ second ≡ roads = cc e in
      subst (IsSequence h u v) same (sequence_via u v m entry first second list way (to first refl) (on second refl))

  way_by : (fuel u v : ℕ) (entry : Entry) (way : Way) (roads : List ℕ) → list_from h u v ≡ entry ∷ [] → entry.way ≡ way → way_sequence (sequence_by h fuel) u v way ≡ Some roads
      → ((x y : ℕ) (some : List ℕ) → min x y < min u v → sequence_by h fuel x y ≡ Some some → IsSequence h x y some) → IsSequence h u v roads
  way_by fuel u v entry (Road a) roads list way e lower =
      let same : a ∷ [] ≡ roads = cc e in subst (IsSequence h u v) same (sequence_road u v a entry list way)
  way_by fuel u v entry (Via m) roads list way e lower =
      let formed = well_formed h f u v 0 (Via m) (only_way u v 0 entry list ∙ ap Some way) in
      let mu = formed.0 in
      let mv = formed.1 in
      joined_by u v m entry (sequence_by h fuel u m) (sequence_by h fuel m v) roads list way e
      (λ first is. lower u m first (omega (arith, mu, mv)) is) (λ second is. lower m v second (omega (arith, mu, mv)) is)

  list_by : (fuel u v : ℕ) (entries : List Entry) (roads : List ℕ) → list_from h u v ≡ entries → list_sequence (sequence_by h fuel) u v entries ≡ Some roads
      → ((x y : ℕ) (some : List ℕ) → min x y < min u v → sequence_by h fuel x y ≡ Some some → IsSequence h x y some) → IsSequence h u v roads
  list_by fuel u v [] roads list e lower = absurd (cc e)
  list_by fuel u v (entry ∷ []) roads list e lower = way_by fuel u v entry entry.way roads list refl e lower
  list_by fuel u v (entry ∷ next ∷ entries) roads list e lower = absurd (cc e)

  by_fuel : (fuel u v : ℕ) (roads : List ℕ) → min u v < fuel → sequence_by h fuel u v ≡ Some roads → IsSequence h u v roads
  by_fuel zero u v roads lt e = absurd (omega (arith, lt))
  by_fuel (suc fuel) u v roads lt e =
      list_by fuel u v (list_from h u v) roads refl e (λ x y some low is. by_fuel fuel x y some (omega (arith, low, lt)) is)

  -- what the only entries tell is a sequence: its walk is the same roads at every second
  pub sequence_sound : (u v : ℕ) (roads : List ℕ) → sequence_from h u v ≡ Some roads → IsSequence h u v roads
  sequence_sound u v roads e = by_fuel (suc (min u v)) u v roads (omega arith) e
