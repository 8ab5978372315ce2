-- Edges added to buckets, some after others.
use Rattle.std.proofs.Common.{◌≡◌, ◌<◌, ◌+◌, ◌∙◌, ◌⊎◌, ℕ, get_or, List, Some, refl, ap, sym, subst, arith, inl, inr, length}
use Rattle.std.specs.Prelude.{Bool, IsTrue, ◌↔◌, false, true, max, min, slice_get, slice_set}
use Rattle.std.specs.List.{Contains}
use Rattle.std.proofs.lemmas.Bool.{cases_eq}
use Rattle.std.proofs.lemmas.List.{get_or_default, length-set}
use Rattle.std.proofs.lemmas.List.Elements.{Contains-get_or}
use Rattle.std.proofs.lemmas.Option.{slice_get_within}
use Rattle.cu_model.specs.declared.roads.RoadArc.{RoadArc}
use Rattle.cu_model.proofs.ListLaws.{get_here, get_other}
use Rattle.cu_chordal.specs.declared.graph.Ends.{Ends}
use Rattle.cu_chordal.specs.Graphs.{ChordalValue, HasEdge, IsRising}
use Rattle.cu_chordal.proofs.Members.{member_at}
use Rattle.cu_links.specs.declared.buckets.EdgeState.TheVariants.{Free, Held}
use Rattle.cu_links.specs.Buckets.{BucketsValue, IsDone, IsFree}
use Rattle.cu_links.proofs.Held.{same_rank}
use Rattle.cu_interval.specs.Hierarchies.{HierarchyValue}
use Rattle.cu_interval.proofs.Lookups.{one_number}
use Rattle.cu_edits.specs.Steps.Spreading.{Adds, AreBucketsOf, IsAbove, IsAdded, IsBetween, IsLowEnd, IsOfProfile, IsOfRoad}
use Rattle.cu_edits.proofs.ListLaws.{either}

-- no edge is added
pub adds_none : (edges : List Ends) (IsNew : ℕ → Type 0) (buckets : BucketsValue) → ((e : ℕ) → IsNew e → ⊥) → Adds edges IsNew buckets buckets
adds_none edges IsNew buckets none = record { ranks = refl; last = refl; count = refl; each = λ e. inl refl; all = λ e new. absurd (none e new) }

-- the edges that are to be added said in another way
pub adds_as : (edges : List Ends) (IsNew IsNamed : ℕ → Type 0) (old new : BucketsValue) → ((e : ℕ) → IsNew e ↔ IsNamed e) → Adds edges IsNew old new → Adds edges IsNamed old new
adds_as edges IsNew IsNamed old new same adds = record {
  ranks = adds.ranks;
  last = adds.last;
  count = adds.count;
  each = λ e. elim (adds.each e) [
    | inl kept ↦ inl kept
    | inr a ↦ inr (record { is_new = (same e).0 a.is_new; free = a.free; rank = a.rank; low = a.low; held = a.held })
  ];
  all = λ e named. adds.all e ((same e).1 named);
}

module _ (edges : List Ends) (IsNew : ℕ → Type 0) (old new : BucketsValue) (adds : Adds edges IsNew old new) where
  -- an edge that is free, held or done after edges were added
  pub free_before : (e : ℕ) → IsFree new e → IsFree old e
  free_before e free = elim (adds.each e) [
    | inl kept ↦ sym kept ∙ free
    | inr a ↦ a.free
  ]

  pub done_before : (e : ℕ) → IsDone new e → IsDone old e
  done_before e done = elim (adds.each e) [
    | inl kept ↦ sym kept ∙ done
    | inr a ↦ absurd (cc (done, a.held))
  ]

  pub done_after : (e : ℕ) → IsDone old e → IsDone new e
  done_after e done = elim (adds.each e) [
    | inl kept ↦ kept ∙ done
    | inr a ↦ absurd (cc (done, a.free))
  ]

pub buckets_of_added : (graph : ChordalValue) (IsNew : ℕ → Type 0) (old new : BucketsValue) → AreBucketsOf graph old → Adds graph.edges IsNew old new → AreBucketsOf graph new
buckets_of_added graph IsNew old new fit adds = record {
  ranks = adds.ranks ∙ fit.ranks;
  count = adds.count ∙ fit.count;
  held = λ e rank held. elim (adds.each e) [
    | inl kept ↦ fit.held e rank (sym kept ∙ held)
    | inr a ↦ subst (IsLowEnd graph.edges e) (same_rank a.rank rank (slice_get new.states e) a.held held) a.low
  ];
}

-- some edges and then others
pub adds_then : (edges : List Ends) (IsFirst IsSecond : ℕ → Type 0) (old mid new : BucketsValue) → Adds edges IsFirst old mid → Adds edges IsSecond mid new
    → Adds edges (λ e. IsFirst e ⊎ IsSecond e) old new
adds_then edges IsFirst IsSecond old mid new first second = record {
  ranks = second.ranks ∙ first.ranks;
  last = second.last ∙ first.last;
  count = second.count ∙ first.count;
  each = λ e. elim (second.each e) [
    | inl kept ↦ elim (first.each e) [
      | inl same ↦ inl (kept ∙ same)
      | inr a ↦ inr (record { is_new = inl a.is_new; free = a.free; rank = a.rank; low = a.low; held = kept ∙ a.held })
    ]
    | inr a ↦ inr (record { is_new = inr a.is_new; free = free_before edges IsFirst old mid first e a.free; rank = a.rank; low = a.low; held = a.held })
  ];
  all = λ e is free. either is (λ f. first.all e f (free_before edges IsSecond mid new second e free)) (λ s. second.all e s free);
}

-- no edge joins the two ranks
pub adds_no_edge : (edges : List Ends) (first second low high : ℕ) (buckets : BucketsValue) → low ≡ min first second → high ≡ max first second
    → (HasEdge edges low high → ⊥) → Adds edges (IsBetween edges first second) buckets buckets
adds_no_edge edges first second low high buckets low_is high_is none =
    adds_none edges (IsBetween edges first second) buckets (λ e at.
    let is : slice_get edges e ≡ Some (record { low = min first second; high = high }) =
    subst (λ (q : ℕ). slice_get edges e ≡ Some (record { low = min first second; high = q })) (sym high_is) at in
    none (member_at edges (record { low = low; high = high }) e (subst (λ (p : ℕ). slice_get edges e ≡ Some (record { low = p; high = high })) (sym low_is) is)))

-- the edge of two ranks was there
adds_kept : (edges : List Ends) → IsRising edges → (first second edge : ℕ) (buckets : BucketsValue) → IsBetween edges first second edge → (IsFree buckets edge → ⊥)
    → Adds edges (IsBetween edges first second) buckets buckets
adds_kept edges rising first second edge buckets at there = record {
  ranks = refl;
  last = refl;
  count = refl;
  each = λ e. inl refl;
  all = λ e is free. there (subst (IsFree buckets) (one_number edges rising e edge (min first second) (max first second) is at) free);
}

-- the edge of two ranks is held now
adds_held : (edges : List Ends) → IsRising edges → (first second edge : ℕ) (old : BucketsValue) → IsBetween edges first second edge → IsFree old edge
    → Adds edges (IsBetween edges first second) old (record old { states = slice_set old.states edge (Held (min first second)) })
adds_held edges rising first second edge old at free =
    let low = min first second in
    let lt = slice_get_within old.states edge Free free in
    let here : slice_get (slice_set old.states edge (Held low)) edge ≡ Some (Held low) = get_here old.states edge (Held low) lt in
    record {
      ranks = refl;
      last = refl;
      count = length-set old.states edge (Held low);
      each = λ e.
          elim (cases_eq edge e) [
            | inl same ↦ inr (subst (IsAdded edges (IsBetween edges first second) old (record old { states = slice_set old.states edge (Held low) })) same
                (record { is_new = at; free = free; rank = low; low = (record { low = low; high = max first second }, at, refl); held = here }))
            | inr other ↦ inl (get_other old.states edge e (Held low) other)
          ];
      all = λ e is unheld.
          let same : e ≡ edge = one_number edges rising e edge low (max first second) is at in
          absurd (cc (subst (λ (k : ℕ). slice_get (slice_set old.states edge (Held low)) k ≡ Some Free) same unheld, here));
    }

pub adds_edge : (edges : List Ends) → IsRising edges → (first second low high edge : ℕ) (old new : BucketsValue) (added : Bool) → low ≡ min first second → high ≡ max first second
    → slice_get edges edge ≡ Some (record { low = low; high = high }) → (IsTrue added ↔ IsFree old edge)
    → (added ≡ true → new ≡ record old { states = slice_set old.states edge (Held low) }) → (added ≡ false → new ≡ old)
    → Adds edges (IsBetween edges first second) old new
adds_edge edges rising first second low high edge old new added low_is high_is at fresh held stays =
    let between : IsBetween edges first second edge = subst (λ (p : ℕ). slice_get edges edge ≡ Some (record { low = p; high = max first second })) low_is
    (subst (λ (q : ℕ). slice_get edges edge ≡ Some (record { low = low; high = q })) high_is at) in
    by_answer edges rising first second edge old new added between fresh (λ t. held t ∙ ap (λ (k : ℕ). record old { states = slice_set old.states edge (Held k) }) low_is) stays
  where
    by_answer : (edges : List Ends) → IsRising edges → (first second edge : ℕ) (old new : BucketsValue) (added : Bool) → IsBetween edges first second edge
        → (IsTrue added ↔ IsFree old edge)
        → (added ≡ true → new ≡ record old { states = slice_set old.states edge (Held (min first second)) }) → (added ≡ false → new ≡ old)
        → Adds edges (IsBetween edges first second) old new
    by_answer edges rising first second edge old new true between fresh held stays =
        subst (Adds edges (IsBetween edges first second) old) (sym (held refl)) (adds_held edges rising first second edge old between (fresh.0 refl))
    by_answer edges rising first second edge old new false between fresh held stays =
        subst (Adds edges (IsBetween edges first second) old) (sym (stays refl)) (adds_kept edges rising first second edge old between (λ f. absurd (cc (fresh.1 f))))

-- the edge joins the rank to one of the first of these
abbrev pub IsToFirst : List Ends → List ℕ → ℕ → ℕ → ℕ → Type 0
IsToFirst edges ranks rank count edge = (i : ℕ) × (i < count) × IsBetween edges (get_or ranks i 0) rank edge

pub to_first_more : (edges : List Ends) (ranks : List ℕ) (rank count : ℕ) (old mid new : BucketsValue) → Adds edges (IsToFirst edges ranks rank count) old mid
    → Adds edges (IsBetween edges (get_or ranks count 0) rank) mid new
    → Adds edges (IsToFirst edges ranks rank (count + 1)) old new
to_first_more edges ranks rank count old mid new before more =
    let First = IsToFirst edges ranks rank count in
    let Last = IsBetween edges (get_or ranks count 0) rank in
    adds_as edges (λ e. First e ⊎ Last e) (IsToFirst edges ranks rank (count + 1)) old new
    (λ e. (
      (λ a. either a (λ f. (f.0, omega (arith, f.1), f.2)) (λ l. (count, omega arith, l))),
      λ t. elim (cases_eq count t.0) [
        | inl same ↦ inr (subst (λ (i : ℕ). IsBetween edges (get_or ranks i 0) rank e) (sym same) t.2)
        | inr other ↦ inl (t.0, omega (arith, t.1, other), t.2)
      ],
    ))
    (adds_then edges First Last old mid new before more)

-- all edges from the higher end to the other higher neighbours of the lower end
pub to_all_above : (graph : ChordalValue) (edge : ℕ) (ends : Ends) (ups : List ℕ) (count : ℕ) (old new : BucketsValue) → slice_get graph.edges edge ≡ Some ends
    → ((y : ℕ) → Contains ups y ↔ HasEdge graph.edges ends.low y)
    → count ≡ length ups → Adds graph.edges (IsToFirst graph.edges ups ends.high count) old new → Adds graph.edges (IsAbove graph.edges edge) old new
to_all_above graph edge ends ups count old new at members all adds =
    adds_as graph.edges (IsToFirst graph.edges ups ends.high count) (IsAbove graph.edges edge) old new
    (λ e. (
      (λ t. (ends, get_or ups t.0 0, at, (members (get_or ups t.0 0)).0 (Contains-get_or ups t.0 0 (omega (arith, t.1, all))), t.2)),
      λ a.
          let (same, rank, there, side, between) = a in
          let is : same ≡ ends = cc (at, there) in
          let (i, inside, read) = (members rank).1 (subst (λ (x : Ends). HasEdge graph.edges x.low rank) is side) in
          let value : rank ≡ get_or ups i 0 = sym read ∙ get_or_default ups i rank 0 inside in
          (i, omega (arith, inside, all), subst (λ (p : ℕ). IsBetween graph.edges p ends.high e) value (subst (λ (x : Ends). IsBetween graph.edges rank x.high e) is between)),
    )) adds

-- one more road
pub of_profile_more : (edges : List Ends) (h : HierarchyValue) (profile count : ℕ) (road : RoadArc) (old mid new : BucketsValue)
    → slice_get h.network.arcs count ≡ Some road → road.profile ≡ profile
    → Adds edges (IsOfProfile h profile count) old mid → Adds edges (IsOfRoad h count) mid new → Adds edges (IsOfProfile h profile (count + 1)) old new
of_profile_more edges h profile count road old mid new at driven before more =
    adds_as edges (λ e. IsOfProfile h profile count e ⊎ IsOfRoad h count e) (IsOfProfile h profile (count + 1)) old new
    (λ e. (
      (λ a. either a (λ f. let (arc, it, lt, there, is, of) = f in (arc, it, omega (arith, lt), there, is, of)) (λ l. (count, road, omega arith, at, driven, l))),
      λ p.
          let (arc, it, lt, there, is, of) = p in
          elim (cases_eq count arc) [
            | inl same ↦ inr (subst (λ (a : ℕ). IsOfRoad h a e) (sym same) of)
            | inr other ↦ inl (arc, it, omega (arith, lt, other), there, is, of)
          ],
    ))
    (adds_then edges (IsOfProfile h profile count) (IsOfRoad h count) old mid new before more)

pub of_profile_skip : (edges : List Ends) (h : HierarchyValue) (profile count : ℕ) (road : RoadArc) (old new : BucketsValue) → slice_get h.network.arcs count ≡ Some road
    → (road.profile ≡ profile → ⊥)
    → Adds edges (IsOfProfile h profile count) old new → Adds edges (IsOfProfile h profile (count + 1)) old new
of_profile_skip edges h profile count road old new at not_driven adds =
    adds_as edges (IsOfProfile h profile count) (IsOfProfile h profile (count + 1)) old new
    (λ e. (
      (λ f. let (arc, it, lt, there, is, of) = f in (arc, it, omega (arith, lt), there, is, of)),
      λ p.
          let (arc, it, lt, there, is, of) = p in
          elim (cases_eq count arc) [
            | inl same ↦
                let road_is : road ≡ it = cc (same, at, there) in
                absurd (not_driven (subst (λ (r : RoadArc). r.profile ≡ profile) (sym road_is) is))
            | inr other ↦ (arc, it, omega (arith, lt, other), there, is, of)
          ],
    )) adds
