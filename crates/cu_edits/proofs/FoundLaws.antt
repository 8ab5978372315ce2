-- Edges found one after the other.
use Rattle.std.proofs.Common.{◌≡◌, ◌≢◌, ◌<◌, ◌+◌, ◌∙◌, ◌⊎◌, ℕ, Bool, true, false, List, [], ◌∷◌, ◌++◌, Some, refl, ap, sym, subst, arith, inl, inr, length, get_or}
use Rattle.std.specs.Prelude.{◌↔◌, All, max, min, replicate, slice_get, slice_set}
use Rattle.std.specs.List.{Contains}
use Rattle.std.proofs.lemmas.Bool.{cases_eq}
use Rattle.std.proofs.lemmas.List.{get_or_default}
use Rattle.std.proofs.lemmas.List.Elements.{All-replicate, Contains-append_left, Contains-get_or, Contains-push, Contains-push_cases}
use Rattle.std.proofs.lemmas.Option.{same_Some, slice_get_within}
use Rattle.cu_model.proofs.ListLaws.{get_here, get_other}
use Rattle.cu_model.proofs.RoadLaws.{all_at}
use Rattle.cu_chordal.specs.declared.graph.Ends.{Ends}
use Rattle.cu_chordal.specs.Edges.{LinksRanks}
use Rattle.cu_chordal.specs.Graphs.{HasEdge, IsRising, up_of}
use Rattle.cu_chordal.proofs.Members.{all_from_members, member_at, member_cases, none_in_nil, pairs_append, place_of}
use Rattle.cu_interval.specs.Hierarchies.{HierarchyValue}
use Rattle.cu_interval.proofs.ArcLists.{links_same}
use Rattle.cu_interval.proofs.Lookups.{one_number}
use Rattle.cu_edits.specs.Steps.Found.{AddsFound, AreMarked, IsOfSome, LeadsTo, joined_to}
use Rattle.cu_edits.specs.Steps.Spreading.{IsBetween, IsOfRoad}
use Rattle.cu_edits.proofs.ListLaws.{either, get_front}

-- none was found
pub marked_none : (edges : ℕ) → AreMarked (replicate edges false) []
marked_none edges = record {
  each = λ e. (
    (λ at. absurd (cc (all_at (λ (b : Bool). b ≡ false) (replicate edges false) e true (All-replicate (λ (b : Bool). b ≡ false) edges false refl) at))),
    λ c. absurd (none_in_nil e c),
  );
  once = λ i j d lt inside. absurd (omega (arith, inside));
}

-- those found are in range
pub found_within : (marks : List Bool) (found : List ℕ) → AreMarked marks found → All (λ edge. edge < length marks) found
found_within marks found are = all_from_members (λ edge. edge < length marks) found (λ edge c. slice_get_within marks edge true ((are.each edge).1 c))

-- one more is
pub marked_more : (marks : List Bool) (found : List ℕ) (edge : ℕ) → AreMarked marks found → edge < length marks → (slice_get marks edge ≡ Some true → ⊥)
    → AreMarked (slice_set marks edge true) (found ++ edge ∷ [])
marked_more marks found edge are inside off = record {
  each = λ e. elim (cases_eq edge e) [
    | inl same ↦ (
      (λ at. subst (Contains (found ++ edge ∷ [])) same (Contains-push found edge)),
      λ c. subst (λ (k : ℕ). slice_get (slice_set marks edge true) k ≡ Some true) same (get_here marks edge true inside),
    )
    | inr other ↦
        let kept = get_other marks edge e true other in (
          (λ at. Contains-append_left found (edge ∷ []) e ((are.each e).0 (sym kept ∙ at))),
          λ c. elim (Contains-push_cases found edge e c) [
            | inl before ↦ kept ∙ (are.each e).1 before
            | inr same ↦ absurd (other same)
          ],
        )
  ];
  once = pairs_append (λ x y. x ≢ y) found (edge ∷ []) are.once (λ i j d lt inner. absurd (omega (arith, lt, inner))) (λ x y c last same.
      elim (member_cases edge [] y last) [
        | inl here ↦ off ((are.each edge).1 (subst (Contains found) (same ∙ sym here) c))
        | inr past ↦ none_in_nil y past
      ]);
}

pub adds_one : (found : List ℕ) (edge : ℕ) → AddsFound (λ e. e ≡ edge) found (found ++ edge ∷ [])
adds_one found edge = record {
  kept = λ i e at. get_front found edge e i at;
  each = λ e c. elim (Contains-push_cases found edge e c) [ inl before ↦ inl before | inr same ↦ inr (sym same) ];
  all = λ e is. subst (Contains (found ++ edge ∷ [])) (sym is) (Contains-push found edge);
}

pub adds_same : (found : List ℕ) (edge : ℕ) → Contains found edge → AddsFound (λ e. e ≡ edge) found found
adds_same found edge there = record {
  kept = λ i e at. at;
  each = λ e c. inl c;
  all = λ e is. subst (Contains found) (sym is) there;
}

-- marks are taken away
pub marked_cleared : (marks now : List Bool) (found : List ℕ) → AreMarked marks found
    → ((k : ℕ) → slice_get now k ≡ Some true → (slice_get marks k ≡ Some true) × (Contains found k → ⊥)) → AreMarked now []
marked_cleared marks now found are left = record {
  each = λ e. ((λ at. absurd ((left e at).1 ((are.each e).0 (left e at).0))), λ c. absurd (none_in_nil e c));
  once = λ i j d lt inside. absurd (omega (arith, inside));
}

-- edges found in another order of words, or none, or some after others
pub found_none : (IsNew : ℕ → Type 0) (found : List ℕ) → ((e : ℕ) → IsNew e → ⊥) → AddsFound IsNew found found
found_none IsNew found none = record { kept = λ i e at. at; each = λ e c. inl c; all = λ e new. absurd (none e new) }

pub found_as : (IsNew IsNamed : ℕ → Type 0) (old now : List ℕ) → ((e : ℕ) → IsNew e ↔ IsNamed e) → AddsFound IsNew old now → AddsFound IsNamed old now
found_as IsNew IsNamed old now same adds = record {
  kept = adds.kept;
  each = λ e c. elim (adds.each e c) [ inl before ↦ inl before | inr new ↦ inr ((same e).0 new) ];
  all = λ e named. adds.all e ((same e).1 named);
}

pub stays_found : (IsNew : ℕ → Type 0) (old now : List ℕ) → AddsFound IsNew old now → (e : ℕ) → Contains old e → Contains now e
stays_found IsNew old now adds e c = let (i, at) = place_of old e c in member_at now e i (adds.kept i e at)

pub found_then : (IsFirst IsSecond : ℕ → Type 0) (old mid now : List ℕ) → AddsFound IsFirst old mid → AddsFound IsSecond mid now
    → AddsFound (λ e. IsFirst e ⊎ IsSecond e) old now
found_then IsFirst IsSecond old mid now first second = record {
  kept = λ i e at. second.kept i e (first.kept i e at);
  each = λ e c. elim (second.each e c) [
    | inl before ↦ elim (first.each e before) [ inl old ↦ inl old | inr new ↦ inr (inl new) ]
    | inr new ↦ inr (inr new)
  ];
  all = λ e is. either is (λ f. stays_found IsSecond mid now second e (first.all e f)) (λ s. second.all e s);
}

-- from none on, those found are the new ones
pub begun_from : (IsNew : ℕ → Type 0) (old now : List ℕ) → old ≡ [] → AddsFound IsNew old now → (e : ℕ) → Contains now e ↔ IsNew e
begun_from IsNew old now none adds e = ((λ c. either (adds.each e c) (λ o. absurd (none_in_nil e (subst (λ (xs : List ℕ). Contains xs e) none o))) (λ new. new)), adds.all e)

-- what belongs to the first of some items
abbrev pub OfFirst : (ℕ → ℕ → Type 0) → List ℕ → ℕ → ℕ → Type 0
OfFirst Of items count edge = (i : ℕ) × (i < count) × Of (get_or items i 0) edge

pub first_none : (Of : ℕ → ℕ → Type 0) (items found : List ℕ) → AddsFound (OfFirst Of items 0) found found
first_none Of items found = found_none (OfFirst Of items 0) found (λ e t. omega (arith, t.1))

pub first_more : (Of : ℕ → ℕ → Type 0) (items : List ℕ) (count : ℕ) (old mid now : List ℕ) → AddsFound (OfFirst Of items count) old mid
    → AddsFound (Of (get_or items count 0)) mid now → AddsFound (OfFirst Of items (count + 1)) old now
first_more Of items count old mid now before more =
    let First = OfFirst Of items count in
    let Last = Of (get_or items count 0) in
    found_as (λ e. First e ⊎ Last e) (OfFirst Of items (count + 1)) old now
    (λ e. (
      (λ a. either a (λ f. (f.0, omega (arith, f.1), f.2)) (λ l. (count, omega arith, l))),
      λ t. elim (cases_eq count t.0) [
        | inl same ↦ inr (subst (λ (i : ℕ). Of (get_or items i 0) e) (sym same) t.2)
        | inr other ↦ inl (t.0, omega (arith, t.1, other), t.2)
      ],
    ))
    (found_then First Last old mid now before more)

-- the edge between two ranks was found
pub found_between : (edges : List Ends) → IsRising edges → (first second low high edge : ℕ) (old now : List ℕ) → low ≡ min first second → high ≡ max first second
    → slice_get edges edge ≡ Some (record { low = low; high = high }) → AddsFound (λ e. e ≡ edge) old now → AddsFound (IsBetween edges first second) old now
found_between edges rising first second low high edge old now low_is high_is at adds =
    let between : IsBetween edges first second edge = subst (λ (p : ℕ). slice_get edges edge ≡ Some (record { low = p; high = max first second })) low_is
    (subst (λ (q : ℕ). slice_get edges edge ≡ Some (record { low = low; high = q })) high_is at) in
    found_as (λ e. e ≡ edge) (IsBetween edges first second) old now
    (λ e. ((λ is. subst (IsBetween edges first second) (sym is) between), λ own. one_number edges rising e edge (min first second) (max first second) own between)) adds

-- or there is none
pub found_no_edge : (edges : List Ends) (first second low high : ℕ) (found : List ℕ) → low ≡ min first second → high ≡ max first second
    → (HasEdge edges low high → ⊥) → AddsFound (IsBetween edges first second) found found
found_no_edge edges first second low high found low_is high_is none =
    found_none (IsBetween edges first second) found (λ e at.
    let is : slice_get edges e ≡ Some (record { low = min first second; high = high }) =
    subst (λ (q : ℕ). slice_get edges e ≡ Some (record { low = min first second; high = q })) (sym high_is) at in
    none (member_at edges (record { low = low; high = high }) e (subst (λ (p : ℕ). slice_get edges e ≡ Some (record { low = p; high = high })) (sym low_is) is)))

-- the edge of a road was found
pub found_road : (h : HierarchyValue) (edges : List Ends) (arc x y : ℕ) (old now : List ℕ) → edges ≡ h.edges → LinksRanks h.network h.order arc x y
    → AddsFound (IsBetween edges x y) old now → AddsFound (IsOfRoad h arc) old now
found_road h edges arc x y old now same links adds =
    found_as (IsBetween edges x y) (IsOfRoad h arc) old now
    (λ e. (
      (λ at. (x, y, links, subst (λ (es : List Ends). IsBetween es x y e) same at)),
      λ own.
          let (p, q, other, at) = own in
          let (one, two) = links_same h.network h.order arc p q x y other links in
          subst (λ (es : List Ends). IsBetween es x y e) (sym same) (subst (λ (k : ℕ). IsBetween h.edges x k e) two (subst (λ (k : ℕ). IsBetween h.edges k q e) one at)),
    )) adds

-- the edges of all roads were
pub found_roads : (h : HierarchyValue) (arcs : List ℕ) (count : ℕ) (old now : List ℕ) → count ≡ length arcs → AddsFound (OfFirst (λ arc. IsOfRoad h arc) arcs count) old now
    → AddsFound (IsOfSome h arcs) old now
found_roads h arcs count old now all adds =
    found_as (OfFirst (λ arc. IsOfRoad h arc) arcs count) (IsOfSome h arcs) old now
    (λ e. (
      (λ t. (get_or arcs t.0 0, Contains-get_or arcs t.0 0 (omega (arith, t.1, all)), t.2)),
      λ a.
          let (arc, (i, inside, read), of) = a in
          let value : arc ≡ get_or arcs i 0 = sym read ∙ get_or_default arcs i arc 0 inside in
          (i, omega (arith, inside, all), subst (λ (k : ℕ). IsOfRoad h k e) value of),
    )) adds

-- the edges that one leads to were
pub found_next : (edges : List Ends) (edge : ℕ) (ends : Ends) (ups joined : List ℕ) (count : ℕ) (old now : List ℕ) → slice_get edges edge ≡ Some ends → ups ≡ up_of edges ends.low
    → joined ≡ joined_to ups ends.high → count ≡ length joined → AddsFound (OfFirst (λ rank. IsBetween edges rank ends.high) joined count) old now → AddsFound (LeadsTo edges edge) old now
found_next edges edge ends ups joined count old now at ups_are joined_are all adds =
    let are : joined ≡ joined_to (up_of edges ends.low) ends.high = joined_are ∙ ap (λ (us : List ℕ). joined_to us ends.high) ups_are in
    found_as (OfFirst (λ rank. IsBetween edges rank ends.high) joined count) (LeadsTo edges edge) old now
    (λ e. (
      (λ t. (ends, get_or joined t.0 0, at, subst (λ (rs : List ℕ). Contains rs (get_or joined t.0 0)) are (Contains-get_or joined t.0 0 (omega (arith, t.1, all))), t.2)),
      λ a.
          let (same, rank, there, side, between) = a in
          let is : same ≡ ends = cc (at, there) in
          let own : Contains (joined_to (up_of edges ends.low) ends.high) rank = subst (λ (x : Ends). Contains (joined_to (up_of edges x.low) x.high) rank) is side in
          let (i, inside, read) = subst (λ (rs : List ℕ). Contains rs rank) (sym are) own in
          let value : rank ≡ get_or joined i 0 = sym read ∙ get_or_default joined i rank 0 inside in
          (i, omega (arith, inside, all), subst (λ (p : ℕ). IsBetween edges p ends.high e) value (subst (λ (x : Ends). IsBetween edges rank x.high e) is between)),
    )) adds

pub item_within : (marks : List Bool) (edge edges : ℕ) → length marks ≡ edges → edge < edges → edge < length marks
item_within marks edge edges count lt = omega (arith, count, lt)

pub not_marked : (marks : List Bool) (edge : ℕ) (mark : Bool) → slice_get marks edge ≡ Some mark → (mark ≡ true → ⊥) → slice_get marks edge ≡ Some true → ⊥
not_marked marks edge mark at off set = off (same_Some mark true (sym at ∙ set))
