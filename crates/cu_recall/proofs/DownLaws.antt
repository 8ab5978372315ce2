-- What is kept of the lists downwards: it stays so, and what a span of it says is the answer.
use Rattle.std.proofs.Common.{◌≡◌, ◌≤◌, ◌<◌, ◌+◌, ◌-◌, ◌*◌, ◌%◌, ◌^◌, ◌∙◌, ℕ, List, [], All, get_or, length, refl, sym, subst, arith, inl, inr, replicate}
use Rattle.std.specs.Prelude.{slice_set}
use Rattle.std.proofs.lemmas.List.Elements.{All-replicate}
use Rattle.std.proofs.Math.Nat.{mul-le-mul_right}
use Rattle.std.proofs.lemmas.Nat.{mod-mul-add}
use Rattle.std.proofs.lemmas.Option.{get_or_from_slice_get, slice_get-get_or, slice_get_within}
use Rattle.cu_model.specs.Days.{day}
use Rattle.cu_interval.specs.declared.ways.Dir.TheVariants.{Down}
use Rattle.cu_interval.specs.declared.relaxing.Relaxed.TheVariants.{At}
use Rattle.cu_interval.specs.Hierarchies.{HierarchyValue, IsHierarchy, list_number}
use Rattle.cu_interval.specs.LeastBounds.{least_bound}
use Rattle.cu_interval.specs.Unpacking.{relaxed}
use Rattle.cu_recall.specs.declared.downs.DownSpan.{DownSpan}
use Rattle.cu_recall.specs.declared.downs.TheConstants.{NO_BOUND}
use Rattle.cu_recall.specs.declared.spans.Driven.{Driven}
use Rattle.cu_recall.specs.Downs.{HasDriven, HoldsDown, KnowsDowns, span_of}
use Rattle.cu_recall.specs.Windows.{HoldsDriven, IsWindow}
use Rattle.cu_recall.proofs.Answering.{driven_at, driven_near}
use Rattle.cu_recall.proofs.Keeping.{driven_span, set_or, span_driven}
use Rattle.cu_recall.proofs.ListEnds.{edge_list}

-- one that says nothing is true of each edge, and so are any number of it
pub nothing_kept : (h : HierarchyValue) (edge : ℕ) (down : DownSpan) → down.least ≡ NO_BOUND → down.from ≡ 0 → down.seconds ≡ 0 → HoldsDown h edge down
nothing_kept h edge down least from seconds = record {
  least = λ lt. absurd (omega (arith, lt, least));
  driven = (0, λ some. absurd (omega (arith, some, seconds)), (omega (arith, from, seconds), λ u v t is has. absurd (let low = has.0 in let high = has.1 in omega (arith, low, high, seconds))));
}

pub nothing_downs : (h : HierarchyValue) (n : ℕ) (down : DownSpan) (downs : List DownSpan) → down.least ≡ NO_BOUND → down.from ≡ 0 → down.seconds ≡ 0 → downs ≡ replicate n down → KnowsDowns h downs
nothing_downs h n down downs least from seconds same place found at =
    let lt = slice_get_within downs place found at in
    let all : All (λ (d : DownSpan). d ≡ down) downs = subst (All (λ (d : DownSpan). d ≡ down)) (sym same) (All-replicate (λ (d : DownSpan). d ≡ down) n down refl) in
    let is : found ≡ down = sym (get_or_from_slice_get downs place found down at) ∙ all place down lt in
    subst (HoldsDown h (place % length h.edges)) (sym is) (nothing_kept h (place % length h.edges) down least from seconds)

-- where none is written nothing is kept
pub no_downs : (h : HierarchyValue) (downs : List DownSpan) → downs ≡ [] → KnowsDowns h downs
no_downs h downs none = subst (KnowsDowns h) (sym none) (λ place down at. cc at)

-- one that is true of the edge of a place may be written there
pub downs_set : (h : HierarchyValue) (downs : List DownSpan) (place : ℕ) (down : DownSpan) → KnowsDowns h downs → HoldsDown h (place % length h.edges) down → KnowsDowns h (slice_set downs place down)
downs_set h downs place down knows holds j found at =
    elim (set_or downs place j down found at) [
      | inl here ↦ subst (λ (n : ℕ). HoldsDown h (n % length h.edges) found) here.0 (subst (λ (d : DownSpan). HoldsDown h (place % length h.edges) d) here.1 holds)
      | inr before ↦ knows j found before
    ]

-- what stands at a place is true of its edge
pub down_there : (h : HierarchyValue) (downs : List DownSpan) (edge place : ℕ) (other : DownSpan) → KnowsDowns h downs → place % length h.edges ≡ edge → place < length downs
    → HoldsDown h edge (get_or downs place other)
down_there h downs edge place other knows same there =
    subst (λ (n : ℕ). HoldsDown h n (get_or downs place other)) same (knows place (get_or downs place other) (slice_get-get_or downs place other there))

-- each edge has its place behind that of the first one, in each of the three tables
pub table_within : (third edges places first : ℕ) → third < 3 → 3 * edges ≤ places → first ≡ third * edges → (first ≤ 2 * edges) × (first + edges ≤ places)
table_within third edges places first few whole is = let most : third * edges ≤ 2 * edges = mul-le-mul_right edges (omega (arith, few)) in (omega (arith, is, most), omega (arith, is, whole, most))

pub table_place : (third edges first : ℕ) → first ≡ third * edges → (edge : ℕ) → edge < edges → (first + edge) % edges ≡ edge
table_place third edges first is edge inside = subst (λ (n : ℕ). (n + edge) % edges ≡ edge) (sym is) (mod-mul-add third edges edge inside)

-- what driving the list takes is a span of it
pub down_kept : (h : HierarchyValue) (edge second : ℕ) (driven : Driven) (old new : DownSpan) → IsWindow second driven.back driven.ahead → new.least ≡ old.least
    → new.from ≡ second - driven.back → new.seconds ≡ driven.back + driven.ahead → new.travel ≡ driven.travel → driven.roads < h.network.nodes
    → HoldsDriven h (list_number edge Down) second driven → HoldsDown h edge old → HoldsDown h edge new
down_kept h edge second driven old new window least from seconds travel few holds held = record {
  least = λ lt. least ∙ held.least (omega (arith, lt, least));
  driven = (
    driven.roads,
    λ some. few,
    driven_span h (list_number edge Down) second driven.back driven.ahead driven (span_of new driven.roads) window (omega arith) (omega arith) from seconds travel refl holds,
  );
}

-- a least bound that finds room may be written
pub bound_kept : (h : HierarchyValue) (edge least : ℕ) (down : DownSpan) → (least < NO_BOUND → least ≡ least_bound h edge Down) → HoldsDown h edge down
    → HoldsDown h edge (record down { least = least })
bound_kept h edge least down is held = record { least = is; driven = held.driven }

-- at a second of its span the answer is what that says, which isn't far
pub down_says : (h : HierarchyValue) → IsHierarchy h → (edge : ℕ) (down : DownSpan) (t : ℕ) → edge < length h.edges → HoldsDown h edge down → HasDriven down (t % day)
    → (relaxed h edge Down t ≡ At (t + down.travel)) × (down.travel ≤ 2 ^ 38)
down_says h f edge down t inside held has =
    let (roads, fewer, span) = held.driven in
    let low = has.0 in
    let high = has.1 in
    let few = fewer (omega (arith, low, high)) in
    let around : Driven = record { back = t % day - down.from; ahead = down.seconds - (t % day - down.from); travel = down.travel; roads = roads } in
    let holds : HoldsDriven h (list_number edge Down) (t % day) around = span_driven h (list_number edge Down) (t % day) (span_of down roads) around has refl refl refl refl span in
    let near = driven_near h f edge Down t inside around holds in
    let all = f.network.few_nodes in
    (driven_at h f edge Down t inside around holds few, omega (arith, near, few, all))

-- driving the list is said over a window
pub driven_window : (h : HierarchyValue) (edge second : ℕ) (driven : Driven) → edge < length h.edges → HoldsDriven h (list_number edge Down) second driven → IsWindow second driven.back driven.ahead
driven_window h edge second driven inside holds = let (u, v, is) = edge_list h edge Down inside in (holds u v is).window
