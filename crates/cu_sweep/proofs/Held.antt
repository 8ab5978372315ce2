-- When both sweeps are over, the links that lead to a place give the calls of its label.
use Rattle.std.proofs.Common.{◌≡◌, ◌<◌, ◌+◌, ◌*◌, ◌∙◌, ℕ, zero, suc, Bool, true, false, List, [], ◌++◌, Option, Some, None, refl, sym, ap, subst, arith, inl, inr, ◌⊎◌, if◌then◌else◌, reverse}
use Rattle.std.specs.Prelude.{◌==◌, All}
use Rattle.std.specs.List.{Contains}
use Rattle.std.proofs.lemmas.List.Elements.{All-append, All-contains}
use Rattle.cu_links.specs.Chains.{link_at}
use Rattle.cu_links.proofs.Setting.{none_at}
use Rattle.cu_chordal.specs.Graphs.{ChordalValue}
use Rattle.cu_chordal.proofs.Members.{none_in_nil}
use Rattle.cu_elimtree.specs.SweepArcs.{ancestors_in, parents_in}
use Rattle.cu_elimtree.specs.Trees.{ancestors_of}
use Rattle.cu_interval.specs.declared.relaxing.Call.{Call}
use Rattle.cu_interval.specs.Hierarchies.{HierarchyValue, IsHierarchy, graph_of}
use Rattle.cu_sweep.specs.Labels.{Label, start_label}
use Rattle.cu_sweep.specs.Sweeps.{second_of}
use Rattle.cu_sweep.specs.Desks.{AreArriving, IsArrivingCall}
use Rattle.cu_sweep.specs.Places.{AreKept, calls_after, calls_between, calls_over, calls_to, dir_between, second_at}
use Rattle.cu_sweep.specs.Swept.{IsBegun, IsClosed, IsPassed, IsReachedAs, IsSource, LabelsValue, Sweep, begun_second}
use Rattle.cu_sweep.specs.Steps.Made.{HoldsMade, IsLinkedLabelMade, IsMadeDown, IsMadeUp, Led, down_made, final_made, sweep_of}
use Rattle.cu_sweep.specs.Steps.Ready.{Rises, turn_of}
use Rattle.cu_sweep.specs.Steps.Sweeping.{IsDownOver, IsDownSwept, IsUpOver, IsUpSwept}
use Rattle.cu_sweep.proofs.Behind.{turned_member}
use Rattle.cu_sweep.proofs.Choosing.{earlier_none}
use Rattle.cu_sweep.proofs.DownRows.{final_down}
use Rattle.cu_sweep.proofs.MadeLaws.{up_made-whole}
use Rattle.cu_sweep.proofs.Readying.{turn_last}
use Rattle.cu_sweep.proofs.UpRows.{final_up}

start_second : (b : Bool) (second : ℕ) → (if b then Some second else None) ≡ second_of (if b then Some (record { second = second; calls = [] }) else None)
start_second true second = refl
start_second false second = refl

start_linked : (h : HierarchyValue) (q : Led) (links : List (Option (ℕ × ℕ))) (place : ℕ) (b : Bool) (second : ℕ) → link_at links place ≡ None
    → IsLinkedLabelMade h q links place (if b then Some (record { second = second; calls = [] }) else None)
start_linked h q links place true second e = inl (e, refl)
start_linked h q links place false second e = tt

-- a sweep has begun, by the graph that the hierarchy has
pub has_begun : (h : HierarchyValue) (q : Sweep) (parents : List (Option ℕ)) (labels : LabelsValue) → parents ≡ parents_in (graph_of h)
    → ((y : ℕ) → Contains (ancestors_of parents q.from) y ⊎ Contains q.path y → second_at labels.seconds y ≡ begun_second q.from q.second y)
    → All (λ link. link ≡ None) labels.links → IsBegun h q labels
has_begun h q parents labels same begins none =
    let all = subst (λ (ps : List (Option ℕ)). (y : ℕ) → Contains (ancestors_of ps q.from) y ⊎ Contains q.path y
    → second_at labels.seconds y ≡ begun_second q.from q.second y) same begins in
    record { seconds = λ y passed. all y passed.1; unlinked = none }

-- before the first call each rank has the label of the start
pub begun_swept : (h : HierarchyValue) (q : Led) (labels : LabelsValue) → IsBegun h (sweep_of q) labels → IsUpSwept h q [] labels.seconds labels.links
begun_swept h q labels begun y passed =
    let start : HoldsMade h q labels.seconds labels.links y (start_label q.from q.second y) = record {
      second = begun.seconds y passed ∙ start_second (y == q.from) q.second;
      linked = λ kept. start_linked h q labels.links y (y == q.from) q.second (none_at labels.links y begun.unlinked);
    } in
    subst (HoldsMade h q labels.seconds labels.links y) (sym (earlier_none (start_label q.from q.second y))) start

-- after the calls from all ancestors of the start each rank has its upward label
pub swept_up : (h : HierarchyValue) → IsHierarchy h → (q : Led) (labels : LabelsValue)
    → IsUpSwept h q (ancestors_in (graph_of h) q.from) labels.seconds labels.links → IsMadeUp h q labels
swept_up h f q labels up y p = subst (HoldsMade h q labels.seconds labels.links y) (sym (up_made-whole h f q y)) (up y p)

-- and no downward one
pub turn_swept : (h : HierarchyValue) (q : Led) (labels : LabelsValue) → IsMadeUp h q labels → IsDownSwept h q [] labels.seconds labels.links
turn_swept h q labels up = record { up = up; down = λ x c. absurd (none_in_nil x c) }

-- the upward pass of a sweep that has begun, over the ancestors in the hierarchy
pub up_over : (h : HierarchyValue) (q : Led) (graph : ChordalValue) (ancestors : List ℕ) (a b : Option (List Call)) (labels : LabelsValue) (here now : List (Option ℕ))
    (after : List (Option (ℕ × ℕ))) (long : Option Call) → graph ≡ graph_of h → ancestors_in graph q.from ≡ ancestors → here ≡ labels.seconds → IsBegun h (sweep_of q) labels
    → (allows : ℕ → ℕ → Bool) → q.allows ≡ allows
    → ((p : Led) → ancestors_in graph p.from ≡ ancestors → p.allows ≡ allows → IsUpSwept h p [] here labels.links → IsUpOver h p ancestors a b now after long)
    → IsUpOver h q (ancestors_in (graph_of h) q.from) a b now after long
up_over h q graph ancestors a b labels here now after long same all is begun allows al over =
    let swept = subst (λ (xs : List (Option ℕ)). IsUpSwept h q [] xs labels.links) (sym is) (begun_swept h q labels begun) in
    subst (λ (v : ChordalValue). IsUpOver h q (ancestors_in v q.from) a b now after long) same
    (subst (λ (xs : List ℕ). IsUpOver h q xs a b now after long) (sym all) (over q all al swept))

-- and the downward pass of one that went up, over its path
pub down_over : (h : HierarchyValue) (q : Led) (path : List ℕ) (a b : Option (List Call)) (labels : LabelsValue) (here now : List (Option ℕ))
    (after : List (Option (ℕ × ℕ))) (long : Option Call) → q.path ≡ path → here ≡ labels.seconds → IsMadeUp h q labels
    → (allows : ℕ → ℕ → Bool) → q.allows ≡ allows → ((p : Led) → path ≡ p.path → p.allows ≡ allows → IsDownSwept h p [] here labels.links → IsDownOver h p (reverse path) a b now after long)
    → IsDownOver h q (reverse q.path) a b now after long
down_over h q path a b labels here now after long same is up allows al over =
    let swept = subst (λ (xs : List (Option ℕ)). IsDownSwept h q [] xs labels.links) (sym is) (turn_swept h q labels up) in
    subst (λ (ranks : List ℕ). IsDownOver h q (reverse ranks) a b now after long) (sym same) (over q (sym same) al swept)

-- the places whose labels are final when both sweeps are over
abbrev IsHeld : HierarchyValue → Led → ℕ → Type 0
IsHeld h q place = IsPassed h (sweep_of q) place ⊎ ((x : ℕ) × (place ≡ h.network.nodes + x) × Contains q.path x)

held : (h : HierarchyValue) (q : Led) (labels : List (Option ℕ)) (links : List (Option (ℕ × ℕ))) (place : ℕ)
    → IsDownSwept h q (reverse q.path) labels links → IsHeld h q place → HoldsMade h q labels links place (final_made h q place)
held h q labels links place f (inl p) = subst (HoldsMade h q labels links place) (sym (final_up h q place p.0)) (f.up place p)
held h q labels links place f (inr (x, same, c)) =
    let n = h.network.nodes in
    let here = subst (HoldsMade h q labels links (n + x)) (sym (final_down h q x)) (f.down x (turned_member q.path x c)) in
    subst (λ (p : ℕ). HoldsMade h q labels links p (final_made h q p)) (sym same) here

from_held : (h : HierarchyValue) (q : Led) → IsClosed h q.path → (place from : ℕ) → IsHeld h q place → IsSource h (sweep_of q) place from → IsHeld h q from
from_held h q closed place from is (inl p) = inl p
from_held h q closed place from (inl p) (inr (x, y, a, b, e)) = let lt = p.0 in absurd (omega (arith, lt, b))
from_held h q closed place from (inr (z, same, c)) (inr (x, y, a, b, e)) =
    let is : z ≡ x = omega (arith, same, b) in
    inr (y, a, closed x y (subst (Contains q.path) is c) e)

pub no_calls : (n : ℕ) (labels : List (Option ℕ)) (links : List (Option (ℕ × ℕ))) (fuel place : ℕ) → link_at links place ≡ None → calls_to n labels links fuel place ≡ []
no_calls n labels links zero place e = refl
no_calls n labels links (suc fuel) place e = ap (calls_after (calls_to n labels links fuel) n labels place) e

-- the calls of the links are those of the label, and all of them arrive
calls_held : (h : HierarchyValue) (q : Led) → IsClosed h q.path → (labels : List (Option ℕ)) (links : List (Option (ℕ × ℕ))) → AreKept links → Rises h.network.nodes links
    → IsDownSwept h q (reverse q.path) labels links → (fuel place : ℕ) (label : Label) → turn_of h.network.nodes place < fuel
    → IsHeld h q place → final_made h q place ≡ Some label
    → (calls_to h.network.nodes labels links fuel place ≡ label.calls) × AreArriving h label.calls
calls_held h q closed labels links kept rises swept zero place label lt is final = absurd (omega (arith, lt))
calls_held h q closed labels links kept rises swept (suc fuel) place label lt is final =
    let n = h.network.nodes in
    let linked : IsLinkedLabelMade h q links place (Some label) = subst (IsLinkedLabelMade h q links place) final ((held h q labels links place swept is).linked kept) in
    elim linked [
      | inl none ↦ (no_calls n labels links (suc fuel) place none.0 ∙ sym none.1, subst (AreArriving h) (sym none.1) (λ k d less. absurd (omega (arith, less))))
      | inr k ↦
          let up = (rises place k.from k.edge k.link).0 in
          let source = from_held h q closed place k.from is k.source in
          let before = calls_held h q closed labels links kept rises swept fuel k.from k.before (omega (arith, lt, up)) source k.final in
          let second : second_at labels k.from ≡ Some k.before.second = (held h q labels links k.from swept source).second ∙ ap second_of k.final in (
            ap (calls_after (calls_to n labels links fuel) n labels place) k.link
                ∙ ap (λ (cs : List Call). cs ++ calls_over n labels k.from place k.edge) before.0
                ∙ ap (λ (o : Option ℕ). k.before.calls ++ calls_between (dir_between n k.from place) k.edge o) second ∙ sym k.calls,
            subst (AreArriving h) (sym k.calls) (All-append (IsArrivingCall h) k.before.calls (calls_between (dir_between n k.from place) k.edge (Some k.before.second)) before.1 k.arriving),
          )
    ]

-- the ranks of the path are reached as their labels say
pub swept_down : (h : HierarchyValue) (q : Led) (labels : LabelsValue) → labels.nodes ≡ h.network.nodes → IsClosed h q.path
    → All (λ rank. rank < h.network.nodes) q.path → Rises h.network.nodes labels.links
    → IsDownSwept h q (reverse q.path) labels.seconds labels.links → IsMadeDown h q labels
swept_down h q labels nodes closed below rises swept rank c =
    let n = h.network.nodes in
    let label = down_made h q rank in
    let lt : rank < n = All-contains (λ r. r < n) q.path rank below c in
    let here : IsReachedAs h (record labels { nodes = n }) (n + rank) label = record {
      second = (swept.down rank (turned_member q.path rank c)).second;
      calls = λ kept one is. calls_held h q closed labels.seconds labels.links kept rises swept (2 * n + 1) (n + rank) one
          (turn_last n rank lt) (inr (rank, refl, c)) (final_down h q rank ∙ is);
    } in
    subst (λ (m : ℕ). IsReachedAs h (record labels { nodes = m }) (m + rank) label) (sym nodes) here
