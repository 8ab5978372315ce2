-- The upward sweep: one ancestor after another.
use Rattle.std.proofs.Common.{◌≡◌, ◌≤◌, ◌<◌, ◌∙◌, ℕ, suc, List, [], ◌∷◌, ◌++◌, Option, Some, None, sym, ap, subst, arith, inl, inr, append_assoc}
use Rattle.std.specs.Prelude.{All, flat_map}
use Rattle.std.specs.List.{AllPairs, Contains}
use Rattle.std.proofs.lemmas.Grind.{flat_map-append}
use Rattle.std.proofs.lemmas.List.{append-nil}
use Rattle.cu_model.proofs.OptionLaws.{some_cases}
use Rattle.cu_chordal.proofs.Members.{here, there, member_cases, pairs_head, pairs_tail}
use Rattle.cu_elimtree.specs.SweepArcs.{ancestors_in}
use Rattle.cu_interval.specs.declared.relaxing.Call.{Call}
use Rattle.cu_interval.specs.Hierarchies.{HierarchyValue, IsHierarchy, graph_of, number_from}
use Rattle.cu_sweep.specs.Places.{second_at}
use Rattle.cu_sweep.specs.Sweeps.{AddsAll, below, call_at, call_unless, first_long, second_of, until_long}
use Rattle.cu_sweep.specs.Swept.{IsPassed}
use Rattle.cu_sweep.specs.Steps.Made.{Led, call_if, made_up_after, rows_up, sweep_of, up_made, up_made_from}
use Rattle.cu_sweep.specs.Steps.Sweeping.{IsUpSwept}
use Rattle.cu_chordal.specs.Graphs.{up_of}
use Rattle.cu_chordal.proofs.Tables.{edge_from_up_of}
use Rattle.cu_interval.specs.declared.ways.Dir.TheVariants.{Up}
use Rattle.cu_sweep.proofs.Ancestry.{ancestors_upwards}
use Rattle.cu_sweep.proofs.Behind.{filter_same}
use Rattle.cu_unpack.proofs.Edges.{edge_range}
use Rattle.cu_sweep.proofs.Passing.{below_before}
use Rattle.cu_sweep.proofs.LabelLaws.{number_below}
use Rattle.cu_sweep.proofs.MadeLaws.{up_made-whole}
use Rattle.cu_sweep.proofs.Telling.{adds_then, first_before, long_ends, until_before, until_none}
use Rattle.cu_sweep.proofs.UpRows.{up_after_none}

pub all_parts : (P : ℕ → Type 0) (before : List ℕ) (x : ℕ) (rest : List ℕ) → All P (before ++ (x ∷ rest)) → P x
all_parts P [] x rest all = all 0 x (omega arith)
all_parts P (z ∷ before) x rest all = all_parts P before x rest (λ k d lt. all (suc k) d (omega (arith, lt)))

pub member_inside : (before : List ℕ) (x : ℕ) (rest : List ℕ) → Contains (before ++ (x ∷ rest)) x
member_inside [] x rest = here x rest
member_inside (z ∷ before) x rest = there z (before ++ (x ∷ rest)) x (member_inside before x rest)

rising_behind : (before : List ℕ) (x : ℕ) (rest : List ℕ) → AllPairs (λ a b. a < b) (before ++ (x ∷ rest)) → (z : ℕ) → Contains (x ∷ rest) z → x ≤ z
rising_behind [] x rest f z c =
    elim (member_cases x rest z c) [
      | inl same ↦ omega (arith, same)
      | inr k ↦ let less = subst (λ (w : ℕ). x < w) k.2 (pairs_head (λ a b. a < b) x rest f k.0 z k.1) in omega (arith, less)
    ]
rising_behind (y ∷ before) x rest f z c = rising_behind before x rest (pairs_tail (λ a b. a < b) y (before ++ (x ∷ rest)) f) z c

-- the calls from ranks that aren't below change nothing
up_after_rest : (h : HierarchyValue) → IsHierarchy h → (q : Led) (before : List ℕ) (x : ℕ) (rest : List ℕ) → ((z : ℕ) → Contains rest z → x ≤ z)
    → made_up_after h q (before ++ rest) x ≡ made_up_after h q before x
up_after_rest h f q before x [] late = ap (λ (xs : List ℕ). made_up_after h q xs x) (append-nil before)
up_after_rest h f q before x (z ∷ rest) late =
    let le = late z (here z rest) in
    let none : number_from 0 h.edges z x ≡ None = elim (some_cases (number_from 0 h.edges z x)) [
      | inl e ↦ e
      | inr k ↦ let lt = number_below h f z x k.0 k.1 in absurd (omega (arith, lt, le))
    ] in
    ap (λ (xs : List ℕ). made_up_after h q xs x) (sym (append_assoc before (z ∷ []) rest))
    ∙ up_after_rest h f q (before ++ (z ∷ [])) x rest (λ w c. late w (there z rest w c)) ∙ up_after_none h q before z x none

-- a label is final after the calls from the ancestors before it
pub up_final : (h : HierarchyValue) → IsHierarchy h → (q : Led) (before : List ℕ) (x : ℕ) (rest : List ℕ) → ancestors_in (graph_of h) q.from ≡ before ++ (x ∷ rest)
    → AllPairs (λ a b. a < b) (before ++ (x ∷ rest))
    → made_up_after h q before x ≡ up_made h q x
up_final h f q before x rest e rising =
    sym (up_made-whole h f q x ∙ ap (λ (xs : List ℕ). made_up_after h q xs x) e ∙ up_after_rest h f q before x (x ∷ rest) (rising_behind before x rest rising))

-- the calls from an ancestor, as the places of labels say them
pub row_up_same : (h : HierarchyValue) → IsHierarchy h → (q : Led) (before : List ℕ) (x : ℕ) (behind : List ℕ)
    (labels : List (Option ℕ)) (links : List (Option (ℕ × ℕ))) → ancestors_in (graph_of h) q.from ≡ before ++ (x ∷ behind) → AllPairs (λ a b. a < b) (before ++ (x ∷ behind))
    → IsUpSwept h q before labels links
    → second_at labels x ≡ second_of (up_made h q x)
    → rows_up h q.allows x (second_at labels x) (second_at labels) ≡ up_made_from h q x
row_up_same h f q before x behind labels links e rising swept second =
    let s = second_of (up_made h q x) in
    let ancestors = ancestors_in (graph_of h) q.from in
    let lower : before ≡ below x ancestors = sym (ap (below x) e ∙ below_before before x behind rising) in
    let member : Contains ancestors x = subst (λ (xs : List ℕ). Contains xs x) (sym e) (member_inside before x behind) in
    ap (λ (t : Option ℕ). rows_up h q.allows x t (second_at labels)) second
    ∙ filter_same (λ y. call_unless h (second_at labels y) (call_if h (q.allows y) (call_at (number_from 0 h.edges x y) Up s)))
    (λ y. call_unless h (second_of (made_up_after h q (below x ancestors) y)) (call_if h (q.allows y) (call_at (number_from 0 h.edges x y) Up s))) (up_of h.edges x)
    (λ y c.
    let edge = edge_from_up_of h.edges x y c in
    let passed : IsPassed h (sweep_of q) y = ((edge_range h f x y edge).1, inl (ancestors_upwards (graph_of h) f.graph q.from x y member edge)) in
    let is : second_at labels y ≡ second_of (made_up_after h q (below x ancestors) y) =
    (swept y passed).second ∙ ap (λ (ranks : List ℕ). second_of (made_up_after h q ranks y)) lower in
    ap (λ (t : Option ℕ). call_unless h t (call_if h (q.allows y) (call_at (number_from 0 h.edges x y) Up s))) is)

-- the calls of a sweep over ranks, one rank more
pub calls_more : (f : ℕ → List Call) (before : List ℕ) (x : ℕ) → flat_map f (before ++ (x ∷ [])) ≡ flat_map f before ++ f x
calls_more f before x = flat_map-append f before (x ∷ []) ∙ ap (λ (cs : List Call). flat_map f before ++ cs) (append-nil (f x))

pub sweep_more : (h : HierarchyValue) (f : ℕ → List Call) (before : List ℕ) (x : ℕ) (a b c : Option (List Call)) → first_long h (flat_map f before) ≡ None → AddsAll a b (flat_map f before)
    → None ≡ first_long h (f x) → AddsAll b c (until_long h (f x)) → (first_long h (flat_map f (before ++ (x ∷ []))) ≡ None) × AddsAll a c (flat_map f (before ++ (x ∷ [])))
sweep_more h f before x a b c quiet told long row =
    let more = calls_more f before x in (
      ap (first_long h) more ∙ first_before h (flat_map f before) (f x) quiet ∙ sym long,
      subst (AddsAll a c) (sym more) (adds_then a b c (flat_map f before) (f x) told (subst (AddsAll b c) (until_none h (f x) (sym long)) row)),
    )

pub sweep_ends : (h : HierarchyValue) (f : ℕ → List Call) (before : List ℕ) (x : ℕ) (rest all : List ℕ) (call : Call) (a b c : Option (List Call)) → all ≡ before ++ (x ∷ rest)
    → first_long h (flat_map f before) ≡ None → AddsAll a b (flat_map f before)
    → first_long h (f x) ≡ Some call → AddsAll b c (until_long h (f x)) → (first_long h (flat_map f all) ≡ Some call) × AddsAll a c (until_long h (flat_map f all))
sweep_ends h f before x rest all call a b c e quiet told long row =
    let parted : flat_map f all ≡ flat_map f before ++ (f x ++ flat_map f rest) = ap (flat_map f) e ∙ flat_map-append f before (x ∷ rest) in
    let ends = long_ends h (f x) (flat_map f rest) call long in
    let until : until_long h (flat_map f all) ≡ flat_map f before ++ until_long h (f x) =
    ap (until_long h) parted ∙ until_before h (flat_map f before) (f x ++ flat_map f rest) quiet ∙ ap (λ (cs : List Call). flat_map f before ++ cs) ends.1 in (
      ap (first_long h) parted ∙ first_before h (flat_map f before) (f x ++ flat_map f rest) quiet ∙ ends.0,
      subst (AddsAll a c) (sym until) (adds_then a b c (flat_map f before) (until_long h (f x)) told row),
    )
