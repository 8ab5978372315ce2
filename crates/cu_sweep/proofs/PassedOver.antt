-- A rank from which, or to which, no call may be made: labels and links stay as they are.
use Rattle.std.proofs.Common.{◌≡◌, ◌≢◌, ◌≤◌, ◌+◌, ◌∙◌, ℕ, Bool, true, false, List, [], ◌∷◌, ◌++◌, Option, Some, None, refl, sym, ap, subst, arith, inl, inr, map}
use Rattle.std.specs.Prelude.{filter_map}
use Rattle.std.specs.List.{Contains}
use Rattle.std.proofs.lemmas.Bool.{cases_eq}
use Rattle.cu_model.proofs.OptionLaws.{some_cases}
use Rattle.cu_chordal.specs.Graphs.{HasEdge, up_of}
use Rattle.cu_chordal.proofs.Members.{here, member_cases, there}
use Rattle.cu_chordal.proofs.Tables.{edge_from_up_of}
use Rattle.cu_interval.specs.declared.relaxing.Call.{Call}
use Rattle.cu_interval.specs.declared.ways.Dir.{Dir}
use Rattle.cu_interval.specs.declared.ways.Dir.TheVariants.{Up, Down}
use Rattle.cu_interval.specs.Hierarchies.{HierarchyValue, number_from}
use Rattle.cu_interval.specs.LeastBounds.{least_bound}
use Rattle.cu_sweep.specs.Labels.{Label, earlier_of, earliest, start_label}
use Rattle.cu_sweep.specs.Places.{second_at}
use Rattle.cu_sweep.specs.Sweeps.{AddsAll, below, call_at, call_unless, first_long, second_of}
use Rattle.cu_sweep.specs.Swept.{IsPassed}
use Rattle.cu_sweep.specs.Steps.Ahead.{FallsOff, LeadsUp}
use Rattle.cu_sweep.specs.Steps.Made.{HoldsMade, Led, call_if, down_call, down_made, made_down_after, made_down_into, made_over, made_up_after, made_up_into, rows_up, sweep_of, up_made}
use Rattle.cu_sweep.specs.Steps.Sweeping.{IfSecond, IsDownSwept, IsUpSwept}
use Rattle.cu_sweep.proofs.Choosing.{after_more, earlier_none}
use Rattle.cu_sweep.proofs.DownRows.{IsDownPart}
use Rattle.cu_sweep.proofs.Rows.{IsRow}
use Rattle.cu_sweep.proofs.Telling.{adds_none}

not_true : (b : Bool) → (b ≡ true → ⊥) → b ≡ false
not_true true none = absurd (none refl)
not_true false none = refl

no_calls : (f : ℕ → Option Call) (ys : List ℕ) → ((y : ℕ) → Contains ys y → f y ≡ None) → filter_map f ys ≡ []
no_calls f [] none = refl
no_calls f (y ∷ ys) none = rw (none y (here y ys)) (no_calls f ys (λ z c. none z (there y ys z c)))

-- no call is no row
pub row_of_none : (h : HierarchyValue) (f : ℕ → Option Call) (ys : List ℕ) (calls : Option (List Call)) → ((y : ℕ) → Contains ys y → f y ≡ None) → IsRow h f ys calls calls
row_of_none h f ys calls none =
    let same = no_calls f ys none in
    record {
      short = ap (first_long h) same;
      told = subst (AddsAll calls calls) (sym same) (adds_none calls);
    }

-- a call over an edge that is made at some second may not be made
module _ (h : HierarchyValue) (allowed : ℕ → Bool) (late : ℕ → Type 0) (dir : Dir) (edge : ℕ) (refused : (s : ℕ) → late s → allowed (s + least_bound h edge dir) ≡ false) where
  no_call_over : (second reached : Option ℕ) → IfSecond second late → call_unless h reached (call_if h allowed (call_at (Some edge) dir second)) ≡ None
  no_call_over None reached is = refl
  no_call_over (Some s) reached is = rw (refused s is) refl

  no_label_over : (label : Option Label) → IfSecond (second_of label) late → made_over h allowed (Some edge) dir label ≡ None
  no_label_over None is = refl
  no_label_over (Some label) is = rw (refused label.second is) refl

-- up from a rank that is reached too late
module _ (h : HierarchyValue) (allows : ℕ → ℕ → Bool) (x : ℕ) (leads : LeadsUp h allows x) where
  refused_up : (y edge : ℕ) → number_from 0 h.edges x y ≡ Some edge → (s : ℕ) → allows x s ≡ false → allows y (s + least_bound h edge Up) ≡ false
  refused_up y edge e s out = not_true (allows y (s + least_bound h edge Up)) (λ yes. absurd (cc (out, leads y edge s e yes)))

  no_call_up : (second reached : Option ℕ) → IfSecond second (λ at. allows x at ≡ false) → (y : ℕ)
      → call_unless h reached (call_if h (allows y) (call_at (number_from 0 h.edges x y) Up second)) ≡ None
  no_call_up second reached late y =
      elim (some_cases (number_from 0 h.edges x y)) [
        | inl none ↦ rw none refl
        | inr k ↦ rw (k.1) (no_call_over h (allows y) (λ at. allows x at ≡ false) Up k.0 (refused_up y k.0 k.1) second reached late)
      ]

  no_label_up : (label : Option Label) → IfSecond (second_of label) (λ at. allows x at ≡ false) → (y : ℕ) → made_over h (allows y) (number_from 0 h.edges x y) Up label ≡ None
  no_label_up label late y =
      elim (some_cases (number_from 0 h.edges x y)) [
        | inl none ↦ rw none refl
        | inr k ↦ rw (k.1) (no_label_over h (allows y) (λ at. allows x at ≡ false) Up k.0 (refused_up y k.0 k.1) label late)
      ]

  -- its row is none
  pub row_up_none : (second : Option ℕ) (reached : ℕ → Option ℕ) (calls : Option (List Call)) → IfSecond second (λ at. allows x at ≡ false)
      → IsRow h (λ y. call_unless h (reached y) (call_if h (allows y) (call_at (number_from 0 h.edges x y) Up second))) (up_of h.edges x) calls calls
  row_up_none second reached calls late = row_of_none h (λ y. call_unless h (reached y) (call_if h (allows y) (call_at (number_from 0 h.edges x y) Up second))) (up_of h.edges x) calls
      (λ y c. no_call_up second (reached y) late y)

  -- and no label changes by it
  pub up_passed_over : (q : Led) (done : List ℕ) (labels : List (Option ℕ)) (links : List (Option (ℕ × ℕ))) → q.allows ≡ allows → IsUpSwept h q done labels links
      → IsPassed h (sweep_of q) x → made_up_after h q done x ≡ up_made h q x → IfSecond (second_at labels x) (λ at. allows x at ≡ false)
      → IsUpSwept h q (done ++ (x ∷ [])) labels links
  up_passed_over q done labels links al swept p final late y passed =
      let second : second_at labels x ≡ second_of (up_made h q x) = (swept x p).second ∙ ap second_of final in
      let none : made_up_into h q y x ≡ None =
      ap (λ (each : ℕ → ℕ → Bool). made_over h (each y) (number_from 0 h.edges x y) Up (up_made h q x)) al
      ∙ no_label_up (up_made h q x) (subst (λ (o : Option ℕ). IfSecond o (λ at. allows x at ≡ false)) second late) y in
      let same : made_up_after h q (done ++ (x ∷ [])) y ≡ made_up_after h q done y =
      after_more (start_label q.from q.second y) (made_up_into h q y) done x ∙ ap (earlier_of (made_up_after h q done y)) none ∙ earlier_none (made_up_after h q done y) in
      subst (HoldsMade h q labels links y) (sym same) (swept y passed)

none_earliest : (f : ℕ → Option Label) (ys : List ℕ) → ((y : ℕ) → Contains ys y → f y ≡ None) → earliest (map f ys) ≡ None
none_earliest f [] none = refl
none_earliest f (y ∷ ys) none = ap (λ (label : Option Label). earlier_of label (earliest (map f ys))) (none y (here y ys)) ∙ none_earliest f ys (λ z c. none z (there y ys z c))

-- down to a rank whose higher neighbours are reached too late
module _ (h : HierarchyValue) (allows : ℕ → ℕ → Bool) (x soonest : ℕ) (falls : FallsOff allows) (out : allows (h.network.nodes + x) soonest ≡ false) where
  refused_down : (edge s : ℕ) → soonest ≤ s → allows (h.network.nodes + x) (s + least_bound h edge Down) ≡ false
  refused_down edge s late =
      not_true (allows (h.network.nodes + x) (s + least_bound h edge Down))
      (λ yes. absurd (cc (out, falls (h.network.nodes + x) soonest (s + least_bound h edge Down) (omega (arith, late)) yes)))

  no_call_down : (second reached number : Option ℕ) → IfSecond second (λ at. soonest ≤ at) → call_unless h reached (call_if h (allows (h.network.nodes + x)) (call_at number Down second)) ≡ None
  no_call_down second reached None late = refl
  no_call_down second reached (Some edge) late = no_call_over h (allows (h.network.nodes + x)) (λ at. soonest ≤ at) Down edge (refused_down edge) second reached late

  no_label_down : (label : Option Label) (number : Option ℕ) → IfSecond (second_of label) (λ at. soonest ≤ at) → made_over h (allows (h.network.nodes + x)) number Down label ≡ None
  no_label_down label None late = refl
  no_label_down label (Some edge) late = no_label_over h (allows (h.network.nodes + x)) (λ at. soonest ≤ at) Down edge (refused_down edge) label late

  module _ (q : Led) (al : q.allows ≡ allows) (late : (y : ℕ) → Contains (up_of h.edges x) y → IfSecond (second_of (down_made h q y)) (λ at. soonest ≤ at)) where
    pub row_down_none : (calls : Option (List Call)) → IsRow h (λ y. down_call h q x y (number_from 0 h.edges x y)) (up_of h.edges x) calls calls
    row_down_none calls = row_of_none h (λ y. down_call h q x y (number_from 0 h.edges x y)) (up_of h.edges x) calls
        (λ y c.
        let reached = second_of (made_down_after h q (below y (up_of h.edges x)) x) in
        ap (λ (each : ℕ → ℕ → Bool). call_unless h reached (call_if h (each (h.network.nodes + x)) (call_at (number_from 0 h.edges x y) Down (second_of (down_made h q y))))) al
        ∙ no_call_down (second_of (down_made h q y)) reached (number_from 0 h.edges x y) (late y c))

    pub down_passed_over : (done : List ℕ) (labels : List (Option ℕ)) (links : List (Option (ℕ × ℕ))) → IsDownPart h q done x [] labels links
        → IsDownPart h q done x (up_of h.edges x) labels links
    down_passed_over done labels links part =
        let none : earliest (map (made_down_into h q x) (up_of h.edges x)) ≡ None =
        none_earliest (made_down_into h q x) (up_of h.edges x)
        (λ y c.
        ap (λ (each : ℕ → ℕ → Bool). made_over h (each (h.network.nodes + x)) (number_from 0 h.edges x y) Down (down_made h q y)) al
        ∙ no_label_down (down_made h q y) (number_from 0 h.edges x y) (late y c)) in
        let same : made_down_after h q [] x ≡ made_down_after h q (up_of h.edges x) x = ap (earlier_of (up_made h q x)) (sym none) in
        record {
          up = part.up;
          down = part.down;
          here = subst (HoldsMade h q labels links (h.network.nodes + x)) same part.here;
        }

-- no place of these ranks, behind so many, is reached sooner
abbrev pub NoneSooner : ℕ → ℕ → List (Option ℕ) → List ℕ → Type 0
NoneSooner nodes soonest labels ranks = (y : ℕ) → Contains ranks y → IfSecond (second_at labels (nodes + y)) (λ at. soonest ≤ at)

sooner_still : (second : Option ℕ) (soonest next : ℕ) → next ≤ soonest → IfSecond second (λ at. soonest ≤ at) → IfSecond second (λ at. next ≤ at)
sooner_still None soonest next less is = tt
sooner_still (Some at) soonest next less is = omega (arith, less, is)

-- and neither is one more
pub none_sooner_more : (nodes soonest next x : ℕ) (before after : List (Option ℕ)) (ranks : List ℕ) → NoneSooner nodes soonest before ranks → next ≤ soonest
    → IfSecond (second_at after (nodes + x)) (λ at. next ≤ at) → ((y : ℕ) → y ≢ x → second_at after (nodes + y) ≡ second_at before (nodes + y))
    → NoneSooner nodes next after (x ∷ ranks)
none_sooner_more nodes soonest next x before after ranks none less at others y member =
    elim (cases_eq y x) [
      | inl same ↦ subst (λ (z : ℕ). IfSecond (second_at after (nodes + z)) (λ at. next ≤ at)) (sym same) at
      | inr other ↦
          elim (member_cases x ranks y member) [
            | inl same ↦ absurd (other (sym same))
            | inr rest ↦ subst (λ (o : Option ℕ). IfSecond o (λ at. next ≤ at)) (sym (others y other)) (sooner_still (second_at before (nodes + y)) soonest next less (none y rest))
          ]
    ]
