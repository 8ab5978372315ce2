-- What a query finds, tells and holds where each of its sweeps ends.
use Rattle.std.proofs.Common.{◌≡◌, ◌+◌, ◌∙◌, ℕ, false, List, Option, Some, None, refl, sym, ap, subst}
use Rattle.cu_interval.specs.declared.relaxing.Call.{Call}
use Rattle.cu_elimtree.specs.SweepArcs.{ancestors_in}
use Rattle.cu_interval.specs.Hierarchies.{HierarchyValue, graph_of}
use Rattle.cu_sweep.specs.declared.finding.Found.{Found}
use Rattle.cu_sweep.specs.declared.finding.Found.TheVariants.{Arrive, NoWalk, Long}
use Rattle.cu_sweep.specs.Answers.{IsReal}
use Rattle.cu_sweep.specs.Desks.{DeskValue, HoldsFound}
use Rattle.cu_sweep.specs.Labels.{Label, down_label}
use Rattle.cu_sweep.specs.Places.{AreKept}
use Rattle.cu_sweep.specs.Sweeps.{AddsAll, down_calls, first_long, found, found_by, second_of, sweep_calls, until_long, up_calls}
use Rattle.cu_sweep.specs.Swept.{IsReachedAs, LabelsValue, Makes, Sweep, desk_of, path_calls}
use Rattle.cu_sweep.specs.Steps.Sweeping.{answer_by}
use Rattle.cu_sweep.proofs.Telling.{makes_ends, makes_then}

-- what a query has found and told
pub record IsOver (h : HierarchyValue) (from to second : ℕ) (before now : Option (List Call)) (result : Found) : Type 0 where
  pub found : result ≡ found h from to second
  pub told : AddsAll before now (until_long h (sweep_calls h from to second))

-- over the ancestors of an end the calls of a path are the downward ones
pub down_made : (h : HierarchyValue) (q : Sweep) (to : ℕ) (a b : Option (List Call)) (long : Option Call) → q.path ≡ ancestors_in (graph_of h) to
    → Makes h (path_calls h q) a b long → Makes h (down_calls h q.from to q.second) a b long
down_made h q to a b long same made =
    subst (λ (ranks : List ℕ). Makes h (path_calls h (record q { path = ranks })) a b long) same made

module _ (h : HierarchyValue) (from to second : ℕ) (a b : Option (List Call)) where
  -- the upward sweep ended with a call whose walk is too long
  pub ends_up : (call : Call) (result : Found) → Makes h (up_calls h from second) a b (Some call) → result ≡ Long call.edge call.dir call.second
      → IsOver h from to second a b result
  ends_up call result up e =
      let all = makes_ends h a b (up_calls h from second) (down_calls h from to second) call up in
      record { found = e ∙ ap (λ (o : Option Call). found_by o (down_label h from second to)) all.ended; told = all.told }

  -- the downward sweep ended with such a call
  pub ends_down : (c : Option (List Call)) (call : Call) (result : Found) → Makes h (up_calls h from second) a b None
      → Makes h (down_calls h from to second) b c (Some call) → result ≡ Long call.edge call.dir call.second → IsOver h from to second a c result
  ends_down c call result up down e =
      let all = makes_then h a b (up_calls h from second) (down_calls h from to second) c (Some call) up down in
      record { found = e ∙ ap (λ (o : Option Call). found_by o (down_label h from second to)) all.ended; told = all.told }

  answer_label : (o : Option Label) → answer_by (second_of o) ≡ found_by None o
  answer_label None = refl
  answer_label (Some label) = refl

  -- both sweeps are done, and the end's label tells
  pub ends_found : (c : Option (List Call)) (result : Found) → Makes h (up_calls h from second) a b None → Makes h (down_calls h from to second) b c None
      → result ≡ answer_by (second_of (down_label h from second to)) → IsOver h from to second a c result
  ends_found c result up down e =
      let all = makes_then h a b (up_calls h from second) (down_calls h from to second) c None up down in
      let label = down_label h from second to in
      record { found = e ∙ answer_label label ∙ ap (λ (o : Option Call). found_by o label) all.ended; told = all.told }

arrives_by : (long : Option Call) (o : Option Label) (label : Label) (arrival : ℕ) → Arrive arrival ≡ found_by long o → o ≡ Some label → arrival ≡ label.second
arrives_by (Some call) o label arrival e is = absurd (cc e)
arrives_by None None label arrival e is = absurd (cc e)
arrives_by None (Some other) label arrival e is = cc (e, is)

arrives_some : (long : Option Call) (o : Option Label) (arrival : ℕ) → Arrive arrival ≡ found_by long o → (label : Label) × (o ≡ Some label)
arrives_some (Some call) o arrival e = absurd (cc e)
arrives_some None None arrival e = absurd (cc e)
arrives_some None (Some label) arrival e = (label, refl)

-- the places hold the calls of what was found
pub holds_found : (h : HierarchyValue) (from to second : ℕ) (labels : LabelsValue) (result : Found) → result ≡ found h from to second
    → IsReachedAs h labels (labels.nodes + to) (down_label h from second to) → AreKept labels.links → labels.turned ≡ false
    → HoldsFound h from to second result (desk_of labels (labels.nodes + to))
holds_found h from to second labels NoWalk e reached kept unturned = tt
holds_found h from to second labels (Long edge dir t) e reached kept unturned = tt
holds_found h from to second labels (Arrive arrival) e reached kept unturned =
    let (label, is) = arrives_some (first_long h (sweep_calls h from to second)) (down_label h from second to) arrival e in
    let (calls, arriving) = reached.calls kept label is in
    (label, is, calls, arriving, unturned)

-- and where a walk was found its calls are real
pub real_found : (h : HierarchyValue) (from to second : ℕ) (desk : DeskValue) (result : Found)
    → ((label : Label) → down_label h from second to ≡ Some label → IsReal h from to second label.calls (Arrive label.second))
    → result ≡ found h from to second → HoldsFound h from to second result desk → IsReal h from to second desk.calls result
real_found h from to second desk NoWalk real e holds = tt
real_found h from to second desk (Long edge dir t) real e holds = tt
real_found h from to second desk (Arrive arrival) real e (label, is, calls, arriving, unturned) =
    let same : arrival ≡ label.second = arrives_by (first_long h (sweep_calls h from to second)) (down_label h from second to) label arrival e is in
    subst (λ (cs : List Call). IsReal h from to second cs (Arrive arrival)) (sym calls) (subst (λ (s : ℕ). IsReal h from to second label.calls (Arrive s)) (sym same) (real label is))
