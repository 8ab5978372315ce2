-- A place's label after one call more.
use Rattle.std.proofs.Common.{◌≡◌, ◌≢◌, ◌<◌, ◌+◌, ◌^◌, ◌∙◌, ℕ, Bool, true, false, List, [], ◌∷◌, ◌++◌, Option, Some, None, refl, sym, ap, subst, arith, inl, inr, length}
use Rattle.std.proofs.Common.{get_or-set_same, get_or-set_other, ltb, if◌then◌else◌}
use Rattle.std.specs.Prelude.{slice_set}
use Rattle.std.proofs.lemmas.List.{length-set}
use Rattle.std.proofs.lemmas.List.Elements.{All-cons}
use Rattle.cu_links.specs.Chains.{link_at}
use Rattle.cu_links.proofs.Links.{link_here, link_other}
use Rattle.cu_interval.specs.declared.ways.Dir.{Dir}
use Rattle.cu_interval.specs.declared.relaxing.Call.{Call}
use Rattle.cu_interval.specs.declared.relaxing.Relaxed.{Relaxed}
use Rattle.cu_interval.specs.declared.relaxing.Relaxed.TheVariants.{At, NoWay, Long}
use Rattle.cu_interval.specs.Hierarchies.{HierarchyValue}
use Rattle.cu_interval.specs.Unpacking.{relaxed}
use Rattle.std.proofs.lemmas.Bool.{cases_Bool}
use Rattle.cu_interval.specs.LeastBounds.{least_bound}
use Rattle.cu_sweep.specs.Labels.{Label, call_from, earlier_of, label_by, label_over}
use Rattle.cu_sweep.specs.Sweeps.{second_of}
use Rattle.cu_sweep.specs.Desks.{AreArriving, IsArrivingCall}
use Rattle.cu_sweep.specs.Places.{AreKept, calls_between, dir_between, second_at}
use Rattle.cu_sweep.specs.Swept.{IsSource}
use Rattle.cu_sweep.specs.Steps.Made.{HoldsMade, IsLinkedLabelMade, Led, final_made, made_over, sweep_of}
use Rattle.cu_sweep.specs.Steps.Sweeping.{IfSecond, answer_in, is_earlier, links_after, seconds_after}
use Rattle.cu_sweep.proofs.Choosing.{earlier_none}

if_long : (b : Bool) (links : List (Option (ℕ × ℕ))) (into : ℕ) (link : Option (ℕ × ℕ)) → length (if b then slice_set links into link else links) ≡ length links
if_long true links into link = length-set links into link
if_long false links into link = refl

-- other places keep theirs
linked_other : (h : HierarchyValue) (q : Led) (links more : List (Option (ℕ × ℕ))) (place : ℕ) (label : Option Label) → link_at more place ≡ link_at links place
    → IsLinkedLabelMade h q links place label → IsLinkedLabelMade h q more place label
linked_other h q links more place None e k = tt
linked_other h q links more place (Some label) e (inl k) = inl (e ∙ k.0, k.1)
linked_other h q links more place (Some label) e (inr k) = inr record {
  from = k.from;
  edge = k.edge;
  link = e ∙ k.link;
  source = k.source;
  before = k.before;
  final = k.final;
  calls = k.calls;
  arriving = k.arriving;
}

-- links are kept where they were
pub kept_before : (links more : List (Option (ℕ × ℕ))) → length more ≡ length links → AreKept more → AreKept links
kept_before links more long kept = omega (arith, long, kept)

pub links_long : (labels : List (Option ℕ)) (links : List (Option (ℕ × ℕ))) (from edge into : ℕ) (r : Relaxed) → length (links_after labels links from edge into r) ≡ length links
links_long labels links from edge into (At arrival) = if_long (is_earlier arrival (second_at labels into)) links into (Some (from, edge))
links_long labels links from edge into NoWay = refl
links_long labels links from edge into Long = refl

pub holds_same : (h : HierarchyValue) (q : Led) (labels labels2 : List (Option ℕ)) (links links2 : List (Option (ℕ × ℕ))) (place : ℕ) (label : Option Label)
    → second_at labels2 place ≡ second_at labels place → link_at links2 place ≡ link_at links place → length links2 ≡ length links
    → HoldsMade h q labels links place label → HoldsMade h q labels2 links2 place label
holds_same h q labels labels2 links links2 place label a b long k = record {
  second = a ∙ k.second;
  linked = λ kept. linked_other h q links links2 place label b (k.linked (kept_before links links2 long kept));
}

if_other : (b : Bool) (labels : List (Option ℕ)) (links : List (Option (ℕ × ℕ))) (into place : ℕ) (second : Option ℕ) (link : Option (ℕ × ℕ)) → place ≢ into
    → (second_at (if b then slice_set labels into second else labels) place ≡ second_at labels place)
    × (link_at (if b then slice_set links into link else links) place ≡ link_at links place)
if_other true labels links into place second link ne = (get_or-set_other labels into place second None ne, link_other links into place link (λ same. ne (sym same)))
if_other false labels links into place second link ne = (refl, refl)

one_call : (h : HierarchyValue) (edge : ℕ) (dir : Dir) (second arrival : ℕ) → edge < length h.edges → second < 2 ^ 61 → relaxed h edge dir second ≡ At arrival
    → AreArriving h (call_from edge dir second ∷ [])
one_call h edge dir second arrival lt time e =
    All-cons (IsArrivingCall h) (call_from edge dir second) [] (record { edge = lt; time = time; answers = (arrival, e) }) (λ k d none. absurd (omega (arith, none)))

module _ (h : HierarchyValue) (q : Led) (labels : List (Option ℕ)) (links : List (Option (ℕ × ℕ))) (from edge into : ℕ) where
  -- a place has a label after the answer of a call
  abbrev pub HoldsAfter : Relaxed → ℕ → Option Label → Type 0
  HoldsAfter r place label = HoldsMade h q (seconds_after labels into r) (links_after labels links from edge into r) place label

  -- and where an arrival is written, or isn't
  abbrev pub HoldsIf : Bool → ℕ → Option Label → Type 0
  HoldsIf b arrival label =
      HoldsMade h q (if b then slice_set labels into (Some arrival) else labels) (if b then slice_set links into (Some (from, edge)) else links) into label

  pub holds_other : (place : ℕ) (r : Relaxed) (label : Option Label) → place ≢ into → HoldsMade h q labels links place label → HoldsAfter r place label
  holds_other place (At arrival) label ne k =
      let b = is_earlier arrival (second_at labels into) in
      let other = if_other b labels links into place (Some arrival) (Some (from, edge)) ne in
      holds_same h q labels (seconds_after labels into (At arrival)) links (links_after labels links from edge into (At arrival)) place label other.0 other.1
      (links_long labels links from edge into (At arrival)) k
  holds_other place NoWay label ne k = k
  holds_other place Long label ne k = k

  -- the label that the call gives
  given : (dir : Dir) (source : Label) (arrival : ℕ) → into < length labels → (AreKept links → into < length links) → final_made h q from ≡ Some source
      → dir_between h.network.nodes from into ≡ Some dir → AreArriving h (call_from edge dir source.second ∷ []) → IsSource h (sweep_of q) into from
      → HoldsIf true arrival (Some (record { second = arrival; calls = source.calls ++ (call_from edge dir source.second ∷ []) }))
  given dir source arrival la li final along arriving comes =
      let calls : calls_between (dir_between h.network.nodes from into) edge (Some source.second) ≡ call_from edge dir source.second ∷ [] =
      ap (λ (d : Option Dir). calls_between d edge (Some source.second)) along in
      record {
        second = get_or-set_same labels into (Some arrival) None la;
        linked = λ kept. inr (record {
          from = from;
          edge = edge;
          link = link_here links into (Some (from, edge)) (li (kept_before links (slice_set links into (Some (from, edge))) (length-set links into (Some (from, edge))) kept));
          source = comes;
          before = source;
          final = final;
          calls = ap (λ (cs : List Call). source.calls ++ cs) (sym calls);
          arriving = subst (AreArriving h) (sym calls) arriving;
        });
      }

  given_if : (arrival : ℕ) (new : Label) (old : Option Label) (b : Bool) → HoldsIf true arrival (Some new) → HoldsMade h q labels links into old
      → HoldsIf b arrival (if b then Some new else old)
  given_if arrival new old true k o = k
  given_if arrival new old false k o = o

  chosen : (arrival : ℕ) (calls : List Call) (old : Option Label) → HoldsIf true arrival (Some (record { second = arrival; calls = calls })) → HoldsMade h q labels links into old
      → HoldsAfter (At arrival) into (earlier_of old (Some (record { second = arrival; calls = calls })))
  chosen arrival calls None k o =
      subst (λ (s : Option ℕ). HoldsIf (is_earlier arrival s) arrival (Some (record { second = arrival; calls = calls }))) (sym o.second) k
  chosen arrival calls (Some old) k o =
      let new : Label = record { second = arrival; calls = calls } in
      subst (λ (s : Option ℕ). HoldsIf (is_earlier arrival s) arrival (if ltb arrival old.second then Some new else Some old)) (sym o.second)
      (given_if arrival new (Some old) (ltb arrival old.second) k o)

  by_answer : (dir : Dir) (source : Label) (old : Option Label) (r : Relaxed) → into < length labels → (AreKept links → into < length links) → final_made h q from ≡ Some source
      → dir_between h.network.nodes from into ≡ Some dir → edge < length h.edges → source.second < 2 ^ 61 → relaxed h edge dir source.second ≡ r
      → IsSource h (sweep_of q) into from → HoldsMade h q labels links into old
      → HoldsAfter r into (earlier_of old (label_by r (source.calls ++ (call_from edge dir source.second ∷ []))))
  by_answer dir source old (At arrival) la li final along lt time is comes o =
      chosen arrival (source.calls ++ (call_from edge dir source.second ∷ [])) old
      (given dir source arrival la li final along (one_call h edge dir source.second arrival lt time is) comes) o
  by_answer dir source old NoWay la li final along lt time is comes o = subst (HoldsMade h q labels links into) (sym (earlier_none old)) o
  by_answer dir source old Long la li final along lt time is comes o = subst (HoldsMade h q labels links into) (sym (earlier_none old)) o

  -- after a call, whether it was made or left out, or may not be made
  pub holds_after : (allowed : ℕ → Bool) (dir : Dir) (source old : Option Label) → into < length labels → (AreKept links → into < length links) → final_made h q from ≡ source
      → dir_between h.network.nodes from into ≡ Some dir → edge < length h.edges → IfSecond (second_of source) (λ at. at < 2 ^ 61)
      → IsSource h (sweep_of q) into from → HoldsMade h q labels links into old
      → HoldsAfter (answer_in h allowed edge dir (second_of source)) into (earlier_of old (made_over h allowed (Some edge) dir source))
  holds_after allowed dir None old la li final along lt time comes o = subst (HoldsMade h q labels links into) (sym (earlier_none old)) o
  holds_after allowed dir (Some source) old la li final along lt time comes o =
      elim (cases_Bool (allowed (source.second + least_bound h edge dir))) [
        | inl may ↦
            let answer : answer_in h allowed edge dir (Some source.second) ≡ relaxed h edge dir source.second = rw may refl in
            let label : made_over h allowed (Some edge) dir (Some source) ≡ label_over h (Some edge) dir (Some source) = rw may refl in
            subst (λ (r : Relaxed). HoldsAfter r into (earlier_of old (made_over h allowed (Some edge) dir (Some source)))) (sym answer)
            (subst (λ (l : Option Label). HoldsAfter (relaxed h edge dir source.second) into (earlier_of old l)) (sym label)
            (by_answer dir source old (relaxed h edge dir source.second) la li final along lt time refl comes o))
        | inr may ↦
            let answer : answer_in h allowed edge dir (Some source.second) ≡ NoWay = rw may refl in
            let label : made_over h allowed (Some edge) dir (Some source) ≡ None = rw may refl in
            subst (λ (r : Relaxed). HoldsAfter r into (earlier_of old (made_over h allowed (Some edge) dir (Some source)))) (sym answer)
            (subst (λ (l : Option Label). HoldsMade h q labels links into (earlier_of old l)) (sym label) (subst (HoldsMade h q labels links into) (sym (earlier_none old)) o))
      ]

pub seconds_other : (labels : List (Option ℕ)) (into place : ℕ) (r : Relaxed) → place ≢ into → second_at (seconds_after labels into r) place ≡ second_at labels place
seconds_other labels into place (At arrival) ne = (if_other (is_earlier arrival (second_at labels into)) labels [] into place (Some arrival) None ne).0
seconds_other labels into place NoWay ne = refl
seconds_other labels into place Long ne = refl
