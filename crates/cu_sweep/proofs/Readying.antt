-- Labels and links that are ready for a sweep stay so: links rise along the sweeps, and seconds are near.
use Rattle.std.proofs.Common.{◌≡◌, ◌≤◌, ◌<◌, ◌+◌, ◌*◌, ◌-◌, ◌^◌, ◌∙◌, ℕ, zero, suc, Bool, true, false, List, [], ◌∷◌, Option, Some, None, refl, sym, ap, subst, arith, inl, inr, length}
use Rattle.std.proofs.Common.{get_or-set_same, get_or-set_other, ltb, if◌then◌else◌}
use Rattle.std.specs.Prelude.{All, slice_set, is_some}
use Rattle.cu_model.specs.declared.limits.TheConstants.{MAX_NODES}
use Rattle.cu_model.specs.Days.{day}
use Rattle.std.proofs.lemmas.Bool.{cases_eq}
use Rattle.std.proofs.lemmas.Option.{same_Some}
use Rattle.std.proofs.lemmas.List.{length-set}
use Rattle.cu_links.specs.Chains.{ChainValue, IsChain, IsOnChainTo, link_at}
use Rattle.cu_links.proofs.Links.{link_here, link_other, link_within}
use Rattle.cu_chordal.specs.declared.graph.TheConstants.{MAX_EDGES}
use Rattle.cu_interval.specs.declared.ways.Dir.{Dir}
use Rattle.cu_interval.specs.declared.relaxing.Relaxed.{Relaxed}
use Rattle.cu_interval.specs.declared.relaxing.Relaxed.TheVariants.{At, NoWay, Long}
use Rattle.cu_interval.specs.Calls.{IfAt}
use Rattle.cu_interval.specs.Hierarchies.{HierarchyValue}
use Rattle.cu_sweep.specs.Places.{AreKept, KeepsLinks, second_at}
use Rattle.cu_sweep.specs.Steps.Ready.{AreNear, IsReady, Rises, turn_of}
use Rattle.cu_sweep.specs.Steps.Sweeping.{IfSecond, answer_in, begun_links, is_earlier, links_after, seconds_after}

-- a chain has no more steps than turns lie between its ends
pub chain_steps : (n : ℕ) (links : List (Option (ℕ × ℕ))) → Rises n links → (first : ℕ) (steps : List (ℕ × ℕ)) (last : ℕ) → IsChain links first steps last
    → turn_of n first + length steps ≤ turn_of n last
chain_steps n links f first [] last c = let same : turn_of n first ≡ turn_of n last = ap (turn_of n) c in omega (arith, same)
chain_steps n links f first (step ∷ steps) last c =
    let here = (f step.0 first step.1 c.0).0 in
    let later = chain_steps n links f step.0 steps last c.1 in
    omega (arith, here, later)

pub apart : (n : ℕ) (links : List (Option (ℕ × ℕ))) (from into : ℕ) → Rises n links → turn_of n from < turn_of n into → IsOnChainTo links into from → ⊥
apart n links from into f lt c = let le = chain_steps n links f into c.0 from c.1 in absurd (omega (arith, lt, le))

pub near_set : (n : ℕ) (labels : List (Option ℕ)) (into second : ℕ) → into < length labels → second ≤ day - 1 + turn_of n into * 2 ^ 38 → AreNear n labels
    → AreNear n (slice_set labels into (Some second))
near_set n labels into second lt le f place t e =
    elim (cases_eq place into) [
      | inl same ↦
          let here : second_at (slice_set labels into (Some second)) into ≡ Some second = get_or-set_same labels into (Some second) None lt in
          let at : second_at (slice_set labels into (Some second)) into ≡ Some t = subst (λ (p : ℕ). second_at (slice_set labels into (Some second)) p ≡ Some t) same e in
          let is : second ≡ t = same_Some second t (sym here ∙ at) in
          let bound : t ≤ day - 1 + turn_of n into * 2 ^ 38 = subst (λ (s : ℕ). s ≤ day - 1 + turn_of n into * 2 ^ 38) is le in
          subst (λ (p : ℕ). t ≤ day - 1 + turn_of n p * 2 ^ 38) (sym same) bound
      | inr other ↦ f place t (sym (get_or-set_other labels into place (Some second) None other) ∙ e)
    ]

pub near_unset : (n : ℕ) (labels : List (Option ℕ)) (into : ℕ) → into < length labels → AreNear n labels → AreNear n (slice_set labels into None)
near_unset n labels into lt f place t e =
    elim (cases_eq place into) [
      | inl same ↦
          let here : second_at (slice_set labels into None) into ≡ None = get_or-set_same labels into None None lt in
          let at : second_at (slice_set labels into None) into ≡ Some t = subst (λ (p : ℕ). second_at (slice_set labels into None) p ≡ Some t) same e in
          absurd (cc (here, at))
      | inr other ↦ f place t (sym (get_or-set_other labels into place None None other) ∙ e)
    ]

pub rises_set : (n : ℕ) (links : List (Option (ℕ × ℕ))) (from edge into : ℕ) → turn_of n from < turn_of n into → from < 2 * n → edge < MAX_EDGES → Rises n links
    → Rises n (slice_set links into (Some (from, edge)))
rises_set n links from edge into up within small f place p e is =
    elim (cases_eq place into) [
      | inl same ↦
          let at : link_at (slice_set links into (Some (from, edge))) into ≡ Some (p, e) = subst (λ (q : ℕ). link_at (slice_set links into (Some (from, edge))) q ≡ Some (p, e)) same is in
          let more = link_within (slice_set links into (Some (from, edge))) into (p, e) at in
          let long = length-set links into (Some (from, edge)) in
          let here : link_at (slice_set links into (Some (from, edge))) into ≡ Some (from, edge) = link_here links into (Some (from, edge)) (omega (arith, more, long)) in
          let both : (from, edge) ≡ (p, e) = same_Some (from, edge) (p, e) (sym here ∙ at) in
          let first : from ≡ p = ap (λ (l : ℕ × ℕ). l.0) both in
          let second : edge ≡ e = ap (λ (l : ℕ × ℕ). l.1) both in
          let less : e < MAX_EDGES = subst (λ (d : ℕ). d < MAX_EDGES) second small in
          subst (λ (q : ℕ). (turn_of n p < turn_of n q) × (p < 2 * n) × (e < MAX_EDGES)) (sym same)
          (subst (λ (q : ℕ). (turn_of n q < turn_of n into) × (q < 2 * n) × (e < MAX_EDGES)) first (up, within, less))
      | inr other ↦ f place p e (sym (link_other links into place (Some (from, edge)) (λ same. other (sym same))) ∙ is)
    ]

-- what has links is of a kind that keeps them
pub keeps_links : {K : Type 0} → (links : K → List (Option (ℕ × ℕ))) (one : K) → AreKept (links one) → KeepsLinks links
keeps_links links one kept none = let empty = ap length (none one) in absurd (omega (arith, kept, empty))

-- chains keep links
pub chain_keeps : KeepsLinks (λ (one : ChainValue). one.links)
chain_keeps none = let one : ChainValue = record { links = None ∷ []; turned = false } in absurd (cc (none one))

module _ {Kept : Type 0} (n : ℕ) (labels : List (Option ℕ)) (links now : List (Option (ℕ × ℕ))) (turned still : Bool) (f : IsReady Kept n labels links turned) where
  ready_with : (more : List (Option ℕ)) → length more ≡ length labels → length now ≡ length links → AreNear n more → Rises n now → IsReady Kept n more now still
  ready_with more long places near rises = record {
    few = f.few;
    long = long ∙ f.long;
    places = λ kept. places ∙ f.places kept;
    near = near;
    rises = λ e. rises;
  }

  -- after a label begins as another
  pub begun_ready : (from into : ℕ) (o : Option ℕ) → turned ≡ false → from < 2 * n → into < 2 * n → turn_of n from < turn_of n into
      → second_at labels from ≡ o → now ≡ begun_links links from into o → IsReady Kept n (slice_set labels into o) now still
  begun_ready from into None unturned lf li up e is =
      let lt : into < length labels = let long = f.long in omega (arith, li, long) in
      ready_with (slice_set labels into None) (length-set labels into None) (ap length is) (near_unset n labels into lt f.near) (subst (Rises n) (sym is) (f.rises unturned))
  begun_ready from into (Some s) unturned lf li up e is =
      let lt : into < length labels = let long = f.long in omega (arith, li, long) in
      let near = f.near from s e in
      let le : s ≤ day - 1 + turn_of n into * 2 ^ 38 = omega (arith, near, up) in
      ready_with (slice_set labels into (Some s)) (length-set labels into (Some s)) (ap length is ∙ length-set links into (Some (from, 0)))
      (near_set n labels into s lt le f.near) (subst (Rises n) (sym is) (rises_set n links from 0 into up lf (omega arith) (f.rises unturned)))

  -- after a call
  relaxed_by : (from edge into at arrival : ℕ) (b : Bool) → turned ≡ false → from < 2 * n → into < 2 * n → edge < MAX_EDGES → turn_of n from < turn_of n into
      → second_at labels from ≡ Some at → arrival ≤ at + 2 ^ 38 → now ≡ (if b then slice_set links into (Some (from, edge)) else links)
      → IsReady Kept n (if b then slice_set labels into (Some arrival) else labels) now still
  relaxed_by from edge into at arrival true unturned lf li small up e near is =
      let lt : into < length labels = let long = f.long in omega (arith, li, long) in
      let before = f.near from at e in
      let le : arrival ≤ day - 1 + turn_of n into * 2 ^ 38 = omega (arith, before, up, near) in
      ready_with (slice_set labels into (Some arrival)) (length-set labels into (Some arrival)) (ap length is ∙ length-set links into (Some (from, edge)))
      (near_set n labels into arrival lt le f.near) (subst (Rises n) (sym is) (rises_set n links from edge into up lf small (f.rises unturned)))
  relaxed_by from edge into at arrival false unturned lf li small up e near is =
      ready_with labels refl (ap length is) f.near (subst (Rises n) (sym is) (f.rises unturned))

  pub relaxed_ready : (from edge into : ℕ) (r : Relaxed) → turned ≡ false → from < 2 * n → into < 2 * n → edge < MAX_EDGES → turn_of n from < turn_of n into
      → IfAt r (λ (arrival : ℕ). (at : ℕ) × (second_at labels from ≡ Some at) × (arrival ≤ at + 2 ^ 38))
      → now ≡ links_after labels links from edge into r → IsReady Kept n (seconds_after labels into r) now still
  relaxed_ready from edge into (At arrival) unturned lf li small up near is =
      relaxed_by from edge into near.0 arrival (is_earlier arrival (second_at labels into)) unturned lf li small up near.1 near.2 is
  relaxed_ready from edge into NoWay unturned lf li small up near is =
      ready_with labels refl (ap length is) f.near (subst (Rises n) (sym is) (f.rises unturned))
  relaxed_ready from edge into Long unturned lf li small up near is =
      ready_with labels refl (ap length is) f.near (subst (Rises n) (sym is) (f.rises unturned))

turn_by : (b : Bool) (m place : ℕ) → place < 2 * m → (if b then place else 3 * m - place) ≤ 3 * m
turn_by true m place lt = omega (arith, lt)
turn_by false m place lt = omega (arith, lt)

-- a place's second leaves room for a call
pub time_left : (n : ℕ) (labels : List (Option ℕ)) (from : ℕ) (o : Option ℕ) → n ≤ MAX_NODES → AreNear n labels → from < 2 * n → second_at labels from ≡ o → IfSecond o (λ at. at < 2 ^ 61)
time_left n labels from None few f lf e = tt
time_left n labels from (Some at) few f lf e =
    let near = f from at e in
    let turn = turn_by (ltb from n) n from lf in
    omega (arith, near, turn, few)

pub turn_up : (n x y : ℕ) → x < y → y < n → turn_of n x < turn_of n y
turn_up n x y a b =
    let first : ltb x n ≡ true = grind (arith, a, b) in
    let second : ltb y n ≡ true = grind (arith, b) in
    rw (first, second) a

pub turn_over : (n x : ℕ) → x < n → turn_of n x < turn_of n (n + x)
turn_over n x a =
    let first : ltb x n ≡ true = grind (arith, a) in
    let second : ltb (n + x) n ≡ false = grind arith in
    rw (first, second) (omega (arith, a))

pub turn_down : (n x y : ℕ) → x < y → y < n → turn_of n (n + y) < turn_of n (n + x)
turn_down n x y a b =
    let first : ltb (n + y) n ≡ false = grind arith in
    let second : ltb (n + x) n ≡ false = grind arith in
    rw (first, second) (omega (arith, a, b))

-- no place of a sweep comes later than all turns
pub turn_last : (n x : ℕ) → x < n → turn_of n (n + x) < 2 * n + 1
turn_last n x a =
    let second : ltb (n + x) n ≡ false = grind arith in
    rw second (omega (arith, a))

pub some_second : (o : Option ℕ) → is_some o ≡ true → (s : ℕ) × (o ≡ Some s)
some_second None e = absurd (cc e)
some_second (Some s) e = (s, refl)

pub no_second : (o : Option ℕ) → is_some o ≡ false → o ≡ None
no_second None e = refl
no_second (Some s) e = absurd (cc e)

none_second : (labels : List (Option ℕ)) (place second : ℕ) → All (λ o. o ≡ None) labels → second_at labels place ≡ Some second → ⊥
none_second [] place second all e = absurd (cc e)
none_second (x ∷ labels) zero second all e = let none : x ≡ None = all 0 None (omega arith) in absurd (cc (none, e))
none_second (x ∷ labels) (suc place) second all e = none_second labels place second (λ k d lt. all (suc k) d (omega (arith, lt))) e

none_linked : (links : List (Option (ℕ × ℕ))) (place from edge : ℕ) → All (λ link. link ≡ None) links → link_at links place ≡ Some (from, edge) → ⊥
none_linked [] place from edge all e = absurd (cc e)
none_linked (x ∷ links) zero from edge all e = let none : x ≡ None = all 0 None (omega arith) in absurd (cc (none, e))
none_linked (x ∷ links) (suc place) from edge all e = none_linked links place from edge (λ k d lt. all (suc k) d (omega (arith, lt))) e

-- places that are new
pub new_ready : {Kept : Type 0} → (n : ℕ) (labels : List (Option ℕ)) (links : List (Option (ℕ × ℕ))) (turned : Bool) → n ≤ MAX_NODES → length labels ≡ 2 * n + 1
    → All (λ o. o ≡ None) labels → (Kept → length links ≡ 2 * n + 1) → All (λ link. link ≡ None) links → IsReady Kept n labels links turned
new_ready n labels links turned few long is places none = record {
  few = few;
  long = long;
  places = places;
  near = λ place second e. absurd (none_second labels place second is e);
  rises = λ e place from edge link. absurd (none_linked links place from edge none link);
}

if_at : (r : Relaxed) (at : ℕ) → IfAt r (λ (arrival : ℕ). arrival ≤ at + 2 ^ 38) → IfAt r (λ (arrival : ℕ). (t : ℕ) × (Some at ≡ Some t) × (arrival ≤ t + 2 ^ 38))
if_at (At arrival) at h = (at, refl, h)
if_at NoWay at h = tt
if_at Long at h = tt

pub near_at : (h : HierarchyValue) (allowed : ℕ → Bool) (edge : ℕ) (dir : Dir) (o : Option ℕ) → IfSecond o
    (λ at. IfAt (answer_in h allowed edge dir (Some at)) (λ (arrival : ℕ). arrival ≤ at + 2 ^ 38))
    → IfAt (answer_in h allowed edge dir o) (λ (arrival : ℕ). (t : ℕ) × (o ≡ Some t) × (arrival ≤ t + 2 ^ 38))
near_at h allowed edge dir None f = tt
near_at h allowed edge dir (Some at) f = if_at (answer_in h allowed edge dir (Some at)) at f
