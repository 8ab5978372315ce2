-- The downward label of a rank after the calls from its higher neighbours.
use Rattle.std.proofs.Common.{◌≡◌, ◌≢◌, ◌<◌, ◌+◌, ◌-◌, ◌^◌, ◌∙◌, ℕ, true, false, List, [], ◌∷◌, ◌++◌, Option, Some, None, refl, sym, ap, subst, arith, inl, inr, length, ltb, get_or-set_same}
use Rattle.std.proofs.Common.{get_or-set_other}
use Rattle.std.specs.Prelude.{slice_set}
use Rattle.std.specs.List.{Contains}
use Rattle.std.proofs.lemmas.Bool.{cases_eq}
use Rattle.std.proofs.lemmas.List.{append-nil, length-set}
use Rattle.cu_links.specs.Chains.{link_at}
use Rattle.cu_links.proofs.Links.{link_here, link_other}
use Rattle.cu_chordal.specs.Graphs.{HasEdge, up_of}
use Rattle.cu_chordal.proofs.Members.{member_at}
use Rattle.cu_interval.specs.declared.ways.Dir.{Dir}
use Rattle.cu_interval.specs.declared.ways.Dir.TheVariants.{Down}
use Rattle.cu_interval.specs.declared.relaxing.Call.{Call}
use Rattle.cu_interval.specs.Hierarchies.{HierarchyValue, IsHierarchy, number_from}
use Rattle.cu_interval.proofs.Lookups.{number_found}
use Rattle.cu_sweep.specs.Labels.{Label, earlier_of}
use Rattle.cu_sweep.specs.Sweeps.{second_of}
use Rattle.cu_sweep.specs.Desks.{AreArriving}
use Rattle.cu_sweep.specs.Places.{AreKept, calls_between, dir_between, second_at}
use Rattle.cu_sweep.specs.Swept.{IsPassed}
use Rattle.cu_sweep.specs.Steps.Made.{HoldsMade, IsLinkedLabelMade, Led, down_made, final_made, made_down_after, made_down_into, made_over, sweep_of, up_made}
use Rattle.cu_sweep.specs.Steps.Sweeping.{IfSecond, IsDownSwept, answer_in, begun_links, links_after, seconds_after}
use Rattle.cu_sweep.proofs.Choosing.{after_more, earlier_none}
use Rattle.cu_sweep.proofs.Holding.{holds_after, holds_other, holds_same, kept_before}
use Rattle.cu_sweep.proofs.MadeLaws.{down_made-whole}
use Rattle.cu_sweep.proofs.UpRows.{final_up, member_other}

-- after the calls from these of a rank's higher neighbours
pub record IsDownPart (h : HierarchyValue) (q : Led) (done : List ℕ) (x : ℕ) (part : List ℕ) (labels : List (Option ℕ)) (links : List (Option (ℕ × ℕ))) : Type 0 where
  pub up : (y : ℕ) → IsPassed h (sweep_of q) y → HoldsMade h q labels links y (up_made h q y)
  pub down : (y : ℕ) → Contains done y → y ≢ x → HoldsMade h q labels links (h.network.nodes + y) (down_made h q y)
  pub here : HoldsMade h q labels links (h.network.nodes + x) (made_down_after h q part x)

no_dir : (n x : ℕ) → x < n → dir_between n x (n + x) ≡ None
no_dir n x lt =
    let first : ltb (n + x) n ≡ false = grind arith in
    let second : ltb x n ≡ true = grind (arith, lt) in
    rw (first, second) refl

begun_linked : (h : HierarchyValue) (q : Led) (links : List (Option (ℕ × ℕ))) (x : ℕ) (label : Option Label) (o : Option ℕ) → x < h.network.nodes → h.network.nodes + x < length links
    → final_made h q x ≡ label → o ≡ second_of label → IsPassed h (sweep_of q) x
    → IsLinkedLabelMade h q (begun_links links x (h.network.nodes + x) o) (h.network.nodes + x) label
begun_linked h q links x None o lt li final e p = tt
begun_linked h q links x (Some label) o lt li final e p =
    let n = h.network.nodes in
    let none : calls_between (dir_between n x (n + x)) 0 (Some label.second) ≡ [] = ap (λ (d : Option Dir). calls_between d 0 (Some label.second)) (no_dir n x lt) in
    inr (record {
      from = x;
      edge = 0;
      link = ap (λ (s : Option ℕ). link_at (begun_links links x (n + x) s) (n + x)) e ∙ link_here links (n + x) (Some (x, 0)) li;
      source = inl p;
      before = label;
      final = final;
      calls = sym (ap (λ (cs : List Call). label.calls ++ cs) none ∙ append-nil label.calls);
      arriving = subst (AreArriving h) (sym none) (λ k d less. absurd (omega (arith, less)));
    })

begun_other : (links : List (Option (ℕ × ℕ))) (from into place : ℕ) (o : Option ℕ) → place ≢ into → link_at (begun_links links from into o) place ≡ link_at links place
begun_other links from into place None ne = refl
begun_other links from into place (Some second) ne = link_other links into place (Some (from, 0)) (λ same. ne (sym same))

pub begun_long : (links : List (Option (ℕ × ℕ))) (from into : ℕ) (o : Option ℕ) → length (begun_links links from into o) ≡ length links
begun_long links from into None = refl
begun_long links from into (Some second) = length-set links into (Some (from, 0))

-- a downward label begins
pub down_begun : (h : HierarchyValue) (q : Led) (done : List ℕ) (x : ℕ) (labels : List (Option ℕ)) (links : List (Option (ℕ × ℕ))) → IsDownSwept h q done labels links → IsPassed h (sweep_of q) x
    → h.network.nodes + x < length labels → (AreKept links → h.network.nodes + x < length links)
    → IsDownPart h q done x [] (slice_set labels (h.network.nodes + x) (second_at labels x)) (begun_links links x (h.network.nodes + x) (second_at labels x))
down_begun h q done x labels links f p la li =
    let n = h.network.nodes in
    let o = second_at labels x in
    let labels2 = slice_set labels (n + x) o in
    let links2 = begun_links links x (n + x) o in
    let old = f.up x p in
    let label = up_made h q x in
    let here : HoldsMade h q labels2 links2 (n + x) label = record {
      second = get_or-set_same labels (n + x) o None la ∙ old.second;
      linked = λ kept. begun_linked h q links x label o p.0 (li (kept_before links links2 (begun_long links x (n + x) o) kept)) (final_up h q x p.0) old.second p;
    } in
    record {
      up = λ y passed.
          let lt = passed.0 in
          let ne : y ≢ n + x = λ same. absurd (omega (arith, same, lt)) in
          holds_same h q labels labels2 links links2 y (up_made h q y) (get_or-set_other labels (n + x) y o None ne) (begun_other links x (n + x) y o ne)
          (begun_long links x (n + x) o) (f.up y passed);
      down = λ y c other.
          let ne : n + y ≢ n + x = λ same. other (omega (arith, same)) in
          holds_same h q labels labels2 links links2 (n + y) (down_made h q y) (get_or-set_other labels (n + x) (n + y) o None ne) (begun_other links x (n + x) (n + y) o ne)
          (begun_long links x (n + x) o) (f.down y c);
      here = subst (HoldsMade h q labels2 links2 (n + x)) (sym (earlier_none label)) here;
    }

pub final_down : (h : HierarchyValue) (q : Led) (y : ℕ) → final_made h q (h.network.nodes + y) ≡ down_made h q y
final_down h q y =
    let first : ltb (h.network.nodes + y) h.network.nodes ≡ false = grind arith in
    let less : h.network.nodes + y - h.network.nodes ≡ y = omega arith in
    rw first (ap (down_made h q) less)

along_down : (n x y : ℕ) → dir_between n (n + y) (n + x) ≡ Some Down
along_down n x y =
    let first : ltb (n + x) n ≡ false = grind arith in
    let second : ltb (n + y) n ≡ false = grind arith in
    rw (first, second) refl

-- the edge that has a number
edge_of_number : (h : HierarchyValue) (x y edge : ℕ) → number_from 0 h.edges x y ≡ Some edge → HasEdge h.edges x y
edge_of_number h x y edge e = let (j, is, at) = number_found 0 h.edges x y edge e in member_at h.edges (record { low = x; high = y }) j at

-- one call more
pub down_more : (h : HierarchyValue) (q : Led) (done : List ℕ) (x y edge : ℕ) (part : List ℕ) (labels : List (Option ℕ)) (links : List (Option (ℕ × ℕ))) → IsDownPart h q done x part labels links
    → h.network.nodes + x < length labels → (AreKept links → h.network.nodes + x < length links) → number_from 0 h.edges x y ≡ Some edge → edge < length h.edges
    → second_at labels (h.network.nodes + y) ≡ second_of (down_made h q y) → IfSecond (second_at labels (h.network.nodes + y)) (λ at. at < 2 ^ 61)
    → IsDownPart h q done x (part ++ (y ∷ [])) (seconds_after labels (h.network.nodes + x) (answer_in h (q.allows (h.network.nodes + x)) edge Down (second_at labels (h.network.nodes + y))))
    (links_after labels links (h.network.nodes + y) edge (h.network.nodes + x) (answer_in h (q.allows (h.network.nodes + x)) edge Down (second_at labels (h.network.nodes + y))))
down_more h q done x y edge part labels links f la li number there_ source time =
    let n = h.network.nodes in
    let answer = answer_in h (q.allows (h.network.nodes + x)) edge Down (second_at labels (n + y)) in
    let from = down_made h q y in
    let whole = holds_after h q labels links (n + y) edge (n + x) (q.allows (h.network.nodes + x)) Down from (made_down_after h q part x) la li (final_down h q y) (along_down n x y) there_
    (subst (λ (o : Option ℕ). IfSecond o (λ at. at < 2 ^ 61)) source time)
    (inr (x, y, refl, refl, edge_of_number h x y edge number)) f.here in
    let back = subst (λ (o : Option ℕ). HoldsMade h q (seconds_after labels (n + x) (answer_in h (q.allows (h.network.nodes + x)) edge Down o))
    (links_after labels links (n + y) edge (n + x) (answer_in h (q.allows (h.network.nodes + x)) edge Down o)) (n + x)
    (earlier_of (made_down_after h q part x) (made_over h (q.allows (h.network.nodes + x)) (Some edge) Down from))) (sym source) whole in
    let step : earlier_of (made_down_after h q part x) (made_over h (q.allows (h.network.nodes + x)) (Some edge) Down from) ≡ made_down_after h q (part ++ (y ∷ [])) x =
    ap (λ (m : Option ℕ). earlier_of (made_down_after h q part x) (made_over h (q.allows (h.network.nodes + x)) m Down from)) (sym number) ∙ sym
    (after_more (up_made h q x) (made_down_into h q x) part y) in
    record {
      up = λ z passed.
          let lt = passed.0 in
          holds_other h q labels links (n + y) edge (n + x) z answer (up_made h q z) (λ same. absurd (omega (arith, same, lt))) (f.up z passed);
      down = λ z c other. holds_other h q labels links (n + y) edge (n + x) (n + z) answer (down_made h q z) (λ same. other (omega (arith, same))) (f.down z c other);
      here = subst (HoldsMade h q (seconds_after labels (n + x) answer) (links_after labels links (n + y) edge (n + x) answer) (n + x)) step back;
    }

-- after all calls to a rank
pub down_done : (h : HierarchyValue) → IsHierarchy h → (q : Led) (done : List ℕ) (x : ℕ) (labels : List (Option ℕ)) (links : List (Option (ℕ × ℕ))) → IsPassed h (sweep_of q) x
    → IsDownPart h q done x (up_of h.edges x) labels links → IsDownSwept h q (done ++ (x ∷ [])) labels links
down_done h sound q done x labels links p f = record {
  up = f.up;
  down = λ y c.
      elim (cases_eq y x) [
        | inl same ↦
            let here = subst (HoldsMade h q labels links (h.network.nodes + x)) (sym (down_made-whole h sound q x p.0)) f.here in
            subst (λ (z : ℕ). HoldsMade h q labels links (h.network.nodes + z) (down_made h q z)) (sym same) here
        | inr other ↦ f.down y (member_other done x y other c) other
      ];
}
