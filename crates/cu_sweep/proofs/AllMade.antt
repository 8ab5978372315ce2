-- Where every call may be made, the labels and calls are those of the sweeps.
use Rattle.std.proofs.Common.{◌≡◌, ◌∙◌, ◌+◌, ◌-◌, ℕ, zero, suc, Bool, true, false, List, [], ◌∷◌, ◌++◌, Option, Some, None, refl, sym, ap, subst, map, inl, inr, ltb, reverse, if◌then◌else◌}
use Rattle.std.specs.Prelude.{flat_map}
use Rattle.cu_chordal.specs.Graphs.{up_of}
use Rattle.cu_elimtree.specs.SweepArcs.{ancestors_in}
use Rattle.cu_interval.specs.declared.ways.Dir.{Dir}
use Rattle.cu_interval.specs.declared.ways.Dir.TheVariants.{Up, Down}
use Rattle.cu_interval.specs.declared.relaxing.Call.{Call}
use Rattle.cu_interval.specs.Hierarchies.{HierarchyValue, graph_of, number_from}
use Rattle.cu_sweep.specs.Labels.{Label, down_label, down_label_by, earliest, label_over, start_label, up_label, up_label_by}
use Rattle.cu_sweep.specs.Sweeps.{below, call_at, call_unless, calls_up, down_calls_to, down_label_from, second_of, up_calls, up_label_from}
use Rattle.cu_sweep.specs.Swept.{Holds, IsBegun, IsLinked, IsLinkedLabel, IsReachedAs, IsSweptDown, IsSweptUp, LabelsValue, Makes, Sweep, final_label, path_calls}
use Rattle.cu_sweep.specs.Steps.Made.{HoldsMade, IsLinkedLabelMade, IsLinkedMade, IsMadeDown, IsMadeUp, call_if, down_calls_of, down_made, down_made_by, down_made_to, final_made}
use Rattle.cu_sweep.specs.Steps.Made.{made_down_after, made_down_into}
use Rattle.cu_sweep.specs.Steps.Made.{made_over, made_up_after, made_up_into, open_to, rows_up, sweep_of, up_calls_of, up_made, up_made_by}
use Rattle.cu_sweep.proofs.Behind.{filter_same}

map_each : (f g : ℕ → Option Label) (xs : List ℕ) → ((x : ℕ) → f x ≡ g x) → map f xs ≡ map g xs
map_each f g [] e = refl
map_each f g (x ∷ xs) e = ap (λ (y : Option Label). y ∷ map f xs) (e x) ∙ ap (λ (ys : List (Option Label)). g x ∷ ys) (map_each f g xs e)

flat_each : (f g : ℕ → List Call) (xs : List ℕ) → ((x : ℕ) → f x ≡ g x) → flat_map f xs ≡ flat_map g xs
flat_each f g [] e = refl
flat_each f g (x ∷ xs) e =
    ap (λ (calls : List Call). calls ++ flat_map f xs) (e x) ∙ ap (λ (calls : List Call). g x ++ calls) (flat_each f g xs e)

over_open : (h : HierarchyValue) (n : Option ℕ) (dir : Dir) (a b : Option Label) → a ≡ b → made_over h (λ soonest. true) n dir a ≡ label_over h n dir b
over_open h None dir a b e = refl
over_open h (Some edge) dir None b e = ap (label_over h (Some edge) dir) e
over_open h (Some edge) dir (Some a) b e = ap (label_over h (Some edge) dir) e

call_open : (h : HierarchyValue) (call : Option Call) → call_if h (λ soonest. true) call ≡ call
call_open h None = refl
call_open h (Some call) = refl

either : (b : Bool) (a c a2 c2 : Option Label) → a ≡ a2 → c ≡ c2 → (if b then a else c) ≡ (if b then a2 else c2)
either true a c a2 c2 e f = e
either false a c a2 c2 e f = f

module _ (h : HierarchyValue) (q : Sweep) where
  up_open_by : (fuel y : ℕ) → up_made_by h (open_to q) fuel y ≡ up_label_by h q.from q.second fuel y
  up_open_by zero y = refl
  up_open_by (suc fuel) y =
      ap (λ (labels : List (Option Label)). earliest (start_label q.from q.second y ∷ labels))
      (map_each (λ x. made_over h (λ soonest. true) (number_from 0 h.edges x y) Up (up_made_by h (open_to q) fuel x))
      (λ x. label_over h (number_from 0 h.edges x y) Up (up_label_by h q.from q.second fuel x)) (ancestors_in (graph_of h) q.from)
      (λ x. over_open h (number_from 0 h.edges x y) Up _ _ (up_open_by fuel x)))

  pub up_open : (y : ℕ) → up_made h (open_to q) y ≡ up_label h q.from q.second y
  up_open y = up_open_by (suc y) y

  down_open_by : (fuel x : ℕ) → down_made_by h (open_to q) fuel x ≡ down_label_by h q.from q.second fuel x
  down_open_by zero x = refl
  down_open_by (suc fuel) x =
      let over = λ (y : ℕ). made_over h (λ soonest. true) (number_from 0 h.edges x y) Down (down_made_by h (open_to q) fuel y) in
      ap (λ (label : Option Label). earliest (label ∷ map over (up_of h.edges x))) (up_open x)
      ∙ ap (λ (labels : List (Option Label)). earliest (up_label h q.from q.second x ∷ labels))
      (map_each over (λ y. label_over h (number_from 0 h.edges x y) Down (down_label_by h q.from q.second fuel y)) (up_of h.edges x)
      (λ y. over_open h (number_from 0 h.edges x y) Down _ _ (down_open_by fuel y)))

  pub down_open : (x : ℕ) → down_made h (open_to q) x ≡ down_label h q.from q.second x
  down_open x = down_open_by h.network.nodes x

  after_up : (ranks : List ℕ) (y : ℕ) → made_up_after h (open_to q) ranks y ≡ up_label_from h q.from q.second ranks y
  after_up ranks y =
      ap (λ (labels : List (Option Label)). earliest (start_label q.from q.second y ∷ labels))
      (map_each (made_up_into h (open_to q) y) (λ x. label_over h (number_from 0 h.edges x y) Up (up_label h q.from q.second x)) ranks
      (λ x. over_open h (number_from 0 h.edges x y) Up _ _ (up_open x)))

  after_down : (part : List ℕ) (x : ℕ) → made_down_after h (open_to q) part x ≡ down_label_from h q.from q.second part x
  after_down part x =
      ap (λ (label : Option Label). earliest (label ∷ map (made_down_into h (open_to q) x) part)) (up_open x)
      ∙ ap (λ (labels : List (Option Label)). earliest (up_label h q.from q.second x ∷ labels))
      (map_each (made_down_into h (open_to q) x) (λ y. label_over h (number_from 0 h.edges x y) Down (down_label h q.from q.second y)) part
      (λ y. over_open h (number_from 0 h.edges x y) Down _ _ (down_open y)))

  one_open : (reached reached2 : Option ℕ) (n : Option ℕ) (dir : Dir) (a b : Option ℕ) → reached ≡ reached2 → a ≡ b
      → call_unless h reached (call_if h (λ soonest. true) (call_at n dir a)) ≡ call_unless h reached2 (call_at n dir b)
  one_open reached reached2 n dir a b e same =
      ap (λ (call : Option Call). call_unless h reached call) (call_open h (call_at n dir a) ∙ ap (call_at n dir) same)
      ∙ ap (λ (o : Option ℕ). call_unless h o (call_at n dir b)) e

  calls_open_up : up_calls_of h (open_to q) (ancestors_in (graph_of h) q.from) ≡ up_calls h q.from q.second
  calls_open_up =
      let ancestors = ancestors_in (graph_of h) q.from in
      flat_each (λ x. rows_up h (open_to q).allows x (second_of (up_made h (open_to q) x)) (λ y. second_of (made_up_after h (open_to q) (below x ancestors) y)))
      (λ x. calls_up h x (second_of (up_label h q.from q.second x)) (λ y. second_of (up_label_from h q.from q.second (below x ancestors) y))) ancestors
      (λ x. filter_same
      (λ y. call_unless h (second_of (made_up_after h (open_to q) (below x ancestors) y))
      (call_if h (λ soonest. true) (call_at (number_from 0 h.edges x y) Up (second_of (up_made h (open_to q) x)))))
      (λ y. call_unless h (second_of (up_label_from h q.from q.second (below x ancestors) y)) (call_at (number_from 0 h.edges x y) Up (second_of (up_label h q.from q.second x))))
      (up_of h.edges x)
      (λ y c. one_open _ _ (number_from 0 h.edges x y) Up _ _ (ap second_of (after_up (below x ancestors) y)) (ap second_of (up_open x))))

  calls_open_down : (ranks : List ℕ) → down_calls_of h (open_to q) ranks ≡ flat_map (down_calls_to h q.from q.second) ranks
  calls_open_down ranks =
      flat_each (down_made_to h (open_to q)) (down_calls_to h q.from q.second) ranks
      (λ x. filter_same
      (λ y. call_unless h (second_of (made_down_after h (open_to q) (below y (up_of h.edges x)) x))
      (call_if h (λ soonest. true) (call_at (number_from 0 h.edges x y) Down (second_of (down_made h (open_to q) y)))))
      (λ y. call_unless h (second_of (down_label_from h q.from q.second (below y (up_of h.edges x)) x))
      (call_at (number_from 0 h.edges x y) Down (second_of (down_label h q.from q.second y)))) (up_of h.edges x)
      (λ y c. one_open _ _ (number_from 0 h.edges x y) Down _ _ (ap second_of (after_down (below y (up_of h.edges x)) x)) (ap second_of (down_open y))))

  final_open : (place : ℕ) → final_made h (open_to q) place ≡ final_label h q place
  final_open place =
      either (ltb place h.network.nodes) (up_made h (open_to q) place) (down_made h (open_to q) (place - h.network.nodes))
      (up_label h q.from q.second place) (down_label h q.from q.second (place - h.network.nodes)) (up_open place) (down_open (place - h.network.nodes))

  linked_open : (links : List (Option (ℕ × ℕ))) (place : ℕ) (label : Option Label) → IsLinkedLabelMade h (open_to q) links place label → IsLinkedLabel h q links place label
  linked_open links place None linked = tt
  linked_open links place (Some label) linked =
      elim linked [
        | inl none ↦ inl none
        | inr k ↦
            let is : IsLinked h q links place label = record {
              from = k.from;
              edge = k.edge;
              link = k.link;
              source = k.source;
              before = k.before;
              final = sym (final_open k.from) ∙ k.final;
              calls = k.calls;
              arriving = k.arriving;
            } in
            inr is
      ]

  open_linked : (links : List (Option (ℕ × ℕ))) (place : ℕ) (label : Option Label) → IsLinkedLabel h q links place label → IsLinkedLabelMade h (open_to q) links place label
  open_linked links place None linked = tt
  open_linked links place (Some label) linked =
      elim linked [
        | inl none ↦ inl none
        | inr k ↦
            let is : IsLinkedMade h (open_to q) links place label = record {
              from = k.from;
              edge = k.edge;
              link = k.link;
              source = k.source;
              before = k.before;
              final = final_open k.from ∙ k.final;
              calls = k.calls;
              arriving = k.arriving;
            } in
            inr is
      ]

  -- a sweep that has begun has begun with all its calls
  pub open_begun : (labels : LabelsValue) → IsBegun h q labels → IsBegun h (sweep_of (open_to q)) labels
  open_begun labels begun = record { seconds = λ rank passed. begun.seconds rank passed; unlinked = begun.unlinked }

  pub up_open_swept : (labels : LabelsValue) → IsMadeUp h (open_to q) labels → IsSweptUp h q labels
  up_open_swept labels up rank passed =
      let made : HoldsMade h (open_to q) labels.seconds labels.links rank (up_made h (open_to q) rank) = up rank passed in
      let holds : Holds h q labels.seconds labels.links rank (up_made h (open_to q) rank) = record {
        second = made.second;
        linked = λ kept. linked_open labels.links rank (up_made h (open_to q) rank) (made.linked kept);
      } in
      subst (Holds h q labels.seconds labels.links rank) (up_open rank) holds

  pub up_swept_open : (labels : LabelsValue) → IsSweptUp h q labels → IsMadeUp h (open_to q) labels
  up_swept_open labels up rank passed =
      let held : Holds h q labels.seconds labels.links rank (up_label h q.from q.second rank) = up rank passed in
      let made : HoldsMade h (open_to q) labels.seconds labels.links rank (up_label h q.from q.second rank) = record {
        second = held.second;
        linked = λ kept. open_linked labels.links rank (up_label h q.from q.second rank) (held.linked kept);
      } in
      subst (HoldsMade h (open_to q) labels.seconds labels.links rank) (sym (up_open rank)) made

  pub down_open_swept : (labels : LabelsValue) → IsMadeDown h (open_to q) labels → IsSweptDown h q labels
  down_open_swept labels down rank member =
      subst (IsReachedAs h labels (labels.nodes + rank)) (down_open rank) (down rank member)

  pub makes_open_up : (a b : Option (List Call)) (long : Option Call) → Makes h (up_calls_of h (open_to q) (ancestors_in (graph_of h) q.from)) a b long
      → Makes h (up_calls h q.from q.second) a b long
  makes_open_up a b long made = subst (λ (calls : List Call). Makes h calls a b long) calls_open_up made

  pub makes_open_down : (a b : Option (List Call)) (long : Option Call) → Makes h (down_calls_of h (open_to q) (reverse q.path)) a b long → Makes h (path_calls h q) a b long
  makes_open_down a b long made = subst (λ (calls : List Call). Makes h calls a b long) (calls_open_down (reverse q.path)) made
