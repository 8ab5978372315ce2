-- Labels: more fuel changes nothing, so each label is the first earliest over the calls into its rank.
use Rattle.std.proofs.Common.{◌≡◌, ◌≤◌, ◌<◌, ◌+◌, ◌∙◌, ℕ, zero, suc, List, [], ◌∷◌, Option, Some, None, refl, ap, arith, map}
use Rattle.std.specs.List.{Contains}
use Rattle.cu_chordal.specs.Graphs.{up_of}
use Rattle.cu_chordal.proofs.Members.{here, there, member_at}
use Rattle.cu_chordal.proofs.Tables.{edge_from_up_of}
use Rattle.cu_elimtree.specs.SweepArcs.{ancestors_in}
use Rattle.cu_interval.specs.declared.ways.Dir.{Dir}
use Rattle.cu_interval.specs.declared.ways.Dir.TheVariants.{Up, Down}
use Rattle.cu_interval.specs.Hierarchies.{HierarchyValue, IsHierarchy, graph_of, number_from}
use Rattle.cu_interval.proofs.Lookups.{number_found}
use Rattle.cu_unpack.proofs.Edges.{edge_range}
use Rattle.cu_sweep.specs.Labels.{Label, down_label, down_label_by, earliest, label_over, start_label, up_label, up_label_by}
use Rattle.cu_sweep.specs.Swept.{Sweep}
use Rattle.cu_sweep.specs.Steps.Sweeping.{down_after, up_after, up_into}

map_same : (f g : ℕ → Option Label) (xs : List ℕ) → ((x : ℕ) → Contains xs x → f x ≡ g x) → map f xs ≡ map g xs
map_same f g [] e = refl
map_same f g (x ∷ xs) e = ap (λ (y : Option Label). y ∷ map f xs) (e x (here x xs)) ∙ ap (λ (ys : List (Option Label)). g x ∷ ys) (map_same f g xs (λ y c. e y (there x xs y c)))

-- a call over an edge depends on the label at its start, and there is none without an edge
over_same : (h : HierarchyValue) (n : Option ℕ) (dir : Dir) (a b : Option Label) → ((k : ℕ) → n ≡ Some k → a ≡ b) → label_over h n dir a ≡ label_over h n dir b
over_same h None dir a b e = refl
over_same h (Some k) dir a b e = ap (label_over h (Some k) dir) (e k refl)

module _ (h : HierarchyValue) (f : IsHierarchy h) where
  pub number_below : (x y k : ℕ) → number_from 0 h.edges x y ≡ Some k → x < y
  number_below x y k e =
      let (j, is, at) = number_found 0 h.edges x y k e in
      (edge_range h f x y (member_at h.edges (record { low = x; high = y }) j at)).0

  -- any fuel above the rank gives the upward label
  pub up_label-fuel : (from second fuel more y : ℕ) → y < fuel → y < more → up_label_by h from second fuel y ≡ up_label_by h from second more y
  up_label-fuel from second zero more y a b = absurd (omega (arith, a))
  up_label-fuel from second (suc fuel) zero y a b = absurd (omega (arith, b))
  up_label-fuel from second (suc fuel) (suc more) y a b =
      let same = map_same (λ x. label_over h (number_from 0 h.edges x y) Up (up_label_by h from second fuel x)) (λ x. label_over h (number_from 0 h.edges x y) Up (up_label_by h from second more x))
      (ancestors_in (graph_of h) from)
      (λ x c. over_same h (number_from 0 h.edges x y) Up (up_label_by h from second fuel x) (up_label_by h from second more x)
      (λ k e. let lt = number_below x y k e in up_label-fuel from second fuel more x (omega (arith, lt, a)) (omega (arith, lt, b)))) in
      ap (λ (labels : List (Option Label)). earliest (start_label from second y ∷ labels)) same

  -- the upward label is the label after the calls from all ancestors of the start
  pub up_label-whole : (q : Sweep) (y : ℕ) → up_label h q.from q.second y ≡ up_after h q (ancestors_in (graph_of h) q.from) y
  up_label-whole q y =
      let same = map_same (λ x. label_over h (number_from 0 h.edges x y) Up (up_label_by h q.from q.second y x)) (up_into h q y) (ancestors_in (graph_of h) q.from)
      (λ x c. over_same h (number_from 0 h.edges x y) Up (up_label_by h q.from q.second y x) (up_label h q.from q.second x)
      (λ k e. let lt = number_below x y k e in up_label-fuel q.from q.second y (suc x) x lt (omega arith))) in
      ap (λ (labels : List (Option Label)). earliest (start_label q.from q.second y ∷ labels)) same

  -- any fuel that covers the ranks from this one up gives the downward label
  pub down_label-fuel : (from second fuel more x : ℕ) → x < h.network.nodes → h.network.nodes ≤ x + fuel → h.network.nodes ≤ x + more
      → down_label_by h from second fuel x ≡ down_label_by h from second more x
  down_label-fuel from second zero more x lt a b = absurd (omega (arith, lt, a))
  down_label-fuel from second (suc fuel) zero x lt a b = absurd (omega (arith, lt, b))
  down_label-fuel from second (suc fuel) (suc more) x lt a b =
      let same = map_same (λ y. label_over h (number_from 0 h.edges x y) Down (down_label_by h from second fuel y))
      (λ y. label_over h (number_from 0 h.edges x y) Down (down_label_by h from second more y)) (up_of h.edges x)
      (λ y c.
      let range = edge_range h f x y (edge_from_up_of h.edges x y c) in
      let above = range.0 in
      ap (label_over h (number_from 0 h.edges x y) Down) (down_label-fuel from second fuel more y range.1 (omega (arith, above, a)) (omega (arith, above, b)))) in
      ap (λ (labels : List (Option Label)). earliest (up_label h from second x ∷ labels)) same

  -- the downward label is the label after the calls from all higher neighbours
  pub down_label-whole : (q : Sweep) (x : ℕ) → x < h.network.nodes → down_label h q.from q.second x ≡ down_after h q (up_of h.edges x) x
  down_label-whole q x lt =
      let n = h.network.nodes in
      down_label-fuel q.from q.second n (suc n) x lt (omega arith) (omega arith)
