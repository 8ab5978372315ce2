-- Labels of calls that may be made: more fuel changes nothing, so each label is the first earliest over the calls into its rank.
use Rattle.std.proofs.Common.{◌≡◌, ◌≤◌, ◌<◌, ◌+◌, ◌∙◌, ℕ, zero, suc, Bool, List, [], ◌∷◌, Option, Some, None, refl, ap, arith, map}
use Rattle.std.specs.List.{Contains}
use Rattle.cu_chordal.specs.Graphs.{up_of}
use Rattle.cu_chordal.proofs.Members.{here, there}
use Rattle.cu_chordal.proofs.Tables.{edge_from_up_of}
use Rattle.cu_elimtree.specs.SweepArcs.{ancestors_in}
use Rattle.cu_interval.specs.declared.ways.Dir.{Dir}
use Rattle.cu_interval.specs.declared.ways.Dir.TheVariants.{Up, Down}
use Rattle.cu_interval.specs.Hierarchies.{HierarchyValue, IsHierarchy, graph_of, number_from}
use Rattle.cu_sweep.specs.Labels.{Label, earliest, start_label}
use Rattle.cu_sweep.specs.Steps.Made.{Led, down_made, down_made_by, made_down_after, made_over, made_up_after, made_up_into, up_made, up_made_by}
use Rattle.cu_unpack.proofs.Edges.{edge_range}
use Rattle.cu_sweep.proofs.LabelLaws.{number_below}

map_same : (f g : ℕ → Option Label) (xs : List ℕ) → ((x : ℕ) → Contains xs x → f x ≡ g x) → map f xs ≡ map g xs
map_same f g [] e = refl
map_same f g (x ∷ xs) e = ap (λ (y : Option Label). y ∷ map f xs) (e x (here x xs)) ∙ ap (λ (ys : List (Option Label)). g x ∷ ys) (map_same f g xs (λ y c. e y (there x xs y c)))

made_same : (h : HierarchyValue) (allowed : ℕ → Bool) (n : Option ℕ) (dir : Dir) (a b : Option Label) → ((k : ℕ) → n ≡ Some k → a ≡ b) → made_over h allowed n dir a ≡ made_over h allowed n dir b
made_same h allowed None dir a b e = refl
made_same h allowed (Some k) dir a b e = ap (made_over h allowed (Some k) dir) (e k refl)

module _ (h : HierarchyValue) (f : IsHierarchy h) (q : Led) where
  pub up_made-fuel : (fuel more y : ℕ) → y < fuel → y < more → up_made_by h q fuel y ≡ up_made_by h q more y
  up_made-fuel zero more y a b = absurd (omega (arith, a))
  up_made-fuel (suc fuel) zero y a b = absurd (omega (arith, b))
  up_made-fuel (suc fuel) (suc more) y a b =
      let same = map_same (λ x. made_over h (q.allows y) (number_from 0 h.edges x y) Up (up_made_by h q fuel x)) (λ x. made_over h (q.allows y) (number_from 0 h.edges x y) Up (up_made_by h q more x))
      (ancestors_in (graph_of h) q.from)
      (λ x c. made_same h (q.allows y) (number_from 0 h.edges x y) Up (up_made_by h q fuel x) (up_made_by h q more x)
      (λ k e. let lt = number_below h f x y k e in up_made-fuel fuel more x (omega (arith, lt, a)) (omega (arith, lt, b)))) in
      ap (λ (labels : List (Option Label)). earliest (start_label q.from q.second y ∷ labels)) same

  -- the upward label is the label after the calls from all ancestors of the start
  pub up_made-whole : (y : ℕ) → up_made h q y ≡ made_up_after h q (ancestors_in (graph_of h) q.from) y
  up_made-whole y =
      let same = map_same (λ x. made_over h (q.allows y) (number_from 0 h.edges x y) Up (up_made_by h q y x)) (made_up_into h q y) (ancestors_in (graph_of h) q.from)
      (λ x c. made_same h (q.allows y) (number_from 0 h.edges x y) Up (up_made_by h q y x) (up_made h q x)
      (λ k e. let lt = number_below h f x y k e in up_made-fuel y (suc x) x lt (omega arith))) in
      ap (λ (labels : List (Option Label)). earliest (start_label q.from q.second y ∷ labels)) same

  pub down_made-fuel : (fuel more x : ℕ) → x < h.network.nodes → h.network.nodes ≤ x + fuel → h.network.nodes ≤ x + more → down_made_by h q fuel x ≡ down_made_by h q more x
  down_made-fuel zero more x lt a b = absurd (omega (arith, lt, a))
  down_made-fuel (suc fuel) zero x lt a b = absurd (omega (arith, lt, b))
  down_made-fuel (suc fuel) (suc more) x lt a b =
      let allowed = q.allows (h.network.nodes + x) in
      let same = map_same (λ y. made_over h allowed (number_from 0 h.edges x y) Down (down_made_by h q fuel y))
      (λ y. made_over h allowed (number_from 0 h.edges x y) Down (down_made_by h q more y)) (up_of h.edges x)
      (λ y c.
      let range = edge_range h f x y (edge_from_up_of h.edges x y c) in
      let above = range.0 in
      ap (made_over h allowed (number_from 0 h.edges x y) Down) (down_made-fuel fuel more y range.1 (omega (arith, above, a)) (omega (arith, above, b)))) in
      ap (λ (labels : List (Option Label)). earliest (up_made h q x ∷ labels)) same

  -- the downward label is the label after the calls from all higher neighbours
  pub down_made-whole : (x : ℕ) → x < h.network.nodes → down_made h q x ≡ made_down_after h q (up_of h.edges x) x
  down_made-whole x lt =
      let n = h.network.nodes in
      down_made-fuel n (suc n) x lt (omega arith) (omega arith)
