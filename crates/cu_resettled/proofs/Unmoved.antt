-- An edit changes how long roads take, and never which nodes they join: the closed graph stays.
use Rattle.std.proofs.Common.{◌≡◌, ◌∙◌, ℕ, List, [], ◌∷◌, Option, Some, None, refl, sym, ap, subst, inl, inr, min}
use Rattle.std.specs.Prelude.{slice_get, slice_set}
use Rattle.std.proofs.lemmas.Bool.{cases_eq}
use Rattle.std.proofs.lemmas.Option.{slice_get_within}
use Rattle.cu_model.specs.declared.roads.RoadArc.{RoadArc}
use Rattle.cu_model.specs.declared.roads.Edit.{Edit}
use Rattle.cu_model.specs.declared.roads.Edit.TheVariants.{Set, Assign}
use Rattle.cu_model.specs.Edits.{edited, reassigned}
use Rattle.cu_model.specs.Networks.{NetworkValue}
use Rattle.cu_model.specs.Orders.{OrderValue}
use Rattle.cu_model.specs.Roads.{Links}
use Rattle.cu_model.proofs.ListLaws.{get_here, get_other}
use Rattle.cu_chordal.specs.Edges.{Adjacent, IsClosureOf, IsEdge, LinksRanks, PathBelow}
use Rattle.cu_chordal.specs.Graphs.{ChordalValue}

-- a road with these ends
abbrev HasEnds : List RoadArc → ℕ → ℕ → ℕ → Type 0
HasEnds arcs a u v = (arc : RoadArc) × (slice_get arcs a ≡ Some arc) × (arc.tail ≡ u) × (arc.head ≡ v)

assigned_ends : (arcs : List RoadArc) (b profile a u v : ℕ) (old : Option RoadArc) → slice_get arcs b ≡ old → HasEnds arcs a u v → HasEnds (reassigned old b profile arcs) a u v
assigned_ends arcs b profile a u v None at h = h
assigned_ends arcs b profile a u v (Some road) at (arc, there, tail, head) =
    elim (cases_eq b a) [
      | inl same ↦
          let found : Some road ≡ Some arc = sym at ∙ ap (slice_get arcs) same ∙ there in
          let is : road ≡ arc = cc found in
          let here = get_here arcs b (record road { profile = profile }) (slice_get_within arcs b road at) in (
            record road { profile = profile },
            subst (λ (i : ℕ). slice_get (slice_set arcs b (record road { profile = profile })) i ≡ Some (record road { profile = profile })) same here,
            ap (λ (r : RoadArc). r.tail) is ∙ tail,
            ap (λ (r : RoadArc). r.head) is ∙ head,
          )
      | inr other ↦ (arc, get_other arcs b a (record road { profile = profile }) other ∙ there, tail, head)
    ]

kept_ends : (arcs : List RoadArc) (b profile a u v : ℕ) (old : Option RoadArc) → slice_get arcs b ≡ old → HasEnds (reassigned old b profile arcs) a u v → HasEnds arcs a u v
kept_ends arcs b profile a u v None at h = h
kept_ends arcs b profile a u v (Some road) at (arc, there, tail, head) =
    elim (cases_eq b a) [
      | inl same ↦
          let here = get_here arcs b (record road { profile = profile }) (slice_get_within arcs b road at) in
          let moved : slice_get (slice_set arcs b (record road { profile = profile })) a ≡ Some (record road { profile = profile }) =
          subst (λ (i : ℕ). slice_get (slice_set arcs b (record road { profile = profile })) i ≡ Some (record road { profile = profile })) same here in
          let is : record road { profile = profile } ≡ arc = cc (moved, there) in
          (road, ap (slice_get arcs) (sym same) ∙ at, ap (λ (r : RoadArc). r.tail) is ∙ tail, ap (λ (r : RoadArc). r.head) is ∙ head)
      | inr other ↦ (arc, sym (get_other arcs b a (record road { profile = profile }) other) ∙ there, tail, head)
    ]

pub links_edited : (g : NetworkValue) (edit : Edit) (a u v : ℕ) → Links g a u v → Links (edited g edit) a u v
links_edited g (Set profile pieces) a u v h = h
links_edited g (Assign b profile) a u v h = assigned_ends g.arcs b profile a u v (slice_get g.arcs b) refl h

pub links_kept : (g : NetworkValue) (edit : Edit) (a u v : ℕ) → Links (edited g edit) a u v → Links g a u v
links_kept g (Set profile pieces) a u v h = h
links_kept g (Assign b profile) a u v h = kept_ends g.arcs b profile a u v (slice_get g.arcs b) refl h

-- two networks with the same links have the same closed graph
module _ (g h : NetworkValue) (o : OrderValue) (same : (a u v : ℕ) → Links g a u v → Links h a u v) where
  pub ranks_linked : (a x y : ℕ) → LinksRanks g o a x y → LinksRanks h o a x y
  ranks_linked a x y (u, v, links, from, to) = (u, v, same a u v links, from, to)

  adjacent : (x y : ℕ) → Adjacent g o x y → Adjacent h o x y
  adjacent x y (a, inl there) = (a, inl (ranks_linked a x y there))
  adjacent x y (a, inr back) = (a, inr (ranks_linked a y x back))

  path : (m x y : ℕ) (inner : List ℕ) → PathBelow g o m x inner y → PathBelow h o m x inner y
  path m x y [] joined = adjacent x y joined
  path m x y (z ∷ zs) (first, below, rest) = (adjacent x z first, below, path m z y zs rest)

  pub edge : (x y : ℕ) → IsEdge g o x y → IsEdge h o x y
  edge x y (apart, joined) = (apart, (joined.0, path (min x y) x y joined.0 joined.1))

-- the closed graph of a network is that of the edited one
pub closure_edited : (g : NetworkValue) (o : OrderValue) (edit : Edit) (graph : ChordalValue) → (edited g edit).nodes ≡ g.nodes → IsClosureOf g o graph → IsClosureOf (edited g edit) o graph
closure_edited g o edit graph nodes closed = record {
  ranks = closed.ranks ∙ sym nodes;
  edges = record {
    sorted = closed.edges.sorted;
    exact = λ x y. (
      λ has. (let (less, is) = (closed.edges.exact x y).0 has in (less, edge g (edited g edit) o (links_edited g edit) x y is)),
      λ (less, is). (closed.edges.exact x y).1 (less, edge (edited g edit) g o (links_kept g edit) x y is),
    );
  };
}
