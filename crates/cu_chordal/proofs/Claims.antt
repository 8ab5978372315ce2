-- Lists without a wrong part hold the chordal supergraph.
use Rattle.std.proofs.Common.{◌≡◌, ◌≢◌, ◌≤◌, ◌<◌, ◌+◌, ◌-◌, ℕ, suc, List, ◌++◌, Some, None, length, get_or, sym, ◌∙◌, ap, subst, arith, inl, inr}
use Rattle.std.specs.List.{Contains}
use Rattle.std.proofs.lemmas.Bool.{cases_eq, cases_lt}
use Rattle.std.proofs.lemmas.Option.{slice_get-get_or}
use Rattle.cu_model.specs.Networks.{NetworkValue}
use Rattle.cu_model.specs.Orders.{IsOrder, OrderValue}
use Rattle.cu_chordal.specs.declared.checking.Checking.{Checking}
use Rattle.cu_chordal.specs.declared.graph.TheConstants.{MAX_EDGES}
use Rattle.cu_chordal.specs.Edges.{IsClosureOf, ListsEdges}
use Rattle.cu_chordal.specs.Graphs.{IsRising}
use Rattle.cu_chordal.specs.Lists.{HoldGraph, edges_below, edges_of_lists, edges_to, part_at}
use Rattle.cu_chordal.specs.Steps.Checking.{IsBeforeCheck, IsFresh, IsLaid, IsSourcePart}
use Rattle.cu_chordal.specs.Steps.Links.{AreLinks}
use Rattle.cu_chordal.specs.WrongParts.{AreHigherNeighbours, IsFirstWrong, IsWrongBetween, IsWrongPart}
use Rattle.cu_chordal.proofs.Adding.{edge_in_range, joined_in_range}
use Rattle.cu_chordal.proofs.Adopted.{edges_counted}
use Rattle.cu_chordal.proofs.Closed.{AreUps, closure_all, source_up, ups_more}
use Rattle.cu_chordal.proofs.Decided.{neighbours_not_refuted}
use Rattle.cu_chordal.proofs.Joined.{IsUp, edge_from_up, joined_back, up_from_child, up_from_edge}
use Rattle.cu_chordal.proofs.Listed.{ArePartsOf, closed_below, edge_from_entry, entry_from_edge, length_below, no_edges}

-- a rank's part is right
pub record IsRightPart (g : NetworkValue) (o : OrderValue) (starts uppers : List ℕ) (rank : ℕ) : Type 0 where
  pub laid : IsLaid starts uppers rank
  pub neighbours : AreHigherNeighbours g o rank (part_at starts uppers rank)

module _ (g : NetworkValue) (o : OrderValue) where
  right_from_none : (starts uppers : List ℕ) → IsFirstWrong g o starts uppers None → (rank : ℕ) → rank < g.nodes → IsRightPart g o starts uppers rank
  right_from_none starts uppers none rank lt = record {
    laid = (
      elim (cases_lt (get_or starts (rank + 1) 0) (get_or starts rank 0)) [
        | inl falls ↦ absurd (none rank (inr (inl (lt, inl falls))))
        | inr rises ↦ rises
      ],
      elim (cases_lt (length uppers) (get_or starts (rank + 1) 0)) [
        | inl past ↦ absurd (none rank (inr (inl (lt, inr (inl past)))))
        | inr within ↦ within
      ],
    );
    neighbours = neighbours_not_refuted g o rank (part_at starts uppers rank) (λ wrong. none rank (inr (inl (lt, inr (inr wrong)))));
  }

  first_from_none : (starts uppers : List ℕ) → IsFirstWrong g o starts uppers None → get_or starts 0 0 ≡ 0
  first_from_none starts uppers none =
      elim (cases_eq (get_or starts 0 0) 0) [
        | inl same ↦ same
        | inr other ↦ absurd (none 0 (inl (omega arith, other)))
      ]

  last_from_none : (starts uppers : List ℕ) → IsFirstWrong g o starts uppers None → get_or starts g.nodes 0 ≡ length uppers
  last_from_none starts uppers none =
      elim (cases_eq (get_or starts g.nodes 0) (length uppers)) [
        | inl same ↦ same
        | inr other ↦ absurd (none g.nodes (inr (inr (omega arith, other))))
      ]

  high_in_range : IsOrder o → length o.node_at ≡ g.nodes → (x y : ℕ) → IsUp g o x y → y < g.nodes
  high_in_range ordered long x y up =
      let back = joined_back g o x x up.1.0 y up.1.1 in
      joined_in_range g o ordered long x y back.0 x back.1

  entry_is_up : (rank : ℕ) (part : List ℕ) (y : ℕ) → AreHigherNeighbours g o rank part → Contains part y → IsUp g o rank y
  entry_is_up rank part y f c = let both = (f.exact y).0 c in up_from_edge g o rank y both.0 both.1

  up_is_entry : (rank : ℕ) (part : List ℕ) (y : ℕ) → AreHigherNeighbours g o rank part → IsUp g o rank y → Contains part y
  up_is_entry rank part y f up = (f.exact y).1 (up.0, edge_from_up g o rank y up)

  -- the edges of right parts are those of the chordal supergraph
  pub right_ups : (starts uppers : List ℕ) (ranks : ℕ) → ((rank : ℕ) → rank < ranks → IsRightPart g o starts uppers rank) → AreUps g o ranks (edges_below starts uppers ranks)
  right_ups starts uppers ranks right x y lt = (
    λ e. entry_is_up x (part_at starts uppers x) y (right x lt).neighbours (entry_from_edge starts uppers ranks x y lt e),
    λ up. edge_from_entry starts uppers ranks x y lt (up_is_entry x (part_at starts uppers x) y (right x lt).neighbours up),
  )

  right_parts : (starts uppers : List ℕ) → IsOrder o → length o.node_at ≡ g.nodes → length uppers ≤ MAX_EDGES → get_or starts 0 0 ≡ 0
      → ((rank : ℕ) → rank < g.nodes → IsRightPart g o starts uppers rank) → ArePartsOf starts uppers g.nodes g.nodes
  right_parts starts uppers ordered long few first right = record {
    few = few;
    laid = record { first = first; laid = λ k lt. (right k lt).laid };
    rising = λ k lt. (right k lt).neighbours.rising;
    range = λ k y lt c.
        let up = entry_is_up k (part_at starts uppers k) y (right k lt).neighbours c in
        (up.0, high_in_range ordered long k y up);
  }

  held_from_right : (starts uppers : List ℕ) → IsOrder o → length o.node_at ≡ g.nodes → length starts ≡ g.nodes + 1
      → ((rank : ℕ) → rank < g.nodes → IsRightPart g o starts uppers rank) → get_or starts g.nodes 0 ≡ length uppers → ArePartsOf starts uppers g.nodes g.nodes → HoldGraph starts uppers
  held_from_right starts uppers ordered long count right last parts =
      let below : (k : ℕ) → k + 1 < length starts → k < g.nodes = λ k lt. omega (arith, lt, count) in
      record {
        few_ranks = omega (arith, ordered.few, long, count);
        few_edges = parts.few;
        first = slice_get-get_or starts 0 0 (omega (arith, count)) ∙ ap Some parts.laid.first;
        starts_rise = λ k lt. (parts.laid.laid k (below k lt)).0;
        whole = let at : g.nodes ≡ length starts - 1 = omega (arith, count) in subst (λ n. get_or starts n 0 ≡ length uppers) at last;
        parts_rise = λ k lt. parts.rising k (below k lt);
        higher = λ k y lt c. let r = parts.range k y (below k lt) c in (r.0, omega (arith, r.1, count));
        joined = λ r x y lt c e less.
            let up_x = entry_is_up r (part_at starts uppers r) x (right r (below r lt)).neighbours c in
            let up_y = entry_is_up r (part_at starts uppers r) y (right r (below r lt)).neighbours e in
            let high = (parts.range r x (below r lt) c).1 in
            up_is_entry x (part_at starts uppers x) y (right x high).neighbours (up_from_child g o r x y up_x up_y less);
      }

-- what is adopted from lists without a wrong part
pub record AreAdopted (g : NetworkValue) (o : OrderValue) (starts uppers : List ℕ) : Type 0 where
  pub held : HoldGraph starts uppers
  pub closure : IsClosureOf g o (record { ranks = length starts - 1; edges = edges_of_lists starts uppers })
  pub count : length (edges_of_lists starts uppers) ≡ length uppers

pub adopted : (g : NetworkValue) (o : OrderValue) (starts uppers : List ℕ) → IsOrder o → length o.node_at ≡ g.nodes → length starts ≡ g.nodes + 1
    → length uppers ≤ MAX_EDGES → IsFirstWrong g o starts uppers None → AreAdopted g o starts uppers
adopted g o starts uppers ordered long count few none =
    let right = right_from_none g o starts uppers none in
    let parts : ArePartsOf starts uppers g.nodes g.nodes = right_parts g o starts uppers ordered long few (first_from_none g o starts uppers none) right in
    let last = last_from_none g o starts uppers none in
    let same : edges_below starts uppers g.nodes ≡ edges_of_lists starts uppers = edges_counted starts uppers g.nodes count in
    record {
      held = held_from_right g o starts uppers ordered long count right last parts;
      closure = record {
        ranks = omega (arith, count);
        edges = subst (ListsEdges g o) same
            (closure_all g o (edges_below starts uppers g.nodes) (closed_below starts uppers g.nodes g.nodes parts) (right_ups g o starts uppers g.nodes right) (edge_in_range g o ordered long));
      };
      count = ap length (sym same) ∙ length_below starts uppers g.nodes parts.laid ∙ last;
    }

-- no rank below this one has a wrong part, as the check goes
pub record AreRightBelow (g : NetworkValue) (o : OrderValue) (ranks rank : ℕ) (starts uppers : List ℕ) (checking : Checking) : Type 0 where
  pub ready : IsBeforeCheck ranks rank starts uppers checking
  pub ups : AreUps g o rank (edges_below starts uppers rank)
  pub right : (k : ℕ) → k < rank → IsWrongPart g o starts uppers k → ⊥

pub right_below_none : (g : NetworkValue) (o : OrderValue) (ranks : ℕ) (starts uppers : List ℕ) (checking : Checking) → get_or starts 0 0 ≡ 0 → IsFresh ranks checking
    → AreRightBelow g o ranks 0 starts uppers checking
right_below_none g o ranks starts uppers checking first f = record {
  ready = record {
    laid = λ k lt. absurd (omega (arith, lt));
    long = sym first;
    edges = no_edges ranks;
    handed = f.handed;
    marks = f.marks;
    low = f.low;
  };
  ups = λ x y lt. absurd (omega (arith, lt));
  right = λ k lt. absurd (omega (arith, lt));
}

module _ (g : NetworkValue) (o : OrderValue) (starts uppers links : List ℕ) (rank : ℕ) (rising : IsRising (edges_below starts uppers rank))
    (ups : AreUps g o rank (edges_below starts uppers rank)) (linked : AreLinks g o rank links) where
  -- what was checked of a rank's part says whether it is wrong
  neighbours_from_sources : IsSourcePart starts uppers links rank → AreHigherNeighbours g o rank (part_at starts uppers rank)
  neighbours_from_sources f = record {
    rising = f.rising;
    exact = λ y.
        let source = source_up g o (edges_below starts uppers rank) links rank y rising ups linked.exact in (
          (λ c. let up = source.0 ((f.exact y).0 c) in (up.0, edge_from_up g o rank y up)),
          (λ both. (f.exact y).1 (source.1 (up_from_edge g o rank y both.0 both.1))),
        );
  }

  sources_from_neighbours : IsLaid starts uppers rank → AreHigherNeighbours g o rank (part_at starts uppers rank) → IsSourcePart starts uppers links rank
  sources_from_neighbours laid f = record {
    laid = laid;
    rising = f.rising;
    exact = λ y.
        let source = source_up g o (edges_below starts uppers rank) links rank y rising ups linked.exact in (
          (λ c. source.1 (entry_is_up g o rank (part_at starts uppers rank) y f c)),
          (λ s. up_is_entry g o rank (part_at starts uppers rank) y f (source.0 s)),
        );
  }

  wrong_between : (IsSourcePart starts uppers links rank → ⊥) → IsWrongBetween g o starts uppers rank
  wrong_between off =
      elim (cases_lt (get_or starts (rank + 1) 0) (get_or starts rank 0)) [
        | inl falls ↦ inl falls
        | inr rises ↦ elim (cases_lt (length uppers) (get_or starts (rank + 1) 0)) [
          | inl past ↦ inr (inl past)
          | inr within ↦ inr (inr (λ f. off (sources_from_neighbours (rises, within) f)))
        ]
      ]

module _ (g : NetworkValue) (o : OrderValue) where
  -- a part that isn't the sources is the first wrong one
  pub wrong_at : (ranks rank : ℕ) (starts uppers links : List ℕ) (checking : Checking) → rank < g.nodes → AreRightBelow g o ranks rank starts uppers checking
      → AreLinks g o rank links → (IsSourcePart starts uppers links rank → ⊥) → IsFirstWrong g o starts uppers (Some rank)
  wrong_at ranks rank starts uppers links checking lt f linked off =
      (inr (inl (lt, wrong_between g o starts uppers links rank f.ready.edges.rising f.ups linked off)), f.right)

  -- a right part isn't wrong
  not_wrong : (starts uppers : List ℕ) (rank : ℕ) → rank < g.nodes → get_or starts 0 0 ≡ 0 → IsRightPart g o starts uppers rank → IsWrongPart g o starts uppers rank → ⊥
  not_wrong starts uppers rank lt first f (inl begins) = begins.1 first
  not_wrong starts uppers rank lt first f (inr (inl (below, inl falls))) = omega (arith, falls, f.laid.0)
  not_wrong starts uppers rank lt first f (inr (inl (below, inr (inl past)))) = omega (arith, past, f.laid.1)
  not_wrong starts uppers rank lt first f (inr (inl (below, inr (inr other)))) = other f.neighbours
  not_wrong starts uppers rank lt first f (inr (inr ends)) = omega (arith, ends.0, lt)

  pub right_below_more : (ranks rank : ℕ) (starts uppers links : List ℕ) (old new : Checking) → rank < g.nodes → get_or starts 0 0 ≡ 0
      → AreRightBelow g o ranks rank starts uppers old → AreLinks g o rank links → IsSourcePart starts uppers links rank → IsBeforeCheck ranks (rank + 1) starts uppers new
      → AreRightBelow g o ranks (rank + 1) starts uppers new
  right_below_more ranks rank starts uppers links old new lt first f linked part ready =
      let neighbours = neighbours_from_sources g o starts uppers links rank f.ready.edges.rising f.ups linked part in
      let next : edges_below starts uppers rank ++ edges_to rank (part_at starts uppers rank) ≡ edges_below starts uppers (rank + 1) =
      let more : suc rank ≡ rank + 1 = omega arith in ap (edges_below starts uppers) more in
      record {
        ready = ready;
        ups = ups_more g o (edges_below starts uppers rank) (edges_below starts uppers (rank + 1)) links ranks rank f.ready.edges f.ups linked.exact
            (part_at starts uppers rank, sym next, part.exact);
        right = λ k below. elim (cases_eq k rank) [
          | inl same ↦ subst (λ j. IsWrongPart g o starts uppers j → ⊥) (sym same) (not_wrong starts uppers rank lt first (record { laid = part.laid; neighbours = neighbours }))
          | inr other ↦ f.right k (omega (arith, below, other))
        ];
      }

  -- when all ranks were found right, the end tells
  past_last : (starts uppers : List ℕ) (rank : ℕ) → g.nodes < rank → IsWrongPart g o starts uppers rank → ⊥
  past_last starts uppers rank past (inl begins) = omega (arith, begins.0, past)
  past_last starts uppers rank past (inr (inl between)) = omega (arith, between.0, past)
  past_last starts uppers rank past (inr (inr ends)) = omega (arith, ends.0, past)

  last_right : (starts uppers : List ℕ) → get_or starts 0 0 ≡ 0 → get_or starts g.nodes 0 ≡ length uppers → IsWrongPart g o starts uppers g.nodes → ⊥
  last_right starts uppers first end (inl begins) = begins.1 first
  last_right starts uppers first end (inr (inl between)) = omega (arith, between.0)
  last_right starts uppers first end (inr (inr ends)) = ends.1 end

  pub none_wrong : (ranks rank : ℕ) (starts uppers : List ℕ) (checking : Checking) → get_or starts 0 0 ≡ 0 → ranks ≡ g.nodes → rank ≡ ranks
      → get_or starts ranks 0 ≡ length uppers → AreRightBelow g o ranks rank starts uppers checking → IsFirstWrong g o starts uppers None
  none_wrong ranks rank starts uppers checking first at last end f k wrong =
      elim (cases_lt k rank) [
        | inl less ↦ f.right k less wrong
        | inr least ↦ elim (cases_eq k g.nodes) [
          | inl here ↦ last_right starts uppers first (subst (λ n. get_or starts n 0 ≡ length uppers) at end) (subst (IsWrongPart g o starts uppers) here wrong)
          | inr other ↦ past_last starts uppers k (omega (arith, least, last, at, other)) wrong
        ]
      ]

  pub end_wrong : (ranks rank : ℕ) (starts uppers : List ℕ) (checking : Checking) → ranks ≡ g.nodes → rank ≡ ranks → get_or starts ranks 0 ≢ length uppers
      → AreRightBelow g o ranks rank starts uppers checking → IsFirstWrong g o starts uppers (Some ranks)
  end_wrong ranks rank starts uppers checking at last other f = (inr (inr (at, other)), λ lower less. f.right lower (omega (arith, less, last)))
