use Rattle.std.proofs.Common.{◌≡◌, ◌≤◌, ◌++◌, ◌∙◌, ℕ, List, length, arith, ap, subst, sym}
use Rattle.std.specs.List.{range_with_len}
use Rattle.std.proofs.lemmas.List.FromFn.{length-range_with_len}
use Rattle.cu_model.specs.Networks.{NetworkValue}
use Rattle.cu_roads.specs.declared.places.Place.{Place}
use Rattle.cu_dissect.specs.Dissection.{Dissected, SplitValue, dissected, dissected_by}
use Rattle.cu_dissect.specs.Steps.Parts.{IsPart}
use Rattle.cu_dissect.proofs.SplitLaws.{whole_part}
use Rattle.cu_dissect.proofs.dissecting.dissection_of.Goals as goal

pub add_part-requires-clause-part : goal.add_part-requires-clause-part
add_part-requires-clause-part g c =
    let n : ℕ = c.args.network.now.nodes in
    let nodes : c.deref-2.result.now ≡ range_with_len 0 n = c.deref-2.ensures.value ∙ c.in_ok-counted.ensures ∙ ap (range_with_len 0) c.nodes-nodes.ensures.count in
    subst (IsPart n) (sym nodes) (whole_part n)

-- what was added to nothing is the whole
whole : (g : NetworkValue) (places given : List Place) (nodes : List ℕ) → given ≡ places → nodes ≡ range_with_len 0 g.nodes → dissected_by g given g.nodes nodes ≡ dissected g places
whole g places given nodes places_is nodes_is = ap (λ (ps : List Place). dissected_by g ps g.nodes nodes) places_is ∙ ap (dissected_by g places g.nodes) nodes_is

pub returns-clause-order : goal.returns-clause-order
returns-clause-order g c =
    let g : NetworkValue = c.args.network.now in
    let nodes : c.deref-2.result.now ≡ range_with_len 0 g.nodes = c.deref-2.ensures.value ∙ c.in_ok-counted.ensures ∙ ap (range_with_len 0) c.nodes-nodes.ensures.count in
    let enough : length c.deref-2.result.now ≤ g.nodes = omega (arith, ap length nodes, length-range_with_len 0 g.nodes) in
    let part : Dissected = dissected_by g c.deref.result.now g.nodes c.deref-2.result.now in
    (c.in_ok-add_part.ensures.added g.nodes enough).order ∙ ap (λ (xs : List ℕ). xs ++ part.order) c.in_ok-with_capacity.ensures.items
    ∙ ap (λ (d : Dissected). d.order) (whole g c.args.places.now c.deref.result.now c.deref-2.result.now (c.deref.ensures.value ∙ c.places.view_is) nodes)

pub returns-clause-splits : goal.returns-clause-splits
returns-clause-splits g c =
    let g : NetworkValue = c.args.network.now in
    let nodes : c.deref-2.result.now ≡ range_with_len 0 g.nodes = c.deref-2.ensures.value ∙ c.in_ok-counted.ensures ∙ ap (range_with_len 0) c.nodes-nodes.ensures.count in
    let enough : length c.deref-2.result.now ≤ g.nodes = omega (arith, ap length nodes, length-range_with_len 0 g.nodes) in
    let part : Dissected = dissected_by g c.deref.result.now g.nodes c.deref-2.result.now in
    (c.in_ok-add_part.ensures.added g.nodes enough).splits ∙ ap (λ (xs : List SplitValue). xs ++ part.splits) c.new.ensures.items
    ∙ ap (λ (d : Dissected). d.splits) (whole g c.args.places.now c.deref.result.now c.deref-2.result.now (c.deref.ensures.value ∙ c.places.view_is) nodes)
