use Rattle.std.proofs.Common.{◌≡◌, ◌≤◌, ◌<◌, ◌*◌, ◌∙◌, ℕ, List, arith, ap, get_or, length, map, refl, subst, sym}
use Rattle.std.proofs.lemmas.List.{get_or-map, length-map, take_all}
use Rattle.cu_interval.specs.declared.ways.TouchedEdge.{TouchedEdge}
use Rattle.cu_sequences.specs.Steps.Putting.{Forgets}
use Rattle.cu_sequences.proofs.Keeping.{forgets_more, forgets_none}
use Rattle.cu_sequences.proofs.making.forget_lists.Goals as goal

pub lists-init : goal.lists-init
lists-init c = forgets_none c.args.starts.now

pub lists-preserved : goal.lists-preserved
lists-preserved c =
    let lists = c.args.lists.now in
    let edges = map (λ (touched : TouchedEdge). touched.edge) lists in
    let i = c.lists.touched-index in
    let touched : TouchedEdge = c.touched-item.result in
    let before : i < length lists = omega (arith, c.lists-test.true, c.lists.auto.touched-index-end) in
    let long = length-map lists (λ (touched : TouchedEdge). touched.edge) in
    let same : touched.edge ≡ get_or edges i touched.edge =
    ap (λ (t : TouchedEdge). t.edge) c.touched-item.is ∙ sym (get_or-map (λ (t : TouchedEdge). t.edge) lists i touched touched.edge before) in
    forgets_more c.args.starts.now c.lists.starts c.forget.new.starts c.forget-in-lists.new.starts edges i touched.edge (2 * touched.edge)
    (omega (arith, before, long)) same refl c.forget.ensures.gone c.forget.ensures.stay c.forget-in-lists.ensures.gone c.forget-in-lists.ensures.stay c.lists.invariant

pub returns : goal.returns
returns c =
    let lists = c.args.lists.now in
    let edges = map (λ (touched : TouchedEdge). touched.edge) lists in
    let i = c.lists.touched-index in
    let long = length-map lists (λ (touched : TouchedEdge). touched.edge) in
    let all : length edges ≤ i = omega (arith, c.lists-test.false, c.lists.auto.touched-index-end, long) in
    subst (λ (es : List ℕ). Forgets c.args.starts.now c.lists.starts es) (take_all i edges all) c.lists.invariant
