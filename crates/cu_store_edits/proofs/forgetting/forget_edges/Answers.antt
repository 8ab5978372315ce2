use Rattle.std.proofs.Common.{arith, ◌≡◌, ◌≤◌, ◌<◌, ◌+◌, ◌*◌, ◌∙◌, ℕ, List, Option, None, ap, sym, subst, length, map, get_or, refl}
use Rattle.std.specs.Prelude.{slice_set}
use Rattle.std.proofs.lemmas.List.{get_or-map, length-map, take_all}
use Rattle.cu_interval.specs.declared.ways.TouchedEdge.{TouchedEdge}
use Rattle.cu_store.specs.Known.{KnownFunction, StoreValue}
use Rattle.cu_store_edits.specs.Forgetting.{Forgets}
use Rattle.cu_store_edits.proofs.ForgetLaws.{forgets_more, forgets_none, forgotten_knows}
use Rattle.cu_store_edits.proofs.forgetting.forget_edges.Goals as goal

pub lists-init : goal.lists-init
lists-init c = forgets_none c.args.store.now.known

pub lists-preserved : goal.lists-preserved
lists-preserved c =
    let lists = c.args.lists.now in
    let edges = map (λ (touched : TouchedEdge). touched.edge) lists in
    let i = c.lists.touched-index in
    let touched : TouchedEdge = c.touched-item.result in
    let up = 2 * touched.edge in
    let inside : i < length lists = omega (arith, c.lists-test.true, c.lists.auto.touched-index-end) in
    let long = length-map lists (λ (touched : TouchedEdge). touched.edge) in
    let same : touched.edge ≡ get_or edges i touched.edge =
    ap (λ (t : TouchedEdge). t.edge) c.touched-item.is ∙ sym (get_or-map (λ (t : TouchedEdge). t.edge) lists i touched touched.edge inside) in
    let known_of : StoreValue → List (Option (Option KnownFunction)) = λ v. v.known in
    let is = ap known_of c.forget-in-lists.ensures ∙ ap (λ (ks : List (Option (Option KnownFunction))). slice_set ks (up + 1) None) (ap known_of c.forget.ensures) in
    forgets_more c.args.store.now.known c.lists.store.known c.forget-in-lists.new.self.known edges i touched.edge up (omega (arith, inside, long)) same refl is c.lists.invariant

pub returns-clause-forgets : goal.returns-clause-forgets
returns-clause-forgets c =
    let lists = c.args.lists.now in
    let edges = map (λ (touched : TouchedEdge). touched.edge) lists in
    let i = c.lists.touched-index in
    let long = length-map lists (λ (touched : TouchedEdge). touched.edge) in
    let all : length edges ≤ i = omega (arith, c.lists-test.false, c.lists.auto.touched-index-end, long) in
    subst (λ (es : List ℕ). Forgets c.args.store.now.known c.lists.store.known es) (take_all i edges all) c.lists.invariant

pub returns-clause-knows : goal.returns-clause-knows
returns-clause-knows c =
    let lists = c.args.lists.now in
    let edges = map (λ (touched : TouchedEdge). touched.edge) lists in
    let i = c.lists.touched-index in
    let long = length-map lists (λ (touched : TouchedEdge). touched.edge) in
    let all : length edges ≤ i = omega (arith, c.lists-test.false, c.lists.auto.touched-index-end, long) in
    let forgets = subst (λ (es : List ℕ). Forgets c.args.store.now.known c.lists.store.known es) (take_all i edges all) c.lists.invariant in
    forgotten_knows c.args.store.now.known c.lists.store.known edges forgets
