use Rattle.std.proofs.Common.{◌≡◌, ◌<◌, ◌*◌, ◌∙◌, ℕ, List, length, arith, ap, sym, subst}
use Rattle.std.specs.Prelude.{All}
use Rattle.std.proofs.lemmas.Result.{IfOk-weaker}
use Rattle.cu_model.specs.Networks.{NetworkValue}
use Rattle.cu_chordal.specs.Groups.{AreGroups}
use Rattle.cu_dissect.specs.Steps.Parts.{far_ends, near_ends}
use Rattle.cu_dissect.proofs.Besides.{ends_long, near_below, neighbours_held}
use Rattle.cu_dissect.proofs.splitting.neighbours_of.Goals as goal

pub of-requires-clause-pairs : goal.of-requires-clause-pairs
of-requires-clause-pairs c =
    let arcs = c.args.network.now.arcs in
    ap length (c.deref.ensures.value ∙ c.in_ok-ends.ensures.near) ∙ ends_long (λ a. a.tail) (λ a. a.head) arcs
    ∙ sym (ap length (c.deref-2.ensures.value ∙ c.in_ok-ends.ensures.far) ∙ ends_long (λ a. a.head) (λ a. a.tail) arcs)

pub of-requires-clause-few : goal.of-requires-clause-few
of-requires-clause-few c =
    let arcs = c.args.network.now.arcs in
    let long : length c.deref.result.now ≡ 2 * length arcs = ap length (c.deref.ensures.value ∙ c.in_ok-ends.ensures.near) ∙ ends_long (λ a. a.tail) (λ a. a.head) arcs in
    omega (arith, long, c.nodes.ensures.sound.few_arcs)

pub of-requires-clause-in_range : goal.of-requires-clause-in_range
of-requires-clause-in_range c =
    let g : NetworkValue = c.args.network.now in
    let all : All (λ node. node < g.nodes) c.deref.result.now = subst (All (λ node. node < g.nodes)) (sym (c.deref.ensures.value ∙ c.in_ok-ends.ensures.near)) (near_below g c.nodes.ensures.sound) in
    subst (λ (n : ℕ). All (λ node. node < n) c.deref.result.now) (sym c.nodes.ensures.count) all

pub returns : goal.returns
returns c =
    let g : NetworkValue = c.args.network.now in
    let near : c.deref.result.now ≡ near_ends g.arcs = c.deref.ensures.value ∙ c.in_ok-ends.ensures.near in
    let far : c.deref-2.result.now ≡ far_ends g.arcs = c.deref-2.ensures.value ∙ c.in_ok-ends.ensures.far in
    IfOk-weaker c.of.result _ _
    (λ (groups : List (List ℕ)) h.
    neighbours_held g groups c.nodes.ensures.sound (subst (λ (n : ℕ). AreGroups (near_ends g.arcs) (far_ends g.arcs) n groups) c.nodes.ensures.count
    (subst (λ (xs : List ℕ). AreGroups (near_ends g.arcs) xs c.nodes.result groups) far (subst (λ (xs : List ℕ). AreGroups xs c.deref-2.result.now c.nodes.result groups) near h))))
    c.of.ensures
