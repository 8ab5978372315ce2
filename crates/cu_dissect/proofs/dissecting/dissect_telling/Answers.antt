use Rattle.std.proofs.Common.{◌≡◌, ◌∙◌, ℕ, List, length, ap, subst, sym}
use Rattle.std.specs.Prelude.{All}
use Rattle.cu_model.specs.Networks.{NetworkValue}
use Rattle.cu_model.specs.Orders.{ListsEachNodeOnce, OrderValue}
use Rattle.cu_chordal.proofs.Members.{all_from_members}
use Rattle.cu_roads.specs.declared.places.Place.{Place}
use Rattle.cu_dissect.specs.Apart.{IsApart, IsUnrelated}
use Rattle.cu_dissect.specs.Dissection.{dissected}
use Rattle.cu_dissect.proofs.Barred.{IsBarred, splits_barred}
use Rattle.cu_dissect.proofs.Permuting.{dissected_long, dissected_once}
use Rattle.cu_dissect.proofs.Unrelated.{barred_unrelated}
use Rattle.cu_dissect.proofs.dissecting.dissect_telling.Goals as goal

pub of-requires : goal.of-requires
of-requires g c =
    let g : NetworkValue = c.args.network.now in
    let places : List Place = c.args.places.now in
    subst ListsEachNodeOnce (sym c.in_ok-dissection.ensures.order) (dissected_once g places c.in_ok-dissection.ensures.sound.few_nodes)

pub returns-clause-count : goal.returns-clause-count
returns-clause-count g c =
    let given : c.in_ok-order.order.node_at ≡ (dissected c.args.network.now c.args.places.now).order = c.in_ok-order.ensures.given ∙ c.in_ok-dissection.ensures.order in
    ap (λ (nodes : List ℕ). length nodes) given ∙ dissected_long c.args.network.now c.args.places.now

pub returns-clause-apart : goal.returns-clause-apart
returns-clause-apart g c =
    let g : NetworkValue = c.args.network.now in
    let places : List Place = c.args.places.now in
    let all : All (IsApart g) (dissected g places).splits =
    all_from_members (IsApart g) (dissected g places).splits (λ split at. (splits_barred g places c.in_ok-dissection.ensures.sound split at).apart) in
    subst (All (IsApart g)) (sym c.in_ok-dissection.ensures.splits) all

pub returns-clause-unrelated : goal.returns-clause-unrelated
returns-clause-unrelated g c = λ graph closed.
    let g : NetworkValue = c.args.network.now in
    let places : List Place = c.args.places.now in
    let order : OrderValue = c.in_ok-order.order in
    let given : order.node_at ≡ (dissected g places).order = c.in_ok-order.ensures.given ∙ c.in_ok-dissection.ensures.order in
    let all : All (IsUnrelated graph order) (dissected g places).splits =
    all_from_members (IsUnrelated graph order) (dissected g places).splits
    (λ split at. barred_unrelated g order graph split c.in_ok-order.ensures.sound closed
    (subst (λ (nodes : List ℕ). IsBarred g nodes split) (sym given) (splits_barred g places c.in_ok-dissection.ensures.sound split at))) in
    subst (All (IsUnrelated graph order)) (sym c.in_ok-dissection.ensures.splits) all
