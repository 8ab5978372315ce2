use Rattle.std.proofs.Common.{◌∙◌, ap, subst}
use Rattle.cu_interval.specs.Hierarchies.{HierarchyValue, IsBuilt}
use Rattle.cu_pack.proofs.Spelled.Again.{same_hierarchy}
use Rattle.cu_cli.proofs.StopLaws.{if_ok_map}
use Rattle.cu_cli.proofs.commands.trial.packed_router.Goals as goal

pub built-requires : goal.built-requires
built-requires c =
    let (h, built, network, order, spells) = c.in_ok-bytes.ensures.built in
    let bytes = c.in_ok-bytes.bytes.items in
    record { spelled = (h, spells); built = λ other same. subst IsBuilt (same_hierarchy bytes h other spells same) built }

pub returns : goal.returns
returns c =
    let (h, built, network, order, spells) = c.in_ok-bytes.ensures.built in
    let bytes = c.in_ok-bytes.bytes.items in
    let held = c.built.ensures.held in
    record {
      network = if_ok_map c.built.result _ _ (λ router same. ap (λ (v : HierarchyValue). v.network) (same_hierarchy bytes router h same spells) ∙ network) held;
      order = if_ok_map c.built.result _ _ (λ router same. ap (λ (v : HierarchyValue). v.order) (same_hierarchy bytes router h same spells) ∙ order) held;
      built = if_ok_map c.built.result _ _ (λ router same. subst IsBuilt (same_hierarchy bytes h router spells same) built) held;
    }
