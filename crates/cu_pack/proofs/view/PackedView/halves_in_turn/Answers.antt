use Rattle.std.proofs.Common.{◌∙◌, ap, subst}
use Rattle.std.proofs.lemmas.Result.{IfOk-weaker}
use Rattle.cu_pack.specs.Checks.{Spells}
use Rattle.cu_pack.specs.Halves.{FinderValue}
use Rattle.cu_pack.specs.Reading.{decoded, edge_start}
use Rattle.cu_pack.proofs.Read.FirstList.{no_edge_before}
use Rattle.cu_pack.proofs.Spelled.Again.{spelled_sections}
use Rattle.cu_pack.proofs.Viewed.Views.{graph_known}
use Rattle.cu_pack.proofs.view.PackedView.halves_in_turn.Goals as goal

pub of-requires : goal.of-requires
of-requires c =
    let bytes = c.self.inside.sections in
    let spells = spelled_sections bytes c.args.self.now (subst (Spells bytes) c.self.view_is c.self.invariant) in
    record { graph = graph_known bytes c.args.self.now spells }

pub returns : goal.returns
returns c =
    let bytes = c.self.inside.sections in
    let spells = spelled_sections bytes c.args.self.now (subst (Spells bytes) c.self.view_is c.self.invariant) in
    let graph = graph_known bytes c.args.self.now spells in
    record {
      same = IfOk-weaker c.of.result _ _ (λ finder begins. ap (λ (v : FinderValue). decoded v.bytes) begins ∙ c.self.view_is) c.of.ensures.begins;
      begins = IfOk-weaker c.of.result _ _ (λ finder begins. ap (λ (v : FinderValue). edge_start v.bytes v.low) begins ∙ no_edge_before bytes graph) c.of.ensures.begins;
      sound = (subst (Spells bytes) c.self.view_is c.self.invariant).sound;
    }
