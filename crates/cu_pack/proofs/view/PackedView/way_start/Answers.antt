use Rattle.std.proofs.Common.{◌∙◌, arith, subst}
use Rattle.cu_pack.specs.Checks.{Spells}
use Rattle.cu_pack.proofs.Spelled.Again.{spelled_sections}
use Rattle.cu_pack.proofs.Viewed.ViewedParts.{way_start_known}
use Rattle.cu_pack.proofs.Viewed.Views.{edges_known}
use Rattle.cu_pack.proofs.view.PackedView.way_start.Goals as goal

pub way_start-requires : goal.way_start-requires
way_start-requires c =
    let bytes = c.self.inside.sections in
    let spells = spelled_sections bytes c.args.self.now (subst (Spells bytes) c.self.view_is c.self.invariant) in
    let many = edges_known bytes c.args.self.now spells in
    let lists = spells.sound.lists in
    record { list = omega (arith, many, lists, c.requires.inside) }

pub returns : goal.returns
returns c =
    let bytes = c.self.inside.sections in
    let spells = spelled_sections bytes c.args.self.now (subst (Spells bytes) c.self.view_is c.self.invariant) in
    record {
      start = c.way_start.ensures.start ∙ way_start_known bytes c.args.self.now spells c.args.list c.requires.inside;
      sound = spells.sound;
    }
