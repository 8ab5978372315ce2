use Rattle.std.proofs.Common.{◌∙◌, ◌++◌, ap, sym, subst, List}
use Rattle.cu_model.specs.declared.profiles.Piece.{Piece}
use Rattle.cu_model.specs.Profiles.{IsProfile}
use Rattle.cu_roads.proofs.DrawnGrids.{accepted}
use Rattle.cu_cli.proofs.TrialLaws.{drawn_once}
use Rattle.cu_cli.proofs.commands.trial.draw_edit.Goals as goal

pub unwrap-requires : goal.unwrap-requires
unwrap-requires c =
    let items = c.extend_from_slice.new.self.items in
    let same = c.in_ok-extend_from_slice.ensures.items ∙ ap (λ (ps : List Piece). ps ++ c.draw_day-day.result) c.new-pieces.ensures.items in
    accepted c.of.result items c.of.ensures.variant (subst IsProfile (sym same) c.draw_day-day.ensures.valid)

pub returns-clause-state : goal.returns-clause-state
returns-clause-state c = drawn_once c.args.draws.now c.next-profile.new.self c.draw_day-day.new.draws c.next-profile.ensures.state c.draw_day-day.ensures.state
