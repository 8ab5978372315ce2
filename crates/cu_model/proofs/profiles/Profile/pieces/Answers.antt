use Rattle.std.proofs.Common.{get_or, rules}
use Rattle.cu_model.specs.declared.profiles.Piece.{Piece}
use Rattle.cu_model.specs.Days.{day}
use Rattle.cu_model.specs.Profiles.{IsProfile}
use Rattle.cu_model.proofs.Begun.{few_items}
use Rattle.cu_model.proofs.FaultLaws.{piece_begins}
use Rattle.cu_model.proofs.profiles.Profile.pieces.Goals as goal

pub returns-clause-few : goal.returns-clause-few
returns-clause-few c =
    let valid : IsProfile c.args.self.now = search rules in
    let few = few_items (λ (p : Piece). p.from) day c.args.self.now valid.rises (λ i d h. piece_begins (get_or c.args.self.now i d) (valid.limits i d h)) in
    search rules
