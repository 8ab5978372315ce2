use Rattle.std.proofs.Common.{sym, ◌∙◌}
use Rattle.cu_model.proofs.Stands.{checks_fault}
use Rattle.cu_model.proofs.checker.PieceChecker.finish.Goals as goal

pub returns-in-None : goal.returns-in-None
returns-in-None c pieces checks = sym (checks_fault c.args.self.now pieces checks) ∙ sym c.in-None.ensures

pub returns-in-Some : goal.returns-in-Some
returns-in-Some c pieces checks = sym (checks_fault c.args.self.now pieces checks) ∙ sym c.in-Some.ensures
