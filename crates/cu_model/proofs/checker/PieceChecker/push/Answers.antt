use Rattle.std.proofs.Common.{◌≡◌, Some, ap, ◌∙◌}
use Rattle.cu_model.specs.declared.checker.PieceChecker.{PieceChecker}
use Rattle.cu_model.specs.Steps.Checking.{behind}
use Rattle.cu_model.proofs.Pushes.{checks_alone, checks_behind, taken}
use Rattle.cu_model.proofs.checker.PieceChecker.push.Goals as goal
use Rattle.cu_model.proofs.checker.PieceChecker.push.Goals.{in-Some, in-None}

pub returns-clause-pieces : goal.returns-clause-pieces
returns-clause-pieces c pieces checks =
    let a = c.args.self.now in
    let x = c.args.piece in
    let noted : record a { limit = c.or-self.result; closed = c.or-self-2.result } ≡ taken a x = cc in
    elim c.match-self.branch [
      | in-Some w ↦ checks_behind a c.match-self.self w.in-Some.ends pieces x checks w.in-Some.is
          (w.self-is ∙ w.push_behind.ensures ∙ ap (λ (s : PieceChecker). behind s w.in-Some.ends x) noted)
      | in-None w ↦ checks_alone a c.match-self.self pieces x checks w.in-None.is
          (w.self-is ∙ ap (λ (s : PieceChecker). record s { ends = Some (record { first = x; last = x }) }) noted)
    ]
