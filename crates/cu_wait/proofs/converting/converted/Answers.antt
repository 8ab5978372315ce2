use Rattle.std.proofs.Common.{arith}
use Rattle.cu_model.specs.DayForms.{IsDayForm}
use Rattle.cu_model.specs.Profiles.{IsProfile}
use Rattle.cu_model.proofs.FaultLaws.{piece_fault_none_from}
use Rattle.cu_wait.specs.Legs.{hull_at, legs_of}
use Rattle.cu_wait.proofs.ConvertedLaws.{converted_profile, converted_stands, few_pieces}
use Rattle.cu_wait.proofs.converting.converted.Goals as goal
use Rattle.cu_wait.proofs.converting.converted.Goals.{In_ok-pieces}

-- the pieces are those of the hull of the points
form : (c : In_ok-pieces) → IsDayForm (hull_at (legs_of c.args.points.now)) c.in_ok-pieces.pieces.items
form c = c.in_ok-pieces.ensures.form

valid : (c : In_ok-pieces) → IsProfile c.in_ok-pieces.pieces.items
valid c = converted_profile c.args.points.now c.requires c.in_ok-pieces.pieces.items (form c)

pub of-requires : goal.of-requires
of-requires c =
    let few = few_pieces c.in_ok-pieces.pieces.items (valid (goal.at.of-requires c).In_ok-pieces) in
    omega (arith, few)

pub unreachable-requires : goal.unreachable-requires
unreachable-requires c =
    let none = piece_fault_none_from c.in_ok-pieces.pieces.items (valid (goal.at.unreachable-requires c).In_ok-pieces) in
    let some = c.in-Err.ensures.variant in
    cc (none, some)

pub returns-clause-converted : goal.returns-clause-converted
returns-clause-converted c =
    rw c.in-Ok.ensures.ok
    (converted_stands c.args.points.now c.requires c.in_ok-pieces.pieces.items (form (goal.at.returns-clause-converted c).In_ok-pieces))
