use Rattle.std.proofs.Common.{◌+◌, arith, subst, sym}
use Rattle.std.proofs.lemmas.Option.{slice_get-get_or}
use Rattle.cu_wait.specs.declared.points.Mode.TheVariants.{Line}
use Rattle.cu_wait.specs.declared.points.Point.{Point}
use Rattle.cu_wait.specs.Steps.LeftLegs.{IsLegAt}
use Rattle.cu_wait.proofs.LeftLegLaws.{leg_to_end, leg_to_next, none_past}
use Rattle.cu_wait.proofs.left.leg_at.Goals as goal

abbrev no_point : Point
no_point = record { second = 0; mode = Line; travel = 0 }

pub returns-then-behind-points : goal.returns-then-behind-points
returns-then-behind-points c =
    let points = c.args.points.now in
    let some = c.if-behind-points.true in
    let here = slice_get-get_or points c.args.index no_point c.requires.index in
    let there = slice_get-get_or points (c.args.index + 1) no_point (omega (arith, some)) in
    subst (IsLegAt points c.args.index) (sym c.leg_behind.ensures) (leg_to_next points c.args.index _ _ c.requires.measured here there)

pub returns : goal.returns
returns c =
    let points = c.args.points.now in
    let over = c.if-behind-points.false in
    let here = slice_get-get_or points c.args.index no_point c.requires.index in
    let there = none_past points (c.args.index + 1) (omega (arith, over)) in
    subst (IsLegAt points c.args.index) (sym c.leg_behind-2.ensures) (leg_to_end points c.args.index _ no_point c.requires.measured here there)
