use Rattle.std.proofs.Common.{◌≡◌, All, arith, subst, sym}
use Rattle.cu_wait.specs.declared.points.Mode.TheVariants.{Line}
use Rattle.cu_wait.specs.Legs.{IsLeg, Tile, legs_of}
use Rattle.cu_wait.proofs.HullLaws.{legs_are}
use Rattle.cu_wait.proofs.PointLaws.{legs_begun, legs_last, legs_more, legs_sound, some_points}
use Rattle.cu_wait.proofs.points.legs_of.Goals as goal
use Rattle.cu_wait.proofs.points.legs_of.Goals.{In_ok-push-2}

pub points-init : goal.points-init
points-init c =
    rw c.new-legs.ensures.items (legs_begun c.args.points.now (record { second = 0; mode = Line; travel = 0 }) (some_points c.args.points.now c.requires))

pub points-preserved : goal.points-preserved
points-preserved c =
    rw (c.in_ok-push.ensures.items, c.leg_behind.ensures)
    (legs_more _ c.points.point _ _ c.points.next-index c.points.legs.items (legs_of c.args.points.now) (omega (arith, c.points-test.true)) c.points.invariant)

-- all legs
all_legs : (c : In_ok-push-2) → c.push-2.new.self.items ≡ legs_of c.args.points.now
all_legs c = rw (c.in_ok-push-2.ensures.items, c.leg_behind-2.ensures)
    (legs_last _ c.points.point _ c.points.next-index c.points.legs.items (legs_of c.args.points.now) (omega (arith, c.points-test.false)) c.points.invariant)

pub returns-clause-legs : goal.returns-clause-legs
returns-clause-legs c = all_legs (goal.at.returns-clause-legs c).In_ok-push-2

pub returns-clause-tile : goal.returns-clause-tile
returns-clause-tile c =
    subst (Tile 0) (sym (all_legs (goal.at.returns-clause-tile c).In_ok-push-2)) (legs_are c.args.points.now c.requires).0

pub returns-clause-sound : goal.returns-clause-sound
returns-clause-sound c =
    subst (All IsLeg) (sym (all_legs (goal.at.returns-clause-sound c).In_ok-push-2)) (legs_sound c.args.points.now c.requires)
