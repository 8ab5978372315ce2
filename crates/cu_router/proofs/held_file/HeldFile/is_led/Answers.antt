use Rattle.std.proofs.Common.{subst}
use Rattle.cu_pack.specs.Checks.{sealed}
use Rattle.cu_pack.specs.Reading.{decoded}
use Rattle.cu_short.specs.Shortness.{NeverLong}
use Rattle.cu_short.proofs.Turns.{counted_never_long}
use Rattle.cu_router.specs.Steps.Holding.{IsKnown}
use Rattle.cu_sweep.proofs.Answering.{built_never_long}
use Rattle.cu_router.proofs.held_file.HeldFile.is_led.Goals as goal

pub returns-in-Built : goal.returns-in-Built
returns-in-Built c = λ _.
    (let h = decoded (sealed c.self.inside.bytes.items) in
    subst NeverLong c.self.view_is (built_never_long h (subst (IsKnown h) c.in-Built.is c.self.invariant.1)))

pub returns-in-Short : goal.returns-in-Short
returns-in-Short c = λ _.
    (let h = decoded (sealed c.self.inside.bytes.items) in
    subst NeverLong c.self.view_is
    (counted_never_long h c.self.invariant.0.spelled.sound c.in-Short.field-0 (subst (IsKnown h) c.in-Short.is c.self.invariant.1)))
