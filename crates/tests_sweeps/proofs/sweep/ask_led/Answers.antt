use Rattle.std.proofs.Common.{sym, subst}
use Rattle.cu_short.specs.Shortness.{NeverLong}
use Rattle.tests_sweeps.proofs.sweep.ask_led.Goals as goal

pub led_query-found-requires-clause-short : goal.led_query-found-requires-clause-short
led_query-found-requires-clause-short c = subst NeverLong (sym c.new-unpacker.ensures) (c.in_ok-never_long.ensures c.if-never_long.true)
