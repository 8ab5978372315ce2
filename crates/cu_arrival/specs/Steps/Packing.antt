-- How a run is kept: its rule's number doubled, and one more where the rule is fixed.
use Rattle.std.specs.Prelude.{ℕ, ◌/◌, ◌%◌, ◌==◌, if◌then◌else◌}
use Rattle.cu_arrival.specs.declared.runs.Run.{Run}
use Rattle.cu_arrival.specs.declared.runs.RunRule.{RunRule}
use Rattle.cu_arrival.specs.declared.runs.RunRule.TheVariants.{Shift, Fixed}
use Rattle.cu_arrival.specs.declared.packing.KeptRun.{KeptRun}

abbrev pub unpacked_rule : ℕ → RunRule
unpacked_rule bits = if bits % 2 == 0 then Shift (bits / 2) else Fixed (bits / 2)

-- the run that is kept
abbrev pub unpacked : KeptRun → Run
unpacked kept = record { from = kept.from; rule = unpacked_rule kept.bits }
