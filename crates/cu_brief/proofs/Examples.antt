-- By hand: two brief runs beside a base of 150 seconds. Until second 28740 it takes 160 seconds; from then on it arrives at second 36100, whenever it leaves.
use Rattle.std.proofs.Common.{◌≡◌, ◌+◌, ◌*◌, ◌^◌, [], ◌∷◌, refl}
use Rattle.cu_arrival.specs.declared.runs.RunRule.TheVariants.{Shift, Fixed}
use Rattle.cu_brief.specs.BriefRuns.{brief_value, run_of_brief}

shifts : run_of_brief 150 10 ≡ record { from = 0; rule = Shift 160 }
shifts = refl

waits : run_of_brief 150 (28740 * 2 ^ 15 + 2 ^ 14 + 7210) ≡ record { from = 28740; rule = Fixed 36100 }
waits = refl

early : brief_value 150 (10 ∷ (28740 * 2 ^ 15 + 2 ^ 14 + 7210) ∷ []) 600 ≡ 760
early = refl

late : brief_value 150 (10 ∷ (28740 * 2 ^ 15 + 2 ^ 14 + 7210) ∷ []) 30000 ≡ 36100
late = refl

next_day : brief_value 150 (10 ∷ (28740 * 2 ^ 15 + 2 ^ 14 + 7210) ∷ []) 116400 ≡ 122500
next_day = refl
