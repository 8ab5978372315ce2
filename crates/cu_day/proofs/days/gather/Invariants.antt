-- The arcs from so many higher neighbours were taken.
use Rattle.std.proofs.Common.{◌≡◌, ◌+◌, ◌++◌, map, take}
use Rattle.std.specs.List.{range_with_len}
use Rattle.cu_interval.specs.declared.ways.Dir.TheVariants.{Down}
use Rattle.cu_chordal.specs.Graphs.{first_edge_of, up_of}
use Rattle.cu_day.specs.Steps.Ranks.{GathersFrom}
use Rattle.cu_day.specs.Steps.Sweeping.{Always}
use Rattle.cu_sweep.specs.LedCalls.{arc_by}
use Rattle.cu_day.proofs.days.gather.Given as goal

abbrev pub invariant-edges : goal.invariant-edges
invariant-edges g l =
    let h = g.F.DayFunctions.hierarchy l.fn.functions in
    (g.F.DayFunctions.hierarchy l.functions ≡ h) × (l.highers ≡ up_of h.edges l.fn.rank)
    × (l.edge ≡ first_edge_of h.edges l.fn.rank + l.higher-index)
    × GathersFrom Always h l.fn.rank (take l.higher-index l.highers) l.fn.labels.items l.labels.items
    × (g.F.DayFunctions.calls l.functions ≡ g.F.DayFunctions.calls l.fn.functions ++ map (arc_by Down)
    (range_with_len (first_edge_of h.edges l.fn.rank) l.higher-index))
