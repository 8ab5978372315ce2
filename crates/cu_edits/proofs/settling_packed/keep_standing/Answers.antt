use Rattle.std.proofs.Common.{◌≡◌, ◌<◌, ℕ, List, Option, Some, Result, Ok, Err, length, subst, sym}
use Rattle.std.specs.Prelude.{IfSome, OnErr, OnOk}
use Rattle.cu_arrival.specs.declared.runs.Run.{Run}
use Rattle.cu_interval.specs.declared.ways.Dir.{Dir}
use Rattle.cu_interval.specs.Hierarchies.{HierarchyValue, list_number}
use Rattle.cu_unpack.specs.RebuiltRuns.{IsRebuiltRuns, PackedValue, with_list}
use Rattle.cu_edits.specs.Learned.{ArePackedOf}
use Rattle.cu_edits.proofs.KeptFunctions.{put_packed}
use Rattle.cu_edits.proofs.settling_packed.keep_standing.Goals as goal

-- whether it was put or not
kept_put : {A E : Type 0} (h : HierarchyValue) (before after : PackedValue) (edge : ℕ) (dir : Dir) (function : List Run) (result : Result A E)
    → list_number edge dir < length before.known → list_number edge dir < length before.functions → OnOk result (after ≡ with_list before (list_number edge dir) (Some function))
    → OnErr result (after ≡ before) → ArePackedOf h before → IsRebuiltRuns h edge dir (Some function) → ArePackedOf h after
kept_put h before after edge dir function (Ok done) known functions put same are rebuilt =
    subst (ArePackedOf h) (sym put) (put_packed h before edge dir (Some function) known functions are rebuilt)
kept_put h before after edge dir function (Err refused) known functions put same are rebuilt = subst (ArePackedOf h) (sym same) are

pub returns-clause-packed : goal.returns-clause-packed
returns-clause-packed c h are told =
    kept_put h c.args.functions.now c.put.new.self c.args.edge c.args.dir c.in-Some.function c.put.result c.requires.known c.requires.functions c.put.ensures.put c.put.ensures.same are
    (subst (λ (o : Option (List Run)). IfSome o (λ function. IsRebuiltRuns h c.args.edge c.args.dir (Some function))) c.in-Some.is told)
