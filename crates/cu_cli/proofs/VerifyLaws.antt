-- What a comparison with the built hierarchy makes of a run.
use Rattle.std.proofs.Common.{◌≡◌, ℕ, List, ◌∷◌, ◌∙◌, [], inl, inr, false, sym}
use Rattle.std.specs.Prelude.{Some, None, Ok, Err, codes}
use Rattle.cu_io.specs.Shelves.{ShelfState}
use Rattle.cu_io.specs.Sinks.{SinkState, WroteLine}
use Rattle.cu_io.specs.Sources.{SourceState}
use Rattle.cu_interval.specs.Hierarchies.{HierarchyValue, IsBuilt}
use Rattle.cu_cli.specs.declared.stops.Difference.{Difference}
use Rattle.cu_cli.specs.declared.stops.Stop.{Stop}
use Rattle.cu_cli.specs.declared.stops.Stop.TheVariants as stop
use Rattle.cu_cli.specs.Commands.Verify.{EndsVerify, IsDifference, verifying}
use Rattle.cu_cli.specs.Opening.{Opens, StopsOpening}
use Rattle.cu_cli.specs.Steps.Loading.{OnlyLoads}
use Rattle.cu_cli.specs.Steps.Outcomes.{Did, IsBeforeScript, world_of}
use Rattle.cu_cli.specs.Words.{hierarchy_file}
use Rattle.cu_cli.proofs.Completeness.{IsComplete, opening_stops}
use Rattle.cu_cli.proofs.LoadLaws.{only_refused}
use Rattle.cu_cli.proofs.StoreLaws.{said_alone, unsaid_alone}
use Rattle.cu_cli.proofs.WorkLaws.{stopped_before}

-- where nothing fails, what stops a comparison is want of memory, or a hierarchy that isn't the built one
pub verify_law : (name : List ℕ) → IsComplete (verifying name)
unfolding verifying
verify_law name a b work why can fine is (inl (h, opens, inl (built, inl (none, said), taken, stored))) = absurd (cc (none, is))
verify_law name a b work why can fine is (inl (h, opens, inl (built, inr (failed, front), taken, stored))) = absurd (fine.sink failed)
verify_law name a b work why can fine is (inl (h, opens, inr (inl (found, differs, before)))) = inr (found, cc (before.0, is))
verify_law name a b work why can fine is (inl (h, opens, inr (inr before))) = inl (cc (before.0, is))
verify_law name a b work why can fine is (inr (other, stops, before)) =
    let same : other ≡ why = cc (before.0, is) in
    inl (sym same ∙ opening_stops a b (hierarchy_file name ∷ []) other can fine.loads stops)

module _ (a b : ShelfState) (s : SourceState) (k : SinkState) (name : List ℕ) where
  -- the opening of a packed file that was to be compared was stopped
  pub comparing_stopped : (why : Stop) → OnlyLoads (Some why) a b → StopsOpening a b (hierarchy_file name ∷ []) why
      → IsBeforeScript why → Did false (Some why) (EndsVerify name) (world_of a s k) (world_of b s k)
  comparing_stopped why loads stops before = stopped_before a b s k (EndsVerify name) why loads before (λ work ends. inr (why, stops, ends))

  module _ (h : HierarchyValue) (loads : OnlyLoads None a b) (opens : Opens a (hierarchy_file name ∷ []) h []) where
    -- and so was its comparison
    pub verdict_stopped : Did false (Some stop.NoMemory) (EndsVerify name) (world_of a s k) (world_of b s k)
    verdict_stopped =
        stopped_before a b s k (EndsVerify name) stop.NoMemory (only_refused stop.NoMemory tt loads) tt (λ work ends. inl (h, opens, inr (inr ends)))

    -- its hierarchy isn't the built one
    pub differs : (found : Difference) → IsDifference h found → Did false (Some (stop.Differs found)) (EndsVerify name) (world_of a s k) (world_of b s k)
    differs found is =
        stopped_before a b s k (EndsVerify name) (stop.Differs found) (only_refused (stop.Differs found) tt loads) tt
        (λ work ends. inl (h, opens, inr (inl (found, is, ends))))

    -- it is, and that was said
    pub same_said : {S E : Type 0} {y : S} (now : SinkState) → IsBuilt h → WroteLine {T = S} {E = E} k now (Ok y) (codes "same")
        → Did false None (EndsVerify name) (world_of a s k) (world_of b s now)
    same_said now built line = said_alone {Ends = EndsVerify name} s loads line (λ work done. inl (h, opens, inl (built, done.0, done.1, done.2)))

    -- it is, and the sink failed
    pub same_unsaid : {S E : Type 0} {e : E} (now : SinkState) → IsBuilt h → WroteLine {T = S} {E = E} k now (Err e) (codes "same")
        → Did false (Some stop.Sink) (EndsVerify name) (world_of a s k) (world_of b s now)
    same_unsaid now built line = unsaid_alone {Ends = EndsVerify name} s loads line (λ work done. inl (h, opens, inl (built, done.0, done.1, done.2)))
