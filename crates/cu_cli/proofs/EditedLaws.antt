-- Edits of a packed file made, and the file after them stored.
use Rattle.std.proofs.Common.{◌≡◌, ◌<◌, ◌≤◌, ◌⊎◌, ◌∷◌, ◌∙◌, [], ℕ, List, length, refl, inl, inr, false, sym}
use Rattle.std.specs.Prelude.{Option, Some, None, codes}
use Rattle.cu_io.specs.Shelves.{ShelfState}
use Rattle.cu_io.specs.Sinks.{SinkState}
use Rattle.cu_io.specs.Sources.{SourceState}
use Rattle.cu_io.proofs.Taking.{takes_nothing}
use Rattle.cu_interval.specs.Hierarchies.{HierarchyValue}
use Rattle.cu_pack.specs.Spelling.{spelling}
use Rattle.cu_session.specs.declared.stops.SessionStop.{SessionStop}
use Rattle.cu_session.specs.declared.stops.SessionStop.TheVariants as session
use Rattle.cu_session.specs.Sessions.{EndsEdits}
use Rattle.cu_session.proofs.Legal.{done_built}
use Rattle.cu_cli.specs.declared.stops.Stop.{Stop}
use Rattle.cu_cli.specs.declared.stops.Stop.TheVariants as stop
use Rattle.cu_cli.specs.Commands.Edit.{EndsEdit, EndsEditing, editing}
use Rattle.cu_cli.specs.Endings.{IsTooLarge, ending_of, packed_file}
use Rattle.cu_cli.specs.Opening.{Opens, StopsOpening}
use Rattle.cu_cli.specs.Stops.{numbers_text}
use Rattle.cu_cli.specs.Words.{editing_files}
use Rattle.cu_cli.specs.Steps.Loading.{OnlyLoads}
use Rattle.cu_cli.specs.Steps.Outcomes.{Did, IsBeforeScript, world_of}
use Rattle.cu_cli.proofs.Completeness.{IsComplete, opening_stops, packing_stops}
use Rattle.cu_cli.proofs.LoadLaws.{only_refused}
use Rattle.cu_cli.proofs.StoreLaws.{Storing}
use Rattle.cu_cli.proofs.WorkLaws.{Behind, ends_so, leaves_behind, stopped_before, stopped_behind}

-- where nothing fails, what stops edits is want of memory, or a file that is too large
pub edit_law : (hierarchy edits out : List ℕ) → IsComplete (editing hierarchy edits out)
unfolding editing
edit_law hierarchy edits out a b work why can fine is ends = by ends
  where
    made : (h : HierarchyValue) (text : List ℕ) → EndsEditing out h text a b work → (why ≡ stop.NoMemory) ⊎ IsTooLarge why
    made h text (inl (after, replies, done, built, packing)) =
        packing_stops a b replies (packed_file out after) (numbers_text (codes "stored") (length (spelling after) ∷ [])) why work fine is packing
    made h text (inr (inl (n, after, done, behind))) = inl (cc (behind.0, is))
    made h text (inr (inr (n, after, replies, done, front, behind))) = absurd (fine.sink behind.0)

    by : EndsEdit hierarchy edits out a b work → (why ≡ stop.NoMemory) ⊎ IsTooLarge why
    by (inl (h, text, opens, edited)) = made h text edited
    by (inr (other, stops, before)) =
        let same : other ≡ why = cc (before.0, is) in
        inl (sym same ∙ opening_stops a b (editing_files hierarchy edits) other can fine.loads stops)

module _ (a b : ShelfState) (s : SourceState) (k : SinkState) (hierarchy edits out : List ℕ) where
  -- the opening was stopped
  pub edit_stopped : (why : Stop) → OnlyLoads (Some why) a b → StopsOpening a b (editing_files hierarchy edits) why → IsBeforeScript why
      → Did false (Some why) (EndsEdit hierarchy edits out) (world_of a s k) (world_of b s k)
  edit_stopped why loads stops before = stopped_before a b s k (EndsEdit hierarchy edits out) why loads before (λ work ends. inr (why, stops, ends))

  module _ (mid : SinkState) (h after : HierarchyValue) (text : List ℕ) (loads : OnlyLoads None a b) (opens : Opens a (editing_files hierarchy edits) h (text ∷ [])) where
    -- the edits were stopped
    pub edits_stopped : (end : SessionStop) → EndsEdits h after text (Some end) k mid
        → Did false (ending_of (Some end)) (EndsEdit hierarchy edits out) (world_of a s k) (world_of b s mid)
    edits_stopped session.NoMemory done =
        let (n, made) = done.done in
        record {
          work = record { stop = Some stop.NoMemory; taken = []; output = done.output; stored = [] };
          stop = refl;
          ended = inl (h, text, opens, inr (inl (n, after, made, (refl, refl, refl, refl))));
          reads = refl;
          moves = (takes_nothing s.left, done.appends);
          stores = loads.held;
          leaves = leaves_behind false stop.NoMemory s {replies = done.output} (record {
            appends = done.appends;
            flushed = done.flushed (λ e. cc e);
            quiet = done.quiet (λ e. cc e);
            later = done.later;
            rises = done.rises;
          }) tt;
          faults = loads.faults;
        }
    edits_stopped session.Sink done =
        let (n, replies, made, front) = done.done in
        record {
          work = record { stop = Some stop.Sink; taken = []; output = done.output; stored = [] };
          stop = refl;
          ended = inl (h, text, opens, inr (inr (n, after, replies, made, front, (refl, refl, refl, refl))));
          reads = refl;
          moves = (takes_nothing s.left, done.appends);
          stores = loads.held;
          leaves = record {
            whole = λ script. absurd (cc script);
            flushed = λ other. absurd (other refl);
            source_fault = λ seven. absurd (cc seven);
            source_quiet = λ _. refl;
            sink_fault = λ _. done.sink_fault refl;
            sink_quiet = λ other. absurd (other refl);
            later = done.later;
            rises = done.rises;
          };
          faults = loads.faults;
        }
    edits_stopped session.Source done = absurd done.done
    edits_stopped session.TakeLimit done = absurd done.done

    module _ (done : EndsEdits h after text None k mid) where
      pub behind_edits : Behind k mid done.output
      behind_edits = record { appends = done.appends; flushed = done.flushed (λ e. cc e); quiet = done.quiet (λ e. cc e); later = done.later; rises = done.rises }

      -- all edits were made, and the file after them has too many bytes
      pub edits_large : a.most < length (spelling after)
          → Did false (Some (stop.TooLarge (length (spelling after)))) (EndsEdit hierarchy edits out) (world_of a s k) (world_of b s mid)
      edits_large large =
          stopped_behind a b s done.output (EndsEdit hierarchy edits out) (stop.TooLarge (length (spelling after))) behind_edits
          (only_refused (stop.TooLarge (length (spelling after))) tt loads) tt
          (λ work ends. inl (h, text, opens, inl (after, done.output, done.done, done_built h after _ done.output done.done, inr (large, ends))))

      -- or few enough, and its storing ended
      pub edits_stored : {c : ShelfState} {why : Option Stop} {now : SinkState} → length (spelling after) ≤ a.most
          → Did false why (Storing done.output (packed_file out after ∷ []) (numbers_text (codes "stored") (length (spelling after) ∷ []))) (world_of a s k) (world_of c s now)
          → Did false why (EndsEdit hierarchy edits out) (world_of a s k) (world_of c s now)
      edits_stored few stored = ends_so (λ work ends. inl (h, text, opens, inl (after, done.output, done.done, done_built h after _ done.output done.done, inl (few, ends)))) stored
