-- The lines of a desk answered, and the packed file of what it published stored.
use Rattle.std.proofs.Common.{◌≡◌, ◌<◌, ◌≤◌, ◌⊎◌, ◌∙◌, ◌∷◌, [], ℕ, List, length, refl, sym, subst, arith, inl, inr, true, false}
use Rattle.std.specs.Prelude.{Option, Some, None, codes}
use Rattle.cu_io.specs.Lines.{lines_of}
use Rattle.cu_io.specs.Shelves.{ShelfState}
use Rattle.cu_io.specs.Sinks.{SinkState}
use Rattle.cu_io.specs.Sources.{SourceState}
use Rattle.cu_interval.specs.Hierarchies.{HierarchyValue, IsBuilt}
use Rattle.cu_pack.specs.Spelling.{spelling}
use Rattle.cu_session.specs.declared.stops.SessionStop.{SessionStop}
use Rattle.cu_session.specs.Sessions.{AnswersBy, EndsLines, Leaves}
use Rattle.cu_session.proofs.Legal.{answers_so}
use Rattle.cu_desk.specs.HeldDesks.{HeldDesk, IsHeldDeskOutput, IsHeldDeskText, desk_over}
use Rattle.cu_desk.specs.NetworkDesks.{IsDeskOutput}
use Rattle.cu_desk.proofs.NetworkRuns.{legal_desk, replies_follow}
use Rattle.cu_cli.specs.declared.stops.Stop.{Stop}
use Rattle.cu_cli.specs.declared.stops.Stop.TheVariants as stop
use Rattle.cu_cli.specs.Commands.Desk.{EndsDesk, IsPublished, serving_desk}
use Rattle.cu_cli.specs.Endings.{Ending, EndsPacking, IsTooLarge, ending_of, packed_file}
use Rattle.cu_cli.specs.Opening.{Opens, StopsOpening}
use Rattle.cu_cli.specs.Stops.{numbers_text}
use Rattle.cu_cli.specs.Storing.{FileMade}
use Rattle.cu_cli.specs.Words.{hierarchy_file}
use Rattle.cu_cli.specs.Steps.Loading.{OnlyLoads}
use Rattle.cu_cli.specs.Steps.Outcomes.{Did, IsBeforeScript, world_of}
use Rattle.cu_cli.proofs.Completeness.{Fine, IsComplete, answers_stop, opening_stops, packing_stops}
use Rattle.cu_cli.proofs.LoadLaws.{only_refused}
use Rattle.cu_cli.proofs.ReadLaws.{packing_stops_so, opening_unread, reads_behind, reads_script}
use Rattle.cu_cli.proofs.StoreLaws.{Storing}
use Rattle.cu_cli.proofs.WorkLaws.{Behind, counts_script, ends_so, script_unread, status_same, stopped_behind}

-- what is said of the packed file that is stored
abbrev pub stored_text : HierarchyValue → List ℕ
stored_text h = numbers_text (codes "stored") (length (spelling h) ∷ [])

-- work that met no fault meets none where nothing is taken
untaken : {a b : ShelfState} {work : Ending} → Fine a b work → Fine a b (record work { taken = [] })
untaken fine = record { loads = fine.loads; stores = fine.stores; source = fine.source; sink = fine.sink; few = omega arith }

-- where nothing fails, what stops a desk is want of memory, or a file that is too large
pub desk_law : (hierarchy out : List ℕ) → IsComplete (serving_desk hierarchy out)
unfolding serving_desk
desk_law hierarchy out a b work why can fine is ends = by ends
  where
    by : EndsDesk hierarchy out a b work → (why ≡ stop.NoMemory) ⊎ IsTooLarge why
    by (inl (h, opens, inl whole)) =
        packing_stops a b whole.replies (packed_file out whole.desk.published) (stored_text whole.desk.published) why (record work { taken = [] }) (untaken fine) is whole.packed
    by (inl (h, opens, inr (end, ended, answers, legal, stored))) = inl (answers_stop (IsHeldDeskOutput h) work why fine is (Some end, ended, answers, stored))
    by (inr (other, stops, before)) =
        let same : other ≡ why = cc (before.0, is) in
        inl (sym same ∙ opening_stops a b (hierarchy_file hierarchy ∷ []) other can fine.loads stops)

-- a packed file that was stored, or is too large, behind work that took nothing
abbrev pub Packing : List ℕ → FileMade → List ℕ → ShelfState → ShelfState → Ending → Type 0
Packing replies file text a b work = EndsPacking a b replies file text work

-- it is so whatever the work took before
retaken : (a b : ShelfState) (replies : List ℕ) (file : FileMade) (text taken : List ℕ) (work : Ending) → EndsPacking a b replies file text work
    → EndsPacking a b replies file text (record (record work { taken = taken }) { taken = [] })
retaken a b replies file text taken work (inl (few, (nil, rest))) = inl (few, (refl, rest))
retaken a b replies file text taken work (inr (large, (is, nil, output, stored))) = inr (large, (is, refl, output, stored))

-- the opening was stopped
module _ (a b : ShelfState) (s : SourceState) (k : SinkState) (hierarchy out : List ℕ) where
  pub desk_stopped : (why : Stop) → OnlyLoads (Some why) a b → StopsOpening a b (hierarchy_file hierarchy ∷ []) why → IsBeforeScript why
      → Did true (Some why) (EndsDesk hierarchy out) (world_of a s k) (world_of b s k)
  desk_stopped why loads stops before = script_unread a b s k (EndsDesk hierarchy out) why loads before (opening_unread a b hierarchy why stops) (λ work ends. inr (why, stops, ends))

module _ (a b : ShelfState) (s t : SourceState) (k mid : SinkState) (hierarchy out : List ℕ) where
  module _ (h : HierarchyValue) (desk : HeldDesk) (loads : OnlyLoads None a b) (opens : Opens a (hierarchy_file hierarchy ∷ []) h []) where
    -- the lines weren't answered to their end
    pub desk_early : (end : SessionStop) → EndsLines IsHeldDeskText (desk_over h) desk (Some end) s t k mid
        → Did true (ending_of (Some end)) (EndsDesk hierarchy out) (world_of a s k) (world_of b t mid)
    desk_early end done = record {
      work = record { stop = ending_of (Some end); taken = done.taken; output = done.output; stored = [] };
      stop = refl;
      ended = inl (h, opens, inr (end, refl, done.answered, (λ built. legal built), refl));
      reads = reads_script (Some end) (IsHeldDeskOutput h) s t k mid done.taken done.output done.answered done.leaves;
      moves = (done.takes, done.appends);
      stores = loads.held;
      leaves = subst (λ (status : ℕ). Leaves true status s t k mid) (status_same (Some end)) done.leaves;
      faults = counts_script a b (Some end) loads.faults;
    }
      where
        legal : IsBuilt h → AnswersBy (IsDeskOutput h.network h.order) (Some end) done.taken done.output
        legal built = answers_so (IsHeldDeskOutput h) (IsDeskOutput h.network h.order) (legal_desk h built) (Some end) done.taken done.output done.answered

    module _ (done : EndsLines IsHeldDeskText (desk_over h) desk None s t k mid) where
      -- the replies to all lines
      pub behind_lines : Behind k mid done.output
      behind_lines =
          record { appends = done.appends; flushed = done.leaves.flushed (λ e. cc e); quiet = done.leaves.sink_quiet (λ e. cc e); later = done.leaves.later; rises = done.leaves.rises }

      published : IsBuilt h → IsPublished h (lines_of done.taken) done.output desk.published
      published built =
          let (last, answered, ((network, still, order), work)) = replies_follow h.order h built refl (lines_of done.taken) done.output desk (done.whole refl) in
          record { desk = last; answered = answered; built = still; network = sym network; order = order }

      -- behind them the packed file was stored, or not
      scripted : {c : ShelfState} {why : Option Stop} {now : SinkState}
          → Did false why (Packing done.output (packed_file out desk.published) (stored_text desk.published)) (world_of a t k) (world_of c t now)
          → Did true why (EndsDesk hierarchy out) (world_of a s k) (world_of c t now)
      scripted {c = c} packed = record {
        work = record packed.work { taken = done.taken };
        stop = packed.stop;
        ended = inl (
          h,
          opens,
          inl (record {
            desk = desk;
            replies = done.output;
            few = done.answered.0;
            answered = done.whole refl;
            legal = published;
            packed = retaken a c done.output (packed_file out desk.published) (stored_text desk.published) done.taken packed.work packed.ended;
          }),
        );
        reads = reads_behind s t (record packed.work { taken = done.taken }) packed.work.stop (done.leaves.whole refl refl)
            (packing_stops_so a c done.output (packed_file out desk.published) (stored_text desk.published) packed.work refl packed.ended);
        moves = (done.takes, packed.moves.1);
        stores = packed.stores;
        leaves = record {
          whole = λ _ zero. done.leaves.whole refl refl;
          flushed = packed.leaves.flushed;
          source_fault = λ seven. omega (arith, packed.leaves.source_fault seven, done.leaves.source_quiet (λ e. cc e));
          source_quiet = λ _. done.leaves.source_quiet (λ e. cc e);
          sink_fault = packed.leaves.sink_fault;
          sink_quiet = packed.leaves.sink_quiet;
          later = packed.leaves.later;
          rises = packed.leaves.rises;
        };
        faults = packed.faults;
      }

      -- the file has too many bytes
      pub desk_large : a.most < length (spelling desk.published)
          → Did true (Some (stop.TooLarge (length (spelling desk.published)))) (EndsDesk hierarchy out) (world_of a s k) (world_of b t mid)
      desk_large large =
          scripted
          (stopped_behind a b t done.output (Packing done.output (packed_file out desk.published) (stored_text desk.published)) (stop.TooLarge (length (spelling desk.published)))
          behind_lines (only_refused (stop.TooLarge (length (spelling desk.published))) tt loads) tt (λ work ends. inr (large, ends)))

      -- or few enough, and its storing ended
      pub desk_stored : {c : ShelfState} {why : Option Stop} {now : SinkState} → length (spelling desk.published) ≤ a.most
          → Did false why (Storing done.output (packed_file out desk.published ∷ []) (stored_text desk.published)) (world_of a t k) (world_of c t now)
          → Did true why (EndsDesk hierarchy out) (world_of a s k) (world_of c t now)
      desk_stored few stored = scripted (ends_so (λ work ends. inl (few, ends)) stored)
