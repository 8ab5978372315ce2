-- `desk HIERARCHY OUT`: many clients' queries over a packed file, answered while one of their edits is in work, and the packed file after
-- the edits stored.
use Rattle.std.specs.Prelude.{ℕ, List, [], ◌∷◌, ◌≡◌, ◌<◌, ◌⊎◌, Some, true, codes, length}
use Rattle.cu_io.specs.Lines.{lines_of}
use Rattle.cu_io.specs.Shelves.{ShelfState}
use Rattle.cu_model.specs.Networks.{NetworkValue}
use Rattle.cu_interval.specs.Hierarchies.{HierarchyValue, IsBuilt}
use Rattle.cu_pack.specs.Spelling.{spelling}
use Rattle.cu_session.specs.declared.stops.SessionStop.{SessionStop}
use Rattle.cu_session.specs.Sessions.{AnswersBy, take_limit}
use Rattle.cu_desk.specs.HeldDesks.{AreHeldDeskReplies, HeldDesk, IsHeldDeskOutput, desk_over}
use Rattle.cu_desk.specs.Machine.{DeskState}
use Rattle.cu_desk.specs.NetworkDesks.{AreDeskReplies, IsDeskOutput, network_desk}
use Rattle.cu_cli.specs.declared.stops.Stop.{Stop}
use Rattle.cu_cli.specs.Endings.{Ending, EndsPacking, IsTooLarge, StopsBefore, ending_of, packed_file}
use Rattle.cu_cli.specs.Meanings.{Meaning, no_command}
use Rattle.cu_cli.specs.Opening.{IsOpenable, Opens, StopsOpening}
use Rattle.cu_cli.specs.Stops.{numbers_text}
use Rattle.cu_cli.specs.Words.{hierarchy_file}

-- the replies are those of a desk over the network of a built hierarchy, and what is published at their end is the built hierarchy of the
-- network that this desk has published
pub record IsPublished (h : HierarchyValue) (lines : List (List ℕ)) (replies : List ℕ) (last : HierarchyValue) : Type 0 where
  pub desk : DeskState NetworkValue
  pub answered : AreDeskReplies h.order (network_desk h.network) lines replies desk
  pub built : IsBuilt last
  pub network : last.network ≡ desk.published
  pub order : last.order ≡ h.order

-- all lines are answered by a desk, and behind their replies the packed file of what it has published is stored and said
pub record EndsDeskWhole (out : List ℕ) (h : HierarchyValue) (before now : ShelfState) (work : Ending) : Type 0 where
  pub desk : HeldDesk
  pub replies : List ℕ
  pub few : length work.taken < take_limit
  pub answered : AreHeldDeskReplies (desk_over h) (lines_of work.taken) replies desk
  pub legal : IsBuilt h → IsPublished h (lines_of work.taken) replies desk.published
  pub packed : EndsPacking before now replies (packed_file out desk.published)
      (numbers_text (codes "stored") (length (spelling desk.published) ∷ [])) (record work { taken = [] })

-- the source or the sink failed, or memory ran out before the first line: some first lines are answered, and nothing is stored
abbrev pub EndsDeskEarly : HierarchyValue → Ending → Type 0
EndsDeskEarly h work =
    (end : SessionStop) × (work.stop ≡ ending_of (Some end)) × AnswersBy (IsHeldDeskOutput h) (Some end) work.taken work.output
    × (IsBuilt h → AnswersBy (IsDeskOutput h.network h.order) (Some end) work.taken work.output) × (work.stored ≡ [])

-- the lines of the source are answered by a desk over the loaded hierarchy; or the load or a check stopped it
abbrev pub EndsDesk : (hierarchy out : List ℕ) → ShelfState → ShelfState → Ending → Type 0
EndsDesk hierarchy out before now work =
    ((h : HierarchyValue) × Opens before (hierarchy_file hierarchy ∷ []) h [] × (EndsDeskWhole out h before now work ⊎ EndsDeskEarly h work))
    ⊎ ((why : Stop) × StopsOpening before now (hierarchy_file hierarchy ∷ []) why × StopsBefore why work)

unfoldable pub serving_desk : (hierarchy out : List ℕ) → Meaning
serving_desk hierarchy out =
    record { ends = EndsDesk hierarchy out; script = true; can = IsOpenable (hierarchy_file hierarchy ∷ []); stops = IsTooLarge }

-- what the words behind `desk` ask for
abbrev pub desk_of : List (List ℕ) → Meaning
desk_of (hierarchy ∷ out ∷ []) = serving_desk hierarchy out
desk_of _ = no_command
