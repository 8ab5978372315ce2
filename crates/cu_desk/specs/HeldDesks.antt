-- A desk over a hierarchy that is held, built or not.
use Rattle.std.specs.Prelude.{ℕ, List, Option, None, ◌≡◌, length}
use Rattle.cu_model.specs.declared.roads.Edit.{Edit}
use Rattle.cu_interval.specs.Hierarchies.{HierarchyValue, IsBuilt, IsHierarchy}
use Rattle.cu_interval.specs.Resettling.{IsResettled}
use Rattle.cu_interval.specs.Touching.{NumbersTouched}
use Rattle.cu_router.specs.Answers.{IsHeldAnswer}
use Rattle.cu_session.specs.Scripts.{AreReplied, IsLineReply}
use Rattle.cu_desk.specs.DeskLines.{desk_asked_of}
use Rattle.cu_desk.specs.Machine.{DeskAsked, DeskState, IsDeskReply, Work}

-- the hierarchy that is published, and the edit in work
pub record HeldDesk : Type 0 where
  pub published : HierarchyValue
  pub work : Option Work

-- a desk with no edit in work
abbrev pub desk_over : HierarchyValue → HeldDesk
desk_over h = record { published = h; work = None }

abbrev pub state_of : HeldDesk → DeskState HierarchyValue
state_of desk = record { published = desk.published; work = desk.work }

-- an edit touches so many edges
abbrev pub TouchesHeld : HierarchyValue → Edit → ℕ → Type 0
TouchesHeld h edit count = (touched : List ℕ) × NumbersTouched h edit touched × (count ≡ length touched)

-- an edit is made: the hierarchy is resettled
pub record MakesHeld (h : HierarchyValue) (edit : Edit) (after : HierarchyValue) : Type 0 where
  pub resettled : IsResettled h edit after
  pub sound : IsHierarchy after
  pub built : IsBuilt h → IsBuilt after

-- the reply to what a line asks for, and the desk after it
abbrev pub IsHeldDeskReply : HeldDesk → DeskAsked → List ℕ → HeldDesk → Type 0
IsHeldDeskReply desk line reply after = IsDeskReply IsHeldAnswer TouchesHeld MakesHeld (state_of desk) line reply (state_of after)

-- the reply to the text of a line, and the desk after it
abbrev pub IsHeldDeskText : HeldDesk → List ℕ → List ℕ → HeldDesk → Type 0
IsHeldDeskText desk text reply after = IsHeldDeskReply desk (desk_asked_of desk.published.network text) reply after

-- one reply to each line, in order, each ended by a line feed, by the desk as it is at that line; and the desk after them all
abbrev pub AreHeldDeskReplies : HeldDesk → List (List ℕ) → List ℕ → HeldDesk → Type 0
AreHeldDeskReplies desk lines output now = AreReplied (IsLineReply IsHeldDeskText) desk lines output now

-- the replies of a desk over this hierarchy to these lines
abbrev pub IsHeldDeskOutput : HierarchyValue → List (List ℕ) → List ℕ → Type 0
IsHeldDeskOutput h lines output = (now : HeldDesk) × AreHeldDeskReplies (desk_over h) lines output now
