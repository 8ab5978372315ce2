-- What is answered by a hierarchy that is held, built or not, and what an edit makes of it.
use Rattle.std.specs.Prelude.{ℕ, List, ◌++◌, ◌≡◌, ◌⊎◌, codes, decimal, length}
use Rattle.cu_model.specs.declared.roads.Edit.{Edit}
use Rattle.cu_interval.specs.Hierarchies.{HierarchyValue, IsBuilt, IsHierarchy}
use Rattle.cu_interval.specs.Resettling.{IsResettled}
use Rattle.cu_script.specs.EditLines.{edit_of}
use Rattle.cu_session.specs.Questions.{Asked, Asks, AsksEdit, Fails, MayLack, Question, asked_by_edit, asked_of}
use Rattle.cu_session.specs.Replies.{Touches}
use Rattle.cu_session.specs.Scripts.{AreReplied, IsLineReply}

-- a question is answered by the hierarchy, and where that is built, rightly over its network
abbrev pub IsHeldAnswerTo : HierarchyValue → Question → List ℕ → Type 0
IsHeldAnswerTo h question reply = question.held h reply × (IsBuilt h → question.right h.network h.order reply)

-- an edit is made: the reply counts the touched edges, and the hierarchy is resettled
pub record IsHeldDone (h : HierarchyValue) (edit : Edit) (reply : List ℕ) (after : HierarchyValue) : Type 0 where
  pub count : ℕ
  pub touches : Touches h.network h.order edit count
  pub said : reply ≡ codes "done " ++ decimal count
  pub resettled : IsResettled h edit after
  pub sound : IsHierarchy after
  pub built : IsBuilt h → IsBuilt after

-- an edit's reply: it is made, or there was no memory for it, and nothing has changed
abbrev pub IsHeldEditReply : HierarchyValue → Edit → List ℕ → HierarchyValue → Type 0
IsHeldEditReply h edit reply after = IsHeldDone h edit reply after ⊎ ((reply ≡ codes "no memory") × (after ≡ h))

-- the reply to what a line asks for, and the hierarchy after it
abbrev pub IsHeldReplyTo : HierarchyValue → Asked → List ℕ → HierarchyValue → Type 0
IsHeldReplyTo h (Asks question) reply after = MayLack question.may_lack reply (IsHeldAnswerTo h question reply) × (after ≡ h)
IsHeldReplyTo h (AsksEdit edit) reply after = IsHeldEditReply h edit reply after
IsHeldReplyTo h (Fails words) reply after = (reply ≡ codes "refused: " ++ words) × (after ≡ h)

-- the reply to the text of a line, and the hierarchy after it
abbrev pub IsTextReply : HierarchyValue → List ℕ → List ℕ → HierarchyValue → Type 0
IsTextReply h text reply after = IsHeldReplyTo h (asked_of h.network text) reply after

-- the reply to a line of the script, without the line feed that ends it, and the hierarchy after it
abbrev pub IsHeldReply : HierarchyValue → List ℕ → List ℕ → HierarchyValue → Type 0
IsHeldReply h line reply after = IsLineReply IsTextReply h line reply after

-- one reply to each line, in order, each ended by a line feed, by the hierarchy as it is at that line; and the one after them all
abbrev pub AreHeldReplies : HierarchyValue → List (List ℕ) → List ℕ → HierarchyValue → Type 0
AreHeldReplies h lines output now = AreReplied IsHeldReply h lines output now

-- the replies to these lines
abbrev pub IsHeldOutput : HierarchyValue → List (List ℕ) → List ℕ → Type 0
IsHeldOutput h lines output = (now : HierarchyValue) × AreHeldReplies h lines output now

-- The reply to what a line of edits asks for, and the hierarchy after it. No line of edits is a question, and none is left undone for
-- want of memory.
abbrev pub IsDoneReplyTo : HierarchyValue → Asked → List ℕ → HierarchyValue → Type 0
IsDoneReplyTo h (Asks question) reply after = ⊥
IsDoneReplyTo h (AsksEdit edit) reply after = IsHeldDone h edit reply after
IsDoneReplyTo h (Fails words) reply after = (reply ≡ codes "refused: " ++ words) × (after ≡ h)

-- what the text of a line of edits asks for; a question is no edit, and so is refused
abbrev pub edit_asked_of : HierarchyValue → List ℕ → Asked
edit_asked_of h text = asked_by_edit (edit_of (length h.network.arcs) (length h.network.profiles) text)

-- the reply to a line of edits
abbrev pub IsDoneReply : HierarchyValue → List ℕ → List ℕ → HierarchyValue → Type 0
IsDoneReply h line reply after = IsLineReply (λ held text. IsDoneReplyTo held (edit_asked_of held text)) h line reply after

-- one reply to each line of edits, in order, each ended by a line feed; and the hierarchy after them all
abbrev pub AreDone : HierarchyValue → List (List ℕ) → List ℕ → HierarchyValue → Type 0
AreDone h lines output now = AreReplied IsDoneReply h lines output now
