-- Which replies are right, and the network after each of them.
use Rattle.std.specs.Prelude.{ℕ, List, ◌++◌, ◌≡◌, ◌⊎◌, ◌↔◌, Some, codes, decimal, length, slice_get}
use Rattle.std.specs.List.{Contains}
use Rattle.std.specs.List.Sorted.{IsStrictlyIncreasing}
use Rattle.cu_model.specs.declared.roads.Edit.{Edit}
use Rattle.cu_model.specs.Edits.{edited}
use Rattle.cu_model.specs.Networks.{NetworkValue}
use Rattle.cu_model.specs.Orders.{OrderValue}
use Rattle.cu_chordal.specs.declared.graph.Ends.{Ends}
use Rattle.cu_chordal.specs.Edges.{ListsEdges}
use Rattle.cu_interval.specs.Touching.{IsTouched}
use Rattle.cu_session.specs.Questions.{Asked, Asks, AsksEdit, Fails, MayLack, asked_of}
use Rattle.cu_session.specs.Scripts.{AreReplied, IsLineReply}

-- how many of the chordal edges an edit touches
pub record Touches (g : NetworkValue) (order : OrderValue) (edit : Edit) (count : ℕ) : Type 0 where
  pub edges : List Ends
  pub listed : ListsEdges g order edges
  pub touched : List ℕ
  pub rising : IsStrictlyIncreasing touched
  pub exact : (number : ℕ) → Contains touched number ↔ ((ends : Ends) × (slice_get edges number ≡ Some ends) × IsTouched g order edit ends.low ends.high)
  pub counted : count ≡ length touched

-- an edit is made: the reply counts the touched edges
abbrev pub IsDone : NetworkValue → OrderValue → Edit → List ℕ → NetworkValue → Type 0
IsDone g order edit reply after = (count : ℕ) × Touches g order edit count × (reply ≡ codes "done " ++ decimal count) × (after ≡ edited g edit)

-- An edit's reply: it is made, or there was no memory for it, and nothing has changed.
abbrev pub IsEditReply : NetworkValue → OrderValue → Edit → List ℕ → NetworkValue → Type 0
IsEditReply g order edit reply after = IsDone g order edit reply after ⊎ ((reply ≡ codes "no memory") × (after ≡ g))

-- The reply to what a line asks for, and the network after it: a question gets a right answer; an edit changes the network; of a line
-- that fails a check that one is said.
abbrev pub IsReplyTo : NetworkValue → OrderValue → Asked → List ℕ → NetworkValue → Type 0
IsReplyTo g order (Asks question) reply after = MayLack question.may_lack reply (question.right g order reply) × (after ≡ g)
IsReplyTo g order (AsksEdit edit) reply after = IsEditReply g order edit reply after
IsReplyTo g order (Fails words) reply after = (reply ≡ codes "refused: " ++ words) × (after ≡ g)

-- the reply to a line of the script, without the line feed that ends it, and the network after it
abbrev pub IsReply : NetworkValue → OrderValue → List ℕ → List ℕ → NetworkValue → Type 0
IsReply g order line reply after = IsLineReply (λ network text. IsReplyTo network order (asked_of network text)) g line reply after

-- one reply to each line, in order, each ended by a line feed, over the network as it is at that line; and the network
-- after them all
abbrev pub IsAnswered : NetworkValue → OrderValue → List (List ℕ) → List ℕ → NetworkValue → Type 0
IsAnswered g order lines output now = AreReplied (λ network. IsReply network order) g lines output now

-- the replies to these lines
abbrev pub IsOutput : NetworkValue → OrderValue → List (List ℕ) → List ℕ → Type 0
IsOutput g order lines output = (now : NetworkValue) × IsAnswered g order lines output now
