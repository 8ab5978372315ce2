-- Which replies are right over a network with measured profiles, where waiting before a road may pay, and that network after each of them.
use Rattle.std.specs.Prelude.{ℕ, List, [], ◌++◌, ◌≡◌, ◌⊎◌, codes, decimal, length}
use Rattle.cu_model.specs.declared.roads.Edit.{Edit}
use Rattle.cu_model.specs.Networks.{NetworkValue}
use Rattle.cu_model.specs.Orders.{OrderValue}
use Rattle.cu_wait.specs.Networks.{RawNetwork, raw_edited}
use Rattle.cu_session.specs.Questions.{Asked, Asks, AsksEdit, Fails, MayLack, asked_among}
use Rattle.cu_session.specs.Replies.{Touches}
use Rattle.cu_session.specs.Scripts.{AreReplied, IsLineReply}

-- the nodes and roads without a profile: these alone say which edges there are, and which an edit touches
abbrev pub roads_of : RawNetwork → NetworkValue
roads_of g = record { nodes = g.nodes; arcs = g.arcs; profiles = [] }

-- an edit is made: the reply counts the touched edges
abbrev pub IsWaitingDone : RawNetwork → OrderValue → Edit → List ℕ → RawNetwork → Type 0
IsWaitingDone g order edit reply after =
    (count : ℕ) × Touches (roads_of g) order edit count × (reply ≡ codes "done " ++ decimal count) × (after ≡ raw_edited g edit)

-- an edit's reply: it is made, or there was no memory for it, and nothing has changed
abbrev pub IsWaitingEditReply : RawNetwork → OrderValue → Edit → List ℕ → RawNetwork → Type 0
IsWaitingEditReply g order edit reply after = IsWaitingDone g order edit reply after ⊎ ((reply ≡ codes "no memory") × (after ≡ g))

-- The reply to what a line asks for, and the network after it: a question gets an answer that is right over all walks and all waits; an
-- edit changes the network; of a line that fails a check that one is said.
abbrev pub IsWaitingReplyTo : RawNetwork → OrderValue → Asked → List ℕ → RawNetwork → Type 0
IsWaitingReplyTo g order (Asks question) reply after = MayLack question.may_lack reply (question.waiting g order reply) × (after ≡ g)
IsWaitingReplyTo g order (AsksEdit edit) reply after = IsWaitingEditReply g order edit reply after
IsWaitingReplyTo g order (Fails words) reply after = (reply ≡ codes "refused: " ++ words) × (after ≡ g)

-- what the text of a line asks for over a network with measured profiles
abbrev pub raw_asked_of : RawNetwork → List ℕ → Asked
raw_asked_of g text = asked_among g.nodes (length g.arcs) (length g.profiles) text

-- the reply to a line of the script, without the line feed that ends it, and the network after it
abbrev pub IsWaitingReply : RawNetwork → OrderValue → List ℕ → List ℕ → RawNetwork → Type 0
IsWaitingReply g order line reply after = IsLineReply (λ network text. IsWaitingReplyTo network order (raw_asked_of network text)) g line reply after

-- one reply to each line, in order, each ended by a line feed, over the network as it is at that line; and the network after them all
abbrev pub IsWaitingAnswered : RawNetwork → OrderValue → List (List ℕ) → List ℕ → RawNetwork → Type 0
IsWaitingAnswered g order lines output now = AreReplied (λ network. IsWaitingReply network order) g lines output now

-- the replies to these lines
abbrev pub IsWaitingOutput : RawNetwork → OrderValue → List (List ℕ) → List ℕ → Type 0
IsWaitingOutput g order lines output = (now : RawNetwork) × IsWaitingAnswered g order lines output now
