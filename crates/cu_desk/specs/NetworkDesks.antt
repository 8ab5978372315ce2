-- A desk over a network: which replies are right, with no hierarchy in work.
use Rattle.std.specs.Prelude.{ℕ, List, None, ◌≡◌}
use Rattle.cu_model.specs.declared.queries.Query.{Query}
use Rattle.cu_model.specs.declared.roads.Edit.{Edit}
use Rattle.cu_model.specs.Answers.{IsAnswer}
use Rattle.cu_model.specs.Edits.{edited}
use Rattle.cu_model.specs.Networks.{NetworkValue}
use Rattle.cu_model.specs.Orders.{OrderValue}
use Rattle.cu_router.specs.Swept.{IsSweptAnswer}
use Rattle.cu_session.specs.Replies.{Touches}
use Rattle.cu_session.specs.Scripts.{AreReplied, IsLineReply}
use Rattle.cu_desk.specs.DeskLines.{desk_asked_of}
use Rattle.cu_desk.specs.Machine.{DeskState, IsDeskReply}

-- a query gets the least arrival over all walks, with the walk that the built hierarchy's sweeps choose
abbrev pub AnswersQuery : OrderValue → NetworkValue → Query → List ℕ → Type 0
AnswersQuery order g query reply = IsAnswer g query reply × IsSweptAnswer g order query reply

abbrev pub MakesEdit : NetworkValue → Edit → NetworkValue → Type 0
MakesEdit g edit after = after ≡ edited g edit

-- the reply to the text of a line, and the desk after it
abbrev pub IsDeskText : OrderValue → DeskState NetworkValue → List ℕ → List ℕ → DeskState NetworkValue → Type 0
IsDeskText order desk text reply after =
    IsDeskReply (AnswersQuery order) (λ g. Touches g order) MakesEdit desk (desk_asked_of desk.published text) reply after

-- one reply to each line, in order, each ended by a line feed, by the desk as it is at that line; and the desk after them all
abbrev pub AreDeskReplies : OrderValue → DeskState NetworkValue → List (List ℕ) → List ℕ → DeskState NetworkValue → Type 0
AreDeskReplies order desk lines output now = AreReplied (IsLineReply (IsDeskText order)) desk lines output now

-- a desk with no edit in work
abbrev pub network_desk : NetworkValue → DeskState NetworkValue
network_desk g = record { published = g; work = None }

-- the replies of a desk over this network, under this order, to these lines
abbrev pub IsDeskOutput : NetworkValue → OrderValue → List (List ℕ) → List ℕ → Type 0
IsDeskOutput g order lines output = (now : DeskState NetworkValue) × AreDeskReplies order (network_desk g) lines output now
