-- The desk: one edit at a time is in work, and queries are answered by what was published. What a line asks for, its reply, and what is
-- published and in work after it; over any kind of network, by what answers a query over it, how many shortcuts an edit of it touches, and
-- what the edit makes of it.
use Rattle.std.specs.Prelude.{ℕ, List, ◌++◌, Option, Some, None, ◌≡◌, ◌<◌, ◌-◌, ◌⊎◌, ◌==◌, codes, decimal}
use Rattle.std.specs.Bool.{MatchBool}
use Rattle.cu_model.specs.declared.queries.Query.{Query}
use Rattle.cu_model.specs.declared.roads.Edit.{Edit}

-- what a line asks for: a step of the edit in work; or, for a client, an answer, an edit, or that its edit in work is cancelled; or it fails
-- a check, which is said for the client or, where that is of no client, for none
pub data DeskAsked : Type 0 where
  AsksStep : DeskAsked
  AsksCancel : (client : ℕ) → DeskAsked
  AsksQuery : (client : ℕ) → Query → DeskAsked
  AsksEdit : (client : ℕ) → Edit → DeskAsked
  FailsFor : (client : ℕ) → (words : List ℕ) → DeskAsked
  Fails : (words : List ℕ) → DeskAsked

-- an edit in work: whose it is, the edit, and how many of the shortcuts that it touches are left
pub record Work : Type 0 where
  pub client : ℕ
  pub edit : Edit
  pub left : ℕ

-- what is published, and the edit in work, if there is one
pub record DeskState (N : Type 0) : Type 0 where
  pub published : N
  pub work : Option Work

-- a reply to a client
abbrev pub said_to : ℕ → List ℕ → List ℕ
said_to client reply = (decimal client ++ codes " ") ++ reply

-- an edit line while no edit is in work: one that touches no shortcut is published by its line, another is begun; or there is no memory
abbrev pub Begins : {N : Type 0} → (N → Edit → ℕ → Type 0) → (N → Edit → N → Type 0) → DeskState N → ℕ → Edit → List ℕ → DeskState N → Type 0
Begins {N} Touches Makes desk client edit reply after =
    (Touches desk.published edit 0
    × ((next : N) × Makes desk.published edit next × (reply ≡ said_to client (codes "done 0")) × (after ≡ record { published = next; work = None })))
    ⊎ ((count : ℕ) × (0 < count) × Touches desk.published edit count × (reply ≡ said_to client (codes "begun " ++ decimal count))
    × (after ≡ record desk { work = Some (record { client = client; edit = edit; left = count }) }))
    ⊎ ((reply ≡ said_to client (codes "no memory")) × (after ≡ desk))

-- an edit line: while one is in work no other is begun
abbrev pub Edits : {N : Type 0} → (N → Edit → ℕ → Type 0) → (N → Edit → N → Type 0) → Option Work → DeskState N → ℕ → Edit → List ℕ → DeskState N → Type 0
Edits Touches Makes None desk client edit reply after = Begins Touches Makes desk client edit reply after
Edits Touches Makes (Some work) desk client edit reply after = (reply ≡ said_to client (codes "busy " ++ decimal work.client)) × (after ≡ desk)

-- a step: one shortcut less is left; or the last one was, and the edit is published; or there is no memory
abbrev pub Steps : {N : Type 0} → (N → Edit → N → Type 0) → Option Work → DeskState N → List ℕ → DeskState N → Type 0
Steps Makes None desk reply after = (reply ≡ codes "idle") × (after ≡ desk)
Steps {N} Makes (Some work) desk reply after =
    ((1 < work.left) × (reply ≡ codes "left " ++ decimal (work.left - 1)) × (after ≡ record desk { work = Some (record work { left = work.left - 1 }) }))
    ⊎ ((work.left ≡ 1)
    × ((next : N) × Makes desk.published work.edit next × (reply ≡ codes "published " ++ decimal work.client) × (after ≡ record { published = next; work = None })))
    ⊎ ((reply ≡ codes "no memory") × (after ≡ desk))

abbrev pub CancelsNone : {N : Type 0} → DeskState N → ℕ → List ℕ → DeskState N → Type 0
CancelsNone desk client reply after = (reply ≡ said_to client (codes "refused: none")) × (after ≡ desk)

-- a client cancels its own edit alone
abbrev pub Cancels : {N : Type 0} → Option Work → DeskState N → ℕ → List ℕ → DeskState N → Type 0
Cancels None desk client reply after = CancelsNone desk client reply after
Cancels (Some work) desk client reply after =
    MatchBool (work.client == client) ((reply ≡ said_to client (codes "cancelled")) × (after ≡ record desk { work = None })) (CancelsNone desk client reply after)

-- the reply to what a line asks for, and the desk after it
abbrev pub IsDeskReply : {N : Type 0} → (N → Query → List ℕ → Type 0) → (N → Edit → ℕ → Type 0) → (N → Edit → N → Type 0)
    → DeskState N → DeskAsked → List ℕ → DeskState N → Type 0
IsDeskReply Answers Touches Makes desk AsksStep reply after = Steps Makes desk.work desk reply after
IsDeskReply Answers Touches Makes desk (AsksCancel client) reply after = Cancels desk.work desk client reply after
IsDeskReply Answers Touches Makes desk (AsksQuery client query) reply after =
    (text : List ℕ) × Answers desk.published query text × (reply ≡ said_to client text) × (after ≡ desk)
IsDeskReply Answers Touches Makes desk (AsksEdit client edit) reply after = Edits Touches Makes desk.work desk client edit reply after
IsDeskReply Answers Touches Makes desk (FailsFor client words) reply after = (reply ≡ said_to client (codes "refused: " ++ words)) × (after ≡ desk)
IsDeskReply Answers Touches Makes desk (Fails words) reply after = (reply ≡ codes "refused: " ++ words) × (after ≡ desk)
