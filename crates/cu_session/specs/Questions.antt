-- What the lines of a script ask for, each kind by its first byte.
use Rattle.std.specs.Prelude.{ℕ, Bool, false, true, List, [], ◌∷◌, ◌==◌, ◌≡◌, ◌⊎◌, Result, Ok, Err, codes, length, if◌then◌else◌}
use Rattle.cu_model.specs.declared.queries.Query.{Query}
use Rattle.cu_model.specs.declared.queries.QueryRefusal.{QueryRefusal}
use Rattle.cu_model.specs.declared.roads.Edit.{Edit}
use Rattle.cu_model.specs.Answers.{IsAnswer, arrive_text}
use Rattle.cu_model.specs.Networks.{NetworkValue}
use Rattle.cu_model.specs.Orders.{OrderValue}
use Rattle.cu_model.specs.Queries.{query_of}
use Rattle.cu_drive.specs.DriveAnswers.{IsDriveAnswer}
use Rattle.cu_drive.specs.DriveLines.{drive_of}
use Rattle.cu_day.specs.declared.lines.DayAsked.{DayAsked}
use Rattle.cu_day.specs.declared.lines.DayRefusal.{DayRefusal}
use Rattle.cu_day.specs.DayLines.{day_of}
use Rattle.cu_script.specs.declared.lines.EditRefusal.{EditRefusal}
use Rattle.cu_script.specs.EditLines.{edit_of}
use Rattle.cu_day.specs.DayAnswers.{IsDayAnswer}
use Rattle.cu_interval.specs.Hierarchies.{HierarchyValue}
use Rattle.cu_reach.specs.declared.lines.LatestAsked.{LatestAsked}
use Rattle.cu_reach.specs.declared.lines.ManyRefusal.{ManyRefusal}
use Rattle.cu_reach.specs.declared.lines.ReachAsked.{ReachAsked}
use Rattle.cu_reach.specs.Departures.{IsLatest}
use Rattle.cu_reach.specs.NodeFields.{TableValue}
use Rattle.cu_reach.specs.ReachAnswers.{IsReachAnswer, IsTableAnswer, SaysLatest, SaysReach, SaysTable}
use Rattle.cu_reach.specs.ReachLines.{latest_of, reach_of, table_of}
use Rattle.cu_reach.specs.ReachTexts.{reach_reply, table_reply}
use Rattle.cu_router.specs.Answers.{IsHeldAnswer, IsHeldDrive}
use Rattle.cu_router.specs.Days.{IsHeldDayReply}
use Rattle.cu_router.specs.Reaches.{IsHeldLatestReply}
use Rattle.cu_router.specs.Swept.{IsSweptAnswer, IsSweptDrive}
use Rattle.cu_wait.specs.Networks.{RawNetwork}
use Rattle.cu_wait.specs.WaitingAnswers.{IsWaitingAnswer}
use Rattle.cu_wait.specs.WaitingDrives.{IsWaitingDriveAnswer, says_waits}
use Rattle.cu_session.specs.declared.questions.Kind.{Kind}
use Rattle.cu_session.specs.declared.questions.Kind.TheVariants as kind
use Rattle.cu_session.specs.Refusals.{check_word, day_check_word, edit_check_words, many_check_word}
use Rattle.cu_session.specs.WaitingDays.{IsWaitingDayAnswer}
use Rattle.cu_session.specs.WaitingReaches.{IsLatestWaiting, IsWaitingTime}
use Rattle.cu_session.specs.WaitingSwept.{IsSweptOver}

-- A kind of question: its replies by a hierarchy that is held, built or not; those that are right over a network under an order, which it
-- gets where that hierarchy is built; those that are right over a network with measured profiles, where waiting before a road may pay; and
-- whether want of memory may be its reply.
pub record Question : Type 1 where
  pub held : HierarchyValue → List ℕ → Type 0
  pub right : NetworkValue → OrderValue → List ℕ → Type 0
  pub waiting : RawNetwork → OrderValue → List ℕ → Type 0
  pub may_lack : Bool

-- a reply of this kind, or of want of memory where that may be one
abbrev pub MayLack : Bool → List ℕ → Type 0 → Type 0
MayLack false reply Right = Right
MayLack true reply Right = Right ⊎ (reply ≡ codes "no memory")

-- what a line of a script asks for: the answer to a question, or an edit; or the check that it fails
pub data Asked : Type 1 where
  Asks : Question → Asked
  AsksEdit : Edit → Asked
  Fails : (words : List ℕ) → Asked

-- A query gets the answer of the held hierarchy: over a network the least arrival, with the walk that the built hierarchy's sweeps choose;
-- over measured profiles the least waiting arrival, with a walk that has waits by which it arrives then, which the sweeps choose over pieces
-- that stand for them.
abbrev pub query_question : Query → Question
query_question query = record {
  held = λ h reply. IsHeldAnswer h query reply;
  right = λ g order reply. IsAnswer g query reply × IsSweptAnswer g order query reply;
  waiting = λ g order reply. IsWaitingAnswer g query reply × IsSweptOver arrive_text g order query reply;
  may_lack = false;
}

-- A question for the drive of a query gets the same arrival and walk, told by the seconds at which the roads are entered; over measured
-- profiles by the seconds at which one comes to each and leaves, having waited as little as serves.
abbrev pub drive_question : Query → Question
drive_question query = record {
  held = λ h reply. IsHeldDrive h query reply;
  right = λ g order reply. IsDriveAnswer g query reply × IsSweptDrive g order query reply;
  waiting = λ g order reply. IsWaitingDriveAnswer g query reply × IsSweptOver (says_waits g query.second) g order query reply;
  may_lack = false;
}

-- a question for a whole day gets the day text of the held hierarchy's day function: over a network the least arrivals, over measured
-- profiles the least waiting ones
abbrev pub day_question : DayAsked → Question
day_question query = record {
  held = λ h reply. IsHeldDayReply h query reply;
  right = λ g order reply. IsDayAnswer g query.from query.to reply;
  waiting = λ g order reply. IsWaitingDayAnswer g query.from query.to reply;
  may_lack = true;
}

-- A question for all nodes gets the times of the held hierarchy's reach, or the call whose walk is too long: over a network the least
-- arrivals at all nodes, over measured profiles the least waiting ones.
abbrev pub reach_question : ReachAsked → Question
reach_question asked = record {
  held = λ h reply. reply ≡ reach_reply h asked;
  right = λ g order reply. IsReachAnswer g asked reply;
  waiting = λ g order reply. SaysReach (λ v time. IsWaitingTime g asked.from v asked.second time) g.nodes reply;
  may_lack = false;
}

-- a question for a table gets those of one reach for each source, up to the first call whose walk is too long
abbrev pub table_question : TableValue → Question
table_question asked = record {
  held = λ h reply. reply ≡ table_reply h asked;
  right = λ g order reply. IsTableAnswer g asked reply;
  waiting = λ g order reply. SaysTable (λ u v time. IsWaitingTime g u v asked.second time) asked reply;
  may_lack = false;
}

-- A question for the latest departure gets one of the held hierarchy, with the reply to the query at its second: over a network the latest
-- second of the day whose least arrival is in time, over measured profiles by the least waiting ones.
abbrev pub latest_question : LatestAsked → Question
latest_question asked = record {
  held = λ h reply. IsHeldLatestReply h asked reply;
  right = λ g order reply. SaysLatest (IsLatest g asked.from asked.to asked.by) (λ query text. (query_question query).right g order text) asked reply;
  waiting = λ g order reply. SaysLatest (IsLatestWaiting g asked.from asked.to asked.by) (λ query text. (query_question query).waiting g order text) asked reply;
  may_lack = false;
}

abbrev pub asked_by_query : Result Query QueryRefusal → Asked
asked_by_query (Ok query) = Asks (query_question query)
asked_by_query (Err refusal) = Fails (check_word refusal)

abbrev pub asked_by_drive : Result Query QueryRefusal → Asked
asked_by_drive (Ok query) = Asks (drive_question query)
asked_by_drive (Err refusal) = Fails (check_word refusal)

abbrev pub asked_by_day : Result DayAsked DayRefusal → Asked
asked_by_day (Ok query) = Asks (day_question query)
asked_by_day (Err refusal) = Fails (day_check_word refusal)

abbrev pub asked_by_reach : Result ReachAsked ManyRefusal → Asked
asked_by_reach (Ok asked) = Asks (reach_question asked)
asked_by_reach (Err refusal) = Fails (many_check_word refusal)

abbrev pub asked_by_table : Result TableValue ManyRefusal → Asked
asked_by_table (Ok asked) = Asks (table_question asked)
asked_by_table (Err refusal) = Fails (many_check_word refusal)

abbrev pub asked_by_latest : Result LatestAsked ManyRefusal → Asked
asked_by_latest (Ok asked) = Asks (latest_question asked)
asked_by_latest (Err refusal) = Fails (many_check_word refusal)

abbrev pub asked_by_edit : Result Edit EditRefusal → Asked
asked_by_edit (Ok edit) = AsksEdit edit
asked_by_edit (Err refusal) = Fails (edit_check_words refusal)

-- the kind of a line, by its first byte; each other line is an edit or none
abbrev pub kind_of : List ℕ → Kind
kind_of [] = kind.Edit
kind_of (byte ∷ bytes) =
    if byte == 113 then kind.Query
    else (if byte == 118 then kind.Drive
    else (if byte == 100 then kind.Day
    else (if byte == 114 then kind.Reach
    else (if byte == 116 then kind.Table
    else (if byte == 108 then kind.Latest else kind.Edit)))))

-- what the text of a line of a kind asks for, where there are so many nodes, roads and profiles
abbrev pub asked_as : Kind → (nodes arcs profiles : ℕ) → List ℕ → Asked
asked_as kind.Query nodes arcs profiles text = asked_by_query (query_of nodes text)
asked_as kind.Drive nodes arcs profiles text = asked_by_drive (drive_of nodes text)
asked_as kind.Day nodes arcs profiles text = asked_by_day (day_of nodes text)
asked_as kind.Reach nodes arcs profiles text = asked_by_reach (reach_of nodes text)
asked_as kind.Table nodes arcs profiles text = asked_by_table (table_of nodes text)
asked_as kind.Latest nodes arcs profiles text = asked_by_latest (latest_of nodes text)
asked_as kind.Edit nodes arcs profiles text = asked_by_edit (edit_of arcs profiles text)

-- what the text of a line asks for, where there are so many
abbrev pub asked_among : (nodes arcs profiles : ℕ) → List ℕ → Asked
asked_among nodes arcs profiles text = asked_as (kind_of text) nodes arcs profiles text

-- what the text of a line asks for over a network
abbrev pub asked_of : NetworkValue → List ℕ → Asked
asked_of g text = asked_among g.nodes (length g.arcs) (length g.profiles) text
