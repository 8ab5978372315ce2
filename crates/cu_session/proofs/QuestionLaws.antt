-- The answers of a hierarchy to questions.
use Rattle.std.proofs.Common.{◌≡◌, ℕ, List, Result, Ok, refl, inl, inr, true}
use Rattle.std.specs.Prelude.{Option, Some, None}
use Rattle.cu_arrival.specs.declared.runs.Run.{Run}
use Rattle.cu_arrival.specs.Runs.{arrival_value}
use Rattle.cu_day.specs.DayAnswers.{IsDayAnswer, IsLeastDayFunction, IsTextOf}
use Rattle.cu_model.specs.declared.queries.Query.{Query}
use Rattle.cu_model.specs.declared.queries.QueryRefusal.{QueryRefusal}
use Rattle.cu_model.specs.Networks.{NetworkValue}
use Rattle.cu_interval.specs.Hierarchies.{HierarchyValue}
use Rattle.cu_router.specs.Answers.{IsHeldAnswer, IsHeldDrive}
use Rattle.cu_router.specs.Days.{IsHeldDay}
use Rattle.cu_day.specs.declared.lines.DayAsked.{DayAsked}
use Rattle.cu_day.specs.declared.lines.DayRefusal.{DayRefusal}
use Rattle.cu_reach.specs.declared.lines.LatestAsked.{LatestAsked}
use Rattle.cu_reach.specs.declared.lines.ManyRefusal.{ManyRefusal}
use Rattle.cu_reach.specs.declared.lines.ReachAsked.{ReachAsked}
use Rattle.cu_reach.specs.Departures.{IsLatest}
use Rattle.cu_reach.specs.NodeFields.{TableValue}
use Rattle.cu_reach.specs.ReachAnswers.{IsHeldLatest}
use Rattle.cu_reach.specs.ReachTexts.{reach_reply, table_reply}
use Rattle.cu_reach.proofs.BuiltLaws.{reach_right, table_right}
use Rattle.cu_reach.proofs.RangeLaws.{IsReachWithin, IsTableWithin}
use Rattle.cu_reach.proofs.SayingLaws.{says_latest}
use Rattle.cu_router.specs.Reaches.{IsHeldLatestReply}
use Rattle.cu_session.specs.Held.{IsHeldAnswerTo, IsHeldReplyTo}
use Rattle.cu_session.specs.Questions.{MayLack, asked_by_day, asked_by_drive, asked_by_latest, asked_by_query, asked_by_reach, asked_by_table, day_question, query_question}

-- the answer of the held hierarchy is the reply to a query
pub query_answered : (h : HierarchyValue) (query : Query) (reply : List ℕ) (asked : Result Query QueryRefusal) → asked ≡ Ok query → IsHeldAnswer h query reply
    → IsHeldReplyTo h (asked_by_query asked) reply h
query_answered h query reply asked is answer = rw is ((answer, λ built. (answer.least built, (h, refl, refl, built, answer.swept))), refl)

-- its drive is the reply to a question for that
pub drive_answered : (h : HierarchyValue) (query : Query) (reply : List ℕ) (asked : Result Query QueryRefusal) → asked ≡ Ok query → IsHeldDrive h query reply
    → IsHeldReplyTo h (asked_by_drive asked) reply h
drive_answered h query reply asked is answer = rw is ((answer, λ built. (answer.least built, (h, refl, refl, built, answer.swept))), refl)

-- the text of the least arrivals is right over the network
text_right : (g : NetworkValue) (u v : ℕ) (function : Option (List Run)) (reply : List ℕ) → IsLeastDayFunction g u v function → IsTextOf function reply → IsDayAnswer g u v reply
text_right g u v None reply least text = inr (least, text)
text_right g u v (Some runs) reply least text = inl (arrival_value runs, least, text)

-- the text of the held hierarchy's day function is the answer to a question for a day
pub day_told : (h : HierarchyValue) (query : DayAsked) (function : Option (List Run)) (reply : List ℕ) → IsHeldDay h query function → IsTextOf function reply
    → IsHeldAnswerTo h (day_question query) reply
day_told h query function reply day text =
    ((function, day, text), (λ built. text_right h.network query.from query.to function reply (day.least built) text))

-- and so the reply to a line that asks for it, or that there was no memory
pub day_answered : (h : HierarchyValue) (query : DayAsked) (reply : List ℕ) (asked : Result DayAsked DayRefusal) → asked ≡ Ok query
    → MayLack true reply (IsHeldAnswerTo h (day_question query) reply) → IsHeldReplyTo h (asked_by_day asked) reply h
day_answered h query reply asked is answer = rw is (answer, refl)

-- the times of the held hierarchy's reach are the reply to a line that asks for all nodes
pub reach_answered : (h : HierarchyValue) (asked : ReachAsked) (found : Result ReachAsked ManyRefusal) → found ≡ Ok asked → IsReachWithin h.network.nodes asked
    → IsHeldReplyTo h (asked_by_reach found) (reach_reply h asked) h
reach_answered h asked found is within = rw is ((refl, λ built. reach_right h built asked within.from within.second), refl)

-- those of the reaches from its sources to a line that asks for a table
pub table_answered : (h : HierarchyValue) (asked : TableValue) (found : Result TableValue ManyRefusal) → found ≡ Ok asked → IsTableWithin h.network.nodes asked
    → IsHeldReplyTo h (asked_by_table found) (table_reply h asked) h
table_answered h asked found is within = rw is ((refl, λ built. table_right h built asked within.sources within.targets within.second), refl)

-- and its latest departure to a line that asks for one
pub latest_answered : (h : HierarchyValue) (asked : LatestAsked) (reply : List ℕ) (found : Result LatestAsked ManyRefusal) → found ≡ Ok asked
    → IsHeldLatestReply h asked reply → IsHeldReplyTo h (asked_by_latest found) reply h
latest_answered h asked reply found is told =
    rw is (
      (
        told,
        λ built.
            says_latest (IsHeldLatest h asked) (IsLatest h.network asked.from asked.to asked.by) (λ query text. IsHeldAnswer h query text)
            (λ query text. (query_question query).right h.network h.order text) (λ departure is. is.latest built)
            (λ query text answer. (answer.least built, (h, refl, refl, built, answer.swept))) asked reply told,
      ),
      refl,
    )
