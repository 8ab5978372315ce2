-- Replies by a hierarchy over pieces, and by the points that are kept of the measured profiles for which these stand, are right over the measured
-- network, all walks and all waits.
use Rattle.std.proofs.Common.{◌≡◌, ◌<◌, ◌∙◌, ℕ, List, [], ◌∷◌, refl, sym, ap, subst, inl, inr}
use Rattle.std.specs.Prelude.{Bool, true, false, Option, Some, None, Result, Ok, Err, codes, length, map, nat_lt}
use Rattle.std.specs.Bool.{MatchBool}
use Rattle.cu_model.specs.declared.queries.Query.{Query}
use Rattle.cu_model.specs.declared.queries.QueryRefusal.{QueryRefusal}
use Rattle.cu_model.specs.declared.roads.Edit.{Edit}
use Rattle.cu_model.specs.Answers.{arrive_text}
use Rattle.cu_model.specs.Days.{day}
use Rattle.cu_model.specs.Networks.{IsNetwork, NetworkValue}
use Rattle.cu_model.specs.Orders.{OrderValue}
use Rattle.cu_model.specs.Queries.{query_of}
use Rattle.cu_drive.specs.DriveLines.{drive_of}
use Rattle.cu_day.specs.declared.lines.DayAsked.{DayAsked}
use Rattle.cu_day.specs.declared.lines.DayRefusal.{DayRefusal}
use Rattle.cu_day.specs.DayAnswers.{IsDayAnswer}
use Rattle.cu_day.specs.DayLines.{day_of}
use Rattle.cu_model.specs.Roads.{HasNoWalk, IsLeastArrival}
use Rattle.cu_sweep.specs.ToAll.{IsTime}
use Rattle.cu_reach.specs.declared.departures.Departure.{Departure}
use Rattle.cu_reach.specs.declared.lines.LatestAsked.{LatestAsked}
use Rattle.cu_reach.specs.declared.lines.ManyRefusal.{ManyRefusal}
use Rattle.cu_reach.specs.declared.lines.ReachAsked.{ReachAsked}
use Rattle.cu_reach.specs.Departures.{IsLatest}
use Rattle.cu_reach.specs.NodeFields.{TableValue}
use Rattle.cu_reach.specs.ReachAnswers.{SaysReach}
use Rattle.cu_reach.specs.ReachLines.{latest_of, reach_of, table_of}
use Rattle.cu_reach.proofs.SayingLaws.{latest_so, says_latest, says_reach, says_table}
use Rattle.cu_script.specs.declared.lines.EditRefusal.{EditRefusal}
use Rattle.cu_script.specs.EditLines.{edit_of}
use Rattle.cu_io.specs.Lines.{without_return}
use Rattle.cu_io.specs.Sinks.{SinkState}
use Rattle.cu_io.specs.Sources.{SourceState}
use Rattle.cu_io.proofs.Appending.{appends_nothing}
use Rattle.cu_io.proofs.Taking.{takes_nothing}
use Rattle.cu_router.specs.Answers.{IsHeldWaits}
use Rattle.cu_router.specs.Swept.{IsSweptAs}
use Rattle.cu_router.proofs.HeldAnswers.{said_alike}
use Rattle.cu_wait.specs.declared.points.Point.{Point}
use Rattle.cu_wait.specs.Converted.{IsConverted}
use Rattle.cu_wait.specs.KeptPoints.{kept_after, kept_of, says_kept}
use Rattle.cu_wait.specs.Networks.{HasNoRawWalk, IsLeastWaiting, Measured, RawNetwork, raw_edited}
use Rattle.cu_wait.specs.WaitingDrives.{IsWaitingDriveAnswer, says_waits}
use Rattle.cu_wait.proofs.AnswerLaws.{waiting_answer}
use Rattle.cu_wait.proofs.KeptLaws.{kept_edited, waits_said}
use Rattle.cu_wait.proofs.WaitingDriveLaws.{drive_answer}
use Rattle.cu_wait.proofs.WaitingLaws.{converted_edited, least_same, none_same, walk_raw}
use Rattle.cu_session.specs.declared.questions.Kind.{Kind}
use Rattle.cu_session.specs.declared.questions.Kind.TheVariants as kind
use Rattle.cu_session.specs.declared.stops.SessionStop.{SessionStop}
use Rattle.cu_session.specs.declared.stops.SessionStop.TheVariants as stop
use Rattle.cu_session.specs.Kept.{IsKeptDrive, IsKeptEdit, IsKeptReply, IsKeptReplyAs, IsKeptText, KeptValue, asked_in}
use Rattle.cu_session.specs.Questions.{Asked, asked_by_day, asked_by_drive, asked_by_edit, asked_by_latest, asked_by_query, asked_by_reach, asked_by_table, asked_of, kind_of, query_question}
use Rattle.cu_session.specs.Held.{IsHeldReplyTo}
use Rattle.cu_session.specs.Replies.{IsReplyTo, Touches}
use Rattle.cu_session.specs.Scripts.{AreReplied, line_limit}
use Rattle.cu_session.specs.Sessions.{AnswersBy, EndsLines, EndsWaiting}
use Rattle.cu_session.specs.Waiting.{roads_of, IsWaitingOutput, IsWaitingReply, IsWaitingReplyTo, raw_asked_of}
use Rattle.cu_session.specs.WaitingDays.{IsWaitingDayAnswer}
use Rattle.cu_session.specs.WaitingReaches.{IsLatestWaiting, IsWaitingTime}
use Rattle.cu_session.specs.WaitingSwept.{IsSweptOver}
use Rattle.cu_session.proofs.DriveLines.{drive_second}
use Rattle.cu_session.proofs.Legal.{IsBuiltUnder, answers_so, built_behind, legal_reply_to}
use Rattle.cu_session.proofs.Outputs.{related}
use Rattle.cu_session.proofs.RoadsAlone.{touches_same}
use Rattle.cu_session.proofs.SessionLaws.{leaves_all}

module _ (raw : RawNetwork) (g : NetworkValue) (c : IsConverted raw g) (n : IsNetwork g) (order : OrderValue) where
  -- the least arrivals over a day are the least waiting ones
  waiting_day : (u v : ℕ) (text : List ℕ) → IsDayAnswer g u v text → IsWaitingDayAnswer raw u v text
  waiting_day u v text (inl (f, least, is)) = inl (f, (λ t lt. (least_same raw g c n u v t (f t)).0 (least t lt)), is)
  waiting_day u v text (inr (none, is)) = inr ((none_same raw g c n u v).0 none, is)

  -- the least arrival between two nodes is the least waiting one
  waiting_time : (u v t : ℕ) (time : Option ℕ) → IsTime g u v t time → IsWaitingTime raw u v t time
  waiting_time u v t None none = (none_same raw g c n u v).0 none
  waiting_time u v t (Some arrival) least = (least_same raw g c n u v t arrival).0 least

  -- and so the latest departure by the one is that by the other
  waiting_latest : (u v by : ℕ) (departure : Departure) → IsLatest g u v by departure → IsLatestWaiting raw u v by departure
  waiting_latest u v by departure latest =
      latest_so (λ second arrival. IsLeastArrival g u v second arrival) (λ second arrival. IsLeastWaiting raw u v second arrival) (HasNoWalk g u v) (HasNoRawWalk raw u v)
      (λ second arrival. (least_same raw g c n u v second arrival).0) (λ second arrival. (least_same raw g c n u v second arrival).1)
      (none_same raw g c n u v).0 by departure latest

  -- a reply of the sweeps is one over the measured profiles
  swept_over : (says : ℕ → List ℕ → List ℕ) (query : Query) (reply : List ℕ) → IsSweptAs says g order query reply → IsSweptOver says raw order query reply
  swept_over says query reply (h, network, under, built, is) = (h, subst (IsConverted raw) (sym network) c, under, built, is)

  -- a right reply that leaves the network is right over the measured one
  abbrev Waits : Asked → List ℕ → NetworkValue → Type 0
  Waits asked reply after = IsWaitingReplyTo raw order asked reply raw × (after ≡ g)

  query_waits : (asked : Result Query QueryRefusal) (reply : List ℕ) (after : NetworkValue) → IsReplyTo g order (asked_by_query asked) reply after
      → Waits (asked_by_query asked) reply after
  query_waits (Ok query) reply after ((answer, swept), same) =
      (((waiting_answer raw g c n query reply answer, swept_over arrive_text query reply swept), refl), same)
  query_waits (Err refusal) reply after (said, same) = ((said, refl), same)

  day_waits : (asked : Result DayAsked DayRefusal) (reply : List ℕ) (after : NetworkValue) → IsReplyTo g order (asked_by_day asked) reply after → Waits (asked_by_day asked) reply after
  day_waits (Ok query) reply after (inl answer, same) = ((inl (waiting_day query.from query.to reply answer), refl), same)
  day_waits (Ok query) reply after (inr none, same) = ((inr none, refl), same)
  day_waits (Err refusal) reply after (said, same) = ((said, refl), same)

  reach_waits : (asked : Result ReachAsked ManyRefusal) (reply : List ℕ) (after : NetworkValue) → IsReplyTo g order (asked_by_reach asked) reply after
      → Waits (asked_by_reach asked) reply after
  reach_waits (Ok asked) reply after (answer, same) =
      let says = says_reach (λ v time. IsTime g asked.from v asked.second time) (λ v time. IsWaitingTime raw asked.from v asked.second time)
      (λ v time is. waiting_time asked.from v asked.second time is) g.nodes reply answer in
      ((subst (λ (nodes : ℕ). SaysReach (λ v time. IsWaitingTime raw asked.from v asked.second time) nodes reply) c.nodes says, refl), same)
  reach_waits (Err refusal) reply after (said, same) = ((said, refl), same)

  table_waits : (asked : Result TableValue ManyRefusal) (reply : List ℕ) (after : NetworkValue) → IsReplyTo g order (asked_by_table asked) reply after
      → Waits (asked_by_table asked) reply after
  table_waits (Ok asked) reply after (answer, same) =
      let says = says_table (λ u v time. IsTime g u v asked.second time) (λ u v time. IsWaitingTime raw u v asked.second time)
      (λ u v time is. waiting_time u v asked.second time is) asked reply answer in
      ((says, refl), same)
  table_waits (Err refusal) reply after (said, same) = ((said, refl), same)

  latest_waits : (asked : Result LatestAsked ManyRefusal) (reply : List ℕ) (after : NetworkValue) → IsReplyTo g order (asked_by_latest asked) reply after
      → Waits (asked_by_latest asked) reply after
  latest_waits (Ok asked) reply after (answer, same) =
      let says = says_latest (IsLatest g asked.from asked.to asked.by) (IsLatestWaiting raw asked.from asked.to asked.by)
      (λ query text. (query_question query).right g order text) (λ query text. (query_question query).waiting raw order text)
      (waiting_latest asked.from asked.to asked.by)
      (λ query text right. (waiting_answer raw g c n query text right.0, swept_over arrive_text query text right.1)) asked reply answer in
      ((says, refl), same)
  latest_waits (Err refusal) reply after (said, same) = ((said, refl), same)

-- a built hierarchy under an order, over a network in pieces that stand for the measured profiles, of which the points are kept
pub record StandsFor (order : OrderValue) (w : KeptValue) (raw : RawNetwork) : Type 0 where
  pub built : IsBuiltUnder order w.hierarchy
  pub converted : IsConverted raw w.hierarchy.network
  pub kept : w.kept ≡ map kept_of raw.profiles

module _ (order : OrderValue) (w : KeptValue) (raw : RawNetwork) (stands : StandsFor order w raw) where
  network : IsNetwork w.hierarchy.network
  network = stands.built.0.sound.network

  -- the reply, and what stands for the network after it
  abbrev Follows : Asked → List ℕ → KeptValue → Type 0
  Follows asked reply after = (next : RawNetwork) × IsWaitingReplyTo raw order asked reply next × StandsFor order after next

  -- nothing has changed
  same_follows : (asked : Asked) (reply : List ℕ) (after : KeptValue) → after ≡ w → IsWaitingReplyTo raw order asked reply raw → Follows asked reply after
  same_follows asked reply after same is = (raw, is, subst (λ (x : KeptValue). StandsFor order x raw) (sym same) stands)

  -- a question that the hierarchy alone answers
  held_follows : (asked : Asked) (reply : List ℕ) (after : KeptValue)
      → ((next : NetworkValue) → IsReplyTo w.hierarchy.network order asked reply next → Waits raw w.hierarchy.network stands.converted network order asked reply next)
      → IsHeldReplyTo w.hierarchy asked reply after.hierarchy × (after.kept ≡ w.kept) → Follows asked reply after
  held_follows asked reply after waits (held, kept) =
      let (built, under) = stands.built in
      let right = subst (λ (o : OrderValue). IsReplyTo w.hierarchy.network o asked reply after.hierarchy.network) under
      (legal_reply_to w.hierarchy after.hierarchy asked reply built held) in
      let (is, same) = waits after.hierarchy.network right in
      let (still, order_same) = built_behind w.hierarchy after.hierarchy asked reply built held in (
        raw,
        is,
        record {
          built = (still, order_same ∙ under);
          converted = subst (IsConverted raw) (sym same) stands.converted;
          kept = kept ∙ stands.kept;
        },
      )

  -- the drive that the points tell is the one of the measured network
  drive_told : (query : Query) (reply : List ℕ) → IsHeldWaits w.kept w.hierarchy query reply → IsWaitingDriveAnswer raw query reply
  drive_told query reply answer = elim (answer.least stands.built.0) [
    | inl (arrival, walk, said, is) ↦
        let g = w.hierarchy.network in
        let joined = walk_raw raw g stands.converted network query.from walk query.to is.joined in
        let told = ap (λ (k : List (Option (List Point))). says_kept k g query.second arrival walk) stands.kept
        ∙ waits_said raw g stands.converted network query.from walk query.to query.second arrival joined in
        subst (IsWaitingDriveAnswer raw query) (sym (said ∙ told)) (drive_answer raw g stands.converted network query arrival walk is)
    | inr (said, none) ↦ inr (said, (none_same raw w.hierarchy.network stands.converted network query.from query.to).0 none)
  ]

  drive_swept : (query : Query) (reply : List ℕ) → query.second < day → IsHeldWaits w.kept w.hierarchy query reply → IsSweptOver (says_waits raw query.second) raw order query reply
  drive_swept query reply second answer =
      let h = w.hierarchy in
      let g = h.network in
      let alike = said_alike h stands.built.0.sound query second (says_kept w.kept g query.second) (says_waits raw query.second)
      (λ arrival walk is. ap (λ (k : List (Option (List Point))). says_kept k g query.second arrival walk) stands.kept
      ∙ waits_said raw g stands.converted network query.from walk query.to query.second arrival (walk_raw raw g stands.converted network query.from walk query.to is)) in
      (h, stands.converted, stands.built.1, stands.built.0, answer.swept ∙ alike)

  drive_follows : (nodes : ℕ) (text : List ℕ) (asked : Result Query QueryRefusal) (reply : List ℕ) (after : KeptValue) → asked ≡ drive_of nodes text → IsKeptDrive w asked reply × (after ≡ w)
      → Follows (asked_by_drive asked) reply after
  drive_follows nodes text (Ok query) reply after is (answer, same) =
      let second = drive_second nodes text query (sym is) in
      same_follows (asked_by_drive (Ok query)) reply after same ((drive_told query reply answer, drive_swept query reply second answer), refl)
  drive_follows nodes text (Err refusal) reply after is (said, same) = same_follows (asked_by_drive (Err refusal)) reply after same (said, refl)

  edit_follows : (asked : Result Edit EditRefusal) (reply : List ℕ) (after : KeptValue) → IsKeptEdit w asked reply after → Follows (asked_by_edit asked) reply after
  edit_follows (Ok edit) reply after (inl (done, kept)) =
      let g = w.hierarchy.network in
      let (built, under) = stands.built in
      let touches = touches_same g (roads_of raw) w.hierarchy.order (sym stands.converted.arcs) edit done.count done.touches in (
        raw_edited raw edit,
        inl (done.count, subst (λ (o : OrderValue). Touches (roads_of raw) o edit done.count) under touches, done.said, refl),
        record {
          built = (done.built built, done.resettled.order ∙ under);
          converted = subst (IsConverted (raw_edited raw edit)) (sym done.resettled.network) (converted_edited raw g edit stands.converted);
          kept = kept ∙ ap (kept_after edit) stands.kept ∙ sym (kept_edited raw edit);
        },
      )
  edit_follows (Ok edit) reply after (inr (none, same)) = same_follows (asked_by_edit (Ok edit)) reply after same (inr (none, refl))
  edit_follows (Err refusal) reply after (said, same) = same_follows (asked_by_edit (Err refusal)) reply after same (said, refl)

  kind_follows : (k : Kind) (text reply : List ℕ) (after : KeptValue) → IsKeptReplyAs k w text reply after → Follows (asked_in w.hierarchy k text) reply after
  kind_follows kind.Query text reply after is = let h = w.hierarchy in
      held_follows _ reply after (query_waits raw h.network stands.converted network order (query_of h.network.nodes text) reply) is
  kind_follows kind.Drive text reply after is = drive_follows w.hierarchy.network.nodes text (drive_of w.hierarchy.network.nodes text) reply after refl is
  kind_follows kind.Day text reply after is = let h = w.hierarchy in
      held_follows _ reply after (day_waits raw h.network stands.converted network order (day_of h.network.nodes text) reply) is
  kind_follows kind.Reach text reply after is = let h = w.hierarchy in
      held_follows _ reply after (reach_waits raw h.network stands.converted network order (reach_of h.network.nodes text) reply) is
  kind_follows kind.Table text reply after is = let h = w.hierarchy in
      held_follows _ reply after (table_waits raw h.network stands.converted network order (table_of h.network.nodes text) reply) is
  kind_follows kind.Latest text reply after is = let h = w.hierarchy in
      held_follows _ reply after (latest_waits raw h.network stands.converted network order (latest_of h.network.nodes text) reply) is
  kind_follows kind.Edit text reply after is =
      edit_follows (edit_of (length w.hierarchy.network.arcs) (length w.hierarchy.network.profiles) text) reply after is

  -- both networks have as many nodes, roads and profiles
  asked_same : (text : List ℕ) → asked_of w.hierarchy.network text ≡ raw_asked_of raw text
  asked_same text = rw (stands.converted.nodes, stands.converted.arcs, stands.converted.count) refl

  -- a line that may be too long
  line_follows : (long : Bool) (text reply : List ℕ) (after : KeptValue)
      → MatchBool long ((reply ≡ codes "refused: long") × (after ≡ w)) (IsKeptReplyAs (kind_of text) w text reply after)
      → (next : RawNetwork) × MatchBool long ((reply ≡ codes "refused: long") × (next ≡ raw)) (IsWaitingReplyTo raw order (raw_asked_of raw text) reply next)
      × StandsFor order after next
  line_follows true text reply after (said, same) = (raw, (said, refl), subst (λ (x : KeptValue). StandsFor order x raw) (sym same) stands)
  line_follows false text reply after is = subst (λ (asked : Asked). Follows asked reply after) (asked_same text) (kind_follows (kind_of text) text reply after is)

reply_follows : (order : OrderValue) (w after : KeptValue) (raw : RawNetwork) (line reply : List ℕ) → StandsFor order w raw → IsKeptReply w line reply after
    → (next : RawNetwork) × IsWaitingReply raw order line reply next × StandsFor order after next
reply_follows order w after raw line reply stands is = line_follows order w raw stands (nat_lt line_limit (length line)) (without_return line) reply after is

-- replies that begin with such a hierarchy and such points are right over all walks and all waits of the measured network as edited so far
pub waiting_output : (w : KeptValue) (raw : RawNetwork) (lines : List (List ℕ)) (output : List ℕ) → StandsFor w.hierarchy.order w raw
    → (now : KeptValue) × AreReplied IsKeptReply w lines output now → IsWaitingOutput raw w.hierarchy.order lines output
waiting_output w raw lines output stands (now, replies) =
    let order = w.hierarchy.order in
    let (end, waits, still) =
    related IsKeptReply (λ (network : RawNetwork). IsWaitingReply network order) (StandsFor order) (reply_follows order) w now raw lines output stands replies in
    (end, waits)

pub waiting_where_built : (w : KeptValue) (raw : RawNetwork) → StandsFor w.hierarchy.order w raw → (why : Option SessionStop) (taken output : List ℕ)
    → AnswersBy (λ lines text. (now : KeptValue) × AreReplied IsKeptReply w lines text now) why taken output
    → AnswersBy (IsWaitingOutput raw w.hierarchy.order) why taken output
waiting_where_built w raw stands why taken output is =
    answers_so (λ lines text. (now : KeptValue) × AreReplied IsKeptReply w lines text now) (IsWaitingOutput raw w.hierarchy.order)
    (λ lines text replied. waiting_output w raw lines text stands replied) why taken output is

-- a script was answered over the measured network
pub waiting_ends : (w last : KeptValue) (raw : RawNetwork) → StandsFor w.hierarchy.order w raw → (why : Option SessionStop) (source_before source_now : SourceState)
    (sink_before sink_now : SinkState) → EndsLines IsKeptText w last why source_before source_now sink_before sink_now
    → EndsWaiting raw w.hierarchy.order why source_before source_now sink_before sink_now
waiting_ends w last raw stands why source_before source_now sink_before sink_now done = record {
  taken = done.taken;
  output = done.output;
  takes = done.takes;
  appends = done.appends;
  answered = waiting_where_built w raw stands why done.taken done.output done.answered;
  leaves = done.leaves;
}

-- memory ran out before the script was read
pub waits_nothing : (raw : RawNetwork) (order : OrderValue) (source : SourceState) (sink : SinkState) → EndsWaiting raw order (Some stop.NoMemory) source source sink sink
waits_nothing raw order source sink = record {
  taken = [];
  output = [];
  takes = takes_nothing source.left;
  appends = appends_nothing sink.written;
  answered = (refl, refl);
  leaves = leaves_all true 9 source sink (λ e. cc e) (λ e. cc e) (λ e. cc e);
}

-- of a network with measured profiles alone all points are kept
pub kept_all : (measured : List (List Point)) → map Some measured ≡ map kept_of (map Measured measured)
kept_all [] = refl
kept_all (points ∷ measured) = ap (λ (kept : List (Option (List Point))). Some points ∷ kept) (kept_all measured)
