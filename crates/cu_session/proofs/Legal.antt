-- A session that begins with a built hierarchy: its replies are right over all walks of the network as edited so far.
use Rattle.std.proofs.Common.{◌≡◌, ◌∙◌, ℕ, List, refl, ap, subst, inl, inr}
use Rattle.std.specs.Prelude.{Bool, true, false, Option, Some, None, codes, length, nat_lt}
use Rattle.std.specs.Bool.{MatchBool}
use Rattle.cu_model.specs.Networks.{NetworkValue}
use Rattle.cu_model.specs.Orders.{OrderValue}
use Rattle.cu_io.specs.Lines.{without_return}
use Rattle.cu_interval.specs.Hierarchies.{HierarchyValue, IsBuilt}
use Rattle.cu_session.specs.declared.stops.SessionStop.{SessionStop}
use Rattle.cu_session.specs.declared.stops.SessionStop.TheVariants as stop
use Rattle.cu_session.specs.Held.{AreDone, AreHeldReplies, IsDoneReply, IsDoneReplyTo, IsHeldOutput, IsHeldReply, IsHeldReplyTo, edit_asked_of}
use Rattle.cu_session.specs.Questions.{Asked, Asks, AsksEdit, Fails, MayLack, asked_of}
use Rattle.cu_session.specs.Replies.{IsAnswered, IsOutput, IsReply, IsReplyTo}
use Rattle.cu_session.specs.Scripts.{line_limit}
use Rattle.cu_session.specs.Sessions.{AnswersBy}
use Rattle.cu_session.proofs.Outputs.{followed, kept_through}

same_network : (h after : HierarchyValue) → after ≡ h → after.network ≡ h.network
same_network h after same = ap (λ (v : HierarchyValue). v.network) same

-- a built hierarchy under an order
abbrev pub IsBuiltUnder : OrderValue → HierarchyValue → Type 0
IsBuiltUnder order h = IsBuilt h × (h.order ≡ order)

stays_built : (h after : HierarchyValue) → IsBuilt h → after ≡ h → IsBuiltUnder h.order after
stays_built h after built same = rw same (built, refl)

-- a reply of one kind is one of another, and want of memory is
may_lack : (may : Bool) (reply : List ℕ) (P Q : Type 0) → (P → Q) → MayLack may reply P → MayLack may reply Q
may_lack false reply P Q so is = so is
may_lack true reply P Q so (inl is) = inl (so is)
may_lack true reply P Q so (inr none) = inr none

pub legal_reply_to : (h after : HierarchyValue) (asked : Asked) (reply : List ℕ) → IsBuilt h → IsHeldReplyTo h asked reply after → IsReplyTo h.network h.order asked reply after.network
legal_reply_to h after (Asks question) reply built (answer, same) = (may_lack question.may_lack reply _ _ (λ both. both.1 built) answer, same_network h after same)
legal_reply_to h after (AsksEdit edit) reply built (inl done) = inl (done.count, done.touches, done.said, done.resettled.network)
legal_reply_to h after (AsksEdit edit) reply built (inr (none, same)) = inr (none, same_network h after same)
legal_reply_to h after (Fails words) reply built (is, same) = (is, same_network h after same)

pub built_behind : (h after : HierarchyValue) (asked : Asked) (reply : List ℕ) → IsBuilt h → IsHeldReplyTo h asked reply after → IsBuiltUnder h.order after
built_behind h after (Asks question) reply built (answer, same) = stays_built h after built same
built_behind h after (AsksEdit edit) reply built (inl done) = (done.built built, done.resettled.order)
built_behind h after (AsksEdit edit) reply built (inr (none, same)) = stays_built h after built same
built_behind h after (Fails words) reply built (is, same) = stays_built h after built same

-- the same of a line that may be too long
legal_match : (long : Bool) (h after : HierarchyValue) (asked : Asked) (reply : List ℕ) → IsBuilt h
    → MatchBool long ((reply ≡ codes "refused: long") × (after ≡ h)) (IsHeldReplyTo h asked reply after)
    → MatchBool long ((reply ≡ codes "refused: long") × (after.network ≡ h.network)) (IsReplyTo h.network h.order asked reply after.network)
legal_match true h after asked reply built (is, same) = (is, same_network h after same)
legal_match false h after asked reply built is = legal_reply_to h after asked reply built is

built_match : (long : Bool) (h after : HierarchyValue) (asked : Asked) (reply : List ℕ) → IsBuilt h
    → MatchBool long ((reply ≡ codes "refused: long") × (after ≡ h)) (IsHeldReplyTo h asked reply after) → IsBuiltUnder h.order after
built_match true h after asked reply built (is, same) = stays_built h after built same
built_match false h after asked reply built is = built_behind h after asked reply built is

pub legal_line : (order : OrderValue) (h after : HierarchyValue) (line reply : List ℕ) → IsBuiltUnder order h → IsHeldReply h line reply after
    → IsReply h.network order line reply after.network × IsBuiltUnder order after
legal_line order h after line reply (built, under) is =
    let asked = asked_of h.network (without_return line) in
    let long = nat_lt line_limit (length line) in
    let (still, same) = built_match long h after asked reply built is in
    (subst (λ (o : OrderValue). IsReply h.network o line reply after.network) under (legal_match long h after asked reply built is), (still, same ∙ under))

-- replies of a session that begins with a built hierarchy
pub legal_replies : (h now : HierarchyValue) (lines : List (List ℕ)) (output : List ℕ) → IsBuilt h → AreHeldReplies h lines output now
    → IsAnswered h.network h.order lines output now.network
legal_replies h now lines output built replies =
    followed IsHeldReply (λ (network : NetworkValue). IsReply network h.order) (λ (held : HierarchyValue). held.network) (IsBuiltUnder h.order) (legal_line h.order) h now lines output
    (built, refl) replies

legal_output : (h : HierarchyValue) (lines : List (List ℕ)) (output : List ℕ) → IsBuilt h → IsHeldOutput h lines output → IsOutput h.network h.order lines output
legal_output h lines output built (now, replies) = (now.network, legal_replies h now lines output built replies)

-- a script that is answered in one way is answered in another
pub answers_so : (Output Others : List (List ℕ) → List ℕ → Type 0) → ((lines : List (List ℕ)) (output : List ℕ) → Output lines output → Others lines output)
    → (why : Option SessionStop) (taken output : List ℕ) → AnswersBy Output why taken output → AnswersBy Others why taken output
answers_so Output Others so None taken output (few, is) = (few, so _ output is)
answers_so Output Others so (Some stop.Source) taken output (few, is) = (few, so _ output is)
answers_so Output Others so (Some stop.TakeLimit) taken output (all, is) = (all, so _ output is)
answers_so Output Others so (Some stop.Sink) taken output broken = record {
  count = broken.count;
  replies = broken.replies;
  answered = so _ _ broken.answered;
  reply = broken.reply;
  broken = so _ _ broken.broken;
  written = broken.written;
  within = broken.within;
  ahead = broken.ahead;
}
answers_so Output Others so (Some stop.NoMemory) taken output none = none

-- a session that begins with a built hierarchy
pub legal_where_built : (h : HierarchyValue) → IsBuilt h → (why : Option SessionStop) (taken output : List ℕ) → AnswersBy (IsHeldOutput h) why taken output
    → AnswersBy (IsOutput h.network h.order) why taken output
legal_where_built h built why taken output is =
    answers_so (IsHeldOutput h) (IsOutput h.network h.order) (λ lines text held. legal_output h lines text built held) why taken output is

edits_behind : (h after : HierarchyValue) (asked : Asked) (reply : List ℕ) → IsBuilt h → IsDoneReplyTo h asked reply after → IsBuilt after
edits_behind h after (Asks question) reply built is = absurd is
edits_behind h after (AsksEdit edit) reply built done = done.built built
edits_behind h after (Fails words) reply built (is, same) = (stays_built h after built same).0

edits_match : (long : Bool) (h after : HierarchyValue) (asked : Asked) (reply : List ℕ) → IsBuilt h
    → MatchBool long ((reply ≡ codes "refused: long") × (after ≡ h)) (IsDoneReplyTo h asked reply after) → IsBuilt after
edits_match true h after asked reply built (is, same) = (stays_built h after built same).0
edits_match false h after asked reply built is = edits_behind h after asked reply built is

-- edits of a built hierarchy leave a built one
pub done_built : (h now : HierarchyValue) (lines : List (List ℕ)) (output : List ℕ) → AreDone h lines output now → IsBuilt h → IsBuilt now
done_built h now lines output done built =
    kept_through IsDoneReply IsBuilt
    (λ held after line reply is replied. edits_match (nat_lt line_limit (length line)) held after (edit_asked_of held (without_return line)) reply is replied)
    h now lines output done built
