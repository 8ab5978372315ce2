-- A desk over a built hierarchy answers as one over its network does.
use Rattle.std.proofs.Common.{◌≡◌, ◌∙◌, ℕ, List, Bool, true, false, refl, sym, ap, subst}
use Rattle.std.specs.Prelude.{codes, length, nat_lt}
use Rattle.std.specs.Bool.{MatchBool}
use Rattle.cu_io.specs.Lines.{without_return}
use Rattle.cu_model.specs.declared.queries.Query.{Query}
use Rattle.cu_model.specs.declared.roads.Edit.{Edit}
use Rattle.cu_model.specs.Answers.{IsAnswer}
use Rattle.cu_model.specs.Edits.{edited}
use Rattle.cu_model.specs.Networks.{NetworkValue}
use Rattle.cu_model.specs.Orders.{OrderValue}
use Rattle.cu_interval.specs.Hierarchies.{HierarchyValue, IsBuilt}
use Rattle.cu_router.specs.Answers.{IsHeldAnswer}
use Rattle.cu_session.specs.Replies.{Touches}
use Rattle.cu_session.specs.Scripts.{IsLineReply, line_limit}
use Rattle.cu_session.proofs.Outputs.{related}
use Rattle.cu_desk.specs.DeskLines.{desk_asked_of}
use Rattle.cu_desk.specs.HeldDesks.{AreHeldDeskReplies, HeldDesk, IsHeldDeskOutput, IsHeldDeskText, MakesHeld, TouchesHeld, desk_over, state_of}
use Rattle.cu_desk.specs.Machine.{DeskAsked, DeskState, IsDeskReply}
use Rattle.cu_desk.specs.NetworkDesks.{AnswersQuery, AreDeskReplies, IsDeskOutput, IsDeskText, MakesEdit, network_desk}
use Rattle.cu_desk.proofs.Simulation.{follows}

-- the network of a built hierarchy under this order
abbrev pub IsNetworkOf : OrderValue → HierarchyValue → NetworkValue → Type 0
IsNetworkOf order h g = (g ≡ h.network) × IsBuilt h × (h.order ≡ order)

module _ (order : OrderValue) where
  answers : (h : HierarchyValue) (g : NetworkValue) (query : Query) (text : List ℕ) → IsNetworkOf order h g → IsHeldAnswer h query text → AnswersQuery order g query text
  answers h g query text (same, built, under) answer =
      (subst (λ (n : NetworkValue). IsAnswer n query text) (sym same) (answer.least built), (h, sym same, under, built, answer.swept))

  touches : (h : HierarchyValue) (g : NetworkValue) (edit : Edit) (count : ℕ) → IsNetworkOf order h g → TouchesHeld h edit count → Touches g order edit count
  touches h g edit count (same, built, under) (touched, numbers, counted) =
      let here : Touches h.network h.order edit count =
      record { edges = h.edges; listed = built.sound.edges; touched = touched; rising = numbers.rising; exact = numbers.exact; counted = counted } in
      subst (λ (o : OrderValue). Touches g o edit count) under (subst (λ (n : NetworkValue). Touches n h.order edit count) (sym same) here)

  makes : (h : HierarchyValue) (g : NetworkValue) (edit : Edit) (next : HierarchyValue) → IsNetworkOf order h g → MakesHeld h edit next
      → (other : NetworkValue) × MakesEdit g edit other × IsNetworkOf order next other
  makes h g edit next (same, built, under) made =
      let network : edited g edit ≡ next.network = ap (λ (n : NetworkValue). edited n edit) same ∙ sym made.resettled.network in
      (edited g edit, refl, (network, made.built built, made.resettled.order ∙ under))

  -- a desk over hierarchies and one over their networks, with the same edit in work
  abbrev pub StandsFor : HeldDesk → DeskState NetworkValue → Type 0
  StandsFor desk other = IsNetworkOf order desk.published other.published × (desk.work ≡ other.work)

  text_follows : (desk after : HeldDesk) (other : DeskState NetworkValue) (text reply : List ℕ) → StandsFor desk other → IsHeldDeskText desk text reply after
      → (next : DeskState NetworkValue) × IsDeskText order other text reply next × StandsFor after next
  text_follows desk after other text reply (network, work) is =
      let asked = desk_asked_of desk.published.network text in
      let (next, follows_it, (still, same)) =
      follows (IsNetworkOf order) IsHeldAnswer TouchesHeld MakesHeld (AnswersQuery order) (λ g. Touches g order) MakesEdit answers touches makes
      asked (state_of desk) other reply (state_of after) (network, work) is in
      let right = subst (λ (g : NetworkValue). IsDeskReply (AnswersQuery order) (λ n. Touches n order) MakesEdit other (desk_asked_of g text) reply next) (sym network.0) follows_it in
      (next, right, (still, same))

  match_follows : (long : Bool) (desk after : HeldDesk) (other : DeskState NetworkValue) (text reply : List ℕ) → StandsFor desk other
      → MatchBool long ((reply ≡ codes "refused: long") × (after ≡ desk)) (IsHeldDeskText desk text reply after)
      → (next : DeskState NetworkValue) × MatchBool long ((reply ≡ codes "refused: long") × (next ≡ other)) (IsDeskText order other text reply next) × StandsFor after next
  match_follows true desk after other text reply stands (is, same) = (other, (is, refl), subst (λ (d : HeldDesk). StandsFor d other) (sym same) stands)
  match_follows false desk after other text reply stands is = text_follows desk after other text reply stands is

  line_follows : (desk after : HeldDesk) (other : DeskState NetworkValue) (line reply : List ℕ) → StandsFor desk other → IsLineReply IsHeldDeskText desk line reply after
      → (next : DeskState NetworkValue) × IsLineReply (IsDeskText order) other line reply next × StandsFor after next
  line_follows desk after other line reply stands is = match_follows (nat_lt line_limit (length line)) desk after other (without_return line) reply stands is

  -- the replies to all lines are those of a desk over the network, and what is published stands for what it publishes
  pub replies_follow : (h : HierarchyValue) → IsBuilt h → h.order ≡ order → (lines : List (List ℕ)) (output : List ℕ) (now : HeldDesk)
      → AreHeldDeskReplies (desk_over h) lines output now
      → (last : DeskState NetworkValue) × AreDeskReplies order (network_desk h.network) lines output last × StandsFor now last
  replies_follow h built under lines output now replies =
      related (IsLineReply IsHeldDeskText) (IsLineReply (IsDeskText order)) StandsFor line_follows (desk_over h) now (network_desk h.network) lines output
      ((refl, built, under), refl) replies

pub legal_desk : (h : HierarchyValue) → IsBuilt h → (lines : List (List ℕ)) (output : List ℕ) → IsHeldDeskOutput h lines output
    → IsDeskOutput h.network h.order lines output
legal_desk h built lines output (now, replies) =
    let (last, answered, stands) = replies_follow h.order h built refl lines output now replies in
    (last, answered)
