-- Lines of edits that were said, and whose edits were resettled at once, were done one after the other.
use Rattle.std.proofs.Common.{◌≡◌, ◌++◌, ◌∙◌, ℕ, Bool, true, false, List, [], ◌∷◌, refl, sym, ap, subst, length, append_assoc}
use Rattle.std.proofs.lemmas.List.{append-nil}
use Rattle.std.specs.Prelude.{codes, nat_lt}
use Rattle.std.specs.Bool.{MatchBool}
use Rattle.cu_io.specs.Lines.{without_return}
use Rattle.cu_model.specs.declared.roads.Edit.{Edit}
use Rattle.cu_model.specs.Edits.{edited}
use Rattle.cu_model.specs.Networks.{NetworkValue}
use Rattle.cu_model.specs.Orders.{OrderValue}
use Rattle.cu_interval.specs.Hierarchies.{HierarchyValue, IsHierarchy}
use Rattle.cu_resettled.specs.ResettlingAll.{IsResettledAll, IsResettledInTurn, LeaveNetworks, edited_all}
use Rattle.cu_resettled.proofs.ResettledBuilt.{resettled_built}
use Rattle.cu_resettled.proofs.ResettledThere.{at_once_in_turn}
use Rattle.cu_session.specs.AtOnce.{AreSaid, IsSaid, IsSaidOf}
use Rattle.cu_session.specs.Held.{AreDone, IsDoneReplyTo, IsHeldDone, edit_asked_of}
use Rattle.cu_session.specs.Questions.{Asked, Asks, AsksEdit, Fails}
use Rattle.cu_session.specs.Scripts.{line_limit}

-- the edits of a line, and those behind it, leave networks
leave_line : (g : NetworkValue) (order : OrderValue) (asked : Asked) (reply : List ℕ) (made more : List Edit) → IsSaidOf g order asked reply made
    → LeaveNetworks (edited_all g made) more → LeaveNetworks g (made ++ more)
leave_line g order (Asks question) reply made more said rest = absurd said
leave_line g order (AsksEdit edit) reply made more (counted, is) rest =
    subst (λ (edits : List Edit). LeaveNetworks g (edits ++ more)) (sym is)
    (counted.network, subst (λ (edits : List Edit). LeaveNetworks (edited_all g edits) more) is rest)
leave_line g order (Fails words) reply made more (said, is) rest =
    subst (λ (edits : List Edit). LeaveNetworks g (edits ++ more)) (sym is) (subst (λ (edits : List Edit). LeaveNetworks (edited_all g edits) more) is rest)

leave_by : (g : NetworkValue) (order : OrderValue) (long : Bool) (asked : Asked) (reply : List ℕ) (made more : List Edit)
    → MatchBool long ((reply ≡ codes "refused: long") × (made ≡ [])) (IsSaidOf g order asked reply made)
    → LeaveNetworks (edited_all g made) more → LeaveNetworks g (made ++ more)
leave_by g order true asked reply made more (said, is) rest =
    subst (λ (edits : List Edit). LeaveNetworks g (edits ++ more)) (sym is) (subst (λ (edits : List Edit). LeaveNetworks (edited_all g edits) more) is rest)
leave_by g order false asked reply made more said rest = leave_line g order asked reply made more said rest

leave_all : (g : NetworkValue) (order : OrderValue) (lines : List (List ℕ)) (output : List ℕ) (edits : List Edit) → AreSaid g order lines output edits → LeaveNetworks g edits
leave_all g order [] output edits (said, none) = subst (LeaveNetworks g) (sym none) tt
leave_all g order (line ∷ lines) output edits (reply, made, rest, more, said, others, out, all) =
    subst (LeaveNetworks g) (sym all) (leave_by g order (nat_lt line_limit (length line)) _ reply made more said
    (leave_all (edited_all g made) order lines rest more others))

-- what a line leaves of a hierarchy, and how it goes on from there
record GoesOn (h : HierarchyValue) (made more : List Edit) (new after : HierarchyValue) : Type 0 where
  sound : IsHierarchy after
  network : after.network ≡ edited_all h.network made
  order : after.order ≡ h.order
  turns : IsResettledInTurn after more new

module _ (h : HierarchyValue) (sound : IsHierarchy h) (more : List Edit) (new : HierarchyValue) where
  goes_still : (made : List Edit) → made ≡ [] → IsResettledInTurn h (made ++ more) new → GoesOn h made more new h
  goes_still made is turns = record {
    sound = sound;
    network = ap (edited_all h.network) (sym is);
    order = refl;
    turns = subst (λ (edits : List Edit). IsResettledInTurn h (edits ++ more) new) is turns;
  }

  done_of : (asked : Asked) (reply : List ℕ) (made : List Edit) → IsSaidOf h.network h.order asked reply made → IsResettledInTurn h (made ++ more) new
      → (after : HierarchyValue) × IsDoneReplyTo h asked reply after × GoesOn h made more new after
  done_of (Asks question) reply made said turns = absurd said
  done_of (Fails words) reply made (said, is) turns = (h, (said, refl), goes_still made is turns)
  done_of (AsksEdit edit) reply made (counted, is) turns =
      let (mid, between, settled, rest) = subst (λ (edits : List Edit). IsResettledInTurn h (edits ++ more) new) is turns in
      let done : IsHeldDone h edit reply mid = record {
        count = counted.count;
        touches = counted.touches;
        said = counted.said;
        resettled = settled;
        sound = between;
        built = λ built. resettled_built h mid edit built counted.range between settled;
      } in
      (mid, done, record { sound = between; network = settled.network ∙ ap (edited_all h.network) (sym is); order = settled.order; turns = rest })

  done_by : (long : Bool) (asked : Asked) (reply : List ℕ) (made : List Edit)
      → MatchBool long ((reply ≡ codes "refused: long") × (made ≡ [])) (IsSaidOf h.network h.order asked reply made) → IsResettledInTurn h (made ++ more) new
      → (after : HierarchyValue) × MatchBool long ((reply ≡ codes "refused: long") × (after ≡ h)) (IsDoneReplyTo h asked reply after) × GoesOn h made more new after
  done_by true asked reply made (said, is) turns = (h, (said, refl), goes_still made is turns)
  done_by false asked reply made said turns = done_of asked reply made said turns

done_in_turn : (h new : HierarchyValue) (lines : List (List ℕ)) (output : List ℕ) (edits : List Edit) → IsHierarchy h → AreSaid h.network h.order lines output edits
    → IsResettledInTurn h edits new → AreDone h lines output new
done_in_turn h new [] output edits sound (said, none) turns = (said, subst (λ (es : List Edit). IsResettledInTurn h es new) none turns)
done_in_turn h new (line ∷ lines) output edits sound (reply, made, rest, more, said, others, out, all) turns =
    let here = subst (λ (es : List Edit). IsResettledInTurn h es new) all turns in
    let (after, done, on) = done_by h sound more new (nat_lt line_limit (length line)) (edit_asked_of h (without_return line)) reply made said here in
    let left : AreSaid after.network after.order lines rest more =
    subst (λ (g : NetworkValue). AreSaid g after.order lines rest more) (sym on.network)
    (subst (λ (o : OrderValue). AreSaid (edited_all h.network made) o lines rest more) (sym on.order) others) in
    (reply, after, rest, done, done_in_turn after new lines rest more on.sound left on.turns, out)

-- edits behind others
all_behind : (g : NetworkValue) (first more : List Edit) → edited_all g (first ++ more) ≡ edited_all (edited_all g first) more
all_behind g [] more = refl
all_behind g (edit ∷ first) more = all_behind (edited g edit) first more

-- one more line is said, over the network as edited by those before it
pub said_more : (g : NetworkValue) (order : OrderValue) (lines : List (List ℕ)) (output : List ℕ) (edits : List Edit) (line reply : List ℕ) (made : List Edit)
    → AreSaid g order lines output edits → IsSaid (edited_all g edits) order line reply made
    → AreSaid g order (lines ++ line ∷ []) (output ++ (reply ++ 10 ∷ [])) (edits ++ made)
said_more g order [] output edits line reply made (said, none) is =
    let here : IsSaid g order line reply made = subst (λ (es : List Edit). IsSaid (edited_all g es) order line reply made) none is in
    (reply, made, [], [], here, (refl, refl), rw said (sym (append-nil (reply ++ 10 ∷ []))), rw none (sym (append-nil made)))
said_more g order (first ∷ lines) output edits line reply made (text, some, rest, more, says, others, out, all) is =
    let behind : IsSaid (edited_all (edited_all g some) more) order line reply made =
    subst (λ (h : NetworkValue). IsSaid h order line reply made) (ap (edited_all g) all ∙ all_behind g some more) is in (
      text,
      some,
      rest ++ (reply ++ 10 ∷ []),
      more ++ made,
      says,
      said_more (edited_all g some) order lines rest more line reply made others behind,
      ap (λ (t : List ℕ). t ++ (reply ++ 10 ∷ [])) out ∙ append_assoc (text ++ 10 ∷ []) rest (reply ++ 10 ∷ []),
      ap (λ (es : List Edit). es ++ made) all ∙ append_assoc some more made,
    )

-- so edits that were resettled at once were done line by line
pub done_at_once : (h new : HierarchyValue) (lines : List (List ℕ)) (output : List ℕ) (edits : List Edit) → IsHierarchy h → IsHierarchy new
    → AreSaid h.network h.order lines output edits → IsResettledAll h edits new → AreDone h lines output new
done_at_once h new lines output edits sound more said settled =
    done_in_turn h new lines output edits sound said
    (at_once_in_turn h new edits sound more (leave_all h.network h.order lines output edits said) settled)
