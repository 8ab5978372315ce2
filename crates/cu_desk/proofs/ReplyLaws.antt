-- Replies of a desk, by what its lines ask for.
use Rattle.std.proofs.Common.{◌≡◌, ◌++◌, ◌∙◌, ℕ, List, Bool, true, false, Option, Some, None, Result, Ok, Err, refl, sym, ap, subst, decimal}
use Rattle.std.specs.Prelude.{IsOk, bytes_eq, codes, length}
use Rattle.std.specs.Option.{option_map}
use Rattle.cu_model.specs.declared.queries.Query.{Query}
use Rattle.cu_model.specs.declared.roads.Edit.{Edit}
use Rattle.cu_model.specs.Networks.{NetworkValue}
use Rattle.cu_model.specs.Queries.{fields_of_line}
use Rattle.cu_interval.specs.Hierarchies.{HierarchyValue}
use Rattle.cu_router.specs.Answers.{IsHeldAnswer}
use Rattle.cu_script.specs.declared.lines.EditRefusal.{EditRefusal}
use Rattle.cu_script.specs.EditLines.{edit_of}
use Rattle.cu_desk.specs.declared.lines.Kind.{Kind}
use Rattle.cu_desk.specs.DeskLines.{asked_as, asked_by_edit, checked_client, client_asked, desk_asked_of, fields_asked, kind_of}
use Rattle.cu_desk.specs.HeldDesks.{HeldDesk, IsHeldDeskReply, MakesHeld, TouchesHeld, state_of}
use Rattle.cu_desk.specs.Machine.{AsksEdit, AsksQuery, Begins, DeskAsked, DeskState, Edits, FailsFor, Fails, Work, said_to}
use Rattle.cu_desk.specs.Machine.{AsksCancel, AsksStep}
use Rattle.cu_desk.specs.Steps.Refused.{IsRefusal}

-- the reply to what is asked otherwise
pub asked_so : (desk after : HeldDesk) (asked other : DeskAsked) (reply : List ℕ) → other ≡ asked → IsHeldDeskReply desk asked reply after
    → IsHeldDeskReply desk other reply after
asked_so desk after asked other reply same is = subst (λ (a : DeskAsked). IsHeldDeskReply desk a reply after) (sym same) is

-- a refusal changes nothing
pub refused_reply : (desk : HeldDesk) (asked : DeskAsked) (reply : List ℕ) → IsRefusal asked reply → IsHeldDeskReply desk asked reply desk
refused_reply desk (FailsFor client words) reply is = (is, refl)
refused_reply desk (Fails words) reply is = (is, refl)
refused_reply desk AsksStep reply is = absurd is
refused_reply desk (AsksCancel client) reply is = absurd is
refused_reply desk (AsksQuery client query) reply is = absurd is
refused_reply desk (AsksEdit client edit) reply is = absurd is

-- what a line asks for that is no step
pub line_asks : (g : NetworkValue) (line : List ℕ) → bytes_eq line (codes "step") ≡ false
    → desk_asked_of g line ≡ fields_asked g.nodes (length g.arcs) (length g.profiles) (fields_of_line line)
line_asks g line other = rw other refl

pub step_asks : (g : NetworkValue) (line : List ℕ) → bytes_eq line (codes "step") ≡ true → desk_asked_of g line ≡ AsksStep
step_asks g line step = rw step refl

-- what a client's text of this kind asks for
pub kind_asks : (k : Kind) (nodes arcs profiles client : ℕ) (fields : List (List ℕ)) → k ≡ kind_of fields
    → client_asked nodes arcs profiles client fields ≡ checked_client client (asked_as k nodes arcs profiles client fields)
kind_asks k nodes arcs profiles client fields is = ap (λ (t : Kind). checked_client client (asked_as t nodes arcs profiles client fields)) (sym is)

-- the reply to a query is the answer of what is published
pub query_reply : (desk after : HeldDesk) (client : ℕ) (query : Query) (text : List ℕ) → IsHeldAnswer desk.published query text → after ≡ desk
    → IsHeldDeskReply desk (AsksQuery client query) (said_to client text) after
query_reply desk after client query text answer same = (text, answer, refl, ap state_of same)

-- an edit that passes its checks
pub some_edit : (asked : Result Edit EditRefusal) → IsOk asked → (edit : Edit) × (asked ≡ Ok edit)
some_edit (Ok edit) ok = (edit, refl)
some_edit (Err refusal) ok = absurd (cc ok)

-- what an edit line asks for, by its check against so many roads and profiles
pub edit_asks : (g : NetworkValue) (client arcs profiles : ℕ) (line : List ℕ) (asked : Result Edit EditRefusal) → arcs ≡ length g.arcs → profiles ≡ length g.profiles
    → edit_of arcs profiles line ≡ asked
    → checked_client client (asked_by_edit client (edit_of (length g.arcs) (length g.profiles) line)) ≡ checked_client client (asked_by_edit client asked)
edit_asks g client arcs profiles line asked arcs_are profiles_are is =
    ap (λ (r : Result Edit EditRefusal). checked_client client (asked_by_edit client r))
    (ap (λ many. edit_of many (length g.profiles) line) (sym arcs_are) ∙ ap (λ many. edit_of arcs many line) (sym profiles_are) ∙ is)

-- while one is in work another is answered so
busy_edits : (work : Option Work) (desk : DeskState HierarchyValue) (client owner : ℕ) (edit : Edit) → Some owner ≡ option_map (λ (w : Work). w.client) work
    → Edits TouchesHeld MakesHeld work desk client edit (said_to client (codes "busy " ++ decimal owner)) desk
busy_edits None desk client owner edit is = absurd (cc is)
busy_edits (Some work) desk client owner edit is =
    let same : owner ≡ work.client = cc is in
    (ap (λ (c : ℕ). said_to client (codes "busy " ++ decimal c)) same, refl)

pub busy_reply : (desk : HeldDesk) (client owner : ℕ) (asked : Result Edit EditRefusal) → IsOk asked → Some owner ≡ option_map (λ (w : Work). w.client) desk.work
    → IsHeldDeskReply desk (asked_by_edit client asked) (said_to client (codes "busy " ++ decimal owner)) desk
busy_reply desk client owner asked ok is =
    let (edit, same) = some_edit asked ok in
    asked_so desk desk (AsksEdit client edit) (asked_by_edit client asked) _ (ap (asked_by_edit client) same) (busy_edits desk.work (state_of desk) client owner edit is)

-- and while none is, it is begun
pub none_owned : (work : Option Work) → None ≡ option_map (λ (w : Work). w.client) work → work ≡ None
none_owned None is = refl
none_owned (Some work) is = absurd (cc is)

pub begun_reply : (desk after : HeldDesk) (client : ℕ) (asked : Result Edit EditRefusal) (edit : Edit) (reply : List ℕ) → asked ≡ Ok edit → desk.work ≡ None
    → Begins TouchesHeld MakesHeld (state_of desk) client edit reply (state_of after) → IsHeldDeskReply desk (asked_by_edit client asked) reply after
begun_reply desk after client asked edit reply same none begins =
    asked_so desk after (AsksEdit client edit) (asked_by_edit client asked) reply (ap (asked_by_edit client) same)
    (subst (λ (w : Option Work). Edits TouchesHeld MakesHeld w (state_of desk) client edit reply (state_of after)) (sym none) begins)
