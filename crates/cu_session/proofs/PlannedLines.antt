-- Lines of edits that are planned one after the other, made together, and answered then.
use Rattle.std.proofs.Common.{◌≡◌, ◌≤◌, ◌<◌, ◌+◌, ◌++◌, ◌∙◌, ℕ, zero, suc, List, [], ◌∷◌, length, take, get_or, refl, sym, ap, subst, arith, inl, inr, append_assoc, decimal}
use Rattle.std.specs.Prelude.{Some, None, Result, Ok, Err, IsErr, codes}
use Rattle.std.proofs.lemmas.Bool.{le-ltb, lt-ltb}
use Rattle.std.proofs.lemmas.List.{append-nil, take_all}
use Rattle.cu_io.specs.Lines.{lines_of, without_return}
use Rattle.cu_io.specs.Sinks.{SinkState, WroteLine}
use Rattle.cu_io.specs.Transfers.{Appends}
use Rattle.cu_io.specs.declared.sink.SinkFailed.{SinkFailed}
use Rattle.cu_io.proofs.Appending.{appends_nothing, appends_more, appends_then}
use Rattle.cu_model.specs.declared.roads.Edit.{Edit}
use Rattle.cu_model.specs.Edits.{IsEditInRange}
use Rattle.cu_model.specs.Networks.{IsNetwork, NetworkValue}
use Rattle.cu_model.specs.Orders.{OrderValue}
use Rattle.cu_interval.specs.Hierarchies.{HierarchyValue, IsHierarchy}
use Rattle.cu_resettled.specs.ResettlingAll.{edited_all}
use Rattle.cu_resettled.proofs.ResettledThere.{edges_all}
use Rattle.cu_resettled.proofs.TouchedBySome.{edited_more}
use Rattle.cu_edits.proofs.EditedLists.{arcs_all, profiles_all}
use Rattle.cu_edits.specs.EditLists.{CountsTouched, EditListValue, FitsList}
use Rattle.cu_script.specs.declared.lines.EditRefusal.{EditRefusal}
use Rattle.cu_script.specs.EditLines.{edit_of}
use Rattle.cu_router.specs.Edited.{IsEditedAll}
use Rattle.cu_session.specs.declared.editing.Said.{Said}
use Rattle.cu_session.specs.declared.stops.SessionStop.TheVariants as stop
use Rattle.cu_session.specs.AtOnce.{AreSaid, IsCounted, IsSaid, IsSaidOf}
use Rattle.cu_session.specs.Held.{AreDone, edit_asked_of}
use Rattle.cu_session.specs.Questions.{asked_by_edit}
use Rattle.cu_session.specs.Refusals.{edit_check_words}
use Rattle.cu_session.specs.Scripts.{line_limit}
use Rattle.cu_session.specs.Sessions.{EndsEdits}
use Rattle.cu_session.specs.Steps.Planning.{IsPlanning, WritesText, said_text, said_texts}
use Rattle.cu_session.proofs.DoneAtOnce.{done_at_once, said_more}

-- an edit that is planned behind others is counted over the network that they leave
pub counted_behind : (h : HierarchyValue) → IsHierarchy h → (edits : List Edit) (edit : Edit) (count : ℕ) → CountsTouched h (edited_all h.network edits) edit count
    → IsEditInRange (edited_all h.network edits) edit → IsNetwork (edited_all h.network (edits ++ edit ∷ []))
    → IsCounted (edited_all h.network edits) h.order edit (codes "done " ++ decimal count)
counted_behind h sound edits edit count counts range network = record {
  count = count;
  touches = record {
    edges = h.edges;
    listed = edges_all h.network h.order edits h.edges sound.edges;
    touched = counts.touched;
    rising = counts.numbers.rising;
    exact = counts.numbers.exact;
    counted = counts.counted;
  };
  said = refl;
  range = range;
  network = subst IsNetwork (edited_more h.network edits edit) network;
}

-- what is said of a line that makes an edit, of one that fails a check, and of one that is too long
pub said_done : (g : NetworkValue) (order : OrderValue) (edit : Edit) (reply : List ℕ) (asked : Result Edit EditRefusal) → asked ≡ Ok edit → IsCounted g order edit reply
    → IsSaidOf g order (asked_by_edit asked) reply (edit ∷ [])
said_done g order edit reply asked is counted = rw is (counted, refl)

pub said_refused : (g : NetworkValue) (order : OrderValue) (refusal : EditRefusal) (asked : Result Edit EditRefusal) → asked ≡ Err refusal
    → IsSaidOf g order (asked_by_edit asked) (codes "refused: " ++ edit_check_words refusal) []
said_refused g order refusal asked is = rw is (refl, refl)

pub said_long : (g : NetworkValue) (order : OrderValue) (line : List ℕ) → line_limit < length line → IsSaid g order line (codes "refused: long") []
said_long g order line long = rw (lt-ltb line_limit (length line) long) (refl, refl)

pub said_short : (h : HierarchyValue) (edits : List Edit) (line text reply : List ℕ) (made : List Edit) → length line ≤ line_limit → text ≡ without_return line
    → IsSaidOf (edited_all h.network edits) h.order (edit_asked_of h text) reply made → IsSaid (edited_all h.network edits) h.order line reply made
said_short h edits line text reply made short trimmed said =
    let g = edited_all h.network edits in
    let of : ℕ → ℕ → List ℕ → Type 0 = λ arcs profiles t. IsSaidOf g h.order (asked_by_edit (edit_of arcs profiles t)) reply made in
    let own : of (length g.arcs) (length g.profiles) (without_return line) =
    subst (of (length g.arcs) (length g.profiles)) trimmed
    (subst (λ (n : ℕ). of (length g.arcs) n text) (sym (profiles_all h.network edits))
    (subst (λ (n : ℕ). of n (length h.network.profiles) text) (sym (arcs_all h.network edits)) said)) in
    rw (le-ltb line_limit (length line) short) own

-- what is said of one line more
texts_more : (said : List Said) (one : Said) → said_texts (said ++ one ∷ []) ≡ said_texts said ++ (said_text one ++ 10 ∷ [])
texts_more [] one = append-nil (said_text one ++ 10 ∷ [])
texts_more (first ∷ said) one =
    ap (λ (t : List ℕ). (said_text first ++ 10 ∷ []) ++ t) (texts_more said one) ∙ sym (append_assoc (said_text first ++ 10 ∷ []) (said_texts said) (said_text one ++ 10 ∷ []))

pub planning_none : (h : HierarchyValue) (text : List ℕ) (said : List Said) (edits : EditListValue) → said ≡ [] → FitsList h edits → edits.edits ≡ [] → IsPlanning h text text said edits
planning_none h text said edits nothing fits none = record { fits = fits; lines = []; cut = refl; are = (ap said_texts nothing, none) }

module _ (h : HierarchyValue) (text rest : List ℕ) (said : List Said) (edits : EditListValue) (p : IsPlanning h text rest said edits) where
  pub planning_more : (line behind : List ℕ) → lines_of rest ≡ line ∷ lines_of behind → (one : Said) (made : List Edit)
      → IsSaid (edited_all h.network edits.edits) h.order line (said_text one) made → (new : EditListValue) → new.edits ≡ edits.edits ++ made → FitsList h new
      → (grown : List Said) → grown ≡ said ++ one ∷ [] → IsPlanning h text behind grown new
  planning_more line behind cut one made is new more fits grown grows =
      let are = said_more h.network h.order p.lines (said_texts said) edits.edits line (said_text one) made p.are is in
      let texts = ap said_texts grows ∙ texts_more said one in record {
        fits = fits;
        lines = p.lines ++ line ∷ [];
        cut = p.cut ∙ ap (λ (t : List (List ℕ)). p.lines ++ t) cut ∙ sym (append_assoc p.lines (line ∷ []) (lines_of behind));
        are = subst (λ (t : List ℕ). AreSaid h.network h.order (p.lines ++ line ∷ []) t new.edits) (sym texts)
            (subst (AreSaid h.network h.order (p.lines ++ line ∷ []) (said_texts said ++ (said_text one ++ 10 ∷ []))) (sym more) are);
      }

  pub planning_all : rest ≡ [] → AreSaid h.network h.order (lines_of text) (said_texts said) edits.edits
  planning_all none =
      let all : lines_of text ≡ p.lines = p.cut ∙ ap (λ (t : List ℕ). p.lines ++ lines_of t) none ∙ append-nil p.lines in
      subst (λ (lines : List (List ℕ)). AreSaid h.network h.order lines (said_texts said) edits.edits) (sym all) p.are

pub no_bytes : (xs : List ℕ) → length xs ≡ 0 → xs ≡ []
no_bytes [] none = refl
no_bytes (x ∷ xs) none = absurd (omega (arith, none))

-- so many of the replies
pub texts_take : (said : List Said) (i : ℕ) (d : Said) → i < length said → said_texts (take (i + 1) said) ≡ said_texts (take i said) ++ (said_text (get_or said i d) ++ 10 ∷ [])
texts_take [] i d lt = absurd (omega (arith, lt))
texts_take (first ∷ said) zero d lt = append-nil (said_text first ++ 10 ∷ [])
texts_take (first ∷ said) (suc i) d lt =
    let next : suc i + 1 ≡ suc (i + 1) = omega arith in
    ap (λ (n : ℕ). said_texts (take n (first ∷ said))) next
    ∙ ap (λ (t : List ℕ). (said_text first ++ 10 ∷ []) ++ t) (texts_take said i d (omega (arith, lt)))
    ∙ sym (append_assoc (said_text first ++ 10 ∷ []) (said_texts (take i said)) (said_text (get_or said i d) ++ 10 ∷ []))

pub texts_rest : (said : List Said) (i : ℕ) (d : Said) → i < length said
    → (more : List ℕ) × (said_texts said ≡ (said_texts (take i said) ++ (said_text (get_or said i d) ++ 10 ∷ [])) ++ more)
texts_rest [] i d lt = absurd (omega (arith, lt))
texts_rest (first ∷ said) zero d lt = (said_texts said, refl)
texts_rest (first ∷ said) (suc i) d lt =
    let (more, is) = texts_rest said i d (omega (arith, lt)) in
    let own = said_text first ++ 10 ∷ [] in
    let front = said_texts (take i said) in
    let one = said_text (get_or said i d) ++ 10 ∷ [] in
    (more, ap (λ (t : List ℕ). own ++ t) is ∙ sym (append_assoc own (front ++ one) more) ∙ ap (λ (t : List ℕ). t ++ more) (sym (append_assoc own front one)))

-- a text that is written line by line
pub writes_none : (k : SinkState) → WritesText (Ok tt) [] k k
writes_none k = (appends_nothing k.written, inl refl, refl, omega arith)

pub writes_more : {before k now : SinkState} (text reply : List ℕ) → WritesText (Ok tt) text before k → WroteLine {T = Unit {0}} {E = SinkFailed} k now (Ok tt) reply
    → WritesText (Ok tt) (text ++ (reply ++ 10 ∷ [])) before now
writes_more {before = before} {k = k} {now = now} text reply (app, flushed, quiet, rises) wrote = (
  appends_more before.written k.written now.written text (reply ++ 10 ∷ []) app wrote.wrote.ok,
  inr wrote.flushed,
  wrote.wrote.quiet ∙ quiet,
  omega (arith, rises, wrote.wrote.flushed),
)

take_front : (n : ℕ) (xs ys : List ℕ) → n ≤ length xs → take n (xs ++ ys) ≡ take n xs
take_front zero xs ys le = refl
take_front (suc n) [] ys le = absurd (omega (arith, le))
take_front (suc n) (x ∷ xs) ys le = ap (λ (t : List ℕ). x ∷ t) (take_front n xs ys (omega (arith, le)))

pub writes_stop : {before k now : SinkState} {failed : SinkFailed} (text reply more whole : List ℕ) (why : SinkFailed) → WritesText (Ok tt) text before k
    → WroteLine {T = Unit {0}} {E = SinkFailed} k now (Err failed) reply → whole ≡ (text ++ (reply ++ 10 ∷ [])) ++ more → WritesText (Err why) whole before now
writes_stop {before = before} {k = k} {now = now} text reply more whole why (app, flushed, quiet, rises) wrote is =
    let (count, within, some) = appends_then before.written k.written now.written text (reply ++ 10 ∷ []) app wrote.wrote.err in
    let same = ap (take count) is ∙ take_front count (text ++ (reply ++ 10 ∷ [])) more within in (
      (count, subst (Appends before.written now.written) (sym same) some),
      omega (arith, quiet, wrote.wrote.cause),
      omega (arith, quiet, wrote.wrote.later),
      omega (arith, rises, wrote.wrote.flushed),
    )

pub writes_err : (before now : SinkState) (whole : List ℕ) (r : Result (Unit {0}) SinkFailed) → IsErr r → ((failed : SinkFailed) → WritesText (Err failed) whole before now)
    → WritesText r whole before now
writes_err before now whole (Ok value) is failed = absurd (cc is)
writes_err before now whole (Err why) is failed = failed why

-- how the edits of a text end
pub nothing_made : (h now : HierarchyValue) (text : List ℕ) (k : SinkState) → now ≡ h → EndsEdits h now text (Some stop.NoMemory) k k
nothing_made h now text k same = record {
  output = [];
  appends = appends_nothing k.written;
  done = (0, (refl, same));
  flushed = λ _. inl refl;
  sink_fault = λ sink. absurd (cc sink);
  quiet = λ _. refl;
  later = omega arith;
  rises = omega arith;
}

module _ (h new : HierarchyValue) (text : List ℕ) (edits : List Edit) (said : List Said) (are : AreSaid h.network h.order (lines_of text) (said_texts said) edits)
    (made : IsEditedAll h edits new) (before now : SinkState) where
  all_done : AreDone h (lines_of text) (said_texts said) new
  all_done = done_at_once h new (lines_of text) (said_texts said) edits made.sound made.after are made.resettled

  pub edits_ended : WritesText (Ok tt) (said_texts said) before now → EndsEdits h new text None before now
  edits_ended (app, flushed, quiet, rises) = record {
    output = said_texts said;
    appends = app;
    done = all_done;
    flushed = λ _. flushed;
    sink_fault = λ sink. absurd (cc sink);
    quiet = λ _. quiet;
    later = omega (arith, quiet);
    rises = rises;
  }

  pub edits_broken : (failed : SinkFailed) → WritesText (Err failed) (said_texts said) before now → EndsEdits h new text (Some stop.Sink) before now
  edits_broken failed ((count, app), rose, later, rises) =
      let lines = lines_of text in
      let front : take (length lines) lines ≡ lines = take_all (length lines) lines (omega arith) in record {
        output = take count (said_texts said);
        appends = app;
        done = (length lines, said_texts said, subst (λ (t : List (List ℕ)). AreDone h t (said_texts said) new) (sym front) all_done, (count, refl));
        flushed = λ other. absurd (other refl);
        sink_fault = λ _. rose;
        quiet = λ other. absurd (other refl);
        later = later;
        rises = rises;
      }
