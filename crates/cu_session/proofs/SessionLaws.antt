-- A script that is being answered, turn by turn.
use Rattle.std.proofs.Common.{◌≡◌, ◌<◌, ◌≤◌, ◌+◌, ◌++◌, ◌∙◌, ℕ, List, [], ◌∷◌, true, false, length, take, refl, sym, ap, subst, arith, inl, inr, append_assoc, length-append}
use Rattle.std.specs.Prelude.{Bool, Option, Some, None, Result, Ok, Err, IfSome, IsErrAnd, codes, nat_lt}
use Rattle.std.proofs.lemmas.Bool.{cases_Bool, ltb-true, lt-ltb}
use Rattle.std.proofs.lemmas.List.{append-nil}
use Rattle.std.proofs.lemmas.List.Sums.{sum_by_push}
use Rattle.cu_io.specs.Lines.{IsFirstLine, without_return, lines_of}
use Rattle.cu_io.specs.LineReading.{ReaderState, TakesLine, Finds}
use Rattle.cu_io.specs.Sinks.{SinkState, WroteLine}
use Rattle.cu_io.specs.Sources.{SourceState}
use Rattle.cu_io.specs.Transfers.{Appends, AppendsSome, Takes}
use Rattle.cu_io.specs.declared.line_reader.Found.TheVariants as found
use Rattle.cu_io.proofs.Appending.{appends_nothing, appends_more}
use Rattle.cu_io.proofs.Cutting.{cut_none, cut_line, cut_end, cut_open}
use Rattle.cu_io.proofs.Taking.{takes_more, takes_nothing}
use Rattle.cu_interval.specs.Hierarchies.{HierarchyValue}
use Rattle.cu_session.specs.declared.stops.SessionStop.{SessionStop}
use Rattle.cu_session.specs.declared.stops.SessionStop.TheVariants as stop
use Rattle.cu_session.specs.Held.{IsTextReply}
use Rattle.cu_session.specs.Scripts.{AreReplied, IsLineReply, line_limit}
use Rattle.cu_session.specs.Sessions.{AnswersBy, EndsLines, EndsSession, Leaves, line_bytes, session_status, take_limit}
use Rattle.cu_session.specs.Steps.Turns.{Session, left_to_read}
use Rattle.cu_session.proofs.Legal.{legal_where_built}
use Rattle.cu_session.proofs.Outputs.{replied_more, front_lines}

-- an error that is known
pub err_is : {T E : Type 0} (r : Result T E) (e : E) → IsErrAnd r (λ d. d ≡ e) → r ≡ Err e
err_is {T = T} {E = E} (Ok x) e h = absurd h
err_is {T = T} {E = E} (Err d) e h = let f : E → Result T E = λ t. Err t in ap f h

-- the reply to the text of a line within the limit
pub text_reply : {State : Type 0} (Replies : State → List ℕ → List ℕ → State → Type 0) (state after : State) (line text reply : List ℕ) → length line ≤ line_limit
    → text ≡ without_return line → Replies state text reply after → IsLineReply Replies state line reply after
text_reply Replies state after line text reply short is right =
    let same = subst (λ (t : List ℕ). Replies state t reply after) is right in
    elim (cases_Bool (nat_lt line_limit (length line))) [
      | inl long ↦ absurd (omega (arith, short, ltb-true line_limit (length line) long))
      | inr not_long ↦ rw not_long same
    ]

-- the reply to a longer line
pub long_reply : {State : Type 0} (Replies : State → List ℕ → List ℕ → State → Type 0) (state : State) (line : List ℕ) → line_limit < length line
    → IsLineReply Replies state line (codes "refused: long") state
long_reply Replies state line long = rw (lt-ltb line_limit (length line) long) (refl, refl)

-- a line that is handed out leaves fewer bytes
pub falls_by : {r after : ReaderState} {s t : SourceState} {chunk : List ℕ} (line : List ℕ) → TakesLine r after s t chunk → IsFirstLine (r.held ++ chunk) after.shown line after.held
    → left_to_read after < left_to_read r
falls_by {r = r} {after = after} {chunk = chunk} line took (none, inl parts) =
    let size = ap (λ (t : List ℕ). length t) parts in
    omega (arith, size, length-append r.held chunk, length-append line (10 ∷ after.held), took.taken, took.within, took.take_limit)
falls_by {r = r} {after = after} {chunk = chunk} line took (none, inr (over, some, parts, nil)) =
    let size = ap (λ (t : List ℕ). length t) parts in
    let empty = ap (λ (t : List ℕ). length t) nil in
    omega (arith, size, empty, some, length-append r.held chunk, took.taken, took.within, took.take_limit)

-- the bytes that were held and taken are those of the line and those that are held
parts_of : {r after : ReaderState} {s t : SourceState} {chunk : List ℕ} (line : List ℕ) → TakesLine r after s t chunk → IsFirstLine (r.held ++ chunk) after.shown line after.held
    → length r.held + length chunk ≤ length line + 1 + length after.held
parts_of {r = r} {after = after} {chunk = chunk} line took (none, inl parts) =
    let size = ap (λ (t : List ℕ). length t) parts in
    omega (arith, size, length-append r.held chunk, length-append line (10 ∷ after.held))
parts_of {r = r} {after = after} {chunk = chunk} line took (none, inr (over, some, parts, nil)) =
    let size = ap (λ (t : List ℕ). length t) parts in
    omega (arith, size, length-append r.held chunk)

-- nothing was read, taken or written
pub leaves_all : (script : Bool) (status : ℕ) (source : SourceState) (sink : SinkState) → (status ≡ 0 → ⊥) → (status ≡ 7 → ⊥) → (status ≡ 8 → ⊥) → Leaves script status source source sink sink
leaves_all script status source sink some read wrote = record {
  whole = λ _ zero. absurd (some zero);
  flushed = λ other. inl refl;
  source_fault = λ seven. absurd (read seven);
  source_quiet = λ _. refl;
  sink_fault = λ eight. absurd (wrote eight);
  sink_quiet = λ _. refl;
  later = omega arith;
  rises = omega arith;
}

-- a script was answered by the hierarchy of packed bytes; where the first is built the replies are right by the network alone
pub session_ends : (h last : HierarchyValue) (why : Option SessionStop) (source_before source_now : SourceState) (sink_before sink_now : SinkState)
    → EndsLines IsTextReply h last why source_before source_now sink_before sink_now → EndsSession h why source_before source_now sink_before sink_now
session_ends h last why source_before source_now sink_before sink_now done = record {
  taken = done.taken;
  output = done.output;
  takes = done.takes;
  appends = done.appends;
  held = done.answered;
  legal = λ built. legal_where_built h built why done.taken done.output done.answered;
  leaves = done.leaves;
}

-- how the answering ended
ends : {State : Type 0} (Replies : State → List ℕ → List ℕ → State → Type 0) (first last : State) (why : Option SessionStop) (source_before source_now : SourceState)
    (sink_before sink_now : SinkState) (taken output : List ℕ) → Takes source_before.left source_now.left taken → Appends sink_before.written sink_now.written output
    → AnswersBy (λ lines text. (now : State) × AreReplied (IsLineReply Replies) first lines text now) why taken output
    → (why ≡ None → AreReplied (IsLineReply Replies) first (lines_of taken) output last)
    → Leaves true (session_status why) source_before source_now sink_before sink_now → EndsLines Replies first last why source_before source_now sink_before sink_now
ends Replies first last why source_before source_now sink_before sink_now taken output takes appends answered whole leaves =
    record { taken = taken; output = output; takes = takes; appends = appends; answered = answered; whole = whole; leaves = leaves }

-- memory ran out before the script was read
pub nothing_done : {State : Type 0} (Replies : State → List ℕ → List ℕ → State → Type 0) (state : State) (source : SourceState) (sink : SinkState)
    → EndsLines Replies state state (Some stop.NoMemory) source source sink sink
nothing_done Replies state source sink =
    ends Replies state state (Some stop.NoMemory) source source sink sink [] [] (takes_nothing source.left) (appends_nothing sink.written) (refl, refl) (λ e. absurd (cc e))
    (leaves_all true 9 source sink (λ e. cc e) (λ e. cc e) (λ e. cc e))

-- nothing was read yet
pub session_begins : {State : Type 0} (Replies : State → List ℕ → List ℕ → State → Type 0) (state : State) (reader : ReaderState) (source : SourceState) (sink : SinkState)
    → reader ≡ (record { held = []; line = []; taken = 0; shown = false; over = false; line_limit = line_limit; take_limit = take_limit })
    → Session Replies state state source sink reader source sink
session_begins Replies state reader source sink is = rw is (record {
  taken = [];
  lines = [];
  output = [];
  cut = cut_none;
  unspent = λ shown. absurd (cc shown);
  whole = λ shown. absurd (cc shown);
  takes = takes_nothing source.left;
  count = refl;
  parted = omega arith;
  within = omega arith;
  line_limit = refl;
  take_limit = refl;
  replies = (refl, refl);
  appends = appends_nothing sink.written;
  flushed = inl refl;
  source_quiet = refl;
  sink_quiet = refl;
  rises = omega arith;
})

-- a text, and some first bytes of another behind it
appends_more_some : (a b c : Option (List ℕ)) (xs ys : List ℕ) → Appends a b xs → AppendsSome b c ys → (n : ℕ) × (n ≤ length ys) × Appends a c (xs ++ take n ys)
appends_more_some a b c xs ys h (n, within, some) = (n, within, appends_more a b c xs (take n ys) h some)

module _ {State : Type 0} (Replies : State → List ℕ → List ℕ → State → Type 0) (first held : State) (source_before : SourceState) (sink_before : SinkState)
    (r after : ReaderState) (s t : SourceState) (k : SinkState) (h : Session Replies first held source_before sink_before r s k) (chunk : List ℕ)
    (took : TakesLine r after s t chunk) where
  -- the replies to these lines
  abbrev Output : List (List ℕ) → List ℕ → Type 0
  Output lines text = (now : State) × AreReplied (IsLineReply Replies) first lines text now

  taken_now : List ℕ
  taken_now = h.taken ++ chunk

  takes_now : Takes source_before.left t.left (h.taken ++ chunk)
  takes_now = takes_more source_before.left s.left t.left h.taken chunk h.takes took.takes

  count_now : after.taken ≡ length (h.taken ++ chunk)
  count_now = omega (arith, h.count, took.taken, length-append h.taken chunk)

  within_now : after.taken ≤ take_limit
  within_now = omega (arith, took.within, h.take_limit)

  unspent_now : after.shown ≡ true → after.taken < take_limit
  unspent_now shown = elim (cases_Bool r.shown) [
    | inl before ↦ (let (still, same, nil) = took.rests before in omega (arith, h.unspent before, took.taken, ap (λ (t : List ℕ). length t) nil))
    | inr before ↦ omega (arith, took.unspent before shown, took.take_limit, h.take_limit)
  ]

  whole_now : after.shown ≡ true → IfSome t.left (λ bytes. bytes ≡ [])
  whole_now shown = elim (cases_Bool r.shown) [
    | inl before ↦ (let (still, same, nil) = took.rests before in subst (λ (v : SourceState). IfSome v.left (λ bytes. bytes ≡ [])) (sym same) (h.whole before))
    | inr before ↦ took.ends before shown
  ]

  parted_now : (line : List ℕ) → IsFirstLine (r.held ++ chunk) after.shown line after.held
      → length (h.taken ++ chunk) ≤ line_bytes (h.lines ++ line ∷ []) + length after.held
  parted_now line cut_off =
      omega (arith, h.parted, length-append h.taken chunk, parts_of line took cut_off, sum_by_push (λ (l : List ℕ). length l + 1) h.lines line)

  -- a line was answered
  pub answered : {T E : Type 0} {x : T} {now : SinkState} (next : State) (line reply : List ℕ) → IsFirstLine (r.held ++ chunk) after.shown line after.held → t.faults ≡ s.faults
      → IsLineReply Replies held line reply next → WroteLine {T = T} {E = E} k now (Ok x) reply → Session Replies first next source_before sink_before after t now
  answered {now = now} next line reply cut_off quiet is wrote = record {
    taken = h.taken ++ chunk;
    lines = h.lines ++ line ∷ [];
    output = h.output ++ (reply ++ 10 ∷ []);
    cut = cut_line h.taken h.lines line h.cut took cut_off;
    unspent = unspent_now;
    whole = whole_now;
    takes = takes_now;
    count = count_now;
    parted = parted_now line cut_off;
    within = within_now;
    line_limit = took.line_limit ∙ h.line_limit;
    take_limit = took.take_limit ∙ h.take_limit;
    replies = replied_more (IsLineReply Replies) first held next h.lines line h.output reply h.replies is;
    appends = appends_more sink_before.written k.written now.written h.output (reply ++ 10 ∷ []) h.appends wrote.wrote.ok;
    flushed = inr wrote.flushed;
    source_quiet = quiet ∙ h.source_quiet;
    sink_quiet = wrote.wrote.quiet ∙ h.sink_quiet;
    rises = omega (arith, h.rises, wrote.wrote.flushed);
  }

  -- a reply broke off
  pub broke : {T E : Type 0} {e : E} {now : SinkState} (next : State) (line reply : List ℕ) → IsFirstLine (r.held ++ chunk) after.shown line after.held → t.faults ≡ s.faults
      → length after.held ≤ after.line_limit + 1 → IsLineReply Replies held line reply next → WroteLine {T = T} {E = E} k now (Err e) reply → EndsLines Replies first next
      (Some stop.Sink) source_before t sink_before now
  broke {now = now} next line reply cut_off quiet room is wrote =
      let (count, within, app) = appends_more_some sink_before.written k.written now.written h.output (reply ++ 10 ∷ []) h.appends wrote.wrote.err in
      ends Replies first next (Some stop.Sink) source_before t sink_before now (h.taken ++ chunk) (h.output ++ take count (reply ++ 10 ∷ [])) takes_now app
      (record {
        count = length h.lines;
        replies = h.output;
        answered = subst (λ (t : List (List ℕ)). Output t h.output) (sym before) (held, h.replies);
        reply = reply ++ 10 ∷ [];
        broken = subst (λ (t : List (List ℕ)). Output t (h.output ++ (reply ++ 10 ∷ []))) (sym through)
            (next, replied_more (IsLineReply Replies) first held next h.lines line h.output reply h.replies is);
        written = (count, refl);
        within = omega (arith, within_now, count_now);
        ahead = omega (arith, parted_now line cut_off, room, took.line_limit, h.line_limit, ap (λ (t : List (List ℕ)). line_bytes t) through);
      })
      (λ e. absurd (cc e))
      (record {
        whole = λ _ zero. absurd (cc zero);
        flushed = λ broken. absurd (broken refl);
        source_fault = λ source. absurd (cc source);
        source_quiet = λ other. quiet ∙ h.source_quiet;
        sink_fault = λ sink. omega (arith, h.sink_quiet, wrote.wrote.cause);
        sink_quiet = λ broken. absurd (broken refl);
        later = omega (arith, h.sink_quiet, wrote.wrote.later);
        rises = omega (arith, h.rises, wrote.wrote.flushed);
      })
    where
      cut : lines_of (h.taken ++ chunk) ≡ (h.lines ++ line ∷ []) ++ lines_of after.held
      cut =
          let all = (cut_line h.taken h.lines line h.cut took cut_off).cut [] (λ shown. refl) in
          ap (λ (t : List ℕ). lines_of t) (sym (append-nil (h.taken ++ chunk))) ∙ all
          ∙ ap (λ (t : List ℕ). (h.lines ++ line ∷ []) ++ lines_of t) (append-nil after.held)

      before : take (length h.lines) (lines_of (h.taken ++ chunk)) ≡ h.lines
      before =
          ap (λ (t : List (List ℕ)). take (length h.lines) t) (cut ∙ append_assoc h.lines (line ∷ []) (lines_of after.held))
          ∙ front_lines h.lines (line ∷ lines_of after.held)

      through : take (length h.lines + 1) (lines_of (h.taken ++ chunk)) ≡ h.lines ++ line ∷ []
      through =
          ap (λ (n : ℕ). take n (lines_of (h.taken ++ chunk))) (sym (length-append h.lines (line ∷ [])))
          ∙ ap (λ (t : List (List ℕ)). take (length (h.lines ++ line ∷ [])) t) cut ∙ front_lines (h.lines ++ line ∷ []) (lines_of after.held)

  -- the end of input was shown
  pub finished : Finds r after s t chunk found.End → EndsLines Replies first held None source_before t sink_before k
  finished (none, nil, shown, quiet) =
      let lines = cut_end {a = r} {b = after} {s = s} {t = t} h.taken h.lines h.cut took (none, nil, shown, quiet) in
      ends Replies first held None source_before t sink_before k (h.taken ++ chunk) h.output takes_now h.appends
      (omega (arith, unspent_now shown, count_now), subst (λ (t : List (List ℕ)). Output t h.output) (sym lines) (held, h.replies))
      (λ e. subst (λ (t : List (List ℕ)). AreReplied (IsLineReply Replies) first t h.output held) (sym lines) h.replies)
      (record {
        whole = λ _ zero. whole_left source_before.left t.left (h.taken ++ chunk) takes_now (whole_now shown);
        flushed = λ other. h.flushed;
        source_fault = λ source. absurd (cc source);
        source_quiet = λ _. quiet ∙ h.source_quiet;
        sink_fault = λ sink. absurd (cc sink);
        sink_quiet = λ _. h.sink_quiet;
        later = omega (arith, h.sink_quiet);
        rises = h.rises;
      })
    where
      whole_left : (before now : Option (List ℕ)) (taken : List ℕ) → Takes before now taken → IfSome now (λ bytes. bytes ≡ []) → IfSome before (λ _. now ≡ Some [])
      whole_left None now taken h k = tt
      whole_left (Some bytes) None taken h k = absurd (cc h.1)
      whole_left (Some bytes) (Some rest) taken h k = ap (λ (t : List ℕ). Some t) k

  -- the source failed
  pub failed : Finds r after s t chunk found.Fault → EndsLines Replies first held (Some stop.Source) source_before t sink_before k
  failed (none, hidden, below, rose) =
      let lines = cut_open {a = r} {b = after} {s = s} {t = t} h.taken h.lines h.cut took none hidden in
      ends Replies first held (Some stop.Source) source_before t sink_before k (h.taken ++ chunk) h.output takes_now h.appends
      (omega (arith, below, count_now, h.take_limit), subst (λ (t : List (List ℕ)). Output t h.output) (sym lines) (held, h.replies))
      (λ e. absurd (cc e))
      (record {
        whole = λ _ zero. absurd (cc zero);
        flushed = λ other. h.flushed;
        source_fault = λ source. omega (arith, h.source_quiet, rose);
        source_quiet = λ other. absurd (other refl);
        sink_fault = λ sink. absurd (cc sink);
        sink_quiet = λ _. h.sink_quiet;
        later = omega (arith, h.sink_quiet);
        rises = h.rises;
      })

  -- as many bytes were taken as may be
  pub spent : Finds r after s t chunk found.Spent → EndsLines Replies first held (Some stop.TakeLimit) source_before t sink_before k
  spent (none, hidden, all, quiet) =
      let lines = cut_open {a = r} {b = after} {s = s} {t = t} h.taken h.lines h.cut took none hidden in
      ends Replies first held (Some stop.TakeLimit) source_before t sink_before k (h.taken ++ chunk) h.output takes_now h.appends
      (omega (arith, all, count_now, h.take_limit), subst (λ (t : List (List ℕ)). Output t h.output) (sym lines) (held, h.replies))
      (λ e. absurd (cc e))
      (record {
        whole = λ _ zero. absurd (cc zero);
        flushed = λ other. h.flushed;
        source_fault = λ source. absurd (cc source);
        source_quiet = λ _. quiet ∙ h.source_quiet;
        sink_fault = λ sink. absurd (cc sink);
        sink_quiet = λ _. h.sink_quiet;
        later = omega (arith, h.sink_quiet);
        rises = h.rises;
      })
