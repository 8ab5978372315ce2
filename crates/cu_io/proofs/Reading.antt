-- The steps of a line reader on its way to a line.
use Rattle.std.proofs.Common.{◌≡◌, ◌<◌, ◌≤◌, ◌+◌, ◌++◌, ◌∙◌, ◌==◌, ℕ, zero, suc, List, [], ◌∷◌, Bool, false, length, take, drop, get_or, position, refl, sym, ap, subst, arith, inl}
use Rattle.std.proofs.Common.{inr, append_assoc, length-append, length-take, length-drop}
use Rattle.std.specs.Prelude.{Option, None, Some, IfSome, if◌then◌else◌}
use Rattle.std.proofs.Math.Seq.{take-add}
use Rattle.std.proofs.lemmas.Bool.{cases_Bool, eqb-true}
use Rattle.std.proofs.lemmas.List.{append-nil, take-append-drop, drop-drop, take-append-le, take_all}
use Rattle.std.proofs.lemmas.List.Elements.{All-append}
use Rattle.std.proofs.lemmas.List.Quantifiers.{position-Some}
use Rattle.cu_io.specs.Lines.{HasNoFeed, IsFirstLine}
use Rattle.cu_io.specs.LineReading.{ReaderState, TakesLine, Finds}
use Rattle.cu_io.specs.Sources.{SourceState}
use Rattle.cu_io.specs.declared.line_reader.Found.{Found}
use Rattle.cu_io.specs.declared.line_reader.Found.TheVariants as found
use Rattle.cu_io.specs.declared.line_reader.More.TheVariants as more
use Rattle.cu_io.specs.Steps.LineSteps.{IsFeed, Holds, TakesMore, Steps}
use Rattle.cu_io.proofs.LineLaws.{cut_at, front_plain, position-None}
use Rattle.cu_io.proofs.Taking.{takes_more, takes_nothing}

-- where the first line feed stands
pub feed_is : (bytes : List ℕ) (at : Option ℕ) → at ≡ position (λ byte. byte == 10) bytes → IsFeed bytes at
feed_is bytes None h = position-None (λ byte. byte == 10) bytes (sym h)
feed_is bytes (Some at) h =
    let p = position-Some (λ byte. byte == 10) bytes at 0 (sym h) in
    (p.0, front_plain bytes at (sym h), cut_at bytes at 10 p.0 (eqb-true (get_or bytes at 0) 10 p.1))

-- the same, where none stands in the front
pub feed_later_none : (bytes : List ℕ) (from : ℕ) → HasNoFeed (take from bytes) → HasNoFeed (drop from bytes) → HasNoFeed bytes
feed_later_none bytes from front behind =
    subst HasNoFeed (take-append-drop from bytes) (All-append (λ byte. (byte == 10) ≡ false) (take from bytes) (drop from bytes) front behind)

pub feed_later : (bytes : List ℕ) (from at : ℕ) → from ≤ length bytes → HasNoFeed (take from bytes) → IsFeed (drop from bytes) (Some at) → IsFeed bytes (Some (from + at))
feed_later bytes from at within front (lt, plain, parts) =
    let inside : from + at < length bytes = omega (arith, lt, length-drop from bytes, within) in
    let none : HasNoFeed (take (from + at) bytes) =
    subst HasNoFeed (sym (take-add from at bytes)) (All-append (λ byte. (byte == 10) ≡ false) (take from bytes) (take at (drop from bytes)) front plain) in
    let far : from + (at + 1) ≡ from + at + 1 = omega arith in
    let behind : drop (at + 1) (drop from bytes) ≡ drop (from + at + 1) bytes = drop-drop (at + 1) from bytes ∙ ap (λ (n : ℕ). drop n bytes) far in
    let cut : bytes ≡ take (from + at) bytes ++ 10 ∷ drop (from + at + 1) bytes =
    sym (take-append-drop from bytes) ∙ ap (λ (t : List ℕ). take from bytes ++ t) (parts ∙ ap (λ (t : List ℕ). take at (drop from bytes) ++ 10 ∷ t) behind)
    ∙ sym (append_assoc (take from bytes) (take at (drop from bytes)) (10 ∷ drop (from + at + 1) bytes))
    ∙ ap (λ (t : List ℕ). t ++ 10 ∷ drop (from + at + 1) bytes) (sym (take-add from at bytes)) in
    (inside, none, cut)

-- nothing was taken yet
pub holds_nothing : (reader : ReaderState) (source : SourceState) → reader.taken ≤ reader.take_limit → Holds reader reader source source []
holds_nothing reader source within = (
  record {
    takes = takes_nothing source.left;
    tells = refl;
    later = omega arith;
    taken = omega arith;
    within = within;
    line_limit = refl;
    take_limit = refl;
    rests = λ shown. (shown, refl, refl);
    ends = λ hidden shown. absurd (cc (hidden, shown));
    unspent = λ hidden shown. absurd (cc (hidden, shown));
  },
  sym (append-nil reader.held),
  refl,
)

-- bytes were taken, and then more
pub takes_line_then : {a b c : ReaderState} {s t u : SourceState} {xs ys : List ℕ} → TakesLine a b s t xs → TakesLine b c t u ys → TakesLine a c s u (xs ++ ys)
takes_line_then {a = a} {b = b} {c = c} {s = s} {t = t} {u = u} {xs = xs} {ys = ys} h k = record {
  takes = takes_more s.left t.left u.left xs ys h.takes k.takes;
  tells = k.tells ∙ h.tells;
  later = omega (arith, h.later, k.later);
  taken = omega (arith, h.taken, k.taken, length-append xs ys);
  within = omega (arith, k.within, h.take_limit);
  line_limit = k.line_limit ∙ h.line_limit;
  take_limit = k.take_limit ∙ h.take_limit;
  rests = λ shown. (let (next, same, none) = h.rests shown in let (last, still, nil) = k.rests next in (last, still ∙ same, rw (none, nil) refl));
  ends = λ hidden shown. elim (cases_Bool b.shown) [
    | inl next ↦ (let (last, still, nil) = k.rests next in subst (λ (v : SourceState). IfSome v.left (λ bytes. bytes ≡ [])) (sym still) (h.ends hidden next))
    | inr next ↦ k.ends next shown
  ];
  unspent = λ hidden shown. elim (cases_Bool b.shown) [
    | inl next ↦ (let (last, still, nil) = k.rests next in omega (arith, h.unspent hidden next, k.taken, k.take_limit, ap (λ (t : List ℕ). length t) nil))
    | inr next ↦ k.unspent next shown
  ];
}

-- what was held, the last line and the end of the work are no part of what was taken
pub takes_line_same : {a b : ReaderState} {s t : SourceState} {xs : List ℕ} (held line : List ℕ) (over : Bool) → TakesLine a b s t xs
    → TakesLine a (record b { held = held; line = line; over = over }) s t xs
takes_line_same held line over h = record {
  takes = h.takes;
  tells = h.tells;
  later = h.later;
  taken = h.taken;
  within = h.within;
  line_limit = h.line_limit;
  take_limit = h.take_limit;
  rests = h.rests;
  ends = h.ends;
  unspent = h.unspent;
}

pub takes_line_from : {a b : ReaderState} {s t : SourceState} {xs : List ℕ} (held : List ℕ) → TakesLine (record a { held = held }) b s t xs → TakesLine a b s t xs
takes_line_from held h = record {
  takes = h.takes;
  tells = h.tells;
  later = h.later;
  taken = h.taken;
  within = h.within;
  line_limit = h.line_limit;
  take_limit = h.take_limit;
  rests = h.rests;
  ends = h.ends;
  unspent = h.unspent;
}

-- more bytes are held
pub holds_more : {a b c : ReaderState} {s t u : SourceState} {xs ys : List ℕ} → Holds a b s t xs → Holds b c t u ys → Holds a c s u (xs ++ ys)
holds_more {a = a} {xs = xs} {ys = ys} (took, held, over) (more, all, same) =
    (takes_line_then took more, all ∙ ap (λ (t : List ℕ). t ++ ys) held ∙ append_assoc a.held xs ys, same ∙ over)

-- no line feed stands in what was held before more bytes came
pub searched_more : (held chunk all : List ℕ) → HasNoFeed held → all ≡ held ++ chunk → HasNoFeed (take (length held) all)
searched_more held chunk all none is =
    subst HasNoFeed (sym (ap (λ (t : List ℕ). take (length held) t) is ∙ take-append-le (length held) held chunk (omega arith) ∙ take_all (length held) held (omega arith))) none

-- a line feed ends the line
pub found_text : (a b : ReaderState) (s t : SourceState) (chunk : List ℕ) (at : ℕ) → Holds a b s t chunk → IsFeed b.held (Some at) → length b.held ≤ b.line_limit + 1
    → t.faults ≡ s.faults → Steps a (record b { held = drop (at + 1) b.held; line = take at b.held }) s t found.Text
found_text a b s t chunk at (took, held, over) (lt, none, parts) limit quiet =
    let short : length (take at b.held) ≤ a.line_limit = omega (arith, length-take at b.held, lt, limit, took.line_limit) in
    (chunk, takes_line_same (drop (at + 1) b.held) (take at b.held) b.over took, ((none, inl (sym held ∙ parts)), short, quiet), over)

-- the end of input ends it, or shows that there is none
pub found_rest : (a b c : ReaderState) (s t u : SourceState) (chunk : List ℕ) → Holds a b s t chunk → TakesMore b c t u more.End → HasNoFeed b.held → length b.held ≤ b.line_limit
    → t.faults ≡ s.faults → Steps a (record c { held = []; line = c.held }) s u (if length c.held == 0 then found.End else found.Text)
found_rest a b c s t u chunk has (more, next, (shown, nothing, still)) none limit quiet =
    let (took, held, over) = holds_more has next in
    let same : c.held ≡ b.held = next.1 ∙ ap (λ (t : List ℕ). b.held ++ t) nothing ∙ append-nil b.held in
    let plain : HasNoFeed c.held = subst HasNoFeed (sym same) none in
    let taken = takes_line_same [] c.held c.over took in
    elim (cases_Bool (length c.held == 0)) [
      | inl naught ↦ rw naught (chunk ++ more, taken, (sym held ∙ empty c.held (eqb-true (length c.held) 0 naught), refl, shown, still ∙ quiet), over)
      | inr some ↦
          let size : 0 < length c.held = positive (length c.held) some in
          let short : length c.held ≤ a.line_limit = omega (arith, limit, has.0.line_limit, ap (λ (t : List ℕ). length t) same) in
          rw some (chunk ++ more, taken, ((plain, inr (shown, size, sym held, refl)), short, still ∙ quiet), over)
    ]
  where
    empty : (xs : List ℕ) → length xs ≡ 0 → xs ≡ []
    empty [] h = refl
    empty (x ∷ xs) h = absurd (omega (arith, h))

    positive : (n : ℕ) → (n == 0) ≡ false → 0 < n
    positive zero h = absurd (cc h)
    positive (suc n) h = omega arith

-- what later steps find in the bytes held
pub found_later : (a b c : ReaderState) (s t u : SourceState) (chunk : List ℕ) (what : Found) → Holds a b s t chunk → t.faults ≡ s.faults → Steps b c t u what
    → Steps a c s u what
found_later a b c s t u chunk what (took, held, over) quiet (more, next, finds, same) =
    (chunk ++ more, takes_line_then took next, later what finds, same ∙ over)
  where
    bytes : b.held ++ more ≡ a.held ++ (chunk ++ more)
    bytes = ap (λ (t : List ℕ). t ++ more) held ∙ append_assoc a.held chunk more

    later : (what : Found) → Finds b c t u more what → Finds a c s u (chunk ++ more) what
    later found.Text (first, short, still) = (subst (λ (t : List ℕ). IsFirstLine t c.shown c.line c.held) bytes first, omega (arith, short, took.line_limit), still ∙ quiet)
    later found.Long (line, first, long, still) = (line, subst (λ (t : List ℕ). IsFirstLine t c.shown line c.held) bytes first, omega (arith, long, took.line_limit), still ∙ quiet)
    later found.End (none, nil, shown, still) = (sym bytes ∙ none, nil, shown, still ∙ quiet)
    later found.Fault (none, hidden, below, rose) = (subst HasNoFeed bytes none, hidden, omega (arith, below, took.take_limit), omega (arith, took.later, rose))
    later found.Spent (none, hidden, all, still) = (subst HasNoFeed bytes none, hidden, all ∙ took.take_limit, still ∙ quiet)

-- a long line is passed over: bytes that came, and what is held of them
module _ (a b : ReaderState) (s t : SourceState) (chunk : List ℕ) (took : TakesLine a b s t chunk) (none : HasNoFeed (a.held ++ chunk))
    (long : a.line_limit < length a.held) (over : b.over ≡ a.over) (quiet : t.faults ≡ s.faults) where
  abbrev pub drops : ReaderState
  drops = record b { held = [] }

  came : (c : ReaderState) (u : SourceState) (more : List ℕ) → Holds drops c t u more → TakesLine a c s u (chunk ++ more) × (c.held ≡ more) × (c.over ≡ a.over)
  came c u more (next, held, same) = (takes_line_then took (takes_line_from [] next), held, same ∙ over)

  pub passed_feed : (c : ReaderState) (u : SourceState) (at : ℕ) → TakesMore drops c t u more.Bytes → IsFeed c.held (Some at)
      → Steps a (record c { held = drop (at + 1) c.held; line = take at c.held }) s u found.Long
  passed_feed c u at (more, next, (hidden, some, still)) (lt, plain, parts) =
      let (all, held, same) = came c u more next in
      let line = (a.held ++ chunk) ++ take at c.held in
      let bytes : a.held ++ (chunk ++ more) ≡ line ++ 10 ∷ drop (at + 1) c.held =
      sym (append_assoc a.held chunk more) ∙ ap (λ (t : List ℕ). (a.held ++ chunk) ++ t) (sym held ∙ parts)
      ∙ sym (append_assoc (a.held ++ chunk) (take at c.held) (10 ∷ drop (at + 1) c.held)) in
      let far : a.line_limit < length line = omega (arith, long, length-append (a.held ++ chunk) (take at c.held), length-append a.held chunk) in
      let clear = All-append (λ byte. (byte == 10) ≡ false) (a.held ++ chunk) (take at c.held) none plain in
      (chunk ++ more, takes_line_same (drop (at + 1) c.held) (take at c.held) c.over all, (line, (clear, inl bytes), far, still ∙ quiet), same)

  pub passed_end : (c : ReaderState) (u : SourceState) → TakesMore drops c t u more.End → Steps a c s u found.Long
  passed_end c u (more, next, (shown, nothing, still)) =
      let (all, held, same) = came c u more next in
      let bytes : a.held ++ (chunk ++ more) ≡ a.held ++ chunk = ap (λ (t : List ℕ). a.held ++ (chunk ++ t)) nothing ∙ ap (λ (t : List ℕ). a.held ++ t) (append-nil chunk) in
      let far : a.line_limit < length (a.held ++ chunk) = omega (arith, long, length-append a.held chunk) in
      let some : 0 < length (a.held ++ chunk) = omega (arith, far) in
      (chunk ++ more, all, (a.held ++ chunk, (none, inr (shown, some, bytes, held ∙ nothing)), far, still ∙ quiet), same)

  pub passed_more : (c : ReaderState) (u : SourceState) → TakesMore drops c t u more.Bytes → HasNoFeed c.held
      → (more : List ℕ) × TakesLine a c s u (chunk ++ more) × HasNoFeed (a.held ++ (chunk ++ more)) × (c.over ≡ a.over) × (u.faults ≡ s.faults) × (0 < length more)
  passed_more c u (more, next, (hidden, some, still)) plain =
      let (all, held, same) = came c u more next in
      let clear = All-append (λ byte. (byte == 10) ≡ false) (a.held ++ chunk) more none (subst HasNoFeed held plain) in
      (more, all, subst HasNoFeed (append_assoc a.held chunk more) clear, same, still ∙ quiet, some)
