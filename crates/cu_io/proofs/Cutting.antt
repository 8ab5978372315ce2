-- Lines cut off the bytes that a line reader takes, one call after another.
use Rattle.std.proofs.Common.{◌≡◌, ◌+◌, ◌++◌, ◌∙◌, ◌==◌, ℕ, List, [], ◌∷◌, Bool, cond, true, false, length, take, refl, sym, ap, arith, inl, inr, append_assoc, length-append}
use Rattle.std.proofs.lemmas.Bool.{cases_Bool}
use Rattle.std.proofs.lemmas.List.{append-nil, take-append-le, take_all}
use Rattle.std.proofs.lemmas.List.Sums.{sum_by-append}
use Rattle.cu_io.specs.Lines.{lines_of, feeds, ended_lines_of, HasNoFeed, IsFirstLine}
use Rattle.cu_io.specs.LineReading.{ReaderState, TakesLine, Finds}
use Rattle.cu_io.specs.Sources.{SourceState}
use Rattle.cu_io.specs.declared.line_reader.Found.TheVariants as found
use Rattle.cu_io.specs.Steps.Cuts.{IsCut}
use Rattle.cu_io.proofs.LineLaws.{lines_of_plain, lines_of_ended, feeds-cons, feeds_none}

feeds-append : (xs ys : List ℕ) → feeds (xs ++ ys) ≡ feeds xs + feeds ys
feeds-append xs ys = sum_by-append (λ byte. cond (byte == 10) 1 0) xs ys

-- the first line of the bytes, whatever may come
first_of : (bytes : List ℕ) (shown : Bool) (line behind rest : List ℕ) → IsFirstLine bytes shown line behind → (shown ≡ true → rest ≡ [])
    → lines_of (bytes ++ rest) ≡ line ∷ lines_of (behind ++ rest)
first_of bytes shown line behind rest (none, inl parts) last =
    ap (λ (t : List ℕ). lines_of (t ++ rest)) parts ∙ ap lines_of (append_assoc line (10 ∷ behind) rest) ∙ lines_of_ended line (behind ++ rest) none
first_of bytes shown [] behind rest (none, inr (over, some, parts, nil)) last = absurd (omega (arith, some))
first_of bytes shown (b ∷ line) behind rest (none, inr (over, some, parts, nil)) last =
    let all : bytes ++ rest ≡ b ∷ line = rw (last over) (append-nil bytes) ∙ parts in
    let gone : behind ++ rest ≡ [] = rw (last over) (append-nil behind) ∙ nil in
    rw (all, gone) (lines_of_plain b line none)

-- as many line feeds as lines, where the end isn't shown
first_feeds : (bytes : List ℕ) (shown : Bool) (line behind : List ℕ) → IsFirstLine bytes shown line behind → shown ≡ false → feeds bytes ≡ 1 + feeds behind
first_feeds bytes shown line behind (none, inl parts) hidden =
    let plain : feeds line ≡ 0 = feeds_none line none in
    let all : feeds (line ++ 10 ∷ behind) ≡ feeds line + feeds (10 ∷ behind) = feeds-append line (10 ∷ behind) in
    let cut : feeds (10 ∷ behind) ≡ 1 + feeds behind = feeds-cons 10 behind in
    ap feeds parts ∙ omega (arith, plain, all, cut)
first_feeds bytes shown line behind (none, inr (over, some, parts, nil)) hidden = absurd (cc (over, hidden))

-- nothing was taken yet
pub cut_none : IsCut [] [] [] false
cut_none = record { cut = λ rest last. refl; ended = λ hidden. refl }

hidden_before : {a b : ReaderState} {s t : SourceState} {chunk : List ℕ} → TakesLine a b s t chunk → b.shown ≡ false → a.shown ≡ false
hidden_before {a = a} {b = b} took hidden = elim (cases_Bool a.shown) [
  | inl shown ↦ absurd (cc ((took.rests shown).0, hidden))
  | inr unseen ↦ unseen
]

-- one more line: with `found.Text` it is b.line, and with `found.Long` the line that is passed over
pub cut_line : {a b : ReaderState} {s t : SourceState} {chunk : List ℕ} (bytes : List ℕ) (lines : List (List ℕ)) (line : List ℕ)
    → IsCut bytes lines a.held a.shown → TakesLine a b s t chunk → IsFirstLine (a.held ++ chunk) b.shown line b.held
    → IsCut (bytes ++ chunk) (lines ++ line ∷ []) b.held b.shown
cut_line {a = a} {b = b} {chunk = chunk} bytes lines line cut took first = record {
  cut = λ rest last.
      let early : a.shown ≡ true → chunk ++ rest ≡ [] = λ shown. (let (over, same, nil) = took.rests shown in rw (nil, last over) refl) in
      ap lines_of (append_assoc bytes chunk rest) ∙ cut.cut (chunk ++ rest) early
      ∙ ap (λ (t : List ℕ). lines ++ lines_of t) (sym (append_assoc a.held chunk rest))
      ∙ ap (λ (t : List (List ℕ)). lines ++ t) (first_of (a.held ++ chunk) b.shown line b.held rest first last)
      ∙ sym (append_assoc lines (line ∷ []) (lines_of (b.held ++ rest)));
  ended = λ hidden.
      let so_far : feeds bytes ≡ length lines + feeds a.held = cut.ended (hidden_before took hidden) in
      let more = feeds-append bytes chunk in
      let held = feeds-append a.held chunk in
      let next : feeds (a.held ++ chunk) ≡ 1 + feeds b.held = first_feeds (a.held ++ chunk) b.shown line b.held first hidden in
      omega (arith, so_far, more, held, next, length-append lines (line ∷ []));
}

-- the end of input: these were all lines
pub cut_end : {a b : ReaderState} {s t : SourceState} {chunk : List ℕ} (bytes : List ℕ) (lines : List (List ℕ))
    → IsCut bytes lines a.held a.shown → TakesLine a b s t chunk → Finds a b s t chunk found.End → lines_of (bytes ++ chunk) ≡ lines
cut_end {a = a} {chunk = chunk} bytes lines cut took (nil, none, shown, quiet) =
    cut.cut chunk (λ before. (took.rests before).2) ∙ ap (λ (t : List ℕ). lines ++ lines_of t) nil ∙ append-nil lines

-- a fault, or too many bytes: these were all lines that have ended
pub cut_open : {a b : ReaderState} {s t : SourceState} {chunk : List ℕ} (bytes : List ℕ) (lines : List (List ℕ))
    → IsCut bytes lines a.held a.shown → TakesLine a b s t chunk → HasNoFeed (a.held ++ chunk) → b.shown ≡ false → ended_lines_of (bytes ++ chunk) ≡ lines
cut_open {a = a} {chunk = chunk} bytes lines cut took none hidden =
    let so_far : feeds bytes ≡ length lines + feeds a.held = cut.ended (hidden_before took hidden) in
    let more = feeds-append bytes chunk in
    let held = feeds-append a.held chunk in
    let plain : feeds (a.held ++ chunk) ≡ 0 = feeds_none (a.held ++ chunk) none in
    let count : feeds (bytes ++ chunk) ≡ length lines = omega (arith, so_far, more, held, plain) in
    let all : lines_of (bytes ++ chunk) ≡ lines ++ lines_of (a.held ++ chunk) = cut.cut chunk (λ before. (took.rests before).2) in
    ap (λ (n : ℕ). take n (lines_of (bytes ++ chunk))) count ∙ ap (λ (t : List (List ℕ)). take (length lines) t) all
    ∙ take-append-le (length lines) lines (lines_of (a.held ++ chunk)) (omega arith) ∙ take_all (length lines) lines (omega arith)
