-- Texts that are gathered in a block one behind the other.
use Rattle.std.proofs.Common.{◌≡◌, ◌∙◌, ℕ, List, [], ◌++◌, sym, ap, subst, append_assoc}
use Rattle.std.specs.Prelude.{Result, Ok, Err, IsErr, OnOk}
use Rattle.cu_io.proofs.Appending.{wrote_err, wrote_ok, wrote_same, wrote_stops, wrote_then}
use Rattle.cu_io.specs.Sinks.{SinkState, Wrote}
use Rattle.cu_reach.specs.Steps.Gathering.{Gathered}

-- a text, and after it another, with whatever outcome
pub gathered_then : {T E S F : Type 0} {a b c : SinkState} {x : T} {r : Result S F} {first held holds xs ys : List ℕ}
    → Gathered {T = T} {E = E} a b (Ok x) first held xs → Gathered b c r held holds ys → Gathered a c r first holds (xs ++ ys)
gathered_then {first = first} {held = held} {xs = xs} {ys = ys} h k = record {
  put = h.put ++ k.put;
  rest = k.rest;
  whole = append_assoc h.put k.put k.rest ∙ ap (λ (t : List ℕ). h.put ++ t) (k.whole ∙ ap (λ (t : List ℕ). t ++ ys) (sym h.kept))
      ∙ sym (append_assoc h.put h.rest ys) ∙ ap (λ (t : List ℕ). t ++ ys) h.whole ∙ append_assoc first xs ys;
  kept = k.kept;
  wrote = wrote_then h.wrote k.wrote;
}

on_ok : {T E : Type 0} (P : Type 0) (r : Result T E) → IsErr r → OnOk r P
on_ok P (Ok x) is = absurd (cc is)
on_ok P (Err e) is = tt

-- the block couldn't be written, and the call then ends with an error: the text that would follow is not written either
pub gathered_stops : {T E S F : Type 0} {a b : SinkState} {e : E} {r : Result S F} {held holds after xs : List ℕ} (rest : List ℕ) → IsErr r
    → Gathered {T = T} {E = E} a b (Err e) held holds xs → Gathered a b r held after (xs ++ rest)
gathered_stops {r = r} {held = held} {xs = xs} rest is h = record {
  put = h.put;
  rest = h.rest ++ rest;
  whole = sym (append_assoc h.put h.rest rest) ∙ ap (λ (t : List ℕ). t ++ rest) h.whole ∙ append_assoc held xs rest;
  kept = on_ok _ r is;
  wrote = wrote_err is h.wrote;
}

-- a text told with another value
pub gathered_ok : {T E S F : Type 0} {a b : SinkState} {x : T} {y : S} {held holds xs : List ℕ} → Gathered {T = T} {E = E} a b (Ok x) held holds xs
    → Gathered {T = S} {E = F} a b (Ok y) held holds xs
gathered_ok h = record { put = h.put; rest = h.rest; whole = h.whole; kept = h.kept; wrote = wrote_ok h.wrote }

-- a text that is the other
pub gathered_same : {T E : Type 0} {a b : SinkState} {r : Result T E} {held holds xs ys : List ℕ} → xs ≡ ys → Gathered a b r held holds xs → Gathered a b r held holds ys
gathered_same {a = a} {b = b} {r = r} {held = held} {holds = holds} same h = subst (λ (t : List ℕ). Gathered a b r held holds t) same h

-- a text gathered in an empty block is written whole once the rest is written
pub gathered_wrote : {T E S F : Type 0} {a b c : SinkState} {x : T} {r : Result S F} {holds xs : List ℕ} → Gathered {T = T} {E = E} a b (Ok x) [] holds xs
    → Wrote b c r holds → Wrote a c r xs
gathered_wrote h k = wrote_same (ap (λ (t : List ℕ). h.put ++ t) (sym h.kept) ∙ h.whole) (wrote_then h.wrote k)

-- some first bytes of such a text, where the block couldn't be written and the call then ends with an error
pub gathered_fails : {T E S F : Type 0} {a b : SinkState} {e : E} {r : Result S F} {holds xs : List ℕ} (rest : List ℕ) → IsErr r
    → Gathered {T = T} {E = E} a b (Err e) [] holds xs → Wrote a b r (xs ++ rest)
gathered_fails rest is h =
    wrote_same (sym (append_assoc h.put h.rest rest) ∙ ap (λ (t : List ℕ). t ++ rest) h.whole) (wrote_stops (h.rest ++ rest) is h.wrote)
