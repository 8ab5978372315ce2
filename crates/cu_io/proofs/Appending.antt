-- Texts written piece by piece: what the pieces so far and the next one come to.
use Rattle.std.proofs.Common.{◌≡◌, ℕ, ◌+◌, ◌-◌, ◌<◌, ◌≤◌, ◌∙◌, List, [], ◌∷◌, ◌++◌, length, take, drop, refl, sym, ap, subst, append_assoc, arith, length-append}
use Rattle.std.proofs.lemmas.List.{append-nil, take-append-le, take_rest}
use Rattle.std.proofs.Math.Seq.{take-add, take-append-add}
use Rattle.std.specs.Prelude.{Option, None, Some, Result, Ok, Err, OnOk, OnErr, IsErr, is_some}
use Rattle.cu_io.specs.Counts.{Rose}
use Rattle.cu_io.specs.Sinks.{SinkState, Wrote, WroteAll, WroteLine}
use Rattle.cu_io.specs.Transfers.{Appends, AppendsSome}

pub on_err : {T E P : Type 0} (r : Result T E) → P → OnErr r P
on_err (Ok x) h = tt
on_err (Err e) h = h

-- one text, and another after it
pub appends_more : (a b c : Option (List ℕ)) (xs ys : List ℕ) → Appends a b xs → Appends b c ys → Appends a c (xs ++ ys)
appends_more None b c xs ys h k = tt
appends_more (Some s) b c xs ys h k =
    subst (λ (o : Option (List ℕ)). Appends o c ys) h k ∙ ap (λ (t : List ℕ). Some t) (append_assoc s xs ys)

-- one text, and the first bytes of another after it
pub appends_then : (a b c : Option (List ℕ)) (xs ys : List ℕ) → Appends a b xs → AppendsSome b c ys → AppendsSome a c (xs ++ ys)
appends_then a b c xs ys h (n, within, some) =
    let fits : length xs + n ≤ length (xs ++ ys) = omega (arith, length-append xs ys) in
    (length xs + n, fits, subst (λ (text : List ℕ). Appends a c text) (sym (take-append-add xs ys n)) (appends_more a b c xs (take n ys) h some))

-- the first bytes of a text, and nothing of what would follow it
pub appends_some_more : (a b : Option (List ℕ)) (xs rest : List ℕ) → AppendsSome a b xs → AppendsSome a b (xs ++ rest)
appends_some_more a b xs rest (n, within, some) =
    let fits : n ≤ length (xs ++ rest) = omega (arith, length-append xs rest) in
    (n, fits, subst (λ (text : List ℕ). Appends a b text) (sym (take-append-le n xs rest within)) some)

-- the first i bytes of a text, and then the first n of the rest
pub appends_next : (a b c : Option (List ℕ)) (text : List ℕ) (i n : ℕ) → Appends a b (take i text) →
    Appends b c (take n (take (length text - i) (drop i text))) → Appends a c (take (i + n) text)
appends_next a b c text i n h k =
    let rest : Appends b c (take n (drop i text)) = subst (λ (t : List ℕ). Appends b c (take n t)) (take_rest text i) k in
    subst (λ (t : List ℕ). Appends a c t) (sym (take-add i n text)) (appends_more a b c (take i text) (take n (drop i text)) h rest)

-- nothing was written
pub appends_nothing : (a : Option (List ℕ)) → Appends a a []
appends_nothing None = tt
appends_nothing (Some xs) = ap (λ (t : List ℕ). Some t) (sym (append-nil xs))

-- a text, and after it what the last call wrote
pub ok_then : {T E : Type 0} (r : Result T E) (a b c : Option (List ℕ)) (xs ys : List ℕ) → Appends a b xs → OnOk r (Appends b c ys) → OnOk r (Appends a c (xs ++ ys))
ok_then (Ok x) a b c xs ys h k = appends_more a b c xs ys h k
ok_then (Err e) a b c xs ys h k = tt

pub err_then : {T E : Type 0} (r : Result T E) (a b c : Option (List ℕ)) (xs ys : List ℕ) → Appends a b xs → OnErr r (AppendsSome b c ys) → OnErr r (AppendsSome a c (xs ++ ys))
err_then (Ok x) a b c xs ys h k = tt
err_then (Err e) a b c xs ys h k = appends_then a b c xs ys h k

-- a count that rose after it hadn't fallen
cause_then : {T E : Type 0} (r : Result T E) (a b c : ℕ) → a ≤ b → OnErr r (Rose b c) → OnErr r (Rose a c)
cause_then (Ok x) a b c h k = tt
cause_then (Err e) a b c h k = omega (arith, h, k)

-- a count that stayed, and then stayed
quiet_then : {T E : Type 0} (r : Result T E) (a b c : ℕ) → b ≡ a → OnOk r (c ≡ b) → OnOk r (c ≡ a)
quiet_then (Ok x) a b c h k = k ∙ h
quiet_then (Err e) a b c h k = tt

-- nothing was written
pub wrote_nothing : {T E : Type 0} (a : SinkState) (x : T) → Wrote {T = T} {E = E} a a (Ok x) []
wrote_nothing a x = record {
  ok = appends_nothing a.written;
  err = tt;
  tells = refl;
  flushed = omega arith;
  later = omega arith;
  cause = tt;
  quiet = refl;
}

-- a whole text, and after it another, with whatever outcome
pub wrote_then : {T E S F : Type 0} {a b c : SinkState} {x : T} {r : Result S F} {xs ys : List ℕ} → Wrote {T = T} {E = E} a b (Ok x) xs → Wrote b c r ys → Wrote a c r (xs ++ ys)
wrote_then {a = a} {b = b} {c = c} {r = r} {xs = xs} {ys = ys} h k = record {
  ok = ok_then r a.written b.written c.written xs ys h.ok k.ok;
  err = err_then r a.written b.written c.written xs ys h.ok k.err;
  tells = k.tells ∙ h.tells;
  flushed = omega (arith, h.flushed, k.flushed);
  later = omega (arith, h.later, k.later);
  cause = cause_then r a.faults b.faults c.faults h.later k.cause;
  quiet = quiet_then r a.faults b.faults c.faults h.quiet k.quiet;
}

ok_of_err : {S F : Type 0} (P : Type 0) (r : Result S F) → IsErr r → OnOk r P
ok_of_err P (Ok x) h = absurd (cc h)
ok_of_err P (Err e) h = tt

-- some first bytes of a text, and nothing of what would follow it, where the call then ends with an error
pub wrote_stops : {T E S F : Type 0} {a b : SinkState} {e : E} {r : Result S F} {xs : List ℕ} (rest : List ℕ) → IsErr r → Wrote {T = T} {E = E} a b (Err e) xs → Wrote a b r (xs ++ rest)
wrote_stops {a = a} {b = b} {r = r} {xs = xs} rest is h = record {
  ok = ok_of_err _ r is;
  err = on_err r (appends_some_more a.written b.written xs rest h.err);
  tells = h.tells;
  flushed = h.flushed;
  later = h.later;
  cause = on_err r h.cause;
  quiet = ok_of_err _ r is;
}

-- the same, where nothing would follow it
pub wrote_err : {T E S F : Type 0} {a b : SinkState} {e : E} {r : Result S F} {xs : List ℕ} → IsErr r → Wrote {T = T} {E = E} a b (Err e) xs → Wrote a b r xs
wrote_err {r = r} is h = record { ok = ok_of_err _ r is; err = on_err r h.err; tells = h.tells; flushed = h.flushed; later = h.later; cause = on_err r h.cause; quiet = ok_of_err _ r is }

-- a text that is written, told with another value
pub wrote_ok : {T E S F : Type 0} {a b : SinkState} {x : T} {y : S} {xs : List ℕ} → Wrote {T = T} {E = E} a b (Ok x) xs → Wrote {T = S} {E = F} a b (Ok y) xs
wrote_ok h = record { ok = h.ok; err = tt; tells = h.tells; flushed = h.flushed; later = h.later; cause = tt; quiet = h.quiet }

-- the first bytes of a text, and what one more write takes of the rest
pub wrote_next : {a b c : SinkState} (text : List ℕ) (i n : ℕ) → WroteAll a b (take i text) → Appends b.written c.written (take n (take (length text - i) (drop i text)))
    → is_some c.written ≡ is_some b.written → b.flushed ≤ c.flushed → b.faults ≤ c.faults → c.faults ≡ b.faults → WroteAll a c (take (i + n) text)
wrote_next {a = a} {b = b} {c = c} text i n h appends tells flushed later quiet = record {
  ok = appends_next a.written b.written c.written text i n h.ok appends;
  err = tt;
  tells = tells ∙ h.tells;
  flushed = omega (arith, h.flushed, flushed);
  later = omega (arith, h.later, later);
  cause = tt;
  quiet = quiet ∙ h.quiet;
}

-- a text that is the other
pub wrote_same : {T E : Type 0} {a b : SinkState} {r : Result T E} {xs ys : List ℕ} → xs ≡ ys → Wrote a b r xs → Wrote a b r ys
wrote_same {a = a} {b = b} {r = r} same h = subst (λ (t : List ℕ). Wrote a b r t) same h

-- the first text of a line, and then what ends the line
pub line_then : {T E S F : Type 0} {a b c : SinkState} {x : T} {r : Result S F} {xs ys : List ℕ} → Wrote {T = T} {E = E} a b (Ok x) xs → WroteLine b c r ys → WroteLine a c r (xs ++ ys)
line_then {xs = xs} {ys = ys} h k = record { wrote = wrote_same (sym (append_assoc xs ys (10 ∷ []))) (wrote_then h k.wrote); flushed = k.flushed }

pub line_stops : {T E S F : Type 0} {a b : SinkState} {e : E} {r : Result S F} {xs : List ℕ} → IsErr r → Wrote {T = T} {E = E} a b (Err e) xs → WroteLine a b r xs
line_stops {r = r} is h = record { wrote = wrote_stops _ is h; flushed = ok_of_err _ r is }

pub line_same : {T E : Type 0} {a b : SinkState} {r : Result T E} {xs ys : List ℕ} → xs ≡ ys → WroteLine a b r xs → WroteLine a b r ys
line_same {a = a} {b = b} {r = r} same h = subst (λ (t : List ℕ). WroteLine a b r t) same h
