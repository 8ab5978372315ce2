-- What a checker keeps of pieces and one more.
use Rattle.std.proofs.Common.{◌≡◌, ◌≤◌, ◌<◌, ◌+◌, ◌++◌, ℕ, List, [], ◌∷◌, Option, Some, None, Bool, true, false, refl, sym, ap, ◌∙◌, arith, inl, inr, cond, not, ltb, length, length-append, zero-add}
use Rattle.std.specs.Prelude.{position}
use Rattle.std.specs.Option.{option_or}
use Rattle.std.specs.List.{position_or_len}
use Rattle.std.proofs.lemmas.Bool.{cases_lt, cond-true, cond-false, lt-ltb, le-ltb, eq-eqb, ne_eqb}
use Rattle.std.proofs.lemmas.List.Sums.{prefix_len-le-length}
use Rattle.std.proofs.lemmas.List.Folds.{position_or_len_push}
use Rattle.cu_model.specs.declared.profiles.Piece.{Piece}
use Rattle.cu_model.specs.declared.checker.Ends.{Ends}
use Rattle.cu_model.specs.declared.checker.PieceChecker.{PieceChecker}
use Rattle.cu_model.specs.Profiles.{is_closed_piece, is_in_limit}
use Rattle.cu_model.specs.Faults.{first_fallen}
use Rattle.cu_model.specs.Checker.{last_from, first_between, early_until, overtaken_by, Checks}
use Rattle.cu_model.specs.Steps.Checking.{behind}

pub option_or-assoc : {A : Type 0} (a b c : Option A) → option_or (option_or a b) c ≡ option_or a (option_or b c)
option_or-assoc None b c = refl
option_or-assoc (Some x) b c = refl

last_push : (p : Piece) (ps : List Piece) (x : Piece) → last_from p (ps ++ x ∷ []) ≡ x
last_push p [] x = refl
last_push p (q ∷ ps) x = last_push q ps x

between_push : (find : Piece → Piece → Option ℕ) (p : Piece) (ps : List Piece) (x : Piece)
    → first_between find (p ∷ (ps ++ x ∷ [])) ≡ option_or (first_between find (p ∷ ps)) (find (last_from p ps) x)
between_push find p [] x = elim (find p x) as (λ o. option_or o None ≡ o) [ None ↦ refl | Some k ↦ refl ]
between_push find p (q ∷ ps) x =
    ap (λ o. option_or (find p q) o) (between_push find q ps x) ∙ sym (option_or-assoc (find p q) (first_between find (q ∷ ps)) (find (last_from q ps) x))

cond_or : {A : Type 0} (b : Bool) (x y : Option A) (z : A) → cond b (option_or x y) (Some z) ≡ option_or (cond b x (Some z)) y
cond_or true x y z = refl
cond_or false x y z = refl

fallen_push : (index : ℕ) (p : Piece) (ps : List Piece) (x : Piece)
    → first_fallen index (p ∷ (ps ++ x ∷ [])) ≡ option_or (first_fallen index (p ∷ ps)) (cond (ltb (last_from p ps).from x.from) None (Some (index + length (p ∷ ps))))
fallen_push index p [] x = let e : index + 1 ≡ index + length (p ∷ []) = omega arith in ap (λ n. cond (ltb p.from x.from) None (Some n)) e
fallen_push index p (q ∷ ps) x =
    let e : (index + 1) + length (q ∷ ps) ≡ index + length (p ∷ q ∷ ps) = omega arith in
    let tail = λ (n : ℕ). cond (ltb (last_from q ps).from x.from) None (Some n) in
    ap (λ o. cond (ltb p.from q.from) o (Some (index + 1))) (fallen_push (index + 1) q ps x ∙ ap (λ n. option_or (first_fallen (index + 1) (q ∷ ps)) (tail n)) e)
    ∙ cond_or (ltb p.from q.from) (first_fallen (index + 1) (q ∷ ps)) (tail (index + length (p ∷ q ∷ ps))) (index + 1)

-- the position of the first that passes, where it is at n or past the end
found : {A : Type 0} (test : A → Bool) (xs : List A) (n : ℕ) → position_or_len test xs ≡ n → n < length xs → position test xs ≡ Some n
found test xs n e h = rw (e, lt-ltb n (length xs) h) refl

missed : {A : Type 0} (test : A → Bool) (xs : List A) → length xs ≤ position_or_len test xs → position test xs ≡ None
missed test xs h = cond-false (ltb (position_or_len test xs) (length xs)) (Some (position_or_len test xs)) None (le-ltb _ _ h)

push_after_none : {A : Type 0} (test : A → Bool) (xs : List A) (x : A) (b : Bool) → test x ≡ b → length xs ≤ position_or_len test xs
    → position test (xs ++ x ∷ []) ≡ cond b (Some (length xs)) None
push_after_none test xs x false is past =
    let long = length-append xs (x ∷ []) in
    let most = prefix_len-le-length (λ y. not (test y)) xs in
    let end : position_or_len test xs ≡ length xs = omega (arith, past, most) in
    let one : ◌≡◌ {A = ℕ} (cond (test x) 0 1) 1 = ap (λ c. cond {A = ℕ} c 0 1) is in
    let at = position_or_len_push test xs x ∙ cond-true _ _ _ (eq-eqb _ _ end) in
    missed test (xs ++ x ∷ []) (omega (arith, long, at, one))
push_after_none test xs x true is past =
    let long = length-append xs (x ∷ []) in
    let most = prefix_len-le-length (λ y. not (test y)) xs in
    let end : position_or_len test xs ≡ length xs = omega (arith, past, most) in
    let none : ◌≡◌ {A = ℕ} (cond (test x) 0 1) 0 = ap (λ c. cond {A = ℕ} c 0 1) is in
    let at = position_or_len_push test xs x ∙ cond-true _ _ _ (eq-eqb _ _ end) in
    found test (xs ++ x ∷ []) (length xs) (omega (arith, at, none)) (omega (arith, long))

position_push : {A : Type 0} (test : A → Bool) (xs : List A) (x : A)
    → position test (xs ++ x ∷ []) ≡ option_or (position test xs) (cond (test x) (Some (length xs)) None)
position_push test xs x =
    let at = position_or_len test xs in
    let long = length-append xs (x ∷ []) in
    let rest : Option ℕ → Option ℕ = λ o. option_or o (cond (test x) (Some (length xs)) None) in
    elim (cases_lt at (length xs)) [
      | inl inside ↦
          found test (xs ++ x ∷ []) at (position_or_len_push test xs x ∙ cond-false _ _ _ (ne_eqb at (length xs) (λ e. omega (arith, e, inside))))
          (omega (arith, long, inside)) ∙ ap rest (sym (found test xs at refl inside))
      | inr past ↦ push_after_none test xs x (test x) refl past ∙ ap rest (sym (missed test xs past))
    ]

cond-not : {A : Type 0} (b : Bool) (x y : A) → cond (not b) x y ≡ cond b y x
cond-not true x y = refl
cond-not false x y = refl

failing_push : {A : Type 0} (test : A → Bool) (xs : List A) (x : A)
    → position (λ y. not (test y)) (xs ++ x ∷ []) ≡ option_or (position (λ y. not (test y)) xs) (cond (test x) None (Some (length xs)))
failing_push test xs x =
    position_push (λ y. not (test y)) xs x ∙ ap (λ o. option_or (position (λ y. not (test y)) xs) o) (cond-not (test x) (Some (length xs)) None)

-- one more piece after some
pub checks_next : (a b : PieceChecker) (ends : Ends) (pieces : List Piece) (x : Piece) → Checks a pieces → a.ends ≡ Some ends
    → b.count ≡ a.count + 1 → b.ends ≡ Some (record { first = ends.first; last = x })
    → b.limit ≡ option_or a.limit (cond (is_in_limit x) None (Some a.count))
    → b.closed ≡ option_or a.closed (cond (is_closed_piece x) (Some a.count) None)
    → b.rising ≡ option_or a.rising (cond (ltb ends.last.from x.from) None (Some a.count))
    → b.early ≡ option_or a.early (early_until ends.last x.from)
    → b.fifo ≡ option_or a.fifo (overtaken_by ends.last x)
    → Checks b (pieces ++ x ∷ [])
checks_next a b ends [] x old is count now limit closed rising early fifo = absurd (cc (old.ends, is))
checks_next a b ends (p ∷ ps) x old is count now limit closed rising early fifo =
    let were : ends ≡ record { first = p; last = last_from p ps } = cc (is, old.ends) in
    let last : ends.last ≡ last_from p ps = ap (λ (e : Ends). e.last) were in
    let start : ends.first ≡ p = ap (λ (e : Ends). e.first) were in
    let more = length-append ps (x ∷ []) in
    let number = zero-add (length (p ∷ ps)) in
    record {
      count = omega (arith, count, old.count, more);
      ends = cc (now, start, last_push p ps x);
      limit = cc (limit, old.limit, old.count, failing_push is_in_limit (p ∷ ps) x);
      closed = cc (closed, old.closed, old.count, position_push is_closed_piece (p ∷ ps) x);
      rising = cc (rising, old.rising, old.count, last, number, fallen_push 0 p ps x);
      early = cc (early, old.early, last, between_push (λ (y z : Piece). early_until y z.from) p ps x);
      fifo = cc (fifo, old.fifo, last, between_push overtaken_by p ps x);
    }

-- the first piece
pub checks_first : (a b : PieceChecker) (pieces : List Piece) (x : Piece) → Checks a pieces → a.ends ≡ None
    → b.count ≡ a.count + 1 → b.ends ≡ Some (record { first = x; last = x })
    → b.limit ≡ option_or a.limit (cond (is_in_limit x) None (Some a.count))
    → b.closed ≡ option_or a.closed (cond (is_closed_piece x) (Some a.count) None)
    → b.rising ≡ a.rising → b.early ≡ a.early → b.fifo ≡ a.fifo
    → Checks b (pieces ++ x ∷ [])
checks_first a b [] x old is count now limit closed rising early fifo = record {
  count = omega (arith, count, old.count);
  ends = now;
  limit = cc (limit, old.limit, old.count, failing_push is_in_limit [] x);
  closed = cc (closed, old.closed, old.count, position_push is_closed_piece [] x);
  rising = cc (rising, old.rising);
  early = cc (early, old.early);
  fifo = cc (fifo, old.fifo);
}
checks_first a b (p ∷ ps) x old is count now limit closed rising early fifo = absurd (cc (old.ends, is))

-- what a push notes of the piece alone
abbrev pub taken : PieceChecker → Piece → PieceChecker
taken a x = record a {
  limit = option_or a.limit (cond (is_in_limit x) None (Some a.count));
  closed = option_or a.closed (cond (is_closed_piece x) (Some a.count) None);
}

-- the same from what a push does
pub checks_behind : (a s : PieceChecker) (ends : Ends) (pieces : List Piece) (x : Piece) → Checks a pieces → a.ends ≡ Some ends
    → s ≡ behind (taken a x) ends x
    → Checks (record s { count = s.count + 1 }) (pieces ++ x ∷ [])
checks_behind a s ends pieces x old is e = checks_next a (record s { count = s.count + 1 }) ends pieces x old is
    (ap (λ (t : PieceChecker). t.count + 1) e) (ap (λ (t : PieceChecker). t.ends) e) (ap (λ (t : PieceChecker). t.limit) e) (ap (λ (t : PieceChecker). t.closed) e)
    (ap (λ (t : PieceChecker). t.rising) e) (ap (λ (t : PieceChecker). t.early) e) (ap (λ (t : PieceChecker). t.fifo) e)

pub checks_alone : (a s : PieceChecker) (pieces : List Piece) (x : Piece) → Checks a pieces → a.ends ≡ None
    → s ≡ record (taken a x) { ends = Some (record { first = x; last = x }) }
    → Checks (record s { count = s.count + 1 }) (pieces ++ x ∷ [])
checks_alone a s pieces x old is e = checks_first a (record s { count = s.count + 1 }) pieces x old is
    (ap (λ (t : PieceChecker). t.count + 1) e) (ap (λ (t : PieceChecker). t.ends) e) (ap (λ (t : PieceChecker). t.limit) e) (ap (λ (t : PieceChecker). t.closed) e)
    (ap (λ (t : PieceChecker). t.rising) e) (ap (λ (t : PieceChecker). t.early) e) (ap (λ (t : PieceChecker). t.fifo) e)
