-- Pieces have no fault exactly where they are a profile.
use Rattle.std.proofs.Common.{◌≡◌, ◌<◌, ◌+◌, ℕ, zero, suc, List, [], ◌∷◌, Option, Some, None, Bool, true, false, refl, sym, ap, ◌∙◌, subst, arith, inl, inr, cond, not, ltb, length, get_or, All}
use Rattle.std.specs.Prelude.{slice_get, position, Result, Ok, Err, MatchResult, OnOk}
use Rattle.std.specs.Option.{option_or, option_map}
use Rattle.std.specs.List.{position_or_len}
use Rattle.std.proofs.lemmas.Bool.{cases_lt, cond-true, cond-false, ltb-true, ltb-false, lt-ltb, le-ltb, eqb-true, eq-eqb, and_parts, not-false, not_from_true}
use Rattle.std.proofs.lemmas.List.Sums.{fails_before_first, passes_at_first}
use Rattle.cu_model.specs.declared.profiles.Piece.{Piece}
use Rattle.cu_model.specs.declared.profiles.PieceFault.{PieceFault}
use Rattle.cu_model.specs.declared.profiles.PieceFault.TheVariants.{Limit, Start, Rising, Closed, Early, Fifo}
use Rattle.cu_model.specs.Begun.{Rises}
use Rattle.cu_model.specs.Days.{day}
use Rattle.cu_model.specs.Profiles.{profile_value, is_closed_piece, is_in_limit, is_rule_in_limit, IsProfile}
use Rattle.cu_model.specs.Faults.{starts_day, first_fallen, limit_fault, start_fault, rising_fault, closed_fault, early_fault, fifo_fault, piece_fault}
use Rattle.cu_model.proofs.Firsts.{least-none, least_none_from}
use Rattle.cu_model.proofs.OptionLaws.{map-none}

-- two options of which neither is there
or-none : {A : Type 0} (a b : Option A) → option_or a b ≡ None → (a ≡ None) × (b ≡ None)
or-none None b e = (refl, e)
or-none (Some x) b e = absurd (cc e)

pub piece_begins : (piece : Piece) → is_in_limit piece ≡ true → piece.from < day
piece_begins piece e = ltb-true piece.from day (and_parts (ltb piece.from day) (is_rule_in_limit piece.rule) e).0

cond-none : {A : Type 0} (b : Bool) (x : A) → cond b (Some x) None ≡ None → b ≡ false
cond-none true x e = absurd (cc e)
cond-none false x e = refl

pub cond-some : {A : Type 0} (b : Bool) (o : Option A) (x : A) → cond b o (Some x) ≡ None → (b ≡ true) × (o ≡ None)
cond-some true o x e = (refl, e)
cond-some false o x e = absurd (cc e)

-- where no position passes no element does, and back
pub position-none : {A : Type 0} (test : A → Bool) (xs : List A) → position test xs ≡ None → (k : ℕ) (d : A) → k < length xs → test (get_or xs k d) ≡ false
position-none test xs e k d h =
    let past = ltb-false (position_or_len test xs) (length xs) (cond-none _ _ e) in
    fails_before_first test xs k d (omega (arith, h, past))

position_none_from : {A : Type 0} (test : A → Bool) (xs : List A) → ((k : ℕ) (d : A) → k < length xs → test (get_or xs k d) ≡ false) → position test xs ≡ None
position_none_from test [] none = refl
position_none_from test (x ∷ xs) none = elim (cases_lt (position_or_len test (x ∷ xs)) (length (x ∷ xs))) [
  | inl inside ↦ absurd (cc (none (position_or_len test (x ∷ xs)) x inside, passes_at_first test (x ∷ xs) x inside))
  | inr past ↦ cond-false (ltb (position_or_len test (x ∷ xs)) (length (x ∷ xs))) (Some (position_or_len test (x ∷ xs))) None (le-ltb _ _ past)
]

-- each piece is from an earlier second than the next
abbrev pub Rise : List Piece → Type 0
Rise pieces = Rises (λ (piece : Piece). piece.from) pieces

rise_more : (p q : Piece) (ps : List Piece) → p.from < q.from → Rise (q ∷ ps) → Rise (p ∷ q ∷ ps)
rise_more p q ps lt rise zero d h = lt
rise_more p q ps lt rise (suc k) d h =
    let same : suc (k + 1) ≡ suc k + 1 = omega arith in
    subst (λ (j : ℕ). (get_or (q ∷ ps) k d).from < (get_or (p ∷ q ∷ ps) j d).from) same (rise k d (omega (arith, h)))

rise_less : (p q : Piece) (ps : List Piece) → Rise (p ∷ q ∷ ps) → (p.from < q.from) × Rise (q ∷ ps)
rise_less p q ps rise = (
  rise 0 p (omega arith),
  λ k d h.
      let same : suc k + 1 ≡ suc (k + 1) = omega arith in
      subst (λ (j : ℕ). (get_or (q ∷ ps) k d).from < (get_or (p ∷ q ∷ ps) j d).from) same (rise (suc k) d (omega (arith, h))),
)

-- where none has fallen each is from a later second than the one before, and back
pub first_fallen-none : (index : ℕ) (pieces : List Piece) → first_fallen index pieces ≡ None → Rise pieces
first_fallen-none index [] e = λ k d h. absurd (omega (arith, h))
first_fallen-none index (p ∷ []) e = λ k d h. absurd (omega (arith, h))
first_fallen-none index (p ∷ q ∷ ps) e =
    let parts = cond-some (ltb p.from q.from) (first_fallen (index + 1) (q ∷ ps)) (index + 1) e in
    rise_more p q ps (ltb-true p.from q.from parts.0) (first_fallen-none (index + 1) (q ∷ ps) parts.1)

first_fallen_none_from : (index : ℕ) (pieces : List Piece) → Rise pieces → first_fallen index pieces ≡ None
first_fallen_none_from index [] rise = refl
first_fallen_none_from index (p ∷ []) rise = refl
first_fallen_none_from index (p ∷ q ∷ ps) rise =
    let parts = rise_less p q ps rise in
    cond-true (ltb p.from q.from) _ _ (lt-ltb p.from q.from parts.0) ∙ first_fallen_none_from (index + 1) (q ∷ ps) parts.1

starts-true : (pieces : List Piece) → starts_day pieces ≡ true → option_map (λ (piece : Piece). piece.from) (slice_get pieces 0) ≡ Some 0
starts-true [] e = absurd (cc e)
starts-true (piece ∷ pieces) e = ap Some (eqb-true piece.from 0 e)

starts_from : (pieces : List Piece) → option_map (λ (piece : Piece). piece.from) (slice_get pieces 0) ≡ Some 0 → starts_day pieces ≡ true
starts_from [] e = absurd (cc e)
starts_from (piece ∷ pieces) e = let from : piece.from ≡ 0 = cc e in eq-eqb piece.from 0 from

pub start-none : (b : Bool) → cond b None (Some Start) ≡ None → b ≡ true
start-none true e = refl
start-none false e = absurd (cc e)

-- a closed piece beside others is a fault, and back
closed-none : (pieces : List Piece) → closed_fault pieces ≡ None → 1 < length pieces → All (λ (piece : Piece). is_closed_piece piece ≡ false) pieces
closed-none pieces e more =
    let none = map-none Closed (position is_closed_piece pieces) (sym (cond-true (ltb 1 (length pieces)) _ _ (lt-ltb 1 (length pieces) more)) ∙ e) in
    λ k d h. position-none is_closed_piece pieces none k d h

closed_none_from : (pieces : List Piece) → (1 < length pieces → All (λ (piece : Piece). is_closed_piece piece ≡ false) pieces) → closed_fault pieces ≡ None
closed_none_from pieces alone = elim (cases_lt 1 (length pieces)) [
  | inl more ↦
      cond-true (ltb 1 (length pieces)) _ _ (lt-ltb 1 (length pieces) more)
      ∙ ap (option_map Closed) (position_none_from is_closed_piece pieces (λ k d h. alone more k d h))
  | inr few ↦ cond-false (ltb 1 (length pieces)) _ _ (le-ltb 1 (length pieces) few)
]

-- pieces without a fault are a profile
pub piece_fault-none : (pieces : List Piece) → piece_fault pieces ≡ None → IsProfile pieces
piece_fault-none pieces e =
    let l = or-none (limit_fault pieces) _ e in
    let s = or-none (start_fault pieces) _ l.1 in
    let r = or-none (rising_fault pieces) _ s.1 in
    let c = or-none (closed_fault pieces) _ r.1 in
    let f = or-none (early_fault pieces) (fifo_fault pieces) c.1 in
    record {
      limits = λ k d h. not-false _ (position-none (λ (piece : Piece). not (is_in_limit piece)) pieces (map-none Limit _ l.0) k d h);
      starts = starts-true pieces (start-none (starts_day pieces) s.0);
      rises = first_fallen-none 0 pieces (map-none Rising _ r.0);
      alone = closed-none pieces c.0;
      onward = λ second h. ltb-false (profile_value pieces second) second (least-none (λ (x : ℕ). ltb (profile_value pieces x) x) day (map-none Early _ f.0) second h);
      fifo = λ second h. ltb-false (profile_value pieces (second + 1)) (profile_value pieces second)
          (least-none (λ (x : ℕ). ltb (profile_value pieces (x + 1)) (profile_value pieces x)) day (map-none Fifo _ f.1) second h);
    }

-- an option that isn't there leaves the next
pass : {A : Type 0} (a b : Option A) → a ≡ None → b ≡ None → option_or a b ≡ None
pass None b e f = f
pass (Some x) b e f = absurd (cc e)

-- a profile has no fault
pub piece_fault_none_from : (pieces : List Piece) → IsProfile pieces → piece_fault pieces ≡ None
piece_fault_none_from pieces f =
    let l : limit_fault pieces ≡ None = ap (option_map Limit) (position_none_from (λ (piece : Piece). not (is_in_limit piece)) pieces
    (λ k d h. not_from_true _ (f.limits k d h))) in
    let s : start_fault pieces ≡ None = rw (starts_from pieces f.starts) refl in
    let r : rising_fault pieces ≡ None = ap (option_map Rising) (first_fallen_none_from 0 pieces f.rises) in
    let e : early_fault pieces ≡ None = ap (option_map Early) (least_none_from (λ (x : ℕ). ltb (profile_value pieces x) x) day
    (λ second h. le-ltb _ _ (f.onward second h))) in
    let o : fifo_fault pieces ≡ None = ap (option_map Fifo) (least_none_from (λ (x : ℕ). ltb (profile_value pieces (x + 1)) (profile_value pieces x)) day
    (λ second h. le-ltb _ _ (f.fifo second h))) in
    pass _ _ l (pass _ _ s (pass _ _ r (pass _ _ (closed_none_from pieces f.alone) (pass _ _ e o))))

-- where a check answers by the first fault, what it accepts is a profile
pub profile_on_ok : {A : Type 0} (answer : Result A PieceFault) (pieces : List Piece)
    → MatchResult answer (λ _. piece_fault pieces ≡ None) (λ fault. piece_fault pieces ≡ Some fault) → OnOk answer (IsProfile pieces)
profile_on_ok (Ok a) pieces none = piece_fault-none pieces none
profile_on_ok (Err fault) pieces some = tt
