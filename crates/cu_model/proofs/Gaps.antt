-- The first second at which something goes wrong, from what goes wrong within each piece and where it ends.
use Rattle.std.proofs.Common.{◌≡◌, ◌≤◌, ◌<◌, ◌+◌, ◌-◌, ℕ, List, [], ◌∷◌, Option, Some, None, Bool, true, false, refl, sym, ap, ◌∙◌, subst, arith, inl, inr, ltb, leb, max}
use Rattle.std.specs.Option.{option_or}
use Rattle.std.proofs.lemmas.Bool.{cases_lt, lt-ltb, le-ltb, le-leb, lt-leb, cond-true, cond-false}
use Rattle.cu_model.specs.declared.profiles.Piece.{Piece}
use Rattle.cu_model.specs.declared.profiles.Rule.{Rule}
use Rattle.cu_model.specs.declared.profiles.Rule.TheVariants.{Travel, Until, Closed}
use Rattle.cu_model.specs.Days.{day}
use Rattle.cu_model.specs.Profiles.{piece_at, piece_value, rule_value, profile_value}
use Rattle.cu_model.specs.Checker.{last_from, first_between, early_of, early_until, overtaken, overtaken_by}
use Rattle.cu_model.specs.Steps.Checking.{overtaken_at_midnight}
use Rattle.cu_model.proofs.Begun.{later_some}
use Rattle.cu_model.proofs.ProfileLaws.{rule_shift, value_at, value_in_day}
use Rattle.cu_model.proofs.Firsts.{IsFirst, first_joined, first_one}
use Rattle.cu_model.proofs.Pushes.{option_or-assoc}

-- each piece is from an earlier second than the next
abbrev pub Follow : Piece → List Piece → Type 0
Follow p [] = Unit {0}
Follow p (q ∷ ps) = (p.from < q.from) × Follow q ps

-- before its first second a rising list has no piece
none_before : (p : Piece) (ps : List Piece) (s : ℕ) → Follow p ps → s < p.from → piece_at (p ∷ ps) s ≡ None
none_before p [] s rises h = let late : leb p.from s ≡ false = lt-leb p.from s h in rw late refl
none_before p (q ∷ ps) s rises h =
    let late : leb p.from s ≡ false = lt-leb p.from s h in
    let rest : piece_at (q ∷ ps) s ≡ None = none_before q ps s rises.1 (omega (arith, rises.0)) in
    rw (late, rest) refl

first_of_last : (p : Piece) (ps : List Piece) → Follow p ps → p.from ≤ (last_from p ps).from
first_of_last p [] rises = omega arith
first_of_last p (q ∷ ps) rises = omega (arith, rises.0, first_of_last q ps rises.1)

-- until the second piece begins the first holds
first_holds : (p q : Piece) (ps : List Piece) (s : ℕ) → Follow p (q ∷ ps) → p.from ≤ s → s < q.from → piece_at (p ∷ q ∷ ps) s ≡ Some p
first_holds p q ps s rises h k =
    let begun : leb p.from s ≡ true = le-leb p.from s h in
    let rest : piece_at (q ∷ ps) s ≡ None = none_before q ps s rises.1 k in
    rw (begun, rest) refl

alone_holds : (p : Piece) (s : ℕ) → p.from ≤ s → piece_at (p ∷ []) s ≡ Some p
alone_holds p s h = let begun : leb p.from s ≡ true = le-leb p.from s h in rw begun refl

pub begins : (p : Piece) (ps : List Piece) → Follow p ps → piece_at (p ∷ ps) p.from ≡ Some p
begins p [] rises = alone_holds p p.from (omega arith)
begins p (q ∷ ps) rises = first_holds p q ps p.from rises (omega arith) rises.0

some_from : (p : Piece) (ps : List Piece) (s : ℕ) → p.from ≤ s → (x : Piece) × (piece_at (p ∷ ps) s ≡ Some x)
some_from p ps s h =
    let begun : leb p.from s ≡ true = le-leb p.from s h in
    let k = later_some p (piece_at ps s) in
    (k.0, rw begun k.1)

-- from then on the first doesn't matter
rest_holds : (p q : Piece) (ps : List Piece) (s : ℕ) → q.from ≤ s → piece_at (p ∷ q ∷ ps) s ≡ piece_at (q ∷ ps) s
rest_holds p q ps s h = let k = some_from q ps s h in rw k.1 refl

abbrev pub is_early : List Piece → ℕ → Bool
is_early all second = ltb (profile_value all second) second

abbrev pub is_overtaken : List Piece → ℕ → Bool
is_overtaken all second = ltb (profile_value all (second + 1)) (profile_value all second)

-- the first early second of a rule
early_first : (test : ℕ → Bool) (rule : Rule) (from end : ℕ) → ((s : ℕ) → from ≤ s → s < end → test s ≡ ltb (rule_value rule 0 s) s) → IsFirst test from end (early_of rule from end)
early_first test (Travel seconds) from end is = λ s a b. is s a b ∙ le-ltb (rule_value (Travel seconds) 0 s) s (omega arith)
early_first test (Closed value) from end is = λ s a b. is s a b ∙ le-ltb (rule_value (Closed value) 0 s) s (omega arith)
early_first test (Until arrival) from end is =
    let second = max from (arrival + 1) in
    elim (cases_lt second end) [
      | inl inside ↦
          subst (λ (o : Option ℕ). IsFirst test from end o) (sym (cond-true (ltb second end) (Some second) None (lt-ltb second end inside))) (
            omega arith,
            inside,
            is second (omega arith) inside ∙ lt-ltb (rule_value (Until arrival) 0 second) second (omega arith),
            λ s a b. is s a (omega (arith, inside, b)) ∙ le-ltb (rule_value (Until arrival) 0 s) s (omega (arith, a, b)),
          )
      | inr past ↦
          subst (λ (o : Option ℕ). IsFirst test from end o) (sym (cond-false (ltb second end) (Some second) None (le-ltb second end past)))
          (λ s a b. is s a b ∙ le-ltb (rule_value (Until arrival) 0 s) s (omega (arith, a, b, past)))
    ]

-- within a piece no later departure overtakes
steady : (rule : Rule) (s : ℕ) → rule_value rule 0 s ≤ rule_value rule 0 (s + 1)
steady (Travel seconds) s = omega arith
steady (Until arrival) s = omega arith
steady (Closed value) s = omega arith

module _ (all : List Piece) where
  -- the value where a piece holds
  value_here : (x : Piece) (s : ℕ) → s < day → piece_at all s ≡ Some x → profile_value all s ≡ rule_value x.rule 0 s
  value_here x s h e = value_in_day all s h ∙ ap (λ (o : Option Piece). piece_value o 0 s) e

  -- the first early second of a piece until the next begins
  early_in : (x : Piece) (end : ℕ) → end ≤ day → ((s : ℕ) → x.from ≤ s → s < end → piece_at all s ≡ Some x) → IsFirst (is_early all) x.from end (early_until x end)
  early_in x end h holds = early_first (is_early all) x.rule x.from end (λ s a b. ap (λ (v : ℕ). ltb v s) (value_here x s (omega (arith, h, b)) (holds s a b)))

  -- the first overtaken second of a piece: none but the last, against the value at the next second
  overtaken_first : (x : Piece) (last next : ℕ) → x.from ≤ last → last < day → ((s : ℕ) → x.from ≤ s → s < last + 1 → piece_at all s ≡ Some x)
      → profile_value all (last + 1) ≡ next → IsFirst (is_overtaken all) x.from (last + 1) (overtaken x.rule last next)
  overtaken_first x last next from inside holds e =
      let here = value_here x last inside (holds last from (omega arith)) in
      let inner : (s : ℕ) → x.from ≤ s → s < last → is_overtaken all s ≡ false = λ s a b.
      let v = value_here x s (omega (arith, b, inside)) (holds s a (omega (arith, b))) in
      let w = value_here x (s + 1) (omega (arith, b, inside)) (holds (s + 1) (omega (arith, a)) (omega (arith, b))) in
      le-ltb (profile_value all (s + 1)) (profile_value all s) (omega (arith, v, w, steady x.rule s)) in
      let answer : is_overtaken all last ≡ ltb next (rule_value x.rule 0 last) =
      ap (λ (n : ℕ). ltb n (profile_value all last)) e ∙ ap (λ (n : ℕ). ltb next n) here in
      first_joined (is_overtaken all) x.from last (last + 1) None (overtaken x.rule last next) from (omega arith) inner
      (first_one (is_overtaken all) last (last + 1) (ltb next (rule_value x.rule 0 last)) refl answer)

  overtaken_in : (x y : Piece) → x.from < y.from → y.from < day → ((s : ℕ) → x.from ≤ s → s < y.from → piece_at all s ≡ Some x) → piece_at all y.from ≡ Some y
      → IsFirst (is_overtaken all) x.from y.from (overtaken_by x y)
  overtaken_in x y below inside holds next =
      let e : (y.from - 1) + 1 ≡ y.from = omega (arith, below) in
      let v : profile_value all ((y.from - 1) + 1) ≡ rule_value y.rule 0 y.from = subst (λ (s : ℕ). profile_value all s ≡ rule_value y.rule 0 y.from) (sym e) (value_here y y.from inside next) in
      subst (λ (s : ℕ). IsFirst (is_overtaken all) x.from s (overtaken_by x y)) e
      (overtaken_first x (y.from - 1) (rule_value y.rule 0 y.from) (omega (arith, below)) (omega (arith, inside)) (λ s a b. holds s a (omega (arith, b, below))) v)

  overtaken_last : (x first : Piece) → x.from < day → ((s : ℕ) → x.from ≤ s → s < day → piece_at all s ≡ Some x) → piece_at all 0 ≡ Some first
      → IsFirst (is_overtaken all) x.from day (overtaken_at_midnight x first)
  overtaken_last x first inside holds start =
      let v : profile_value all day ≡ day + rule_value first.rule 0 0 =
      value_at all 1 0 (omega arith) ∙ ap (λ (o : Option Piece). piece_value o 1 0) start ∙ rule_shift first.rule 1 0 in
      overtaken_first x (day - 1) (day + rule_value first.rule 0 0) (omega (arith, inside)) (omega arith) holds v

  -- the first early second of a whole list, whose pieces from this one on hold from its first second on
  pub early_gaps : (p : Piece) (ps : List Piece) → Follow p ps → (last_from p ps).from < day
      → ((s : ℕ) → p.from ≤ s → piece_at all s ≡ piece_at (p ∷ ps) s)
      → IsFirst (is_early all) p.from day (option_or (first_between (λ x y. early_until x y.from) (p ∷ ps)) (early_until (last_from p ps) day))
  early_gaps p [] rises inside same = early_in p day (omega arith) (λ s a b. same s a ∙ alone_holds p s a)
  early_gaps p (q ∷ ps) rises inside same =
      let before = first_of_last q ps rises.1 in
      subst (λ (o : Option ℕ). IsFirst (is_early all) p.from day o)
      (sym (option_or-assoc (early_until p q.from) (first_between (λ x y. early_until x y.from) (q ∷ ps)) (early_until (last_from q ps) day)))
      (first_joined (is_early all) p.from q.from day (early_until p q.from) _ (omega (arith, rises.0)) (omega (arith, inside, before))
      (early_in p q.from (omega (arith, inside, before)) (λ s a b. same s a ∙ first_holds p q ps s rises a b))
      (early_gaps q ps rises.1 inside (λ s a. same s (omega (arith, a, rises.0)) ∙ rest_holds p q ps s a)))

  pub fifo_gaps : (first p : Piece) (ps : List Piece) → Follow p ps → (last_from p ps).from < day
      → ((s : ℕ) → p.from ≤ s → piece_at all s ≡ piece_at (p ∷ ps) s) → piece_at all 0 ≡ Some first
      → IsFirst (is_overtaken all) p.from day (option_or (first_between overtaken_by (p ∷ ps)) (overtaken_at_midnight (last_from p ps) first))
  fifo_gaps first p [] rises inside same start = overtaken_last p first inside (λ s a b. same s a ∙ alone_holds p s a) start
  fifo_gaps first p (q ∷ ps) rises inside same start =
      let before = first_of_last q ps rises.1 in
      subst (λ (o : Option ℕ). IsFirst (is_overtaken all) p.from day o)
      (sym (option_or-assoc (overtaken_by p q) (first_between overtaken_by (q ∷ ps)) (overtaken_at_midnight (last_from q ps) first)))
      (first_joined (is_overtaken all) p.from q.from day (overtaken_by p q) _ (omega (arith, rises.0)) (omega (arith, inside, before))
      (overtaken_in p q rises.0 (omega (arith, inside, before)) (λ s a b. same s a ∙ first_holds p q ps s rises a b)
      (same q.from (omega (arith, rises.0)) ∙ rest_holds p q ps q.from (omega arith) ∙ begins q ps rises.1))
      (fifo_gaps first q ps rises.1 inside (λ s a. same s (omega (arith, a, rises.0)) ∙ rest_holds p q ps s a) start))
