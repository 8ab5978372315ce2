-- Lines: the first one, and those that have ended.
use Rattle.std.proofs.Common.{◌≡◌, ◌<◌, ◌+◌, ◌-◌, ◌∙◌, ◌==◌, ℕ, zero, suc, Bool, List, [], ◌∷◌, ◌++◌, Some, None, length, take, drop, get_or, false, refl, sym, ap, arith, inl, inr}
use Rattle.std.proofs.Common.{cond, position, All}
use Rattle.std.specs.List.{onto_first}
use Rattle.std.specs.List.{position_or_len}
use Rattle.std.proofs.lemmas.Bool.{cases_Bool, cases_lt, lt-ltb, eqb-true}
use Rattle.std.proofs.lemmas.List.{take_rest, length-take, get_or-take, take_more}
use Rattle.std.proofs.lemmas.List.Quantifiers.{position-Some}
use Rattle.std.proofs.lemmas.List.Sums.{fails_before_first, sum_by-cons}
use Rattle.cu_io.specs.Lines.{lines_of, feeds, ended_lines_of}

-- bytes with no line feed are one line, where there are any
pub lines_of_plain : (b : ℕ) (bs : List ℕ) → All (λ byte. (byte == 10) ≡ false) (b ∷ bs) → lines_of (b ∷ bs) ≡ (b ∷ bs) ∷ []
lines_of_plain b [] none = let here : (b == 10) ≡ false = none 0 b (omega arith) in rw here refl
lines_of_plain b (c ∷ bs) none =
    let here : (b == 10) ≡ false = none 0 b (omega arith) in
    let rest : lines_of (c ∷ bs) ≡ (c ∷ bs) ∷ [] = lines_of_plain c bs (λ k d h. none (suc k) d (omega (arith, h))) in
    rw here (ap (λ (t : List (List ℕ)). onto_first b t) rest)

-- a line feed ends the first line
pub lines_of_ended : (xs ys : List ℕ) → All (λ byte. (byte == 10) ≡ false) xs → lines_of (xs ++ 10 ∷ ys) ≡ xs ∷ lines_of ys
lines_of_ended [] ys none = refl
lines_of_ended (b ∷ xs) ys none =
    let here : (b == 10) ≡ false = none 0 b (omega arith) in
    let rest : lines_of (xs ++ 10 ∷ ys) ≡ xs ∷ lines_of ys = lines_of_ended xs ys (λ k d h. none (suc k) d (omega (arith, h))) in
    rw here (ap (λ (t : List (List ℕ)). onto_first b t) rest)

-- the bytes before the first line feed have none
pub front_plain : (bs : List ℕ) (i : ℕ) → position (λ byte. byte == 10) bs ≡ Some i → All (λ byte. (byte == 10) ≡ false) (take i bs)
front_plain bs i h k d lt =
    let p = position-Some (λ byte. byte == 10) bs i d h in
    let below : k < i = omega (arith, lt, length-take i bs) in
    rw (get_or-take i bs k d below) (p.2 k below)

-- a list, cut at one of its elements
pub cut_at : (xs : List ℕ) (i x : ℕ) → i < length xs → get_or xs i 0 ≡ x → xs ≡ take i xs ++ x ∷ drop (i + 1) xs
cut_at [] i x lt e = absurd (omega (arith, lt))
cut_at (y ∷ ys) zero x lt e = ap (λ (t : ℕ). t ∷ ys) e
cut_at (y ∷ ys) (suc i) x lt e =
    let same : suc i + 1 ≡ suc (i + 1) = omega arith in
    rw same (ap (λ (t : List ℕ). y ∷ t) (cut_at ys i x (omega (arith, lt)) e))

-- the first line of bytes with a line feed, and what stands behind it
pub lines_of_some : (bs : List ℕ) (i : ℕ) → position (λ byte. byte == 10) bs ≡ Some i
    → lines_of bs ≡ take i bs ∷ lines_of (take (length bs - (i + 1)) (drop (i + 1) bs))
lines_of_some bs i h =
    let p = position-Some (λ byte. byte == 10) bs i 0 h in
    let feed : get_or bs i 0 ≡ 10 = eqb-true (get_or bs i 0) 10 p.1 in
    let parts : bs ≡ take i bs ++ 10 ∷ drop (i + 1) bs = cut_at bs i 10 p.0 feed in
    rw take_rest (ap lines_of parts ∙ lines_of_ended (take i bs) (drop (i + 1) bs) (front_plain bs i h))

-- nothing that passes a test stands where none is found
pub position-None : (p : ℕ → Bool) (xs : List ℕ) → position p xs ≡ None → All (λ x. p x ≡ false) xs
position-None p xs h = elim (cases_lt (position_or_len p xs) (length xs)) [
  | inl lt ↦ let e = rw (lt-ltb (position_or_len p xs) (length xs) lt) at h in absurd (cc e)
  | inr le ↦ λ k d lt. fails_before_first p xs k d (omega (arith, lt, le))
]

-- bytes with no line feed are one line
pub lines_of_none : (bs : List ℕ) → 0 < length bs → position (λ byte. byte == 10) bs ≡ None → lines_of bs ≡ bs ∷ []
lines_of_none [] some h = absurd (omega (arith, some))
lines_of_none (b ∷ bs) some h = lines_of_plain b bs (position-None (λ byte. byte == 10) (b ∷ bs) h)

pub feeds-cons : (b : ℕ) (bs : List ℕ) → feeds (b ∷ bs) ≡ cond (b == 10) 1 0 + feeds bs
feeds-cons b bs = sum_by-cons (λ byte. cond (byte == 10) 1 0) b bs

pub feeds_none : (bs : List ℕ) → All (λ byte. (byte == 10) ≡ false) bs → feeds bs ≡ 0
feeds_none [] none = refl
feeds_none (b ∷ bs) none =
    let here : (b == 10) ≡ false = none 0 b (omega arith) in
    let rest : feeds bs ≡ 0 = feeds_none bs (λ k d h. none (suc k) d (omega (arith, h))) in
    feeds-cons b bs ∙ rw (here, rest) refl

feeds_some : (xs ys : List ℕ) → 0 < feeds (xs ++ 10 ∷ ys)
feeds_some [] ys = let e = feeds-cons 10 ys in omega (arith, e)
feeds_some (b ∷ xs) ys =
    let e = feeds-cons b (xs ++ 10 ∷ ys) in
    let rest = feeds_some xs ys in
    omega (arith, e, rest)

-- a byte put before the first of some lines, or before all of them
take-onto_first : (b n : ℕ) (lines : List (List ℕ)) → 0 < n → take n (onto_first b lines) ≡ onto_first b (take n lines)
take-onto_first b zero lines h = absurd (omega (arith, h))
take-onto_first b (suc n) [] h = ap (λ (t : List (List ℕ)). (b ∷ []) ∷ t) (take-nil n)
  where
    take-nil : (n : ℕ) → take {A = List ℕ} n [] ≡ []
    take-nil zero = refl
    take-nil (suc n) = refl
take-onto_first b (suc n) (line ∷ lines) h = refl

-- up to a line feed that is the last there are as many lines as line feeds
ended_by : (xs ys : List ℕ) → All (λ byte. (byte == 10) ≡ false) ys → lines_of (xs ++ 10 ∷ []) ≡ take (feeds (xs ++ 10 ∷ ys)) (lines_of (xs ++ 10 ∷ ys))
ended_by [] ys none =
    let count : feeds (10 ∷ ys) ≡ suc 0 = feeds-cons 10 ys ∙ rw (feeds_none ys none) refl in
    rw count refl
ended_by (b ∷ xs) ys none = elim (cases_Bool (b == 10)) [
  | inl feed ↦
      let count : feeds (b ∷ (xs ++ 10 ∷ ys)) ≡ suc (feeds (xs ++ 10 ∷ ys)) = feeds-cons b (xs ++ 10 ∷ ys) ∙ rw feed (omega arith) in
      rw (count, feed) (ap (λ (t : List (List ℕ)). [] ∷ t) (ended_by xs ys none))
  | inr plain ↦
      let count : feeds (b ∷ (xs ++ 10 ∷ ys)) ≡ feeds (xs ++ 10 ∷ ys) = feeds-cons b (xs ++ 10 ∷ ys) ∙ rw plain (omega arith) in
      rw (count, plain) (ap (λ (t : List (List ℕ)). onto_first b t) (ended_by xs ys none) ∙ sym (take-onto_first b (feeds (xs ++ 10 ∷ ys)) (lines_of (xs ++ 10 ∷ ys)) (feeds_some xs ys)))
]

-- the bytes up to the last line feed have the lines that have ended
pub ended_lines_of_some : (bs : List ℕ) (last : ℕ) → last < length bs → get_or bs last 0 ≡ 10 → All (λ byte. (byte == 10) ≡ false) (drop (last + 1) bs)
    → lines_of (take (last + 1) bs) ≡ ended_lines_of bs
ended_lines_of_some bs last lt feed none =
    let parts : bs ≡ take last bs ++ 10 ∷ drop (last + 1) bs = cut_at bs last 10 lt feed in
    let more : take (last + 1) bs ≡ take last bs ++ 10 ∷ [] = take_more bs last 0 lt ∙ rw feed refl in
    rw more (ended_by (take last bs) (drop (last + 1) bs) none ∙ ap ended_lines_of (sym parts))

pub ended_lines_of_none : (bs : List ℕ) → All (λ byte. (byte == 10) ≡ false) bs → lines_of (take 0 bs) ≡ ended_lines_of bs
ended_lines_of_none bs none =
    let count : feeds bs ≡ 0 = feeds_none bs none in
    rw count refl
