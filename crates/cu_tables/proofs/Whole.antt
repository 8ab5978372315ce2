-- All the records of a text are those that its reads give in turn.
use Rattle.std.proofs.Common.{◌≡◌, ◌≤◌, ◌+◌, ◌-◌, ◌∙◌, ℕ, zero, suc, List, [], ◌∷◌, ◌++◌, length, Some, None, refl, sym, ap, arith, inl, inr}
use Rattle.std.proofs.lemmas.Bool.{cases_Bool}
use Rattle.std.proofs.Math.Nat.{sub-zero}
use Rattle.csv.specs.Machine.{Read, next_record, ends_at_end, is_end, step, fields_after, field_after}
use Rattle.csv.specs.Reading.{AreRecords, Reached, records, records_from}
use Rattle.csv.specs.declared.parser.Config.{Config}
use Rattle.csv.specs.declared.parser.State.{State}
use Rattle.csv.specs.declared.parser.State.TheVariants as st

module _ (cfg : Config) where
  -- nothing comes of the end of a text at the start of a record
  none_at_end : (p : Read) → next_record cfg st.StartRecord [] [] [] ≡ Some p → ⊥
  unfolding next_record
  none_at_end p e = cc e

  -- the end of a text leaves the end of a text
  at_end : (s : State) (fields : List (List ℕ)) (field : List ℕ) (p : Read) → next_record cfg s fields field [] ≡ Some p
      → (p.1 ≡ st.StartRecord) × (p.2 ≡ [])
  unfolding next_record
  at_end s fields field p e = elim (cases_Bool (ends_at_end s)) [
    | inl ends ↦ let h = rw ends at e in (cc h, cc h)
    | inr goes ↦ let h = rw goes at e in absurd (cc h)
  ]

  -- a read takes at least one byte where there is one
  takes : (s : State) (fields : List (List ℕ)) (field : List ℕ) (c : ℕ) (rest : List ℕ) (p : Read) → next_record cfg s fields field (c ∷ rest) ≡ Some p
      → length p.2 ≤ length rest
  unfolding next_record
  takes s fields field c [] p e = elim (cases_Bool (is_end (step cfg s c).1)) [
    | inl ends ↦ let h = rw ends at e in let k : p.2 ≡ [] = cc h in rw k (omega arith)
    | inr goes ↦ let h = rw goes at e in let k = at_end _ _ _ p h in rw k.1 (omega arith)
  ]
  takes s fields field c (d ∷ rest) p e = elim (cases_Bool (is_end (step cfg s c).1)) [
    | inl ends ↦ let h = rw ends at e in let k : p.2 ≡ d ∷ rest = cc h in rw k (omega arith)
    | inr goes ↦ let h = rw goes at e in let k = takes (step cfg s c).0 (fields_after (step cfg s c).1 fields field) (field_after (step cfg s c).1 c field) d rest p h in omega (arith, k)
  ]

  -- a text has no more records than bytes, and one
  few : (s s2 : State) (xs ys : List ℕ) (rows : List (List (List ℕ))) → Reached cfg s xs rows s2 ys → length rows ≤ length xs + 1
  unfolding Reached
  few s s2 xs ys [] r = omega arith
  few s s2 [] ys (row ∷ []) r = omega arith
  few s s2 [] ys (row ∷ next ∷ rows) r =
      let (p, e, first, more) = r in
      let (q, e2, second, left) = more in
      let k = at_end s [] [] p e in
      absurd (none_at_end q (rw (k.0, k.1) at e2))
  few s s2 (c ∷ xs) ys (row ∷ rows) r =
      let (p, e, first, more) = r in
      let k = takes s [] [] c xs p e in
      let m = few p.1 s2 p.2 ys rows more in
      omega (arith, k, m)

  -- reads in turn, and then none, are what as many turns or more give
  enough : (n : ℕ) (s s2 : State) (xs ys : List ℕ) (rows : List (List (List ℕ))) → Reached cfg s xs rows s2 ys → next_record cfg s2 [] [] ys ≡ None
      → length rows ≤ n → records_from cfg n s xs ≡ rows
  unfolding Reached records_from
  enough zero s s2 xs ys [] r e h = refl
  enough zero s s2 xs ys (row ∷ rows) r e h = absurd (omega (arith, h))
  enough (suc n) s s2 xs ys [] r e h =
      let k : next_record cfg s [] [] xs ≡ None = rw (r.0, r.1) e in
      rw k refl
  enough (suc n) s s2 xs ys (row ∷ rows) r e h =
      let (p, e1, first, more) = r in
      let k = enough n p.1 s2 p.2 ys rows more e (omega (arith, h)) in
      rw (e1, first) (ap (λ (t : List (List (List ℕ))). p.0 ∷ t) k)

  -- reads in turn are a front of what as many turns or more give
  front_from : (n : ℕ) (s s2 : State) (xs ys : List ℕ) (rows : List (List (List ℕ))) → Reached cfg s xs rows s2 ys
      → length rows ≤ n → records_from cfg n s xs ≡ rows ++ records_from cfg (n - length rows) s2 ys
  unfolding Reached records_from
  front_from n s s2 xs ys [] r h = rw (r.0, r.1, sub-zero n) refl
  front_from zero s s2 xs ys (row ∷ rows) r h = absurd (omega (arith, h))
  front_from (suc n) s s2 xs ys (row ∷ rows) r h =
      let (p, e1, first, more) = r in
      let k = front_from n p.1 s2 p.2 ys rows more (omega (arith, h)) in
      let same : suc n - suc (length rows) ≡ n - length rows = omega arith in
      rw (e1, first) (ap (λ (t : List (List (List ℕ))). p.0 ∷ t) (k ∙ ap (λ (m : ℕ). rows ++ records_from cfg m s2 ys) (sym same)))

  -- what was read so far is a front of the records of the text
  pub front_of : (s2 : State) (xs ys : List ℕ) (rows : List (List (List ℕ))) → Reached cfg st.StartRecord xs rows s2 ys
      → records cfg xs ≡ rows ++ records_from cfg (length xs + 1 - length rows) s2 ys
  front_of s2 xs ys rows r = front_from (length xs + 1) st.StartRecord s2 xs ys rows r (few st.StartRecord s2 xs ys rows r)

  -- the records of a text, as a list
  pub all_of : (xs : List ℕ) (rows : List (List (List ℕ))) → AreRecords cfg st.StartRecord xs rows → rows ≡ records cfg xs
  all_of xs rows r =
      let (s2, ys, reached, none) = r in
      sym (enough (length xs + 1) st.StartRecord s2 xs ys rows reached none (few st.StartRecord s2 xs ys rows reached))
