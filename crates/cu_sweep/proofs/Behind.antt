-- What lies behind a place of a list, the last first.
use Rattle.std.proofs.Common.{◌≡◌, ◌<◌, ◌∙◌, ℕ, zero, suc, List, [], ◌∷◌, ◌++◌, Option, refl, sym, ap, subst, arith, inl, inr, length, get_or, drop, reverse, append_assoc}
use Rattle.std.specs.List.{AllPairs, Contains, cons_option, filter_map}
use Rattle.cu_interval.specs.declared.relaxing.Call.{Call}
use Rattle.std.proofs.lemmas.List.{reverse-append}
use Rattle.std.proofs.lemmas.List.Elements.{Contains-append_cases}
use Rattle.cu_chordal.proofs.Members.{here, there, member_cases, none_in_nil, pairs_head, pairs_tail}
use Rattle.cu_sweep.proofs.UpRows.{member_before, member_last}

pub reverse_first : (x : ℕ) (xs : List ℕ) → reverse (x ∷ xs) ≡ reverse xs ++ (x ∷ [])
reverse_first x xs = reverse-append (x ∷ []) xs

pub drop_at : (xs : List ℕ) (k : ℕ) → k < length xs → drop k xs ≡ get_or xs k 0 ∷ drop (suc k) xs
drop_at [] k lt = absurd (omega (arith, lt))
drop_at (x ∷ xs) zero lt = refl
drop_at (x ∷ xs) (suc k) lt = drop_at xs k (omega (arith, lt))

pub drop_all : (xs : List ℕ) → drop (length xs) xs ≡ []
drop_all [] = refl
drop_all (x ∷ xs) = drop_all xs

pub turned_at : (xs : List ℕ) (k : ℕ) → k < length xs → reverse (drop k xs) ≡ reverse (drop (suc k) xs) ++ (get_or xs k 0 ∷ [])
turned_at xs k lt = ap reverse (drop_at xs k lt) ∙ reverse_first (get_or xs k 0) (drop (suc k) xs)

pub turned_member : (xs : List ℕ) (y : ℕ) → Contains xs y → Contains (reverse xs) y
turned_member [] y c = absurd (none_in_nil y c)
turned_member (x ∷ xs) y c =
    subst (λ (ys : List ℕ). Contains ys y) (sym (reverse_first x xs)) (elim (member_cases x xs y c) [
      | inl same ↦ subst (λ (w : ℕ). Contains (reverse xs ++ (x ∷ [])) w) same (member_last (reverse xs) x)
      | inr rest ↦ member_before (reverse xs) x y (turned_member xs y rest)
    ])

pub turned_back : (xs : List ℕ) (y : ℕ) → Contains (reverse xs) y → Contains xs y
turned_back [] y c = c
turned_back (x ∷ xs) y c =
    elim (Contains-append_cases (reverse xs) (x ∷ []) y (subst (λ (ys : List ℕ). Contains ys y) (reverse_first x xs) c)) [
      | inl before ↦ there x xs y (turned_back xs y before)
      | inr last ↦ elim (member_cases x [] y last) [
        | inl same ↦ subst (Contains (x ∷ xs)) same (here x xs)
        | inr none ↦ absurd (none_in_nil y none)
      ]
    ]

pub member_behind : (xs : List ℕ) (k y : ℕ) → AllPairs (λ a b. a < b) xs → k < length xs → Contains xs y → get_or xs k 0 < y → Contains (drop (suc k) xs) y
member_behind [] k y f lt c less = absurd (omega (arith, lt))
member_behind (x ∷ xs) zero y f lt c less =
    elim (member_cases x xs y c) [
      | inl same ↦ absurd (omega (arith, same, less))
      | inr rest ↦ rest
    ]
member_behind (x ∷ xs) (suc k) y f lt c less =
    elim (member_cases x xs y c) [
      | inl same ↦ let first = pairs_head (λ a b. a < b) x xs f k 0 (omega (arith, lt)) in absurd (omega (arith, same, first, less))
      | inr rest ↦ member_behind xs k y (pairs_tail (λ a b. a < b) x xs f) (omega (arith, lt)) rest less
    ]

pub filter_same : (f g : ℕ → Option Call) (xs : List ℕ) → ((y : ℕ) → Contains xs y → f y ≡ g y) → filter_map f xs ≡ filter_map g xs
filter_same f g [] e = refl
filter_same f g (x ∷ xs) e =
    ap (λ (o : Option Call). cons_option o (filter_map f xs)) (e x (here x xs)) ∙ ap (cons_option (g x)) (filter_same f g xs (λ y c. e y (there x xs y c)))

pub member_here : (xs : List ℕ) (k : ℕ) → k < length xs → Contains xs (get_or xs k 0)
member_here [] k lt = absurd (omega (arith, lt))
member_here (x ∷ xs) zero lt = here x xs
member_here (x ∷ xs) (suc k) lt = there x xs (get_or xs k 0) (member_here xs k (omega (arith, lt)))

-- the whole list turned: what lies behind a place, the place, and the rest
pub turned_cut : (xs : List ℕ) (k : ℕ) → k < length xs → (rest : List ℕ) × (reverse xs ≡ reverse (drop (suc k) xs) ++ (get_or xs k 0 ∷ rest))
turned_cut [] k lt = absurd (omega (arith, lt))
turned_cut (x ∷ xs) zero lt = ([], reverse_first x xs)
turned_cut (x ∷ xs) (suc k) lt =
    let (rest, same) = turned_cut xs k (omega (arith, lt)) in
    (rest ++ (x ∷ []), reverse_first x xs ∙ ap (λ (ys : List ℕ). ys ++ (x ∷ [])) same ∙ append_assoc (reverse (drop (suc k) xs)) (get_or xs k 0 ∷ rest) (x ∷ []))
