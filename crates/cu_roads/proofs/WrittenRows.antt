-- Values written as numbered rows, and read again.
use Rattle.std.proofs.Common.{◌≡◌, ◌∙◌, ◌≤◌, ◌<◌, ◌+◌, ℕ, suc, List, [], ◌∷◌, ◌++◌, Option, None, refl, ap, sym, arith, length, length-take, map, get_or, take}
use Rattle.std.specs.Prelude.{All}
use Rattle.std.specs.Option.{option_or}
use Rattle.std.proofs.lemmas.List.{take_more}
use Rattle.std.proofs.lemmas.List.Elements.{All-head, All-tail}
use Rattle.csv.specs.Writing.{read_back}
use Rattle.cu_roads.specs.declared.refusals.RoadRefusal.{RoadRefusal}
use Rattle.cu_roads.specs.NetworkTexts.{first_fault}
use Rattle.cu_roads.specs.Written.{rows_from}

-- one more value
rows_from-more : {T : Type 0} (row : ℕ → T → List (List ℕ)) (number : ℕ) (values : List T) (value : T)
    → rows_from row number (values ++ (value ∷ [])) ≡ rows_from row number values ++ (row (number + length values) value ∷ [])
rows_from-more row number [] value = let e : number ≡ number + 0 = omega arith in ap (λ (n : ℕ). row n value ∷ []) e
rows_from-more row number (first ∷ values) value =
    let e : (number + 1) + length values ≡ number + suc (length values) = omega arith in
    ap (λ (rows : List (List (List ℕ))). row number first ∷ rows) (rows_from-more row (number + 1) values value)
    ∙ ap (λ (n : ℕ). row number first ∷ (rows_from row (number + 1) values ++ (row n value ∷ []))) e

-- the table of the values before one, and that one
pub table_more : {T : Type 0} (header : List (List ℕ)) (row : ℕ → T → List (List ℕ)) (values : List T) (i : ℕ) (d : T) → i < length values
    → (header ∷ rows_from row 0 (take i values)) ++ (row i (get_or values i d) ∷ []) ≡ header ∷ rows_from row 0 (take (i + 1) values)
table_more {T} header row values i d h =
    let so_many : i ≡ 0 + length (take i values) = omega (arith, h, length-take i values) in
    ap (λ (n : ℕ). header ∷ (rows_from row 0 (take i values) ++ (row n (get_or values i d) ∷ []))) so_many
    ∙ ap (λ (rows : List (List (List ℕ))). header ∷ rows) (sym (rows_from-more row 0 (take i values) (get_or values i d)))
    ∙ ap (λ (vs : List T). header ∷ rows_from row 0 vs) (sym (take_more values i d h))

-- Below this limit a value of this kind is written as a row that passes its checks and has the value.
pub record IsReadBack {T : Type 0} (row : ℕ → T → List (List ℕ)) (fault : ℕ → List (List ℕ) → Option RoadRefusal) (value : List (List ℕ) → T)
    (limit : ℕ) (Fits : T → Type 0) : Type 0 where
  pub passes : (number : ℕ) (x : T) → number < limit → Fits x → fault number (row number x) ≡ None
  pub same : (number : ℕ) (x : T) → Fits x → value (row number x) ≡ x
  pub plain : (number : ℕ) (x : T) → read_back (row number x) ≡ row number x

module _ {T : Type 0} {row : ℕ → T → List (List ℕ)} {fault : ℕ → List (List ℕ) → Option RoadRefusal} {value : List (List ℕ) → T} {limit : ℕ} {Fits : T → Type 0}
    (b : IsReadBack row fault value limit Fits) where
  pub rows_pass : (number : ℕ) (xs : List T) → All Fits xs → number + length xs ≤ limit → first_fault fault number (rows_from row number xs) ≡ None
  rows_pass number [] a few = refl
  rows_pass number (x ∷ xs) a few =
      ap (λ (o : Option RoadRefusal). option_or o (first_fault fault (number + 1) (rows_from row (number + 1) xs))) (b.passes number x (omega (arith, few)) (All-head Fits x xs a))
      ∙ rows_pass (number + 1) xs (All-tail Fits x xs a) (omega (arith, few))

  pub rows_same : (number : ℕ) (xs : List T) → All Fits xs → map value (rows_from row number xs) ≡ xs
  rows_same number [] a = refl
  rows_same number (x ∷ xs) a =
      ap (λ (y : T). y ∷ map value (rows_from row (number + 1) xs)) (b.same number x (All-head Fits x xs a))
      ∙ ap (λ (ys : List T). x ∷ ys) (rows_same (number + 1) xs (All-tail Fits x xs a))

  pub rows_plain : (number : ℕ) (xs : List T) → map read_back (rows_from row number xs) ≡ rows_from row number xs
  rows_plain number [] = refl
  rows_plain number (x ∷ xs) =
      ap (λ (r : List (List ℕ)). r ∷ map read_back (rows_from row (number + 1) xs)) (b.plain number x)
      ∙ ap (λ (rows : List (List (List ℕ))). row number x ∷ rows) (rows_plain (number + 1) xs)
