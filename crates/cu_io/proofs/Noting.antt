-- How often a name stands in a list of names.
use Rattle.std.proofs.Common.{◌≡◌, ◌≢◌, ℕ, ◌+◌, ◌∙◌, Bool, false, sym, arith, inl, inr, List, [], ◌∷◌, ◌++◌, ap, cond, true, refl, string_bytes}
use Rattle.std.proofs.lemmas.List.Sums.{sum_by-append}
use Rattle.std.proofs.lemmas.Slice.Eq.{bytes_eq-Decides}
use Rattle.std.proofs.lemmas.Bool.{cases_Bool}
use Rattle.std.specs.Str.{bytes_eq}
use Rattle.std.specs.declared.string.String.{String}
use Rattle.std.specs.declared.alloc.Global.{Global}
use Rattle.cu_io.specs.MemoryShelves.{times_named}

bytes_eq-same : (bytes : List ℕ) → bytes_eq bytes bytes ≡ true
bytes_eq-same bytes = (bytes_eq-Decides bytes bytes).1 refl

pub times_named-added : (names : List (String Global)) (name : String Global) (bytes : List ℕ) → string_bytes name ≡ bytes →
    times_named (names ++ name ∷ []) bytes ≡ times_named names bytes + 1
times_named-added names name bytes is =
    let same : bytes_eq (string_bytes name) bytes ≡ true = ap (λ (t : List ℕ). bytes_eq t bytes) is ∙ bytes_eq-same bytes in
    let once : times_named (name ∷ []) bytes ≡ 1 = ap (λ (b : Bool). 0 + cond b 1 0) same in
    sum_by-append (λ (other : String Global). cond (bytes_eq (string_bytes other) bytes) 1 0) names (name ∷ [])
    ∙ ap (λ (n : ℕ). times_named names bytes + n) once

pub times_named-others : (names : List (String Global)) (name : String Global) (bytes other : List ℕ) → string_bytes name ≡ bytes → other ≢ bytes →
    times_named (names ++ name ∷ []) other ≡ times_named names other
times_named-others names name bytes other is differs =
    let no : bytes_eq (string_bytes name) other ≡ false = not_same (string_bytes name) other (λ same. differs (sym same ∙ is)) in
    let once : times_named (name ∷ []) other ≡ 0 = ap (λ (b : Bool). 0 + cond b 1 0) no in
    sum_by-append (λ (s : String Global). cond (bytes_eq (string_bytes s) other) 1 0) names (name ∷ [])
    ∙ ap (λ (n : ℕ). times_named names other + n) once ∙ omega arith
  where
    not_same : (xs ys : List ℕ) → xs ≢ ys → bytes_eq xs ys ≡ false
    not_same xs ys differs = elim (cases_Bool (bytes_eq xs ys)) [
      | inl same ↦ absurd (differs ((bytes_eq-Decides xs ys).0 same))
      | inr unlike ↦ unlike
    ]
