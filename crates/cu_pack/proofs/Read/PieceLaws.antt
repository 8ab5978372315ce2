-- Pieces that stand one behind the other, and whether they make a profile.
use Rattle.std.proofs.Common.{◌≡◌, ◌≤◌, ◌<◌, ◌+◌, ◌-◌, ◌∙◌, ◌++◌, ◌∷◌, [], ℕ, List, IsTrue, None, Some, ap, sym, refl, inl, inr, arith, length, map}
use Rattle.std.specs.Prelude.{◌↔◌, Result, Ok, Err, MatchResult, is_err}
use Rattle.std.specs.List.{range_with_len}
use Rattle.std.proofs.lemmas.List.FromFn.{length-map-range_with_len, map-range_with_len_more}
use Rattle.cu_model.specs.declared.profiles.PieceFault.{PieceFault}
use Rattle.cu_model.specs.Faults.{piece_fault}
use Rattle.cu_model.proofs.FaultLaws.{piece_fault-none, piece_fault_none_from}
use Rattle.cu_pack.specs.Checks.{ArePiecesWrong, IsWrongProfile}
use Rattle.cu_pack.specs.Reading.{counts_in, piece_from, piece_kind, piece_place, profile_start}
use Rattle.cu_pack.specs.Steps.Pieces.{AreNoProfile, pieces_between}

-- so many pieces stand between two places
pub length-pieces : (bytes : List ℕ) (start end : ℕ) → length (pieces_between bytes start end) ≡ end - start
length-pieces bytes start end = length-map-range_with_len (λ (piece : ℕ). piece_from bytes (piece_place bytes piece)) start (end - start)

-- one piece more
pub pieces_more : (bytes : List ℕ) (start end : ℕ) → start ≤ end
    → pieces_between bytes start end ++ piece_from bytes (piece_place bytes end) ∷ [] ≡ pieces_between bytes start (end + 1)
pieces_more bytes start end order =
    let more = map-range_with_len_more (λ (piece : ℕ). piece_from bytes (piece_place bytes piece)) start (end - start) end (omega arith) in
    let longer : end - start + 1 ≡ end + 1 - start = omega arith in
    sym more ∙ ap (λ (count : ℕ). map (λ (piece : ℕ). piece_from bytes (piece_place bytes piece)) (range_with_len start count)) longer

-- where all are of known kinds, they make no profile exactly where there is a fault
pub fault_decides : {A : Type 0} (bytes : List ℕ) (start end : ℕ) (answer : Result A PieceFault) → ((piece : ℕ) → start ≤ piece → piece < end → piece_kind bytes piece ≤ 2)
    → MatchResult answer (λ _. piece_fault (pieces_between bytes start end) ≡ None) (λ fault. piece_fault (pieces_between bytes start end) ≡ Some fault)
    → IsTrue (is_err answer) ↔ AreNoProfile bytes start end
fault_decides bytes start end (Ok a) kinds none = (
  λ e. absurd (cc e),
  λ wrong.
      elim wrong [
        | inl unknown ↦ let known = kinds unknown.0 unknown.1 unknown.2 in absurd (omega (arith, known, unknown.3))
        | inr invalid ↦ absurd (invalid (piece_fault-none (pieces_between bytes start end) none))
      ],
)
fault_decides bytes start end (Err fault) kinds some = (
  λ _. inr (λ valid. absurd (cc (some, piece_fault_none_from (pieces_between bytes start end) valid))),
  λ _. refl,
)

-- a profile whose pieces aren't wrong isn't, where the first start is 0
pub not_wrong : (bytes : List ℕ) (profile : ℕ) → profile < (counts_in bytes).profiles → profile_start bytes 0 ≡ 0 → (ArePiecesWrong bytes profile → ⊥) → IsWrongProfile bytes profile → ⊥
not_wrong bytes profile inside first right (inl (none, other)) = other first
not_wrong bytes profile inside first right (inr (inl (within, wrong))) = right wrong
not_wrong bytes profile inside first right (inr (inr (end, other))) = absurd (omega arith)
