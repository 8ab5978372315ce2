-- A fault that names a piece names one of the pieces, so its row is one of theirs.
use Rattle.std.proofs.Common.{◌≡◌, ◌<◌, ◌≤◌, ◌+◌, ℕ, List, [], ◌∷◌, Bool, true, false, Option, Some, None, length, refl, subst, arith, inl, inr}
use Rattle.std.specs.Prelude.{nat_lt, not, position, if◌then◌else◌}
use Rattle.std.specs.Option.{option_map, option_or}
use Rattle.std.proofs.lemmas.Bool.{cases_Bool}
use Rattle.std.proofs.lemmas.List.Quantifiers.{position-Some}
use Rattle.cu_model.specs.declared.profiles.Piece.{Piece}
use Rattle.cu_model.specs.declared.profiles.Rule.TheVariants.{Travel}
use Rattle.cu_model.specs.declared.profiles.PieceFault.{PieceFault}
use Rattle.cu_model.specs.declared.profiles.PieceFault.TheVariants.{Limit, Start, Rising, Closed, Early, Fifo}
use Rattle.cu_model.specs.Faults.{first_fallen, piece_fault, starts_day}
use Rattle.cu_model.specs.Profiles.{is_closed_piece, is_in_limit}
use Rattle.cu_profile.specs.ProfileTexts.{fault_row}

fallen_within : (index : ℕ) (pieces : List Piece) (found : ℕ) → first_fallen index pieces ≡ Some found → found < index + length pieces
fallen_within index [] found e = absurd (cc e)
fallen_within index (piece ∷ []) found e = absurd (cc e)
fallen_within index (piece ∷ next ∷ pieces) found e = elim (cases_Bool (nat_lt piece.from next.from)) [
  | inl rises ↦ let k = fallen_within (index + 1) (next ∷ pieces) found (rw rises at e) in omega (arith, k)
  | inr falls ↦ let k : index + 1 ≡ found = cc (rw falls at e) in omega (arith, k)
]

-- a fault, where there is one, names a row no further than this
abbrev Within : ℕ → ℕ → Option PieceFault → Type 0
Within first last fault = (found : PieceFault) → fault ≡ Some found → fault_row first found ≤ last

module _ (first last : ℕ) where
  or_within : (a b : Option PieceFault) → Within first last a → Within first last b → Within first last (option_or a b)
  or_within None b h k found e = k found e
  or_within (Some fault) b h k found e = h found e

  map_within : (name : ℕ → PieceFault) (o : Option ℕ) → ((i : ℕ) → o ≡ Some i → fault_row first (name i) ≤ last) → Within first last (option_map name o)
  map_within name None h found e = absurd (cc e)
  map_within name (Some i) h found e = let same : name i ≡ found = cc e in subst (λ (f : PieceFault). fault_row first f ≤ last) same (h i refl)

  if_within : (test : Bool) (o : Option PieceFault) → Within first last o → Within first last (if test then o else None)
  if_within true o h found e = h found e
  if_within false o h found e = absurd (cc e)

start_within : (first n : ℕ) (starts : Bool) → Within first (first + n) (if starts then None else Some Start)
start_within first n true found e = absurd (cc e)
start_within first n false found e = let same : Start ≡ found = cc e in subst (λ (f : PieceFault). fault_row first f ≤ first + n) same (omega arith)

position_within : (first : ℕ) (pieces : List Piece) (test : Piece → Bool) (i : ℕ) → position test pieces ≡ Some i → first + i ≤ first + length pieces
position_within first pieces test i e = let k = (position-Some test pieces i (record { from = 0; rule = Travel 0 }) e).0 in omega (arith, k)

pub fault_within : (first : ℕ) (pieces : List Piece) (fault : PieceFault) → piece_fault pieces ≡ Some fault → fault_row first fault ≤ first + length pieces
fault_within first pieces =
    let last = first + length pieces in
    or_within first last _ _ (map_within first last Limit _ (position_within first pieces (λ piece. not (is_in_limit piece))))
    (or_within first last _ _ (start_within first (length pieces) (starts_day pieces))
    (or_within first last _ _ (map_within first last Rising _ (λ i h. let k = fallen_within 0 pieces i h in omega (arith, k)))
    (or_within first last _ _ (if_within first last (nat_lt 1 (length pieces)) _ (map_within first last Closed _ (position_within first pieces is_closed_piece)))
    (or_within first last _ _ (map_within first last Early _ (λ i h. omega arith)) (map_within first last Fifo _ (λ i h. omega arith))))))
