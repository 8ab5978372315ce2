-- The pieces of a profile that edits give.
use Rattle.std.proofs.Common.{◌≡◌, ◌∙◌, ◌<◌, ℕ, List, [], Option, Some, ap, arith, inl, inr, length, subst, sym}
use Rattle.std.proofs.lemmas.Option.{slice_get_cases}
use Rattle.std.specs.Borrow.{Bor}
use Rattle.cu_model.specs.declared.profiles.Piece.{Piece}
use Rattle.cu_model.specs.declared.roads.Edit.{Edit}
use Rattle.cu_model.specs.Networks.{NetworkValue}
use Rattle.cu_model.specs.Roads.{pieces_of, pieces_or_none}
use Rattle.cu_resettled.specs.ResettlingAll.{edited_all}
use Rattle.cu_edits.specs.Together.{GiveProfile}

pub pieces_given : (g now : NetworkValue) (edits : List Edit) → edited_all g edits ≡ now → (profile : ℕ) (found : Option (Bor (List Piece))) (pieces : Bor (List Piece))
    → GiveProfile g edits profile found → found ≡ Some pieces → profile < length g.profiles → pieces_of now profile ≡ pieces.now
pieces_given g now edits is profile found pieces gives same inside =
    let own = subst (GiveProfile g edits profile) same gives in
    ap (λ (n : NetworkValue). pieces_of n profile) (sym is) ∙ ap pieces_or_none (own inside)

-- a profile with pieces is there
pub has_pieces : (g : NetworkValue) (profile index : ℕ) → index < length (pieces_of g profile) → profile < length g.profiles
has_pieces g profile index lt = elim (slice_get_cases g.profiles profile).1 [
  | inl (list, inside, at, same) ↦ inside
  | inr past ↦
      let none : pieces_of g profile ≡ [] = ap pieces_or_none past.1 in
      let zero_long = ap (λ (ps : List Piece). length ps) none in
      absurd (omega (arith, lt, zero_long))
]
