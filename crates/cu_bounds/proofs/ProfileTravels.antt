-- The least travels of all profiles, and those of roads by them.
use Rattle.std.proofs.Common.{◌≡◌, ◌≤◌, ◌<◌, ◌+◌, ◌∙◌, ℕ, List, [], ◌∷◌, ◌++◌, Some, true, ap, arith, drop, get_or, length, ltb, map, min, refl, subst, sym, take}
use Rattle.std.specs.Prelude.{slice_get}
use Rattle.std.proofs.lemmas.Bool.{and_parts, leb-true}
use Rattle.std.proofs.lemmas.List.{drop_more, get_or-map, length-map, map_more}
use Rattle.std.proofs.lemmas.Option.{get_or_from_slice_get, slice_get-get_or, slice_get_within}
use Rattle.cu_model.specs.declared.limits.TheConstants.{MAX_TRAVEL, MAX_UNTIL}
use Rattle.cu_model.specs.declared.profiles.Piece.{Piece}
use Rattle.cu_model.specs.declared.profiles.Rule.{Rule}
use Rattle.cu_model.specs.declared.profiles.Rule.TheVariants.{Travel, Until, Closed}
use Rattle.cu_model.specs.declared.roads.RoadArc.{RoadArc}
use Rattle.cu_model.specs.Days.{day}
use Rattle.cu_model.specs.Networks.{IsArcInRange, IsNetwork, NetworkValue}
use Rattle.cu_model.specs.Profiles.{IsProfile, is_rule_in_limit}
use Rattle.cu_model.specs.Roads.{pieces_of}
use Rattle.cu_model.proofs.Copied.{pieces_there}
use Rattle.cu_model.proofs.RoadLaws.{all_at}
use Rattle.cu_interval.specs.LeastPieces.{arc_pieces, next_from, pieces_least, profile_pieces, road_pieces, rule_least}

-- what is known of the pieces from one on: their least travel, and where they begin
pub record AreTaken (pieces : List Piece) (least until : ℕ) : Type 0 where
  pub travel : least ≡ pieces_least pieces
  pub begin : until ≡ next_from pieces

-- one more piece before them
pub taken_more : (pieces : List Piece) (i j : ℕ) (piece : Piece) (least until less : ℕ) → j + 1 ≡ i → slice_get pieces j ≡ Some piece
    → less ≡ min least (rule_least piece.rule until) → AreTaken (drop i pieces) least until → AreTaken (drop j pieces) less piece.from
taken_more pieces i j piece least until less next there is taken =
    let lt = slice_get_within pieces j piece there in
    let same = get_or_from_slice_get pieces j piece piece there in
    let parts : drop j pieces ≡ piece ∷ drop (j + 1) pieces = drop_more pieces j piece lt ∙ ap (λ (p : Piece). p ∷ drop (j + 1) pieces) same in
    let whole : drop j pieces ≡ piece ∷ drop i pieces = parts ∙ ap (λ (k : ℕ). piece ∷ drop k pieces) next in
    let one = taken.travel in
    let two = ap (rule_least piece.rule) taken.begin in
    subst (λ (ps : List Piece). AreTaken ps less piece.from) (sym whole) (record { travel = omega (arith, one, two, is); begin = refl })

rule_small : (r : Rule) (until : ℕ) → is_rule_in_limit r ≡ true → rule_least r until ≤ MAX_UNTIL
rule_small (Travel d) until h = let most = leb-true d MAX_TRAVEL h in omega (arith, most)
rule_small (Until c) until h = let most = leb-true c MAX_UNTIL h in omega (arith, most)
rule_small (Closed v) until h = omega arith

profile_small : (pieces : List Piece) → IsProfile pieces → pieces_least pieces ≤ MAX_UNTIL
profile_small [] f = absurd (let e = f.starts in cc e)
profile_small (p ∷ ps) f =
    let parts = and_parts (ltb p.from day) (is_rule_in_limit p.rule) (f.limits 0 p (omega arith)) in
    let small = rule_small p.rule (next_from ps) parts.1 in
    omega (arith, small)

-- no profile's least travel is more than eight days
pub least_small : (g : NetworkValue) → IsNetwork g → (profile : ℕ) → profile < length g.profiles → pieces_least (pieces_of g profile) ≤ MAX_UNTIL
least_small g n profile lt =
    let (at, is) = pieces_there g n profile lt (pieces_of g profile) refl in
    profile_small (pieces_of g profile) is

-- one more profile
pub travels_more : (g : NetworkValue) → IsNetwork g → (profile : ℕ) → profile < length g.profiles → (old new : List ℕ) (least : ℕ)
    → least ≡ pieces_least (pieces_of g profile) → old ≡ map pieces_least (take profile g.profiles) → new ≡ old ++ (least ∷ [])
    → new ≡ map pieces_least (take (profile + 1) g.profiles)
travels_more g n profile lt old new least is before more =
    let (at, valid) = pieces_there g n profile lt (pieces_of g profile) refl in
    let same : get_or g.profiles profile [] ≡ pieces_of g profile = get_or_from_slice_get g.profiles profile (pieces_of g profile) [] at in
    let last : least ≡ pieces_least (get_or g.profiles profile []) = is ∙ ap pieces_least (sym same) in
    more ∙ ap (λ (xs : List ℕ). xs ++ (least ∷ [])) before ∙ ap (λ (x : ℕ). map pieces_least (take profile g.profiles) ++ (x ∷ [])) last
    ∙ sym (map_more pieces_least g.profiles profile [] lt)

-- the least travel of a road is that of its profile
pub road_travel : (g : NetworkValue) → IsNetwork g → (travels : List ℕ) → travels ≡ map pieces_least g.profiles
    → (a : ℕ) (arc : RoadArc) → slice_get g.arcs a ≡ Some arc
    → (arc.profile < length travels) × ((d : ℕ) → get_or travels arc.profile d ≡ road_pieces g a)
road_travel g n travels all a arc at =
    let range = all_at (IsArcInRange g) g.arcs a arc n.in_range at in
    let count : length travels ≡ length g.profiles = ap length all ∙ length-map g.profiles pieces_least in
    let there : slice_get g.profiles arc.profile ≡ Some (get_or g.profiles arc.profile []) = slice_get-get_or g.profiles arc.profile [] range.2 in
    let road : road_pieces g a ≡ pieces_least (get_or g.profiles arc.profile []) = ap (arc_pieces g) at ∙ ap profile_pieces there in
    let travel : (d : ℕ) → get_or (map pieces_least g.profiles) arc.profile d ≡ road_pieces g a =
    λ d. get_or-map pieces_least g.profiles arc.profile [] d range.2 ∙ sym road in
    (omega (arith, count, range.2), λ d. ap (λ (xs : List ℕ). get_or xs arc.profile d) all ∙ travel d)
