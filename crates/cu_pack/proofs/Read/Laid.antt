-- What is known of a file's profiles and way lists where no check finds one wrong.
use Rattle.std.proofs.Common.{◌≡◌, ◌≤◌, ◌<◌, ◌+◌, ◌-◌, ◌*◌, ℕ, suc, List, refl, arith, inl, inr}
use Rattle.std.proofs.lemmas.List.FromFn.{length-map-range_with_len}
use Rattle.cu_model.specs.Profiles.{IsProfile}
use Rattle.cu_interval.specs.declared.ways.Dir.{Dir}
use Rattle.cu_interval.specs.Hierarchies.{list_number}
use Rattle.cu_interval.specs.WayLists.{IsWayList}
use Rattle.cu_interval.proofs.EndsLaws.{number_within}
use Rattle.cu_pack.specs.Checks.{AreEntriesWrong, ArePiecesWrong, IsWrongList, IsWrongProfile, NoneWrong}
use Rattle.cu_pack.specs.Reading.{counts_in, entry_from, entry_kind, entry_place, list_in, piece_from, piece_kind, piece_place, profile_in, profile_start, way_start}
use Rattle.cu_pack.proofs.Numbering.ListNumbers.{list_parts}
use Rattle.cu_pack.proofs.Numbering.Runs.{LeadOn}
use Rattle.cu_pack.proofs.Numbering.Unrefuted.{least_else, less_else, profile_unrefuted, same_unrefuted, way_list_unrefuted}

module _ (bytes : List ℕ) (none : NoneWrong (IsWrongProfile bytes) (suc (counts_in bytes).profiles)) where
  -- the starts, and the pieces of each profile
  pub first_profile : profile_start bytes 0 ≡ 0
  first_profile = same_unrefuted (profile_start bytes 0) 0 (λ other. none 0 (omega arith) (inl (refl, other)))

  pub last_profile : profile_start bytes (counts_in bytes).profiles ≡ (counts_in bytes).pieces
  last_profile =
      let count : ℕ = (counts_in bytes).profiles in
      same_unrefuted (profile_start bytes count) (counts_in bytes).pieces (λ other. none count (omega arith) (inr (inr (refl, other))))

  module _ (profile : ℕ) (inside : profile < (counts_in bytes).profiles) where
    right : ArePiecesWrong bytes profile → ⊥
    right wrong = none profile (omega (arith, inside)) (inr (inl (inside, wrong)))

    pub profile_rises : profile_start bytes profile < profile_start bytes (suc profile)
    profile_rises = less_else (profile_start bytes profile) (profile_start bytes (suc profile)) (λ wrong. right (inl wrong))

    pub profile_within : profile_start bytes (suc profile) ≤ (counts_in bytes).pieces
    profile_within = least_else (profile_start bytes (suc profile)) (counts_in bytes).pieces (λ wrong. right (inr (inl wrong)))

    pub profile_kinds : (piece : ℕ) → profile_start bytes profile ≤ piece → piece < profile_start bytes (suc profile) → piece_kind bytes piece ≤ 2
    profile_kinds piece low high = least_else (piece_kind bytes piece) 2 (λ wrong. right (inr (inr (inl (piece, low, high, wrong)))))

    pub profile_valid : IsProfile (profile_in bytes profile)
    profile_valid = profile_unrefuted (profile_in bytes profile) (λ off. right (inr (inr (inr off))))

  pub profiles_lead : LeadOn (profile_start bytes) (profile_in bytes) 0 (0 + (counts_in bytes).profiles)
  profiles_lead k low high =
      let rises = profile_rises k (omega (arith, high)) in
      (omega (arith, rises), length-map-range_with_len (λ piece. piece_from bytes (piece_place bytes piece)) (profile_start bytes k) (profile_start bytes (suc k) - profile_start bytes k))

module _ (bytes : List ℕ) (none : NoneWrong (IsWrongList bytes) (suc (2 * (counts_in bytes).edges))) where
  -- the starts, and the entries of each list
  pub first_list : way_start bytes 0 ≡ 0
  first_list = same_unrefuted (way_start bytes 0) 0 (λ other. none 0 (omega arith) (inl (refl, other)))

  pub last_list : way_start bytes (2 * (counts_in bytes).edges) ≡ (counts_in bytes).entries
  last_list =
      let count : ℕ = 2 * (counts_in bytes).edges in
      same_unrefuted (way_start bytes count) (counts_in bytes).entries (λ other. none count (omega arith) (inr (inr (refl, other))))

  -- the entries of an edge in a direction
  pub right_entries : (list edge : ℕ) (dir : Dir) → edge < (counts_in bytes).edges → list ≡ list_number edge dir → AreEntriesWrong bytes list edge dir → ⊥
  right_entries list edge dir inside number wrong =
      let within = number_within edge (counts_in bytes).edges dir inside in
      none list (omega (arith, number, within)) (inr (inl (edge, dir, inside, number, wrong)))

  module _ (list : ℕ) (inside : list < 2 * (counts_in bytes).edges) where
    right_list : AreEntriesWrong bytes list (list_parts list (counts_in bytes).edges inside).0 (list_parts list (counts_in bytes).edges inside).1 → ⊥
    right_list wrong = let parts = list_parts list (counts_in bytes).edges inside in right_entries list parts.0 parts.1 parts.2 parts.3 wrong

    pub list_rises : way_start bytes list ≤ way_start bytes (suc list)
    list_rises = least_else (way_start bytes list) (way_start bytes (suc list)) (λ wrong. right_list (inl wrong))

    pub list_within : way_start bytes (suc list) ≤ (counts_in bytes).entries
    list_within = least_else (way_start bytes (suc list)) (counts_in bytes).entries (λ wrong. right_list (inr (inl wrong)))

    pub list_kinds : (entry : ℕ) → way_start bytes list ≤ entry → entry < way_start bytes (suc list) → entry_kind bytes entry ≤ 1
    list_kinds entry low high = least_else (entry_kind bytes entry) 1 (λ wrong. right_list (inr (inr (inl (entry, low, high, wrong)))))

    pub list_spelled : IsWayList (list_in bytes list)
    list_spelled = way_list_unrefuted (list_in bytes list) (λ off. right_list (inr (inr (inr (inl off)))))

  pub lists_lead : LeadOn (way_start bytes) (list_in bytes) 0 (0 + 2 * (counts_in bytes).edges)
  lists_lead k low high =
      (list_rises k (omega (arith, high)), length-map-range_with_len (λ entry. entry_from bytes (entry_place bytes entry)) (way_start bytes k) (way_start bytes (suc k) - way_start bytes k))
