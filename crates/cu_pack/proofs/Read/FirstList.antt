-- The first list that is wrong, where the lists of the edges before it are right.
use Rattle.std.proofs.Common.{◌≡◌, ◌≢◌, ◌≤◌, ◌<◌, ◌*◌, ℕ, suc, List, Some, None, refl, sym, subst, arith, inl, inr}
use Rattle.std.proofs.lemmas.Bool.{cases_lt}
use Rattle.cu_chordal.proofs.Tables.{first_all, first_none}
use Rattle.cu_interval.specs.declared.ways.Dir.{Dir}
use Rattle.cu_interval.specs.declared.ways.Dir.TheVariants.{Up, Down}
use Rattle.cu_interval.specs.Hierarchies.{list_number}
use Rattle.cu_interval.proofs.EndsLaws.{number_parts, number_within}
use Rattle.cu_pack.specs.Checks.{AreEntriesWrong, FindsFirst, IsGraph, IsWrongList}
use Rattle.cu_pack.specs.Reading.{counts_in, decoded, edge_start, way_start}
use Rattle.cu_pack.specs.Steps.Ways.{AreBothRight, IsFirstDir, IsWrongWay}
use Rattle.cu_pack.proofs.Read.EdgesRead.{known}

twice_most : (e : ℕ) (d : Dir) → 2 * e ≤ list_number e d
twice_most e Up = omega arith
twice_most e Down = omega arith

module _ (bytes : List ℕ) (first : way_start bytes 0 ≡ 0) where
  -- the lists of right edges are right
  lists_right : (edge : ℕ) → edge ≤ (counts_in bytes).edges → ((e : ℕ) → e < edge → AreBothRight bytes e) → (list : ℕ) → list < 2 * edge → IsWrongList bytes list → ⊥
  lists_right edge within right list less (inl (zero, other)) = other first
  lists_right edge within right list less (inr (inl (e, dir, inside, number, wrong))) =
      let most = twice_most e dir in
      right e (omega (arith, less, number, most)) dir (subst (λ k. AreEntriesWrong bytes k e dir) number wrong)
  lists_right edge within right list less (inr (inr (last, other))) = absurd (omega (arith, last, less, within))

  wrong_way : (edge : ℕ) (dir : Dir) → edge < (counts_in bytes).edges → IsWrongWay bytes edge dir → IsWrongList bytes (list_number edge dir)
  wrong_way edge dir inside wrong = inr (inl (edge, dir, inside, refl, wrong))

  right_way : (edge : ℕ) (dir : Dir) → edge < (counts_in bytes).edges → (IsWrongWay bytes edge dir → ⊥) → IsWrongList bytes (list_number edge dir) → ⊥
  right_way edge dir inside right (inl (zero, other)) = other first
  right_way edge dir inside right (inr (inl (e, d, within, number, wrong))) =
      let same = number_parts edge e dir d number in
      right (subst (λ (b : Dir). IsWrongWay bytes edge b) (sym same.1) (subst (λ (k : ℕ). IsWrongWay bytes k d) (sym same.0) (subst (λ k. AreEntriesWrong bytes k e d) number wrong)))
  right_way edge Up inside right (inr (inr (last, other))) = absurd (omega (arith, last, inside))
  right_way edge Down inside right (inr (inr (last, other))) = absurd (omega (arith, last, inside))

  -- the first wrong list of an edge behind right ones
  pub first_list : (edge : ℕ) (dir : Dir) → edge < (counts_in bytes).edges → ((e : ℕ) → e < edge → AreBothRight bytes e) → IsFirstDir bytes edge dir
      → FindsFirst (IsWrongList bytes) (suc (2 * (counts_in bytes).edges)) (Some (list_number edge dir))
  first_list edge Up inside right wrong = (omega (arith, inside), wrong_way edge Up inside wrong, lists_right edge (omega (arith, inside)) right)
  first_list edge Down inside right (up, wrong) = (
    omega (arith, inside),
    wrong_way edge Down inside wrong,
    λ list less bad.
        elim (cases_lt list (2 * edge)) [
          | inl before ↦ lists_right edge (omega (arith, inside)) right list before bad
          | inr least ↦
              let same : list ≡ 2 * edge = omega (arith, less, least) in
              right_way edge Up inside up (subst (IsWrongList bytes) same bad)
        ],
  )

  module _ (right : (e : ℕ) → e < (counts_in bytes).edges → AreBothRight bytes e) where
    -- entries are left behind the last list
    pub entries_left : way_start bytes (2 * (counts_in bytes).edges) ≢ (counts_in bytes).entries
        → FindsFirst (IsWrongList bytes) (suc (2 * (counts_in bytes).edges)) (Some (2 * (counts_in bytes).edges))
    entries_left other = (omega arith, inr (inr (refl, other)), lists_right (counts_in bytes).edges (omega arith) right)

    -- no list is wrong
    pub no_list : way_start bytes (2 * (counts_in bytes).edges) ≡ (counts_in bytes).entries → FindsFirst (IsWrongList bytes) (suc (2 * (counts_in bytes).edges)) None
    no_list last list less bad =
        let count : ℕ = (counts_in bytes).edges in
        elim (cases_lt list (2 * count)) [
          | inl before ↦ lists_right count (omega arith) right list before bad
          | inr least ↦
              let same : list ≡ 2 * count = omega (arith, less, least) in
              last_right last (subst (IsWrongList bytes) same bad)
        ]
      where
        last_right : way_start bytes (2 * (counts_in bytes).edges) ≡ (counts_in bytes).entries → IsWrongList bytes (2 * (counts_in bytes).edges) → ⊥
        last_right last (inl (zero, other)) = other first
        last_right last (inr (inl (e, dir, inside, number, wrong))) = absurd (omega (arith, inside, number, number_within e (counts_in bytes).edges dir inside))
        last_right last (inr (inr (at, other))) = other last

module _ (bytes : List ℕ) (f : IsGraph bytes) where
  pub no_edge_before : edge_start bytes 0 ≡ 0
  no_edge_before =
      let here = (known bytes f).firsts 0 (omega arith) in
      let none = first_none (decoded bytes).edges 0 (λ k d h. omega arith) in
      omega (arith, here, none)

  pub all_edges : edge_start bytes (counts_in bytes).nodes ≡ (counts_in bytes).edges
  all_edges =
      let here = (known bytes f).firsts (counts_in bytes).nodes (omega arith) in
      let all = first_all (decoded bytes).edges (counts_in bytes).nodes (λ k d h. let range = (known bytes f).chordal.in_range k d h in omega (arith, range.0, range.1)) in
      omega (arith, here, all, (known bytes f).count)
