-- The edges of a file whose graph is right, read where they lie.
use Rattle.std.proofs.Common.{◌≡◌, ◌≤◌, ◌<◌, ◌+◌, ◌-◌, ◌∙◌, ℕ, suc, List, Option, Some, None, length, get_or, sym, ap, subst, arith}
use Rattle.std.specs.Prelude.{slice_get}
use Rattle.std.proofs.lemmas.Option.{get_or_from_slice_get, slice_get-get_or, slice_get-map, slice_get_within}
use Rattle.std.specs.Option.{option_map}
use Rattle.cu_chordal.specs.declared.graph.Ends.{Ends}
use Rattle.cu_chordal.specs.Graphs.{FindsEdge, HasEdge, first_edge_of, up_of}
use Rattle.cu_chordal.proofs.Members.{place_of}
use Rattle.cu_chordal.proofs.Tables.{first_next, numbered, up_of_from_edge, up_rising}
use Rattle.cu_pack.specs.Checks.{IsGraph}
use Rattle.cu_pack.specs.Reading.{counts_in, decoded, edge_start, upper_in, uppers_in}
use Rattle.cu_pack.specs.Layouts.{uppers_at}
use Rattle.cu_pack.specs.Steps.Parts.{FindsUpper, HasPart}
use Rattle.cu_pack.proofs.Viewed.Adopted.{AreEdges, edges_known}
use Rattle.cu_pack.proofs.Read.ReadBack.{first_edge_within}
use Rattle.cu_pack.proofs.Spelled.Ordered.{shorts_at}

module _ (bytes : List ℕ) (f : IsGraph bytes) where
  pub known : AreEdges bytes (decoded bytes).edges
  unfolding decoded
  known = edges_known bytes f

  -- the rank at the other end of an edge
  pub upper_same : (edge : ℕ) (ends : Ends) → slice_get (decoded bytes).edges edge ≡ Some ends → ends.high ≡ upper_in bytes edge
  upper_same edge ends there =
      let high : Ends → ℕ = λ e. e.high in
      let inside : edge < (counts_in bytes).edges = let within = slice_get_within (decoded bytes).edges edge ends there in omega (arith, within, known.count) in
      let read : slice_get (uppers_in bytes) edge ≡ Some ends.high = ap (λ xs. slice_get xs edge) (sym known.highs) ∙ slice_get-map high (decoded bytes).edges edge ∙ ap (option_map high) there in
      sym (get_or_from_slice_get (uppers_in bytes) edge ends.high 0 read) ∙ shorts_at bytes (uppers_at (counts_in bytes)) (counts_in bytes).edges edge 0 inside

  module _ (low : ℕ) (rank : low < (counts_in bytes).nodes) where
    pub start_on : length (up_of (decoded bytes).edges low) + edge_start bytes low ≡ edge_start bytes (suc low)
    start_on =
        let here = known.firsts low (omega (arith, rank)) in
        let next = known.firsts (suc low) (omega (arith, rank)) in
        let same : suc low ≡ low + 1 = omega arith in
        let count = ap (first_edge_of (decoded bytes).edges) same ∙ first_next (decoded bytes).edges low in
        omega (arith, here, next, count)

    -- the edges from the rank upwards
    pub edge_there : (edge : ℕ) → edge_start bytes low ≤ edge → edge < edge_start bytes (suc low) → slice_get (decoded bytes).edges edge ≡ Some (record { low = low; high = upper_in bytes edge })
    edge_there edge from before =
        let edges : List Ends = (decoded bytes).edges in
        let index : ℕ = edge - edge_start bytes low in
        let inside : index < length (up_of edges low) = omega (arith, start_on, from, before) in
        let high : ℕ = get_or (up_of edges low) index 0 in
        let first = known.firsts low (omega (arith, rank)) in
        let place : first_edge_of edges low + index ≡ edge = omega (arith, first, from) in
        let there : slice_get edges edge ≡ Some (record { low = low; high = high }) = subst (λ k. slice_get edges k ≡ Some (record { low = low; high = high })) place
        (numbered edges low index high known.chordal.rising (slice_get-get_or (up_of edges low) index 0 inside)) in
        there ∙ ap (λ h. Some (record { low = low; high = h })) (upper_same edge (record { low = low; high = high }) there)

    -- an edge of the rank has its number
    pub edge_number : (high : ℕ) → HasEdge (decoded bytes).edges low high
        → (edge : ℕ) × (edge_start bytes low ≤ edge) × (edge < edge_start bytes (suc low)) × (upper_in bytes edge ≡ high)
    edge_number high has =
        let edges : List Ends = (decoded bytes).edges in
        let place = place_of (up_of edges low) high (up_of_from_edge edges low high has) in
        let inside = slice_get_within (up_of edges low) place.0 high place.1 in
        let first = known.firsts low (omega (arith, rank)) in
        let number : first_edge_of edges low + place.0 ≡ edge_start bytes low + place.0 = omega (arith, first) in
        let there : slice_get edges (edge_start bytes low + place.0) ≡ Some (record { low = low; high = high }) = subst (λ k. slice_get edges k ≡ Some (record { low = low; high = high })) number
        (numbered edges low place.0 high known.chordal.rising place.1) in
        (edge_start bytes low + place.0, omega arith, omega (arith, inside, start_on), sym (upper_same (edge_start bytes low + place.0) (record { low = low; high = high }) there))

    -- their upper ends rise
    pub uppers_rise : (i j : ℕ) → edge_start bytes low ≤ i → i < j → j < edge_start bytes (suc low) → upper_in bytes i < upper_in bytes j
    uppers_rise i j from less before =
        let edges : List Ends = (decoded bytes).edges in
        let ups : List ℕ = up_of edges low in
        let first = known.firsts low (omega (arith, rank)) in
        let at : (k : ℕ) → edge_start bytes low ≤ k → k < edge_start bytes (suc low) → get_or ups (k - edge_start bytes low) 0 ≡ upper_in bytes k = λ k lower higher.
        let index : ℕ = k - edge_start bytes low in
        let inside : index < length ups = omega (arith, start_on, lower, higher) in
        let place : first_edge_of edges low + index ≡ k = omega (arith, first, lower) in
        let high : ℕ = get_or ups index 0 in
        upper_same k (record { low = low; high = high })
        (subst (λ n. slice_get edges n ≡ Some (record { low = low; high = high })) place (numbered edges low index high known.chordal.rising (slice_get-get_or ups index 0 inside))) in
        let first_at = at i from (omega (arith, less, before)) in
        let second_at = at j (omega (arith, from, less)) before in
        let rises = up_rising edges low known.chordal.rising (i - edge_start bytes low) (j - edge_start bytes low) 0 (omega (arith, from, less)) (omega (arith, start_on, from, less, before)) in
        omega (arith, rises, first_at, second_at)

    pub starts_within : edge_start bytes (suc low) ≤ (counts_in bytes).edges
    starts_within =
        let next = known.firsts (suc low) (omega (arith, rank)) in
        let most = first_edge_within (decoded bytes).edges (suc low) in
        omega (arith, next, most, known.count)

    -- they are there, and one is found by its upper end
    pub has_part : HasPart bytes low
    has_part =
        let on = start_on in
        let limits = f.roads.joined.ordered.sized.limited.limits in
        record {
          inside = rank;
          order = omega (arith, on);
          within = starts_within;
          few = limits.edges;
          rising = uppers_rise;
        }

    pub edge_read : (high : ℕ) (found : Option ℕ) → FindsUpper bytes low high found → FindsEdge (decoded bytes).edges low high found
    edge_read high (Some edge) (from, before, same) =
        let made : ℕ → Ends = λ h. record { low = low; high = h } in
        edge_there edge from before ∙ ap (λ h. Some (made h)) same
    edge_read high None missed = λ has.
        let (edge, from, before, same) = edge_number high has in
        missed edge from before same

  pub next_edge : (low : ℕ) → edge_start bytes (low + 1) ≡ edge_start bytes (suc low)
  next_edge low = ap (edge_start bytes) (omega arith)
