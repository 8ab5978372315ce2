-- Functions that are dropped once no later list takes a half from them.
use Rattle.std.proofs.Common.{◌≡◌, ◌≢◌, ◌≤◌, ◌<◌, ◌+◌, ◌*◌, ◌∙◌, ◌++◌, ◌↔◌, ℕ, zero, suc, List, [], ◌∷◌, Option, Some, None, refl, sym, ap, subst, arith, inl, inr, length, get_or, set}
use Rattle.std.specs.Prelude.{IsSome, nat_lt, slice_get}
use Rattle.std.specs.List.{Contains}
use Rattle.std.proofs.lemmas.Bool.{cases_eq, cases_lt}
use Rattle.std.proofs.lemmas.Bool.Decides.{nat_tests}
use Rattle.std.proofs.lemmas.List.{get_or_default, length-set, length_push}
use Rattle.std.proofs.lemmas.Option.{slice_get-get_or, slice_get_past, slice_get_within}
use Rattle.cu_model.specs.Networks.{NetworkValue}
use Rattle.cu_model.proofs.ListLaws.{get_here, get_other}
use Rattle.cu_arrival.specs.declared.runs.Run.{Run}
use Rattle.cu_arrival.specs.Runs.{arrival_value}
use Rattle.cu_chordal.specs.declared.graph.Ends.{Ends}
use Rattle.cu_chordal.specs.Graphs.{ChordalValue, ComesBefore, HasEdge, IsChordal, IsRising, first_edge_of, one_if}
use Rattle.cu_chordal.proofs.Members.{member_at, pairs_tail, place_of}
use Rattle.cu_chordal.proofs.Tables.{after_first}
use Rattle.cu_interval.specs.declared.ways.Dir.{Dir}
use Rattle.cu_interval.specs.declared.ways.Dir.TheVariants.{Up, Down}
use Rattle.cu_interval.specs.declared.ways.Entry.{Entry}
use Rattle.cu_interval.specs.declared.ways.Way.{Way}
use Rattle.cu_interval.specs.declared.ways.Way.TheVariants.{Road, Via}
use Rattle.cu_interval.specs.Hierarchies.{end_of, list_number, start_of}
use Rattle.cu_interval.proofs.Lookups.{number_finds}
use Rattle.cu_interval.proofs.EndsLaws.{number_below}
use Rattle.cu_interval.proofs.LowLists.{runs_by}
use Rattle.cu_customize.specs.Functions.{FunctionsState, kept_state}
use Rattle.cu_runs.specs.Layers.{value_kept}
use Rattle.cu_customize.specs.Settling.{ArrivesBy, IsCandidateBy, IsSettledList, function_from, through, value_at}
use Rattle.cu_customize.specs.Steps.Kept.{AreDropped, DropsEdge, Keeps}
use Rattle.cu_customize.proofs.Halves.{both_some, first_is, second_is}
use Rattle.cu_customize.proofs.Keeping.{push_before, push_last}
use Rattle.cu_customize.proofs.LowFunctions.{down_edge, up_edge}
use Rattle.cu_customize.proofs.Lows.{IsDailyValueOf}
use Rattle.cu_customize.proofs.Settles.{leads_over}

-- the first edge has the lowest lower end
lows_rise : (e : Ends) (es : List Ends) → IsRising (e ∷ es) → (x : Ends) → Contains es x → e.low ≤ x.low
lows_rise e es rising x held = elim (after_first e es rising x held) [ inl less ↦ omega (arith, less) | inr same ↦ let is = same.0 in omega (arith, is) ]

below_one : (x r m k : ℕ) → x < r → k < m → suc k < one_if (nat_lt x r) + m
below_one x r m k lt less = grind (arith, nat_tests)

some_below : (x r m : ℕ) → x < r → 0 < one_if (nat_lt x r) + m
some_below x r m lt = grind (arith, nat_tests)

-- an edge up from below a rank has one of the first numbers
pub number_before : (edges : List Ends) → IsRising edges → (k r : ℕ) (ends : Ends) → slice_get edges k ≡ Some ends → ends.low < r → k < first_edge_of edges r
number_before [] rising k r ends at lt = absurd (cc at)
number_before (e ∷ es) rising zero r ends at lt =
    let same : e ≡ ends = cc at in
    some_below e.low r (first_edge_of es r) (subst (λ (x : Ends). x.low < r) (sym same) lt)
number_before (e ∷ es) rising (suc k) r ends at lt =
    let le = lows_rise e es rising ends (member_at es ends k at) in
    below_one e.low r (first_edge_of es r) k (omega (arith, le, lt)) (number_before es (pairs_tail ComesBefore e es rising) k r ends at lt)

-- an edge with these ends has one number
number_one : (edges : List Ends) → IsRising edges → (e d : ℕ) (ends : Ends) → slice_get edges e ≡ Some ends → slice_get edges d ≡ Some ends → e ≡ d
number_one edges rising e d ends at there =
    let one = number_finds edges rising ends.low ends.high (Some e) at in
    let two = number_finds edges rising ends.low ends.high (Some d) there in
    cc (one, two)

-- what is kept stays so where an edge to the last settled rank is dropped
pub keeps_dropped : (edges : List Ends) → IsRising edges → (edge middle rank : ℕ) (whole old new : List (Option (List Run))) → slice_get edges edge ≡ Some (record { low = middle; high = rank })
    → length new ≡ length old → DropsEdge edge old new → Keeps edges (first_edge_of edges (rank + 1)) whole old → Keeps edges (first_edge_of edges (rank + 1)) whole new
keeps_dropped edges rising edge middle rank whole old new at long drops keeps = record {
  long = long ∙ keeps.long;
  same = λ e dir ends next there next_at low.
      let above : rank < next.low = elim (cases_lt next.low (rank + 1)) [
        | inl less ↦ absurd (let before = number_before edges rising (first_edge_of edges (rank + 1)) (rank + 1) next next_at less in omega (arith, before))
        | inr more ↦ omega (arith, more)
      ] in
      let apart : e ≢ edge = λ same. absurd (let high = high_of e same ends there in omega (arith, high, above, low)) in
      drops.same e dir apart ∙ keeps.same e dir ends next there next_at low;
}
  where
    high_of : (e : ℕ) → e ≡ edge → (ends : Ends) → slice_get edges e ≡ Some ends → ends.high ≡ rank
    high_of e same ends there =
        let here = subst (λ (k : ℕ). slice_get edges k ≡ Some ends) same there in
        let is : ends ≡ record { low = middle; high = rank } = cc (here, at) in
        ap (λ (x : Ends). x.high) is

-- no function is kept of the edges to a rank from the first so many of these middles
abbrev pub AreDroppedTo : List Ends → ℕ → List ℕ → ℕ → List (Option (List Run)) → Type 0
AreDroppedTo edges rank middles count kept = (i e : ℕ) (dir : Dir) → i < count → slice_get edges e ≡ Some (record { low = get_or middles i 0; high = rank })
    → slice_get kept (list_number e dir) ≡ Some None

pub dropped_more : (edges : List Ends) → IsRising edges → (rank : ℕ) (middles : List ℕ) (count edge : ℕ) (old new : List (Option (List Run)))
    → slice_get edges edge ≡ Some (record { low = get_or middles count 0; high = rank }) → DropsEdge edge old new → AreDroppedTo edges rank middles count old
    → AreDroppedTo edges rank middles (count + 1) new
dropped_more edges rising rank middles count edge old new at drops so_far i e dir lt there =
    elim (cases_eq e edge) [
      | inl same ↦ subst (λ (k : ℕ). slice_get new (list_number k dir) ≡ Some None) (sym same) (drops.dropped dir)
      | inr apart ↦ elim (cases_lt i count) [
        | inl less ↦ drops.same e dir apart ∙ so_far i e dir less there
        | inr more ↦
            let last : i ≡ count = omega (arith, lt, more) in
            let here = subst (λ (k : ℕ). slice_get edges e ≡ Some (record { low = get_or middles k 0; high = rank })) last there in
            absurd (apart (number_one edges rising e edge (record { low = get_or middles count 0; high = rank }) here at))
      ]
    ]

-- the edges from all lower neighbours are all that lead to the rank
pub dropped_all : (edges : List Ends) (rank : ℕ) (middles : List ℕ) (kept : List (Option (List Run))) → ((x : ℕ) → Contains middles x ↔ HasEdge edges x rank)
    → AreDroppedTo edges rank middles (length middles) kept → AreDropped edges rank kept
dropped_all edges rank middles kept members so_far e dir ends at to =
    let there : slice_get edges e ≡ Some (record { low = ends.low; high = rank }) = subst (λ (y : ℕ). slice_get edges e ≡ Some (record { low = ends.low; high = y })) to at in
    let (i, inside, is) = (members ends.low).1 (member_at edges (record { low = ends.low; high = rank }) e there) in
    let same : ends.low ≡ get_or middles i 0 = sym is ∙ get_or_default middles i ends.low 0 inside in
    so_far i e dir inside (subst (λ (x : ℕ). slice_get edges e ≡ Some (record { low = x; high = rank })) same there)

-- one more is kept
pub keeps_pushed : (edges : List Ends) (edge : ℕ) (whole kept : List (Option (List Run))) (function : Option (List Run)) → Keeps edges edge whole kept
    → Keeps edges edge (whole ++ function ∷ []) (kept ++ function ∷ [])
keeps_pushed edges edge whole kept function keeps =
    let size = length_push whole function in
    let kept_size = length_push kept function in
    let long = keeps.long in
    record {
      long = omega (arith, size, kept_size, long);
      same = λ e dir ends next at next_at low.
          let number = list_number e dir in
          elim (cases_lt number (length whole)) [
            | inl less ↦ push_before kept function number (omega (arith, less, long)) ∙ keeps.same e dir ends next at next_at low ∙ sym (push_before whole function number less)
            | inr more ↦ elim (cases_eq number (length whole)) [
              | inl last ↦ push_last kept function number (omega (arith, last, long)) ∙ sym (push_last whole function number last)
              | inr apart ↦
                  slice_get_past (kept ++ function ∷ []) number (omega (arith, more, apart, kept_size, long))
                  ∙ sym (slice_get_past (whole ++ function ∷ []) number (omega (arith, more, apart, size)))
            ]
          ];
    }

pub keeps_none : (edges : List Ends) (edge : ℕ) → Keeps edges edge [] []
keeps_none edges edge = record { long = refl; same = λ e dir ends next at next_at low. refl }

-- a later edge asks for fewer
pub keeps_later : (edges : List Ends) → IsRising edges → (edge later : ℕ) (whole kept : List (Option (List Run))) → edge ≤ later → Keeps edges edge whole kept → Keeps edges later whole kept
keeps_later edges rising edge later whole kept le keeps = record {
  long = keeps.long;
  same = λ e dir ends next at next_at low.
      let inside = slice_get_within edges later next next_at in
      let first = get_or edges edge next in
      let first_at : slice_get edges edge ≡ Some first = slice_get-get_or edges edge next (omega (arith, inside, le)) in
      let rises : first.low ≤ next.low = elim (cases_lt next.low first.low) [
        | inl less ↦ absurd (let falls = number_below edges rising later edge next first next_at first_at less in omega (arith, falls, le))
        | inr more ↦ more
      ] in
      keeps.same e dir ends first at first_at (omega (arith, rises, low));
}

-- two states that give the same functions for the lists from u to v
pub record AreAlike (edges : List Ends) (f b : FunctionsState) (u v : ℕ) : Type 0 where
  pub roads : (a : ℕ) → f.road a ≡ b.road a
  pub halves : (m : ℕ) → m < u → m < v → HasEdge edges m u → HasEdge edges m v
      → (function_from edges f u m ≡ function_from edges b u m) × (function_from edges f m v ≡ function_from edges b m v)

alike_back : (edges : List Ends) (f b : FunctionsState) (u v : ℕ) → AreAlike edges f b u v → AreAlike edges b f u v
alike_back edges f b u v alike = record {
  roads = λ a. sym (alike.roads a);
  halves = λ m mu mv one two. let (first, second) = alike.halves m mu mv one two in (sym first, sym second);
}

candidate_alike : (edges : List Ends) (arcs : List ℕ) (f b : FunctionsState) (u v : ℕ) → AreAlike edges f b u v → (way : Way) → IsCandidateBy edges arcs f u v way → IsCandidateBy edges arcs b u v way
candidate_alike edges arcs f b u v alike (Road a) (held, some) = (held, subst (λ (x : Option (ℕ → ℕ)). IsSome x) (alike.roads a) some)
candidate_alike edges arcs f b u v alike (Via m) (mu, mv, one, two) =
    let (first, second) = alike.halves m mu mv (down_edge edges f u m mu one) (up_edge edges f m v mv two) in
    (mu, mv, subst (λ (x : Option (ℕ → ℕ)). IsSome x) first one, subst (λ (x : Option (ℕ → ℕ)). IsSome x) second two)

-- a road, or a middle below both ends
abbrev IsBelow : ℕ → ℕ → Way → Type 0
IsBelow u v (Road a) = Unit {0}
IsBelow u v (Via m) = (m < u) × (m < v)

candidate_below : (edges : List Ends) (arcs : List ℕ) (f : FunctionsState) (u v : ℕ) (way : Way) → IsCandidateBy edges arcs f u v way → IsBelow u v way
candidate_below edges arcs f u v (Road a) is = tt
candidate_below edges arcs f u v (Via m) is = (is.0, is.1)

pub arrives_alike : (edges : List Ends) (f b : FunctionsState) (u v : ℕ) → AreAlike edges f b u v → (t a : ℕ) (way : Way) → IsBelow u v way → ArrivesBy edges f u v t way a
    → ArrivesBy edges b u v t way a
arrives_alike edges f b u v alike t a (Road r) below e = subst (λ (x : Option (ℕ → ℕ)). value_at x t ≡ Some a) (alike.roads r) e
arrives_alike edges f b u v alike t a (Via m) below e =
    let some = both_some (function_from edges f u m) (function_from edges f m v) t a e in
    let (first, second) = alike.halves m below.0 below.1 (down_edge edges f u m below.0 some.0) (up_edge edges f m v below.1 some.1) in
    subst (λ (x : Option (ℕ → ℕ)). through x (function_from edges b m v) t ≡ Some a) first (subst (λ (y : Option (ℕ → ℕ)). through (function_from edges f u m) y t ≡ Some a) second e)

-- settle the same list, with the same value
pub settled_alike : (edges : List Ends) (arcs : List ℕ) (f b : FunctionsState) (u v : ℕ) → AreAlike edges f b u v → (entries : List Entry) → IsSettledList edges arcs f u v entries
    → IsSettledList edges arcs b u v entries
settled_alike edges arcs f b u v alike entries settled =
    let back = alike_back edges f b u v alike in
    runs_by (IsCandidateBy edges arcs f u v) (IsCandidateBy edges arcs b u v) (ArrivesBy edges f u v) (ArrivesBy edges b u v) entries (candidate_alike edges arcs f b u v alike)
    (candidate_alike edges arcs b f u v back)
    (λ s a way lt d e. arrives_alike edges f b u v alike s a way (candidate_below edges arcs b u v way d) e) (λ s a way lt d e. arrives_alike edges b f u v back s a way
    (candidate_below edges arcs b u v way d) e) settled

pub daily_alike : (edges : List Ends) (arcs : List ℕ) (f b : FunctionsState) (u v : ℕ) → AreAlike edges f b u v → (entries : List Entry) (function : Option (List Run))
    → IsSettledList edges arcs f u v entries
    → IsDailyValueOf edges f u v entries function → IsDailyValueOf edges b u v entries function
daily_alike edges arcs f b u v alike entries None settled value = value
daily_alike edges arcs f b u v alike entries (Some runs) settled (some, daily, arrives) = (
  some,
  daily,
  λ t way lt e. arrives_alike edges f b u v alike t (arrival_value runs t) way (candidate_below edges arcs f u v way (settled.first t way lt e).candidate) (arrives t way lt e),
)

-- what is kept for an edge is all that its lists take halves from
pub kept_alike : (g : NetworkValue) (graph : ChordalValue) → IsChordal graph → (edge : ℕ) (dir : Dir) (ends : Ends) (whole kept : List (Option (List Run))) → slice_get graph.edges edge ≡ Some ends
    → Keeps graph.edges edge whole kept → AreAlike graph.edges (kept_state g kept) (kept_state g whole) (start_of ends dir) (end_of ends dir)
kept_alike g graph is edge dir ends whole kept at keeps =
    let edges = graph.edges in
    let u = start_of ends dir in
    let v = end_of ends dir in
    let over = leads_over graph is edge ends dir u v at refl refl in
    record {
      roads = λ a. refl;
      halves = λ m mu mv one two.
          let (e, first) = place_of edges (record { low = m; high = u }) one in
          let (d, second) = place_of edges (record { low = m; high = v }) two in (
            first_is edges (kept_state g kept) u v m is.rising (mu, mv) e first ∙ ap value_kept (keeps.same e Down (record { low = m; high = u }) ends first at over.from)
                ∙ sym (first_is edges (kept_state g whole) u v m is.rising (mu, mv) e first),
            second_is edges (kept_state g kept) u v m is.rising (mu, mv) d second ∙ ap value_kept (keeps.same d Up (record { low = m; high = v }) ends second at over.to)
                ∙ sym (second_is edges (kept_state g whole) u v m is.rising (mu, mv) d second),
          );
    }

-- both lists of an edge lose their functions
both_none : (edge : ℕ) (fs : List (Option (List Run))) → 2 * edge + 1 < length fs → (dir : Dir)
    → slice_get (set (set fs (2 * edge) None) (2 * edge + 1) None) (list_number edge dir) ≡ Some None
both_none edge fs h Up =
    get_other (set fs (2 * edge) None) (2 * edge + 1) (2 * edge) None (λ e. absurd (omega (arith, e)))
    ∙ get_here fs (2 * edge) None (omega (arith, h))
both_none edge fs h Down = let long = length-set fs (2 * edge) None in get_here (set fs (2 * edge) None) (2 * edge + 1) None (omega (arith, h, long))

others_same : (edge : ℕ) (fs : List (Option (List Run))) (e : ℕ) (dir : Dir) → e ≢ edge
    → slice_get (set (set fs (2 * edge) None) (2 * edge + 1) None) (list_number e dir) ≡ slice_get fs (list_number e dir)
others_same edge fs e Up apart =
    get_other (set fs (2 * edge) None) (2 * edge + 1) (2 * e) None (λ q. absurd (omega (arith, q)))
    ∙ get_other fs (2 * edge) (2 * e) None (λ q. apart (omega (arith, q)))
others_same edge fs e Down apart =
    get_other (set fs (2 * edge) None) (2 * edge + 1) (2 * e + 1) None (λ q. apart (omega (arith, q)))
    ∙ get_other fs (2 * edge) (2 * e + 1) None (λ q. absurd (omega (arith, q)))

pub edge_dropped : (edge : ℕ) (fs : List (Option (List Run))) → 2 * edge + 1 < length fs → DropsEdge edge fs (set (set fs (2 * edge) None) (2 * edge + 1) None)
edge_dropped edge fs h = record { dropped = both_none edge fs h; same = others_same edge fs }
