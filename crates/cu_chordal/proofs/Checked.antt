-- Claimed parts against the sources of the higher neighbours.
use Rattle.std.proofs.Common.{◌≡◌, ◌≢◌, ◌≤◌, ◌<◌, ◌+◌, ℕ, zero, suc, List, [], ◌∷◌, ◌++◌, Option, Some, None, length, get_or, set, take, refl, sym, ◌∙◌, ap, subst, arith, inl, inr}
use Rattle.std.specs.Prelude.{All, slice_get}
use Rattle.std.specs.Cmp.{nat_eq_equiv}
use Rattle.std.specs.List.{Contains, AllPairs}
use Rattle.std.specs.List.Sorted.{IsStrictlyIncreasing}
use Rattle.std.proofs.lemmas.Bool.{cases_eq, cases_lt, eqb-true}
use Rattle.std.proofs.lemmas.Bool.Decides.{Decides-eqb}
use Rattle.std.proofs.lemmas.List.{get_or_default, get_or_past, length-append, length_push, length-set}
use Rattle.std.proofs.lemmas.List.Elements.{All-contains}
use Rattle.std.proofs.lemmas.List.Kept.{AllPairs-cons, AllPairs-from_increasing}
use Rattle.std.proofs.lemmas.Map.Made.{IsDistinct-from_AllPairs}
use Rattle.std.proofs.lemmas.Map.Steps.{length-le_from_distinct_below}
use Rattle.std.proofs.lemmas.Map.Views.{Contains-from_any}
use Rattle.cu_model.specs.declared.limits.TheConstants.{MAX_NODES}
use Rattle.cu_chordal.specs.declared.closure.Children.{Children}
use Rattle.cu_chordal.specs.declared.graph.Ends.{Ends}
use Rattle.cu_chordal.specs.declared.graph.TheConstants.{MAX_EDGES}
use Rattle.cu_chordal.specs.Graphs.{parent_of, up_of}
use Rattle.cu_chordal.specs.Lists.{edges_below, edges_to, part_at}
use Rattle.cu_chordal.specs.Steps.Checking.{AreCounted, AreFoundRight, Climbs, CountsSources, IsLaid, IsSourcePart, StampsAll}
use Rattle.cu_chordal.specs.Steps.Closing.{AreChildren, AreClosed, AreStamped, HandsOn, ListsSources}
use Rattle.cu_chordal.proofs.Adding.{source_range}
use Rattle.cu_chordal.proofs.Decided.{member_decided}
use Rattle.cu_chordal.proofs.Gathering.{fresh_is_other, gathers_all, gathers_none, gathers_push, gathers_seen, stamped_more}
use Rattle.cu_chordal.proofs.Handing.{IsHanding, handing_all, handing_more, handing_none, stamped_none}
use Rattle.cu_chordal.proofs.Listed.{length_part}
use Rattle.cu_chordal.proofs.Members.{all_from_members, member_cases, no_more}
use Rattle.cu_chordal.proofs.Steps.{children_more, closed_more}
use Rattle.cu_chordal.proofs.Tables.{length_edges_to}

-- no more numbers are stamped than there are stamps
stamp_inside : (rank y : ℕ) (stamps : List ℕ) → get_or stamps y 0 ≡ rank + 1 → y < length stamps
stamp_inside rank y stamps e =
    elim (cases_lt y (length stamps)) [
      | inl inside ↦ inside
      | inr past ↦ let none = get_or_past stamps y 0 past in absurd (omega (arith, e, none))
    ]

pub stamped_few : (rank : ℕ) (stamps found : List ℕ) → AreStamped rank stamps found → length found ≤ length stamps
stamped_few rank stamps found f =
    length-le_from_distinct_below found (length stamps) (IsDistinct-from_AllPairs Decides-eqb found f.once)
    (λ q h. stamp_inside rank q stamps (f.stamped q (Contains-from_any eqb-true q found h)))

-- where one more is stamped there is room for its count
pub counted_fewer : (rank count y : ℕ) (stamps found : List ℕ) → y < length stamps → get_or stamps y 0 ≢ rank + 1 → AreCounted rank stamps found count → count < length stamps
counted_fewer rank count y stamps found inside fresh f =
    let more = stamped_few rank (set stamps y (rank + 1)) (found ++ (y ∷ [])) (stamped_more rank y stamps found inside fresh f.0) in
    omega (arith, more, length_push found y, f.1, length-set stamps y (rank + 1))

pub stamps_none : (rank count : ℕ) (candidates stamps : List ℕ) → StampsAll rank (take 0 candidates) stamps count stamps count
stamps_none rank count candidates stamps found f = (found, f, gathers_none rank candidates found)

pub stamps_added : (rank i count total total_new : ℕ) (candidates old stamps stamps_new : List ℕ) → i < length candidates → All (λ y. y < length stamps) candidates
    → get_or stamps (get_or candidates i 0) 0 ≢ rank + 1 → StampsAll rank (take i candidates) old count stamps total
    → stamps_new ≡ set stamps (get_or candidates i 0) (rank + 1) → total_new ≡ total + 1 → StampsAll rank (take (i + 1) candidates) old count stamps_new total_new
stamps_added rank i count total total_new candidates old stamps stamps_new h inside fresh f stamps_is total_is found counted =
    let y : ℕ = get_or candidates i 0 in
    let before = f found counted in
    let stamped : AreStamped rank stamps before.0 = before.1.0 in
    let more : AreStamped rank (set stamps y (rank + 1)) (before.0 ++ (y ∷ [])) = stamped_more rank y stamps before.0 (inside i 0 h) fresh stamped in (
      before.0 ++ (y ∷ []),
      (subst (λ ss. AreStamped rank ss (before.0 ++ (y ∷ []))) (sym stamps_is) more, length_push before.0 y ∙ ap (λ n. n + 1) before.1.1 ∙ sym total_is),
      gathers_push rank i y candidates found before.0 h refl (fresh_is_other rank y stamps before.0 fresh stamped) before.2,
    )

pub stamps_seen : (rank i count total total_new : ℕ) (candidates old stamps stamps_new : List ℕ) → i < length candidates
    → get_or stamps (get_or candidates i 0) 0 ≡ rank + 1 → StampsAll rank (take i candidates) old count stamps total
    → stamps_new ≡ stamps → total_new ≡ total → StampsAll rank (take (i + 1) candidates) old count stamps_new total_new
stamps_seen rank i count total total_new candidates old stamps stamps_new h seen f stamps_is total_is found counted =
    let before = f found counted in (
      before.0,
      (subst (λ ss. AreStamped rank ss before.0) (sym stamps_is) before.1.0, before.1.1 ∙ sym total_is),
      gathers_seen rank i (get_or candidates i 0) candidates found before.0 h refl (before.1.0.known (get_or candidates i 0) seen) before.2,
    )

pub stamps_all : (rank i count total : ℕ) (candidates old stamps : List ℕ) → length candidates ≤ i → StampsAll rank (take i candidates) old count stamps total
    → StampsAll rank candidates old count stamps total
stamps_all rank i count total candidates old stamps le f found counted =
    let before = f found counted in (before.0, before.1, gathers_all rank i candidates found before.0 le before.2)

-- the entries before an index climb
pub record IsClimbing (rank i last : ℕ) (stamps part : List ℕ) : Type 0 where
  pub above : rank ≤ last
  pub start : i ≡ 0 → last ≡ rank
  pub at : (j : ℕ) → i ≡ j + 1 → last ≡ get_or part j 0
  pub each : (k : ℕ) → k < i → (rank < get_or part k 0) × (get_or stamps (get_or part k 0) 0 ≡ rank + 1)
  pub rising : (k : ℕ) → k + 1 < i → get_or part k 0 < get_or part (k + 1) 0

pub climbing_none : (rank : ℕ) (stamps part : List ℕ) → IsClimbing rank 0 rank stamps part
climbing_none rank stamps part = record {
  above = omega arith;
  start = λ e. refl;
  at = λ j e. absurd (omega (arith, e));
  each = λ k lt. absurd (omega (arith, lt));
  rising = λ k lt. absurd (omega (arith, lt));
}

pub climbing_more : (rank i last : ℕ) (stamps part : List ℕ) → last < get_or part i 0 → get_or stamps (get_or part i 0) 0 ≡ rank + 1
    → IsClimbing rank i last stamps part → IsClimbing rank (i + 1) (get_or part i 0) stamps part
climbing_more rank i last stamps part up stamped f = record {
  above = omega (arith, f.above, up);
  start = λ e. absurd (omega (arith, e));
  at = λ j e. let same : i ≡ j = omega (arith, e) in ap (λ k. get_or part k 0) same;
  each = λ k lt. elim (cases_eq k i) [
    | inl same ↦
        subst (λ j. (rank < get_or part j 0) × (get_or stamps (get_or part j 0) 0 ≡ rank + 1)) (sym same) (omega (arith, f.above, up), stamped)
    | inr other ↦ f.each k (omega (arith, lt, other))
  ];
  rising = λ k lt. elim (cases_eq (k + 1) i) [
    | inl same ↦ subst (λ j. get_or part k 0 < get_or part j 0) (sym same) (omega (arith, f.at k (sym same), up))
    | inr other ↦ f.rising k (omega (arith, lt, other))
  ];
}

pub climbing_all : (rank i last : ℕ) (stamps part : List ℕ) → length part ≤ i → IsClimbing rank i last stamps part → Climbs rank stamps part
climbing_all rank i last stamps part le f = record {
  rising = λ k lt. f.rising k (omega (arith, lt, le));
  above = λ k d h. let e = f.each k (omega (arith, h, le)) in let same = get_or_default part k d 0 h in omega (arith, e.0, same);
  stamped = λ k d h.
      let e = f.each k (omega (arith, h, le)) in
      let same = get_or_default part k d 0 h in
      subst (λ y. get_or stamps y 0 ≡ rank + 1) (sym same) e.1;
}

pub no_climb : (rank i last : ℕ) (stamps part : List ℕ) → i < length part → IsClimbing rank i last stamps part → get_or part i 0 ≤ last → Climbs rank stamps part → ⊥
no_climb rank zero last stamps part h f low c = let up = c.above 0 0 h in omega (arith, up, low, f.start (omega arith))
no_climb rank (suc j) last stamps part h f low c =
    let next : suc j ≡ j + 1 = omega arith in
    let up = c.rising j (omega (arith, h)) in
    let same : get_or part (suc j) 0 ≡ get_or part (j + 1) 0 = ap (λ k. get_or part k 0) next in
    omega (arith, up, same, low, f.at j next)

pub no_stamp_past : (rank i : ℕ) (stamps part : List ℕ) → i < length part → length stamps ≤ get_or part i 0 → Climbs rank stamps part → ⊥
no_stamp_past rank i stamps part h past c = let inside = stamp_inside rank (get_or part i 0) stamps (c.stamped i 0 h) in omega (arith, inside, past)

-- the sources from the links and from the children from the bound on were stamped, and counted
abbrev pub IsCounting : List Ends → List ℕ → ℕ → List ℕ → ℕ → Option ℕ → Type 0
IsCounting edges links rank stamps count child = (found : List ℕ) × IsHanding edges links rank MAX_NODES stamps found child × (length found ≡ count)

pub counted_none : (rank : ℕ) (stamps : List ℕ) → rank < length stamps → All (λ stamp. stamp ≤ rank) stamps → AreCounted rank (set stamps rank (rank + 1)) [] 0
counted_none rank stamps below low = (stamped_none rank stamps below low, refl)

fits_room : (rank : ℕ) (stamps found : List ℕ) → length stamps ≤ MAX_NODES → AreStamped rank stamps found → length found ≤ MAX_NODES
fits_room rank stamps found few f = let most = stamped_few rank stamps found f in omega (arith, most, few)

pub counting_none : (edges : List Ends) (links : List ℕ) (ranks rank count : ℕ) (old stamps : List ℕ) (children : Children) (child : Option ℕ) → rank < ranks
    → length stamps ≤ MAX_NODES → AreCounted rank old [] 0 → StampsAll rank links old 0 stamps count → AreChildren edges ranks rank children
    → child ≡ get_or children.latest.items rank child → IsCounting edges links rank stamps count child
counting_none edges links ranks rank count old stamps children child below few none adds handed read =
    let more = adds [] none in (
      more.0,
      handing_none edges links ranks rank MAX_NODES stamps more.0 children child below more.1.0 (fits_room rank stamps more.0 few more.1.0) more.2 handed read,
      more.1.1,
    )

pub counting_more : (edges : List Ends) (links : List ℕ) (ranks rank lower count count_new : ℕ) (stamps stamps_new group : List ℕ) (children : Children) (child : Option ℕ)
    → rank < ranks → length stamps_new ≤ MAX_NODES → IsCounting edges links rank stamps count (Some lower) → group ≡ up_of edges lower
    → StampsAll rank group stamps count stamps_new count_new → AreChildren edges ranks rank children
    → child ≡ get_or children.before.items lower child → IsCounting edges links rank stamps_new count_new child
counting_more edges links ranks rank lower count count_new stamps stamps_new group children child below few (found, f, long) same adds handed read =
    let more = adds found (f.marked, long) in (
      more.0,
      handing_more edges links ranks rank MAX_NODES lower stamps stamps_new found more.0 group children child below f more.1.0 (fits_room rank stamps_new more.0 few more.1.0) same more.2 handed read,
      more.1.1,
    )

pub counting_child : (edges : List Ends) (links : List ℕ) (rank lower : ℕ) (stamps : List ℕ) (count : ℕ) → IsCounting edges links rank stamps count (Some lower)
    → (lower < rank) × (parent_of edges lower ≡ Some rank)
counting_child edges links rank lower stamps count (found, f, long) = (omega (arith, f.next.0, f.below), f.next.1)

pub counting_all : (edges : List Ends) (links : List ℕ) (rank : ℕ) (stamps : List ℕ) (count : ℕ) → IsCounting edges links rank stamps count None
    → CountsSources edges links rank stamps count
counting_all edges links rank stamps count (found, f, long) = (found, (f.marked, long), handing_all edges links rank MAX_NODES stamps found f)

-- as many different numbers as a list has that are all in it are the list's
all_there : (some all : List ℕ) (y : ℕ) → AllPairs (λ x y. x ≢ y) some → ((z : ℕ) → Contains some z → Contains all z) → length some ≡ length all → Contains all y → Contains some y
all_there some all y differ inside same c =
    elim (member_decided some y) [
      | inl there ↦ there
      | inr none ↦
          let more : length (y ∷ some) ≤ length all =
          no_more nat_eq_equiv Decides-eqb (y ∷ some) all
          (AllPairs-cons (λ x z. x ≢ z) y some (all_from_members (λ z. y ≢ z) some (λ z d e. none (subst (Contains some) (sym e) d))) differ)
          (λ z d. elim (member_cases y some z d) [
            | inl at ↦ subst (Contains all) at c
            | inr rest ↦ inside z rest
          ]) in
          absurd (omega (arith, more, same))
    ]

rising_differ : (part : List ℕ) → IsStrictlyIncreasing part → AllPairs (λ x y. x ≢ y) part
rising_differ part f i j d lt h e = let less = AllPairs-from_increasing part f i j d lt h in omega (arith, less, e)

-- an entry that climbs was found
climbed_found : (rank y : ℕ) (stamps part found : List ℕ) → AreStamped rank stamps found → Climbs rank stamps part → Contains part y → Contains found y
climbed_found rank y stamps part found f climbs c =
    elim (f.known y (All-contains (λ z. get_or stamps z 0 ≡ rank + 1) part y climbs.stamped c)) [
      | inl own ↦ let above = All-contains (λ z. rank < z) part y climbs.above c in absurd (omega (arith, above, own))
      | inr there ↦ there
    ]

-- a part that climbs over as many numbers as there are sources is these
pub climbed_sources : (edges : List Ends) (links : List ℕ) (rank count : ℕ) (stamps part : List ℕ) → CountsSources edges links rank stamps count
    → length part ≡ count → Climbs rank stamps part → ListsSources edges links rank part
climbed_sources edges links rank count stamps part (found, counted, exact) long climbs y =
    let inside : (z : ℕ) → Contains part z → Contains found z = λ z c. climbed_found rank z stamps part found counted.0 climbs c in (
      λ c. (exact y).0 (inside y c),
      λ s. all_there part found y (rising_differ part climbs.rising) inside (long ∙ sym counted.1) ((exact y).1 s),
    )

-- the sources, rising, climb, and are as many as were counted
pub sources_climb : (edges : List Ends) (links : List ℕ) (ranks rank count : ℕ) (stamps part : List ℕ) → AreClosed edges ranks rank
    → All (λ z. (rank ≤ z) × (z < ranks)) links → CountsSources edges links rank stamps count → IsStrictlyIncreasing part → ListsSources edges links rank part
    → (length part ≡ count) × Climbs rank stamps part
sources_climb edges links ranks rank count stamps part closed linked (found, counted, exact) rising listed =
    let there : (y : ℕ) → Contains part y → Contains found y = λ y c. (exact y).1 ((listed y).0 c) in
    let back : (y : ℕ) → Contains found y → Contains part y = λ y c. (listed y).1 ((exact y).0 c) in
    let fewer = no_more nat_eq_equiv Decides-eqb part found (rising_differ part rising) there in
    let more = no_more nat_eq_equiv Decides-eqb found part counted.0.once back in (
      omega (arith, fewer, more, counted.1),
      record {
        rising = rising;
        above = all_from_members (λ y. rank < y) part (λ y c. (source_range edges links ranks rank y closed linked ((listed y).0 c)).0);
        stamped = all_from_members (λ y. get_or stamps y 0 ≡ rank + 1) part (λ y c. counted.0.stamped y (there y c));
      },
    )

source_part_range : (starts uppers links : List ℕ) (ranks rank y : ℕ) → AreClosed (edges_below starts uppers rank) ranks rank → All (λ z. (rank ≤ z) × (z < ranks)) links
    → ListsSources (edges_below starts uppers rank) links rank (part_at starts uppers rank) → Contains (part_at starts uppers rank) y → (rank < y) × (y < ranks)
source_part_range starts uppers links ranks rank y closed linked exact c = source_range (edges_below starts uppers rank) links ranks rank y closed linked ((exact y).0 c)

pub counted_low : (edges : List Ends) (links : List ℕ) (rank count : ℕ) (stamps : List ℕ) → CountsSources edges links rank stamps count → All (λ stamp. stamp ≤ rank + 1) stamps
counted_low edges links rank count stamps (found, counted, exact) = counted.0.low

-- one more rank was found right
pub right_more : (ranks rank : ℕ) (starts uppers links handed : List ℕ) (children children_new : Children) (stamps stamps_new : List ℕ) → rank < ranks
    → AreFoundRight ranks rank starts uppers children stamps → length uppers ≤ MAX_EDGES → All (λ z. (rank ≤ z) × (z < ranks)) links
    → IsSourcePart starts uppers links rank → handed ≡ part_at starts uppers rank → HandsOn rank (slice_get handed 0) children children_new
    → length stamps_new ≡ ranks → All (λ stamp. stamp ≤ rank + 1) stamps_new → AreFoundRight ranks (rank + 1) starts uppers children_new stamps_new
right_more ranks rank starts uppers links handed children children_new stamps stamps_new below f few linked part_is same hands marks low =
    let edges : List Ends = edges_below starts uppers rank in
    let part : List ℕ = part_at starts uppers rank in
    let next : edges ++ edges_to rank part ≡ edges_below starts uppers (rank + 1) = let more : suc rank ≡ rank + 1 = omega arith in ap (edges_below starts uppers) more in
    let range : (y : ℕ) → Contains part y → (rank < y) × (y < ranks) = λ y c. source_part_range starts uppers links ranks rank y f.edges linked part_is.exact c in
    let part_long = length_part starts uppers rank part_is.laid in
    let own = length_edges_to rank part in
    let both : length (edges_below starts uppers (rank + 1)) ≡ length edges + length (edges_to rank part) = ap length (sym next) ∙ length-append edges (edges_to rank part) in
    let hands_part = subst (λ xs. HandsOn rank (slice_get xs 0) children children_new) same hands in
    record {
      laid = λ k lt. elim (cases_eq k rank) [
        | inl last ↦ subst (IsLaid starts uppers) (sym last) part_is.laid
        | inr other ↦ f.laid k (omega (arith, lt, other))
      ];
      long = omega (arith, both, own, part_long, f.long, part_is.laid.0);
      edges = subst (λ es. AreClosed es ranks (rank + 1)) next
          (closed_more edges ranks rank part f.edges (AllPairs-from_increasing part part_is.rising) range (omega (arith, f.long, part_long, part_is.laid.0, part_is.laid.1, few)));
      handed = subst (λ es. AreChildren es ranks (rank + 1) children_new) next (children_more edges ranks rank part children children_new below range f.edges f.handed hands_part);
      marks = marks;
      low = low;
    }
