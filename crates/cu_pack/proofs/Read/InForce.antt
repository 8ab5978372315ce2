-- An item is in force from its own second until the next one's, or until the day ends.
use Rattle.std.proofs.Common.{◌≡◌, ◌≤◌, ◌<◌, ◌+◌, ◌-◌, ◌*◌, ◌%◌, ◌∙◌, ℕ, suc, List, Option, Some, None, true, length, get_or, refl, sym, ap, subst, arith, inl, inr}
use Rattle.std.specs.Prelude.{slice_get}
use Rattle.std.specs.Option.{option_map}
use Rattle.std.proofs.lemmas.Bool.{cases_lt}
use Rattle.std.proofs.lemmas.Option.{get_or_from_slice_get, slice_get-get_or, slice_get_within}
use Rattle.cu_model.specs.declared.profiles.Piece.{Piece}
use Rattle.cu_model.specs.declared.roads.RoadArc.{RoadArc}
use Rattle.cu_model.specs.Begun.{Rises, last_begun}
use Rattle.cu_model.specs.Days.{day}
use Rattle.cu_model.specs.Profiles.{is_in_limit}
use Rattle.cu_model.proofs.Begun.{begun_until}
use Rattle.cu_model.proofs.RoadLaws.{all_at}
use Rattle.cu_model.proofs.FaultLaws.{piece_begins}
use Rattle.cu_interval.specs.declared.ways.Entry.{Entry}
use Rattle.cu_interval.specs.WayLists.{IsWayList, way_in}
use Rattle.cu_interval.proofs.Spelled.{entries_rise}
use Rattle.cu_pack.specs.declared.cutting.in_force.RuleInForce.{RuleInForce}
use Rattle.cu_pack.specs.InForce.{AtEach, AreAround, FindsWayInForce, IsPieceInForce, IsRuleInForce, rule_by, rule_of_pieces}
use Rattle.cu_pack.specs.Places.{short_at}
use Rattle.cu_pack.specs.Reading.{arc_in, counts_in, entry_from, network_in, piece_from, piece_place, profile_in, profile_start}
use Rattle.cu_pack.specs.Steps.Begins.{begin_of}
use Rattle.cu_pack.specs.Steps.Columns.{IsCountUpTo}
use Rattle.cu_pack.specs.Steps.Parts.{HasProfile}
use Rattle.cu_pack.specs.Steps.Slices.{IsWaySlice, entries_from}
use Rattle.cu_pack.proofs.Read.Driven.{arc_there, piece_there, pieces_long, pieces_same}
use Rattle.cu_pack.proofs.Read.Parted.{pieces_begun}
use Rattle.cu_pack.proofs.Read.WayRows.{way_slice_begun, way_slice_entry, way_slice_long}

module _ {A : Type 0} (from : A → ℕ) (xs : List A) (rises : Rises from xs) (j until : ℕ) (x : A) (at : slice_get xs j ≡ Some x) where
  next_begins : (next : Option A) → slice_get xs (suc j) ≡ next → until ≡ begin_of from next → suc j < length xs → until ≤ from (get_or xs (suc j) x)
  next_begins None none is more = absurd (cc (none, slice_get-get_or xs (suc j) x more))
  next_begins (Some y) there is more =
      let same : y ≡ get_or xs (suc j) x = cc (there, slice_get-get_or xs (suc j) x more) in
      let begins : until ≡ from y = is in
      let both : from y ≡ from (get_or xs (suc j) x) = ap from same in
      omega (arith, begins, both)

  pub begun_between : until ≡ begin_of from (slice_get xs (suc j)) → AtEach (from x) until (λ t. last_begun from xs t ≡ Some x)
  begun_between is t low high =
      let inside = slice_get_within xs j x at in
      let same : get_or xs j x ≡ x = get_or_from_slice_get xs j x x at in
      let begun : from (get_or xs j x) ≤ t = subst (λ (y : A). from y ≤ t) (sym same) low in
      begun_until from xs rises x j t inside begun (λ more. let next = next_begins (slice_get xs (suc j)) refl is more in omega (arith, next, high)) ∙ ap Some same

-- the item that has begun last, by the count of those that have
pub last_before : {A : Type 0} (from : A → ℕ) (xs : List A) (second number : ℕ) (x : A) → slice_get xs (number - 1) ≡ Some x
    → (y : A) × (slice_get xs (number - 1) ≡ Some y) × (from y ≤ second) → from x ≤ second
last_before from xs second number x at (y, there, begun) = let same : y ≡ x = cc (at, there) in subst (λ z. from z ≤ second) same begun

-- the same at a second of the day, where the one before this one has begun and this one hasn't
pub around : {A : Type 0} (from : A → ℕ) (xs : List A) → Rises from xs → (second number until : ℕ) (x : A) → second < day → 0 < number
    → slice_get xs (number - 1) ≡ Some x → from x ≤ second → ((y : A) → slice_get xs number ≡ Some y → (second < from y) × (from y < day))
    → until ≡ begin_of from (slice_get xs number)
    → AreAround second (from x) until × AtEach (from x) until (λ t. last_begun from xs t ≡ Some x)
around {A} from xs rises second number until x lt some at begun later is =
    let place : suc (number - 1) ≡ number = omega (arith, some) in
    let next : until ≡ begin_of from (slice_get xs (suc (number - 1))) = is ∙ ap (λ (n : ℕ). begin_of from (slice_get xs n)) (sym place) in
    let bounds = bounded (slice_get xs number) refl is in
    ((begun, bounds.0, bounds.1), begun_between from xs rises (number - 1) until x at next)
  where
    bounded : (o : Option A) → slice_get xs number ≡ o → until ≡ begin_of from o → (second < until) × (until ≤ day)
    bounded None none e = let ends : until ≡ day = e in (omega (arith, lt, ends), omega (arith, ends))
    bounded (Some y) there e = let begins : until ≡ from y = e in let more = later y there in (omega (arith, more.0, begins), omega (arith, more.1, begins))

module _ (bytes : List ℕ) (at count : ℕ) (list : List Entry) (f : IsWaySlice bytes at count) (same : entries_from bytes at count ≡ list) where
  pub way_in_force : (second number until : ℕ) (entry : Entry) → second < day → 0 < count → IsCountUpTo bytes at 12 count second number → slice_get list (number - 1) ≡ Some entry
      → until ≡ begin_of (λ (e : Entry). e.from) (slice_get list number)
      → FindsWayInForce list second (Some (record { way = entry.way; from = entry.from; until = until }))
  way_in_force second number until entry lt some counted there is =
      let spelled : IsWayList list = subst IsWayList same f.spelled in
      let begun = way_slice_begun bytes at count list f same second number some counted in
      let last = subst (λ (es : List Entry). (y : Entry) × (slice_get es (number - 1) ≡ Some y) × (y.from ≤ second)) same begun.1.begun in
      let here = last_before (λ (e : Entry). e.from) list second number entry there last in
      let found = around (λ (e : Entry). e.from) list (entries_rise list spelled) second number until entry lt begun.0 there here (λ y next.
      let long = way_slice_long bytes at count list f same in
      let inside : number < count = let within = slice_get_within list number y next in omega (arith, within, long) in
      let read : y ≡ entry_from bytes (at + 12 * number) = cc (next, way_slice_entry bytes at count list f same number inside) in
      let begins : y.from ≡ short_at bytes (at + 12 * number) = ap (λ (e : Entry). e.from) read in
      let above = counted.above number (omega arith) inside in
      (omega (arith, begins, above), all_at (λ (e : Entry). e.from < day) list number y spelled.within next)) is in (
        found.0,
        λ t low high.
            let most = found.0.2 in
            let time : t % day ≡ t = omega (arith, high, most) in
            ap (way_in list) time ∙ ap (option_map (λ (e : Entry). e.way)) (found.1 t low high),
      )

none_begins : {A : Type 0} (from : A → ℕ) (xs : List A) (index : ℕ) → length xs ≤ index → day ≡ begin_of from (slice_get xs index)
none_begins {A} from xs index past = go (slice_get xs index) refl
  where
    go : (o : Option A) → slice_get xs index ≡ o → day ≡ begin_of from o
    go None none = refl
    go (Some y) there = let within = slice_get_within xs index y there in absurd (omega (arith, within, past))

some_begins : {A : Type 0} (from : A → ℕ) (xs : List A) (index : ℕ) (x : A) → slice_get xs index ≡ Some x → from x ≡ begin_of from (slice_get xs index)
some_begins from xs index x there = sym (ap (begin_of from) there)

module _ (bytes : List ℕ) (profile : ℕ) (f : HasProfile bytes profile) where
  pub piece_in_force : (second number until : ℕ) (piece : Piece) → second < day
      → IsCountUpTo bytes (piece_place bytes (profile_start bytes profile)) 12 (profile_start bytes (suc profile) - profile_start bytes profile) second number
      → piece ≡ piece_from bytes (piece_place bytes (profile_start bytes profile + (number - 1)))
      → (profile_start bytes profile + number < profile_start bytes (suc profile) → until ≡ (piece_from bytes (piece_place bytes (profile_start bytes profile + number))).from)
      → (profile_start bytes (suc profile) ≤ profile_start bytes profile + number → until ≡ day)
      → IsPieceInForce (profile_in bytes profile) second (record { rule = piece.rule; from = piece.from; until = until })
  piece_in_force second number until piece lt counted read next_is none_is =
      let pieces = profile_in bytes profile in
      let start = profile_start bytes profile in
      let long = pieces_long bytes profile in
      let some = (pieces_begun bytes profile f second number counted).0 in
      let within = counted.within in
      let there : slice_get pieces (number - 1) ≡ Some piece = piece_there bytes profile (number - 1) (omega (arith, some, within, long)) ∙ ap Some (sym read) in
      let order = f.order in
      let is : until ≡ begin_of (λ (p : Piece). p.from) (slice_get pieces number) =
      elim (cases_lt number (length pieces)) [
        | inl inside ↦
            next_is (omega (arith, inside, long)) ∙ some_begins (λ (p : Piece). p.from) pieces number (piece_from bytes (piece_place bytes (start + number))) (piece_there bytes profile number inside)
        | inr past ↦ none_is (omega (arith, past, long, order)) ∙ none_begins (λ (p : Piece). p.from) pieces number past
      ] in
      let place : piece_place bytes (start + (number - 1)) ≡ piece_place bytes start + 12 * (number - 1) = omega arith in
      let up_to = counted.up_to (number - 1) (omega (arith, some)) in
      let from_is : piece.from ≡ short_at bytes (piece_place bytes start + 12 * (number - 1)) = ap (λ (p : Piece). p.from) read ∙ ap (short_at bytes) place in
      let found = around (λ (p : Piece). p.from) pieces f.valid.rises second number until piece lt some there (omega (arith, from_is, up_to)) (λ y next.
      let inside : number < length pieces = slice_get_within pieces number y next in
      let is_next : y ≡ piece_from bytes (piece_place bytes (start + number)) = cc (next, piece_there bytes profile number inside) in
      let spot : piece_place bytes (start + number) ≡ piece_place bytes start + 12 * number = omega arith in
      let begins : y.from ≡ short_at bytes (piece_place bytes start + 12 * number) = ap (λ (p : Piece). p.from) is_next ∙ ap (short_at bytes) spot in
      let above = counted.above number (omega arith) (omega (arith, inside, long)) in
      (omega (arith, begins, above), piece_begins y (all_at (λ (p : Piece). is_in_limit p ≡ true) pieces number y f.valid.limits next))) is in
      (found.0, λ t low high. ap (option_map (λ (p : Piece). p.rule)) (found.1 t low high))

-- the rule of a road is that of its profile
pub road_in_force : (bytes : List ℕ) (arc second : ℕ) (found : RuleInForce) → arc < (counts_in bytes).arcs → (arc_in bytes arc).profile < (counts_in bytes).profiles
    → IsPieceInForce (profile_in bytes (arc_in bytes arc).profile) second found → IsRuleInForce (network_in bytes) arc second found
road_in_force bytes arc second found inside profile (near, each) = (
  near,
  λ t low high.
      ap (λ (o : Option RoadArc). rule_by (network_in bytes) o t) (arc_there bytes arc inside)
      ∙ ap (λ (ps : List Piece). rule_of_pieces ps t) (pieces_same bytes (arc_in bytes arc).profile profile)
      ∙ each t low high,
)
