-- What became of both lists of an edge, kept and put in their places.
use Rattle.std.proofs.Common.{◌≡◌, ◌≤◌, ◌<◌, ◌∙◌, ◌≢◌, ◌⊎◌, ℕ, zero, suc, List, [], ◌∷◌, ◌++◌, Option, Some, refl, ap, sym, subst, arith, inl, inr, length}
use Rattle.std.specs.Prelude.{All, slice_get, slice_set}
use Rattle.std.proofs.lemmas.List.{length-set}
use Rattle.cu_model.proofs.ListLaws.{get_here, get_other}
use Rattle.cu_model.proofs.RoadLaws.{all_at}
use Rattle.cu_arrival.specs.declared.runs.Run.{Run}
use Rattle.cu_interval.specs.declared.ways.Dir.{Dir}
use Rattle.cu_interval.specs.declared.ways.Dir.TheVariants.{Up, Down}
use Rattle.cu_interval.specs.Hierarchies.{list_number}
use Rattle.cu_edits.specs.declared.new_list.Outcome.{Outcome}
use Rattle.cu_edits.specs.declared.new_list.Outcome.TheVariants.{Stands, Moves}
use Rattle.cu_edits.specs.Steps.Moving.{KeepsBoth, KeepsMore, KeepsOutcome, MovedValue}
use Rattle.cu_edits.proofs.Replaced.{numbers_apart}
use Rattle.cu_edits.proofs.StandingLists.{ArePlaced, IsPlacedAs}
use Rattle.cu_edits.proofs.EditedNetworks.{all_set}

-- the outcome of a list by its direction
abbrev pub outcome_in : Outcome → Outcome → Dir → Outcome
outcome_in up down Up = up
outcome_in up down Down = down

-- functions are kept behind those before
record Grows (old new : List (Option (List Run))) : Type 0 where
  longer : length old ≤ length new
  still : (place : ℕ) → place < length old → slice_get new place ≡ slice_get old place

pub behind_all : (old : List (Option (List Run))) (function : Option (List Run)) → length (old ++ (function ∷ [])) ≡ suc (length old)
behind_all [] function = refl
behind_all (f ∷ fs) function = ap suc (behind_all fs function)

last_of : (old : List (Option (List Run))) (function : Option (List Run)) → slice_get (old ++ (function ∷ [])) (length old) ≡ Some function
last_of [] function = refl
last_of (f ∷ fs) function = last_of fs function

pub before_last : (old : List (Option (List Run))) (function : Option (List Run)) (place : ℕ) → place < length old → slice_get (old ++ (function ∷ [])) place ≡ slice_get old place
before_last [] function place lt = absurd (omega (arith, lt))
before_last (f ∷ fs) function zero lt = refl
before_last (f ∷ fs) function (suc place) lt = before_last fs function place (omega (arith, lt))

pub keeping_places : (old new : MovedValue) (outcome : Outcome) (place : ℕ) → KeepsOutcome old new outcome place → new.places ≡ old.places
keeping_places old new Stands place (none, same) = ap (λ (m : MovedValue). m.places) same
keeping_places old new (Moves function) place (here, same) = ap (λ (m : MovedValue). m.places) same

pub keeping_low : (old new : MovedValue) (outcome : Outcome) (place : ℕ) → KeepsOutcome old new outcome place → new.low ≡ old.low
keeping_low old new Stands place (none, same) = ap (λ (m : MovedValue). m.low) same
keeping_low old new (Moves function) place (here, same) = ap (λ (m : MovedValue). m.low) same

keeping_grows : (old new : MovedValue) (outcome : Outcome) (place : ℕ) → KeepsOutcome old new outcome place → Grows old.functions new.functions
keeping_grows old new Stands place (none, same) =
    let is : new.functions ≡ old.functions = ap (λ (m : MovedValue). m.functions) same in
    subst (Grows old.functions) (sym is) (record { longer = omega arith; still = λ p lt. refl })
keeping_grows old new (Moves function) place (here, same) =
    let is : new.functions ≡ old.functions ++ (function ∷ []) = ap (λ (m : MovedValue). m.functions) same in
    let more = behind_all old.functions function in
    subst (Grows old.functions) (sym is) (record { longer = omega (arith, more); still = before_last old.functions function })

keeping_inside : (old new : MovedValue) (outcome : Outcome) (place : ℕ) → KeepsOutcome old new outcome place → place ≤ length new.functions
keeping_inside old new Stands place (none, same) = omega (arith, none)
keeping_inside old new (Moves function) place (here, same) =
    let long : length new.functions ≡ length (old.functions ++ (function ∷ [])) = ap (λ (m : MovedValue). length m.functions) same in
    let more = behind_all old.functions function in
    omega (arith, here, long, more)

grows_then : (old mid new : List (Option (List Run))) → Grows old mid → Grows mid new → Grows old new
grows_then old mid new first second = record {
  longer = let one = first.longer in let two = second.longer in omega (arith, one, two);
  still = λ p lt. let one = first.longer in second.still p (omega (arith, lt, one)) ∙ first.still p lt;
}

-- so nothing that was kept before is another
pub more_none : (old new : MovedValue) → new ≡ old → KeepsMore old new
more_none old new same = subst (KeepsMore old) (sym same) (record { places = refl; low = refl; longer = omega arith; still = λ p lt. refl })

pub keeping_more : (old new : MovedValue) (outcome : Outcome) (place : ℕ) → KeepsOutcome old new outcome place → KeepsMore old new
keeping_more old new outcome place keeps =
    let grows = keeping_grows old new outcome place keeps in
    record { places = keeping_places old new outcome place keeps; low = keeping_low old new outcome place keeps; longer = grows.longer; still = grows.still }

-- both outcomes of an edge are kept
module _ (old new : MovedValue) (up down : Outcome) (upwards downwards : ℕ) (both : KeepsBoth old new up down upwards downwards) where
  pub both_more : KeepsMore old new
  both_more =
      let grows = grows_then old.functions both.mid.functions new.functions (keeping_grows old both.mid up upwards both.upper) (keeping_grows both.mid new down downwards both.lower) in
      record {
        places = keeping_places both.mid new down downwards both.lower ∙ keeping_places old both.mid up upwards both.upper;
        low = keeping_low both.mid new down downwards both.lower ∙ keeping_low old both.mid up upwards both.upper;
        longer = grows.longer;
        still = grows.still;
      }

  pub upper_inside : upwards ≤ length new.functions
  upper_inside =
      let le = keeping_inside old both.mid up upwards both.upper in
      let longer = (keeping_grows both.mid new down downwards both.lower).longer in
      omega (arith, le, longer)

  pub lower_inside : downwards ≤ length new.functions
  lower_inside = keeping_inside both.mid new down downwards both.lower

-- a place is new, or none
place_new : (old new : MovedValue) (outcome : Outcome) (place : ℕ) → KeepsOutcome old new outcome place
    → (place ≡ 0) ⊎ ((place ≡ suc (length old.functions)) × (length new.functions ≡ suc (length old.functions)))
place_new old new Stands place (none, same) = inl none
place_new old new (Moves function) place (here, same) =
    inr (here, ap (λ (m : MovedValue). length m.functions) same ∙ behind_all old.functions function)

-- no other list has its function at one of both places, and these aren't the same
module _ (old new : MovedValue) (up down : Outcome) (upwards downwards : ℕ) (both : KeepsBoth old new up down upwards downwards) where
  pub both_own : All (λ (place : ℕ). place ≤ length old.functions) old.places → (list place : ℕ) → slice_get new.places list ≡ Some (suc place)
      → (suc place ≢ upwards) × (suc place ≢ downwards)
  both_own inside list place at =
      let before : slice_get old.places list ≡ Some (suc place) =
      ap (λ (ps : List ℕ). slice_get ps list) (sym (both_more old new up down upwards downwards both).places) ∙ at in
      let le = all_at (λ (k : ℕ). k ≤ length old.functions) old.places list (suc place) inside before in
      let longer = (keeping_grows old both.mid up upwards both.upper).longer in (
        λ same. elim (place_new old both.mid up upwards both.upper) [
          | inl none ↦ omega (arith, same, none)
          | inr (is, long) ↦ omega (arith, same, is, le)
        ],
        λ same. elim (place_new both.mid new down downwards both.lower) [
          | inl none ↦ omega (arith, same, none)
          | inr (is, long) ↦ omega (arith, same, is, le, longer)
        ],
      )

  pub both_apart : upwards ≡ downwards → upwards ≡ 0
  both_apart same = elim (place_new old both.mid up upwards both.upper) [
    | inl none ↦ none
    | inr (is, long) ↦ elim (place_new both.mid new down downwards both.lower) [
      | inl none ↦ same ∙ none
      | inr (there, more) ↦ absurd (omega (arith, same, is, there, long))
    ]
  ]

-- what is kept at a place stays there
placed_as : (old mid new : MovedValue) (edge : ℕ) (dir : Dir) (outcome : Outcome) (place : ℕ) → KeepsOutcome old mid outcome place → Grows mid.functions new.functions
    → slice_get new.places (list_number edge dir) ≡ Some place → IsPlacedAs new edge dir outcome
placed_as old mid new edge dir Stands place (none, same) grows at = at ∙ ap Some none
placed_as old mid new edge dir (Moves function) place (here, same) grows at =
    let is : mid.functions ≡ old.functions ++ (function ∷ []) = ap (λ (m : MovedValue). m.functions) same in
    let long = ap length is in
    let more = behind_all old.functions function in (
      length old.functions,
      at ∙ ap Some here,
      grows.still (length old.functions) (omega (arith, long, more)) ∙ ap (λ (fs : List (Option (List Run))). slice_get fs (length old.functions)) is ∙ last_of old.functions function,
    )

-- both outcomes of an edge are kept, and then put in their places
module _ (old one two new : MovedValue) (edge : ℕ) (up down : Outcome) (upwards downwards : ℕ) (within : list_number edge Down < length old.places)
    (inside : All (λ (place : ℕ). place ≤ length old.functions) old.places) (first : KeepsOutcome old one up upwards) (second : KeepsOutcome one two down downwards)
    (places : new.places ≡ slice_set (slice_set two.places (list_number edge Up) upwards) (list_number edge Down) downwards) (functions : new.functions ≡ two.functions) (low : new.low ≡ two.low) where
  same_places : two.places ≡ old.places
  same_places = keeping_places one two down downwards second ∙ keeping_places old one up upwards first

  last : Grows two.functions new.functions
  last = subst (Grows two.functions) (sym functions) (record { longer = omega arith; still = λ p lt. refl })

  later : Grows one.functions new.functions
  later = grows_then one.functions two.functions new.functions (keeping_grows one two down downwards second) last

  all : Grows old.functions new.functions
  all = grows_then old.functions one.functions new.functions (keeping_grows old one up upwards first) later

  all_inside : All (λ (place : ℕ). place ≤ length new.functions) new.places
  all_inside =
      let IsInside : ℕ → Type 0 = λ (place : ℕ). place ≤ length new.functions in
      let before : All IsInside two.places =
      subst (All IsInside) (sym same_places) (λ k d lt. let le = inside k d lt in let longer = all.longer in omega (arith, le, longer)) in
      let upper : IsInside upwards = (let le = keeping_inside old one up upwards first in let longer = later.longer in omega (arith, le, longer)) in
      let lower : IsInside downwards = (let le = keeping_inside one two down downwards second in let longer = last.longer in omega (arith, le, longer)) in
      subst (All IsInside) (sym places)
      (all_set IsInside (slice_set two.places (list_number edge Up) upwards) (list_number edge Down) downwards (all_set IsInside two.places (list_number edge Up) upwards before upper) lower)

  long_two : list_number edge Down < length two.places
  long_two = let same = ap length same_places in omega (arith, within, same)

  up_at : slice_get new.places (list_number edge Up) ≡ Some upwards
  up_at =
      ap (λ (ps : List ℕ). slice_get ps (list_number edge Up)) places
      ∙ get_other (slice_set two.places (list_number edge Up) upwards) (list_number edge Down) (list_number edge Up) downwards (λ same. omega (arith, same))
      ∙ get_here two.places (list_number edge Up) upwards (omega (arith, long_two))

  down_at : slice_get new.places (list_number edge Down) ≡ Some downwards
  down_at =
      ap (λ (ps : List ℕ). slice_get ps (list_number edge Down)) places
      ∙ get_here (slice_set two.places (list_number edge Up) upwards) (list_number edge Down) downwards
      (let long = length-set two.places (list_number edge Up) upwards in omega (arith, long_two, long))

  own : (dir : Dir) → IsPlacedAs new edge dir (outcome_in up down dir)
  own Up = placed_as old one new edge Up up upwards first later up_at
  own Down = placed_as one two new edge Down down downwards second last down_at

  pub placed_both : ArePlaced old new edge (outcome_in up down)
  placed_both = record {
    long = ap length places ∙ length-set (slice_set two.places (list_number edge Up) upwards) (list_number edge Down) downwards
        ∙ length-set two.places (list_number edge Up) upwards ∙ ap length same_places;
    inside = all_inside;
    others = λ e dir ne.
        ap (λ (ps : List ℕ). slice_get ps (list_number e dir)) places
        ∙ get_other (slice_set two.places (list_number edge Up) upwards) (list_number edge Down) (list_number e dir) downwards (numbers_apart edge e Down dir ne)
        ∙ get_other two.places (list_number edge Up) (list_number e dir) upwards (numbers_apart edge e Up dir ne) ∙ ap (λ (ps : List ℕ). slice_get ps (list_number e dir)) same_places;
    functions = all.still;
    own = own;
    low = low ∙ keeping_low one two down downwards second ∙ keeping_low old one up upwards first;
  }
