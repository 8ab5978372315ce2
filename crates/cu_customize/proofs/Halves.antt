-- The way by a middle: the two edges from the middle, and the functions of both halves.
use Rattle.std.proofs.Common.{◌≡◌, ◌<◌, ◌^◌, ◌∙◌, ℕ, List, Option, Some, None, refl, sym, ap, subst, true, min}
use Rattle.std.specs.Prelude.{IsSome}
use Rattle.cu_model.specs.Days.{day}
use Rattle.cu_arrival.specs.declared.runs.Run.{Run}
use Rattle.cu_arrival.specs.Runs.{IsArrivalFunction, arrival_value}
use Rattle.cu_chordal.specs.declared.graph.Ends.{Ends}
use Rattle.cu_chordal.specs.Graphs.{FindsEdge, IsRising}
use Rattle.cu_chordal.proofs.Members.{member_at}
use Rattle.cu_interval.specs.declared.ways.Dir.TheVariants.{Up, Down}
use Rattle.cu_interval.specs.declared.ways.Way.TheVariants.{Via}
use Rattle.cu_interval.proofs.Lookups.{number_finds}
use Rattle.cu_customize.specs.Functions.{FunctionsState, IsFunction}
use Rattle.cu_customize.specs.Settling.{KnowsHalves, function_from, shortcut_of, through}
use Rattle.cu_customize.specs.Steps.Best.{IsOpenWay, IsWayFunction}
use Rattle.cu_customize.proofs.LowFunctions.{down_edge, down_function, up_edge, up_function}

-- along two functions that are there somebody arrives
pub through_some : (first second : Option (ℕ → ℕ)) (t : ℕ) → IsSome first → IsSome second → (x : ℕ) × (through first second t ≡ Some x)
through_some None second t one two = absurd (cc one)
through_some (Some f) None t one two = absurd (cc two)
through_some (Some f) (Some g) t one two = (min (g (f t)) (2 ^ 62), refl)

-- and where somebody does both are
pub both_some : (first second : Option (ℕ → ℕ)) (t a : ℕ) → through first second t ≡ Some a → IsSome first × IsSome second
both_some None second t a e = absurd (cc e)
both_some (Some f) None t a e = absurd (cc e)
both_some (Some f) (Some b) t a e = (refl, refl)

-- a function that is answered with none isn't there
unanswered : (f : Option (ℕ → ℕ)) → IsFunction None f → IsSome f → ⊥
unanswered None h some = absurd (cc some)
unanswered (Some g) h some = absurd h

-- the composition of both functions arrives as the way along them does
through_both : (first second : Option (ℕ → ℕ)) (a b runs : List Run) → IsFunction (Some a) first → IsFunction (Some b) second
    → ((t : ℕ) → t < day → arrival_value runs t ≡ min (arrival_value b (arrival_value a t)) (2 ^ 62))
    → IsSome first × IsSome second × ((t : ℕ) → t < day → through first second t ≡ Some (arrival_value runs t))
through_both None second a b runs h i value = absurd h
through_both (Some f) None a b runs h i value = absurd i
through_both (Some f) (Some g) a b runs h i value = (
  refl,
  refl,
  λ t lt.
      let inner : arrival_value b (arrival_value a t) ≡ g (f t) = i.1 (arrival_value a t) ∙ ap g (h.1 t) in
      ap (λ (x : ℕ). Some x) (sym (value t lt ∙ ap (λ (x : ℕ). min x (2 ^ 62)) inner)),
)

module _ (edges : List Ends) (f : FunctionsState) (u v m : ℕ) (rising : IsRising edges) (below : (m < u) × (m < v)) where
  pub no_first : FindsEdge edges m u None → IsOpenWay edges f u v (Via m) → ⊥
  no_first none free = none (down_edge edges f u m below.0 free.0)

  pub no_second : FindsEdge edges m v None → IsOpenWay edges f u v (Via m) → ⊥
  no_second none free = none (up_edge edges f m v below.1 free.1)

  pub first_is : (e : ℕ) → FindsEdge edges m u (Some e) → function_from edges f u m ≡ f.shortcut e Down
  first_is e at = down_function edges f u m below.0 ∙ ap (λ (x : Option ℕ). shortcut_of f x Down) (number_finds edges rising m u (Some e) at)

  pub second_is : (e : ℕ) → FindsEdge edges m v (Some e) → function_from edges f m v ≡ f.shortcut e Up
  second_is e at = up_function edges f m v below.1 ∙ ap (λ (x : Option ℕ). shortcut_of f x Up) (number_finds edges rising m v (Some e) at)

  pub knows_first : KnowsHalves edges f u v → (e d : ℕ) → FindsEdge edges m u (Some e) → FindsEdge edges m v (Some d) → f.knows e Down ≡ true
  knows_first known e d one two =
      (known m below.0 below.1 (member_at edges (record { low = m; high = u }) e one) (member_at edges (record { low = m; high = v }) d two)).0 e (number_finds edges rising m u (Some e) one)

  pub knows_second : KnowsHalves edges f u v → (e d : ℕ) → FindsEdge edges m u (Some e) → FindsEdge edges m v (Some d) → f.knows d Up ≡ true
  knows_second known e d one two =
      (known m below.0 below.1 (member_at edges (record { low = m; high = u }) e one) (member_at edges (record { low = m; high = v }) d two)).1 d (number_finds edges rising m v (Some d) two)

  pub first_unanswered : (e : ℕ) → FindsEdge edges m u (Some e) → IsFunction None (f.shortcut e Down) → IsOpenWay edges f u v (Via m) → ⊥
  first_unanswered e at none free = unanswered (f.shortcut e Down) none (subst (λ (x : Option (ℕ → ℕ)). IsSome x) (first_is e at) free.0)

  pub second_unanswered : (d : ℕ) → FindsEdge edges m v (Some d) → IsFunction None (f.shortcut d Up) → IsOpenWay edges f u v (Via m) → ⊥
  second_unanswered d at none free = unanswered (f.shortcut d Up) none (subst (λ (x : Option (ℕ → ℕ)). IsSome x) (second_is d at) free.1)

  module _ (e d : ℕ) (one : FindsEdge edges m u (Some e)) (two : FindsEdge edges m v (Some d)) where
    along_halves : (t : ℕ) → through (function_from edges f u m) (function_from edges f m v) t ≡ through (f.shortcut e Down) (f.shortcut d Up) t
    along_halves t = rw (first_is e one, second_is d two) refl

    open_halves : IsSome (f.shortcut e Down) × IsSome (f.shortcut d Up) → IsOpenWay edges f u v (Via m)
    open_halves (some, other) = (
      subst (λ (x : Option (ℕ → ℕ)). IsSome x) (sym (first_is e one)) some,
      subst (λ (x : Option (ℕ → ℕ)). IsSome x) (sym (second_is d two)) other,
    )

    -- the function along both halves is the way's
    pub along_function : (a b runs : List Run) → IsFunction (Some a) (f.shortcut e Down) → IsFunction (Some b) (f.shortcut d Up) → IsArrivalFunction runs
        → ((t : ℕ) → t < day → arrival_value runs t ≡ min (arrival_value b (arrival_value a t)) (2 ^ 62)) → IsWayFunction edges f u v (Via m) (Some runs)
    along_function a b runs h i sound value =
        let (some, other, arrives) = through_both (f.shortcut e Down) (f.shortcut d Up) a b runs h i value in
        (open_halves (some, other), sound, λ t lt. along_halves t ∙ arrives t lt)
