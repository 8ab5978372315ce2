-- Rows and the pool: what a row says where the pool grows, and where one row is written.
use Rattle.std.proofs.Common.{◌≡◌, ◌≤◌, ◌<◌, ◌+◌, ◌-◌, ◌++◌, ◌∙◌, ℕ, suc, List, [], ◌∷◌, Option, Some, None, refl, sym, ap, subst, arith, inl, inr, length, map, get_or, take, drop, replicate}
use Rattle.std.specs.Prelude.{slice_get, slice_set, All}
use Rattle.std.proofs.lemmas.Bool.{cases_eq}
use Rattle.std.proofs.lemmas.List.{drop-append-le, get_or-map, get_or-set_other, get_or-set_same, length-append, length-drop, length-set, map-set, take-append-le, drop_at, take_all, length-map, get_or-replicate, length-replicate, get_or_append_left, get_or-append_right, set-append_left, set-get_or, append_assoc, replicate-append-replicate}
use Rattle.cu_arrival.specs.declared.runs.Run.{Run}
use Rattle.cu_runs.specs.PackedRuns.{end_run}
use Rattle.cu_brief.specs.BriefRuns.{IsBrief, runs_of}
use Rattle.cu_store.specs.declared.rows.Row.{Row}
use Rattle.cu_store.specs.declared.rows.Row.TheVariants as row
use Rattle.std.specs.Option.{option_map}
use Rattle.std.proofs.lemmas.Option.{slice_get-get_or, slice_get-map}
use Rattle.cu_model.specs.Days.{day}
use Rattle.cu_arrival.specs.Runs.{arrival_value, run_value}
use Rattle.cu_arrival.proofs.RunLaws.{value_in_day}
use Rattle.cu_brief.proofs.Meaning.{last_not}
use Rattle.cu_store.specs.Known.{HasNoRuns, KnownFunction, StoreValue, ended, found_at}
use Rattle.cu_store.specs.Pool.{IsRowIn, known_by, rows_of, runs_in}

-- runs that stand in a pool stand in it as it grows
pub runs_in-append : (pool added : List ℕ) (start count : ℕ) → start + count ≤ length pool → runs_in (pool ++ added) start count ≡ runs_in pool start count
runs_in-append pool added start count le =
    let long = length-drop start pool in
    ap (take count) (drop-append-le start pool added (omega (arith, le))) ∙ take-append-le count (drop start pool) added (omega (arith, long, le))

-- and those that were added are the last ones
pub runs_in-added : (pool added : List ℕ) → runs_in (pool ++ added) (length pool) (length added) ≡ added
runs_in-added pool added = ap (take (length added)) (drop_at pool added (length pool) refl) ∙ take_all (length added) added (omega arith)

pub known_by-append : (pool added : List ℕ) (r : Row) → IsRowIn pool r → known_by (pool ++ added) r ≡ known_by pool r
known_by-append pool added row.Unknown is = refl
known_by-append pool added row.Empty is = refl
known_by-append pool added (row.Runs base start count) is =
    ap (λ (brief : List ℕ). Some (Some (record { runs = runs_of base brief ++ end_run ∷ [] }))) (runs_in-append pool added start count is.0)

pub row_in-append : (pool added : List ℕ) (r : Row) → IsRowIn pool r → IsRowIn (pool ++ added) r
row_in-append pool added row.Unknown is = tt
row_in-append pool added row.Empty is = tt
row_in-append pool added (row.Runs base start count) is =
    let long = length-append pool added in
    let low = is.0 in
    (omega (arith, long, low), subst IsBrief (sym (runs_in-append pool added start count is.0)) is.1)

pub all_known-append : (pool added : List ℕ) (rows : List Row) → All (IsRowIn pool) rows → map (known_by (pool ++ added)) rows ≡ map (known_by pool) rows
all_known-append pool added [] is = refl
all_known-append pool added (r ∷ rows) is =
    let rest = all_known-append pool added rows (λ k d h. is (suc k) d (omega (arith, h))) in
    ap (λ (o : Option (Option KnownFunction)). o ∷ map (known_by (pool ++ added)) rows) (known_by-append pool added r (is 0 r (omega arith)))
    ∙ ap (λ (os : List (Option (Option KnownFunction))). known_by pool r ∷ os) rest

-- one row is written
pub rows_in-set : (pool added : List ℕ) (rows : List Row) (i : ℕ) (r : Row) → i < length rows → All (IsRowIn pool) rows → IsRowIn (pool ++ added) r → All (IsRowIn (pool ++ added)) (slice_set rows i r)
rows_in-set pool added rows i r inside all one k d h =
    let long = length-set rows i r in
    elim (cases_eq k i) [
      | inl same ↦ subst (λ (j : ℕ). IsRowIn (pool ++ added) (get_or (slice_set rows i r) j d)) (sym same)
          (subst (IsRowIn (pool ++ added)) (sym (get_or-set_same rows i r d inside)) one)
      | inr other ↦ subst (IsRowIn (pool ++ added)) (sym (get_or-set_other rows i k r d other)) (row_in-append pool added (get_or rows k d) (all k d (omega (arith, h, long))))
    ]

-- the row of a function that was added
pub added_row : (pool added : List ℕ) (packed : List Run) (base start count : ℕ) → runs_of base added ≡ take (length packed - 1) packed → IsBrief added
    → start ≡ length pool → count ≡ length added
    → (known_by (pool ++ added) (row.Runs base start count) ≡ Some (Some (record { runs = ended packed })))
    × IsRowIn (pool ++ added) (row.Runs base start count)
added_row pool added packed base start count runs brief is_start is_count =
    let at : runs_in (pool ++ added) start count ≡ added =
    ap (λ (s : ℕ). runs_in (pool ++ added) s count) is_start ∙ ap (runs_in (pool ++ added) (length pool)) is_count ∙ runs_in-added pool added in
    let long = length-append pool added in (
      ap (λ (rs : List ℕ). Some (Some (record { runs = runs_of base rs ++ end_run ∷ [] }))) at
          ∙ ap (λ (rs : List Run). Some (Some (record { runs = rs ++ end_run ∷ [] }))) runs,
      (omega (arith, long, is_start, is_count), subst IsBrief (sym at) brief),
    )

-- what a store is seen as
abbrev pub view_of : List ℕ → List Row → ℕ → StoreValue
view_of pool rows room = record { known = map (known_by pool) rows; used = length pool; room = room }

pub written_view : (pool added : List ℕ) (rows : List Row) (room list : ℕ) (r : Row) (v : StoreValue) → All (IsRowIn pool) rows → view_of pool rows room ≡ v
    → view_of (pool ++ added) (slice_set rows list r) room ≡ record { known = slice_set v.known list (known_by (pool ++ added) r); used = v.used + length added; room = v.room }
written_view pool added rows room list r v all is =
    let one = known_by (pool ++ added) r in
    ap (λ (ks : List (Option (Option KnownFunction))). record { known = ks; used = length (pool ++ added); room = room }) (map-set (known_by (pool ++ added)) rows list r)
    ∙ ap (λ (ks : List (Option (Option KnownFunction))). record { known = slice_set ks list one; used = length (pool ++ added); room = room }) (all_known-append pool added rows all)
    ∙ ap (λ (n : ℕ). record { known = slice_set (map (known_by pool) rows) list one; used = n; room = room }) (length-append pool added)
    ∙ ap (λ (v : StoreValue). record { known = slice_set v.known list one; used = v.used + length added; room = v.room }) is

-- the same where nothing was added
pub plain_view : (pool : List ℕ) (rows : List Row) (room list : ℕ) (r : Row) (v : StoreValue) → view_of pool rows room ≡ v
    → view_of pool (slice_set rows list r) room ≡ record { known = slice_set v.known list (known_by pool r); used = v.used; room = v.room }
plain_view pool rows room list r v is =
    let one = known_by pool r in
    ap (λ (ks : List (Option (Option KnownFunction))). record { known = ks; used = length pool; room = room }) (map-set (known_by pool) rows list r)
    ∙ ap (λ (v : StoreValue). record { known = slice_set v.known list one; used = v.used; room = v.room }) is

-- the end of a function says nothing
pub end_after : (runs : List Run) (t : ℕ) → t < day → arrival_value (runs ++ end_run ∷ []) t ≡ arrival_value runs t
end_after runs t early =
    value_in_day (runs ++ end_run ∷ []) t early
    ∙ ap (λ (o : Option Run). run_value o 0 t) (last_not (λ (r : Run). r.from) runs end_run t early)
    ∙ sym (value_in_day runs t early)

-- what is known of a list whose row is this one
pub known_row : (pool : List ℕ) (rows : List Row) (room list : ℕ) (v : StoreValue) (r : Row) → view_of pool rows room ≡ v → list < length v.known → r ≡ get_or rows list r
    → slice_get v.known list ≡ Some (known_by pool r)
known_row pool rows room list v r is inside same =
    let long = length-map rows (known_by pool) in
    let size = ap (λ (v : StoreValue). length v.known) is in
    let here : slice_get rows list ≡ Some r = slice_get-get_or rows list r (omega (arith, inside, long, size)) ∙ ap Some (sym same) in
    ap (λ (v : StoreValue). slice_get v.known list) (sym is) ∙ slice_get-map (known_by pool) rows list ∙ ap (option_map (known_by pool)) here

-- what is found of a list whose row is this one
pub found_row : (pool : List ℕ) (rows : List Row) (room list second : ℕ) (v : StoreValue) (r : Row) → view_of pool rows room ≡ v → list < length v.known → r ≡ get_or rows list r
    → found_at (slice_get v.known list) second ≡ found_at (Some (known_by pool r)) second
found_row pool rows room list second v r is inside same =
    let long = length-map rows (known_by pool) in
    let size = ap (λ (v : StoreValue). length v.known) is in
    let here : slice_get rows list ≡ Some r = slice_get-get_or rows list r (omega (arith, inside, long, size)) ∙ ap Some (sym same) in
    ap (λ (v : StoreValue). found_at (slice_get v.known list) second) (sym is)
    ∙ ap (λ (o : Option (Option (Option KnownFunction))). found_at o second) (slice_get-map (known_by pool) rows list ∙ ap (option_map (known_by pool)) here)

-- no list of blank rows is known
pub blank_known : (pool : List ℕ) (rows : List Row) (lists : ℕ) → rows ≡ replicate lists row.Unknown → All (λ (known : Option (Option KnownFunction)). known ≡ None) (map (known_by pool) rows)
blank_known pool rows lists is k d h =
    let long = length-map rows (known_by pool) in
    let size = ap length is in
    let count = length-replicate lists row.Unknown in
    let inside : k < length rows = omega (arith, h, long) in
    let at : get_or (map (known_by pool) rows) k d ≡ known_by pool (get_or rows k row.Unknown) = get_or-map (known_by pool) rows k row.Unknown d inside in
    at ∙ ap (λ (rs : List Row). known_by pool (get_or rs k row.Unknown)) is ∙ ap (known_by pool) (get_or-replicate lists k row.Unknown row.Unknown (omega (arith, inside, size, count)))

-- a row that has no runs tells no function
pub no_runs : (pool : List ℕ) (r : Row) → ((base start count : ℕ) → r ≡ row.Runs base start count → ⊥) → HasNoRuns (Some (known_by pool r))
no_runs pool row.Unknown none runs (function, at, same) = cc at
no_runs pool row.Empty none runs (function, at, same) = cc at
no_runs pool (row.Runs base start count) none runs has = none base start count refl

module _ (lists : ℕ) (rows : List Row) where
  -- of each list there is a row
  pub rows_length : length rows ≤ lists → length (rows_of lists rows) ≡ lists
  rows_length most =
      let long = length-append rows (replicate (lists - length rows) row.Unknown) in
      let rest = length-replicate (lists - length rows) row.Unknown in
      omega (arith, long, rest, most)

  -- those that are there
  pub row_there : (i : ℕ) (d : Row) → i < length rows → get_or (rows_of lists rows) i d ≡ get_or rows i d
  row_there i d inside = get_or_append_left rows (replicate (lists - length rows) row.Unknown) d i inside

  -- any other says nothing
  pub row_behind : (i : ℕ) (d : Row) → length rows ≤ i → i < lists → get_or (rows_of lists rows) i d ≡ row.Unknown
  row_behind i d behind inside =
      get_or-append_right rows (replicate (lists - length rows) row.Unknown) (length rows) i d refl behind
      ∙ get_or-replicate (lists - length rows) (i - length rows) row.Unknown d (omega (arith, behind, inside))

  -- making more of them changes nothing
  pub rows_more : (count : ℕ) → length rows ≤ count → count ≤ lists → rows_of lists (rows_of count rows) ≡ rows_of lists rows
  rows_more count most le =
      let n = length rows in
      let long = length-append rows (replicate (count - n) row.Unknown) in
      let rest = length-replicate (count - n) row.Unknown in
      let left : (count - n) + (lists - length (rows_of count rows)) ≡ lists - n = omega (arith, long, rest, most, le) in
      append_assoc rows (replicate (count - n) row.Unknown) (replicate (lists - length (rows_of count rows)) row.Unknown)
      ∙ ap (λ (rs : List Row). rows ++ rs) (replicate-append-replicate (count - n) (lists - length (rows_of count rows)) row.Unknown)
      ∙ ap (λ (k : ℕ). rows ++ replicate k row.Unknown) left

  -- one that is there is written
  pub rows_set : (i : ℕ) (r : Row) → i < length rows → rows_of lists (slice_set rows i r) ≡ slice_set (rows_of lists rows) i r
  rows_set i r inside =
      let same = length-set rows i r in
      ap (λ (n : ℕ). slice_set rows i r ++ replicate (lists - n) row.Unknown) same
      ∙ sym (set-append_left rows (replicate (lists - length rows) row.Unknown) i r inside)

  -- one of a list that isn't there already says nothing
  pub row_blank : (i : ℕ) → length rows ≤ i → i < lists → slice_set (rows_of lists rows) i row.Unknown ≡ rows_of lists rows
  row_blank i behind inside =
      ap (slice_set (rows_of lists rows) i) (sym (row_behind i row.Unknown behind inside)) ∙ set-get_or (rows_of lists rows) i row.Unknown

-- rows that aren't there all say nothing
pub no_rows : (lists : ℕ) (rows : List Row) → rows ≡ [] → rows_of lists rows ≡ replicate lists row.Unknown
no_rows lists rows none = ap (rows_of lists) none ∙ ap (λ (n : ℕ). replicate n row.Unknown) (omega arith)

-- rows that say nothing are in any pool
pub blank_in : (pool : List ℕ) (rows : List Row) (lists : ℕ) → rows ≡ replicate lists row.Unknown → All (IsRowIn pool) rows
blank_in pool rows lists is k d h =
    let size = ap length is in
    let count = length-replicate lists row.Unknown in
    subst (IsRowIn pool) (sym (ap (λ (rs : List Row). get_or rs k d) is ∙ get_or-replicate lists k row.Unknown d (omega (arith, h, size, count)))) tt

-- a list of which something may be known is one of so many
pub list_inside : (pool : List ℕ) (rows : List Row) (lists room list : ℕ) (v : StoreValue) → view_of pool (rows_of lists rows) room ≡ v → length rows ≤ lists → list < length v.known → list < lists
list_inside pool rows lists room list v is most inside =
    let long = length-map (rows_of lists rows) (known_by pool) in
    let size = ap (λ (v : StoreValue). length v.known) is in
    let all = rows_length lists rows most in
    omega (arith, inside, long, size, all)

-- where the runs of a row that is there stand
pub runs_there : (pool : List ℕ) (lists : ℕ) (rows : List Row) (list : ℕ) (r : Row) (base start count : ℕ) → All (IsRowIn pool) (rows_of lists rows) → list < length rows → r ≡ get_or rows list r
    → r ≡ row.Runs base start count → (start + count ≤ length pool) × IsBrief (runs_in pool start count)
runs_there pool lists rows list r base start count all inside same is =
    let long = length-append rows (replicate (lists - length rows) row.Unknown) in
    let at : get_or (rows_of lists rows) list r ≡ row.Runs base start count = row_there lists rows list r inside ∙ sym same ∙ is in
    subst (IsRowIn pool) at (all list r (omega (arith, inside, long)))
