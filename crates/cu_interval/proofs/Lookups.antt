-- Look-ups in a hierarchy: what is found by the ends of an edge is what stands at its number.
use Rattle.std.proofs.Common.{◌≡◌, ◌+◌, ◌∙◌, ◌%◌, ℕ, zero, suc, Bool, List, [], ◌∷◌, Option, Some, None, refl, ap, subst, arith, inl, inr, ◌⊎◌, true, false, leb, ltb, if◌then◌else◌, ◌&&◌, eqb}
use Rattle.std.specs.Prelude.{All, slice_get}
use Rattle.std.proofs.lemmas.Bool.{cases_eq, cases_lt}
use Rattle.cu_model.proofs.RoadLaws.{all_at}
use Rattle.std.specs.Option.{option_map}
use Rattle.std.proofs.Math.Bool.{and-false}
use Rattle.cu_model.specs.Begun.{later_of}
use Rattle.cu_model.specs.Days.{day}
use Rattle.cu_model.proofs.OptionLaws.{some_cases}
use Rattle.cu_chordal.specs.declared.graph.Ends.{Ends}
use Rattle.cu_chordal.specs.Graphs.{ComesBefore, FindsEdge, IsRising}
use Rattle.cu_chordal.proofs.Members.{member_at, pairs_head, pairs_tail}
use Rattle.cu_chordal.proofs.Tables.{same_ends}
use Rattle.cu_interval.specs.declared.ways.Dir.{Dir}
use Rattle.cu_interval.specs.declared.ways.Dir.TheVariants.{Up, Down}
use Rattle.cu_interval.specs.declared.ways.Way.{Way}
use Rattle.cu_interval.specs.declared.ways.Way.TheVariants.{Via}
use Rattle.cu_interval.specs.declared.ways.Entry.{Entry}
use Rattle.cu_interval.specs.WayLists.{entry_in, way_in, way_at}
use Rattle.cu_interval.specs.Hierarchies.{HierarchyValue, IsHierarchy, IsWellFormed, start_of, end_of, number_from, list_of, list_of_some, list_from, way_from}
use Rattle.cu_interval.proofs.EndsLaws.{ends_rise}
use Rattle.cu_interval.proofs.Fuel.{MiddlesFall}

-- a number that is found is that of an edge with these ends
abbrev pub Finds : ℕ → List Ends → ℕ → ℕ → ℕ → Type 0
Finds n edges low high k = (j : ℕ) × (k ≡ n + j) × (slice_get edges j ≡ Some (record { low = low; high = high }))

found_later : (n : ℕ) (x : Ends) (xs : List Ends) (low high k : ℕ) → number_from n (x ∷ xs) low high ≡ Some k
    → (number_from (suc n) xs low high ≡ Some k → Finds (suc n) xs low high k)
    → (eqb x.low low && eqb x.high high) ≡ false → Finds n (x ∷ xs) low high k
found_later n x xs low high k e more misses =
    let rest : number_from (suc n) xs low high ≡ Some k = subst (λ (b : Bool). (if b then Some n else number_from (suc n) xs low high) ≡ Some k) misses e in
    let (j, is, at) = more rest in
    (suc j, omega (arith, is), at)

pub number_found : (n : ℕ) (edges : List Ends) (low high k : ℕ) → number_from n edges low high ≡ Some k → Finds n edges low high k
number_found n [] low high k e = absurd (cc e)
number_found n (x ∷ xs) low high k e =
    let later = found_later n x xs low high k e (number_found (suc n) xs low high k) in
    elim (cases_eq x.low low) [
      | inl a ↦ elim (cases_eq x.high high) [
        | inl b ↦
            let first : eqb x.low low ≡ true = grind (arith, a) in
            let second : eqb x.high high ≡ true = grind (arith, b) in
            let here : number_from n (x ∷ xs) low high ≡ Some n = rw (first, second) refl in
            let is : k ≡ n = cc (here, e) in
            let same : x ≡ record { low = low; high = high } = same_ends x low high a b in
            (0, omega (arith, is), ap Some same)
        | inr b ↦ later (let second : eqb x.high high ≡ false = grind (arith, b) in rw second (and-false (eqb x.low low)))
      ]
      | inr a ↦ later (let first : eqb x.low low ≡ false = grind (arith, a) in rw first refl)
    ]

-- an entry in force is one of the list's
pub entry_held : (P : Entry → Type 0) (es : List Entry) (s : ℕ) (entry : Entry) → All P es → entry_in es s ≡ Some entry → P entry
entry_held P [] s entry all e = absurd (cc e)
entry_held P (x ∷ xs) s entry all e =
    elim (one_of (if leb x.from s then Some x else None) (entry_in xs s) entry e) [
      | inl here ↦ subst P (begun (leb x.from s) here) (all 0 x (omega arith))
      | inr later ↦ entry_held P xs s entry (λ k d h. all (suc k) d (omega (arith, h))) later
    ]
  where
    one_of : (first second : Option Entry) (w : Entry) → later_of first second ≡ Some w → (first ≡ Some w) ⊎ (second ≡ Some w)
    one_of first None w e = inl e
    one_of first (Some y) w e = inr e

    begun : (b : Bool) → (if b then Some x else None) ≡ Some entry → x ≡ entry
    begun true f = cc f
    begun false f = absurd (cc f)

-- a way in force is that of an entry
pub entry_of_way : (o : Option Entry) (way : Way) → option_map (λ (entry : Entry). entry.way) o ≡ Some way → (e : Entry) × (o ≡ Some e) × (e.way ≡ way)
entry_of_way None way e = absurd (cc e)
entry_of_way (Some x) way e = (x, refl, cc e)

-- a way in force is one of the list's
pub way_held : (P : Way → Type 0) (es : List Entry) (s : ℕ) (way : Way) → All (λ (e : Entry). P e.way) es → way_in es s ≡ Some way → P way
way_held P es s way all e =
    let (entry, is, same) = entry_of_way (entry_in es s) way e in
    subst P same (entry_held (λ (x : Entry). P x.way) es s entry all is)

-- a fact of the list of each edge is one of every list that is found, with its ends
of_some : (h : HierarchyValue) (P : Way → Type 0) (u v : ℕ) (dir : Dir) (o : Option ℕ) (t : ℕ) (way : Way)
    → ((edge : ℕ) → o ≡ Some edge → All (λ (e : Entry). P e.way) (list_of h edge dir))
    → way_at (list_of_some h o dir) t ≡ Some way → P way
of_some h P u v dir None t way all e = absurd (cc e)
of_some h P u v dir (Some edge) t way all e = way_held P (list_of h edge dir) (t % day) way (all edge refl) e

-- every way in force in a hierarchy is well formed
pub well_formed : (h : HierarchyValue) → IsHierarchy h → (u v t : ℕ) (way : Way) → way_from h u v t ≡ Some way → IsWellFormed h u v way
well_formed h f u v t way e =
    elim (cases_lt u v) [
      | inl lt ↦
          let up : ltb u v ≡ true = grind (arith, lt) in
          let at : way_at (list_of_some h (number_from 0 h.edges u v) Up) t ≡ Some way =
          subst (λ (b : Bool). way_at (if b then list_of_some h (number_from 0 h.edges u v) Up else list_of_some h (number_from 0 h.edges v u) Down) t
          ≡ Some way) up e in
          of_some h (IsWellFormed h u v) u v Up (number_from 0 h.edges u v) t way (λ edge g.
          let (j, is, there) = number_found 0 h.edges u v edge g in
          let same : j ≡ edge = omega (arith, is) in
          f.formed edge Up (record { low = u; high = v }) (subst (λ (n : ℕ). slice_get h.edges n ≡ Some (record { low = u; high = v })) same there)) at
      | inr ge ↦
          let down : ltb u v ≡ false = grind (arith, ge) in
          let at : way_at (list_of_some h (number_from 0 h.edges v u) Down) t ≡ Some way =
          subst (λ (b : Bool). way_at (if b then list_of_some h (number_from 0 h.edges u v) Up else list_of_some h (number_from 0 h.edges v u) Down) t
          ≡ Some way) down e in
          of_some h (IsWellFormed h u v) u v Down (number_from 0 h.edges v u) t way (λ edge g.
          let (j, is, there) = number_found 0 h.edges v u edge g in
          let same : j ≡ edge = omega (arith, is) in
          f.formed edge Down (record { low = v; high = u }) (subst (λ (n : ℕ). slice_get h.edges n ≡ Some (record { low = v; high = u })) same there)) at
    ]

-- every middle in force in a hierarchy is below both ends
pub middles_fall : (h : HierarchyValue) → IsHierarchy h → MiddlesFall h
middles_fall h f u v t m e = let w = well_formed h f u v t (Via m) e in (w.0, w.1)

not_here : (x : Ends) (low high : ℕ) → ComesBefore x (record { low = low; high = high }) → (eqb x.low low && eqb x.high high) ≡ false
not_here x low high (inl lt) = let first : eqb x.low low ≡ false = grind (arith, lt) in rw first refl
not_here x low high (inr k) = let lt = k.1 in let second : eqb x.high high ≡ false = grind (arith, lt) in rw second (and-false (eqb x.low low))

-- where edges rise, the edge with a number is found by its ends
pub number_at : (n : ℕ) (edges : List Ends) (j low high : ℕ) → IsRising edges → slice_get edges j ≡ Some (record { low = low; high = high }) → number_from n edges low high ≡ Some (n + j)
number_at n [] j low high f e = absurd (cc e)
number_at n (x ∷ xs) zero low high f e =
    let same : x ≡ record { low = low; high = high } = cc e in
    let first : eqb x.low low ≡ true = let p = ap (λ (y : Ends). y.low) same in grind (arith, p) in
    let second : eqb x.high high ≡ true = let p = ap (λ (y : Ends). y.high) same in grind (arith, p) in
    let sum : n ≡ n + 0 = omega arith in
    rw (first, second) (ap Some sum)
number_at n (x ∷ xs) (suc j) low high f e =
    let before = all_at (ComesBefore x) xs j (record { low = low; high = high }) (pairs_head ComesBefore x xs f) e in
    let rest : number_from (suc n) xs low high ≡ Some (suc n + j) = number_at (suc n) xs j low high (pairs_tail ComesBefore x xs f) e in
    let sum : suc n + j ≡ n + suc j = omega arith in
    rw (not_here x low high before) (rest ∙ ap Some sum)

-- so two edges with the same ends have one number
pub one_number : (edges : List Ends) → IsRising edges → (e f low high : ℕ) → slice_get edges e ≡ Some (record { low = low; high = high })
    → slice_get edges f ≡ Some (record { low = low; high = high }) → e ≡ f
one_number edges rising e f low high p q =
    let sums : 0 + e ≡ 0 + f = cc (number_at 0 edges e low high rising p, number_at 0 edges f low high rising q) in
    omega (arith, sums)

-- what a look-up by the ends answers is the number that is found
pub number_finds : (edges : List Ends) → IsRising edges → (low high : ℕ) (o : Option ℕ) → FindsEdge edges low high o → number_from 0 edges low high ≡ o
number_finds edges f low high None none =
    elim (some_cases (number_from 0 edges low high)) [
      | inl e ↦ e
      | inr k ↦ let (j, is, at) = number_found 0 edges low high k.0 k.1 in absurd (none (member_at edges (record { low = low; high = high }) j at))
    ]
number_finds edges f low high (Some k) at =
    let sum : 0 + k ≡ k = omega arith in
    number_at 0 edges k low high f at ∙ ap Some sum

module _ (h : HierarchyValue) (f : IsHierarchy h) where
  -- the list that leads from one end of an edge to the other is the edge's
  pub list_from-edge : (edge : ℕ) (dir : Dir) (ends : Ends) → slice_get h.edges edge ≡ Some ends → list_from h (start_of ends dir) (end_of ends dir) ≡ list_of h edge dir
  list_from-edge edge Up ends e =
      let lt : ltb ends.low ends.high ≡ true = let p = ends_rise h f edge ends e in grind (arith, p) in
      let at : number_from 0 h.edges ends.low ends.high ≡ Some edge = number_finds h.edges f.graph.rising ends.low ends.high (Some edge) e in
      rw (lt, at) refl
  list_from-edge edge Down ends e =
      let ge : ltb ends.high ends.low ≡ false = let p = ends_rise h f edge ends e in grind (arith, p) in
      let at : number_from 0 h.edges ends.low ends.high ≡ Some edge = number_finds h.edges f.graph.rising ends.low ends.high (Some edge) e in
      rw (ge, at) refl

  list_by : (u v low high : ℕ) (dir : Dir) → start_of (record { low = low; high = high }) dir ≡ u → end_of (record { low = low; high = high }) dir ≡ v → (o : Option ℕ)
      → number_from 0 h.edges low high ≡ o → All (λ (e : Entry). IsWellFormed h u v e.way) (list_of_some h o dir)
  list_by u v low high dir su sv None e = λ k d lt. absurd (omega (arith, lt))
  list_by u v low high dir su sv (Some edge) e =
      let (j, is, there) = number_found 0 h.edges low high edge e in
      let same : j ≡ edge = omega (arith, is) in
      let at : slice_get h.edges edge ≡ Some (record { low = low; high = high }) = subst (λ (n : ℕ). slice_get h.edges n ≡ Some (record { low = low; high = high })) same there in
      let formed = f.formed edge dir (record { low = low; high = high }) at in
      subst (λ (x : ℕ). All (λ (e : Entry). IsWellFormed h x v e.way) (list_of h edge dir)) su
      (subst (λ (y : ℕ). All (λ (e : Entry). IsWellFormed h (start_of (record { low = low; high = high }) dir) y e.way) (list_of h edge dir)) sv formed)

  -- every way in a list of a hierarchy is well formed
  pub list_formed : (u v : ℕ) → All (λ (e : Entry). IsWellFormed h u v e.way) (list_from h u v)
  list_formed u v =
      elim (cases_lt u v) [
        | inl lt ↦
            let up : ltb u v ≡ true = grind (arith, lt) in
            rw up (list_by u v u v Up refl refl (number_from 0 h.edges u v) refl)
        | inr ge ↦
            let down : ltb u v ≡ false = grind (arith, ge) in
            rw down (list_by u v v u Down refl refl (number_from 0 h.edges v u) refl)
      ]
