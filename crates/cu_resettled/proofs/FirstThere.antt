-- Of candidates that are decided and few, and each of which arrives, one is the first that arrives earliest.
use Rattle.std.proofs.Common.{◌≡◌, ◌≤◌, ◌<◌, ◌+◌, ◌-◌, ◌∙◌, ◌⊎◌, ℕ, zero, suc, Option, Some, None, refl, sym, ap, subst, arith, inl, inr, ltb, true, false, if◌then◌else◌}
use Rattle.std.proofs.lemmas.Bool.{cases_eq, cases_lt}
use Rattle.cu_chordal.proofs.Decided.{Decided}
use Rattle.cu_interval.specs.declared.ways.Way.{Way}
use Rattle.cu_interval.specs.declared.ways.Way.TheVariants.{Road, Via}
use Rattle.cu_interval.specs.WayLists.{GoesFirst, IsFirstEarliest}

-- a candidate among the first numbers of which none has a lesser value, nor one before it the same
record IsBest (C : ℕ → Type 0) (value : ℕ → ℕ) (n k : ℕ) : Type 0 where
  within : k < n
  candidate : C k
  least : (j : ℕ) → j < n → C j → (value k < value j) ⊎ ((value k ≡ value j) × (k ≤ j))

module _ (C : ℕ → Type 0) (value : ℕ → ℕ) (n : ℕ) where
  -- the next number is better
  best_next : (k : ℕ) → IsBest C value n k → C n → value n < value k → IsBest C value (suc n) n
  best_next k best here less = record {
    within = omega arith;
    candidate = here;
    least = λ j lt c.
        elim (cases_eq j n) [
          | inl same ↦ inr (ap value (sym same), omega (arith, same))
          | inr other ↦ elim (best.least j (omega (arith, lt, other)) c) [
            | inl more ↦ inl (omega (arith, less, more))
            | inr tie ↦ let e = tie.0 in inl (omega (arith, less, e))
          ]
        ];
  }

  -- or no better
  best_stays : (k : ℕ) → IsBest C value n k → (C n → value k ≤ value n) → IsBest C value (suc n) k
  best_stays k best more =
      let within = best.within in record {
        within = omega (arith, within);
        candidate = best.candidate;
        least = λ j lt c.
            elim (cases_eq j n) [
              | inl same ↦
                  let le = more (subst C same c) in
                  let is : value j ≡ value n = ap value same in
                  elim (cases_lt (value k) (value j)) [
                    | inl less ↦ inl less
                    | inr least ↦ inr (omega (arith, le, is, least), omega (arith, within, same))
                  ]
              | inr other ↦ best.least j (omega (arith, lt, other)) c
            ];
      }

  best_alone : ((k : ℕ) → k < n → C k → ⊥) → C n → IsBest C value (suc n) n
  best_alone none here = record {
    within = omega arith;
    candidate = here;
    least = λ j lt c.
        elim (cases_eq j n) [
          | inl same ↦ inr (ap value (sym same), omega (arith, same))
          | inr other ↦ absurd (none j (omega (arith, lt, other)) c)
        ];
  }

best_below : (C : ℕ → Type 0) (value : ℕ → ℕ) → ((k : ℕ) → Decided (C k)) → (n : ℕ) → ((k : ℕ) × IsBest C value n k) ⊎ ((k : ℕ) → k < n → C k → ⊥)
best_below C value decided zero = inr (λ k lt c. omega (arith, lt))
best_below C value decided (suc n) =
    elim (best_below C value decided n) [
      | inl found ↦ elim (decided n) [
        | inl here ↦ elim (cases_lt (value n) (value found.0)) [
          | inl less ↦ inl (n, best_next C value n found.0 found.1 here less)
          | inr least ↦ inl (found.0, best_stays C value n found.0 found.1 (λ c. least))
        ]
        | inr off ↦ inl (found.0, best_stays C value n found.0 found.1 (λ c. absurd (off c)))
      ]
      | inr none ↦ elim (decided n) [
        | inl here ↦ inl (n, best_alone C value n none here)
        | inr off ↦ inr (λ k lt c. elim (cases_eq k n) [
          | inl same ↦ off (subst C same c)
          | inr other ↦ none k (omega (arith, lt, other)) c
        ])
      ]
    ]

-- the ways by number: so many roads, then the middles
abbrev numbered : ℕ → ℕ → Way
numbered roads k = if ltb k roads then Road k else Via (k - roads)

numbered_road : (roads k : ℕ) → k < roads → numbered roads k ≡ Road k
numbered_road roads k lt =
    let is : ltb k roads ≡ true = grind (arith, lt) in
    rw is refl

numbered_via : (roads k : ℕ) → roads ≤ k → numbered roads k ≡ Via (k - roads)
numbered_via roads k le =
    let is : ltb k roads ≡ false = grind (arith, le) in
    rw is refl

-- they go first by their numbers
numbers_first : (roads i j : ℕ) → i < j → GoesFirst (numbered roads i) (numbered roads j)
numbers_first roads i j lt =
    elim (cases_lt j roads) [
      | inl less ↦
          subst (GoesFirst (numbered roads i)) (sym (numbered_road roads j less))
          (subst (λ (w : Way). GoesFirst w (Road j)) (sym (numbered_road roads i (omega (arith, lt, less)))) lt)
      | inr most ↦ subst (GoesFirst (numbered roads i)) (sym (numbered_via roads j most)) (elim (cases_lt i roads) [
        | inl less ↦ subst (λ (w : Way). GoesFirst w (Via (j - roads))) (sym (numbered_road roads i less)) tt
        | inr over ↦ subst (λ (w : Way). GoesFirst w (Via (j - roads))) (sym (numbered_via roads i over)) (sure roads i j lt over)
      ])
    ]
  where
    sure : (roads i j : ℕ) → i < j → roads ≤ i → i - roads < j - roads
    sure roads i j lt over = omega (arith, lt, over)

abbrev number_in : Option ℕ → ℕ
number_in None = 0
number_in (Some a) = a

module _ (C : Way → Type 0) (decided : (way : Way) → Decided (C way)) (roads middles : ℕ) (few_roads : (a : ℕ) → C (Road a) → a < roads)
    (few_middles : (m : ℕ) → C (Via m) → m < middles) where
  number_of : (way : Way) → C way → (k : ℕ) × (k < roads + middles) × (numbered roads k ≡ way)
  number_of (Road a) c = let lt = few_roads a c in (a, omega (arith, lt), numbered_road roads a lt)
  number_of (Via m) c =
      let lt = few_middles m c in
      let back : (roads + m) - roads ≡ m = omega arith in
      (roads + m, omega (arith, lt), numbered_via roads (roads + m) (omega arith) ∙ ap (λ (k : ℕ). Via k) back)

  -- whether there is a candidate
  pub any_there : ((way : Way) × C way) ⊎ ((way : Way) → C way → ⊥)
  any_there =
      elim (best_below (λ k. C (numbered roads k)) (λ k. 0) (λ k. decided (numbered roads k)) (roads + middles)) [
        | inl found ↦ inl (numbered roads found.0, found.1.candidate)
        | inr none ↦ inr (λ way c. let (k, lt, is) = number_of way c in none k lt (subst C (sym is) c))
      ]

  module _ (value : Way → Option ℕ) (arrives : (way : Way) → C way → (a : ℕ) × (value way ≡ Some a)) where
    first_by : (k : ℕ) → IsBest (λ k. C (numbered roads k)) (λ k. number_in (value (numbered roads k))) (roads + middles) k
        → IsFirstEarliest C (λ way a. value way ≡ Some a) (numbered roads k)
    first_by k best =
        let (a, is) = arrives (numbered roads k) best.candidate in
        record {
          candidate = best.candidate;
          arrival = a;
          arrives = is;
          first = λ other later d e. no_earlier k best a is other later d e;
        }
      where
        no_earlier : (k : ℕ) → IsBest (λ k. C (numbered roads k)) (λ k. number_in (value (numbered roads k))) (roads + middles) k
            → (a : ℕ) → value (numbered roads k) ≡ Some a → (other : Way) (later : ℕ) → C other → value other ≡ Some later
            → (a < later) ⊎ ((a ≡ later) × ((numbered roads k ≡ other) ⊎ GoesFirst (numbered roads k) other))
        no_earlier k best a is other later d e =
            let (j, lt, same) = number_of other d in
            let one : number_in (value (numbered roads k)) ≡ a = ap number_in is in
            let two : number_in (value (numbered roads j)) ≡ later = ap (λ (w : Way). number_in (value w)) same ∙ ap number_in e in
            elim (best.least j lt (subst C (sym same) d)) [
              | inl less ↦ inl (omega (arith, less, one, two))
              | inr tie ↦
                  let equal = tie.0 in
                  let le = tie.1 in
                  inr (
                    omega (arith, equal, one, two),
                    elim (cases_eq k j) [
                      | inl alike ↦ inl (ap (numbered roads) alike ∙ same)
                      | inr apart ↦ inr (subst (GoesFirst (numbered roads k)) same (numbers_first roads k j (omega (arith, le, apart))))
                    ],
                  )
            ]

    -- where there is a candidate, one is first
    pub first_there : (way : Way) → C way → (first : Way) × IsFirstEarliest C (λ way a. value way ≡ Some a) first
    first_there way c =
        elim (best_below (λ k. C (numbered roads k)) (λ k. number_in (value (numbered roads k))) (λ k. decided (numbered roads k)) (roads + middles)) [
          | inl found ↦ (numbered roads found.0, first_by found.0 found.1)
          | inr none ↦ let (k, lt, is) = number_of way c in absurd (none k lt (subst C (sym is) c))
        ]
