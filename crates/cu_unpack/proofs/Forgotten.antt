-- Functions by list number, as lists are forgotten.
use Rattle.std.proofs.Common.{◌≡◌, ◌≢◌, ◌<◌, ◌⊎◌, ◌∙◌, ℕ, Bool, List, false, true, None, refl, sym, subst, arith, inl, inr, length}
use Rattle.std.specs.Prelude.{slice_set}
use Rattle.std.proofs.lemmas.Bool.{cases_eq}
use Rattle.std.proofs.lemmas.List.{length-set}
use Rattle.cu_model.proofs.ListLaws.{get_here, get_other}
use Rattle.cu_unpack.specs.RebuiltRuns.{AreSpared, IsForgotten, IsSameList, PackedValue, with_list}

-- nothing is forgotten
pub spared_none : (value : PackedValue) → AreSpared value value
spared_none value = record { known = refl; functions = refl; each = λ number. inl (refl, refl) }

-- first some lists, then others
pub spared_then : (before mid now : PackedValue) → AreSpared before mid → AreSpared mid now → AreSpared before now
spared_then before mid now first then = record {
  known = then.known ∙ first.known;
  functions = then.functions ∙ first.functions;
  each = each;
}
  where
    each : (number : ℕ) → IsSameList before now number ⊎ IsForgotten now number
    each number = elim (then.each number) [
      | inr forgotten ↦ inr forgotten
      | inl same ↦ elim (first.each number) [
        | inl too ↦ inl (same.0 ∙ too.0, same.1 ∙ too.1)
        | inr forgotten ↦ inr (same.0 ∙ forgotten.0, same.1 ∙ forgotten.1)
      ]
    ]

-- one list, which is put in with no function first
module _ (value : PackedValue) (number : ℕ) (known : number < length value.known) (function : number < length value.functions) where
  abbrev put_in : List Bool
  put_in = slice_set value.known number true

  abbrev now : PackedValue
  now = record { known = slice_set put_in number false; functions = slice_set value.functions number None }

  here : IsForgotten now number
  here = let long = length-set value.known number true in (
    get_here put_in number false (omega (arith, long, known)),
    get_here value.functions number None function,
  )

  there : (other : ℕ) → number ≢ other → IsSameList value now other
  there other apart = (
    get_other put_in number other false apart ∙ get_other value.known number other true apart,
    get_other value.functions number other None apart,
  )

  spared_now : AreSpared value now
  spared_now = record {
    known = length-set put_in number false ∙ length-set value.known number true;
    functions = length-set value.functions number None;
    each = λ other. elim (cases_eq number other) [
      | inl same ↦ inr (subst (λ (k : ℕ). IsForgotten now k) same here)
      | inr apart ↦ inl (there other apart)
    ];
  }

  pub spared_one : (mid : PackedValue) → mid ≡ with_list value number None
      → AreSpared value (record { known = slice_set mid.known number false; functions = mid.functions })
  spared_one mid put = subst (λ (v : PackedValue). AreSpared value (record { known = slice_set v.known number false; functions = v.functions })) (sym put) spared_now
