-- What is still to go from a rank is made less.
use Rattle.std.proofs.Common.{◌≡◌, ◌≢◌, ◌≤◌, ◌<◌, ℕ, List, sym, subst, arith, inl, inr, length, get_or-set_same, get_or-set_other}
use Rattle.std.specs.Prelude.{slice_set}
use Rattle.std.proofs.lemmas.Bool.{cases_eq}
use Rattle.std.proofs.lemmas.List.Elements.{All-set}
use Rattle.cu_interval.specs.LeastBounds.{far}
use Rattle.cu_sweep.specs.Outlooks.{IsNear, ahead_at}

module _ (ahead : List ℕ) (rank : ℕ) (least : ℕ) (le : least ≤ ahead_at ahead rank) (within : rank < length ahead) where
  pub lowered_here : ahead_at (slice_set ahead rank least) rank ≡ least
  lowered_here = get_or-set_same ahead rank least 0 within

  pub lowered_other : (other : ℕ) → other ≢ rank → ahead_at (slice_set ahead rank least) other ≡ ahead_at ahead other
  lowered_other other ne = get_or-set_other ahead rank other least 0 ne

  pub lowered_less : (other : ℕ) → ahead_at (slice_set ahead rank least) other ≤ ahead_at ahead other
  lowered_less other =
      elim (cases_eq other rank) [
        | inl same ↦
            let here = lowered_here in
            subst (λ (r : ℕ). ahead_at (slice_set ahead rank least) r ≤ ahead_at ahead r) (sym same) (omega (arith, here, le))
        | inr ne ↦ let e = lowered_other other ne in omega (arith, e)
      ]

  pub lowered_near : IsNear ahead → IsNear (slice_set ahead rank least)
  lowered_near near =
      let here : ahead_at ahead rank ≤ far = near rank 0 within in
      All-set (λ seconds. seconds ≤ far) ahead rank least (omega (arith, le, here)) near
