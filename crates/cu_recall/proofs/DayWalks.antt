-- What unpacked walks take repeats by whole days.
use Rattle.std.proofs.Common.{◌≢◌, ◌+◌, ◌*◌, ◌/◌, ◌%◌, ◌∙◌, ℕ, List, ap, subst, arith, length}
use Rattle.std.proofs.lemmas.Nat.{div-add-mod'}
use Rattle.cu_model.specs.Days.{day}
use Rattle.cu_model.specs.Roads.{drive}
use Rattle.cu_interval.specs.Hierarchies.{HierarchyValue, IsHierarchy}
use Rattle.cu_interval.proofs.DayWalks.{drive_days, walk_days}
use Rattle.cu_recall.specs.Spans.{WalkTakes}

module _ (h : HierarchyValue) (f : IsHierarchy h) where
  -- a walk takes as long over as many roads a day later
  pub takes_days : (u v k t travel roads : ℕ) → u ≢ v → WalkTakes h u v t travel roads → WalkTakes h u v (k * day + t) travel roads
  takes_days u v k t travel roads apart (some, long, arrives) =
      let same = walk_days h f u v k t in
      let later = drive_days h f u v k t t apart some in (
        some,
        ap length same ∙ long,
        ap (λ (w : List ℕ). drive h.network w (k * day + t)) same ∙ later ∙ omega (arith, arrives),
      )

  -- what it takes at a second of the day it takes at each second that is so many days later
  pub takes_on : (u v t travel roads : ℕ) → u ≢ v → WalkTakes h u v (t % day) travel roads → WalkTakes h u v t travel roads
  takes_on u v t travel roads apart takes =
      subst (λ (n : ℕ). WalkTakes h u v n travel roads) (div-add-mod' t day) (takes_days u v (t / day) (t % day) travel roads apart takes)
