use Rattle.std.proofs.Common.{◌≡◌, ◌≤◌, ◌<◌, ◌+◌, ◌-◌, inl, inr, ℕ, List, leb, true, false, sym, subst, ap, ◌∙◌, arith, map, length}
use Rattle.std.specs.Prelude.{slice_get}
use Rattle.std.proofs.lemmas.Bool.{leb-false}
use Rattle.std.proofs.lemmas.Option.{slice_get-map, slice_get_cases}
use Rattle.cu_model.specs.Days.{day}
use Rattle.cu_arrival.specs.Steps.Stretches.{until_next}
use Rattle.std.specs.List.Sorted.{IsNonDecreasingBy, IsPartitionPoint}
use Rattle.cu_model.proofs.Begun.{IsLastBegun, in_order, begun_point}
use Rattle.cu_arrival.specs.declared.packing.KeptRun.{KeptRun}
use Rattle.cu_arrival.specs.declared.runs.Run.{Run}
use Rattle.cu_arrival.specs.Runs.{IsArrivalFunction}
use Rattle.cu_arrival.specs.Steps.Packing.{unpacked}
use Rattle.cu_arrival.proofs.Mapped.{starts-map, Rises-unmap, last_index-map}
use Rattle.cu_arrival.proofs.packing.RunList.index_begun.Goals as goal

-- the search among the runs as they are kept finds one past the last that has begun
kept_begun : (runs : List Run) (packed : List KeptRun) (s n : ℕ) → map unpacked packed ≡ runs → IsArrivalFunction runs → n ≤ length packed
    → IsPartitionPoint (λ (kept : KeptRun). leb kept.from s ≡ true) (λ (kept : KeptRun). leb kept.from s ≡ false) packed n
    → (0 < n) × IsLastBegun (λ (run : Run). run.from) runs s (n - 1)
kept_begun runs packed s n same f le point =
    let starts = sym (starts-map unpacked (λ (run : Run). run.from) packed) ∙ (subst IsArrivalFunction (sym same) f).starts in
    let found = begun_point (λ (kept : KeptRun). kept.from) packed s n starts point le in
    let last = last_index-map unpacked (λ (run : Run). run.from) packed s (n - 1) found.1 in
    (found.0, subst (λ (xs : List Run). IsLastBegun (λ (run : Run). run.from) xs s (n - 1)) same last)

kept_rise : (runs : List Run) (packed : List KeptRun) → map unpacked packed ≡ runs → IsArrivalFunction runs
    → IsNonDecreasingBy (λ (kept : KeptRun). kept.from) packed
kept_rise runs packed same f =
    let rises = Rises-unmap unpacked (λ (run : Run). run.from) packed (subst IsArrivalFunction (sym same) f).rises in
    in_order (λ (kept : KeptRun). kept.from) packed rises

kept_next : (runs : List Run) (packed : List KeptRun) (s n : ℕ) → map unpacked packed ≡ runs → s < day
    → IsPartitionPoint (λ (kept : KeptRun). leb kept.from s ≡ true) (λ (kept : KeptRun). leb kept.from s ≡ false) packed n
    → s < until_next (slice_get runs n)
kept_next runs packed s n same in_day point =
    let next : s < until_next (slice_get (map unpacked packed) n) = elim (slice_get_cases packed n).1 [
      | inl found ↦
          let (kept, inside, there, is) = found in
          let late : leb kept.from s ≡ false = subst (λ (x : KeptRun). leb x.from s ≡ false) is (point.1 n kept (omega arith) inside) in
          let after : s < kept.from = leb-false kept.from s late in
          rw (slice_get-map unpacked packed n, there) after
      | inr past ↦ rw (slice_get-map unpacked packed n, past.1) in_day
    ] in
    subst (λ (xs : List Run). s < until_next (slice_get xs n)) same next

pub begun-requires : goal.begun-requires
begun-requires c =
    let same = ap (map unpacked) c.deref.ensures.value ∙ c.self.view_is in
    kept_rise c.args.self.now c.deref.result.now same c.requires.valid

pub overflow_sub-result : goal.overflow_sub-result
overflow_sub-result c =
    let same = ap (map unpacked) c.deref.ensures.value ∙ c.self.view_is in
    let found = kept_begun c.args.self.now c.deref.result.now c.args.time c.begun.result same c.requires.valid c.begun.ensures.bound c.begun.ensures.point in
    omega (arith, found.0)

pub returns : goal.returns
returns c =
    let same = ap (map unpacked) c.deref.ensures.value ∙ c.self.view_is in
    let found = (kept_begun c.args.self.now c.deref.result.now c.args.time c.begun.result same c.requires.valid c.begun.ensures.bound c.begun.ensures.point).1 in
    let positive = (kept_begun c.args.self.now c.deref.result.now c.args.time c.begun.result same c.requires.valid c.begun.ensures.bound c.begun.ensures.point).0 in
    let index : c.begun.result ≡ c.begun.result - 1 + 1 = omega (arith, positive) in
    let next = kept_next c.args.self.now c.deref.result.now c.args.time c.begun.result same c.requires.time c.begun.ensures.point in
    record {
      within = found.within;
      last = found.last;
      begun = found.begun;
      next = subst (λ (n : ℕ). c.args.time < until_next (slice_get c.args.self.now n)) index next;
    }
