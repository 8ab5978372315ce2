use Rattle.std.proofs.Common.{arith, subst, sym, get_or, leb, false, ℕ, ◌≡◌, ◌<◌, ◌+◌, ◌-◌}
use Rattle.std.proofs.lemmas.Bool.Decides.{nat_tests}
use Rattle.std.proofs.lemmas.Option.{get_or_from_slice_get, slice_get_within}
use Rattle.std.specs.Prelude.{slice_get, Some}
use Rattle.cu_arrival.specs.declared.runs.Run.{Run}
use Rattle.cu_model.specs.Days.{day}
use Rattle.cu_model.proofs.Begun.{in_order, begun_point}
use Rattle.cu_runs.proofs.DayLists.{has_next}
use Rattle.cu_runs.proofs.packed_runs.index_at.Goals as goal

pub begun-requires : goal.begun-requires
begun-requires c = in_order (λ (run : Run). run.from) c.args.packed.now c.requires.day.rises

pub overflow_sub-result : goal.overflow_sub-result
overflow_sub-result c =
    let found = begun_point (λ (run : Run). run.from) c.args.packed.now c.args.second c.begun.result c.requires.day.starts c.begun.ensures.point c.begun.ensures.bound in
    omega (arith, found.0)

not_begun : (a b : ℕ) → leb a b ≡ false → b < a
not_begun a b h = grind (arith, nat_tests)

pub returns : goal.returns
returns c =
    let packed = c.args.packed.now in
    let both = begun_point (λ (run : Run). run.from) packed c.args.second c.begun.result c.requires.day.starts c.begun.ensures.point c.begun.ensures.bound in
    let found = both.1 in
    let (run, there, begun) = found.begun in
    let same = get_or_from_slice_get packed (c.begun.result - 1) run run there in
    let early : (get_or packed (c.begun.result - 1) run).from < day = subst (λ (r : Run). r.from < day) (sym same) (omega (arith, begun, c.requires.second)) in
    let next_index : c.begun.result - 1 + 1 ≡ c.begun.result = omega (arith, both.0) in
    record {
      within = has_next packed c.requires.day (c.begun.result - 1) run found.within early;
      last = found.last;
      begun = found.begun;
      lasts = λ next after.
          let here : slice_get packed c.begun.result ≡ Some next = subst (λ (k : ℕ). slice_get packed k ≡ Some next) next_index after in
          let is_next = get_or_from_slice_get packed c.begun.result next next here in
          not_begun next.from c.args.second (subst (λ (r : Run). leb r.from c.args.second ≡ false) is_next
          (c.begun.ensures.point.1 c.begun.result next (omega arith) (slice_get_within packed c.begun.result next here)));
    }
