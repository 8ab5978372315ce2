-- Copying runs of the old list.
use Rattle.std.proofs.Common.{◌≡◌, ◌≤◌, ◌<◌, ◌+◌, ℕ, List, Some, refl, sym, ap, subst, arith, get_or, min}
use Rattle.std.specs.Prelude.{slice_get}
use Rattle.std.proofs.lemmas.Option.{get_or_from_slice_get, slice_get_within, slice_get-get_or}
use Rattle.cu_model.specs.Days.{day}
use Rattle.cu_arrival.specs.declared.runs.Run.{Run}
use Rattle.cu_model.proofs.Tiling.{IsTiled}
use Rattle.cu_runs.specs.declared.merging.Least.{Least}
use Rattle.cu_runs.specs.declared.merging.Next.{Next}
use Rattle.cu_runs.specs.PackedRuns.{IsDayList}
use Rattle.cu_runs.specs.Least.{Held, held_from, least_arrival, tie_with}
use Rattle.cu_runs.specs.Steps.Merging.{least_held, next_held, IsHeld, IsMerging, IsBefore, CopiesBehind, SaysMerged, Puts}
use Rattle.cu_runs.proofs.DayLists.{next_from, has_next}
use Rattle.cu_runs.proofs.MergeLaws.{old_at, says_old, tiled_put}

-- what is copied behind the run of an index, up to the run behind that of another or until a second
abbrev pub CopiesTo : Least → ℕ → ℕ → Next → Next → ℕ → Type 0
CopiesTo least first until old new index = (arrival : ℕ → ℕ) (way : ℕ) (next after : Run) → slice_get least.packed.items (first + 1) ≡ Some next → slice_get least.packed.items (index + 1) ≡ Some after
    → ((s : ℕ) → next.from ≤ s → s < until → least_arrival (least_held least) s + tie_with (least_held least) way s ≤ arrival s)
    → IsTiled held_from (SaysMerged least arrival way) (next_held old) (min next.from until)
    → (next.from ≤ after.from) × IsTiled held_from (SaysMerged least arrival way) (next_held new) (min after.from until)

-- the run of the next index is from later
pub next_later : (packed : List Run) (i : ℕ) (run next : Run) → IsDayList packed → slice_get packed i ≡ Some run → slice_get packed (i + 1) ≡ Some next → run.from < next.from
next_later packed i run next is there after =
    let inside = slice_get_within packed (i + 1) next after in
    let order = next_from packed is i run inside in
    let here = ap (λ (r : Run). r.from) (get_or_from_slice_get packed i run run there) in
    let follows = ap (λ (r : Run). r.from) (get_or_from_slice_get packed (i + 1) next run after) in
    omega (arith, order, here, follows)

-- a run from before the end of the day is followed by another
pub next_there : (packed : List Run) (i : ℕ) (run : Run) → IsDayList packed → slice_get packed i ≡ Some run → run.from < day → (next : Run) × (slice_get packed (i + 1) ≡ Some next)
next_there packed i run is there before =
    let inside = slice_get_within packed i run there in
    let here = ap (λ (r : Run). r.from) (get_or_from_slice_get packed i run run there) in
    let more = has_next packed is i run inside (omega (arith, here, before)) in
    (get_or packed (i + 1) run, slice_get-get_or packed (i + 1) run more)

-- one further run is copied
pub copied_more : (l : Least) (first until : ℕ) (old mid new : Next) (index : ℕ) (read : Run) (beside : ℕ) → IsHeld l → CopiesTo l first until old mid index
    → slice_get l.packed.items (index + 1) ≡ Some read → slice_get l.ways.items (index + 1) ≡ Some beside → read.from < until
    → Puts (next_held mid) (read, beside) (next_held new) → CopiesTo l first until old new (index + 1)
copied_more l first until old mid new index read beside is copied there with before puts arrival way next after follows behind later tiled =
    let (order, said) = copied arrival way next read follows there later tiled in
    let rises = next_later l.packed.items (index + 1) read after is.over_day there behind in
    let at_read : IsTiled held_from (SaysMerged l arrival way) (next_held mid) read.from =
    subst (λ (t : ℕ). IsTiled held_from (SaysMerged l arrival way) (next_held mid) t) (omega (arith, before)) said in (
      omega (arith, order, rises),
      tiled_put l arrival way (next_held mid) (next_held new) (read, beside) read.from (min after.from until) at_read puts refl (omega (arith, rises, before))
          (λ s late early.
          let here = old_at l (index + 1) s read after beside is there behind with late (omega (arith, early)) in
          says_old l arrival way s read read beside here (later s (omega (arith, order, late)) (omega (arith, early))) refl),
    )

-- it is before a second, and another follows it
pub read_before : (packed : List Run) (i until : ℕ) (read : Run) → IsDayList packed → slice_get packed i ≡ Some read → read.from < until → until ≤ day → IsBefore packed i until
read_before packed i until read is there before in_day =
    let (next, after) = next_there packed i read is there (omega (arith, before, in_day)) in
    (read, next, there, after, before)

-- nothing is copied yet
pub copied_none : (l : Least) (first until : ℕ) (old : Next) → CopiesTo l first until old old first
copied_none l first until old arrival way next after follows behind later tiled =
    let same : next ≡ after = cc (follows, behind) in
    let froms : next.from ≡ after.from = ap (λ (r : Run). r.from) same in
    (omega (arith, froms), subst (λ (t : ℕ). IsTiled held_from (SaysMerged l arrival way) (next_held old) (min t until)) froms tiled)

-- all is copied
pub copied_all : (l : Least) (first until : ℕ) (old new : Next) (index : ℕ) (read : Run) → CopiesTo l first until old new index → slice_get l.packed.items (index + 1) ≡ Some read
    → until ≤ read.from → CopiesBehind l first until old new
copied_all l first until old new index read copied there late arrival way next follows later tiled =
    let (order, said) = copied arrival way next read follows there later tiled in
    subst (λ (t : ℕ). IsTiled held_from (SaysMerged l arrival way) (next_held new) t) (omega (arith, late)) said

-- the old list's runs from where it is done to a second
pub copied_to : (l : Least) (old mid behind new : Next) (index until : ℕ) (copy read : Run) (beside : ℕ) → IsHeld l → old.done < until
    → ((run : Run) × (slice_get l.packed.items index ≡ Some run) × (run.from ≤ old.done)) → ((next : Run) × (slice_get l.packed.items (index + 1) ≡ Some next) × (old.done < next.from))
    → slice_get l.packed.items index ≡ Some read → slice_get l.ways.items index ≡ Some beside → copy.from ≡ old.done → copy.rule ≡ read.rule
    → Puts (next_held old) (copy, beside) (next_held mid) → CopiesBehind l index until mid behind → new.packed ≡ behind.packed → new.ways ≡ behind.ways → new.done ≡ until
    → (arrival : ℕ → ℕ) (way : ℕ) → IsMerging l arrival way old until → IsMerging l arrival way new until
copied_to l old mid behind new index until copy read beside is some begun following there with begins rule puts copied same_packed same_ways done arrival way merging =
    let (run, here, from) = begun in
    let (next, after, later) = following in
    let same : run ≡ read = cc (here, there) in
    let read_from : read.from ≤ old.done = subst (λ (r : Run). r.from ≤ old.done) same from in
    let first = tiled_put l arrival way (next_held old) (next_held mid) (copy, beside) old.done (min next.from until) merging.merged puts begins (omega (arith, later, some))
    (λ s late early.
    let at = old_at l index s read next beside is there after with (omega (arith, read_from, late)) (omega (arith, early)) in
    says_old l arrival way s read copy beside at (merging.held s late (omega (arith, early))) rule) in
    let all = copied arrival way next after (λ s late early. merging.held s (omega (arith, later, late)) early) first in
    let same_held : next_held new ≡ next_held behind = rw (same_packed, same_ways) refl in
    let tiled : IsTiled held_from (SaysMerged l arrival way) (next_held new) until = subst (λ (hs : List Held). IsTiled held_from (SaysMerged l arrival way) hs until) (sym same_held) all in
    record {
      order = omega (arith, done);
      merged = subst (λ (t : ℕ). IsTiled held_from (SaysMerged l arrival way) (next_held new) t) (sym done) tiled;
      held = λ s late early. absurd (omega (arith, late, early, done));
    }
