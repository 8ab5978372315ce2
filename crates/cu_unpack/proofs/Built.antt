-- What a relaxation answers in a built hierarchy.
use Rattle.std.proofs.Common.{◌≡◌, ◌≢◌, ◌<◌, ◌∙◌, ℕ, List, [], ◌∷◌, Option, ltb, true, refl, sym, ap, subst, arith, length}
use Rattle.cu_chordal.specs.declared.graph.Ends.{Ends}
use Rattle.cu_interval.specs.declared.ways.Dir.{Dir}
use Rattle.cu_interval.specs.declared.ways.Entry.{Entry}
use Rattle.cu_interval.specs.declared.relaxing.Relaxed.{Relaxed}
use Rattle.cu_interval.specs.Low.{HasLowWalk}
use Rattle.cu_interval.specs.Hierarchies.{HierarchyValue, IsBuilt, start_of, end_of, list_from}
use Rattle.cu_interval.specs.Unpacking.{answer_by, relaxed, relaxed_ends, relaxed_from, unpacked_walk}
use Rattle.cu_interval.proofs.BuiltWalks.{built_least}
use Rattle.cu_interval.proofs.SimpleWalks.{built_short}
use Rattle.cu_interval.proofs.Unpacked.{unpacked-low}
use Rattle.cu_interval.proofs.EndsLaws.{end_below, ends_apart, ends_range, start_below}
use Rattle.cu_unpack.specs.Answers.{IsLowAnswer, IsLowWhereBuilt}

-- the answer by the list: where it is empty no low walk leads, and where it isn't the unpacked walk is the least and is short
answer_low : (h : HierarchyValue) → IsBuilt h → (u v t : ℕ) → u ≢ v → u < h.network.nodes → v < h.network.nodes → (es : List Entry) → list_from h u v ≡ es
    → IsLowAnswer h.network h.order u v t (answer_by h es (unpacked_walk h u v t) t)
answer_low h f u v t apart lu lv [] e = λ low. (built_least h f u v low).0 e
answer_low h f u v t apart lu lv (x ∷ es) e =
    let some : list_from h u v ≢ [] = λ none. absurd (cc (e, none)) in
    let low : HasLowWalk h.network h.order u v = (unpacked_walk h u v t, unpacked-low h f.sound u v t apart some) in
    let least = (built_least h f u v low).1 t in
    let few = built_short h f u v t lu lv low in
    let short : ltb (length (unpacked_walk h u v t)) h.network.nodes ≡ true = grind (arith, few) in
    rw short least

pub relaxed_built : (h : HierarchyValue) (edge : ℕ) (dir : Dir) (t : ℕ) (answer : Relaxed) → answer ≡ relaxed h edge dir t → IsLowWhereBuilt h edge dir t answer
relaxed_built h edge dir t answer is f ends at =
    let range = ends_range h f.sound edge ends at in
    let n = h.network.nodes in
    let low = answer_low h f (start_of ends dir) (end_of ends dir) t (ends_apart ends dir range.0) (start_below ends dir n range.0 range.1)
    (end_below ends dir n range.0 range.1) (list_from h (start_of ends dir) (end_of ends dir)) refl in
    let same : answer ≡ relaxed_from h (start_of ends dir) (end_of ends dir) t = is ∙ ap (λ (o : Option Ends). relaxed_ends h o dir t) at in
    subst (λ (a : Relaxed). IsLowAnswer h.network h.order (start_of ends dir) (end_of ends dir) t a) (sym same) low
