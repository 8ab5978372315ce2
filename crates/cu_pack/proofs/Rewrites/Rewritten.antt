-- The section of way lists put edge by edge, where the lists of some edges are replaced.
use Rattle.std.proofs.Common.{◌≡◌, ◌≤◌, ◌<◌, ◌+◌, ◌*◌, ◌∙◌, ℕ, suc, List, ◌++◌, Some, length, take, map, flat_map, refl, ap, sym, arith}
use Rattle.std.specs.Prelude.{All, slice_get, slice_range}
use Rattle.std.specs.List.{range_with_len}
use Rattle.std.proofs.lemmas.List.{append_assoc, take_all}
use Rattle.cu_interval.specs.declared.ways.Entry.{Entry}
use Rattle.cu_interval.specs.declared.ways.TouchedEdge.{TouchedEdge}
use Rattle.cu_interval.specs.Replacing.{replaced}
use Rattle.cu_interval.proofs.Replacing.{replaced_long}
use Rattle.cu_pack.specs.Spelling.{entry_bytes, long, starts_from, total}
use Rattle.cu_pack.specs.Steps.Starts.{starts_between}
use Rattle.cu_pack.proofs.Numbering.CountedStarts.{before_list, put_starts_on, starts_counted, starts_moved}
use Rattle.cu_pack.proofs.Spelled.Putting.{put_more, put_next}
use Rattle.cu_bounds.proofs.Renewed.{AreRising}
use Rattle.cu_pack.proofs.Rewrites.Replaced.{IsUpTo, gap_before, gap_last, own_there}
use Rattle.cu_pack.proofs.Numbering.Stretches.{put_stretch, total_on}
use Rattle.cu_pack.proofs.Numbering.Totals.{total_more}

module _ (lists : List (List Entry)) (touched : List TouchedEdge) (edges : ℕ) (long_enough : length lists ≡ 2 * edges) (rising : AreRising touched)
    (below : All (λ (t : TouchedEdge). t.edge < edges) touched) (count next : ℕ) (up_to : IsUpTo touched edges count next) where
  module _ (t : TouchedEdge) (there : slice_get touched count ≡ Some t) where
    pub order : next ≤ 2 * t.edge
    order = let left = up_to.left count t (omega arith) there in omega (arith, left)

    gap : slice_range (replaced lists touched) next (2 * t.edge) ≡ slice_range lists next (2 * t.edge)
    gap = gap_before lists touched edges long_enough rising below count next up_to t (2 * t.edge) there (omega arith)

    own : (slice_get (replaced lists touched) (2 * t.edge) ≡ Some t.up) × (slice_get (replaced lists touched) (2 * t.edge + 1) ≡ Some t.down)
    own = own_there lists touched edges long_enough rising below count t there

    over : 2 * t.edge + 1 + 1 ≡ 2 * t.edge + 2
    over = omega arith

    -- how many there are before the next edge's lists
    pub total_before : before_list (replaced lists touched) (2 * t.edge) ≡ before_list (replaced lists touched) next + total (slice_range lists next (2 * t.edge))
    total_before =
        let new = replaced lists touched in
        total_on new next (2 * t.edge) order ∙ ap (λ (ls : List (List Entry)). before_list new next + total ls) gap

    -- and behind them
    pub total_behind : before_list (replaced lists touched) (2 * t.edge + 2)
        ≡ before_list (replaced lists touched) next + total (slice_range lists next (2 * t.edge)) + length t.up + length t.down
    total_behind =
        let new = replaced lists touched in
        let up = total_more new (2 * t.edge) t.up own.0 in
        let down = total_more new (2 * t.edge + 1) t.down own.1 in
        ap (before_list new) (sym over) ∙ down ∙ ap (λ (n : ℕ). n + length t.down) up ∙ ap (λ (n : ℕ). n + length t.up + length t.down) total_before

    -- one edge more is put: the entries of the lists before its own, and of those
    pub entries_more : (start before one after : List ℕ) → before ≡ start ++ flat_map (flat_map entry_bytes) (take next (replaced lists touched))
        → one ≡ before ++ flat_map (flat_map entry_bytes) (slice_range lists next (2 * t.edge)) → after ≡ one ++ (flat_map entry_bytes t.up ++ flat_map entry_bytes t.down)
        → after ≡ start ++ flat_map (flat_map entry_bytes) (take (2 * t.edge + 2) (replaced lists touched))
    entries_more start before one after put kept more =
        let new = replaced lists touched in
        let list = flat_map entry_bytes in
        let two = one ++ list t.up in
        let apart : after ≡ two ++ list t.down = more ∙ sym (append_assoc one (list t.up) (list t.down)) in
        let first = put_stretch list new next (2 * t.edge) start before one order put (kept ∙ ap (λ (ls : List (List Entry)). before ++ flat_map list ls) (sym gap)) in
        let second = put_more list new (2 * t.edge) t.up start one two own.0 first refl in
        put_more list new (2 * t.edge + 1) t.down start two after own.1 second apart ∙ ap (λ (n : ℕ). start ++ flat_map list (take n new)) over

    -- and the starts of them all
    pub starts_more : (before_next up : ℕ) (start before one after : List ℕ) → before_next ≡ before_list (replaced lists touched) next
        → before ≡ start ++ flat_map long (map (before_list (replaced lists touched)) (range_with_len 0 next))
        → one ≡ before ++ flat_map long (starts_between lists next (2 * t.edge) before_next) → up ≡ before_next + total (slice_range lists next (2 * t.edge))
        → after ≡ one ++ (long up ++ long (up + length t.up))
        → after ≡ start ++ flat_map long (map (before_list (replaced lists touched)) (range_with_len 0 (2 * t.edge + 2)))
    starts_more before_next up start before one after first_is put kept up_said more =
        let new = replaced lists touched in
        let g = before_list new in
        let down = up + length t.up in
        let two = one ++ long up in
        let apart : after ≡ two ++ long down = more ∙ sym (append_assoc one (long up) (long down)) in
        let up_is : up ≡ g (2 * t.edge) = up_said ∙ ap (λ (n : ℕ). n + total (slice_range lists next (2 * t.edge))) first_is ∙ sym total_before in
        let down_is : down ≡ g (2 * t.edge + 1) = ap (λ (n : ℕ). n + length t.up) up_is ∙ sym (total_more new (2 * t.edge) t.up own.0) in
        let moved = starts_moved lists new next (2 * t.edge) before_next (λ k most. sym (gap_before lists touched edges long_enough rising below count next up_to t k there most)) in
        let first = put_starts_on long new next (2 * t.edge) before_next start before one order first_is put (kept ∙ ap (λ (ns : List ℕ). before ++ flat_map long ns) moved) in
        let second = put_next long g (2 * t.edge) start one two first (ap (λ (n : ℕ). one ++ long n) up_is) in
        let third = put_next long g (2 * t.edge + 1) start two after second (apart ∙ ap (λ (n : ℕ). two ++ long n) down_is) in
        third ∙ ap (λ (n : ℕ). start ++ flat_map long (map g (range_with_len 0 n))) over

  -- behind the last edge
  module _ (all : length touched ≤ count) where
    pub last_order : next ≤ 2 * edges
    last_order = let inside = up_to.inside in omega (arith, inside)

    last_gap : slice_range (replaced lists touched) next (2 * edges) ≡ slice_range lists next (2 * edges)
    last_gap = gap_last lists touched edges long_enough rising below count next up_to (2 * edges) all

    whole : take (2 * edges) (replaced lists touched) ≡ replaced lists touched
    whole = let size = replaced_long lists touched in take_all (2 * edges) (replaced lists touched) (omega (arith, size, long_enough))

    pub total_whole : total (replaced lists touched) ≡ before_list (replaced lists touched) next + total (slice_range lists next (2 * edges))
    total_whole =
        let new = replaced lists touched in
        ap (λ (ls : List (List Entry)). total ls) (sym whole) ∙ total_on new next (2 * edges) last_order
        ∙ ap (λ (ls : List (List Entry)). before_list new next + total ls) last_gap

    pub entries_whole : (start before after : List ℕ) → before ≡ start ++ flat_map (flat_map entry_bytes) (take next (replaced lists touched))
        → after ≡ before ++ flat_map (flat_map entry_bytes) (slice_range lists next (2 * edges)) → after ≡ start ++ flat_map (flat_map entry_bytes) (replaced lists touched)
    entries_whole start before after put more =
        let new = replaced lists touched in
        let list = flat_map entry_bytes in
        put_stretch list new next (2 * edges) start before after last_order put (more ∙ ap (λ (ls : List (List Entry)). before ++ flat_map list ls) (sym last_gap))
        ∙ ap (λ (ls : List (List Entry)). start ++ flat_map list ls) whole

    pub starts_whole : (before_next last : ℕ) (start before one after : List ℕ) → before_next ≡ before_list (replaced lists touched) next
        → before ≡ start ++ flat_map long (map (before_list (replaced lists touched)) (range_with_len 0 next))
        → one ≡ before ++ flat_map long (starts_between lists next (2 * edges) before_next) → last ≡ before_next + total (slice_range lists next (2 * edges))
        → after ≡ one ++ long last → after ≡ start ++ flat_map long (starts_from 0 (replaced lists touched))
    starts_whole before_next last start before one after first_is put more last_is end =
        let new = replaced lists touched in
        let g = before_list new in
        let size = replaced_long lists touched in
        let moved = starts_moved lists new next (2 * edges) before_next (λ k most. sym (gap_last lists touched edges long_enough rising below count next up_to k all)) in
        let first = put_starts_on long new next (2 * edges) before_next start before one last_order first_is put (more ∙ ap (λ (ns : List ℕ). before ++ flat_map long ns) moved) in
        let all_is = ap (λ (ls : List (List Entry)). total ls) whole in
        let last_same : last ≡ g (2 * edges) = omega (arith, last_is, first_is, total_whole, all_is) in
        let every : 2 * edges + 1 ≡ suc (length new) = omega (arith, size, long_enough) in
        put_next long g (2 * edges) start one after first (end ∙ ap (λ (n : ℕ). one ++ long n) last_same)
        ∙ ap (λ (n : ℕ). start ++ flat_map long (map g (range_with_len 0 n))) every ∙ ap (λ (ns : List ℕ). start ++ flat_map long ns) (starts_counted new)
