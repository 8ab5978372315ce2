use Rattle.std.proofs.Common.{◌≡◌, ◌<◌, ◌+◌, ◌*◌, ◌∙◌, ◌++◌, ℕ, length, drop, flat_map, ap, sym, refl, append_assoc, arith}
use Rattle.std.proofs.lemmas.Result.{on_ok_weaker}
use Rattle.cu_interval.specs.declared.ways.Dir.TheVariants.{Up, Down}
use Rattle.cu_interval.specs.Hierarchies.{list_of}
use Rattle.cu_pack.specs.Spelling.{long, starts_from}
use Rattle.cu_pack.proofs.Spelled.Putting.{start_last, start_more}
use Rattle.cu_pack.proofs.Numbering.Totals.{list_there, lists_more}
use Rattle.cu_pack.proofs.sections.put_way_starts.Goals as goal

pub loop-edge-preserved : goal.loop-edge-preserved
loop-edge-preserved c =
    let h = c.args.hierarchy.now in
    let edge = c.loop-edge.edge in
    let start = c.loop-edge.start in
    let bytes = c.loop-edge.bytes.items in
    let after = c.put_starts.new.bytes.items in
    let sound = c.edges-edge-end.ensures.sound in
    let inside : edge < length h.edges = omega arith in
    let whole = c.args.bytes.now.items ++ flat_map long (starts_from 0 h.lists) in
    let middle = start + length (list_of h edge Up) in
    let both : after ≡ (bytes ++ long start) ++ long middle = c.in_ok-start.ensures.put ∙ sym (append_assoc bytes (long start) (long middle)) in
    let up = start_more h.lists (2 * edge) start bytes (bytes ++ long start) whole c.loop-edge.invariant.put refl (list_of h edge Up) (list_there h edge Up sound inside) in
    let down = start_more h.lists (2 * edge + 1) middle (bytes ++ long start) after whole up both (list_of h edge Down) (list_there h edge Down sound inside) in
    let more = lists_more h sound edge inside in
    let next : c.in_ok-start.start ≡ middle + length (list_of h edge Down) = omega (arith, more, c.in_ok-start.ensures.next, c.loop-edge.invariant.start) in
    let number : 2 * (edge + 1) ≡ 2 * edge + 1 + 1 = omega arith in
    record {
      start = c.in_ok-start.ensures.next;
      put =
          ap (λ (n : ℕ). after ++ flat_map long (starts_from n (drop (2 * (edge + 1)) h.lists))) next
          ∙ ap (λ (n : ℕ). after ++ flat_map long (starts_from (middle + length (list_of h edge Down)) (drop n h.lists))) number ∙ down;
    }

pub returns : goal.returns
returns c =
    let h = c.args.hierarchy.now in
    let whole = c.args.bytes.now.items ++ flat_map long (starts_from 0 h.lists) in
    let sound = c.edges-edge-end.ensures.sound in
    on_ok_weaker c.put_long.result
    (λ e. start_last h.lists (2 * c.loop-edge.edge) c.loop-edge.start c.loop-edge.bytes.items c.put_long.new.bytes.items whole c.loop-edge.invariant.put e
    (omega (arith, sound.lists, c.edges-edge-end.ensures.count)))
    c.put_long.ensures
