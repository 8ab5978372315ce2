use Rattle.std.proofs.Common.{◌≡◌, ◌<◌, ◌+◌, ◌*◌, ◌∙◌, ◌++◌, ℕ, length, take, flat_map, ap, arith}
use Rattle.cu_interval.specs.declared.ways.Dir.TheVariants.{Up, Down}
use Rattle.cu_interval.specs.Hierarchies.{list_of}
use Rattle.cu_pack.specs.Spelling.{entry_bytes}
use Rattle.cu_pack.proofs.Spelled.Putting.{put_more}
use Rattle.cu_pack.proofs.Numbering.Totals.{list_there}
use Rattle.cu_pack.proofs.sections.put_all_entries.Goals as goal

pub loop-edge-preserved : goal.loop-edge-preserved
loop-edge-preserved c =
    let h = c.args.hierarchy.now in
    let edge = c.loop-edge.edge in
    let sound = c.edges-edge-end.ensures.sound in
    let inside : edge < length h.edges = omega arith in
    let put = flat_map entry_bytes in
    let start = c.args.bytes.now.items in
    let up = put_more put h.lists (2 * edge) (list_of h edge Up) start c.loop-edge.bytes.items c.put_entries.new.bytes.items (list_there h edge Up sound inside)
    c.loop-edge.invariant c.in_ok-put_entries.ensures in
    let down =
    put_more put h.lists (2 * edge + 1) (list_of h edge Down) start c.put_entries.new.bytes.items c.put_entries-in-loop-edge.new.bytes.items
    (list_there h edge Down sound inside) up c.in_ok-put_entries-2.ensures in
    let next : 2 * edge + 1 + 1 ≡ 2 * (edge + 1) = omega arith in
    down ∙ ap (λ (n : ℕ). start ++ flat_map put (take n h.lists)) next
