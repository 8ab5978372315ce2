use Rattle.std.proofs.Common.{◌≡◌, ◌<◌, ◌∙◌, ◌∷◌, ◌++◌, List, [], Some, ap, arith, length, refl, rules, sym}
use Rattle.std.specs.Prelude.{slice_get}
use Rattle.std.proofs.lemmas.Option.{slice_get_read}
use Rattle.cu_interval.specs.declared.ways.Entry.{Entry}
use Rattle.cu_interval.specs.Hierarchies.{list_of}
use Rattle.cu_unpack.proofs.HalfEdges.{take_entry}
use Rattle.cu_edits.proofs.unchanged_lists.are_old_entries.Goals as goal

pub loop-index-preserved : goal.loop-index-preserved
loop-index-preserved g c =
    let list = list_of c.args.parts.now.before c.args.edge c.args.dir in
    let entries = c.args.entries.now in
    let entry = c.entry.result in
    let long = c.loop-index.invariant.long in
    let count = c.entries-index-end.ensures.count in
    let inside : c.loop-index.index < length entries = omega (arith, long, count, c.loop-index-test.true) in
    let there : slice_get entries c.loop-index.index ≡ Some entry = slice_get_read entries (length entries) c.loop-index.index entry refl inside (search rules) in
    record {
      long = long;
      same = take_entry entries c.loop-index.index entry there ∙ ap (λ (es : List Entry). es ++ entry ∷ []) c.loop-index.invariant.same
          ∙ sym (take_entry list c.loop-index.index entry c.entry.ensures.there);
    }
