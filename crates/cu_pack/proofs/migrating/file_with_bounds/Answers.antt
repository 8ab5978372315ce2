use Rattle.std.proofs.Common.{◌≡◌, ◌+◌, ◌++◌, ◌∙◌, List, ap, arith, flat_map, length, length-append, refl, ℕ}
use Rattle.cu_interval.specs.Hierarchies.{HierarchyValue}
use Rattle.cu_bounds.specs.KeptBounds.{bounds_of}
use Rattle.cu_pack.specs.declared.layout.Counts.{Counts}
use Rattle.cu_pack.specs.declared.layout.Layout.{Layout}
use Rattle.cu_pack.specs.Layouts.{bounds_at}
use Rattle.cu_pack.specs.Reading.{counts_in, decoded}
use Rattle.cu_pack.specs.Spelling.{long}
use Rattle.cu_pack.proofs.Read.Bodies.{sealed_in_place}
use Rattle.cu_pack.proofs.Spelled.Whole.{front_put, spelled}
use Rattle.cu_pack.proofs.Viewed.ViewedParts.{all_parts, same_part}
use Rattle.cu_pack.proofs.Viewed.Views.{counts_known}
use Rattle.cu_pack.proofs.migrating.file_with_bounds.Goals as goal

pub of-requires : goal.of-requires
of-requires c = record { spelled = c.requires.told }

pub returns : goal.returns
returns c =
    let bytes = c.args.sections.now in
    let h = decoded bytes in
    let told = c.requires.told in
    let of : Counts → Counts = λ k. record k { version = 2 } in
    let counted = ap of (c.counts.ensures.counts ∙ counts_known bytes h told) in
    let layout = c.of-layout.ensures.layout in
    let start : c.of-layout.result.node_at ≡ 52 = ap (λ (l : Layout). l.node_at) layout in
    let end : c.of-layout.result.bounds ≡ bounds_at (counts_in bytes) = ap (λ (l : Layout). l.bounds) layout ∙ ap bounds_at c.counts.ensures.counts in
    let part = c.between.ensures.part ∙ same_part bytes 52 (bounds_at (counts_in bytes)) c.of-layout.result.node_at c.of-layout.result.bounds start end ∙ all_parts bytes h told in
    let headed = c.put_header.new.bytes.items in
    let put = c.extend_from_slice.new.self.items in
    let bounded = c.put_least_bounds.new.bytes.items in
    let all = c.extend_from_slice-2.new.self in
    let copied = c.in_ok-extend_from_slice.ensures.items ∙ ap (λ (bs : List ℕ). headed ++ bs) part in
    let begins = front_put 2 h (of c.counts.result) c.in_ok-bytes.bytes.items headed put counted c.in_ok-bytes.ensures.items c.in_ok-put_header.ensures copied in
    let more = c.in_ok-put_least_bounds.ensures ∙ ap (λ (k : HierarchyValue). put ++ flat_map long (bounds_of k)) c.of.ensures.said in
    let size : length all.items ≡ length bounded + 32 = ap length c.in_ok-extend_from_slice-2.ensures.items ∙ length-append bounded _ in
    record {
      spelled = sealed_in_place all.items c.as_mut_slice.result.now c.seal.new.bytes _ all.len (omega (arith, size)) c.as_mut_slice.ensures.value c.as_mut_slice.ensures.len c.seal.ensures.sealed
          ∙ spelled h put bounded _ all.items begins more refl c.in_ok-extend_from_slice-2.ensures.items;
    }
