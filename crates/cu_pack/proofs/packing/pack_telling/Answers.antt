use Rattle.std.proofs.Common.{◌≡◌, ◌+◌, ◌∙◌, ap, arith, length, length-append, refl}
use Rattle.cu_pack.proofs.Read.Bodies.{sealed_in_place}
use Rattle.cu_pack.proofs.Spelled.Whole.{front_put, spelled}
use Rattle.cu_pack.proofs.packing.pack_telling.Goals as goal

pub returns : goal.returns
returns g c =
    let h = c.args.hierarchy.now in
    let put = c.put_parts.new.bytes.items in
    let bounded = c.put_least_bounds.new.bytes.items in
    let all = c.extend_from_slice.new.self in
    let counts = c.count-counts.ensures.counts in
    let none = c.in_ok-bytes.bytes.items in
    let headed = c.put_header.new.bytes.items in
    let begins = front_put 2 h c.count-counts.result none headed put counts c.in_ok-bytes.ensures.items c.in_ok-put_header.ensures c.in_ok-put_parts.ensures in
    let size : length all.items ≡ length bounded + 32 = ap length c.in_ok-extend_from_slice.ensures.items ∙ length-append bounded _ in
    record {
      spelled = sealed_in_place all.items c.as_mut_slice.result.now c.seal.new.bytes _ all.len (omega (arith, size)) c.as_mut_slice.ensures.value c.as_mut_slice.ensures.len c.seal.ensures.sealed
          ∙ spelled h put bounded _ all.items begins c.in_ok-put_least_bounds.ensures refl c.in_ok-extend_from_slice.ensures.items;
    }
