use Rattle.std.proofs.Common.{◌∙◌}
use Rattle.cu_pack.proofs.Read.Bodies.{sealed_in_place}
use Rattle.cu_pack.proofs.repacking.repack.Goals as goal

pub returns : goal.returns
returns g c =
    let bytes = c.in_ok-bytes.bytes in
    let part = c.as_mut_slice in
    record {
      spelled = sealed_in_place bytes.items part.result.now c.seal.new.bytes _ bytes.len c.in_ok-bytes.ensures.long part.ensures.value part.ensures.len c.seal.ensures.sealed
          ∙ c.in_ok-bytes.ensures.spelled;
    }
