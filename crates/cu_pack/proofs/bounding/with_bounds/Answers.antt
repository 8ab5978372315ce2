use Rattle.std.proofs.Common.{◌++◌, ◌∙◌, List, ap, flat_map, refl, ℕ}
use Rattle.cu_pack.specs.Spelling.{long}
use Rattle.cu_pack.proofs.Spelled.Whole.{spelled}
use Rattle.cu_pack.proofs.bounding.with_bounds.Goals as goal

pub returns-clause-spelled : goal.returns-clause-spelled
returns-clause-spelled c h begins found =
    let more = c.in_ok-put_bounds.ensures ∙ ap (λ (ns : List ℕ). c.args.bytes.items ++ flat_map long ns) found in
    spelled h c.args.bytes.items c.put_bounds.new.bytes.items _ c.extend_from_slice.new.self.items begins more refl c.in_ok-extend_from_slice.ensures.items
