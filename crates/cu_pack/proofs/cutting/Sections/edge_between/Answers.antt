use Rattle.std.proofs.Common.{◌≡◌, ◌+◌, ◌-◌, ◌∙◌, ap, arith}
use Rattle.cu_pack.specs.Reading.{edge_start, upper_in}
use Rattle.cu_pack.proofs.Read.Parted.{part_missed}
use Rattle.cu_pack.proofs.cutting.Sections.edge_between.Goals as goal

pub returns-then-number-eq0 : goal.returns-then-number-eq0
returns-then-number-eq0 c =
    record {
      edge = part_missed c.args.self.now c.args.low c.requires.low c.args.high c.edges_up_to-number.result c.edges_up_to-number.ensures.count
          (λ some. absurd (omega (arith, some, c.if-number-eq0.true)));
    }

pub returns-then-upper-high : goal.returns-then-upper-high
returns-then-upper-high c =
    let bytes = c.args.self.now in
    let place : c.edge_start.result + c.edges_up_to-number.result - 1 ≡ edge_start bytes c.args.low + c.edges_up_to-number.result - 1 = omega (arith, c.edge_start.ensures.start) in
    record {
      edge = part_missed bytes c.args.low c.requires.low c.args.high c.edges_up_to-number.result c.edges_up_to-number.ensures.count
          (λ some same. c.if-upper-high.true (c.upper.ensures.rank ∙ ap (upper_in bytes) place ∙ same));
    }
