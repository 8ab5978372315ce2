use Rattle.std.proofs.Common.{arith}
use Rattle.cu_pack.proofs.Read.Driven.{next_start, pieces_few, pieces_long, start_rises}
use Rattle.cu_pack.proofs.cutting.Sections.piece_count.Goals as goal

pub overflow_sub-result : goal.overflow_sub-result
overflow_sub-result c =
    let bytes = c.args.self.now in
    let profile = c.args.profile in
    omega (arith, c.profile_start.ensures.start, c.profile_start-2.ensures.start, next_start bytes profile, start_rises bytes c.requires.roads profile c.requires.profile)

pub overflow_cast-result : goal.overflow_cast-result
overflow_cast-result c =
    let bytes = c.args.self.now in
    let profile = c.args.profile in
    omega (arith, c.profile_start.ensures.start, c.profile_start-2.ensures.start, next_start bytes profile, pieces_long bytes profile, pieces_few bytes c.requires.roads profile c.requires.profile)

pub returns-clause-count : goal.returns-clause-count
returns-clause-count c =
    let bytes = c.args.self.now in
    let profile = c.args.profile in
    omega (arith, c.profile_start.ensures.start, c.profile_start-2.ensures.start, next_start bytes profile, pieces_long bytes profile)

pub returns-clause-some : goal.returns-clause-some
returns-clause-some c =
    let bytes = c.args.self.now in
    let profile = c.args.profile in
    omega (arith, c.profile_start.ensures.start, c.profile_start-2.ensures.start, next_start bytes profile, start_rises bytes c.requires.roads profile c.requires.profile)
