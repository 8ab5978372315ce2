use Rattle.std.proofs.Common.{subst}
use Rattle.cu_router.specs.Steps.Rooms.{FitsEdits, HasEditRoom}
use Rattle.cu_router.proofs.working.give_back.Goals as goal

pub returns-in-Some : goal.returns-in-Some
returns-in-Some c = λ h edit fits kept.
    let held : HasEditRoom h c.in-Some.room = subst (FitsEdits h) c.in-Some.is kept in
    record {
      listed = held.listed;
      ranks = held.ranks;
      edges = held.edges;
      learned = c.into_earlier.ensures h edit fits;
    }
