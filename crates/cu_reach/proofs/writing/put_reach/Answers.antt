use Rattle.cu_reach.proofs.writing.put_reach.Goals as goal

pub returns-in-Done : goal.returns-in-Done
returns-in-Done g c = record { wrote = λ from second holds. rw c.in-Done.is (c.put_done.ensures.wrote from second (rw c.in-Done.is at holds)) }

pub returns-in-Long : goal.returns-in-Long
returns-in-Long g c = record { wrote = λ from second holds. rw c.in-Long.is c.put_damage.ensures.wrote }
