-- What answers a query over the converted network answers it over the measured one.
use Rattle.std.proofs.Common.{ℕ, List, subst, inl, inr}
use Rattle.cu_model.specs.declared.queries.Query.{Query}
use Rattle.cu_model.specs.Answers.{IsAnswer, IsArrival}
use Rattle.cu_model.specs.Networks.{IsNetwork, NetworkValue}
use Rattle.cu_wait.specs.Converted.{IsConverted}
use Rattle.cu_wait.specs.Networks.{DrivesWaiting, RawNetwork}
use Rattle.cu_wait.specs.WaitingAnswers.{IsWaitingAnswer, IsWaitingArrival}
use Rattle.cu_wait.proofs.WaitingLaws.{drive_waiting, least_same, none_same, walk_raw}

-- a walk that arrives first in pieces does so with some waits
pub waiting_arrival : (raw : RawNetwork) (g : NetworkValue) → IsConverted raw g → IsNetwork g → (query : Query) (arrival : ℕ) (walk : List ℕ) → IsArrival g query arrival walk
    → IsWaitingArrival raw query arrival walk
waiting_arrival raw g c n query arrival walk is =
    let w = walk_raw raw g c n query.from walk query.to is.joined in
    record {
      least = (least_same raw g c n query.from query.to query.second arrival).0 is.least;
      joined = w;
      driven = subst (DrivesWaiting raw walk query.second) is.driven (drive_waiting raw g c n query.from walk query.to query.second w);
    }

pub waiting_answer : (raw : RawNetwork) (g : NetworkValue) → IsConverted raw g → IsNetwork g → (query : Query) (reply : List ℕ) → IsAnswer g query reply → IsWaitingAnswer raw query reply
waiting_answer raw g c n query reply (inl (arrival, walk, said, is)) = inl (arrival, walk, said, waiting_arrival raw g c n query arrival walk is)
waiting_answer raw g c n query reply (inr (said, none)) = inr (said, (none_same raw g c n query.from query.to).0 none)
