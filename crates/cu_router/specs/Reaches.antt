-- What a hierarchy, built or not, replies to a question for the latest departure.
use Rattle.std.specs.Prelude.{ℕ, List}
use Rattle.cu_interval.specs.Hierarchies.{HierarchyValue}
use Rattle.cu_reach.specs.declared.lines.LatestAsked.{LatestAsked}
use Rattle.cu_reach.specs.ReachAnswers.{IsHeldLatest, SaysLatest}
use Rattle.cu_router.specs.Answers.{IsHeldAnswer}

-- the one departure between the ranks of the nodes, and the hierarchy's answer to the query at its second
abbrev pub IsHeldLatestReply : HierarchyValue → LatestAsked → List ℕ → Type 0
IsHeldLatestReply h asked reply = SaysLatest (IsHeldLatest h asked) (λ query text. IsHeldAnswer h query text) asked reply
