use Rattle.std.proofs.Common.{arith}
use Rattle.cu_links.proofs.Links.{all_none}
use Rattle.cu_links.proofs.chain.unlink.Goals as goal

pub returns : goal.returns
returns c = record { none = all_none c.places.links (λ place link e. let (i, low, high, at) = c.places.invariant place link e in absurd (omega (arith, low, high, c.places-test.false))) }
