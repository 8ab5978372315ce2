use Rattle.std.proofs.Common.{◌≡◌, ◌∙◌, ◌++◌, ℕ, Bool, List, drop, length, sym, subst, take}
use Rattle.std.specs.List.{Contains}
use Rattle.std.proofs.lemmas.List.{take_at}
use Rattle.cu_reach.specs.Steps.Aiming.{IsMarked}
use Rattle.cu_reach.proofs.aiming.Aim.aim.Goals as goal

pub returns-clause-aimed : goal.returns-clause-aimed
returns-clause-aimed g c node rank member is =
    let inside = c.self.inside in
    let first = c.mark_nodes.new.marks in
    let gathered = c.gather-self-inside.new.ranks in
    let marks : c.deref_mut-2.result.now ≡ first = c.deref_mut-2.ensures.value
    ∙ take_at first (drop (length first) inside.marks.items) inside.marks.len (c.mark_nodes.ensures.long ∙ c.deref_mut.ensures.len) in
    let ranks : take inside.ranks.len (gathered ++ drop (length gathered) inside.ranks.items) ≡ gathered =
    take_at gathered (drop (length gathered) inside.ranks.items) inside.ranks.len (c.gather-self-inside.ensures.ranks ∙ c.deref_mut-3.ensures.len) in
    let marked = subst (λ (xs : List Bool). IsMarked xs rank) (sym marks) (c.mark_nodes.ensures.marked node rank member is) in
    subst (λ (xs : List ℕ). Contains (take c.gather-self-inside.result xs) rank) (sym ranks) (c.gather-self-inside.ensures.aimed rank marked)
