-- The bytes copied stood at the front of those left, and the others are left.
use Rattle.std.proofs.Common.{ℕ, ◌≡◌, ◌-◌, arith, List, length, take, drop, min, ◌∙◌, sym, ap}
use Rattle.std.proofs.lemmas.List.{take_rest}
use Rattle.cu_io.proofs.Moving.{moves_front}
use Rattle.cu_io.proofs.sure.SureSourceSource.read.Goals as goal

pub returns-clause-moves : goal.returns-clause-moves
returns-clause-moves c =
    let bytes = c.self.inside.bytes.items in
    let taken = c.self.inside.taken in
    let n = c.copy_front-count.result in
    let buffer = c.copy_front-count.new.into in
    let rest : take (length c.deref.result.now - taken) (drop taken c.deref.result.now) ≡ drop taken bytes =
    take_rest c.deref.result.now taken ∙ ap (λ (t : List ℕ). drop taken t) c.deref.ensures.value in
    moves_front bytes buffer c.args.self.now taken n (length c.args.into.now) (sym c.self.view_is) (omega arith)
    (c.copy_front-count.ensures.count ∙ ap (λ (t : List ℕ). min (length t) (length c.args.into.now)) rest)
    (c.copy_front-count.ensures.front ∙ ap (λ (t : List ℕ). take n t) rest)
