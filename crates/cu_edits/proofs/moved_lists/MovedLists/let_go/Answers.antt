use Rattle.std.proofs.Common.{◌≢◌, ◌+◌, ◌*◌, ◌∙◌, ℕ, ap}
use Rattle.cu_edits.proofs.LettingGo.{lets_fewer, lets_then}
use Rattle.cu_edits.proofs.moved_lists.MovedLists.let_go.Goals as goal

pub returns : goal.returns
returns c =
    let IsKept : ℕ → Type 0 = λ (list : ℕ). (list ≢ 2 * c.args.edge) × (list ≢ 2 * c.args.edge + 1) in
    let up = c.list-up.result in
    let number = c.list-up.ensures.number in
    lets_then IsKept c.args.self.now c.let_go_of_list.new.self c.let_go_of_list-2.new.self
    (lets_fewer (λ (list : ℕ). list ≢ up) IsKept c.args.self.now c.let_go_of_list.new.self (λ list kept same. kept.0 (same ∙ number)) c.let_go_of_list.ensures)
    (lets_fewer (λ (list : ℕ). list ≢ up + 1) IsKept c.let_go_of_list.new.self c.let_go_of_list-2.new.self (λ list kept same. kept.1 (same ∙ ap (λ (n : ℕ). n + 1) number)) c.let_go_of_list-2.ensures)
