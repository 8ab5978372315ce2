-- The name stands in the list once more.
use Rattle.std.proofs.Common.{◌≡◌, ◌∙◌, List, ap, string_bytes}
use Rattle.std.proofs.lemmas.Result.{IfOk-at_ok}
use Rattle.std.specs.declared.string.String.{String}
use Rattle.std.specs.declared.alloc.Global.{Global}
use Rattle.cu_io.specs.MemoryShelves.{times_named}
use Rattle.cu_io.proofs.Noting.{times_named-added, times_named-others}
use Rattle.cu_io.proofs.memory.memory_shelf.note.Goals as goal

pub returns-clause-added : goal.returns-clause-added
returns-clause-added c =
    let is = IfOk-at_ok (λ (s : String Global). string_bytes s ≡ c.args.name.now) c.in_ok-name.was c.from_str.ensures.ok in
    ap (λ (names : List (String Global)). times_named names c.args.name.now) c.in_ok-push.ensures.items
    ∙ times_named-added c.args.names.now.items c.in_ok-name.name c.args.name.now is

pub returns-clause-others : goal.returns-clause-others
returns-clause-others c = λ other differs.
    let is = IfOk-at_ok (λ (s : String Global). string_bytes s ≡ c.args.name.now) c.in_ok-name.was c.from_str.ensures.ok in
    ap (λ (names : List (String Global)). times_named names other) c.in_ok-push.ensures.items
    ∙ times_named-others c.args.names.now.items c.in_ok-name.name c.args.name.now other is differs
