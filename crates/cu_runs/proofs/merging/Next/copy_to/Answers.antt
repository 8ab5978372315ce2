use Rattle.std.proofs.Common.{arith, refl, ◌≡◌, ◌≤◌, ◌<◌, ◌+◌, List, Some, length, subst}
use Rattle.std.specs.Prelude.{slice_get}
use Rattle.std.proofs.lemmas.Option.{slice_get_within}
use Rattle.cu_arrival.specs.declared.runs.Run.{Run}
use Rattle.cu_runs.proofs.MergeLaws.{read_there}
use Rattle.cu_runs.proofs.CopyLaws.{copied_to}
use Rattle.cu_runs.proofs.merging.Next.copy_to.Goals as goal

pub returns-clause-copied : goal.returns-clause-copied
returns-clause-copied c =
    let packed = c.args.least.now.packed.items in
    let ways = c.args.least.now.ways.items in
    let index = c.in_force-index.result in
    let done = c.args.self.now.done in
    let begun = subst (λ (xs : List Run). (run : Run) × (slice_get xs index ≡ Some run) × (run.from ≤ done)) c.deref.ensures.value c.in_force-index.ensures.begun in
    let next = subst (λ (xs : List Run). (run : Run) × (slice_get xs (index + 1) ≡ Some run) × (done < run.from)) c.deref.ensures.value c.in_force-index.ensures.next in
    let (run, there, before) = begun in
    let inside : index < length packed = slice_get_within packed index run there in
    let within : index < length ways = omega (arith, inside, c.requires.least.even) in
    let some : done < c.args.until = omega (arith, c.requires.order) in
    copied_to c.args.least.now c.args.self.now c.put.new.self c.copy_behind.new.self
    record { packed = c.copy_behind.new.self.packed; ways = c.copy_behind.new.self.ways; index = c.in_ok-self.field-0; done = c.args.until }
    index c.args.until c.begun.result c.index.result.now c.index-2.result.now c.requires.least some begun next (read_there packed index c.index.result.now inside c.index.ensures)
    (read_there ways index c.index-2.result.now within c.index-2.ensures) c.begun.ensures.from c.begun.ensures.rule c.in_ok-put.ensures.put c.in_ok-self.ensures.copied refl refl refl
