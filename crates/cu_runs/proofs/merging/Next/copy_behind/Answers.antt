use Rattle.std.proofs.Common.{arith, ◌≡◌, ◌<◌, ◌+◌, length, subst}
use Rattle.cu_arrival.specs.declared.runs.Run.{Run}
use Rattle.std.proofs.lemmas.Option.{slice_get_within}
use Rattle.cu_runs.proofs.MergeLaws.{read_there}
use Rattle.cu_runs.proofs.CopyLaws.{copied_none, copied_more, copied_all, read_before}
use Rattle.cu_runs.proofs.merging.Next.copy_behind.Goals as goal

pub runs-init : goal.runs-init
runs-init c = record { even = c.requires.even; last = c.requires.first; copied = copied_none c.args.least.now c.args.first c.args.until c.args.self.now }

pub runs-preserved : goal.runs-preserved
runs-preserved c =
    let packed = c.args.least.now.packed.items in
    let ways = c.args.least.now.ways.items in
    let read = c.index-in-runs.result.now in
    let (run, next, there, after, before) = c.runs.invariant.last in
    let inside : c.runs.index + 1 < length packed = slice_get_within packed (c.runs.index + 1) next after in
    let within : c.runs.index + 1 < length ways = omega (arith, inside, c.requires.least.even) in
    let read_is = read_there packed (c.runs.index + 1) read inside c.index-in-runs.ensures in
    let test_is = read_there packed (c.runs.index + 1) c.index.result.now inside c.index.ensures in
    let beside_is = read_there ways (c.runs.index + 1) c.index-in-runs-2.result.now within c.index-in-runs-2.ensures in
    let same : c.index.result.now ≡ read = cc (test_is, read_is) in
    let before : read.from < c.args.until = subst (λ (r : Run). r.from < c.args.until) same (omega arith) in
    record {
      even = c.in_ok-put.ensures.even;
      last = read_before packed (c.runs.index + 1) c.args.until read c.requires.least.over_day read_is before c.requires.in_day;
      copied = copied_more c.args.least.now c.args.first c.args.until c.args.self.now c.runs.self c.put.new.self c.runs.index read c.index-in-runs-2.result.now c.requires.least c.runs.invariant.copied
          read_is beside_is before c.in_ok-put.ensures.put;
    }

pub returns-clause-copied : goal.returns-clause-copied
returns-clause-copied c =
    let packed = c.args.least.now.packed.items in
    let (run, next, there, after, before) = c.runs.invariant.last in
    let inside : c.runs.index + 1 < length packed = slice_get_within packed (c.runs.index + 1) next after in
    copied_all c.args.least.now c.args.first c.args.until c.args.self.now c.runs.self c.runs.index c.index.result.now c.runs.invariant.copied
    (read_there packed (c.runs.index + 1) c.index.result.now inside c.index.ensures) (omega arith)
