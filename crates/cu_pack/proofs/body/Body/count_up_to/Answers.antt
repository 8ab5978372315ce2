use Rattle.std.proofs.Common.{arith}
use Rattle.cu_pack.proofs.Read.Bodies.{count_kept, rises_kept, sealed_long}
use Rattle.cu_pack.proofs.body.Body.count_up_to.Goals as goal

pub count_up_to-requires-clause-room : goal.count_up_to-requires-clause-room
count_up_to-requires-clause-room c =
    let whole = sealed_long c.self.inside.bytes.now c.args.self.now c.self.invariant c.self.view_is in
    omega (arith, whole, c.requires.room)

pub count_up_to-requires-clause-rising : goal.count_up_to-requires-clause-rising
count_up_to-requires-clause-rising c =
    let bytes = c.self.inside.bytes.now in
    rises_kept bytes c.args.self.now c.self.invariant c.self.view_is c.args.at c.args.width c.args.count c.requires.width c.requires.room c.requires.rising

pub returns : goal.returns
returns c =
    let bytes = c.self.inside.bytes.now in
    count_kept bytes c.args.self.now c.self.invariant c.self.view_is c.args.at c.args.width c.args.count c.requires.width c.requires.room c.args.bound c.count_up_to.result c.count_up_to.ensures
