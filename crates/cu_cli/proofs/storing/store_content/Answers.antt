use Rattle.std.proofs.Common.{refl, inr}
use Rattle.cu_cli.specs.Storing.{FileMade}
use Rattle.cu_cli.specs.declared.stops.Stop.TheVariants as stop
use Rattle.cu_cli.proofs.StoreLaws.{refused_one, stored_one}
use Rattle.cu_cli.proofs.storing.store_content.Goals as goal

pub returns-in-Ok : goal.returns-in-Ok
returns-in-Ok g c =
    let file : FileMade = record { role = c.args.role; name = c.args.name.now; bytes = g.C.Content.bytes c.args.content.now } in
    let done = c.in-Ok.ensures in
    record { stores = stored_one file done.tells done.ok done.others done.loads done.counts }

pub returns-in-Err-Fault : goal.returns-in-Err-Fault
returns-in-Err-Fault g c =
    let file : FileMade = record { role = c.args.role; name = c.args.name.now; bytes = g.C.Content.bytes c.args.content.now } in
    let done = c.in-Err-Fault.ensures in
    let cause = rw c.in-Err-Fault.field-0-is at done.cause in
    record { stores = refused_one file (stop.Fault c.args.role) done.tells done.others done.loads (c.args.name.now, inr cause) (refl, cause) tt }

pub returns-in-Err-NoMemory : goal.returns-in-Err-NoMemory
returns-in-Err-NoMemory g c =
    let file : FileMade = record { role = c.args.role; name = c.args.name.now; bytes = g.C.Content.bytes c.args.content.now } in
    let done = c.in-Err-NoMemory.ensures in
    let counts = rw c.in-Err-NoMemory.field-0-is at done.counts in
    record { stores = refused_one file stop.NoMemory done.tells done.others done.loads (done.loads, counts) tt tt }
