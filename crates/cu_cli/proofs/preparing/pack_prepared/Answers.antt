use Rattle.cu_cli.proofs.StopLaws.{if_ok_map}
use Rattle.cu_cli.proofs.preparing.pack_prepared.Goals as goal

pub returns : goal.returns
returns g c =
    let h = c.in_ok-hierarchy.hierarchy in
    let done = c.in_ok-hierarchy.ensures in
    record {
      built = if_ok_map c.pack_telling.result _ _ (λ bytes spelled. (h, done.built, done.network, done.order, record { sound = done.built.sound; spelled = spelled }))
          c.pack_telling.ensures.spelled;
    }
