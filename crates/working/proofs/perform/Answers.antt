-- In each arm the call's own contract, for the record that the numbers are; what is kept of it is all that it may change (`Doing`).
use Rattle.std.proofs.Common.{refl, ap, rules}
use Rattle.rules.specs.Calls.{Outcome}
use Rattle.working.proofs.Little.{load-fed, eject-fed, reset-fed, tray-fed}
use Rattle.working.proofs.Doing.{tells, changes, feeds}
use Rattle.working.proofs.perform.Goals as goal

pub returns-in-StartScan : goal.returns-in-StartScan
returns-in-StartScan c =
    rw c.in-StartScan.is (λ box. record {
      does = changes _ _ _ box c.told-w _ (λ _. refl) c.settle.ensures (λ left ran s. search rules);
      replies = refl;
    })

pub returns-in-Start : goal.returns-in-Start
returns-in-Start c =
    rw c.in-Start.is (λ box. record {
      does = changes _ _ _ box c.told-w _ (λ _. refl) c.settle-in-Start.ensures (λ left ran s. search rules);
      replies = refl;
    })

pub returns-in-Stop : goal.returns-in-Stop
returns-in-Stop c =
    rw c.in-Stop.is (λ box. record {
      does = changes _ _ _ box c.told-w _ (λ _. refl) c.settle-in-Stop.ensures (λ left ran s. search rules);
      replies = refl;
    })

pub returns-in-Abort : goal.returns-in-Abort
returns-in-Abort c =
    rw c.in-Abort.is (λ box. record {
      does = changes _ _ _ box c.told-w _ (λ _. refl) c.settle-in-Abort.ensures (λ left ran s. search rules);
      replies = refl;
    })

pub returns-in-SideEnded : goal.returns-in-SideEnded
returns-in-SideEnded c =
    rw c.in-SideEnded.is (λ box. record {
      does = changes _ _ _ box c.told-w _ (λ _. refl) c.settle-in-SideEnded.ensures (λ left ran s. search rules);
      replies = refl;
    })

pub returns-in-Path : goal.returns-in-Path
returns-in-Path c =
    rw c.in-Path.is (λ box. record {
      does = changes _ _ _ box c.told-w _ (λ _. refl) c.settle-in-Path.ensures (λ left ran s. search rules);
      replies = refl;
    })

pub returns-in-Load : goal.returns-in-Load
returns-in-Load c =
    rw c.in-Load.is (λ box. record {
      does = feeds _ _ _ box c.told-w _ (load-fed _ _) c.settle_fed.ensures (λ left ran s. search rules);
      replies = refl;
    })

pub returns-in-Eject : goal.returns-in-Eject
returns-in-Eject c =
    rw c.in-Eject.is (λ box. record {
      does = feeds _ _ _ box c.told-w _ (eject-fed _ _ _) c.settle_fed-in-Eject.ensures (λ left ran s. search rules);
      replies = refl;
    })

pub returns-in-Reset : goal.returns-in-Reset
returns-in-Reset c =
    rw c.in-Reset.is (λ box. record {
      does = feeds _ _ _ box c.told-w _ (reset-fed _ _) c.settle_fed-in-Reset.ensures (λ left ran s. search rules);
      replies = refl;
    })

pub returns-in-Tray : goal.returns-in-Tray
returns-in-Tray c =
    rw c.in-Tray.is (λ box. record {
      does = feeds _ _ _ box c.told-w _ (tray-fed _ _) c.settle_fed-in-Tray.ensures (λ left ran s. search rules);
      replies = refl;
    })

pub returns-in-GetDestination : goal.returns-in-GetDestination
returns-in-GetDestination c =
    rw c.in-GetDestination.is (λ box. record {
      does = tells _ _ _ box c.told-w _ c.load.ensures c.get_destination_sound.ensures;
      replies = refl;
    })

pub returns-in-GetState : goal.returns-in-GetState
returns-in-GetState c =
    rw c.in-GetState.is (λ box. record {
      does = tells _ _ _ box c.told-w _ c.load-in-GetState.ensures c.get_state_sound.ensures;
      replies = refl;
    })

pub returns-in-GetSideInformation : goal.returns-in-GetSideInformation
returns-in-GetSideInformation c =
    rw c.in-GetSideInformation.is (λ box. record {
      does = tells _ _ _ box c.told-w _ c.load-in-GetSideInformation.ensures c.get_side_information_sound.ensures;
      replies = refl;
    })

pub returns-in-SetFeederMode : goal.returns-in-SetFeederMode
returns-in-SetFeederMode c =
    rw c.in-SetFeederMode.is (λ box. record {
      does = tells _ _ _ box c.told-w _ c.load-in-SetFeederMode.ensures c.set_feeder_mode_sound.ensures;
      replies = refl;
    })

pub returns-in-GetFeederState : goal.returns-in-GetFeederState
returns-in-GetFeederState c =
    rw c.in-GetFeederState.is (λ box. record {
      does = tells _ _ _ box c.told-w _ c.load-in-GetFeederState.ensures c.get_state_sound-in-GetFeederState.ensures;
      replies = refl;
    })

pub returns-in-GetFeederMode : goal.returns-in-GetFeederMode
returns-in-GetFeederMode c =
    rw c.in-GetFeederMode.is (λ box. record {
      does = tells _ _ _ box c.told-w _ c.load-in-GetFeederMode.ensures c.get_feeder_mode_sound.ensures;
      replies = refl;
    })

pub returns-in-Bytes : goal.returns-in-Bytes
returns-in-Bytes c = rw c.in-Bytes.is (λ box. record { does = c.take_bytes.ensures box; replies = refl })

pub returns-in-Fetch : goal.returns-in-Fetch
returns-in-Fetch c = rw c.in-Fetch.is (λ box. let d = c.fetch.ensures box in record { does = d; replies = ap (λ (o : Outcome). o.reply) d.told })

pub returns-in-Tick : goal.returns-in-Tick
returns-in-Tick c = rw c.in-Tick.is (λ box. record { does = c.tick.ensures _ box; replies = refl })
