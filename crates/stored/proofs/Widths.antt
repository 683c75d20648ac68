-- What fitting says of the numbers of a part.
use Prim.Native.Nat.{ℕ, ◌<◌, ◌≤◌}
use mathlib.Core.Path.{◌≡◌}
use mathlib.Core.Bool.{true}
use borrow.Author.Tests.{ltb-true, lt-ltb, leb-true}
use Rattle.rules.specs.declared.Job.{Job}
use Rattle.rules.specs.Name.{name_room}
use Rattle.rules.specs.Record.{every}
use Rattle.rules.proofs.Sound.{holds, all}
use Rattle.stored.specs.Stored.{number_at, wide16, wide8, scanner_fits, job_kept, job_fits}
use Rattle.stored.specs.Stored.{feeder_fits, names_fits}

pub scanner-below : (n : ℕ → ℕ) → every (scanner_fits n) ≡ true → (n 0 < 5) × (n 1 < 3)
scanner-below n e = let h = holds (scanner_fits n) e in (ltb-true _ _ h.0, ltb-true _ _ h.1.0)

pub feeder-below : (n : ℕ → ℕ) → every (feeder_fits n) ≡ true → (n 0 < 4) × (n 1 < 3) × (n 2 < wide8) × (n 3 < wide8)
feeder-below n e =
    let h = holds (feeder_fits n) e in
    (ltb-true _ _ h.0, ltb-true _ _ h.1.0, ltb-true _ _ h.1.1.0, ltb-true _ _ h.1.1.1.0)

pub names-below : (n : ℕ → ℕ) → every (names_fits n) ≡ true → (n 2 < wide16) × (n 3 ≤ name_room)
names-below n e = let h = holds (names_fits n) e in (ltb-true _ _ h.0, leb-true _ _ h.1.0)

-- a job that fits, with another quiet
pub quiet-fits : (j : Job) (q : ℕ) → every (job_fits (number_at (job_kept j))) ≡ true → q < wide16
    → every (job_fits (number_at (job_kept (record { held = j.held; last = j.last; granted = j.granted; quiet = q; stop = j.stop })))) ≡ true
quiet-fits j q e h =
    let b = holds (job_fits (number_at (job_kept j))) e in
    all (job_fits (number_at (job_kept (record { held = j.held; last = j.last; granted = j.granted; quiet = q; stop = j.stop }))))
    (b.0, (b.1.0, (b.1.1.0, (lt-ltb _ _ h, (b.1.1.1.1.0, tt)))))
