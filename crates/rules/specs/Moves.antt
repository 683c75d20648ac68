-- The moves of the record, each under the paper's name. A number refused inside a drain step never becomes the call's own.
use Rattle.std.specs.Prelude.{ℕ, ◌+◌, ◌-◌, min, Bool, ◌&&◌, ◌||◌, cond, eqb, leb, ltb}
use Rattle.rules.specs.declared.Scan.{Scan}
use Rattle.rules.specs.declared.Failure.{Failure}
use Rattle.rules.specs.declared.Scanner.{Scanner}
use Rattle.rules.specs.declared.Job.{Job}
use Rattle.rules.specs.declared.Side.{Side}
use Rattle.rules.specs.declared.Settings.{Settings}
use Rattle.rules.specs.declared.Feeder.{Feeder}
use Rattle.rules.specs.declared.Input.{Input}
use Rattle.rules.specs.declared.Ring.{Ring}
use Rattle.rules.specs.declared.Names.{Names}
use Rattle.rules.specs.declared.Record.{Record}
use Rattle.rules.specs.Name.{present, name_stays}
use Rattle.rules.specs.Record.{greatest, last_side, endless, idle, pending, scanning, finishing, erred, on, granting, limit, fresh}
use Rattle.rules.specs.Ring.{wrap}
use Rattle.rules.specs.Feeder.{path_at, driven, jam_stops, sheet_stops, taken, freed, late}

-- ---- one part of the record changed
abbrev pub with_scanner : Scanner → Record → Record
with_scanner x r = record { scanner = x; job = r.job; side = r.side; settings = r.settings; feeder = r.feeder; ring = r.ring; names = r.names }

abbrev pub with_job : Job → Record → Record
with_job x r = record { scanner = r.scanner; job = x; side = r.side; settings = r.settings; feeder = r.feeder; ring = r.ring; names = r.names }

abbrev pub with_side : Side → Record → Record
with_side x r = record { scanner = r.scanner; job = r.job; side = x; settings = r.settings; feeder = r.feeder; ring = r.ring; names = r.names }

abbrev pub with_settings : Settings → Record → Record
with_settings x r = record { scanner = r.scanner; job = r.job; side = r.side; settings = x; feeder = r.feeder; ring = r.ring; names = r.names }

abbrev pub with_feeder : Feeder → Record → Record
with_feeder x r = record { scanner = r.scanner; job = r.job; side = r.side; settings = r.settings; feeder = x; ring = r.ring; names = r.names }

abbrev pub with_ring : Ring → Record → Record
with_ring x r =
    record { scanner = r.scanner; job = r.job; side = r.side; settings = r.settings; feeder = r.feeder; ring = x; names = r.names }

abbrev pub with_names : Names → Record → Record
with_names x r =
    record { scanner = r.scanner; job = r.job; side = r.side; settings = r.settings; feeder = r.feeder; ring = r.ring; names = x }

-- the scanner stands so, its FailureCode kept; quiet, the stop-asked mark and SideCount set
abbrev pub standing : Scan → Record → Record
standing s r = with_scanner (record { state = s; failure = r.scanner.failure }) r

abbrev pub quiet_at : ℕ → Record → Record
quiet_at q r =
    with_job (record { held = r.job.held; last = r.job.last; granted = r.job.granted; quiet = q; stop = r.job.stop }) r

abbrev pub stop_at : ℕ → Record → Record
stop_at m r =
    with_job (record { held = r.job.held; last = r.job.last; granted = r.job.granted; quiet = r.job.quiet; stop = m }) r

abbrev pub count_at : ℕ → Record → Record
count_at c r = with_side (record { number = r.side.number; count = c; destination = r.side.destination }) r

-- emptying the ring sets start and stored to 0
abbrev pub emptied : Record → Record
emptied r = with_ring fresh.ring r

-- the record with its feeder moved by an input
abbrev pub fed_by : Input → Record → Record
fed_by i r = with_feeder (driven i r.feeder) r

-- signs of life: quiet is set to 0 where so many bytes moved, 1 or more
abbrev pub heard : ℕ → Record → Record
heard k r = quiet_at (cond (leb 1 k) 0 r.job.quiet) r

-- ---- DestinationID follows the name (02, #101)
-- it rises by one, 4,294,967,295 going to 0
abbrev pub risen : ℕ → ℕ
risen d = cond (eqb d greatest) 0 (d + 1)

-- exactly when the name differs from the last name that any job held; the last name is then the present one
abbrev pub announced_by : ℕ → Record → Record
announced_by id r =
    with_names (record { last = present r }) (with_side (record { number = r.side.number; count = r.side.count; destination = id }) r)

abbrev pub announced : Record → Record
announced r = announced_by (cond (name_stays r) r.side.destination (risen r.side.destination)) r

-- ---- a side begins: otherwise the feeder becomes Busy. Then Scanning
unfoldable pub begun : Record → Record
begun r = standing Scan.Scanning (with_feeder (cond (on r.settings.feeder) (taken r.feeder) r.feeder) r)

-- ---- end of job: ring emptied, Idle, job 0, the fresh SideNumber, SideCount and quiet, no stop asked; how it ended
-- gives the scanner's FailureCode and the feeder
unfoldable pub released : Failure → Feeder → Record → Record
released why f r =
    record {
      scanner = record { state = Scan.Idle; failure = why };
      job = record { held = 0; last = r.job.last; granted = r.job.granted; quiet = fresh.job.quiet; stop = 0 };
      side = record { number = fresh.side.number; count = fresh.side.count; destination = r.side.destination };
      settings = r.settings;
      feeder = f;
      ring = fresh.ring;
      names = r.names;
    }

-- the scanner's FailureCode none. Busy becomes Unloaded
abbrev pub ended : Record → Record
ended r = released Failure.None (freed r.feeder) r

-- but FailureCode is Timeout and a Busy feeder becomes Erred, Timeout
abbrev pub timed_out : Record → Record
timed_out r = released Failure.Timeout (late r.feeder) r

-- ---- StartScan and Start
-- 2 is device-setting: keep the setting
abbrev pub device : ℕ
device = 2

abbrev pub settled : ℕ → ℕ → ℕ
settled asked kept = cond (eqb asked device) kept asked

-- −1 on the glass is stored as 1
abbrev pub stored_sides : ℕ → ℕ → ℕ
stored_sides from c = cond (on from) c (cond (eqb c endless) 1 c)

-- job is the last number plus 1 (after 4,294,967,295 comes 1; 0 is never given)
abbrev pub next_job : Record → ℕ
next_job r = cond (eqb r.job.last greatest) 1 (r.job.last + 1)

-- StartScan: the setting Append, the job and its time stored
unfoldable pub given : ℕ → ℕ → Record → Record
given append asked r =
    with_settings (record { feeder = r.settings.feeder; append = append })
    (with_job (record { held = next_job r; last = next_job r; granted = granting asked; quiet = r.job.quiet; stop = r.job.stop }) r)

-- setting and SideCount stored, FailureCode none
unfoldable pub readied : ℕ → ℕ → Record → Record
readied from c r =
    with_scanner (record { state = Scan.Pending; failure = Failure.None })
    (with_settings (record { feeder = from; append = r.settings.append }) (count_at (stored_sides from c) (quiet_at 0 r)))

-- 0 gives Pending, else a side begins
unfoldable pub started : ℕ → ℕ → Record → Record
started from c r = cond (eqb c 0) (readied from c r) (begun (readied from c r))

-- ---- Stop: Pending or Erred ends the job; Scanning or Finishing sets stop-asked
unfoldable pub stopped : Record → Record
stopped r = cond (pending r.scanner.state || erred r.scanner.state) (ended r) (stop_at 1 r)

-- ---- GetSideInformation: ScanLength stays 0
abbrev pub scan_length : Record → ℕ
scan_length r = 0

-- ---- the drain step
-- SideNumber plus 1 (999 goes to 0)
abbrev pub numbered : Record → Record
numbered r =
    with_side
    (record {
      number = cond (ltb r.side.number last_side) (r.side.number + 1) 0;
      count = r.side.count;
      destination = r.side.destination;
    })
    r

-- the scanner becomes Erred, Jammed
abbrev pub faulted : Record → Record
faulted r = with_scanner (record { state = Scan.Erred; failure = Failure.Jammed }) r

-- 713 gives Pending, with SideCount 0 if it was −1 and kept otherwise
abbrev pub waited : Record → Record
waited r = standing Scan.Pending (count_at (cond (eqb r.side.count endless) 0 r.side.count) r)

-- SideCount 0: Pending. Else a side begins, except: 711 gives Erred, Jammed; 713
abbrev pub drained_on : Record → Record
drained_on r =
    cond (eqb r.side.count 0) (standing Scan.Pending r)
    (cond (jam_stops r.settings.feeder r.feeder) (faulted r)
    (cond (sheet_stops r.settings.feeder r.feeder) (waited r) (begun r)))

-- Stop asked: end of job; DestinationID and the last name stay. Else the name that the side now has is announced
unfoldable pub drained : Record → Record
drained r = cond (on r.job.stop) (ended (numbered r)) (drained_on (announced (numbered r)))

-- ---- Fetch
-- the reply's head
abbrev pub headed : ℕ
headed = 4

-- k is the least of stored, most and reply length less 4
abbrev pub least : ℕ → ℕ → ℕ → ℕ
least stored most room = min stored (min most (room - headed))

-- start moves on by k, round the end of a ring of n bytes; a sign of life where k is 1 or more
unfoldable pub moved : ℕ → ℕ → Record → Record
moved k n r = heard k (with_ring (record { start = wrap n (r.ring.start + k); stored = r.ring.stored - k }) r)

-- *last* if it leaves none stored in Finishing
abbrev pub last : ℕ → Record → Bool
last k r = finishing r.scanner.state && eqb (r.ring.stored - k) 0

-- the drain step follows
unfoldable pub fetched : ℕ → ℕ → Record → Record
fetched k n r = cond (last k r) (drained (moved k n r)) (moved k n r)

-- ---- Bytes: in behind the stored ones; none given: nothing changes
unfoldable pub filled : ℕ → Record → Record
filled k r = heard k (with_ring (record { start = r.ring.start; stored = r.ring.stored + k }) r)

-- ---- Side ended
-- a positive SideCount falls by one, −1 stays
abbrev pub fallen : ℕ → ℕ
fallen c = cond (eqb c endless) c (c - 1)

-- Busy becomes Unloaded; SideCount falls; Finishing; a sign of life
unfoldable pub finished : Record → Record
finished r = standing Scan.Finishing (count_at (fallen r.side.count) (fed_by Input.SideEnd (quiet_at 0 r)))

-- if the ring is empty the drain step follows at once
unfoldable pub side_ended : Record → Record
side_ended r = cond (eqb r.ring.stored 0) (drained (finished r)) (finished r)

-- ---- Path
-- Scanning from the feeder
abbrev pub feeds : Record → Bool
feeds r = scanning r.scanner.state && on r.settings.feeder

-- 1 also makes the feeder Erred, Jammed; if Scanning from the feeder, the scanner becomes Erred, Jammed, the ring is
-- emptied and an asked stop forgotten; a sign of life
abbrev pub caught : Record → Record
caught r = faulted (emptied (stop_at 0 (quiet_at 0 (fed_by Input.Jam r))))

-- 0 sets the sensor only
unfoldable pub pathed : ℕ → Record → Record
pathed v r = cond (on v) (cond (feeds r) (caught r) (fed_by Input.Jam r)) (with_feeder (path_at 0 r.feeder) r)

-- ---- Tick. Idle: nothing. Held: quiet plus 1; at granted (300 in Erred) the job ends by time
abbrev pub due : Record → ℕ
due r = limit r.scanner.state r.job.granted.seconds

unfoldable pub ticked : Record → Record
ticked r =
    cond (idle r.scanner.state) r
    (cond (leb (due r) (r.job.quiet + 1)) (timed_out r) (quiet_at (r.job.quiet + 1) r))
