-- The record as numbers: a version, then the record's parts in a row.
use Rattle.std.specs.Prelude.{ℕ, ◌+◌, Bool, ◌&&◌, cond, List, [], ◌∷◌, ◌++◌, leb, ltb, eqb, get_or, set}
use Rattle.rules.specs.declared.Scan.{Scan}
use Rattle.rules.specs.declared.Feed.{Feed}
use Rattle.rules.specs.declared.Failure.{Failure}
use Rattle.rules.specs.declared.Scanner.{Scanner}
use Rattle.rules.specs.declared.Job.{Job}
use Rattle.rules.specs.declared.Side.{Side}
use Rattle.rules.specs.declared.Settings.{Settings}
use Rattle.rules.specs.declared.Feeder.{Feeder}
use Rattle.rules.specs.declared.Ring.{Ring}
use Rattle.rules.specs.declared.Names.{Names}
use Rattle.rules.specs.declared.Record.{Record}
use Rattle.rules.specs.Name.{name_room}
use Rattle.rules.specs.Record.{every, sound}

-- ---- states and codes as numbers, in the paper's order
abbrev pub scan_number : Scan → ℕ
scan_number Scan.Idle = 0
scan_number Scan.Pending = 1
scan_number Scan.Scanning = 2
scan_number Scan.Finishing = 3
scan_number Scan.Erred = 4

abbrev pub feed_number : Feed → ℕ
feed_number Feed.Unloaded = 0
feed_number Feed.Loaded = 1
feed_number Feed.Busy = 2
feed_number Feed.Erred = 3

abbrev pub failure_number : Failure → ℕ
failure_number Failure.None = 0
failure_number Failure.Jammed = 1
failure_number Failure.Timeout = 2

-- and back; what is none of the others reads as the last, and `all_fit` lets no more than the last through
abbrev pub scan_at : ℕ → Scan
scan_at n = cond (eqb n 0) Scan.Idle (cond (eqb n 1) Scan.Pending (cond (eqb n 2) Scan.Scanning (cond (eqb n 3) Scan.Finishing Scan.Erred)))

abbrev pub feed_at : ℕ → Feed
feed_at n = cond (eqb n 0) Feed.Unloaded (cond (eqb n 1) Feed.Loaded (cond (eqb n 2) Feed.Busy Feed.Erred))

abbrev pub failure_at : ℕ → Failure
failure_at n = cond (eqb n 0) Failure.None (cond (eqb n 1) Failure.Jammed Failure.Timeout)

-- ---- numbers by their places
abbrev pub number_at : List ℕ → ℕ → ℕ
number_at ws i = get_or ws i 0

-- the numbers from a place on
abbrev pub from : List ℕ → ℕ → ℕ → ℕ
from ws at i = number_at ws (at + i)

-- numbers written one behind the other, from a place on
abbrev pub written : ℕ → List ℕ → List ℕ → List ℕ
written at [] ws = ws
written at (n ∷ ns) ws = written (at + 1) ns (set ws at n)

-- how many numbers fit 32, 16 and 8 bits
abbrev pub wide32 : ℕ
wide32 = 4294967296

abbrev pub wide16 : ℕ
wide16 = 65536

abbrev pub wide8 : ℕ
wide8 = 256

-- ---- each part: how many numbers it has, where it begins, its numbers, whether numbers fit its fields, and the part that they are
abbrev pub scanner_length : ℕ
scanner_length = 2

abbrev pub scanner_at : ℕ
scanner_at = 1

abbrev pub scanner_kept : Scanner → List ℕ
scanner_kept c = scan_number c.state ∷ failure_number c.failure ∷ []

abbrev pub scanner_fits : (ℕ → ℕ) → List Bool
scanner_fits n = ltb (n 0) 5 ∷ ltb (n 1) 3 ∷ []

abbrev pub scanner_in : (ℕ → ℕ) → Scanner
scanner_in n = record { state = scan_at (n 0); failure = failure_at (n 1) }

abbrev pub job_length : ℕ
job_length = 5

abbrev pub job_at : ℕ
job_at = scanner_at + scanner_length

abbrev pub job_kept : Job → List ℕ
job_kept j = j.held ∷ j.last ∷ j.granted.seconds ∷ j.quiet ∷ j.stop ∷ []

abbrev pub job_fits : (ℕ → ℕ) → List Bool
job_fits n = ltb (n 0) wide32 ∷ ltb (n 1) wide32 ∷ ltb (n 2) wide16 ∷ ltb (n 3) wide16 ∷ ltb (n 4) wide8 ∷ []

abbrev pub job_in : (ℕ → ℕ) → Job
job_in n = record { held = n 0; last = n 1; granted = record { seconds = n 2 }; quiet = n 3; stop = n 4 }

abbrev pub side_length : ℕ
side_length = 3

abbrev pub side_at : ℕ
side_at = job_at + job_length

abbrev pub side_kept : Side → List ℕ
side_kept d = d.number ∷ d.count ∷ d.destination ∷ []

abbrev pub side_fits : (ℕ → ℕ) → List Bool
side_fits n = ltb (n 0) wide16 ∷ ltb (n 1) wide32 ∷ ltb (n 2) wide32 ∷ []

abbrev pub side_in : (ℕ → ℕ) → Side
side_in n = record { number = n 0; count = n 1; destination = n 2 }

abbrev pub settings_length : ℕ
settings_length = 2

abbrev pub settings_at : ℕ
settings_at = side_at + side_length

abbrev pub settings_kept : Settings → List ℕ
settings_kept t = t.feeder ∷ t.append ∷ []

abbrev pub settings_fits : (ℕ → ℕ) → List Bool
settings_fits n = ltb (n 0) wide8 ∷ ltb (n 1) wide8 ∷ []

abbrev pub settings_in : (ℕ → ℕ) → Settings
settings_in n = record { feeder = n 0; append = n 1 }

abbrev pub feeder_length : ℕ
feeder_length = 4

abbrev pub feeder_at : ℕ
feeder_at = settings_at + settings_length

abbrev pub feeder_kept : Feeder → List ℕ
feeder_kept f = feed_number f.state ∷ failure_number f.failure ∷ f.tray ∷ f.path ∷ []

abbrev pub feeder_fits : (ℕ → ℕ) → List Bool
feeder_fits n = ltb (n 0) 4 ∷ ltb (n 1) 3 ∷ ltb (n 2) wide8 ∷ ltb (n 3) wide8 ∷ []

abbrev pub feeder_in : (ℕ → ℕ) → Feeder
feeder_in n = record { state = feed_at (n 0); failure = failure_at (n 1); tray = n 2; path = n 3 }

-- the ring's two are as wide as a number
abbrev pub ring_length : ℕ
ring_length = 2

abbrev pub ring_at : ℕ
ring_at = feeder_at + feeder_length

abbrev pub ring_kept : Ring → List ℕ
ring_kept g = g.start ∷ g.stored ∷ []

abbrev pub ring_in : (ℕ → ℕ) → Ring
ring_in n = record { start = n 0; stored = n 1 }

-- the last name: eight bytes, eight and two, the first two as wide as a number; its length is at most eighteen
abbrev pub names_length : ℕ
names_length = 4

abbrev pub names_at : ℕ
names_at = ring_at + ring_length

abbrev pub names_kept : Names → List ℕ
names_kept m = m.last.first ∷ m.last.second ∷ m.last.third ∷ m.last.len ∷ []

abbrev pub names_fits : (ℕ → ℕ) → List Bool
names_fits n = ltb (n 2) wide16 ∷ leb (n 3) name_room ∷ []

abbrev pub names_in : (ℕ → ℕ) → Names
names_in n = record { last = record { first = n 0; second = n 1; third = n 2; len = n 3 } }

-- ---- a few numbers written, in the place of those that were there
abbrev pub quiet_place : ℕ
quiet_place = job_at + 3

-- quiet and the ring's two
abbrev pub heard_in : ℕ → Ring → List ℕ → List ℕ
heard_in quiet g ws = written ring_at (ring_kept g) (set ws quiet_place quiet)

-- the feeder's four
abbrev pub fed_in : Feeder → List ℕ → List ℕ
fed_in f ws = written feeder_at (feeder_kept f) ws

-- ---- the whole
abbrev pub version : ℕ
version = 2

-- how many numbers there are
abbrev pub word_count : ℕ
word_count = names_at + names_length

unfoldable pub kept : Record → List ℕ
kept r =
    version
    ∷ scanner_kept r.scanner
    ++ job_kept r.job
    ++ side_kept r.side
    ++ settings_kept r.settings
    ++ feeder_kept r.feeder
    ++ ring_kept r.ring
    ++ names_kept r.names

-- numbers of this version, each of which fits its field
abbrev pub fitting : List ℕ → List Bool
fitting ws =
    eqb (number_at ws 0) version
    ∷ every (scanner_fits (from ws scanner_at))
    ∷ every (job_fits (from ws job_at))
    ∷ every (side_fits (from ws side_at))
    ∷ every (settings_fits (from ws settings_at))
    ∷ every (feeder_fits (from ws feeder_at))
    ∷ every (names_fits (from ws names_at))
    ∷ []

unfoldable pub all_fit : List ℕ → Bool
all_fit ws = every (fitting ws)

-- the record of numbers that fit
unfoldable pub recorded : List ℕ → Record
recorded ws =
    record {
      scanner = scanner_in (from ws scanner_at);
      job = job_in (from ws job_at);
      side = side_in (from ws side_at);
      settings = settings_in (from ws settings_at);
      feeder = feeder_in (from ws feeder_at);
      ring = ring_in (from ws ring_at);
      names = names_in (from ws names_at);
    }

-- the numbers are a record that is sound with a ring of n bytes
unfoldable pub is_box : List ℕ → ℕ → Bool
is_box ws n = all_fit ws && sound (recorded ws) n
