-- The record: the paper's numbers, the fresh record, and when a record is sound with a ring of n bytes.
use Rattle.std.specs.Prelude.{ℕ, ◌-◌, Bool, true, false, not, ◌&&◌, ◌||◌, cond, List, [], ◌∷◌, eqb, leb, ltb, ℤ, pos, negsuc}
use Rattle.rules.specs.declared.Scan.{Scan}
use Rattle.rules.specs.declared.Feed.{Feed}
use Rattle.rules.specs.declared.Failure.{Failure}
use Rattle.rules.specs.declared.Granted.{Granted}
use Rattle.rules.specs.declared.Job.{Job}
use Rattle.rules.specs.declared.Side.{Side}
use Rattle.rules.specs.declared.Settings.{Settings}
use Rattle.rules.specs.declared.Feeder.{Feeder}
use Rattle.rules.specs.declared.Ring.{Ring}
use Rattle.rules.specs.declared.Record.{Record}
use Rattle.rules.specs.Name.{name_stays}

-- ---- the paper's numbers
abbrev pub greatest : ℕ
greatest = 4294967295

abbrev pub usual_time : ℕ
usual_time = 60

abbrev pub least_time : ℕ
least_time = 5

abbrev pub most_time : ℕ
most_time = 600

abbrev pub fault_time : ℕ
fault_time = 300

abbrev pub last_side : ℕ
last_side = 999

abbrev pub most_sides : ℕ
most_sides = 999

abbrev pub most_ring : ℕ
most_ring = 65536

-- SideCount −1, and SideCount's bits as people read them
abbrev pub endless : ℕ
endless = greatest

abbrev pub negatives : ℕ
negatives = 2147483648

abbrev pub signed : ℕ → ℤ
signed c = cond (ltb c negatives) (pos c) (negsuc (greatest - c))

-- ---- words
-- Idle, Pending, Scanning, Finishing, Erred
abbrev pub idle : Scan → Bool
idle Scan.Idle = true
idle Scan.Pending = false
idle Scan.Scanning = false
idle Scan.Finishing = false
idle Scan.Erred = false

abbrev pub pending : Scan → Bool
pending Scan.Idle = false
pending Scan.Pending = true
pending Scan.Scanning = false
pending Scan.Finishing = false
pending Scan.Erred = false

abbrev pub scanning : Scan → Bool
scanning Scan.Idle = false
scanning Scan.Pending = false
scanning Scan.Scanning = true
scanning Scan.Finishing = false
scanning Scan.Erred = false

abbrev pub finishing : Scan → Bool
finishing Scan.Idle = false
finishing Scan.Pending = false
finishing Scan.Scanning = false
finishing Scan.Finishing = true
finishing Scan.Erred = false

abbrev pub erred : Scan → Bool
erred Scan.Idle = false
erred Scan.Pending = false
erred Scan.Scanning = false
erred Scan.Finishing = false
erred Scan.Erred = true

-- the feeder Unloaded, Busy, Erred
abbrev pub unloaded : Feed → Bool
unloaded Feed.Unloaded = true
unloaded Feed.Loaded = false
unloaded Feed.Busy = false
unloaded Feed.Erred = false

abbrev pub busy : Feed → Bool
busy Feed.Unloaded = false
busy Feed.Loaded = false
busy Feed.Busy = true
busy Feed.Erred = false

abbrev pub stuck : Feed → Bool
stuck Feed.Unloaded = false
stuck Feed.Loaded = false
stuck Feed.Busy = false
stuck Feed.Erred = true

-- a setting, mark or sensor is 1; it is 0 or 1
abbrev pub on : ℕ → Bool
on x = eqb x 1

abbrev pub marked : ℕ → Bool
marked x = leb x 1

-- a means b; a exactly when b
abbrev pub implies : Bool → Bool → Bool
implies a b = not a || b

abbrev pub exactly : Bool → Bool → Bool
exactly a b = a && b || not a && not b

-- ---- granted time: 0 gives 60; otherwise below 5 gives 5, above 600 gives 600
abbrev pub granting : ℕ → Granted
granting asked =
    cond (eqb asked 0) (record { seconds = usual_time })
    (cond (ltb asked least_time) (record { seconds = least_time })
    (cond (ltb most_time asked) (record { seconds = most_time }) (record { seconds = asked })))

-- the quiet seconds at which a held job ends: granted (300 in Erred)
abbrev pub limit : Scan → ℕ → ℕ
limit Scan.Idle granted = granted
limit Scan.Pending granted = granted
limit Scan.Scanning granted = granted
limit Scan.Finishing granted = granted
limit Scan.Erred granted = fault_time

-- ---- fresh: Idle, Unloaded, FailureCodes none, SideNumber 1, granted 60, both settings 1 and all else 0
abbrev pub fresh : Record
fresh =
    record {
      scanner = record { state = Scan.Idle; failure = Failure.None };
      job = record { held = 0; last = 0; granted = record { seconds = usual_time }; quiet = 0; stop = 0 };
      side = record { number = 1; count = 0; destination = 0 };
      settings = record { feeder = 1; append = 1 };
      feeder = record { state = Feed.Unloaded; failure = Failure.None; tray = 0; path = 0 };
      ring = record { start = 0; stored = 0 };
      names = record { last = record { first = 0; second = 0; third = 0; len = 0 } };
    }

-- ---- sound
-- every test of a list holds
abbrev pub every_after : Bool → List Bool → Bool
every_after so [] = so
every_after so (t ∷ ts) = every_after (so && t) ts

abbrev pub every : List Bool → Bool
every [] = true
every (t ∷ ts) = every_after t ts

-- SideCount is −1 to 999
abbrev pub counted : ℕ → Bool
counted c = leb c most_sides || eqb c endless

-- Idle exactly when job is 0; then SideNumber is 1, SideCount and quiet are 0 and no stop is asked
abbrev pub idle_points : Scan → Job → Side → List Bool
idle_points s j d =
    exactly (idle s) (eqb j.held 0)
    ∷ implies (idle s) (eqb d.number 1)
    ∷ implies (idle s) (eqb d.count 0)
    ∷ implies (idle s) (eqb j.quiet 0)
    ∷ implies (idle s) (not (on j.stop))
    ∷ []

-- SideNumber is 0 to 999 and SideCount −1 to 999. When held: job is the last number given, granted is 5 to 600,
-- quiet is below granted (in Erred, below 300)
abbrev pub held_points : Scan → Job → Side → List Bool
held_points s j d =
    leb d.number last_side
    ∷ counted d.count
    ∷ implies (not (idle s)) (eqb j.held j.last)
    ∷ implies (not (idle s)) (leb least_time j.granted.seconds)
    ∷ implies (not (idle s)) (leb j.granted.seconds most_time)
    ∷ implies (not (idle s)) (ltb j.quiet (limit s j.granted.seconds))
    ∷ []

-- The ring has 1 to 65,536 bytes; start is inside it; stored is at most its length. Stored is 0 outside Scanning and
-- Finishing, and at least 1 in Finishing
abbrev pub ring_points : Scan → Ring → ℕ → List Bool
ring_points s g n =
    leb 1 n
    ∷ leb n most_ring
    ∷ ltb g.start n
    ∷ leb g.stored n
    ∷ implies (not (scanning s || finishing s)) (eqb g.stored 0)
    ∷ implies (finishing s) (leb 1 g.stored)
    ∷ []

-- The feeder is Busy exactly when Scanning from the feeder; SideCount is then not 0. On the glass, SideCount is 1 in
-- Scanning and 0 in Finishing
abbrev pub feeder_points : Scan → Feed → Settings → Side → List Bool
feeder_points s f t d =
    exactly (busy f) (scanning s && on t.feeder)
    ∷ implies (busy f) (not (eqb d.count 0))
    ∷ implies (scanning s && not (on t.feeder)) (eqb d.count 1)
    ∷ implies (finishing s && not (on t.feeder)) (eqb d.count 0)
    ∷ []

-- Settings, marks and sensors are 0 or 1. Path sensor 1 means feeder Erred. A stop is asked only in Scanning or Finishing
abbrev pub mark_points : Scan → Settings → ℕ → Feeder → List Bool
mark_points s t stop f =
    marked t.feeder
    ∷ marked t.append
    ∷ marked stop
    ∷ marked f.tray
    ∷ marked f.path
    ∷ implies (on f.path) (stuck f.state)
    ∷ implies (on stop) (scanning s || finishing s)
    ∷ []

-- While a job is held, the last name is that job's (02, #101)
abbrev pub name_points : Record → List Bool
name_points r = implies (not (idle r.scanner.state)) (name_stays r) ∷ []

-- the paper's five points, and the name's
abbrev pub points : Record → ℕ → List Bool
points r n =
    every (idle_points r.scanner.state r.job r.side)
    ∷ every (held_points r.scanner.state r.job r.side)
    ∷ every (ring_points r.scanner.state r.ring n)
    ∷ every (feeder_points r.scanner.state r.feeder.state r.settings r.side)
    ∷ every (mark_points r.scanner.state r.settings r.job.stop r.feeder)
    ∷ every (name_points r)
    ∷ []

unfoldable pub sound : Record → ℕ → Bool
sound r n = every (points r n)
