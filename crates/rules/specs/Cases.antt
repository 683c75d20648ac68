-- What a case is, and the literal parts that cases are made of. None of it is made by the box's own moves.
use Rattle.std.specs.Prelude.{ℕ, ◌≡◌, Bool, ◌&&◌, cond, List, [], ◌∷◌, ◌++◌, eqb, replicate}
use Prim.Native.String.{String}
use Rattle.rules.specs.declared.Scan.{Scan}
use Rattle.rules.specs.declared.Scan.TheVariants.{Idle, Pending, Scanning, Finishing, Erred}
use Rattle.rules.specs.declared.Feed.{Feed}
use Rattle.rules.specs.declared.Feed.TheVariants.{Loaded, Busy}
use Rattle.rules.specs.declared.Failure.{Failure}
use Rattle.rules.specs.declared.Failure.TheVariants.{Jammed, Timeout}
use Rattle.rules.specs.declared.Scanner.{Scanner}
use Rattle.rules.specs.declared.Job.{Job}
use Rattle.rules.specs.declared.Side.{Side}
use Rattle.rules.specs.declared.Settings.{Settings}
use Rattle.rules.specs.declared.Feeder.{Feeder}
use Rattle.rules.specs.declared.Ring.{Ring}
use Rattle.rules.specs.declared.Named.{Named}
use Rattle.rules.specs.declared.Record.{Record}
use Rattle.rules.specs.Record.{sound}
use Rattle.rules.specs.Feeder.{fed}
use Rattle.rules.specs.Name.{name_of, spelt}
use Rattle.rules.specs.Moves.{begun, released, given, readied, started, stopped, drained, moved, fetched, filled, finished, side_ended, pathed, ticked}
use Rattle.rules.specs.Calls.{Tick, Call, report, State, Values, nothing, picture, stored, Outcome, answer}
use Rattle.rules.specs.Machine.{run_by, scan_refusals, feeder_refusals, report_refusals, refusals, scan_effect, feeder_effect, report_effect, effect, step}
use Rattle.rules.specs.Machine.{run}

-- ---- a case: what it says, what the definitions give, what the paper says, and that the two are equal
pub record Case (A : Type 0) : Type 0 where
  pub says : String
  pub gives : A
  pub due : A
  pub holds : gives ≡ due

abbrev pub Right : {A : Type 0} → Case A → Type 0
Right c = c.gives ≡ c.due

abbrev pub that : {A : Type 0} (says : String) (gives due : A) → gives ≡ due → Case A
that says gives due e = record { says = says; gives = gives; due = due; holds = e }

-- the outcome of a call after others
unfoldable pub final : State → List Call → Call → Outcome
unfolding run_by step answer scan_refusals feeder_refusals report_refusals refusals scan_effect feeder_effect report_effect effect sound fed begun
    released given readied started stopped name_of spelt drained moved fetched filled finished side_ended pathed ticked
final s cs c = step (run s cs).end c

-- ---- literal parts, their numbers in the order of src/lib.rt
-- scan state, FailureCode
abbrev pub scanner : Scan → Failure → Scanner
scanner s why = record { state = s; failure = why }

-- the job held, the last number given, granted, quiet, stop asked
abbrev pub job : ℕ → ℕ → ℕ → ℕ → ℕ → Job
job held last granted quiet stop = record { held = held; last = last; granted = record { seconds = granted }; quiet = quiet; stop = stop }

-- SideNumber, SideCount, DestinationID
abbrev pub side : ℕ → ℕ → ℕ → Side
side number count destination = record { number = number; count = count; destination = destination }

-- UseFeeder, Append
abbrev pub settings : ℕ → ℕ → Settings
settings from append = record { feeder = from; append = append }

-- feeder state, FailureCode, MorePages, path sensor
abbrev pub feed : Feed → Failure → ℕ → ℕ → Feeder
feed x why tray path = record { state = x; failure = why; tray = tray; path = path }

-- start, stored
abbrev pub ring : ℕ → ℕ → Ring
ring start count = record { start = start; stored = count }

-- a kept name: bytes 1 to 8, 9 to 16, 17 and 18, and its length
abbrev pub kept : ℕ → ℕ → ℕ → ℕ → Named
kept first second third len = record { first = first; second = second; third = third; len = len }

-- kept names: none, of a job, of a job's side
abbrev pub no_name : Named
no_name = kept 0 0 0 0

abbrev pub k0 : Named
k0 = kept 0x4A30303030303030 0x3030302E6A706700 0 15

abbrev pub k1 : Named
k1 = kept 0x4A30303030303030 0x3030312E6A706700 0 15

abbrev pub k1-001 : Named
k1-001 = kept 0x4A30303030303030 0x3030313030312E6A 0x7067 18

abbrev pub k1-002 : Named
k1-002 = kept 0x4A30303030303030 0x3030313030322E6A 0x7067 18

abbrev pub k2 : Named
k2 = kept 0x4A30303030303030 0x3030322E6A706700 0 15

abbrev pub k31 : Named
k31 = kept 0x4A30303030303030 0x3033312E6A706700 0 15

abbrev pub k31-046 : Named
k31-046 = kept 0x4A30303030303030 0x3033313034362E6A 0x7067 18

abbrev pub k34 : Named
k34 = kept 0x4A30303030303030 0x3033342E6A706700 0 15

abbrev pub k41 : Named
k41 = kept 0x4A30303030303030 0x3034312E6A706700 0 15

abbrev pub k41-000 : Named
k41-000 = kept 0x4A30303030303030 0x3034313030302E6A 0x7067 18

abbrev pub k41-006 : Named
k41-006 = kept 0x4A30303030303030 0x3034313030362E6A 0x7067 18

abbrev pub k41-007 : Named
k41-007 = kept 0x4A30303030303030 0x3034313030372E6A 0x7067 18

abbrev pub k41-999 : Named
k41-999 = kept 0x4A30303030303030 0x3034313939392E6A 0x7067 18

abbrev pub k42 : Named
k42 = kept 0x4A30303030303030 0x3034322E6A706700 0 15

abbrev pub k42-001 : Named
k42-001 = kept 0x4A30303030303030 0x3034323030312E6A 0x7067 18

abbrev pub k43-001 : Named
k43-001 = kept 0x4A30303030303030 0x3034333030312E6A 0x7067 18

abbrev pub k1234567890 : Named
k1234567890 = kept 0x4A31323334353637 0x3839302E6A706700 0 15

abbrev pub k1234567890-987 : Named
k1234567890-987 = kept 0x4A31323334353637 0x3839303938372E6A 0x7067 18

abbrev pub k4294967294 : Named
k4294967294 = kept 0x4A34323934393637 0x3239342E6A706700 0 15

abbrev pub k4294967295 : Named
k4294967295 = kept 0x4A34323934393637 0x3239352E6A706700 0 15

abbrev pub k4294967295-001 : Named
k4294967295-001 = kept 0x4A34323934393637 0x3239353030312E6A 0x7067 18

abbrev pub k4294967295-999 : Named
k4294967295-999 = kept 0x4A34323934393637 0x3239353939392E6A 0x7067 18

-- of those that boxes have in the cases: the one of a job, and of a job's side
abbrev pub job_kept : ℕ → Named
job_kept j =
    cond (eqb j 0) k0
    (cond (eqb j 1) k1
    (cond (eqb j 2) k2
    (cond (eqb j 41) k41
    (cond (eqb j 42) k42
    (cond (eqb j 1234567890) k1234567890
    (cond (eqb j 4294967294) k4294967294
    (cond (eqb j 4294967295) k4294967295 no_name)))))))

abbrev pub side_kept : ℕ → ℕ → Named
side_kept j number =
    cond (eqb j 1 && eqb number 1) k1-001
    (cond (eqb j 1 && eqb number 2) k1-002
    (cond (eqb j 41 && eqb number 0) k41-000
    (cond (eqb j 41 && eqb number 6) k41-006
    (cond (eqb j 41 && eqb number 7) k41-007
    (cond (eqb j 41 && eqb number 999) k41-999
    (cond (eqb j 42 && eqb number 1) k42-001
    (cond (eqb j 1234567890 && eqb number 987) k1234567890-987
    (cond (eqb j 4294967295 && eqb number 1) k4294967295-001
    (cond (eqb j 4294967295 && eqb number 999) k4294967295-999 no_name)))))))))

-- the last name: the one of the job held; in Idle, the one of the last job's sixth side, in which most cases start. Literal numbers, so that
-- a comparison computes the other side alone
abbrev pub lately : Job → Side → Settings → Named
lately j d t =
    let held = cond (eqb j.held 0) j.last j.held in
    let number = cond (eqb j.held 0) 6 d.number in
    cond (eqb t.append 1) (side_kept held number) (job_kept held)

abbrev pub box : Scanner → Job → Side → Settings → Feeder → Ring → Record
box s j d t f g = record { scanner = s; job = j; side = d; settings = t; feeder = f; ring = g; names = record { last = lately j d t } }

-- with another last name
abbrev pub called_last : Named → Record → Record
called_last x r =
    record {
      scanner = r.scanner;
      job = r.job;
      side = r.side;
      settings = r.settings;
      feeder = r.feeder;
      ring = r.ring;
      names = record { last = x };
    }

-- SideCount −1 and −2 in two's complement
abbrev pub minus_one : ℕ
minus_one = 4294967295

abbrev pub minus_two : ℕ
minus_two = 4294967294

-- a lent ring of five bytes, a lent reply of nine
abbrev pub five : List ℕ
five = 21 ∷ 22 ∷ 23 ∷ 24 ∷ 25 ∷ []

abbrev pub nine : List ℕ
nine = 61 ∷ 62 ∷ 63 ∷ 64 ∷ 65 ∷ 66 ∷ 67 ∷ 68 ∷ 69 ∷ []

-- names: of a job, of a job's side
abbrev pub j41 : List ℕ
j41 = 74 ∷ 48 ∷ 48 ∷ 48 ∷ 48 ∷ 48 ∷ 48 ∷ 48 ∷ 48 ∷ 52 ∷ 49 ∷ 46 ∷ 106 ∷ 112 ∷ 103 ∷ []

abbrev pub j41-006 : List ℕ
j41-006 = 74 ∷ 48 ∷ 48 ∷ 48 ∷ 48 ∷ 48 ∷ 48 ∷ 48 ∷ 48 ∷ 52 ∷ 49 ∷ 48 ∷ 48 ∷ 54 ∷ 46 ∷ 106 ∷ 112 ∷ 103 ∷ []

abbrev pub j41-007 : List ℕ
j41-007 = 74 ∷ 48 ∷ 48 ∷ 48 ∷ 48 ∷ 48 ∷ 48 ∷ 48 ∷ 48 ∷ 52 ∷ 49 ∷ 48 ∷ 48 ∷ 55 ∷ 46 ∷ 106 ∷ 112 ∷ 103 ∷ []

abbrev pub j41-000 : List ℕ
j41-000 = 74 ∷ 48 ∷ 48 ∷ 48 ∷ 48 ∷ 48 ∷ 48 ∷ 48 ∷ 48 ∷ 52 ∷ 49 ∷ 48 ∷ 48 ∷ 48 ∷ 46 ∷ 106 ∷ 112 ∷ 103 ∷ []

abbrev pub j41-999 : List ℕ
j41-999 = 74 ∷ 48 ∷ 48 ∷ 48 ∷ 48 ∷ 48 ∷ 48 ∷ 48 ∷ 48 ∷ 52 ∷ 49 ∷ 57 ∷ 57 ∷ 57 ∷ 46 ∷ 106 ∷ 112 ∷ 103 ∷ []

abbrev pub j42 : List ℕ
j42 = 74 ∷ 48 ∷ 48 ∷ 48 ∷ 48 ∷ 48 ∷ 48 ∷ 48 ∷ 48 ∷ 52 ∷ 50 ∷ 46 ∷ 106 ∷ 112 ∷ 103 ∷ []

abbrev pub j42-001 : List ℕ
j42-001 = 74 ∷ 48 ∷ 48 ∷ 48 ∷ 48 ∷ 48 ∷ 48 ∷ 48 ∷ 48 ∷ 52 ∷ 50 ∷ 48 ∷ 48 ∷ 49 ∷ 46 ∷ 106 ∷ 112 ∷ 103 ∷ []

abbrev pub j42-002 : List ℕ
j42-002 = 74 ∷ 48 ∷ 48 ∷ 48 ∷ 48 ∷ 48 ∷ 48 ∷ 48 ∷ 48 ∷ 52 ∷ 50 ∷ 48 ∷ 48 ∷ 50 ∷ 46 ∷ 106 ∷ 112 ∷ 103 ∷ []

abbrev pub j43-001 : List ℕ
j43-001 = 74 ∷ 48 ∷ 48 ∷ 48 ∷ 48 ∷ 48 ∷ 48 ∷ 48 ∷ 48 ∷ 52 ∷ 51 ∷ 48 ∷ 48 ∷ 49 ∷ 46 ∷ 106 ∷ 112 ∷ 103 ∷ []

abbrev pub j0-001 : List ℕ
j0-001 = 74 ∷ 48 ∷ 48 ∷ 48 ∷ 48 ∷ 48 ∷ 48 ∷ 48 ∷ 48 ∷ 48 ∷ 48 ∷ 48 ∷ 48 ∷ 49 ∷ 46 ∷ 106 ∷ 112 ∷ 103 ∷ []

abbrev pub j1234567890 : List ℕ
j1234567890 = 74 ∷ 49 ∷ 50 ∷ 51 ∷ 52 ∷ 53 ∷ 54 ∷ 55 ∷ 56 ∷ 57 ∷ 48 ∷ 46 ∷ 106 ∷ 112 ∷ 103 ∷ []

abbrev pub j1234567890-987 : List ℕ
j1234567890-987 = 74 ∷ 49 ∷ 50 ∷ 51 ∷ 52 ∷ 53 ∷ 54 ∷ 55 ∷ 56 ∷ 57 ∷ 48 ∷ 57 ∷ 56 ∷ 55 ∷ 46 ∷ 106 ∷ 112 ∷ 103 ∷ []

abbrev pub j4294967295-999 : List ℕ
j4294967295-999 = 74 ∷ 52 ∷ 50 ∷ 57 ∷ 52 ∷ 57 ∷ 54 ∷ 55 ∷ 50 ∷ 57 ∷ 53 ∷ 57 ∷ 57 ∷ 57 ∷ 46 ∷ 106 ∷ 112 ∷ 103 ∷ []

abbrev pub j1-001 : List ℕ
j1-001 = 74 ∷ 48 ∷ 48 ∷ 48 ∷ 48 ∷ 48 ∷ 48 ∷ 48 ∷ 48 ∷ 48 ∷ 49 ∷ 48 ∷ 48 ∷ 49 ∷ 46 ∷ 106 ∷ 112 ∷ 103 ∷ []

abbrev pub j1-002 : List ℕ
j1-002 = 74 ∷ 48 ∷ 48 ∷ 48 ∷ 48 ∷ 48 ∷ 48 ∷ 48 ∷ 48 ∷ 48 ∷ 49 ∷ 48 ∷ 48 ∷ 50 ∷ 46 ∷ 106 ∷ 112 ∷ 103 ∷ []

abbrev pub j31 : List ℕ
j31 = 74 ∷ 48 ∷ 48 ∷ 48 ∷ 48 ∷ 48 ∷ 48 ∷ 48 ∷ 48 ∷ 51 ∷ 49 ∷ 46 ∷ 106 ∷ 112 ∷ 103 ∷ []

abbrev pub j31-046 : List ℕ
j31-046 = 74 ∷ 48 ∷ 48 ∷ 48 ∷ 48 ∷ 48 ∷ 48 ∷ 48 ∷ 48 ∷ 51 ∷ 49 ∷ 48 ∷ 52 ∷ 54 ∷ 46 ∷ 106 ∷ 112 ∷ 103 ∷ []

abbrev pub j34 : List ℕ
j34 = 74 ∷ 48 ∷ 48 ∷ 48 ∷ 48 ∷ 48 ∷ 48 ∷ 48 ∷ 48 ∷ 51 ∷ 52 ∷ 46 ∷ 106 ∷ 112 ∷ 103 ∷ []

abbrev pub j2 : List ℕ
j2 = 74 ∷ 48 ∷ 48 ∷ 48 ∷ 48 ∷ 48 ∷ 48 ∷ 48 ∷ 48 ∷ 48 ∷ 50 ∷ 46 ∷ 106 ∷ 112 ∷ 103 ∷ []

-- ---- outcomes: number, values, record, ring and reply
abbrev pub out : ℕ → Values → Record → List ℕ → List ℕ → Outcome
out n v r bytes reply = record { number = n; values = v; state = record { box = r; bytes = bytes }; reply = reply }

-- accepted, the ring of five as it came: with nothing to tell, or with these values
abbrev pub done : Record → Outcome
done r = out 0 nothing r five []

abbrev pub taking : Values → Record → Outcome
taking v r = out 0 v r five []

-- a fetch: head, picture bytes, later bytes of the reply
abbrev pub sent : ℕ → Bool → List ℕ → List ℕ → Record → Outcome
sent k last bytes later r = out 0 (picture k last bytes) r five (0xA5 ∷ 0x5A ∷ 0x06 ∷ k ∷ bytes ++ later)

-- Bytes: how many went in, and the ring then
abbrev pub took : ℕ → List ℕ → Record → Outcome
took k bytes r = out 0 (stored k) r bytes []

-- ---- cases of calls
abbrev pub afterwards : (says : String) (s : State) (cs : List Call) (c : Call) (due : Outcome) → final s cs c ≡ due → Case Outcome
afterwards says s cs c due e = that says (final s cs c) due e

abbrev pub case : (says : String) (s : State) (c : Call) (due : Outcome) → final s [] c ≡ due → Case Outcome
case says s c due e = afterwards says s [] c due e

-- refused, all as it was, and no reply lent
abbrev pub refusing : ℕ → State → Outcome
refusing n s = out n nothing s.box s.bytes []

abbrev pub keeps : (says : String) (s : State) (c : Call) (n : ℕ) → final s [] c ≡ refusing n s → Case Outcome
keeps says s c n e = afterwards says s [] c (refusing n s) e

abbrev pub tickings : ℕ → List Call
tickings n = replicate n (report Tick)

-- a call and its outcome, in a list of calls
pub record Turn : Type 0 where
  pub call : Call
  pub outcome : Outcome

abbrev pub turn : Call → Outcome → Turn
turn c o = record { call = c; outcome = o }

abbrev pub turn_call : Turn → Call
turn_call t = t.call

abbrev pub outcome_of : Turn → Outcome
outcome_of t = t.outcome

-- ---- where cases start: sound boxes in which the numbers differ that can
abbrev pub boxed : Record → List ℕ → State
boxed r bytes = record { box = r; bytes = bytes }

abbrev pub at : Record → State
at r = boxed r five

-- Idle
abbrev pub resting : Settings → Feeder → State
resting t f = at (box (scanner Idle Timeout) (job 0 41 77 0 0) (side 1 0 90) t f (ring 3 0))

-- the same after another last name
abbrev pub resting_after : Named → Settings → Feeder → State
resting_after x t f = at (called_last x (box (scanner Idle Timeout) (job 0 41 77 0 0) (side 1 0 90) t f (ring 3 0)))

-- job 41 Pending, with 8 sides due
abbrev pub holding : Settings → Feeder → State
holding t f = at (box (scanner Pending Timeout) (job 41 41 77 13 0) (side 6 8 90) t f (ring 3 0))

-- Scanning from the feeder: stop asked, SideCount, ring; the same with the last sheet drawn
abbrev pub drawing : ℕ → ℕ → Ring → State
drawing stop count g = at (box (scanner Scanning Timeout) (job 41 41 77 13 stop) (side 6 count 90) (settings 1 0) (feed Busy Jammed 1 0) g)

abbrev pub drawing_last : ℕ → ℕ → Ring → State
drawing_last stop count g = at (box (scanner Scanning Timeout) (job 41 41 77 13 stop) (side 6 count 90) (settings 1 0) (feed Busy Jammed 0 0) g)

-- Scanning from the feeder with Append: stop asked, SideCount, MorePages, ring
abbrev pub drawing_numbered : ℕ → ℕ → ℕ → Ring → State
drawing_numbered stop count tray g =
    at (box (scanner Scanning Timeout) (job 41 41 77 13 stop) (side 6 count 90) (settings 1 1) (feed Busy Jammed tray 0) g)

-- Scanning on the glass: stop asked, feeder, ring
abbrev pub copying : ℕ → Feeder → Ring → State
copying stop f g = at (box (scanner Scanning Timeout) (job 41 41 77 13 stop) (side 6 1 90) (settings 0 1) f g)

-- Finishing from the feeder: stop asked, SideCount, feeder, ring
abbrev pub draining : ℕ → ℕ → Feeder → Ring → State
draining stop count f g = at (box (scanner Finishing Timeout) (job 41 41 77 13 stop) (side 6 count 90) (settings 1 0) f g)

-- the same with Append
abbrev pub draining_numbered : ℕ → ℕ → Feeder → Ring → State
draining_numbered stop count f g = at (box (scanner Finishing Timeout) (job 41 41 77 13 stop) (side 6 count 90) (settings 1 1) f g)

-- Finishing on the glass: stop asked, feeder, ring
abbrev pub clearing : ℕ → Feeder → Ring → State
clearing stop f g = at (box (scanner Finishing Timeout) (job 41 41 77 13 stop) (side 6 0 90) (settings 0 1) f g)

-- Erred
abbrev pub faulty : Settings → Feeder → State
faulty t f = at (box (scanner Erred Timeout) (job 41 41 77 13 0) (side 6 8 90) t f (ring 3 0))

-- not sound: Idle with quiet 13
abbrev pub unsound_state : State
unsound_state = at (box (scanner Idle Timeout) (job 0 41 77 13 0) (side 1 0 90) (settings 1 0) (feed Loaded Jammed 1 0) (ring 3 0))
