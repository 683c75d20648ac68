-- A list of calls as a watcher sees it: what happened, newest first. The seconds, the granted time, the job's ordinal, whose
-- the waiting bytes are, whether a stop is asked and which name was the last come from that alone; the watcher never reads
-- quiet, granted, the stop mark, the ring, DestinationID or the last name.
use Rattle.std.specs.Prelude.{ℕ, suc, Bool, true, false, not, ◌&&◌, ◌||◌, cond, List, [], ◌∷◌, ◌++◌, map, eqb, leb, length, drop}
use Rattle.std.proofs.Math.Option.{Option, none, some}
use Rattle.rules.specs.declared.Scan.{Scan}
use Rattle.rules.specs.Record.{fault_time, usual_time, idle, scanning, erred}
use Rattle.rules.specs.Name.{name, same}
use Rattle.rules.specs.Calls.{ScanCall, StartScan, Start, Stop, Abort, GetDestination, Fetch, GetState, GetSideInformation, Report, Bytes, SideEnded}
use Rattle.rules.specs.Calls.{Tray, Path, Tick, Call, scan, feeder, report, State, Values, nothing, time, destination, picture, state, sides, feeding}
use Rattle.rules.specs.Calls.{mode, stored, Outcome}
use Rattle.rules.specs.Machine.{step, start}

-- ---- what a call was, the scan state before it, and its outcome
pub record Event : Type 0 where
  pub before : Scan
  pub call : Call
  pub outcome : Outcome

abbrev pub scan_of : State → Scan
scan_of s = s.box.scanner.state

-- 0 is acceptance
abbrev pub was_accepted : Outcome → Bool
was_accepted o = eqb o.number 0

-- k of a fetch, and its bytes
abbrev pub picture_in : Values → ℕ × List ℕ
picture_in nothing = (0, [])
picture_in (time t) = (0, [])
picture_in (destination n i) = (0, [])
picture_in (picture k l bs) = (k, bs)
picture_in (state s f) = (0, [])
picture_in (sides n c l) = (0, [])
picture_in (feeding f t x) = (0, [])
picture_in (mode m) = (0, [])
picture_in (stored k) = (0, [])

abbrev pub count_in : Values → ℕ
count_in v = (picture_in v).0

abbrev pub bytes_in : Values → List ℕ
bytes_in v = (picture_in v).1

-- the granted time that an accepted StartScan answers
abbrev pub time_in : Values → Option ℕ
time_in nothing = none
time_in (time t) = some t
time_in (destination n i) = none
time_in (picture k l bs) = none
time_in (state s f) = none
time_in (sides n c l) = none
time_in (feeding f t x) = none
time_in (mode m) = none
time_in (stored k) = none

-- ---- signs of life: accepted StartScan or Start; a fetch with k of 1 or more
abbrev pub scan_sign : ScanCall → Outcome → Bool
scan_sign (StartScan from c append asked) o = was_accepted o
scan_sign (Start j from c) o = was_accepted o
scan_sign (Stop j) o = false
scan_sign (Abort j) o = false
scan_sign (GetDestination j) o = false
scan_sign (Fetch name most reply) o = leb 1 (count_in o.values)
scan_sign GetState o = false
scan_sign GetSideInformation o = false

-- accepted Bytes of 1 or more; accepted Side ended; a Path report that turns Scanning into Erred
abbrev pub report_sign : Report → Scan → Outcome → Bool
report_sign (Bytes bs) before o = was_accepted o && leb 1 (length bs)
report_sign SideEnded before o = was_accepted o
report_sign (Tray v) before o = false
report_sign (Path v) before o = scanning before && erred (scan_of o.state)
report_sign Tick before o = false

-- nothing else
abbrev pub sign : Call → Scan → Outcome → Bool
sign (scan c) before o = scan_sign c o
sign (feeder c) before o = false
sign (report c) before o = report_sign c before o

-- ---- a second is a Tick
abbrev pub report_ticks : Report → Bool
report_ticks (Bytes bs) = false
report_ticks SideEnded = false
report_ticks (Tray v) = false
report_ticks (Path v) = false
report_ticks Tick = true

abbrev pub ticks : Call → Bool
ticks (scan c) = false
ticks (feeder c) = false
ticks (report c) = report_ticks c

-- the seconds are the Ticks since the last sign of life, counted over the list
abbrev pub counting : Bool → Bool → ℕ → ℕ
counting true tick n = 0
counting false true n = suc n
counting false false n = n

abbrev pub seconds : List Event → ℕ
seconds [] = 0
seconds (e ∷ es) = counting (sign e.call e.before e.outcome) (ticks e.call) (seconds es)

-- ---- the time that the last accepted StartScan answered
abbrev pub or_else : Option ℕ → ℕ → ℕ
or_else none g = g
or_else (some t) g = t

abbrev pub time_answered : List Event → ℕ
time_answered [] = usual_time
time_answered (e ∷ es) = or_else (time_in e.outcome.values) (time_answered es)

-- ---- the job's ordinal: one more with each accepted StartScan; a number given again is a new job
abbrev pub plus_one : Option ℕ → ℕ → ℕ
plus_one none n = n
plus_one (some t) n = suc n

abbrev pub ordinal : List Event → ℕ
ordinal [] = 0
ordinal (e ∷ es) = plus_one (time_in e.outcome.values) (ordinal es)

-- ---- pictures: a job's are the bytes accepted while it was held
pub record Tagged : Type 0 where
  pub job : ℕ
  pub byte : ℕ

abbrev pub tag : ℕ → ℕ → Tagged
tag j x = record { job = j; byte = x }

abbrev pub byte_of : Tagged → ℕ
byte_of t = t.byte

abbrev pub report_bytes : Report → List ℕ
report_bytes (Bytes bs) = bs
report_bytes SideEnded = []
report_bytes (Tray v) = []
report_bytes (Path v) = []
report_bytes Tick = []

abbrev pub call_bytes : Call → List ℕ
call_bytes (scan c) = []
call_bytes (feeder c) = []
call_bytes (report c) = report_bytes c

abbrev pub brought : Call → Outcome → List ℕ
brought c o = cond (was_accepted o) (call_bytes c) []

-- all bytes ever accepted, oldest first
abbrev pub bytes_accepted : List Event → List Tagged
bytes_accepted [] = []
bytes_accepted (e ∷ es) = bytes_accepted es ++ map (tag (ordinal (e ∷ es))) (brought e.call e.outcome)

-- those that wait: a fetch takes k from the front; the end of a job and a jam leave none
abbrev pub wasted : Scan → Bool
wasted s = idle s || erred s

abbrev pub waiting : List Event → List Tagged
waiting [] = []
waiting (e ∷ es) =
    cond (wasted (scan_of e.outcome.state)) []
    (drop (count_in e.outcome.values) (waiting es) ++ map (tag (ordinal (e ∷ es))) (brought e.call e.outcome))

-- ---- a side begins: Scanning after a call before which it was not, or after an accepted Side ended
abbrev pub report_ends : Report → Bool
report_ends (Bytes bs) = false
report_ends SideEnded = true
report_ends (Tray v) = false
report_ends (Path v) = false
report_ends Tick = false

abbrev pub ends_side : Call → Outcome → Bool
ends_side (scan c) o = false
ends_side (feeder c) o = false
ends_side (report c) o = report_ends c && was_accepted o

abbrev pub begins : Call → Scan → Outcome → Bool
begins c before o = scanning (scan_of o.state) && (not (scanning before) || ends_side c o)

-- an accepted Stop
abbrev pub scan_asks : ScanCall → Bool
scan_asks (StartScan from c append asked) = false
scan_asks (Start j from c) = false
scan_asks (Stop j) = true
scan_asks (Abort j) = false
scan_asks (GetDestination j) = false
scan_asks (Fetch name most reply) = false
scan_asks GetState = false
scan_asks GetSideInformation = false

abbrev pub asks : Call → Outcome → Bool
asks (scan c) o = scan_asks c && was_accepted o
asks (feeder c) o = false
asks (report c) o = false

-- a Stop was accepted since the side began
abbrev pub stop_asked : List Event → Bool
stop_asked [] = false
stop_asked (e ∷ es) = not (begins e.call e.before e.outcome) && (asks e.call e.outcome || stop_asked es)

-- ---- names: the last that any job held; none before the first job
abbrev pub last_name : List Event → List ℕ
last_name [] = []
last_name (e ∷ es) = cond (idle (scan_of e.outcome.state)) (last_name es) (name e.outcome.state.box)

-- a change: a job is held after the call, and its name differs from the last name that any job held before it
abbrev pub changes : List Event → Outcome → Bool
changes es o = not (idle (scan_of o.state)) && not (same (name o.state.box) (last_name es))

-- how many there were
abbrev pub changed : List Event → ℕ
changed [] = 0
changed (e ∷ es) = cond (changes es e.outcome) (suc (changed es)) (changed es)

-- ---- a box, and what has happened to it
pub record World : Type 0 where
  pub now : State
  pub past : List Event

unfoldable pub after : World → Call → World
after w c =
    record {
      now = (step w.now c).state;
      past = record { before = scan_of w.now; call = c; outcome = step w.now c } ∷ w.past;
    }

unfoldable pub live : World → List Call → World
live w [] = w
live w (c ∷ cs) = live (after w c) cs

abbrev pub born : List ℕ → World
born ring = record { now = start ring; past = [] }

abbrev pub lived : List ℕ → List Call → World
lived ring cs = live (born ring) cs

-- the job held, by its ordinal; none in Idle
abbrev pub holder : World → Option ℕ
holder w = cond (idle (scan_of w.now)) none (some (ordinal w.past))

-- the outcomes that the watcher saw, oldest first, before others
abbrev pub told : List Event → List Outcome → List Outcome
told [] os = os
told (e ∷ es) os = told es (e.outcome ∷ os)

-- the second at which the job held ends: its granted time (300 in a fault)
abbrev pub due_second : World → ℕ
due_second w = cond (erred (scan_of w.now)) fault_time (time_answered w.past)
