-- The paper's cases: after which calls, which call, and its whole outcome. A definition that is wrong fails at the line of a case.
use Rattle.std.specs.Prelude.{ℕ, ◌≡◌, refl, Bool, true, false, Option, Some, None, List, [], ◌∷◌, ◌++◌, map, replicate}
use Rattle.rules.specs.declared.Scan.{Scan}
use Rattle.rules.specs.declared.Scan.TheVariants.{Idle, Pending, Scanning, Finishing, Erred}
use Rattle.rules.specs.declared.Feed.{Feed}
use Rattle.rules.specs.declared.Feed.TheVariants.{Unloaded, Loaded, Busy, Erred as Stuck}
use Rattle.rules.specs.declared.Failure.TheVariants.{None, Jammed, Timeout}
use Rattle.rules.specs.declared.Scanner.{Scanner}
use Rattle.rules.specs.declared.Job.{Job}
use Rattle.rules.specs.declared.Side.{Side}
use Rattle.rules.specs.declared.Settings.{Settings}
use Rattle.rules.specs.declared.Feeder.{Feeder}
use Rattle.rules.specs.declared.Ring.{Ring}
use Rattle.rules.specs.declared.Input.{Input}
use Rattle.rules.specs.declared.Denial.{Denial}
use Rattle.rules.specs.declared.Record.{Record}
use Rattle.rules.specs.Feeder.{stands, fails, tray_at, path_at, reason_for, fed}
use Rattle.rules.specs.Moves.{with_scanner, with_job, with_side, with_settings, with_feeder, with_ring, with_names, standing, quiet_at, stop_at, count_at, emptied}
use Rattle.rules.specs.Moves.{heard, announced, begun, released, ended, timed_out, given, readied, started, stopped, numbered, faulted, waited, moved}
use Rattle.rules.specs.Moves.{filled, finished, caught, pathed, ticked}
use Rattle.rules.specs.Name.{name}
use Rattle.rules.specs.Calls.{StartScan, Start, Stop, Abort, GetDestination, Fetch, GetState, GetSideInformation, Load, Eject, Reset, SetFeederMode}
use Rattle.rules.specs.Calls.{GetFeederState, GetFeederMode, Bytes, SideEnded, Tray, Path, Tick, scan, feeder, report, nothing, time, destination}
use Rattle.rules.specs.Calls.{picture, state, sides, feeding, mode, stored, Outcome, Reason, n604, n601, n712, n404, n501, n711, n713, n603, number_of}
use Rattle.rules.specs.Calls.{row_of, named, Guard, refuse, leaving, answer}
use Rattle.rules.specs.Machine.{run, start, all_guards, not_held, not_ours}
use Rattle.rules.specs.Cases.{Case, that, final, afterwards, case, keeps, tickings, at, boxed, resting, holding, drawing, drawing_last, copying, draining}
use Rattle.rules.specs.Cases.{clearing, faulty, unsound_state, out, done, taking, sent, took, box, scanner, job, side, settings, feed, ring, minus_one}
use Rattle.rules.specs.Cases.{minus_two, five, nine, j41, j41-006, j41-007, j42, j42-001, j0-001, j1234567890, j1234567890-987, j4294967295-999}
use Rattle.rules.specs.Cases.{j1-001, j1-002, j2, j41-999, drawing_numbered, draining_numbered, resting_after, Turn, turn, turn_call, outcome_of}
use Rattle.rules.specs.Cases.{kept, no_name, k1, k1-001, k1-002, k31, k31-046, k34, k41, k41-000, k41-006, k41-007, k42, k42-001, k43-001, called_last}

-- ---- both sides of each line: the cases marked *
pub starred : List (Case Outcome)
unfolding final
starred =
    case "asked 4: granted 5" (resting (settings 1 0) (feed Loaded Jammed 1 0)) (scan (StartScan 0 0 1 4))
    (taking (time 5) (box (scanner Pending None) (job 42 42 5 0 0) (side 1 0 91) (settings 0 1) (feed Loaded Jammed 1 0) (ring 3 0))) refl
    ∷ case "asked 5: granted 5" (resting (settings 1 0) (feed Loaded Jammed 1 0)) (scan (StartScan 0 0 1 5))
    (taking (time 5) (box (scanner Pending None) (job 42 42 5 0 0) (side 1 0 91) (settings 0 1) (feed Loaded Jammed 1 0) (ring 3 0))) refl
    ∷ case "asked 600: granted 600" (resting (settings 1 0) (feed Loaded Jammed 1 0)) (scan (StartScan 0 0 1 600))
    (taking (time 600) (box (scanner Pending None) (job 42 42 600 0 0) (side 1 0 91) (settings 0 1) (feed Loaded Jammed 1 0) (ring 3 0))) refl
    ∷ case "asked 601: granted 600" (resting (settings 1 0) (feed Loaded Jammed 1 0)) (scan (StartScan 0 0 1 601))
    (taking (time 600) (box (scanner Pending None) (job 42 42 600 0 0) (side 1 0 91) (settings 0 1) (feed Loaded Jammed 1 0) (ring 3 0))) refl
    ∷ case "asked 0: granted 60" (resting (settings 1 0) (feed Loaded Jammed 1 0)) (scan (StartScan 0 0 1 0))
    (taking (time 60) (box (scanner Pending None) (job 42 42 60 0 0) (side 1 0 91) (settings 0 1) (feed Loaded Jammed 1 0) (ring 3 0))) refl
    ∷ case "SideCount 999 taken" (resting (settings 1 0) (feed Loaded Jammed 1 0)) (scan (StartScan 1 999 1 123))
    (taking (time 123) (box (scanner Scanning None) (job 42 42 123 0 0) (side 1 999 91) (settings 1 1) (feed Busy Jammed 1 0) (ring 3 0))) refl
    ∷ keeps "SideCount 1000 is 601" (resting (settings 1 0) (feed Loaded Jammed 1 0)) (scan (StartScan 1 1000 1 123)) 601 refl
    ∷ keeps "SideCount −2 is 601" (resting (settings 1 0) (feed Loaded Jammed 1 0)) (scan (StartScan 1 minus_two 1 123)) 601 refl
    ∷ keeps "glass 2 is 601" (resting (settings 1 0) (feed Loaded Jammed 1 0)) (scan (StartScan 0 2 1 123)) 601 refl
    ∷ afterwards "granted 10, Pending: nine tickings hold it" (resting (settings 1 0) (feed Loaded Jammed 1 0))
    (scan (StartScan 0 0 1 10) ∷ tickings 8) (report Tick)
    (done (box (scanner Pending None) (job 42 42 10 9 0) (side 1 0 91) (settings 0 1) (feed Loaded Jammed 1 0) (ring 3 0))) refl
    ∷ afterwards "the tenth ends it" (resting (settings 1 0) (feed Loaded Jammed 1 0)) (scan (StartScan 0 0 1 10) ∷ tickings 9) (report Tick)
    (done (called_last k42-001 (box (scanner Idle Timeout) (job 0 42 10 0 0) (side 1 0 91) (settings 0 1) (feed Loaded Jammed 1 0) (ring 0 0)))) refl
    ∷ afterwards "an empty fetch afterwards the ninth" (resting (settings 1 0) (feed Loaded Jammed 1 0)) (scan (StartScan 0 0 1 10) ∷ tickings 9)
    (scan (Fetch j42-001 255 nine))
    (sent 0 false [] (65 ∷ 66 ∷ 67 ∷ 68 ∷ 69 ∷ [])
    (box (scanner Pending None) (job 42 42 10 9 0) (side 1 0 91) (settings 0 1) (feed Loaded Jammed 1 0) (ring 3 0))) refl
    ∷ afterwards "puts off nothing" (resting (settings 1 0) (feed Loaded Jammed 1 0))
    (scan (StartScan 0 0 1 10) ∷ tickings 9 ++ scan (Fetch j42-001 255 nine) ∷ [])
    (report Tick)
    (done (called_last k42-001 (box (scanner Idle Timeout) (job 0 42 10 0 0) (side 1 0 91) (settings 0 1) (feed Loaded Jammed 1 0) (ring 0 0)))) refl
    ∷ case "Load from Loaded, tray empty: 713, Unloaded" (resting (settings 1 0) (feed Loaded Jammed 0 0)) (feeder (Load 0))
    (out 713 nothing (box (scanner Idle Timeout) (job 0 41 77 0 0) (side 1 0 90) (settings 1 0) (feed Unloaded Jammed 0 0) (ring 3 0)) five []) refl
    ∷ case "Reset, path 1: accepted, Erred" (resting (settings 1 0) (feed Stuck Jammed 1 1)) (feeder (Reset 0))
    (done (box (scanner Idle Timeout) (job 0 41 77 0 0) (side 1 0 90) (settings 1 0) (feed Stuck Jammed 1 1) (ring 3 0))) refl
    ∷ keeps "job 0 to Load while held: 712" (holding (settings 1 0) (feed Loaded Jammed 1 0)) (feeder (Load 0)) 712 refl
    ∷ case "SideNumber 999 goes to 0"
    (at (box (scanner Scanning Timeout) (job 41 41 77 13 0) (side 999 1 90) (settings 0 1) (feed Loaded Jammed 1 0) (ring 3 0))) (report SideEnded)
    (done (box (scanner Pending Timeout) (job 41 41 77 0 0) (side 0 0 91) (settings 0 1) (feed Loaded Jammed 1 0) (ring 3 0))) refl
    ∷ case "job 4,294,967,295 is followed by 1"
    (at (box (scanner Idle Timeout) (job 0 4294967295 77 0 0) (side 1 0 90) (settings 1 0) (feed Loaded Jammed 1 0) (ring 3 0))) (scan (StartScan 0 0 1 123))
    (taking (time 123) (box (scanner Pending None) (job 1 1 123 0 0) (side 1 0 91) (settings 0 1) (feed Loaded Jammed 1 0) (ring 3 0))) refl
    ∷ []

-- ---- StartScan: settings stored, job is the last number plus 1, FailureCode none; the feeder's FailureCode, the sensors and the ring stay
pub start_scans : List (Case Outcome)
unfolding final
start_scans =
    case "from the feeder: Loaded becomes Busy, Scanning, DestinationID rises" (resting (settings 1 0) (feed Loaded Jammed 1 0)) (scan (StartScan 1 7 1 123))
    (taking (time 123) (box (scanner Scanning None) (job 42 42 123 0 0) (side 1 7 91) (settings 1 1) (feed Busy Jammed 1 0) (ring 3 0))) refl
    ∷ case "from the feeder: Unloaded with a sheet becomes Busy" (resting (settings 0 1) (feed Unloaded Jammed 1 0)) (scan (StartScan 1 2 0 123))
    (taking (time 123) (box (scanner Scanning None) (job 42 42 123 0 0) (side 1 2 91) (settings 1 0) (feed Busy Jammed 1 0) (ring 3 0))) refl
    ∷ case "from the feeder: Loaded with an empty tray becomes Busy" (resting (settings 0 0) (feed Loaded None 0 0)) (scan (StartScan 1 1 1 123))
    (taking (time 123) (box (scanner Scanning None) (job 42 42 123 0 0) (side 1 1 91) (settings 1 1) (feed Busy None 0 0) (ring 3 0))) refl
    ∷ case "on the glass: the feeder stays Loaded" (resting (settings 1 1) (feed Loaded Jammed 1 0)) (scan (StartScan 0 1 0 123))
    (taking (time 123) (box (scanner Scanning None) (job 42 42 123 0 0) (side 1 1 91) (settings 0 0) (feed Loaded Jammed 1 0) (ring 3 0))) refl
    ∷ case "on the glass: the feeder stays Unloaded, with an empty tray too" (resting (settings 1 1) (feed Unloaded Jammed 0 0)) (scan (StartScan 0 1 0 123))
    (taking (time 123) (box (scanner Scanning None) (job 42 42 123 0 0) (side 1 1 91) (settings 0 0) (feed Unloaded Jammed 0 0) (ring 3 0))) refl
    ∷ case "on the glass: the feeder stays Erred" (resting (settings 1 0) (feed Stuck Jammed 0 1)) (scan (StartScan 0 1 1 123))
    (taking (time 123) (box (scanner Scanning None) (job 42 42 123 0 0) (side 1 1 91) (settings 0 1) (feed Stuck Jammed 0 1) (ring 3 0))) refl
    ∷ case "device-setting keeps UseFeeder 1 and Append 0" (resting (settings 1 0) (feed Loaded Jammed 1 0)) (scan (StartScan 2 7 2 123))
    (taking (time 123) (box (scanner Scanning None) (job 42 42 123 0 0) (side 1 7 91) (settings 1 0) (feed Busy Jammed 1 0) (ring 3 0))) refl
    ∷ case "device-setting keeps UseFeeder 0 and Append 1" (resting (settings 0 1) (feed Loaded Jammed 1 0)) (scan (StartScan 2 1 2 123))
    (taking (time 123) (box (scanner Scanning None) (job 42 42 123 0 0) (side 1 1 91) (settings 0 1) (feed Loaded Jammed 1 0) (ring 3 0))) refl
    ∷ case "−1 from the feeder stays −1" (resting (settings 0 1) (feed Loaded Jammed 1 0)) (scan (StartScan 1 minus_one 0 123))
    (taking (time 123) (box (scanner Scanning None) (job 42 42 123 0 0) (side 1 minus_one 91) (settings 1 0) (feed Busy Jammed 1 0) (ring 3 0))) refl
    ∷ case "−1 on the glass is stored as 1" (resting (settings 1 1) (feed Loaded Jammed 1 0)) (scan (StartScan 0 minus_one 0 123))
    (taking (time 123) (box (scanner Scanning None) (job 42 42 123 0 0) (side 1 1 91) (settings 0 0) (feed Loaded Jammed 1 0) (ring 3 0))) refl
    ∷ case "SideCount 0 from the feeder: Pending, DestinationID rises" (resting (settings 0 1) (feed Loaded Jammed 1 0)) (scan (StartScan 1 0 0 123))
    (taking (time 123) (box (scanner Pending None) (job 42 42 123 0 0) (side 1 0 91) (settings 1 0) (feed Loaded Jammed 1 0) (ring 3 0))) refl
    ∷ case "SideCount 0 from an Erred feeder: Pending" (resting (settings 0 0) (feed Stuck Jammed 0 1)) (scan (StartScan 1 0 1 123))
    (taking (time 123) (box (scanner Pending None) (job 42 42 123 0 0) (side 1 0 91) (settings 1 1) (feed Stuck Jammed 0 1) (ring 3 0))) refl
    ∷ case "SideCount 0 from the feeder, no sheet: Pending" (resting (settings 0 0) (feed Unloaded Jammed 0 0)) (scan (StartScan 1 0 1 123))
    (taking (time 123) (box (scanner Pending None) (job 42 42 123 0 0) (side 1 0 91) (settings 1 1) (feed Unloaded Jammed 0 0) (ring 3 0))) refl
    ∷ case "SideCount 0 on the glass: Pending" (resting (settings 1 1) (feed Stuck Jammed 1 0)) (scan (StartScan 0 0 0 123))
    (taking (time 123) (box (scanner Pending None) (job 42 42 123 0 0) (side 1 0 91) (settings 0 0) (feed Stuck Jammed 1 0) (ring 3 0))) refl
    ∷ case "asked 1: granted 5" (resting (settings 1 0) (feed Loaded Jammed 1 0)) (scan (StartScan 0 0 1 1))
    (taking (time 5) (box (scanner Pending None) (job 42 42 5 0 0) (side 1 0 91) (settings 0 1) (feed Loaded Jammed 1 0) (ring 3 0))) refl
    ∷ case "asked 6: granted 6" (resting (settings 1 0) (feed Loaded Jammed 1 0)) (scan (StartScan 0 0 1 6))
    (taking (time 6) (box (scanner Pending None) (job 42 42 6 0 0) (side 1 0 91) (settings 0 1) (feed Loaded Jammed 1 0) (ring 3 0))) refl
    ∷ case "asked 599: granted 599" (resting (settings 1 0) (feed Loaded Jammed 1 0)) (scan (StartScan 0 0 1 599))
    (taking (time 599) (box (scanner Pending None) (job 42 42 599 0 0) (side 1 0 91) (settings 0 1) (feed Loaded Jammed 1 0) (ring 3 0))) refl
    ∷ case "asked 65,535: granted 600" (resting (settings 1 0) (feed Loaded Jammed 1 0)) (scan (StartScan 0 0 1 65535))
    (taking (time 600) (box (scanner Pending None) (job 42 42 600 0 0) (side 1 0 91) (settings 0 1) (feed Loaded Jammed 1 0) (ring 3 0))) refl
    ∷ case "DestinationID 4,294,967,295 goes to 0"
    (at (box (scanner Idle Timeout) (job 0 41 77 0 0) (side 1 0 4294967295) (settings 1 0) (feed Loaded Jammed 1 0) (ring 3 0))) (scan (StartScan 1 7 1 123))
    (taking (time 123) (box (scanner Scanning None) (job 42 42 123 0 0) (side 1 7 0) (settings 1 1) (feed Busy Jammed 1 0) (ring 3 0))) refl
    ∷ case "DestinationID 4,294,967,294 goes to 4,294,967,295"
    (at (box (scanner Idle Timeout) (job 0 41 77 0 0) (side 1 0 4294967294) (settings 1 0) (feed Loaded Jammed 1 0) (ring 3 0))) (scan (StartScan 1 7 1 123))
    (taking (time 123) (box (scanner Scanning None) (job 42 42 123 0 0) (side 1 7 4294967295) (settings 1 1) (feed Busy Jammed 1 0) (ring 3 0))) refl
    ∷ case "job 4,294,967,294 is followed by 4,294,967,295"
    (at (box (scanner Idle Timeout) (job 0 4294967294 77 0 0) (side 1 0 90) (settings 1 0) (feed Loaded Jammed 1 0) (ring 3 0))) (scan (StartScan 0 0 1 123))
    (taking (time 123) (box (scanner Pending None) (job 4294967295 4294967295 123 0 0) (side 1 0 91) (settings 0 1) (feed Loaded Jammed 1 0) (ring 3 0))) refl
    ∷ case "the first job is 1" (at (box (scanner Idle Timeout) (job 0 0 77 0 0) (side 1 0 90) (settings 1 0) (feed Loaded Jammed 1 0) (ring 3 0)))
    (scan (StartScan 0 0 1 123))
    (taking (time 123) (box (scanner Pending None) (job 1 1 123 0 0) (side 1 0 91) (settings 0 1) (feed Loaded Jammed 1 0) (ring 3 0))) refl
    ∷ []

-- StartScan 601, 501, 711, 713
pub start_scans_refused : List (Case Outcome)
unfolding final
start_scans_refused =
    keeps "StartScan 601, UseFeeder 3" (resting (settings 1 0) (feed Loaded Jammed 1 0)) (scan (StartScan 3 0 1 123)) 601 refl
    ∷ keeps "StartScan 601, Append 3" (resting (settings 1 0) (feed Loaded Jammed 1 0)) (scan (StartScan 1 0 3 123)) 601 refl
    ∷ keeps "StartScan 601, device-setting is the glass: 2 sides" (resting (settings 0 1) (feed Loaded Jammed 1 0)) (scan (StartScan 2 2 1 123)) 601 refl
    ∷ keeps "StartScan 601, on the glass 999 sides" (resting (settings 1 0) (feed Loaded Jammed 1 0)) (scan (StartScan 0 999 1 123)) 601 refl
    ∷ keeps "StartScan 601, on the glass −2" (resting (settings 1 0) (feed Loaded Jammed 1 0)) (scan (StartScan 0 minus_two 1 123)) 601 refl
    ∷ keeps "StartScan 601 comes before 501" (holding (settings 1 0) (feed Loaded Jammed 1 0)) (scan (StartScan 1 1000 1 123)) 601 refl
    ∷ keeps "StartScan 501 in Pending" (holding (settings 1 0) (feed Loaded Jammed 1 0)) (scan (StartScan 1 7 1 123)) 501 refl
    ∷ keeps "StartScan 501 in Scanning" (drawing 0 8 (ring 3 4)) (scan (StartScan 1 7 1 123)) 501 refl
    ∷ keeps "StartScan 501 in Finishing" (draining 0 8 (feed Unloaded Jammed 1 0) (ring 3 4)) (scan (StartScan 1 7 1 123)) 501 refl
    ∷ keeps "StartScan 501 in Erred" (faulty (settings 1 0) (feed Unloaded Jammed 1 0)) (scan (StartScan 1 7 1 123)) 501 refl
    ∷ keeps "StartScan 501 comes before 711" (holding (settings 0 1) (feed Stuck Jammed 0 1)) (scan (StartScan 1 7 1 123)) 501 refl
    ∷ keeps "StartScan 501 comes before 713" (holding (settings 0 1) (feed Unloaded Jammed 0 0)) (scan (StartScan 1 7 1 123)) 501 refl
    ∷ keeps "StartScan 711, path 1" (resting (settings 0 1) (feed Stuck Jammed 0 1)) (scan (StartScan 1 7 1 123)) 711 refl
    ∷ keeps "StartScan 711, path 0" (resting (settings 0 1) (feed Stuck Jammed 1 0)) (scan (StartScan 1 7 1 123)) 711 refl
    ∷ keeps "StartScan 711, device-setting is the feeder" (resting (settings 1 0) (feed Stuck Jammed 1 0)) (scan (StartScan 2 minus_one 1 123)) 711 refl
    ∷ keeps "StartScan 713: the feeder does not move" (resting (settings 0 1) (feed Unloaded Jammed 0 0)) (scan (StartScan 1 7 1 123)) 713 refl
    ∷ keeps "StartScan 713, device-setting is the feeder" (resting (settings 1 0) (feed Unloaded Jammed 0 0)) (scan (StartScan 2 1 1 123)) 713 refl
    ∷ []

-- ---- Start: UseFeeder and SideCount stored, FailureCode none, quiet 0; job, granted, SideNumber, Append and the ring stay, so the name and
-- DestinationID do
pub starts : List (Case Outcome)
unfolding final
starts =
    case "Start from the feeder in Pending" (holding (settings 0 1) (feed Loaded Jammed 1 0)) (scan (Start 41 1 7))
    (done (box (scanner Scanning None) (job 41 41 77 0 0) (side 6 7 90) (settings 1 1) (feed Busy Jammed 1 0) (ring 3 0))) refl
    ∷ case "Start from the feeder in Erred" (faulty (settings 0 1) (feed Unloaded Jammed 1 0)) (scan (Start 41 1 999))
    (done (box (scanner Scanning None) (job 41 41 77 0 0) (side 6 999 90) (settings 1 1) (feed Busy Jammed 1 0) (ring 3 0))) refl
    ∷ case "Start on the glass in Erred, the feeder Erred: FailureCode none" (faulty (settings 1 0) (feed Stuck Jammed 0 1)) (scan (Start 41 0 1))
    (done (box (scanner Scanning None) (job 41 41 77 0 0) (side 6 1 90) (settings 0 0) (feed Stuck Jammed 0 1) (ring 3 0))) refl
    ∷ case "Start on the glass in Pending" (holding (settings 1 0) (feed Loaded Jammed 1 0)) (scan (Start 41 0 1))
    (done (box (scanner Scanning None) (job 41 41 77 0 0) (side 6 1 90) (settings 0 0) (feed Loaded Jammed 1 0) (ring 3 0))) refl
    ∷ case "Start, device-setting keeps UseFeeder 1" (holding (settings 1 0) (feed Unloaded Jammed 1 0)) (scan (Start 41 2 7))
    (done (box (scanner Scanning None) (job 41 41 77 0 0) (side 6 7 90) (settings 1 0) (feed Busy Jammed 1 0) (ring 3 0))) refl
    ∷ case "Start, device-setting keeps UseFeeder 0" (holding (settings 0 1) (feed Stuck Jammed 0 1)) (scan (Start 41 2 1))
    (done (box (scanner Scanning None) (job 41 41 77 0 0) (side 6 1 90) (settings 0 1) (feed Stuck Jammed 0 1) (ring 3 0))) refl
    ∷ case "Start with −1 from the feeder" (holding (settings 0 0) (feed Loaded Jammed 0 0)) (scan (Start 41 1 minus_one))
    (done (box (scanner Scanning None) (job 41 41 77 0 0) (side 6 minus_one 90) (settings 1 0) (feed Busy Jammed 0 0) (ring 3 0))) refl
    ∷ case "Start with −1 on the glass is stored as 1" (holding (settings 1 1) (feed Unloaded Jammed 0 0)) (scan (Start 41 0 minus_one))
    (done (box (scanner Scanning None) (job 41 41 77 0 0) (side 6 1 90) (settings 0 1) (feed Unloaded Jammed 0 0) (ring 3 0))) refl
    ∷ case "Start with 0 gives Pending, from an Erred feeder too" (faulty (settings 0 1) (feed Stuck Jammed 0 1)) (scan (Start 41 1 0))
    (done (box (scanner Pending None) (job 41 41 77 0 0) (side 6 0 90) (settings 1 1) (feed Stuck Jammed 0 1) (ring 3 0))) refl
    ∷ case "Start: FailureCode none" (holding (settings 1 1) (feed Stuck Jammed 1 0)) (scan (Start 41 0 0))
    (done (box (scanner Pending None) (job 41 41 77 0 0) (side 6 0 90) (settings 0 1) (feed Stuck Jammed 1 0) (ring 3 0))) refl
    ∷ []

-- Start 601, 712, 501, 711, 713
pub starts_refused : List (Case Outcome)
unfolding final
starts_refused =
    keeps "Start 601, UseFeeder 3" (holding (settings 1 0) (feed Loaded Jammed 1 0)) (scan (Start 41 3 0)) 601 refl
    ∷ keeps "Start 601, SideCount 1000" (holding (settings 1 0) (feed Loaded Jammed 1 0)) (scan (Start 41 1 1000)) 601 refl
    ∷ keeps "Start 601, SideCount −2" (holding (settings 1 0) (feed Loaded Jammed 1 0)) (scan (Start 41 1 minus_two)) 601 refl
    ∷ keeps "Start 601, on the glass 2 sides" (holding (settings 1 0) (feed Loaded Jammed 1 0)) (scan (Start 41 0 2)) 601 refl
    ∷ keeps "UseFeeder 2 is settled before 601 is judged, in Start too" (holding (settings 0 1) (feed Loaded Jammed 1 0)) (scan (Start 41 2 2)) 601 refl
    ∷ keeps "Start 601 comes before 712" (holding (settings 1 0) (feed Loaded Jammed 1 0)) (scan (Start 42 3 0)) 601 refl
    ∷ keeps "Start 712 in Pending" (holding (settings 1 0) (feed Loaded Jammed 1 0)) (scan (Start 42 1 7)) 712 refl
    ∷ keeps "Start 712 in Idle: 0" (resting (settings 1 0) (feed Loaded Jammed 1 0)) (scan (Start 0 1 7)) 712 refl
    ∷ keeps "Start 712 in Idle: the last number given" (resting (settings 1 0) (feed Loaded Jammed 1 0)) (scan (Start 41 1 7)) 712 refl
    ∷ keeps "Start 712 comes before 501" (drawing 0 8 (ring 3 4)) (scan (Start 42 1 7)) 712 refl
    ∷ keeps "Start 712 comes before 711" (holding (settings 1 0) (feed Stuck Jammed 0 1)) (scan (Start 40 1 7)) 712 refl
    ∷ keeps "Start 501 in Scanning" (drawing 0 8 (ring 3 4)) (scan (Start 41 1 7)) 501 refl
    ∷ keeps "Start 501 in Finishing" (draining 0 8 (feed Loaded Jammed 1 0) (ring 3 4)) (scan (Start 41 1 7)) 501 refl
    ∷ keeps "Start 501 comes before 711" (copying 0 (feed Stuck Jammed 0 1) (ring 3 4)) (scan (Start 41 1 7)) 501 refl
    ∷ keeps "Start 501 comes before 713" (clearing 0 (feed Unloaded Jammed 0 0) (ring 3 4)) (scan (Start 41 1 7)) 501 refl
    ∷ keeps "Start 711, path 1" (faulty (settings 0 1) (feed Stuck Jammed 0 1)) (scan (Start 41 1 7)) 711 refl
    ∷ keeps "Start 711, path 0" (holding (settings 1 0) (feed Stuck Jammed 1 0)) (scan (Start 41 2 7)) 711 refl
    ∷ keeps "Start 713" (holding (settings 0 1) (feed Unloaded Jammed 0 0)) (scan (Start 41 1 7)) 713 refl
    ∷ keeps "Start 713, device-setting is the feeder" (faulty (settings 1 0) (feed Unloaded Jammed 0 0)) (scan (Start 41 2 7)) 713 refl
    ∷ []

-- ---- Stop: Pending or Erred ends the job; Scanning or Finishing sets stop-asked, and quiet stays
pub stops : List (Case Outcome)
unfolding final
stops =
    case "Stop in Pending ends the job: ring emptied, FailureCode none" (holding (settings 1 0) (feed Loaded Jammed 1 0)) (scan (Stop 41))
    (done (box (scanner Idle None) (job 0 41 77 0 0) (side 1 0 90) (settings 1 0) (feed Loaded Jammed 1 0) (ring 0 0))) refl
    ∷ case "Stop in Erred ends the job: the feeder stays Erred" (faulty (settings 0 1) (feed Stuck Jammed 0 1)) (scan (Stop 41))
    (done (box (scanner Idle None) (job 0 41 77 0 0) (side 1 0 90) (settings 0 1) (feed Stuck Jammed 0 1) (ring 0 0))) refl
    ∷ case "Stop in Scanning from the feeder asks: quiet stays 13" (drawing 0 8 (ring 3 4)) (scan (Stop 41))
    (done (box (scanner Scanning Timeout) (job 41 41 77 13 1) (side 6 8 90) (settings 1 0) (feed Busy Jammed 1 0) (ring 3 4))) refl
    ∷ case "Stop in Scanning on the glass asks" (copying 0 (feed Loaded Jammed 1 0) (ring 3 4)) (scan (Stop 41))
    (done (box (scanner Scanning Timeout) (job 41 41 77 13 1) (side 6 1 90) (settings 0 1) (feed Loaded Jammed 1 0) (ring 3 4))) refl
    ∷ case "Stop in Finishing asks" (draining 0 8 (feed Loaded Jammed 1 0) (ring 3 4)) (scan (Stop 41))
    (done (box (scanner Finishing Timeout) (job 41 41 77 13 1) (side 6 8 90) (settings 1 0) (feed Loaded Jammed 1 0) (ring 3 4))) refl
    ∷ case "Stop in Finishing on the glass asks" (clearing 0 (feed Stuck Jammed 0 1) (ring 3 4)) (scan (Stop 41))
    (done (box (scanner Finishing Timeout) (job 41 41 77 13 1) (side 6 0 90) (settings 0 1) (feed Stuck Jammed 0 1) (ring 3 4))) refl
    ∷ case "Stop where a stop is asked" (drawing 1 8 (ring 3 4)) (scan (Stop 41))
    (done (box (scanner Scanning Timeout) (job 41 41 77 13 1) (side 6 8 90) (settings 1 0) (feed Busy Jammed 1 0) (ring 3 4))) refl
    ∷ keeps "Stop 712" (drawing 0 8 (ring 3 4)) (scan (Stop 42)) 712 refl
    ∷ keeps "Stop 712 in Pending" (holding (settings 1 0) (feed Loaded Jammed 1 0)) (scan (Stop 0)) 712 refl
    ∷ keeps "Stop 712 in Idle: 0" (resting (settings 1 0) (feed Loaded Jammed 1 0)) (scan (Stop 0)) 712 refl
    ∷ keeps "Stop 712 in Idle: the last number given" (resting (settings 1 0) (feed Loaded Jammed 1 0)) (scan (Stop 41)) 712 refl
    ∷ []

-- Abort ends the job: Busy becomes Unloaded, any other feeder stays; settings, granted, the last number, the last name and DestinationID stay
pub aborts : List (Case Outcome)
unfolding final
aborts =
    case "Abort in Scanning: no ring bytes, no stop, the feeder Unloaded" (drawing 1 8 (ring 3 4)) (scan (Abort 41))
    (done (box (scanner Idle None) (job 0 41 77 0 0) (side 1 0 90) (settings 1 0) (feed Unloaded Jammed 1 0) (ring 0 0))) refl
    ∷ case "Abort in Scanning on the glass: the feeder stays Loaded" (copying 1 (feed Loaded Timeout 1 0) (ring 3 4)) (scan (Abort 41))
    (done (box (scanner Idle None) (job 0 41 77 0 0) (side 1 0 90) (settings 0 1) (feed Loaded Timeout 1 0) (ring 0 0))) refl
    ∷ case "Abort in Pending: the feeder stays Unloaded" (holding (settings 0 1) (feed Unloaded Jammed 0 0)) (scan (Abort 41))
    (done (box (scanner Idle None) (job 0 41 77 0 0) (side 1 0 90) (settings 0 1) (feed Unloaded Jammed 0 0) (ring 0 0))) refl
    ∷ case "Abort in Finishing: the feeder stays Loaded" (draining 1 8 (feed Loaded Jammed 0 0) (ring 3 4)) (scan (Abort 41))
    (done (box (scanner Idle None) (job 0 41 77 0 0) (side 1 0 90) (settings 1 0) (feed Loaded Jammed 0 0) (ring 0 0))) refl
    ∷ case "Abort in Finishing on the glass: the feeder stays Erred" (clearing 0 (feed Stuck Jammed 1 0) (ring 3 4)) (scan (Abort 41))
    (done (box (scanner Idle None) (job 0 41 77 0 0) (side 1 0 90) (settings 0 1) (feed Stuck Jammed 1 0) (ring 0 0))) refl
    ∷ case "Abort in Erred: the feeder stays Erred" (faulty (settings 1 1) (feed Stuck Jammed 0 1)) (scan (Abort 41))
    (done (box (scanner Idle None) (job 0 41 77 0 0) (side 1 0 90) (settings 1 1) (feed Stuck Jammed 0 1) (ring 0 0))) refl
    ∷ keeps "Abort 712" (drawing 0 8 (ring 3 4)) (scan (Abort 42)) 712 refl
    ∷ keeps "Abort 712 in Pending" (holding (settings 1 0) (feed Loaded Jammed 1 0)) (scan (Abort 0)) 712 refl
    ∷ keeps "Abort 712 in Idle: 0" (resting (settings 1 0) (feed Loaded Jammed 1 0)) (scan (Abort 0)) 712 refl
    ∷ keeps "Abort 712 in Idle: the last number given" (resting (settings 1 0) (feed Loaded Jammed 1 0)) (scan (Abort 41)) 712 refl
    ∷ []

-- ---- GetDestination, GetState, GetSideInformation: nothing changes
pub reads : List (Case Outcome)
unfolding final
reads =
    case "the name without Append" (drawing 0 8 (ring 3 4)) (scan (GetDestination 41))
    (taking (destination j41 90) (box (scanner Scanning Timeout) (job 41 41 77 13 0) (side 6 8 90) (settings 1 0) (feed Busy Jammed 1 0) (ring 3 4))) refl
    ∷ case "the name with Append" (copying 0 (feed Loaded Jammed 1 0) (ring 3 4)) (scan (GetDestination 41))
    (taking (destination j41-006 90) (box (scanner Scanning Timeout) (job 41 41 77 13 0) (side 6 1 90) (settings 0 1) (feed Loaded Jammed 1 0) (ring 3 4))) refl
    ∷ case "ten digits of job, three of SideNumber"
    (at (box (scanner Pending Timeout) (job 1234567890 1234567890 77 13 0) (side 987 8 90) (settings 1 1) (feed Loaded Jammed 1 0) (ring 3 0)))
    (scan (GetDestination 1234567890))
    (taking (destination j1234567890-987 90)
    (box (scanner Pending Timeout) (job 1234567890 1234567890 77 13 0) (side 987 8 90) (settings 1 1) (feed Loaded Jammed 1 0) (ring 3 0))) refl
    ∷ case "ten digits of job alone"
    (at (box (scanner Erred Timeout) (job 1234567890 1234567890 77 13 0) (side 987 8 90) (settings 1 0) (feed Unloaded Jammed 1 0) (ring 3 0)))
    (scan (GetDestination 1234567890))
    (taking (destination j1234567890 90)
    (box (scanner Erred Timeout) (job 1234567890 1234567890 77 13 0) (side 987 8 90) (settings 1 0) (feed Unloaded Jammed 1 0) (ring 3 0))) refl
    ∷ case "the name of the greatest job and side"
    (at (box (scanner Finishing Timeout) (job 4294967295 4294967295 77 13 1) (side 999 8 90) (settings 1 1) (feed Loaded Jammed 1 0) (ring 3 4)))
    (scan (GetDestination 4294967295))
    (taking (destination j4294967295-999 90)
    (box (scanner Finishing Timeout) (job 4294967295 4294967295 77 13 1) (side 999 8 90) (settings 1 1) (feed Loaded Jammed 1 0) (ring 3 4))) refl
    ∷ keeps "GetDestination 712" (holding (settings 1 0) (feed Loaded Jammed 1 0)) (scan (GetDestination 42)) 712 refl
    ∷ keeps "GetDestination 712 in Idle: 0" (resting (settings 1 0) (feed Loaded Jammed 1 0)) (scan (GetDestination 0)) 712 refl
    ∷ keeps "GetDestination 712 in Idle: the last number given" (resting (settings 1 0) (feed Loaded Jammed 1 0)) (scan (GetDestination 41)) 712 refl
    ∷ case "GetState in Idle" (resting (settings 1 0) (feed Loaded Jammed 1 0)) (scan GetState)
    (taking (state Idle Timeout) (box (scanner Idle Timeout) (job 0 41 77 0 0) (side 1 0 90) (settings 1 0) (feed Loaded Jammed 1 0) (ring 3 0))) refl
    ∷ case "GetState in Pending" (at (box (scanner Pending None) (job 41 41 77 13 0) (side 6 8 90) (settings 1 0) (feed Loaded Jammed 1 0) (ring 3 0)))
    (scan GetState)
    (taking (state Pending None) (box (scanner Pending None) (job 41 41 77 13 0) (side 6 8 90) (settings 1 0) (feed Loaded Jammed 1 0) (ring 3 0))) refl
    ∷ case "GetState in Scanning" (drawing 1 8 (ring 3 4)) (scan GetState)
    (taking (state Scanning Timeout) (box (scanner Scanning Timeout) (job 41 41 77 13 1) (side 6 8 90) (settings 1 0) (feed Busy Jammed 1 0) (ring 3 4))) refl
    ∷ case "GetState in Finishing" (clearing 0 (feed Loaded Jammed 1 0) (ring 3 4)) (scan GetState)
    (taking (state Finishing Timeout) (box (scanner Finishing Timeout) (job 41 41 77 13 0) (side 6 0 90) (settings 0 1) (feed Loaded Jammed 1 0) (ring 3 4)))
    refl
    ∷ case "GetState in Erred" (at (box (scanner Erred Jammed) (job 41 41 77 13 0) (side 6 8 90) (settings 1 0) (feed Stuck Timeout 0 1) (ring 3 0)))
    (scan GetState)
    (taking (state Erred Jammed) (box (scanner Erred Jammed) (job 41 41 77 13 0) (side 6 8 90) (settings 1 0) (feed Stuck Timeout 0 1) (ring 3 0))) refl
    ∷ case "GetSideInformation: ScanLength 0" (drawing 0 8 (ring 3 4)) (scan GetSideInformation)
    (taking (sides 6 8 0) (box (scanner Scanning Timeout) (job 41 41 77 13 0) (side 6 8 90) (settings 1 0) (feed Busy Jammed 1 0) (ring 3 4))) refl
    ∷ case "GetSideInformation with −1" (drawing 1 minus_one (ring 3 4)) (scan GetSideInformation)
    (taking (sides 6 minus_one 0) (box (scanner Scanning Timeout) (job 41 41 77 13 1) (side 6 minus_one 90) (settings 1 0) (feed Busy Jammed 1 0) (ring 3 4)))
    refl
    ∷ case "GetSideInformation in Idle" (resting (settings 1 0) (feed Loaded Jammed 1 0)) (scan GetSideInformation)
    (taking (sides 1 0 0) (box (scanner Idle Timeout) (job 0 41 77 0 0) (side 1 0 90) (settings 1 0) (feed Loaded Jammed 1 0) (ring 3 0))) refl
    ∷ []

-- ---- Fetch: k is the least of stored, most and reply length less 4; oldest byte out first, round the ring's end
pub fetches : List (Case Outcome)
unfolding final
fetches =
    case "k by what is stored; later bytes stay; not last in Scanning" (drawing 0 8 (ring 3 4)) (scan (Fetch j41 255 nine))
    (sent 4 false (24 ∷ 25 ∷ 21 ∷ 22 ∷ []) (69 ∷ [])
    (box (scanner Scanning Timeout) (job 41 41 77 0 0) (side 6 8 90) (settings 1 0) (feed Busy Jammed 1 0) (ring 2 0))) refl
    ∷ case "k by most" (drawing 0 8 (ring 3 4)) (scan (Fetch j41 3 nine))
    (sent 3 false (24 ∷ 25 ∷ 21 ∷ []) (68 ∷ 69 ∷ [])
    (box (scanner Scanning Timeout) (job 41 41 77 0 0) (side 6 8 90) (settings 1 0) (feed Busy Jammed 1 0) (ring 1 1))) refl
    ∷ case "k by the reply's length: start comes to the ring's end" (copying 1 (feed Loaded Jammed 1 0) (ring 3 4))
    (scan (Fetch j41-006 255 (61 ∷ 62 ∷ 63 ∷ 64 ∷ 65 ∷ 66 ∷ [])))
    (sent 2 false (24 ∷ 25 ∷ []) [] (box (scanner Scanning Timeout) (job 41 41 77 0 1) (side 6 1 90) (settings 0 1) (feed Loaded Jammed 1 0) (ring 0 2))) refl
    ∷ case "k by the reply's length in Finishing: bytes stay, so it is not the last" (draining 0 8 (feed Loaded Jammed 1 0) (ring 3 4))
    (scan (Fetch j41 255 (61 ∷ 62 ∷ 63 ∷ 64 ∷ 65 ∷ 66 ∷ [])))
    (sent 2 false (24 ∷ 25 ∷ []) [] (box (scanner Finishing Timeout) (job 41 41 77 0 0) (side 6 8 90) (settings 1 0) (feed Loaded Jammed 1 0) (ring 0 2))) refl
    ∷ case "k 1 is a sign of life" (drawing 0 8 (ring 3 4)) (scan (Fetch j41 1 nine))
    (sent 1 false (24 ∷ []) (66 ∷ 67 ∷ 68 ∷ 69 ∷ [])
    (box (scanner Scanning Timeout) (job 41 41 77 0 0) (side 6 8 90) (settings 1 0) (feed Busy Jammed 1 0) (ring 4 3))) refl
    ∷ case "k 1 by the reply's length" (drawing 0 8 (ring 1 4)) (scan (Fetch j41 2 (61 ∷ 62 ∷ 63 ∷ 64 ∷ 65 ∷ [])))
    (sent 1 false (22 ∷ []) [] (box (scanner Scanning Timeout) (job 41 41 77 0 0) (side 6 8 90) (settings 1 0) (feed Busy Jammed 1 0) (ring 2 3))) refl
    ∷ case "k by all three: the whole ring" (drawing 0 8 (ring 1 5)) (scan (Fetch j41 5 nine))
    (sent 5 false (22 ∷ 23 ∷ 24 ∷ 25 ∷ 21 ∷ []) []
    (box (scanner Scanning Timeout) (job 41 41 77 0 0) (side 6 8 90) (settings 1 0) (feed Busy Jammed 1 0) (ring 1 0))) refl
    ∷ case "most 0: k 0, quiet stays" (drawing 0 8 (ring 3 4)) (scan (Fetch j41 0 nine))
    (sent 0 false [] (65 ∷ 66 ∷ 67 ∷ 68 ∷ 69 ∷ [])
    (box (scanner Scanning Timeout) (job 41 41 77 13 0) (side 6 8 90) (settings 1 0) (feed Busy Jammed 1 0) (ring 3 4))) refl
    ∷ case "a reply of 4 bytes: k 0, quiet stays" (drawing 0 8 (ring 3 4)) (scan (Fetch j41 255 (61 ∷ 62 ∷ 63 ∷ 64 ∷ [])))
    (sent 0 false [] [] (box (scanner Scanning Timeout) (job 41 41 77 13 0) (side 6 8 90) (settings 1 0) (feed Busy Jammed 1 0) (ring 3 4))) refl
    ∷ case "none stored in Scanning: k 0, not last" (drawing 1 8 (ring 3 0)) (scan (Fetch j41 255 nine))
    (sent 0 false [] (65 ∷ 66 ∷ 67 ∷ 68 ∷ 69 ∷ [])
    (box (scanner Scanning Timeout) (job 41 41 77 13 1) (side 6 8 90) (settings 1 0) (feed Busy Jammed 1 0) (ring 3 0))) refl
    ∷ case "a fetch of the present name in Pending: k 0" (holding (settings 1 0) (feed Loaded Jammed 1 0)) (scan (Fetch j41 255 nine))
    (sent 0 false [] (65 ∷ 66 ∷ 67 ∷ 68 ∷ 69 ∷ [])
    (box (scanner Pending Timeout) (job 41 41 77 13 0) (side 6 8 90) (settings 1 0) (feed Loaded Jammed 1 0) (ring 3 0))) refl
    ∷ case "a fetch of the present name in Erred: k 0" (faulty (settings 0 1) (feed Stuck Jammed 0 1)) (scan (Fetch j41-006 255 nine))
    (sent 0 false [] (65 ∷ 66 ∷ 67 ∷ 68 ∷ 69 ∷ [])
    (box (scanner Erred Timeout) (job 41 41 77 13 0) (side 6 8 90) (settings 0 1) (feed Stuck Jammed 0 1) (ring 3 0))) refl
    ∷ case "in Finishing, bytes stay: not last" (draining 0 8 (feed Loaded Jammed 1 0) (ring 3 4)) (scan (Fetch j41 3 nine))
    (sent 3 false (24 ∷ 25 ∷ 21 ∷ []) (68 ∷ 69 ∷ [])
    (box (scanner Finishing Timeout) (job 41 41 77 0 0) (side 6 8 90) (settings 1 0) (feed Loaded Jammed 1 0) (ring 1 1))) refl
    ∷ case "in Finishing, k 0: not last, quiet stays" (draining 1 8 (feed Loaded Jammed 1 0) (ring 3 4)) (scan (Fetch j41 0 nine))
    (sent 0 false [] (65 ∷ 66 ∷ 67 ∷ 68 ∷ 69 ∷ [])
    (box (scanner Finishing Timeout) (job 41 41 77 13 1) (side 6 8 90) (settings 1 0) (feed Loaded Jammed 1 0) (ring 3 4))) refl
    ∷ case "the greatest name"
    (at (box (scanner Pending Timeout) (job 4294967295 4294967295 77 13 0) (side 999 8 90) (settings 1 1) (feed Loaded Jammed 1 0) (ring 3 0)))
    (scan (Fetch j4294967295-999 255 nine))
    (sent 0 false [] (65 ∷ 66 ∷ 67 ∷ 68 ∷ 69 ∷ [])
    (box (scanner Pending Timeout) (job 4294967295 4294967295 77 13 0) (side 999 8 90) (settings 1 1) (feed Loaded Jammed 1 0) (ring 3 0))) refl
    ∷ []

-- Fetch 404, 603: the reply stays as it was lent
pub fetches_refused : List (Case Outcome)
unfolding final
fetches_refused =
    case "Fetch 404, another job" (drawing 0 8 (ring 3 4)) (scan (Fetch j42 255 nine))
    (out 404 nothing (box (scanner Scanning Timeout) (job 41 41 77 13 0) (side 6 8 90) (settings 1 0) (feed Busy Jammed 1 0) (ring 3 4)) five nine) refl
    ∷ case "Fetch 404, another side" (copying 0 (feed Loaded Jammed 1 0) (ring 3 4)) (scan (Fetch j41-007 255 nine))
    (out 404 nothing (box (scanner Scanning Timeout) (job 41 41 77 13 0) (side 6 1 90) (settings 0 1) (feed Loaded Jammed 1 0) (ring 3 4)) five nine) refl
    ∷ case "Fetch 404, a side where there is none" (drawing 0 8 (ring 3 4)) (scan (Fetch j41-006 255 nine))
    (out 404 nothing (box (scanner Scanning Timeout) (job 41 41 77 13 0) (side 6 8 90) (settings 1 0) (feed Busy Jammed 1 0) (ring 3 4)) five nine) refl
    ∷ case "Fetch 404, no side where there is one" (copying 0 (feed Loaded Jammed 1 0) (ring 3 4)) (scan (Fetch j41 255 nine))
    (out 404 nothing (box (scanner Scanning Timeout) (job 41 41 77 13 0) (side 6 1 90) (settings 0 1) (feed Loaded Jammed 1 0) (ring 3 4)) five nine) refl
    ∷ case "Fetch 404, the name is cut" (drawing 0 8 (ring 3 4))
    (scan (Fetch (74 ∷ 48 ∷ 48 ∷ 48 ∷ 48 ∷ 48 ∷ 48 ∷ 48 ∷ 48 ∷ 52 ∷ 49 ∷ 46 ∷ 106 ∷ 112 ∷ []) 255 nine))
    (out 404 nothing (box (scanner Scanning Timeout) (job 41 41 77 13 0) (side 6 8 90) (settings 1 0) (feed Busy Jammed 1 0) (ring 3 4)) five nine) refl
    ∷ case "Fetch 404, a byte behind the name" (drawing 0 8 (ring 3 4))
    (scan (Fetch (74 ∷ 48 ∷ 48 ∷ 48 ∷ 48 ∷ 48 ∷ 48 ∷ 48 ∷ 48 ∷ 52 ∷ 49 ∷ 46 ∷ 106 ∷ 112 ∷ 103 ∷ 103 ∷ []) 255 nine))
    (out 404 nothing (box (scanner Scanning Timeout) (job 41 41 77 13 0) (side 6 8 90) (settings 1 0) (feed Busy Jammed 1 0) (ring 3 4)) five nine) refl
    ∷ case "Fetch 404, another letter in front" (drawing 0 8 (ring 3 4))
    (scan (Fetch (75 ∷ 48 ∷ 48 ∷ 48 ∷ 48 ∷ 48 ∷ 48 ∷ 48 ∷ 48 ∷ 52 ∷ 49 ∷ 46 ∷ 106 ∷ 112 ∷ 103 ∷ []) 255 nine))
    (out 404 nothing (box (scanner Scanning Timeout) (job 41 41 77 13 0) (side 6 8 90) (settings 1 0) (feed Busy Jammed 1 0) (ring 3 4)) five nine) refl
    ∷ case "Fetch 404, no name" (holding (settings 1 0) (feed Loaded Jammed 1 0)) (scan (Fetch [] 255 nine))
    (out 404 nothing (box (scanner Pending Timeout) (job 41 41 77 13 0) (side 6 8 90) (settings 1 0) (feed Loaded Jammed 1 0) (ring 3 0)) five nine) refl
    ∷ case "Fetch 404 in Idle" (resting (settings 1 1) (feed Loaded Jammed 1 0)) (scan (Fetch j0-001 255 nine))
    (out 404 nothing (box (scanner Idle Timeout) (job 0 41 77 0 0) (side 1 0 90) (settings 1 1) (feed Loaded Jammed 1 0) (ring 3 0)) five nine) refl
    ∷ keeps "Fetch 404 comes before 603" (draining 0 8 (feed Loaded Jammed 1 0) (ring 3 4)) (scan (Fetch j42 255 [])) 404 refl
    ∷ case "Fetch 603, a reply of 3 bytes" (drawing 0 8 (ring 3 4)) (scan (Fetch j41 255 (61 ∷ 62 ∷ 63 ∷ [])))
    (out 603 nothing (box (scanner Scanning Timeout) (job 41 41 77 13 0) (side 6 8 90) (settings 1 0) (feed Busy Jammed 1 0) (ring 3 4)) five
    (61 ∷ 62 ∷ 63 ∷ [])) refl
    ∷ keeps "Fetch 603, most 0 and no reply" (holding (settings 1 0) (feed Loaded Jammed 1 0)) (scan (Fetch j41 0 [])) 603 refl
    ∷ []

-- ---- the drain step after the last byte: SideNumber plus 1; without Append the name stays, and DestinationID with it
pub drains : List (Case Outcome)
unfolding final
drains =
    case "last, SideCount 0: Pending" (draining 0 0 (feed Loaded Jammed 1 0) (ring 3 4)) (scan (Fetch j41 255 nine))
    (sent 4 true (24 ∷ 25 ∷ 21 ∷ 22 ∷ []) (69 ∷ [])
    (box (scanner Pending Timeout) (job 41 41 77 0 0) (side 7 0 90) (settings 1 0) (feed Loaded Jammed 1 0) (ring 2 0))) refl
    ∷ case "last on the glass: Pending, and with Append DestinationID rises" (clearing 0 (feed Loaded Jammed 1 0) (ring 3 4)) (scan (Fetch j41-006 4 nine))
    (sent 4 true (24 ∷ 25 ∷ 21 ∷ 22 ∷ []) (69 ∷ [])
    (box (scanner Pending Timeout) (job 41 41 77 0 0) (side 7 0 91) (settings 0 1) (feed Loaded Jammed 1 0) (ring 2 0))) refl
    ∷ case "last, SideCount 8, Loaded: a side begins" (draining 0 8 (feed Loaded Jammed 0 0) (ring 3 4)) (scan (Fetch j41 255 nine))
    (sent 4 true (24 ∷ 25 ∷ 21 ∷ 22 ∷ []) (69 ∷ [])
    (box (scanner Scanning Timeout) (job 41 41 77 0 0) (side 7 8 90) (settings 1 0) (feed Busy Jammed 0 0) (ring 2 0))) refl
    ∷ case "last, SideCount 8, a sheet in the tray: a side begins" (draining 0 8 (feed Unloaded Jammed 1 0) (ring 2 1)) (scan (Fetch j41 255 nine))
    (sent 1 true (23 ∷ []) (66 ∷ 67 ∷ 68 ∷ 69 ∷ [])
    (box (scanner Scanning Timeout) (job 41 41 77 0 0) (side 7 8 90) (settings 1 0) (feed Busy Jammed 1 0) (ring 3 0))) refl
    ∷ case "last, SideCount −1: a side begins, −1 stays" (draining 0 minus_one (feed Unloaded Jammed 1 0) (ring 2 3)) (scan (Fetch j41 255 nine))
    (sent 3 true (23 ∷ 24 ∷ 25 ∷ []) (68 ∷ 69 ∷ [])
    (box (scanner Scanning Timeout) (job 41 41 77 0 0) (side 7 minus_one 90) (settings 1 0) (feed Busy Jammed 1 0) (ring 0 0))) refl
    ∷ case "a stop asked ends the job in the drain step" (draining 1 8 (feed Loaded Jammed 1 0) (ring 3 4)) (scan (Fetch j41 255 nine))
    (sent 4 true (24 ∷ 25 ∷ 21 ∷ 22 ∷ []) (69 ∷ [])
    (box (scanner Idle None) (job 0 41 77 0 0) (side 1 0 90) (settings 1 0) (feed Loaded Jammed 1 0) (ring 0 0))) refl
    ∷ case "a stop asked on the glass too" (clearing 1 (feed Stuck Jammed 0 1) (ring 3 4)) (scan (Fetch j41-006 255 nine))
    (sent 4 true (24 ∷ 25 ∷ 21 ∷ 22 ∷ []) (69 ∷ [])
    (box (scanner Idle None) (job 0 41 77 0 0) (side 1 0 90) (settings 0 1) (feed Stuck Jammed 0 1) (ring 0 0))) refl
    ∷ case "the stop comes before SideCount 0" (draining 1 0 (feed Unloaded Jammed 1 0) (ring 3 4)) (scan (Fetch j41 255 nine))
    (sent 4 true (24 ∷ 25 ∷ 21 ∷ 22 ∷ []) (69 ∷ [])
    (box (scanner Idle None) (job 0 41 77 0 0) (side 1 0 90) (settings 1 0) (feed Unloaded Jammed 1 0) (ring 0 0))) refl
    ∷ case "the stop comes before 711" (draining 1 8 (feed Stuck Jammed 0 1) (ring 3 4)) (scan (Fetch j41 255 nine))
    (sent 4 true (24 ∷ 25 ∷ 21 ∷ 22 ∷ []) (69 ∷ [])
    (box (scanner Idle None) (job 0 41 77 0 0) (side 1 0 90) (settings 1 0) (feed Stuck Jammed 0 1) (ring 0 0))) refl
    ∷ case "the stop comes before 713" (draining 1 minus_one (feed Unloaded Jammed 0 0) (ring 3 4)) (scan (Fetch j41 255 nine))
    (sent 4 true (24 ∷ 25 ∷ 21 ∷ 22 ∷ []) (69 ∷ [])
    (box (scanner Idle None) (job 0 41 77 0 0) (side 1 0 90) (settings 1 0) (feed Unloaded Jammed 0 0) (ring 0 0))) refl
    ∷ case "the drain step's 711 leaves the ring's start" (draining 0 8 (feed Stuck Jammed 0 1) (ring 3 4)) (scan (Fetch j41 255 nine))
    (sent 4 true (24 ∷ 25 ∷ 21 ∷ 22 ∷ []) (69 ∷ [])
    (box (scanner Erred Jammed) (job 41 41 77 0 0) (side 7 8 90) (settings 1 0) (feed Stuck Jammed 0 1) (ring 2 0))) refl
    ∷ case "and is not the fetch's own number" (draining 0 minus_one (feed Stuck Timeout 0 0) (ring 3 4)) (scan (Fetch j41 255 nine))
    (sent 4 true (24 ∷ 25 ∷ 21 ∷ 22 ∷ []) (69 ∷ [])
    (box (scanner Erred Jammed) (job 41 41 77 0 0) (side 7 minus_one 90) (settings 1 0) (feed Stuck Timeout 0 0) (ring 2 0))) refl
    ∷ case "nor is its 713: Pending, SideCount kept" (draining 0 8 (feed Unloaded Jammed 0 0) (ring 3 4)) (scan (Fetch j41 255 nine))
    (sent 4 true (24 ∷ 25 ∷ 21 ∷ 22 ∷ []) (69 ∷ [])
    (box (scanner Pending Timeout) (job 41 41 77 0 0) (side 7 8 90) (settings 1 0) (feed Unloaded Jammed 0 0) (ring 2 0))) refl
    ∷ case "or 0 where it was −1" (draining 0 minus_one (feed Unloaded Jammed 0 0) (ring 3 4)) (scan (Fetch j41 255 nine))
    (sent 4 true (24 ∷ 25 ∷ 21 ∷ 22 ∷ []) (69 ∷ [])
    (box (scanner Pending Timeout) (job 41 41 77 0 0) (side 7 0 90) (settings 1 0) (feed Unloaded Jammed 0 0) (ring 2 0))) refl
    ∷ case "SideCount 0 comes before 711" (draining 0 0 (feed Stuck Jammed 0 1) (ring 3 4)) (scan (Fetch j41 255 nine))
    (sent 4 true (24 ∷ 25 ∷ 21 ∷ 22 ∷ []) (69 ∷ [])
    (box (scanner Pending Timeout) (job 41 41 77 0 0) (side 7 0 90) (settings 1 0) (feed Stuck Jammed 0 1) (ring 2 0))) refl
    ∷ case "SideCount 0 comes before 713" (draining 0 0 (feed Unloaded Jammed 0 0) (ring 3 4)) (scan (Fetch j41 255 nine))
    (sent 4 true (24 ∷ 25 ∷ 21 ∷ 22 ∷ []) (69 ∷ [])
    (box (scanner Pending Timeout) (job 41 41 77 0 0) (side 7 0 90) (settings 1 0) (feed Unloaded Jammed 0 0) (ring 2 0))) refl
    ∷ case "SideNumber 998 goes to 999"
    (at (box (scanner Finishing Timeout) (job 41 41 77 13 0) (side 998 8 90) (settings 1 0) (feed Loaded Jammed 1 0) (ring 3 4))) (scan (Fetch j41 255 nine))
    (sent 4 true (24 ∷ 25 ∷ 21 ∷ 22 ∷ []) (69 ∷ [])
    (box (scanner Scanning Timeout) (job 41 41 77 0 0) (side 999 8 90) (settings 1 0) (feed Busy Jammed 1 0) (ring 2 0))) refl
    ∷ case "SideNumber 999 goes to 0, DestinationID 4,294,967,295 too"
    (at (box (scanner Finishing Timeout) (job 41 41 77 13 0) (side 999 8 4294967295) (settings 1 1) (feed Loaded Jammed 1 0) (ring 3 4)))
    (scan (Fetch j41-999 255 nine))
    (sent 4 true (24 ∷ 25 ∷ 21 ∷ 22 ∷ []) (69 ∷ [])
    (box (scanner Scanning Timeout) (job 41 41 77 0 0) (side 0 8 0) (settings 1 1) (feed Busy Jammed 1 0) (ring 2 0))) refl
    ∷ case "SideNumber 0 goes to 1"
    (at (box (scanner Finishing Timeout) (job 41 41 77 13 0) (side 0 0 90) (settings 1 0) (feed Loaded Jammed 1 0) (ring 3 4))) (scan (Fetch j41 255 nine))
    (sent 4 true (24 ∷ 25 ∷ 21 ∷ 22 ∷ []) (69 ∷ [])
    (box (scanner Pending Timeout) (job 41 41 77 0 0) (side 1 0 90) (settings 1 0) (feed Loaded Jammed 1 0) (ring 2 0))) refl
    ∷ []

-- ---- Bytes: in behind the stored ones, round the ring's end, and no other ring byte changes
pub byte_reports : List (Case Outcome)
unfolding final
byte_reports =
    case "round the ring's end" (drawing 0 8 (ring 3 1)) (report (Bytes (71 ∷ 72 ∷ 73 ∷ [])))
    (took 3 (72 ∷ 73 ∷ 23 ∷ 24 ∷ 71 ∷ []) (box (scanner Scanning Timeout) (job 41 41 77 0 0) (side 6 8 90) (settings 1 0) (feed Busy Jammed 1 0) (ring 3 4)))
    refl
    ∷ case "from the ring's front" (drawing 1 8 (ring 3 2)) (report (Bytes (71 ∷ 72 ∷ [])))
    (took 2 (71 ∷ 72 ∷ 23 ∷ 24 ∷ 25 ∷ []) (box (scanner Scanning Timeout) (job 41 41 77 0 1) (side 6 8 90) (settings 1 0) (feed Busy Jammed 1 0) (ring 3 4)))
    refl
    ∷ case "past the ring's front: bytes that fill the ring" (copying 0 (feed Loaded Jammed 1 0) (ring 3 4)) (report (Bytes (71 ∷ [])))
    (took 1 (21 ∷ 22 ∷ 71 ∷ 24 ∷ 25 ∷ [])
    (box (scanner Scanning Timeout) (job 41 41 77 0 0) (side 6 1 90) (settings 0 1) (feed Loaded Jammed 1 0) (ring 3 5))) refl
    ∷ case "straight on" (copying 1 (feed Stuck Jammed 0 1) (ring 0 1)) (report (Bytes (71 ∷ 72 ∷ 73 ∷ [])))
    (took 3 (21 ∷ 71 ∷ 72 ∷ 73 ∷ 25 ∷ []) (box (scanner Scanning Timeout) (job 41 41 77 0 1) (side 6 1 90) (settings 0 1) (feed Stuck Jammed 0 1) (ring 0 4)))
    refl
    ∷ case "into an empty ring, all of it" (drawing 0 8 (ring 3 0)) (report (Bytes (71 ∷ 72 ∷ 73 ∷ 74 ∷ 75 ∷ [])))
    (took 5 (73 ∷ 74 ∷ 75 ∷ 71 ∷ 72 ∷ []) (box (scanner Scanning Timeout) (job 41 41 77 0 0) (side 6 8 90) (settings 1 0) (feed Busy Jammed 1 0) (ring 3 5)))
    refl
    ∷ case "none given: nothing changes" (drawing 0 8 (ring 3 4)) (report (Bytes []))
    (taking (stored 0) (box (scanner Scanning Timeout) (job 41 41 77 13 0) (side 6 8 90) (settings 1 0) (feed Busy Jammed 1 0) (ring 3 4))) refl
    ∷ case "in Scanning accepted, the ring full" (copying 0 (feed Loaded Jammed 1 0) (ring 3 5)) (report (Bytes []))
    (taking (stored 0) (box (scanner Scanning Timeout) (job 41 41 77 13 0) (side 6 1 90) (settings 0 1) (feed Loaded Jammed 1 0) (ring 3 5))) refl
    ∷ keeps "Bytes 603: one too many, none go in" (drawing 0 8 (ring 3 4)) (report (Bytes (71 ∷ 72 ∷ []))) 603 refl
    ∷ keeps "Bytes 603: the ring full" (copying 0 (feed Loaded Jammed 1 0) (ring 3 5)) (report (Bytes (71 ∷ []))) 603 refl
    ∷ keeps "Bytes 603: six into an empty ring" (drawing 0 8 (ring 3 0)) (report (Bytes (71 ∷ 72 ∷ 73 ∷ 74 ∷ 75 ∷ 76 ∷ []))) 603 refl
    ∷ keeps "Bytes 501 in Idle" (resting (settings 1 0) (feed Loaded Jammed 1 0)) (report (Bytes (71 ∷ []))) 501 refl
    ∷ keeps "Bytes 501 in Pending" (holding (settings 1 0) (feed Loaded Jammed 1 0)) (report (Bytes (71 ∷ []))) 501 refl
    ∷ keeps "Bytes 501 in Finishing" (draining 0 8 (feed Loaded Jammed 1 0) (ring 3 4)) (report (Bytes (71 ∷ []))) 501 refl
    ∷ keeps "Bytes 501 in Erred" (faulty (settings 1 0) (feed Stuck Jammed 0 1)) (report (Bytes (71 ∷ []))) 501 refl
    ∷ keeps "Bytes 501 comes before 603" (clearing 0 (feed Loaded Jammed 1 0) (ring 3 4)) (report (Bytes (71 ∷ 72 ∷ []))) 501 refl
    ∷ keeps "empty Bytes outside Scanning is 501" (resting (settings 1 0) (feed Loaded Jammed 1 0)) (report (Bytes [])) 501 refl
    ∷ case "a ring of 1 byte: Bytes of 1 taken"
    (boxed (box (scanner Scanning Timeout) (job 41 41 77 13 0) (side 6 1 90) (settings 0 1) (feed Loaded Jammed 1 0) (ring 0 0)) (21 ∷ []))
    (report (Bytes (71 ∷ [])))
    (took 1 (71 ∷ []) (box (scanner Scanning Timeout) (job 41 41 77 0 0) (side 6 1 90) (settings 0 1) (feed Loaded Jammed 1 0) (ring 0 1))) refl
    ∷ keeps "a ring of 1 byte: of 2 is 603"
    (boxed (box (scanner Scanning Timeout) (job 41 41 77 13 0) (side 6 1 90) (settings 0 1) (feed Loaded Jammed 1 0) (ring 0 0)) (21 ∷ []))
    (report (Bytes (71 ∷ 72 ∷ []))) 603 refl
    ∷ case "a ring of 1 byte: a fetch comes round to its place"
    (boxed (box (scanner Scanning Timeout) (job 41 41 77 13 0) (side 6 1 90) (settings 0 1) (feed Loaded Jammed 1 0) (ring 0 1)) (71 ∷ []))
    (scan (Fetch j41-006 255 nine))
    (out 0 (picture 1 false (71 ∷ [])) (box (scanner Scanning Timeout) (job 41 41 77 0 0) (side 6 1 90) (settings 0 1) (feed Loaded Jammed 1 0) (ring 0 0))
    (71 ∷ []) (0xA5 ∷ 0x5A ∷ 0x06 ∷ 1 ∷ 71 ∷ 66 ∷ 67 ∷ 68 ∷ 69 ∷ [])) refl
    ∷ []

-- ---- Side ended: Busy becomes Unloaded, a positive SideCount falls by one, −1 stays; Finishing, quiet 0; the ring stays
pub side_ends : List (Case Outcome)
unfolding final
side_ends =
    case "from the feeder: Unloaded, 8 falls to 7, Finishing" (drawing 0 8 (ring 3 4)) (report SideEnded)
    (done (box (scanner Finishing Timeout) (job 41 41 77 0 0) (side 6 7 90) (settings 1 0) (feed Unloaded Jammed 1 0) (ring 3 4))) refl
    ∷ case "an asked stop waits for the last byte" (drawing 1 1 (ring 3 4)) (report SideEnded)
    (done (box (scanner Finishing Timeout) (job 41 41 77 0 1) (side 6 0 90) (settings 1 0) (feed Unloaded Jammed 1 0) (ring 3 4))) refl
    ∷ case "SideCount −1 stays −1" (drawing 0 minus_one (ring 3 4)) (report SideEnded)
    (done (box (scanner Finishing Timeout) (job 41 41 77 0 0) (side 6 minus_one 90) (settings 1 0) (feed Unloaded Jammed 1 0) (ring 3 4))) refl
    ∷ case "on the glass: 1 falls to 0, the feeder stays Loaded" (copying 0 (feed Loaded Jammed 1 0) (ring 3 4)) (report SideEnded)
    (done (box (scanner Finishing Timeout) (job 41 41 77 0 0) (side 6 0 90) (settings 0 1) (feed Loaded Jammed 1 0) (ring 3 4))) refl
    ∷ case "on the glass the feeder stays Erred as a side ends" (copying 1 (feed Stuck Jammed 0 1) (ring 3 4)) (report SideEnded)
    (done (box (scanner Finishing Timeout) (job 41 41 77 0 1) (side 6 0 90) (settings 0 1) (feed Stuck Jammed 0 1) (ring 3 4))) refl
    ∷ case "the ring empty, SideCount falls to 0: Pending" (drawing 0 1 (ring 3 0)) (report SideEnded)
    (done (box (scanner Pending Timeout) (job 41 41 77 0 0) (side 7 0 90) (settings 1 0) (feed Unloaded Jammed 1 0) (ring 3 0))) refl
    ∷ case "the ring empty, on the glass: Pending, the feeder stays Loaded" (copying 0 (feed Loaded Timeout 1 0) (ring 3 0)) (report SideEnded)
    (done (box (scanner Pending Timeout) (job 41 41 77 0 0) (side 7 0 91) (settings 0 1) (feed Loaded Timeout 1 0) (ring 3 0))) refl
    ∷ case "the ring empty, a sheet in the tray: a side begins" (drawing 0 8 (ring 3 0)) (report SideEnded)
    (done (box (scanner Scanning Timeout) (job 41 41 77 0 0) (side 7 7 90) (settings 1 0) (feed Busy Jammed 1 0) (ring 3 0))) refl
    ∷ case "the ring empty, −1: a side begins, −1 stays" (drawing 0 minus_one (ring 3 0)) (report SideEnded)
    (done (box (scanner Scanning Timeout) (job 41 41 77 0 0) (side 7 minus_one 90) (settings 1 0) (feed Busy Jammed 1 0) (ring 3 0))) refl
    ∷ case "the ring empty, a stop asked: end of job" (drawing 1 8 (ring 3 0)) (report SideEnded)
    (done (box (scanner Idle None) (job 0 41 77 0 0) (side 1 0 90) (settings 1 0) (feed Unloaded Jammed 1 0) (ring 0 0))) refl
    ∷ case "the ring empty, a stop asked on the glass: end of job" (copying 1 (feed Loaded Jammed 1 0) (ring 3 0)) (report SideEnded)
    (done (box (scanner Idle None) (job 0 41 77 0 0) (side 1 0 90) (settings 0 1) (feed Loaded Jammed 1 0) (ring 0 0))) refl
    ∷ case "the ring empty, no sheet: Pending, SideCount 7 kept" (drawing_last 0 8 (ring 3 0)) (report SideEnded)
    (done (box (scanner Pending Timeout) (job 41 41 77 0 0) (side 7 7 90) (settings 1 0) (feed Unloaded Jammed 0 0) (ring 3 0))) refl
    ∷ case "the ring empty, no sheet: Pending, SideCount 0 where it was −1" (drawing_last 0 minus_one (ring 3 0)) (report SideEnded)
    (done (box (scanner Pending Timeout) (job 41 41 77 0 0) (side 7 0 90) (settings 1 0) (feed Unloaded Jammed 0 0) (ring 3 0))) refl
    ∷ keeps "Side ended 501 in Idle" (resting (settings 1 0) (feed Loaded Jammed 1 0)) (report SideEnded) 501 refl
    ∷ keeps "Side ended 501 in Pending" (holding (settings 1 0) (feed Loaded Jammed 1 0)) (report SideEnded) 501 refl
    ∷ keeps "Side ended 501 in Finishing" (draining 0 8 (feed Loaded Jammed 1 0) (ring 3 4)) (report SideEnded) 501 refl
    ∷ keeps "Side ended 501 in Erred" (faulty (settings 1 0) (feed Stuck Jammed 0 1)) (report SideEnded) 501 refl
    ∷ []

-- ---- Tray sets MorePages. Path 0 sets the sensor only; 1 also makes the feeder Erred, Jammed
pub sensor_reports : List (Case Outcome)
unfolding final
sensor_reports =
    case "Tray 0" (resting (settings 1 0) (feed Loaded Jammed 1 0)) (report (Tray 0))
    (done (box (scanner Idle Timeout) (job 0 41 77 0 0) (side 1 0 90) (settings 1 0) (feed Loaded Jammed 0 0) (ring 3 0))) refl
    ∷ case "Tray 1: a jam stays" (faulty (settings 1 0) (feed Stuck Timeout 0 1)) (report (Tray 1))
    (done (box (scanner Erred Timeout) (job 41 41 77 13 0) (side 6 8 90) (settings 1 0) (feed Stuck Timeout 1 1) (ring 3 0))) refl
    ∷ case "Tray 1 in Scanning: quiet stays" (drawing_last 1 8 (ring 3 4)) (report (Tray 1))
    (done (box (scanner Scanning Timeout) (job 41 41 77 13 1) (side 6 8 90) (settings 1 0) (feed Busy Jammed 1 0) (ring 3 4))) refl
    ∷ keeps "Tray 601" (resting (settings 1 0) (feed Loaded Jammed 1 0)) (report (Tray 2)) 601 refl
    ∷ case "Path 0: the sensor only" (faulty (settings 1 0) (feed Stuck Timeout 1 1)) (report (Path 0))
    (done (box (scanner Erred Timeout) (job 41 41 77 13 0) (side 6 8 90) (settings 1 0) (feed Stuck Timeout 1 0) (ring 3 0))) refl
    ∷ case "Path 0 in Scanning: nothing changes" (drawing 1 8 (ring 3 4)) (report (Path 0))
    (done (box (scanner Scanning Timeout) (job 41 41 77 13 1) (side 6 8 90) (settings 1 0) (feed Busy Jammed 1 0) (ring 3 4))) refl
    ∷ case "Path 0 in Idle" (resting (settings 1 0) (feed Stuck Jammed 0 1)) (report (Path 0))
    (done (box (scanner Idle Timeout) (job 0 41 77 0 0) (side 1 0 90) (settings 1 0) (feed Stuck Jammed 0 0) (ring 3 0))) refl
    ∷ case "Path 1 in Scanning from the feeder: Erred, Jammed, ring emptied, the stop forgotten, quiet 0" (drawing 1 8 (ring 3 4)) (report (Path 1))
    (done (box (scanner Erred Jammed) (job 41 41 77 0 0) (side 6 8 90) (settings 1 0) (feed Stuck Jammed 1 1) (ring 0 0))) refl
    ∷ case "Path 1 in Scanning from the feeder, no stop asked, tray empty" (drawing_last 0 minus_one (ring 3 0)) (report (Path 1))
    (done (box (scanner Erred Jammed) (job 41 41 77 0 0) (side 6 minus_one 90) (settings 1 0) (feed Stuck Jammed 0 1) (ring 0 0))) refl
    ∷ case "Path 1 on the glass leaves the scan" (copying 1 (feed Loaded Timeout 1 0) (ring 3 4)) (report (Path 1))
    (done (box (scanner Scanning Timeout) (job 41 41 77 13 1) (side 6 1 90) (settings 0 1) (feed Stuck Jammed 1 1) (ring 3 4))) refl
    ∷ case "Path 1 in Idle" (resting (settings 1 0) (feed Unloaded None 0 0)) (report (Path 1))
    (done (box (scanner Idle Timeout) (job 0 41 77 0 0) (side 1 0 90) (settings 1 0) (feed Stuck Jammed 0 1) (ring 3 0))) refl
    ∷ case "Path 1 in Pending: quiet stays" (holding (settings 1 0) (feed Loaded Timeout 1 0)) (report (Path 1))
    (done (box (scanner Pending Timeout) (job 41 41 77 13 0) (side 6 8 90) (settings 1 0) (feed Stuck Jammed 1 1) (ring 3 0))) refl
    ∷ case "Path 1 in Finishing from the feeder leaves the scan" (draining 1 8 (feed Loaded Timeout 1 0) (ring 3 4)) (report (Path 1))
    (done (box (scanner Finishing Timeout) (job 41 41 77 13 1) (side 6 8 90) (settings 1 0) (feed Stuck Jammed 1 1) (ring 3 4))) refl
    ∷ case "Path 1 in Erred: quiet stays" (faulty (settings 1 0) (feed Loaded Timeout 1 0)) (report (Path 1))
    (done (box (scanner Erred Timeout) (job 41 41 77 13 0) (side 6 8 90) (settings 1 0) (feed Stuck Jammed 1 1) (ring 3 0))) refl
    ∷ case "Path 1 makes a feeder in Timeout Jammed" (resting (settings 1 0) (feed Stuck Timeout 1 0)) (report (Path 1))
    (done (box (scanner Idle Timeout) (job 0 41 77 0 0) (side 1 0 90) (settings 1 0) (feed Stuck Jammed 1 1) (ring 3 0))) refl
    ∷ keeps "Path 601" (resting (settings 1 0) (feed Loaded Jammed 1 0)) (report (Path 2)) 601 refl
    ∷ keeps "Path 601 in Scanning" (drawing 1 8 (ring 3 4)) (report (Path 2)) 601 refl
    ∷ []

-- ---- Tick. Held: quiet plus 1; at granted (300 in Erred) the job ends, but FailureCode is Timeout and a Busy feeder becomes Erred, Timeout
pub tick_reports : List (Case Outcome)
unfolding final
tick_reports =
    case "Idle: nothing" (resting (settings 1 0) (feed Loaded Jammed 1 0)) (report Tick)
    (done (box (scanner Idle Timeout) (job 0 41 77 0 0) (side 1 0 90) (settings 1 0) (feed Loaded Jammed 1 0) (ring 3 0))) refl
    ∷ case "Pending: 13 goes to 14" (holding (settings 1 0) (feed Loaded Jammed 1 0)) (report Tick)
    (done (box (scanner Pending Timeout) (job 41 41 77 14 0) (side 6 8 90) (settings 1 0) (feed Loaded Jammed 1 0) (ring 3 0))) refl
    ∷ case "Pending: 75 of 77 holds" (at (box (scanner Pending Timeout) (job 41 41 77 75 0) (side 6 8 90) (settings 0 1) (feed Loaded Jammed 1 0) (ring 3 0)))
    (report Tick)
    (done (box (scanner Pending Timeout) (job 41 41 77 76 0) (side 6 8 90) (settings 0 1) (feed Loaded Jammed 1 0) (ring 3 0))) refl
    ∷ case "Pending: 76 of 77 ends, the feeder stays Loaded"
    (at (box (scanner Pending None) (job 41 41 77 76 0) (side 6 8 90) (settings 1 0) (feed Loaded Jammed 1 0) (ring 3 0))) (report Tick)
    (done (box (scanner Idle Timeout) (job 0 41 77 0 0) (side 1 0 90) (settings 1 0) (feed Loaded Jammed 1 0) (ring 0 0))) refl
    ∷ case "Pending: 76 of 77 ends, the feeder stays Unloaded"
    (at (box (scanner Pending Jammed) (job 41 41 77 76 0) (side 6 8 90) (settings 0 1) (feed Unloaded Jammed 0 0) (ring 3 0))) (report Tick)
    (done (box (scanner Idle Timeout) (job 0 41 77 0 0) (side 1 0 90) (settings 0 1) (feed Unloaded Jammed 0 0) (ring 0 0))) refl
    ∷ case "Scanning from the feeder: 75 of 77 holds"
    (at (box (scanner Scanning Timeout) (job 41 41 77 75 1) (side 6 8 90) (settings 1 0) (feed Busy Jammed 1 0) (ring 3 4))) (report Tick)
    (done (box (scanner Scanning Timeout) (job 41 41 77 76 1) (side 6 8 90) (settings 1 0) (feed Busy Jammed 1 0) (ring 3 4))) refl
    ∷ case "Scanning from the feeder: 76 of 77 ends, the feeder Erred, Timeout"
    (at (box (scanner Scanning None) (job 41 41 77 76 1) (side 6 8 90) (settings 1 0) (feed Busy Jammed 1 0) (ring 3 4))) (report Tick)
    (done (box (scanner Idle Timeout) (job 0 41 77 0 0) (side 1 0 90) (settings 1 0) (feed Stuck Timeout 1 0) (ring 0 0))) refl
    ∷ case "the same with an empty tray"
    (at (box (scanner Scanning None) (job 41 41 77 76 0) (side 6 minus_one 90) (settings 1 0) (feed Busy Jammed 0 0) (ring 3 0))) (report Tick)
    (done (box (scanner Idle Timeout) (job 0 41 77 0 0) (side 1 0 90) (settings 1 0) (feed Stuck Timeout 0 0) (ring 0 0))) refl
    ∷ case "Scanning on the glass: 75 of 77 holds"
    (at (box (scanner Scanning Timeout) (job 41 41 77 75 0) (side 6 1 90) (settings 0 1) (feed Loaded Jammed 1 0) (ring 3 4))) (report Tick)
    (done (box (scanner Scanning Timeout) (job 41 41 77 76 0) (side 6 1 90) (settings 0 1) (feed Loaded Jammed 1 0) (ring 3 4))) refl
    ∷ case "Scanning on the glass: 76 of 77 ends, the feeder stays Loaded"
    (at (box (scanner Scanning None) (job 41 41 77 76 1) (side 6 1 90) (settings 0 1) (feed Loaded Jammed 1 0) (ring 3 4))) (report Tick)
    (done (box (scanner Idle Timeout) (job 0 41 77 0 0) (side 1 0 90) (settings 0 1) (feed Loaded Jammed 1 0) (ring 0 0))) refl
    ∷ case "Scanning on the glass: 76 of 77 ends, a jam stays Jammed"
    (at (box (scanner Scanning None) (job 41 41 77 76 0) (side 6 1 90) (settings 0 1) (feed Stuck Jammed 0 1) (ring 3 4))) (report Tick)
    (done (box (scanner Idle Timeout) (job 0 41 77 0 0) (side 1 0 90) (settings 0 1) (feed Stuck Jammed 0 1) (ring 0 0))) refl
    ∷ case "Finishing: 75 of 77 holds"
    (at (box (scanner Finishing Timeout) (job 41 41 77 75 0) (side 6 8 90) (settings 1 0) (feed Loaded Jammed 1 0) (ring 3 4))) (report Tick)
    (done (box (scanner Finishing Timeout) (job 41 41 77 76 0) (side 6 8 90) (settings 1 0) (feed Loaded Jammed 1 0) (ring 3 4))) refl
    ∷ case "Finishing: 76 of 77 ends, the feeder stays Unloaded"
    (at (box (scanner Finishing None) (job 41 41 77 76 1) (side 6 8 90) (settings 1 0) (feed Unloaded Jammed 1 0) (ring 3 4))) (report Tick)
    (done (box (scanner Idle Timeout) (job 0 41 77 0 0) (side 1 0 90) (settings 1 0) (feed Unloaded Jammed 1 0) (ring 0 0))) refl
    ∷ case "Finishing on the glass: 76 of 77 ends"
    (at (box (scanner Finishing None) (job 41 41 77 76 0) (side 6 0 90) (settings 0 1) (feed Stuck Jammed 1 0) (ring 3 4))) (report Tick)
    (done (box (scanner Idle Timeout) (job 0 41 77 0 0) (side 1 0 90) (settings 0 1) (feed Stuck Jammed 1 0) (ring 0 0))) refl
    ∷ case "in Erred 77 of 77 holds" (at (box (scanner Erred Jammed) (job 41 41 77 76 0) (side 6 8 90) (settings 1 0) (feed Stuck Jammed 0 1) (ring 3 0)))
    (report Tick)
    (done (box (scanner Erred Jammed) (job 41 41 77 77 0) (side 6 8 90) (settings 1 0) (feed Stuck Jammed 0 1) (ring 3 0))) refl
    ∷ case "in Erred 299 quiet seconds hold the job"
    (at (box (scanner Erred Jammed) (job 41 41 77 298 0) (side 6 8 90) (settings 1 0) (feed Stuck Jammed 0 1) (ring 3 0))) (report Tick)
    (done (box (scanner Erred Jammed) (job 41 41 77 299 0) (side 6 8 90) (settings 1 0) (feed Stuck Jammed 0 1) (ring 3 0))) refl
    ∷ case "in Erred the 300th ends it" (at (box (scanner Erred Jammed) (job 41 41 77 299 0) (side 6 8 90) (settings 1 0) (feed Stuck Jammed 0 1) (ring 3 0)))
    (report Tick)
    (done (box (scanner Idle Timeout) (job 0 41 77 0 0) (side 1 0 90) (settings 1 0) (feed Stuck Jammed 0 1) (ring 0 0))) refl
    ∷ case "in Erred the 300th ends it, granted 600"
    (at (box (scanner Erred Jammed) (job 41 41 600 299 0) (side 6 8 90) (settings 0 1) (feed Loaded Timeout 1 0) (ring 3 0))) (report Tick)
    (done (box (scanner Idle Timeout) (job 0 41 600 0 0) (side 1 0 90) (settings 0 1) (feed Loaded Timeout 1 0) (ring 0 0))) refl
    ∷ case "Scanning: granted 600, 300 holds"
    (at (box (scanner Scanning Timeout) (job 41 41 600 299 0) (side 6 1 90) (settings 0 1) (feed Loaded Jammed 1 0) (ring 3 4))) (report Tick)
    (done (box (scanner Scanning Timeout) (job 41 41 600 300 0) (side 6 1 90) (settings 0 1) (feed Loaded Jammed 1 0) (ring 3 4))) refl
    ∷ case "Scanning: granted 600, the 600th ends it"
    (at (box (scanner Scanning Timeout) (job 41 41 600 599 0) (side 6 1 90) (settings 0 1) (feed Loaded Jammed 1 0) (ring 3 4))) (report Tick)
    (done (box (scanner Idle Timeout) (job 0 41 600 0 0) (side 1 0 90) (settings 0 1) (feed Loaded Jammed 1 0) (ring 0 0))) refl
    ∷ case "granted 5: the fifth ends it"
    (at (box (scanner Pending Timeout) (job 41 41 5 4 0) (side 6 8 90) (settings 1 0) (feed Loaded Jammed 1 0) (ring 3 0))) (report Tick)
    (done (box (scanner Idle Timeout) (job 0 41 5 0 0) (side 1 0 90) (settings 1 0) (feed Loaded Jammed 1 0) (ring 0 0))) refl
    ∷ []

-- ---- Load: tray empty: 713 and Unloaded, from Loaded too. Else Loaded
pub load_calls : List (Case Outcome)
unfolding final
load_calls =
    case "Load from Unloaded" (resting (settings 1 0) (feed Unloaded Jammed 1 0)) (feeder (Load 0))
    (done (box (scanner Idle Timeout) (job 0 41 77 0 0) (side 1 0 90) (settings 1 0) (feed Loaded Jammed 1 0) (ring 3 0))) refl
    ∷ case "Load from Loaded" (resting (settings 0 1) (feed Loaded Timeout 1 0)) (feeder (Load 0))
    (done (box (scanner Idle Timeout) (job 0 41 77 0 0) (side 1 0 90) (settings 0 1) (feed Loaded Timeout 1 0) (ring 3 0))) refl
    ∷ case "Load in Pending: quiet stays" (holding (settings 1 0) (feed Unloaded Jammed 1 0)) (feeder (Load 41))
    (done (box (scanner Pending Timeout) (job 41 41 77 13 0) (side 6 8 90) (settings 1 0) (feed Loaded Jammed 1 0) (ring 3 0))) refl
    ∷ case "Load in Scanning on the glass" (copying 1 (feed Unloaded Jammed 1 0) (ring 3 4)) (feeder (Load 41))
    (done (box (scanner Scanning Timeout) (job 41 41 77 13 1) (side 6 1 90) (settings 0 1) (feed Loaded Jammed 1 0) (ring 3 4))) refl
    ∷ case "Load in Finishing" (draining 1 8 (feed Unloaded Jammed 1 0) (ring 3 4)) (feeder (Load 41))
    (done (box (scanner Finishing Timeout) (job 41 41 77 13 1) (side 6 8 90) (settings 1 0) (feed Loaded Jammed 1 0) (ring 3 4))) refl
    ∷ case "Load in Erred" (faulty (settings 1 0) (feed Unloaded Jammed 1 0)) (feeder (Load 41))
    (done (box (scanner Erred Timeout) (job 41 41 77 13 0) (side 6 8 90) (settings 1 0) (feed Loaded Jammed 1 0) (ring 3 0))) refl
    ∷ keeps "Load 713 from Unloaded" (resting (settings 1 0) (feed Unloaded Jammed 0 0)) (feeder (Load 0)) 713 refl
    ∷ case "Load 713 from Loaded in Pending: quiet stays" (holding (settings 1 0) (feed Loaded Jammed 0 0)) (feeder (Load 41))
    (out 713 nothing (box (scanner Pending Timeout) (job 41 41 77 13 0) (side 6 8 90) (settings 1 0) (feed Unloaded Jammed 0 0) (ring 3 0)) five []) refl
    ∷ case "Load 713 from Loaded in Finishing" (draining 1 8 (feed Loaded Timeout 0 0) (ring 3 4)) (feeder (Load 41))
    (out 713 nothing (box (scanner Finishing Timeout) (job 41 41 77 13 1) (side 6 8 90) (settings 1 0) (feed Unloaded Timeout 0 0) (ring 3 4)) five []) refl
    ∷ keeps "Load 712 in Idle: the last number given" (resting (settings 1 0) (feed Loaded Jammed 1 0)) (feeder (Load 41)) 712 refl
    ∷ keeps "Load 712, another job" (holding (settings 1 0) (feed Unloaded Jammed 1 0)) (feeder (Load 42)) 712 refl
    ∷ keeps "Load 712 comes before 501" (drawing 0 8 (ring 3 4)) (feeder (Load 42)) 712 refl
    ∷ keeps "Load 712 comes before 711" (resting (settings 1 0) (feed Stuck Jammed 0 1)) (feeder (Load 42)) 712 refl
    ∷ keeps "Load 712 comes before 713: Loaded stays" (resting (settings 1 0) (feed Loaded Jammed 0 0)) (feeder (Load 42)) 712 refl
    ∷ keeps "Load 501" (drawing 0 8 (ring 3 4)) (feeder (Load 41)) 501 refl
    ∷ keeps "Load 501, tray empty" (drawing_last 0 8 (ring 3 4)) (feeder (Load 41)) 501 refl
    ∷ keeps "Load 711" (resting (settings 1 0) (feed Stuck Jammed 0 1)) (feeder (Load 0)) 711 refl
    ∷ keeps "Load 711, a sheet in the tray" (faulty (settings 1 0) (feed Stuck Jammed 1 0)) (feeder (Load 41)) 711 refl
    ∷ []

-- ---- Eject 0, 1 or 2 (2 is device-setting, here 1): Unloaded; 1 also sets MorePages to 0
pub eject_calls : List (Case Outcome)
unfolding final
eject_calls =
    case "Eject 0 from Loaded keeps MorePages" (resting (settings 1 0) (feed Loaded Jammed 1 0)) (feeder (Eject 0 0))
    (done (box (scanner Idle Timeout) (job 0 41 77 0 0) (side 1 0 90) (settings 1 0) (feed Unloaded Jammed 1 0) (ring 3 0))) refl
    ∷ case "Eject 1 from Loaded: MorePages 0" (resting (settings 1 0) (feed Loaded Jammed 1 0)) (feeder (Eject 0 1))
    (done (box (scanner Idle Timeout) (job 0 41 77 0 0) (side 1 0 90) (settings 1 0) (feed Unloaded Jammed 0 0) (ring 3 0))) refl
    ∷ case "Eject 2 from Loaded is Eject 1" (resting (settings 1 0) (feed Loaded Jammed 1 0)) (feeder (Eject 0 2))
    (done (box (scanner Idle Timeout) (job 0 41 77 0 0) (side 1 0 90) (settings 1 0) (feed Unloaded Jammed 0 0) (ring 3 0))) refl
    ∷ case "Eject 0 from Unloaded" (holding (settings 1 0) (feed Unloaded Jammed 1 0)) (feeder (Eject 41 0))
    (done (box (scanner Pending Timeout) (job 41 41 77 13 0) (side 6 8 90) (settings 1 0) (feed Unloaded Jammed 1 0) (ring 3 0))) refl
    ∷ case "Eject 1 from Unloaded" (copying 1 (feed Unloaded Jammed 1 0) (ring 3 4)) (feeder (Eject 41 1))
    (done (box (scanner Scanning Timeout) (job 41 41 77 13 1) (side 6 1 90) (settings 0 1) (feed Unloaded Jammed 0 0) (ring 3 4))) refl
    ∷ case "Eject 0 with an empty tray" (draining 1 8 (feed Loaded Jammed 0 0) (ring 3 4)) (feeder (Eject 41 0))
    (done (box (scanner Finishing Timeout) (job 41 41 77 13 1) (side 6 8 90) (settings 1 0) (feed Unloaded Jammed 0 0) (ring 3 4))) refl
    ∷ case "Eject 1 in Erred: quiet stays" (faulty (settings 1 0) (feed Loaded Timeout 1 0)) (feeder (Eject 41 1))
    (done (box (scanner Erred Timeout) (job 41 41 77 13 0) (side 6 8 90) (settings 1 0) (feed Unloaded Timeout 0 0) (ring 3 0))) refl
    ∷ keeps "Eject 601" (resting (settings 1 0) (feed Loaded Jammed 1 0)) (feeder (Eject 0 3)) 601 refl
    ∷ keeps "Eject 601 comes before 712" (resting (settings 1 0) (feed Loaded Jammed 1 0)) (feeder (Eject 42 3)) 601 refl
    ∷ keeps "Eject 712 in Idle: the last number given" (resting (settings 1 0) (feed Loaded Jammed 1 0)) (feeder (Eject 41 1)) 712 refl
    ∷ keeps "Eject 712 while held: 0" (holding (settings 1 0) (feed Loaded Jammed 1 0)) (feeder (Eject 0 1)) 712 refl
    ∷ keeps "Eject 712 comes before 501" (drawing 0 8 (ring 3 4)) (feeder (Eject 42 1)) 712 refl
    ∷ keeps "Eject 712 comes before 711" (resting (settings 1 0) (feed Stuck Jammed 0 1)) (feeder (Eject 42 1)) 712 refl
    ∷ keeps "Eject 501" (drawing 0 8 (ring 3 4)) (feeder (Eject 41 1)) 501 refl
    ∷ keeps "Eject 711" (resting (settings 1 0) (feed Stuck Jammed 0 1)) (feeder (Eject 0 1)) 711 refl
    ∷ keeps "Eject 711, path 0" (faulty (settings 1 0) (feed Stuck Jammed 1 0)) (feeder (Eject 41 0)) 711 refl
    ∷ []

-- ---- Reset: Erred with path sensor 0 becomes Unloaded, none. Otherwise accepted, nothing changes
pub reset_calls : List (Case Outcome)
unfolding final
reset_calls =
    case "Reset, path 0: Unloaded, none; MorePages stays 1" (resting (settings 1 0) (feed Stuck Jammed 1 0)) (feeder (Reset 0))
    (done (box (scanner Idle Timeout) (job 0 41 77 0 0) (side 1 0 90) (settings 1 0) (feed Unloaded None 1 0) (ring 3 0))) refl
    ∷ case "Reset, path 0, tray empty; the scanner stays Erred" (faulty (settings 1 0) (feed Stuck Timeout 0 0)) (feeder (Reset 41))
    (done (box (scanner Erred Timeout) (job 41 41 77 13 0) (side 6 8 90) (settings 1 0) (feed Unloaded None 0 0) (ring 3 0))) refl
    ∷ case "Reset, path 1: nothing changes" (faulty (settings 1 0) (feed Stuck Jammed 0 1)) (feeder (Reset 41))
    (done (box (scanner Erred Timeout) (job 41 41 77 13 0) (side 6 8 90) (settings 1 0) (feed Stuck Jammed 0 1) (ring 3 0))) refl
    ∷ case "Reset from Loaded: nothing changes" (resting (settings 1 0) (feed Loaded Jammed 1 0)) (feeder (Reset 0))
    (done (box (scanner Idle Timeout) (job 0 41 77 0 0) (side 1 0 90) (settings 1 0) (feed Loaded Jammed 1 0) (ring 3 0))) refl
    ∷ case "Reset from Unloaded: nothing changes" (draining 1 8 (feed Unloaded Jammed 0 0) (ring 3 4)) (feeder (Reset 41))
    (done (box (scanner Finishing Timeout) (job 41 41 77 13 1) (side 6 8 90) (settings 1 0) (feed Unloaded Jammed 0 0) (ring 3 4))) refl
    ∷ keeps "Reset 712 in Idle: the last number given" (resting (settings 1 0) (feed Loaded Jammed 1 0)) (feeder (Reset 41)) 712 refl
    ∷ keeps "Reset 712 while held: 0" (holding (settings 1 0) (feed Stuck Jammed 1 0)) (feeder (Reset 0)) 712 refl
    ∷ keeps "Reset 712 comes before 501" (drawing 0 8 (ring 3 4)) (feeder (Reset 42)) 712 refl
    ∷ keeps "Reset 501" (drawing 0 8 (ring 3 4)) (feeder (Reset 41)) 501 refl
    ∷ []

-- ---- SetFeederMode: 0, Simplex, while Unloaded. GetFeederMode and GetState as they read
pub mode_calls : List (Case Outcome)
unfolding final
mode_calls =
    case "SetFeederMode in Idle" (resting (settings 1 0) (feed Unloaded Jammed 1 0)) (feeder (SetFeederMode 0 0))
    (done (box (scanner Idle Timeout) (job 0 41 77 0 0) (side 1 0 90) (settings 1 0) (feed Unloaded Jammed 1 0) (ring 3 0))) refl
    ∷ case "SetFeederMode in Scanning on the glass" (copying 1 (feed Unloaded Jammed 0 0) (ring 3 4)) (feeder (SetFeederMode 41 0))
    (done (box (scanner Scanning Timeout) (job 41 41 77 13 1) (side 6 1 90) (settings 0 1) (feed Unloaded Jammed 0 0) (ring 3 4))) refl
    ∷ keeps "SetFeederMode 601" (resting (settings 1 0) (feed Unloaded Jammed 1 0)) (feeder (SetFeederMode 0 1)) 601 refl
    ∷ keeps "SetFeederMode 601 comes before 712" (resting (settings 1 0) (feed Unloaded Jammed 1 0)) (feeder (SetFeederMode 42 2)) 601 refl
    ∷ keeps "SetFeederMode 712 in Idle: the last number given" (resting (settings 1 0) (feed Unloaded Jammed 1 0)) (feeder (SetFeederMode 41 0)) 712 refl
    ∷ keeps "SetFeederMode 712 while held: 0" (holding (settings 1 0) (feed Unloaded Jammed 1 0)) (feeder (SetFeederMode 0 0)) 712 refl
    ∷ keeps "SetFeederMode 712 comes before 501" (drawing 0 8 (ring 3 4)) (feeder (SetFeederMode 42 0)) 712 refl
    ∷ keeps "SetFeederMode 501 from Loaded" (resting (settings 1 0) (feed Loaded Jammed 1 0)) (feeder (SetFeederMode 0 0)) 501 refl
    ∷ keeps "SetFeederMode 501 from Busy" (drawing 0 8 (ring 3 4)) (feeder (SetFeederMode 41 0)) 501 refl
    ∷ keeps "SetFeederMode on an Erred feeder is 501" (resting (settings 1 0) (feed Stuck Jammed 0 1)) (feeder (SetFeederMode 0 0)) 501 refl
    ∷ case "feeder GetState: Unloaded" (draining 1 8 (feed Unloaded None 0 0) (ring 3 4)) (feeder GetFeederState)
    (taking (feeding Unloaded 0 None) (box (scanner Finishing Timeout) (job 41 41 77 13 1) (side 6 8 90) (settings 1 0) (feed Unloaded None 0 0) (ring 3 4)))
    refl
    ∷ case "feeder GetState: Loaded" (resting (settings 1 0) (feed Loaded Jammed 1 0)) (feeder GetFeederState)
    (taking (feeding Loaded 1 Jammed) (box (scanner Idle Timeout) (job 0 41 77 0 0) (side 1 0 90) (settings 1 0) (feed Loaded Jammed 1 0) (ring 3 0))) refl
    ∷ case "feeder GetState: Busy" (drawing 0 8 (ring 3 4)) (feeder GetFeederState)
    (taking (feeding Busy 1 Jammed) (box (scanner Scanning Timeout) (job 41 41 77 13 0) (side 6 8 90) (settings 1 0) (feed Busy Jammed 1 0) (ring 3 4))) refl
    ∷ case "feeder GetState: Erred" (faulty (settings 1 0) (feed Stuck Timeout 0 1)) (feeder GetFeederState)
    (taking (feeding Stuck 0 Timeout) (box (scanner Erred Timeout) (job 41 41 77 13 0) (side 6 8 90) (settings 1 0) (feed Stuck Timeout 0 1) (ring 3 0))) refl
    ∷ case "GetFeederMode: Simplex" (resting (settings 1 0) (feed Stuck Jammed 0 1)) (feeder GetFeederMode)
    (taking (mode 0) (box (scanner Idle Timeout) (job 0 41 77 0 0) (side 1 0 90) (settings 1 0) (feed Stuck Jammed 0 1) (ring 3 0))) refl
    ∷ []

-- ---- where a builder slips
pub slips : List (Case Outcome)
unfolding final
slips =
    afterwards "Load's 713 is a move of the feeder" (resting (settings 1 0) (feed Loaded Jammed 0 0)) (feeder (Load 0) ∷ []) (scan (StartScan 1 7 1 123))
    (out 713 nothing (box (scanner Idle Timeout) (job 0 41 77 0 0) (side 1 0 90) (settings 1 0) (feed Unloaded Jammed 0 0) (ring 3 0)) five []) refl
    ∷ afterwards "StartScan's 713 is none" (resting (settings 1 0) (feed Unloaded Jammed 0 0)) (scan (StartScan 1 7 1 123) ∷ report (Tray 1) ∷ [])
    (scan (StartScan 1 7 1 123))
    (taking (time 123) (box (scanner Scanning None) (job 42 42 123 0 0) (side 1 7 91) (settings 1 1) (feed Busy Jammed 1 0) (ring 3 0))) refl
    ∷ afterwards "the right number puts off nothing"
    (at (box (scanner Pending Timeout) (job 41 41 77 75 0) (side 6 8 90) (settings 1 0) (feed Loaded Jammed 1 0) (ring 3 0)))
    (report Tick ∷ feeder (Load 41) ∷ scan (Fetch j41 255 nine) ∷ feeder (Eject 41 0) ∷ feeder (Reset 41) ∷ feeder (SetFeederMode 41 0) ∷ report (Tray 0) ∷ [])
    (report Tick)
    (done (box (scanner Idle Timeout) (job 0 41 77 0 0) (side 1 0 90) (settings 1 0) (feed Unloaded Jammed 0 0) (ring 0 0))) refl
    ∷ afterwards "nor does a stop that is asked twice"
    (at (box (scanner Scanning Timeout) (job 41 41 77 75 0) (side 6 8 90) (settings 1 0) (feed Busy Jammed 1 0) (ring 3 4)))
    (scan (Stop 41) ∷ report Tick ∷ scan (Stop 41) ∷ []) (report Tick)
    (done (box (scanner Idle Timeout) (job 0 41 77 0 0) (side 1 0 90) (settings 1 0) (feed Stuck Timeout 1 0) (ring 0 0))) refl
    ∷ afterwards "no ring bytes afterwards Abort" (drawing 0 8 (ring 3 4)) (scan (Abort 41) ∷ scan (StartScan 0 1 0 123) ∷ []) (scan (Fetch j42 255 nine))
    (sent 0 false [] (65 ∷ 66 ∷ 67 ∷ 68 ∷ 69 ∷ [])
    (box (scanner Scanning None) (job 42 42 123 0 0) (side 1 1 91) (settings 0 0) (feed Unloaded Jammed 1 0) (ring 0 0))) refl
    ∷ afterwards "no ring bytes afterwards a jam" (drawing 0 8 (ring 3 4)) (report (Path 1) ∷ scan (Start 41 0 1) ∷ []) (scan (Fetch j41 255 nine))
    (sent 0 false [] (65 ∷ 66 ∷ 67 ∷ 68 ∷ 69 ∷ [])
    (box (scanner Scanning None) (job 41 41 77 0 0) (side 6 1 90) (settings 0 0) (feed Stuck Jammed 1 1) (ring 0 0))) refl
    ∷ afterwards "−1 stays −1, side afterwards side" (drawing 0 minus_one (ring 3 0)) (report SideEnded ∷ report SideEnded ∷ []) (report SideEnded)
    (done (box (scanner Scanning Timeout) (job 41 41 77 0 0) (side 9 minus_one 90) (settings 1 0) (feed Busy Jammed 1 0) (ring 3 0))) refl
    ∷ []

-- ---- DestinationID rises by one exactly when the name differs from the last name that any job held
pub destinations : List (Case Outcome)
unfolding final
destinations =
    case "the first job's name counts as a change: 0 goes to 1"
    (at (called_last no_name (box (scanner Idle None) (job 0 0 60 0 0) (side 1 0 0) (settings 1 1) (feed Unloaded None 0 0) (ring 0 0))))
    (scan (StartScan 0 0 2 0))
    (taking (time 60) (called_last k1-001 (box (scanner Pending None) (job 1 1 60 0 0) (side 1 0 1) (settings 0 1) (feed Unloaded None 0 0) (ring 0 0)))) refl
    ∷ case "the first job's name without Append"
    (at (called_last no_name (box (scanner Idle None) (job 0 0 60 0 0) (side 1 0 0) (settings 1 1) (feed Unloaded None 0 0) (ring 0 0))))
    (scan (StartScan 0 1 0 0))
    (taking (time 60) (called_last k1 (box (scanner Scanning None) (job 1 1 60 0 0) (side 1 1 1) (settings 0 0) (feed Unloaded None 0 0) (ring 0 0)))) refl
    ∷ case "the next job has another name, with SideCount 0 too" (resting_after k41-006 (settings 1 1) (feed Loaded Jammed 1 0)) (scan (StartScan 1 0 2 123))
    (taking (time 123)
    (called_last k42-001 (box (scanner Pending None) (job 42 42 123 0 0) (side 1 0 91) (settings 1 1) (feed Loaded Jammed 1 0) (ring 3 0)))) refl
    ∷ case "the side that begins then raises nothing more" (resting_after k41-006 (settings 1 1) (feed Loaded Jammed 1 0)) (scan (StartScan 1 7 2 123))
    (taking (time 123)
    (called_last k42-001 (box (scanner Scanning None) (job 42 42 123 0 0) (side 1 7 91) (settings 1 1) (feed Busy Jammed 1 0) (ring 3 0)))) refl
    ∷ case "without Append the next job has another name" (resting_after k41 (settings 1 0) (feed Loaded Jammed 1 0)) (scan (StartScan 1 0 2 123))
    (taking (time 123) (called_last k42 (box (scanner Pending None) (job 42 42 123 0 0) (side 1 0 91) (settings 1 0) (feed Loaded Jammed 1 0) (ring 3 0)))) refl
    ∷ case "a job with the last name: DestinationID stays" (resting_after k42-001 (settings 1 0) (feed Loaded Jammed 1 0)) (scan (StartScan 0 0 1 123))
    (taking (time 123)
    (called_last k42-001 (box (scanner Pending None) (job 42 42 123 0 0) (side 1 0 90) (settings 0 1) (feed Loaded Jammed 1 0) (ring 3 0)))) refl
    ∷ case "and stays where a side begins" (resting_after k42-001 (settings 1 0) (feed Loaded Jammed 1 0)) (scan (StartScan 1 7 1 123))
    (taking (time 123)
    (called_last k42-001 (box (scanner Scanning None) (job 42 42 123 0 0) (side 1 7 90) (settings 1 1) (feed Busy Jammed 1 0) (ring 3 0)))) refl
    ∷ case "and stays without Append" (resting_after k42 (settings 1 1) (feed Loaded Jammed 1 0)) (scan (StartScan 0 0 0 123))
    (taking (time 123) (called_last k42 (box (scanner Pending None) (job 42 42 123 0 0) (side 1 0 90) (settings 0 0) (feed Loaded Jammed 1 0) (ring 3 0)))) refl
    ∷ case "and stays without Append where a side begins" (resting_after k42 (settings 0 1) (feed Loaded Jammed 1 0)) (scan (StartScan 1 2 0 123))
    (taking (time 123) (called_last k42 (box (scanner Scanning None) (job 42 42 123 0 0) (side 1 2 90) (settings 1 0) (feed Busy Jammed 1 0) (ring 3 0)))) refl
    ∷ case "Append is settled before the name is compared: the same" (resting_after k42-001 (settings 1 1) (feed Loaded Jammed 1 0)) (scan (StartScan 0 0 2 123))
    (taking (time 123)
    (called_last k42-001 (box (scanner Pending None) (job 42 42 123 0 0) (side 1 0 90) (settings 0 1) (feed Loaded Jammed 1 0) (ring 3 0)))) refl
    ∷ case "Append is settled before the name is compared: another" (resting_after k42-001 (settings 1 0) (feed Loaded Jammed 1 0)) (scan (StartScan 0 0 2 123))
    (taking (time 123) (called_last k42 (box (scanner Pending None) (job 42 42 123 0 0) (side 1 0 91) (settings 0 0) (feed Loaded Jammed 1 0) (ring 3 0)))) refl
    ∷ case "the name with a side is another than the one without" (resting_after k42 (settings 1 0) (feed Loaded Jammed 1 0)) (scan (StartScan 0 0 1 123))
    (taking (time 123)
    (called_last k42-001 (box (scanner Pending None) (job 42 42 123 0 0) (side 1 0 91) (settings 0 1) (feed Loaded Jammed 1 0) (ring 3 0)))) refl
    ∷ case "no last name at all" (resting_after no_name (settings 1 0) (feed Loaded Jammed 1 0)) (scan (StartScan 0 0 1 123))
    (taking (time 123)
    (called_last k42-001 (box (scanner Pending None) (job 42 42 123 0 0) (side 1 0 91) (settings 0 1) (feed Loaded Jammed 1 0) (ring 3 0)))) refl
    ∷ case "the last name differs in byte 1" (resting_after (kept 0x4B30303030303030 0x3034323030312E6A 0x7067 18) (settings 1 0) (feed Loaded Jammed 1 0))
    (scan (StartScan 0 0 1 123))
    (taking (time 123)
    (called_last k42-001 (box (scanner Pending None) (job 42 42 123 0 0) (side 1 0 91) (settings 0 1) (feed Loaded Jammed 1 0) (ring 3 0)))) refl
    ∷ case "the last name differs in byte 8" (resting_after (kept 0x4A30303030303031 0x3034323030312E6A 0x7067 18) (settings 1 0) (feed Loaded Jammed 1 0))
    (scan (StartScan 0 0 1 123))
    (taking (time 123)
    (called_last k42-001 (box (scanner Pending None) (job 42 42 123 0 0) (side 1 0 91) (settings 0 1) (feed Loaded Jammed 1 0) (ring 3 0)))) refl
    ∷ case "the last name differs in byte 9" (resting_after (kept 0x4A30303030303030 0x3134323030312E6A 0x7067 18) (settings 1 0) (feed Loaded Jammed 1 0))
    (scan (StartScan 0 0 1 123))
    (taking (time 123)
    (called_last k42-001 (box (scanner Pending None) (job 42 42 123 0 0) (side 1 0 91) (settings 0 1) (feed Loaded Jammed 1 0) (ring 3 0)))) refl
    ∷ case "the last name differs in byte 16" (resting_after (kept 0x4A30303030303030 0x3034323030312E6B 0x7067 18) (settings 1 0) (feed Loaded Jammed 1 0))
    (scan (StartScan 0 0 1 123))
    (taking (time 123)
    (called_last k42-001 (box (scanner Pending None) (job 42 42 123 0 0) (side 1 0 91) (settings 0 1) (feed Loaded Jammed 1 0) (ring 3 0)))) refl
    ∷ case "the last name differs in byte 17" (resting_after (kept 0x4A30303030303030 0x3034323030312E6A 0x7167 18) (settings 1 0) (feed Loaded Jammed 1 0))
    (scan (StartScan 0 0 1 123))
    (taking (time 123)
    (called_last k42-001 (box (scanner Pending None) (job 42 42 123 0 0) (side 1 0 91) (settings 0 1) (feed Loaded Jammed 1 0) (ring 3 0)))) refl
    ∷ case "the last name differs in byte 18" (resting_after (kept 0x4A30303030303030 0x3034323030312E6A 0x7068 18) (settings 1 0) (feed Loaded Jammed 1 0))
    (scan (StartScan 0 0 1 123))
    (taking (time 123)
    (called_last k42-001 (box (scanner Pending None) (job 42 42 123 0 0) (side 1 0 91) (settings 0 1) (feed Loaded Jammed 1 0) (ring 3 0)))) refl
    ∷ case "the last name has another length" (resting_after (kept 0x4A30303030303030 0x3034323030312E6A 0x7067 17) (settings 1 0) (feed Loaded Jammed 1 0))
    (scan (StartScan 0 0 1 123))
    (taking (time 123)
    (called_last k42-001 (box (scanner Pending None) (job 42 42 123 0 0) (side 1 0 91) (settings 0 1) (feed Loaded Jammed 1 0) (ring 3 0)))) refl
    ∷ case "the same without Append" (resting_after (kept 0x4A30303030303030 0x3034322E6A706700 0 16) (settings 1 1) (feed Loaded Jammed 1 0))
    (scan (StartScan 0 0 0 123))
    (taking (time 123) (called_last k42 (box (scanner Pending None) (job 42 42 123 0 0) (side 1 0 91) (settings 0 0) (feed Loaded Jammed 1 0) (ring 3 0)))) refl
    ∷ case "the last name has a byte behind its length" (resting_after (kept 0x4A30303030303030 0x3034322E6A706700 1 15) (settings 1 1) (feed Loaded Jammed 1 0))
    (scan (StartScan 0 0 0 123))
    (taking (time 123) (called_last k42 (box (scanner Pending None) (job 42 42 123 0 0) (side 1 0 91) (settings 0 0) (feed Loaded Jammed 1 0) (ring 3 0)))) refl
    ∷ case "4,294,967,295 goes to 0 with SideCount 0 too"
    (at (box (scanner Idle Timeout) (job 0 41 77 0 0) (side 1 0 4294967295) (settings 1 0) (feed Loaded Jammed 1 0) (ring 3 0))) (scan (StartScan 0 0 1 123))
    (taking (time 123)
    (called_last k42-001 (box (scanner Pending None) (job 42 42 123 0 0) (side 1 0 0) (settings 0 1) (feed Loaded Jammed 1 0) (ring 3 0)))) refl
    ∷ case "4,294,967,295 stays with the last name"
    (at (called_last k42-001 (box (scanner Idle Timeout) (job 0 41 77 0 0) (side 1 0 4294967295) (settings 1 0) (feed Loaded Jammed 1 0) (ring 3 0))))
    (scan (StartScan 1 7 1 123))
    (taking (time 123)
    (called_last k42-001 (box (scanner Scanning None) (job 42 42 123 0 0) (side 1 7 4294967295) (settings 1 1) (feed Busy Jammed 1 0) (ring 3 0)))) refl
    ∷ case "with Append the next side has another name: in Pending" (draining_numbered 0 0 (feed Loaded Jammed 1 0) (ring 3 4)) (scan (Fetch j41-006 255 nine))
    (sent 4 true (24 ∷ 25 ∷ 21 ∷ 22 ∷ []) (69 ∷ [])
    (called_last k41-007 (box (scanner Pending Timeout) (job 41 41 77 0 0) (side 7 0 91) (settings 1 1) (feed Loaded Jammed 1 0) (ring 2 0)))) refl
    ∷ case "in Erred, by 711" (draining_numbered 0 8 (feed Stuck Jammed 0 1) (ring 3 4)) (scan (Fetch j41-006 255 nine))
    (sent 4 true (24 ∷ 25 ∷ 21 ∷ 22 ∷ []) (69 ∷ [])
    (called_last k41-007 (box (scanner Erred Jammed) (job 41 41 77 0 0) (side 7 8 91) (settings 1 1) (feed Stuck Jammed 0 1) (ring 2 0)))) refl
    ∷ case "in Pending, by 713" (draining_numbered 0 8 (feed Unloaded Jammed 0 0) (ring 3 4)) (scan (Fetch j41-006 255 nine))
    (sent 4 true (24 ∷ 25 ∷ 21 ∷ 22 ∷ []) (69 ∷ [])
    (called_last k41-007 (box (scanner Pending Timeout) (job 41 41 77 0 0) (side 7 8 91) (settings 1 1) (feed Unloaded Jammed 0 0) (ring 2 0)))) refl
    ∷ case "in Pending, by 713 after −1" (draining_numbered 0 minus_one (feed Unloaded Jammed 0 0) (ring 3 4)) (scan (Fetch j41-006 255 nine))
    (sent 4 true (24 ∷ 25 ∷ 21 ∷ 22 ∷ []) (69 ∷ [])
    (called_last k41-007 (box (scanner Pending Timeout) (job 41 41 77 0 0) (side 7 0 91) (settings 1 1) (feed Unloaded Jammed 0 0) (ring 2 0)))) refl
    ∷ case "in Scanning: it rises once" (draining_numbered 0 8 (feed Unloaded Jammed 1 0) (ring 3 4)) (scan (Fetch j41-006 255 nine))
    (sent 4 true (24 ∷ 25 ∷ 21 ∷ 22 ∷ []) (69 ∷ [])
    (called_last k41-007 (box (scanner Scanning Timeout) (job 41 41 77 0 0) (side 7 8 91) (settings 1 1) (feed Busy Jammed 1 0) (ring 2 0)))) refl
    ∷ case "a drain step that ends the job moves neither DestinationID nor the last name" (draining_numbered 1 8 (feed Loaded Jammed 1 0) (ring 3 4))
    (scan (Fetch j41-006 255 nine))
    (sent 4 true (24 ∷ 25 ∷ 21 ∷ 22 ∷ []) (69 ∷ [])
    (called_last k41-006 (box (scanner Idle None) (job 0 41 77 0 0) (side 1 0 90) (settings 1 1) (feed Loaded Jammed 1 0) (ring 0 0)))) refl
    ∷ case "nor does it where no side is due" (draining_numbered 1 0 (feed Unloaded Jammed 1 0) (ring 3 4)) (scan (Fetch j41-006 255 nine))
    (sent 4 true (24 ∷ 25 ∷ 21 ∷ 22 ∷ []) (69 ∷ [])
    (called_last k41-006 (box (scanner Idle None) (job 0 41 77 0 0) (side 1 0 90) (settings 1 1) (feed Unloaded Jammed 1 0) (ring 0 0)))) refl
    ∷ case "a fetch that is not the last moves neither" (draining_numbered 0 8 (feed Loaded Jammed 1 0) (ring 3 4)) (scan (Fetch j41-006 3 nine))
    (sent 3 false (24 ∷ 25 ∷ 21 ∷ []) (68 ∷ 69 ∷ [])
    (called_last k41-006 (box (scanner Finishing Timeout) (job 41 41 77 0 0) (side 6 8 90) (settings 1 1) (feed Loaded Jammed 1 0) (ring 1 1)))) refl
    ∷ case "without Append the name stays: 4,294,967,295 too"
    (at (box (scanner Finishing Timeout) (job 41 41 77 13 0) (side 6 8 4294967295) (settings 1 0) (feed Loaded Jammed 1 0) (ring 3 4)))
    (scan (Fetch j41 255 nine))
    (sent 4 true (24 ∷ 25 ∷ 21 ∷ 22 ∷ []) (69 ∷ [])
    (called_last k41 (box (scanner Scanning Timeout) (job 41 41 77 0 0) (side 7 8 4294967295) (settings 1 0) (feed Busy Jammed 1 0) (ring 2 0)))) refl
    ∷ case "without Append SideNumber 999 goes to 0 under the same name"
    (at (box (scanner Finishing Timeout) (job 41 41 77 13 0) (side 999 0 90) (settings 1 0) (feed Loaded Jammed 1 0) (ring 3 4))) (scan (Fetch j41 255 nine))
    (sent 4 true (24 ∷ 25 ∷ 21 ∷ 22 ∷ []) (69 ∷ [])
    (called_last k41 (box (scanner Pending Timeout) (job 41 41 77 0 0) (side 0 0 90) (settings 1 0) (feed Loaded Jammed 1 0) (ring 2 0)))) refl
    ∷ case "with Append SideNumber 999 goes to 0, and the name with it"
    (at (box (scanner Finishing Timeout) (job 41 41 77 13 0) (side 999 0 90) (settings 1 1) (feed Loaded Jammed 1 0) (ring 3 4)))
    (scan (Fetch j41-999 255 nine))
    (sent 4 true (24 ∷ 25 ∷ 21 ∷ 22 ∷ []) (69 ∷ [])
    (called_last k41-000 (box (scanner Pending Timeout) (job 41 41 77 0 0) (side 0 0 91) (settings 1 1) (feed Loaded Jammed 1 0) (ring 2 0)))) refl
    ∷ case "Side ended, the ring empty: with Append the next side has another name" (drawing_numbered 0 8 1 (ring 3 0)) (report SideEnded)
    (done (called_last k41-007 (box (scanner Scanning Timeout) (job 41 41 77 0 0) (side 7 7 91) (settings 1 1) (feed Busy Jammed 1 0) (ring 3 0)))) refl
    ∷ case "the same in Pending, by 713" (drawing_numbered 0 8 0 (ring 3 0)) (report SideEnded)
    (done (called_last k41-007 (box (scanner Pending Timeout) (job 41 41 77 0 0) (side 7 7 91) (settings 1 1) (feed Unloaded Jammed 0 0) (ring 3 0)))) refl
    ∷ case "the same in Pending, the last side" (drawing_numbered 0 1 1 (ring 3 0)) (report SideEnded)
    (done (called_last k41-007 (box (scanner Pending Timeout) (job 41 41 77 0 0) (side 7 0 91) (settings 1 1) (feed Unloaded Jammed 1 0) (ring 3 0)))) refl
    ∷ case "Side ended, the ring empty: an end of job moves neither" (drawing_numbered 1 8 1 (ring 3 0)) (report SideEnded)
    (done (called_last k41-006 (box (scanner Idle None) (job 0 41 77 0 0) (side 1 0 90) (settings 1 1) (feed Unloaded Jammed 1 0) (ring 0 0)))) refl
    ∷ case "Side ended with bytes stored moves neither" (drawing_numbered 0 8 1 (ring 3 4)) (report SideEnded)
    (done (called_last k41-006 (box (scanner Finishing Timeout) (job 41 41 77 0 0) (side 6 7 90) (settings 1 1) (feed Unloaded Jammed 1 0) (ring 3 4)))) refl
    ∷ case "a jam keeps number and name" (drawing_numbered 1 8 1 (ring 3 4)) (report (Path 1))
    (done (called_last k41-006 (box (scanner Erred Jammed) (job 41 41 77 0 0) (side 6 8 90) (settings 1 1) (feed Stuck Jammed 1 1) (ring 0 0)))) refl
    ∷ afterwards "a side begun again after a jam keeps them" (drawing_numbered 0 8 1 (ring 3 4))
    (report (Path 1) ∷ report (Path 0) ∷ feeder (Reset 41) ∷ []) (scan (Start 41 1 7))
    (done (called_last k41-006 (box (scanner Scanning None) (job 41 41 77 0 0) (side 6 7 90) (settings 1 1) (feed Busy None 1 0) (ring 0 0)))) refl
    ∷ afterwards "so does one begun on the glass instead" (drawing_numbered 0 8 1 (ring 3 4))
    (report (Path 1) ∷ []) (scan (Start 41 0 1))
    (done (called_last k41-006 (box (scanner Scanning None) (job 41 41 77 0 0) (side 6 1 90) (settings 0 1) (feed Stuck Jammed 1 1) (ring 0 0)))) refl
    ∷ afterwards "Start after a drain step to Pending raises nothing more" (draining_numbered 0 0 (feed Loaded Jammed 1 0) (ring 3 4))
    (scan (Fetch j41-006 255 nine) ∷ []) (scan (Start 41 1 7))
    (done (called_last k41-007 (box (scanner Scanning None) (job 41 41 77 0 0) (side 7 7 91) (settings 1 1) (feed Busy Jammed 1 0) (ring 2 0)))) refl
    ∷ afterwards "GetDestination tells the new name with its number" (draining_numbered 0 8 (feed Loaded Jammed 1 0) (ring 3 4))
    (scan (Fetch j41-006 255 nine) ∷ []) (scan (GetDestination 41))
    (taking (destination j41-007 91)
    (called_last k41-007 (box (scanner Scanning Timeout) (job 41 41 77 0 0) (side 7 8 91) (settings 1 1) (feed Busy Jammed 1 0) (ring 2 0)))) refl
    ∷ case "Stop that ends the job keeps number and last name" (holding (settings 1 1) (feed Loaded Jammed 1 0)) (scan (Stop 41))
    (done (called_last k41-006 (box (scanner Idle None) (job 0 41 77 0 0) (side 1 0 90) (settings 1 1) (feed Loaded Jammed 1 0) (ring 0 0)))) refl
    ∷ case "Abort keeps them" (drawing_numbered 1 8 1 (ring 3 4)) (scan (Abort 41))
    (done (called_last k41-006 (box (scanner Idle None) (job 0 41 77 0 0) (side 1 0 90) (settings 1 1) (feed Unloaded Jammed 1 0) (ring 0 0)))) refl
    ∷ case "an end by time keeps them"
    (at (box (scanner Scanning Timeout) (job 41 41 77 76 0) (side 6 8 90) (settings 1 1) (feed Busy Jammed 1 0) (ring 3 4))) (report Tick)
    (done (called_last k41-006 (box (scanner Idle Timeout) (job 0 41 77 0 0) (side 1 0 90) (settings 1 1) (feed Stuck Timeout 1 0) (ring 0 0)))) refl
    ∷ afterwards "the last name is the last side's, not the job's first" (draining_numbered 0 0 (feed Loaded Jammed 1 0) (ring 3 4))
    (scan (Fetch j41-006 255 nine) ∷ []) (scan (Abort 41))
    (done (called_last k41-007 (box (scanner Idle None) (job 0 41 77 0 0) (side 1 0 91) (settings 1 1) (feed Loaded Jammed 1 0) (ring 0 0)))) refl
    ∷ afterwards "nothing in Idle forgets it" (resting_after k42-001 (settings 1 0) (feed Loaded Jammed 1 0))
    (report Tick ∷ report (Tray 0) ∷ feeder (Load 0) ∷ report (Path 1) ∷ scan GetState ∷ scan (Stop 41) ∷ []) (scan (StartScan 0 0 1 123))
    (taking (time 123)
    (called_last k42-001 (box (scanner Pending None) (job 42 42 123 0 0) (side 1 0 90) (settings 0 1) (feed Stuck Jammed 0 1) (ring 3 0)))) refl
    ∷ afterwards "job after job it rises by one" (resting (settings 1 0) (feed Loaded Jammed 1 0))
    (scan (StartScan 0 0 1 123) ∷ scan (Abort 42) ∷ []) (scan (StartScan 0 1 1 45))
    (taking (time 45)
    (called_last k43-001 (box (scanner Scanning None) (job 43 43 45 0 0) (side 1 1 92) (settings 0 1) (feed Loaded Jammed 1 0) (ring 0 0)))) refl
    ∷ afterwards "a refused StartScan counts for nothing" (resting (settings 1 0) (feed Loaded Jammed 1 0))
    (scan (StartScan 0 2 1 123) ∷ report (Path 1) ∷ scan (StartScan 1 7 1 123) ∷ []) (scan (StartScan 0 0 0 123))
    (taking (time 123) (called_last k42 (box (scanner Pending None) (job 42 42 123 0 0) (side 1 0 91) (settings 0 0) (feed Stuck Jammed 1 1) (ring 3 0)))) refl
    ∷ []

-- ---- 604 for every call, before its own numbers, and all as it was
pub every604 : List (Case Outcome)
unfolding final
every604 =
    keeps "StartScan 604" unsound_state (scan (StartScan 3 0 1 123)) 604 refl
    ∷ keeps "Start 604" unsound_state (scan (Start 42 3 0)) 604 refl
    ∷ keeps "Stop 604" unsound_state (scan (Stop 41)) 604 refl
    ∷ keeps "Abort 604" unsound_state (scan (Abort 41)) 604 refl
    ∷ keeps "GetDestination 604" unsound_state (scan (GetDestination 41)) 604 refl
    ∷ case "Fetch 604" unsound_state (scan (Fetch j42 255 (61 ∷ 62 ∷ 63 ∷ [])))
    (out 604 nothing (box (scanner Idle Timeout) (job 0 41 77 13 0) (side 1 0 90) (settings 1 0) (feed Loaded Jammed 1 0) (ring 3 0)) five
    (61 ∷ 62 ∷ 63 ∷ [])) refl
    ∷ keeps "GetState 604" unsound_state (scan GetState) 604 refl
    ∷ keeps "GetSideInformation 604" unsound_state (scan GetSideInformation) 604 refl
    ∷ keeps "Load 604" unsound_state (feeder (Load 41)) 604 refl
    ∷ keeps "Eject 604" unsound_state (feeder (Eject 42 3)) 604 refl
    ∷ keeps "Reset 604" unsound_state (feeder (Reset 41)) 604 refl
    ∷ keeps "SetFeederMode 604" unsound_state (feeder (SetFeederMode 41 1)) 604 refl
    ∷ keeps "feeder GetState 604" unsound_state (feeder GetFeederState) 604 refl
    ∷ keeps "GetFeederMode 604" unsound_state (feeder GetFeederMode) 604 refl
    ∷ keeps "Bytes 604" unsound_state (report (Bytes (71 ∷ []))) 604 refl
    ∷ keeps "Side ended 604" unsound_state (report SideEnded) 604 refl
    ∷ keeps "Tray 604" unsound_state (report (Tray 2)) 604 refl
    ∷ keeps "Path 604" unsound_state (report (Path 2)) 604 refl
    ∷ keeps "Tick 604" unsound_state (report Tick) 604 refl
    ∷ keeps "604 where a job is held and the last name is not its own"
    (at (called_last k41-007 (box (scanner Pending Timeout) (job 41 41 77 13 0) (side 6 8 90) (settings 1 1) (feed Loaded Jammed 1 0) (ring 3 0))))
    (scan (GetDestination 41)) 604 refl
    ∷ []

-- every case of a call
abbrev pub table : List (Case Outcome)
table =
    starred ++ start_scans ++ start_scans_refused ++ starts ++ starts_refused ++ stops ++ aborts ++ reads ++ fetches ++ fetches_refused ++ drains ++ byte_reports
    ++ side_ends ++ sensor_reports ++ tick_reports ++ load_calls ++ eject_calls ++ reset_calls ++ mode_calls ++ slips ++ destinations
    ++ every604

-- ---- reason numbers, in order of test: every call's tests in a box where as many hold as can
pub tests : List (Case (List Guard))
unfolding final
tests =
    that "StartScan: 601, 501, 711, 713" (all_guards (scan (StartScan 1 1000 1 123)) (holding (settings 0 1) (feed Stuck Jammed 0 1)))
    (refuse n604 false ∷ refuse n601 true ∷ refuse n501 true ∷ refuse n711 true ∷ refuse n713 false ∷ []) refl
    ∷ that "StartScan: 713 where 711 is not" (all_guards (scan (StartScan 1 1000 1 123)) (holding (settings 0 1) (feed Unloaded Jammed 0 0)))
    (refuse n604 false ∷ refuse n601 true ∷ refuse n501 true ∷ refuse n711 false ∷ refuse n713 true ∷ []) refl
    ∷ that "Start: 601, 712, 501, 711, 713" (all_guards (scan (Start 42 1 1000)) (copying 0 (feed Stuck Jammed 0 1) (ring 3 4)))
    (refuse n604 false ∷ refuse n601 true ∷ refuse n712 true ∷ refuse n501 true ∷ refuse n711 true ∷ refuse n713 false ∷ []) refl
    ∷ that "Start: 713 where 711 is not" (all_guards (scan (Start 42 1 1000)) (resting (settings 0 1) (feed Unloaded Jammed 0 0)))
    (refuse n604 false ∷ refuse n601 true ∷ refuse n712 true ∷ refuse n501 true ∷ refuse n711 false ∷ refuse n713 true ∷ []) refl
    ∷ that "Stop: 712" (all_guards (scan (Stop 42)) unsound_state) (refuse n604 true ∷ refuse n712 true ∷ []) refl
    ∷ that "Abort: 712" (all_guards (scan (Abort 42)) unsound_state) (refuse n604 true ∷ refuse n712 true ∷ []) refl
    ∷ that "GetDestination: 712" (all_guards (scan (GetDestination 42)) unsound_state) (refuse n604 true ∷ refuse n712 true ∷ []) refl
    ∷ that "Fetch: 404, 603" (all_guards (scan (Fetch j42 255 [])) unsound_state) (refuse n604 true ∷ refuse n404 true ∷ refuse n603 true ∷ []) refl
    ∷ that "GetState: none" (all_guards (scan GetState) unsound_state) (refuse n604 true ∷ []) refl
    ∷ that "GetSideInformation: none" (all_guards (scan GetSideInformation) unsound_state) (refuse n604 true ∷ []) refl
    ∷ that "Load: 712, 501, 711, 713" (all_guards (feeder (Load 42)) (drawing_last 0 8 (ring 3 4)))
    (refuse n604 false
    ∷ refuse n712 true
    ∷ refuse n501 true
    ∷ refuse n711 false
    ∷ leaving n713 true
    (box (scanner Scanning Timeout) (job 41 41 77 13 0) (side 6 8 90) (settings 1 0) (feed Unloaded Jammed 0 0) (ring 3 4))
    ∷ [])
    refl
    ∷ that "Eject: 601, 712, 501, 711" (all_guards (feeder (Eject 42 3)) (drawing 0 8 (ring 3 4)))
    (refuse n604 false ∷ refuse n601 true ∷ refuse n712 true ∷ refuse n501 true ∷ refuse n711 false ∷ []) refl
    ∷ that "Eject: 711 where 501 is not" (all_guards (feeder (Eject 42 3)) (faulty (settings 1 0) (feed Stuck Jammed 0 1)))
    (refuse n604 false ∷ refuse n601 true ∷ refuse n712 true ∷ refuse n501 false ∷ refuse n711 true ∷ []) refl
    ∷ that "Reset: 712, 501" (all_guards (feeder (Reset 42)) (drawing 0 8 (ring 3 4))) (refuse n604 false ∷ refuse n712 true ∷ refuse n501 true ∷ []) refl
    ∷ that "SetFeederMode: 601, 712, 501" (all_guards (feeder (SetFeederMode 42 1)) (drawing 0 8 (ring 3 4)))
    (refuse n604 false ∷ refuse n601 true ∷ refuse n712 true ∷ refuse n501 true ∷ []) refl
    ∷ that "feeder GetState: none" (all_guards (feeder GetFeederState) unsound_state) (refuse n604 true ∷ []) refl
    ∷ that "GetFeederMode: none" (all_guards (feeder GetFeederMode) unsound_state) (refuse n604 true ∷ []) refl
    ∷ that "Bytes: 501, 603" (all_guards (report (Bytes (71 ∷ 72 ∷ []))) (clearing 0 (feed Loaded Jammed 1 0) (ring 3 4)))
    (refuse n604 false ∷ refuse n501 true ∷ refuse n603 true ∷ []) refl
    ∷ that "Side ended: 501" (all_guards (report SideEnded) unsound_state) (refuse n604 true ∷ refuse n501 true ∷ []) refl
    ∷ that "Tray: 601" (all_guards (report (Tray 2)) unsound_state) (refuse n604 true ∷ refuse n601 true ∷ []) refl
    ∷ that "Path: 601" (all_guards (report (Path 2)) unsound_state) (refuse n604 true ∷ refuse n601 true ∷ []) refl
    ∷ that "Tick: none" (all_guards (report Tick) unsound_state) (refuse n604 true ∷ []) refl
    ∷ []

-- the numbers named for each call
pub names : List (Case (List Reason))
names =
    that "StartScan (601, 501, 711, 713)" (named (scan (StartScan 1 7 1 123))) (n601 ∷ n501 ∷ n711 ∷ n713 ∷ []) refl
    ∷ that "Start (601, 712, 501, 711, 713)" (named (scan (Start 41 1 7))) (n601 ∷ n712 ∷ n501 ∷ n711 ∷ n713 ∷ []) refl
    ∷ that "Stop (712)" (named (scan (Stop 41))) (n712 ∷ []) refl
    ∷ that "Abort (712)" (named (scan (Abort 41))) (n712 ∷ []) refl
    ∷ that "GetDestination (712)" (named (scan (GetDestination 41))) (n712 ∷ []) refl
    ∷ that "Fetch (404, 603)" (named (scan (Fetch j41 255 nine))) (n404 ∷ n603 ∷ []) refl
    ∷ that "GetState: no refusal but 604" (named (scan GetState)) [] refl
    ∷ that "GetSideInformation: no refusal but 604" (named (scan GetSideInformation)) [] refl
    ∷ that "Load (712, 501, 711, 713)" (named (feeder (Load 41))) (n712 ∷ n501 ∷ n711 ∷ n713 ∷ []) refl
    ∷ that "Eject (601, 712, 501, 711)" (named (feeder (Eject 41 1))) (n601 ∷ n712 ∷ n501 ∷ n711 ∷ []) refl
    ∷ that "Reset (712, 501)" (named (feeder (Reset 41))) (n712 ∷ n501 ∷ []) refl
    ∷ that "SetFeederMode (601, 712, 501)" (named (feeder (SetFeederMode 41 0))) (n601 ∷ n712 ∷ n501 ∷ []) refl
    ∷ that "feeder GetState: as it reads" (named (feeder GetFeederState)) [] refl
    ∷ that "GetFeederMode: as it reads" (named (feeder GetFeederMode)) [] refl
    ∷ that "Bytes (501, 603)" (named (report (Bytes (71 ∷ [])))) (n501 ∷ n603 ∷ []) refl
    ∷ that "Side ended (501)" (named (report SideEnded)) (n501 ∷ []) refl
    ∷ that "Tray (601)" (named (report (Tray 1))) (n601 ∷ []) refl
    ∷ that "Path (601)" (named (report (Path 1))) (n601 ∷ []) refl
    ∷ that "Tick" (named (report Tick)) [] refl
    ∷ []

-- the rows of the table
abbrev pub rows : List Reason
rows = n604 ∷ n601 ∷ n712 ∷ n404 ∷ n501 ∷ n711 ∷ n713 ∷ n603 ∷ []

pub numbers : List (Case (List ℕ))
numbers =
    that "each reason's number" (map number_of rows) (604 ∷ 601 ∷ 712 ∷ 404 ∷ 501 ∷ 711 ∷ 713 ∷ 603 ∷ []) refl
    ∷ that "each reason's row" (map row_of rows) (1 ∷ 2 ∷ 3 ∷ 4 ∷ 5 ∷ 6 ∷ 7 ∷ 8 ∷ []) refl
    ∷ []

-- ---- the moves, on a record in which all numbers differ, sound or not: what a sentence does not name stays
abbrev pub odds : Scanner → Job → Side → Settings → Feeder → Ring → Record
odds s j d t f g = called_last (kept 73 76 79 82) (box s j d t f g)

abbrev pub odd : Scan → Feed → Record
odd s f = odds (scanner s Timeout) (job 31 34 97 40 43) (side 46 49 52) (settings 55 58) (feed f Jammed 61 64) (ring 67 70)

pub moves : List (Case Record)
unfolding final
moves =
    that "the scanner changed" (with_scanner (scanner Erred Jammed) (odd Finishing Loaded))
    (odds (scanner Erred Jammed) (job 31 34 97 40 43) (side 46 49 52) (settings 55 58) (feed Loaded Jammed 61 64) (ring 67 70)) refl
    ∷ that "the job changed" (with_job (job 81 84 87 90 93) (odd Finishing Loaded))
    (odds (scanner Finishing Timeout) (job 81 84 87 90 93) (side 46 49 52) (settings 55 58) (feed Loaded Jammed 61 64) (ring 67 70)) refl
    ∷ that "the side changed" (with_side (side 81 84 87) (odd Finishing Loaded))
    (odds (scanner Finishing Timeout) (job 31 34 97 40 43) (side 81 84 87) (settings 55 58) (feed Loaded Jammed 61 64) (ring 67 70)) refl
    ∷ that "the settings changed" (with_settings (settings 81 84) (odd Finishing Loaded))
    (odds (scanner Finishing Timeout) (job 31 34 97 40 43) (side 46 49 52) (settings 81 84) (feed Loaded Jammed 61 64) (ring 67 70)) refl
    ∷ that "the feeder changed" (with_feeder (feed Stuck Timeout 81 84) (odd Finishing Loaded))
    (odds (scanner Finishing Timeout) (job 31 34 97 40 43) (side 46 49 52) (settings 55 58) (feed Stuck Timeout 81 84) (ring 67 70)) refl
    ∷ that "the ring changed" (with_ring (ring 81 84) (odd Finishing Loaded))
    (odds (scanner Finishing Timeout) (job 31 34 97 40 43) (side 46 49 52) (settings 55 58) (feed Loaded Jammed 61 64) (ring 81 84)) refl
    ∷ that "the scanner stands so, its FailureCode kept" (standing Pending (odd Finishing Loaded))
    (odds (scanner Pending Timeout) (job 31 34 97 40 43) (side 46 49 52) (settings 55 58) (feed Loaded Jammed 61 64) (ring 67 70)) refl
    ∷ that "quiet set" (quiet_at 81 (odd Finishing Loaded))
    (odds (scanner Finishing Timeout) (job 31 34 97 81 43) (side 46 49 52) (settings 55 58) (feed Loaded Jammed 61 64) (ring 67 70)) refl
    ∷ that "the stop-asked mark set" (stop_at 81 (odd Finishing Loaded))
    (odds (scanner Finishing Timeout) (job 31 34 97 40 81) (side 46 49 52) (settings 55 58) (feed Loaded Jammed 61 64) (ring 67 70)) refl
    ∷ that "SideCount set" (count_at 81 (odd Finishing Loaded))
    (odds (scanner Finishing Timeout) (job 31 34 97 40 43) (side 46 81 52) (settings 55 58) (feed Loaded Jammed 61 64) (ring 67 70)) refl
    ∷ that "emptying the ring sets start and stored to 0" (emptied (odd Finishing Loaded))
    (odds (scanner Finishing Timeout) (job 31 34 97 40 43) (side 46 49 52) (settings 55 58) (feed Loaded Jammed 61 64) (ring 0 0)) refl
    ∷ that "no byte moved: quiet stays" (heard 0 (odd Finishing Loaded))
    (odds (scanner Finishing Timeout) (job 31 34 97 40 43) (side 46 49 52) (settings 55 58) (feed Loaded Jammed 61 64) (ring 67 70)) refl
    ∷ that "one byte moved: quiet 0" (heard 1 (odd Finishing Loaded))
    (odds (scanner Finishing Timeout) (job 31 34 97 0 43) (side 46 49 52) (settings 55 58) (feed Loaded Jammed 61 64) (ring 67 70)) refl
    ∷ that "the last name changed" (with_names (record { last = kept 81 84 87 90 }) (odd Finishing Loaded))
    (called_last (kept 81 84 87 90)
    (box (scanner Finishing Timeout) (job 31 34 97 40 43) (side 46 49 52) (settings 55 58) (feed Loaded Jammed 61 64) (ring 67 70))) refl
    ∷ that "another name than the last: DestinationID rises, and the last name is the present one" (announced (odd Finishing Loaded))
    (called_last k31 (box (scanner Finishing Timeout) (job 31 34 97 40 43) (side 46 49 53) (settings 55 58) (feed Loaded Jammed 61 64) (ring 67 70))) refl
    ∷ that "the last name: nothing moves"
    (announced
    (called_last k31 (box (scanner Finishing Timeout) (job 31 34 97 40 43) (side 46 49 52) (settings 55 58) (feed Loaded Jammed 61 64) (ring 67 70))))
    (called_last k31 (box (scanner Finishing Timeout) (job 31 34 97 40 43) (side 46 49 52) (settings 55 58) (feed Loaded Jammed 61 64) (ring 67 70))) refl
    ∷ that "another name than the last, with Append"
    (announced
    (called_last k31 (box (scanner Finishing Timeout) (job 31 34 97 40 43) (side 46 49 52) (settings 55 1) (feed Loaded Jammed 61 64) (ring 67 70))))
    (called_last k31-046 (box (scanner Finishing Timeout) (job 31 34 97 40 43) (side 46 49 53) (settings 55 1) (feed Loaded Jammed 61 64) (ring 67 70))) refl
    ∷ that "the last name, with Append: nothing moves"
    (announced
    (called_last k31-046 (box (scanner Finishing Timeout) (job 31 34 97 40 43) (side 46 49 52) (settings 55 1) (feed Loaded Jammed 61 64) (ring 67 70))))
    (called_last k31-046 (box (scanner Finishing Timeout) (job 31 34 97 40 43) (side 46 49 52) (settings 55 1) (feed Loaded Jammed 61 64) (ring 67 70))) refl
    ∷ that "the name that the last number given would have is another"
    (announced
    (called_last k34 (box (scanner Finishing Timeout) (job 31 34 97 40 43) (side 46 49 52) (settings 55 58) (feed Loaded Jammed 61 64) (ring 67 70))))
    (called_last k31 (box (scanner Finishing Timeout) (job 31 34 97 40 43) (side 46 49 53) (settings 55 58) (feed Loaded Jammed 61 64) (ring 67 70))) refl
    ∷ that "4,294,967,295 goes to 0"
    (announced (odds (scanner Idle Timeout) (job 31 34 97 40 43) (side 46 49 4294967295) (settings 55 58) (feed Loaded Jammed 61 64) (ring 67 70)))
    (called_last k31 (box (scanner Idle Timeout) (job 31 34 97 40 43) (side 46 49 0) (settings 55 58) (feed Loaded Jammed 61 64) (ring 67 70))) refl
    ∷ that "4,294,967,295 stays with the last name"
    (announced
    (called_last k31 (box (scanner Idle Timeout) (job 31 34 97 40 43) (side 46 49 4294967295) (settings 55 58) (feed Loaded Jammed 61 64) (ring 67 70))))
    (called_last k31 (box (scanner Idle Timeout) (job 31 34 97 40 43) (side 46 49 4294967295) (settings 55 58) (feed Loaded Jammed 61 64) (ring 67 70))) refl
    ∷ that "a side begins" (begun (odd Finishing Loaded))
    (odds (scanner Scanning Timeout) (job 31 34 97 40 43) (side 46 49 52) (settings 55 58) (feed Loaded Jammed 61 64) (ring 67 70)) refl
    ∷ that "end of job, however it ended" (released Jammed (feed Stuck Timeout 81 84) (odd Finishing Loaded))
    (odds (scanner Idle Jammed) (job 0 34 97 0 0) (side 1 0 52) (settings 55 58) (feed Stuck Timeout 81 84) (ring 0 0)) refl
    ∷ that "end of job" (ended (odd Scanning Busy))
    (odds (scanner Idle None) (job 0 34 97 0 0) (side 1 0 52) (settings 55 58) (feed Unloaded Jammed 61 64) (ring 0 0)) refl
    ∷ that "end of job by time" (timed_out (odd Scanning Busy))
    (odds (scanner Idle Timeout) (job 0 34 97 0 0) (side 1 0 52) (settings 55 58) (feed Stuck Timeout 61 64) (ring 0 0)) refl
    ∷ that "StartScan: Append, the job and its time stored" (given 81 84 (odd Finishing Loaded))
    (odds (scanner Finishing Timeout) (job 35 35 84 40 43) (side 46 49 52) (settings 55 81) (feed Loaded Jammed 61 64) (ring 67 70)) refl
    ∷ that "UseFeeder and SideCount stored, FailureCode none, quiet 0" (readied 81 84 (odd Finishing Loaded))
    (odds (scanner Pending None) (job 31 34 97 0 43) (side 46 84 52) (settings 81 58) (feed Loaded Jammed 61 64) (ring 67 70)) refl
    ∷ that "Start on the glass" (started 81 84 (odd Finishing Loaded))
    (odds (scanner Scanning None) (job 31 34 97 0 43) (side 46 84 52) (settings 81 58) (feed Loaded Jammed 61 64) (ring 67 70)) refl
    ∷ that "Start from the feeder" (started 1 84 (odd Finishing Loaded))
    (odds (scanner Scanning None) (job 31 34 97 0 43) (side 46 84 52) (settings 1 58) (feed Busy Jammed 61 64) (ring 67 70)) refl
    ∷ that "Stop asks" (stopped (odd Finishing Loaded))
    (odds (scanner Finishing Timeout) (job 31 34 97 40 1) (side 46 49 52) (settings 55 58) (feed Loaded Jammed 61 64) (ring 67 70)) refl
    ∷ that "SideNumber plus 1" (numbered (odd Finishing Loaded))
    (odds (scanner Finishing Timeout) (job 31 34 97 40 43) (side 47 49 52) (settings 55 58) (feed Loaded Jammed 61 64) (ring 67 70)) refl
    ∷ that "the scanner becomes Erred, Jammed" (faulted (odd Finishing Loaded))
    (odds (scanner Erred Jammed) (job 31 34 97 40 43) (side 46 49 52) (settings 55 58) (feed Loaded Jammed 61 64) (ring 67 70)) refl
    ∷ that "713 gives Pending" (waited (odd Finishing Loaded))
    (odds (scanner Pending Timeout) (job 31 34 97 40 43) (side 46 49 52) (settings 55 58) (feed Loaded Jammed 61 64) (ring 67 70)) refl
    ∷ that "start moves on by k" (moved 5 100 (odd Finishing Loaded))
    (odds (scanner Finishing Timeout) (job 31 34 97 0 43) (side 46 49 52) (settings 55 58) (feed Loaded Jammed 61 64) (ring 72 65)) refl
    ∷ that "start moves on by k, round the ring's end" (moved 5 70 (odd Finishing Loaded))
    (odds (scanner Finishing Timeout) (job 31 34 97 0 43) (side 46 49 52) (settings 55 58) (feed Loaded Jammed 61 64) (ring 2 65)) refl
    ∷ that "bytes in behind the stored ones" (filled 5 (odd Scanning Loaded))
    (odds (scanner Scanning Timeout) (job 31 34 97 0 43) (side 46 49 52) (settings 55 58) (feed Loaded Jammed 61 64) (ring 67 75)) refl
    ∷ that "Side ended" (finished (odd Scanning Busy))
    (odds (scanner Finishing Timeout) (job 31 34 97 0 43) (side 46 48 52) (settings 55 58) (feed Unloaded Jammed 61 64) (ring 67 70)) refl
    ∷ that "a jam" (caught (odd Scanning Busy))
    (odds (scanner Erred Jammed) (job 31 34 97 0 0) (side 46 49 52) (settings 55 58) (feed Stuck Jammed 61 1) (ring 0 0)) refl
    ∷ that "Path 0" (pathed 0 (odd Scanning Busy))
    (odds (scanner Scanning Timeout) (job 31 34 97 40 43) (side 46 49 52) (settings 55 58) (feed Busy Jammed 61 0) (ring 67 70)) refl
    ∷ that "a Tick" (ticked (odd Pending Loaded))
    (odds (scanner Pending Timeout) (job 31 34 97 41 43) (side 46 49 52) (settings 55 58) (feed Loaded Jammed 61 64) (ring 67 70)) refl
    ∷ that "a Tick past the limit ends the job too, by our reading: no sound record is there"
    (ticked (odds (scanner Pending Timeout) (job 31 34 97 99 43) (side 46 49 52) (settings 55 58) (feed Loaded Jammed 61 64) (ring 67 70)))
    (odds (scanner Idle Timeout) (job 0 34 97 0 0) (side 1 0 52) (settings 55 58) (feed Loaded Jammed 61 64) (ring 0 0)) refl
    ∷ []

-- the name and the job tests go by the job held, not by the last number given
pub called : List (Case (List ℕ))
unfolding final
called =
    that "the name is of the job held" (name (odd Pending Loaded))
    (74 ∷ 48 ∷ 48 ∷ 48 ∷ 48 ∷ 48 ∷ 48 ∷ 48 ∷ 48 ∷ 51 ∷ 49 ∷ 46 ∷ 106 ∷ 112 ∷ 103 ∷ []) refl
    ∷ []

pub bearers : List (Case Bool)
bearers =
    that "scan calls: the number held" (not_held 31 (odd Pending Loaded)) false refl
    ∷ that "the last number given" (not_held 34 (odd Pending Loaded)) true refl
    ∷ that "any number in Idle" (not_held 31 (odd Idle Loaded)) true refl
    ∷ that "feeder calls: the number held" (not_ours 31 (odd Pending Loaded)) false refl
    ∷ that "the last number given there" (not_ours 34 (odd Pending Loaded)) true refl
    ∷ []

-- ---- a list of lines: the first test that holds gives the answer
abbrev pub elsewhere : Outcome
elsewhere = out 0 (mode 81) (odd Finishing Busy) (82 ∷ 83 ∷ []) (84 ∷ [])

abbrev pub walked : List Guard → Outcome
walked ls = answer ls (resting (settings 1 0) (feed Loaded Jammed 1 0)) (scan (Fetch j41 255 nine)) elsewhere

pub walks : List (Case Outcome)
unfolding final
walks =
    that "no line: accepted" (walked []) elsewhere refl
    ∷ that "the first that holds" (walked (refuse n404 true ∷ refuse n603 true ∷ []))
    (out 404 nothing (box (scanner Idle Timeout) (job 0 41 77 0 0) (side 1 0 90) (settings 1 0) (feed Loaded Jammed 1 0) (ring 3 0)) five nine) refl
    ∷ that "one that does not is passed" (walked (refuse n404 false ∷ refuse n603 true ∷ []))
    (out 603 nothing (box (scanner Idle Timeout) (job 0 41 77 0 0) (side 1 0 90) (settings 1 0) (feed Loaded Jammed 1 0) (ring 3 0)) five nine) refl
    ∷ that "a line that leaves something else" (walked (leaving n713 true (odd Pending Stuck) ∷ refuse n603 true ∷ []))
    (out 713 nothing (odd Pending Stuck) five nine) refl
    ∷ that "where it does not hold it is passed" (walked (leaving n713 false (odd Pending Stuck) ∷ refuse n603 true ∷ []))
    (out 603 nothing (box (scanner Idle Timeout) (job 0 41 77 0 0) (side 1 0 90) (settings 1 0) (feed Loaded Jammed 1 0) (ring 3 0)) five nine) refl
    ∷ that "none holds: accepted" (walked (leaving n713 false (odd Pending Stuck) ∷ refuse n603 false ∷ [])) elsewhere refl
    ∷ []

-- ---- the feeder's rule, entry by entry: state, input, tray and path sensor; the next state and the number
-- what the rule gives, with the paper's number in the denial's place, 0 for none; the expected side is literal
pub record Ruled : Type 0 where
  pub next : Feed
  pub number : ℕ

abbrev pub number_in : Option Denial → ℕ
number_in None = 0
number_in (Some why) = number_of (reason_for why)

abbrev pub rule : ℕ → Feed → Input → ℕ → ℕ → Ruled
rule m s i t p = record { next = (fed m s i t p).next; number = number_in (fed m s i t p).denied }

abbrev pub ruled : Feed → ℕ → Ruled
ruled x n = record { next = x; number = n }

pub feeder_rule : List (Case Ruled)
unfolding final
feeder_rule =
    that "Load from Unloaded" (rule 0 Unloaded Input.Load 1 0) (ruled Loaded 0) refl
    ∷ that "Load from Loaded" (rule 0 Loaded Input.Load 1 0) (ruled Loaded 0) refl
    ∷ that "Load from Unloaded, tray empty" (rule 0 Unloaded Input.Load 0 0) (ruled Unloaded 713) refl
    ∷ that "Load from Loaded, tray empty" (rule 0 Loaded Input.Load 0 0) (ruled Unloaded 713) refl
    ∷ that "Load, Busy" (rule 0 Busy Input.Load 1 0) (ruled Busy 501) refl
    ∷ that "Load, Busy, tray empty" (rule 0 Busy Input.Load 0 0) (ruled Busy 501) refl
    ∷ that "Load, Erred" (rule 0 Stuck Input.Load 1 0) (ruled Stuck 711) refl
    ∷ that "Load, Erred, tray empty" (rule 0 Stuck Input.Load 0 1) (ruled Stuck 711) refl
    ∷ that "Eject one from Unloaded" (rule 0 Unloaded Input.EjectOne 1 0) (ruled Unloaded 0) refl
    ∷ that "Eject one from Loaded" (rule 0 Loaded Input.EjectOne 1 0) (ruled Unloaded 0) refl
    ∷ that "Eject one, Busy" (rule 0 Busy Input.EjectOne 1 0) (ruled Busy 501) refl
    ∷ that "Eject one, Erred" (rule 0 Stuck Input.EjectOne 1 0) (ruled Stuck 711) refl
    ∷ that "Eject all from Unloaded" (rule 0 Unloaded Input.EjectAll 1 0) (ruled Unloaded 0) refl
    ∷ that "Eject all from Loaded" (rule 0 Loaded Input.EjectAll 1 0) (ruled Unloaded 0) refl
    ∷ that "Eject all, Busy" (rule 0 Busy Input.EjectAll 1 0) (ruled Busy 501) refl
    ∷ that "Eject all, Erred" (rule 0 Stuck Input.EjectAll 1 0) (ruled Stuck 711) refl
    ∷ that "Reset in Unloaded" (rule 0 Unloaded Input.Reset 1 0) (ruled Unloaded 0) refl
    ∷ that "Reset in Loaded" (rule 0 Loaded Input.Reset 1 0) (ruled Loaded 0) refl
    ∷ that "Reset, Busy" (rule 0 Busy Input.Reset 1 0) (ruled Busy 501) refl
    ∷ that "Reset in Erred, path 0" (rule 0 Stuck Input.Reset 1 0) (ruled Unloaded 0) refl
    ∷ that "Reset in Erred, path 1" (rule 0 Stuck Input.Reset 0 1) (ruled Stuck 0) refl
    ∷ that "path 1 in Unloaded" (rule 0 Unloaded Input.Jam 1 0) (ruled Stuck 0) refl
    ∷ that "path 1 in Loaded" (rule 0 Loaded Input.Jam 1 0) (ruled Stuck 0) refl
    ∷ that "path 1 in Busy" (rule 0 Busy Input.Jam 1 0) (ruled Stuck 0) refl
    ∷ that "path 1 in Erred" (rule 0 Stuck Input.Jam 1 0) (ruled Stuck 0) refl
    ∷ that "side ended in Unloaded" (rule 0 Unloaded Input.SideEnd 1 0) (ruled Unloaded 0) refl
    ∷ that "side ended in Loaded" (rule 0 Loaded Input.SideEnd 1 0) (ruled Loaded 0) refl
    ∷ that "side ended in Busy" (rule 0 Busy Input.SideEnd 1 0) (ruled Unloaded 0) refl
    ∷ that "side ended in Erred" (rule 0 Stuck Input.SideEnd 1 0) (ruled Stuck 0) refl
    ∷ []

pub feeder_moves : List (Case Feeder)
feeder_moves =
    that "the feeder stands so: FailureCode and sensors kept" (stands Stuck (feed Loaded Jammed 61 64)) (feed Stuck Jammed 61 64) refl
    ∷ that "the feeder fails: sensors kept" (fails Stuck Timeout (feed Loaded Jammed 61 64)) (feed Stuck Timeout 61 64) refl
    ∷ that "the tray sensor set" (tray_at 81 (feed Loaded Jammed 61 64)) (feed Loaded Jammed 81 64) refl
    ∷ that "the path sensor set" (path_at 81 (feed Loaded Jammed 61 64)) (feed Loaded Jammed 61 81) refl
    ∷ []

-- ---- a list of calls: each gets the record and ring as the last one left them
-- a job of two sides that a stop ends with the second, then another job
abbrev pub two_jobs : List Turn
two_jobs =
    turn (report (Tray 1))
    (out 0 nothing (called_last no_name (box (scanner Idle None) (job 0 0 60 0 0) (side 1 0 0) (settings 1 1) (feed Unloaded None 1 0) (ring 0 0))) five [])
    ∷ turn (scan (StartScan 2 2 2 50))
    (out 0 (time 50) (box (scanner Scanning None) (job 1 1 50 0 0) (side 1 2 1) (settings 1 1) (feed Busy None 1 0) (ring 0 0)) five [])
    ∷ turn (report (Bytes (71 ∷ 72 ∷ 73 ∷ [])))
    (out 0 (stored 3) (box (scanner Scanning None) (job 1 1 50 0 0) (side 1 2 1) (settings 1 1) (feed Busy None 1 0) (ring 0 3))
    (71 ∷ 72 ∷ 73 ∷ 24 ∷ 25 ∷ []) [])
    ∷ turn (report SideEnded)
    (out 0 nothing (box (scanner Finishing None) (job 1 1 50 0 0) (side 1 1 1) (settings 1 1) (feed Unloaded None 1 0) (ring 0 3))
    (71 ∷ 72 ∷ 73 ∷ 24 ∷ 25 ∷ []) [])
    ∷ turn (scan (Fetch j1-001 255 nine))
    (out 0 (picture 3 true (71 ∷ 72 ∷ 73 ∷ [])) (box (scanner Scanning None) (job 1 1 50 0 0) (side 2 1 2) (settings 1 1) (feed Busy None 1 0) (ring 3 0))
    (71 ∷ 72 ∷ 73 ∷ 24 ∷ 25 ∷ []) (0xA5 ∷ 0x5A ∷ 0x06 ∷ 3 ∷ 71 ∷ 72 ∷ 73 ∷ 68 ∷ 69 ∷ []))
    ∷ turn (report Tick)
    (out 0 nothing (box (scanner Scanning None) (job 1 1 50 1 0) (side 2 1 2) (settings 1 1) (feed Busy None 1 0) (ring 3 0))
    (71 ∷ 72 ∷ 73 ∷ 24 ∷ 25 ∷ []) [])
    ∷ turn (report (Bytes (81 ∷ 82 ∷ 83 ∷ 84 ∷ [])))
    (out 0 (stored 4) (box (scanner Scanning None) (job 1 1 50 0 0) (side 2 1 2) (settings 1 1) (feed Busy None 1 0) (ring 3 4))
    (83 ∷ 84 ∷ 73 ∷ 81 ∷ 82 ∷ []) [])
    ∷ turn (scan (Stop 1))
    (out 0 nothing (box (scanner Scanning None) (job 1 1 50 0 1) (side 2 1 2) (settings 1 1) (feed Busy None 1 0) (ring 3 4))
    (83 ∷ 84 ∷ 73 ∷ 81 ∷ 82 ∷ []) [])
    ∷ turn (report SideEnded)
    (out 0 nothing (box (scanner Finishing None) (job 1 1 50 0 1) (side 2 0 2) (settings 1 1) (feed Unloaded None 1 0) (ring 3 4))
    (83 ∷ 84 ∷ 73 ∷ 81 ∷ 82 ∷ []) [])
    ∷ turn (scan (Fetch j1-002 3 nine))
    (out 0 (picture 3 false (81 ∷ 82 ∷ 83 ∷ []))
    (box (scanner Finishing None) (job 1 1 50 0 1) (side 2 0 2) (settings 1 1) (feed Unloaded None 1 0) (ring 1 1))
    (83 ∷ 84 ∷ 73 ∷ 81 ∷ 82 ∷ []) (0xA5 ∷ 0x5A ∷ 0x06 ∷ 3 ∷ 81 ∷ 82 ∷ 83 ∷ 68 ∷ 69 ∷ []))
    ∷ turn (scan (Fetch j1-002 3 nine))
    (out 0 (picture 1 true (84 ∷ []))
    (called_last k1-002 (box (scanner Idle None) (job 0 1 50 0 0) (side 1 0 2) (settings 1 1) (feed Unloaded None 1 0) (ring 0 0)))
    (83 ∷ 84 ∷ 73 ∷ 81 ∷ 82 ∷ []) (0xA5 ∷ 0x5A ∷ 0x06 ∷ 1 ∷ 84 ∷ 66 ∷ 67 ∷ 68 ∷ 69 ∷ []))
    ∷ turn (feeder (Load 0))
    (out 0 nothing (called_last k1-002 (box (scanner Idle None) (job 0 1 50 0 0) (side 1 0 2) (settings 1 1) (feed Loaded None 1 0) (ring 0 0)))
    (83 ∷ 84 ∷ 73 ∷ 81 ∷ 82 ∷ []) [])
    ∷ turn (scan (StartScan 1 minus_one 0 0))
    (out 0 (time 60) (box (scanner Scanning None) (job 2 2 60 0 0) (side 1 minus_one 3) (settings 1 0) (feed Busy None 1 0) (ring 0 0))
    (83 ∷ 84 ∷ 73 ∷ 81 ∷ 82 ∷ []) [])
    ∷ turn (report (Bytes (91 ∷ [])))
    (out 0 (stored 1) (box (scanner Scanning None) (job 2 2 60 0 0) (side 1 minus_one 3) (settings 1 0) (feed Busy None 1 0) (ring 0 1))
    (91 ∷ 84 ∷ 73 ∷ 81 ∷ 82 ∷ []) [])
    ∷ turn (scan (GetDestination 2))
    (out 0 (destination j2 3) (box (scanner Scanning None) (job 2 2 60 0 0) (side 1 minus_one 3) (settings 1 0) (feed Busy None 1 0) (ring 0 1))
    (91 ∷ 84 ∷ 73 ∷ 81 ∷ 82 ∷ []) [])
    ∷ turn (report SideEnded)
    (out 0 nothing (box (scanner Finishing None) (job 2 2 60 0 0) (side 1 minus_one 3) (settings 1 0) (feed Unloaded None 1 0) (ring 0 1))
    (91 ∷ 84 ∷ 73 ∷ 81 ∷ 82 ∷ []) [])
    ∷ turn (scan (Fetch j2 9 nine))
    (out 0 (picture 1 true (91 ∷ [])) (box (scanner Scanning None) (job 2 2 60 0 0) (side 2 minus_one 3) (settings 1 0) (feed Busy None 1 0) (ring 1 0))
    (91 ∷ 84 ∷ 73 ∷ 81 ∷ 82 ∷ []) (0xA5 ∷ 0x5A ∷ 0x06 ∷ 1 ∷ 91 ∷ 66 ∷ 67 ∷ 68 ∷ 69 ∷ []))
    ∷ turn (report (Path 1))
    (out 0 nothing (box (scanner Erred Jammed) (job 2 2 60 0 0) (side 2 minus_one 3) (settings 1 0) (feed Stuck Jammed 1 1) (ring 0 0))
    (91 ∷ 84 ∷ 73 ∷ 81 ∷ 82 ∷ []) [])
    ∷ turn (scan (Abort 2))
    (out 0 nothing (box (scanner Idle None) (job 0 2 60 0 0) (side 1 0 3) (settings 1 0) (feed Stuck Jammed 1 1) (ring 0 0))
    (91 ∷ 84 ∷ 73 ∷ 81 ∷ 82 ∷ []) [])
    ∷ []

-- the worked example of the desk, at the level of calls
abbrev pub zeros : List ℕ
zeros = replicate 62 0

abbrev pub worked : List Turn
worked =
    turn (report (Tray 1))
    (out 0 nothing (called_last no_name (box (scanner Idle None) (job 0 0 60 0 0) (side 1 0 0) (settings 1 1) (feed Unloaded None 1 0) (ring 0 0)))
    (0 ∷ 0 ∷ zeros) [])
    ∷ turn (scan (StartScan 2 1 2 10))
    (out 0 (time 10) (box (scanner Scanning None) (job 1 1 10 0 0) (side 1 1 1) (settings 1 1) (feed Busy None 1 0) (ring 0 0)) (0 ∷ 0 ∷ zeros) [])
    ∷ turn (report (Bytes (65 ∷ 66 ∷ [])))
    (out 0 (stored 2) (box (scanner Scanning None) (job 1 1 10 0 0) (side 1 1 1) (settings 1 1) (feed Busy None 1 0) (ring 0 2)) (65 ∷ 66 ∷ zeros) [])
    ∷ turn (report SideEnded)
    (out 0 nothing (box (scanner Finishing None) (job 1 1 10 0 0) (side 1 0 1) (settings 1 1) (feed Unloaded None 1 0) (ring 0 2)) (65 ∷ 66 ∷ zeros) [])
    ∷ turn (scan (Fetch j1-001 8 (replicate 259 0)))
    (out 0 (picture 2 true (65 ∷ 66 ∷ []))
    (box (scanner Pending None) (job 1 1 10 0 0) (side 2 0 2) (settings 1 1) (feed Unloaded None 1 0) (ring 2 0))
    (65 ∷ 66 ∷ zeros) (0xA5 ∷ 0x5A ∷ 0x06 ∷ 2 ∷ 65 ∷ 66 ∷ replicate 253 0))
    ∷ []

pub stories : List (Case (List Outcome))
unfolding final
stories =
    that "two jobs" (run (start five) (map turn_call two_jobs)).outcomes (map outcome_of two_jobs) refl
    ∷ that "the worked example" (run (start (0 ∷ 0 ∷ zeros)) (map turn_call worked)).outcomes (map outcome_of worked) refl
    ∷ []

pub worked-holds : (run (start (0 ∷ 0 ∷ zeros)) (map turn_call worked)).outcomes ≡ map outcome_of worked
unfolding final
worked-holds = refl
