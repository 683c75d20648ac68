-- The watcher's words over lists of calls. A sign of life is looked at twice: by the watcher's count and by the box's quiet.
use Rattle.std.specs.Prelude.{ℕ, ◌≡◌, refl, Bool, true, false, List, [], ◌∷◌, ◌++◌}
use Prim.Native.String.{String}
use Rattle.std.proofs.Math.Option.{Option, none, some}
use Rattle.rules.specs.declared.Scan.TheVariants.{Idle, Pending, Scanning, Finishing, Erred}
use Rattle.rules.specs.declared.Feed.TheVariants.{Unloaded, Loaded, Busy, Erred as Stuck}
use Rattle.rules.specs.declared.Failure.TheVariants.{None, Jammed, Timeout}
use Rattle.rules.specs.Calls.{StartScan, Start, Stop, Abort, GetDestination, Fetch, GetState, GetSideInformation, Load, Eject, Reset, SetFeederMode}
use Rattle.rules.specs.Calls.{GetFeederState, GetFeederMode, Bytes, SideEnded, Tray, Path, Tick, Call, scan, feeder, report, State, Values, nothing}
use Rattle.rules.specs.Calls.{time, destination, picture, state, sides, feeding, mode, stored, Outcome}
use Rattle.rules.specs.Watch.{Event, count_in, bytes_in, time_in, seconds, time_answered, ordinal, Tagged, byte_of, bytes_accepted, waiting, World, after, live}
use Rattle.rules.specs.Watch.{lived, told as told_to, begins, stop_asked, last_name, changed, holder, due_second}
use Rattle.rules.specs.Name.{name_of}
use Rattle.rules.specs.Cases.{Case, that, final, tickings, at, resting, holding, drawing, copying, draining, faulty, out, done, taking, box, scanner, job}
use Rattle.rules.specs.Cases.{side, settings, feed, ring, no_name, called_last, five, nine, j41, j42, j42-001, j42-002, j43-001}

-- a box that is watched from now on, over these calls
abbrev pub watched : State → List Call → World
watched s cs = live (record { now = s; past = [] }) cs

-- two Ticks and a call: the watcher's seconds, and the box's quiet
abbrev pub counts_in : World → ℕ × ℕ
counts_in w = (seconds w.past, w.now.box.job.quiet)

abbrev pub quiet_counts : (says : String) (s : State) (c : Call) (due : ℕ × ℕ) → counts_in (watched s (tickings 2 ++ c ∷ [])) ≡ due → Case (ℕ × ℕ)
quiet_counts says s c due e = that says (counts_in (watched s (tickings 2 ++ c ∷ []))) due e

-- ---- signs of life: the seconds are 0, and so is quiet
pub signs : List (Case (ℕ × ℕ))
unfolding final live after
signs =
    quiet_counts "accepted StartScan" (resting (settings 1 0) (feed Loaded Jammed 1 0)) (scan (StartScan 1 7 1 123)) (0, 0) refl
    ∷ quiet_counts "accepted StartScan, SideCount 0" (resting (settings 1 0) (feed Loaded Jammed 1 0)) (scan (StartScan 0 0 1 123)) (0, 0) refl
    ∷ quiet_counts "accepted Start in Pending" (holding (settings 1 0) (feed Loaded Jammed 1 0)) (scan (Start 41 1 7)) (0, 0) refl
    ∷ quiet_counts "accepted Start in Erred, SideCount 0" (faulty (settings 1 0) (feed Stuck Jammed 1 0)) (scan (Start 41 1 0)) (0, 0) refl
    ∷ quiet_counts "accepted Bytes of 1" (drawing 0 8 (ring 3 4)) (report (Bytes (71 ∷ []))) (0, 0) refl
    ∷ quiet_counts "accepted Bytes of 2 on the glass" (copying 0 (feed Loaded Jammed 1 0) (ring 3 3)) (report (Bytes (71 ∷ 72 ∷ []))) (0, 0) refl
    ∷ quiet_counts "accepted Side ended" (drawing 0 8 (ring 3 4)) (report SideEnded) (0, 0) refl
    ∷ quiet_counts "accepted Side ended, the ring empty" (copying 0 (feed Loaded Jammed 1 0) (ring 3 0)) (report SideEnded) (0, 0) refl
    ∷ quiet_counts "a fetch with k of 1 in Scanning" (drawing 0 8 (ring 3 4)) (scan (Fetch j41 1 nine)) (0, 0) refl
    ∷ quiet_counts "a fetch with k of 3 in Finishing" (draining 0 8 (feed Loaded Jammed 1 0) (ring 3 4)) (scan (Fetch j41 3 nine)) (0, 0) refl
    ∷ quiet_counts "the last fetch" (draining 0 8 (feed Loaded Jammed 1 0) (ring 3 4)) (scan (Fetch j41 255 nine)) (0, 0) refl
    ∷ quiet_counts "a Path report that turns Scanning into Erred" (drawing 0 8 (ring 3 4)) (report (Path 1)) (0, 0) refl
    ∷ []

-- nothing else does: two Ticks are counted on, and quiet is 13 and 2, or 0 where no job is held
pub silences : List (Case (ℕ × ℕ))
unfolding final live after
silences =
    quiet_counts "Stop in Scanning" (drawing 0 8 (ring 3 4)) (scan (Stop 41)) (2, 15) refl
    ∷ quiet_counts "Stop in Finishing" (draining 0 8 (feed Loaded Jammed 1 0) (ring 3 4)) (scan (Stop 41)) (2, 15) refl
    ∷ quiet_counts "Stop in Pending" (holding (settings 1 0) (feed Loaded Jammed 1 0)) (scan (Stop 41)) (2, 0) refl
    ∷ quiet_counts "Stop in Erred" (faulty (settings 1 0) (feed Stuck Jammed 1 0)) (scan (Stop 41)) (2, 0) refl
    ∷ quiet_counts "Stop refused" (drawing 0 8 (ring 3 4)) (scan (Stop 42)) (2, 15) refl
    ∷ quiet_counts "Abort" (drawing 0 8 (ring 3 4)) (scan (Abort 41)) (2, 0) refl
    ∷ quiet_counts "Abort refused" (drawing 0 8 (ring 3 4)) (scan (Abort 42)) (2, 15) refl
    ∷ quiet_counts "GetDestination" (drawing 0 8 (ring 3 4)) (scan (GetDestination 41)) (2, 15) refl
    ∷ quiet_counts "GetDestination refused" (drawing 0 8 (ring 3 4)) (scan (GetDestination 42)) (2, 15) refl
    ∷ quiet_counts "GetState" (drawing 0 8 (ring 3 4)) (scan GetState) (2, 15) refl
    ∷ quiet_counts "GetSideInformation" (drawing 0 8 (ring 3 4)) (scan GetSideInformation) (2, 15) refl
    ∷ quiet_counts "an empty fetch in Pending" (holding (settings 1 0) (feed Loaded Jammed 1 0)) (scan (Fetch j41 255 nine)) (2, 15) refl
    ∷ quiet_counts "an empty fetch in Scanning" (drawing 0 8 (ring 3 4)) (scan (Fetch j41 0 nine)) (2, 15) refl
    ∷ quiet_counts "an empty fetch in Finishing, a reply of 4 bytes"
    (draining 0 8 (feed Loaded Jammed 1 0) (ring 3 4)) (scan (Fetch j41 255 (61 ∷ 62 ∷ 63 ∷ 64 ∷ []))) (2, 15) refl
    ∷ quiet_counts "Fetch refused, 404" (drawing 0 8 (ring 3 4)) (scan (Fetch j42 255 nine)) (2, 15) refl
    ∷ quiet_counts "Fetch refused, 603" (drawing 0 8 (ring 3 4)) (scan (Fetch j41 255 (61 ∷ 62 ∷ 63 ∷ []))) (2, 15) refl
    ∷ quiet_counts "StartScan refused, 501" (holding (settings 1 0) (feed Loaded Jammed 1 0)) (scan (StartScan 1 7 1 123)) (2, 15) refl
    ∷ quiet_counts "StartScan refused, 601" (holding (settings 1 0) (feed Loaded Jammed 1 0)) (scan (StartScan 3 7 1 123)) (2, 15) refl
    ∷ quiet_counts "StartScan refused, 713" (resting (settings 1 0) (feed Unloaded Jammed 0 0)) (scan (StartScan 1 7 1 123)) (2, 0) refl
    ∷ quiet_counts "Start refused, 712" (holding (settings 1 0) (feed Loaded Jammed 1 0)) (scan (Start 42 1 7)) (2, 15) refl
    ∷ quiet_counts "Start refused, 501" (drawing 0 8 (ring 3 4)) (scan (Start 41 1 7)) (2, 15) refl
    ∷ quiet_counts "Start refused, 711" (faulty (settings 1 0) (feed Stuck Jammed 1 0)) (scan (Start 41 1 7)) (2, 15) refl
    ∷ quiet_counts "Load" (holding (settings 1 0) (feed Loaded Jammed 1 0)) (feeder (Load 41)) (2, 15) refl
    ∷ quiet_counts "Load refused, 713" (holding (settings 1 0) (feed Loaded Jammed 0 0)) (feeder (Load 41)) (2, 15) refl
    ∷ quiet_counts "Load refused, 501" (drawing 0 8 (ring 3 4)) (feeder (Load 41)) (2, 15) refl
    ∷ quiet_counts "Eject" (holding (settings 1 0) (feed Loaded Jammed 1 0)) (feeder (Eject 41 1)) (2, 15) refl
    ∷ quiet_counts "Reset" (faulty (settings 1 0) (feed Stuck Jammed 1 0)) (feeder (Reset 41)) (2, 15) refl
    ∷ quiet_counts "SetFeederMode" (holding (settings 1 0) (feed Unloaded Jammed 1 0)) (feeder (SetFeederMode 41 0)) (2, 15) refl
    ∷ quiet_counts "feeder GetState" (drawing 0 8 (ring 3 4)) (feeder GetFeederState) (2, 15) refl
    ∷ quiet_counts "GetFeederMode" (drawing 0 8 (ring 3 4)) (feeder GetFeederMode) (2, 15) refl
    ∷ quiet_counts "empty Bytes" (drawing 0 8 (ring 3 4)) (report (Bytes [])) (2, 15) refl
    ∷ quiet_counts "Bytes refused, 501" (holding (settings 1 0) (feed Loaded Jammed 1 0)) (report (Bytes (71 ∷ []))) (2, 15) refl
    ∷ quiet_counts "Bytes refused, 603" (drawing 0 8 (ring 3 4)) (report (Bytes (71 ∷ 72 ∷ []))) (2, 15) refl
    ∷ quiet_counts "Side ended refused, in Pending" (holding (settings 1 0) (feed Loaded Jammed 1 0)) (report SideEnded) (2, 15) refl
    ∷ quiet_counts "Side ended refused, in Finishing" (draining 0 8 (feed Loaded Jammed 1 0) (ring 3 4)) (report SideEnded) (2, 15) refl
    ∷ quiet_counts "Tray 0" (drawing 0 8 (ring 3 4)) (report (Tray 0)) (2, 15) refl
    ∷ quiet_counts "Tray refused" (drawing 0 8 (ring 3 4)) (report (Tray 2)) (2, 15) refl
    ∷ quiet_counts "Path 0 in Scanning" (drawing 0 8 (ring 3 4)) (report (Path 0)) (2, 15) refl
    ∷ quiet_counts "Path 0 in Erred" (faulty (settings 1 0) (feed Stuck Jammed 0 1)) (report (Path 0)) (2, 15) refl
    ∷ quiet_counts "Path 1 on the glass" (copying 0 (feed Loaded Jammed 1 0) (ring 3 4)) (report (Path 1)) (2, 15) refl
    ∷ quiet_counts "Path 1 in Pending" (holding (settings 1 0) (feed Loaded Jammed 1 0)) (report (Path 1)) (2, 15) refl
    ∷ quiet_counts "Path 1 in Finishing" (draining 0 8 (feed Loaded Jammed 1 0) (ring 3 4)) (report (Path 1)) (2, 15) refl
    ∷ quiet_counts "Path 1 in Erred" (faulty (settings 1 0) (feed Stuck Jammed 1 0)) (report (Path 1)) (2, 15) refl
    ∷ quiet_counts "Path 1 in Idle" (resting (settings 1 0) (feed Loaded Jammed 1 0)) (report (Path 1)) (2, 0) refl
    ∷ quiet_counts "Path refused in Scanning" (drawing 0 8 (ring 3 4)) (report (Path 2)) (2, 15) refl
    ∷ quiet_counts "a Tick quietCounts" (holding (settings 1 0) (feed Loaded Jammed 1 0)) (report Tick) (3, 16) refl
    ∷ quiet_counts "a Tick quietCounts in Erred" (faulty (settings 1 0) (feed Stuck Jammed 1 0)) (report Tick) (3, 16) refl
    ∷ quiet_counts "a Tick quietCounts in Idle, where quiet stays 0" (resting (settings 1 0) (feed Loaded Jammed 1 0)) (report Tick) (3, 0) refl
    ∷ quiet_counts "the Tick that ends the job quietCounts"
    (at (box (scanner Pending Timeout) (job 41 41 77 74 0) (side 6 8 90) (settings 1 0) (feed Loaded Jammed 1 0) (ring 3 0))) (report Tick) (3, 0) refl
    ∷ []

-- both
pub lives : List (Case (ℕ × ℕ))
lives = signs ++ silences

-- ---- a stop: whether the watcher knows one, and the box's mark. A fault and the end of a job take the mark away; to the watcher it
-- lasts until a side begins
abbrev pub asked_in : World → Bool × ℕ
asked_in w = (stop_asked w.past, w.now.box.job.stop)

abbrev pub asked_over : (says : String) (s : State) (cs : List Call) (due : Bool × ℕ) → asked_in (watched s cs) ≡ due → Case (Bool × ℕ)
asked_over says s cs due e = that says (asked_in (watched s cs)) due e

pub stops_asked : List (Case (Bool × ℕ))
unfolding final live after
stops_asked =
    asked_over "none askedOver" (drawing 0 8 (ring 3 4)) [] (false, 0) refl
    ∷ asked_over "Stop in Scanning" (drawing 0 8 (ring 3 4)) (scan (Stop 41) ∷ []) (true, 1) refl
    ∷ asked_over "Stop in Finishing" (draining 0 8 (feed Loaded Jammed 1 0) (ring 3 4)) (scan (Stop 41) ∷ []) (true, 1) refl
    ∷ asked_over "a refused Stop asks for none" (drawing 0 8 (ring 3 4)) (scan (Stop 42) ∷ []) (false, 0) refl
    ∷ asked_over "it is askedOver on after other calls" (drawing 0 8 (ring 3 4))
    (scan (Stop 41) ∷ report Tick ∷ report (Bytes (71 ∷ [])) ∷ scan GetState ∷ feeder (Load 41) ∷ scan (Fetch j41 2 nine) ∷ []) (true, 1) refl
    ∷ asked_over "and after Side ended while bytes are stored" (drawing 0 8 (ring 3 4)) (scan (Stop 41) ∷ report SideEnded ∷ []) (true, 1) refl
    ∷ asked_over "Stop in Pending ends the job: no mark" (holding (settings 1 0) (feed Loaded Jammed 1 0)) (scan (Stop 41) ∷ []) (true, 0) refl
    ∷ asked_over "then none is askedOver once a side begins" (holding (settings 1 0) (feed Loaded Jammed 1 0))
    (scan (Stop 41) ∷ scan (StartScan 1 7 0 123) ∷ []) (false, 0) refl
    ∷ asked_over "a jam takes the mark away" (drawing 0 8 (ring 3 4)) (scan (Stop 41) ∷ report (Path 1) ∷ []) (true, 0) refl
    ∷ asked_over "then none is askedOver once a side begins, by Start" (drawing 0 8 (ring 3 4))
    (scan (Stop 41) ∷ report (Path 1) ∷ scan (Start 41 0 1) ∷ []) (false, 0) refl
    ∷ asked_over "Path 0 takes none away" (drawing 0 8 (ring 3 4)) (scan (Stop 41) ∷ report (Path 0) ∷ []) (true, 1) refl
    ∷ asked_over "a Stop after the side began" (drawing 0 8 (ring 3 4)) (report (Path 1) ∷ scan (Start 41 0 1) ∷ scan (Stop 41) ∷ []) (true, 1) refl
    ∷ asked_over "StartScan asks for none" (resting (settings 1 0) (feed Loaded Jammed 1 0)) (scan (StartScan 1 0 0 123) ∷ []) (false, 0) refl
    ∷ asked_over "nor Start" (holding (settings 1 0) (feed Loaded Jammed 1 0)) (scan (Start 41 1 0) ∷ []) (false, 0) refl
    ∷ asked_over "nor Abort" (holding (settings 1 0) (feed Loaded Jammed 1 0)) (scan (Abort 41) ∷ []) (false, 0) refl
    ∷ asked_over "nor GetDestination" (drawing 0 8 (ring 3 4)) (scan (GetDestination 41) ∷ []) (false, 0) refl
    ∷ asked_over "nor Fetch" (drawing 0 8 (ring 3 4)) (scan (Fetch j41 1 nine) ∷ []) (false, 0) refl
    ∷ asked_over "nor GetState" (drawing 0 8 (ring 3 4)) (scan GetState ∷ []) (false, 0) refl
    ∷ asked_over "nor GetSideInformation" (drawing 0 8 (ring 3 4)) (scan GetSideInformation ∷ []) (false, 0) refl
    ∷ asked_over "nor a feeder call" (drawing 0 8 (ring 3 4)) (feeder GetFeederState ∷ []) (false, 0) refl
    ∷ asked_over "nor a report" (drawing 0 8 (ring 3 4)) (report (Bytes (71 ∷ [])) ∷ []) (false, 0) refl
    ∷ asked_over "nor a report that ends the side" (drawing 0 8 (ring 3 4)) (report SideEnded ∷ []) (false, 0) refl
    ∷ []

-- a side begins: Scanning after a call before which it was not, or after an accepted Side ended
abbrev pub now_scanning : ℕ → Outcome
now_scanning n = out n nothing (box (scanner Scanning Timeout) (job 41 41 77 13 0) (side 6 8 90) (settings 1 0) (feed Busy Jammed 1 0) (ring 3 4)) five []

abbrev pub now_pending : Outcome
now_pending = done (box (scanner Pending Timeout) (job 41 41 77 13 0) (side 6 8 90) (settings 1 0) (feed Loaded Jammed 1 0) (ring 3 0))

pub beginnings : List (Case Bool)
beginnings =
    that "after Start in Pending" (begins (scan (Start 41 1 8)) Pending (now_scanning 0)) true refl
    ∷ that "after a fetch in Finishing" (begins (scan (Fetch j41 255 nine)) Finishing (now_scanning 0)) true refl
    ∷ that "after Side ended in Scanning" (begins (report SideEnded) Scanning (now_scanning 0)) true refl
    ∷ that "not where Side ended gives Pending" (begins (report SideEnded) Scanning now_pending) false refl
    ∷ that "not where Side ended is refused" (begins (report SideEnded) Scanning (now_scanning 604)) false refl
    ∷ that "not where Start gives Pending" (begins (scan (Start 41 1 0)) Erred now_pending) false refl
    ∷ that "not by a scan call in Scanning" (begins (scan (Stop 41)) Scanning (now_scanning 0)) false refl
    ∷ that "not by a feeder call in Scanning" (begins (feeder GetFeederState) Scanning (now_scanning 0)) false refl
    ∷ that "not by Bytes in Scanning" (begins (report (Bytes (71 ∷ []))) Scanning (now_scanning 0)) false refl
    ∷ that "not by Tray in Scanning" (begins (report (Tray 1)) Scanning (now_scanning 0)) false refl
    ∷ that "not by Path in Scanning" (begins (report (Path 0)) Scanning (now_scanning 0)) false refl
    ∷ that "not by a Tick in Scanning" (begins (report Tick) Scanning (now_scanning 0)) false refl
    ∷ []

-- ---- the granted time that StartScan answered, the job's ordinal, the second at which the job ends, the job held by its ordinal; and
-- the number that the box holds
abbrev pub known : World → ℕ × ℕ × ℕ × Option ℕ × ℕ
known w = (time_answered w.past, ordinal w.past, due_second w, holder w, w.now.box.job.held)

abbrev pub knows : (says : String) (s : State) (cs : List Call) (due : ℕ × ℕ × ℕ × Option ℕ × ℕ) → known (watched s cs) ≡ due
    → Case (ℕ × ℕ × ℕ × Option ℕ × ℕ)
knows says s cs due e = that says (known (watched s cs)) due e

abbrev pub idle_box : State
idle_box = resting (settings 1 0) (feed Loaded Jammed 1 0)

abbrev pub last_number : State
last_number = at (box (scanner Idle Timeout) (job 0 4294967294 77 0 0) (side 1 0 90) (settings 1 0) (feed Loaded Jammed 1 0) (ring 3 0))

abbrev pub begin : ℕ → Call
begin for = scan (StartScan 1 7 0 for)

pub terms : List (Case (ℕ × ℕ × ℕ × Option ℕ × ℕ))
unfolding final live after
terms =
    knows "no job yet" idle_box [] (60, 0, 60, none, 0) refl
    ∷ knows "the time that StartScan answered" idle_box (begin 700 ∷ []) (600, 1, 600, some 1, 42) refl
    ∷ knows "a job in Pending" idle_box (scan (StartScan 0 0 0 123) ∷ []) (123, 1, 123, some 1, 42) refl
    ∷ knows "a refused StartScan answers none and is no job" idle_box (report (Path 1) ∷ begin 123 ∷ []) (60, 0, 60, none, 0) refl
    ∷ knows "nor does one refused while a job is held" idle_box (begin 123 ∷ begin 45 ∷ []) (123, 1, 123, some 1, 42) refl
    ∷ knows "nor does another call" idle_box (begin 123 ∷ report (Bytes (71 ∷ [])) ∷ scan (GetDestination 42) ∷ scan GetState ∷ report Tick ∷ [])
    (123, 1, 123, some 1, 42) refl
    ∷ knows "in a fault the job ends at 300" idle_box (begin 123 ∷ report (Path 1) ∷ []) (123, 1, 300, some 1, 42) refl
    ∷ knows "an ended job is held no more" idle_box (begin 123 ∷ scan (Abort 42) ∷ []) (123, 1, 123, none, 0) refl
    ∷ knows "the second job" idle_box (begin 123 ∷ scan (Abort 42) ∷ begin 45 ∷ []) (45, 2, 45, some 2, 43) refl
    ∷ knows "a number given again is a new job" last_number (begin 123 ∷ scan (Abort 4294967295) ∷ begin 45 ∷ []) (45, 2, 45, some 2, 1) refl
    ∷ []

-- ---- pictures, each byte with its job's ordinal: all accepted ones, oldest first, and those that wait
abbrev pub first : ℕ → Tagged
first x = record { job = 1; byte = x }

abbrev pub second : ℕ → Tagged
second x = record { job = 2; byte = x }

abbrev pub pictures : World → List Tagged × List Tagged
pictures w = (bytes_accepted w.past, waiting w.past)

abbrev pub sees : (says : String) (cs : List Call) (due : List Tagged × List Tagged) → pictures (watched idle_box cs) ≡ due
    → Case (List Tagged × List Tagged)
sees says cs due e = that says (pictures (watched idle_box cs)) due e

abbrev pub three_in : List Call
three_in = begin 123 ∷ report (Bytes (71 ∷ 72 ∷ [])) ∷ report (Bytes (73 ∷ [])) ∷ []

abbrev pub three : List Tagged
three = first 71 ∷ first 72 ∷ first 73 ∷ []

pub queues : List (Case (List Tagged × List Tagged))
unfolding final live after
queues =
    sees "none yet" (begin 123 ∷ []) ([], []) refl
    ∷ sees "one alone" (begin 123 ∷ report (Bytes (71 ∷ [])) ∷ []) (first 71 ∷ [], first 71 ∷ []) refl
    ∷ sees "bytes wait behind those before" three_in (three, three) refl
    ∷ sees "refused Bytes are none" (three_in ++ report (Bytes (74 ∷ 75 ∷ 76 ∷ [])) ∷ []) (three, three) refl
    ∷ sees "a refused fetch takes none" (three_in ++ scan (Fetch j41 2 nine) ∷ []) (three, three) refl
    ∷ sees "a fetch takes k from the front" (three_in ++ scan (Fetch j42 2 nine) ∷ []) (three, first 73 ∷ []) refl
    ∷ sees "then more wait" (three_in ++ scan (Fetch j42 2 nine) ∷ report (Bytes (74 ∷ 75 ∷ [])) ∷ report SideEnded ∷ report (Tray 0) ∷ scan (Stop 42) ∷ [])
    (three ++ first 74 ∷ first 75 ∷ [], first 73 ∷ first 74 ∷ first 75 ∷ []) refl
    ∷ sees "no other call brings any"
    (three_in ++ report Tick ∷ report (Tray 1) ∷ report (Path 0) ∷ feeder GetFeederState ∷ scan GetState ∷ report SideEnded ∷ []) (three, three) refl
    ∷ sees "the end of a job leaves none" (three_in ++ scan (Abort 42) ∷ []) (three, []) refl
    ∷ sees "a jam leaves none" (three_in ++ report (Path 1) ∷ []) (three, []) refl
    ∷ sees "the second job's" (three_in ++ scan (Abort 42) ∷ begin 45 ∷ report (Bytes (81 ∷ 82 ∷ [])) ∷ [])
    (three ++ second 81 ∷ second 82 ∷ [], second 81 ∷ second 82 ∷ []) refl
    ∷ []

pub untagged : List (Case ℕ)
untagged = that "the byte without its job" (byte_of (second 81)) 81 refl ∷ []

-- ---- what a watcher reads off the values: k of a fetch, its bytes, the granted time
abbrev pub read_off : Values → ℕ × List ℕ × Option ℕ
read_off v = (count_in v, bytes_in v, time_in v)

pub readings : List (Case (ℕ × List ℕ × Option ℕ))
readings =
    that "nothing" (read_off nothing) (0, [], none) refl
    ∷ that "StartScan's time" (read_off (time 5)) (0, [], some 5) refl
    ∷ that "GetDestination's" (read_off (destination five 6)) (0, [], none) refl
    ∷ that "a fetch's k and bytes" (read_off (picture 7 true nine)) (7, nine, none) refl
    ∷ that "GetState's" (read_off (state Erred Jammed)) (0, [], none) refl
    ∷ that "GetSideInformation's" (read_off (sides 8 9 10)) (0, [], none) refl
    ∷ that "feeder GetState's" (read_off (feeding Busy 11 Timeout)) (0, [], none) refl
    ∷ that "GetFeederMode's" (read_off (mode 12)) (0, [], none) refl
    ∷ that "Bytes'" (read_off (stored 13)) (0, [], none) refl
    ∷ []

-- ---- what has happened, newest first; and what was told of it, oldest first, before others
abbrev pub tray_out : Outcome
tray_out = done (called_last no_name (box (scanner Idle None) (job 0 0 60 0 0) (side 1 0 0) (settings 1 1) (feed Unloaded None 1 0) (ring 0 0)))

abbrev pub start_out : Outcome
start_out = taking (time 123) (box (scanner Pending None) (job 1 1 123 0 0) (side 1 0 1) (settings 1 0) (feed Unloaded None 1 0) (ring 0 0))

abbrev pub state_out : Outcome
state_out = taking (state Pending None) (box (scanner Pending None) (job 1 1 123 0 0) (side 1 0 1) (settings 1 0) (feed Unloaded None 1 0) (ring 0 0))

abbrev pub history : List Event
history =
    record { before = Pending; call = scan GetState; outcome = state_out }
    ∷ record { before = Idle; call = scan (StartScan 1 0 0 123); outcome = start_out }
    ∷ record { before = Idle; call = report (Tray 1); outcome = tray_out }
    ∷ []

pub worlds : List (Case World)
unfolding final live after
worlds =
    that "a fresh box, and nothing has happened" (lived five [])
    (record {
      now = at (called_last no_name (box (scanner Idle None) (job 0 0 60 0 0) (side 1 0 0) (settings 1 1) (feed Unloaded None 0 0) (ring 0 0)));
      past = [];
    }) refl
    ∷ that "three calls to a fresh box" (lived five (report (Tray 1) ∷ scan (StartScan 1 0 0 123) ∷ scan GetState ∷ []))
    (record { now = state_out.state; past = history }) refl
    ∷ []

pub tellings : List (Case (List Outcome))
tellings = that "what was taking" (told_to history (state_out ∷ [])) (tray_out ∷ start_out ∷ state_out ∷ state_out ∷ []) refl ∷ []

-- ---- names: the last that any job held, how many changes there were, and DestinationID, which starts at 90 where the watcher starts at 0
abbrev pub named_in : World → List ℕ × ℕ × ℕ
named_in w = (last_name w.past, changed w.past, w.now.box.side.destination)

abbrev pub named_over : (says : String) (s : State) (cs : List Call) (due : List ℕ × ℕ × ℕ) → named_in (watched s cs) ≡ due → Case (List ℕ × ℕ × ℕ)
named_over says s cs due e = that says (named_in (watched s cs)) due e

pub namings : List (Case (List ℕ × ℕ × ℕ))
unfolding final live after name_of
namings =
    named_over "nothing has happened" (resting (settings 1 0) (feed Loaded Jammed 1 0)) [] ([], 0, 90) refl
    ∷ named_over "nobody was held" (resting (settings 1 0) (feed Loaded Jammed 1 0)) (report Tick ∷ scan (Stop 41) ∷ []) ([], 0, 90) refl
    ∷ named_over "StartScan, SideCount 0" (resting (settings 1 0) (feed Loaded Jammed 1 0)) (scan (StartScan 0 0 1 123) ∷ []) (j42-001, 1, 91) refl
    ∷ named_over "the name stays" (resting (settings 1 0) (feed Loaded Jammed 1 0)) (scan (StartScan 0 0 1 123) ∷ report Tick ∷ scan GetState ∷ [])
    (j42-001, 1, 91) refl
    ∷ named_over "it is remembered through Idle" (resting (settings 1 0) (feed Loaded Jammed 1 0))
    (scan (StartScan 0 0 1 123) ∷ scan (Abort 42) ∷ report Tick ∷ []) (j42-001, 1, 91) refl
    ∷ named_over "a refused StartScan is none" (resting (settings 1 0) (feed Loaded Jammed 1 0)) (scan (StartScan 0 2 1 123) ∷ []) ([], 0, 90) refl
    ∷ named_over "Start, and a side begins: no change" (resting (settings 1 0) (feed Loaded Jammed 1 0))
    (scan (StartScan 0 0 0 123) ∷ scan (Start 42 0 1) ∷ []) (j42, 1, 91) refl
    ∷ named_over "a drain step with Append 0: no change" (resting (settings 1 0) (feed Loaded Jammed 1 0))
    (scan (StartScan 0 1 0 123) ∷ report SideEnded ∷ []) (j42, 1, 91) refl
    ∷ named_over "a drain step with Append 1: a change" (resting (settings 1 0) (feed Loaded Jammed 1 0))
    (scan (StartScan 0 1 1 123) ∷ report SideEnded ∷ []) (j42-002, 2, 92) refl
    ∷ named_over "a drain step that ends the job: none" (resting (settings 1 0) (feed Loaded Jammed 1 0))
    (scan (StartScan 0 1 1 123) ∷ scan (Stop 42) ∷ report SideEnded ∷ []) (j42-001, 1, 91) refl
    ∷ named_over "the next job" (resting (settings 1 0) (feed Loaded Jammed 1 0))
    (scan (StartScan 0 0 1 123) ∷ scan (Abort 42) ∷ scan (StartScan 0 0 1 123) ∷ []) (j43-001, 2, 92) refl
    ∷ []
