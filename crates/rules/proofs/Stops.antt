-- Demand 3, a stop: while a side is under way the box's stop mark says what the watcher knows.
use Prim.Native.Nat.{ℕ}
use mathlib.Core.Path.{◌≡◌, refl, sym, ◌∙◌, ap}
use mathlib.Core.Bool.{Bool, true, false, not, ◌&&◌, ◌||◌, false≢true}
use mathlib.Core.List.{List, [], ◌∷◌}
use lib.ListN.{length}
use Rattle.rules.specs.declared.Scan.{Scan}
use Rattle.rules.specs.declared.Record.{Record}
use Rattle.rules.specs.Record.{idle, pending, scanning, finishing, erred, on, granting}
use Rattle.rules.specs.Moves.{announced, settled, given, readied, begun, released, drained, numbered, least, moved, filled, finished}
use Rattle.rules.specs.Calls.{StartScan, Start, Stop, Fetch, Bytes, SideEnded, Tray, Path, Tick, Call, scan, feeder, report, State, Values, nothing}
use Rattle.rules.specs.Calls.{time, Outcome, to}
use Rattle.rules.specs.Machine.{accepted, scan_effect, report_effect, step}
use Rattle.rules.specs.Watch.{scan_of, sign, ends_side, begins, asks, stop_asked, World, after, live}
use Rattle.rules.proofs.Choice.{clash, and_l}
use Rattle.rules.proofs.Sound.{Phase}
use Rattle.rules.proofs.Cases.{started-cases, stopped-cases, drained-cases, fetched-cases, side_ended-cases, ticked-cases}
use Rattle.rules.proofs.Answers.{Good}
use Rattle.rules.proofs.Deeds.{Deed, aside, opens, starts, stops, aborts, fetches, fills, side_ends, jams, second, deed, step-sound}

-- a side is under way
abbrev pub under : Scan → Bool
under x = scanning x || finishing x

-- no mark stands outside a side
unmarked : (x : Scan) (r : Record) → under x ≡ false → Phase x r → on r.job.stop ≡ false
unmarked Scan.Idle r e p = p.stop
unmarked Scan.Pending r e p = p.stop
unmarked Scan.Scanning r e p = clash refl e
unmarked Scan.Finishing r e p = clash refl e
unmarked Scan.Erred r e p = p.stop

idle-under : (x : Scan) → idle x ≡ true → under x ≡ false
idle-under Scan.Idle e = refl
idle-under Scan.Pending e = absurd (false≢true e)
idle-under Scan.Scanning e = absurd (false≢true e)
idle-under Scan.Finishing e = absurd (false≢true e)
idle-under Scan.Erred e = absurd (false≢true e)

rest_under : (x : Scan) → (pending x || erred x) ≡ true → under x ≡ false
rest_under Scan.Idle e = refl
rest_under Scan.Pending e = refl
rest_under Scan.Scanning e = absurd (false≢true e)
rest_under Scan.Finishing e = absurd (false≢true e)
rest_under Scan.Erred e = refl

not-under : (x : Scan) → under x ≡ false → scanning x ≡ false
not-under Scan.Idle e = refl
not-under Scan.Pending e = refl
not-under Scan.Scanning e = clash refl e
not-under Scan.Finishing e = refl
not-under Scan.Erred e = refl

-- what the watcher knows after a call, where it knew p before
abbrev knows : Call → Scan → Outcome → Bool → Bool
knows c before o p = not (begins c before o) && (asks c o || p)

-- no side begins where the state stays, but by Side ended
goes_on : (x : Scan) → (scanning x && (not (scanning x) || false)) ≡ false
goes_on Scan.Idle = refl
goes_on Scan.Pending = refl
goes_on Scan.Scanning = refl
goes_on Scan.Finishing = refl
goes_on Scan.Erred = refl

silent-end : (c : Call) (x : Scan) (o : Outcome) → sign c x o ≡ false → ends_side c o ≡ false
silent-end (scan c) x o e = refl
silent-end (feeder c) x o e = refl
silent-end (report (Bytes bs)) x o e = refl
silent-end (report SideEnded) x o e = e
silent-end (report (Tray v)) x o e = refl
silent-end (report (Path v)) x o e = refl
silent-end (report Tick) x o e = refl

-- ---- the mark after a call, where a side is under way then
pub record Marks (s : State) (c : Call) (o : Outcome) : Type 0 where
  pub marks : (p : Bool) → (under (scan_of s) ≡ true → on s.box.job.stop ≡ p) → under (scan_of o.state) ≡ true
      → on o.state.box.job.stop ≡ knows c (scan_of s) o p

nowhere : {s : State} {c : Call} {o : Outcome} → under (scan_of o.state) ≡ false → Marks s c o
nowhere e = record { marks = λ p h u. clash u e }

-- a side began, and no mark stands
anew : {s : State} {c : Call} {o : Outcome} → on o.state.box.job.stop ≡ false → begins c (scan_of s) o ≡ true → Marks s c o
anew z b = record { marks = λ p h u. rw b z }

-- the state stays, and so does the mark
stays : {s : State} {c : Call} {o : Outcome} → o.state.box.job.stop ≡ s.box.job.stop → scan_of o.state ≡ scan_of s
    → ends_side c o ≡ false → asks c o ≡ false → Marks s c o
stays {s} m x e a =
    record { marks = λ p h u. rw (a, e, x) (rw (goes_on (scan_of s)) (ap on m ∙ h (sym (ap under x) ∙ u))) }

-- a drain step inside a call that is no Stop, from a state where a new side is one that begins
drain-marks : (s : State) (c : Call) (v : Values) (reply : List ℕ) (r : Record)
    → begins c (scan_of s) (record { number = 0; values = v; state = to (begun (announced (numbered r))) s; reply = reply }) ≡ true
    → Marks s c (record { number = 0; values = v; state = to (drained r) s; reply = reply })
unfolding begun released
drain-marks s c v reply r b =
    drained-cases (λ (x : Record). Marks s c (record { number = 0; values = v; state = to x s; reply = reply })) r
    (λ _. nowhere refl) (λ _ _. nowhere refl) (λ _ _ _. nowhere refl) (λ _ _ _ _. nowhere refl) (λ z _ _ _. anew z b)

-- a fetch that says last is made in Finishing
last_begins : (x : Scan) (t : Bool) → (finishing x && t) ≡ true → (not (scanning x) || false) ≡ true
last_begins Scan.Idle t e = refl
last_begins Scan.Pending t e = refl
last_begins Scan.Scanning t e = absurd (false≢true e)
last_begins Scan.Finishing t e = refl
last_begins Scan.Erred t e = refl

pub deed-marks : {s : State} {c : Call} {o : Outcome} → Good s → Deed s c o → Marks s c o
unfolding scan_effect report_effect given readied begun released moved filled finished
deed-marks {s} {c} {o} h (aside n v f reply a) = stays refl refl (silent-end c (scan_of s) o a.silent) a.unasked
deed-marks {s} h (opens {from} {count} {append} {asked} i g) =
    let c = scan (StartScan from count append asked) in
    let u = idle-under (scan_of s) i in
    started-cases (λ (x : Record). Marks s c (accepted (time (granting asked).seconds) x s))
    (announced (given (settled append s.box.settings.append) asked s.box)) (settled from s.box.settings.feeder) count
    (λ _. nowhere refl) (λ _. anew (unmarked (scan_of s) s.box u h.phase) (rw (not-under (scan_of s) u)))
deed-marks {s} h (starts {j} {from} {count} i p g) =
    let c = scan (Start j from count) in
    let u = rest_under (scan_of s) p in
    started-cases (λ (x : Record). Marks s c (accepted nothing x s)) s.box (settled from s.box.settings.feeder) count
    (λ _. nowhere refl) (λ _. anew (unmarked (scan_of s) s.box u h.phase) (rw (not-under (scan_of s) u)))
deed-marks {s} h (stops {j} i e g) =
    stopped-cases (λ (x : Record). Marks s (scan (Stop j)) (accepted nothing x s)) s.box
    (λ _. nowhere refl) (λ _. record { marks = λ p k u. rw (goes_on (scan_of s)) })
deed-marks h (aborts i e g) = nowhere refl
deed-marks {s} h (fetches {called} {most} {reply} i g) =
    let r = s.box in
    let k = least r.ring.stored most (length reply) in
    let n = length s.bytes in
    let c = scan (Fetch called most reply) in
    let o = scan_effect (Fetch called most reply) s in
    fetched-cases (λ (x : Record). Marks s c (record { number = 0; values = o.values; state = to x s; reply = o.reply })) r k n
    (λ l. drain-marks s c o.values o.reply (moved k n r) (last_begins (scan_of s) _ l)) (λ _. stays refl refl refl refl)
deed-marks h (fills x l g) = stays refl refl refl refl
deed-marks {s} h (side_ends x g) =
    side_ended-cases (λ (y : Record). Marks s (report SideEnded) (accepted nothing y s)) s.box
    (λ _. drain-marks s (report SideEnded) nothing [] (finished s.box) (rw x))
    (λ _. record { marks = λ p k u. k (rw x) })
deed-marks h (jams e g) = nowhere refl
deed-marks {s} h (second g) =
    ticked-cases (λ (x : Record). Marks s (report Tick) (accepted nothing x s)) s.box
    (λ _. stays refl refl refl refl) (λ _ _. nowhere refl) (λ _ _. stays refl refl refl refl)

-- ---- over any list
pub record Marked (w : World) : Type 0 where
  pub good : Good w.now
  pub mark : under (scan_of w.now) ≡ true → on w.now.box.job.stop ≡ stop_asked w.past

pub live-marked : (cs : List Call) (w : World) → Marked w → Marked (live w cs)
unfolding live after
live-marked [] w h = h
live-marked (c ∷ cs) w h =
    live-marked cs (after w c)
    (record {
      good = step-sound w.now c h.good;
      mark = (deed-marks h.good (deed w.now h.good c)).marks (stop_asked w.past) h.mark;
    })
