-- Demand 3, the second: over any list the seconds counted by the watcher are quiet, and the time answered is granted.
use Prim.Native.Nat.{ℕ, ◌-◌}
use mathlib.Core.Path.{◌≡◌, refl, sym, ◌∙◌, ap}
use mathlib.Core.Bool.{Bool, true, false, ◌&&◌, cond, true≢false, false≢true}
use mathlib.Core.List.{List, [], ◌∷◌}
use lib.Dec.{eqb, leb}
use lib.ListN.{length}
use native.Mathlib.Omega.{arith}
use native.Mathlib.Numerals.{add-one}
use borrow.Author.Tests.{leb-false, eqb-true}
use Rattle.rules.specs.declared.Scan.{Scan}
use Rattle.rules.specs.declared.Record.{Record}
use Rattle.rules.specs.Record.{idle, scanning, finishing, on, granting}
use Rattle.rules.specs.Moves as moves
use Rattle.rules.specs.Moves.{announced, settled, given, readied, begun, released, drained, least, moved, fetched, filled, finished}
use Rattle.rules.specs.Calls.{StartScan, Start, Stop, Fetch, Bytes, SideEnded, Tick, Call, scan, report, State, nothing, time, Outcome}
use Rattle.rules.specs.Machine.{accepted, scan_effect, report_effect, step}
use Rattle.rules.specs.Watch.{scan_of, time_in, sign, ticks, counting, seconds, or_else, time_answered, World, after, live}
use Rattle.rules.proofs.Choice.{clash, and_l}
use Rattle.rules.proofs.Sound.{Phase}
use Rattle.rules.proofs.Cases.{started-cases, stopped-cases, drained-cases, fetched-cases, side_ended-cases, ticked-cases}
use Rattle.rules.proofs.Answers.{Good}
use Rattle.rules.proofs.Deeds.{Deed, aside, opens, starts, stops, aborts, fetches, fills, side_ends, jams, second, deed, step-sound}

-- granted is kept and, where a job is held afterwards, quiet is q
record Keeps (q : ℕ) (r x : Record) : Type 0 where
  granted : x.job.granted.seconds ≡ r.job.granted.seconds
  quiet : idle x.scanner.state ≡ false → x.job.quiet ≡ q

drained-keeps : (q : ℕ) (r₀ r : Record) → r.job.granted.seconds ≡ r₀.job.granted.seconds → r.job.quiet ≡ q → Keeps q r₀ (drained r)
unfolding begun released
drained-keeps q r₀ r e d =
    drained-cases (Keeps q r₀) r (λ _. record { granted = e; quiet = λ i. absurd (true≢false i) })
    (λ _ _. record { granted = e; quiet = λ _. d }) (λ _ _ _. record { granted = e; quiet = λ _. d })
    (λ _ _ _ _. record { granted = e; quiet = λ _. d }) (λ _ _ _ _. record { granted = e; quiet = λ _. d })

-- ---- what a call does to the seconds of the job that is held after it
pub data Counted (s : State) (c : Call) (o : Outcome) : Type 0 where
  alive : sign c (scan_of s) o ≡ true → o.state.box.job.quiet ≡ 0 → Counted s c o
  silent : sign c (scan_of s) o ≡ false → idle (scan_of s) ≡ false → o.state.box.job.quiet ≡ counting false (ticks c) s.box.job.quiet
      → scan_of o.state ≡ scan_of s → Counted s c o

pub record Counts (s : State) (c : Call) (o : Outcome) : Type 0 where
  pub grant : o.state.box.job.granted.seconds ≡ or_else (time_in o.values) s.box.job.granted.seconds
  pub count : idle (scan_of o.state) ≡ false → Counted s c o

-- quiet is set to 0 by the very test that makes the call a sign of life
heard : (s : State) (c : Call) (o : Outcome) (t : Bool) → idle (scan_of s) ≡ false → sign c (scan_of s) o ≡ t → ticks c ≡ false
    → o.state.box.job.quiet ≡ cond t 0 s.box.job.quiet → (t ≡ false → scan_of o.state ≡ scan_of s) → Counted s c o
heard s c o true i g k q m = alive g q
heard s c o false i g k q m = silent g i (rw k q) (m refl)

-- a fetch of nothing leaves bytes in Finishing, so it is not the last
not_last : (x : Scan) (r : Record) (k : ℕ) → Phase x r → (finishing x && eqb (r.ring.stored - k) 0) ≡ true → leb 1 k ≡ false → ⊥
not_last Scan.Idle r k p l z = false≢true l
not_last Scan.Pending r k p l z = false≢true l
not_last Scan.Scanning r k p l z = false≢true l
not_last Scan.Finishing r k p l z = omega (arith, eqb-true (r.ring.stored - k) 0 l, leb-false 1 k z, p.full)
not_last Scan.Erred r k p l z = false≢true l

pub deed-counts : {s : State} {c : Call} {o : Outcome} → Good s → Deed s c o → Counts s c o
unfolding scan_effect report_effect given readied begun released moved filled finished
deed-counts h (aside n v f reply a) =
    record { grant = rw a.mute.untimed; count = λ i. silent a.silent i (rw a.still) refl }
deed-counts {s} h (opens {from} {count} {append} {asked} i g) =
    let c = scan (StartScan from count append asked) in
    started-cases (λ (x : Record). Counts s c (accepted (time (granting asked).seconds) x s))
    (announced (given (settled append s.box.settings.append) asked s.box)) (settled from s.box.settings.feeder) count
    (λ _. record { grant = refl; count = λ _. alive refl refl }) (λ _. record { grant = refl; count = λ _. alive refl refl })
deed-counts {s} h (starts {j} {from} {count} i p g) =
    let c = scan (Start j from count) in
    started-cases (λ (x : Record). Counts s c (accepted nothing x s)) s.box
    (settled from s.box.settings.feeder) count
    (λ _. record { grant = refl; count = λ _. alive refl refl }) (λ _. record { grant = refl; count = λ _. alive refl refl })
deed-counts {s} h (stops {j} i e g) =
    stopped-cases (λ (x : Record). Counts s (scan (Stop j)) (accepted nothing x s)) s.box
    (λ _. record { grant = refl; count = λ x. absurd (true≢false x) }) (λ _. record { grant = refl; count = λ _. silent refl i refl refl })
deed-counts h (aborts i e g) = record { grant = refl; count = λ x. absurd (true≢false x) }
deed-counts {s} h (fetches {called} {most} {reply} i g) =
    let r = s.box in
    let k = least r.ring.stored most (length reply) in
    let n = length s.bytes in
    let x : Keeps (cond (leb 1 k) 0 r.job.quiet) r (fetched k n r) =
    fetched-cases (Keeps (cond (leb 1 k) 0 r.job.quiet) r) r k n (λ _. drained-keeps _ r (moved k n r) refl refl)
    (λ _. record { granted = refl; quiet = λ _. refl }) in
    record {
      grant = x.granted;
      count = λ a.
          heard s (scan (Fetch called most reply)) (scan_effect (Fetch called most reply) s) (leb 1 k) i refl refl (x.quiet a)
          (λ z. fetched-cases (λ (y : Record). y.scanner.state ≡ r.scanner.state) r k n
          (λ l. absurd (not_last (scan_of s) r k h.phase l z)) (λ _. refl));
    }
deed-counts {s} h (fills {bs} x l g) =
    record {
      grant = refl;
      count = λ i. heard s (report (Bytes bs)) (report_effect (Bytes bs) s) (leb 1 (length bs)) i refl refl refl (λ _. refl);
    }
deed-counts {s} h (side_ends x g) =
    side_ended-cases (λ (y : Record). Counts s (report SideEnded) (accepted nothing y s)) s.box
    (λ _. let k = drained-keeps 0 s.box (finished s.box) refl refl in record { grant = k.granted; count = λ a. alive refl (k.quiet a) })
    (λ _. record { grant = refl; count = λ _. alive refl refl })
deed-counts {s} h (jams e g) = record { grant = refl; count = λ _. alive (rw (and_l (scanning (scan_of s)) (on s.box.settings.feeder) e)) refl }
deed-counts {s} h (second g) =
    ticked-cases (λ (x : Record). Counts s (report Tick) (accepted nothing x s)) s.box
    (λ e. record { grant = refl; count = λ i. clash e i }) (λ _ _. record { grant = refl; count = λ i. absurd (true≢false i) })
    (λ i _. record { grant = refl; count = λ _. silent refl i (add-one s.box.job.quiet) refl })

-- ---- over any list: the seconds counted are quiet, and the time answered is granted
pub record Timely (w : World) : Type 0 where
  pub good : Good w.now
  pub grant : time_answered w.past ≡ w.now.box.job.granted.seconds
  pub count : idle (scan_of w.now) ≡ false → seconds w.past ≡ w.now.box.job.quiet

pub next-timely : (w : World) (c : Call) → Timely w → Timely (after w c)
unfolding after
next-timely w c h =
    let k = deed-counts h.good (deed w.now h.good c) in
    record {
      good = step-sound w.now c h.good;
      grant = ap (or_else (time_in (step w.now c).values)) h.grant ∙ sym k.grant;
      count = λ i. counted-on (k.count i);
    }
  where
    counted-on : Counted w.now c (step w.now c) → seconds (after w c).past ≡ (step w.now c).state.box.job.quiet
    counted-on (alive g z) = rw g (sym z)
    counted-on (silent g i q _) = rw (g, h.count i) (sym q)

pub live-timely : (cs : List Call) (w : World) → Timely w → Timely (live w cs)
unfolding live
live-timely [] w h = h
live-timely (c ∷ cs) w h = live-timely cs (after w c) (next-timely w c h)
