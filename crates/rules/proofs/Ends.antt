-- Demand 3, the end: when a held job ends, that nothing else ends one, and that nothing but a sign of life puts it off.
use Prim.Native.Nat.{ℕ, suc, ◌+◌, ◌≤◌, ◌<◌}
use mathlib.Core.Path.{◌≡◌, refl, sym, ◌∙◌, ap, ap₂}
use mathlib.Core.Logic.{◌≢◌}
use mathlib.Core.Bool.{Bool, true, false, cond, or-true}
use mathlib.Core.List.{List, [], ◌∷◌}
use mathlib.Core.Option.{Option, some}
use lib.ListN.{length}
use native.Mathlib.Omega.{arith}
use native.Mathlib.Nat.{add-zero}
use borrow.Author.Tests.{leb-true, leb-false, eqb-true}
use Rattle.rules.specs.declared.Scan.{Scan}
use Rattle.rules.specs.declared.Failure.{Failure}
use Rattle.rules.specs.declared.Record.{Record}
use Rattle.rules.specs.Record.{erred, fault_time, idle, scanning, finishing, on, limit}
use Rattle.rules.specs.Ring.{queue}
use Rattle.rules.specs.Moves as moves
use Rattle.rules.specs.Moves.{settled, given, readied, begun, released, drained, least, moved, filled, finished}
use Rattle.rules.specs.Calls.{Start, Stop, Fetch, SideEnded, Tick, Call, scan, report, Values, nothing, picture, Outcome, to}
use Rattle.rules.specs.Machine.{accepted, scan_effect, report_effect, effect, step}
use Rattle.rules.specs.Watch.{scan_of, sign, ticks, counting, seconds, or_else, time_answered, stop_asked, World, after, live, holder, due_second}
use Rattle.rules.specs.Promises.{OnTime, EndsBy, by_time, stop, abort, last_fetch, side_end, Fate, held, over, Silent, ticks_in, NotPutOff}
use Rattle.rules.proofs.Choice.{clash, and_l}
use Rattle.rules.proofs.Sound.{holding}
use Rattle.rules.proofs.Cases.{started-cases, stopped-cases, drained-cases, fetched-cases, side_ended-cases, ticked-cases}
use Rattle.rules.proofs.Answers.{Good}
use Rattle.rules.proofs.Deeds.{Deed, aside, opens, starts, stops, aborts, fetches, fills, side_ends, jams, second, deed, tick_is, step-sound}
use Rattle.rules.proofs.Time.{Counted, alive, silent, deed-counts, Timely, next-timely}
use Rattle.rules.proofs.Holder.{deed-wakes, deed-untimed, holds, nobody, same-holder, idle-ends}
use Rattle.rules.proofs.Pictures.{Waiting, none-waits}
use Rattle.rules.proofs.Stops.{under, Marked}

-- ---- the next Tick
-- seconds s, the limit l, quiet q and the watcher's limit d
at_last : {l q s d : ℕ} → l ≤ q + 1 → q < l → d ≡ l → s ≡ q → suc s ≡ d
at_last a b c e = omega arith

not_yet : {l q s d : ℕ} → q + 1 < l → d ≡ l → s ≡ q → suc s < d
not_yet a b c = omega arith

-- the watcher's limit is the box's
abbrev watched : Scan → ℕ → ℕ
watched x g = cond (erred x) fault_time g

limit_is : (x : Scan) (g : ℕ) → limit x g ≡ watched x g
limit_is Scan.Idle g = refl
limit_is Scan.Pending g = refl
limit_is Scan.Scanning g = refl
limit_is Scan.Finishing g = refl
limit_is Scan.Erred g = refl

-- a Tick ends the job where the seconds reach the limit, or keeps the state before that
data Ticked (w : World) (o : Outcome) : Type 0 where
  over-then : idle (scan_of o.state) ≡ true → o.state.box.scanner.failure ≡ Failure.Timeout → suc (seconds w.past) ≡ due_second w → Ticked w o
  on_then : scan_of o.state ≡ scan_of w.now → suc (seconds w.past) < due_second w → Ticked w o

ends_now : {w : World} {o : Outcome} → suc (seconds w.past) ≡ due_second w → Ticked w o
    → (idle (scan_of o.state) ≡ true) × (o.state.box.scanner.failure ≡ Failure.Timeout)
ends_now e (over-then a b _) = (a, b)
ends_now {w} e (on_then _ l) = absurd (too-soon e l)
  where
    too-soon : {s d : ℕ} → s ≡ d → s < d → ⊥
    too-soon a b = omega arith

stays-now : {w : World} {o : Outcome} → suc (seconds w.past) < due_second w → Ticked w o → scan_of o.state ≡ scan_of w.now
stays-now l (on_then a _) = a
stays-now l (over-then _ _ e) = absurd (too-late e l)
  where
    too-late : {s d : ℕ} → s ≡ d → s < d → ⊥
    too-late a b = omega arith

module _ (w : World) (t : Timely w) (i : idle (scan_of w.now) ≡ false) where
  due-is : due_second w ≡ moves.due w.now.box
  due-is = ap (watched (scan_of w.now)) t.grant ∙ sym (limit_is (scan_of w.now) w.now.box.job.granted.seconds)

  in-time : w.now.box.job.quiet < moves.due w.now.box
  in-time = (holding (scan_of w.now) w.now.box i t.good.phase).quiet

  -- where the job ends, FailureCode is Timeout
  on-tick : Ticked w (step w.now (report Tick))
  unfolding effect report_effect released
  on-tick =
      let d = due-is in
      let q = t.count i in
      rw (tick_is w.now t.good)
      (ticked-cases (λ (x : Record). Ticked w (accepted nothing x w.now)) w.now.box (λ e. clash e i)
      (λ _ e. over-then refl refl (at_last (leb-true (moves.due w.now.box) (w.now.box.job.quiet + 1) e) in-time d q))
      (λ _ e. on_then refl (not_yet (leb-false (moves.due w.now.box) (w.now.box.job.quiet + 1) e) d q)))

  pub on-time-at : {j : ℕ} → holder w ≡ some j → OnTime j w
  unfolding after
  on-time-at {j} x =
      record {
        soon = omega (arith, in-time, due-is, t.count i);
        ends = λ e. idle-ends j w (report Tick) x (ends_now e on-tick).0;
        why = λ e _. (ends_now e on-tick).1;
        stays = λ l. let z = stays-now l on-tick in (same-holder w (report Tick) t.good i (ap idle z ∙ i) ∙ x, z);
      }

-- ---- what else may end a job
-- what a call comes to, by the box's own state
data Course (w : World) (c : Call) (o : Outcome) : Type 0 where
  goes : idle (scan_of o.state) ≡ false → o.state.box.job.held ≡ w.now.box.job.held → Course w c o
  ceases : idle (scan_of o.state) ≡ true → EndsBy w c → Course w c o

module _ (w : World) (t : Timely w) (m : Marked w) (q : Waiting w) (i : idle (scan_of w.now) ≡ false) where
  -- a stop asked is one that the watcher knows of
  known : under (scan_of w.now) ≡ true → on w.now.box.job.stop ≡ true → stop_asked w.past ≡ true
  known u e = sym (m.mark u) ∙ e

  -- a drain step inside a call, the stop mark and the job's number as before it
  drain-course : (c : Call) (v : Values) (reply : List ℕ) (r : Record) → r.job.held ≡ w.now.box.job.held
      → (on r.job.stop ≡ true → EndsBy w c) → Course w c (record { number = 0; values = v; state = to (drained r) w.now; reply = reply })
  unfolding begun released
  drain-course c v reply r e by =
      drained-cases (λ (x : Record). Course w c (record { number = 0; values = v; state = to x w.now; reply = reply })) r
      (λ s. ceases refl (by s)) (λ _ _. goes refl e) (λ _ _ _. goes refl e) (λ _ _ _ _. goes refl e) (λ _ _ _ _. goes refl e)

  course-of : {c : Call} {o : Outcome} → Deed w.now c o → step w.now c ≡ o → Course w c o
  unfolding scan_effect report_effect given readied begun released moved filled finished
  course-of (aside n v f reply a) _ = goes i refl
  course-of (opens e g) _ = clash e i
  course-of (starts {j} {from} {count} e p g) _ =
      started-cases (λ (x : Record). Course w (scan (Start j from count)) (accepted nothing x w.now)) w.now.box
      (settled from w.now.box.settings.feeder) count (λ _. goes refl refl) (λ _. goes refl refl)
  course-of (stops {j} e f g) _ =
      stopped-cases (λ (x : Record). Course w (scan (Stop j)) (accepted nothing x w.now)) w.now.box
      (λ p. ceases refl (stop f p)) (λ _. goes i refl)
  course-of (aborts {j} e f g) _ = ceases refl (abort f)
  course-of (fetches {called} {most} {reply} e g) is =
      let s = w.now in
      let b = s.box in
      let k = least b.ring.stored most (length reply) in
      let n = length s.bytes in
      let c = scan (Fetch called most reply) in
      let o = scan_effect (Fetch called most reply) s in
      fetched-cases (λ (x : Record). Course w c (record { number = 0; values = o.values; state = to x s; reply = o.reply })) b k n
      (λ l. drain-course c o.values o.reply (moved k n b) refl
      (λ p. last_fetch (known (finishes (scan_of s) (and_l (finishing (scan_of s)) _ l)) p)
      (ap (λ (x : Outcome). x.values) is ∙ ap (λ (x : Bool). picture k x (queue s.bytes b.ring.start k)) l)))
      (λ _. goes i refl)
    where
      finishes : (x : Scan) → finishing x ≡ true → under x ≡ true
      finishes x f = rw f (or-true (scanning x))
  course-of (fills x l g) _ = goes i refl
  course-of (side_ends x g) _ =
      let s = w.now in
      side_ended-cases (λ (y : Record). Course w (report SideEnded) (accepted nothing y s)) s.box
      (λ e. drain-course (report SideEnded) nothing [] (finished s.box) refl
      (λ p. side_end (known (rw x) p) (none-waits w q (eqb-true _ _ e))))
      (λ _. goes refl refl)
  course-of (jams e g) _ = goes refl refl
  course-of (second g) _ =
      ticked-cases (λ (x : Record). Course w (report Tick) (accepted nothing x w.now)) w.now.box (λ e. clash e i)
      (λ _ e. ceases refl
      (by_time (at_last (leb-true (moves.due w.now.box) (w.now.box.job.quiet + 1) e) (in-time w t i) (due-is w t i) (t.count i))))
      (λ _ _. goes i refl)

  pub fate : {j : ℕ} → holder w ≡ some j → (c : Call) → Fate j w c
  unfolding after
  fate {j} x c = go (course-of (deed w.now t.good c) refl)
    where
      go : Course w c (step w.now c) → Fate j w c
      go (goes e n) = held (same-holder w c t.good i e ∙ x) n
      go (ceases e by) = over (idle-ends j w c x e) by

-- ---- never put off
-- a call that is no sign of life, the job held after it: the same second is due, and only a Tick moves the count
record SecondKept (w : World) (c : Call) : Type 0 where
  same : due_second (after w c) ≡ due_second w
  count : seconds (after w c).past ≡ counting false (ticks c) (seconds w.past)

second-kept : (w : World) (c : Call) → Good w.now → sign c (scan_of w.now) (step w.now c) ≡ false
    → idle (scan_of (step w.now c).state) ≡ false → SecondKept w c
unfolding after
second-kept w c h g a = go ((deed-counts h d).count a)
  where
    d : Deed w.now c (step w.now c)
    d = deed w.now h c

    go : Counted w.now c (step w.now c) → SecondKept w c
    go (alive s z) = clash s g
    go (silent s i q e) =
        record { same = ap₂ watched e (ap (λ (x : Option ℕ). or_else x (time_answered w.past)) (deed-untimed d i)); count = rw g }

-- nobody held, and no sign of life: nobody is held after it
idle-on : (cs : List Call) (w : World) → Good w.now → idle (scan_of w.now) ≡ true → Silent w cs → idle (scan_of (live w cs).now) ≡ true
unfolding live after
idle-on [] w h i s = i
idle-on (c ∷ cs) w h i s = idle-on cs (after w c) (step-sound w.now c h) (go (idle (scan_of (step w.now c).state)) refl) s.1
  where
    go : (t : Bool) → idle (scan_of (step w.now c).state) ≡ t → t ≡ true
    go true e = refl
    go false e = clash (deed-wakes (deed w.now h c) i e).0 s.0

not-over : {d d' n : ℕ} (t : Bool) (a b : ℕ) → n ≡ counting false t a → d' ≡ d → d ≤ a + cond t (suc b) b → d' ≤ n + b
not-over true a b e f h = omega arith
not-over false a b e f h = omega arith

added : {n m : ℕ} (t : Bool) (a b : ℕ) → n ≡ counting false t a → m ≡ n + b → m ≡ a + cond t (suc b) b
added true a b e f = omega arith
added false a b e f = omega arith

-- one call more in front
put_one : (j : ℕ) (c : Call) (cs : List Call) (w : World) → Timely w → holder w ≡ some j → Silent w (c ∷ cs)
    → (Timely (after w c) → holder (after w c) ≡ some j → Silent (after w c) cs → NotPutOff j (after w c) (live (after w c) cs) cs)
    → (b : Bool) → idle (scan_of (after w c).now) ≡ b → NotPutOff j w (live (after w c) cs) (c ∷ cs)
unfolding after
put_one j c cs w t x s rest true e =
    let z = idle-on cs (after w c) (step-sound w.now c t.good) e s.1 in
    let n : holder (live (after w c) cs) ≢ some j = nobody (live (after w c) cs) z in
    record { same = λ h. absurd (n h); count = λ h. absurd (n h); over = λ _. n }
put_one j c cs w t x s rest false e =
    let k = second-kept w c t.good s.0 e in
    let m = rest (next-timely w c t) (same-holder w c t.good (holds w x).0 e ∙ x) s.1 in
    record {
      same = λ h. m.same h ∙ k.same;
      count = λ h. added (ticks c) (seconds w.past) (ticks_in cs) k.count (m.count h);
      over = λ h. m.over (not-over (ticks c) (seconds w.past) (ticks_in cs) k.count k.same h);
    }

pub not-put-off : (j : ℕ) (cs : List Call) (w : World) → Timely w → holder w ≡ some j → Silent w cs → NotPutOff j w (live w cs) cs
unfolding live
not-put-off j [] w t x s =
    record {
      same = λ _. refl;
      count = λ _. sym (add-zero (seconds w.past));
      over = λ e. absurd (soon-enough (on-time-at w t (holds w x).0 x).soon e);
    }
  where
    soon-enough : {a d : ℕ} → a < d → d ≤ a + 0 → ⊥
    soon-enough h e = omega arith
not-put-off j (c ∷ cs) w t x s = put_one j c cs w t x s (not-put-off j cs (after w c)) (idle (scan_of (after w c).now)) refl
