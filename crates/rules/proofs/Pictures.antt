-- Demand 3, the pictures: the watcher's tagged queue agrees with the ring, and holds the present job's bytes alone.
use Prim.Native.Nat.{ℕ, zero, suc, ◌+◌, ◌<◌}
use mathlib.Core.Path.{◌≡◌, refl, sym, ◌∙◌, ap, ap₂, subst}
use mathlib.Core.Bool.{Bool, true, false, cond, true≢false, false≢true}
use mathlib.Core.List.{List, [], ◌∷◌, ◌++◌, map, append_assoc, append-nil, map-append}
use mathlib.Core.Option.{Option, none, some}
use lib.ListN.{length, take, drop, take-append-drop}
use lib.Seq.{take-nil}
use native.Mathlib.Omega.{arith}
use Rattle.rules.specs.declared.Scan.{Scan}
use Rattle.rules.specs.declared.Ring.{Ring as RingPart}
use Rattle.rules.specs.declared.Record.{Record}
use Rattle.rules.specs.Record.{idle, granting}
use Rattle.rules.specs.Ring.{queue}
use Rattle.rules.specs.Moves.{announced, settled, given, readied, begun, released, drained, least, moved, fetched, filled, finished}
use Rattle.rules.specs.Calls.{StartScan, Start, Stop, Abort, GetDestination, Fetch, GetState, GetSideInformation, Load, Eject, Reset, SetFeederMode}
use Rattle.rules.specs.Calls.{GetFeederState, GetFeederMode, Bytes, SideEnded, Tray, Path, Tick, Call, scan, feeder, report, State, nothing, time}
use Rattle.rules.specs.Calls.{Outcome, lent}
use Rattle.rules.specs.Machine.{accepted, scan_effect, feeder_effect, report_effect, effect, step}
use Rattle.rules.specs.Watch as watch
use Rattle.rules.specs.Watch.{scan_of, count_in, bytes_in, time_in, plus_one, ordinal, Tagged, tag, byte_of, brought, wasted, waiting, World, after, live}
use Rattle.rules.specs.Watch.{holder}
use Rattle.rules.specs.Promises.{All, Ends, Replied, as_lent, written, Yields}
use Rattle.rules.proofs.Choice.{clash, opened}
use Rattle.rules.proofs.Sound.{Phase}
use Rattle.rules.proofs.Cases.{started-cases, stopped-cases, drained-cases, fetched-cases, side_ended-cases, ticked-cases}
use Rattle.rules.proofs.RingLaws.{length-queue, put-queue, queue-drop, queue-take}
use Rattle.rules.proofs.Answers.{Good, by-step}
use Rattle.rules.proofs.Deeds.{Deed, aside, opens, starts, stops, aborts, fetches, fills, side_ends, jams, second, deed, step-sound}
use Rattle.rules.proofs.Holder.{deed-wakes, deed-untimed, holds, ends-idle}

-- the bytes that stand in the ring
abbrev pub content : State → List ℕ
content s = queue s.bytes s.box.ring.start s.box.ring.stored

-- ---- what a call does to them, unless the job ends or jams
pub record Flows (s : State) (c : Call) (o : Outcome) : Type 0 where
  pub flow : wasted (scan_of o.state) ≡ false → content o.state ≡ drop (count_in o.values) (content s) ++ brought c o

-- start and stored are kept, unless the job ends or jams
record RingKept (g : RingPart) (x : Record) : Type 0 where
  ring : wasted x.scanner.state ≡ false → x.ring ≡ g

drained-ring : (r : Record) → RingKept r.ring (drained r)
unfolding begun released
drained-ring r =
    drained-cases (RingKept r.ring) r (λ _. record { ring = λ e. absurd (true≢false e) }) (λ _ _. record { ring = λ _. refl })
    (λ _ _ _. record { ring = λ _. refl }) (λ _ _ _ _. record { ring = λ _. refl }) (λ _ _ _ _. record { ring = λ _. refl })

module _ (s : State) where
  -- all as it was
  as-was : content s ≡ content s ++ []
  as-was = sym (append-nil (content s))

  -- read off the ring's start and count
  off : (g : RingPart) → List ℕ
  off g = queue s.bytes g.start g.stored

pub deed-flows : {s : State} {c : Call} {o : Outcome} → Good s → Deed s c o → Flows s c o
unfolding scan_effect report_effect given readied begun released moved filled finished off
deed-flows {s} h (aside n v f reply a) = record { flow = λ _. rw (a.mute.uncounted, a.dry) (as-was s) }
deed-flows {s} h (opens {from} {count} {append} {asked} i g) =
    let c = scan (StartScan from count append asked) in
    started-cases (λ (x : Record). Flows s c (accepted (time (granting asked).seconds) x s))
    (announced (given (settled append s.box.settings.append) asked s.box)) (settled from s.box.settings.feeder) count
    (λ _. record { flow = λ _. as-was s }) (λ _. record { flow = λ _. as-was s })
deed-flows {s} h (starts {j} {from} {count} i p g) =
    let c = scan (Start j from count) in
    started-cases (λ (x : Record). Flows s c (accepted nothing x s)) s.box
    (settled from s.box.settings.feeder) count (λ _. record { flow = λ _. as-was s }) (λ _. record { flow = λ _. as-was s })
deed-flows {s} h (stops {j} i e g) =
    stopped-cases (λ (x : Record). Flows s (scan (Stop j)) (accepted nothing x s)) s.box
    (λ _. record { flow = λ x. absurd (true≢false x) }) (λ _. record { flow = λ _. as-was s })
deed-flows h (aborts i e g) = record { flow = λ x. absurd (true≢false x) }
deed-flows {s} h (fetches {called} {most} {reply} i g) =
    let r = s.box in
    let k = least r.ring.stored most (length reply) in
    let n = length s.bytes in
    let e = queue-drop s.bytes r.ring.start k r.ring.stored h.common.ring.start (omega arith) h.common.ring.stored in
    let x : RingKept (moved k n r).ring (fetched k n r) =
    fetched-cases (RingKept (moved k n r).ring) r k n (λ _. drained-ring (moved k n r)) (λ _. record { ring = λ _. refl }) in
    record { flow = λ z. ap (off s) (x.ring z) ∙ sym e ∙ sym (append-nil _) }
deed-flows {s} h (fills {bs} x l g) =
    record { flow = λ _. put-queue bs s.bytes s.box.ring.start s.box.ring.stored h.common.ring.start l }
deed-flows {s} h (side_ends x g) =
    side_ended-cases (λ (y : Record). Flows s (report SideEnded) (accepted nothing y s)) s.box
    (λ _. record { flow = λ z. ap (off s) ((drained-ring (finished s.box)).ring z) ∙ as-was s })
    (λ _. record { flow = λ _. as-was s })
deed-flows h (jams e g) = record { flow = λ x. absurd (true≢false x) }
deed-flows {s} h (second g) =
    ticked-cases (λ (x : Record). Flows s (report Tick) (accepted nothing x s)) s.box
    (λ _. record { flow = λ _. as-was s }) (λ _ _. record { flow = λ x. absurd (true≢false x) }) (λ _ _. record { flow = λ _. as-was s })

-- what a call reports of the ring is the first of what stands there
pub record Takes (s : State) (o : Outcome) : Type 0 where
  pub it : bytes_in o.values ≡ take (count_in o.values) (content s)
  pub many : length (bytes_in o.values) ≡ count_in o.values

pub deed-takes : {s : State} {c : Call} {o : Outcome} → Good s → Deed s c o → Takes s o
unfolding scan_effect report_effect
deed-takes h (aside n v f reply a) = record { it = rw a.mute.uncounted a.mute.unpictured; many = rw (a.mute.uncounted, a.mute.unpictured) }
deed-takes h (opens i g) = record { it = refl; many = refl }
deed-takes h (starts i p g) = record { it = refl; many = refl }
deed-takes h (stops i e g) = record { it = refl; many = refl }
deed-takes h (aborts i e g) = record { it = refl; many = refl }
deed-takes {s} h (fetches {called} {most} {reply} i g) =
    let r = s.box in
    let k = least r.ring.stored most (length reply) in
    record {
      it = sym (queue-take s.bytes r.ring.start k r.ring.stored h.common.ring.start (omega arith) h.common.ring.stored);
      many = length-queue s.bytes r.ring.start k;
    }
deed-takes h (fills x l g) = record { it = refl; many = refl }
deed-takes h (side_ends x g) = record { it = refl; many = refl }
deed-takes h (jams e g) = record { it = refl; many = refl }
deed-takes h (second g) = record { it = refl; many = refl }

-- ---- lists of tagged bytes
abbrev Ours : ℕ → List Tagged → Type 0
Ours j q = All (λ (t : Tagged). t.job ≡ j) q

ours-tagged : (j : ℕ) (xs : List ℕ) → Ours j (map (tag j) xs)
ours-tagged j [] = tt
ours-tagged j (x ∷ xs) = (refl, ours-tagged j xs)

ours-append : (j : ℕ) (q r : List Tagged) → Ours j q → Ours j r → Ours j (q ++ r)
ours-append j [] r h k = k
ours-append j (t ∷ q) r h k = (h.0, ours-append j q r h.1 k)

ours-drop : (j k : ℕ) (q : List Tagged) → Ours j q → Ours j (drop k q)
ours-drop j zero q h = h
ours-drop j (suc k) [] h = tt
ours-drop j (suc k) (t ∷ q) h = ours-drop j k q h.1

ours-take : (j k : ℕ) (q : List Tagged) → Ours j q → Ours j (take k q)
ours-take j zero q h = tt
ours-take j (suc k) [] h = tt
ours-take j (suc k) (t ∷ q) h = (h.0, ours-take j k q h.1)

ours-after : (i j : ℕ) (q : List Tagged) → i < j → Ours j q → All (λ (t : Tagged). i < t.job) q
ours-after i j [] l h = tt
ours-after i j (t ∷ q) l h = (omega (arith, h.0), ours-after i j q l h.1)

map-drop : (k : ℕ) (q : List Tagged) → map byte_of (drop k q) ≡ drop k (map byte_of q)
map-drop zero q = refl
map-drop (suc k) [] = refl
map-drop (suc k) (t ∷ q) = map-drop k q

map-take : (k : ℕ) (q : List Tagged) → map byte_of (take k q) ≡ take k (map byte_of q)
map-take zero q = refl
map-take (suc k) [] = refl
map-take (suc k) (t ∷ q) = ap (λ (l : List ℕ). t.byte ∷ l) (map-take k q)

map-tagged : (j : ℕ) (xs : List ℕ) → map byte_of (map (tag j) xs) ≡ xs
map-tagged j [] = refl
map-tagged j (x ∷ xs) = ap (λ (l : List ℕ). x ∷ l) (map-tagged j xs)

length-bytes : (q : List Tagged) → length (map byte_of q) ≡ length q
length-bytes [] = refl
length-bytes (t ∷ q) = ap suc (length-bytes q)

map-none : (q : List Tagged) → map byte_of q ≡ [] → q ≡ []
map-none [] e = refl
map-none (t ∷ q) e = cc

-- ---- over any list
none-stored : (x : Scan) (r : Record) → wasted x ≡ true → Phase x r → r.ring.stored ≡ 0
none-stored Scan.Idle r e p = p.empty
none-stored Scan.Pending r e p = absurd (false≢true e)
none-stored Scan.Scanning r e p = absurd (false≢true e)
none-stored Scan.Finishing r e p = absurd (false≢true e)
none-stored Scan.Erred r e p = p.empty

nothing-there : (s : State) → Good s → wasted (scan_of s) ≡ true → content s ≡ []
nothing-there s h e = ap (queue s.bytes s.box.ring.start) (none-stored (scan_of s) s.box e h.phase)

pub record Waiting (w : World) : Type 0 where
  pub good : Good w.now
  pub agrees : map byte_of (waiting w.past) ≡ content w.now
  pub ours : Ours (ordinal w.past) (waiting w.past)
  pub gone : List Tagged
  pub among : watch.bytes_accepted w.past ≡ gone ++ waiting w.past

idle-waiting : (w : World) → Waiting w → idle (scan_of w.now) ≡ true → waiting w.past ≡ []
idle-waiting w h i = map-none _ (h.agrees ∙ nothing-there w.now h.good (rw i))

pub none-waits : (w : World) → Waiting w → w.now.box.ring.stored ≡ 0 → waiting w.past ≡ []
none-waits w h e = map-none _ (h.agrees ∙ ap (queue w.now.bytes w.now.box.ring.start) e)

-- bytes in at the end, k out at the front
among-on : (a g q t : List Tagged) (k : ℕ) → a ≡ g ++ q → a ++ t ≡ (g ++ take k q) ++ (drop k q ++ t)
among-on a g q t k e =
    ap (λ (l : List Tagged). l ++ t) (e ∙ ap (λ (l : List Tagged). g ++ l) (sym (take-append-drop k q)) ∙ sym (append_assoc g (take k q) (drop k q)))
    ∙ append_assoc (g ++ take k q) (drop k q) t

pub next-waiting : (w : World) (c : Call) → Waiting w → Waiting (after w c)
unfolding after
next-waiting w c h = go (wasted (scan_of o.state)) refl
  where
    o : Outcome
    o = step w.now c

    d : Deed w.now c o
    d = deed w.now h.good c

    g : Good o.state
    g = step-sound w.now c h.good

    q : List Tagged
    q = waiting w.past

    k : ℕ
    k = count_in o.values

    e : ℕ
    e = ordinal (after w c).past

    new : List Tagged
    new = map (tag e) (brought c o)

    -- what waits is the present job's, also where a new one has begun
    still : (t : Option ℕ) → time_in o.values ≡ t → (i : Bool) → idle (scan_of w.now) ≡ i → Ours (plus_one t (ordinal w.past)) q
    still none x i y = h.ours
    still (some t) x true y = subst (Ours _) (sym (idle-waiting w h y)) tt
    still (some t) x false y = clash (ap opened x) (ap opened (deed-untimed d y))

    present : Ours e q
    present = still (time_in o.values) refl (idle (scan_of w.now)) refl

    go : (t : Bool) → wasted (scan_of o.state) ≡ t → Waiting (after w c)
    go true z =
        record {
          good = g;
          agrees = rw z (sym (nothing-there o.state g z));
          ours = rw z tt;
          gone = watch.bytes_accepted (after w c).past;
          among = rw z (sym (append-nil _));
        }
    go false z =
        record {
          good = g;
          agrees =
              rw z
              (map-append _ (drop k q) new
              ∙ ap₂ (λ (a b : List ℕ). a ++ b) (map-drop k q ∙ ap (drop k) h.agrees) (map-tagged e (brought c o))
              ∙ sym ((deed-flows h.good d).flow z));
          ours = rw z (ours-append e (drop k q) new (ours-drop e k q present) (ours-tagged e (brought c o)));
          gone = h.gone ++ take k q;
          among = rw z (among-on (watch.bytes_accepted w.past) h.gone q new k h.among);
        }

pub live-waiting : (cs : List Call) (w : World) → Waiting w → Waiting (live w cs)
unfolding live
live-waiting [] w h = h
live-waiting (c ∷ cs) w h = live-waiting cs (after w c) (next-waiting w c h)

-- ---- what a call yields
-- a reply at exit, whatever the box: as it was lent, or written with the bytes that the call reports
pub replied : (s : State) (c : Call) → Replied (lent c) (bytes_in (step s c).values) (step s c).reply
unfolding effect scan_effect feeder_effect report_effect
replied s c =
    by-step (λ (o : Outcome). Replied (lent c) (bytes_in o.values) o.reply) s c (λ _. as_lent) (λ _ _ _ _. as_lent) (λ _. go c)
  where
    go : (c : Call) → Replied (lent c) (bytes_in (effect c s).values) (effect c s).reply
    go (scan (StartScan from count append asked)) = as_lent
    go (scan (Start j from count)) = as_lent
    go (scan (Stop j)) = as_lent
    go (scan (Abort j)) = as_lent
    go (scan (GetDestination j)) = as_lent
    go (scan (Fetch called most reply)) =
        let k = least s.box.ring.stored most (length reply) in
        let q = queue s.bytes s.box.ring.start k in
        subst (λ (n : ℕ). Replied reply q (0xA5 ∷ 0x5A ∷ 0x06 ∷ n ∷ q ++ drop (4 + n) reply)) (length-queue s.bytes s.box.ring.start k) (written q)
    go (scan GetState) = as_lent
    go (scan GetSideInformation) = as_lent
    go (feeder (Load j)) = as_lent
    go (feeder (Eject j v)) = as_lent
    go (feeder (Reset j)) = as_lent
    go (feeder (SetFeederMode j m)) = as_lent
    go (feeder GetFeederState) = as_lent
    go (feeder GetFeederMode) = as_lent
    go (report (Bytes bs)) = as_lent
    go (report SideEnded) = as_lent
    go (report (Tray v)) = as_lent
    go (report (Path v)) = as_lent
    go (report Tick) = as_lent

-- k of a call, and the first k of those that wait
abbrev many : World → Call → ℕ
many w c = count_in (step w.now c).values

abbrev pub got : World → Call → List Tagged
got w c = take (many w c) (waiting w.past)

all-ours : (j : ℕ) (q : List Tagged) → Ours j q → All (λ (x : Tagged). ◌≡◌ {A = Option ℕ} (some j) (some x.job)) q
all-ours j [] a = tt
all-ours j (x ∷ q) a = (ap some (sym a.0), all-ours j q a.1)

module _ (w : World) (h : Waiting w) (c : Call) where
  got-ours : Ours (ordinal w.past) (got w c)
  got-ours = ours-take (ordinal w.past) (many w c) (waiting w.past) h.ours

  got-none : idle (scan_of w.now) ≡ true → got w c ≡ []
  got-none i = ap (take (many w c)) (idle-waiting w h i) ∙ take-nil (many w c)

  took : Takes w.now (step w.now c)
  took = deed-takes h.good (deed w.now h.good c)

  told : bytes_in (step w.now c).values ≡ map byte_of (got w c)
  told = took.it ∙ ap (take (many w c)) (sym h.agrees) ∙ sym (map-take (many w c) (waiting w.past))

  pub yields : (P : Tagged → Type 0) → All P (got w c) → Yields w c P
  yields P each =
      let q = waiting w.past in
      record {
        yield = got w c;
        next = refl;
        told = told;
        count = sym (length-bytes (got w c)) ∙ ap length (sym told) ∙ took.many;
        reply = subst (λ (l : List ℕ). Replied (lent c) l (step w.now c).reply) told (replied w.now c);
        gone = h.gone;
        rest = drop (many w c) q;
        among =
            h.among ∙ ap (λ (l : List Tagged). h.gone ++ l) (sym (take-append-drop (many w c) q))
            ∙ sym (append_assoc h.gone (got w c) (drop (many w c) q));
        each = each;
      }

  -- all are the holder's; in Idle there are none
  of-holder : (t : Bool) → idle (scan_of w.now) ≡ t → All (λ (x : Tagged). cond t none (some (ordinal w.past)) ≡ some x.job) (got w c)
  of-holder true i = rw (got-none i) tt
  of-holder false i = all-ours (ordinal w.past) (got w c) got-ours

  pub holder-yields : Yields w c (λ (x : Tagged). holder w ≡ some x.job)
  holder-yields = yields (λ (x : Tagged). holder w ≡ some x.job) (of-holder (idle (scan_of w.now)) refl)

-- ---- a job that is over stays over, and yields nothing more
pub data Over (j : ℕ) (w : World) : Type 0 where
  before : j < ordinal w.past → Over j w
  idles : j ≡ ordinal w.past → idle (scan_of w.now) ≡ true → Over j w

next-over : (j : ℕ) (w : World) (c : Call) → Waiting w → Over j w → Over j (after w c)
unfolding after
next-over j w c h x = go x (time_in o.values) refl
  where
    o : Outcome
    o = step w.now c

    more : {n : ℕ} (t : Option ℕ) → j < n → j < plus_one t n
    more none l = l
    more (some t) l = omega arith

    still : (b : Bool) → idle (scan_of o.state) ≡ b → idle (scan_of w.now) ≡ true → time_in o.values ≡ none → idle (scan_of o.state) ≡ true
    still true e i t = e
    still false e i t = clash (deed-wakes (deed w.now h.good c) i e).1 (ap opened t)

    go : Over j w → (t : Option ℕ) → time_in o.values ≡ t → Over j (after w c)
    go (before l) t e = before (more (time_in o.values) l)
    go (idles n i) none e =
        idles (n ∙ sym (ap (λ (x : Option ℕ). plus_one x (ordinal w.past)) e)) (still (idle (scan_of o.state)) refl i e)
    go (idles n i) (some t) e = before (subst (λ (x : Option ℕ). j < plus_one x (ordinal w.past)) (sym e) (omega (arith, n)))

-- a job that a call ends is over
pub just-over : (j : ℕ) (w : World) (c : Call) → Good w.now → Ends j w c → Over j (after w c)
unfolding after
just-over j w c h x = idles (sym (unmoved (holds w x.held))) (ends-idle j w c h x)
  where
    unmoved : (idle (scan_of w.now) ≡ false) × (ordinal w.past ≡ j) → ordinal (after w c).past ≡ j
    unmoved (i, e) = ap (λ (x : Option ℕ). plus_one x (ordinal w.past)) (deed-untimed (deed w.now h c) i) ∙ e

pub live-over : (j : ℕ) (cs : List Call) (w : World) → Waiting w → Over j w → Over j (live w cs)
unfolding live
live-over j [] w h x = x
live-over j (c ∷ cs) w h x = live-over j cs (after w c) (next-waiting w c h) (next-over j w c h x)

pub over-yields : (j : ℕ) (w : World) → Waiting w → Over j w → (c : Call) → Yields w c (λ (x : Tagged). j < x.job)
over-yields j w h x c = yields w h c (λ (x : Tagged). j < x.job) (go x)
  where
    go : Over j w → All (λ (x : Tagged). j < x.job) (got w c)
    go (before l) = ours-after j (ordinal w.past) (got w c) l (got-ours w h c)
    go (idles n i) = rw (got-none w h c i) tt
