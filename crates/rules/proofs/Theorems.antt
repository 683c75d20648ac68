-- What the rules promise, each theorem with its whole statement. The words are those of specs/Promises.antt.
use Prim.Native.Nat.{ℕ, suc, ◌+◌, ◌-◌, ◌%◌, ◌≤◌, ◌<◌}
use mathlib.Core.Path.{◌≡◌, refl, sym, ◌∙◌, ap, ap₂, subst}
use mathlib.Core.Logic.{◌↔◌, ◌≢◌}
use mathlib.Core.Bool.{Bool, true, false, ◌&&◌, ◌||◌, cond, or-true, true≢false, false≢true}
use mathlib.Core.List.{List, [], ◌∷◌, ◌++◌}
use mathlib.Core.Option.{some}
use lib.Dec.{eqb, leb, ltb}
use lib.IntN.{pos, negsuc}
use lib.ListN.{length}
use native.Mathlib.Omega.{arith}
use native.Mathlib.Nat.{add-mod_right}
use borrow.Author.Tests.{eqb-true, eq-eqb, le-leb, leb-true, ltb-false, ltb-true}
use Rattle.rules.specs.declared.Record.{Record}
use Rattle.rules.specs.Record.{greatest, negatives, endless, most_sides, on, signed, counted, sound}
use Rattle.rules.specs.Name.{name, same, spelt}
use Rattle.rules.specs.Moves.{next_job}
use Rattle.rules.specs.Calls.{StartScan, GetDestination, Fetch, Call, scan, n604, named, State, destination, Outcome}
use Rattle.rules.specs.Machine.{listed, sides_listed, run_by, all_guards, step, Ran, run, start, refusals}
use Rattle.rules.specs.Watch.{was_accepted, sign, scan_of, Tagged, last_name, changed, World, after, live, born, lived, holder, told}
use Rattle.rules.specs.Promises.{reasons, below, bears, All, Ringed, First, OneOf, Refusal, Sides, Ends, OnTime, Fate, Silent, NotPutOff}
use Rattle.rules.specs.Promises.{OfAnother, destination_of, FollowsName, Yields}
use Rattle.rules.specs.Cases.{Case, Right}
use Rattle.rules.proofs.Table.{table}
use Rattle.rules.proofs.Agrees as agrees
use Rattle.rules.proofs.Choice.{choice}
use Rattle.rules.proofs.Sound.{to-sound, from-sound}
use Rattle.rules.proofs.Answers as answers
use Rattle.rules.proofs.Answers.{Good}
use Rattle.rules.proofs.Deeds as deeds
use Rattle.rules.proofs.Time.{Timely, live-timely}
use Rattle.rules.proofs.Holder.{holds}
use Rattle.rules.proofs.Pictures.{Waiting, next-waiting, live-waiting, holder-yields, just-over, live-over, over-yields}
use Rattle.rules.proofs.Stops.{Marked, live-marked}
use Rattle.rules.proofs.Ends.{on-time-at, fate, not-put-off}
use Rattle.rules.proofs.Naming as naming
use Rattle.rules.proofs.Others as others
use Rattle.rules.proofs.Others.{Numbers, live-numbers}
use Rattle.rules.proofs.Follows.{Recalls, live-recalls, born-last, follows, name-stays, same-last, fetched-name, told-name}

-- ---- 1. In order: the number is n exactly when n's test holds and no earlier one does, and 0 exactly when none holds
pub in_order : (s : State) (c : Call) (n : ℕ) → ((step s c).number ≡ n) ↔ First n (all_guards c s)
in_order s c n = answers.in_order s c n

-- only 604 and the numbers named for the call occur
pub only-named : (s : State) (c : Call) → OneOf (step s c).number (n604 ∷ named c)
only-named s c = answers.only-named s c

-- each call's list has the numbers named for it, and they stand in the order of the table, 604 before them
pub as-named : (s : State) (c : Call) → reasons (refusals c s) ≡ named c
as-named s c = answers.as-named s c

pub table-order : (c : Call) → below 1 (named c) ≡ true
table-order c = answers.table-order c

-- ---- 2. A refused call reports nothing and leaves all as it was, but for Load's 713, which leaves the feeder Unloaded and the rest
pub refused-keeps : (s : State) (c : Call) → eqb (step s c).number 0 ≡ false → Refusal s c (step s c)
refused-keeps s c = answers.refused-keeps s c

-- ---- 3. Every step from a sound state leaves a sound state
pub step-sound : (s : State) (c : Call) → sound s.box (length s.bytes) ≡ true
    → sound (step s c).state.box (length (step s c).state.bytes) ≡ true
step-sound s c h = from-sound _ _ (deeds.step-sound s c (to-sound _ _ h))

fresh-good : (ring : List ℕ) → Ringed ring → Good (start ring)
fresh-good ring l =
    record {
      common =
          record {
            ring = record { least = l.least; most = l.most; start = l.least; stored = omega arith };
            side = record { number = omega arith; count = refl };
            settings = record { feeder = omega arith; append = omega arith };
            stop = omega arith;
            feeder = record { tray = omega arith; path = omega arith; jam = refl };
          };
      phase = record { job = refl; number = refl; count = refl; quiet = refl; stop = refl; empty = refl; free = refl };
      called = λ i. absurd (true≢false i);
    }

run-good : (cs : List Call) (s : State) → Good s → Good (run s cs).end
unfolding run_by
run-good [] s h = h
run-good (c ∷ cs) s h = run-good cs (step s c).state (deeds.step-sound s c h)

pub run_sound : (ring : List ℕ) → Ringed ring → (cs : List Call)
    → sound (run (start ring) cs).end.box (length (run (start ring) cs).end.bytes) ≡ true
run_sound ring l cs = from-sound _ _ (run-good cs (start ring) (fresh-good ring l))

-- from a fresh box, over any list of calls, 604 never occurs
outcomes-604 : (cs : List Call) (s : State) → Good s → All (λ (o : Outcome). o.number ≢ 604) (run s cs).outcomes
unfolding run_by
outcomes-604 [] s h = tt
outcomes-604 (c ∷ cs) s h = (answers.not-604 s c h, outcomes-604 cs (step s c).state (deeds.step-sound s c h))

pub never-604 : (ring : List ℕ) → Ringed ring → (cs : List Call) → All (λ (o : Outcome). o.number ≢ 604) (run (start ring) cs).outcomes
never-604 ring l cs = outcomes-604 cs (start ring) (fresh-good ring l)

-- ---- the watcher watches the machine of demand 2
live-run : (cs : List Call) (w : World) → (live w cs).now ≡ (run w.now cs).end
unfolding live after run_by
live-run [] w = refl
live-run (c ∷ cs) w = live-run cs (after w c)

pub lived-run : (ring : List ℕ) (cs : List Call) → (lived ring cs).now ≡ (run (start ring) cs).end
lived-run ring cs = live-run cs (born ring)

live-told : (cs : List Call) (w : World) → told (live w cs).past [] ≡ told w.past (run w.now cs).outcomes
unfolding live after run_by
live-told [] w = refl
live-told (c ∷ cs) w = live-told cs (after w c)

pub lived-told : (ring : List ℕ) (cs : List Call) → told (lived ring cs).past [] ≡ (run (start ring) cs).outcomes
lived-told ring cs = live-told cs (born ring)

lived-timely : (ring : List ℕ) → Ringed ring → (cs : List Call) → Timely (lived ring cs)
lived-timely ring l cs =
    live-timely cs (born ring) (record { good = fresh-good ring l; grant = refl; count = λ i. absurd (true≢false i) })

lived-waiting : (ring : List ℕ) → Ringed ring → (cs : List Call) → Waiting (lived ring cs)
lived-waiting ring l cs =
    live-waiting cs (born ring) (record { good = fresh-good ring l; agrees = refl; ours = tt; gone = []; among = refl })

lived-marked : (ring : List ℕ) → Ringed ring → (cs : List Call) → Marked (lived ring cs)
lived-marked ring l cs = live-marked cs (born ring) (record { good = fresh-good ring l; mark = λ u. absurd (false≢true u) })

lived-numbers : (ring : List ℕ) → Ringed ring → (cs : List Call) → Numbers (lived ring cs)
lived-numbers ring l cs = live-numbers cs (born ring) (record { good = fresh-good ring l; most = omega arith })

lived-recalls : (ring : List ℕ) → Ringed ring → (cs : List Call) → Recalls (lived ring cs)
lived-recalls ring l cs = live-recalls cs (born ring) (record { good = fresh-good ring l; last = born-last; count = refl })

-- a list, and then another, is the two lists joined
pub live-joined : (cs ds : List Call) (w : World) → live (live w cs) ds ≡ live w (cs ++ ds)
unfolding live
live-joined [] ds w = refl
live-joined (c ∷ cs) ds w = live-joined cs ds (after w c)

-- ---- 4. On time
pub on-time : (ring : List ℕ) → Ringed ring → (cs : List Call) (j : ℕ) → holder (lived ring cs) ≡ some j → OnTime j (lived ring cs)
on-time ring l cs j x = on-time-at (lived ring cs) (lived-timely ring l cs) (holds (lived ring cs) x).0 x

-- ---- 5. Never otherwise
pub never-otherwise : (ring : List ℕ) → Ringed ring → (cs : List Call) (j : ℕ) → holder (lived ring cs) ≡ some j → (c : Call)
    → Fate j (lived ring cs) c
never-otherwise ring l cs j x c =
    let w = lived ring cs in
    fate w (lived-timely ring l cs) (lived-marked ring l cs) (lived-waiting ring l cs) (holds w x).0 x c

-- ---- 6. Never put off
pub never-put-off : (ring : List ℕ) → Ringed ring → (cs stretch : List Call) (j : ℕ) → holder (lived ring cs) ≡ some j
    → Silent (lived ring cs) stretch → NotPutOff j (lived ring cs) (lived ring (cs ++ stretch)) stretch
never-put-off ring l cs stretch j x s =
    subst (λ (v : World). NotPutOff j (lived ring cs) v stretch) (live-joined cs stretch (born ring))
    (not-put-off j stretch (lived ring cs) (lived-timely ring l cs) x s)

-- a refused call is no sign of life
pub refused-silent : (s : State) (c : Call) → was_accepted (step s c) ≡ false → sign c (scan_of s) (step s c) ≡ false
refused-silent s c = answers.refused-silent s c

-- a call that bears another number is refused, in any state
pub bearing-refused : (s : State) (c : Call) (j : ℕ) → bears c ≡ some j → j ≢ s.box.job.held → was_accepted (step s c) ≡ false
bearing-refused s c j = answers.bearing-refused s c j

-- the box's test of names is equality, and ten digits settle the job's number: names of different jobs differ
pub same-is : (xs ys : List ℕ) → (same xs ys ≡ true) ↔ (xs ≡ ys)
same-is xs ys = naming.same-is xs ys

pub names-differ : (r x : Record) → r.job.held < 10000000000 → x.job.held < 10000000000 → r.job.held ≢ x.job.held → name r ≢ name x
names-differ = naming.names-differ

-- while a job is held a fetch by another job's name is 404
pub other-name-404 : (ring : List ℕ) → Ringed ring → (cs : List Call) (j : ℕ) → holder (lived ring cs) ≡ some j
    → (x : Record) (most : ℕ) (reply : List ℕ) → x.job.held ≤ greatest → x.job.held ≢ (lived ring cs).now.box.job.held
    → (step (lived ring cs).now (scan (Fetch (name x) most reply))).number ≡ 404
other-name-404 ring l cs j h =
    let n = lived-numbers ring l cs in
    others.fetch-404 (lived ring cs).now n.good n.most (holds (lived ring cs) h).0

-- and StartScan is 501, or 601 where a value is outside its list
pub held-501 : (ring : List ℕ) → Ringed ring → (cs : List Call) (j : ℕ) → holder (lived ring cs) ≡ some j → (from count append asked : ℕ)
    → (step (lived ring cs).now (scan (StartScan from count append asked))).number
    ≡ cond (listed append && sides_listed from count (lived ring cs).now.box) 501 601
held-501 ring l cs j h =
    let n = lived-numbers ring l cs in
    others.start-scan-501 (lived ring cs).now n.good n.most (holds (lived ring cs) h).0

-- so every call of another job is refused, and is no sign of life
pub others-refused : (ring : List ℕ) → Ringed ring → (cs : List Call) (j : ℕ) → holder (lived ring cs) ≡ some j
    → (c : Call) → OfAnother (lived ring cs).now c
    → (was_accepted (step (lived ring cs).now c) ≡ false) × (sign c (scan_of (lived ring cs).now) (step (lived ring cs).now c) ≡ false)
others-refused ring l cs j h c a =
    let n = lived-numbers ring l cs in
    let s = (lived ring cs).now in
    let e = others.others-refused s n.good n.most (holds (lived ring cs) h).0 c a in
    (e, refused-silent s c e)

-- ---- 7. Pictures: what any call reports, and what stands in its reply, was accepted for the job then held, in order
pub provenance : (ring : List ℕ) → Ringed ring → (cs : List Call) (c : Call)
    → Yields (lived ring cs) c (λ (t : Tagged). holder (lived ring cs) ≡ some t.job)
provenance ring l cs c = holder-yields (lived ring cs) (lived-waiting ring l cs) c

-- once a call has ended the j-th job, however it ended, what any call after any later list reports, and what stands in its
-- reply, was accepted for a job begun later
pub no-late-byte : (ring : List ℕ) → Ringed ring → (cs : List Call) (c : Call) (j : ℕ) → Ends j (lived ring cs) c
    → (later : List Call) (d : Call) → Yields (lived ring (cs ++ c ∷ later)) d (λ (t : Tagged). j < t.job)
unfolding live
no-late-byte ring l cs c j e later d =
    let w = lived ring cs in
    let h = lived-waiting ring l cs in
    subst (λ (v : World). Yields v d (λ (t : Tagged). j < t.job)) (live-joined cs (c ∷ later) (born ring))
    (over-yields j (live w (c ∷ later)) (live-waiting (c ∷ later) w h)
    (live-over j later (after w c) (next-waiting w c h) (just-over j w c h.good e)) d)

-- ---- 8. DestinationID follows the name (02, #101). It rises by one at a call exactly when a job is held after it and its name
-- differs from the last name that any job held before it, and else stays
pub follows-name : (ring : List ℕ) → Ringed ring → (cs : List Call) (c : Call) → FollowsName (lived ring cs) c
follows-name ring l cs c = follows (lived ring cs) (lived-recalls ring l cs) c

-- so it is the number of these changes, in 32 bits: 4,294,967,295 of them, and the next returns it to 0
pub id-counts : (ring : List ℕ) → Ringed ring → (cs : List Call) → destination_of (lived ring cs) ≡ changed (lived ring cs).past % suc greatest
id-counts ring l cs = (lived-recalls ring l cs).count

-- the last name in the record is the last that any job held, through Idle too
pub last-remembered : (ring : List ℕ) → Ringed ring → (cs : List Call) → (lived ring cs).now.box.names.last ≡ spelt (last_name (lived ring cs).past)
last-remembered ring l cs = (lived-recalls ring l cs).last

-- GetDestination tells the holder that name, and this number
pub destination-told : (ring : List ℕ) → Ringed ring → (cs : List Call) (j : ℕ) → holder (lived ring cs) ≡ some j
    → (step (lived ring cs).now (scan (GetDestination (lived ring cs).now.box.job.held))).values
    ≡ destination (last_name (lived ring cs).past) (destination_of (lived ring cs))
destination-told ring l cs j x = told-name (lived ring cs) (lived-recalls ring l cs) (holds (lived ring cs) x).0

-- it never rises while the name stays
pub never-while-it-stays : (ring : List ℕ) → Ringed ring → (cs : List Call) (c : Call)
    → last_name (after (lived ring cs) c).past ≡ last_name (lived ring cs).past → destination_of (after (lived ring cs) c) ≡ destination_of (lived ring cs)
never-while-it-stays ring l cs c = name-stays (lived ring cs) (lived-recalls ring l cs) c

-- two pictures with different names are never fetched under one DestinationID, but where it has gone all the way round between them
pub one_name : (ring : List ℕ) → Ringed ring → (cs between : List Call) (a b : List ℕ) (most more : ℕ) (reply room : List ℕ)
    → was_accepted (step (lived ring cs).now (scan (Fetch a most reply))) ≡ true
    → was_accepted (step (lived ring (cs ++ between)).now (scan (Fetch b more room))) ≡ true
    → destination_of (lived ring (cs ++ between)) ≡ destination_of (lived ring cs)
    → changed (lived ring (cs ++ between)).past ≤ changed (lived ring cs).past + greatest
    → a ≡ b
one_name ring l cs between a b most more reply room first then e short =
    let w = lived ring cs in
    let v = lived ring (cs ++ between) in
    let here = lived-recalls ring l cs in
    let there = lived-recalls ring l (cs ++ between) in
    fetched-name w here a most reply first
    ∙ sym (same-last between w v (live-joined cs between (born ring)) (sym there.count ∙ e ∙ here.count) short)
    ∙ sym (fetched-name v there b more room then)

-- the limit: after 4,294,967,296 changes the number is what it was
pub id-returns : (ring : List ℕ) → Ringed ring → (cs between : List Call)
    → changed (lived ring (cs ++ between)).past ≡ changed (lived ring cs).past + suc greatest
    → destination_of (lived ring (cs ++ between)) ≡ destination_of (lived ring cs)
id-returns ring l cs between e =
    id-counts ring l (cs ++ between) ∙ ap (λ (n : ℕ). n % suc greatest) e ∙ add-mod_right (changed (lived ring cs).past) (suc greatest)
    ∙ sym (id-counts ring l cs)

-- names are equal exactly when job and Append agree and, with Append 1, SideNumber: so a drain step compares no name
pub name-parts : (r x : Record) → r.job.held < 10000000000 → x.job.held < 10000000000 → r.side.number < 1000 → x.side.number < 1000
    → (name r ≡ name x)
    ↔ ((r.job.held ≡ x.job.held) × (on r.settings.append ≡ on x.settings.append)
    × (on r.settings.append ≡ true → r.side.number ≡ x.side.number))
name-parts = naming.name-parts

-- ---- 9. Settled: any two outcomes that a contract `result ≡ definition` allows are equal
pub settled : {A : Type 0} {x y d : A} → x ≡ d → y ≡ d → x ≡ y
settled p q = p ∙ sym q

-- so over lists: a box that is right at every call gives, over any list, what the rules give
pub settled-list : (box : State → Call → Outcome) → ((s : State) (c : Call) → box s c ≡ step s c) → (cs : List Call) (s : State)
    → run_by box s cs ≡ run s cs
unfolding run_by
settled-list box right [] s = refl
settled-list box right (c ∷ cs) s =
    ap₂ (λ (o : Outcome) (rest : Ran). record { outcomes = o ∷ rest.outcomes; end = rest.end }) (right s c)
    (ap (λ (o : Outcome). run_by box o.state cs) (right s c) ∙ settled-list box right cs (step s c).state)

-- ---- 10. The paper's cases. Each holds its own proof, so every list of them is right: those of the calls as one table, those of
-- soundness (Judged), of the watcher (Watched) and of the promises' words (Worded)
pub cases-hold : {A : Type 0} (cs : List (Case A)) → All Right cs
cases-hold cs = agrees.all_right cs

pub table-holds : All Right table
table-holds = agrees.table-holds

-- ---- 0 is never given
pub never-zero : (r : Record) → next_job r ≢ 0
never-zero r = choice (λ (j : ℕ). j ≢ 0) (eqb r.job.last greatest) (λ _. omega arith) (λ _. omega arith)

-- ---- SideCount's test is −1 to 999 of its 32 bits in two's complement
few-or-endless : (c : ℕ) → counted c ≡ true → Sides (signed c)
few-or-endless c h = go (leb c most_sides) refl h
  where
    go : (t : Bool) → leb c most_sides ≡ t → (t || eqb c endless) ≡ true → Sides (signed c)
    go true l h =
        let k = leb-true c most_sides l in
        choice Sides (ltb c negatives) (λ _. k) (λ e. absurd (too_large (ltb-false c negatives e) k))
      where
        too_large : {c : ℕ} → negatives ≤ c → c ≤ most_sides → ⊥
        too_large a b = omega arith
    go false l h =
        let k = eqb-true c endless h in
        choice Sides (ltb c negatives) (λ e. absurd (too_small (ltb-true c negatives e) k)) (λ _. omega (arith, k))
      where
        too_small : {c : ℕ} → c < negatives → c ≡ endless → ⊥
        too_small a b = omega arith

sides-counted : (c : ℕ) → c ≤ greatest → (t : Bool) → Sides (cond t (pos c) (negsuc (greatest - c))) → counted c ≡ true
sides-counted c l true h = rw (le-leb c most_sides h)
sides-counted c l false h = rw (eq-eqb c endless (omega (arith, h, l))) (or-true (leb c most_sides))

pub sides-read : (c : ℕ) → c ≤ greatest → (counted c ≡ true) ↔ Sides (signed c)
sides-read c l = (few-or-endless c, sides-counted c l (ltb c negatives))
