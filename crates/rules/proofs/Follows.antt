-- DestinationID follows the name: what each deed makes of the last name and of DestinationID, and that over lists.
use Prim.Native.Nat.{ℕ, suc, ◌+◌, ◌%◌, ◌≤◌}
use mathlib.Core.Path.{◌≡◌, refl, sym, ◌∙◌, ap, subst}
use mathlib.Core.Bool.{Bool, true, false, not, ◌&&◌, ◌||◌, cond, true≢false, false≢true}
use mathlib.Core.List.{List, [], ◌∷◌}
use lib.Dec.{eqb}
use lib.ListN.{length}
use native.Mathlib.Omega.{arith}
use native.Mathlib.Nat.{mod-lt, mod-eq_of_lt, mod-add-mod, div-add-mod'}
use borrow.Author.Tests.{eqb-true, eqb-false, eq-eqb, not-false}
use Rattle.rules.specs.declared.Feeder.{Feeder}
use Rattle.rules.specs.declared.Named.{Named}
use Rattle.rules.specs.declared.Record.{Record}
use Rattle.rules.specs.Record.{greatest, idle, fresh}
use Rattle.rules.specs.Name.{name, same, name_room, spelt, present, alike}
use Rattle.rules.specs.Moves.{with_feeder, risen, announced, settled, given, readied, begun, released, drained, least, moved, filled, finished}
use Rattle.rules.specs.Calls.{GetDestination, Fetch, Call, scan, State, destination, Outcome, answer}
use Rattle.rules.specs.Machine.{refusals, scan_refusals, scan_effect, report_effect, effect, step}
use Rattle.rules.specs.Watch.{scan_of, was_accepted, Event, last_name, changes, changed, World, after, live}
use Rattle.rules.specs.Promises.{destination_of, FollowsName}
use Rattle.rules.proofs.Choice.{choice, or_l, or_r, and_l}
use Rattle.rules.proofs.Naming.{same-eq, same-is, alike_self, Called, Spelling, spelt-settles, alike_same, name-spelling}
use Rattle.rules.proofs.Cases.{started-cases, stopped-cases, drained-cases, fetched-cases, side_ended-cases, ticked-cases}
use Rattle.rules.proofs.Keeps.{scans-held}
use Rattle.rules.proofs.Answers.{Good, plain}
use Rattle.rules.proofs.Deeds.{Deed, aside, opens, starts, stops, aborts, fetches, fills, side_ends, jams, second, deed, step-sound}

-- ---- a step: in Idle both stay; while a job is held DestinationID goes by its name and the last one
record Goes (l : Named) (d : ℕ) (x : Record) : Type 0 where
  rests : idle x.scanner.state ≡ true → (x.names.last ≡ l) × (x.side.destination ≡ d)
  goes : idle x.scanner.state ≡ false → x.side.destination ≡ cond (alike l (present x)) d (risen d)

abbrev From : Record → Record → Type 0
From r x = Goes r.names.last r.side.destination x

-- a job ends, or is not there
rested : {l : Named} {d : ℕ} {x : Record} → idle x.scanner.state ≡ true → x.names.last ≡ l → x.side.destination ≡ d → Goes l d x
rested i l d = record { rests = λ _. (l, d); goes = λ f. absurd (true≢false (sym i ∙ f)) }

-- a name is announced
announces : {l : Named} {d : ℕ} {x : Record} → idle x.scanner.state ≡ false → x.side.destination ≡ cond (alike l (present x)) d (risen d)
    → Goes l d x
announces i e = record { rests = λ t. absurd (true≢false (sym t ∙ i)); goes = λ _. e }

-- the job goes on under its name
kept : (r : Record) → Called r → r.side.destination ≡ cond (alike r.names.last (present r)) r.side.destination (risen r.side.destination)
kept r c = rw (alike_self _ _ c) refl

drained-goes : (r : Record) → From r (drained r)
unfolding begun released
drained-goes r =
    drained-cases (From r) r (λ _. rested refl refl refl)
    (λ _ _. announces refl refl) (λ _ _ _. announces refl refl) (λ _ _ _ _. announces refl refl) (λ _ _ _ _. announces refl refl)

aside-goes : (r : Record) (f : Feeder) → (idle r.scanner.state ≡ false → Called r) → From r (with_feeder f r)
aside-goes r f h = record { rests = λ _. (refl, refl); goes = λ i. kept r (h i) }

deed-goes : {s : State} {c : Call} {o : Outcome} → Good s → Deed s c o → From s.box o.state.box
unfolding scan_effect report_effect given readied begun released moved filled finished
deed-goes {s} h (aside n v f reply a) = aside-goes s.box f h.called
deed-goes {s} h (opens {from} {count} {append} {asked} i g) =
    started-cases (From s.box) (announced (given (settled append s.box.settings.append) asked s.box))
    (settled from s.box.settings.feeder) count (λ _. announces refl refl) (λ _. announces refl refl)
deed-goes {s} h (starts {j} {from} {count} i p g) =
    started-cases (From s.box) s.box (settled from s.box.settings.feeder) count
    (λ _. announces refl (kept s.box (h.called i))) (λ _. announces refl (kept s.box (h.called i)))
deed-goes {s} h (stops i e g) =
    stopped-cases (From s.box) s.box (λ _. rested refl refl refl) (λ _. announces i (kept s.box (h.called i)))
deed-goes h (aborts i e g) = rested refl refl refl
deed-goes {s} h (fetches {called} {most} {reply} i g) =
    let k = least s.box.ring.stored most (length reply) in
    let n = length s.bytes in
    fetched-cases (From s.box) s.box k n (λ _. drained-goes (moved k n s.box)) (λ _. announces i (kept s.box (h.called i)))
deed-goes {s} h (fills x n g) =
    let i = scans-held (scan_of s) x in
    announces i (kept s.box (h.called i))
deed-goes {s} h (side_ends x g) =
    side_ended-cases (From s.box) s.box (λ _. drained-goes (finished s.box))
    (λ _. announces refl (kept s.box (h.called (scans-held (scan_of s) x))))
deed-goes {s} h (jams e g) = announces refl (kept s.box (h.called (scans-held (scan_of s) (and_l _ _ e))))
deed-goes {s} h (second g) =
    ticked-cases (From s.box) s.box (λ i. rested i refl refl) (λ _ _. rested refl refl refl)
    (λ i _. announces i (kept s.box (h.called i)))

-- a step keeps the last name within its eighteen bytes
pub kept-short : (s : State) (c : Call) → Good s → s.box.names.last.len ≤ name_room → (step s c).state.box.names.last.len ≤ name_room
unfolding spelt
kept-short s c h l = go (idle (scan_of (step s c).state)) refl
  where
    go : (i : Bool) → idle (scan_of (step s c).state) ≡ i → (step s c).state.box.names.last.len ≤ name_room
    go true i = subst (λ (n : Named). n.len ≤ name_room) (sym ((deed-goes h (deed s h c)).rests i).0) l
    go false i = subst (λ (n : Named). n.len ≤ name_room) (sym ((step-sound s c h).called i)) (name-spelling (step s c).state.box).short

-- ---- over lists: the last name is the watcher's, and DestinationID is how many changes it saw, in 32 bits
last-spelling : (es : List Event) → Spelling (last_name es)
last-spelling [] = record { short = omega arith; bytes = tt }
last-spelling (e ∷ es) =
    choice Spelling (idle (scan_of e.outcome.state)) (λ _. last-spelling es) (λ _. name-spelling e.outcome.state.box)

pub record Recalls (w : World) : Type 0 where
  pub good : Good w.now
  pub last : w.now.box.names.last ≡ spelt (last_name w.past)
  pub count : destination_of w ≡ changed w.past % suc greatest

pub born-last : fresh.names.last ≡ spelt []
unfolding spelt
born-last = refl

risen-mod : (d : ℕ) → d ≤ greatest → risen d ≡ (d + 1) % suc greatest
risen-mod d l =
    choice (λ (x : ℕ). x ≡ (d + 1) % suc greatest) (eqb d greatest) (λ e. rw (eqb-true d greatest e) refl)
    (λ e. sym (mod-eq_of_lt (omega (arith, l, eqb-false d greatest e))))

-- one change more
count-on : (n : ℕ) → (n % suc greatest + 1) % suc greatest ≡ suc n % suc greatest
count-on n = mod-add-mod n (suc greatest) 1 ∙ ap (λ (k : ℕ). k % suc greatest) (omega arith)

module _ (w : World) (h : Recalls w) (c : Call) where
  below : destination_of w ≤ greatest
  below = omega (arith, h.count, mod-lt (changed w.past) {m = suc greatest} (omega arith))

  abbrev o : Outcome
  o = step w.now c

  moves : From w.now.box o.state.box
  moves = deed-goes h.good (deed w.now h.good c)

  -- the test that the box makes is the watcher's
  test : alike w.now.box.names.last (present o.state.box) ≡ same (name o.state.box) (last_name w.past)
  test =
      ap (λ (l : Named). alike l (present o.state.box)) h.last
      ∙ alike_same (last_name w.past) (name o.state.box) (last-spelling w.past) (name-spelling o.state.box)

  one-step : (i t : Bool) → idle (scan_of o.state) ≡ i → same (name o.state.box) (last_name w.past) ≡ t
      → o.state.box.side.destination ≡ cond (not i && not t) ((destination_of w + 1) % suc greatest) (destination_of w)
  one-step true t i e = (moves.rests i).1
  one-step false true i e = moves.goes i ∙ rw (test, e) refl
  one-step false false i e = moves.goes i ∙ rw (test, e) (risen-mod (destination_of w) below)

  pub a-step : destination_of (after w c) ≡ cond (changes w.past o) ((destination_of w + 1) % suc greatest) (destination_of w)
  unfolding after
  a-step = one-step (idle (scan_of o.state)) (same (name o.state.box) (last_name w.past)) refl refl

  pub follows : FollowsName w c
  follows = record { rises = λ e. a-step ∙ rw e refl; stays = λ e. a-step ∙ rw e refl }

  next_last : (i : Bool) → idle (scan_of o.state) ≡ i → o.state.box.names.last ≡ spelt (cond i (last_name w.past) (name o.state.box))
  next_last true i = (moves.rests i).0 ∙ h.last
  next_last false i = (step-sound w.now c h.good).called i

  next : Recalls (after w c)
  unfolding after
  next =
      record {
        good = step-sound w.now c h.good;
        last = next_last (idle (scan_of o.state)) refl;
        count = choice-count (changes w.past o) refl;
      }
    where
      choice-count : (t : Bool) → changes w.past o ≡ t
          → o.state.box.side.destination ≡ cond t (suc (changed w.past)) (changed w.past) % suc greatest
      choice-count true e = a-step ∙ rw (e, h.count) (count-on (changed w.past))
      choice-count false e = a-step ∙ rw e h.count

pub live-recalls : (cs : List Call) (w : World) → Recalls w → Recalls (live w cs)
unfolding live
live-recalls [] w h = h
live-recalls (c ∷ cs) w h = live-recalls cs (after w c) (next w h c)

-- ---- while the last name stays, so does DestinationID
unchanged : (i : Bool) (n l : List ℕ) → cond i l n ≡ l → (not i && not (same n l)) ≡ false
unchanged true n l e = refl
unchanged false n l e = rw ((same-is n l).1 e) refl

pub name-stays : (w : World) → Recalls w → (c : Call) → last_name (after w c).past ≡ last_name w.past → destination_of (after w c) ≡ destination_of w
unfolding after
name-stays w h c e = (follows w h c).stays (unchanged (idle (scan_of (step w.now c).state)) (name (step w.now c).state.box) (last_name w.past) e)

-- ---- a stretch of calls
-- changes only grow
grows : (cs : List Call) (w : World) → changed w.past ≤ changed (live w cs).past
unfolding live after
grows [] w = omega arith
grows (c ∷ cs) w = omega (arith, grows cs (after w c), more (changes w.past (step w.now c)))
  where
    more : (t : Bool) → changed w.past ≤ cond t (suc (changed w.past)) (changed w.past)
    more true = omega arith
    more false = omega arith

-- with no change the last name stays
no_change : (cs : List Call) (w : World) → changed (live w cs).past ≡ changed w.past → last_name (live w cs).past ≡ last_name w.past
unfolding live after
no_change [] w e = refl
no_change (c ∷ cs) w e = go (changes w.past (step w.now c)) refl (no_change cs (after w c))
  where
    held : (i : Bool) (n l : List ℕ) → (not i && not (same n l)) ≡ false → cond i l n ≡ l
    held true n l f = refl
    held false n l f = same-eq n l (not-false (same n l) f)

    go : (t : Bool) → changes w.past (step w.now c) ≡ t
        → (changed (live (after w c) cs).past ≡ changed (after w c).past → last_name (live (after w c) cs).past ≡ last_name (after w c).past)
        → last_name (live (after w c) cs).past ≡ last_name w.past
    go true f on = absurd (omega (arith, e, grows cs (after w c), ap (λ (b : Bool). cond b (suc (changed w.past)) (changed w.past)) f))
    go false f on =
        on (e ∙ sym (ap (λ (b : Bool). cond b (suc (changed w.past)) (changed w.past)) f))
        ∙ held (idle (scan_of (step w.now c).state)) (name (step w.now c).state.box) (last_name w.past) f

-- two counts with fewer than 4,294,967,296 between them that are the same in 32 bits are the same
same_count : (a b : ℕ) → a ≤ b → b ≤ a + greatest → b % suc greatest ≡ a % suc greatest → b ≡ a
same_count a b l m e =
    omega (arith, l, m, e, div-add-mod' a (suc greatest), div-add-mod' b (suc greatest))

-- so over a stretch in which DestinationID did not go all the way round, the same number means the same name
pub same-last : (cs : List Call) (w v : World) → live w cs ≡ v → changed v.past % suc greatest ≡ changed w.past % suc greatest
    → changed v.past ≤ changed w.past + greatest → last_name v.past ≡ last_name w.past
same-last cs w v j e l =
    ap (λ (x : World). last_name x.past) (sym j)
    ∙ no_change cs w
    (ap (λ (x : World). changed x.past) j
    ∙ same_count (changed w.past) (changed v.past) (subst (λ (x : World). changed w.past ≤ changed x.past) j (grows cs w)) l e)

-- ---- what the calls tell: while a job is held the last name is its name
module _ (w : World) (h : Recalls w) where
  pub held-name : idle (scan_of w.now) ≡ false → last_name w.past ≡ name w.now.box
  held-name i =
      spelt-settles (last_name w.past) (name w.now.box) (last-spelling w.past) (name-spelling w.now.box)
      (sym h.last ∙ h.good.called i)

  -- an accepted fetch bears it
  pub fetched-name : (called : List ℕ) (most : ℕ) (reply : List ℕ) → was_accepted (step w.now (scan (Fetch called most reply))) ≡ true
      → called ≡ last_name w.past
  unfolding refusals scan_refusals answer
  fetched-name called most reply ok =
      let r = w.now.box in
      let passes = go (idle (scan_of w.now) || not (same called (name r))) refl in
      same-eq called (name r) (not-false _ (or_r (idle (scan_of w.now)) _ passes)) ∙ sym (held-name (or_l _ _ passes))
    where
      number : (idle (scan_of w.now) || not (same called (name w.now.box))) ≡ true → (step w.now (scan (Fetch called most reply))).number ≡ 404
      number e = ap (λ (o : Outcome). o.number) (plain w.now (scan (Fetch called most reply)) h.good) ∙ rw e refl

      go : (t : Bool) → (idle (scan_of w.now) || not (same called (name w.now.box))) ≡ t
          → (idle (scan_of w.now) || not (same called (name w.now.box))) ≡ false
      go true e = absurd (false≢true (sym (ap (λ (n : ℕ). eqb n 0) (number e)) ∙ ok))
      go false e = e

  -- and GetDestination tells it, with DestinationID
  pub told-name : idle (scan_of w.now) ≡ false
      → (step w.now (scan (GetDestination w.now.box.job.held))).values ≡ destination (last_name w.past) (destination_of w)
  unfolding refusals scan_refusals answer effect scan_effect
  told-name i =
      let j = w.now.box.job.held in
      ap (λ (o : Outcome). o.values) (plain w.now (scan (GetDestination j)) h.good)
      ∙ rw (i, eq-eqb j j refl) (ap (λ (n : List ℕ). destination n (destination_of w)) (sym (held-name i)))
