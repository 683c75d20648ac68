-- Who holds the box: a call that finds a job held and leaves one held leaves the same one.
use Prim.Native.Nat.{ℕ}
use mathlib.Core.Path.{◌≡◌, refl, sym, ◌∙◌, ap}
use mathlib.Core.Logic.{◌≢◌}
use mathlib.Core.Bool.{Bool, true, false, cond, false≢true}
use mathlib.Core.Option.{Option, none, some}
use Rattle.rules.specs.declared.Scan.{Scan}
use Rattle.rules.specs.declared.Record.{Record}
use Rattle.rules.specs.Record.{idle, scanning, on}
use Rattle.rules.specs.Moves as moves
use Rattle.rules.specs.Calls.{Call, State, Outcome}
use Rattle.rules.specs.Machine.{scan_effect, report_effect, step}
use Rattle.rules.specs.Watch.{scan_of, time_in, sign, plus_one, ordinal, World, after, holder}
use Rattle.rules.specs.Promises.{Ends}
use Rattle.rules.proofs.Choice.{clash, and_l, opened}
use Rattle.rules.proofs.Cases.{ticked-cases}
use Rattle.rules.proofs.Answers.{Good}
use Rattle.rules.proofs.Deeds.{Deed, aside, opens, starts, stops, aborts, fetches, fills, side_ends, jams, second, deed}

pub is-idle : (x : Scan) → idle x ≡ true → x ≡ Scan.Idle
is-idle Scan.Idle e = refl
is-idle Scan.Pending e = absurd (false≢true e)
is-idle Scan.Scanning e = absurd (false≢true e)
is-idle Scan.Finishing e = absurd (false≢true e)
is-idle Scan.Erred e = absurd (false≢true e)

pub scans : (x : Scan) → scanning x ≡ true → idle x ≡ false
scans Scan.Idle e = absurd (false≢true e)
scans Scan.Pending e = refl
scans Scan.Scanning e = refl
scans Scan.Finishing e = refl
scans Scan.Erred e = refl

tick-idle : (r : Record) → idle (moves.ticked r).scanner.state ≡ false → idle r.scanner.state ≡ false
tick-idle r =
    ticked-cases (λ (x : Record). idle x.scanner.state ≡ false → idle r.scanner.state ≡ false) r (λ _ e. e) (λ x _ _. x) (λ x _ _. x)

-- from Idle only an accepted StartScan, a sign of life that grants a time, leads on; while a job is held none is granted
pub deed-wakes : {s : State} {c : Call} {o : Outcome} → Deed s c o → idle (scan_of s) ≡ true → idle (scan_of o.state) ≡ false
    → (sign c (scan_of s) o ≡ true) × (opened (time_in o.values) ≡ true)
unfolding scan_effect report_effect
deed-wakes (aside n v f reply a) i e = clash i e
deed-wakes (opens x g) i e = (refl, refl)
deed-wakes (starts x p g) i e = clash i x
deed-wakes (stops x f g) i e = clash i x
deed-wakes (aborts x f g) i e = clash i x
deed-wakes (fetches x g) i e = clash i x
deed-wakes {s} (fills x l g) i e = clash i (scans (scan_of s) x)
deed-wakes {s} (side_ends x g) i e = clash i (scans (scan_of s) x)
deed-wakes {s} (jams x g) i e = clash i (scans (scan_of s) (and_l (scanning (scan_of s)) (on s.box.settings.feeder) x))
deed-wakes {s} (second g) i e = clash i (tick-idle s.box e)

pub deed-untimed : {s : State} {c : Call} {o : Outcome} → Deed s c o → idle (scan_of s) ≡ false → time_in o.values ≡ none
unfolding scan_effect report_effect
deed-untimed (aside n v f reply a) i = a.mute.untimed
deed-untimed (opens x g) i = clash x i
deed-untimed (starts x p g) i = refl
deed-untimed (stops x f g) i = refl
deed-untimed (aborts x f g) i = refl
deed-untimed (fetches x g) i = refl
deed-untimed (fills x l g) i = refl
deed-untimed (side_ends x g) i = refl
deed-untimed (jams x g) i = refl
deed-untimed (second g) i = refl

-- ---- by the ordinal
none-some : {j : ℕ} → ◌≡◌ {A = Option ℕ} none (some j) → ⊥
none-some e = false≢true (ap opened e)

whose : (t : Bool) {n j : ℕ} → cond t none (some n) ≡ some j → (t ≡ false) × (n ≡ j)
whose true e = absurd (none-some e)
whose false e = (refl, cc)

-- a job held: the box is not Idle, and the job is the last that began
pub holds : (w : World) {j : ℕ} → holder w ≡ some j → (idle (scan_of w.now) ≡ false) × (ordinal w.past ≡ j)
holds w e = whose (idle (scan_of w.now)) e

pub nobody : (w : World) {j : ℕ} → idle (scan_of w.now) ≡ true → holder w ≢ some j
nobody w i e = clash i (holds w e).0

pub same-holder : (w : World) (c : Call) → Good w.now → idle (scan_of w.now) ≡ false → idle (scan_of (step w.now c).state) ≡ false
    → holder (after w c) ≡ holder w
unfolding after
same-holder w c h i e =
    rw (i, e) (ap (λ (t : Option ℕ). some (plus_one t (ordinal w.past))) (deed-untimed (deed w.now h c) i))

-- a job that a call ends leaves the box Idle
pub ends-idle : (j : ℕ) (w : World) (c : Call) → Good w.now → Ends j w c → idle (scan_of (after w c).now) ≡ true
unfolding after
ends-idle j w c h x = go (idle (scan_of (step w.now c).state)) refl
  where
    go : (t : Bool) → idle (scan_of (step w.now c).state) ≡ t → t ≡ true
    go true e = refl
    go false e = absurd (x.over (same-holder w c h (holds w x.held).0 e ∙ x.held))

-- and one that the box is Idle after is over
pub idle-ends : (j : ℕ) (w : World) (c : Call) → holder w ≡ some j → idle (scan_of (after w c).now) ≡ true → Ends j w c
idle-ends j w c x e = record { held = x; over = nobody (after w c) e }
