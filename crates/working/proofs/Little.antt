-- Which parts of the record a call may change; the rest is as it was.
use Prim.Native.Nat.{ℕ, ◌+◌}
use native.Mathlib.Omega.{arith}
use mathlib.Core.Path.{◌≡◌, refl, sym, ap, ◌∙◌}
use mathlib.Core.Bool.{Bool, true, false, cond, true≢false}
use mathlib.Core.List.{List}
use lib.Dec.{leb}
use Rattle.rules.specs.declared.Record.{Record}
use Rattle.rules.specs.Record.{idle}
use Rattle.rules.specs.Moves.{with_feeder, with_ring, quiet_at, ticked, timed_out, released, due, fetched, drained, moved, filled}
use Rattle.rules.specs.Calls.{Call, scan, Fetch, feeder, Load, Eject, Reset, report, Bytes, Tray, Tick}
use Rattle.rules.specs.Calls.{State, Outcome, Values, nothing, time, destination, picture, state, sides, feeding, mode, stored}
use Rattle.rules.specs.Machine.{step, effect, scan_effect, feeder_effect, report_effect}
use Rattle.rules.proofs.Answers.{by-step}

-- the feeder alone; quiet and the ring alone
abbrev pub Fed : Record → Outcome → Type 0
Fed r o = o.state.box ≡ with_feeder o.state.box.feeder r

abbrev pub Heard : Record → Outcome → Type 0
Heard r o = o.state.box ≡ quiet_at o.state.box.job.quiet (with_ring o.state.box.ring r)

-- a refusal changes nothing, or the feeder by Load's 713
fed-step : (s : State) (c : Call) → Fed s.box (effect c s) → Fed s.box (step s c)
fed-step s c e = by-step (Fed s.box) s c (λ n. refl) (λ j q b x. refl) (λ k. e)

module _ (s : State) where
  pub load-fed : (j : ℕ) → Fed s.box (step s (feeder (Load j)))
  unfolding effect feeder_effect
  load-fed j = fed-step s (feeder (Load j)) refl

  pub eject-fed : (j v : ℕ) → Fed s.box (step s (feeder (Eject j v)))
  unfolding effect feeder_effect
  eject-fed j v = fed-step s (feeder (Eject j v)) refl

  pub reset-fed : (j : ℕ) → Fed s.box (step s (feeder (Reset j)))
  unfolding effect feeder_effect
  reset-fed j = fed-step s (feeder (Reset j)) refl

  pub tray-fed : (v : ℕ) → Fed s.box (step s (report (Tray v)))
  unfolding effect report_effect
  tray-fed v = fed-step s (report (Tray v)) refl

pub bytes-heard : (s : State) (bs : List ℕ) → Heard s.box (step s (report (Bytes bs)))
unfolding effect report_effect filled
bytes-heard s bs =
    by-step (Heard s.box) s (report (Bytes bs)) (λ n. refl) (λ j q b x. let z : ◌≡◌ {A = ℕ} 0 1 = cc in absurd (omega arith)) (λ k. refl)

-- ---- a second: nothing in Idle; quiet alone where the job goes on
pub idle-second : (s : State) → idle s.box.scanner.state ≡ true → (step s (report Tick)).state.box ≡ s.box
unfolding effect report_effect ticked
idle-second s e =
    by-step (λ (o : Outcome). o.state.box ≡ s.box) s (report Tick) (λ n. refl)
    (λ j q b x. let z : ◌≡◌ {A = ℕ} 0 1 = cc in absurd (omega arith)) (λ k. rw e refl)

ticks-on : (r : Record) (i t : Bool) (o : Outcome) → o.state.box ≡ cond i r (cond t (timed_out r) (quiet_at (r.job.quiet + 1) r))
    → idle o.state.box.scanner.state ≡ false → Heard r o
unfolding released
ticks-on r true t o e f = rw e refl
ticks-on r false true o e f = absurd (true≢false (sym (ap (λ (x : Record). idle x.scanner.state) e) ∙ f))
ticks-on r false false o e f = rw e refl

pub second-heard : (s : State) → idle (step s (report Tick)).state.box.scanner.state ≡ false → Heard s.box (step s (report Tick))
unfolding effect report_effect ticked
second-heard s =
    by-step (λ (o : Outcome). idle o.state.box.scanner.state ≡ false → Heard s.box o) s (report Tick) (λ n f. refl)
    (λ j q b x. let z : ◌≡◌ {A = ℕ} 0 1 = cc in absurd (omega arith))
    (λ k. ticks-on s.box (idle s.box.scanner.state) (leb (due s.box) (s.box.job.quiet + 1)) (effect (report Tick) s) refl)

-- ---- a fetch: quiet and the ring alone where it is not the last of its side
abbrev pub last_told : Values → Bool
last_told nothing = false
last_told (time seconds) = false
last_told (destination name id) = false
last_told (picture k l bytes) = l
last_told (state x failure) = false
last_told (sides number count long) = false
last_told (feeding f tray failure) = false
last_told (mode m) = false
last_told (stored k) = false

goes_on : (r : Record) (l : Bool) (k n : ℕ) (o : Outcome) → o.state.box ≡ cond l (drained (moved k n r)) (moved k n r) → l ≡ false → Heard r o
unfolding moved
goes_on r true k n o e f = absurd (true≢false f)
goes_on r false k n o e f = rw e refl

pub fetch-heard : (s : State) (called reply : List ℕ) (most : ℕ) → last_told (step s (scan (Fetch called most reply))).values ≡ false
    → Heard s.box (step s (scan (Fetch called most reply)))
unfolding effect scan_effect fetched
fetch-heard s called reply most =
    by-step (λ (o : Outcome). last_told o.values ≡ false → Heard s.box o) s (scan (Fetch called most reply)) (λ n f. refl)
    (λ j q b x. let z : ◌≡◌ {A = ℕ} 0 1 = cc in absurd (omega arith))
    (λ k. goes_on s.box _ _ _ (effect (scan (Fetch called most reply)) s) refl)
