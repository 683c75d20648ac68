-- What a call does to a sound box, in ten kinds. Soundness, time, pictures and ends each go by these and not by the calls.
use Prim.Native.Nat.{ℕ, ◌+◌, ◌-◌, ◌≤◌}
use mathlib.Core.Path.{◌≡◌, refl, sym, subst}
use mathlib.Core.Bool.{true, false, ◌&&◌, ◌||◌, and-false}
use mathlib.Core.List.{List, []}
use mathlib.Core.Option.{none}
use lib.Dec.{eqb, leb}
use lib.ListN.{length}
use native.Mathlib.Omega.{arith}
use borrow.Author.Tests.{ltb-false, eqb-true, leb-true, not-false}
use Rattle.rules.specs.declared.Feed.{Feed}
use Rattle.rules.specs.declared.Feeder.{Feeder}
use Rattle.rules.specs.declared.Input.{Input}
use Rattle.rules.specs.declared.Record.{Record}
use Rattle.rules.specs.Record.{counted, endless, idle, pending, scanning, erred, busy, stuck, on, granting}
use Rattle.rules.specs.Feeder.{stands, path_at, tray_at, fed, driven, ejecting}
use Rattle.rules.specs.Moves.{with_feeder, fed_by, announced, settled, given, least, filled, feeds, caught}
use Rattle.rules.specs.Calls.{ScanCall, StartScan, Start, Stop, Abort, GetDestination, Fetch, GetState, GetSideInformation, FeederCall, Load, Eject}
use Rattle.rules.specs.Calls.{Reset, SetFeederMode, GetFeederState, GetFeederMode, Report, Bytes, SideEnded, Tray, Path, Tick, Call, scan, feeder}
use Rattle.rules.specs.Calls.{report, Reason, n713, number_of, State, Values, nothing, Outcome, lent, to, refused, answer}
use Rattle.rules.specs.Machine.{listed, sides_listed, scan_refusals, feeder_refusals, report_refusals, refusals, accepted, scan_effect, feeder_effect}
use Rattle.rules.specs.Machine.{report_effect, effect, step}
use Rattle.rules.specs.Watch.{scan_of, was_accepted, count_in, bytes_in, time_in, sign, ticks, brought, scan_asks, asks}
use Rattle.rules.proofs.Choice.{or_l, or_r, and_l, and_r}
use Rattle.rules.proofs.Sound.{FeederFit, Sound, idle-none}
use Rattle.rules.proofs.Feeding.{AsBusy, load-busy, eject-busy, reset-busy, driven-fit}
use Rattle.rules.proofs.Cases.{pathed-cases}
use Rattle.rules.proofs.Keeps.{free-path, refit, refeed, ended-sound, ticked-sound, fetched-sound, filled-sound, side_ended-sound}
use Rattle.rules.proofs.Keeps.{free-unless, caught-sound, resting, stopped-sound, settled-fit, started-sound, given-rests, given-common}
use Rattle.rules.proofs.RingLaws.{length-put}
use Rattle.rules.proofs.Answers.{nonzero, Clear, by-step, Good, plain, scans-on, refusal-silent}

-- an outcome that leaves all but the feeder as it was
abbrev beside : ℕ → Values → Feeder → List ℕ → State → Outcome
beside n v f reply s = record { number = n; values = v; state = to (with_feeder f s.box) s; reply = reply }

-- nothing granted, nothing fetched
pub record Mute (v : Values) : Type 0 where
  pub untimed : time_in v ≡ none
  pub uncounted : count_in v ≡ 0
  pub unpictured : bytes_in v ≡ []

-- the feeder Busy or not as before, and fit; no sign of life, no Tick, nothing put in, no stop asked
pub record Aside (s : State) (c : Call) (f : Feeder) (o : Outcome) : Type 0 where
  pub free : busy f.state ≡ busy s.box.feeder.state
  pub fit : FeederFit f
  pub silent : sign c (scan_of s) o ≡ false
  pub still : ticks c ≡ false
  pub mute : Mute o.values
  pub dry : brought c o ≡ []
  pub unasked : asks c o ≡ false

pub data Deed (s : State) : Call → Outcome → Type 0 where
  aside : {c : Call} (n : ℕ) (v : Values) (f : Feeder) (reply : List ℕ) → Aside s c f (beside n v f reply s)
      → Deed s c (beside n v f reply s)
  opens : {from count append asked : ℕ} → idle (scan_of s) ≡ true → Good (scan_effect (StartScan from count append asked) s).state
      → Deed s (scan (StartScan from count append asked)) (scan_effect (StartScan from count append asked) s)
  starts : {j from count : ℕ} → idle (scan_of s) ≡ false → (pending (scan_of s) || erred (scan_of s)) ≡ true
      → Good (scan_effect (Start j from count) s).state → Deed s (scan (Start j from count)) (scan_effect (Start j from count) s)
  stops : {j : ℕ} → idle (scan_of s) ≡ false → j ≡ s.box.job.held → Good (scan_effect (Stop j) s).state
      → Deed s (scan (Stop j)) (scan_effect (Stop j) s)
  aborts : {j : ℕ} → idle (scan_of s) ≡ false → j ≡ s.box.job.held → Good (scan_effect (Abort j) s).state
      → Deed s (scan (Abort j)) (scan_effect (Abort j) s)
  fetches : {called : List ℕ} {most : ℕ} {reply : List ℕ} → idle (scan_of s) ≡ false → Good (scan_effect (Fetch called most reply) s).state
      → Deed s (scan (Fetch called most reply)) (scan_effect (Fetch called most reply) s)
  fills : {bs : List ℕ} → scanning (scan_of s) ≡ true → s.box.ring.stored + length bs ≤ length s.bytes
      → Good (report_effect (Bytes bs) s).state → Deed s (report (Bytes bs)) (report_effect (Bytes bs) s)
  side_ends : scanning (scan_of s) ≡ true → Good (report_effect SideEnded s).state → Deed s (report SideEnded) (report_effect SideEnded s)
  jams : {v : ℕ} → feeds s.box ≡ true
      → Good (to (caught s.box) s)
      → Deed s (report (Path v))
      (accepted nothing (caught s.box) s)
  second : Good (report_effect Tick s).state → Deed s (report Tick) (report_effect Tick s)

asks_none : (c : Call) (o : Outcome) → was_accepted o ≡ false → asks c o ≡ false
asks_none (scan c) o e = rw e (and-false (scan_asks c))
asks_none (feeder c) o e = refl
asks_none (report c) o e = refl

nothing-mute : Mute nothing
nothing-mute = record { untimed = refl; uncounted = refl; unpictured = refl }

module _ (s : State) (h : Good s) where
  -- ---- a refused call that leaves the feeder so, if it is no Tick
  kept : (c : Call) → ticks c ≡ false → (n : Reason) (f : Feeder) → busy f.state ≡ busy s.box.feeder.state → FeederFit f
      → Deed s c (refused n (with_feeder f s.box) s c)
  kept c t n f b i =
      aside {c = c} (number_of n) nothing f (lent c)
      (record { free = b; fit = i; silent = refusal-silent s f n c; still = t; mute = nothing-mute; dry = rw (nonzero n); unasked = asks_none c _ (nonzero n) })

  unloading : stuck s.box.feeder.state ≡ false → FeederFit (stands Feed.Unloaded s.box.feeder)
  unloading e =
      let f = s.box.feeder in
      let i = h.common.feeder in
      refit Feed.Unloaded f.failure f (free-path f e i) i

  -- so what is left is what an accepted call does
  by-deed : (c : Call) → ticks c ≡ false → (Clear (refusals c s) → Deed s c (effect c s)) → Deed s c (step s c)
  by-deed c t ok =
      by-step (Deed s c) s c (λ n. kept c t n s.box.feeder refl h.common.feeder)
      (λ j _ b e. kept c t n713 (stands Feed.Unloaded s.box.feeder) (sym b) (unloading e)) ok

  -- ---- an accepted call that changes the feeder alone, or nothing
  besides : (c : Call) (v : Values) (f : Feeder) → busy f.state ≡ busy s.box.feeder.state → FeederFit f
      → sign c (scan_of s) (accepted v (with_feeder f s.box) s) ≡ false → ticks c ≡ false → Mute v
      → brought c (accepted v (with_feeder f s.box) s) ≡ [] → asks c (accepted v (with_feeder f s.box) s) ≡ false
      → Deed s c (accepted v (with_feeder f s.box) s)
  besides c v f b i q t m d a =
      aside {c = c} 0 v f [] (record { free = b; fit = i; silent = q; still = t; mute = m; dry = d; unasked = a })

  -- one that only reads
  reads : (c : Call) (v : Values) → sign c (scan_of s) (accepted v s.box s) ≡ false → ticks c ≡ false → Mute v
      → brought c (accepted v s.box s) ≡ [] → asks c (accepted v s.box s) ≡ false → Deed s c (accepted v s.box s)
  reads c v = besides c v s.box.feeder refl h.common.feeder

  -- ---- scan calls
  begins-well : (from count : ℕ) → sides_listed from count s.box ≡ true
      → (settled from s.box.settings.feeder ≤ 1) × (counted count ≡ true)
      × ((on (settled from s.box.settings.feeder) || leb count 1 || eqb count endless) ≡ true)
  begins-well from count e =
      let l = and_l (listed from && counted count) _ e in
      (settled-fit from _ (and_l (listed from) _ l) h.common.settings.feeder, and_r (listed from) _ l, and_r (listed from && counted count) _ e)

  scan-done : (c : ScanCall) → Clear (scan_refusals c s.box) → Deed s (scan c) (scan_effect c s)
  unfolding scan_refusals scan_effect given
  scan-done (StartScan from count append asked) k =
      let r = s.box in
      let values = not-false _ k.0 in
      let w = begins-well from count (and_r (listed append) _ values) in
      let i = not-false _ k.1.0 in
      let m = settled-fit append r.settings.append (and_l (listed append) _ values) h.common.settings.append in
      let a = settled append r.settings.append in
      let n = length s.bytes in
      opens i
      (started-sound (settled from r.settings.feeder) count (announced (given a asked r)) n
      (granting asked).seconds (given-common a asked r n m h.common) (given-rests a asked r (idle-none (scan_of s) r i h.phase))
      w.0 w.1 w.2 k.1.1.0 refl)
  scan-done (Start j from count) k =
      let r = s.box in
      let w = begins-well from count (not-false _ k.0) in
      let q = resting (scan_of s) r (not-false _ k.1.1.0) h.phase in
      starts (or_l _ _ k.1.0) (not-false _ k.1.1.0)
      (started-sound (settled from r.settings.feeder) count r (length s.bytes) q.0 h.common q.1 w.0 w.1 w.2 k.1.1.1.0
      (h.called (or_l _ _ k.1.0)))
  scan-done (Stop j) k =
      let i = or_l _ _ k.0 in
      stops i (eqb-true _ _ (not-false _ (or_r (idle (scan_of s)) _ k.0))) (stopped-sound s.box (length s.bytes) i h)
  scan-done (Abort j) k =
      aborts (or_l _ _ k.0) (eqb-true _ _ (not-false _ (or_r (idle (scan_of s)) _ k.0))) (ended-sound s.box (length s.bytes) h.common)
  scan-done (GetDestination j) k = reads (scan (GetDestination j)) _ refl refl (record { untimed = refl; uncounted = refl; unpictured = refl }) refl refl
  scan-done (Fetch called most reply) k =
      let i = or_l _ _ k.0 in
      fetches i (fetched-sound (least s.box.ring.stored most (length reply)) s.box (length s.bytes) i (omega arith) h)
  scan-done GetState k = reads (scan GetState) _ refl refl (record { untimed = refl; uncounted = refl; unpictured = refl }) refl refl
  scan-done GetSideInformation k = reads (scan GetSideInformation) _ refl refl (record { untimed = refl; uncounted = refl; unpictured = refl }) refl refl

  -- ---- feeder calls
  drives : (c : FeederCall) (i : Input) → AsBusy i → Deed s (feeder c) (accepted nothing (fed_by i s.box) s)
  drives c i b =
      let f = s.box.feeder in
      besides (feeder c) nothing (driven i f) (b 0 f.state f.tray f.path) (driven-fit i f h.common.feeder) refl refl nothing-mute refl refl

  feeder-done : (c : FeederCall) → Clear (feeder_refusals c s.box) → Deed s (feeder c) (feeder_effect c s)
  unfolding feeder_refusals feeder_effect
  feeder-done (Load j) k = drives (Load j) Input.Load load-busy
  feeder-done (Eject j v) k = drives (Eject j v) (ejecting v) (eject-busy v)
  feeder-done (Reset j) k = drives (Reset j) Input.Reset reset-busy
  feeder-done (SetFeederMode j m) k = reads (feeder (SetFeederMode j m)) nothing refl refl nothing-mute refl refl
  feeder-done GetFeederState k = reads (feeder GetFeederState) _ refl refl (record { untimed = refl; uncounted = refl; unpictured = refl }) refl refl
  feeder-done GetFeederMode k = reads (feeder GetFeederMode) _ refl refl (record { untimed = refl; uncounted = refl; unpictured = refl }) refl refl

  -- ---- reports
  report-done : (c : Report) → Clear (report_refusals c s.box (length s.bytes)) → Deed s (report c) (report_effect c s)
  unfolding report_refusals report_effect fed
  report-done (Bytes bs) k =
      let n = length s.bytes in
      let r = s.box in
      let x = not-false _ k.0 in
      let l : r.ring.stored + length bs ≤ n = omega (arith, ltb-false (n - r.ring.stored) (length bs) k.1.0, h.common.ring.stored) in
      fills x l (subst (Sound (filled (length bs) r)) (sym (length-put bs s.bytes _)) (filled-sound (length bs) r n x l h))
  report-done SideEnded k =
      let x = not-false _ k.0 in
      side_ends x (side_ended-sound s.box (length s.bytes) x h)
  report-done (Tray v) k =
      let i = h.common.feeder in
      besides (report (Tray v)) nothing (tray_at v s.box.feeder) refl
      (record { tray = leb-true v 1 (not-false _ k.0); path = i.path; jam = i.jam }) refl refl nothing-mute refl refl
  report-done (Path v) k =
      let c = report (Path v) in
      let f = s.box.feeder in
      let i = h.common.feeder in
      let q = scans-on (scan_of s) in
      pathed-cases (λ (x : Record). Deed s c (accepted nothing x s)) s.box v
      (λ e. jams e (caught-sound s.box (length s.bytes) e h))
      (λ e. besides c nothing (driven Input.Jam f) (sym (free-unless (scan_of s) s.box e h.phase))
      (driven-fit Input.Jam f i) q refl nothing-mute refl refl)
      (besides c nothing (path_at 0 f) refl (record { tray = i.tray; path = omega arith; jam = refl }) q refl nothing-mute refl refl)
  report-done Tick k = second (ticked-sound s.box (length s.bytes) h)

  pub tick_is : step s (report Tick) ≡ effect (report Tick) s
  unfolding refusals report_refusals answer
  tick_is = plain s (report Tick) h

  report-deed : (c : Report) → Deed s (report c) (step s (report c))
  unfolding refusals report_refusals effect
  report-deed (Bytes bs) = by-deed (report (Bytes bs)) refl (report-done (Bytes bs))
  report-deed SideEnded = by-deed (report SideEnded) refl (report-done SideEnded)
  report-deed (Tray v) = by-deed (report (Tray v)) refl (report-done (Tray v))
  report-deed (Path v) = by-deed (report (Path v)) refl (report-done (Path v))
  report-deed Tick = rw tick_is (report-done Tick tt)

  pub deed : (c : Call) → Deed s c (step s c)
  unfolding refusals effect
  deed (scan c) = by-deed (scan c) refl (scan-done c)
  deed (feeder c) = by-deed (feeder c) refl (feeder-done c)
  deed (report c) = report-deed c

-- every step keeps the box sound
pub deed-sound : {s : State} {c : Call} {o : Outcome} → Good s → Deed s c o → Good o.state
deed-sound {s} h (aside n v f reply a) = refeed s.box (length s.bytes) f a.free a.fit h
deed-sound h (opens i g) = g
deed-sound h (starts i e g) = g
deed-sound h (stops i e g) = g
deed-sound h (aborts i e g) = g
deed-sound h (fetches i g) = g
deed-sound h (fills x l g) = g
deed-sound h (side_ends x g) = g
deed-sound h (jams e g) = g
deed-sound h (second g) = g

pub step-sound : (s : State) (c : Call) → Good s → Good (step s c).state
step-sound s c h = deed-sound h (deed s h c)
