-- Each move keeps the record sound: a law for each.
use Prim.Native.Nat.{ℕ, ◌+◌, ◌-◌, ◌≤◌, ◌<◌}
use mathlib.Core.Path.{◌≡◌, refl, sym, ap, subst}
use mathlib.Core.Logic.{◌≢◌}
use mathlib.Core.Bool.{Bool, true, false, not, ◌&&◌, ◌||◌, cond, true≢false, false≢true}
use lib.Dec.{eqb, leb, ltb}
use native.Mathlib.Omega.{arith}
use borrow.Author.Tests.{ltb-true, ltb-false, leb-true, leb-false, eqb-true, eqb-false, le-leb}
use Rattle.rules.specs.declared.Scan.{Scan}
use Rattle.rules.specs.declared.Feed.{Feed}
use Rattle.rules.specs.declared.Failure.{Failure}
use Rattle.rules.specs.declared.Granted.{Granted}
use Rattle.rules.specs.declared.Feeder.{Feeder}
use Rattle.rules.specs.declared.Input.{Input}
use Rattle.rules.specs.declared.Record.{Record}
use Rattle.rules.specs.Record.{greatest, most_ring, fault_time, endless, least_time, most_time, last_side, most_sides, idle, pending, scanning, finishing}
use Rattle.rules.specs.Record.{erred, busy, stuck, on, granting, limit, counted}
use Rattle.rules.specs.Feeder.{stands, fails, fed, jam_stops, taken, freed, late}
use Rattle.rules.specs.Moves.{device, caught, with_feeder, quiet_at, stop_at, announced, begun, released, ended, timed_out, settled, next_job, given, readied}
use Rattle.rules.specs.Moves.{started, stopped, numbered, drained, moved, last, fetched, filled, fallen, finished, side_ended, feeds, due, ticked}
use Rattle.rules.specs.Machine.{listed}
use Rattle.rules.proofs.Choice.{choice, implied, vacuous, tollens, and_l, and-not}
use Rattle.rules.proofs.Sound.{RingFit, FeederFit, Common, Held, Holding, Source, Glass, Resting, Reading, PhaseAt, Phase, Sound}
use Rattle.rules.proofs.Naming.{Called}
use Rattle.rules.proofs.Feeding.{busy-fit, side-free, driven-fit}
use Rattle.rules.proofs.Cases.{started-cases, stopped-cases, drained-cases, fetched-cases, side_ended-cases, ticked-cases}
use Rattle.rules.proofs.RingLaws.{wrap-lt}

-- ---- the facts of the state at hand
abbrev Reads : Record → Type 0
Reads r = Reading r.job (on r.settings.feeder) (busy r.feeder.state) r.side.count

reading : (s : Scan) (r : Record) → scanning s ≡ true → Phase s r → Reads r
reading Scan.Idle r e p = absurd (false≢true e)
reading Scan.Pending r e p = absurd (false≢true e)
reading Scan.Scanning r e p = p
reading Scan.Finishing r e p = absurd (false≢true e)
reading Scan.Erred r e p = absurd (false≢true e)

pub scans-held : (s : Scan) → scanning s ≡ true → idle s ≡ false
scans-held Scan.Idle e = absurd (false≢true e)
scans-held Scan.Pending e = refl
scans-held Scan.Scanning e = refl
scans-held Scan.Finishing e = refl
scans-held Scan.Erred e = refl

abbrev pub Rests : Record → ℕ → Type 0
Rests r lim = Resting r.job r.ring.stored (busy r.feeder.state) lim

pub resting : (s : Scan) (r : Record) → (pending s || erred s) ≡ true → Phase s r → (lim : ℕ) × Rests r lim
resting Scan.Idle r e p = absurd (false≢true e)
resting Scan.Pending r e p = (r.job.granted.seconds, p)
resting Scan.Scanning r e p = absurd (false≢true e)
resting Scan.Finishing r e p = absurd (false≢true e)
resting Scan.Erred r e p = (fault_time, p)

requiet : {h l g q lim : ℕ} (q' lim' : ℕ) → q' < lim' → Held h l g q lim → Held h l g q' lim'
requiet q' lim' e p = record { some = p.some; latest = p.latest; low = p.low; high = p.high; quiet = e }

-- quiet is set to 0, or kept
eased : {h l g q lim : ℕ} (t : Bool) → Held h l g q lim → Held h l g (cond t 0 q) lim
eased true p = requiet _ _ (omega (arith, p.quiet)) p
eased false p = p

-- ---- the feeder's moves
-- a feeder that is not Erred has its path free; one with its path free may stand as it is told
pub free-path : (f : Feeder) → stuck f.state ≡ false → FeederFit f → on f.path ≡ false
free-path f e h = tollens (on f.path) (stuck f.state) h.jam e

pub refit : (x : Feed) (why : Failure) (f : Feeder) → on f.path ≡ false → FeederFit f → FeederFit (fails x why f)
refit x why f e h = record { tray = h.tray; path = h.path; jam = vacuous (on f.path) (stuck x) e }

erred-fit : (why : Failure) (f : Feeder) → FeederFit f → FeederFit (fails Feed.Erred why f)
erred-fit why f h = record { tray = h.tray; path = h.path; jam = implied (on f.path) true refl }

freed-fit : (f : Feeder) → FeederFit f → FeederFit (freed f)
freed-fit f h = choice FeederFit (busy f.state) (λ b. refit Feed.Unloaded f.failure f (free-path f (busy-fit f.state b) h) h) (λ _. h)

-- where a Busy feeder becomes another, none is Busy afterwards
not-busy : (f g : Feeder) → busy g.state ≡ false → busy (cond (busy f.state) g f).state ≡ false
not-busy f g e = choice (λ (x : Feeder). busy x.state ≡ false) (busy f.state) (λ _. e) (λ b. b)

freed-free : (f : Feeder) → busy (freed f).state ≡ false
freed-free f = not-busy f (stands Feed.Unloaded f) refl

late-fit : (f : Feeder) → FeederFit f → FeederFit (late f)
late-fit f h = choice FeederFit (busy f.state) (λ _. erred-fit Failure.Timeout f h) (λ _. h)

late_free : (f : Feeder) → busy (late f).state ≡ false
late_free f = not-busy f (fails Feed.Erred Failure.Timeout f) refl

-- the feeder alone changes, Busy or not as before
pub refeed : (r : Record) (n : ℕ) (f : Feeder) → busy f.state ≡ busy r.feeder.state → FeederFit f → Sound r n → Sound (with_feeder f r) n
refeed r n f e i h =
    let g = h.common in
    record {
      common = record { ring = g.ring; side = g.side; settings = g.settings; stop = g.stop; feeder = i };
      phase =
          subst (PhaseAt r.scanner.state r.job r.side.number r.side.count r.ring.stored (on r.settings.feeder)) (sym e)
          h.phase;
      called = h.called;
    }

-- ---- end of job
emptied-fit : (n : ℕ) → 1 ≤ n → n ≤ most_ring → RingFit (record { start = 0; stored = 0 }) n
emptied-fit n l m = record { least = l; most = m; start = l; stored = omega arith }

released-sound : (why : Failure) (f : Feeder) (r : Record) (n : ℕ) → busy f.state ≡ false → FeederFit f → Common r n → Sound (released why f r) n
unfolding released
released-sound why f r n free i h =
    record {
      common =
          record {
            ring = emptied-fit n h.ring.least h.ring.most;
            side = record { number = omega arith; count = refl };
            settings = h.settings;
            stop = omega arith;
            feeder = i;
          };
      phase = record { job = refl; number = refl; count = refl; quiet = refl; stop = refl; empty = refl; free = free };
      called = λ i. absurd (true≢false i);
    }

pub ended-sound : (r : Record) (n : ℕ) → Common r n → Sound (ended r) n
ended-sound r n h = released-sound Failure.None (freed r.feeder) r n (freed-free r.feeder) (freed-fit r.feeder h.feeder) h

timed_out-sound : (r : Record) (n : ℕ) → Common r n → Sound (timed_out r) n
timed_out-sound r n h = released-sound Failure.Timeout (late r.feeder) r n (late_free r.feeder) (late-fit r.feeder h.feeder) h

-- ---- Tick
quiet-phase : (s : Scan) (r : Record) (q : ℕ) → idle s ≡ false → q < limit s r.job.granted.seconds → Phase s r → Phase s (quiet_at q r)
quiet-phase Scan.Idle r q i e p = absurd (true≢false i)
quiet-phase Scan.Pending r q i e p = record { held = requiet _ _ e p.held; stop = p.stop; empty = p.empty; free = p.free }
quiet-phase Scan.Scanning r q i e p = record { held = requiet _ _ e p.held; source = p.source }
quiet-phase Scan.Finishing r q i e p = record { held = requiet _ _ e p.held; full = p.full; free = p.free; glass = p.glass }
quiet-phase Scan.Erred r q i e p = record { held = requiet _ _ e p.held; stop = p.stop; empty = p.empty; free = p.free }

-- quiet alone changes
quieted : (r : Record) (n q : ℕ) → idle r.scanner.state ≡ false → q < due r → Sound r n → Sound (quiet_at q r) n
quieted r n q i e h = record { common = h.common; phase = quiet-phase r.scanner.state r q i e h.phase; called = h.called }

pub ticked-sound : (r : Record) (n : ℕ) → Sound r n → Sound (ticked r) n
ticked-sound r n h =
    ticked-cases (λ (x : Record). Sound x n) r (λ _. h) (λ _ _. timed_out-sound r n h.common)
    (λ i e. quieted r n _ i (leb-false _ _ e) h)

-- ---- a side begins
abbrev Begins : Bool → Bool → ℕ → Type 0
Begins true b c = c ≢ 0
Begins false b c = (b ≡ false) × (c ≡ 1)

source_of : (u : Bool) (f : Feeder) (c : ℕ) → Begins u (busy f.state) c → Source u (busy (cond u (taken f) f).state) c
source_of true f c h = (refl, h)
source_of false f c h = h

taken-fit : (u : Bool) (f : Feeder) → (u && stuck f.state) ≡ false → FeederFit f → FeederFit (cond u (taken f) f)
taken-fit true f e h = refit Feed.Busy f.failure f (free-path f e h) h
taken-fit false f e h = h

begun-sound : (r : Record) (n : ℕ) → Common r n → Holding r.job r.job.granted.seconds → jam_stops r.settings.feeder r.feeder ≡ false
    → Begins (on r.settings.feeder) (busy r.feeder.state) r.side.count → Called r → Sound (begun r) n
unfolding begun
begun-sound r n h p j g c =
    record {
      common =
          record {
            ring = h.ring;
            side = h.side;
            settings = h.settings;
            stop = h.stop;
            feeder = taken-fit (on r.settings.feeder) r.feeder j h.feeder;
          };
      phase = record { held = p; source = source_of (on r.settings.feeder) r.feeder r.side.count g };
      called = λ _. c;
    }

-- ---- the drain step, from Finishing with nothing stored
record Emptied (r : Record) (n : ℕ) : Type 0 where
  common : Common r n
  held : Holding r.job r.job.granted.seconds
  quiet : r.job.quiet ≡ 0
  empty : r.ring.stored ≡ 0
  free : busy r.feeder.state ≡ false
  glass : Glass (on r.settings.feeder) r.side.count

numbered-common : (r : Record) (n : ℕ) → Common r n → Common (numbered r) n
numbered-common r n h =
    record {
      ring = h.ring;
      side =
          record {
            number =
                choice (λ (x : ℕ). x ≤ last_side) (ltb r.side.number last_side)
                (λ e. omega (arith, ltb-true r.side.number last_side e))
                (λ _. omega arith);
            count = h.side.count;
          };
      settings = h.settings;
      stop = h.stop;
      feeder = h.feeder;
    }

begins-more : (u b : Bool) (c : ℕ) → Glass u c → c ≢ 0 → Begins u b c
begins-more true b c g e = e
begins-more false b c g e = absurd (e g)

none_left : (c : ℕ) → counted c ≡ true → counted (cond (eqb c endless) 0 c) ≡ true
none_left c h = choice (λ (x : ℕ). counted x ≡ true) (eqb c endless) (λ _. refl) (λ _. h)

drained-sound : (r : Record) (n : ℕ) → Emptied r n → Sound (drained r) n
drained-sound r n h =
    let g = numbered-common r n h.common in
    drained-cases (λ (x : Record). Sound x n) r
    (λ _. ended-sound (numbered r) n g)
    (λ s _. record { common = g; phase = record { held = h.held; stop = s; empty = h.empty; free = h.free }; called = λ _. refl })
    (λ s _ _. record {
      common = g;
      phase = record { held = requiet _ fault_time (omega (arith, h.quiet)) h.held; stop = s; empty = h.empty; free = h.free };
      called = λ _. refl;
    })
    (λ s _ _ _. record {
      common =
          record {
            ring = g.ring;
            side = record { number = g.side.number; count = none_left r.side.count h.common.side.count };
            settings = g.settings;
            stop = g.stop;
            feeder = g.feeder;
          };
      phase = record { held = h.held; stop = s; empty = h.empty; free = h.free };
      called = λ _. refl;
    })
    (λ s c j _. begun-sound (announced (numbered r)) n g h.held j
    (begins-more (on r.settings.feeder) _ r.side.count h.glass (eqb-false _ _ c)) refl)

-- ---- Fetch and Bytes
moved-common : (k : ℕ) (r : Record) (n : ℕ) → k ≤ r.ring.stored → Common r n → Common (moved k n r) n
unfolding moved
moved-common k r n e g =
    record {
      ring =
          record {
            least = g.ring.least;
            most = g.ring.most;
            start = wrap-lt n r.ring.start k g.ring.start (omega (arith, g.ring.stored));
            stored = omega (arith, g.ring.stored);
          };
      side = g.side;
      settings = g.settings;
      stop = g.stop;
      feeder = g.feeder;
    }

moved-phase : (s : Scan) (k n : ℕ) (r : Record) → idle s ≡ false → (finishing s && eqb (r.ring.stored - k) 0) ≡ false → Phase s r
    → Phase s (moved k n r)
unfolding moved
moved-phase Scan.Idle k n r i l p = absurd (true≢false i)
moved-phase Scan.Pending k n r i l p =
    record { held = eased (leb 1 k) p.held; stop = p.stop; empty = omega (arith, p.empty); free = p.free }
moved-phase Scan.Scanning k n r i l p = record { held = eased (leb 1 k) p.held; source = p.source }
moved-phase Scan.Finishing k n r i l p =
    record { held = eased (leb 1 k) p.held; full = omega (arith, eqb-false (r.ring.stored - k) 0 l); free = p.free; glass = p.glass }
moved-phase Scan.Erred k n r i l p =
    record { held = eased (leb 1 k) p.held; stop = p.stop; empty = omega (arith, p.empty); free = p.free }

moved-emptied : (s : Scan) (k n : ℕ) (r : Record) → (finishing s && eqb (r.ring.stored - k) 0) ≡ true → Common (moved k n r) n → Phase s r
    → Emptied (moved k n r) n
unfolding moved
moved-emptied Scan.Idle k n r l g p = absurd (false≢true l)
moved-emptied Scan.Pending k n r l g p = absurd (false≢true l)
moved-emptied Scan.Scanning k n r l g p = absurd (false≢true l)
moved-emptied Scan.Finishing k n r l g p =
    record {
      common = g;
      held = eased (leb 1 k) p.held;
      quiet = rw (le-leb 1 k (omega (arith, eqb-true (r.ring.stored - k) 0 l, p.full)));
      empty = eqb-true (r.ring.stored - k) 0 l;
      free = p.free;
      glass = p.glass;
    }
moved-emptied Scan.Erred k n r l g p = absurd (false≢true l)

pub fetched-sound : (k : ℕ) (r : Record) (n : ℕ) → idle r.scanner.state ≡ false → k ≤ r.ring.stored → Sound r n → Sound (fetched k n r) n
unfolding moved
fetched-sound k r n i e h =
    let g = moved-common k r n e h.common in
    fetched-cases (λ (x : Record). Sound x n) r k n
    (λ l. drained-sound (moved k n r) n (moved-emptied r.scanner.state k n r l g h.phase))
    (λ l. record { common = g; phase = moved-phase r.scanner.state k n r i l h.phase; called = h.called })

filled-phase : (s : Scan) (k : ℕ) (r : Record) → scanning s ≡ true → Phase s r → Phase s (filled k r)
unfolding filled
filled-phase Scan.Idle k r i p = absurd (false≢true i)
filled-phase Scan.Pending k r i p = absurd (false≢true i)
filled-phase Scan.Scanning k r i p = record { held = eased (leb 1 k) p.held; source = p.source }
filled-phase Scan.Finishing k r i p = absurd (false≢true i)
filled-phase Scan.Erred k r i p = absurd (false≢true i)

pub filled-sound : (k : ℕ) (r : Record) (n : ℕ) → scanning r.scanner.state ≡ true → r.ring.stored + k ≤ n → Sound r n → Sound (filled k r) n
unfolding filled
filled-sound k r n s e h =
    let g = h.common in
    record {
      common =
          record {
            ring = record { least = g.ring.least; most = g.ring.most; start = g.ring.start; stored = e };
            side = g.side;
            settings = g.settings;
            stop = g.stop;
            feeder = g.feeder;
          };
      phase = filled-phase r.scanner.state k r s h.phase;
      called = h.called;
    }

-- ---- Side ended
source-glass : (u b : Bool) (c : ℕ) → Source u b c → Glass u (fallen c)
source-glass true b c h = tt
source-glass false b c h = rw h.1

some-side : (u b : Bool) (c : ℕ) → Source u b c → c ≢ 0
some-side true b c h = h.1
some-side false b c h = omega (arith, h.1)

fallen-count : (c : ℕ) → counted c ≡ true → counted (fallen c) ≡ true
fallen-count c h = choice (λ (x : ℕ). counted x ≡ true) (eqb c endless) (λ _. h) (λ e. less (leb c most_sides) refl e)
  where
    less : (t : Bool) → leb c most_sides ≡ t → eqb c endless ≡ false → counted (c - 1) ≡ true
    less true l e = rw (le-leb (c - 1) most_sides (omega (arith, leb-true c most_sides l)))
    less false l e = absurd (false≢true (rw (l, e) at h))

pub side_ended-sound : (r : Record) (n : ℕ) → scanning r.scanner.state ≡ true → Sound r n → Sound (side_ended r) n
unfolding finished
side_ended-sound r n s h =
    let p = reading r.scanner.state r s h.phase in
    let g = h.common in
    let common : Common (finished r) n =
    record {
      ring = g.ring;
      side = record { number = g.side.number; count = fallen-count r.side.count g.side.count };
      settings = g.settings;
      stop = g.stop;
      feeder = driven-fit Input.SideEnd r.feeder g.feeder;
    } in
    let held : Holding (finished r).job r.job.granted.seconds = requiet 0 _ (omega (arith, p.held.low)) p.held in
    let free = side-free 0 r.feeder.state r.feeder.tray r.feeder.path in
    let glass = source-glass (on r.settings.feeder) _ r.side.count p.source in
    side_ended-cases (λ (x : Record). Sound x n) r
    (λ e. drained-sound (finished r) n
    (record { common = common; held = held; quiet = refl; empty = eqb-true _ _ e; free = free; glass = glass }))
    (λ e. record {
      common = common;
      phase = record { held = held; full = omega (arith, eqb-false r.ring.stored 0 e); free = free; glass = glass };
      called = λ _. h.called (scans-held r.scanner.state s);
    })

-- ---- Path
free-glass : (u b : Bool) (c : ℕ) → u ≡ false → Source u b c → b ≡ false
free-glass true b c e s = absurd (true≢false e)
free-glass false b c e s = s.0

pub free-unless : (s : Scan) (r : Record) → (scanning s && on r.settings.feeder) ≡ false → Phase s r → busy r.feeder.state ≡ false
free-unless Scan.Idle r e p = p.free
free-unless Scan.Pending r e p = p.free
free-unless Scan.Scanning r e p = free-glass (on r.settings.feeder) _ r.side.count e p.source
free-unless Scan.Finishing r e p = p.free
free-unless Scan.Erred r e p = p.free

jam-held : (s : Scan) (r : Record) → (scanning s && on r.settings.feeder) ≡ true → Phase s r
    → Held r.job.held r.job.last r.job.granted.seconds 0 fault_time
jam-held s r e p = requiet _ _ (omega arith) (reading s r (and_l _ _ e) p).held

pub caught-sound : (r : Record) (n : ℕ) → feeds r ≡ true → Sound r n → Sound (caught r) n
unfolding fed
caught-sound r n e h =
    let g = h.common in
    record {
      common =
          record {
            ring = emptied-fit n g.ring.least g.ring.most;
            side = g.side;
            settings = g.settings;
            stop = omega arith;
            feeder = driven-fit Input.Jam r.feeder g.feeder;
          };
      phase = record { held = jam-held r.scanner.state r e h.phase; stop = refl; empty = refl; free = refl };
      called = λ _. h.called (scans-held r.scanner.state (and_l _ _ e));
    }

-- ---- Stop
stop-phase : (s : Scan) (r : Record) → idle s ≡ false → (pending s || erred s) ≡ false → Phase s r → Phase s (stop_at 1 r)
stop-phase Scan.Idle r i e p = absurd (true≢false i)
stop-phase Scan.Pending r i e p = absurd (true≢false e)
stop-phase Scan.Scanning r i e p = record { held = p.held; source = p.source }
stop-phase Scan.Finishing r i e p = record { held = p.held; full = p.full; free = p.free; glass = p.glass }
stop-phase Scan.Erred r i e p = absurd (true≢false e)

pub stopped-sound : (r : Record) (n : ℕ) → idle r.scanner.state ≡ false → Sound r n → Sound (stopped r) n
stopped-sound r n i h =
    let g = h.common in
    stopped-cases (λ (x : Record). Sound x n) r (λ _. ended-sound r n g)
    (λ e. record {
      common = record { ring = g.ring; side = g.side; settings = g.settings; stop = omega arith; feeder = g.feeder };
      phase = stop-phase r.scanner.state r i e h.phase;
      called = h.called;
    })

-- ---- StartScan and Start
stored-count : (u : Bool) (c : ℕ) → counted c ≡ true → counted (cond u c (cond (eqb c endless) 1 c)) ≡ true
stored-count true c h = h
stored-count false c h = choice (λ (x : ℕ). counted x ≡ true) (eqb c endless) (λ _. refl) (λ _. h)

-- UseFeeder, SideCount: as the values' list has them
stored-begins : (u b : Bool) (c : ℕ) → c ≢ 0 → b ≡ false → (u || leb c 1 || eqb c endless) ≡ true
    → Begins u b (cond u c (cond (eqb c endless) 1 c))
stored-begins true b c z f g = z
stored-begins false b c z f g = (f, choice (λ (x : ℕ). x ≡ 1) (eqb c endless) (λ _. refl) (λ e. one (leb c 1) refl e))
  where
    one : (t : Bool) → leb c 1 ≡ t → eqb c endless ≡ false → c ≡ 1
    one true l e = omega (arith, leb-true c 1 l)
    one false l e = absurd (false≢true (rw (l, e) at g))

pub settled-fit : (v k : ℕ) → listed v ≡ true → k ≤ 1 → settled v k ≤ 1
settled-fit v k l h = choice (λ (x : ℕ). x ≤ 1) (eqb v device) (λ _. h) (λ e. omega (arith, leb-true v device l, eqb-false v device e))

pub started-sound : (from c : ℕ) (r : Record) (n lim : ℕ) → Common r n → Rests r lim → from ≤ 1 → counted c ≡ true
    → (on from || leb c 1 || eqb c endless) ≡ true → (not (eqb c 0) && jam_stops from r.feeder) ≡ false → Called r
    → Sound (started from c r) n
unfolding readied
started-sound from c r n lim g p m ok sides j called =
    let common : Common (readied from c r) n =
    record {
      ring = g.ring;
      side = record { number = g.side.number; count = stored-count (on from) c ok };
      settings = record { feeder = m; append = g.settings.append };
      stop = g.stop;
      feeder = g.feeder;
    } in
    let held : Holding (readied from c r).job r.job.granted.seconds = requiet 0 _ (omega (arith, p.held.low)) p.held in
    started-cases (λ (x : Record). Sound x n) r from c
    (λ _. record { common = common; phase = record { held = held; stop = p.stop; empty = p.empty; free = p.free }; called = λ _. called })
    (λ z. begun-sound (readied from c r) n common held (and-not (not (eqb c 0)) _ j (ap not z))
    (stored-begins (on from) _ c (eqb-false _ _ z) p.free sides) called)

granting-in : (asked : ℕ) → (least_time ≤ (granting asked).seconds) × ((granting asked).seconds ≤ most_time)
granting-in asked =
    choice In (eqb asked 0) (λ _. (omega arith, omega arith)) λ _.
    choice In (ltb asked least_time) (λ _. (omega arith, omega arith)) λ l.
    choice In (ltb most_time asked) (λ _. (omega arith, omega arith)) λ m. (ltb-false asked least_time l, ltb-false most_time asked m)
  where
    In : Granted → Type 0
    In g = (least_time ≤ g.seconds) × (g.seconds ≤ most_time)

next-some : (r : Record) → 1 ≤ next_job r
next-some r = choice (λ (x : ℕ). 1 ≤ x) (eqb r.job.last greatest) (λ _. omega arith) (λ _. omega arith)

pub given-rests : (append asked : ℕ) (r : Record) → Phase Scan.Idle r → Rests (given append asked r) (granting asked).seconds
unfolding given
given-rests append asked r p =
    record {
      held =
          record {
            some = next-some r;
            latest = refl;
            low = (granting-in asked).0;
            high = (granting-in asked).1;
            quiet = omega (arith, p.quiet, (granting-in asked).0);
          };
      stop = p.stop;
      empty = p.empty;
      free = p.free;
    }

pub given-common : (append asked : ℕ) (r : Record) (n : ℕ) → append ≤ 1 → Common r n → Common (given append asked r) n
unfolding given
given-common append asked r n m g =
    record { ring = g.ring; side = g.side; settings = record { feeder = g.settings.feeder; append = m }; stop = g.stop; feeder = g.feeder }
