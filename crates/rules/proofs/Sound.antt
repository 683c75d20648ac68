-- The sound record as facts, each group indexed by the parts that it speaks of: a move that leaves a part alone keeps the
-- very proof. Two laws tie this view to the test `sound`.
use Prim.Native.Nat.{ℕ, ◌≤◌, ◌<◌}
use mathlib.Core.Path.{◌≡◌, refl, sym, ◌∙◌, ap}
use mathlib.Core.Logic.{◌≢◌}
use mathlib.Core.Bool.{Bool, true, false, not, ◌&&◌, ◌||◌, true≢false, false≢true}
use mathlib.Core.List.{List, [], ◌∷◌}
use lib.Dec.{eqb, leb}
use native.Mathlib.Omega.{arith}
use borrow.Author.Tests.{ltb-true, leb-true, eqb-true, eqb-false, lt-ltb, le-leb, eq-eqb, ne_eqb, not-true}
use Rattle.rules.specs.declared.Scan.{Scan}
use Rattle.rules.specs.declared.Job.{Job}
use Rattle.rules.specs.declared.Side.{Side}
use Rattle.rules.specs.declared.Settings.{Settings}
use Rattle.rules.specs.declared.Feeder.{Feeder}
use Rattle.rules.specs.declared.Ring.{Ring}
use Rattle.rules.specs.declared.Record.{Record}
use Rattle.rules.specs.Record.{least_time, most_time, fault_time, last_side, most_ring, idle, scanning, finishing, busy, stuck, on, implies, exactly, limit}
use Rattle.rules.specs.Record.{counted, every_after, every, idle_points, held_points, ring_points, feeder_points, mark_points, points, sound}
use Rattle.rules.specs.Name.{name_stays}
use Rattle.rules.proofs.Naming.{alike-eq, alike_self, Called}
use Rattle.rules.proofs.Choice.{exactly-eq, eq-exactly, implied, vacuous, tollens, and_l, and_r}

-- ---- what holds in every scan state
pub record RingFit (g : Ring) (n : ℕ) : Type 0 where
  pub least : 1 ≤ n
  pub most : n ≤ most_ring
  pub start : g.start < n
  pub stored : g.stored ≤ n

pub record SideFit (n c : ℕ) : Type 0 where
  pub number : n ≤ last_side
  pub count : counted c ≡ true

pub record SettingsFit (t : Settings) : Type 0 where
  pub feeder : t.feeder ≤ 1
  pub append : t.append ≤ 1

pub record FeederFit (f : Feeder) : Type 0 where
  pub tray : f.tray ≤ 1
  pub path : f.path ≤ 1
  pub jam : implies (on f.path) (stuck f.state) ≡ true

pub record CommonAt (g : Ring) (number count : ℕ) (t : Settings) (mark : ℕ) (f : Feeder) (n : ℕ) : Type 0 where
  pub ring : RingFit g n
  pub side : SideFit number count
  pub settings : SettingsFit t
  pub stop : mark ≤ 1
  pub feeder : FeederFit f

abbrev pub Common : Record → ℕ → Type 0
Common r n = CommonAt r.ring r.side.number r.side.count r.settings r.job.stop r.feeder n

-- ---- what holds in each
pub record Held (h l g q lim : ℕ) : Type 0 where
  pub some : 1 ≤ h
  pub latest : h ≡ l
  pub low : least_time ≤ g
  pub high : g ≤ most_time
  pub quiet : q < lim

abbrev pub Holding : Job → ℕ → Type 0
Holding j lim = Held j.held j.last j.granted.seconds j.quiet lim

-- from the feeder: Busy, SideCount not 0; on the glass: not Busy, SideCount 1
abbrev pub Source : Bool → Bool → ℕ → Type 0
Source true b c = (b ≡ true) × (c ≢ 0)
Source false b c = (b ≡ false) × (c ≡ 1)

-- on the glass SideCount is 0 in Finishing
abbrev pub Glass : Bool → ℕ → Type 0
Glass true c = Unit {0}
Glass false c = c ≡ 0

pub record Nobody (j : Job) (n c stored : ℕ) (b : Bool) : Type 0 where
  pub job : j.held ≡ 0
  pub number : n ≡ 1
  pub count : c ≡ 0
  pub quiet : j.quiet ≡ 0
  pub stop : on j.stop ≡ false
  pub empty : stored ≡ 0
  pub free : b ≡ false

pub record Resting (j : Job) (stored : ℕ) (b : Bool) (lim : ℕ) : Type 0 where
  pub held : Holding j lim
  pub stop : on j.stop ≡ false
  pub empty : stored ≡ 0
  pub free : b ≡ false

pub record Reading (j : Job) (u b : Bool) (c : ℕ) : Type 0 where
  pub held : Holding j j.granted.seconds
  pub source : Source u b c

pub record Draining (j : Job) (stored : ℕ) (u b : Bool) (c : ℕ) : Type 0 where
  pub held : Holding j j.granted.seconds
  pub full : 1 ≤ stored
  pub free : b ≡ false
  pub glass : Glass u c

abbrev pub PhaseAt : Scan → Job → ℕ → ℕ → ℕ → Bool → Bool → Type 0
PhaseAt Scan.Idle j n c stored u b = Nobody j n c stored b
PhaseAt Scan.Pending j n c stored u b = Resting j stored b j.granted.seconds
PhaseAt Scan.Scanning j n c stored u b = Reading j u b c
PhaseAt Scan.Finishing j n c stored u b = Draining j stored u b c
PhaseAt Scan.Erred j n c stored u b = Resting j stored b fault_time

abbrev pub Phase : Scan → Record → Type 0
Phase s r =
    PhaseAt s r.job r.side.number r.side.count r.ring.stored (on r.settings.feeder) (busy r.feeder.state)

pub record Sound (r : Record) (n : ℕ) : Type 0 where
  pub common : Common r n
  pub phase : Phase r.scanner.state r
  pub called : idle r.scanner.state ≡ false → Called r

-- ---- every test of a list is true
abbrev pub Holds : List Bool → Type 0
Holds [] = Unit {0}
Holds (t ∷ ts) = (t ≡ true) × Holds ts

holds_after : (so : Bool) (ts : List Bool) → every_after so ts ≡ true → (so ≡ true) × Holds ts
holds_after so [] e = (e, tt)
holds_after so (t ∷ ts) e =
    let h = holds_after (so && t) ts e in
    (and_l so t h.0, (and_r so t h.0, h.1))

pub holds : (ts : List Bool) → every ts ≡ true → Holds ts
holds [] e = tt
holds (t ∷ ts) e = holds_after t ts e

all_after : (ts : List Bool) → Holds ts → every_after true ts ≡ true
all_after [] h = refl
all_after (true ∷ ts) h = all_after ts h.1
all_after (false ∷ ts) h = absurd (false≢true h.0)

pub all : (ts : List Bool) → Holds ts → every ts ≡ true
all [] h = refl
all (true ∷ ts) h = all_after ts h.1
all (false ∷ ts) h = absurd (false≢true h.0)

-- ---- from the test to the facts
ne-zero : (a : ℕ) → exactly false (eqb a 0) ≡ true → a ≢ 0
ne-zero a e = eqb-false a 0 (sym (exactly-eq false (eqb a 0) e))

is_zero : (a : ℕ) → exactly true (eqb a 0) ≡ true → a ≡ 0
is_zero a e = eqb-true a 0 (sym (exactly-eq true (eqb a 0) e))

off : (a : Bool) → exactly a false ≡ true → a ≡ false
off a e = exactly-eq a false e

no_stop : (a : Bool) → implies a false ≡ true → a ≡ false
no_stop a e = tollens a false e refl

source : (u b : Bool) (c : ℕ) → exactly b u ≡ true → implies b (not (eqb c 0)) ≡ true → implies (not u) (eqb c 1) ≡ true → Source u b c
source true true c p q r = (refl, eqb-false c 0 (not-true _ q))
source true false c p q r = absurd (false≢true p)
source false true c p q r = absurd (false≢true p)
source false false c p q r = (refl, eqb-true c 1 r)

glass : (u : Bool) (c : ℕ) → implies (not u) (eqb c 0) ≡ true → Glass u c
glass true c p = tt
glass false c p = eqb-true c 0 p

ruleset facts = (arith, eqb-true, leb-true, ltb-true, ne-zero, is_zero)

module _ (j : Job) (d : Side) (t : Settings) (f : Feeder) (g : Ring) (n : ℕ) where
  phase : (s : Scan) → Holds (idle_points s j d) → Holds (held_points s j d) → Holds (ring_points s g n)
      → Holds (feeder_points s f.state t d) → Holds (mark_points s t j.stop f)
      → PhaseAt s j d.number d.count g.stored (on t.feeder) (busy f.state)
  phase Scan.Idle a b c e m =
      record {
        job = omega facts;
        number = omega facts;
        count = omega facts;
        quiet = omega facts;
        stop = search not-true;
        empty = omega facts;
        free = search off;
      }
  phase Scan.Pending a b c e m = record { held = omega facts; stop = search no_stop; empty = omega facts; free = search off }
  phase Scan.Scanning a b c e m =
      record { held = omega facts; source = source (on t.feeder) (busy f.state) d.count (search) (search) (search) }
  phase Scan.Finishing a b c e m =
      record { held = omega facts; full = omega facts; free = search off; glass = glass (on t.feeder) d.count (search) }
  phase Scan.Erred a b c e m = record { held = omega facts; stop = search no_stop; empty = omega facts; free = search off }

called : (r : Record) → implies (not (idle r.scanner.state)) (name_stays r) ≡ true → idle r.scanner.state ≡ false → Called r
called r e i = alike-eq _ _ (met (idle r.scanner.state) i e)
  where
    met : (t : Bool) → t ≡ false → implies (not t) (name_stays r) ≡ true → name_stays r ≡ true
    met true f h = absurd (true≢false f)
    met false f h = h

pub to-sound : (r : Record) (n : ℕ) → sound r n ≡ true → Sound r n
unfolding sound
to-sound r n e =
    let s = r.scanner.state in
    let h = holds (points r n) e in
    let a = holds (idle_points s r.job r.side) h.0 in
    let b = holds (held_points s r.job r.side) h.1.0 in
    let c = holds (ring_points s r.ring n) h.1.1.0 in
    let d = holds (feeder_points s r.feeder.state r.settings r.side) h.1.1.1.0 in
    let m = holds (mark_points s r.settings r.job.stop r.feeder) h.1.1.1.1.0 in
    record {
      common =
          record {
            ring = omega facts;
            side = record { number = omega facts; count = b.1.0 };
            settings = omega facts;
            stop = omega facts;
            feeder = record { tray = omega facts; path = omega facts; jam = m.1.1.1.1.1.0 };
          };
      phase = phase r.job r.side r.settings r.feeder r.ring n s a b c d m;
      called = called r h.1.1.1.1.1.0;
    }

-- ---- and back
pub holding : (s : Scan) (r : Record) → idle s ≡ false → Phase s r → Holding r.job (limit s r.job.granted.seconds)
holding Scan.Idle r i p = absurd (true≢false i)
holding Scan.Pending r i p = p.held
holding Scan.Scanning r i p = p.held
holding Scan.Finishing r i p = p.held
holding Scan.Erred r i p = p.held

some : {n : ℕ} → 1 ≤ n → n ≢ 0
some h = omega arith

pub idle-none : (s : Scan) (r : Record) → idle s ≡ true → Phase s r → Phase Scan.Idle r
idle-none Scan.Idle r i p = p
idle-none Scan.Pending r i p = absurd (false≢true i)
idle-none Scan.Scanning r i p = absurd (false≢true i)
idle-none Scan.Finishing r i p = absurd (false≢true i)
idle-none Scan.Erred r i p = absurd (false≢true i)

-- each list of points, test by test
idle-holds : (s : Scan) (r : Record) (i : Bool) → idle s ≡ i → Phase s r → Holds (idle_points s r.job r.side)
idle-holds s r true i p =
    let q = idle-none s r i p in (
      eq-exactly _ _ (i ∙ sym (eq-eqb r.job.held 0 q.job)),
      (
        implied (idle s) _ (eq-eqb r.side.number 1 q.number),
        (
          implied (idle s) _ (eq-eqb r.side.count 0 q.count),
          (
            implied (idle s) _ (eq-eqb r.job.quiet 0 q.quiet),
            (implied (idle s) _ (ap not q.stop), tt),
          ),
        ),
      ),
    )
idle-holds s r false i p = (
  eq-exactly _ _ (i ∙ sym (ne_eqb r.job.held 0 (some (holding s r i p).some))),
  (vacuous _ _ i, (vacuous _ _ i, (vacuous _ _ i, (vacuous _ _ i, tt)))),
)

held-holds : (s : Scan) (r : Record) (i : Bool) → idle s ≡ i → SideFit r.side.number r.side.count → Phase s r
    → Holds (held_points s r.job r.side)
held-holds s r true i h p =
    let v = ap not i in
    (le-leb _ _ h.number, (h.count, (vacuous _ _ v, (vacuous _ _ v, (vacuous _ _ v, (vacuous _ _ v, tt))))))
held-holds s r false i h p =
    let q = holding s r i p in (
      le-leb _ _ h.number,
      (
        h.count,
        (
          implied (not (idle s)) _ (eq-eqb _ _ q.latest),
          (
            implied (not (idle s)) _ (le-leb _ _ q.low),
            (
              implied (not (idle s)) _ (le-leb _ _ q.high),
              (implied (not (idle s)) _ (lt-ltb _ _ q.quiet), tt),
            ),
          ),
        ),
      ),
    )

stored-holds : (s : Scan) (r : Record) → Phase s r
    → (implies (not (scanning s || finishing s)) (eqb r.ring.stored 0) ≡ true) × (implies (finishing s) (leb 1 r.ring.stored) ≡ true)
stored-holds Scan.Idle r p = (eq-eqb _ _ p.empty, refl)
stored-holds Scan.Pending r p = (eq-eqb _ _ p.empty, refl)
stored-holds Scan.Scanning r p = (refl, refl)
stored-holds Scan.Finishing r p = (refl, le-leb _ _ p.full)
stored-holds Scan.Erred r p = (eq-eqb _ _ p.empty, refl)

of-source : (u b : Bool) (c : ℕ) → Source u b c
    → (exactly b u ≡ true) × (implies b (not (eqb c 0)) ≡ true) × (implies (not u) (eqb c 1) ≡ true)
of-source true b c p = (rw p.0, rw (p.0, ne_eqb c 0 p.1), refl)
of-source false b c p = (rw p.0, rw p.0, eq-eqb c 1 p.1)

of-glass : (u : Bool) (c : ℕ) → Glass u c → implies (not u) (eqb c 0) ≡ true
of-glass true c p = refl
of-glass false c p = eq-eqb c 0 p

feeder-holds : (s : Scan) (r : Record) → Phase s r → Holds (feeder_points s r.feeder.state r.settings r.side)
feeder-holds Scan.Idle r p = (eq-exactly _ _ p.free, (vacuous _ _ p.free, (refl, (refl, tt))))
feeder-holds Scan.Pending r p = (eq-exactly _ _ p.free, (vacuous _ _ p.free, (refl, (refl, tt))))
feeder-holds Scan.Scanning r p =
    let q = of-source (on r.settings.feeder) (busy r.feeder.state) r.side.count p.source in
    (q.0, (q.1, (q.2, (refl, tt))))
feeder-holds Scan.Finishing r p =
    (eq-exactly _ _ p.free, (vacuous _ _ p.free, (refl, (of-glass (on r.settings.feeder) r.side.count p.glass, tt))))
feeder-holds Scan.Erred r p = (eq-exactly _ _ p.free, (vacuous _ _ p.free, (refl, (refl, tt))))

stop-holds : (s : Scan) (r : Record) → Phase s r → implies (on r.job.stop) (scanning s || finishing s) ≡ true
stop-holds Scan.Idle r p = vacuous _ _ p.stop
stop-holds Scan.Pending r p = vacuous _ _ p.stop
stop-holds Scan.Scanning r p = implied (on r.job.stop) true refl
stop-holds Scan.Finishing r p = implied (on r.job.stop) true refl
stop-holds Scan.Erred r p = vacuous _ _ p.stop

name-holds : (r : Record) (i : Bool) → idle r.scanner.state ≡ i → (idle r.scanner.state ≡ false → Called r)
    → implies (not (idle r.scanner.state)) (name_stays r) ≡ true
name-holds r true i h = vacuous _ _ (ap not i)
name-holds r false i h = implied (not (idle r.scanner.state)) _ (alike_self _ _ (h i))

pub from-sound : (r : Record) (n : ℕ) → Sound r n → sound r n ≡ true
unfolding sound
from-sound r n h =
    let s = r.scanner.state in
    let g = h.common in
    let w = stored-holds s r h.phase in
    all (points r n) (
      all (idle_points s r.job r.side) (idle-holds s r (idle s) refl h.phase),
      (
        all (held_points s r.job r.side) (held-holds s r (idle s) refl g.side h.phase),
        (
          all (ring_points s r.ring n)
              (le-leb _ _ g.ring.least, (le-leb _ _ g.ring.most, (lt-ltb _ _ g.ring.start, (le-leb _ _ g.ring.stored, (w.0, (w.1, tt)))))),
          (
            all (feeder_points s r.feeder.state r.settings r.side) (feeder-holds s r h.phase),
            (
              all (mark_points s r.settings r.job.stop r.feeder) (
                le-leb _ _ g.settings.feeder,
                (
                  le-leb _ _ g.settings.append,
                  (
                    le-leb _ _ g.stop,
                    (
                      le-leb _ _ g.feeder.tray,
                      (le-leb _ _ g.feeder.path, (g.feeder.jam, (stop-holds s r h.phase, tt))),
                    ),
                  ),
                ),
              ),
              (name-holds r (idle s) refl h.called, tt),
            ),
          ),
        ),
      ),
    )
