-- The points of a sound record with the scan state known: the tests that are left are the ones that the code makes.
use Prim.Native.Nat.{ℕ}
use mathlib.Core.Path.{◌≡◌, refl, sym, ◌∙◌}
use mathlib.Core.Bool.{Bool, true, false, not, ◌&&◌, ◌||◌, false≢true, and-true, and-false, or-false, not-not}
use lib.Dec.{eqb, leb, ltb}
use borrow.Author.Tests.{eqb-true}
use Rattle.rules.proofs.Choice.{and_l, and_r}
use Rattle.rules.specs.declared.Scan.{Scan}
use Rattle.rules.specs.declared.Feed.{Feed}
use Rattle.rules.specs.declared.Feeder.{Feeder}
use Rattle.rules.specs.declared.Job.{Job}
use Rattle.rules.specs.declared.Side.{Side}
use Rattle.rules.specs.declared.Ring.{Ring}
use Rattle.rules.specs.declared.Settings.{Settings}
use Rattle.rules.specs.declared.Record.{Record}
use Rattle.rules.specs.Record.{every, idle, scanning, finishing, busy, on, marked, implies, counted, last_side, most_ring, sound}
use Rattle.rules.specs.Record.{idle_points, held_points, ring_points, feeder_points, mark_points, name_points}

apart : (s : Scan) → scanning s ≡ true → finishing s ≡ false
apart Scan.Idle e = refl
apart Scan.Pending e = refl
apart Scan.Scanning e = refl
apart Scan.Finishing e = absurd (false≢true e)
apart Scan.Erred e = refl

module _ (s : Scan) (j : Job) (d : Side) where
  pub idle-in : idle s ≡ true →
      ((((eqb j.held 0 && eqb d.number 1) && eqb d.count 0) && eqb j.quiet 0) && not (on j.stop)) ≡ every (idle_points s j d)
  idle-in e = simp (e, or-false)

  pub idle-out : idle s ≡ false → not (eqb j.held 0) ≡ every (idle_points s j d)
  idle-out e = simp (e, and-true)

  pub held_in : idle s ≡ true → (leb d.number last_side && counted d.count) ≡ every (held_points s j d)
  held_in e = simp (e, and-true)

module _ (s : Scan) (g : Ring) (n : ℕ) where
  abbrev inside : Bool
  inside = ((leb 1 n && leb n most_ring) && ltb g.start n) && leb g.stored n

  pub ring-scanning : scanning s ≡ true → inside ≡ every (ring_points s g n)
  ring-scanning e = simp (e, apart s e, and-true)

  pub ring-finishing : scanning s ≡ false → finishing s ≡ true → (inside && leb 1 g.stored) ≡ every (ring_points s g n)
  ring-finishing e f = simp (e, f, and-true)

  pub ring-outside : scanning s ≡ false → finishing s ≡ false → (inside && eqb g.stored 0) ≡ every (ring_points s g n)
  ring-outside e f = simp (e, f, and-true)

met : (a b : Bool) → (a && (not a || b)) ≡ (a && b)
met true b = refl
met false b = refl

absorbed : (a b : Bool) → (a && (a || b)) ≡ a
absorbed true b = refl
absorbed false b = refl

module _ (s : Scan) (f : Feed) (t : Settings) (d : Side) where
  pub from-feeder : scanning s ≡ true → on t.feeder ≡ true → (busy f && not (eqb d.count 0)) ≡ every (feeder_points s f t d)
  from-feeder e o = simp (e, apart s e, o, and-true, and-false, or-false, met)

  pub on-glass : scanning s ≡ true → on t.feeder ≡ false → (not (busy f) && eqb d.count 1) ≡ every (feeder_points s f t d)
  on-glass e o = simp (e, apart s e, o, and-true, and-false, absorbed)

  pub feeder-finishing : scanning s ≡ false → finishing s ≡ true →
      (not (busy f) && (on t.feeder || eqb d.count 0)) ≡ every (feeder_points s f t d)
  feeder-finishing e n = simp (e, n, and-true, and-false, absorbed, not-not)

  pub feeder-outside : scanning s ≡ false → finishing s ≡ false → not (busy f) ≡ every (feeder_points s f t d)
  feeder-outside e n = simp (e, n, and-true, and-false, absorbed)

pub no-marks : (s : Scan) (t : Settings) (stop : ℕ) (f : Feeder) → (eqb stop 0 && eqb f.path 0) ≡ true →
    ((marked t.feeder && marked t.append) && marked f.tray) ≡ every (mark_points s t stop f)
no-marks s t stop f e =
    simp (eqb-true stop 0 (and_l (eqb stop 0) (eqb f.path 0) e), eqb-true f.path 0 (and_r (eqb stop 0) (eqb f.path 0) e), and-true)

pub named_in : (s : Scan) (t : Bool) → idle s ≡ true → true ≡ implies (not (idle s)) t
named_in s t e = rw e refl

pub named-out : (s : Scan) {b t : Bool} → idle s ≡ false → b ≡ t → b ≡ implies (not (idle s)) t
named-out s i e = rw i e

-- ---- the six points, each tested by `t`: one that fails settles it, whatever the others say; where the first five hold, the last
-- decides
module _ (r : Record) (n : ℕ) where
  pub idle-fails : {t : Bool} → t ≡ every (idle_points r.scanner.state r.job r.side) → t ≡ false → false ≡ sound r n
  unfolding sound
  idle-fails e h = rw (sym e ∙ h)

  pub held-fails : {t : Bool} → t ≡ every (held_points r.scanner.state r.job r.side) → t ≡ false → false ≡ sound r n
  unfolding sound
  held-fails e h = rw (sym e ∙ h, and-false)

  pub ring-fails : {t : Bool} → t ≡ every (ring_points r.scanner.state r.ring n) → t ≡ false → false ≡ sound r n
  unfolding sound
  ring-fails e h = rw (sym e ∙ h, and-false)

  pub feeder-fails : {t : Bool} → t ≡ every (feeder_points r.scanner.state r.feeder.state r.settings r.side) → t ≡ false
      → false ≡ sound r n
  unfolding sound
  feeder-fails e h = rw (sym e ∙ h, and-false)

  pub marks-fail : {t : Bool} → t ≡ every (mark_points r.scanner.state r.settings r.job.stop r.feeder) → t ≡ false → false ≡ sound r n
  unfolding sound
  marks-fail e h = rw (sym e ∙ h, and-false)

  pub name-decides : {i h g f m t : Bool}
      → i ≡ every (idle_points r.scanner.state r.job r.side) → i ≡ true
      → h ≡ every (held_points r.scanner.state r.job r.side) → h ≡ true
      → g ≡ every (ring_points r.scanner.state r.ring n) → g ≡ true
      → f ≡ every (feeder_points r.scanner.state r.feeder.state r.settings r.side) → f ≡ true
      → m ≡ every (mark_points r.scanner.state r.settings r.job.stop r.feeder) → m ≡ true
      → t ≡ every (name_points r)
      → t ≡ sound r n
  unfolding sound
  name-decides ei ni eh nh eg ng ef nf em nm en =
      rw (sym ei ∙ ni, sym eh ∙ nh, sym eg ∙ ng, sym ef ∙ nf, sym em ∙ nm) en
