-- What the feeder's rule gives, whatever the mode and the state: a law for each fact that the others rest on.
use Prim.Native.Nat.{ℕ}
use mathlib.Core.Path.{◌≡◌, refl, sym}
use mathlib.Core.Bool.{true, false, ◌&&◌, true≢false, false≢true}
use lib.Dec.{eqb}
use native.Mathlib.Omega.{arith}
use borrow.Author.Tests.{eqb-true}
use Rattle.rules.specs.declared.Feed.{Feed}
use Rattle.rules.specs.declared.Feeder.{Feeder}
use Rattle.rules.specs.declared.Input.{Input}
use Rattle.rules.specs.declared.Denial.{Denial}
use Rattle.rules.specs.declared.Fed.{Fed}
use Rattle.rules.specs.Record.{busy, stuck, on, implies}
use Rattle.rules.specs.Calls.{n501, n711, n713}
use Rattle.rules.specs.Feeder.{becomes, denied, ready, loads, fed, denies, driven, ejecting}
use Rattle.rules.proofs.Choice.{choice, vacuous, tollens, and_r}
use Rattle.rules.proofs.Sound.{FeederFit}

-- refused as Busy or as Erred, or as told
ready-cases : (P : Fed → Type 0) (s : Feed) (x : Fed) → (busy s ≡ true → P (denied Denial.WrongState s))
    → (stuck s ≡ true → P (denied Denial.Erred s)) → (busy s ≡ false → stuck s ≡ false → P x) → P (ready s x)
ready-cases P s x b e k = choice P (busy s) b λ f. choice P (stuck s) e (k f)

-- ---- where neither 501 nor 711 is given, the feeder is neither Busy nor Erred, and what is given is what was told
pub record Ready (s : Feed) (x d : Fed) : Type 0 where
  pub free : busy s ≡ false
  pub fit : stuck s ≡ false
  pub told : d ≡ x

pub is-ready : (s : Feed) (x : Fed) → denies n501 (ready s x) ≡ false → denies n711 (ready s x) ≡ false → Ready s x (ready s x)
is-ready s x =
    ready-cases (λ (d : Fed). denies n501 d ≡ false → denies n711 d ≡ false → Ready s x d) s x (λ _ e _. absurd (true≢false e))
    (λ _ _ e. absurd (true≢false e)) (λ b e _ _. record { free = b; fit = e; told = refl })

-- Load's 713 leaves it Unloaded
pub no-sheet : (tray : ℕ) → denies n713 (loads tray) ≡ true → (loads tray).next ≡ Feed.Unloaded
no-sheet tray =
    choice (λ (d : Fed). denies n713 d ≡ true → d.next ≡ Feed.Unloaded) (eqb tray 0) (λ _ _. refl) (λ _ e. absurd (false≢true e))

-- ---- a call leaves the feeder Busy or not as before, refused or accepted
abbrev pub AsBusy : Input → Type 0
AsBusy i = (m : ℕ) (s : Feed) (tray path : ℕ) → busy (fed m s i tray path).next ≡ busy s

pub load-busy : AsBusy Input.Load
unfolding fed
load-busy m s tray path =
    let P : Fed → Type 0 = λ (d : Fed). busy d.next ≡ busy s in
    ready-cases P s _ (λ _. refl) (λ _. refl) (λ b _. choice P (eqb tray 0) (λ _. sym b) (λ _. sym b))

pub eject-busy : (v : ℕ) → AsBusy (ejecting v)
unfolding fed
eject-busy v = choice AsBusy (eqb v 0) (λ _. out) (λ _. out)
  where
    out : (m : ℕ) (s : Feed) (tray path : ℕ) → busy (fed m s Input.EjectOne tray path).next ≡ busy s
    out m s tray path = ready-cases (λ (d : Fed). busy d.next ≡ busy s) s _ (λ _. refl) (λ _. refl) (λ b _. sym b)

pub reset-busy : AsBusy Input.Reset
unfolding fed
reset-busy m s tray path =
    choice (λ (d : Fed). busy d.next ≡ busy s) (busy s) (λ _. refl)
    (λ b. choice (λ (x : Feed). busy x ≡ busy s) (stuck s && eqb path 0) (λ _. sym b) (λ _. refl))

-- and none is Busy once its side has ended
pub side-free : (m : ℕ) (s : Feed) (tray path : ℕ) → busy (fed m s Input.SideEnd tray path).next ≡ false
unfolding fed
side-free m s tray path = choice (λ (x : Feed). busy x ≡ false) (busy s) (λ _. refl) (λ b. b)

-- ---- every input leaves the feeder fit: with path sensor 1 it is Erred afterwards too
pub busy-fit : (x : Feed) → busy x ≡ true → stuck x ≡ false
busy-fit Feed.Unloaded e = refl
busy-fit Feed.Loaded e = refl
busy-fit Feed.Busy e = refl
busy-fit Feed.Erred e = absurd (false≢true e)

module _ (m : ℕ) (s : Feed) (tray path : ℕ) (h : implies (on path) (stuck s) ≡ true) where
  abbrev Jams : Fed → Type 0
  Jams d = implies (on path) (stuck d.next) ≡ true

  off : (x : Feed) → stuck s ≡ false → implies (on path) (stuck x) ≡ true
  off x e = vacuous (on path) (stuck x) (tollens (on path) (stuck s) h e)

  load-jams : Jams (fed m s Input.Load tray path)
  unfolding fed
  load-jams = ready-cases Jams s _ (λ _. h) (λ _. h) (λ _ e. choice Jams (eqb tray 0) (λ _. off Feed.Unloaded e) (λ _. off Feed.Loaded e))

  eject-jams : Jams (ready s (becomes Feed.Unloaded))
  eject-jams = ready-cases Jams s _ (λ _. h) (λ _. h) (λ _ e. off Feed.Unloaded e)

  reset-jams : Jams (fed m s Input.Reset tray path)
  unfolding fed
  reset-jams =
      choice Jams (busy s) (λ _. h)
      (λ _. choice (λ (x : Feed). implies (on path) (stuck x) ≡ true) (stuck s && eqb path 0)
      (λ e. vacuous (on path) false (zero-off (and_r (stuck s) _ e))) (λ _. h))
    where
      zero-off : eqb path 0 ≡ true → on path ≡ false
      zero-off e = rw (eqb-true path 0 e)

  side-jams : Jams (fed m s Input.SideEnd tray path)
  unfolding fed
  side-jams = choice (λ (x : Feed). implies (on path) (stuck x) ≡ true) (busy s) (λ b. off Feed.Unloaded (busy-fit s b)) (λ _. h)

pub driven-fit : (i : Input) (f : Feeder) → FeederFit f → FeederFit (driven i f)
unfolding fed
driven-fit Input.Load f h = record { tray = h.tray; path = h.path; jam = load-jams 0 f.state f.tray f.path h.jam }
driven-fit Input.EjectOne f h = record { tray = h.tray; path = h.path; jam = eject-jams 0 f.state f.tray f.path h.jam }
driven-fit Input.EjectAll f h = record { tray = omega arith; path = h.path; jam = eject-jams 0 f.state f.tray f.path h.jam }
driven-fit Input.Reset f h = record { tray = h.tray; path = h.path; jam = reset-jams 0 f.state f.tray f.path h.jam }
driven-fit Input.Jam f h = record { tray = h.tray; path = omega arith; jam = refl }
driven-fit Input.SideEnd f h = record { tray = h.tray; path = h.path; jam = side-jams 0 f.state f.tray f.path h.jam }
