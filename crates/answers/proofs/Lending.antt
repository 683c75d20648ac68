-- A request is a fetch, or it is lent no reply and tells of none.
use Prim.Native.Nat.{ℕ, ◌≤◌, zero-le}
use native.Mathlib.Nat.{le_refl}
use mathlib.Core.Path.{◌≡◌, refl, sym, ap, ◌∙◌}
use mathlib.Core.List.{List, []}
use lib.ListN.{length}
use Rattle.std.specs.Prelude.{Ok, Err}
use Rattle.rules.specs.declared.Record.{Record}
use Rattle.rules.specs.Calls.{Call, State, Outcome, lent, Values, nothing, time, destination, picture, state, sides, feeding, mode, stored}
use Rattle.rules.specs.Machine.{step, effect, scan_effect, feeder_effect, report_effect}
use Rattle.rules.proofs.Answers.{by-step}
use Rattle.answers.specs.declared.Request.{Request}
use Rattle.answers.specs.declared.Told.{Told}
use Rattle.answers.specs.Asked.{asked, replied}
use Rattle.answers.specs.Told.{Answer, After, values_told, gave}

-- values that are no picture
abbrev pub Plain : Values → Type 0
Plain nothing = Unit
Plain (time t) = Unit
Plain (destination n i) = Unit
Plain (picture k l bs) = ⊥
Plain (state s f) = Unit
Plain (sides n c l) = Unit
Plain (feeding f t x) = Unit
Plain (mode m) = Unit
Plain (stored k) = Unit

-- of a request with some bytes given, whatever the reply: its call is one and the same, is lent nothing and tells no picture
pub record Unlent (q : Request) (given : List ℕ) (c : Call) : Type 0 where
  pub same : (reply : List ℕ) → asked q given reply ≡ c
  pub none : lent c ≡ []
  pub kept : (o : Outcome) (reply : List ℕ) → replied c o reply ≡ reply
  pub plain : (s : State) → Plain (effect c s).values

pub data Lending (given : List ℕ) : Request → Type 0 where
  fetches : (most : ℕ) → Lending given (Request.Fetch most)
  lends_none : {q : Request} (c : Call) → Unlent q given c → Lending given q

unlent : (q : Request) (given : List ℕ) (c : Call) → ((reply : List ℕ) → asked q given reply ≡ c) → lent c ≡ []
    → ((o : Outcome) (reply : List ℕ) → replied c o reply ≡ reply) → ((s : State) → Plain (effect c s).values) → Lending given q
unlent q given c a b d e = lends_none c (record { same = a; none = b; kept = d; plain = e })

pub lending : (q : Request) (given : List ℕ) → Lending given q
unfolding effect scan_effect feeder_effect report_effect
lending (Request.Fetch most) given = fetches most
lending (Request.StartScan f n a t) given = unlent _ given (asked (Request.StartScan f n a t) given []) (λ _. refl) refl (λ _ _. refl) (λ _. tt)
lending (Request.Start j f n) given = unlent _ given (asked (Request.Start j f n) given []) (λ _. refl) refl (λ _ _. refl) (λ _. tt)
lending (Request.Stop j) given = unlent _ given (asked (Request.Stop j) given []) (λ _. refl) refl (λ _ _. refl) (λ _. tt)
lending (Request.Abort j) given = unlent _ given (asked (Request.Abort j) given []) (λ _. refl) refl (λ _ _. refl) (λ _. tt)
lending (Request.GetDestination j) given = unlent _ given (asked (Request.GetDestination j) given []) (λ _. refl) refl (λ _ _. refl) (λ _. tt)
lending Request.GetState given = unlent _ given (asked Request.GetState given []) (λ _. refl) refl (λ _ _. refl) (λ _. tt)
lending Request.GetSideInformation given = unlent _ given (asked Request.GetSideInformation given []) (λ _. refl) refl (λ _ _. refl) (λ _. tt)
lending (Request.Load j) given = unlent _ given (asked (Request.Load j) given []) (λ _. refl) refl (λ _ _. refl) (λ _. tt)
lending (Request.Eject j v) given = unlent _ given (asked (Request.Eject j v) given []) (λ _. refl) refl (λ _ _. refl) (λ _. tt)
lending (Request.Reset j) given = unlent _ given (asked (Request.Reset j) given []) (λ _. refl) refl (λ _ _. refl) (λ _. tt)
lending (Request.SetFeederMode j m) given = unlent _ given (asked (Request.SetFeederMode j m) given []) (λ _. refl) refl (λ _ _. refl) (λ _. tt)
lending Request.GetFeederState given = unlent _ given (asked Request.GetFeederState given []) (λ _. refl) refl (λ _ _. refl) (λ _. tt)
lending Request.GetFeederMode given = unlent _ given (asked Request.GetFeederMode given []) (λ _. refl) refl (λ _ _. refl) (λ _. tt)
lending Request.Bytes given = unlent _ given (asked Request.Bytes given []) (λ _. refl) refl (λ _ _. refl) (λ _. tt)
lending Request.SideEnded given = unlent _ given (asked Request.SideEnded given []) (λ _. refl) refl (λ _ _. refl) (λ _. tt)
lending (Request.Tray v) given = unlent _ given (asked (Request.Tray v) given []) (λ _. refl) refl (λ _ _. refl) (λ _. tt)
lending (Request.Path v) given = unlent _ given (asked (Request.Path v) given []) (λ _. refl) refl (λ _ _. refl) (λ _. tt)
lending Request.Tick given = unlent _ given (asked Request.Tick given []) (λ _. refl) refl (λ _ _. refl) (λ _. tt)

-- no call is lent more than the reply
within : {q : Request} {given : List ℕ} (reply : List ℕ) → Lending given q → length (lent (asked q given reply)) ≤ length reply
within reply (fetches most) = le_refl (length reply)
within reply (lends_none c u) = rw (u.same reply, u.none) zero-le

pub lent-within : (q : Request) (given reply : List ℕ) → length (lent (asked q given reply)) ≤ length reply
lent-within q given reply = within reply (lending q given)

plain_step : (s : State) (c : Call) → ((s : State) → Plain (effect c s).values) → Plain (step s c).values
plain_step s c p = by-step (λ (o : Outcome). Plain o.values) s c (λ _. tt) (λ _ _ _ _. tt) (λ _. p s)

plain-told : (r : Record) (x y : List ℕ) (a : Answer) → Plain (values_told r x a) → values_told r x a ≡ values_told r y a
plain-told r x y (Ok Told.Done) p = refl
plain-told r x y (Ok (Told.Time t)) p = refl
plain-told r x y (Ok (Told.Destination i)) p = refl
plain-told r x y (Ok (Told.Picture k l)) p = absurd p
plain-told r x y (Ok (Told.State s f)) p = refl
plain-told r x y (Ok (Told.Sides n c l)) p = refl
plain-told r x y (Ok (Told.Feeding f t w)) p = refl
plain-told r x y (Ok (Told.Mode m)) p = refl
plain-told r x y (Ok (Told.Stored k)) p = refl
plain-told r x y (Err why) p = refl

-- so what is told may be read beside the whole reply, whatever the request
beside : {q : Request} {given : List ℕ} (s : State) (reply after : List ℕ) (a : After) → Lending given q
    → values_told a.next (lent (asked q given after)) a.answer ≡ (step s (asked q given reply)).values
    → values_told a.next after a.answer ≡ (step s (asked q given reply)).values
beside s reply after a (fetches most) e = e
beside {q} {given} s reply after a (lends_none c u) e =
    let p : Plain (step s (asked q given reply)).values = rw (u.same reply) (plain_step s c u.plain) in
    sym (plain-told a.next (lent (asked q given after)) after a.answer (rw e p)) ∙ e

pub told-beside : (s : State) (q : Request) (given reply after ring : List ℕ) (a : After)
    → gave a ring (lent (asked q given after)) ≡ step s (asked q given reply)
    → values_told a.next after a.answer ≡ (step s (asked q given reply)).values
told-beside s q given reply after ring a e = beside s reply after a (lending q given) (ap (λ (o : Outcome). o.values) e)
