-- How a list of refusals is walked: the first test that holds gives the answer. Demand 1 rests on this alone.
use Prim.Native.Nat.{ℕ, ◌≤◌, ◌<◌}
use mathlib.Core.Path.{◌≡◌, refl, sym, ◌∙◌, ap, subst}
use mathlib.Core.Logic.{◌↔◌, ◌≢◌}
use mathlib.Core.Bool.{Bool, true, false, ◌&&◌, ◌||◌, true≢false, false≢true}
use mathlib.Core.List.{List, [], ◌∷◌}
use mathlib.Core.Option.{Option, some}
use lib.Dec.{leb, ltb, eqb}
use lib.ListN.{length}
use native.Mathlib.Omega.{arith}
use borrow.Author.Tests.{ltb-true, eqb-true, not-false}
use Rattle.rules.specs.declared.Scan.{Scan}
use Rattle.rules.specs.declared.Feed.{Feed}
use Rattle.rules.specs.declared.Feeder.{Feeder}
use Rattle.rules.specs.declared.Input.{Input}
use Rattle.rules.specs.Record.{scanning, erred, idle, busy, stuck}
use Rattle.rules.specs.Feeder.{stands, loads, fed, fed_at, denies}
use Rattle.rules.specs.Moves.{with_feeder}
use Rattle.rules.specs.Calls.{row_of, StartScan, Start, Stop, Abort, GetDestination, Fetch, GetState, GetSideInformation, Load, Eject, Reset}
use Rattle.rules.specs.Calls.{SetFeederMode, GetFeederState, GetFeederMode, Bytes, SideEnded, Tray, Path, Tick, Call, scan, feeder, report, Reason}
use Rattle.rules.specs.Calls.{n604, n601, n712, n404, n501, n711, n713, n603, number_of, named, State, Outcome, Guard, refuse, leaving, refused, answer}
use Rattle.rules.specs.Machine.{start, not_held, not_ours, scan_refusals, feeder_refusals, report_refusals, refusals, scan_effect, feeder_effect, report_effect}
use Rattle.rules.specs.Machine.{effect, all_guards, step}
use Rattle.rules.specs.Watch.{scan_of, was_accepted, sign}
use Rattle.rules.specs.Promises.{below, bears, First, no_guard, refuses, passes, leaves, goes, OneOf, zero, here, there, reasons, left_by, Refusal}
use Rattle.rules.proofs.Choice.{or_r, and_l, and_r}
use Rattle.rules.proofs.Feeding.{is-ready, no-sheet}
use Rattle.rules.proofs.Sound.{Sound, from-sound}

pub nonzero : (n : Reason) → eqb (number_of n) 0 ≡ false
nonzero n604 = refl
nonzero n601 = refl
nonzero n712 = refl
nonzero n404 = refl
nonzero n501 = refl
nonzero n711 = refl
nonzero n713 = refl
nonzero n603 = refl

-- ---- the first guard that holds
first_one : {m n : ℕ} {ls : List Guard} → First m ls → First n ls → m ≡ n
first_one no_guard no_guard = refl
first_one (refuses e) (refuses f) = refl
first_one (refuses e) (passes f q) = absurd (true≢false (sym e ∙ f))
first_one (passes e p) (refuses f) = absurd (true≢false (sym f ∙ e))
first_one (passes e p) (passes f q) = first_one p q
first_one (leaves e) (leaves f) = refl
first_one (leaves e) (goes f q) = absurd (true≢false (sym e ∙ f))
first_one (goes e p) (leaves f) = absurd (true≢false (sym f ∙ e))
first_one (goes e p) (goes f q) = first_one p q

answers : (ls : List Guard) (s : State) (c : Call) (o : Outcome) → o.number ≡ 0 → First (answer ls s c o).number ls
unfolding answer
answers [] s c o e = rw e no_guard
answers (refuse n true ∷ ls) s c o e = refuses refl
answers (refuse n false ∷ ls) s c o e = passes refl (answers ls s c o e)
answers (leaving n true r ∷ ls) s c o e = leaves refl
answers (leaving n false r ∷ ls) s c o e = goes refl (answers ls s c o e)

-- ---- what the calls' lists and effects have in common, call by call
-- no guard leaves anything but all as it was
abbrev keeping : List Guard → Bool
keeping [] = true
keeping (refuse n t ∷ ls) = keeping ls
keeping (leaving n t r ∷ ls) = false

abbrev is_load : Call → Bool
is_load (scan c) = false
is_load (feeder (Load j)) = true
is_load (feeder (Eject j v)) = false
is_load (feeder (Reset j)) = false
is_load (feeder (SetFeederMode j m)) = false
is_load (feeder GetFeederState) = false
is_load (feeder GetFeederMode) = false
is_load (report c) = false

-- accepted it answers 0; its list has the reasons named for it, in the table's order; Load's alone leaves anything
record Formed (c : Call) (s : State) : Type 0 where
  accepts : (effect c s).number ≡ 0
  names : reasons (refusals c s) ≡ named c
  order : below 1 (named c) ≡ true
  keeps : (is_load c || keeping (refusals c s)) ≡ true

formed : (c : Call) (s : State) → Formed c s
unfolding effect scan_effect feeder_effect report_effect refusals scan_refusals feeder_refusals report_refusals
formed (scan (StartScan from c append asked)) s = record { accepts = refl; names = refl; order = refl; keeps = refl }
formed (scan (Start j from c)) s = record { accepts = refl; names = refl; order = refl; keeps = refl }
formed (scan (Stop j)) s = record { accepts = refl; names = refl; order = refl; keeps = refl }
formed (scan (Abort j)) s = record { accepts = refl; names = refl; order = refl; keeps = refl }
formed (scan (GetDestination j)) s = record { accepts = refl; names = refl; order = refl; keeps = refl }
formed (scan (Fetch called most reply)) s = record { accepts = refl; names = refl; order = refl; keeps = refl }
formed (scan GetState) s = record { accepts = refl; names = refl; order = refl; keeps = refl }
formed (scan GetSideInformation) s = record { accepts = refl; names = refl; order = refl; keeps = refl }
formed (feeder (Load j)) s = record { accepts = refl; names = refl; order = refl; keeps = refl }
formed (feeder (Eject j v)) s = record { accepts = refl; names = refl; order = refl; keeps = refl }
formed (feeder (Reset j)) s = record { accepts = refl; names = refl; order = refl; keeps = refl }
formed (feeder (SetFeederMode j m)) s = record { accepts = refl; names = refl; order = refl; keeps = refl }
formed (feeder GetFeederState) s = record { accepts = refl; names = refl; order = refl; keeps = refl }
formed (feeder GetFeederMode) s = record { accepts = refl; names = refl; order = refl; keeps = refl }
formed (report (Bytes bs)) s = record { accepts = refl; names = refl; order = refl; keeps = refl }
formed (report SideEnded) s = record { accepts = refl; names = refl; order = refl; keeps = refl }
formed (report (Tray v)) s = record { accepts = refl; names = refl; order = refl; keeps = refl }
formed (report (Path v)) s = record { accepts = refl; names = refl; order = refl; keeps = refl }
formed (report Tick) s = record { accepts = refl; names = refl; order = refl; keeps = refl }

first_of : (s : State) (c : Call) → First (step s c).number (all_guards c s)
unfolding step
first_of s c = answers (all_guards c s) s c (effect c s) (formed c s).accepts

pub in_order : (s : State) (c : Call) (n : ℕ) → ((step s c).number ≡ n) ↔ First n (all_guards c s)
in_order s c n = (
  λ (e : (step s c).number ≡ n). subst (λ (m : ℕ). First m (all_guards c s)) e (first_of s c),
  λ (p : First n (all_guards c s)). first_one (first_of s c) p,
)

-- ---- the numbers named
first-named : {n : ℕ} {ls : List Guard} → First n ls → OneOf n (reasons ls)
first-named no_guard = zero
first-named (refuses e) = here
first-named (passes e p) = there (first-named p)
first-named (leaves e) = here
first-named (goes e p) = there (first-named p)

-- each list has the reasons named for its call
pub as-named : (s : State) (c : Call) → reasons (refusals c s) ≡ named c
as-named s c = (formed c s).names

pub only-named : (s : State) (c : Call) → OneOf (step s c).number (n604 ∷ named c)
only-named s c = subst (λ (rs : List Reason). OneOf (step s c).number (n604 ∷ rs)) (formed c s).names (first-named (first_of s c))

-- ---- what holds of each answer
-- no test of the list holds
abbrev pub Clear : List Guard → Type 0
Clear [] = Unit {0}
Clear (refuse n t ∷ ls) = (t ≡ false) × Clear ls
Clear (leaving n t r ∷ ls) = (t ≡ false) × Clear ls

-- P of each guard's refusal, the guards before it being clear
abbrev pub Leaves : (Outcome → Type 0) → List Guard → State → Call → Type 0
Leaves P [] s c = Unit {0}
Leaves P (refuse n t ∷ ls) s c = P (refused n s.box s c) × (t ≡ false → Leaves P ls s c)
Leaves P (leaving n t r ∷ ls) s c = (t ≡ true → P (refused n r s c)) × (t ≡ false → Leaves P ls s c)

pub by_tests : (P : Outcome → Type 0) (ls : List Guard) (s : State) (c : Call) (o : Outcome) → Leaves P ls s c → (Clear ls → P o)
    → P (answer ls s c o)
unfolding answer
by_tests P [] s c o l ok = ok tt
by_tests P (refuse n true ∷ ls) s c o l ok = l.0
by_tests P (refuse n false ∷ ls) s c o l ok = by_tests P ls s c o (l.1 refl) (λ k. ok (refl, k))
by_tests P (leaving n true r ∷ ls) s c o l ok = l.0 refl
by_tests P (leaving n false r ∷ ls) s c o l ok = by_tests P ls s c o (l.1 refl) (λ k. ok (refl, k))

-- Load alone has a `leaving` guard
abbrev pub Unloading : (Outcome → Type 0) → State → Call → Type 0
Unloading P s c =
    (j : ℕ) → c ≡ feeder (Load j) → busy s.box.feeder.state ≡ false → stuck s.box.feeder.state ≡ false
    → P (refused n713 (with_feeder (stands Feed.Unloaded s.box.feeder) s.box) s c)

-- its 713 comes to a feeder that is neither Busy nor Erred, and leaves it Unloaded
no-sheet-left : (P : Outcome → Type 0) (s : State) (j : ℕ) → Unloading P s (feeder (Load j))
    → denies n501 (fed_at Input.Load s.box.feeder) ≡ false → denies n711 (fed_at Input.Load s.box.feeder) ≡ false
    → denies n713 (loads s.box.feeder.tray) ≡ true
    → P (refused n713 (with_feeder (stands (loads s.box.feeder.tray).next s.box.feeder) s.box) s (feeder (Load j)))
unfolding fed
no-sheet-left P s j u b x e =
    let h = is-ready s.box.feeder.state _ b x in
    rw (no-sheet s.box.feeder.tray e) (u j refl h.free h.fit)

-- a list that keeps all as it was
keeping-leaves : (P : Outcome → Type 0) (ls : List Guard) (s : State) (c : Call) → ((n : Reason) → P (refused n s.box s c))
    → keeping ls ≡ true → Leaves P ls s c
keeping-leaves P [] s c kept e = tt
keeping-leaves P (refuse n t ∷ ls) s c kept e = (kept n, λ _. keeping-leaves P ls s c kept e)
keeping-leaves P (leaving n t r ∷ ls) s c kept e = absurd (false≢true e)

leaves_of : (P : Outcome → Type 0) (s : State) (c : Call) → ((n : Reason) → P (refused n s.box s c)) → Unloading P s c
    → (is_load c || keeping (refusals c s)) ≡ true → Leaves P (refusals c s) s c
unfolding refusals feeder_refusals
leaves_of P s (scan c) kept u e = keeping-leaves P (refusals (scan c) s) s (scan c) kept e
leaves_of P s (feeder (Load j)) kept u e = (kept n712, λ _. (kept n501, λ b. (kept n711, λ x. (no-sheet-left P s j u b x, λ _. tt))))
leaves_of P s (feeder (Eject j v)) kept u e = keeping-leaves P (refusals (feeder (Eject j v)) s) s (feeder (Eject j v)) kept e
leaves_of P s (feeder (Reset j)) kept u e = keeping-leaves P (refusals (feeder (Reset j)) s) s (feeder (Reset j)) kept e
leaves_of P s (feeder (SetFeederMode j m)) kept u e = keeping-leaves P (refusals (feeder (SetFeederMode j m)) s) s (feeder (SetFeederMode j m)) kept e
leaves_of P s (feeder GetFeederState) kept u e = tt
leaves_of P s (feeder GetFeederMode) kept u e = tt
leaves_of P s (report c) kept u e = keeping-leaves P (refusals (report c) s) s (report c) kept e

-- a property of every refusal and of the effect is one of the step
pub by-step : (P : Outcome → Type 0) (s : State) (c : Call) → ((n : Reason) → P (refused n s.box s c)) → Unloading P s c
    → (Clear (refusals c s) → P (effect c s)) → P (step s c)
unfolding step
by-step P s c kept u ok = by_tests P (all_guards c s) s c (effect c s) (kept n604, λ _. leaves_of P s c kept u (formed c s).keeps) (λ k. ok k.1)

-- ---- a refused call leaves all as it was and reports nothing, but for Load's 713
accepted-not : (s : State) (c : Call) (o : Outcome) → o.number ≡ 0 → eqb o.number 0 ≡ false → Refusal s c o
accepted-not s c o z e = absurd (true≢false (sym (ap (λ (n : ℕ). eqb n 0) z) ∙ e))

abbrev pub Refusing : State → Call → Outcome → Type 0
Refusing s c o = eqb o.number 0 ≡ false → Refusal s c o

refusing : (s : State) (c : Call) → ((n : ℕ) → left_by c n s ≡ s) → is_load c ≡ false → Refusing s c (step s c)
refusing s c e l =
    by-step (Refusing s c) s c (λ n _. record { values = refl; reply = refl; left = sym (e (number_of n)) })
    (λ j q _ _. absurd (true≢false (sym (ap is_load q) ∙ l))) (λ _. accepted-not s c (effect c s) (formed c s).accepts)

load-refusing : (s : State) (j : ℕ) → Refusing s (feeder (Load j)) (step s (feeder (Load j)))
unfolding step refusals feeder_refusals
load-refusing s j =
    let c = feeder (Load j) in
    let kept : (n : Reason) → eqb (number_of n) 713 ≡ false → Refusing s c (refused n s.box s c) =
    λ n e _. record { values = refl; reply = refl; left = rw e } in
    by_tests (Refusing s c) (all_guards c s) s c (effect c s) (
      kept n604 refl,
      λ _. (
        kept n712 refl,
        λ _. (
          kept n501 refl,
          λ b. (
            kept n711 refl,
            λ x. (
              no-sheet-left (Refusing s c) s j (λ _ _ _ _ _. record { values = refl; reply = refl; left = refl }) b x,
              λ _. tt,
            ),
          ),
        ),
      ),
    )
    (λ _. accepted-not s c (effect c s) (formed c s).accepts)

pub refused-keeps : (s : State) (c : Call) → Refusing s c (step s c)
refused-keeps s (scan c) = refusing s (scan c) (λ _. refl) refl
refused-keeps s (feeder (Load j)) = load-refusing s j
refused-keeps s (feeder (Eject j v)) = refusing s (feeder (Eject j v)) (λ _. refl) refl
refused-keeps s (feeder (Reset j)) = refusing s (feeder (Reset j)) (λ _. refl) refl
refused-keeps s (feeder (SetFeederMode j m)) = refusing s (feeder (SetFeederMode j m)) (λ _. refl) refl
refused-keeps s (feeder GetFeederState) = refusing s (feeder GetFeederState) (λ _. refl) refl
refused-keeps s (feeder GetFeederMode) = refusing s (feeder GetFeederMode) (λ _. refl) refl
refused-keeps s (report c) = refusing s (report c) (λ _. refl) refl

-- a sound record is not refused by 604
abbrev pub Good : State → Type 0
Good s = Sound s.box (length s.bytes)

pub plain : (s : State) (c : Call) → Good s → step s c ≡ answer (refusals c s) s c (effect c s)
unfolding step answer
plain s c h = rw (from-sound s.box (length s.bytes) h)

-- ---- the lists stand in the order of the table, so 604 is in none of them
pub table-order : (c : Call) → below 1 (named c) ≡ true
table-order c = (formed c (start [])).order

lower : (r : Reason) (n : ℕ) → 1 ≤ n → ltb n (row_of r) ≡ true → (number_of r ≢ 604) × (1 ≤ row_of r)
lower n604 n h e = absurd (none-lower n h (ltb-true n 1 e))
  where
    none-lower : (n : ℕ) → 1 ≤ n → n < 1 → ⊥
    none-lower n a b = omega arith
lower n601 n h e = (omega arith, omega arith)
lower n712 n h e = (omega arith, omega arith)
lower n404 n h e = (omega arith, omega arith)
lower n501 n h e = (omega arith, omega arith)
lower n711 n h e = (omega arith, omega arith)
lower n713 n h e = (omega arith, omega arith)
lower n603 n h e = (omega arith, omega arith)

one_below : {n : ℕ} {rs : List Reason} → OneOf n rs → (k : ℕ) → 1 ≤ k → below k rs ≡ true → n ≢ 604
one_below zero k h e = omega arith
one_below (here {r = r}) k h e = (lower r k h (and_l (ltb k (row_of r)) _ e)).0
one_below (there {r = r} p) k h e = one_below p (row_of r) (lower r k h (and_l (ltb k (row_of r)) _ e)).1 (and_r (ltb k (row_of r)) _ e)

pub not-604 : (s : State) (c : Call) → Good s → (step s c).number ≢ 604
not-604 s c h =
    let p : First (step s c).number (refusals c s) = rw (plain s c h) (answers (refusals c s) s c (effect c s) (formed c s).accepts) in
    let o : OneOf (step s c).number (named c) = subst (OneOf (step s c).number) (formed c s).names (first-named p) in
    one_below o 1 (omega arith) (table-order c)

-- ---- a refused call is no sign of life, and a call that bears another number is refused
pub scans-on : (x : Scan) → (scanning x && erred x) ≡ false
scans-on Scan.Idle = refl
scans-on Scan.Pending = refl
scans-on Scan.Scanning = refl
scans-on Scan.Finishing = refl
scans-on Scan.Erred = refl

module _ (s : State) (f : Feeder) (n : Reason) where
  -- also where the feeder is left otherwise
  pub refusal-silent : (c : Call) → sign c (scan_of s) (refused n (with_feeder f s.box) s c) ≡ false
  refusal-silent (scan (StartScan from count append asked)) = nonzero n
  refusal-silent (scan (Start j from count)) = nonzero n
  refusal-silent (scan (Stop j)) = refl
  refusal-silent (scan (Abort j)) = refl
  refusal-silent (scan (GetDestination j)) = refl
  refusal-silent (scan (Fetch called most reply)) = refl
  refusal-silent (scan GetState) = refl
  refusal-silent (scan GetSideInformation) = refl
  refusal-silent (feeder c) = refl
  refusal-silent (report (Bytes bs)) = ap (λ (x : Bool). x && leb 1 (length bs)) (nonzero n)
  refusal-silent (report SideEnded) = nonzero n
  refusal-silent (report (Tray v)) = refl
  refusal-silent (report (Path v)) = scans-on (scan_of s)
  refusal-silent (report Tick) = refl

pub refused-silent : (s : State) (c : Call) → was_accepted (step s c) ≡ false → sign c (scan_of s) (step s c) ≡ false
refused-silent s c =
    by-step (λ (o : Outcome). was_accepted o ≡ false → sign c (scan_of s) o ≡ false) s c (λ n _. refusal-silent s s.box.feeder n c)
    (λ _ _ _ _ _. refusal-silent s (stands Feed.Unloaded s.box.feeder) n713 c)
    (λ _ e. absurd (true≢false (sym (ap (λ (n : ℕ). eqb n 0) (formed c s).accepts) ∙ e)))

-- what the job tests say, for scan calls and for feeder calls
held_by : (s : State) {i j : ℕ} → not_held i s.box ≡ false → ◌≡◌ {A = Option ℕ} (some i) (some j) → j ≡ s.box.job.held
held_by s {i} {j} k e =
    let x = eqb-true i s.box.job.held (not-false _ (or_r (idle (scan_of s)) _ k)) in
    cc

ours-by : (s : State) {i j : ℕ} → not_ours i s.box ≡ false → ◌≡◌ {A = Option ℕ} (some i) (some j) → j ≡ s.box.job.held
ours-by s {i} {j} k e =
    let x = eqb-true i s.box.job.held (not-false _ k) in
    cc

bearing : (s : State) (c : Call) (j : ℕ) → bears c ≡ some j → Clear (refusals c s) → j ≡ s.box.job.held
unfolding refusals scan_refusals feeder_refusals
bearing s (scan (StartScan from count append asked)) j e k = cc
bearing s (scan (Start i from count)) j e k = held_by s k.1.0 e
bearing s (scan (Stop i)) j e k = held_by s k.0 e
bearing s (scan (Abort i)) j e k = held_by s k.0 e
bearing s (scan (GetDestination i)) j e k = held_by s k.0 e
bearing s (scan (Fetch called most reply)) j e k = cc
bearing s (scan GetState) j e k = cc
bearing s (scan GetSideInformation) j e k = cc
bearing s (feeder (Load i)) j e k = ours-by s k.0 e
bearing s (feeder (Eject i v)) j e k = ours-by s k.1.0 e
bearing s (feeder (Reset i)) j e k = ours-by s k.0 e
bearing s (feeder (SetFeederMode i m)) j e k = ours-by s k.1.0 e
bearing s (feeder GetFeederState) j e k = cc
bearing s (feeder GetFeederMode) j e k = cc
bearing s (report c) j e k = cc

pub bearing-refused : (s : State) (c : Call) (j : ℕ) → bears c ≡ some j → j ≢ s.box.job.held → was_accepted (step s c) ≡ false
bearing-refused s c j e d =
    by-step (λ (o : Outcome). was_accepted o ≡ false) s c nonzero (λ _ _ _ _. refl) (λ k. absurd (d (bearing s c j e k)))
