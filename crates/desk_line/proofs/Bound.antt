-- No line is longer than 640 bytes: a decimal has at most twenty digits, a name at most eighteen bytes, and a picture comes out of
-- a reply of at most 259.
use Prim.Native.Nat.{ℕ, zero, suc, ◌-◌, ◌≤◌}
use mathlib.Core.Path.{◌≡◌, refl, ap}
use mathlib.Core.Bool.{Bool, true, false, cond}
use mathlib.Core.List.{List, [], ◌∷◌, ◌++◌}
use native.Mathlib.Omega.{arith}
use lib.Dec.{ltb}
use lib.ListN.{length, length-append}
use Rattle.rules.specs.declared.Failure.{Failure}
use Rattle.rules.specs.declared.Record.{Record}
use Rattle.rules.specs.Record.{negatives, on}
use Rattle.rules.specs.Calls.{StartScan, Start, Stop, Abort, GetDestination, Fetch, GetState, GetSideInformation, Load, Eject, Reset}
use Rattle.rules.specs.Calls.{SetFeederMode, GetFeederState, GetFeederMode, Bytes, SideEnded, Tray, Path, Tick, Call, scan, feeder, report}
use Rattle.rules.specs.Calls.{State, Outcome, Values, nothing, time, destination, picture, state, sides, feeding, mode, stored, lent}
use Rattle.rules.specs.Name.{digits, name_of, name, name_room}
use Rattle.rules.specs.Machine.{scan_effect, feeder_effect, report_effect, effect, step}
use Rattle.rules.proofs.Choice.{choice}
use Rattle.rules.proofs.Answers.{by-step}
use Rattle.rules.proofs.RingLaws.{length-queue}
use Rattle.desk_text.specs.Digits.{decimal, most_digits, hex_byte}
use Rattle.desk_text.proofs.Putting.{length_digits, length-hexes}
use Rattle.desk_line.specs.Room.{count_room, failure_room, picture_bytes, extra_room}
use Rattle.desk_line.specs.Line.{scan_letter, feed_letter, count_text, failure_text, last_text, extra_of, line_of, line_for, line_room}

-- values that a box with a reply of 259 bytes reports
abbrev pub Short : Values → Type 0
Short nothing = Unit
Short (time seconds) = Unit
Short (destination n id) = length n ≤ name_room
Short (picture k last bytes) = length bytes ≤ picture_bytes
Short (state s failure) = Unit
Short (sides number count long) = Unit
Short (feeding f tray failure) = Unit
Short (mode m) = Unit
Short (stored k) = Unit

-- ---- the columns
length-decimal : (n : ℕ) → length (decimal n) ≤ most_digits
length-decimal n = length_digits most_digits n

length-failure : (f : Failure) → length (failure_text f) ≤ failure_room
length-failure Failure.None = omega arith
length-failure Failure.Jammed = omega arith
length-failure Failure.Timeout = omega arith

length_last : (last : Bool) → length (last_text last) ≤ 1
length_last true = omega arith
length_last false = omega arith

length-count : (c : ℕ) → length (count_text c) ≤ count_room
length-count c =
    choice (λ (l : List ℕ). length l ≤ count_room) (ltb c negatives) (λ _. omega (arith, length-decimal c)) (λ _. omega (arith, length-decimal (4294967296 - c)))

length-extra : (v : Values) → Short v → length (extra_of v) ≤ extra_room
length-extra nothing h = omega arith
length-extra (time seconds) h = omega (arith, length-decimal seconds)
length-extra (destination n id) h = simp length-append (omega (arith, length-decimal id))
length-extra (picture k last bytes) h =
    simp length-append (omega (arith, length-decimal k, length_last last, length-hexes bytes))
length-extra (state s failure) h = omega (arith, length-failure failure)
length-extra (sides number count long) h = omega arith
length-extra (feeding f tray failure) h = simp length-append (omega (arith, length-decimal tray, length-failure failure))
length-extra (mode m) h = omega arith
length-extra (stored k) h = omega (arith, length-decimal k)

row-length : (kind number job side count extra : List ℕ) (s f : ℕ) → length kind ≤ 2 → length number ≤ most_digits → length job ≤ most_digits
    → length side ≤ most_digits → length count ≤ count_room → length extra ≤ extra_room
    → length (kind ++ 32 ∷ (number ++ 32 ∷ s ∷ 32 ∷ f ∷ 32 ∷ (job ++ 32 ∷ (side ++ 32 ∷ (count ++ 32 ∷ (extra ++ 10 ∷ [])))))) ≤ line_room
row-length kind number job side count extra s f a b c d e g = simp length-append (omega arith)

pub line-bound : (kind number : ℕ) (v : Values) (r : Record) → Short v → length (line_of kind number v r) ≤ line_room
unfolding line_of
line-bound kind number v r h =
    row-length (hex_byte kind) (decimal number) (decimal r.job.held) (decimal r.side.number) (count_text r.side.count) (extra_of v)
    (scan_letter r.scanner.state) (feed_letter r.feeder.state)
    (omega arith) (length-decimal number) (length-decimal r.job.held) (length-decimal r.side.number) (length-count r.side.count)
    (length-extra v h)

-- ---- what the rules report
length-ten : (k n : ℕ) → length (digits k n) ≡ k
length-ten zero n = refl
length-ten (suc k) n = ap suc (length-ten k n)

pub length-name : (r : Record) → length (name r) ≤ name_room
unfolding name_of
length-name r =
    let side : length (cond (on r.settings.append) (digits 3 r.side.number) []) ≤ 3 =
    choice (λ (l : List ℕ). length l ≤ 3) (on r.settings.append) (λ _. omega (arith, length-ten 3 r.side.number)) (λ _. omega arith) in
    simp length-append (omega (arith, length-ten 10 r.job.held))

effect-short : (c : Call) (s : State) → length (lent c) ≤ 259 → Short (effect c s).values
unfolding effect scan_effect feeder_effect report_effect
effect-short (scan (StartScan from count append asked)) s h = tt
effect-short (scan (Start j from count)) s h = tt
effect-short (scan (Stop j)) s h = tt
effect-short (scan (Abort j)) s h = tt
effect-short (scan (GetDestination j)) s h = length-name s.box
effect-short (scan (Fetch called most reply)) s h = rw length-queue (omega arith)
effect-short (scan GetState) s h = tt
effect-short (scan GetSideInformation) s h = tt
effect-short (feeder (Load j)) s h = tt
effect-short (feeder (Eject j v)) s h = tt
effect-short (feeder (Reset j)) s h = tt
effect-short (feeder (SetFeederMode j m)) s h = tt
effect-short (feeder GetFeederState) s h = tt
effect-short (feeder GetFeederMode) s h = tt
effect-short (report (Bytes bs)) s h = tt
effect-short (report SideEnded) s h = tt
effect-short (report (Tray v)) s h = tt
effect-short (report (Path v)) s h = tt
effect-short (report Tick) s h = tt

pub step-short : (s : State) (c : Call) → length (lent c) ≤ 259 → Short (step s c).values
step-short s c h = by-step (λ (o : Outcome). Short o.values) s c (λ _. tt) (λ _ _ _ _. tt) (λ _. effect-short c s h)

pub step-bound : (kind : ℕ) (s : State) (c : Call) → length (lent c) ≤ 259 → length (line_for kind (step s c)) ≤ line_room
step-bound kind s c h = line-bound kind _ _ (step s c).state.box (step-short s c h)
