-- What the theorems say, in the words of the three demands. The theorems stand in proofs/Theorems.antt.
use Rattle.std.specs.Prelude.{ℕ, suc, ◌+◌, ◌%◌, ◌≤◌, ◌<◌, ◌≡◌, ◌≢◌, Bool, true, false, ◌&&◌, ◌||◌, cond, List, [], ◌∷◌, ◌++◌, map, eqb, ltb, ℤ, pos, negsuc, length, take, drop}
use Rattle.std.proofs.Math.Option.{Option, none, some}
use Rattle.rules.specs.declared.Feed.{Feed}
use Rattle.rules.specs.declared.Failure.{Failure}
use Rattle.rules.specs.declared.Record.{Record}
use Rattle.rules.specs.Record.{greatest, most_sides, most_ring, pending, erred}
use Rattle.rules.specs.Feeder.{stands}
use Rattle.rules.specs.Name.{name}
use Rattle.rules.specs.Moves.{with_feeder}
use Rattle.rules.specs.Calls.{StartScan, Start, Stop, Abort, GetDestination, Fetch, GetState, GetSideInformation, Eject, Reset, SetFeederMode}
use Rattle.rules.specs.Calls.{GetFeederState, GetFeederMode, row_of, Load, SideEnded, Tick, Call, scan, feeder, report, Reason, number_of, State, nothing}
use Rattle.rules.specs.Calls.{picture, Outcome, lent, Guard, refuse, leaving, to}
use Rattle.rules.specs.Machine.{step}
use Rattle.rules.specs.Watch.{scan_of, bytes_in, count_in, sign, ticks, seconds, Tagged, byte_of, bytes_accepted, waiting, stop_asked, World, after, holder}
use Rattle.rules.specs.Watch.{changes, due_second}

-- every member of a list has a property
abbrev pub All : {A : Type 0} → (A → Type 0) → List A → Type 0
All P [] = Unit {0}
All P (x ∷ xs) = P x × All P xs

-- a ring that a box may be lent
pub record Ringed (ring : List ℕ) : Type 0 where
  pub least : 1 ≤ length ring
  pub most : length ring ≤ most_ring

-- ---- demand 1
-- n is the number of the first guard whose test holds, or 0 where none does
pub data First : ℕ → List Guard → Type 0 where
  no_guard : First 0 []
  refuses : {n : Reason} {t : Bool} {ls : List Guard} → t ≡ true → First (number_of n) (refuse n t ∷ ls)
  passes : {m : ℕ} {n : Reason} {t : Bool} {ls : List Guard} → t ≡ false → First m ls → First m (refuse n t ∷ ls)
  leaves : {n : Reason} {t : Bool} {r : Record} {ls : List Guard} → t ≡ true → First (number_of n) (leaving n t r ∷ ls)
  goes : {m : ℕ} {n : Reason} {t : Bool} {r : Record} {ls : List Guard} → t ≡ false → First m ls → First m (leaving n t r ∷ ls)

-- 0, or the number of one of the reasons
pub data OneOf : ℕ → List Reason → Type 0 where
  zero : {rs : List Reason} → OneOf 0 rs
  here : {r : Reason} {rs : List Reason} → OneOf (number_of r) (r ∷ rs)
  there : {n : ℕ} {r : Reason} {rs : List Reason} → OneOf n rs → OneOf n (r ∷ rs)

-- the reasons stand in the order of the table's rows, below row n
abbrev pub below : ℕ → List Reason → Bool
below n [] = true
below n (r ∷ rs) = ltb n (row_of r) && below (row_of r) rs

-- the reasons of a list of guards
abbrev pub reasons : List Guard → List Reason
reasons [] = []
reasons (refuse n t ∷ ls) = n ∷ reasons ls
reasons (leaving n t r ∷ ls) = n ∷ reasons ls

-- what a refusal by number n leaves: by Load's 713 the feeder Unloaded, rest kept; else all as it was
abbrev pub left_by : Call → ℕ → State → State
left_by (scan c) n s = s
left_by (feeder (Load j)) n s = cond (eqb n 713) (to (with_feeder (stands Feed.Unloaded s.box.feeder) s.box) s) s
left_by (feeder (Eject j v)) n s = s
left_by (feeder (Reset j)) n s = s
left_by (feeder (SetFeederMode j m)) n s = s
left_by (feeder GetFeederState) n s = s
left_by (feeder GetFeederMode) n s = s
left_by (report c) n s = s

pub record Refusal (s : State) (c : Call) (o : Outcome) : Type 0 where
  pub values : o.values ≡ nothing
  pub reply : o.reply ≡ lent c
  pub left : o.state ≡ left_by c o.number s

-- −1 to 999, as people read SideCount
abbrev pub Sides : ℤ → Type 0
Sides (pos n) = n ≤ most_sides
Sides (negsuc n) = n ≡ 0

-- ---- demand 3
-- a call ends the j-th job: it is held before the call and not after it
pub record Ends (j : ℕ) (w : World) (c : Call) : Type 0 where
  pub held : holder w ≡ some j
  pub over : holder (after w c) ≢ some j

-- the next Tick ends the job held exactly when the seconds then reach the limit, and leaves FailureCode Timeout where nobody is
-- held after it; else the job stays, and its state
pub record OnTime (j : ℕ) (w : World) : Type 0 where
  pub soon : seconds w.past < due_second w
  pub ends : suc (seconds w.past) ≡ due_second w → Ends j w (report Tick)
  pub why : suc (seconds w.past) ≡ due_second w → holder (after w (report Tick)) ≡ none
      → (after w (report Tick)).now.box.scanner.failure ≡ Failure.Timeout
  pub stays : suc (seconds w.past) < due_second w → (holder (after w (report Tick)) ≡ some j) × (scan_of (after w (report Tick)).now ≡ scan_of w.now)

-- the job number that a call bears
abbrev pub bears : Call → Option ℕ
bears (scan (StartScan from c append asked)) = none
bears (scan (Start j from c)) = some j
bears (scan (Stop j)) = some j
bears (scan (Abort j)) = some j
bears (scan (GetDestination j)) = some j
bears (scan (Fetch called most reply)) = none
bears (scan GetState) = none
bears (scan GetSideInformation) = none
bears (feeder (Load j)) = some j
bears (feeder (Eject j v)) = some j
bears (feeder (Reset j)) = some j
bears (feeder (SetFeederMode j m)) = some j
bears (feeder GetFeederState) = none
bears (feeder GetFeederMode) = none
bears (report c) = none

-- what may end the job held: that Tick, Stop in Pending or Erred, Abort, or, where a Stop was accepted since the side began,
-- a fetch that says last, or Side ended with no byte waiting
pub data EndsBy (w : World) : Call → Type 0 where
  by_time : suc (seconds w.past) ≡ due_second w → EndsBy w (report Tick)
  stop : {j : ℕ} → j ≡ w.now.box.job.held → (pending (scan_of w.now) || erred (scan_of w.now)) ≡ true → EndsBy w (scan (Stop j))
  abort : {j : ℕ} → j ≡ w.now.box.job.held → EndsBy w (scan (Abort j))
  last_fetch : {name reply bytes : List ℕ} {most k : ℕ} → stop_asked w.past ≡ true
      → (step w.now (scan (Fetch name most reply))).values ≡ picture k true bytes → EndsBy w (scan (Fetch name most reply))
  side_end : stop_asked w.past ≡ true → waiting w.past ≡ [] → EndsBy w (report SideEnded)

-- the j-th job is held on, under its number, or ends by one of these
pub data Fate (j : ℕ) (w : World) (c : Call) : Type 0 where
  held : holder (after w c) ≡ some j → (after w c).now.box.job.held ≡ w.now.box.job.held → Fate j w c
  over : Ends j w c → EndsBy w c → Fate j w c

-- a stretch of calls with no sign of life, and its Ticks
abbrev pub Silent : World → List Call → Type 0
Silent w [] = Unit {0}
Silent w (c ∷ cs) = (sign c (scan_of w.now) (step w.now c) ≡ false) × Silent (after w c) cs

abbrev pub ticks_in : List Call → ℕ
ticks_in [] = 0
ticks_in (c ∷ cs) = cond (ticks c) (suc (ticks_in cs)) (ticks_in cs)

-- while the j-th job is held after such a stretch from w to v, the second that was due is due and only Ticks moved the
-- count; once the Ticks reach it the job is no longer held
pub record NotPutOff (j : ℕ) (w v : World) (cs : List Call) : Type 0 where
  pub same : holder v ≡ some j → due_second v ≡ due_second w
  pub count : holder v ≡ some j → seconds v.past ≡ seconds w.past + ticks_in cs
  pub over : due_second w ≤ seconds w.past + ticks_in cs → holder v ≢ some j

-- a call of another job than the one held: it bears another number, fetches by another number's name, or asks for a job
pub data OfAnother (s : State) : Call → Type 0 where
  bearing : {c : Call} {j : ℕ} → bears c ≡ some j → j ≢ s.box.job.held → OfAnother s c
  naming : (x : Record) {most : ℕ} {reply : List ℕ} → x.job.held ≤ greatest → x.job.held ≢ s.box.job.held
      → OfAnother s (scan (Fetch (name x) most reply))
  asking : {from count append asked : ℕ} → OfAnother s (scan (StartScan from count append asked))

-- ---- DestinationID follows the name (02, #101)
-- what GetDestination tells the holder
abbrev pub destination_of : World → ℕ
destination_of w = w.now.box.side.destination

-- it rises by one at a call, 4,294,967,295 going to 0, where the call changes the name, and else stays
pub record FollowsName (w : World) (c : Call) : Type 0 where
  pub rises : changes w.past (step w.now c) ≡ true → destination_of (after w c) ≡ (destination_of w + 1) % suc greatest
  pub stays : changes w.past (step w.now c) ≡ false → destination_of (after w c) ≡ destination_of w

-- ---- pictures
-- a reply at exit with these bytes in it: as it was lent where there are none, or the head, the bytes, and then as it was lent
pub data Replied (was : List ℕ) : List ℕ → List ℕ → Type 0 where
  as_lent : Replied was [] was
  written : (bytes : List ℕ) → Replied was bytes (0xA5 ∷ 0x5A ∷ 0x06 ∷ length bytes ∷ bytes ++ drop (4 + length bytes) was)

-- what a call reports, and what stands in its reply, are the first k of those that wait: bytes that stand together among all
-- the accepted ones, in order, and P holds of each
pub record Yields (w : World) (c : Call) (P : Tagged → Type 0) : Type 0 where
  pub yield : List Tagged
  pub next : yield ≡ take (count_in (step w.now c).values) (waiting w.past)
  pub told : bytes_in (step w.now c).values ≡ map byte_of yield
  pub count : length yield ≡ count_in (step w.now c).values
  pub reply : Replied (lent c) (map byte_of yield) (step w.now c).reply
  pub gone : List Tagged
  pub rest : List Tagged
  pub among : bytes_accepted w.past ≡ gone ++ yield ++ rest
  pub each : All P yield
