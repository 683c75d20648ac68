-- The calls and reports, the reasons with their numbers, and what an outcome is.
use Rattle.std.specs.Prelude.{ℕ, Bool, true, false, List, [], ◌∷◌}
use Rattle.rules.specs.declared.Scan.{Scan}
use Rattle.rules.specs.declared.Feed.{Feed}
use Rattle.rules.specs.declared.Failure.{Failure}
use Rattle.rules.specs.declared.Record.{Record}

-- ---- what the box does
-- StartScan: UseFeeder, SideCount, Append, time. Start: job, UseFeeder, SideCount. Fetch: name, most, the lent reply
pub data ScanCall : Type 0 where
  StartScan : ℕ → ℕ → ℕ → ℕ → ScanCall
  Start : ℕ → ℕ → ℕ → ScanCall
  Stop : ℕ → ScanCall
  Abort : ℕ → ScanCall
  GetDestination : ℕ → ScanCall
  Fetch : List ℕ → ℕ → List ℕ → ScanCall
  GetState : ScanCall
  GetSideInformation : ScanCall

-- the job number first; Eject: value; SetFeederMode: mode
pub data FeederCall : Type 0 where
  Load : ℕ → FeederCall
  Eject : ℕ → ℕ → FeederCall
  Reset : ℕ → FeederCall
  SetFeederMode : ℕ → ℕ → FeederCall
  GetFeederState : FeederCall
  GetFeederMode : FeederCall

-- the five sensor reports; a second is a Tick
pub data Report : Type 0 where
  Bytes : List ℕ → Report
  SideEnded : Report
  Tray : ℕ → Report
  Path : ℕ → Report
  Tick : Report

pub data Call : Type 0 where
  scan : ScanCall → Call
  feeder : FeederCall → Call
  report : Report → Call

-- ---- reason numbers, in order of test
pub data Reason : Type 0 where
  n604 n601 n712 n404 n501 n711 n713 n603 : Reason

abbrev pub number_of : Reason → ℕ
number_of n604 = 604
number_of n601 = 601
number_of n712 = 712
number_of n404 = 404
number_of n501 = 501
number_of n711 = 711
number_of n713 = 713
number_of n603 = 603

-- its row in the table
abbrev pub row_of : Reason → ℕ
row_of n604 = 1
row_of n601 = 2
row_of n712 = 3
row_of n404 = 4
row_of n501 = 5
row_of n711 = 6
row_of n713 = 7
row_of n603 = 8

-- ---- the numbers that the paper names for each call; it uses 604 and these, no others
abbrev pub named : Call → List Reason
named (scan (StartScan from c append asked)) = n601 ∷ n501 ∷ n711 ∷ n713 ∷ []
named (scan (Start j from c)) = n601 ∷ n712 ∷ n501 ∷ n711 ∷ n713 ∷ []
named (scan (Stop j)) = n712 ∷ []
named (scan (Abort j)) = n712 ∷ []
named (scan (GetDestination j)) = n712 ∷ []
named (scan (Fetch name most reply)) = n404 ∷ n603 ∷ []
named (scan GetState) = []
named (scan GetSideInformation) = []
named (feeder (Load j)) = n712 ∷ n501 ∷ n711 ∷ n713 ∷ []
named (feeder (Eject j v)) = n601 ∷ n712 ∷ n501 ∷ n711 ∷ []
named (feeder (Reset j)) = n712 ∷ n501 ∷ []
named (feeder (SetFeederMode j m)) = n601 ∷ n712 ∷ n501 ∷ []
named (feeder GetFeederState) = []
named (feeder GetFeederMode) = []
named (report (Bytes bs)) = n501 ∷ n603 ∷ []
named (report SideEnded) = n501 ∷ []
named (report (Tray v)) = n601 ∷ []
named (report (Path v)) = n601 ∷ []
named (report Tick) = []

-- ---- outcomes
-- the box: its record, and the bytes of the lent ring
pub record State : Type 0 where
  pub box : Record
  pub bytes : List ℕ

-- what an accepted call reports besides its number
pub data Values : Type 0 where
  nothing : Values
  time : ℕ → Values
  destination : List ℕ → ℕ → Values
  picture : ℕ → Bool → List ℕ → Values
  state : Scan → Failure → Values
  sides : ℕ → ℕ → ℕ → Values
  feeding : Feed → ℕ → Failure → Values
  mode : ℕ → Values
  stored : ℕ → Values

-- number, values reported, record and ring, and the lent reply as it is left
pub record Outcome : Type 0 where
  pub number : ℕ
  pub values : Values
  pub state : State
  pub reply : List ℕ

-- the reply that a call is lent: a fetch has one
abbrev pub lent : Call → List ℕ
lent (scan (StartScan from c append asked)) = []
lent (scan (Start j from c)) = []
lent (scan (Stop j)) = []
lent (scan (Abort j)) = []
lent (scan (GetDestination j)) = []
lent (scan (Fetch name most reply)) = reply
lent (scan GetState) = []
lent (scan GetSideInformation) = []
lent (feeder c) = []
lent (report c) = []

-- ---- refusals
-- a row of the table at work: reason, test, and what it leaves where that is not all as it was
pub data Guard : Type 0 where
  refuse : Reason → Bool → Guard
  leaving : Reason → Bool → Record → Guard

abbrev pub to : Record → State → State
to r s = record { box = r; bytes = s.bytes }

-- a refused call writes nothing in the ring or the reply, and reports no count, name or granted time
abbrev pub refused : Reason → Record → State → Call → Outcome
refused n r s c = record { number = number_of n; values = nothing; state = to r s; reply = lent c }

-- the first test that holds gives the answer; where none does, the call is accepted
unfoldable pub answer : List Guard → State → Call → Outcome → Outcome
answer [] s c ok = ok
answer (refuse n true ∷ ls) s c ok = refused n s.box s c
answer (refuse n false ∷ ls) s c ok = answer ls s c ok
answer (leaving n true r ∷ ls) s c ok = refused n r s c
answer (leaving n false r ∷ ls) s c ok = answer ls s c ok
