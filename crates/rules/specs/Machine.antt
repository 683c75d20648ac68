-- The machine: for each call its refusals in the order of the paper's table, what it does when accepted, `step` and `run`.
use Rattle.std.specs.Prelude.{ℕ, ◌+◌, ◌-◌, Bool, true, false, not, ◌&&◌, ◌||◌, List, [], ◌∷◌, ◌++◌, eqb, leb, ltb, length, drop}
use Rattle.rules.specs.declared.Record.{Record}
use Rattle.rules.specs.declared.Input.{Input}
use Rattle.rules.specs.Record.{endless, counted, idle, pending, scanning, erred, unloaded, on, marked, granting, fresh, sound}
use Rattle.rules.specs.Name.{name, same}
use Rattle.rules.specs.Ring.{wrap, put, queue}
use Rattle.rules.specs.Feeder.{stands, tray_at, simplex, loads, fed_at, denies, ejecting, jam_stops, sheet_stops}
use Rattle.rules.specs.Moves.{device, headed, with_feeder, fed_by, announced, ended, settled, given, started, stopped, scan_length, least}
use Rattle.rules.specs.Moves.{last, fetched, filled, side_ended, pathed, ticked}
use Rattle.rules.specs.Calls.{ScanCall, StartScan, Start, Stop, Abort, GetDestination, Fetch, GetState, GetSideInformation, FeederCall, Load, Eject}
use Rattle.rules.specs.Calls.{Reset, SetFeederMode, GetFeederState, GetFeederMode, Report, Bytes, SideEnded, Tray, Path, Tick, Call, scan, feeder}
use Rattle.rules.specs.Calls.{report, n604, n601, n712, n404, n501, n711, n713, n603, State, Values, nothing, time, destination, picture, state, sides}
use Rattle.rules.specs.Calls.{feeding, mode, stored, Outcome, Guard, refuse, leaving, to, answer}

-- ---- tests
-- 0, 1 or 2
abbrev pub listed : ℕ → Bool
listed v = leb v device

-- UseFeeder; SideCount −1 to 999; on the glass, after settling UseFeeder, only −1, 0 or 1
abbrev pub sides_listed : ℕ → ℕ → Record → Bool
sides_listed from c r =
    listed from && counted c && (on (settled from r.settings.feeder) || leb c 1 || eqb c endless)

-- for scan calls, any number in Idle
abbrev pub not_held : ℕ → Record → Bool
not_held j r = idle r.scanner.state || not (eqb j r.job.held)

-- for feeder calls the job number must be the one held, 0 when Idle
abbrev pub not_ours : ℕ → Record → Bool
not_ours j r = not (eqb j r.job.held)

-- scan calls: when a side is to begin from the feeder
abbrev pub beginning : ℕ → ℕ → Record → List Guard
beginning from c r =
    refuse n711 (not (eqb c 0) && jam_stops (settled from r.settings.feeder) r.feeder)
    ∷ refuse n713 (not (eqb c 0) && sheet_stops (settled from r.settings.feeder) r.feeder)
    ∷ []

-- ---- refusals of each call; for the ring's length n
unfoldable pub scan_refusals : ScanCall → Record → List Guard
scan_refusals (StartScan from c append asked) r =
    refuse n601 (not (listed append && sides_listed from c r)) ∷ refuse n501 (not (idle r.scanner.state)) ∷ beginning from c r
scan_refusals (Start j from c) r =
    refuse n601 (not (sides_listed from c r))
    ∷ refuse n712 (not_held j r)
    ∷ refuse n501 (not (pending r.scanner.state || erred r.scanner.state))
    ∷ beginning from c r
scan_refusals (Stop j) r = refuse n712 (not_held j r) ∷ []
scan_refusals (Abort j) r = refuse n712 (not_held j r) ∷ []
scan_refusals (GetDestination j) r = refuse n712 (not_held j r) ∷ []
scan_refusals (Fetch called most reply) r =
    refuse n404 (idle r.scanner.state || not (same called (name r))) ∷ refuse n603 (ltb (length reply) headed) ∷ []
scan_refusals GetState r = []
scan_refusals GetSideInformation r = []

unfoldable pub feeder_refusals : FeederCall → Record → List Guard
-- 501 and 711 are tested before 713, which asks the tray alone
feeder_refusals (Load j) r =
    refuse n712 (not_ours j r)
    ∷ refuse n501 (denies n501 (fed_at Input.Load r.feeder))
    ∷ refuse n711 (denies n711 (fed_at Input.Load r.feeder))
    ∷ leaving n713 (denies n713 (loads r.feeder.tray)) (with_feeder (stands (loads r.feeder.tray).next r.feeder) r)
    ∷ []
feeder_refusals (Eject j v) r =
    refuse n601 (not (listed v))
    ∷ refuse n712 (not_ours j r)
    ∷ refuse n501 (denies n501 (fed_at (ejecting v) r.feeder))
    ∷ refuse n711 (denies n711 (fed_at (ejecting v) r.feeder))
    ∷ []
feeder_refusals (Reset j) r = refuse n712 (not_ours j r) ∷ refuse n501 (denies n501 (fed_at Input.Reset r.feeder)) ∷ []
feeder_refusals (SetFeederMode j m) r =
    refuse n601 (not (eqb m simplex)) ∷ refuse n712 (not_ours j r) ∷ refuse n501 (not (unloaded r.feeder.state)) ∷ []
feeder_refusals GetFeederState r = []
feeder_refusals GetFeederMode r = []

unfoldable pub report_refusals : Report → Record → ℕ → List Guard
report_refusals (Bytes bs) r n =
    refuse n501 (not (scanning r.scanner.state)) ∷ refuse n603 (ltb (n - r.ring.stored) (length bs)) ∷ []
report_refusals SideEnded r n = refuse n501 (not (scanning r.scanner.state)) ∷ []
report_refusals (Tray v) r n = refuse n601 (not (marked v)) ∷ []
report_refusals (Path v) r n = refuse n601 (not (marked v)) ∷ []
report_refusals Tick r n = []

unfoldable pub refusals : Call → State → List Guard
refusals (scan c) s = scan_refusals c s.box
refusals (feeder c) s = feeder_refusals c s.box
refusals (report c) s = report_refusals c s.box (length s.bytes)

-- ---- 0 is acceptance: values and record; the ring as it was, and no reply lent
abbrev pub accepted : Values → Record → State → Outcome
accepted v r s = record { number = 0; values = v; state = to r s; reply = [] }

unfoldable pub scan_effect : ScanCall → State → Outcome
scan_effect (StartScan from c append asked) s =
    let r = s.box in
    accepted (time (granting asked).seconds)
    (started (settled from r.settings.feeder) c (announced (given (settled append r.settings.append) asked r)))
    s
scan_effect (Start j from c) s = accepted nothing (started (settled from s.box.settings.feeder) c s.box) s
scan_effect (Stop j) s = accepted nothing (stopped s.box) s
scan_effect (Abort j) s = accepted nothing (ended s.box) s
scan_effect (GetDestination j) s = accepted (destination (name s.box) s.box.side.destination) s.box s
-- the reply gets the head A5 5A 06 k, and the picture bytes straight after it; later bytes stay
scan_effect (Fetch called most reply) s =
    let r = s.box in
    let k = least r.ring.stored most (length reply) in
    let bytes = queue s.bytes r.ring.start k in
    record {
      number = 0;
      values = picture k (last k r) bytes;
      state = to (fetched k (length s.bytes) r) s;
      reply = 0xA5 ∷ 0x5A ∷ 0x06 ∷ k ∷ bytes ++ drop (headed + k) reply;
    }
scan_effect GetState s = accepted (state s.box.scanner.state s.box.scanner.failure) s.box s
scan_effect GetSideInformation s = accepted (sides s.box.side.number s.box.side.count (scan_length s.box)) s.box s

unfoldable pub feeder_effect : FeederCall → State → Outcome
feeder_effect (Load j) s = accepted nothing (fed_by Input.Load s.box) s
feeder_effect (Eject j v) s = accepted nothing (fed_by (ejecting v) s.box) s
feeder_effect (Reset j) s = accepted nothing (fed_by Input.Reset s.box) s
feeder_effect (SetFeederMode j m) s = accepted nothing s.box s
feeder_effect GetFeederState s = accepted (feeding s.box.feeder.state s.box.feeder.tray s.box.feeder.failure) s.box s
feeder_effect GetFeederMode s = accepted (mode simplex) s.box s

unfoldable pub report_effect : Report → State → Outcome
-- all into the ring, behind the stored ones
report_effect (Bytes bs) s =
    let r = s.box in
    record {
      number = 0;
      values = stored (length bs);
      state = record { box = filled (length bs) r; bytes = put s.bytes (wrap (length s.bytes) (r.ring.start + r.ring.stored)) bs };
      reply = [];
    }
report_effect SideEnded s = accepted nothing (side_ended s.box) s
report_effect (Tray v) s = accepted nothing (with_feeder (tray_at v s.box.feeder) s.box) s
report_effect (Path v) s = accepted nothing (pathed v s.box) s
report_effect Tick s = accepted nothing (ticked s.box) s

unfoldable pub effect : Call → State → Outcome
effect (scan c) s = scan_effect c s
effect (feeder c) s = feeder_effect c s
effect (report c) s = report_effect c s

-- ---- 604 before every list: record not sound with the lent ring
abbrev pub all_guards : Call → State → List Guard
all_guards c s = refuse n604 (not (sound s.box (length s.bytes))) ∷ refusals c s

unfoldable pub step : State → Call → Outcome
step s c = answer (all_guards c s) s c (effect c s)

-- ---- a list of calls: each gets the record and ring as the last one left them
pub record Ran : Type 0 where
  pub outcomes : List Outcome
  pub end : State

-- whatever box answers them
unfoldable pub run_by : (State → Call → Outcome) → State → List Call → Ran
run_by box s [] = record { outcomes = []; end = s }
run_by box s (c ∷ cs) =
    let rest = run_by box (box s c).state cs in
    record { outcomes = box s c ∷ rest.outcomes; end = rest.end }

-- and what the rules give
abbrev pub run : State → List Call → Ran
run s cs = run_by step s cs

-- a fresh box with a lent ring
abbrev pub start : List ℕ → State
start ring = record { box = fresh; bytes = ring }
