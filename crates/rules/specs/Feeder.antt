-- The feeder's rule, the moves that speak of the feeder alone, and the sheet tests of a side's beginning.
use Rattle.std.specs.Prelude.{ℕ, Bool, false, ◌&&◌, cond, Option, Some, None, eqb}
use Rattle.rules.specs.declared.Feed.{Feed}
use Rattle.rules.specs.declared.Failure.{Failure}
use Rattle.rules.specs.declared.Feeder.{Feeder}
use Rattle.rules.specs.declared.Input.{Input}
use Rattle.rules.specs.declared.Denial.{Denial}
use Rattle.rules.specs.declared.Fed.{Fed}
use Rattle.rules.specs.Record.{unloaded, busy, stuck, on}
use Rattle.rules.specs.Calls.{Reason, n501, n711, n713, number_of}

-- the feeder stands so: FailureCode and sensors kept; sensors kept; one sensor set
abbrev pub stands : Feed → Feeder → Feeder
stands x f = record { state = x; failure = f.failure; tray = f.tray; path = f.path }

abbrev pub fails : Feed → Failure → Feeder → Feeder
fails x why f = record { state = x; failure = why; tray = f.tray; path = f.path }

abbrev pub tray_at : ℕ → Feeder → Feeder
tray_at v f = record { state = f.state; failure = f.failure; tray = v; path = f.path }

abbrev pub path_at : ℕ → Feeder → Feeder
path_at v f = record { state = f.state; failure = f.failure; tray = f.tray; path = v }

-- ---- the rule
-- the one mode: Simplex
abbrev pub simplex : ℕ
simplex = 0

-- accepted, and it becomes so; denied, and left so
abbrev pub becomes : Feed → Fed
becomes x = record { next = x; denied = None }

abbrev pub denied : Denial → Feed → Fed
denied why x = record { next = x; denied = Some why }

-- the paper's number for each denial
abbrev pub reason_for : Denial → Reason
reason_for Denial.WrongState = n501
reason_for Denial.Erred = n711
reason_for Denial.NoSheet = n713

-- 501 if Busy, 711 if Erred: all as it was
abbrev pub ready : Feed → Fed → Fed
ready s x = cond (busy s) (denied Denial.WrongState s) (cond (stuck s) (denied Denial.Erred s) x)

-- Load: tray empty: 713 and Unloaded, from Loaded too. Else Loaded
abbrev pub loads : ℕ → Fed
loads tray = cond (eqb tray 0) (denied Denial.NoSheet Feed.Unloaded) (becomes Feed.Loaded)

-- of mode, state, input, tray and path sensor: the next state, and why it is denied
unfoldable pub fed : ℕ → Feed → Input → ℕ → ℕ → Fed
-- Load (501 if Busy, 711, 713)
fed mode s Input.Load tray path = ready s (loads tray)
-- Eject (501 if Busy, 711): Unloaded
fed mode s Input.EjectOne tray path = ready s (becomes Feed.Unloaded)
fed mode s Input.EjectAll tray path = ready s (becomes Feed.Unloaded)
-- Reset (501 if Busy): Erred with path sensor 0 becomes Unloaded. Otherwise accepted, nothing changes
fed mode s Input.Reset tray path = cond (busy s) (denied Denial.WrongState s) (becomes (cond (stuck s && eqb path 0) Feed.Unloaded s))
-- Path 1 also makes the feeder Erred
fed mode s Input.Jam tray path = becomes Feed.Erred
-- Side ended: Busy becomes Unloaded
fed mode s Input.SideEnd tray path = becomes (cond (busy s) Feed.Unloaded s)

-- what it gives this feeder, and whether that is denied with this number
abbrev pub fed_at : Input → Feeder → Fed
fed_at i f = fed simplex f.state i f.tray f.path

abbrev pub numbered_as : Reason → Option Denial → Bool
numbered_as n None = false
numbered_as n (Some why) = eqb (number_of (reason_for why)) (number_of n)

abbrev pub denies : Reason → Fed → Bool
denies n d = numbered_as n d.denied

-- ---- what an input changes besides the state
-- Reset: Erred becomes Unloaded, none
abbrev pub cleared : Feeder → Failure
cleared f = cond (stuck f.state && unloaded (fed_at Input.Reset f).next) Failure.None f.failure

-- Eject: 1 also sets MorePages to 0. Path 1 sets the sensor, and makes the feeder Jammed
abbrev pub besides : Input → Feeder → Feeder
besides Input.Load f = f
besides Input.EjectOne f = f
besides Input.EjectAll f = tray_at 0 f
besides Input.Reset f = fails f.state (cleared f) f
besides Input.Jam f = fails f.state Failure.Jammed (path_at 1 f)
besides Input.SideEnd f = f

-- the feeder moved by an input
abbrev pub driven : Input → Feeder → Feeder
driven i f = stands (fed_at i f).next (besides i f)

-- Eject: 0 is one sheet, 1 all of them (2 is device-setting, here 1)
abbrev pub ejecting : ℕ → Input
ejecting v = cond (eqb v 0) Input.EjectOne Input.EjectAll

-- ---- a side begins
-- from the feeder: Erred is 711; Unloaded with an empty tray is 713
abbrev pub jam_stops : ℕ → Feeder → Bool
jam_stops from f = on from && stuck f.state

abbrev pub sheetless : Feeder → Bool
sheetless f = unloaded f.state && eqb f.tray 0

abbrev pub sheet_stops : ℕ → Feeder → Bool
sheet_stops from f = on from && sheetless f

-- otherwise the feeder becomes Busy
abbrev pub taken : Feeder → Feeder
taken f = stands Feed.Busy f

-- ---- a job ends
-- Busy becomes Unloaded
abbrev pub freed : Feeder → Feeder
freed f = cond (busy f.state) (stands Feed.Unloaded f) f

-- a Busy feeder becomes Erred, Timeout
abbrev pub late : Feeder → Feeder
late f = cond (busy f.state) (fails Feed.Erred Failure.Timeout f) f
