-- What a request asks of the box.
use Rattle.std.specs.Prelude.{ℕ, List}
use Rattle.rules.specs.Calls.{StartScan, Start, Stop, Abort, GetDestination, Fetch, GetState, GetSideInformation, Load, Eject, Reset, SetFeederMode}
use Rattle.rules.specs.Calls.{GetFeederState, GetFeederMode, Bytes, SideEnded, Tray, Path, Tick, Call, scan, feeder, report, Outcome}
use Rattle.answers.specs.declared.Request.{Request}

-- the call, with the bytes given (a fetch's name, a report's picture bytes) and the reply lent
abbrev pub asked : Request → List ℕ → List ℕ → Call
asked (Request.StartScan from count append time) given reply = scan (StartScan from count append time)
asked (Request.Start job from count) given reply = scan (Start job from count)
asked (Request.Stop job) given reply = scan (Stop job)
asked (Request.Abort job) given reply = scan (Abort job)
asked (Request.GetDestination job) given reply = scan (GetDestination job)
asked (Request.Fetch most) given reply = scan (Fetch given most reply)
asked Request.GetState given reply = scan GetState
asked Request.GetSideInformation given reply = scan GetSideInformation
asked (Request.Load job) given reply = feeder (Load job)
asked (Request.Eject job value) given reply = feeder (Eject job value)
asked (Request.Reset job) given reply = feeder (Reset job)
asked (Request.SetFeederMode job mode) given reply = feeder (SetFeederMode job mode)
asked Request.GetFeederState given reply = feeder GetFeederState
asked Request.GetFeederMode given reply = feeder GetFeederMode
asked Request.Bytes given reply = report (Bytes given)
asked Request.SideEnded given reply = report SideEnded
asked (Request.Tray value) given reply = report (Tray value)
asked (Request.Path value) given reply = report (Path value)
asked Request.Tick given reply = report Tick

-- the lent reply as a call leaves it: a fetch leaves it as its outcome says, every other call as it was
abbrev pub replied : Call → Outcome → List ℕ → List ℕ
replied (scan (StartScan from count append time)) o reply = reply
replied (scan (Start job from count)) o reply = reply
replied (scan (Stop job)) o reply = reply
replied (scan (Abort job)) o reply = reply
replied (scan (GetDestination job)) o reply = reply
replied (scan (Fetch name most lent)) o reply = o.reply
replied (scan GetState) o reply = reply
replied (scan GetSideInformation) o reply = reply
replied (feeder c) o reply = reply
replied (report c) o reply = reply
