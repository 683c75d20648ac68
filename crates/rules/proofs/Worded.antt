-- The words of the promises, by cases of their own: a word that is too narrow makes a theorem say less than its name, and no proof tells.
use Rattle.std.specs.Prelude.{ℕ, refl, Bool, true, false, List, [], ◌∷◌}
use Rattle.std.proofs.Math.Option.{Option, none, some}
use Rattle.rules.specs.declared.Feed.TheVariants.{Unloaded, Loaded}
use Rattle.rules.specs.declared.Failure.TheVariants.{Jammed}
use Rattle.rules.specs.Calls.{StartScan, Start, Stop, Abort, GetDestination, Fetch, GetState, GetSideInformation, Load, Eject, Reset, SetFeederMode}
use Rattle.rules.specs.Calls.{GetFeederState, GetFeederMode, Bytes, SideEnded, Tray, Path, Tick, scan, feeder, report, Reason, n604, n601, n712, n404}
use Rattle.rules.specs.Calls.{n501, n711, n713, n603, State, refuse, leaving}
use Rattle.rules.specs.Promises.{below, reasons, left_by, bears, ticks_in}
use Rattle.rules.specs.Cases.{Case, that, resting, settings, feed}

-- ---- the job number that a call bears
pub borne : List (Case (Option ℕ))
borne =
    that "StartScan bears none" (bears (scan (StartScan 1 2 0 3))) none refl
    ∷ that "Start" (bears (scan (Start 41 1 2))) (some 41) refl
    ∷ that "Stop" (bears (scan (Stop 42))) (some 42) refl
    ∷ that "Abort" (bears (scan (Abort 43))) (some 43) refl
    ∷ that "GetDestination" (bears (scan (GetDestination 44))) (some 44) refl
    ∷ that "Fetch bears a name" (bears (scan (Fetch (74 ∷ []) 5 (6 ∷ [])))) none refl
    ∷ that "GetState bears none" (bears (scan GetState)) none refl
    ∷ that "GetSideInformation bears none" (bears (scan GetSideInformation)) none refl
    ∷ that "Load" (bears (feeder (Load 45))) (some 45) refl
    ∷ that "Eject" (bears (feeder (Eject 46 1))) (some 46) refl
    ∷ that "Reset" (bears (feeder (Reset 47))) (some 47) refl
    ∷ that "SetFeederMode" (bears (feeder (SetFeederMode 48 0))) (some 48) refl
    ∷ that "the feeder's GetState bears none" (bears (feeder GetFeederState)) none refl
    ∷ that "GetFeederMode bears none" (bears (feeder GetFeederMode)) none refl
    ∷ that "a report bears none" (bears (report Tick)) none refl
    ∷ []

-- ---- the Ticks of a list
pub ticked_cases : List (Case ℕ)
ticked_cases =
    that "no call, no Tick" (ticks_in []) 0 refl
    ∷ that "a Tick among others"
    (ticks_in (scan GetState ∷ feeder (Load 0) ∷ report Tick ∷ report SideEnded ∷ report (Tray 1) ∷ report (Path 0) ∷ report (Bytes (1 ∷ [])) ∷ [])) 1 refl
    ∷ that "the last one too" (ticks_in (report Tick ∷ scan (Stop 1) ∷ report Tick ∷ report Tick ∷ [])) 3 refl
    ∷ []

-- ---- the order of the table's rows
pub ordered : List (Case Bool)
ordered =
    that "all below 604, in order" (below 1 (n601 ∷ n712 ∷ n404 ∷ n501 ∷ n711 ∷ n713 ∷ n603 ∷ [])) true refl
    ∷ that "604 below nothing" (below 0 (n604 ∷ n601 ∷ [])) true refl
    ∷ that "604 is not below itself" (below 1 (n604 ∷ [])) false refl
    ∷ that "none twice" (below 1 (n712 ∷ n712 ∷ [])) false refl
    ∷ that "712 does not come before 601" (below 1 (n712 ∷ n601 ∷ [])) false refl
    ∷ that "nor 603 before 713" (below 1 (n601 ∷ n603 ∷ n713 ∷ [])) false refl
    ∷ []

-- Idle, the feeder Loaded, the tray empty
abbrev loaded : State
loaded = resting (settings 1 0) (feed Loaded Jammed 0 0)

-- ---- the reasons of a list of guards, whether their tests hold or not
pub listed_cases : List (Case (List Reason))
listed_cases =
    that "no guard" (reasons []) [] refl
    ∷ that "of each guard its own"
    (reasons (refuse n601 true ∷ leaving n713 false loaded.box
    ∷ refuse n404 false ∷ [])) (n601 ∷ n713 ∷ n404 ∷ []) refl
    ∷ []

-- ---- what a refusal leaves: by Load's 713 the feeder Unloaded, rest kept; else all as it was
pub left_cases : List (Case State)
left_cases =
    that "by Load's 713 the feeder Unloaded" (left_by (feeder (Load 0)) 713 loaded)
    (resting (settings 1 0) (feed Unloaded Jammed 0 0)) refl
    ∷ that "by Load's 712 all as it was" (left_by (feeder (Load 0)) 712 loaded) loaded refl
    ∷ that "by StartScan's 713 all as it was" (left_by (scan (StartScan 1 1 1 0)) 713 loaded) loaded refl
    ∷ that "by any number of Eject" (left_by (feeder (Eject 0 1)) 713 loaded) loaded refl
    ∷ that "of Reset" (left_by (feeder (Reset 0)) 713 loaded) loaded refl
    ∷ that "of SetFeederMode" (left_by (feeder (SetFeederMode 0 0)) 713 loaded) loaded refl
    ∷ that "of the feeder's GetState" (left_by (feeder GetFeederState) 713 loaded) loaded refl
    ∷ that "of GetFeederMode" (left_by (feeder GetFeederMode) 713 loaded) loaded refl
    ∷ that "of a report" (left_by (report Tick) 713 loaded) loaded refl
    ∷ []
