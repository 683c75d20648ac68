-- The line of an outcome: kind, number, scan state, feeder state, job, SideNumber, SideCount, extra.
use Rattle.std.specs.Prelude.{ℕ, ◌+◌, ◌-◌, Bool, true, false, cond, List, [], ◌∷◌, ◌++◌, ltb, leb}
use Rattle.rules.specs.declared.Scan.{Scan}
use Rattle.rules.specs.declared.Feed.{Feed}
use Rattle.rules.specs.declared.Failure.{Failure}
use Rattle.rules.specs.declared.Record.{Record}
use Rattle.rules.specs.Record.{negatives}
use Rattle.rules.specs.Calls.{Values, nothing, time, destination, picture, state, sides, feeding, mode, stored, Outcome}
use Rattle.desk_text.specs.Digits.{decimal, hex_byte, hexes}

-- I P S F E
abbrev pub scan_letter : Scan → ℕ
scan_letter Scan.Idle = 73
scan_letter Scan.Pending = 80
scan_letter Scan.Scanning = 83
scan_letter Scan.Finishing = 70
scan_letter Scan.Erred = 69

-- U L B E
abbrev pub feed_letter : Feed → ℕ
feed_letter Feed.Unloaded = 85
feed_letter Feed.Loaded = 76
feed_letter Feed.Busy = 66
feed_letter Feed.Erred = 69

-- SideCount as people read its 32 bits: a minus before what it is below 0
abbrev pub count_text : ℕ → List ℕ
count_text c = cond (ltb c negatives) (decimal c) (45 ∷ decimal (4294967296 - c))

-- none, Jammed, Timeout
abbrev pub failure_text : Failure → List ℕ
failure_text Failure.None = 110 ∷ 111 ∷ 110 ∷ 101 ∷ []
failure_text Failure.Jammed = 74 ∷ 97 ∷ 109 ∷ 109 ∷ 101 ∷ 100 ∷ []
failure_text Failure.Timeout = 84 ∷ 105 ∷ 109 ∷ 101 ∷ 111 ∷ 117 ∷ 116 ∷ []

-- Simplex, the mode there is
abbrev pub mode_text : ℕ → List ℕ
mode_text m = 83 ∷ 105 ∷ 109 ∷ 112 ∷ 108 ∷ 101 ∷ 120 ∷ []

-- `!` if last
abbrev pub last_text : Bool → List ℕ
last_text true = 33 ∷ []
last_text false = []

-- `-` where refused or not named; granted; name:DestinationID; k, `!` if last, `:`, bytes; FailureCode; MorePages:FailureCode;
-- Simplex; how many bytes were put in
abbrev pub extra_of : Values → List ℕ
extra_of nothing = 45 ∷ []
extra_of (time seconds) = decimal seconds
extra_of (destination name id) = name ++ 58 ∷ decimal id
extra_of (picture k last bytes) = decimal k ++ last_text last ++ 58 ∷ hexes bytes
extra_of (state s failure) = failure_text failure
extra_of (sides number count long) = 45 ∷ []
extra_of (feeding f tray failure) = decimal tray ++ 58 ∷ failure_text failure
extra_of (mode m) = mode_text m
extra_of (stored k) = decimal k

-- kind, number, scan state, feeder state, job, SideNumber, SideCount, extra
abbrev pub columns : ℕ → ℕ → Values → Record → List (List ℕ)
columns kind number v r =
    hex_byte kind
    ∷ decimal number
    ∷ (scan_letter r.scanner.state ∷ [])
    ∷ (feed_letter r.feeder.state ∷ [])
    ∷ decimal r.job.held
    ∷ decimal r.side.number
    ∷ count_text r.side.count
    ∷ extra_of v
    ∷ []

-- one space between, a newline at the end
abbrev pub joined : List (List ℕ) → List ℕ
joined [] = 10 ∷ []
joined (c ∷ []) = c ++ 10 ∷ []
joined (c ∷ d ∷ cs) = c ++ 32 ∷ joined (d ∷ cs)

-- a kind, the number and values told, and the record as it is left
unfoldable pub line_of : ℕ → ℕ → Values → Record → List ℕ
line_of kind number v r = joined (columns kind number v r)

-- an outcome's line
abbrev pub line_for : ℕ → Outcome → List ℕ
line_for kind o = line_of kind o.number o.values o.state.box

-- no line is longer (`step-bound`)
abbrev pub line_room : ℕ
line_room = 640

-- no line is put into less room than any line may take
abbrev pub roomed : ℕ → ℕ → List ℕ → List ℕ
roomed room at t = cond (leb (at + line_room) room) t []
