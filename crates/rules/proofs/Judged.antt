-- When a record is sound: both sides of every test of the paper's five points and of the name's, each with all other tests passed
-- where that can be; and the words of the record.
use Rattle.std.specs.Prelude.{ℕ, ◌≡◌, refl, Bool, true, false, List, [], ◌∷◌, ◌++◌, map, ℤ, pos, negsuc}
use Prim.Native.String.{String}
use Rattle.rules.specs.declared.Scan.{Scan}
use Rattle.rules.specs.declared.Scan.TheVariants.{Idle, Pending, Scanning, Finishing, Erred}
use Rattle.rules.specs.declared.Feed.{Feed}
use Rattle.rules.specs.declared.Feed.TheVariants.{Unloaded, Loaded, Busy, Erred as Stuck}
use Rattle.rules.specs.declared.Failure.TheVariants.{None, Jammed, Timeout}
use Rattle.rules.specs.declared.Named.{Named}
use Rattle.rules.specs.declared.Record.{Record}
use Rattle.rules.specs.Name.{eighteen, packed, spelt, present, alike}
use Rattle.rules.specs.Record.{idle, pending, scanning, finishing, erred, unloaded, busy, stuck, on, marked, implies, exactly, every, counted, signed}
use Rattle.rules.specs.Record.{granting, limit, fresh, idle_points, held_points, ring_points, feeder_points, mark_points, name_points, points, sound}
use Rattle.rules.specs.Cases.{Case, that, final, box, scanner, job, side, settings, feed, ring, minus_one, minus_two, j41, j41-000, j41-006, j41-007}
use Rattle.rules.specs.Cases.{j41-999, j42, j42-001, j43-001, j1234567890, j1234567890-987, j4294967295-999, j1-001, j1-002, j2, j31, j31-046, j34}
use Rattle.rules.specs.Cases.{kept, no_name, k1-001, k1-002, k2, k31, k31-046, k34, k41, k41-000, k41-006, k41-007, k41-999, k42, k42-001, k43-001}
use Rattle.rules.specs.Cases.{k1234567890, k1234567890-987, k4294967295-999, called_last}

-- with a ring of n bytes
abbrev pub judged : (says : String) (n : ℕ) (r : Record) (due : Bool) → sound r n ≡ due → Case Bool
judged says n r due e = that says (sound r n) due e

-- ---- Idle exactly when job is 0; then SideNumber is 1, SideCount and quiet are 0 and no stop is asked
pub idle_judged : List (Case Bool)
unfolding final
idle_judged =
    judged "Idle: the last number and granted are free" 5
    (box (scanner Idle Timeout) (job 0 41 77 0 0) (side 1 0 90) (settings 1 0) (feed Loaded Jammed 1 0) (ring 3 0)) true refl
    ∷ judged "fresh" 5
    (called_last no_name (box (scanner Idle None) (job 0 0 60 0 0) (side 1 0 0) (settings 1 1) (feed Unloaded None 0 0) (ring 0 0))) true refl
    ∷ judged "Idle with a job" 5 (box (scanner Idle Timeout) (job 41 41 77 0 0) (side 1 0 90) (settings 1 0) (feed Loaded Jammed 1 0) (ring 3 0)) false refl
    ∷ judged "Pending" 5 (box (scanner Pending Timeout) (job 41 41 77 13 0) (side 6 8 90) (settings 1 0) (feed Loaded Jammed 1 0) (ring 3 0)) true refl
    ∷ judged "Pending with job 0" 5
    (box (scanner Pending Timeout) (job 0 0 77 13 0) (side 6 8 90) (settings 1 0) (feed Loaded Jammed 1 0) (ring 3 0)) false refl
    ∷ judged "Scanning from the feeder" 5
    (box (scanner Scanning Timeout) (job 41 41 77 13 0) (side 6 8 90) (settings 1 0) (feed Busy Jammed 1 0) (ring 3 4)) true refl
    ∷ judged "Scanning from the feeder with job 0" 5
    (box (scanner Scanning Timeout) (job 0 0 77 13 0) (side 6 8 90) (settings 1 0) (feed Busy Jammed 1 0) (ring 3 4)) false refl
    ∷ judged "Scanning on the glass" 5
    (box (scanner Scanning Timeout) (job 41 41 77 13 0) (side 6 1 90) (settings 0 1) (feed Loaded Jammed 1 0) (ring 3 4)) true refl
    ∷ judged "Finishing from the feeder" 5
    (box (scanner Finishing Timeout) (job 41 41 77 13 0) (side 6 8 90) (settings 1 0) (feed Loaded Jammed 1 0) (ring 3 4)) true refl
    ∷ judged "Finishing with job 0" 5
    (box (scanner Finishing Timeout) (job 0 0 77 13 0) (side 6 8 90) (settings 1 0) (feed Loaded Jammed 1 0) (ring 3 4)) false refl
    ∷ judged "Finishing on the glass" 5
    (box (scanner Finishing Timeout) (job 41 41 77 13 0) (side 6 0 90) (settings 0 1) (feed Loaded Jammed 1 0) (ring 3 4)) true refl
    ∷ judged "Erred" 5 (box (scanner Erred Timeout) (job 41 41 77 13 0) (side 6 8 90) (settings 1 0) (feed Stuck Jammed 0 1) (ring 3 0)) true refl
    ∷ judged "Erred with job 0" 5 (box (scanner Erred Timeout) (job 0 0 77 13 0) (side 6 8 90) (settings 1 0) (feed Stuck Jammed 0 1) (ring 3 0)) false refl
    ∷ judged "Idle with SideNumber 0" 5
    (box (scanner Idle Timeout) (job 0 41 77 0 0) (side 0 0 90) (settings 1 0) (feed Loaded Jammed 1 0) (ring 3 0)) false refl
    ∷ judged "Idle with SideNumber 2" 5
    (box (scanner Idle Timeout) (job 0 41 77 0 0) (side 2 0 90) (settings 1 0) (feed Loaded Jammed 1 0) (ring 3 0)) false refl
    ∷ judged "held with SideNumber 1" 5
    (box (scanner Pending Timeout) (job 41 41 77 13 0) (side 1 8 90) (settings 1 0) (feed Loaded Jammed 1 0) (ring 3 0)) true refl
    ∷ judged "Idle with SideCount 1" 5
    (box (scanner Idle Timeout) (job 0 41 77 0 0) (side 1 1 90) (settings 1 0) (feed Loaded Jammed 1 0) (ring 3 0)) false refl
    ∷ judged "Idle with SideCount −1" 5
    (box (scanner Idle Timeout) (job 0 41 77 0 0) (side 1 minus_one 90) (settings 1 0) (feed Loaded Jammed 1 0) (ring 3 0)) false refl
    ∷ judged "Idle with quiet 1" 5 (box (scanner Idle Timeout) (job 0 41 77 1 0) (side 1 0 90) (settings 1 0) (feed Loaded Jammed 1 0) (ring 3 0)) false refl
    ∷ judged "held with quiet 0" 5
    (box (scanner Pending Timeout) (job 41 41 77 0 0) (side 6 8 90) (settings 1 0) (feed Loaded Jammed 1 0) (ring 3 0)) true refl
    ∷ judged "Idle with a stop asked" 5
    (box (scanner Idle Timeout) (job 0 41 77 0 1) (side 1 0 90) (settings 1 0) (feed Loaded Jammed 1 0) (ring 3 0)) false refl
    ∷ []

-- ---- SideNumber is 0 to 999 and SideCount −1 to 999. When held: job is the last number given, granted is 5 to 600,
-- quiet is below granted (in Erred, below 300)
pub held_judged : List (Case Bool)
unfolding final
held_judged =
    judged "SideNumber 0" 5 (box (scanner Pending Timeout) (job 41 41 77 13 0) (side 0 8 90) (settings 1 0) (feed Loaded Jammed 1 0) (ring 3 0)) true refl
    ∷ judged "SideNumber 999" 5
    (box (scanner Pending Timeout) (job 41 41 77 13 0) (side 999 8 90) (settings 1 0) (feed Loaded Jammed 1 0) (ring 3 0)) true refl
    ∷ judged "SideNumber 1000" 5
    (box (scanner Pending Timeout) (job 41 41 77 13 0) (side 1000 8 90) (settings 1 0) (feed Loaded Jammed 1 0) (ring 3 0)) false refl
    ∷ judged "SideNumber 1000 in Scanning" 5
    (box (scanner Scanning Timeout) (job 41 41 77 13 0) (side 1000 8 90) (settings 1 0) (feed Busy Jammed 1 0) (ring 3 4)) false refl
    ∷ judged "SideCount 0" 5 (box (scanner Pending Timeout) (job 41 41 77 13 0) (side 6 0 90) (settings 1 0) (feed Loaded Jammed 1 0) (ring 3 0)) true refl
    ∷ judged "SideCount 999" 5
    (box (scanner Pending Timeout) (job 41 41 77 13 0) (side 6 999 90) (settings 1 0) (feed Loaded Jammed 1 0) (ring 3 0)) true refl
    ∷ judged "SideCount 1000" 5
    (box (scanner Pending Timeout) (job 41 41 77 13 0) (side 6 1000 90) (settings 1 0) (feed Loaded Jammed 1 0) (ring 3 0)) false refl
    ∷ judged "SideCount −1" 5
    (box (scanner Pending Timeout) (job 41 41 77 13 0) (side 6 minus_one 90) (settings 1 0) (feed Loaded Jammed 1 0) (ring 3 0)) true refl
    ∷ judged "SideCount −2" 5
    (box (scanner Pending Timeout) (job 41 41 77 13 0) (side 6 4294967294 90) (settings 1 0) (feed Loaded Jammed 1 0) (ring 3 0)) false refl
    ∷ judged "SideCount −2,147,483,648" 5
    (box (scanner Pending Timeout) (job 41 41 77 13 0) (side 6 2147483648 90) (settings 1 0) (feed Loaded Jammed 1 0) (ring 3 0)) false refl
    ∷ judged "SideCount 1000 in Scanning from the feeder" 5
    (box (scanner Scanning Timeout) (job 41 41 77 13 0) (side 6 1000 90) (settings 1 0) (feed Busy Jammed 1 0) (ring 3 4)) false refl
    ∷ judged "a job below the last number" 5
    (box (scanner Pending Timeout) (job 41 42 77 13 0) (side 6 8 90) (settings 1 0) (feed Loaded Jammed 1 0) (ring 3 0)) false refl
    ∷ judged "a job above the last number" 5
    (box (scanner Pending Timeout) (job 41 40 77 13 0) (side 6 8 90) (settings 1 0) (feed Loaded Jammed 1 0) (ring 3 0)) false refl
    ∷ judged "another last number in Scanning" 5
    (box (scanner Scanning Timeout) (job 41 40 77 13 0) (side 6 8 90) (settings 1 0) (feed Busy Jammed 1 0) (ring 3 4)) false refl
    ∷ judged "another last number in Finishing" 5
    (box (scanner Finishing Timeout) (job 41 40 77 13 0) (side 6 8 90) (settings 1 0) (feed Loaded Jammed 1 0) (ring 3 4)) false refl
    ∷ judged "another last number in Erred" 5
    (box (scanner Erred Timeout) (job 41 40 77 13 0) (side 6 8 90) (settings 1 0) (feed Stuck Jammed 0 1) (ring 3 0)) false refl
    ∷ judged "granted 4" 5 (box (scanner Pending Timeout) (job 41 41 4 3 0) (side 6 8 90) (settings 1 0) (feed Loaded Jammed 1 0) (ring 3 0)) false refl
    ∷ judged "granted 5" 5 (box (scanner Pending Timeout) (job 41 41 5 4 0) (side 6 8 90) (settings 1 0) (feed Loaded Jammed 1 0) (ring 3 0)) true refl
    ∷ judged "granted 600" 5 (box (scanner Pending Timeout) (job 41 41 600 13 0) (side 6 8 90) (settings 1 0) (feed Loaded Jammed 1 0) (ring 3 0)) true refl
    ∷ judged "granted 601" 5 (box (scanner Pending Timeout) (job 41 41 601 13 0) (side 6 8 90) (settings 1 0) (feed Loaded Jammed 1 0) (ring 3 0)) false refl
    ∷ judged "granted 4 in Scanning" 5
    (box (scanner Scanning Timeout) (job 41 41 4 3 0) (side 6 8 90) (settings 1 0) (feed Busy Jammed 1 0) (ring 3 4)) false refl
    ∷ judged "granted 601 in Finishing" 5
    (box (scanner Finishing Timeout) (job 41 41 601 13 0) (side 6 8 90) (settings 1 0) (feed Loaded Jammed 1 0) (ring 3 4)) false refl
    ∷ judged "granted 4 in Erred" 5 (box (scanner Erred Timeout) (job 41 41 4 3 0) (side 6 8 90) (settings 1 0) (feed Stuck Jammed 0 1) (ring 3 0)) false refl
    ∷ judged "granted 601 in Erred" 5
    (box (scanner Erred Timeout) (job 41 41 601 13 0) (side 6 8 90) (settings 1 0) (feed Stuck Jammed 0 1) (ring 3 0)) false refl
    ∷ judged "granted 0 in Idle" 5 (box (scanner Idle Timeout) (job 0 41 0 0 0) (side 1 0 90) (settings 1 0) (feed Loaded Jammed 1 0) (ring 3 0)) true refl
    ∷ judged "granted 65,535 in Idle" 5
    (box (scanner Idle Timeout) (job 0 41 65535 0 0) (side 1 0 90) (settings 1 0) (feed Loaded Jammed 1 0) (ring 3 0)) true refl
    ∷ judged "Pending: quiet 76 of 77" 5
    (box (scanner Pending Timeout) (job 41 41 77 76 0) (side 6 8 90) (settings 1 0) (feed Loaded Jammed 1 0) (ring 3 0)) true refl
    ∷ judged "Pending: quiet 77 of 77" 5
    (box (scanner Pending Timeout) (job 41 41 77 77 0) (side 6 8 90) (settings 1 0) (feed Loaded Jammed 1 0) (ring 3 0)) false refl
    ∷ judged "Pending: quiet 300 of 600" 5
    (box (scanner Pending Timeout) (job 41 41 600 300 0) (side 6 8 90) (settings 1 0) (feed Loaded Jammed 1 0) (ring 3 0)) true refl
    ∷ judged "Scanning: quiet 76 of 77" 5
    (box (scanner Scanning Timeout) (job 41 41 77 76 0) (side 6 8 90) (settings 1 0) (feed Busy Jammed 1 0) (ring 3 4)) true refl
    ∷ judged "Scanning: quiet 77 of 77" 5
    (box (scanner Scanning Timeout) (job 41 41 77 77 0) (side 6 8 90) (settings 1 0) (feed Busy Jammed 1 0) (ring 3 4)) false refl
    ∷ judged "Scanning: quiet 300 of 600" 5
    (box (scanner Scanning Timeout) (job 41 41 600 300 0) (side 6 1 90) (settings 0 1) (feed Loaded Jammed 1 0) (ring 3 4)) true refl
    ∷ judged "Finishing: quiet 76 of 77" 5
    (box (scanner Finishing Timeout) (job 41 41 77 76 0) (side 6 8 90) (settings 1 0) (feed Loaded Jammed 1 0) (ring 3 4)) true refl
    ∷ judged "Finishing: quiet 77 of 77" 5
    (box (scanner Finishing Timeout) (job 41 41 77 77 0) (side 6 0 90) (settings 0 1) (feed Loaded Jammed 1 0) (ring 3 4)) false refl
    ∷ judged "Finishing: quiet 300 of 600" 5
    (box (scanner Finishing Timeout) (job 41 41 600 300 0) (side 6 0 90) (settings 0 1) (feed Loaded Jammed 1 0) (ring 3 4)) true refl
    ∷ judged "Erred: quiet 299 of 77" 5
    (box (scanner Erred Timeout) (job 41 41 77 299 0) (side 6 8 90) (settings 1 0) (feed Stuck Jammed 0 1) (ring 3 0)) true refl
    ∷ judged "Erred: quiet 300 of 77" 5
    (box (scanner Erred Timeout) (job 41 41 77 300 0) (side 6 8 90) (settings 1 0) (feed Stuck Jammed 0 1) (ring 3 0)) false refl
    ∷ judged "Erred: quiet 300 of 600" 5
    (box (scanner Erred Timeout) (job 41 41 600 300 0) (side 6 8 90) (settings 1 0) (feed Stuck Jammed 0 1) (ring 3 0)) false refl
    ∷ []

-- ---- The ring has 1 to 65,536 bytes; start is inside it; stored is at most its length. Stored is 0 outside Scanning
-- and Finishing, and at least 1 in Finishing
pub ring_judged : List (Case Bool)
unfolding final
ring_judged =
    judged "a ring of 0 bytes" 0 (box (scanner Idle Timeout) (job 0 41 77 0 0) (side 1 0 90) (settings 1 0) (feed Loaded Jammed 1 0) (ring 0 0)) false refl
    ∷ judged "a ring of 1 byte" 1 (box (scanner Idle Timeout) (job 0 41 77 0 0) (side 1 0 90) (settings 1 0) (feed Loaded Jammed 1 0) (ring 0 0)) true refl
    ∷ judged "a ring of 65,536 bytes" 65536
    (box (scanner Idle Timeout) (job 0 41 77 0 0) (side 1 0 90) (settings 1 0) (feed Loaded Jammed 1 0) (ring 3 0)) true refl
    ∷ judged "a ring of 65,537 bytes" 65537
    (box (scanner Idle Timeout) (job 0 41 77 0 0) (side 1 0 90) (settings 1 0) (feed Loaded Jammed 1 0) (ring 3 0)) false refl
    ∷ judged "start at the last place" 5
    (box (scanner Pending Timeout) (job 41 41 77 13 0) (side 6 8 90) (settings 1 0) (feed Loaded Jammed 1 0) (ring 4 0)) true refl
    ∷ judged "start past it" 5 (box (scanner Pending Timeout) (job 41 41 77 13 0) (side 6 8 90) (settings 1 0) (feed Loaded Jammed 1 0) (ring 5 0)) false refl
    ∷ judged "start past it, in Idle" 5
    (box (scanner Idle Timeout) (job 0 41 77 0 0) (side 1 0 90) (settings 1 0) (feed Loaded Jammed 1 0) (ring 5 0)) false refl
    ∷ judged "start past it, bytes stored" 5
    (box (scanner Scanning Timeout) (job 41 41 77 13 0) (side 6 8 90) (settings 1 0) (feed Busy Jammed 1 0) (ring 5 4)) false refl
    ∷ judged "stored the whole ring" 5
    (box (scanner Scanning Timeout) (job 41 41 77 13 0) (side 6 8 90) (settings 1 0) (feed Busy Jammed 1 0) (ring 3 5)) true refl
    ∷ judged "stored one more, Scanning" 5
    (box (scanner Scanning Timeout) (job 41 41 77 13 0) (side 6 1 90) (settings 0 1) (feed Loaded Jammed 1 0) (ring 3 6)) false refl
    ∷ judged "stored one more, Finishing" 5
    (box (scanner Finishing Timeout) (job 41 41 77 13 0) (side 6 8 90) (settings 1 0) (feed Loaded Jammed 1 0) (ring 3 6)) false refl
    ∷ judged "stored 1 in Idle" 5 (box (scanner Idle Timeout) (job 0 41 77 0 0) (side 1 0 90) (settings 1 0) (feed Loaded Jammed 1 0) (ring 3 1)) false refl
    ∷ judged "stored 1 in Pending" 5
    (box (scanner Pending Timeout) (job 41 41 77 13 0) (side 6 8 90) (settings 1 0) (feed Loaded Jammed 1 0) (ring 3 1)) false refl
    ∷ judged "stored 1 in Erred" 5
    (box (scanner Erred Timeout) (job 41 41 77 13 0) (side 6 8 90) (settings 1 0) (feed Stuck Jammed 0 1) (ring 3 1)) false refl
    ∷ judged "none stored in Scanning" 5
    (box (scanner Scanning Timeout) (job 41 41 77 13 0) (side 6 8 90) (settings 1 0) (feed Busy Jammed 1 0) (ring 3 0)) true refl
    ∷ judged "none stored in Scanning on the glass" 5
    (box (scanner Scanning Timeout) (job 41 41 77 13 0) (side 6 1 90) (settings 0 1) (feed Loaded Jammed 1 0) (ring 3 0)) true refl
    ∷ judged "one stored in Finishing" 5
    (box (scanner Finishing Timeout) (job 41 41 77 13 0) (side 6 8 90) (settings 1 0) (feed Loaded Jammed 1 0) (ring 3 1)) true refl
    ∷ judged "none stored in Finishing" 5
    (box (scanner Finishing Timeout) (job 41 41 77 13 0) (side 6 8 90) (settings 1 0) (feed Loaded Jammed 1 0) (ring 3 0)) false refl
    ∷ judged "none stored in Finishing on the glass" 5
    (box (scanner Finishing Timeout) (job 41 41 77 13 0) (side 6 0 90) (settings 0 1) (feed Loaded Jammed 1 0) (ring 3 0)) false refl
    ∷ []

-- ---- The feeder is Busy exactly when Scanning from the feeder; SideCount is then not 0. On the glass, SideCount is
-- 1 in Scanning and 0 in Finishing
pub feeder_judged : List (Case Bool)
unfolding final
feeder_judged =
    judged "Scanning from the feeder, Unloaded" 5
    (box (scanner Scanning Timeout) (job 41 41 77 13 0) (side 6 8 90) (settings 1 0) (feed Unloaded Jammed 1 0) (ring 3 4)) false refl
    ∷ judged "Scanning from the feeder, Loaded" 5
    (box (scanner Scanning Timeout) (job 41 41 77 13 0) (side 6 8 90) (settings 1 0) (feed Loaded Jammed 1 0) (ring 3 4)) false refl
    ∷ judged "Scanning from the feeder, Erred" 5
    (box (scanner Scanning Timeout) (job 41 41 77 13 0) (side 6 8 90) (settings 1 0) (feed Stuck Jammed 1 0) (ring 3 4)) false refl
    ∷ judged "Busy in Idle" 5 (box (scanner Idle Timeout) (job 0 41 77 0 0) (side 1 0 90) (settings 1 0) (feed Busy Jammed 1 0) (ring 3 0)) false refl
    ∷ judged "Busy in Pending" 5 (box (scanner Pending Timeout) (job 41 41 77 13 0) (side 6 8 90) (settings 1 0) (feed Busy Jammed 1 0) (ring 3 0)) false refl
    ∷ judged "Busy in Finishing" 5
    (box (scanner Finishing Timeout) (job 41 41 77 13 0) (side 6 8 90) (settings 1 0) (feed Busy Jammed 1 0) (ring 3 4)) false refl
    ∷ judged "Busy in Erred" 5 (box (scanner Erred Timeout) (job 41 41 77 13 0) (side 6 8 90) (settings 1 0) (feed Busy Jammed 0 0) (ring 3 0)) false refl
    ∷ judged "Busy in Scanning on the glass" 5
    (box (scanner Scanning Timeout) (job 41 41 77 13 0) (side 6 1 90) (settings 0 1) (feed Busy Jammed 1 0) (ring 3 4)) false refl
    ∷ judged "Unloaded in Scanning on the glass" 5
    (box (scanner Scanning Timeout) (job 41 41 77 13 0) (side 6 1 90) (settings 0 1) (feed Unloaded Jammed 1 0) (ring 3 4)) true refl
    ∷ judged "Erred in Scanning on the glass" 5
    (box (scanner Scanning Timeout) (job 41 41 77 13 0) (side 6 1 90) (settings 0 1) (feed Stuck Jammed 1 0) (ring 3 4)) true refl
    ∷ judged "Unloaded in Idle" 5 (box (scanner Idle Timeout) (job 0 41 77 0 0) (side 1 0 90) (settings 1 0) (feed Unloaded Jammed 1 0) (ring 3 0)) true refl
    ∷ judged "Unloaded in Finishing" 5
    (box (scanner Finishing Timeout) (job 41 41 77 13 0) (side 6 8 90) (settings 1 0) (feed Unloaded Jammed 1 0) (ring 3 4)) true refl
    ∷ judged "Erred in Finishing" 5
    (box (scanner Finishing Timeout) (job 41 41 77 13 0) (side 6 8 90) (settings 1 0) (feed Stuck Jammed 1 0) (ring 3 4)) true refl
    ∷ judged "Loaded in Erred" 5 (box (scanner Erred Timeout) (job 41 41 77 13 0) (side 6 8 90) (settings 1 0) (feed Loaded Jammed 0 0) (ring 3 0)) true refl
    ∷ judged "Busy with SideCount 0" 5
    (box (scanner Scanning Timeout) (job 41 41 77 13 0) (side 6 0 90) (settings 1 0) (feed Busy Jammed 1 0) (ring 3 4)) false refl
    ∷ judged "Busy with SideCount 1" 5
    (box (scanner Scanning Timeout) (job 41 41 77 13 0) (side 6 1 90) (settings 1 0) (feed Busy Jammed 1 0) (ring 3 4)) true refl
    ∷ judged "Busy with SideCount −1" 5
    (box (scanner Scanning Timeout) (job 41 41 77 13 0) (side 6 minus_one 90) (settings 1 0) (feed Busy Jammed 1 0) (ring 3 4)) true refl
    ∷ judged "Scanning on the glass with SideCount 0" 5
    (box (scanner Scanning Timeout) (job 41 41 77 13 0) (side 6 0 90) (settings 0 1) (feed Loaded Jammed 1 0) (ring 3 4)) false refl
    ∷ judged "Scanning on the glass with SideCount 2" 5
    (box (scanner Scanning Timeout) (job 41 41 77 13 0) (side 6 2 90) (settings 0 1) (feed Loaded Jammed 1 0) (ring 3 4)) false refl
    ∷ judged "Scanning on the glass with SideCount −1" 5
    (box (scanner Scanning Timeout) (job 41 41 77 13 0) (side 6 minus_one 90) (settings 0 1) (feed Loaded Jammed 1 0) (ring 3 4)) false refl
    ∷ judged "Finishing on the glass with SideCount 1" 5
    (box (scanner Finishing Timeout) (job 41 41 77 13 0) (side 6 1 90) (settings 0 1) (feed Loaded Jammed 1 0) (ring 3 4)) false refl
    ∷ judged "Finishing on the glass with SideCount −1" 5
    (box (scanner Finishing Timeout) (job 41 41 77 13 0) (side 6 minus_one 90) (settings 0 1) (feed Loaded Jammed 1 0) (ring 3 4)) false refl
    ∷ judged "Finishing from the feeder with SideCount 0" 5
    (box (scanner Finishing Timeout) (job 41 41 77 13 0) (side 6 0 90) (settings 1 0) (feed Loaded Jammed 1 0) (ring 3 4)) true refl
    ∷ judged "Finishing from the feeder with SideCount −1" 5
    (box (scanner Finishing Timeout) (job 41 41 77 13 0) (side 6 minus_one 90) (settings 1 0) (feed Loaded Jammed 1 0) (ring 3 4)) true refl
    ∷ judged "Pending on the glass with SideCount 8" 5
    (box (scanner Pending Timeout) (job 41 41 77 13 0) (side 6 8 90) (settings 0 0) (feed Loaded Jammed 1 0) (ring 3 0)) true refl
    ∷ judged "Erred on the glass with SideCount 8" 5
    (box (scanner Erred Timeout) (job 41 41 77 13 0) (side 6 8 90) (settings 0 0) (feed Stuck Jammed 0 1) (ring 3 0)) true refl
    ∷ []

-- ---- Settings, marks and sensors are 0 or 1. Path sensor 1 means feeder Erred. A stop is asked only in Scanning or
-- Finishing
pub marks_judged : List (Case Bool)
unfolding final
marks_judged =
    judged "settings 0 and 0" 5 (box (scanner Idle Timeout) (job 0 41 77 0 0) (side 1 0 90) (settings 0 0) (feed Loaded Jammed 1 0) (ring 3 0)) true refl
    ∷ judged "settings 1 and 1" 5 (box (scanner Idle Timeout) (job 0 41 77 0 0) (side 1 0 90) (settings 1 1) (feed Loaded Jammed 1 0) (ring 3 0)) true refl
    ∷ judged "UseFeeder 2" 5 (box (scanner Idle Timeout) (job 0 41 77 0 0) (side 1 0 90) (settings 2 0) (feed Loaded Jammed 1 0) (ring 3 0)) false refl
    ∷ judged "UseFeeder 2 in Pending" 5
    (box (scanner Pending Timeout) (job 41 41 77 13 0) (side 6 8 90) (settings 2 0) (feed Loaded Jammed 1 0) (ring 3 0)) false refl
    ∷ judged "Append 2" 5 (box (scanner Idle Timeout) (job 0 41 77 0 0) (side 1 0 90) (settings 1 2) (feed Loaded Jammed 1 0) (ring 3 0)) false refl
    ∷ judged "Append 2 in Scanning" 5
    (box (scanner Scanning Timeout) (job 41 41 77 13 0) (side 6 8 90) (settings 1 2) (feed Busy Jammed 1 0) (ring 3 4)) false refl
    ∷ judged "a stop mark of 2" 5
    (box (scanner Scanning Timeout) (job 41 41 77 13 2) (side 6 8 90) (settings 1 0) (feed Busy Jammed 1 0) (ring 3 4)) false refl
    ∷ judged "a stop mark of 2 in Idle" 5
    (box (scanner Idle Timeout) (job 0 41 77 0 2) (side 1 0 90) (settings 1 0) (feed Loaded Jammed 1 0) (ring 3 0)) false refl
    ∷ judged "a tray sensor of 0" 5 (box (scanner Idle Timeout) (job 0 41 77 0 0) (side 1 0 90) (settings 1 0) (feed Loaded Jammed 0 0) (ring 3 0)) true refl
    ∷ judged "a tray sensor of 2" 5 (box (scanner Idle Timeout) (job 0 41 77 0 0) (side 1 0 90) (settings 1 0) (feed Loaded Jammed 2 0) (ring 3 0)) false refl
    ∷ judged "a path sensor of 2" 5 (box (scanner Idle Timeout) (job 0 41 77 0 0) (side 1 0 90) (settings 1 0) (feed Loaded Jammed 1 2) (ring 3 0)) false refl
    ∷ judged "a path sensor of 2, feeder Erred" 5
    (box (scanner Erred Timeout) (job 41 41 77 13 0) (side 6 8 90) (settings 1 0) (feed Stuck Jammed 0 2) (ring 3 0)) false refl
    ∷ judged "path 1, Unloaded" 5 (box (scanner Idle Timeout) (job 0 41 77 0 0) (side 1 0 90) (settings 1 0) (feed Unloaded Jammed 1 1) (ring 3 0)) false refl
    ∷ judged "path 1, Loaded" 5 (box (scanner Idle Timeout) (job 0 41 77 0 0) (side 1 0 90) (settings 1 0) (feed Loaded Jammed 1 1) (ring 3 0)) false refl
    ∷ judged "path 1, Busy" 5 (box (scanner Scanning Timeout) (job 41 41 77 13 0) (side 6 8 90) (settings 1 0) (feed Busy Jammed 1 1) (ring 3 4)) false refl
    ∷ judged "path 1, Erred" 5 (box (scanner Idle Timeout) (job 0 41 77 0 0) (side 1 0 90) (settings 1 0) (feed Stuck Jammed 1 1) (ring 3 0)) true refl
    ∷ judged "path 0, Erred" 5 (box (scanner Erred Timeout) (job 41 41 77 13 0) (side 6 8 90) (settings 1 0) (feed Stuck Jammed 0 0) (ring 3 0)) true refl
    ∷ judged "a stop asked in Scanning from the feeder" 5
    (box (scanner Scanning Timeout) (job 41 41 77 13 1) (side 6 8 90) (settings 1 0) (feed Busy Jammed 1 0) (ring 3 4)) true refl
    ∷ judged "a stop asked in Scanning on the glass" 5
    (box (scanner Scanning Timeout) (job 41 41 77 13 1) (side 6 1 90) (settings 0 1) (feed Loaded Jammed 1 0) (ring 3 4)) true refl
    ∷ judged "a stop asked in Finishing" 5
    (box (scanner Finishing Timeout) (job 41 41 77 13 1) (side 6 8 90) (settings 1 0) (feed Loaded Jammed 1 0) (ring 3 4)) true refl
    ∷ judged "a stop asked in Finishing on the glass" 5
    (box (scanner Finishing Timeout) (job 41 41 77 13 1) (side 6 0 90) (settings 0 1) (feed Loaded Jammed 1 0) (ring 3 4)) true refl
    ∷ judged "a stop asked in Pending" 5
    (box (scanner Pending Timeout) (job 41 41 77 13 1) (side 6 8 90) (settings 1 0) (feed Loaded Jammed 1 0) (ring 3 0)) false refl
    ∷ judged "a stop asked in Erred" 5
    (box (scanner Erred Timeout) (job 41 41 77 13 1) (side 6 8 90) (settings 1 0) (feed Stuck Jammed 0 1) (ring 3 0)) false refl
    ∷ []

-- ---- While a job is held, the last name is that job's (02, #101). In Idle it is any
pub names_judged : List (Case Bool)
unfolding final
names_judged =
    judged "Pending: its own name, with Append" 5
    (called_last k41-006 (box (scanner Pending Timeout) (job 41 41 77 13 0) (side 6 8 90) (settings 1 1) (feed Loaded Jammed 1 0) (ring 3 0))) true refl
    ∷ judged "Scanning: its own name, with Append" 5
    (called_last k41-006 (box (scanner Scanning Timeout) (job 41 41 77 13 0) (side 6 8 90) (settings 1 1) (feed Busy Jammed 1 0) (ring 3 4))) true refl
    ∷ judged "Finishing: its own name, with Append" 5
    (called_last k41-006 (box (scanner Finishing Timeout) (job 41 41 77 13 0) (side 6 8 90) (settings 1 1) (feed Loaded Jammed 1 0) (ring 3 4))) true refl
    ∷ judged "Erred: its own name, with Append" 5
    (called_last k41-006 (box (scanner Erred Timeout) (job 41 41 77 13 0) (side 6 8 90) (settings 1 1) (feed Stuck Jammed 0 1) (ring 3 0))) true refl
    ∷ judged "Pending: its own name, without Append" 5
    (called_last k41 (box (scanner Pending Timeout) (job 41 41 77 13 0) (side 6 8 90) (settings 1 0) (feed Loaded Jammed 1 0) (ring 3 0))) true refl
    ∷ judged "Scanning: its own name, without Append" 5
    (called_last k41 (box (scanner Scanning Timeout) (job 41 41 77 13 0) (side 6 8 90) (settings 1 0) (feed Busy Jammed 1 0) (ring 3 4))) true refl
    ∷ judged "Finishing: its own name, without Append" 5
    (called_last k41 (box (scanner Finishing Timeout) (job 41 41 77 13 0) (side 6 8 90) (settings 1 0) (feed Loaded Jammed 1 0) (ring 3 4))) true refl
    ∷ judged "Erred: its own name, without Append" 5
    (called_last k41 (box (scanner Erred Timeout) (job 41 41 77 13 0) (side 6 8 90) (settings 1 0) (feed Stuck Jammed 0 1) (ring 3 0))) true refl
    ∷ judged "Pending: the name without its side" 5
    (called_last k41 (box (scanner Pending Timeout) (job 41 41 77 13 0) (side 6 8 90) (settings 1 1) (feed Loaded Jammed 1 0) (ring 3 0))) false refl
    ∷ judged "Scanning: the name without its side" 5
    (called_last k41 (box (scanner Scanning Timeout) (job 41 41 77 13 0) (side 6 8 90) (settings 1 1) (feed Busy Jammed 1 0) (ring 3 4))) false refl
    ∷ judged "Finishing: the name without its side" 5
    (called_last k41 (box (scanner Finishing Timeout) (job 41 41 77 13 0) (side 6 8 90) (settings 1 1) (feed Loaded Jammed 1 0) (ring 3 4))) false refl
    ∷ judged "Erred: the name without its side" 5
    (called_last k41 (box (scanner Erred Timeout) (job 41 41 77 13 0) (side 6 8 90) (settings 1 1) (feed Stuck Jammed 0 1) (ring 3 0))) false refl
    ∷ judged "Pending: a side in the name where there is none" 5
    (called_last k41-006 (box (scanner Pending Timeout) (job 41 41 77 13 0) (side 6 8 90) (settings 1 0) (feed Loaded Jammed 1 0) (ring 3 0))) false refl
    ∷ judged "Scanning: a side in the name where there is none" 5
    (called_last k41-006 (box (scanner Scanning Timeout) (job 41 41 77 13 0) (side 6 8 90) (settings 1 0) (feed Busy Jammed 1 0) (ring 3 4))) false refl
    ∷ judged "Finishing: a side in the name where there is none" 5
    (called_last k41-006 (box (scanner Finishing Timeout) (job 41 41 77 13 0) (side 6 8 90) (settings 1 0) (feed Loaded Jammed 1 0) (ring 3 4))) false refl
    ∷ judged "Erred: a side in the name where there is none" 5
    (called_last k41-006 (box (scanner Erred Timeout) (job 41 41 77 13 0) (side 6 8 90) (settings 1 0) (feed Stuck Jammed 0 1) (ring 3 0))) false refl
    ∷ judged "Pending: another side" 5
    (called_last k41-007 (box (scanner Pending Timeout) (job 41 41 77 13 0) (side 6 8 90) (settings 1 1) (feed Loaded Jammed 1 0) (ring 3 0))) false refl
    ∷ judged "Scanning: another side" 5
    (called_last k41-007 (box (scanner Scanning Timeout) (job 41 41 77 13 0) (side 6 8 90) (settings 1 1) (feed Busy Jammed 1 0) (ring 3 4))) false refl
    ∷ judged "Finishing: another side" 5
    (called_last k41-007 (box (scanner Finishing Timeout) (job 41 41 77 13 0) (side 6 8 90) (settings 1 1) (feed Loaded Jammed 1 0) (ring 3 4))) false refl
    ∷ judged "Erred: another side" 5
    (called_last k41-007 (box (scanner Erred Timeout) (job 41 41 77 13 0) (side 6 8 90) (settings 1 1) (feed Stuck Jammed 0 1) (ring 3 0))) false refl
    ∷ judged "Pending: another job" 5
    (called_last k42 (box (scanner Pending Timeout) (job 41 41 77 13 0) (side 6 8 90) (settings 1 0) (feed Loaded Jammed 1 0) (ring 3 0))) false refl
    ∷ judged "Scanning: another job" 5
    (called_last k42 (box (scanner Scanning Timeout) (job 41 41 77 13 0) (side 6 8 90) (settings 1 0) (feed Busy Jammed 1 0) (ring 3 4))) false refl
    ∷ judged "Finishing: another job" 5
    (called_last k42 (box (scanner Finishing Timeout) (job 41 41 77 13 0) (side 6 8 90) (settings 1 0) (feed Loaded Jammed 1 0) (ring 3 4))) false refl
    ∷ judged "Erred: another job" 5
    (called_last k42 (box (scanner Erred Timeout) (job 41 41 77 13 0) (side 6 8 90) (settings 1 0) (feed Stuck Jammed 0 1) (ring 3 0))) false refl
    ∷ judged "Pending: no last name" 5
    (called_last no_name (box (scanner Pending Timeout) (job 41 41 77 13 0) (side 6 8 90) (settings 1 1) (feed Loaded Jammed 1 0) (ring 3 0))) false refl
    ∷ judged "Scanning: no last name" 5
    (called_last no_name (box (scanner Scanning Timeout) (job 41 41 77 13 0) (side 6 8 90) (settings 1 1) (feed Busy Jammed 1 0) (ring 3 4))) false refl
    ∷ judged "Finishing: no last name" 5
    (called_last no_name (box (scanner Finishing Timeout) (job 41 41 77 13 0) (side 6 8 90) (settings 1 1) (feed Loaded Jammed 1 0) (ring 3 4))) false refl
    ∷ judged "Erred: no last name" 5
    (called_last no_name (box (scanner Erred Timeout) (job 41 41 77 13 0) (side 6 8 90) (settings 1 1) (feed Stuck Jammed 0 1) (ring 3 0))) false refl
    ∷ judged "Pending: bytes 1 to 8 one too high" 5
    (called_last (kept 0x4A30303030303031 0x3034313030362E6A 0x7067 18)
    (box (scanner Pending Timeout) (job 41 41 77 13 0) (side 6 8 90) (settings 1 1) (feed Loaded Jammed 1 0) (ring 3 0))) false refl
    ∷ judged "Pending: bytes 9 to 16 one too high" 5
    (called_last (kept 0x4A30303030303030 0x3034313030362E6B 0x7067 18)
    (box (scanner Pending Timeout) (job 41 41 77 13 0) (side 6 8 90) (settings 1 1) (feed Loaded Jammed 1 0) (ring 3 0))) false refl
    ∷ judged "Pending: bytes 17 and 18 one too high" 5
    (called_last (kept 0x4A30303030303030 0x3034313030362E6A 0x7068 18)
    (box (scanner Pending Timeout) (job 41 41 77 13 0) (side 6 8 90) (settings 1 1) (feed Loaded Jammed 1 0) (ring 3 0))) false refl
    ∷ judged "Pending: the length one too high" 5
    (called_last (kept 0x4A30303030303030 0x3034313030362E6A 0x7067 19)
    (box (scanner Pending Timeout) (job 41 41 77 13 0) (side 6 8 90) (settings 1 1) (feed Loaded Jammed 1 0) (ring 3 0))) false refl
    ∷ judged "Scanning: bytes 1 to 8 one too low" 5
    (called_last (kept 0x4A3030303030302F 0x3034313030362E6A 0x7067 18)
    (box (scanner Scanning Timeout) (job 41 41 77 13 0) (side 6 8 90) (settings 1 1) (feed Busy Jammed 1 0) (ring 3 4))) false refl
    ∷ judged "Scanning: bytes 9 to 16 one too low" 5
    (called_last (kept 0x4A30303030303030 0x3034313030362E69 0x7067 18)
    (box (scanner Scanning Timeout) (job 41 41 77 13 0) (side 6 8 90) (settings 1 1) (feed Busy Jammed 1 0) (ring 3 4))) false refl
    ∷ judged "Scanning: bytes 17 and 18 one too low" 5
    (called_last (kept 0x4A30303030303030 0x3034313030362E6A 0x7066 18)
    (box (scanner Scanning Timeout) (job 41 41 77 13 0) (side 6 8 90) (settings 1 1) (feed Busy Jammed 1 0) (ring 3 4))) false refl
    ∷ judged "Scanning: the length one too low" 5
    (called_last (kept 0x4A30303030303030 0x3034313030362E6A 0x7067 17)
    (box (scanner Scanning Timeout) (job 41 41 77 13 0) (side 6 8 90) (settings 1 1) (feed Busy Jammed 1 0) (ring 3 4))) false refl
    ∷ judged "Finishing: bytes 1 to 8 one too high" 5
    (called_last (kept 0x4A30303030303031 0x3034313030362E6A 0x7067 18)
    (box (scanner Finishing Timeout) (job 41 41 77 13 0) (side 6 8 90) (settings 1 1) (feed Loaded Jammed 1 0) (ring 3 4))) false refl
    ∷ judged "Finishing: bytes 9 to 16 one too high" 5
    (called_last (kept 0x4A30303030303030 0x3034313030362E6B 0x7067 18)
    (box (scanner Finishing Timeout) (job 41 41 77 13 0) (side 6 8 90) (settings 1 1) (feed Loaded Jammed 1 0) (ring 3 4))) false refl
    ∷ judged "Finishing: bytes 17 and 18 one too high" 5
    (called_last (kept 0x4A30303030303030 0x3034313030362E6A 0x7068 18)
    (box (scanner Finishing Timeout) (job 41 41 77 13 0) (side 6 8 90) (settings 1 1) (feed Loaded Jammed 1 0) (ring 3 4))) false refl
    ∷ judged "Finishing: the length one too high" 5
    (called_last (kept 0x4A30303030303030 0x3034313030362E6A 0x7067 19)
    (box (scanner Finishing Timeout) (job 41 41 77 13 0) (side 6 8 90) (settings 1 1) (feed Loaded Jammed 1 0) (ring 3 4))) false refl
    ∷ judged "Erred: bytes 1 to 8 one too low" 5
    (called_last (kept 0x4A3030303030302F 0x3034313030362E6A 0x7067 18)
    (box (scanner Erred Timeout) (job 41 41 77 13 0) (side 6 8 90) (settings 1 1) (feed Stuck Jammed 0 1) (ring 3 0))) false refl
    ∷ judged "Erred: bytes 9 to 16 one too low" 5
    (called_last (kept 0x4A30303030303030 0x3034313030362E69 0x7067 18)
    (box (scanner Erred Timeout) (job 41 41 77 13 0) (side 6 8 90) (settings 1 1) (feed Stuck Jammed 0 1) (ring 3 0))) false refl
    ∷ judged "Erred: bytes 17 and 18 one too low" 5
    (called_last (kept 0x4A30303030303030 0x3034313030362E6A 0x7066 18)
    (box (scanner Erred Timeout) (job 41 41 77 13 0) (side 6 8 90) (settings 1 1) (feed Stuck Jammed 0 1) (ring 3 0))) false refl
    ∷ judged "Erred: the length one too low" 5
    (called_last (kept 0x4A30303030303030 0x3034313030362E6A 0x7067 17)
    (box (scanner Erred Timeout) (job 41 41 77 13 0) (side 6 8 90) (settings 1 1) (feed Stuck Jammed 0 1) (ring 3 0))) false refl
    ∷ judged "Idle: the last job's name" 5
    (called_last k41-006 (box (scanner Idle Timeout) (job 0 41 77 0 0) (side 1 0 90) (settings 1 1) (feed Loaded Jammed 1 0) (ring 3 0))) true refl
    ∷ judged "Idle: another job's name" 5
    (called_last k1234567890-987 (box (scanner Idle Timeout) (job 0 41 77 0 0) (side 1 0 90) (settings 1 0) (feed Loaded Jammed 1 0) (ring 3 0))) true refl
    ∷ judged "Idle: none" 5
    (called_last no_name (box (scanner Idle Timeout) (job 0 41 77 0 0) (side 1 0 90) (settings 1 1) (feed Loaded Jammed 1 0) (ring 3 0))) true refl
    ∷ judged "Idle: what is no name" 5
    (called_last (kept 73 76 79 82) (box (scanner Idle Timeout) (job 0 41 77 0 0) (side 1 0 90) (settings 1 0) (feed Loaded Jammed 1 0) (ring 3 0))) true refl
    ∷ judged "Idle: the greatest numbers" 5
    (called_last (kept 0xFFFFFFFFFFFFFFFF 0xFFFFFFFFFFFFFFFF 0xFFFF 0xFF)
    (box (scanner Idle Timeout) (job 0 41 77 0 0) (side 1 0 90) (settings 1 1) (feed Loaded Jammed 1 0) (ring 3 0))) true refl
    ∷ []

pub soundness : List (Case Bool)
soundness = idle_judged ++ held_judged ++ ring_judged ++ feeder_judged ++ marks_judged ++ names_judged

-- each test stands in its point: where as many fail as can
pub sentences : List (Case (List Bool))
unfolding final
sentences =
    that "Idle exactly when job is 0; then .." (idle_points Idle (job 41 41 77 13 1) (side 6 8 90)) (false ∷ false ∷ false ∷ false ∷ false ∷ []) refl
    ∷ that "SideNumber, SideCount, last number, granted too low, quiet" (held_points Pending (job 41 42 4 13 0) (side 1000 1001 90))
    (false ∷ false ∷ false ∷ false ∷ true ∷ false ∷ []) refl
    ∷ that "granted too high" (held_points Pending (job 41 42 601 13 0) (side 1000 1001 90)) (false ∷ false ∷ false ∷ true ∷ false ∷ true ∷ []) refl
    ∷ that "no ring" (ring_points Idle (ring 5 6) 0) (false ∷ true ∷ false ∷ false ∷ false ∷ true ∷ []) refl
    ∷ that "too long a ring" (ring_points Finishing (ring 5 0) 65537) (true ∷ false ∷ true ∷ true ∷ true ∷ false ∷ []) refl
    ∷ that "Busy in Idle" (feeder_points Idle Busy (settings 1 0) (side 6 0 90)) (false ∷ false ∷ true ∷ true ∷ []) refl
    ∷ that "Scanning on the glass" (feeder_points Scanning Loaded (settings 0 1) (side 6 8 90)) (true ∷ true ∷ false ∷ true ∷ []) refl
    ∷ that "Finishing on the glass" (feeder_points Finishing Loaded (settings 0 1) (side 6 8 90)) (true ∷ true ∷ true ∷ false ∷ []) refl
    ∷ that "marks" (mark_points Idle (settings 2 3) 4 (feed Stuck Jammed 5 6)) (false ∷ false ∷ false ∷ false ∷ false ∷ true ∷ true ∷ []) refl
    ∷ that "path 1 and a stop" (mark_points Idle (settings 0 1) 1 (feed Loaded Jammed 0 1)) (true ∷ true ∷ true ∷ true ∷ true ∷ false ∷ false ∷ []) refl
    ∷ that "another job's name"
    (name_points
    (called_last k42 (box (scanner Pending Timeout) (job 41 41 77 13 0) (side 6 8 90) (settings 1 0) (feed Loaded Jammed 1 0) (ring 3 0))))
    (false ∷ []) refl
    ∷ that "a point each"
    (points
    (called_last k42 (box (scanner Pending Timeout) (job 0 41 77 13 1) (side 1000 8 90) (settings 1 0) (feed Busy Jammed 1 0) (ring 3 1)))
    5)
    (false ∷ false ∷ false ∷ false ∷ false ∷ false ∷ []) refl
    ∷ []

-- ---- the words: of the states in the paper's order
abbrev pub scans : List Scan
scans = Idle ∷ Pending ∷ Scanning ∷ Finishing ∷ Erred ∷ []

abbrev pub all_feeds : List Feed
all_feeds = Unloaded ∷ Loaded ∷ Busy ∷ Stuck ∷ []

pub words : List (Case (List Bool))
words =
    that "Idle" (map idle scans) (true ∷ false ∷ false ∷ false ∷ false ∷ []) refl
    ∷ that "Pending" (map pending scans) (false ∷ true ∷ false ∷ false ∷ false ∷ []) refl
    ∷ that "Scanning" (map scanning scans) (false ∷ false ∷ true ∷ false ∷ false ∷ []) refl
    ∷ that "Finishing" (map finishing scans) (false ∷ false ∷ false ∷ true ∷ false ∷ []) refl
    ∷ that "Erred" (map erred scans) (false ∷ false ∷ false ∷ false ∷ true ∷ []) refl
    ∷ that "the feeder Unloaded" (map unloaded all_feeds) (true ∷ false ∷ false ∷ false ∷ []) refl
    ∷ that "the feeder Busy" (map busy all_feeds) (false ∷ false ∷ true ∷ false ∷ []) refl
    ∷ that "the feeder Erred" (map stuck all_feeds) (false ∷ false ∷ false ∷ true ∷ []) refl
    ∷ that "a setting, mark or sensor is 1" (map on (0 ∷ 1 ∷ 2 ∷ [])) (false ∷ true ∷ false ∷ []) refl
    ∷ that "it is 0 or 1" (map marked (0 ∷ 1 ∷ 2 ∷ [])) (true ∷ true ∷ false ∷ []) refl
    ∷ that "a means b" (implies false false ∷ implies false true ∷ implies true false ∷ implies true true ∷ [])
    (true ∷ true ∷ false ∷ true ∷ []) refl
    ∷ that "a exactly when b" (exactly false false ∷ exactly false true ∷ exactly true false ∷ exactly true true ∷ [])
    (true ∷ false ∷ false ∷ true ∷ []) refl
    ∷ that "every test of a list holds"
    (every []
    ∷ every (true ∷ true ∷ true ∷ [])
    ∷ every (false ∷ true ∷ true ∷ [])
    ∷ every (true ∷ false ∷ true ∷ [])
    ∷ every (true ∷ true ∷ false ∷ [])
    ∷ [])
    (true ∷ true ∷ false ∷ false ∷ false ∷ []) refl
    ∷ that "SideCount is −1 to 999" (map counted (0 ∷ 999 ∷ 1000 ∷ minus_two ∷ minus_one ∷ [])) (true ∷ true ∷ false ∷ false ∷ true ∷ []) refl
    ∷ []

-- the quiet seconds at which a held job ends; what is granted, of 32 bits asked
pub times : List (Case (List ℕ))
times =
    that "granted (300 in Erred)" (map (λ (s : Scan). limit s 77) (Idle ∷ Pending ∷ Scanning ∷ Finishing ∷ Erred ∷ []))
    (77 ∷ 77 ∷ 77 ∷ 77 ∷ 300 ∷ []) refl
    ∷ that "0 gives 60; otherwise below 5 gives 5, above 600 gives 600"
    (map (λ (t : ℕ). (granting t).seconds) (0 ∷ 1 ∷ 4 ∷ 5 ∷ 6 ∷ 599 ∷ 600 ∷ 601 ∷ 4294967295 ∷ []))
    (60 ∷ 5 ∷ 5 ∷ 5 ∷ 6 ∷ 599 ∷ 600 ∷ 600 ∷ 600 ∷ []) refl
    ∷ []

-- SideCount's bits as people read them
pub counts : List (Case (List ℤ))
counts =
    that "two's complement" (map signed (0 ∷ 999 ∷ 2147483647 ∷ 2147483648 ∷ minus_two ∷ minus_one ∷ []))
    (pos 0 ∷ pos 999 ∷ pos 2147483647 ∷ negsuc 2147483647 ∷ negsuc 1 ∷ negsuc 0 ∷ []) refl
    ∷ []

-- ---- a name as it is kept
pub paddings : List (Case (List ℕ))
paddings =
    that "eighteen bytes, unused ones 0: none used" (eighteen [])
    (0 ∷ 0 ∷ 0 ∷ 0 ∷ 0 ∷ 0 ∷ 0 ∷ 0 ∷ 0 ∷ 0 ∷ 0 ∷ 0 ∷ 0 ∷ 0 ∷ 0 ∷ 0 ∷ 0 ∷ 0 ∷ []) refl
    ∷ that "fifteen used" (eighteen j41)
    (74 ∷ 48 ∷ 48 ∷ 48 ∷ 48 ∷ 48 ∷ 48 ∷ 48 ∷ 48 ∷ 52 ∷ 49 ∷ 46 ∷ 106 ∷ 112 ∷ 103 ∷ 0 ∷ 0 ∷ 0 ∷ []) refl
    ∷ that "all used" (eighteen j41-006)
    (74 ∷ 48 ∷ 48 ∷ 48 ∷ 48 ∷ 48 ∷ 48 ∷ 48 ∷ 48 ∷ 52 ∷ 49 ∷ 48 ∷ 48 ∷ 54 ∷ 46 ∷ 106 ∷ 112 ∷ 103 ∷ []) refl
    ∷ []

pub packings : List (Case ℕ)
packings =
    that "no bytes" (packed []) 0 refl
    ∷ that "one byte" (packed (7 ∷ [])) 7 refl
    ∷ that "the first byte highest" (packed (1 ∷ 2 ∷ [])) 258 refl
    ∷ that "a 0 in front" (packed (0 ∷ 5 ∷ [])) 5 refl
    ∷ that "a 0 behind" (packed (5 ∷ 0 ∷ [])) 1280 refl
    ∷ that "eight bytes" (packed (1 ∷ 2 ∷ 3 ∷ 4 ∷ 5 ∷ 6 ∷ 7 ∷ 8 ∷ [])) 0x0102030405060708 refl
    ∷ that "eight bytes of 255" (packed (255 ∷ 255 ∷ 255 ∷ 255 ∷ 255 ∷ 255 ∷ 255 ∷ 255 ∷ [])) 18446744073709551615 refl
    ∷ []

pub spellings : List (Case Named)
unfolding final
spellings =
    that "no name" (spelt []) (kept 0 0 0 0) refl
    ∷ that "a job's" (spelt j41) (kept 0x4A30303030303030 0x3034312E6A706700 0 15) refl
    ∷ that "a side's" (spelt j41-006) (kept 0x4A30303030303030 0x3034313030362E6A 0x7067 18) refl
    ∷ that "the greatest" (spelt j4294967295-999) (kept 0x4A34323934393637 0x3239353939392E6A 0x7067 18) refl
    ∷ that "one byte" (spelt (1 ∷ [])) (kept 0x0100000000000000 0 0 1) refl
    ∷ that "nine bytes" (spelt (1 ∷ 2 ∷ 3 ∷ 4 ∷ 5 ∷ 6 ∷ 7 ∷ 8 ∷ 9 ∷ [])) (kept 0x0102030405060708 0x0900000000000000 0 9) refl
    ∷ that "seventeen bytes" (spelt (1 ∷ 2 ∷ 3 ∷ 4 ∷ 5 ∷ 6 ∷ 7 ∷ 8 ∷ 9 ∷ 10 ∷ 11 ∷ 12 ∷ 13 ∷ 14 ∷ 15 ∷ 16 ∷ 17 ∷ []))
    (kept 0x0102030405060708 0x090A0B0C0D0E0F10 0x1100 17) refl
    ∷ that "eighteen bytes" (spelt (1 ∷ 2 ∷ 3 ∷ 4 ∷ 5 ∷ 6 ∷ 7 ∷ 8 ∷ 9 ∷ 10 ∷ 11 ∷ 12 ∷ 13 ∷ 14 ∷ 15 ∷ 16 ∷ 17 ∷ 18 ∷ []))
    (kept 0x0102030405060708 0x090A0B0C0D0E0F10 0x1112 18) refl
    ∷ that "the present name" (present (box (scanner Pending Timeout) (job 1 2 3 4 5) (side 2 6 7) (settings 8 1) (feed Loaded Jammed 9 10) (ring 11 12)))
    k1-002 refl
    ∷ []

-- the names of the cases, as bytes and as they are kept
pub spelled : List (Case (List Named))
unfolding final
spelled =
    that "of jobs" (map spelt (j2 ∷ j31 ∷ j34 ∷ j41 ∷ j42 ∷ j1234567890 ∷ [])) (k2 ∷ k31 ∷ k34 ∷ k41 ∷ k42 ∷ k1234567890 ∷ []) refl
    ∷ that "of sides"
    (map spelt
    (j1-001 ∷ j1-002 ∷ j31-046 ∷ j41-000 ∷ j41-006 ∷ j41-007 ∷ j41-999 ∷ j42-001 ∷ j43-001 ∷ j1234567890-987 ∷ j4294967295-999 ∷ []))
    (k1-001 ∷ k1-002 ∷ k31-046 ∷ k41-000 ∷ k41-006 ∷ k41-007 ∷ k41-999 ∷ k42-001 ∷ k43-001 ∷ k1234567890-987 ∷ k4294967295-999 ∷ []) refl
    ∷ []

pub likenesses : List (Case Bool)
likenesses =
    that "the same name" (alike (kept 73 76 79 82) (kept 73 76 79 82)) true refl
    ∷ that "other bytes 1 to 8" (alike (kept 73 76 79 82) (kept 74 76 79 82)) false refl
    ∷ that "other bytes 9 to 16" (alike (kept 73 76 79 82) (kept 73 77 79 82)) false refl
    ∷ that "other bytes 17 and 18" (alike (kept 73 76 79 82) (kept 73 76 80 82)) false refl
    ∷ that "another length" (alike (kept 73 76 79 82) (kept 73 76 79 83)) false refl
    ∷ that "no name, and none" (alike (kept 0 0 0 0) (kept 0 0 0 0)) true refl
    ∷ that "numbers that changed places" (alike (kept 73 76 79 82) (kept 76 73 82 79)) false refl
    ∷ that "none alike" (alike (kept 73 76 79 82) (kept 83 86 89 92)) false refl
    ∷ []

pub freshness : List (Case Record)
freshness =
    that "fresh" fresh
    (called_last no_name (box (scanner Idle None) (job 0 0 60 0 0) (side 1 0 0) (settings 1 1) (feed Unloaded None 0 0) (ring 0 0))) refl
    ∷ []
