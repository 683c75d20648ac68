-- The desk's lines held to the paper, letter by letter and column by column. A definition that is wrong fails at the line of a case,
-- also where the code is wrong with it.
use Rattle.std.specs.Prelude.{ℕ, refl, true, false, List, [], ◌∷◌}
use Rattle.rules.specs.declared.Scan.{Scan}
use Rattle.rules.specs.declared.Scan.TheVariants.{Idle, Pending, Scanning, Finishing, Erred}
use Rattle.rules.specs.declared.Feed.{Feed}
use Rattle.rules.specs.declared.Feed.TheVariants.{Unloaded, Loaded, Busy, Erred as Stuck}
use Rattle.rules.specs.declared.Failure.TheVariants.{None, Jammed, Timeout}
use Rattle.rules.specs.declared.Record.{Record}
use Rattle.rules.specs.Calls.{nothing, time, destination, picture, state, sides, feeding, mode, stored}
use Rattle.rules.specs.Cases.{Case, that, box, scanner, job, side, settings, feed, ring, minus_one, minus_two, j41-006}
use Rattle.desk_text.specs.Digits.{last_digits, hexes}
use Rattle.desk_text.specs.Literal.{text, bytes}
use Rattle.desk_line.specs.Line.{scan_letter, feed_letter, count_text, extra_of, line_of, roomed}

-- ---- letters
pub letters : List (Case (List ℕ))
unfolding text
letters =
    that "Idle" (scan_letter Idle ∷ []) (text "I") refl
    ∷ that "Pending" (scan_letter Pending ∷ []) (text "P") refl
    ∷ that "Scanning" (scan_letter Scanning ∷ []) (text "S") refl
    ∷ that "Finishing" (scan_letter Finishing ∷ []) (text "F") refl
    ∷ that "Erred" (scan_letter Erred ∷ []) (text "E") refl
    ∷ that "feeder Unloaded" (feed_letter Unloaded ∷ []) (text "U") refl
    ∷ that "feeder Loaded" (feed_letter Loaded ∷ []) (text "L") refl
    ∷ that "feeder Busy" (feed_letter Busy ∷ []) (text "B") refl
    ∷ that "feeder Erred" (feed_letter Stuck ∷ []) (text "E") refl
    ∷ []

-- ---- SideCount, as people read its two's complement
pub counts : List (Case (List ℕ))
unfolding last_digits text
counts =
    that "0" (count_text 0) (text "0") refl
    ∷ that "999" (count_text 999) (text "999") refl
    ∷ that "the greatest" (count_text 0x7FFFFFFF) (text "2147483647") refl
    ∷ that "the least" (count_text 0x80000000) (text "-2147483648") refl
    ∷ that "−2" (count_text minus_two) (text "-2") refl
    ∷ that "−1" (count_text minus_one) (text "-1") refl
    ∷ []

-- ---- extra
pub extras : List (Case (List ℕ))
unfolding last_digits hexes bytes
extras =
    that "refused, or not named" (extra_of nothing) (text "-") refl
    ∷ that "01 granted" (extra_of (time 600)) (text "600") refl
    ∷ that "05 name:DestinationID" (extra_of (destination j41-006 91)) (text "J0000000041006.jpg:91") refl
    ∷ that "05 the greatest DestinationID" (extra_of (destination (text "J1.jpg") 4294967295)) (text "J1.jpg:4294967295") refl
    ∷ that "06 k, `:`, bytes" (extra_of (picture 3 false (bytes "0A F0 5C"))) (text "3:0AF05C") refl
    ∷ that "06 k, `!` if last, `:`, bytes" (extra_of (picture 2 true (bytes "41 42"))) (text "2!:4142") refl
    ∷ that "06 k of 0" (extra_of (picture 0 false [])) (text "0:") refl
    ∷ that "06 k of 12" (extra_of (picture 12 true (bytes "00 01 02 03 04 05 06 07 08 09 0A 0B"))) (text "12!:000102030405060708090A0B") refl
    ∷ that "07 none" (extra_of (state Pending None)) (text "none") refl
    ∷ that "07 Jammed" (extra_of (state Erred Jammed)) (text "Jammed") refl
    ∷ that "07 Timeout" (extra_of (state Idle Timeout)) (text "Timeout") refl
    ∷ that "08 is not named" (extra_of (sides 6 8 0)) (text "-") refl
    ∷ that "14 MorePages:none" (extra_of (feeding Unloaded 0 None)) (text "0:none") refl
    ∷ that "14 MorePages:Jammed" (extra_of (feeding Stuck 1 Jammed)) (text "1:Jammed") refl
    ∷ that "14 MorePages:Timeout" (extra_of (feeding Stuck 1 Timeout)) (text "1:Timeout") refl
    ∷ that "15 Simplex" (extra_of (mode 0)) (text "Simplex") refl
    ∷ that "20 none put in" (extra_of (stored 0)) (text "0") refl
    ∷ that "20 how many bytes this record put in" (extra_of (stored 255)) (text "255") refl
    ∷ []

-- ---- whole lines, of a record in which all numbers differ
abbrev pub told : Scan → Feed → ℕ → Record
told s f count = box (scanner s Timeout) (job 31 34 97 40 43) (side 46 count 52) (settings 55 58) (feed f Jammed 61 64) (ring 67 70)

-- kind, number, scan state, feeder state, job, SideNumber, SideCount, extra
pub lines : List (Case (List ℕ))
unfolding line_of last_digits hexes text
lines =
    that "accepted" (line_of 0x1A 0 (time 23) (told Scanning Busy 49)) (text "1A 0 S B 31 46 49 23\n") refl
    ∷ that "refused" (line_of 0x24 711 nothing (told Pending Loaded 49)) (text "24 711 P L 31 46 49 -\n") refl
    ∷ that "SideCount −1" (line_of 0x02 0 nothing (told Finishing Unloaded minus_one)) (text "02 0 F U 31 46 -1 -\n") refl
    ∷ that "both Erred" (line_of 0x07 0 (state Erred Timeout) (told Erred Stuck 8)) (text "07 0 E E 31 46 8 Timeout\n") refl
    ∷ []

-- ---- no line is put into less room than any line may take
pub roomed_lines : List (Case (List ℕ))
unfolding text
roomed_lines =
    that "640 bytes left" (roomed 1000 360 (text "a line")) (text "a line") refl
    ∷ that "639 left" (roomed 1000 361 (text "a line")) [] refl
    ∷ []
