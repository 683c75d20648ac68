-- The desk's text held to the paper: the worked input, stories with every kind, how an input ends, the ring and the reply. A definition
-- that is wrong fails at the line of a case, also where the code is wrong with it.
use Rattle.std.specs.Prelude.{◌≡◌, ℕ, zero, suc, Bool, true, false, cond, List, [], ◌∷◌, ◌++◌, replicate, refl}
use Prim.Native.String.{String}
use Rattle.rules.specs.declared.Scan.TheVariants.{Scanning}
use Rattle.rules.specs.declared.Feed.TheVariants.{Unloaded}
use Rattle.rules.specs.declared.Failure.TheVariants.{None}
use Rattle.rules.specs.Calls.{Fetch as fetching, Call, scan, State}
use Rattle.rules.specs.Record.{fresh}
use Rattle.rules.specs.Machine.{start, step}
use Rattle.rules.specs.Cases.{Case, that, final, boxed, box, scanner, job, side, settings, feed, ring, j1-001}
use Rattle.answers.specs.declared.Request.TheVariants.{Fetch}
use Rattle.desk_text.specs.Digits.{last_digits, hexes}
use Rattle.desk_text.specs.Literal.{text, bytes}
use Rattle.desk_kinds.specs.Kinds.{asking_of}
use Rattle.desk_records.proofs.Cases.{reads}
use Rattle.desk_line.specs.Line.{line_of}
use Rattle.stored.specs.Stored.{kept, all_fit, recorded, is_box}
use Rattle.desk_stream.specs.Window.{piece, served}
use Rattle.desk_stream.specs.Boxed.{Came, serving, performing}
use Rattle.desk_stream.specs.Desk.{hears, desk_call, read_from, bad_text, printed, ring_room, desk_text}

-- what is printed for an input, from a box and by the desk program
unfoldable pub printing : State → List ℕ → List ℕ
unfolding final bytes last_digits hexes reads asking_of line_of hears read_from bad_text printed
printing box input = printed box (read_from 0 0 input)

unfoldable pub prints : List ℕ → List ℕ
unfolding printing
prints input = desk_text input

-- ---- the worked input
pub worked : List (Case (List ℕ))
unfolding prints
worked =
    that "the paper's" (prints (bytes "A55A220101 A55A010602000102000A A55A20024142 A55A2100 A55A0613084A303030303030303030313030312E6A7067"))
    (text "22 0 I U 0 1 0 -\n01 0 S B 1 1 1 10\n20 0 S B 1 1 1 2\n21 0 F U 1 1 0 -\n06 0 P U 1 2 0 2!:4142\n") refl
    ∷ []

-- ---- every kind, so that what it asks is seen in its line or in a later one
-- a record, and the line due for it
pub record Row : Type 0 where
  pub input : String
  pub line : String

abbrev pub row : String → String → Row
row input line = record { input = input; line = line }

unfoldable pub input_of : List Row → List ℕ
input_of [] = []
input_of (r ∷ rs) = bytes r.input ++ input_of rs

unfoldable pub lines_due : List Row → List ℕ
lines_due [] = []
lines_due (r ∷ rs) = text r.line ++ text "\n" ++ lines_due rs

-- a ring of eight bytes does for these; where one fails, the check is short enough to show what differs
abbrev pub fresh8 : State
fresh8 = start (replicate 8 0)

abbrev pub story : (says : String) (rows : List Row) → printing fresh8 (input_of rows) ≡ lines_due rows → Case (List ℕ)
story says rows e = that says (printing fresh8 (input_of rows)) (lines_due rows) e

pub stories : List (Case (List ℕ))
unfolding printing input_of lines_due
stories =
    story "the feeder's calls"
    (row "A55A 22 01 01" "22 0 I U 0 1 0 -"
    ∷ row "A55A 14 00" "14 0 I U 0 1 0 1:none"
    ∷ row "A55A 10 04 00000000" "10 0 I L 0 1 0 -"
    ∷ row "A55A 13 05 00000000 00" "13 501 I L 0 1 0 -"
    ∷ row "A55A 11 05 00000000 01" "11 0 I U 0 1 0 -"
    ∷ row "A55A 13 05 00000000 01" "13 601 I U 0 1 0 -"
    ∷ row "A55A 13 05 00000000 00" "13 0 I U 0 1 0 -"
    ∷ row "A55A 14 00" "14 0 I U 0 1 0 0:none"
    ∷ row "A55A 15 00" "15 0 I U 0 1 0 Simplex"
    ∷ []) refl
    ∷ story "a jam"
    (row "A55A 23 01 01" "23 0 I E 0 1 0 -"
    ∷ row "A55A 12 04 00000000" "12 0 I E 0 1 0 -"
    ∷ row "A55A 23 01 00" "23 0 I E 0 1 0 -"
    ∷ row "A55A 14 00" "14 0 I E 0 1 0 0:Jammed"
    ∷ row "A55A 12 04 00000000" "12 0 I U 0 1 0 -"
    ∷ []) refl
    ∷ story "a job from the feeder, stopped"
    (row "A55A 22 01 01" "22 0 I U 0 1 0 -"
    ∷ row "A55A 01 06 01 FFFF 00 0004" "01 0 S B 1 1 -1 5"
    ∷ row "A55A 05 04 00000001" "05 0 S B 1 1 -1 J0000000001.jpg:1"
    ∷ row "A55A 20 02 4142" "20 0 S B 1 1 -1 2"
    ∷ row "A55A 06 10 01 4A303030303030303030312E6A7067" "06 0 S B 1 1 -1 1:41"
    ∷ row "A55A 21 00" "21 0 F U 1 1 -1 -"
    ∷ row "A55A 03 04 00000001" "03 0 F U 1 1 -1 -"
    ∷ row "A55A 06 10 FF 4A303030303030303030312E6A7067" "06 0 I U 0 1 0 1!:42"
    ∷ []) refl
    ∷ story "a job on the glass, aborted"
    (row "A55A 01 06 00 0000 00 0005" "01 0 P U 1 1 0 5"
    ∷ row "A55A 02 07 00000001 00 0001" "02 0 S U 1 1 1 -"
    ∷ row "A55A 08 00" "08 0 S U 1 1 1 -"
    ∷ row "A55A 04 04 00000002" "04 712 S U 1 1 1 -"
    ∷ row "A55A 04 04 00000001" "04 0 I U 0 1 0 -"
    ∷ []) refl
    ∷ story "a job that ends by time"
    (row "A55A 01 06 00 0000 00 0005" "01 0 P U 1 1 0 5"
    ∷ row "A55A 24 00" "24 0 P U 1 1 0 -"
    ∷ row "A55A 24 00" "24 0 P U 1 1 0 -"
    ∷ row "A55A 24 00" "24 0 P U 1 1 0 -"
    ∷ row "A55A 24 00" "24 0 P U 1 1 0 -"
    ∷ row "A55A 24 00" "24 0 I U 0 1 0 -"
    ∷ row "A55A 07 00" "07 0 I U 0 1 0 Timeout"
    ∷ []) refl
    ∷ []

-- ---- a bad record prints `bad` and the offset of its first byte, and ends; empty input prints nothing
pub endings : List (Case (List ℕ))
unfolding prints
endings =
    that "empty" (prints []) [] refl
    ∷ that "an end behind a record" (prints (bytes "A55A2400")) (text "24 0 I U 0 1 0 -\n") refl
    ∷ that "wrong mark: its first byte" (prints (bytes "A55A2400 A45A2400")) (text "24 0 I U 0 1 0 -\nbad 4\n") refl
    ∷ that "wrong mark: its second byte" (prints (bytes "A55A2400 A55B2400")) (text "24 0 I U 0 1 0 -\nbad 4\n") refl
    ∷ that "unknown kind" (prints (bytes "A55A2400 A55A0900")) (text "24 0 I U 0 1 0 -\nbad 4\n") refl
    ∷ that "wrong length" (prints (bytes "A55A2400 A55A2200")) (text "24 0 I U 0 1 0 -\nbad 4\n") refl
    ∷ that "cut in its head" (prints (bytes "A55A2400 A55A24")) (text "24 0 I U 0 1 0 -\nbad 4\n") refl
    ∷ that "cut in its payload" (prints (bytes "A55A2400 A55A2201")) (text "24 0 I U 0 1 0 -\nbad 4\n") refl
    ∷ that "at the first byte" (prints (bytes "A5")) (text "bad 0\n") refl
    ∷ that "what follows is not read" (prints (bytes "00 A55A2400")) (text "bad 0\n") refl
    ∷ that "the greatest offset of 64 bits" (bad_text 18446744073709551615) (text "bad 18446744073709551615\n") refl
    ∷ that "one more is 0, by our reading" (bad_text 18446744073709551616) (text "bad 0\n") refl
    ∷ []

-- ---- a 4,096-byte ring. To put so many bytes in takes more steps than a check has, so 4,095 are stored in it from the start
abbrev pub nearly_full : State
nearly_full =
    boxed (box (scanner Scanning None) (job 1 1 60 0 0) (side 1 1 1) (settings 0 1) (feed Unloaded None 0 0) (ring 0 4095)) (replicate ring_room 0)

pub rings : List (Case (List ℕ))
unfolding printing
rings =
    that "the 4,096th byte is taken, one more is 603" (printing nearly_full (bytes "A55A200141 A55A200142"))
    (text "20 0 S U 1 1 1 1\n20 603 S U 1 1 1 -\n") refl
    ∷ []

pub desks : List (Case (List ℕ → List ℕ))
desks = that "a fresh box with a ring of 4,096 bytes" desk_text (λ input. printed (start (replicate 4096 0)) (read_from 0 0 input)) refl ∷ []

-- ---- a 259-byte reply
pub lents : List (Case Call)
lents = that "a reply of 259 bytes" (desk_call (Fetch 8) j1-001) (scan (fetching j1-001 8 (replicate 259 0))) refl ∷ []

-- a text so many times
unfoldable pub times : ℕ → List ℕ → List ℕ
times zero s = []
times (suc n) s = s ++ times n s

pub replies : List (Case (List ℕ))
unfolding prints times
replies =
    that "a fetch of 255 gives 255"
    (prints (bytes "A55A 01 06 00 0001 01 000A A55A 20 FF" ++ replicate 255 0x41 ++ bytes "A55A 06 13 FF 4A303030303030303030313030312E6A7067"))
    (text "01 0 S U 1 1 1 10\n20 0 S U 1 1 1 255\n06 0 S U 1 1 1 255:" ++ times 255 (text "41") ++ text "\n") refl
    ∷ []

-- ---- what is told of a window and of one record: number, bytes read, bytes of text written, ended
abbrev pub telling : Came → List ℕ
telling c = c.number ∷ c.read ∷ c.written ∷ cond c.ended 1 0 ∷ []

-- of a fresh box with a ring of eight bytes, or of numbers that are none; with so much room for lines
unfoldable pub performs : List ℕ → List ℕ → Bool → ℕ → List ℕ
unfolding printing bytes is_box all_fit recorded kept step piece performing
performs ws input last room = telling (performing ws (replicate 8 0) [] input 7 last (replicate room 0))

unfoldable pub serves : List ℕ → List ℕ → Bool → ℕ → List ℕ
unfolding printing bytes is_box all_fit recorded kept step piece served serving
serves ws input last room = telling (serving ws (replicate 8 0) input 7 last (replicate room 0))

pub of_records : List (Case (List ℕ))
unfolding performs
of_records =
    that "accepted" (performs (kept fresh) (bytes "A55A 24 00") false 640) (0 ∷ 4 ∷ 17 ∷ 0 ∷ []) refl
    ∷ that "refused" (performs (kept fresh) (bytes "A55A 21 00") false 640) (501 ∷ 4 ∷ 19 ∷ 0 ∷ []) refl
    ∷ that "bad, whatever may follow" (performs (kept fresh) (bytes "A55B") false 640) (0xFFFF ∷ 0 ∷ 6 ∷ 1 ∷ []) refl
    ∷ that "only cut, more may come" (performs (kept fresh) (bytes "A55A 24") false 640) (0xFFFF ∷ 0 ∷ 0 ∷ 0 ∷ []) refl
    ∷ that "cut, and all there is" (performs (kept fresh) (bytes "A55A 24") true 640) (0xFFFF ∷ 0 ∷ 6 ∷ 1 ∷ []) refl
    ∷ that "nothing yet" (performs (kept fresh) [] false 640) (0xFFFF ∷ 0 ∷ 0 ∷ 0 ∷ []) refl
    ∷ that "a byte too little for a line" (performs (kept fresh) (bytes "A55A 24 00") false 639) (603 ∷ 0 ∷ 0 ∷ 0 ∷ []) refl
    ∷ that "no box: before all else" (performs (replicate 19 0) (bytes "A55B") false 639) (604 ∷ 0 ∷ 0 ∷ 0 ∷ []) refl
    ∷ []

pub of_windows : List (Case (List ℕ))
unfolding serves
of_windows =
    that "two records" (serves (kept fresh) (bytes "A55A2400 A55A2100") false 1280) (0 ∷ 8 ∷ 36 ∷ 0 ∷ []) refl
    ∷ that "one, and no room for another line" (serves (kept fresh) (bytes "A55A2400 A55A2100") false 640) (0 ∷ 4 ∷ 17 ∷ 0 ∷ []) refl
    ∷ that "one, and a bad one" (serves (kept fresh) (bytes "A55A2400 A55B") false 1280) (0 ∷ 4 ∷ 24 ∷ 1 ∷ []) refl
    ∷ that "one, and a cut one" (serves (kept fresh) (bytes "A55A2400 A55A") false 1280) (0 ∷ 4 ∷ 17 ∷ 0 ∷ []) refl
    ∷ that "a byte too little for a line, also of no input" (serves (kept fresh) [] false 639) (603 ∷ 0 ∷ 0 ∷ 0 ∷ []) refl
    ∷ that "no box: before all else" (serves (replicate 19 0) [] false 639) (604 ∷ 0 ∷ 0 ∷ 0 ∷ []) refl
    ∷ []
