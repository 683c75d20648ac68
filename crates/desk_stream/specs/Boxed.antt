-- What a record and a window come to for any numbers in the box's place, any ring and any bytes.
use Rattle.std.specs.Prelude.{ℕ, ◌+◌, Bool, false, cond, List, [], Option, Some, None, Result, Ok, Err, ⊤, length, nat_le}
use Rattle.rules.specs.Calls.{n603, n604, number_of, State}
use Rattle.answers.specs.declared.Why.{Why}
use Rattle.answers.specs.Told.{reason_of, state_of}
use Rattle.desk_text.specs.Put.{fitting, overlaid}
use Rattle.desk_line.specs.Line.{line_room}
use Rattle.stored.specs.Stored.{kept, recorded, is_box}
use Rattle.desk_stream.specs.Desk.{hears}
use Rattle.desk_stream.specs.declared.Came.{Came as Read}
use Rattle.desk_stream.specs.declared.Performed.{Performed}
use Rattle.desk_stream.specs.Window.{no_record, Piece, piece, replied_in, Progress, outset, served}

-- the box that numbers and a ring are
abbrev pub box_in : List ℕ → List ℕ → State
box_in ws ring = state_of (recorded ws) ring

-- the number told; the box's numbers, the ring, the reply and the lines as they are left; bytes read, bytes of text written, and
-- whether a bad record was met
pub record Came : Type 0 where
  pub number : ℕ
  pub words : List ℕ
  pub ring : List ℕ
  pub reply : List ℕ
  pub lines : List ℕ
  pub read : ℕ
  pub written : ℕ
  pub ended : Bool

-- record not sound with the lent ring
abbrev pub unsound_number : ℕ
unsound_number = number_of n604

-- less room than a line may take
abbrev pub no_room_number : ℕ
no_room_number = number_of n603

-- why nothing is begun: 604, then 603
abbrev pub barred_by : List ℕ → ℕ → ℕ → Result ⊤ Why
barred_by ws n room = cond (is_box ws n) (cond (nat_le (0 + line_room) room) (Ok tt) (Err Why.NoRoom)) (Err Why.Unsound)

-- a call that is not begun leaves all as it was
abbrev pub as_it_was : ℕ → List ℕ → List ℕ → List ℕ → List ℕ → Came
as_it_was number ws ring reply lines =
    record { number = number; words = ws; ring = ring; reply = reply; lines = lines; read = 0; written = 0; ended = false }

-- 604, then 603; else what comes of it
abbrev pub begun : List ℕ → List ℕ → List ℕ → List ℕ → Came → Came
begun ws ring reply lines came =
    cond (is_box ws (length ring))
    (cond (nat_le line_room (length lines)) came (as_it_was no_room_number ws ring reply lines))
    (as_it_was unsound_number ws ring reply lines)

-- a window, as the desk serves it; its replies are not the host's
abbrev pub windowed : List ℕ → Progress → Came
windowed lines p =
    record {
      number = 0;
      words = kept p.box.box;
      ring = p.box.bytes;
      reply = [];
      lines = overlaid lines 0 p.text;
      read = p.place;
      written = length p.text;
      ended = p.ended;
    }

unfoldable pub serving : List ℕ → List ℕ → List ℕ → ℕ → Bool → List ℕ → Came
serving ws ring input base last lines =
    begun ws ring [] lines (windowed lines (served base last (length lines) 0 (outset (box_in ws ring)) input))

-- one record: its text is put as far as there is room. With a reply of up to 259 bytes that is all of it (`line-whole`, `bad-whole`)
abbrev pub saying : Piece → List ℕ → List ℕ → Came
saying p reply lines =
    record {
      number = p.number;
      words = kept p.box.box;
      ring = p.box.bytes;
      reply = reply;
      lines = overlaid lines 0 (fitting lines 0 p.text);
      read = p.size;
      written = length (fitting lines 0 p.text);
      ended = p.ended;
    }

-- the record at the input's front; one that is only cut waits, unless the input is all there is
unfoldable pub performing : List ℕ → List ℕ → List ℕ → List ℕ → ℕ → Bool → List ℕ → Came
performing ws ring reply input offset last lines =
    begun ws ring reply lines
    (saying (piece (length reply) offset last (box_in ws ring) input) (replied_in (hears input) (box_in ws ring) reply) lines)

-- ---- a result in these words: a refusal has its reason's number
abbrev pub came_of : Result Read Why → List ℕ → List ℕ → List ℕ → List ℕ → Came
came_of (Ok came) ws ring reply lines =
    record {
      number = 0;
      words = ws;
      ring = ring;
      reply = reply;
      lines = lines;
      read = came.read;
      written = came.written;
      ended = came.ended;
    }
came_of (Err why) ws ring reply lines = as_it_was (number_of (reason_of why)) ws ring reply lines

-- one record's number: 0 where it is accepted, else its reason's
abbrev pub number_of_record : Option (Result ⊤ Why) → ℕ
number_of_record (Some (Ok u)) = 0
number_of_record (Some (Err why)) = number_of (reason_of why)
number_of_record None = no_record

abbrev pub turn_of : Result Performed Why → List ℕ → List ℕ → List ℕ → List ℕ → Came
turn_of (Ok turn) ws ring reply lines =
    record {
      number = number_of_record turn.outcome;
      words = ws;
      ring = ring;
      reply = reply;
      lines = lines;
      read = turn.came.read;
      written = turn.came.written;
      ended = turn.came.ended;
    }
turn_of (Err why) ws ring reply lines = as_it_was (number_of (reason_of why)) ws ring reply lines
