-- One turn of the desk program: what it answers of its input, and what it keeps.
use Rattle.std.specs.Prelude.{ℕ, ◌+◌, ◌-◌, ◌%◌, ◌^◌, min, Bool, true, false, cond, ◌&&◌, ◌||◌, List, length, take, drop, ◌==◌, nat_le, nat_lt}
use Rattle.desk_text.specs.Put.{overlaid}
use Rattle.desk_line.specs.Line.{line_room}
use Rattle.desk_stream.specs.Boxed.{Came, serving}
use Rattle.desk_loop.specs.declared.Flow.{Flow}

-- at the outset nothing is read, and the window wants input
abbrev pub at_first : Flow
at_first = record { at = 0; held = 0; base = 0; last = false; wants = true; over = false; written = 0 }

-- ---- what a read brings
-- so many bytes more, in a window of so much room
abbrev pub held_in : ℕ → ℕ → ℕ → ℕ
held_in held got room = min (held + got) room

-- a read that brings nothing ends the input
abbrev pub filled : Flow → ℕ → ℕ → Flow
filled f got room =
    record {
      at = min f.at (held_in f.held got room);
      held = held_in f.held got room;
      base = f.base;
      last = f.last || (f.wants && got == 0);
      wants = f.wants;
      over = f.over;
      written = f.written;
    }

-- the bytes of a buffer that are read in but not answered yet
abbrev pub unread : List ℕ → ℕ → ℕ → List ℕ
unread buffer at held = take (held - at) (drop at buffer)

-- ---- what is behind a window, of which so much is read
-- more input is wanted where a line has room. All is said after a bad record, after a refusal, and where all input is answered; the
-- offset is counted in 64 bits
abbrev pub passed : Flow → ℕ → ℕ → ℕ → Bool → ℕ → Flow
passed f number read written ended room =
    record {
      at = f.at + read;
      held = f.held;
      base = (f.base + read) % 2 ^ 64;
      last = f.last;
      wants = nat_le (written + line_room) room;
      over = (ended || nat_lt 0 number) || (f.last && f.at + read == f.held);
      written = written;
    }

-- a window that wants more begins with what is not answered
abbrev pub settled : Flow → Flow
settled f =
    cond f.wants
    (record { at = 0; held = f.held - f.at; base = f.base; last = f.last; wants = f.wants; over = f.over; written = f.written }) f

abbrev pub settled_window : Flow → List ℕ → List ℕ
settled_window f window = cond f.wants (overlaid window 0 (unread window f.at f.held)) window

-- ---- a turn
-- all that the program has: where it stands, the box's numbers, the ring, the window and the lines
pub record Desk : Type 0 where
  pub flow : Flow
  pub words : List ℕ
  pub ring : List ℕ
  pub window : List ℕ
  pub lines : List ℕ

-- what came of the window, by the contract of `desk_stream::serve`
abbrev pub came : Flow → Desk → Came
came f d = serving d.words d.ring (unread d.window f.at f.held) f.base f.last d.lines

abbrev pub passing : Flow → Came → ℕ → Flow
passing f c room = passed f c.number c.read c.written c.ended room

abbrev pub behind : Flow → Desk → Came → Desk
behind f d c =
    record {
      flow = settled (passing f c (length d.lines));
      words = c.words;
      ring = c.ring;
      window = settled_window (passing f c (length d.lines)) d.window;
      lines = c.lines;
    }

abbrev pub turned_by : Flow → Desk → Desk
turned_by f d = behind f d (came f d)

-- so many bytes stand behind those that were held
unfoldable pub turned : ℕ → Desk → Desk
turned got d = turned_by (filled d.flow got (length d.window)) d
