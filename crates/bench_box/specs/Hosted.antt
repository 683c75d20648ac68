-- A host's calls one after the other, each given what the last one left; and the calls of the paper in them.
use Rattle.std.specs.Prelude.{ℕ, ◌+◌, ◌≡◌, Bool, cond, List, [], ◌∷◌, ◌++◌, eqb, length, get_or, take}
use Rattle.rules.specs.Calls.{Call, State, Outcome, report, Tick}
use Rattle.rules.specs.Machine.{run}
use Rattle.answers.specs.declared.Request.{Request}
use Rattle.answers.specs.Asked.{asked, replied}
use Rattle.desk_text.specs.Put.{fitting, overlaid}
use Rattle.desk_line.specs.Line.{line_for}
use Rattle.stored.specs.Stored.{is_box}
use Rattle.desk_stream.specs.Desk.{Heard, calling, wrong, hears, read_from, lines_of, bad_text}
use Rattle.desk_stream.specs.Window.{no_record}
use Rattle.desk_stream.specs.Boxed.{box_in, no_room_number, serving, performing}
use Rattle.bench_box.specs.Host.{tick_number, tick_words, Left, to_host}

-- ---- what a host calls with a box and a ring, and what it lends for it
pub data HostCall : Type 0 where
  serves : (input : List ℕ) (offset : ℕ) (last : Bool) (lines : List ℕ) → HostCall
  performs : (reply input : List ℕ) (offset : ℕ) (last : Bool) (line : List ℕ) → HostCall
  ticks : HostCall

-- what it comes to, by the contract of the function
abbrev pub comes : List ℕ → List ℕ → HostCall → Left
comes ws ring (serves input offset last lines) = to_host (serving ws ring input offset last lines)
comes ws ring (performs reply input offset last line) = to_host (performing ws ring reply input offset last line)
comes ws ring ticks =
    record {
      number = tick_number ws (length ring);
      words = tick_words ws (length ring);
      ring = ring;
      reply = [];
      lines = [];
      progress = [];
    }

-- each is given the numbers and the ring as the last one left them; a box stays a box
pub data Hosted : List ℕ → List ℕ → List HostCall → List Left → Type 0 where
  hosted-none : {ws ring : List ℕ} → Hosted ws ring [] []
  hosted-one : {ws ring : List ℕ} {c : HostCall} {l : Left} {cs : List HostCall} {ls : List Left} → l ≡ comes ws ring c
      → is_box l.words (length l.ring) ≡ is_box ws (length ring) → Hosted l.words l.ring cs ls → Hosted ws ring (c ∷ cs) (l ∷ ls)

-- the numbers and the ring behind all of them
abbrev pub words_left : List ℕ → List Left → List ℕ
words_left ws [] = ws
words_left ws (l ∷ ls) = words_left l.words ls

abbrev pub ring_left : List ℕ → List Left → List ℕ
ring_left ring [] = ring
ring_left ring (l ∷ ls) = ring_left l.ring ls

-- ---- the calls in a host's call: those of the records in the bytes that it read; a second is a Tick
abbrev pub read_of : Left → ℕ
read_of l = get_or l.progress 0 0

abbrev pub written_of : Left → ℕ
written_of l = get_or l.progress 1 0

abbrev pub ended_of : Left → ℕ
ended_of l = get_or l.progress 2 0

-- a record performed lends the host's reply
abbrev pub asked_in : List ℕ → Heard → List Call
asked_in reply (calling k q given size) = asked q given reply ∷ []
asked_in reply wrong = []

abbrev pub calls_in : HostCall → Left → List Call
calls_in (serves input offset last lines) l = (read_from 0 offset (take (read_of l) input)).calls
calls_in (performs reply input offset last line) l = asked_in reply (hears (take (read_of l) input))
calls_in ticks l = report Tick ∷ []

abbrev pub calls_of : List HostCall → List Left → List Call
calls_of [] ls = []
calls_of (c ∷ cs) [] = []
calls_of (c ∷ cs) (l ∷ ls) = calls_in c l ++ calls_of cs ls

-- ---- what a host is told of the outcomes of these calls
-- the numbers of a record that is not answered
pub data Unanswered : ℕ → Type 0 where
  short : Unanswered no_room_number
  none_reads : Unanswered no_record

-- the bad line, where the call ended at one
abbrev pub bad_behind : ℕ → Left → List ℕ
bad_behind offset l = cond (eqb (ended_of l) 1) (bad_text (offset + read_of l)) []

-- a text stands at the front of the lines that were lent, and its length is told
abbrev pub Says : List ℕ → List ℕ → Left → Type 0
Says lines text l = (l.lines ≡ overlaid lines 0 text) × (written_of l ≡ length text)

pub data Told : HostCall → Left → List Outcome → Type 0 where
  -- a window: a line for each, and the bad line if it ended there
  in_lines : {input lines : List ℕ} {offset : ℕ} {last : Bool} {l : Left} {os : List Outcome} → l.number ≡ 0
      → Says lines (lines_of (read_from 0 offset (take (read_of l) input)).kinds os ++ bad_behind offset l) l
      → Told (serves input offset last lines) l os
  -- or none at all, where the lines are too short
  no_lines : {input lines : List ℕ} {offset : ℕ} {last : Bool} {l : Left} → l.number ≡ no_room_number → Says lines [] l
      → Told (serves input offset last lines) l []
  -- a record: its number, its reply and its line
  by_number : {reply input line given : List ℕ} {offset k size : ℕ} {last : Bool} {q : Request} {l : Left} {o : Outcome}
      → hears (take (read_of l) input) ≡ calling k q given size → l.number ≡ o.number → l.reply ≡ replied (asked q given reply) o reply
      → Says line (fitting line 0 (line_for k o)) l → Told (performs reply input offset last line) l (o ∷ [])
  -- none: its number says so, the reply is as it was, and the lines have the bad line if it ended there
  not-at-all : {reply input line : List ℕ} {offset : ℕ} {last : Bool} {l : Left} → Unanswered l.number → l.reply ≡ reply
      → Says line (fitting line 0 (bad_behind offset l)) l → Told (performs reply input offset last line) l []
  -- a second
  by-tick : {l : Left} {o : Outcome} → l.number ≡ o.number → Told ticks l (o ∷ [])

-- call by call the host has what `run` gives for the calls in it, and is told of it
pub data Follows : State → List HostCall → List Left → Type 0 where
  follows-none : {s : State} → Follows s [] []
  follows-one : {s : State} {c : HostCall} {l : Left} {cs : List HostCall} {ls : List Left} → Told c l (run s (calls_in c l)).outcomes
      → box_in l.words l.ring ≡ (run s (calls_in c l)).end → Follows (run s (calls_in c l)).end cs ls → Follows s (c ∷ cs) (l ∷ ls)
