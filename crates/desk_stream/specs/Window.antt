-- What the desk makes of one window of its input, into a buffer of so much room.
use Rattle.std.specs.Prelude.{ℕ, zero, suc, ◌+◌, Bool, true, false, cond, not, ◌&&◌, ◌||◌, List, [], ◌∷◌, ◌++◌, length, nat_le}
use Rattle.rules.specs.Calls.{State, Outcome}
use Rattle.rules.specs.Machine.{step}
use Rattle.answers.specs.Asked.{asked, replied}
use Rattle.desk_records.specs.Reading.{second_mark, length_width, front, cut}
use Rattle.desk_line.specs.Line.{line_for, line_room}
use Rattle.desk_stream.specs.Desk.{Heard, calling, wrong, hears, reply_room, call_with, bad_text}

-- the longest record: its head and 255 bytes
abbrev pub longest : ℕ
longest = 259

-- ---- one record's piece of the input: the number told, the box left, its size, its text, and whether the desk ends with it
pub record Piece : Type 0 where
  pub number : ℕ
  pub box : State
  pub size : ℕ
  pub text : List ℕ
  pub ended : Bool

-- where no record reads: no number of the paper, and not 0, which is acceptance
abbrev pub no_record : ℕ
no_record = 0xFFFF

-- an answered record has its size and its line
abbrev pub answered_by : ℕ → Outcome → ℕ → Piece
answered_by k o size = record { number = o.number; box = o.state; size = size; text = line_for k o; ended = false }

-- so has a bad one: nothing of it is passed over, and it ends the desk. `at` is its offset in the input
abbrev pub broken_at : ℕ → State → Piece
broken_at at box = record { number = no_record; box = box; size = 0; text = bad_text at; ended = true }

-- one that is only cut waits for more input, if more may come
abbrev pub waiting_in : State → Piece
waiting_in box = record { number = no_record; box = box; size = 0; text = []; ended = false }

abbrev pub waits : Bool → List ℕ → Bool
waits last s = cut (front second_mark length_width s) && not last

-- where nothing reads
abbrev pub unheard_in : ℕ → Bool → State → List ℕ → Piece
unheard_in at last box s = cond (waits last s) (waiting_in box) (broken_at at box)

-- with a reply of so many bytes
abbrev pub piece_of : ℕ → ℕ → Bool → State → List ℕ → Heard → Piece
piece_of room at last box s (calling k q given size) = answered_by k (step box (call_with room q given)) size
piece_of room at last box s wrong = unheard_in at last box s

unfoldable pub piece : ℕ → ℕ → Bool → State → List ℕ → Piece
piece room at last box s = piece_of room at last box s (hears s)

-- the lent reply as a piece leaves it
abbrev pub replied_in : Heard → State → List ℕ → List ℕ
replied_in (calling k q given size) box reply = replied (asked q given reply) (step box (asked q given reply)) reply
replied_in wrong box reply = reply

-- ---- how far the desk has come: its box, its place in the window, the text, and whether it met a bad record
pub record Progress : Type 0 where
  pub box : State
  pub place : ℕ
  pub text : List ℕ
  pub ended : Bool

abbrev pub outset : State → Progress
outset box = record { box = box; place = 0; text = []; ended = false }

-- a piece more
abbrev pub took : Progress → Piece → Progress
took p t = record { box = t.box; place = p.place + t.size; text = p.text ++ t.text; ended = t.ended || p.ended }

-- one of no size is the last
abbrev pub onward : ℕ → Progress → (ℕ → Progress → Progress) → Progress
onward zero p rest = p
onward (suc skip) p rest = rest skip p

-- for the window's offset in the input, whether the input ends with it, and the room for text
module _ (base : ℕ) (last : Bool) (room : ℕ) where
  abbrev pub roomy : Progress → Bool
  roomy p = nat_le (length p.text + line_room) room

  abbrev pub turned : Progress → Piece → (ℕ → Progress → Progress) → Progress
  turned p t rest = onward t.size (took p t) rest

  -- piece after piece, while a line has room
  unfoldable pub served : ℕ → Progress → List ℕ → Progress
  served skip p [] = p
  served (suc skip) p (b ∷ s) = served skip p s
  served zero p (b ∷ s) =
      cond (roomy p) (turned p (piece reply_room (base + p.place) last p.box (b ∷ s)) (λ skip q. served skip q s)) p
