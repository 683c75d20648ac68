-- The box for a host in C: what each function answers and leaves, for any numbers in the box's place, any ring and any bytes.
use Rattle.std.specs.Prelude.{ℕ, Bool, cond, List, [], ◌∷◌, ltb}
use Rattle.stored.specs.Stored.{names_at, number_at, kept, recorded, is_box}
use Rattle.desk_stream.specs.Boxed.{Came, unsound_number}
use Rattle.host_tick.specs.Second.{second_of}

-- ---- a second, with a ring of n bytes: its number, and the numbers that it leaves
unfoldable pub tick_number : List ℕ → ℕ → ℕ
tick_number ws n = cond (is_box ws n) (second_of (recorded ws) n).number unsound_number

unfoldable pub tick_words : List ℕ → ℕ → List ℕ
tick_words ws n = cond (is_box ws n) (kept (second_of (recorded ws) n).state.box) ws

-- ---- what the box is doing: the number asked for, or none where nothing is told; the last name is not asked for
abbrev pub no_answer : ℕ
no_answer = 18446744073709551615

unfoldable pub answer_to : List ℕ → ℕ → ℕ → ℕ
answer_to ws n question = cond (is_box ws n) (cond (ltb question names_at) (number_at ws question) no_answer) no_answer

-- ---- what a record or a window of them leaves to the host
pub record Left : Type 0 where
  pub number : ℕ
  pub words : List ℕ
  pub ring : List ℕ
  pub reply : List ℕ
  pub lines : List ℕ
  pub progress : List ℕ

abbrev pub flag : Bool → ℕ
flag b = cond b 1 0

-- the progress is three numbers: bytes read, bytes of text written, and 1 after a bad record
abbrev pub to_host : Came → Left
to_host c =
    record {
      number = c.number;
      words = c.words;
      ring = c.ring;
      reply = c.reply;
      lines = c.lines;
      progress = c.read ∷ c.written ∷ flag c.ended ∷ [];
    }
