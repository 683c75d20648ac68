-- What the desk prints for its whole input: a line for each record, then the bad line if there is one.
use Rattle.std.specs.Prelude.{ℕ, zero, suc, ◌+◌, ◌-◌, ◌%◌, ◌^◌, Option, Some, None, Ok, Err, List, [], ◌∷◌, ◌++◌, take, drop, replicate}
use Rattle.rules.specs.Calls.{Call, State, Outcome}
use Rattle.rules.specs.Machine.{run, start}
use Rattle.answers.specs.declared.Request.{Request}
use Rattle.answers.specs.Asked.{asked}
use Rattle.desk_text.specs.Digits.{decimal}
use Rattle.desk_records.specs.Reading.{second_mark, length_width, head_of, Front, front}
use Rattle.desk_kinds.specs.Kinds.{asking_of, given_of}
use Rattle.desk_line.specs.Line.{line_for}

-- ---- one record
-- its kind, what it asks, the bytes that go with it, and its length in all; or nothing that reads
pub data Heard : Type 0 where
  calling : ℕ → Request → List ℕ → ℕ → Heard
  wrong : Heard

abbrev pub hears_as : ℕ → List ℕ → ℕ → Option Request → Heard
hears_as k p size (Some q) = calling k q (given_of k p) size
hears_as k p size None = wrong

abbrev pub payload_of : List ℕ → ℕ → List ℕ
payload_of s n = take n (drop (head_of length_width) s)

abbrev pub hears_in : List ℕ → Front → Heard
hears_in s (Ok f) = hears_as f.kind (payload_of s f.len) (head_of length_width + f.len) (asking_of f.kind (payload_of s f.len))
hears_in s (Err e) = wrong

-- what the desk hears at the front of some bytes
unfoldable pub hears : List ℕ → Heard
hears s = hears_in s (front second_mark length_width s)

-- the reply that each fetch is lent: 259 bytes. What they held before matters to no answer (`reply-alike`)
abbrev pub reply_room : ℕ
reply_room = 259

abbrev pub call_with : ℕ → Request → List ℕ → Call
call_with room q given = asked q given (replicate room 0)

abbrev pub desk_call : Request → List ℕ → Call
desk_call q given = call_with reply_room q given

-- ---- the calls read from an input, each with its record's kind; and how the input ends
pub data Ending : Type 0 where
  clean : Ending
  bad_at : ℕ → Ending

pub record Records : Type 0 where
  pub kinds : List ℕ
  pub calls : List Call
  pub ending : Ending

abbrev pub ends : Ending → Records
ends e = record { kinds = []; calls = []; ending = e }

abbrev pub before : ℕ → Call → Records → Records
before k c i = record { kinds = k ∷ i.kinds; calls = c ∷ i.calls; ending = i.ending }

-- from an offset on; a record that reads is followed by the rest behind it
abbrev pub read_on : Heard → ℕ → (ℕ → ℕ → Records) → Records
read_on (calling k q given size) at rest = before k (desk_call q given) (rest (size - 1) (at + size))
read_on wrong at rest = ends (bad_at at)

-- `skip` more bytes belong to the record before; `at` is the offset of the next
unfoldable pub read_from : ℕ → ℕ → List ℕ → Records
read_from skip at [] = ends clean
read_from (suc skip) at (b ∷ s) = read_from skip at s
read_from zero at (b ∷ s) = read_on (hears (b ∷ s)) at (λ skip next. read_from skip next s)

-- ---- the text
abbrev pub lines_of : List ℕ → List Outcome → List ℕ
lines_of [] os = []
lines_of (k ∷ ks) [] = []
lines_of (k ∷ ks) (o ∷ os) = line_for k o ++ lines_of ks os

-- `bad` and the offset of the record's first byte; an offset is counted in 64 bits
abbrev pub bad_line : ℕ → List ℕ
bad_line offset = 98 ∷ 97 ∷ 100 ∷ 32 ∷ decimal offset ++ 10 ∷ []

unfoldable pub bad_text : ℕ → List ℕ
bad_text at = bad_line (at % 2 ^ 64)

abbrev pub end_text : Ending → List ℕ
end_text clean = []
end_text (bad_at at) = bad_text at

-- the lines of what `run` gives for the calls read
unfoldable pub printed : State → Records → List ℕ
printed box i = lines_of i.kinds (run box i.calls).outcomes ++ end_text i.ending

-- the desk program: a fresh box with a ring of 4,096 bytes, and the input from its first byte on
abbrev pub ring_room : ℕ
ring_room = 4096

abbrev pub desk_text : List ℕ → List ℕ
desk_text input = printed (start (replicate ring_room 0)) (read_from 0 0 input)
