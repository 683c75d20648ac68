-- What writing a record into a lent buffer comes to.
use Rattle.std.specs.Prelude.{ℕ, zero, suc, ◌/◌, ◌%◌, ◌^◌, cond, Result, Ok, Err, List, [], ◌∷◌, ◌++◌, length, leb}
use Rattle.rules.specs.Calls.{Reason, n601, n603, number_of}
use Rattle.answers.specs.declared.Why.{Why}
use Rattle.answers.specs.Told.{reason_of}
use Rattle.desk_text.specs.Put.{overlaid}
use Rattle.desk_kinds.specs.Kinds.{limits_of, within}
use Rattle.desk_records.specs.Reading.{first_mark, second_mark, length_width}

-- a number in w bytes, big-endian
unfoldable pub in_bytes : ℕ → ℕ → List ℕ
in_bytes zero n = []
in_bytes (suc w) n = (n / 256 ^ w % 256) ∷ in_bytes w n

-- a record: mark, kind, length, payload
abbrev pub record_with : ℕ → ℕ → ℕ → List ℕ → List ℕ
record_with m w k p = first_mark ∷ m ∷ k ∷ in_bytes w (length p) ++ p

abbrev pub record_of : ℕ → List ℕ → List ℕ
record_of k p = record_with second_mark length_width k p

-- how many bytes stand at the front of the buffer, or why none do
abbrev pub Written : Type 0
Written = Result ℕ Why

-- the paper's number and value of each case of an answer
abbrev pub number_in : Written → ℕ
number_in (Ok n) = 0
number_in (Err why) = number_of (reason_of why)

abbrev pub length_of : Written → ℕ
length_of (Ok n) = n
length_of (Err why) = 0

-- what writing comes to: the number and the length that it tells, and the buffer as it is left
pub record Wrote : Type 0 where
  pub number : ℕ
  pub long : ℕ
  pub buffer : List ℕ

-- fills the front of a lent buffer and gives the length
abbrev pub wrote_all : List ℕ → List ℕ → Wrote
wrote_all text out = record { number = 0; long = length text; buffer = overlaid out 0 text }

-- a refusal leaves all as it was, and reports no length
abbrev pub wrote_none : Reason → List ℕ → Wrote
wrote_none why out = record { number = number_of why; long = 0; buffer = out }

-- 601 is a kind or payload length not listed; then 603 a buffer too short
unfoldable pub writing_with : ℕ → ℕ → ℕ → List ℕ → List ℕ → Wrote
writing_with m w k p out =
    cond (within (limits_of k) (length p))
    (cond (leb (length (record_with m w k p)) (length out)) (wrote_all (record_with m w k p) out) (wrote_none n603 out))
    (wrote_none n601 out)

abbrev pub writing : ℕ → List ℕ → List ℕ → Wrote
writing k p out = writing_with second_mark length_width k p out
