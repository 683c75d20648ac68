-- What each case of an answer tells: the paper's number and values.
use Rattle.std.specs.Prelude.{ℕ, List, Result, Ok, Err, take, drop}
use Rattle.rules.specs.declared.Record.{Record}
use Rattle.rules.specs.Calls.{Reason, n604, n601, n712, n404, n501, n711, n713, n603, number_of, State, Values, nothing, time, destination, picture, state}
use Rattle.rules.specs.Calls.{sides, feeding, mode, stored, Outcome}
use Rattle.rules.specs.Name.{name}
use Rattle.rules.specs.Moves.{headed}
use Rattle.answers.specs.declared.Why.{Why}
use Rattle.answers.specs.declared.Why.TheVariants.{Unsound, Unlisted, OtherJob, OtherName, WrongState, FeederErred, NoSheet, NoRoom}
use Rattle.answers.specs.declared.Told.{Told}

-- each reason's row of the table
abbrev pub reason_of : Why → Reason
reason_of Unsound = n604
reason_of Unlisted = n601
reason_of OtherJob = n712
reason_of OtherName = n404
reason_of WrongState = n501
reason_of FeederErred = n711
reason_of NoSheet = n713
reason_of NoRoom = n603

-- accepted, with what is reported; or refused, and why
abbrev pub Answer : Type 0
Answer = Result Told Why

-- the record that a call leaves, and its answer
pub record After : Type 0 where
  pub next : Record
  pub answer : Answer

-- 0 is acceptance
abbrev pub number_told : Answer → ℕ
number_told (Ok told) = 0
number_told (Err why) = number_of (reason_of why)

-- the name is that of the record left; a picture's k bytes stand straight after the reply's head; a refusal reports no count,
-- name or granted time
abbrev pub values_of : Record → List ℕ → Told → Values
values_of r reply Told.Done = nothing
values_of r reply (Told.Time seconds) = time seconds
values_of r reply (Told.Destination id) = destination (name r) id
values_of r reply (Told.Picture k last) = picture k last (take k (drop headed reply))
values_of r reply (Told.State s why) = state s why
values_of r reply (Told.Sides number count long) = sides number count long
values_of r reply (Told.Feeding f tray why) = feeding f tray why
values_of r reply (Told.Mode m) = mode m
values_of r reply (Told.Stored k) = stored k

abbrev pub values_told : Record → List ℕ → Answer → Values
values_told r reply (Ok told) = values_of r reply told
values_told r reply (Err why) = nothing

abbrev pub state_of : Record → List ℕ → State
state_of r ring = record { box = r; bytes = ring }

-- what a call gave: what it told, and record, ring and reply as it left them
abbrev pub gave : After → List ℕ → List ℕ → Outcome
gave a ring reply =
    record { number = number_told a.answer; values = values_told a.next reply a.answer; state = state_of a.next ring; reply = reply }
