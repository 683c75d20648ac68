-- What a fetch writes and answers.
use Rattle.std.specs.Prelude.{ℕ, ◌+◌, List, ◌∷◌, ◌++◌, Ok, drop}
use Rattle.rules.specs.declared.Record.{Record}
use Rattle.rules.specs.Ring.{queue}
use Rattle.rules.specs.Moves.{headed, last, fetched}
use Rattle.answers.specs.declared.Told.{Told}
use Rattle.answers.specs.Told.{After}

-- the head A5 5A 06 k, then the picture bytes; later bytes stay
unfoldable pub reply_with : List ℕ → ℕ → ℕ → List ℕ → List ℕ
reply_with ring start k reply = 0xA5 ∷ 0x5A ∷ 0x06 ∷ k ∷ queue ring start k ++ drop (headed + k) reply

-- the record after k bytes were moved out of a ring of n bytes, and what is said of it
unfoldable pub noted : ℕ → ℕ → Record → After
noted k n r = record { next = fetched k n r; answer = Ok (Told.Picture k (last k r)) }
