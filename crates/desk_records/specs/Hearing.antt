-- What is heard at a place.
use Rattle.std.specs.Prelude.{ℕ, Option, Some, None, Result, Ok, Err, List}
use Rattle.answers.specs.declared.Request.{Request}
use Rattle.desk_kinds.specs.Kinds.{asking_of}
use Rattle.desk_records.specs.declared.Found.{Found}
use Rattle.desk_records.specs.declared.Bad.{Bad}
use Rattle.desk_records.specs.declared.Hearing.{Hearing}
use Rattle.desk_records.specs.Reading.{Reading, bad_at, read_at, part_of}

-- a record that reads, with what its payload asks
abbrev pub hear_as : ℕ → Found → Option Request → Result Hearing Bad
hear_as at f (Some q) = Ok (record { request = q; found = f })
hear_as at f None = Err (bad_at at)

abbrev pub hear_in : List ℕ → ℕ → Reading → Result Hearing Bad
hear_in s at (Ok f) = hear_as at f (asking_of f.kind (part_of s f.start f.len))
hear_in s at (Err bad) = Err bad

unfoldable pub hear_at : List ℕ → ℕ → Result Hearing Bad
hear_at s at = hear_in s at (read_at s at)
