-- What the code keeps of what a call leaves. No contract of an exported function cites this.
use Rattle.std.specs.Prelude.{ℕ, ◌≡◌, ◌≤◌, Bool, true, false, cond, List, Ok, Err, is_ok}
use Rattle.rules.specs.declared.Record.{Record}
use Rattle.rules.specs.Name.{name_room}
use Rattle.rules.specs.Record.{every}
use Rattle.answers.specs.declared.Told.{Told}
use Rattle.answers.specs.Told.{Answer}
use Rattle.stored.specs.Stored.{number_at, feeder_kept, feeder_fits, fed_in, kept, all_fit, recorded}

-- the last bytes of a side
abbrev pub is_last : Answer → Bool
is_last (Ok Told.Done) = false
is_last (Ok (Told.Time seconds)) = false
is_last (Ok (Told.Destination id)) = false
is_last (Ok (Told.Picture k last)) = last
is_last (Ok (Told.State s why)) = false
is_last (Ok (Told.Sides number count long)) = false
is_last (Ok (Told.Feeding f tray why)) = false
is_last (Ok (Told.Mode m)) = false
is_last (Ok (Told.Stored k)) = false
is_last (Err why) = false

-- a call ran on the record of numbers that fit, and all that it left is kept, but nothing of a refusal
pub record Settled (Ran : Record → Answer → Record → Type 0) (ws : List ℕ) (a : Answer) (ws' : List ℕ) : Type 0 where
  pub left : Record
  pub ran : Ran (recorded ws) a left
  pub numbers : ws' ≡ cond (is_ok a) (kept left) ws
  pub fits : left.names.last.len ≤ name_room → all_fit ws' ≡ true

-- the same, and the feeder's part alone is kept
pub record SettledFed (Ran : Record → Answer → Record → Type 0) (ws : List ℕ) (a : Answer) (ws' : List ℕ) : Type 0 where
  pub left : Record
  pub ran : Ran (recorded ws) a left
  pub numbers : ws' ≡ fed_in left.feeder ws
  pub fits : every (feeder_fits (number_at (feeder_kept left.feeder))) ≡ true
