-- The desk program over its whole input, however it is cut into windows.
use Rattle.std.specs.Prelude.{◌≡◌, ℕ, ◌+◌, ◌%◌, ◌^◌, Bool, true, false, List, [], ◌++◌, length, drop}
use Rattle.rules.specs.Calls.{State}
use Rattle.desk_stream.specs.Window.{outset, served}

-- window after window from an offset of the input on: each holds some bytes from the place that the last one came to, and is
-- the last one only where no byte is behind it. `base` is the offset as the program counts it, in 64 bits
pub data Prints : State → ℕ → List ℕ → List ℕ → Type 0 where
  -- a bad record ends it
  bad : {box : State} {at : ℕ} (w v : List ℕ) (last : Bool) (base room : ℕ) → base ≡ at % 2 ^ 64 → (last ≡ true → v ≡ [])
      → (served base last room 0 (outset box) w).ended ≡ true
      → Prints box at (w ++ v) (served base last room 0 (outset box) w).text
  -- so does the input's end, once all of it is read
  end : {box : State} {at : ℕ} (w : List ℕ) (last : Bool) (base room : ℕ) → base ≡ at % 2 ^ 64
      → (served base last room 0 (outset box) w).ended ≡ false
      → length w ≡ (served base last room 0 (outset box) w).place
      → Prints box at w (served base last room 0 (outset box) w).text
  -- else there is another window
  more : {box : State} {at : ℕ} (w v : List ℕ) (last : Bool) (base room : ℕ) {text : List ℕ} → base ≡ at % 2 ^ 64 → (last ≡ true → v ≡ [])
      → (served base last room 0 (outset box) w).ended ≡ false
      → Prints (served base last room 0 (outset box) w).box (at + (served base last room 0 (outset box) w).place)
      (drop (served base last room 0 (outset box) w).place (w ++ v)) text
      → Prints box at (w ++ v) ((served base last room 0 (outset box) w).text ++ text)
