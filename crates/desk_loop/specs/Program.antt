-- The desk program over its whole input, however its reads cut it.
use Rattle.std.specs.Prelude.{◌≡◌, ℕ, ◌+◌, ◌≤◌, true, false, List, [], ◌++◌, length, take, drop, replicate}
use Rattle.rules.specs.Record.{fresh}
use Rattle.stored.specs.Stored.{kept, is_box}
use Rattle.desk_stream.specs.Desk.{ring_room}
use Rattle.desk_loop.specs.Loop.{Desk, at_first, turned}

-- at the outset: a fresh box, the desk's ring, and buffers for the window and the lines
abbrev pub opened : List ℕ → List ℕ → Desk
opened window lines = record { flow = at_first; words = kept fresh; ring = replicate ring_room 0; window = window; lines = lines }

-- a read puts its bytes behind those that are held; of what is behind them nothing is said
pub record Brings (window : List ℕ) (held : ℕ) (bytes window' : List ℕ) : Type 0 where
  pub fits : held + length bytes ≤ length window
  pub size : length window' ≡ length window
  pub before : take held window' ≡ take held window
  pub behind : take (length bytes) (drop held window') ≡ bytes

abbrev pub with_window : List ℕ → Desk → Desk
with_window window d = record { flow = d.flow; words = d.words; ring = d.ring; window = window; lines = d.lines }

-- one step of the program: a turn, and before one that wants more input a read of some bytes
pub data Steps (d : Desk) : List ℕ → Desk → Type 0 where
  on : d.flow.wants ≡ false → Steps d [] (turned 0 d)
  reads : (bytes window : List ℕ) → d.flow.wants ≡ true → Brings d.window d.flow.held bytes window
      → Steps d bytes (turned (length bytes) (with_window window d))

-- some step, behind which the box is still a box
pub record Stepped (d e : Desk) : Type 0 where
  pub bytes : List ℕ
  pub steps : Steps d bytes e
  pub still : is_box e.words (length e.ring) ≡ is_box d.words (length d.ring)

-- steps one after the other, while not all is said
pub data Reaches (d : Desk) : Desk → Type 0 where
  begins : Reaches d d
  goes_on : {e e' : Desk} → Reaches d e → e.flow.over ≡ false → Stepped e e' → Reaches d e'

-- what is written out behind it
abbrev pub said : Desk → List ℕ
said d = take d.flow.written d.lines

-- from where it stands the program takes this input and says this text: step by step until all is said. A read brings nothing only
-- where no input is left; the box stays a box, as the contract of `turn` says
pub data Goes : Desk → List ℕ → List ℕ → Type 0 where
  over : {d : Desk} {input : List ℕ} → d.flow.over ≡ true → Goes d input []
  step : {d e : Desk} {bytes input text : List ℕ} → d.flow.over ≡ false → Steps d bytes e
      → (d.flow.wants ≡ true → length bytes ≡ 0 → input ≡ []) → is_box e.words (length e.ring) ≡ is_box d.words (length d.ring)
      → Goes e input text → Goes d (bytes ++ input) (said e ++ text)
