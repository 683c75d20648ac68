-- A piece and a window as the code holds them: numbers, ring and lines. No contract of an exported function cites this.
use Rattle.std.specs.Prelude.{◌≡◌, ℕ, ◌≤◌, Bool, true, List, length}
use Rattle.desk_text.specs.Put.{Puts, overlaid}
use Rattle.stored.specs.Stored.{kept, is_box}
use Rattle.desk_stream.specs.Window.{Piece, Progress, outset, served}
use Rattle.desk_stream.specs.Boxed.{box_in}

-- the piece's text is put, and the box is the one that it leaves
pub record Turns (p : Piece) (out : List ℕ) (filled number written : ℕ) (ended : Bool) (ws ring out' : List ℕ) : Type 0 where
  pub tells : number ≡ p.number
  pub stops : ended ≡ p.ended
  pub puts : Puts out filled p.text written out'
  pub keeps : ws ≡ kept p.box.box
  pub rings : ring ≡ p.box.bytes
  pub box : is_box ws (length ring) ≡ true

-- the window's progress: the text stands at the front of the lines
pub record Holds (p : Progress) (window out : List ℕ) (read written : ℕ) (ended : Bool) (ws ring out' : List ℕ) : Type 0 where
  pub keeps : ws ≡ kept p.box.box
  pub rings : ring ≡ p.box.bytes
  pub place : read ≡ p.place
  pub stopped : ended ≡ p.ended
  pub long : written ≡ length p.text
  pub text : out' ≡ overlaid out 0 p.text
  pub inside : read ≤ length window
  pub fits : written ≤ length out'
  pub box : is_box ws (length ring) ≡ true

abbrev pub Serves : ℕ → Bool → List ℕ → List ℕ → List ℕ → List ℕ → ℕ → ℕ → Bool → List ℕ → List ℕ → List ℕ → Type 0
Serves base last ws ring s out read written ended ws' ring' out' =
    Holds (served base last (length out) 0 (outset (box_in ws ring)) s) s out read written ended ws' ring' out'
