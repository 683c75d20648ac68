-- For any numbers: a call that is not begun leaves all alone; for a box with room, what the code holds is what the definitions give.
use Rattle.std.proofs.Common.{◌≡◌, ℕ, ◌+◌, Bool, true, false, cond, leb, List, [], length, refl, ap, ◌∙◌, add-zero, zero-add, arith}
use Rattle.std.specs.Prelude.{Result, Ok, Err, ⊤}
use Rattle.rules.specs.Calls.{number_of}
use Rattle.answers.specs.declared.Why.{Why}
use Rattle.answers.specs.Told.{reason_of}
use Rattle.desk_line.specs.Line.{line_room}
use Rattle.stored.specs.Stored.{is_box}
use Rattle.desk_stream.specs.declared.Came.{Came as Read}
use Rattle.desk_stream.specs.declared.Performed.{Performed}
use Rattle.desk_stream.specs.Desk.{hears}
use Rattle.desk_stream.specs.Window.{Piece, piece, replied_in}
use Rattle.desk_stream.specs.Held.{Turns, Serves}
use Rattle.desk_stream.specs.Boxed.{box_in, Came, unsound_number, no_room_number, as_it_was, begun, serving, saying, performing}
use Rattle.desk_stream.specs.Boxed.{barred_by, number_of_record, came_of, turn_of}

abbrev clear : Result ⊤ Why
clear = Ok tt

-- what bars a call decides it
module _ (ws ring lines : List ℕ) where
  pub barred-keeps : (reply : List ℕ) (came : Came) {why : Why} → Err why ≡ barred_by ws (length ring) (length lines)
      → as_it_was (number_of (reason_of why)) ws ring reply lines ≡ begun ws ring reply lines came
  barred-keeps reply came {why} h = go (is_box ws (length ring)) (leb (0 + line_room) (length lines)) h
    where
      told : {w : Why} → why ≡ w → as_it_was (number_of (reason_of why)) ws ring reply lines ≡ as_it_was (number_of (reason_of w)) ws ring reply lines
      told e = ap (λ (w : Why). as_it_was (number_of (reason_of w)) ws ring reply lines) e

      go : (b r : Bool) → Err why ≡ cond b (cond r clear (Err Why.NoRoom)) (Err Why.Unsound)
          → as_it_was (number_of (reason_of why)) ws ring reply lines
          ≡ cond b (cond r came (as_it_was no_room_number ws ring reply lines)) (as_it_was unsound_number ws ring reply lines)
      go true true h = let z : ◌≡◌ {A = ℕ} 0 1 = cc in absurd (omega arith)
      go true false h = told {w = Why.NoRoom} cc
      go false r h = told {w = Why.Unsound} cc

  pub begins : (reply : List ℕ) {x came : Came} {u : ⊤} → Ok u ≡ barred_by ws (length ring) (length lines) → x ≡ came
      → x ≡ begun ws ring reply lines came
  begins reply {x} {came} {u} h f = go (is_box ws (length ring)) (leb (0 + line_room) (length lines)) h
    where
      go : (b r : Bool) → Ok u ≡ cond b (cond r clear (Err Why.NoRoom)) (Err Why.Unsound)
          → x ≡ cond b (cond r came (as_it_was no_room_number ws ring reply lines)) (as_it_was unsound_number ws ring reply lines)
      go true true h = f
      go true false h = let z : ◌≡◌ {A = ℕ} 0 1 = cc in absurd (omega arith)
      go false r h = let z : ◌≡◌ {A = ℕ} 0 1 = cc in absurd (omega arith)

-- a window in the program's hands
module _ (ws ring input : List ℕ) (base : ℕ) (last : Bool) (lines : List ℕ) where
  pub serving-window : (came : Read) {ws' ring' lines' : List ℕ} {u : ⊤} → Ok u ≡ barred_by ws (length ring) (length lines)
      → Serves base last ws ring input lines came.read came.written came.ended ws' ring' lines'
      → came_of (Ok came) ws' ring' [] lines' ≡ serving ws ring input base last lines
  unfolding serving
  serving-window came e h = begins ws ring lines [] e (rw (h.keeps, h.rings, h.text, h.place, h.long, h.stopped) refl)

  pub serving-barred : {why : Why} → Err why ≡ barred_by ws (length ring) (length lines)
      → came_of (Err why) ws ring [] lines ≡ serving ws ring input base last lines
  unfolding serving
  serving-barred h = barred-keeps ws ring lines [] _ h

-- and a piece
module _ (ws ring reply input : List ℕ) (base : ℕ) (last : Bool) (lines : List ℕ) where
  pub performing-barred : {why : Why} → Err why ≡ barred_by ws (length ring) (length lines)
      → turn_of (Err why) ws ring reply lines ≡ performing ws ring reply input base last lines
  unfolding performing
  performing-barred h = barred-keeps ws ring lines reply _ h

  says : (p : Piece) (turn : Performed) {ws' ring' reply' lines' : List ℕ} → turn.came.read ≡ p.size
      → Turns p lines 0 (number_of_record turn.outcome) turn.came.written turn.came.ended ws' ring' lines'
      → turn_of (Ok turn) ws' ring' reply' lines' ≡ saying p reply' lines
  says p turn e t = rw (t.tells, t.keeps, t.rings, t.puts.stands, e, t.puts.behind ∙ zero-add _, t.stops) refl

  pub performing-one : (turn : Performed) {ws' ring' reply' lines' : List ℕ} {u : ⊤} → Ok u ≡ barred_by ws (length ring) (length lines)
      → turn.came.read ≡ 0 + (piece (length reply) (base + 0) last (box_in ws ring) input).size
      → Turns (piece (length reply) (base + 0) last (box_in ws ring) input) lines 0 (number_of_record turn.outcome) turn.came.written turn.came.ended
      ws' ring' lines'
      → reply' ≡ replied_in (hears input) (box_in ws ring) reply
      → turn_of (Ok turn) ws' ring' reply' lines' ≡ performing ws ring reply input base last lines
  unfolding performing
  performing-one turn {reply' = reply'} f g t y =
      begins ws ring lines reply f
      (says (piece (length reply) (base + 0) last (box_in ws ring) input) turn (g ∙ zero-add _) t
      ∙ ap (λ (n : ℕ). saying (piece (length reply) n last (box_in ws ring) input) reply' lines) (add-zero base)
      ∙ ap (λ (z : List ℕ). saying (piece (length reply) base last (box_in ws ring) input) z lines) y)
