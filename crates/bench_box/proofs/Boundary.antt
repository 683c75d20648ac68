-- What a host may rely on besides the equations: a refused second keeps the numbers, the numbers of a box are the record that a call
-- left, and every line is whole.
use Prim.Native.Nat.{ℕ, ◌-◌, ◌≤◌}
use native.Mathlib.Omega.{arith}
use mathlib.Core.Path.{◌≡◌, refl, sym, ap, ◌∙◌}
use mathlib.Core.Bool.{Bool, true, false, cond}
use mathlib.Core.List.{List}
use lib.Dec.{eqb}
use lib.ListN.{length, replicate}
use lib.Seq.{take_all}
use Rattle.rules.specs.declared.Record.{Record}
use Rattle.rules.specs.Record.{sound}
use Rattle.rules.specs.Calls.{Reason, n604, n601, n712, n404, n501, n711, n713, n603, number_of, State, report, Tick}
use Rattle.rules.proofs.Theorems.{refused-keeps}
use Rattle.answers.specs.Told.{state_of}
use Rattle.desk_text.specs.Put.{fitting}
use Rattle.desk_line.specs.Line.{line_room}
use Rattle.stored.specs.Stored.{word_count, kept, recorded, all_fit, is_box}
use Rattle.stored.proofs.Back.{kept-recorded, recorded-kept}
use Rattle.stored.proofs.Boxes.{box-fits, as-sound}
use Rattle.desk_stream.specs.Desk.{reply_room, bad_text}
use Rattle.desk_stream.specs.Window.{no_record, piece}
use Rattle.desk_stream.proofs.Pieces.{bad-short, piece-short}
use Rattle.desk_stream.specs.Boxed.{unsound_number}
use Rattle.host_tick.specs.Second.{second_of}
use Rattle.bench_box.specs.Host.{tick_number, tick_words}

-- a second that is refused leaves the numbers as they were
pub tick-keeps : (ws : List ℕ) (n : ℕ) → length ws ≡ word_count → eqb (tick_number ws n) 0 ≡ false → tick_words ws n ≡ ws
unfolding tick_number tick_words
tick-keeps ws n l e = go (is_box ws n) refl e
  where
    go : (b : Bool) → is_box ws n ≡ b → eqb (cond b (second_of (recorded ws) n).number unsound_number) 0 ≡ false
        → cond b (kept (second_of (recorded ws) n).state.box) ws ≡ ws
    go true h f =
        ap (λ (s : State). kept s.box) (refused-keeps (state_of (recorded ws) (replicate n 0)) (report Tick) f).left
        ∙ kept-recorded ws l (box-fits ws n h)
    go false h f = refl

-- the numbers that a call leaves are the record that it left, and a box exactly where that is sound
pub left-again : (ws : List ℕ) (r : Record) (n : ℕ) → ws ≡ kept r → all_fit ws ≡ true → (recorded ws ≡ r) × (is_box ws n ≡ sound r n)
left-again ws r n e f =
    let same : recorded ws ≡ r = ap recorded e ∙ recorded-kept r in
    (same, sym (as-sound ws n f refl refl) ∙ ap (λ (x : Record). sound x n) same)

-- the number where no record reads is not acceptance's, and no reason's
pub no-acceptance : eqb no_record 0 ≡ false
no-acceptance = refl

pub no-reason : (r : Reason) → eqb (number_of r) no_record ≡ false
no-reason n604 = refl
no-reason n601 = refl
no-reason n712 = refl
no-reason n404 = refl
no-reason n501 = refl
no-reason n711 = refl
no-reason n713 = refl
no-reason n603 = refl

-- with room for a line every text is whole: a bad record's, and that of any record with a reply that the desk would lend
module _ (offset : ℕ) (lines : List ℕ) (room : line_room ≤ length lines) where
  whole : (t : List ℕ) → length t ≤ line_room → fitting lines 0 t ≡ t
  whole t h = take_all (length lines - 0) t (omega arith)

  pub bad-whole : fitting lines 0 (bad_text offset) ≡ bad_text offset
  bad-whole = whole (bad_text offset) (bad-short offset)

  pub line-whole : (last : Bool) (box : State) (input reply : List ℕ) → length reply ≤ reply_room
      → fitting lines 0 (piece (length reply) offset last box input).text ≡ (piece (length reply) offset last box input).text
  line-whole last box input reply lends = whole _ (piece-short offset last box input (length reply) lends)
