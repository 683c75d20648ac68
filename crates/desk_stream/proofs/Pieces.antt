-- What holds of every piece: its text has room in a line, it stands in the input, and one that ends the desk has no size.
use Rattle.std.proofs.Common.{◌≡◌, ℕ, ◌+◌, ◌%◌, ◌^◌, ◌<◌, ◌≤◌, Bool, true, false, cond, not, ◌&&◌, List, [], length, drop, replicate, sym, refl, ap, ◌∙◌, subst, true≢false, zero-le, arith, length-append}
use mathlib.Core.Bool.{false≢true}
use lib.ListN.{length-replicate}
use Rattle.rules.specs.Calls.{State}
use Rattle.rules.specs.Machine.{step}
use Rattle.answers.specs.declared.Request.{Request}
use Rattle.answers.specs.Asked.{asked, replied}
use Rattle.std.specs.Prelude.{Ok}
use Rattle.desk_records.specs.declared.Hearing.{Hearing}
use Rattle.desk_records.specs.Hearing.{hear_at}
use Rattle.desk_records.specs.Reading.{head_of, length_width, part_of}
use Rattle.desk_records.proofs.Admits.{read-places}
use Rattle.desk_records.proofs.Heard.{heard-record}
use Rattle.desk_kinds.specs.Kinds.{given_of}
use Rattle.desk_text.specs.Put.{Puts}
use Rattle.desk_text.specs.Digits.{most_digits}
use Rattle.desk_text.proofs.Putting.{put-none, moved, length_digits}
use Rattle.desk_line.specs.Line.{line_room}
use Rattle.desk_line.proofs.Bound.{step-bound}
use Rattle.desk_stream.specs.Desk.{Heard, calling, wrong, hears, reply_room, call_with, bad_line, bad_text}
use Rattle.desk_stream.specs.Window.{Piece, no_record, answered_by, broken_at, waiting_in, waits, unheard_in, piece_of, piece, replied_in}
use Rattle.stored.specs.Stored.{kept, is_box}
use Rattle.desk_stream.specs.Held.{Turns}
use Rattle.desk_stream.proofs.Hearing.{heard-whole, heard-asking}
use Rattle.answers.proofs.Lending.{lent-within}

pub bad-short : (at : ℕ) → length (bad_text at) ≤ line_room
unfolding bad_text
bad-short at = simp length-append (omega (arith, length_digits most_digits (at % 2 ^ 64)))

-- where nothing reads: a cut record waits, if more may come; any other has its line
module _ (c : Bool) (last : Bool) {x : Bool} (e : x ≡ c) where
  pub stop-waits : (o t : List ℕ) (at : ℕ) → (x && not last) ≡ true → (false ≡ not (c && not last)) × Puts o at (cond (c && not last) [] t) at o
  stop-waits o t at f = go (c && not last) (ap (λ (b : Bool). b && not last) (sym e) ∙ f)
    where
      go : (w : Bool) → w ≡ true → (false ≡ not w) × Puts o at (cond w [] t) at o
      go true g = (refl, put-none o at)
      go false g = absurd (false≢true g)

  pub stop-bad : (o o₁ : List ℕ) (at next place : ℕ) {offset : ℕ} → (x && not last) ≡ false → offset ≡ place % 2 ^ 64 → Puts o at (bad_line offset) next o₁
      → (true ≡ not (c && not last)) × Puts o at (cond (c && not last) [] (bad_text place)) next o₁
  unfolding bad_text
  stop-bad o o₁ at next place f g p = go (c && not last) (ap (λ (b : Bool). b && not last) (sym e) ∙ f)
    where
      go : (w : Bool) → w ≡ false → (true ≡ not w) × Puts o at (cond w [] (bad_line (place % 2 ^ 64))) next o₁
      go true h = absurd (true≢false h)
      go false h = (refl, moved p (ap bad_line g))

module _ (at : ℕ) (last : Bool) (box : State) (s : List ℕ) where
  -- either way, a property of the two pieces where nothing reads
  unheard-either : (P : Piece → Type 0) → P (waiting_in box) → P (broken_at at box) → P (unheard_in at last box s)
  unheard-either P a b = go (waits last s)
    where
      go : (w : Bool) → P (cond w (waiting_in box) (broken_at at box))
      go true = a
      go false = b

  pub unheard-empty : (unheard_in at last box s).size ≡ 0
  unheard-empty = unheard-either (λ (p : Piece). p.size ≡ 0) refl refl

  pub unheard-box : (unheard_in at last box s).box ≡ box
  unheard-box = unheard-either (λ (p : Piece). p.box ≡ box) refl refl

  pub unheard-number : (unheard_in at last box s).number ≡ no_record
  unheard-number = unheard-either (λ (p : Piece). p.number ≡ no_record) refl refl

  pub unheard-text : (unheard_in at last box s).text ≡ cond (unheard_in at last box s).ended (bad_text at) []
  unheard-text = unheard-either (λ (p : Piece). p.text ≡ cond p.ended (bad_text at) []) refl refl

  -- with a reply no longer than the desk's
  short-by : (room : ℕ) → room ≤ reply_room → (h : Heard) → length (piece_of room at last box s h).text ≤ line_room
  short-by room l (calling k q given size) =
      step-bound k box (call_with room q given)
      (omega (arith, lent-within q given (replicate room 0), length-replicate {A = ℕ} room 0, l))
  short-by room l wrong = unheard-either (λ (p : Piece). length p.text ≤ line_room) zero-le (bad-short at)

  pub piece-short : (room : ℕ) → room ≤ reply_room → length (piece room at last box s).text ≤ line_room
  unfolding piece
  piece-short room l = short-by room l (hears s)

  goes_by : (room : ℕ) (h : Heard) → 0 < (piece_of room at last box s h).size → (piece_of room at last box s h).ended ≡ false
  goes_by room (calling k q given size) g = refl
  goes_by room wrong g = absurd (omega (arith, unheard-empty))

  pub piece-goes : (room : ℕ) → 0 < (piece room at last box s).size → (piece room at last box s).ended ≡ false
  unfolding piece
  piece-goes room g = goes_by room (hears s) g

  inside-by : (room : ℕ) (h : Heard) → hears s ≡ h → (piece_of room at last box s h).size ≤ length s
  inside-by room (calling k q given size) e = (heard-whole s e).inside
  inside-by room wrong e = omega (arith, unheard-empty)

  pub piece_inside : (room : ℕ) → (piece room at last box s).size ≤ length s
  unfolding piece
  piece_inside room = inside-by room (hears s) refl

  -- by what is heard
  pub piece_is : (room : ℕ) (h : Heard) → hears s ≡ h → piece room at last box s ≡ piece_of room at last box s h
  unfolding piece
  piece_is room h e = ap (piece_of room at last box s) e

  -- nothing answered: the box stays, and the text and the end are as the code found them
  pub unheard-turns : {out ws ring out' : List ℕ} {filled number written : ℕ} {ended : Bool} → hears s ≡ wrong → number ≡ no_record
      → ended ≡ not (waits last s) → Puts out filled (cond (waits last s) [] (bad_text at)) written out'
      → ws ≡ kept box.box → ring ≡ box.bytes → is_box ws (length ring) ≡ true → (room : ℕ)
      → Turns (piece room at last box s) out filled number written ended ws ring out'
  unheard-turns {out} {ws} {ring} {out'} {filled} {number} {written} {ended} h n e p w g b room =
      subst (λ (x : Piece). Turns x out filled number written ended ws ring out') (sym (piece_is room wrong h)) (go (waits last s) e p)
    where
      go : (x : Bool) → ended ≡ not x → Puts out filled (cond x [] (bad_text at)) written out'
          → Turns (cond x (waiting_in box) (broken_at at box)) out filled number written ended ws ring out'
      go true f q = record { tells = n; stops = f; puts = q; keeps = w; rings = g; box = b }
      go false f q = record { tells = n; stops = f; puts = q; keeps = w; rings = g; box = b }

  pub unheard-size : hears s ≡ wrong → (room : ℕ) → (piece room at last box s).size ≡ 0
  unheard-size h room = ap (λ (x : Piece). x.size) (piece_is room wrong h) ∙ unheard-empty

-- ---- a record heard, and its piece
module _ (s : List ℕ) (at : ℕ) (heard : Hearing) (h : hear_at s at ≡ Ok heard) (body : List ℕ)
    (eb : body ≡ part_of s heard.found.start heard.found.len) (given : List ℕ) (eg : given ≡ given_of heard.found.kind body) where
  abbrev k : ℕ
  k = heard.found.kind

  abbrev q : Request
  q = heard.request

  abbrev long : ℕ
  long = head_of length_width + heard.found.len

  pub asked-hears : hears (drop at s) ≡ calling k q given long
  asked-hears = heard-asking s at h ∙ ap (λ (g : List ℕ). calling k q g long) (sym (eg ∙ ap (given_of k) eb))

  pub asked-place : (room offset : ℕ) (last : Bool) (box : State) {read : ℕ} → read ≡ heard.found.next → read ≡ at + (piece room offset last box (drop at s)).size
  asked-place room offset last box e =
      let size : (piece room offset last box (drop at s)).size ≡ long =
      ap (λ (x : Piece). x.size) (piece_is offset last box (drop at s) room (calling k q given long) asked-hears) in
      omega (arith, e, size, read-places s at (heard-record s at h).0)

  pub asked-turns : (room offset : ℕ) (last : Bool) (box : State) {out ws ring out' : List ℕ} {filled number written : ℕ} {ended : Bool}
      → Turns (answered_by k (step box (call_with room q given)) 0) out filled number written ended ws ring out'
      → Turns (piece room offset last box (drop at s)) out filled number written ended ws ring out'
  asked-turns room offset last box {out} {ws} {ring} {out'} {filled} {number} {written} {ended} t =
      subst (λ (x : Piece). Turns x out filled number written ended ws ring out')
      (sym (piece_is offset last box (drop at s) room (calling k q given long) asked-hears))
      (record { tells = t.tells; stops = t.stops; puts = t.puts; keeps = t.keeps; rings = t.rings; box = t.box })

  pub asked-replies : (box : State) (reply : List ℕ) {reply' : List ℕ} → reply' ≡ replied (asked q given reply) (step box (asked q given reply)) reply
      → reply' ≡ replied_in (hears (drop at s)) box reply
  asked-replies box reply e = e ∙ sym (ap (λ (x : Heard). replied_in x box reply) asked-hears)
