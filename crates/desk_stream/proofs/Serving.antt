-- The desk's loop: what is served of the window from here on is what is served of all of it.
use Rattle.std.proofs.Common.{◌≡◌, ℕ, zero, suc, ◌+◌, ◌-◌, ◌<◌, ◌≤◌, Bool, true, false, not, ◌||◌, leb, List, [], ◌++◌, length, drop, sym, refl, ap, ◌∙◌, subst, zero-le, zero-add, arith, length-append, length-drop, drop-drop, leb-true}
use borrow.Author.Tests.{not-true, not-false}
use Rattle.rules.specs.Calls.{State}
use Rattle.answers.specs.Told.{state_of}
use Rattle.desk_text.specs.Put.{Puts}
use Rattle.desk_text.proofs.Putting.{put-none, then, size, whole-next, whole-stands}
use Rattle.desk_line.specs.Line.{line_room}
use Rattle.stored.specs.Stored.{word_count, kept, recorded, is_box}
use Rattle.stored.proofs.Back.{kept-recorded, recorded-kept}
use Rattle.stored.proofs.Boxes.{box-fits}
use Rattle.desk_stream.specs.Desk.{reply_room}
use Rattle.desk_stream.specs.Window.{Piece, piece, Progress, outset, took, served}
use Rattle.desk_stream.specs.Held.{Turns, Holds}
use Rattle.desk_stream.proofs.Turns.{at-end, no_room, stops_at, goes_on}
use Rattle.desk_stream.proofs.Pieces.{piece-short, piece-goes, piece_inside}

or-false : (b : Bool) → (b || false) ≡ b
or-false true = refl
or-false false = refl

abbrev come : List ℕ → List ℕ → ℕ → List ℕ → Progress
come ws ring at text = record { box = state_of (recorded ws) ring; place = at; text = text; ended = false }

pub record Serving (s : List ℕ) (base : ℕ) (last : Bool) (ws₀ ring₀ reply₀ out₀ ws ring reply out : List ℕ) (at filled : ℕ) (ended : Bool) : Type 0 where
  pub text : List ℕ
  pub so : served base last (length out₀) 0 (outset (state_of (recorded ws₀) ring₀)) s ≡ served base last (length out₀) 0 (come ws ring at text) (drop at s)
  pub puts : Puts out₀ 0 text filled out
  pub fits : length text ≤ length out₀
  pub inside : at ≤ length s
  pub out_long : length out ≡ length out₀
  pub ring_long : length ring ≡ length ring₀
  pub reply_long : length reply ≡ length reply₀
  pub lends : length reply ≡ reply_room
  pub box : is_box ws (length ring) ≡ true
  pub keeps : ws ≡ kept (recorded ws)
  pub unended : ended ≡ false

module _ {s : List ℕ} {base : ℕ} {last : Bool} {ws₀ ring₀ reply₀ out₀ : List ℕ} where
  pub serving-begins : length reply₀ ≡ reply_room → is_box ws₀ (length ring₀) ≡ true → length ws₀ ≡ word_count
      → Serving s base last ws₀ ring₀ reply₀ out₀ ws₀ ring₀ reply₀ out₀ 0 0 false
  serving-begins e b l =
      record {
        text = [];
        so = refl;
        puts = put-none out₀ 0;
        fits = zero-le;
        inside = zero-le;
        out_long = refl;
        ring_long = refl;
        reply_long = refl;
        lends = e;
        box = b;
        keeps = sym (kept-recorded ws₀ l (box-fits ws₀ (length ring₀) b));
        unended = refl;
      }

  module _ {ws ring reply out : List ℕ} {at filled : ℕ} {end : Bool}
      (here : Serving s base last ws₀ ring₀ reply₀ out₀ ws ring reply out at filled end) where
    abbrev whole : Progress
    whole = served base last (length out₀) 0 (outset (state_of (recorded ws₀) ring₀)) s

    abbrev come-here : Progress
    come-here = come ws ring at here.text

    filling : filled ≡ length here.text
    filling = whole-next (omega (arith, here.fits)) here.puts ∙ zero-add (length here.text)

    -- the room that is tested is the room that is left
    tested : {b : Bool} → b ≡ leb (filled + line_room) (length out) → leb (length here.text + line_room) (length out₀) ≡ b
    tested e = rw (← filling, ← here.out_long) (sym e)

    -- a progress in the program's hands
    holds : (p : Progress) → whole ≡ p → {ws' ring' out' : List ℕ} {read written : ℕ} {ended : Bool} → ws' ≡ kept p.box.box
        → ring' ≡ p.box.bytes → read ≡ p.place → ended ≡ p.ended → length p.text ≤ length out₀ → Puts out₀ 0 p.text written out'
        → p.place ≤ length s → is_box ws' (length ring') ≡ true → Holds whole s out₀ read written ended ws' ring' out'
    holds p e {ws'} {ring'} {out'} {read} {written} {ended} w g a f l t i b =
        let room : 0 + length p.text ≤ length out₀ = omega arith in
        subst (λ (x : Progress). Holds x s out₀ read written ended ws' ring' out') (sym e)
        (record {
          keeps = w;
          rings = g;
          place = a;
          stopped = f;
          long = whole-next room t ∙ zero-add (length p.text);
          text = whole-stands room t;
          inside = omega (arith, a);
          fits = omega (arith, whole-next room t, size t);
          box = b;
        })

    -- nothing more is served
    stays : whole ≡ come-here → Holds whole s out₀ at filled end ws ring out
    stays e = holds come-here e here.keeps refl refl here.unended here.fits here.puts here.inside here.box

    pub serving-full : {b : Bool} → b ≡ leb (filled + line_room) (length out) → not b ≡ true → Holds whole s out₀ at filled end ws ring out
    serving-full {b} e f = stays (here.so ∙ no_room base last (length out₀) come-here (drop at s) (tested e ∙ not-true b f))

    pub serving-over : length s ≤ at → Holds whole s out₀ at filled end ws ring out
    serving-over h = stays (here.so ∙ at-end base last (length out₀) come-here (drop at s) (omega (arith, length-drop at s)))

    module _ {b : Bool} (more : at < length s) (e : b ≡ leb (filled + line_room) (length out)) (f : not b ≡ false)
        {read number written : ℕ} {ended : Bool} {ws' ring' out' : List ℕ}
        (on : read ≡ at + (piece (length reply) (base + at) last (state_of (recorded ws) ring) (drop at s)).size)
        (t : Turns (piece (length reply) (base + at) last (state_of (recorded ws) ring) (drop at s)) out filled number written ended ws' ring' out') where
      abbrev p : Piece
      p = piece reply_room (base + at) last (state_of (recorded ws) ring) (drop at s)

      same : piece (length reply) (base + at) last (state_of (recorded ws) ring) (drop at s) ≡ p
      same = ap (λ (n : ℕ). piece n (base + at) last (state_of (recorded ws) ring) (drop at s)) here.lends

      turned : Turns p out filled number written ended ws' ring' out'
      turned = subst (λ (x : Piece). Turns x out filled number written ended ws' ring' out') same t

      stepped : read ≡ at + p.size
      stepped = on ∙ ap (λ (x : Piece). at + x.size) same

      some : 0 < length (drop at s)
      some = omega (arith, length-drop at s)

      room-left : leb (length here.text + line_room) (length out₀) ≡ true
      room-left = tested e ∙ not-false b f

      short : length (here.text ++ p.text) ≤ length out₀
      short =
          simp length-append
          (omega (
            arith,
            leb-true (length here.text + line_room) (length out₀) room-left,
            piece-short (base + at) last (state_of (recorded ws) ring) (drop at s) reply_room (omega arith),
          ))

      reaches : at + p.size ≤ length s
      reaches = omega (arith, piece_inside (base + at) last (state_of (recorded ws) ring) (drop at s) reply_room, length-drop at s)

      pub serving-stops : read ≡ at → Holds whole s out₀ read written ended ws' ring' out'
      serving-stops r =
          let none : p.size ≡ 0 = omega (arith, stepped, r) in
          holds (took come-here p) (here.so ∙ stops_at base last (length out₀) come-here (drop at s) some room-left none)
          turned.keeps turned.rings stepped (turned.stops ∙ sym (or-false p.ended)) short
          (then here.puts turned.puts) reaches turned.box

      module _ (r : read ≡ at → ⊥) where
        goes : 0 < p.size
        goes = go p.size refl
          where
            go : (n : ℕ) → p.size ≡ n → 0 < n
            go zero z = absurd (r (omega (arith, stepped, z)))
            go (suc n) z = omega arith

        pub serving-less : length s - read < length s - at
        serving-less = omega (arith, goes, stepped, reaches)

        -- the box that the piece leaves is the one in the numbers
        left : p.box ≡ state_of (recorded ws') ring'
        left =
            let box : recorded ws' ≡ p.box.box = ap recorded turned.keeps ∙ recorded-kept p.box.box in
            rw (box, turned.rings) refl

        pub serving-again : {reply' : List ℕ} → length ring' ≡ length ring → length reply' ≡ length reply
            → Serving s base last ws₀ ring₀ reply₀ out₀ ws' ring' reply' out' read written ended
        serving-again el em =
            let text' : List ℕ = here.text ++ p.text in
            let goes-on : p.ended ≡ false = piece-goes (base + at) last (state_of (recorded ws) ring) (drop at s) reply_room goes in
            let unended : p.ended || false ≡ false = or-false p.ended ∙ goes-on in
            record {
              text = text';
              so =
                  here.so
                  ∙ goes_on base last (length out₀) come-here (drop at s) some room-left goes
                  ∙ ap (λ (x : Bool). served base last (length out₀) 0
                  (record { box = p.box; place = at + p.size; text = text'; ended = x }) (drop p.size (drop at s))) unended
                  ∙ ap (λ (x : State). served base last (length out₀) 0
                  (record { box = x; place = at + p.size; text = text'; ended = false }) (drop p.size (drop at s))) left
                  ∙ ap (served base last (length out₀) 0 (come ws' ring' (at + p.size) text')) (drop-drop p.size at s)
                  ∙ ap (λ (m : ℕ). served base last (length out₀) 0 (come ws' ring' m text') (drop m s)) (sym stepped);
              puts = then here.puts turned.puts;
              fits = short;
              inside = omega (arith, stepped, reaches);
              out_long = size turned.puts ∙ here.out_long;
              ring_long = el ∙ here.ring_long;
              reply_long = em ∙ here.reply_long;
              lends = em ∙ here.lends;
              box = turned.box;
              keeps = turned.keeps ∙ ap (λ (x : State). kept x.box) left;
              unended = turned.stops ∙ goes-on;
            }
