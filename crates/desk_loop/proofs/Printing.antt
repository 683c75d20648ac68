-- What the program says, turn by turn, is a run of `Prints`: so it is the desk's text for its input, however its reads cut it.
use Rattle.std.proofs.Common.{◌≡◌, ℕ, ◌+◌, ◌-◌, ◌%◌, ◌^◌, ◌<◌, ◌≤◌, Bool, true, false, ◌&&◌, ◌||◌, eqb, ltb, leb, List, [], ◌∷◌, ◌++◌, length, take, drop, replicate, sym, refl, ap, ◌∙◌, subst, true≢false, append_assoc, append-nil, add-zero, arith, length-append, length-drop, take-append-drop, length-take, drop-drop, eqb-true, le-leb}
use mathlib.Core.Bool.{false≢true}
use native.Mathlib.Nat.{mod-add-mod}
use lib.ListN.{length-replicate}
use lib.Seq.{take-append_seam, take-append-add, drop-append-le}
use Rattle.rules.specs.Record.{fresh}
use Rattle.rules.specs.Calls.{State}
use Rattle.stored.specs.Stored.{kept, is_box}
use Rattle.stored.proofs.Back.{recorded-kept}
use Rattle.stored.proofs.Fresh.{fresh-box}
use Rattle.desk_text.specs.Put.{overlaid}
use Rattle.desk_line.specs.Line.{line_room}
use Rattle.desk_stream.specs.Desk.{ring_room, desk_text}
use Rattle.desk_stream.specs.Window.{longest, Progress, outset, served}
use Rattle.desk_stream.specs.Boxed.{box_in, Came, windowed, serving}
use Rattle.desk_stream.specs.Runs.{Prints, bad, end, more}
use Rattle.desk_stream.proofs.Answered.{drop_of_take, window-inside}
use Rattle.desk_stream.proofs.Progress.{little-left}
use Rattle.desk_stream.proofs.Windows.{desk-prints}
use Rattle.desk_loop.specs.declared.Flow.{Flow}
use Rattle.desk_loop.specs.Loop.{unread, filled, Desk, passing, behind, turned_by, turned}
use Rattle.desk_loop.specs.Program.{opened, Brings, with_window, Steps, on, reads, Stepped, Reaches, begins, goes_on, said, Goes, over, step}
use Rattle.desk_loop.proofs.Turning.{Within, length-unread}

-- ---- parts of a window
module _ (window : List ℕ) (at held : ℕ) (front : at ≤ held) (back : held ≤ length window) where
  abbrev u : List ℕ
  u = unread window at held

  long : length u ≡ held - at
  long = length-unread window at held back

  -- behind what is read of it
  unread-on : (n : ℕ) → n ≤ length u → unread window (at + n) held ≡ drop n u
  unread-on n h =
      let m : ℕ = held - (at + n) in
      let less : n + m ≡ held - at = omega (arith, long) in
      ap (take m) (sym (drop-drop n at window))
      ∙ sym (drop_of_take n m (drop at window) (omega (arith, long, length-drop at window)))
      ∙ ap (λ (i : ℕ). drop n (take i (drop at window))) less

  -- with the bytes that a read brings
  unread-brought : (bytes window' : List ℕ) → Brings window held bytes window' → unread window' at (held + length bytes) ≡ u ++ bytes
  unread-brought bytes window' b =
      let n : ℕ = held - at in
      let all : at + n ≡ held = omega arith in
      let kept : drop at (take held window) ≡ u = ap (λ (i : ℕ). drop at (take i window)) (sym all) ∙ drop_of_take at n window (omega arith) in
      let size : held + length bytes - at ≡ length u + length bytes = omega (arith, long) in
      ap (λ (x : List ℕ). take (held + length bytes - at) (drop at x))
      (sym (take-append-drop held window') ∙ ap (λ (x : List ℕ). x ++ drop held window') b.before)
      ∙ ap (take (held + length bytes - at))
      (drop-append-le at (take held window) (drop held window') (omega (arith, length-take held window))
      ∙ ap (λ (x : List ℕ). x ++ drop held window') kept)
      ∙ ap (λ (i : ℕ). take i (u ++ drop held window')) size
      ∙ take-append-add u (drop held window') (length bytes)
      ∙ ap (λ (x : List ℕ). u ++ x) b.behind

-- at the front of the window
unread-front : (window k : List ℕ) → unread (overlaid window 0 k) 0 (length k) ≡ k
unread-front window k =
    let all : length k - 0 ≡ length k = omega arith in
    ap (λ (n : ℕ). take n (overlaid window 0 k)) all ∙ take-append_seam k (drop (0 + length k) window)

-- ---- what a turn comes to
module _ (space : ℕ) (box : State) (base : ℕ) (last : Bool) (room : ℕ) (w : List ℕ) where
  abbrev q : Progress
  q = served base last room 0 (outset box) w

  pub record Turned (e : Desk) : Type 0 where
    text : said e ≡ q.text
    ends : q.ended ≡ true → e.flow.over ≡ true
    stops : e.flow.over ≡ true → q.ended ≡ false → (last ≡ true) × (length w ≡ q.place)
    rest : unread e.window e.flow.at e.flow.held ≡ drop q.place w
    left : box_in e.words e.ring ≡ q.box
    count : e.flow.base ≡ (base + q.place) % 2 ^ 64
    still : e.flow.last ≡ last
    wants : e.flow.wants ≡ leb (length q.text + line_room) room
    front : e.flow.wants ≡ true → e.flow.held ≡ length (drop q.place w)
    within : Within e.flow (length e.window)
    roomy : room ≤ length e.lines
    size : length e.window ≡ space

-- ---- a turn of a box, with room for a line
module _ (f : Flow) (d : Desk) (box : is_box d.words (length d.ring) ≡ true) (room : line_room ≤ length d.lines)
    (within : Within f (length d.window)) where
  abbrev w : List ℕ
  w = unread d.window f.at f.held

  abbrev p : Progress
  p = served f.base f.last (length d.lines) 0 (outset (box_in d.words d.ring)) w

  abbrev c : Came
  c = windowed d.lines p

  is-window : serving d.words d.ring w f.base f.last d.lines ≡ c
  unfolding serving
  is-window = rw (box, le-leb line_room (length d.lines) room) refl

  abbrev g : Flow
  g = passing f c (length d.lines)

  placed : p.place ≤ length w
  placed = window-inside f.base f.last (length d.lines) (box_in d.words d.ring) w

  on-place : f.at + p.place ≤ f.held
  on-place = omega (arith, placed, length-unread d.window f.at f.held within.back, within.front)

  rest : unread d.window (f.at + p.place) f.held ≡ drop p.place w
  rest = unread-on d.window f.at f.held within.front within.back p.place placed

  left-held : f.held - (f.at + p.place) ≡ length (unread d.window (f.at + p.place) f.held)
  left-held = sym (length-unread d.window (f.at + p.place) f.held within.back)

  -- all is said exactly by these
  stopped : (ended last : Bool) → ((ended || ltb 0 0) || (last && eqb (f.at + p.place) f.held)) ≡ true → ended ≡ false
      → (last ≡ true) × (length w ≡ p.place)
  stopped false true h e =
      let same : f.at + p.place ≡ f.held = eqb-true (f.at + p.place) f.held h in
      (refl, omega (arith, length-unread d.window f.at f.held within.back))
  stopped false false h e = absurd (false≢true h)
  stopped true last h e = absurd (true≢false e)

  ending : (ended last : Bool) → ended ≡ true → ((ended || ltb 0 0) || (last && eqb (f.at + p.place) f.held)) ≡ true
  ending true last e = refl
  ending false last e = absurd (false≢true e)

  text : take (length p.text) (overlaid d.lines 0 p.text) ≡ p.text
  text = take-append_seam p.text (drop (0 + length p.text) d.lines)

  lines_long : length d.lines ≤ length (overlaid d.lines 0 p.text)
  lines_long = omega (arith, length-append p.text (drop (0 + length p.text) d.lines), length-drop (0 + length p.text) d.lines)

  box-left : box_in (kept p.box.box) p.box.bytes ≡ p.box
  box-left = rw (recorded-kept p.box.box) refl

  front_long : length (overlaid d.window 0 (unread d.window (f.at + p.place) f.held)) ≡ length d.window
  front_long =
      let k = unread d.window (f.at + p.place) f.held in
      omega (arith, left-held, within.back, length-append k (drop (0 + length k) d.window), length-drop (0 + length k) d.window)

  -- where the window wants more, and where it does not
  settles : (b : Bool) → leb (length p.text + line_room) (length d.lines) ≡ b
      → Turned (length d.window) (box_in d.words d.ring) f.base f.last (length d.lines) w (behind f d c)
  settles true e =
      let k = unread d.window (f.at + p.place) f.held in
      rw e
      (record {
        text = text;
        ends = ending p.ended f.last;
        stops = stopped p.ended f.last;
        rest = ap (unread (overlaid d.window 0 k) 0) left-held ∙ unread-front d.window k ∙ rest;
        left = box-left;
        count = refl;
        still = refl;
        wants = sym e;
        front = λ _. left-held ∙ ap length rest;
        within =
            record {
              front = omega arith;
              back = omega (arith, left-held, length-append k (drop (0 + length k) d.window));
            };
        roomy = lines_long;
        size = front_long;
      })
  settles false e =
      rw e
      (record {
        text = text;
        ends = ending p.ended f.last;
        stops = stopped p.ended f.last;
        rest = rest;
        left = box-left;
        count = refl;
        still = refl;
        wants = sym e;
        front = λ x. absurd (false≢true x);
        within = record { front = on-place; back = within.back };
        roomy = lines_long;
        size = refl;
      })

  served-turn : Turned (length d.window) (box_in d.words d.ring) f.base f.last (length d.lines) w (turned_by f d)
  served-turn =
      subst (λ (x : Came). Turned (length d.window) (box_in d.words d.ring) f.base f.last (length d.lines) w (behind f d x)) (sym is-window)
      (settles (leb (length p.text + line_room) (length d.lines)) refl)

-- ---- from turn to turn
-- where the program stands: at an offset of the input, with a box and room for a line, and nothing to come where the input has ended
pub record Ready (d : Desk) (at : ℕ) (input : List ℕ) : Type 0 where
  pub box : is_box d.words (length d.ring) ≡ true
  pub room : line_room ≤ length d.lines
  pub within : Within d.flow (length d.window)
  pub count : d.flow.base ≡ at % 2 ^ 64
  pub done : d.flow.last ≡ true → input ≡ []

-- where all is said, nothing more is
silent : {d : Desk} {input text : List ℕ} → Goes d input text → d.flow.over ≡ true → text ≡ []
silent (over e) h = refl
silent (step e s n k g) h = absurd (true≢false (sym h ∙ e))

module _ {space : ℕ} {box : State} {base : ℕ} {last : Bool} {room : ℕ} {w : List ℕ} {e : Desk} (t : Turned space box base last room w e) (at : ℕ)
    (count : base ≡ at % 2 ^ 64) {v text : List ℕ} (done : last ≡ true → v ≡ []) (g : Goes e v text) where
  abbrev r : Progress
  r = served base last room 0 (outset box) w

  -- the next window begins behind what is read
  rest-joined : drop r.place (w ++ v) ≡ unread e.window e.flow.at e.flow.held ++ v
  rest-joined = drop-append-le r.place w v (window-inside base last room box w) ∙ ap (λ (x : List ℕ). x ++ v) (sym t.rest)

  abbrev Next : Type 0
  Next = Prints (box_in e.words e.ring) (at + r.place) (unread e.window e.flow.at e.flow.held ++ v) text

  next-window : Next → Prints r.box (at + r.place) (drop r.place (w ++ v)) text
  next-window n =
      subst (λ (x : List ℕ). Prints r.box (at + r.place) x text) (sym rest-joined)
      (subst (λ (s : State). Prints s (at + r.place) (unread e.window e.flow.at e.flow.held ++ v) text) t.left n)

  by_end : (ended stopped : Bool) → r.ended ≡ ended → e.flow.over ≡ stopped → (e.flow.over ≡ false → Next)
      → Prints box at (w ++ v) (said e ++ text)
  by_end true stopped f h next =
      let none : said e ++ text ≡ r.text = ap (λ (x : List ℕ). said e ++ x) (silent g (t.ends f)) ∙ append-nil (said e) ∙ t.text in
      subst (Prints box at (w ++ v)) (sym none) (bad w v last base room count done f)
  by_end false true f h next =
      let all = t.stops h f in
      let none : said e ++ text ≡ r.text = ap (λ (x : List ℕ). said e ++ x) (silent g h) ∙ append-nil (said e) ∙ t.text in
      let ended : w ++ v ≡ w = ap (λ (x : List ℕ). w ++ x) (done all.0) ∙ append-nil w in
      subst (λ (x : List ℕ). Prints box at x (said e ++ text)) (sym ended)
      (subst (Prints box at w) (sym none) (end w last base room count f all.1))
  by_end false false f h next =
      subst (λ (x : List ℕ). Prints box at (w ++ v) (x ++ text)) (sym t.text)
      (more w v last base room count done f (next-window (next h)))

  pub turn-prints : (e.flow.over ≡ false → Next) → Prints box at (w ++ v) (said e ++ text)
  turn-prints next = by_end r.ended e.flow.over refl refl next

  -- and stands there as it stood here
  pub ready-again : is_box e.words (length e.ring) ≡ true → line_room ≤ room → Ready e (at + r.place) v
  ready-again b l =
      record {
        box = b;
        room = omega (arith, t.roomy);
        within = t.within;
        count =
            t.count
            ∙ ap (λ (n : ℕ). (n + r.place) % 2 ^ 64) count
            ∙ mod-add-mod at (2 ^ 64) r.place;
        done = λ h. done (sym t.still ∙ h);
      }

-- ---- a turn with nothing read, and one with the bytes of a read
module _ (d : Desk) (got : ℕ) where
  abbrev f : Flow
  f = d.flow

  abbrev full : Flow
  full = filled f got (length d.window)

  module _ (inside : f.at ≤ f.held) (fits : f.held + got ≤ length d.window) where
    full_at : full.at ≡ f.at
    full_at = omega arith

    full-held : full.held ≡ f.held + got
    full-held = omega arith

    full-within : Within full (length d.window)
    full-within = record { front = omega arith; back = omega arith }

    pub filled-turn : is_box d.words (length d.ring) ≡ true → line_room ≤ length d.lines
        → Turned (length d.window) (box_in d.words d.ring) f.base full.last (length d.lines)
        (unread d.window f.at (f.held + got)) (turned got d)
    unfolding turned
    filled-turn b l =
        subst (λ (x : List ℕ). Turned (length d.window) (box_in d.words d.ring) f.base full.last (length d.lines) x (turned_by full d))
        (ap (λ (n : ℕ). unread d.window n full.held) full_at ∙ ap (unread d.window f.at) full-held)
        (served-turn full d b l full-within)

-- a read that brings nothing ends the input
last_done : (last wants none : Bool) (input : List ℕ) → wants ≡ true → (last ≡ true → input ≡ []) → (none ≡ true → input ≡ [])
    → (last || (wants && none)) ≡ true → input ≡ []
last_done true wants none input e f g h = f refl
last_done false true true input e f g h = g refl
last_done false true false input e f g h = absurd (false≢true h)
last_done false false none input e f g h = absurd (false≢true e)

last-same : (last wants : Bool) → wants ≡ false → (last || (wants && true)) ≡ true → last ≡ true
last-same true wants e h = refl
last-same false true e h = absurd (true≢false e)
last-same false false e h = h

none_left : (bytes input : List ℕ) → bytes ++ input ≡ [] → input ≡ []
none_left [] input e = e
none_left (b ∷ bytes) input e = let z : ◌≡◌ {A = ℕ} 0 1 = absurd (omega (arith, ap length e)) in absurd (omega arith)

-- ---- the law
-- a step, where what follows it prints what it says
step-prints : {d : Desk} {bytes : List ℕ} {e : Desk} {input text : List ℕ} → Steps d bytes e → (d.flow.wants ≡ true → length bytes ≡ 0 → input ≡ [])
    → is_box e.words (length e.ring) ≡ is_box d.words (length d.ring) → Goes e input text
    → ((at : ℕ) → Ready e at input → e.flow.over ≡ false
    → Prints (box_in e.words e.ring) at (unread e.window e.flow.at e.flow.held ++ input) text) → (at : ℕ)
    → Ready d at (bytes ++ input) → Prints (box_in d.words d.ring) at (unread d.window d.flow.at d.flow.held ++ (bytes ++ input)) (said e ++ text)
step-prints {d} {input = input} {text = text} (on w) n k g rest at s =
    let fits : d.flow.held + 0 ≤ length d.window = omega (arith, s.within.back) in
    let t = filled-turn d 0 s.within.front fits s.box s.room in
    let no_more : (full d 0).last ≡ true → input ≡ [] = λ x. s.done (last-same d.flow.last d.flow.wants w x) in
    let again = ready-again t at s.count no_more g (k ∙ s.box) s.room in
    subst (λ (i : ℕ). Prints (box_in d.words d.ring) at (unread d.window d.flow.at i ++ input) (said (turned 0 d) ++ text))
    (add-zero d.flow.held)
    (turn-prints t at s.count no_more g (λ x. rest _ again x))
step-prints {d} {input = input} {text = text} (reads bytes window w b) n k g rest at s =
    let d' : Desk = with_window window d in
    let t = filled-turn d' (length bytes) s.within.front (omega (arith, b.fits, b.size)) s.box s.room in
    let no_more : (full d' (length bytes)).last ≡ true → input ≡ [] =
    last_done d.flow.last d.flow.wants (eqb (length bytes) 0) input w (λ x. none_left bytes input (s.done x))
    (λ x. n w (eqb-true (length bytes) 0 x)) in
    let again = ready-again t at s.count no_more g (k ∙ s.box) s.room in
    subst (λ (x : List ℕ). Prints (box_in d.words d.ring) at x (said (turned (length bytes) d') ++ text))
    (ap (λ (x : List ℕ). x ++ input)
    (unread-brought d.window d.flow.at d.flow.held s.within.front s.within.back bytes window b)
    ∙ append_assoc (unread d.window d.flow.at d.flow.held) bytes input)
    (turn-prints t at s.count no_more g (λ x. rest _ again x))

pub goes-prints : {d : Desk} {input text : List ℕ} → Goes d input text → (at : ℕ) → Ready d at input → d.flow.over ≡ false
    → Prints (box_in d.words d.ring) at (unread d.window d.flow.at d.flow.held ++ input) text
goes-prints (over e) at s h = absurd (true≢false (sym e ∙ h))
goes-prints (step e t n k g) at s h = step-prints t n k g (goes-prints g) at s

opened-box : (window lines : List ℕ) → is_box (opened window lines).words (length (opened window lines).ring) ≡ true
opened-box window lines =
    let ring : List ℕ = replicate ring_room 0 in
    let long : length ring ≡ ring_room = length-replicate {A = ℕ} ring_room 0 in
    fresh-box ring (record { least = omega (arith, long); most = omega (arith, long) })

-- from the outset, with room for a line: the program says the desk's text for its input, whatever its reads bring at a time
pub program-prints : (window lines : List ℕ) → line_room ≤ length lines → {input text : List ℕ} → Goes (opened window lines) input text
    → text ≡ desk_text input
program-prints window lines l {input} {text} g =
    let at_first : Ready (opened window lines) 0 input =
    record {
      box = opened-box window lines;
      room = l;
      within = record { front = omega arith; back = omega arith };
      count = refl;
      done = λ x. absurd (false≢true x);
    } in
    desk-prints
    (subst (λ (s : State). Prints s 0 input text) (rw (recorded-kept fresh) refl) (goes-prints g 0 at_first refl))

-- ---- a read is only asked for where there is room, so that one that brings nothing tells the input's end
asks-with-room : {box : State} {space base room : ℕ} {last : Bool} {w : List ℕ} {e : Desk} → Turned space box base last room w e → longest ≤ length e.window
    → e.flow.over ≡ false → e.flow.wants ≡ true → e.flow.held < length e.window
asks-with-room {box = box} {base = base} {room = room} {last = last} {w = w} t h o x =
    omega (arith, t.front x, little-left base last room box w (unended (served base last room 0 (outset box) w).ended refl) (sym t.wants ∙ x))
  where
    unended : (b : Bool) → (served base last room 0 (outset box) w).ended ≡ b → b ≡ false
    unended true f = absurd (true≢false (sym (t.ends f) ∙ o))
    unended false f = refl

-- wherever the program has come to
record Stands (e : Desk) : Type 0 where
  box : is_box e.words (length e.ring) ≡ true
  room : line_room ≤ length e.lines
  within : Within e.flow (length e.window)
  large : longest ≤ length e.window
  asks : e.flow.over ≡ false → e.flow.wants ≡ true → e.flow.held < length e.window

module _ (d : Desk) (got : ℕ) (inside : d.flow.at ≤ d.flow.held) (fits : d.flow.held + got ≤ length d.window) where
  turn-stands : is_box d.words (length d.ring) ≡ true → line_room ≤ length d.lines → longest ≤ length d.window
      → is_box (turned got d).words (length (turned got d).ring) ≡ is_box d.words (length d.ring) → Stands (turned got d)
  turn-stands b r l k =
      let t = filled-turn d got inside fits b r in
      let large : longest ≤ length (turned got d).window = omega (arith, l, t.size) in
      record { box = k ∙ b; room = omega (arith, r, t.roomy); within = t.within; large = large; asks = asks-with-room t large }

step-stands : {d e : Desk} → Stands d → Stepped d e → Stands e
step-stands {d} s p = go p.steps p.still
  where
    go : {bytes : List ℕ} {e : Desk} → Steps d bytes e → is_box e.words (length e.ring) ≡ is_box d.words (length d.ring) → Stands e
    go (on w) k = turn-stands d 0 s.within.front (omega (arith, s.within.back)) s.box s.room s.large k
    go (reads bytes window w b) k =
        turn-stands (with_window window d) (length bytes) s.within.front (omega (arith, b.fits, b.size)) s.box s.room
        (omega (arith, s.large, b.size)) k

module _ (window lines : List ℕ) (large : longest ≤ length window) (room : line_room ≤ length lines) where
  stands : {e : Desk} → Reaches (opened window lines) e → Stands e
  stands begins =
      record {
        box = opened-box window lines;
        room = room;
        within = record { front = omega arith; back = omega arith };
        large = large;
        asks = λ _ _. omega arith;
      }
  stands (goes_on r o p) = step-stands (stands r) p

  pub room-to-read : {e : Desk} → Reaches (opened window lines) e → e.flow.over ≡ false → e.flow.wants ≡ true → e.flow.held < length e.window
  room-to-read r o w = (stands r).asks o w
