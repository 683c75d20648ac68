-- A list of a host's calls is `run` of the calls in them: so demands 2 and 3 speak of a host's box.
use Prim.Native.Nat.{ℕ, ◌+◌, ◌-◌}
use mathlib.Core.Path.{◌≡◌, refl, sym, ap, ◌∙◌, subst}
use mathlib.Core.Bool.{Bool, true, false, cond}
use mathlib.Core.List.{List, [], ◌∷◌, ◌++◌}
use native.Mathlib.Nat.{add-zero}
use native.Mathlib.Omega.{arith}
use lib.Dec.{leb, eqb}
use lib.ListN.{length, take, drop, length-take, length-replicate, replicate, take-append-drop}
use lib.Seq.{take-nil}
use Rattle.rules.specs.declared.Record.{Record}
use Rattle.rules.specs.Record.{fresh}
use Rattle.rules.specs.Calls.{Call, State}
use Rattle.rules.specs.Machine.{step, run, run_by, start}
use Rattle.rules.specs.Promises.{Ringed}
use Rattle.rules.specs.Watch.{lived}
use Rattle.rules.proofs.Theorems.{lived-run}
use Rattle.answers.specs.declared.Request.{Request}
use Rattle.answers.specs.Asked.{asked, replied}
use Rattle.answers.specs.Told.{state_of}
use Rattle.desk_text.specs.Put.{fitting, overlaid}
use Rattle.desk_line.specs.Line.{line_for, line_of, line_room}
use Rattle.stored.specs.Stored.{kept, recorded, is_box}
use Rattle.stored.proofs.Back.{recorded-kept}
use Rattle.stored.proofs.Fresh.{fresh-box}
use Rattle.desk_stream.specs.Desk.{Heard, calling, wrong, hears, call_with, read_from, lines_of, bad_text}
use Rattle.desk_stream.specs.Window.{Piece, no_record, answered_by, unheard_in, piece_of, piece, replied_in, outset, served}
use Rattle.desk_stream.specs.Boxed.{box_in, Came, unsound_number, no_room_number, as_it_was, begun, windowed, serving, saying, performing}
use Rattle.desk_stream.proofs.Hearing.{heard-whole, heard-alone}
use Rattle.desk_stream.proofs.Pieces.{unheard-empty, unheard-box, unheard-number, unheard-text}
use Rattle.desk_stream.proofs.Replies.{Bare, bare, reply-alike}
use Rattle.desk_stream.proofs.Answered.{window-ran, window-said}
use Rattle.host_tick.specs.Second.{second_of}
use Rattle.host_tick.proofs.AnyRing.{any-ring}
use Rattle.bench_box.specs.Host.{tick_number, tick_words, Left, flag, to_host}
use Rattle.bench_box.specs.Hosted.{HostCall, serves, performs, ticks, comes, Hosted, hosted-none, hosted-one, words_left, ring_left}
use Rattle.bench_box.specs.Hosted.{read_of, asked_in, calls_in, calls_of, Unanswered, short, none_reads}
use Rattle.bench_box.specs.Hosted.{Told, in_lines, no_lines, by_number, not-at-all, by-tick, Follows, follows-none, follows-one}

-- the numbers of a box are the box
same-box : (s : State) → box_in (kept s.box) s.bytes ≡ s
same-box s = rw (recorded-kept s.box) refl

-- no record in no bytes
no_bytes : (t : List ℕ) → hears (take 0 t) ≡ wrong
no_bytes t = go (hears []) refl
  where
    go : (h : Heard) → hears [] ≡ h → hears [] ≡ wrong
    go (calling k q given size) e = absurd (omega (arith, (heard-whole [] e).some, (heard-whole [] e).inside))
    go wrong e = e

flagged : (e : Bool) (t : List ℕ) → cond e t [] ≡ cond (eqb (flag e) 1) t []
flagged true t = refl
flagged false t = refl

-- ---- one call of a host
pub record One (s : State) (c : HostCall) (l : Left) : Type 0 where
  pub told : Told c l (run s (calls_in c l)).outcomes
  pub left : box_in l.words l.ring ≡ (run s (calls_in c l)).end

module _ (ws ring : List ℕ) (box : is_box ws (length ring) ≡ true) where
  abbrev s : State
  s = box_in ws ring

  -- with a box, 603 or what comes of it
  opens : (reply lines : List ℕ) (P : Came → Type 0) (came : Came) → P (as_it_was no_room_number ws ring reply lines) → P came
      → P (begun ws ring reply lines came)
  opens reply lines P came none whole = subst P (sym (ap (λ (b : Bool). cond b (cond (leb line_room (length lines)) came
      (as_it_was no_room_number ws ring reply lines)) (as_it_was unsound_number ws ring reply lines)) box)) (go (leb line_room (length lines)))
    where
      go : (b : Bool) → P (cond b came (as_it_was no_room_number ws ring reply lines))
      go true = whole
      go false = none

  -- ---- a window
  module _ (input : List ℕ) (offset : ℕ) (last : Bool) (lines : List ℕ) where
    abbrev call : HostCall
    call = serves input offset last lines

    window-short : One s call (to_host (as_it_was no_room_number ws ring [] lines))
    unfolding read_from run_by
    window-short = record { told = no_lines refl (refl, refl); left = refl }

    window-whole : One s call (to_host (windowed lines (served offset last (length lines) 0 (outset s) input)))
    window-whole =
        let q = served offset last (length lines) 0 (outset s) input in
        let i = read_from 0 offset (take q.place input) in
        let said = lines_of i.kinds (run s i.calls).outcomes in
        let text = window-said offset last (length lines) s input ∙ ap (λ (t : List ℕ). said ++ t) (flagged q.ended (bad_text (offset + q.place))) in
        record {
          told = in_lines refl (ap (overlaid lines 0) text, ap length text);
          left = same-box q.box ∙ window-ran offset last (length lines) s input;
        }

    pub one-window : One s call (comes ws ring call)
    unfolding serving
    one-window =
        opens [] lines (λ (x : Came). One s call (to_host x)) (windowed lines (served offset last (length lines) 0 (outset s) input))
        window-short window-whole

  -- ---- a record
  module _ (reply input : List ℕ) (offset : ℕ) (last : Bool) (line : List ℕ) where
    abbrev one : HostCall
    one = performs reply input offset last line

    abbrev Saying : Piece → List ℕ → Type 0
    Saying p reply' = One s one (to_host (saying p reply' line))

    nothing-asked : (l : Left) → read_of l ≡ 0 → box_in l.words l.ring ≡ s → Told one l [] → One s one l
    unfolding run_by
    nothing-asked l z e t =
        let none : hears (take (read_of l) input) ≡ wrong = ap (λ (n : ℕ). hears (take n input)) z ∙ no_bytes input in
        record {
          told = subst (λ (h : Heard). Told one l (run s (asked_in reply h)).outcomes) (sym none) t;
          left = e ∙ ap (λ (h : Heard). (run s (asked_in reply h)).end) (sym none);
        }

    record-short : One s one (to_host (as_it_was no_room_number ws ring reply line))
    record-short =
        nothing-asked (to_host (as_it_was no_room_number ws ring reply line)) refl refl
        (not-at-all short refl (sym (ap (overlaid line 0) (take-nil (length line - 0))), sym (ap length (take-nil {A = ℕ} (length line - 0)))))

    unanswered : (p : Piece) → p.number ≡ no_record → p.size ≡ 0 → p.box ≡ s → p.text ≡ cond p.ended (bad_text offset) [] → Saying p reply
    unanswered p n z b t =
        let at : bad_text offset ≡ bad_text (offset + p.size) = ap bad_text (sym (add-zero offset) ∙ ap (λ (i : ℕ). offset + i) (sym z)) in
        let text = t ∙ ap (λ (x : List ℕ). cond p.ended x []) at ∙ flagged p.ended (bad_text (offset + p.size)) in
        nothing-asked (to_host (saying p reply line)) z (same-box p.box ∙ b)
        (not-at-all (subst Unanswered (sym n) none_reads) refl
        (ap (λ (x : List ℕ). overlaid line 0 (fitting line 0 x)) text, ap (λ (x : List ℕ). length (fitting line 0 x)) text))

    answered : (k : ℕ) (q : Request) (given : List ℕ) (size : ℕ) → hears input ≡ calling k q given size
        → Saying (answered_by k (step s (call_with (length reply) q given)) size) (replied (asked q given reply) (step s (asked q given reply)) reply)
    unfolding run_by
    answered k q given size h =
        let x = heard-whole input h in
        let o = step s (asked q given reply) in
        let o' = step s (call_with (length reply) q given) in
        let same : bare o' ≡ bare o = reply-alike s q given (replicate (length reply) 0) reply (length-replicate (length reply) 0) in
        let heard : hears (take size input) ≡ calling k q given size =
        heard-alone (take size input) (drop size input) (ap hears (take-append-drop size input) ∙ h) (omega (arith, length-take size input, x.inside)) in
        let text : line_for k o' ≡ line_for k o = ap (λ (b : Bare). line_of k b.number b.values b.state.box) same in
        let l = to_host (saying (answered_by k o' size) (replied (asked q given reply) o reply) line) in
        record {
          told =
              subst (λ (a : Heard). Told one l (run s (asked_in reply a)).outcomes) (sym heard)
              (by_number {l = l} heard (ap (λ (b : Bare). b.number) same) refl
              (ap (λ (x : List ℕ). overlaid line 0 (fitting line 0 x)) text, ap (λ (x : List ℕ). length (fitting line 0 x)) text));
          left =
              same-box o'.state
              ∙ ap (λ (b : Bare). b.state) same
              ∙ ap (λ (a : Heard). (run s (asked_in reply a)).end) (sym heard);
        }

    record-whole : (h : Heard) → hears input ≡ h → Saying (piece_of (length reply) offset last s input h) (replied_in h s reply)
    record-whole (calling k q given size) h = answered k q given size h
    record-whole wrong h =
        unanswered (unheard_in offset last s input) (unheard-number offset last s input) (unheard-empty offset last s input) (unheard-box offset last s input)
        (unheard-text offset last s input)

    pub one-record : One s one (comes ws ring one)
    unfolding performing piece
    one-record =
        opens reply line (λ (x : Came). One s one (to_host x)) (saying (piece (length reply) offset last s input) (replied_in (hears input) s reply) line)
        record-short (record-whole (hears input) refl)

  -- ---- a second
  pub one-second : One s ticks (comes ws ring ticks)
  unfolding tick_number tick_words run_by
  one-second =
      let e = any-ring (recorded ws) ring in
      record {
        told = by-tick (ap (λ (b : Bool). cond b (second_of (recorded ws) (length ring)).number unsound_number) box ∙ sym e.0);
        left =
            ap (λ (b : Bool). box_in (cond b (kept (second_of (recorded ws) (length ring)).state.box) ws) ring) box
            ∙ ap (λ (r : Record). state_of r ring) (recorded-kept (second_of (recorded ws) (length ring)).state.box)
            ∙ sym e.1;
      }

  pub one-call : (c : HostCall) → One s c (comes ws ring c)
  one-call (serves input offset last lines) = one-window input offset last lines
  one-call (performs reply input offset last line) = one-record reply input offset last line
  one-call ticks = one-second

-- ---- a list of them
pub hosted-follows : {ws ring : List ℕ} {cs : List HostCall} {ls : List Left} → is_box ws (length ring) ≡ true → Hosted ws ring cs ls
    → Follows (box_in ws ring) cs ls
hosted-follows box hosted-none = follows-none
hosted-follows {ws} {ring} box (hosted-one {c = c} {l = l} {cs = cs} {ls = ls} e still rest) =
    let one : One (box_in ws ring) c l = subst (One (box_in ws ring) c) (sym e) (one-call ws ring box c) in
    follows-one one.told one.left
    (subst (λ (s : State). Follows s cs ls) one.left (hosted-follows (still ∙ box) rest))

-- a list of calls and then another is the two joined
run-joined : (cs ds : List Call) (s : State) → (run s (cs ++ ds)).end ≡ (run (run s cs).end ds).end
unfolding run_by
run-joined [] ds s = refl
run-joined (c ∷ cs) ds s = run-joined cs ds (step s c).state

-- the box behind all of them is where `run` of all their calls ends
pub hosted-end : {ws ring : List ℕ} {cs : List HostCall} {ls : List Left} → is_box ws (length ring) ≡ true → Hosted ws ring cs ls
    → box_in (words_left ws ls) (ring_left ring ls) ≡ (run (box_in ws ring) (calls_of cs ls)).end
unfolding run_by
hosted-end box hosted-none = refl
hosted-end {ws} {ring} box (hosted-one {c = c} {l = l} {cs = cs} {ls = ls} e still rest) =
    let one : One (box_in ws ring) c l = subst (One (box_in ws ring) c) (sym e) (one-call ws ring box c) in
    hosted-end (still ∙ box) rest
    ∙ ap (λ (s : State). (run s (calls_of cs ls)).end) one.left
    ∙ sym (run-joined (calls_in c l) (calls_of cs ls) (box_in ws ring))

-- so a host's box, from a fresh one on, is the box that the watcher of demand 3 watches
pub host-lived : (ring : List ℕ) → Ringed ring → {cs : List HostCall} {ls : List Left} → Hosted (kept fresh) ring cs ls
    → box_in (words_left (kept fresh) ls) (ring_left ring ls) ≡ (lived ring (calls_of cs ls)).now
host-lived ring l {cs} {ls} h =
    hosted-end (fresh-box ring l) h
    ∙ ap (λ (s : State). (run s (calls_of cs ls)).end) (same-box (start ring))
    ∙ sym (lived-run ring (calls_of cs ls))
