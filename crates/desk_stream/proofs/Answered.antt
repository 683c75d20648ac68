-- What a window answers is `run` of the calls in the bytes that it read, and its text is their lines, with the bad line if it ended.
use Rattle.std.proofs.Common.{◌≡◌, ℕ, zero, suc, ◌+◌, ◌-◌, ◌≤◌, Bool, true, false, cond, List, [], ◌∷◌, ◌++◌, length, take, drop, sym, refl, ap, ◌∙◌, subst, true≢false, append_assoc, append-nil, zero-le, add-zero, add_assoc, zero-add, arith, length-drop, take-append-drop, length-take, length-take-le, drop-drop, take-add, drop_at}
use lib.Seq.{drop-nil}
use Rattle.rules.specs.Calls.{Call, State}
use Rattle.rules.specs.Machine.{step, run_by, run}
use Rattle.rules.specs.Record.{sound}
use Rattle.rules.proofs.Theorems.{step-sound}
use Rattle.answers.specs.declared.Request.{Request}
use Rattle.desk_line.specs.Line.{line_for}
use Rattle.desk_stream.specs.Desk.{Heard, calling, wrong, hears, desk_call, Records, clean, before, read_from, bad_text, lines_of}
use Rattle.desk_stream.specs.Window.{waits, Progress, outset, roomy, served}
use Rattle.desk_stream.proofs.Turns.{answered, broken, turns-on, turns-none, no_room}
use Rattle.desk_stream.proofs.Input.{one-read}
use Rattle.desk_stream.proofs.Hearing.{heard-whole, heard-alone}

-- ---- the calls of some bytes, and what `run` gives for them
-- the lines of the records that some bytes hold
abbrev pub lines_in : State → Records → List ℕ
lines_in box i = lines_of i.kinds (run box i.calls).outcomes

pub runs-sound : (cs : List Call) (s : State) → sound s.box (length s.bytes) ≡ true
    → sound (run s cs).end.box (length (run s cs).end.bytes) ≡ true
unfolding run_by
runs-sound [] s h = h
runs-sound (c ∷ cs) s h = runs-sound cs (step s c).state (step-sound s c h)

-- as many bytes behind the first
pub drop_of_take : (m n : ℕ) (s : List ℕ) → m ≤ length s → drop m (take (m + n) s) ≡ take n (drop m s)
drop_of_take m n s h = ap (drop m) (take-add m n s) ∙ drop_at (take m s) (take n (drop m s)) m (length-take-le m s h)

module _ (base : ℕ) (last : Bool) (room : ℕ) where
  abbrev tail : Progress → List ℕ
  tail q = cond q.ended (bad_text (base + q.place)) []

  -- the bytes that were read from p to q hold calls whose run leads from p to q
  record Answers (p q : Progress) (skip : ℕ) (w : List ℕ) : Type 0 where
    far : ℕ
    place : q.place ≡ p.place + far
    whole : (n : ℕ) → (read_from 0 n (take far (drop skip w))).ending ≡ clean
    ran : (n : ℕ) → (run p.box (read_from 0 n (take far (drop skip w))).calls).end ≡ q.box
    reach : far ≤ length (drop skip w)
    rests : q.ended ≡ false → served base last room 0 q (drop far (drop skip w)) ≡ q
    said : (n : ℕ) → q.text ≡ p.text ++ (lines_in p.box (read_from 0 n (take far (drop skip w))) ++ tail q)

  abbrev Answering : List ℕ → Type 0
  Answering w = (skip : ℕ) (p : Progress) → p.ended ≡ false → Answers p (served base last room skip p w) skip w

  stay : (p : Progress) (skip : ℕ) (w : List ℕ) → p.ended ≡ false → served base last room 0 p (drop skip w) ≡ p → Answers p p skip w
  unfolding read_from run_by
  stay p skip w e f =
      record {
        far = 0;
        place = sym (add-zero p.place);
        whole = λ n. refl;
        ran = λ n. refl;
        reach = zero-le;
        rests = λ _. f;
        said = λ n. sym (ap (λ (b : Bool). p.text ++ cond b (bad_text (base + p.place)) []) e ∙ append-nil p.text);
      }

  broke : (p : Progress) (skip : ℕ) (w : List ℕ) → Answers p (broken base p) skip w
  unfolding read_from run_by
  broke p skip w =
      record {
        far = 0;
        place = sym (add-zero p.place);
        whole = λ n. refl;
        ran = λ n. refl;
        reach = zero-le;
        rests = λ e. absurd (true≢false e);
        said = λ n. refl;
      }

  behind : (p q : Progress) (skip b : ℕ) (w : List ℕ) → Answers p q skip w → Answers p q (suc skip) (b ∷ w)
  behind p q skip b w l = record { far = l.far; place = l.place; whole = l.whole; ran = l.ran; reach = l.reach; rests = l.rests; said = l.said }

  module _ (p : Progress) (w : List ℕ) (k : ℕ) (r : Request) (given : List ℕ) (size : ℕ) (h : hears w ≡ calling k r given size) where
    -- the bytes from its record on, as far as they are read
    first_read : (far n : ℕ)
        → read_from 0 n (take (size + far) w) ≡ before k (desk_call r given) (read_from 0 (n + size) (take far (drop size w)))
    first_read far n =
        let x = heard-whole w h in
        let long : size ≤ length (take (size + far) w) = omega (arith, length-take (size + far) w, x.inside) in
        let heard : hears (take (size + far) w) ≡ calling k r given size =
        heard-alone (take (size + far) w) (drop (size + far) w) (ap hears (take-append-drop (size + far) w) ∙ h) long in
        one-read n (take (size + far) w) k r given size (omega (arith, x.some)) heard x.some
        ∙ ap (λ (s : List ℕ). before k (desk_call r given) (read_from 0 (n + size) s)) (drop_of_take size far w x.inside)

    one_more : (q : Progress) → Answers (answered k (step p.box (desk_call r given)) size p) q 0 (drop size w) → Answers p q 0 w
    unfolding run_by
    one_more q l =
        let o = step p.box (desk_call r given) in
        record {
          far = size + l.far;
          place = l.place ∙ add_assoc p.place size l.far;
          whole = λ n. ap (λ (i : Records). i.ending) (first_read l.far n) ∙ l.whole (n + size);
          ran = λ n. ap (λ (i : Records). (run p.box i.calls).end) (first_read l.far n) ∙ l.ran (n + size);
          reach = omega (arith, l.reach, length-drop size w, (heard-whole w h).inside);
          rests = λ e. ap (served base last room 0 q) (sym (drop-drop l.far size w)) ∙ l.rests e;
          said = λ n.
              l.said (n + size)
              ∙ append_assoc p.text (line_for k o) (lines_in o.state (read_from 0 (n + size) (take l.far (drop size w))) ++ tail q)
              ∙ ap (λ (t : List ℕ). p.text ++ t)
              (sym (append_assoc (line_for k o) (lines_in o.state (read_from 0 (n + size) (take l.far (drop size w)))) (tail q)))
              ∙ ap (λ (i : Records). p.text ++ (lines_in p.box i ++ tail q)) (sym (first_read l.far n));
        }

  -- what is answered behind the bytes of the record before
  at_once : (p q : Progress) (skip : ℕ) (w : List ℕ) → Answers p q skip w → Answers p q 0 (drop skip w)
  at_once p q skip w l = record { far = l.far; place = l.place; whole = l.whole; ran = l.ran; reach = l.reach; rests = l.rests; said = l.said }

  module _ (p : Progress) (b : ℕ) (w : List ℕ) (next : Answering w) (e : p.ended ≡ false) where
    to : (q : Progress) → served base last room 0 p (b ∷ w) ≡ q → Answers p q 0 (b ∷ w) → Answers p (served base last room 0 p (b ∷ w)) 0 (b ∷ w)
    to q f l = subst (λ (x : Progress). Answers p x 0 (b ∷ w)) (sym f) l

    none-heard : (x : Bool) → served base last room 0 p (b ∷ w) ≡ cond x p (broken base p) → Answers p (cond x p (broken base p)) 0 (b ∷ w)
    none-heard true f = stay p 0 (b ∷ w) e f
    none-heard false f = broke p 0 (b ∷ w)

    by-heard : roomy base last room p ≡ true → (h : Heard) → hears (b ∷ w) ≡ h → Answers p (served base last room 0 p (b ∷ w)) 0 (b ∷ w)
    by-heard r (calling k q given zero) h = absurd (omega (arith, (heard-whole (b ∷ w) h).some))
    by-heard r (calling k q given (suc m)) h =
        let p' = answered k (step p.box (desk_call q given)) (suc m) p in
        let less : suc m - 1 ≡ m = omega arith in
        to _ (turns-on base last room p b w r k q given (suc m) h (omega arith) ∙ ap (λ (n : ℕ). served base last room n p' w) less)
        (one_more p (b ∷ w) k q given (suc m) h (served base last room m p' w) (at_once p' (served base last room m p' w) m w (next m p' e)))
    by-heard r wrong h =
        to _ (turns-none base last room p b w r h) (none-heard (waits last (b ∷ w)) (turns-none base last room p b w r h))

    by-room : (r : Bool) → roomy base last room p ≡ r → Answers p (served base last room 0 p (b ∷ w)) 0 (b ∷ w)
    by-room true r = by-heard r (hears (b ∷ w)) refl
    by-room false r = to p (no_room base last room p (b ∷ w) r) (stay p 0 (b ∷ w) e (no_room base last room p (b ∷ w) r))

  answering : (w : List ℕ) → Answering w
  unfolding served
  answering [] skip p e = stay p skip [] e (ap (served base last room 0 p) (drop-nil skip))
  answering (b ∷ w) (suc skip) p e = behind p (served base last room skip p w) skip b w (answering w skip p e)
  answering (b ∷ w) zero p e = by-room p b w (λ skip q f. answering w skip q f) e (roomy base last room p) refl

  module _ (box : State) (w : List ℕ) where
    abbrev came : Progress
    came = served base last room 0 (outset box) w

    -- the records in the bytes that were read
    abbrev pub records_read : Records
    records_read = read_from 0 base (take came.place w)

    far-place : (answering w 0 (outset box) refl).far ≡ came.place
    far-place = sym ((answering w 0 (outset box) refl).place ∙ zero-add _)

    pub read-clean : records_read.ending ≡ clean
    read-clean =
        ap (λ (n : ℕ). (read_from 0 base (take n w)).ending) (sym far-place) ∙ (answering w 0 (outset box) refl).whole base

    pub window-ran : came.box ≡ (run box records_read.calls).end
    window-ran =
        sym ((answering w 0 (outset box) refl).ran base) ∙ ap (λ (n : ℕ). (run box (read_from 0 base (take n w)).calls).end) far-place

    pub window-said : came.text ≡ lines_in box records_read ++ tail came
    window-said =
        (answering w 0 (outset box) refl).said base ∙ ap (λ (n : ℕ). lines_in box (read_from 0 base (take n w)) ++ tail came) far-place

    pub window-inside : came.place ≤ length w
    window-inside = omega (arith, (answering w 0 (outset box) refl).reach, far-place)

    -- where it has come to, there is nothing more to answer yet
    pub window-rests : came.ended ≡ false → served base last room 0 came (drop came.place w) ≡ came
    window-rests e = ap (λ (n : ℕ). served base last room 0 came (drop n w)) (sym far-place) ∙ (answering w 0 (outset box) refl).rests e

    pub window-sound : sound box.box (length box.bytes) ≡ true → sound came.box.box (length came.box.bytes) ≡ true
    window-sound h = subst (λ (s : State). sound s.box (length s.bytes) ≡ true) (sym window-ran) (runs-sound records_read.calls box h)
