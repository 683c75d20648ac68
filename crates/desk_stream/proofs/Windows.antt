-- A window's text, and then what the rest of the input gives, is what the whole input gives: how it is cut does not matter.
use Rattle.std.proofs.Common.{◌≡◌, ℕ, zero, suc, ◌+◌, ◌-◌, ◌%◌, ◌^◌, Bool, true, false, cond, not, ◌&&◌, List, [], ◌∷◌, ◌++◌, length, drop, replicate, sym, refl, ap, ◌∙◌, subst, append_assoc, append-nil, add-zero, add_assoc, suc-add, arith, length-append, length-drop}
use native.Mathlib.Nat.{mod-add-mod}
use Rattle.rules.specs.Calls.{State}
use Rattle.rules.specs.Machine.{step, start}
use Rattle.answers.specs.declared.Request.{Request}
use Rattle.desk_records.specs.Reading.{cut}
use Rattle.desk_line.specs.Line.{line_for}
use Rattle.desk_stream.specs.Desk.{Heard, calling, wrong, hears, desk_call, bad_line, bad_text, ring_room, desk_text}
use Rattle.desk_stream.specs.Window.{Progress, outset, roomy, served}
use Rattle.desk_stream.specs.Runs.{Prints, bad, end, more}
use Rattle.desk_stream.proofs.Turns.{answered, broken, turns-on, turns-none, no_room}
use Rattle.desk_stream.proofs.Input.{text_from, nothing_left, one_more, one-bad}
use Rattle.desk_stream.proofs.Hearing.{fronted, heard-stable, heard-whole}

-- an offset counted in 64 bits prints as the offset does
counted : (base from : ℕ) → base ≡ from % 2 ^ 64 → (n : ℕ) → bad_text (base + n) ≡ bad_text (from + n)
unfolding bad_text
counted base from e n =
    let count : (base + n) % 2 ^ 64 ≡ (from + n) % 2 ^ 64 = ap (λ (b : ℕ). (b + n) % 2 ^ 64) e ∙ mod-add-mod from (2 ^ 64) n in
    ap bad_line count

-- `from` is the window's offset in the input, `base` the program's count of it
module _ (base from : ℕ) (same : base ≡ from % 2 ^ 64) (last : Bool) (room : ℕ) (v : List ℕ) (no_more : last ≡ true → v ≡ []) where
  -- what is still to be printed: nothing behind a bad record, else what the input from the place on gives
  abbrev still : Progress → List ℕ → List ℕ
  still q r = cond q.ended [] (text_from q.box (from + q.place) r)

  -- from p the window w leads to q: so much text more, so many bytes on, and nothing of the input's text is lost or said twice
  record Leads (p q : Progress) (skip : ℕ) (w : List ℕ) : Type 0 where
    more : List ℕ
    far : ℕ
    text : q.text ≡ p.text ++ more
    place : q.place ≡ p.place + far
    whole : text_from p.box (from + p.place) (drop skip (w ++ v)) ≡ more ++ still q (drop (skip + far) (w ++ v))

  stay : (p : Progress) (skip : ℕ) (w : List ℕ) → p.ended ≡ false → Leads p p skip w
  stay p skip w e =
      record {
        more = [];
        far = 0;
        text = sym (append-nil p.text);
        place = sym (add-zero p.place);
        whole =
            ap (λ (n : ℕ). text_from p.box (from + p.place) (drop n (w ++ v))) (sym (add-zero skip))
            ∙ ap (λ (b : Bool). cond b [] (text_from p.box (from + p.place) (drop (skip + 0) (w ++ v)))) (sym e);
      }

  -- behind the bytes of the record before
  behind : (p q : Progress) (skip b : ℕ) (w : List ℕ) → Leads p q skip w → Leads p q (suc skip) (b ∷ w)
  behind p q skip b w l =
      record {
        more = l.more;
        far = l.far;
        text = l.text;
        place = l.place;
        whole = l.whole ∙ ap (λ (n : ℕ). l.more ++ still q (drop n (b ∷ w ++ v))) (sym (suc-add skip l.far));
      }

  module _ (p : Progress) (b : ℕ) (w : List ℕ) where
    abbrev here : List ℕ
    here = b ∷ w

    -- a record, and then what the rest leads to
    heard-one : (k : ℕ) (r : Request) (given : List ℕ) (size : ℕ) → hears here ≡ calling k r given size → (q : Progress)
        → Leads (answered k (step p.box (desk_call r given)) size p) q (size - 1) w → Leads p q 0 here
    heard-one k r given zero h q l = absurd (omega (arith, (heard-whole here h).some))
    heard-one k r given (suc m) h q l =
        let o = step p.box (desk_call r given) in
        let less : m ≡ suc m - 1 = omega arith in
        let on : suc (suc m - 1 + l.far) ≡ 0 + (suc m + l.far) = omega arith in
        record {
          more = line_for k o ++ l.more;
          far = suc m + l.far;
          text = l.text ∙ append_assoc p.text (line_for k o) l.more;
          place = l.place ∙ add_assoc p.place (suc m) l.far;
          whole =
              one_more p.box (from + p.place) (here ++ v) k r given (suc m) (omega arith)
              (heard-stable here v (heard-whole here h).uncut ∙ h) (omega arith)
              ∙ ap (λ (n : ℕ). line_for k o ++ text_from o.state n (drop m (w ++ v))) (add_assoc from p.place (suc m))
              ∙ ap (λ (n : ℕ). line_for k o ++ text_from o.state (from + (p.place + suc m)) (drop n (w ++ v))) less
              ∙ ap (λ (t : List ℕ). line_for k o ++ t) l.whole
              ∙ sym (append_assoc (line_for k o) l.more (still q (drop (suc m - 1 + l.far) (w ++ v))))
              ∙ ap (λ (n : ℕ). (line_for k o ++ l.more) ++ still q (drop n (here ++ v))) on;
        }

    broke : hears (here ++ v) ≡ wrong → Leads p (broken base p) 0 here
    broke h =
        record {
          more = bad_text (base + p.place);
          far = 0;
          text = refl;
          place = sym (add-zero p.place);
          whole =
              one-bad p.box (from + p.place) (here ++ v) (omega arith) h
              ∙ sym (counted base from same p.place)
              ∙ sym (append-nil (bad_text (base + p.place)));
        }

    none-heard : hears here ≡ wrong → p.ended ≡ false → (c l : Bool) → cut (fronted here) ≡ c → last ≡ l
        → Leads p (cond (c && not l) p (broken base p)) 0 here
    none-heard h e false l f g = broke (heard-stable here v f ∙ h)
    none-heard h e true false f g = stay p 0 here e
    none-heard h e true true f g = broke (ap (λ (t : List ℕ). hears (here ++ t)) (no_more g) ∙ ap hears (append-nil here) ∙ h)

  abbrev Led : List ℕ → Type 0
  Led w = (skip : ℕ) (p : Progress) → p.ended ≡ false → Leads p (served base last room skip p w) skip w

  module _ (p : Progress) (b : ℕ) (w : List ℕ) (next : Led w) (e : p.ended ≡ false) where
    to : (q : Progress) → served base last room 0 p (b ∷ w) ≡ q → Leads p q 0 (b ∷ w) → Leads p (served base last room 0 p (b ∷ w)) 0 (b ∷ w)
    to q f l = subst (λ (x : Progress). Leads p x 0 (b ∷ w)) (sym f) l

    by-heard : roomy base last room p ≡ true → (h : Heard) → hears (b ∷ w) ≡ h → Leads p (served base last room 0 p (b ∷ w)) 0 (b ∷ w)
    by-heard r (calling k q given size) h =
        let p' = answered k (step p.box (desk_call q given)) size p in
        to _ (turns-on base last room p b w r k q given size h (heard-whole (b ∷ w) h).some)
        (heard-one p b w k q given size h (served base last room (size - 1) p' w) (next (size - 1) p' e))
    by-heard r wrong h = to _ (turns-none base last room p b w r h) (none-heard p b w h e (cut (fronted (b ∷ w))) last refl refl)

    by-room : (r : Bool) → roomy base last room p ≡ r → Leads p (served base last room 0 p (b ∷ w)) 0 (b ∷ w)
    by-room true r = by-heard r (hears (b ∷ w)) refl
    by-room false r = to p (no_room base last room p (b ∷ w) r) (stay p 0 (b ∷ w) e)

  leads : (w : List ℕ) → Led w
  unfolding served
  leads [] skip p e = stay p skip [] e
  leads (b ∷ w) (suc skip) p e = behind p (served base last room skip p w) skip b w (leads w skip p e)
  leads (b ∷ w) zero p e = by-room p b w (λ skip q f. leads w skip q f) e (roomy base last room p) refl

  pub window-joined : (box : State) (w : List ℕ)
      → text_from box from (w ++ v)
      ≡ (served base last room 0 (outset box) w).text
      ++ still (served base last room 0 (outset box) w) (drop (served base last room 0 (outset box) w).place (w ++ v))
  window-joined box w =
      let q = served base last room 0 (outset box) w in
      let l = leads w 0 (outset box) refl in
      ap (λ (n : ℕ). text_from box n (w ++ v)) (sym (add-zero from))
      ∙ l.whole
      ∙ ap (λ (t : List ℕ). t ++ still q (drop (0 + l.far) (w ++ v))) (sym l.text)
      ∙ ap (λ (n : ℕ). q.text ++ still q (drop n (w ++ v))) (sym l.place)

-- ---- however the input is cut into windows
pub printed-whole : {box : State} {at : ℕ} {input text : List ℕ} → Prints box at input text → text ≡ text_from box at input
printed-whole {box} {at} (bad w v last base room e nm f) =
    let q = served base last room 0 (outset box) w in
    let rest = text_from q.box (at + q.place) (drop q.place (w ++ v)) in
    sym (window-joined base at e last room v nm box w ∙ ap (λ (b : Bool). q.text ++ cond b [] rest) f ∙ append-nil q.text)
printed-whole {box} {at} (end w last base room e f g) =
    let q = served base last room 0 (outset box) w in
    let rest : List ℕ = text_from q.box (at + q.place) (drop q.place (w ++ [])) in
    let over : length (drop q.place (w ++ [])) ≡ 0 = omega (arith, length-drop q.place (w ++ []), length-append w []) in
    sym
    (ap (text_from box at) (sym (append-nil w))
    ∙ window-joined base at e last room [] (λ _. refl) box w
    ∙ ap (λ (b : Bool). q.text ++ cond b [] rest) f
    ∙ ap (λ (t : List ℕ). q.text ++ t) (nothing_left q.box (at + q.place) (drop q.place (w ++ [])) over)
    ∙ append-nil q.text)
printed-whole {box} {at} (more w v last base room e nm f p) =
    let q = served base last room 0 (outset box) w in
    let rest : List ℕ = text_from q.box (at + q.place) (drop q.place (w ++ v)) in
    sym
    (window-joined base at e last room v nm box w
    ∙ ap (λ (b : Bool). q.text ++ cond b [] rest) f
    ∙ ap (λ (t : List ℕ). q.text ++ t) (sym (printed-whole p)))

-- from a fresh box, that is the desk's text
pub desk-prints : {input text : List ℕ} → Prints (start (replicate ring_room 0)) 0 input text → text ≡ desk_text input
desk-prints p = printed-whole p
