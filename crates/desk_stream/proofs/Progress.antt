-- The desk never stands still: a window of 259 bytes holds a whole record or a bad one, and so does the last window.
use Rattle.std.proofs.Common.{◌≡◌, ℕ, zero, suc, ◌+◌, ◌-◌, ◌<◌, ◌≤◌, Bool, true, false, cond, not, ◌&&◌, eqb, leb, List, [], ◌∷◌, length, get_or, drop, sym, refl, ap, ◌∙◌, subst, true≢false, le_refl, arith, le-leb, leb-false, leb-true}
use mathlib.Core.Bool.{false≢true}
use Rattle.rules.specs.Calls.{State}
use Rattle.rules.specs.Machine.{step}
use Rattle.desk_records.specs.declared.Fault.{Fault}
use Rattle.desk_kinds.specs.Kinds.{limits_of, is_listed, within}
use Rattle.desk_records.specs.Reading.{first_mark, second_mark, length_width, length_at, head_of, length_in, Front, whole_of, wrong_at, expect, sized, front, cut}
use Rattle.desk_kinds.proofs.Entries.{listed-short}
use Rattle.desk_line.specs.Line.{line_room}
use Rattle.desk_stream.specs.Desk.{Heard, calling, wrong, hears, desk_call}
use Rattle.desk_stream.specs.Window.{longest, waits, Progress, outset, roomy, served}
use Rattle.desk_stream.proofs.Turns.{answered, broken, turns-on, turns-none, no_room, another, none}
use Rattle.desk_stream.proofs.Answered.{window-rests}
use Rattle.desk_stream.proofs.Hearing.{fronted, heard-whole}

-- bytes that are there are no cut, whatever they are
there : (s : List ℕ) (i w : ℕ) (ok : Bool) (fault : Fault) (rest : Front) → i + w ≤ length s → cut (wrong_at fault i) ≡ false
    → (ok ≡ true → cut rest ≡ false) → cut (expect s i w ok fault rest) ≡ false
there s i w ok fault rest h f g =
    ap (λ (b : Bool). cut (cond b (cond ok rest (wrong_at fault i)) (wrong_at Fault.Cut (length s)))) (le-leb _ _ h) ∙ go ok g
  where
    go : (b : Bool) → (b ≡ true → cut rest ≡ false) → cut (cond b rest (wrong_at fault i)) ≡ false
    go true k = k refl
    go false k = f

sized-uncut : (k : ℕ) (s : List ℕ) → longest ≤ length s → cut (sized k length_width s) ≡ false
unfolding sized
sized-uncut k s h =
    let n = length_in length_width s in
    there s length_at length_width (within (limits_of k) n) Fault.Length (expect s (head_of length_width) n true Fault.Length (whole_of k n)) (omega arith) refl
    (λ e. there s (head_of length_width) n true Fault.Length (whole_of k n) (omega (arith, listed-short k n e)) refl (λ _. refl))

pub never-cut : (s : List ℕ) → longest ≤ length s → cut (fronted s) ≡ false
unfolding front
never-cut s h =
    let k = get_or s 2 0 in
    let kinded = expect s 2 1 (is_listed (limits_of k)) Fault.Kind (sized k length_width s) in
    let second = expect s 1 1 (eqb (get_or s 1 0) second_mark) Fault.Mark kinded in
    there s 0 1 (eqb (get_or s 0 0) first_mark) Fault.Mark second (omega arith) refl
    (λ _. there s 1 1 (eqb (get_or s 1 0) second_mark) Fault.Mark kinded (omega arith) refl
    (λ _. there s 2 1 (is_listed (limits_of k)) Fault.Kind (sized k length_width s) (omega arith) refl (λ _. sized-uncut k s h)))

module _ (base : ℕ) (last : Bool) (room : ℕ) where
  abbrev Grown : List ℕ → Type 0
  Grown w = (skip : ℕ) (p : Progress) → p.place ≤ (served base last room skip p w).place

  same_place : (b : Bool) (p : Progress) → p.place ≤ (cond b p (broken base p)).place
  same_place true p = le_refl p.place
  same_place false p = le_refl p.place

  module _ (p : Progress) (b : ℕ) (w : List ℕ) (next : Grown w) where
    to : (q : Progress) → served base last room 0 p (b ∷ w) ≡ q → p.place ≤ q.place → p.place ≤ (served base last room 0 p (b ∷ w)).place
    to q e h = subst (λ (x : Progress). p.place ≤ x.place) (sym e) h

    by-heard : roomy base last room p ≡ true → (h : Heard) → hears (b ∷ w) ≡ h → p.place ≤ (served base last room 0 p (b ∷ w)).place
    by-heard r (calling k q given size) h =
        let p' = answered k (step p.box (desk_call q given)) size p in
        to _ (turns-on base last room p b w r k q given size h (heard-whole (b ∷ w) h).some) (omega (arith, next (size - 1) p'))
    by-heard r wrong h = to _ (turns-none base last room p b w r h) (same_place (waits last (b ∷ w)) p)

    by-room : (r : Bool) → roomy base last room p ≡ r → p.place ≤ (served base last room 0 p (b ∷ w)).place
    by-room true r = by-heard r (hears (b ∷ w)) refl
    by-room false r = to p (no_room base last room p (b ∷ w) r) (le_refl p.place)

  grows : (w : List ℕ) → Grown w
  unfolding served
  grows [] skip p = le_refl p.place
  grows (b ∷ w) (suc skip) p = grows w skip p
  grows (b ∷ w) zero p = by-room p b w (λ skip q. grows w skip q) (roomy base last room p) refl

  -- a record was answered, or one was bad
  pub data Moves (p q : Progress) : Type 0 where
    on : p.place < q.place → Moves p q
    over : q.ended ≡ true → Moves p q

  -- the window is the last one, or long enough
  pub data Enough (w : List ℕ) : Type 0 where
    ending : last ≡ true → Enough w
    long : longest ≤ length w → Enough w

  waits-not : (w : List ℕ) → Enough w → waits last w ≡ false
  waits-not w (ending e) = both (cut (fronted w)) last e
    where
      both : (c l : Bool) → l ≡ true → (c && not l) ≡ false
      both true true f = refl
      both false true f = refl
      both true false f = absurd (false≢true f)
      both false false f = refl
  waits-not w (long h) = ap (λ (c : Bool). c && not last) (never-cut w h)

  module _ (p : Progress) (w : List ℕ) (r : roomy base last room p ≡ true) (some : 0 < length w) (e : Enough w) where
    by-what : (h : Heard) → hears w ≡ h → Moves p (served base last room 0 p w)
    by-what (calling k q given size) h =
        let p' = answered k (step p.box (desk_call q given)) size p in
        let s = (heard-whole w h).some in
        let same = another base last room p w some r k q given size h s in
        on (subst (λ (x : Progress). p.place < x.place) (sym same) (omega (arith, grows (drop size w) 0 p')))
    by-what wrong h =
        over
        (ap (λ (x : Progress). x.ended) (none base last room p w some r h)
        ∙ ap (λ (b : Bool). (cond b p (broken base p)).ended) (waits-not w e))

    pub moves-on : Moves p (served base last room 0 p w)
    moves-on = by-what (hears w) refl

  -- the room of a line is what `serve` asks for: with less it answers 603
  pub never_stuck : (box : State) (w : List ℕ) → line_room ≤ room → 0 < length w → Enough w
      → Moves (outset box) (served base last room 0 (outset box) w)
  never_stuck box w r some e = moves-on (outset box) w (le-leb (0 + line_room) room (omega arith)) some e

  module _ (box : State) (w : List ℕ) where
    abbrev came : Progress
    came = served base last room 0 (outset box) w

    abbrev rest : List ℕ
    rest = drop came.place w

    stuck : came.ended ≡ false → Moves came (served base last room 0 came rest) → ⊥
    stuck e (on h) = absurd (omega (arith, ap (λ (x : Progress). x.place) (window-rests base last room box w e)))
    stuck e (over f) = absurd (true≢false (sym f ∙ ap (λ (x : Progress). x.ended) (window-rests base last room box w e) ∙ e))

    -- so a window that wants more input, where a line has room, has less than a record's length left
    pub little-left : came.ended ≡ false → roomy base last room came ≡ true → length rest < longest
    little-left e r = go (leb longest (length rest)) refl
      where
        go : (b : Bool) → leb longest (length rest) ≡ b → length rest < longest
        go true f =
            let h = leb-true longest (length rest) f in
            absurd (stuck e (moves-on came rest r (omega arith) (long h)))
        go false f = leb-false longest (length rest) f
