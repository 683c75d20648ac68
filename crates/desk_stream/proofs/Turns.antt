-- One turn of the desk on a window: what `served` is by what is heard.
use Rattle.std.proofs.Common.{◌≡◌, ℕ, zero, suc, ◌+◌, ◌-◌, ◌<◌, ◌≤◌, Bool, true, false, cond, List, [], ◌∷◌, ◌++◌, length, drop, refl, ap, ◌∙◌, append-nil, add-zero, arith}
use Rattle.rules.specs.Calls.{Outcome}
use Rattle.rules.specs.Machine.{step}
use Rattle.answers.specs.declared.Request.{Request}
use Rattle.desk_stream.specs.Desk.{Heard, calling, wrong, hears, reply_room, desk_call, bad_text}
use Rattle.desk_stream.specs.Window.{Piece, answered_by, broken_at, waiting_in, waits, unheard_in, piece_of}
use Rattle.desk_stream.specs.Window.{piece, Progress, took, onward, turned, roomy, served}
use Rattle.desk_stream.proofs.Pieces.{unheard-empty}

-- a record answered, and a bad one
abbrev pub answered : ℕ → Outcome → ℕ → Progress → Progress
answered k o size p = took p (answered_by k o size)

abbrev pub broken : ℕ → Progress → Progress
broken base p = record { box = p.box; place = p.place; text = p.text ++ bad_text (base + p.place); ended = true }

-- nothing of a bad record is passed over; one that waits is as if it were not there
took-none : (base : ℕ) (last : Bool) (s : List ℕ) (p : Progress)
    → took p (unheard_in (base + p.place) last p.box s) ≡ cond (waits last s) p (broken base p)
took-none base last s p = go (waits last s)
  where
    go : (w : Bool) → took p (cond w (waiting_in p.box) (broken_at (base + p.place) p.box)) ≡ cond w p (broken base p)
    go true = rw (add-zero p.place, append-nil p.text) refl
    go false = ap (λ (n : ℕ). record { box = p.box; place = n; text = p.text ++ bad_text (base + p.place); ended = true }) (add-zero p.place)

module _ (base : ℕ) (last : Bool) (room : ℕ) where
  abbrev rest : List ℕ → ℕ → Progress → Progress
  rest s skip q = served base last room skip q s

  -- bytes of the record before are passed over
  pub skipped : (skip : ℕ) (p : Progress) (s : List ℕ) → served base last room skip p s ≡ served base last room 0 p (drop skip s)
  unfolding served
  skipped zero p s = refl
  skipped (suc skip) p [] = refl
  skipped (suc skip) p (b ∷ s) = skipped skip p s

  pub at-end : (p : Progress) (s : List ℕ) → length s ≤ 0 → served base last room 0 p s ≡ p
  unfolding served
  at-end p [] h = refl
  at-end p (b ∷ s) h = absurd (omega arith)

  pub no_room : (p : Progress) (s : List ℕ) → roomy base last room p ≡ false → served base last room 0 p s ≡ p
  unfolding served
  no_room p [] e = refl
  no_room p (b ∷ s) e =
      ap (λ (x : Bool). cond x (turned base last room p (piece reply_room (base + p.place) last p.box (b ∷ s)) (rest s)) p) e

  -- with room for a line
  turns : (p : Progress) (b : ℕ) (s : List ℕ) (h : Heard) → roomy base last room p ≡ true → hears (b ∷ s) ≡ h
      → served base last room 0 p (b ∷ s) ≡ turned base last room p (piece_of reply_room (base + p.place) last p.box (b ∷ s) h) (rest s)
  unfolding served piece
  turns p b s h e f =
      ap (λ (x : Bool). cond x (turned base last room p (piece reply_room (base + p.place) last p.box (b ∷ s)) (rest s)) p) e
      ∙ ap (λ (x : Heard). turned base last room p (piece_of reply_room (base + p.place) last p.box (b ∷ s) x) (rest s)) f

  pub turns-on : (p : Progress) (b : ℕ) (s : List ℕ) → roomy base last room p ≡ true
      → (k : ℕ) (q : Request) (given : List ℕ) (size : ℕ) → hears (b ∷ s) ≡ calling k q given size → 0 < size
      → served base last room 0 p (b ∷ s) ≡ served base last room (size - 1) (answered k (step p.box (desk_call q given)) size p) s
  turns-on p b s r k q given zero e g = absurd (omega arith)
  turns-on p b s r k q given (suc size) e g =
      let p' = answered k (step p.box (desk_call q given)) (suc size) p in
      let less : size ≡ suc size - 1 = omega arith in
      turns p b s (calling k q given (suc size)) r e ∙ ap (λ (n : ℕ). served base last room n p' s) less

  pub another : (p : Progress) (s : List ℕ) → 0 < length s → roomy base last room p ≡ true
      → (k : ℕ) (q : Request) (given : List ℕ) (size : ℕ) → hears s ≡ calling k q given size → 0 < size
      → served base last room 0 p s ≡ served base last room 0 (answered k (step p.box (desk_call q given)) size p) (drop size s)
  another p [] h r k q given size e g = absurd (omega arith)
  another p (b ∷ s) h r k q given zero e g = absurd (omega arith)
  another p (b ∷ s) h r k q given (suc size) e g =
      turns p b s (calling k q given (suc size)) r e ∙ skipped size (answered k (step p.box (desk_call q given)) (suc size) p) s

  pub turns-none : (p : Progress) (b : ℕ) (s : List ℕ) → roomy base last room p ≡ true → hears (b ∷ s) ≡ wrong
      → served base last room 0 p (b ∷ s) ≡ cond (waits last (b ∷ s)) p (broken base p)
  turns-none p b s r e =
      let t = unheard_in (base + p.place) last p.box (b ∷ s) in
      turns p b s wrong r e
      ∙ ap (λ (n : ℕ). onward n (took p t) (rest s)) (unheard-empty (base + p.place) last p.box (b ∷ s))
      ∙ took-none base last (b ∷ s) p

  pub none : (p : Progress) (s : List ℕ) → 0 < length s → roomy base last room p ≡ true → hears s ≡ wrong
      → served base last room 0 p s ≡ cond (waits last s) p (broken base p)
  none p [] h r e = absurd (omega arith)
  none p (b ∷ s) h r e = turns-none p b s r e

  -- by the piece's size alone
  module _ (p : Progress) where
    abbrev here : List ℕ → Piece
    here s = piece reply_room (base + p.place) last p.box s

    by-piece : (b : ℕ) (s : List ℕ) → roomy base last room p ≡ true
        → served base last room 0 p (b ∷ s) ≡ onward (here (b ∷ s)).size (took p (here (b ∷ s))) (rest s)
    unfolding served
    by-piece b s e = ap (λ (x : Bool). cond x (turned base last room p (here (b ∷ s)) (rest s)) p) e

    pub stops_at : (s : List ℕ) → 0 < length s → roomy base last room p ≡ true → (here s).size ≡ 0 → served base last room 0 p s ≡ took p (here s)
    stops_at [] h r e = absurd (omega arith)
    stops_at (b ∷ s) h r e = by-piece b s r ∙ ap (λ (n : ℕ). onward n (took p (here (b ∷ s))) (rest s)) e

    pub goes_on : (s : List ℕ) → 0 < length s → roomy base last room p ≡ true → 0 < (here s).size
        → served base last room 0 p s ≡ served base last room 0 (took p (here s)) (drop (here s).size s)
    goes_on [] h r e = absurd (omega arith)
    goes_on (b ∷ s) h r e = by-piece b s r ∙ go (here (b ∷ s)).size e
      where
        go : (n : ℕ) → 0 < n → onward n (took p (here (b ∷ s))) (rest s) ≡ served base last room 0 (took p (here (b ∷ s))) (drop n (b ∷ s))
        go zero g = absurd (omega arith)
        go (suc n) g = skipped n (took p (here (b ∷ s))) s
