-- Two results that the contracts of `serve` and `perform` allow for the same are the same, and so is all that they leave.
use Rattle.std.proofs.Common.{◌≡◌, ℕ, Bool, true, false, List, [], length, sym, refl, ap, ◌∙◌, true≢false, arith}
use Rattle.std.specs.Prelude.{Option, Some, None, Result, Ok, Err, ⊤, is_err}
use Rattle.rules.specs.Calls.{Reason, n604, n601, n712, n404, n501, n711, n713, n603, number_of}
use Rattle.answers.specs.declared.Why.{Why}
use Rattle.answers.proofs.Settled.{why-settled, refusal-counts}
use Rattle.desk_stream.specs.declared.Came.{Came as Read}
use Rattle.desk_stream.specs.declared.Performed.{Performed}
use Rattle.desk_stream.specs.Window.{no_record}
use Rattle.desk_stream.specs.Boxed.{barred_by, Came, number_of_record, came_of, turn_of, serving, performing}

-- ---- the number settles what is told of a record
unread : (r : Reason) → number_of r ≡ no_record → ⊥
unread n604 e = omega (arith, e)
unread n601 e = omega (arith, e)
unread n712 e = omega (arith, e)
unread n404 e = omega (arith, e)
unread n501 e = omega (arith, e)
unread n711 e = omega (arith, e)
unread n713 e = omega (arith, e)
unread n603 e = omega (arith, e)

unread-why : (w : Why) → number_of_record (Some (Err w)) ≡ no_record → ⊥
unread-why w e = unread _ e

pub record-settled : (x y : Option (Result ⊤ Why)) → number_of_record x ≡ number_of_record y → x ≡ y
record-settled None None e = refl
record-settled None (Some (Ok u)) e = absurd (omega (arith, e))
record-settled None (Some (Err w)) e = absurd (unread-why w (sym e))
record-settled (Some (Ok u)) None e = absurd (omega (arith, e))
record-settled (Some (Err w)) None e = absurd (unread-why w e)
record-settled (Some (Ok u)) (Some (Ok v)) e = refl
record-settled (Some (Ok u)) (Some (Err w)) e = absurd (refusal-counts w (sym e))
record-settled (Some (Err w)) (Some (Ok u)) e = absurd (refusal-counts w e)
record-settled (Some (Err v)) (Some (Err w)) e = ap (λ (x : Why). Some (Err x)) (why-settled v w e)

-- ---- a result, by whether it is a refusal and by what it comes to
abbrev read_in : Came → Read
read_in c = record { read = c.read; written = c.written; ended = c.ended }

same_turn : {o p : Option (Result ⊤ Why)} {c d : Read} → o ≡ p → c ≡ d
    → ◌≡◌ {A = Performed} (record { outcome = o; came = c }) (record { outcome = p; came = d })
same_turn e f = rw (e, f)

module _ {ws ring lines ws' ring' lines' : List ℕ} where
  came-alike : (x y : Result Read Why) → is_err x ≡ is_err y → came_of x ws ring [] lines ≡ came_of y ws' ring' [] lines'
      → (x ≡ y) × (ws ≡ ws') × (ring ≡ ring') × (lines ≡ lines')
  came-alike (Ok v) (Ok w) e f =
      let same : v ≡ w = ap read_in f in
      (ap (λ (c : Read). Ok c) same, ap (λ (c : Came). c.words) f, ap (λ (c : Came). c.ring) f, ap (λ (c : Came). c.lines) f)
  came-alike (Err v) (Err w) e f =
      let same : v ≡ w = why-settled v w (ap (λ (c : Came). c.number) f) in
      (ap (λ (y : Why). Err y) same, ap (λ (c : Came). c.words) f, ap (λ (c : Came). c.ring) f, ap (λ (c : Came). c.lines) f)
  came-alike (Ok v) (Err w) e f = absurd (true≢false (sym e))
  came-alike (Err v) (Ok w) e f = absurd (true≢false e)

  turn-alike : {reply reply' : List ℕ} (x y : Result Performed Why) → is_err x ≡ is_err y → turn_of x ws ring reply lines ≡ turn_of y ws' ring' reply' lines'
      → (x ≡ y) × (ws ≡ ws') × (ring ≡ ring') × (reply ≡ reply') × (lines ≡ lines')
  turn-alike (Ok v) (Ok w) e f =
      let told : v.outcome ≡ w.outcome = record-settled v.outcome w.outcome (ap (λ (c : Came). c.number) f) in
      let read : v.came ≡ w.came = ap read_in f in
      let same : v ≡ w = same_turn told read in (
        ap (λ (c : Performed). Ok c) same,
        ap (λ (c : Came). c.words) f,
        ap (λ (c : Came). c.ring) f,
        ap (λ (c : Came). c.reply) f,
        ap (λ (c : Came). c.lines) f,
      )
  turn-alike (Err v) (Err w) e f =
      let same : v ≡ w = why-settled v w (ap (λ (c : Came). c.number) f) in (
        ap (λ (y : Why). Err y) same,
        ap (λ (c : Came). c.words) f,
        ap (λ (c : Came). c.ring) f,
        ap (λ (c : Came). c.reply) f,
        ap (λ (c : Came). c.lines) f,
      )
  turn-alike (Ok v) (Err w) e f = absurd (true≢false (sym e))
  turn-alike (Err v) (Ok w) e f = absurd (true≢false e)

-- ---- for the same box, ring, input and lines
module _ (ws ring input : List ℕ) (base : ℕ) (last : Bool) (lines : List ℕ) {ws' ring' lines' ws'' ring'' lines'' : List ℕ} where
  -- a window
  pub came-settled : (x y : Result Read Why)
      → is_err x ≡ is_err (barred_by ws (length ring) (length lines)) → came_of x ws' ring' [] lines' ≡ serving ws ring input base last lines
      → is_err y ≡ is_err (barred_by ws (length ring) (length lines)) → came_of y ws'' ring'' [] lines'' ≡ serving ws ring input base last lines
      → (x ≡ y) × (ws' ≡ ws'') × (ring' ≡ ring'') × (lines' ≡ lines'')
  came-settled x y e f g h = came-alike x y (e ∙ sym g) (f ∙ sym h)

  -- a record, and the reply that it is lent
  pub turn-settled : (reply : List ℕ) {reply' reply'' : List ℕ} (x y : Result Performed Why)
      → is_err x ≡ is_err (barred_by ws (length ring) (length lines))
      → turn_of x ws' ring' reply' lines' ≡ performing ws ring reply input base last lines
      → is_err y ≡ is_err (barred_by ws (length ring) (length lines))
      → turn_of y ws'' ring'' reply'' lines'' ≡ performing ws ring reply input base last lines
      → (x ≡ y) × (ws' ≡ ws'') × (ring' ≡ ring'') × (reply' ≡ reply'') × (lines' ≡ lines'')
  turn-settled reply x y e f g h = turn-alike x y (e ∙ sym g) (f ∙ sym h)
