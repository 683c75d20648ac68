-- Demand 3, other jobs' calls: a fetch by another job's name is 404, StartScan while a job is held 501.
use Prim.Native.Nat.{ℕ, ◌≤◌}
use mathlib.Core.Path.{◌≡◌, refl, ◌∙◌, ap}
use mathlib.Core.Logic.{◌≢◌}
use mathlib.Core.Bool.{Bool, true, false, not, ◌&&◌, cond}
use mathlib.Core.List.{List, [], ◌∷◌}
use lib.Dec.{eqb}
use lib.ListN.{length}
use native.Mathlib.Omega.{arith}
use borrow.Author.Tests.{eqb-false}
use Rattle.rules.specs.declared.Record.{Record}
use Rattle.rules.specs.Record.{greatest, idle}
use Rattle.rules.specs.Name.{name, same}
use Rattle.rules.specs.Moves.{announced, next_job, settled, given, readied, begun, released, drained, least, moved, filled, finished}
use Rattle.rules.specs.Calls.{StartScan, Fetch, Call, scan, n601, n501, State, Outcome, refuse, answer}
use Rattle.rules.specs.Machine.{listed, sides_listed, beginning, refusals, scan_refusals, scan_effect, report_effect, effect, step}
use Rattle.rules.specs.Watch.{scan_of, was_accepted, World, after, live}
use Rattle.rules.specs.Promises.{OfAnother, bearing, naming, asking}
use Rattle.rules.proofs.Choice.{choice}
use Rattle.rules.proofs.Naming.{same-eq, names-differ}
use Rattle.rules.proofs.Sound.{holding}
use Rattle.rules.proofs.Cases.{started-cases, stopped-cases, drained-cases, fetched-cases, side_ended-cases, ticked-cases}
use Rattle.rules.proofs.Answers.{Good, plain, bearing-refused}
use Rattle.rules.proofs.Deeds.{Deed, aside, opens, starts, stops, aborts, fetches, fills, side_ends, jams, second, deed, step-sound}

-- ---- the numbers given are at most 4,294,967,295
next-most : (r : Record) → r.job.last ≤ greatest → next_job r ≤ greatest
next-most r l =
    choice (λ (n : ℕ). n ≤ greatest) (eqb r.job.last greatest) (λ _. omega arith) (λ e. omega (arith, eqb-false r.job.last greatest e, l))

abbrev Most : Record → Type 0
Most r = r.job.last ≤ greatest

drained-most : (r : Record) → Most r → Most (drained r)
unfolding begun released
drained-most r l = drained-cases Most r (λ _. l) (λ _ _. l) (λ _ _ _. l) (λ _ _ _ _. l) (λ _ _ _ _. l)

deed-most : {s : State} {c : Call} {o : Outcome} → Deed s c o → Most s.box → Most o.state.box
unfolding scan_effect report_effect given readied begun released moved filled finished
deed-most (aside n v f reply a) l = l
deed-most {s} (opens {from} {count} {append} {asked} i g) l =
    started-cases Most (announced (given (settled append s.box.settings.append) asked s.box)) (settled from s.box.settings.feeder) count
    (λ _. next-most s.box l) (λ _. next-most s.box l)
deed-most {s} (starts {j} {from} {count} i p g) l =
    started-cases Most s.box (settled from s.box.settings.feeder) count (λ _. l) (λ _. l)
deed-most {s} (stops i e g) l = stopped-cases Most s.box (λ _. l) (λ _. l)
deed-most (aborts i e g) l = l
deed-most {s} (fetches {called} {most} {reply} i g) l =
    let k = least s.box.ring.stored most (length reply) in
    let n = length s.bytes in
    fetched-cases Most s.box k n (λ _. drained-most (moved k n s.box) l) (λ _. l)
deed-most (fills x n g) l = l
deed-most {s} (side_ends x g) l = side_ended-cases Most s.box (λ _. drained-most (finished s.box) l) (λ _. l)
deed-most (jams e g) l = l
deed-most {s} (second g) l = ticked-cases Most s.box (λ _. l) (λ _ _. l) (λ _ _. l)

pub record Numbers (w : World) : Type 0 where
  pub good : Good w.now
  pub most : Most w.now.box

pub live-numbers : (cs : List Call) (w : World) → Numbers w → Numbers (live w cs)
unfolding live after
live-numbers [] w h = h
live-numbers (c ∷ cs) w h =
    live-numbers cs (after w c)
    (record { good = step-sound w.now c h.good; most = deed-most (deed w.now h.good c) h.most })

-- ---- what the calls of others are answered
module _ (s : State) (h : Good s) (l : Most s.box) (i : idle (scan_of s) ≡ false) where
  holder-most : s.box.job.held ≤ greatest
  holder-most = omega (arith, (holding (scan_of s) s.box i h.phase).latest, l)

  pub fetch-404 : (x : Record) (most : ℕ) (reply : List ℕ) → x.job.held ≤ greatest → x.job.held ≢ s.box.job.held
      → (step s (scan (Fetch (name x) most reply))).number ≡ 404
  unfolding refusals scan_refusals answer
  fetch-404 x most reply m d =
      ap (λ (o : Outcome). o.number) (plain s (scan (Fetch (name x) most reply)) h) ∙ rw (i, other (same (name x) (name s.box)) refl)
    where
      other : (t : Bool) → same (name x) (name s.box) ≡ t → t ≡ false
      other true e = absurd (names-differ x s.box (omega (arith, m)) (omega (arith, holder-most)) d (same-eq (name x) (name s.box) e))
      other false e = refl

  pub start-scan-501 : (from count append asked : ℕ)
      → (step s (scan (StartScan from count append asked))).number ≡ cond (listed append && sides_listed from count s.box) 501 601
  unfolding refusals scan_refusals answer
  start-scan-501 from count append asked =
      ap (λ (o : Outcome). o.number) (plain s (scan (StartScan from count append asked)) h) ∙ go (listed append && sides_listed from count s.box)
    where
      go : (t : Bool) → (answer (refuse n601 (not t) ∷ refuse n501 (not (idle (scan_of s))) ∷ beginning from count s.box) s
          (scan (StartScan from count append asked)) (effect (scan (StartScan from count append asked)) s)).number ≡ cond t 501 601
      go true = rw i
      go false = refl

  pub others-refused : (c : Call) → OfAnother s c → was_accepted (step s c) ≡ false
  others-refused c (bearing {j = j} e d) = bearing-refused s c j e d
  others-refused c (naming x {most} {reply} m d) = ap (λ (n : ℕ). eqb n 0) (fetch-404 x most reply m d)
  others-refused c (asking {from} {count} {append} {asked}) =
      ap (λ (n : ℕ). eqb n 0) (start-scan-501 from count append asked) ∙ go (listed append && sides_listed from count s.box)
    where
      go : (t : Bool) → eqb (cond t 501 601) 0 ≡ false
      go true = refl
      go false = refl
