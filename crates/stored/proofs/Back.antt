-- The whole, from its parts: numbers written part by part are the record's; a record's numbers make it again; and numbers that fit
-- are those of the record that they make.
use Prim.Native.Nat.{ℕ, zero, suc, ◌+◌, ◌-◌, ◌<◌}
use mathlib.Core.Path.{◌≡◌, refl, sym, ◌∙◌, ap}
use mathlib.Core.Bool.{true}
use mathlib.Core.List.{List, [], ◌∷◌}
use native.Mathlib.Omega.{arith}
use lib.ListN.{length, set, drop, drop_of_length-le}
use lib.Seq.{drop-cons}
use borrow.Author.Tests.{eqb-true}
use Rattle.rules.specs.declared.Scan.{Scan}
use Rattle.rules.specs.declared.Feed.{Feed}
use Rattle.rules.specs.declared.Failure.{Failure}
use Rattle.rules.specs.declared.Feeder.{Feeder}
use Rattle.rules.specs.declared.Ring.{Ring}
use Rattle.rules.specs.declared.Record.{Record}
use Rattle.rules.specs.Record.{every}
use Rattle.rules.specs.Moves.{with_ring, with_feeder, quiet_at}
use Rattle.rules.proofs.Sound.{holds, all}
use Rattle.stored.specs.Stored.{scan_number, feed_number, failure_number, scan_at, feed_at, failure_at, number_at, from, written, word_count, version, kept}
use Rattle.stored.specs.Stored.{scanner_at, scanner_kept, scanner_fits, job_at, job_kept, job_fits, side_at, side_kept, side_fits}
use Rattle.stored.specs.Stored.{settings_at, settings_kept, settings_fits, feeder_at, feeder_kept, feeder_fits, ring_at, ring_kept, wide16, heard_in, fed_in}
use Rattle.stored.specs.Stored.{names_at, names_kept, names_fits, fitting, all_fit, recorded}
use Rattle.stored.proofs.Widths.{scanner-below, feeder-below, quiet-fits}
use Rattle.stored.proofs.Rows.{row-whole}

-- ---- states and codes
scan-back : (n : ℕ) → n < 5 → scan_number (scan_at n) ≡ n
scan-back zero h = refl
scan-back (suc zero) h = refl
scan-back (suc (suc zero)) h = refl
scan-back (suc (suc (suc zero))) h = refl
scan-back (suc (suc (suc (suc zero)))) h = refl
scan-back (suc (suc (suc (suc (suc n))))) h = absurd (omega (arith, h))

feed-back : (n : ℕ) → n < 4 → feed_number (feed_at n) ≡ n
feed-back zero h = refl
feed-back (suc zero) h = refl
feed-back (suc (suc zero)) h = refl
feed-back (suc (suc (suc zero))) h = refl
feed-back (suc (suc (suc (suc n)))) h = absurd (omega (arith, h))

failure-back : (n : ℕ) → n < 3 → failure_number (failure_at n) ≡ n
failure-back zero h = refl
failure-back (suc zero) h = refl
failure-back (suc (suc zero)) h = refl
failure-back (suc (suc (suc n))) h = absurd (omega (arith, h))

scan-again : (s : Scan) → scan_at (scan_number s) ≡ s
scan-again Scan.Idle = refl
scan-again Scan.Pending = refl
scan-again Scan.Scanning = refl
scan-again Scan.Finishing = refl
scan-again Scan.Erred = refl

feed-again : (f : Feed) → feed_at (feed_number f) ≡ f
feed-again Feed.Unloaded = refl
feed-again Feed.Loaded = refl
feed-again Feed.Busy = refl
feed-again Feed.Erred = refl

failure-again : (f : Failure) → failure_at (failure_number f) ≡ f
failure-again Failure.None = refl
failure-again Failure.Jammed = refl
failure-again Failure.Timeout = refl

-- ---- part by part
module _ (r : Record) where
  -- behind what is written, the next part
  pub row_kept : (ws : List ℕ) {a b c d e f g : List ℕ} → length ws ≡ word_count
      → a ≡ written scanner_at (scanner_kept r.scanner) (set ws 0 version)
      → b ≡ written job_at (job_kept r.job) a
      → c ≡ written side_at (side_kept r.side) b
      → d ≡ written settings_at (settings_kept r.settings) c
      → e ≡ written feeder_at (feeder_kept r.feeder) d
      → f ≡ written ring_at (ring_kept r.ring) e
      → g ≡ written names_at (names_kept r.names) f
      → g ≡ kept r
  unfolding kept
  row_kept ws l p q s t u v x = x ∙ rw (v, u, t, s, q, p) (row-whole (kept r) ws l)

  pub kept-fits : every (scanner_fits (number_at (scanner_kept r.scanner))) ≡ true → every (job_fits (number_at (job_kept r.job))) ≡ true
      → every (side_fits (number_at (side_kept r.side))) ≡ true
      → every (settings_fits (number_at (settings_kept r.settings))) ≡ true → every (feeder_fits (number_at (feeder_kept r.feeder))) ≡ true
      → every (names_fits (number_at (names_kept r.names))) ≡ true → all_fit (kept r) ≡ true
  unfolding kept all_fit
  kept-fits c j d t f m = all (fitting (kept r)) (refl, (c, (j, (d, (t, (f, (m, tt)))))))

  pub recorded-kept : recorded (kept r) ≡ r
  unfolding kept recorded
  recorded-kept =
      rw (scan-again r.scanner.state, failure-again r.scanner.failure, feed-again r.feeder.state, failure-again r.feeder.failure) refl

-- ---- a record of which little is changed: its numbers, and that they fit
module _ (r : Record) where
  pub heard-kept : (q : ℕ) (g : Ring) → heard_in q g (kept r) ≡ kept (quiet_at q (with_ring g r))
  unfolding kept
  heard-kept q g = refl

  pub fed-kept : (f : Feeder) → fed_in f (kept r) ≡ kept (with_feeder f r)
  unfolding kept
  fed-kept f = refl

  module _ (fit : all_fit (kept r) ≡ true) where
    pub heard-fits : (q : ℕ) (g : Ring) → q < wide16 → all_fit (kept (quiet_at q (with_ring g r))) ≡ true
    unfolding kept all_fit
    heard-fits q g h =
        let f = holds (fitting (kept r)) fit in
        all (fitting (kept (quiet_at q (with_ring g r)))) (f.0, (f.1.0, (quiet-fits r.job q f.1.1.0 h, f.1.1.1)))

    pub fed-fits : (f : Feeder) → every (feeder_fits (number_at (feeder_kept f))) ≡ true → all_fit (kept (with_feeder f r)) ≡ true
    unfolding kept all_fit
    fed-fits x h =
        let f = holds (fitting (kept r)) fit in
        all (fitting (kept (with_feeder x r))) (f.0, (f.1.0, (f.1.1.0, (f.1.1.1.0, (f.1.1.1.1.0, (h, (f.1.1.1.1.1.1.0, tt)))))))

-- ---- a list of known length, place by place
places : ℕ → ℕ → List ℕ → List ℕ
places zero k ws = []
places (suc n) k ws = number_at ws k ∷ places n (suc k) ws

spell : (n k : ℕ) (ws : List ℕ) → length ws ≡ k + n → drop k ws ≡ places n k ws
unfolding places
spell zero k ws e = drop_of_length-le ws {i = k} (omega (arith, e))
spell (suc n) k ws e = drop-cons ws k 0 (omega (arith, e)) ∙ ap (λ (l : List ℕ). number_at ws k ∷ l) (spell n (suc k) ws (omega (arith, e)))

pub kept-recorded : (ws : List ℕ) → length ws ≡ word_count → all_fit ws ≡ true → kept (recorded ws) ≡ ws
unfolding kept recorded places all_fit
kept-recorded ws e f =
    let h = holds (fitting ws) f in
    let s = scanner-below (from ws scanner_at) h.1.0 in
    let g = feeder-below (from ws feeder_at) h.1.1.1.1.1.0 in
    rw (
      scan-back (from ws scanner_at 0) s.0,
      failure-back (from ws scanner_at 1) s.1,
      feed-back (from ws feeder_at 0) g.0,
      failure-back (from ws feeder_at 1) g.1,
    ) (ap (λ (v : ℕ). v ∷ places (word_count - 1) 1 ws) (sym (eqb-true (number_at ws 0) version h.0)) ∙ sym (spell word_count 0 ws e))
