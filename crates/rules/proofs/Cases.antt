-- Each branching move's cases, once: what holds in every case holds of the move.
use Prim.Native.Nat.{ℕ, ◌+◌}
use mathlib.Core.Path.{◌≡◌}
use mathlib.Core.Bool.{true, false, ◌||◌}
use lib.Dec.{eqb, leb}
use Rattle.rules.specs.declared.Scan.{Scan}
use Rattle.rules.specs.declared.Input.{Input}
use Rattle.rules.specs.declared.Record.{Record}
use Rattle.rules.specs.Record.{idle, pending, erred, on}
use Rattle.rules.specs.Feeder.{path_at, jam_stops, sheet_stops}
use Rattle.rules.specs.Moves.{with_feeder, standing, quiet_at, stop_at, fed_by, announced, begun, ended, timed_out, readied, started, stopped, numbered}
use Rattle.rules.specs.Moves.{faulted, waited, drained, moved, last, fetched, finished, side_ended, feeds, caught, pathed, due, ticked}
use Rattle.rules.proofs.Choice.{choice}

module _ (P : Record → Type 0) (r : Record) where
  pub started-cases : (from c : ℕ) → (eqb c 0 ≡ true → P (readied from c r)) → (eqb c 0 ≡ false → P (begun (readied from c r)))
      → P (started from c r)
  unfolding started
  started-cases from c p b = choice P (eqb c 0) p b

  pub stopped-cases : ((pending r.scanner.state || erred r.scanner.state) ≡ true → P (ended r))
      → ((pending r.scanner.state || erred r.scanner.state) ≡ false → P (stop_at 1 r)) → P (stopped r)
  unfolding stopped
  stopped-cases e m = choice P _ e m

  pub drained-cases : (on r.job.stop ≡ true → P (ended (numbered r)))
      → (on r.job.stop ≡ false → eqb r.side.count 0 ≡ true → P (standing Scan.Pending (announced (numbered r))))
      → (on r.job.stop ≡ false → eqb r.side.count 0 ≡ false → jam_stops r.settings.feeder r.feeder ≡ true → P (faulted (announced (numbered r))))
      → (on r.job.stop ≡ false → eqb r.side.count 0 ≡ false → jam_stops r.settings.feeder r.feeder ≡ false
      → sheet_stops r.settings.feeder r.feeder ≡ true → P (waited (announced (numbered r))))
      → (on r.job.stop ≡ false → eqb r.side.count 0 ≡ false → jam_stops r.settings.feeder r.feeder ≡ false
      → sheet_stops r.settings.feeder r.feeder ≡ false → P (begun (announced (numbered r))))
      → P (drained r)
  unfolding drained
  drained-cases e p j w b = choice P _ e λ s. choice P _ (p s) λ c. choice P _ (j s c) λ x. choice P _ (w s c x) (b s c x)

  pub fetched-cases : (k n : ℕ) → (last k r ≡ true → P (drained (moved k n r))) → (last k r ≡ false → P (moved k n r)) → P (fetched k n r)
  unfolding fetched
  fetched-cases k n d f = choice P _ d f

  pub side_ended-cases : (eqb r.ring.stored 0 ≡ true → P (drained (finished r))) → (eqb r.ring.stored 0 ≡ false → P (finished r))
      → P (side_ended r)
  unfolding side_ended
  side_ended-cases d f = choice P _ d f

  pub pathed-cases : (v : ℕ)
      → (feeds r ≡ true → P (caught r))
      → (feeds r ≡ false → P (fed_by Input.Jam r)) → P (with_feeder (path_at 0 r.feeder) r) → P (pathed v r)
  unfolding pathed
  pathed-cases v j f o = choice P (on v) (λ _. choice P _ j f) (λ _. o)

  pub ticked-cases : (idle r.scanner.state ≡ true → P r)
      → (idle r.scanner.state ≡ false → leb (due r) (r.job.quiet + 1) ≡ true → P (timed_out r))
      → (idle r.scanner.state ≡ false → leb (due r) (r.job.quiet + 1) ≡ false → P (quiet_at (r.job.quiet + 1) r)) → P (ticked r)
  unfolding ticked
  ticked-cases i t q = choice P _ i λ h. choice P _ (t h) (q h)
