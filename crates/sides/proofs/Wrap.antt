-- DestinationID's wrapping add: its exact value, at the wrap too.
use Rattle.std.proofs.Common.{◌≡◌, ℕ, ◌+◌, ◌%◌, ◌^◌, ◌<◌, eqb, ap, mod-eq_of_lt, arith, eqb-true}
use borrow.Author.Tests.{eqb-false}
use Rattle.rules.specs.Record.{greatest}
use Rattle.rules.specs.Moves.{risen}
use Rattle.rules.proofs.Choice.{choice}

pub wrap-risen : (d : ℕ) → d < 2 ^ 32 → (d + 1) % 2 ^ 32 ≡ risen d
wrap-risen d h =
    choice (λ (x : ℕ). (d + 1) % 2 ^ 32 ≡ x) (eqb d greatest) (λ e. ap (λ (x : ℕ). (x + 1) % 2 ^ 32) (eqb-true d greatest e))
    (λ e. mod-eq_of_lt (omega (arith, h, eqb-false d greatest e)))
