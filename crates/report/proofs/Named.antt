-- A sound record that is Scanning has its own name as the last one, so the drain step is what the rules give.
use Prim.Native.Nat.{ℕ}
use mathlib.Core.Path.{◌≡◌}
use mathlib.Core.Bool.{true}
use Rattle.rules.specs.declared.Record.{Record}
use Rattle.rules.specs.Record.{scanning, sound}
use Rattle.rules.proofs.Keeps.{scans-held}
use Rattle.moves.specs.Holds.{is_named}
use Rattle.moves.proofs.Renaming.{sound-named}

pub scans_named : (r : Record) (n : ℕ) → sound r n ≡ true → scanning r.scanner.state ≡ true → is_named r ≡ true
scans_named r n so scans = sound-named r n so (scans-held r.scanner.state scans)
