-- In a sound box the ring takes the bytes exactly when they do not exceed what is free.
use Prim.Native.Nat.{ℕ, ◌-◌}
use mathlib.Core.Path.{◌≡◌, sym, ◌∙◌}
use mathlib.Core.Bool.{true, false}
use borrow.Author.Tests.{lt-ltb, le-leb, leb-false}
use lib.Dec.{leb, ltb}
use Rattle.rules.specs.declared.Record.{Record}
use Rattle.rules.specs.Record.{sound}
use Rattle.rules.proofs.Sound.{to-sound}
use Rattle.ring.specs.Lent.{takes}

-- what a sound box's ring takes is what does not exceed the free part
free : (r : Record) (n k : ℕ) → sound r n ≡ true → takes r.ring n k ≡ leb k (n - r.ring.stored)
free r n k so =
    let fit = (to-sound r n so).common.ring in
    rw (lt-ltb r.ring.start n fit.start, le-leb r.ring.stored n fit.stored)

pub exceeds : (r : Record) (n k : ℕ) → sound r n ≡ true → takes r.ring n k ≡ false → ltb (n - r.ring.stored) k ≡ true
exceeds r n k so e = lt-ltb (n - r.ring.stored) k (leb-false k (n - r.ring.stored) (sym (free r n k so) ∙ e))
