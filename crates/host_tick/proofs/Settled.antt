-- Number and record settle what a second answers.
use Prim.Native.Nat.{ℕ}
use mathlib.Core.Path.{◌≡◌, sym, ◌∙◌}
use Rattle.rules.specs.declared.Record.{Record}
use Rattle.host_tick.specs.declared.Ticked.{Ticked}
use Rattle.host_tick.specs.Second.{second_of}

same-ticked : {n m : Record} {i j : ℕ} → n ≡ m → i ≡ j → ◌≡◌ {A = Ticked} (record { next = n; number = i }) (record { next = m; number = j })
same-ticked e f = rw (e, f)

pub second-settled : (r : Record) (n : ℕ) {t u : Ticked} (one : t.number ≡ (second_of r n).number) (one-next : t.next ≡ (second_of r n).state.box)
    (other : u.number ≡ (second_of r n).number) (other-next : u.next ≡ (second_of r n).state.box) → t ≡ u
second-settled r n one one-next other other-next = same-ticked (one-next ∙ sym other-next) (one ∙ sym other)
