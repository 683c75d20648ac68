-- What writing comes to settles its answer, by the number and the length that it tells, and the buffer.
use Prim.Native.Nat.{ℕ}
use mathlib.Core.Path.{◌≡◌, sym, ap, ◌∙◌}
use mathlib.Core.List.{List}
use Rattle.std.specs.Prelude.{Ok, Err}
use Rattle.answers.proofs.Settled.{why-settled, refusal-counts}
use Rattle.desk_records.specs.Writing.{Written, number_in, length_of, Wrote, writing}

pub written-settled : (a b : Written) → number_in a ≡ number_in b → length_of a ≡ length_of b → a ≡ b
written-settled (Ok n) (Ok n') e l = ap Ok l
written-settled (Ok n) (Err why) e l = absurd (refusal-counts why (sym e))
written-settled (Err why) (Ok n) e l = absurd (refusal-counts why e)
written-settled (Err why) (Err why') e l = ap Err (why-settled why why' e)

pub write-settled : (k : ℕ) (p out : List ℕ) {a b : Written} {left left' : List ℕ}
    (one : record { number = number_in a; long = length_of a; buffer = left } ≡ writing k p out)
    (other : record { number = number_in b; long = length_of b; buffer = left' } ≡ writing k p out) → (a ≡ b) × (left ≡ left')
write-settled k p out {a} {b} one other =
    let same = one ∙ sym other in
    (written-settled a b (ap (λ (x : Wrote). x.number) same) (ap (λ (x : Wrote). x.long) same), ap (λ (x : Wrote). x.buffer) same)
