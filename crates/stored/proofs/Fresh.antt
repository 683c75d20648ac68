-- A fresh box is one, with every ring that the paper has.
use Prim.Native.Nat.{ℕ}
use mathlib.Core.Path.{◌≡◌, refl, ap, ◌∙◌}
use mathlib.Core.Bool.{true}
use mathlib.Core.List.{List, []}
use lib.ListN.{length}
use Rattle.rules.specs.declared.Record.{Record}
use Rattle.rules.specs.Record.{fresh, sound}
use Rattle.rules.specs.Machine.{run_by}
use Rattle.rules.specs.Promises.{Ringed}
use Rattle.rules.proofs.Theorems.{run_sound}
use Rattle.stored.specs.Stored.{kept, all_fit, is_box}
use Rattle.stored.proofs.Back.{recorded-kept}
use Rattle.stored.proofs.Boxes.{boxed}

pub fresh-box : (ring : List ℕ) → Ringed ring → is_box (kept fresh) (length ring) ≡ true
unfolding kept all_fit run_by
fresh-box ring l =
    let s : sound fresh (length ring) ≡ true = run_sound ring l [] in
    boxed (kept fresh) (length ring) refl (ap (λ (x : Record). sound x (length ring)) (recorded-kept fresh) ∙ s)
