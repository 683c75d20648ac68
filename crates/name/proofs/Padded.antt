-- A name in its eighteen bytes: they begin with it.
use Prim.Native.Nat.{ℕ, ◌-◌}
use mathlib.Core.Path.{◌≡◌}
use mathlib.Core.List.{List}
use lib.ListN.{length, replicate}
use lib.Seq.{take-append_seam}
use Rattle.name.specs.declared.text.Name.{Name}
use Rattle.rules.specs.Name.{name_room}
use Rattle.name.specs.Spelled.{padded, spelled}

pub padded-spelled : (bs : List ℕ) (x : Name) → x ≡ padded bs → spelled x ≡ bs
unfolding padded
padded-spelled bs x e = rw e (take-append_seam bs (replicate (name_room - length bs) 0))
