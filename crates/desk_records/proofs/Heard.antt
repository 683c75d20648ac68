-- What is heard at a place is what reads there and what it asks; bad is heard only where no record reads.
use Prim.Native.Nat.{ℕ}
use mathlib.Core.Path.{◌≡◌, refl, subst}
use mathlib.Core.List.{List}
use Rattle.std.specs.Prelude.{Option, Some, None, Result, Ok, Err}
use Rattle.answers.specs.declared.Request.{Request}
use Rattle.desk_kinds.specs.Kinds.{asking_of}
use Rattle.desk_kinds.proofs.Entries.{admitted-asks}
use Rattle.desk_records.specs.declared.Found.{Found}
use Rattle.desk_records.specs.declared.Bad.{Bad}
use Rattle.desk_records.specs.declared.Hearing.{Hearing}
use Rattle.desk_records.specs.Reading.{Reading, read_at, part_of}
use Rattle.desk_records.specs.Hearing.{hear_as, hear_in, hear_at}
use Rattle.desk_records.proofs.Admits.{reads-listed}

module _ (s : List ℕ) (at : ℕ) where
  pub every-record-asks : {f : Found} → read_at s at ≡ Ok f → (q : Request) × (asking_of f.kind (part_of s f.start f.len) ≡ Some q)
  every-record-asks {f} e = admitted-asks f.kind f.len (part_of s f.start f.len) (reads-listed s at e)

  abbrev Told : Result Hearing Bad → Type 0
  Told (Ok h) = (read_at s at ≡ Ok h.found) × (asking_of h.found.kind (part_of s h.found.start h.found.len) ≡ Some h.request)
  Told (Err bad) = read_at s at ≡ Err bad

  told-asking : (f : Found) (a : Option Request) → read_at s at ≡ Ok f
      → asking_of f.kind (part_of s f.start f.len) ≡ a → Told (hear_as at f a)
  told-asking f (Some q) e g = (e, g)
  told-asking f None e g = let a = (every-record-asks e).1 in absurd (cc)

  told-reading : (r : Reading) → read_at s at ≡ r → Told (hear_in s at r)
  told-reading (Ok f) e = told-asking f (asking_of f.kind (part_of s f.start f.len)) e refl
  told-reading (Err bad) e = e

  told : {h : Result Hearing Bad} → hear_at s at ≡ h → Told h
  unfolding hear_at
  told {h} e = subst Told e (told-reading (read_at s at) refl)

  pub heard-record : {h : Hearing} → hear_at s at ≡ Ok h
      → (read_at s at ≡ Ok h.found) × (asking_of h.found.kind (part_of s h.found.start h.found.len) ≡ Some h.request)
  heard-record e = told e

  pub heard-none : {b : Bad} → hear_at s at ≡ Err b → read_at s at ≡ Err b
  heard-none e = told e
