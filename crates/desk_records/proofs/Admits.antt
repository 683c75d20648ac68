-- What is known of a record that was read: its kind and length are listed, and its payload is that part of the bytes.
use Prim.Native.Nat.{ℕ, ◌+◌, ◌≤◌}
use mathlib.Core.Path.{◌≡◌, refl, sym, ap, ◌∙◌}
use mathlib.Core.Bool.{true}
use mathlib.Core.List.{List}
use native.Mathlib.Omega.{arith}
use lib.ListN.{length, take, drop, length-drop}
use lib.Seq.{drop-drop, length-take-le}
use borrow.Author.Tests.{le-leb}
use Rattle.std.specs.Prelude.{Ok, Err}
use Rattle.desk_kinds.specs.Kinds.{limits_of, within}
use Rattle.desk_kinds.proofs.Entries.{listed-short}
use Rattle.desk_records.specs.declared.Whole.{Whole}
use Rattle.desk_records.specs.declared.Found.{Found}
use Rattle.desk_records.specs.Reading.{second_mark, length_width, head_of, Front, whole_of, front, placed, read_with, read_at, part_of}
use Rattle.desk_records.proofs.Stands.{stands}

-- ---- of what stands at the front
pub front-listed : (m w : ℕ) (s : List ℕ) {f : Whole} → front m w s ≡ Ok f → within (limits_of f.kind) f.len ≡ true
front-listed m w s e = (stands e).allowed

pub front-inside : (m w : ℕ) (s : List ℕ) {f : Whole} → front m w s ≡ Ok f → head_of w + f.len ≤ length s
front-inside m w s e = (stands e).inside

-- ---- of what was read at a place
part-some : (s : List ℕ) (start len : ℕ) → start + len ≤ length s → part_of s start len ≡ take len (drop start s)
part-some s start len h = rw (le-leb (start + len) (length s) h) refl

unplaced : (w at : ℕ) (f : Front) {r : Found} → placed w at f ≡ Ok r
    → (f ≡ whole_of r.kind r.len) × (r.start ≡ at + head_of w) × (r.next ≡ r.start + r.len)
unfolding placed
unplaced w at (Ok f) {r} e =
    let same : ◌≡◌ {A = Found} (record { kind = f.kind; start = at + head_of w; len = f.len; next = at + head_of w + f.len }) r = cc e in
    (rw (← same) refl, rw (← same) refl, rw (← same) refl)
unplaced w at (Err f) e = absurd (cc)

module _ (m w : ℕ) (s : List ℕ) (at : ℕ) {r : Found} (e : read_with m w s at ≡ Ok r) where
  found : (front m w (drop at s) ≡ whole_of r.kind r.len) × (r.start ≡ at + head_of w) × (r.next ≡ r.start + r.len)
  unfolding read_with
  found = unplaced w at (front m w (drop at s)) e

  pub whole-at : front m w (drop at s) ≡ whole_of r.kind r.len
  whole-at = found.0

  pub places : (r.start ≡ at + head_of w) × (r.next ≡ r.start + r.len) × (r.next ≤ length s) × (length (part_of s r.start r.len) ≡ r.len)
      × (part_of s r.start r.len ≡ take r.len (drop (head_of w) (drop at s)))
  places =
      let b = found.1 in
      let i : r.start + r.len ≤ length s = omega (arith, b, front-inside m w (drop at s) whole-at, length-drop at s) in
      let p : part_of s r.start r.len ≡ take r.len (drop r.start s) = part-some s r.start r.len i in
      let l : length (take r.len (drop r.start s)) ≡ r.len = length-take-le r.len (drop r.start s) (omega (arith, length-drop r.start s)) in
      (b, found.2, omega (arith, found.2), ap length p ∙ l, p ∙ ap (take r.len) (ap (λ (i : ℕ). drop i s) b ∙ sym (drop-drop (head_of w) at s)))

module _ (s : List ℕ) (at : ℕ) {r : Found} (e : read_at s at ≡ Ok r) where
  pub read-places : (r.start ≡ at + 4) × (r.next ≡ r.start + r.len) × (r.next ≤ length s)
      × (length (part_of s r.start r.len) ≡ r.len) × (part_of s r.start r.len ≡ take r.len (drop 4 (drop at s)))
  read-places = places second_mark length_width s at e

  pub reads-listed : within (limits_of r.kind) r.len ≡ true
  reads-listed = front-listed second_mark length_width (drop at s) (whole-at second_mark length_width s at e)

  pub short-payload : r.len ≤ 255
  short-payload = listed-short r.kind r.len reads-listed
