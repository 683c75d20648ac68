-- Reading a record and writing it gives its bytes back, and no bytes begin with two records.
use Prim.Native.Nat.{ℕ, ◌+◌, ◌-◌, ◌^◌, ◌≤◌, ◌<◌}
use mathlib.Core.Path.{◌≡◌, refl, sym, ap, ap₂, ◌∙◌}
use mathlib.Core.Bool.{true}
use mathlib.Core.List.{List, [], ◌∷◌, ◌++◌}
use native.Mathlib.Omega.{arith}
use lib.ListN.{length, get_or, take, drop, length-drop}
use lib.Seq.{take-add, length-take-le}
use Rattle.std.specs.Prelude.{Ok}
use Rattle.rules.specs.Promises.{All}
use Rattle.desk_text.specs.Put.{overlaid}
use Rattle.desk_kinds.specs.Numbers.{big_endian}
use Rattle.desk_kinds.specs.Kinds.{limits_of, within}
use Rattle.desk_kinds.proofs.Entries.{listed-short}
use Rattle.desk_records.specs.declared.Found.{Found}
use Rattle.desk_records.specs.Reading.{first_mark, second_mark, length_at, length_width, head_of, length_in, read_with, read_at, part_of}
use Rattle.desk_records.specs.Writing.{in_bytes, record_with, record_of, writing_with, writing}
use Rattle.desk_records.proofs.Numbers.{Byte, bytes-number}
use Rattle.desk_records.proofs.Stands.{Stands, stands}
use Rattle.desk_records.proofs.Admits.{whole-at, places}
use Rattle.desk_records.proofs.Writes.{record-length, same-wrote, writes}
use Rattle.desk_records.proofs.RoundTrip.{record-size, record-payload}

three : (s : List ℕ) → 3 ≤ length s → take 3 s ≡ get_or s 0 0 ∷ get_or s 1 0 ∷ get_or s 2 0 ∷ []
three [] h = absurd (omega arith)
three (a ∷ []) h = absurd (omega arith)
three (a ∷ b ∷ []) h = absurd (omega arith)
three (a ∷ b ∷ c ∷ s) h = refl

-- ---- a record that stands at the front is the record of its payload
front-record : {m w k n : ℕ} {s : List ℕ} → Stands m w k n s → All Byte (take w (drop length_at s))
    → take (head_of w + n) s ≡ record_with m w k (take n (drop (head_of w) s))
front-record {m} {w} {k} {n} {s} h b =
    let i = h.inside in
    let p = take n (drop (head_of w) s) in
    let l : length p ≡ n = length-take-le n (drop (head_of w) s) (simp length-drop (omega arith)) in
    let first : take length_at s ≡ first_mark ∷ m ∷ k ∷ [] = three s (omega arith) ∙ rw (h.first, h.second, h.kind) in
    let size : take w (drop length_at s) ≡ in_bytes w (length p) =
    sym (bytes-number w (drop length_at s) (simp length-drop (omega arith)) b) ∙ ap (in_bytes w) (h.size ∙ sym l) in
    take-add (head_of w) n s ∙ ap (λ (x : List ℕ). x ++ p) (take-add length_at w s ∙ ap₂ (λ (x y : List ℕ). x ++ y) first size)

module _ (m w : ℕ) (s : List ℕ) (at : ℕ) {r : Found} (e : read_with m w s at ≡ Ok r)
    (b : All Byte (take w (drop length_at (drop at s)))) where
  pub read-was-written-with : (take (r.next - at) (drop at s) ≡ record_with m w r.kind (part_of s r.start r.len))
      × ((out : List ℕ) → r.next - at ≤ length out → writing_with m w r.kind (part_of s r.start r.len) out
      ≡ record { number = 0; long = r.next - at; buffer = overlaid out 0 (take (r.next - at) (drop at s)) })
  read-was-written-with =
      let h = stands (whole-at m w s at e) in
      let a = places m w s at e in
      let d : r.next - at ≡ head_of w + r.len = omega (arith, a.0, a.1) in
      let l = rw (← a.3) at h.allowed in
      let bytes : take (r.next - at) (drop at s) ≡ record_with m w r.kind (part_of s r.start r.len) =
      ap (λ (i : ℕ). take i (drop at s)) d ∙ front-record h b ∙ ap (record_with m w r.kind) (sym a.4) in (
        bytes,
        λ out room.
            sym (writes m w r.kind (part_of s r.start r.len) out l (omega (arith, a.3)))
            ∙ same-wrote (omega (arith, record-length m w r.kind (part_of s r.start r.len), a.3)) (ap (overlaid out 0) (sym bytes)),
      )

-- a length of one byte that is listed is a byte
one_byte : (s : List ℕ) → big_endian 1 s ≤ 255 → All Byte (take 1 s)
unfolding big_endian
one_byte [] h = tt
one_byte (b ∷ s) h = (omega arith, tt)

pub read-was-written : (s : List ℕ) (at : ℕ) {r : Found} → read_at s at ≡ Ok r
    → (take (r.next - at) (drop at s) ≡ record_of r.kind (part_of s r.start r.len))
    × ((out : List ℕ) → r.next - at ≤ length out → writing r.kind (part_of s r.start r.len) out
    ≡ record { number = 0; long = r.next - at; buffer = overlaid out 0 (take (r.next - at) (drop at s)) })
read-was-written s at {r} e =
    let h = stands (whole-at second_mark length_width s at e) in
    read-was-written-with second_mark length_width s at e
    (one_byte (drop length_at (drop at s)) (rw h.size (listed-short r.kind r.len h.allowed)))

-- ---- bytes that begin with two records begin with one
pub one-record-with : (m w k k' : ℕ) (p p' r r' : List ℕ) → length p < 256 ^ w → length p' < 256 ^ w
    → record_with m w k p ++ r ≡ record_with m w k' p' ++ r' → (k ≡ k') × (p ≡ p')
one-record-with m w k k' p p' r r' h h' e =
    let n : length p ≡ length p' = sym (record-size m w k p r h) ∙ ap (length_in w) e ∙ record-size m w k' p' r' h' in (
      ap (λ (x : List ℕ). get_or x 2 0) e,
      sym (record-payload m w k p r) ∙ ap₂ (λ (i : ℕ) (x : List ℕ). take i (drop (head_of w) x)) n e ∙ record-payload m w k' p' r',
    )

pub one-record : (k k' : ℕ) (p p' r r' : List ℕ) → within (limits_of k) (length p) ≡ true → within (limits_of k') (length p') ≡ true
    → record_of k p ++ r ≡ record_of k' p' ++ r' → (k ≡ k') × (p ≡ p')
one-record k k' p p' r r' l l' e =
    one-record-with second_mark length_width k k' p p' r r' (omega (arith, listed-short k (length p) l)) (omega (arith, listed-short k' (length p') l')) e
