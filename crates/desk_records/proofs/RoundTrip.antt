-- Writing a record and reading it gives it back, whatever bytes stand before it and behind it.
use Prim.Native.Nat.{ℕ, ◌+◌, ◌^◌, ◌<◌}
use mathlib.Core.Path.{◌≡◌, refl, ap, ◌∙◌}
use mathlib.Core.Bool.{true}
use mathlib.Core.List.{List, ◌∷◌, ◌++◌, append_assoc}
use native.Mathlib.Nat.{mod-eq_of_lt}
use native.Mathlib.Omega.{arith}
use lib.ListN.{length, take, drop, length-append}
use lib.Seq.{drop-append_seam, drop_at, take-append_seam}
use Rattle.desk_kinds.specs.Numbers.{big_endian}
use Rattle.desk_kinds.specs.Kinds.{limits_of, within}
use Rattle.desk_kinds.proofs.Entries.{listed-short}
use Rattle.desk_records.specs.Reading.{first_mark, second_mark, length_width, head_of, length_in, whole_of, front, found_at, placed}
use Rattle.desk_records.specs.Reading.{read_with, read_at, part_of}
use Rattle.desk_records.specs.Writing.{in_bytes, record_with, record_of, Wrote, writing_with, writing}
use Rattle.desk_records.proofs.Numbers.{length-bytes, number-bytes}
use Rattle.desk_records.proofs.Stands.{whole}
use Rattle.desk_records.proofs.Admits.{places}
use Rattle.desk_records.proofs.Writes.{record-length, accepted}

-- ---- a record in front of any bytes
module _ (m w k : ℕ) (p rest : List ℕ) where
  pub record-size : length p < 256 ^ w → length_in w (record_with m w k p ++ rest) ≡ length p
  record-size h = ap (big_endian w) (append_assoc (in_bytes w (length p)) p rest) ∙ number-bytes w (length p) (p ++ rest) ∙ mod-eq_of_lt h

  pub record-payload : take (length p) (drop (head_of w) (record_with m w k p ++ rest)) ≡ p
  record-payload =
      let head = first_mark ∷ m ∷ k ∷ in_bytes w (length p) in
      ap (λ (x : List ℕ). take (length p) (drop (head_of w) x)) (append_assoc head p rest)
      ∙ ap (take (length p)) (drop_at head (p ++ rest) (head_of w) (omega (arith, length-bytes w (length p))))
      ∙ take-append_seam p rest

  pub record-front : length p < 256 ^ w → within (limits_of k) (length p) ≡ true → front m w (record_with m w k p ++ rest) ≡ whole_of k (length p)
  record-front h l =
      whole
      record {
        first = refl;
        second = refl;
        kind = refl;
        size = record-size h;
        allowed = l;
        inside = simp (length-append, length-bytes) (omega arith);
      }

-- ---- behind any bytes too
module _ (m w k : ℕ) (p pre rest out : List ℕ) (h : length p < 256 ^ w) (e : (writing_with m w k p out).number ≡ 0) where
  pub written-reads-with : read_with m w (pre ++ (record_with m w k p ++ rest)) (length pre)
      ≡ found_at k (length pre + head_of w) (length p) (length pre + (writing_with m w k p out).long)
  unfolding read_with placed
  written-reads-with =
      let a = accepted m w k p out e in
      let n : length (record_with m w k p) ≡ (writing_with m w k p out).long = ap (λ (x : Wrote). x.long) a.1 in
      let z : length pre + head_of w + length p ≡ length pre + (writing_with m w k p out).long = omega (arith, n, record-length m w k p) in
      ap (λ (x : List ℕ). placed w (length pre) (front m w x)) (drop-append_seam pre (record_with m w k p ++ rest))
      ∙ ap (placed w (length pre)) (record-front m w k p rest h a.0)
      ∙ ap (found_at k (length pre + head_of w) (length p)) z

  pub written-payload-with : part_of (pre ++ (record_with m w k p ++ rest)) (length pre + head_of w) (length p) ≡ p
  written-payload-with =
      (places m w (pre ++ (record_with m w k p ++ rest)) (length pre) written-reads-with).4
      ∙ ap (λ (x : List ℕ). take (length p) (drop (head_of w) x)) (drop-append_seam pre (record_with m w k p ++ rest))
      ∙ record-payload m w k p rest

-- ---- in the form of the desk
module _ (k : ℕ) (p pre rest out : List ℕ) (e : (writing k p out).number ≡ 0) where
  short : length p < 256
  short = let l = listed-short k (length p) (accepted second_mark length_width k p out e).0 in omega arith

  pub written-reads : read_at (pre ++ (record_of k p ++ rest)) (length pre)
      ≡ found_at k (length pre + 4) (length p) (length pre + (writing k p out).long)
  written-reads = written-reads-with second_mark length_width k p pre rest out short e

  pub written-payload : part_of (pre ++ (record_of k p ++ rest)) (length pre + 4) (length p) ≡ p
  written-payload = written-payload-with second_mark length_width k p pre rest out short e
