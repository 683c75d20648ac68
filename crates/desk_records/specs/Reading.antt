-- What reading at a place finds. The tests go in the order of the bytes.
use Rattle.std.specs.Prelude.{ℕ, ◌+◌, Bool, true, false, cond, Result, Ok, Err, List, [], length, get_or, take, drop, leb, eqb}
use Rattle.desk_kinds.specs.Numbers.{big_endian}
use Rattle.desk_kinds.specs.Kinds.{limits_of, is_listed, within}
use Rattle.desk_records.specs.declared.Fault.{Fault}
use Rattle.desk_records.specs.declared.Whole.{Whole}
use Rattle.desk_records.specs.declared.Wrong.{Wrong}
use Rattle.desk_records.specs.declared.Found.{Found}
use Rattle.desk_records.specs.declared.Bad.{Bad}

-- mark A5 5A; the second byte and the width of the length make the form
abbrev pub first_mark : ℕ
first_mark = 0xA5

abbrev pub second_mark : ℕ
second_mark = 0x5A

abbrev pub length_width : ℕ
length_width = 1

-- mark, kind, length
abbrev pub kind_at : ℕ
kind_at = 2

abbrev pub length_at : ℕ
length_at = 3

abbrev pub head_of : ℕ → ℕ
head_of w = length_at + w

-- what stands at the front of some bytes: a record with its kind and its payload's length, or the first byte that is wrong
abbrev pub Front : Type 0
Front = Result Whole Wrong

abbrev pub whole_of : ℕ → ℕ → Front
whole_of k n = Ok (record { kind = k; len = n })

abbrev pub wrong_at : Fault → ℕ → Front
wrong_at fault i = Err (record { fault = fault; at = i })

-- w bytes from place i on: there must be as many, and they must pass their test
abbrev pub expect : List ℕ → ℕ → ℕ → Bool → Fault → Front → Front
expect s i w ok fault rest = cond (leb (i + w) (length s)) (cond ok rest (wrong_at fault i)) (wrong_at Fault.Cut (length s))

-- the length: a number in w bytes
abbrev pub length_in : ℕ → List ℕ → ℕ
length_in w s = big_endian w (drop length_at s)

-- the length, and then the payload, of which every byte is right
unfoldable pub sized : ℕ → ℕ → List ℕ → Front
sized k w s =
    expect s length_at w (within (limits_of k) (length_in w s)) Fault.Length
    (expect s (head_of w) (length_in w s) true Fault.Length (whole_of k (length_in w s)))

-- what stands at the front of some bytes: mark, kind, length, payload
unfoldable pub front : ℕ → ℕ → List ℕ → Front
front m w s =
    expect s 0 1 (eqb (get_or s 0 0) first_mark) Fault.Mark
    (expect s 1 1 (eqb (get_or s 1 0) m) Fault.Mark
    (expect s kind_at 1 (is_listed (limits_of (get_or s kind_at 0))) Fault.Kind (sized (get_or s kind_at 0) w s)))

-- reading answers a record with its next place, or bad with its place
abbrev pub Reading : Type 0
Reading = Result Found Bad

abbrev pub found_at : ℕ → ℕ → ℕ → ℕ → Reading
found_at k start n next = Ok (record { kind = k; start = start; len = n; next = next })

abbrev pub bad_at : ℕ → Bad
bad_at i = record { at = i }

unfoldable pub placed : ℕ → ℕ → Front → Reading
placed w at (Ok f) = found_at f.kind (at + head_of w) f.len (at + head_of w + f.len)
placed w at (Err e) = Err (bad_at at)

unfoldable pub read_with : ℕ → ℕ → List ℕ → ℕ → Reading
read_with m w s at = placed w at (front m w (drop at s))

abbrev pub read_at : List ℕ → ℕ → Reading
read_at s at = read_with second_mark length_width s at

-- the bytes are right as far as they go
abbrev pub ends_early : Fault → Bool
ends_early Fault.Mark = false
ends_early Fault.Kind = false
ends_early Fault.Length = false
ends_early Fault.Cut = true

abbrev pub cut : Front → Bool
cut (Ok f) = false
cut (Err e) = ends_early e.fault

abbrev pub cut_at : List ℕ → ℕ → Bool
cut_at s at = cut (front second_mark length_width (drop at s))

-- the payload is that part of the caller's own bytes; nothing where it would run past their end
abbrev pub part_of : List ℕ → ℕ → ℕ → List ℕ
part_of s start len = cond (leb (start + len) (length s)) (take len (drop start s)) []
