-- The form of a record held to the paper: mark A5 5A, kind, length, payload. A definition that is wrong fails at the line of a case,
-- also where the code is wrong with it.
use Rattle.std.specs.Prelude.{ℕ, refl, Bool, true, false, Result, Ok, Err, List, [], ◌∷◌, ◌++◌, replicate}
use Rattle.rules.specs.Cases.{Case, that}
use Rattle.answers.specs.declared.Request.{Request}
use Rattle.answers.specs.declared.Why.TheVariants.{Unlisted, NoRoom}
use Rattle.answers.specs.declared.Request.TheVariants.{StartScan, Fetch, Tick}
use Rattle.desk_text.specs.Literal.{bytes}
use Rattle.desk_kinds.specs.Numbers.{big_endian}
use Rattle.desk_kinds.specs.Kinds.{entries, entry_in, limits_of, asking_of}
use Rattle.desk_records.specs.declared.Fault.TheVariants.{Mark, Kind, Length as Size, Cut}
use Rattle.desk_records.specs.Reading.{second_mark, length_width, Front, whole_of, wrong_at, sized, front, Reading, found_at, bad_at}
use Rattle.desk_records.specs.Reading.{placed, read_with, read_at, cut_at, part_of}
use Rattle.desk_records.specs.declared.Bad.{Bad}
use Rattle.desk_records.specs.declared.Hearing.{Hearing}
use Rattle.desk_records.specs.Hearing.{hear_at}
use Rattle.desk_records.specs.Writing.{in_bytes, record_of, Wrote, writing_with, writing, number_in, length_of}

-- ---- reading: kind, where the payload starts, how long it is, the next place; or bad with its place
unfoldable pub reads : List ℕ → ℕ → Reading
unfolding bytes big_endian entries entry_in limits_of sized front placed read_with
reads s at = read_at s at

pub readings : List (Case Reading)
unfolding reads
readings =
    that "a record" (reads (bytes "A55A 22 01 01") 0) (found_at 0x22 4 1 5) refl
    ∷ that "with no payload" (reads (bytes "A55A 24 00") 0) (found_at 0x24 4 0 4) refl
    ∷ that "with the longest" (reads (bytes "A55A 20 FF" ++ replicate 255 0) 0) (found_at 0x20 4 255 259) refl
    ∷ that "behind a record, before another" (reads (bytes "A55A2100 A55A 20 02 4142 A55A2400") 4) (found_at 0x20 8 2 10) refl
    ∷ that "wrong mark: its first byte" (reads (bytes "A45A 22 01 01") 0) (Err (bad_at 0)) refl
    ∷ that "wrong mark: its second byte" (reads (bytes "A55B 22 01 01") 0) (Err (bad_at 0)) refl
    ∷ that "unknown kind" (reads (bytes "A55A 09 00") 0) (Err (bad_at 0)) refl
    ∷ that "wrong length: too short" (reads (bytes "A55A 22 00") 0) (Err (bad_at 0)) refl
    ∷ that "wrong length: too long" (reads (bytes "A55A 22 02 0101") 0) (Err (bad_at 0)) refl
    ∷ that "cut in its mark" (reads (bytes "A5") 0) (Err (bad_at 0)) refl
    ∷ that "cut before its length" (reads (bytes "A55A 22") 0) (Err (bad_at 0)) refl
    ∷ that "cut in its payload" (reads (bytes "A55A 20 02 41") 0) (Err (bad_at 0)) refl
    ∷ that "empty" (reads [] 0) (Err (bad_at 0)) refl
    ∷ that "bad behind a record: with its place" (reads (bytes "A55A2100 A55A0900") 4) (Err (bad_at 4)) refl
    ∷ that "inside a record" (reads (bytes "A55A2100") 1) (Err (bad_at 1)) refl
    ∷ that "at the end" (reads (bytes "A55A2100") 4) (Err (bad_at 4)) refl
    ∷ that "past the end" (reads (bytes "A55A2100") 9) (Err (bad_at 9)) refl
    ∷ []

-- ---- which byte is wrong, and why
abbrev pub front_of : List ℕ → Front
front_of s = front second_mark length_width s

pub fronts : List (Case Front)
unfolding reads
fronts =
    that "a record" (front_of (bytes "A55A 22 01 01")) (whole_of 0x22 1) refl
    ∷ that "wrong mark: its first byte" (front_of (bytes "A45A 22 01 01")) (wrong_at Mark 0) refl
    ∷ that "wrong mark: its second byte" (front_of (bytes "A55B 22 01 01")) (wrong_at Mark 1) refl
    ∷ that "unknown kind" (front_of (bytes "A55A 09 00")) (wrong_at Kind 2) refl
    ∷ that "wrong length" (front_of (bytes "A55A 22 02")) (wrong_at Size 3) refl
    ∷ that "cut in its head" (front_of (bytes "A55A 22")) (wrong_at Cut 3) refl
    ∷ that "cut in its payload" (front_of (bytes "A55A 20 02 41")) (wrong_at Cut 5) refl
    ∷ that "empty" (front_of []) (wrong_at Cut 0) refl
    ∷ []

-- ---- the bytes are right as far as they go, and end before the record does
pub cuts : List (Case Bool)
unfolding reads
cuts =
    that "whole" (cut_at (bytes "A55A 20 02 4142") 0) false refl
    ∷ that "a payload byte missing" (cut_at (bytes "A55A 20 02 41") 0) true refl
    ∷ that "the length missing" (cut_at (bytes "A55A 20") 0) true refl
    ∷ that "half a mark" (cut_at (bytes "A5") 0) true refl
    ∷ that "wrong mark" (cut_at (bytes "A4") 0) false refl
    ∷ that "wrong second mark byte" (cut_at (bytes "A55B") 0) false refl
    ∷ that "unknown kind" (cut_at (bytes "A55A 09") 0) false refl
    ∷ that "wrong length" (cut_at (bytes "A55A 22 02") 0) false refl
    ∷ that "behind a record" (cut_at (bytes "A55A2100 A55A") 4) true refl
    ∷ that "at the end" (cut_at (bytes "A55A2100") 4) true refl
    ∷ []

-- ---- the payload is that part of the caller's own bytes
pub parts : List (Case (List ℕ))
unfolding bytes
parts =
    that "in the middle" (part_of (bytes "11 22 33 44 55") 1 3) (bytes "22 33 44") refl
    ∷ that "up to the end" (part_of (bytes "11 22 33 44 55") 3 2) (bytes "44 55") refl
    ∷ that "of no length" (part_of (bytes "11 22 33 44 55") 5 0) [] refl
    ∷ that "past the end: nothing" (part_of (bytes "11 22 33 44 55") 3 3) [] refl
    ∷ []

-- ---- what a record that reads asks
abbrev pub hears : Request → ℕ → ℕ → ℕ → ℕ → Result Hearing Bad
hears q k start n next = Ok (record { request = q; found = record { kind = k; start = start; len = n; next = next } })

pub hearings : List (Case (Result Hearing Bad))
unfolding reads asking_of hear_at
hearings =
    that "StartScan" (hear_at (bytes "A55A 01 06 02 0001 02 000A") 0) (hears (StartScan 2 1 2 10) 0x01 4 6 10) refl
    ∷ that "Fetch behind a Tick" (hear_at (bytes "A55A2400 A55A 06 03 08 4A31") 4) (hears (Fetch 8) 0x06 8 3 11) refl
    ∷ that "a Tick before it" (hear_at (bytes "A55A2400 A55A 06 03 08 4A31") 0) (hears Tick 0x24 4 0 4) refl
    ∷ that "bad with its place" (hear_at (bytes "A55A2400 A55A 06 00") 4) (Err (bad_at 4)) refl
    ∷ []

-- ---- writing: the record; the number and the length told, and the lent buffer as it is left
unfoldable pub writes : ℕ → List ℕ → List ℕ → Wrote
unfolding reads in_bytes writing_with
writes k p out = writing k p out

pub records : List (Case (List ℕ))
unfolding writes
records =
    that "mark, kind, length, payload" (record_of 0x22 (bytes "01")) (bytes "A55A 22 01 01") refl
    ∷ that "with no payload" (record_of 0x24 []) (bytes "A55A 24 00") refl
    ∷ that "of six bytes" (record_of 0x01 (bytes "02 0001 02 000A")) (bytes "A55A 01 06 02 0001 02 000A") refl
    ∷ that "with the longest" (record_of 0x20 (replicate 255 0)) (bytes "A55A 20 FF" ++ replicate 255 0) refl
    ∷ []

abbrev pub wrote : ℕ → ℕ → List ℕ → Wrote
wrote number long buffer = record { number = number; long = long; buffer = buffer }

pub writings : List (Case Wrote)
unfolding writes
writings =
    that "fills the front and gives the length" (writes 0x20 (bytes "4142") (bytes "F0 F1 F2 F3 F4 F5 F6 F7"))
    (wrote 0 6 (bytes "A5 5A 20 02 41 42 F6 F7")) refl
    ∷ that "into the exact room" (writes 0x20 (bytes "4142") (bytes "F0 F1 F2 F3 F4 F5")) (wrote 0 6 (bytes "A5 5A 20 02 41 42")) refl
    ∷ that "into one byte less" (writes 0x20 (bytes "4142") (bytes "F0 F1 F2 F3 F4")) (wrote 603 0 (bytes "F0 F1 F2 F3 F4")) refl
    ∷ that "a kind not listed" (writes 0x09 [] (bytes "F0 F1 F2 F3 F4")) (wrote 601 0 (bytes "F0 F1 F2 F3 F4")) refl
    ∷ that "a payload length not listed" (writes 0x22 [] (bytes "F0 F1 F2 F3 F4")) (wrote 601 0 (bytes "F0 F1 F2 F3 F4")) refl
    ∷ that "neither listed nor room: 601 comes first" (writes 0x22 [] []) (wrote 601 0 []) refl
    ∷ []

pub written_numbers : List (Case ℕ)
written_numbers =
    that "not listed" (number_in (Err Unlisted)) 601 refl
    ∷ that "a writer's buffer too short" (number_in (Err NoRoom)) 603 refl
    ∷ that "acceptance" (number_in (Ok 6)) 0 refl
    ∷ that "the length given" (length_of (Ok 6)) 6 refl
    ∷ []
