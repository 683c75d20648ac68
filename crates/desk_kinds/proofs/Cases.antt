-- The paper's table of kinds, row by row and field by field. A definition that is wrong fails at the line of a case, also where the
-- code is wrong with it.
use Rattle.std.specs.Prelude.{ℕ, zero, suc, refl, Bool, true, false, cond, Option, Some, None, List, [], ◌∷◌, ◌++◌, map}
use Rattle.rules.specs.Cases.{Case, that, minus_one, minus_two}
use Rattle.answers.specs.declared.Request.{Request}
use Rattle.answers.specs.declared.Request.TheVariants.{StartScan, Start, Stop, Abort, GetDestination, Fetch, GetState, GetSideInformation, Load, Eject}
use Rattle.answers.specs.declared.Request.TheVariants.{Reset, SetFeederMode, GetFeederState, GetFeederMode, Bytes, SideEnded, Tray, Path, Tick}
use Rattle.desk_text.specs.Literal.{bytes}
use Rattle.desk_kinds.specs.declared.Limits.{Limits}
use Rattle.desk_kinds.specs.Numbers.{big_endian, byte_at, word_at, long_at, extended}
use Rattle.desk_kinds.specs.Kinds.{entries, entry_in, between, limits_of, is_listed, within, asking_of, given_of}

-- ---- kinds (hex) with payload length
pub lengths : List (Case (Option Limits))
unfolding limits_of entry_in entries
lengths =
    that "01 StartScan 6" (limits_of 0x01) (between 6 6) refl
    ∷ that "02 Start 7" (limits_of 0x02) (between 7 7) refl
    ∷ that "03 Stop 4" (limits_of 0x03) (between 4 4) refl
    ∷ that "04 Abort 4" (limits_of 0x04) (between 4 4) refl
    ∷ that "05 GetDestination 4" (limits_of 0x05) (between 4 4) refl
    ∷ that "06 Fetch 1 to 255" (limits_of 0x06) (between 1 255) refl
    ∷ that "07 GetState 0" (limits_of 0x07) (between 0 0) refl
    ∷ that "08 GetSideInformation 0" (limits_of 0x08) (between 0 0) refl
    ∷ that "10 Load 4" (limits_of 0x10) (between 4 4) refl
    ∷ that "11 Eject 5" (limits_of 0x11) (between 5 5) refl
    ∷ that "12 Reset 4" (limits_of 0x12) (between 4 4) refl
    ∷ that "13 SetFeederMode 5" (limits_of 0x13) (between 5 5) refl
    ∷ that "14 feeder GetState 0" (limits_of 0x14) (between 0 0) refl
    ∷ that "15 GetFeederMode 0" (limits_of 0x15) (between 0 0) refl
    ∷ that "20 Bytes 0 to 255" (limits_of 0x20) (between 0 255) refl
    ∷ that "21 Side ended 0" (limits_of 0x21) (between 0 0) refl
    ∷ that "22 Tray 1" (limits_of 0x22) (between 1 1) refl
    ∷ that "23 Path 1" (limits_of 0x23) (between 1 1) refl
    ∷ that "24 Tick 0" (limits_of 0x24) (between 0 0) refl
    ∷ []

-- the kinds below a number that are listed
unfoldable pub kinds_below : ℕ → List ℕ
unfolding limits_of entry_in entries
kinds_below zero = []
kinds_below (suc k) = kinds_below k ++ cond (is_listed (limits_of k)) (k ∷ []) []

-- of all bytes these are kinds, and no others
pub kinds : List (Case (List ℕ))
unfolding kinds_below bytes
kinds = that "01 to 08, 10 to 15, 20 to 24" (kinds_below 256) (bytes "01 02 03 04 05 06 07 08 10 11 12 13 14 15 20 21 22 23 24") refl ∷ []

-- ---- both sides of each length: one below the least, the least, the greatest, one above it
abbrev pub takes : ℕ → List ℕ → List Bool
takes k ns = map (within (limits_of k)) ns

pub taken : List (Case (List Bool))
unfolding limits_of entry_in entries
taken =
    that "01 StartScan" (takes 0x01 (5 ∷ 6 ∷ 7 ∷ [])) (false ∷ true ∷ false ∷ []) refl
    ∷ that "02 Start" (takes 0x02 (6 ∷ 7 ∷ 8 ∷ [])) (false ∷ true ∷ false ∷ []) refl
    ∷ that "03 Stop" (takes 0x03 (3 ∷ 4 ∷ 5 ∷ [])) (false ∷ true ∷ false ∷ []) refl
    ∷ that "04 Abort" (takes 0x04 (3 ∷ 4 ∷ 5 ∷ [])) (false ∷ true ∷ false ∷ []) refl
    ∷ that "05 GetDestination" (takes 0x05 (3 ∷ 4 ∷ 5 ∷ [])) (false ∷ true ∷ false ∷ []) refl
    ∷ that "06 Fetch" (takes 0x06 (0 ∷ 1 ∷ 255 ∷ 256 ∷ [])) (false ∷ true ∷ true ∷ false ∷ []) refl
    ∷ that "07 GetState" (takes 0x07 (0 ∷ 1 ∷ [])) (true ∷ false ∷ []) refl
    ∷ that "08 GetSideInformation" (takes 0x08 (0 ∷ 1 ∷ [])) (true ∷ false ∷ []) refl
    ∷ that "10 Load" (takes 0x10 (3 ∷ 4 ∷ 5 ∷ [])) (false ∷ true ∷ false ∷ []) refl
    ∷ that "11 Eject" (takes 0x11 (4 ∷ 5 ∷ 6 ∷ [])) (false ∷ true ∷ false ∷ []) refl
    ∷ that "12 Reset" (takes 0x12 (3 ∷ 4 ∷ 5 ∷ [])) (false ∷ true ∷ false ∷ []) refl
    ∷ that "13 SetFeederMode" (takes 0x13 (4 ∷ 5 ∷ 6 ∷ [])) (false ∷ true ∷ false ∷ []) refl
    ∷ that "14 feeder GetState" (takes 0x14 (0 ∷ 1 ∷ [])) (true ∷ false ∷ []) refl
    ∷ that "15 GetFeederMode" (takes 0x15 (0 ∷ 1 ∷ [])) (true ∷ false ∷ []) refl
    ∷ that "20 Bytes" (takes 0x20 (0 ∷ 255 ∷ 256 ∷ [])) (true ∷ true ∷ false ∷ []) refl
    ∷ that "21 Side ended" (takes 0x21 (0 ∷ 1 ∷ [])) (true ∷ false ∷ []) refl
    ∷ that "22 Tray" (takes 0x22 (0 ∷ 1 ∷ 2 ∷ [])) (false ∷ true ∷ false ∷ []) refl
    ∷ that "23 Path" (takes 0x23 (0 ∷ 1 ∷ 2 ∷ [])) (false ∷ true ∷ false ∷ []) refl
    ∷ that "24 Tick" (takes 0x24 (0 ∷ 1 ∷ [])) (true ∷ false ∷ []) refl
    ∷ that "a kind not listed" (takes 0x09 (0 ∷ 1 ∷ 4 ∷ 255 ∷ [])) (false ∷ false ∷ false ∷ false ∷ []) refl
    ∷ []

-- ---- the fields of each payload, whose bytes all differ: a field that is another's, or out of place, has another number
pub fields : List (Case (Option Request))
unfolding asking_of entry_in entries big_endian bytes
fields =
    that "01 UseFeeder 1, SideCount 2, Append 1, time 2" (asking_of 0x01 (bytes "11 2233 44 5566")) (Some (StartScan 0x11 0x2233 0x44 0x5566)) refl
    ∷ that "01 SideCount −1" (asking_of 0x01 (bytes "11 FFFF 44 5566")) (Some (StartScan 0x11 0xFFFFFFFF 0x44 0x5566)) refl
    ∷ that "02 job 4, UseFeeder 1, SideCount 2" (asking_of 0x02 (bytes "11223344 55 6677")) (Some (Start 0x11223344 0x55 0x6677)) refl
    ∷ that "02 SideCount −1" (asking_of 0x02 (bytes "11223344 55 FFFF")) (Some (Start 0x11223344 0x55 0xFFFFFFFF)) refl
    ∷ that "03 job" (asking_of 0x03 (bytes "11223344")) (Some (Stop 0x11223344)) refl
    ∷ that "04 job" (asking_of 0x04 (bytes "11223344")) (Some (Abort 0x11223344)) refl
    ∷ that "05 job" (asking_of 0x05 (bytes "11223344")) (Some (GetDestination 0x11223344)) refl
    ∷ that "06 most, name" (asking_of 0x06 (bytes "11 22334455")) (Some (Fetch 0x11)) refl
    ∷ that "07 nothing" (asking_of 0x07 []) (Some GetState) refl
    ∷ that "08 nothing" (asking_of 0x08 []) (Some GetSideInformation) refl
    ∷ that "10 job" (asking_of 0x10 (bytes "11223344")) (Some (Load 0x11223344)) refl
    ∷ that "11 job, value" (asking_of 0x11 (bytes "11223344 55")) (Some (Eject 0x11223344 0x55)) refl
    ∷ that "12 job" (asking_of 0x12 (bytes "11223344")) (Some (Reset 0x11223344)) refl
    ∷ that "13 job, mode" (asking_of 0x13 (bytes "11223344 55")) (Some (SetFeederMode 0x11223344 0x55)) refl
    ∷ that "14 nothing" (asking_of 0x14 []) (Some GetFeederState) refl
    ∷ that "15 nothing" (asking_of 0x15 []) (Some GetFeederMode) refl
    ∷ that "20 the payload goes with it" (asking_of 0x20 (bytes "112233")) (Some Bytes) refl
    ∷ that "21 nothing" (asking_of 0x21 []) (Some SideEnded) refl
    ∷ that "22 the sensor" (asking_of 0x22 (bytes "11")) (Some (Tray 0x11)) refl
    ∷ that "23 the sensor" (asking_of 0x23 (bytes "11")) (Some (Path 0x11)) refl
    ∷ that "24 nothing" (asking_of 0x24 []) (Some Tick) refl
    ∷ that "00 is not listed" (asking_of 0x00 (bytes "11223344")) None refl
    ∷ that "09 is not listed" (asking_of 0x09 (bytes "11223344")) None refl
    ∷ that "0F is not listed" (asking_of 0x0F (bytes "11223344")) None refl
    ∷ that "16 is not listed" (asking_of 0x16 (bytes "11223344")) None refl
    ∷ that "1F is not listed" (asking_of 0x1F (bytes "11223344")) None refl
    ∷ that "25 is not listed" (asking_of 0x25 (bytes "11223344")) None refl
    ∷ that "FF is not listed" (asking_of 0xFF (bytes "11223344")) None refl
    ∷ []

-- ---- the bytes that go with a request
pub givens : List (Case (List ℕ))
unfolding bytes
givens =
    that "06: the name, behind its most" (given_of 0x06 (bytes "11 22334455")) (bytes "22334455") refl
    ∷ that "06: no name" (given_of 0x06 (bytes "11")) [] refl
    ∷ that "20: the whole payload" (given_of 0x20 (bytes "11223344")) (bytes "11223344") refl
    ∷ that "20: none" (given_of 0x20 []) [] refl
    ∷ []

-- ---- numbers big-endian, SideCount in two's complement
pub numbers : List (Case ℕ)
unfolding big_endian bytes
numbers =
    that "one byte" (byte_at (bytes "11 22 33 44 55 66") 1) 0x22 refl
    ∷ that "two, the higher first" (word_at (bytes "11 2233 44 55 66") 1) 0x2233 refl
    ∷ that "four, the highest first" (long_at (bytes "11 22334455 66") 1) 0x22334455 refl
    ∷ that "the greatest of two" (word_at (bytes "FFFF") 0) 65535 refl
    ∷ that "the greatest of four" (long_at (bytes "FFFFFFFF") 0) 4294967295 refl
    ∷ that "a byte that is not there counts as 0" (word_at (bytes "11") 0) 0x1100 refl
    ∷ that "SideCount 0" (extended 0x0000) 0 refl
    ∷ that "SideCount 32,767" (extended 0x7FFF) 32767 refl
    ∷ that "SideCount −32,768" (extended 0x8000) 0xFFFF8000 refl
    ∷ that "SideCount −2" (extended 0xFFFE) minus_two refl
    ∷ that "SideCount −1" (extended 0xFFFF) minus_one refl
    ∷ []
