-- The cases of texts and numbers: what the definitions give, and what the paper says. A definition that is wrong fails at the line of
-- a case.
use Rattle.std.specs.Prelude.{ℕ, refl, List, [], ◌∷◌}
use Rattle.rules.specs.Cases.{Case, that}
use Rattle.desk_text.specs.Digits.{last_digits, decimal, hex_byte, hexes}
use Rattle.desk_text.specs.Put.{fitting, overlaid, Puts}
use Rattle.desk_text.specs.Literal.{text, bytes}

-- ---- texts and bytes as the paper prints them
pub literals : List (Case (List ℕ))
unfolding bytes
literals =
    that "every digit" (bytes "0123 4567 89AB CDEF") (0x01 ∷ 0x23 ∷ 0x45 ∷ 0x67 ∷ 0x89 ∷ 0xAB ∷ 0xCD ∷ 0xEF ∷ []) refl
    ∷ that "none" (bytes "") [] refl
    ∷ that "signs, digits, letters" (text "-!: 09AZaz\n") (45 ∷ 33 ∷ 58 ∷ 32 ∷ 48 ∷ 57 ∷ 65 ∷ 90 ∷ 97 ∷ 122 ∷ 10 ∷ []) refl
    ∷ []

-- ---- a number in decimal, with no zeros in front
pub decimals : List (Case (List ℕ))
unfolding last_digits text
decimals =
    that "0" (decimal 0) (text "0") refl
    ∷ that "9" (decimal 9) (text "9") refl
    ∷ that "10" (decimal 10) (text "10") refl
    ∷ that "604" (decimal 604) (text "604") refl
    ∷ that "1234567890" (decimal 1234567890) (text "1234567890") refl
    ∷ that "the greatest of 32 bits" (decimal 4294967295) (text "4294967295") refl
    ∷ that "the greatest of 64 bits" (decimal 18446744073709551615) (text "18446744073709551615") refl
    ∷ []

-- ---- bytes in upper-case hex
pub hex_texts : List (Case (List ℕ))
unfolding hexes text
hex_texts =
    that "00" (hex_byte 0x00) (text "00") refl
    ∷ that "09" (hex_byte 0x09) (text "09") refl
    ∷ that "0A" (hex_byte 0x0A) (text "0A") refl
    ∷ that "9F" (hex_byte 0x9F) (text "9F") refl
    ∷ that "A0" (hex_byte 0xA0) (text "A0") refl
    ∷ that "FF" (hex_byte 0xFF) (text "FF") refl
    ∷ that "no bytes" (hexes []) (text "") refl
    ∷ that "every digit" (hexes (0x01 ∷ 0x23 ∷ 0x45 ∷ 0x67 ∷ 0x89 ∷ 0xAB ∷ 0xCD ∷ 0xEF ∷ [])) (text "0123456789ABCDEF") refl
    ∷ []

-- ---- a text put at a place of a lent buffer, as far as there is room
pub fitted : List (Case (List ℕ))
unfolding text
fitted =
    that "room for all" (fitting (text "......") 3 (text "abc")) (text "abc") refl
    ∷ that "one too few" (fitting (text "......") 4 (text "abc")) (text "ab") refl
    ∷ that "at the end" (fitting (text "......") 6 (text "abc")) (text "") refl
    ∷ that "past it" (fitting (text "......") 7 (text "abc")) (text "") refl
    ∷ that "every other byte is as it was" (overlaid (text "uvwxyz") 2 (text "ab")) (text "uvabyz") refl
    ∷ []

pub put_whole : Puts (text "uvwxyz") 2 (text "ab") 4 (text "uvabyz")
unfolding text
put_whole = record { behind = refl; stands = refl }

pub put-cut : Puts (text "uvwxyz") 5 (text "ab") 6 (text "uvwxya")
unfolding text
put-cut = record { behind = refl; stands = refl }
