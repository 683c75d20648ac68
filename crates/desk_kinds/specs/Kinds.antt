-- The table of kinds: the least and the greatest length of each kind's payload, and what its fields ask.
use Rattle.std.specs.Prelude.{ℕ, Bool, true, false, ◌&&◌, cond, Option, Some, None, List, [], ◌∷◌, eqb, leb, drop}
use Rattle.answers.specs.declared.Request.{Request}
use Rattle.desk_kinds.specs.declared.Limits.{Limits}
use Rattle.desk_kinds.specs.Numbers.{byte_at, word_at, long_at, extended}

pub record Entry : Type 0 where
  pub kind : ℕ
  pub shortest : ℕ
  pub longest : ℕ
  pub requested : List ℕ → Request

abbrev pub entry : ℕ → ℕ → ℕ → (List ℕ → Request) → Entry
entry k lo hi asks = record { kind = k; shortest = lo; longest = hi; requested = asks }

abbrev pub fetch_kind : ℕ
fetch_kind = 0x06

-- kinds (hex) with payload length, and the fields of the payload
unfoldable pub entries : List Entry
entries =
    entry 0x01 6 6 (λ p. Request.StartScan (byte_at p 0) (extended (word_at p 1)) (byte_at p 3) (word_at p 4))
    ∷ entry 0x02 7 7 (λ p. Request.Start (long_at p 0) (byte_at p 4) (extended (word_at p 5)))
    ∷ entry 0x03 4 4 (λ p. Request.Stop (long_at p 0))
    ∷ entry 0x04 4 4 (λ p. Request.Abort (long_at p 0))
    ∷ entry 0x05 4 4 (λ p. Request.GetDestination (long_at p 0))
    ∷ entry fetch_kind 1 255 (λ p. Request.Fetch (byte_at p 0))
    ∷ entry 0x07 0 0 (λ p. Request.GetState)
    ∷ entry 0x08 0 0 (λ p. Request.GetSideInformation)
    ∷ entry 0x10 4 4 (λ p. Request.Load (long_at p 0))
    ∷ entry 0x11 5 5 (λ p. Request.Eject (long_at p 0) (byte_at p 4))
    ∷ entry 0x12 4 4 (λ p. Request.Reset (long_at p 0))
    ∷ entry 0x13 5 5 (λ p. Request.SetFeederMode (long_at p 0) (byte_at p 4))
    ∷ entry 0x14 0 0 (λ p. Request.GetFeederState)
    ∷ entry 0x15 0 0 (λ p. Request.GetFeederMode)
    ∷ entry 0x20 0 255 (λ p. Request.Bytes)
    ∷ entry 0x21 0 0 (λ p. Request.SideEnded)
    ∷ entry 0x22 1 1 (λ p. Request.Tray (byte_at p 0))
    ∷ entry 0x23 1 1 (λ p. Request.Path (byte_at p 0))
    ∷ entry 0x24 0 0 (λ p. Request.Tick)
    ∷ []

-- the entry of a kind
unfoldable pub entry_in : ℕ → List Entry → Option Entry
entry_in k [] = None
entry_in k (e ∷ es) = cond (eqb e.kind k) (Some e) (entry_in k es)

abbrev pub entry_of : ℕ → Option Entry
entry_of k = entry_in k entries

-- the payload lengths that it lists
abbrev pub between : ℕ → ℕ → Option Limits
between lo hi = Some (record { least = lo; greatest = hi })

abbrev pub limits_by : Option Entry → Option Limits
limits_by None = None
limits_by (Some e) = between e.shortest e.longest

unfoldable pub limits_of : ℕ → Option Limits
limits_of k = limits_by (entry_of k)

-- what one row says of a kind
abbrev pub said_of : ℕ → ℕ → ℕ → ℕ → Option Limits
said_of j lo hi k = cond (eqb j k) (between lo hi) None

abbrev pub is_listed : Option Limits → Bool
is_listed None = false
is_listed (Some l) = true

-- a payload length that is listed
abbrev pub within : Option Limits → ℕ → Bool
within None n = false
within (Some l) n = leb l.least n && leb n l.greatest

-- what a payload asks
abbrev pub asking_by : List ℕ → Option Entry → Option Request
asking_by p None = None
asking_by p (Some e) = Some (e.requested p)

unfoldable pub asking_of : ℕ → List ℕ → Option Request
asking_of k p = asking_by p (entry_of k)

-- the bytes that go with it: a fetch's name stands behind its most; a report's picture bytes are the whole payload
abbrev pub given_of : ℕ → List ℕ → List ℕ
given_of k p = cond (eqb k fetch_kind) (drop 1 p) p
