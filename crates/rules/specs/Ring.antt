-- The lent ring: pictures wait in it, oldest byte out first; bytes go in behind the stored ones, round the ring's end.
use Rattle.std.specs.Prelude.{ℕ, zero, suc, ◌+◌, ◌-◌, cond, List, [], ◌∷◌, ltb, length, get_or, set}

-- the place after `at` in a ring of n bytes
abbrev pub next : ℕ → ℕ → ℕ
next n at = cond (ltb (at + 1) n) (at + 1) 0

-- a place that may lie one round too far
abbrev pub wrap : ℕ → ℕ → ℕ
wrap n x = cond (ltb x n) x (x - n)

-- the ring with the bytes stored from `at` on; no other ring byte changes
abbrev pub put : List ℕ → ℕ → List ℕ → List ℕ
put ring at [] = ring
put ring at (b ∷ bs) = put (set ring at b) (next (length ring) at) bs

-- the k bytes that stand from `at` on
abbrev pub queue : List ℕ → ℕ → ℕ → List ℕ
queue ring at zero = []
queue ring at (suc k) = get_or ring at 0 ∷ queue ring (next (length ring) at) k
