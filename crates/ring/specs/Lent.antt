-- What the lent ring and the lent part hold afterwards, whatever numbers come in.
use Rattle.std.specs.Prelude.{ℕ, ◌+◌, ◌-◌, min, Bool, ◌&&◌, cond, List, ◌++◌, leb, ltb, length, drop}
use Rattle.rules.specs.declared.Ring.{Ring}
use Rattle.rules.specs.Ring.{wrap, put, queue}

-- the start is inside a ring of n bytes, the stored ones are in it, and k more do not exceed what is free
abbrev pub takes : Ring → ℕ → ℕ → Bool
takes g n k = ltb g.start n && leb g.stored n && leb k (n - g.stored)

-- all go in behind the stored ones, or none
abbrev pub put_in : List ℕ → Ring → List ℕ → List ℕ
put_in ring g bs = cond (takes g (length ring) (length bs)) (put ring (wrap (length ring) (g.start + g.stored)) bs) ring

-- the start is inside a ring of n bytes, the stored ones are in it, and there are k of them
abbrev pub has : Ring → ℕ → ℕ → Bool
has g n k = ltb g.start n && leb g.stored n && leb k g.stored

-- without its k oldest bytes: start moves on by k, round the ring's end
abbrev pub left_after : Ring → ℕ → ℕ → Ring
left_after g n k = cond (has g n k) (record { start = wrap n (g.start + k); stored = g.stored - k }) g

-- as many as are wanted, stand in a ring of n bytes and find room; none from a start outside it
abbrev pub goes_out : ℕ → ℕ → ℕ → ℕ → ℕ
goes_out n start want room = cond (ltb start n) (min (min want n) room) 0

-- the oldest bytes come first; what lies behind them in the part stays
unfoldable pub take_out : List ℕ → ℕ → ℕ → List ℕ → List ℕ
take_out ring start want out =
    let k = goes_out (length ring) start want (length out) in
    queue ring start k ++ drop k out
