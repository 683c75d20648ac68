-- The line's parts in a row are the line.
use Prim.Native.Nat.{ℕ, ◌≤◌}
use mathlib.Core.Path.{◌≡◌, ap}
use mathlib.Core.List.{List, [], ◌∷◌, ◌++◌, append_assoc}
use native.Mathlib.Omega.{arith}
use lib.ListN.{length, take, drop, length-take}
use Rattle.rules.specs.declared.Record.{Record}
use Rattle.rules.specs.Moves.{headed}
use Rattle.rules.specs.Calls.{Values}
use Rattle.desk_text.specs.Put.{Puts}
use Rattle.desk_text.proofs.Putting.{then, moved}
use Rattle.desk_text.specs.Digits.{decimal, hex_byte}
use Rattle.desk_line.specs.Line.{scan_letter, feed_letter, count_text, extra_of, line_of}

-- ---- a picture has no more bytes than were asked for
pub picture-short : (b reply : List ℕ) (k : ℕ) → b ≡ take k (drop headed reply) → length b ≤ k
picture-short b reply k e = omega (arith, ap length e, length-take k (drop headed reply))

-- ---- the parts in a row
row : (kind number job side count extra : List ℕ) (s f : ℕ)
    → (kind ++ 32 ∷ []) ++ (number ++ 32 ∷ []) ++ s ∷ 32 ∷ f ∷ 32 ∷ [] ++ ((job ++ 32 ∷ []) ++ (side ++ 32 ∷ []) ++ count ++ 32 ∷ []) ++ extra ++ 10 ∷ []
    ≡ kind ++ 32 ∷ (number ++ 32 ∷ s ∷ 32 ∷ f ∷ 32 ∷ (job ++ 32 ∷ (side ++ 32 ∷ (count ++ 32 ∷ (extra ++ 10 ∷ [])))))
row kind number job side count extra s f = simp append_assoc

whole-line : (kind number : ℕ) (v : Values) (r : Record)
    → (hex_byte kind ++ 32 ∷ []) ++ (decimal number ++ 32 ∷ []) ++ scan_letter r.scanner.state ∷ 32 ∷ feed_letter r.feeder.state ∷ 32 ∷ []
    ++ ((decimal r.job.held ++ 32 ∷ []) ++ (decimal r.side.number ++ 32 ∷ []) ++ count_text r.side.count ++ 32 ∷ [])
    ++ extra_of v ++ 10 ∷ []
    ≡ line_of kind number v r
unfolding line_of
whole-line kind number v r = row (hex_byte kind) (decimal number) (decimal r.job.held) (decimal r.side.number)
    (count_text r.side.count) (extra_of v) (scan_letter r.scanner.state) (feed_letter r.feeder.state)

module _ {o o₁ o₂ o₃ o₄ : List ℕ} {at head counts extra end : ℕ} (kind number : ℕ) (v : Values) (r : Record) where
  pub line-put : Puts o at
      ((hex_byte kind ++ 32 ∷ []) ++ (decimal number ++ 32 ∷ []) ++ scan_letter r.scanner.state ∷ 32 ∷ feed_letter r.feeder.state ∷ 32 ∷ [])
      head o₁
      → Puts o₁ head ((decimal r.job.held ++ 32 ∷ []) ++ (decimal r.side.number ++ 32 ∷ []) ++ count_text r.side.count ++ 32 ∷ []) counts o₂
      → Puts o₂ counts (extra_of v) extra o₃
      → Puts o₃ extra (10 ∷ []) end o₄
      → Puts o at (line_of kind number v r) end o₄
  line-put first second third last = moved (then (then (then first second) third) last) (whole-line kind number v r)
