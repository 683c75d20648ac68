-- How the writer's code meets `writing_with`, and what is known of a record that is accepted.
use Prim.Native.Nat.{ℕ, ◌+◌, ◌/◌, ◌%◌, ◌≤◌, ◌<◌}
use mathlib.Core.Path.{◌≡◌, refl, ap, ◌∙◌}
use mathlib.Core.Bool.{Bool, true, false, not, cond}
use mathlib.Core.List.{List, [], ◌∷◌}
use native.Mathlib.Nat.{div-one, zero-add}
use native.Mathlib.Omega.{arith}
use lib.Dec.{leb}
use lib.ListN.{length, length-append}
use borrow.Author.Tests.{le-leb, lt-leb}
use Rattle.rules.specs.Calls.{n601, n603}
use Rattle.rules.proofs.Guards.{went_on}
use Rattle.desk_text.specs.Put.{Puts}
use Rattle.desk_text.proofs.Putting.{then, moved, whole-next, whole-stands}
use Rattle.std.specs.Prelude.{Option}
use Rattle.desk_kinds.specs.declared.Limits.{Limits}
use Rattle.desk_kinds.specs.Kinds.{limits_of, within}
use Rattle.desk_records.specs.Reading.{head_of}
use Rattle.desk_records.specs.Writing.{in_bytes, record_with, Wrote, wrote_all, wrote_none, writing_with}
use Rattle.desk_records.proofs.Numbers.{length-bytes}

-- ---- a number in two bytes
pub put_two : {o o₁ o₂ : List ℕ} {at r q : ℕ} (w n : ℕ) → (w ≡ 1 → ⊥) → (1 ≤ w) × (w ≤ 2)
    → Puts o at ((n / 256 % 256) ∷ []) r o₁ → Puts o₁ r ((n % 256) ∷ []) q o₂ → Puts o at (in_bytes w n) q o₂
unfolding in_bytes
put_two w n e b p k =
    let t : w ≡ 2 = omega arith in
    moved (then p k) (rw t (simp div-one))

-- ---- what writing comes to
pub record-length : (m w k : ℕ) (p : List ℕ) → length (record_with m w k p) ≡ head_of w + length p
record-length m w k p = simp (length-append, length-bytes) (omega arith)

pub same-wrote : {n m : ℕ} {x y : List ℕ} → n ≡ m → x ≡ y
    → ◌≡◌ {A = Wrote} (record { number = 0; long = n; buffer = x }) (record { number = 0; long = m; buffer = y })
same-wrote e f = rw (e, f)

module _ (m w k : ℕ) (p out : List ℕ) where
  pub writes : within (limits_of k) (length p) ≡ true → head_of w + length p ≤ length out
      → wrote_all (record_with m w k p) out ≡ writing_with m w k p out
  unfolding writing_with
  writes e h = rw (e, le-leb (length (record_with m w k p)) (length out) (omega (arith, record-length m w k p)))

  -- by the code's tests: `t`, of what the table was asked for, and the buffer's length; `x` is what is told and left
  module _ {f : Option Limits} {t : Bool} (e : f ≡ limits_of k) (g : t ≡ within f (length p)) where
    asked : t ≡ within (limits_of k) (length p)
    asked = g ∙ ap (λ (l : Option Limits). within l (length p)) e

    pub told-603 : {x : Wrote} → not t ≡ false → length out < head_of w + length p → x ≡ wrote_none n603 out → x ≡ writing_with m w k p out
    unfolding writing_with
    told-603 h l q =
        rw (went_on _ t asked h, lt-leb (length (record_with m w k p)) (length out) (omega (arith, record-length m w k p))) q

    -- what was put is whole
    pub told-0 : {x : Wrote} {r : ℕ} {o₁ : List ℕ} → not t ≡ false → head_of w + length p ≤ length out → Puts out 0 (record_with m w k p) r o₁
        → x ≡ record { number = 0; long = r; buffer = o₁ } → x ≡ writing_with m w k p out
    told-0 h l put q =
        let room : 0 + length (record_with m w k p) ≤ length out = omega (arith, record-length m w k p) in
        q ∙ same-wrote (whole-next room put ∙ zero-add _) (whole-stands room put) ∙ writes (went_on _ t asked h) l

-- ---- an accepted record is listed, and all of it is written
chosen : (b c : Bool) (x : Wrote) (out : List ℕ) → (cond b (cond c x (wrote_none n603 out)) (wrote_none n601 out)).number ≡ 0 → (b ≡ true) × (c ≡ true)
chosen true true x out e = (refl, refl)
chosen true false x out e = absurd (omega arith)
chosen false c x out e = absurd (omega arith)

pub accepted : (m w k : ℕ) (p out : List ℕ) → (writing_with m w k p out).number ≡ 0
    → (within (limits_of k) (length p) ≡ true) × (wrote_all (record_with m w k p) out ≡ writing_with m w k p out)
unfolding writing_with
accepted m w k p out e =
    let c = chosen (within (limits_of k) (length p)) (leb (length (record_with m w k p)) (length out)) (wrote_all (record_with m w k p) out) out e in
    (c.0, rw (c.0, c.1))
