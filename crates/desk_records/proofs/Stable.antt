-- An answer that is no cut stays, whatever bytes come behind: bytes may be read as they come.
use Prim.Native.Nat.{ℕ, zero, suc, ◌+◌, ◌≤◌}
use mathlib.Core.Path.{◌≡◌, refl, ap, ◌∙◌}
use mathlib.Core.Bool.{Bool, true, false, cond, true≢false}
use mathlib.Core.List.{List, ◌++◌}
use native.Mathlib.Omega.{arith}
use lib.Dec.{leb, eqb}
use lib.ListN.{length, get_or, drop, length-append, length-drop, get_or-append, drop_of_length-le}
use lib.Seq.{drop-append-le}
use borrow.Author.Tests.{leb-true, leb-false, le-leb}
use Rattle.desk_kinds.specs.Numbers.{big_endian}
use Rattle.desk_kinds.specs.Kinds.{limits_of, is_listed, within}
use Rattle.desk_records.specs.declared.Fault.{Fault}
use Rattle.desk_records.specs.Reading.{first_mark, second_mark, length_at, length_width, head_of, length_in, Front, wrong_at, expect, sized, front}
use Rattle.desk_records.specs.Reading.{placed, read_with, read_at, cut, cut_at}

number-stays : (w : ℕ) (s t : List ℕ) → w ≤ length s → big_endian w (s ++ t) ≡ big_endian w s
unfolding big_endian
number-stays zero s t h = refl
number-stays (suc w) s t h =
    let d : w ≤ length (drop 1 s) = simp length-drop (omega arith) in
    rw (get_or-append s t 0 0 (omega arith), drop-append-le 1 s t (omega arith), number-stays w (drop 1 s) t d)

module _ (s t : List ℕ) (f : Front) (c : cut f ≡ false) where
  picked : (i j : ℕ) (b ok ok' : Bool) (fault : Fault) (rest rest' : Front) → leb i (length s) ≡ b
      → (i ≤ length s → ok' ≡ ok) → (i ≤ length s → rest ≡ f → rest' ≡ f)
      → cond b (cond ok rest (wrong_at fault j)) (wrong_at Fault.Cut (length s)) ≡ f
      → cond (leb i (length (s ++ t))) (cond ok' rest' (wrong_at fault j)) (wrong_at Fault.Cut (length (s ++ t))) ≡ f
  picked i j false ok ok' fault rest rest' b same later e = absurd (true≢false (ap cut e ∙ c))
  picked i j true ok ok' fault rest rest' b same later e =
      let h = leb-true i (length s) b in
      rw (le-leb i (length (s ++ t)) (omega (arith, length-append s t)), same h) (chosen ok (later h) e)
    where
      chosen : (ok : Bool) → (rest ≡ f → rest' ≡ f) → cond ok rest (wrong_at fault j) ≡ f → cond ok rest' (wrong_at fault j) ≡ f
      chosen true g e = g e
      chosen false g e = e

  -- one step of the tests
  step : (i w : ℕ) (ok ok' : Bool) (fault : Fault) (rest rest' : Front) → (i + w ≤ length s → ok' ≡ ok)
      → (i + w ≤ length s → rest ≡ f → rest' ≡ f) → expect s i w ok fault rest ≡ f → expect (s ++ t) i w ok' fault rest' ≡ f
  step i w ok ok' fault rest rest' same later e = picked (i + w) i (leb (i + w) (length s)) ok ok' fault rest rest' refl same later e

  byte : (i : ℕ) → i + 1 ≤ length s → get_or (s ++ t) i 0 ≡ get_or s i 0
  byte i h = get_or-append s t 0 i (omega arith)

  length-stays : (w : ℕ) → length_at + w ≤ length s → length_in w (s ++ t) ≡ length_in w s
  length-stays w h =
      ap (big_endian w) (drop-append-le length_at s t (omega arith))
      ∙ number-stays w (drop length_at s) t (simp length-drop (omega arith))

  sized-stays : (k w : ℕ) → sized k w s ≡ f → sized k w (s ++ t) ≡ f
  unfolding sized
  sized-stays k w =
      step length_at w _ _ Fault.Length _ _ (λ h. ap (within (limits_of k)) (length-stays w h))
      (λ h. rw (length-stays w h) (step (head_of w) (length_in w s) true true Fault.Length _ _ (λ _. refl) (λ _ e. e)))

  front-stays : (m w : ℕ) → front m w s ≡ f → front m w (s ++ t) ≡ f
  unfolding front
  front-stays m w =
      step 0 1 _ _ Fault.Mark _ _ (λ h. ap (λ (b : ℕ). eqb b first_mark) (byte 0 h))
      (λ _. step 1 1 _ _ Fault.Mark _ _ (λ h. ap (λ (b : ℕ). eqb b m) (byte 1 h))
      (λ _. step 2 1 _ _ Fault.Kind _ _ (λ h. ap (λ (b : ℕ). is_listed (limits_of b)) (byte 2 h))
      (λ h. rw (byte 2 h) (sized-stays (get_or s 2 0) w))))

pub front-stable : (m w : ℕ) (s t : List ℕ) → cut (front m w s) ≡ false → front m w (s ++ t) ≡ front m w s
front-stable m w s t c = front-stays s t (front m w s) c m w refl

-- at a place: past the end everything is a cut
pub stable-at : (m w : ℕ) (s t : List ℕ) (at : ℕ) → cut (front m w (drop at s)) ≡ false
    → front m w (drop at (s ++ t)) ≡ front m w (drop at s)
unfolding front
stable-at m w s t at c = go (leb at (length s)) refl
  where
    go : (b : Bool) → leb at (length s) ≡ b → front m w (drop at (s ++ t)) ≡ front m w (drop at s)
    go true b = ap (front m w) (drop-append-le at s t (leb-true at (length s) b)) ∙ front-stable m w (drop at s) t c
    go false b =
        let h = leb-false at (length s) b in
        absurd (true≢false (rw (drop_of_length-le s {i = at} (omega arith)) at c))

pub stable : (s t : List ℕ) (at : ℕ) → cut_at s at ≡ false → (read_at (s ++ t) at ≡ read_at s at) × (cut_at (s ++ t) at ≡ false)
unfolding read_with
stable s t at c =
    let e = stable-at second_mark length_width s t at c in
    (ap (placed length_width at) e, ap cut e ∙ c)
