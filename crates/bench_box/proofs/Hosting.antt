-- A second on a box's numbers: what the code holds after each way out is what the definitions give.
use Prim.Native.Nat.{ℕ}
use mathlib.Core.Path.{◌≡◌, refl, sym, ap, ◌∙◌}
use mathlib.Core.Bool.{Bool, true, false, cond}
use mathlib.Core.List.{List, []}
use lib.ListN.{length, replicate, length-replicate}
use Rattle.rules.specs.declared.Record.{Record}
use Rattle.rules.specs.Record.{sound}
use Rattle.rules.specs.Calls.{Outcome, report, Tick}
use Rattle.rules.proofs.Theorems.{step-sound}
use Rattle.answers.specs.Told.{Answer, state_of, number_told}
use Rattle.stored.specs.Stored.{kept, recorded, is_box}
use Rattle.stored.proofs.Back.{recorded-kept}
use Rattle.working.specs.Worked.{Does}
use Rattle.stored.proofs.Boxes.{box-sound, boxed}
use Rattle.desk_stream.specs.Boxed.{unsound_number}
use Rattle.host_tick.specs.Second.{second_of}
use Rattle.bench_box.specs.Host.{tick_number, tick_words}

module _ (ws : List ℕ) (n : ℕ) where
  -- the number told, the numbers left, and that they are a box where these are
  abbrev pub Second : ℕ → List ℕ → Type 0
  Second number ws' = (number ≡ tick_number ws n) × ((ws' ≡ tick_words ws n) × (is_box ws' n ≡ is_box ws n))

  abbrev o : Outcome
  o = second_of (recorded ws) n

  pub second_none : is_box ws n ≡ false → Second unsound_number ws
  unfolding tick_number tick_words
  second_none e =
      (sym (ap (λ (b : Bool). cond b o.number unsound_number) e), (sym (ap (λ (b : Bool). cond b (kept o.state.box) ws) e), refl))

  -- a ring of zeros stands for any
  module _ (box : is_box ws n ≡ true) where
    abbrev zeros : List ℕ
    zeros = replicate n 0

    long : length zeros ≡ n
    long = length-replicate {A = ℕ} n 0

    lent : is_box ws (length zeros) ≡ true
    lent = ap (is_box ws) long ∙ box

    -- the record that a second leaves is sound
    still : {a : Answer} {ws' : List ℕ} → Does (report Tick) ws zeros a ws' zeros [] → is_box ws' n ≡ true
    still {a} {ws'} d =
        let bytes : o.state.bytes ≡ zeros = sym (ap (λ (x : Outcome). x.state.bytes) d.told) in
        let left : recorded ws' ≡ o.state.box = ap recorded d.keeps ∙ recorded-kept o.state.box in
        boxed ws' n d.fits
        (ap (λ (x : Record). sound x n) left
        ∙ ap (sound o.state.box) (sym (ap length bytes ∙ long))
        ∙ step-sound (state_of (recorded ws) zeros) (report Tick) (box-sound ws (length zeros) lent))

    pub second-done : {a : Answer} {number : ℕ} {ws' : List ℕ}
        → ((ring : List ℕ) → is_box ws (length ring) ≡ true → Does (report Tick) ws ring a ws' ring []) → number ≡ number_told a → Second number ws'
    unfolding tick_number tick_words
    second-done tick e =
        let d = tick zeros lent in (
          e ∙ ap (λ (x : Outcome). x.number) d.told ∙ sym (ap (λ (b : Bool). cond b o.number unsound_number) box),
          (d.keeps ∙ sym (ap (λ (b : Bool). cond b (kept o.state.box) ws) box), still d ∙ sym box),
        )
