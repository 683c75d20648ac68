-- A read's bytes stand behind those that were held, and a turn behind it is a step of the program.
use Prim.Native.Nat.{ℕ, ◌+◌, ◌-◌, ◌≤◌, ◌<◌}
use mathlib.Core.Path.{◌≡◌, sym, ap, ◌∙◌, subst}
use mathlib.Core.Bool.{true, false, not}
use mathlib.Core.List.{List, []}
use native.Mathlib.Omega.{arith}
use borrow.Author.Tests.{not-true, not-false}
use borrow.Rule.Slice.PartMut.{put_mid, take_put}
use lib.ListN.{length, take, drop, length-take, length-drop, replicate}
use lib.Seq.{length-take-le}
use Rattle.rules.specs.Record.{fresh}
use Rattle.stored.specs.Stored.{kept, is_box}
use Rattle.desk_stream.specs.Desk.{ring_room}
use Rattle.desk_loop.specs.declared.Flow.{Flow}
use Rattle.desk_loop.specs.Loop.{Desk, at_first, turned}
use Rattle.desk_loop.specs.Program.{opened, Brings, with_window, on, reads, Steps, Stepped, Reaches, begins}

pub lt_to_le : {a b : ℕ} → a < b → a ≤ b
lt_to_le h = omega arith

module _ (window part : List ℕ) (held : ℕ) (h : held ≤ length window) (l : length (put_mid held (length window - held) window part) ≡ length window) where
  abbrev window' : List ℕ
  window' = put_mid held (length window - held) window part

  pub brings : (count : ℕ) → held + count ≤ length window
      → (held + count ≤ length window') × Brings window held (take count (drop held window')) window'
  brings count f =
      let size : length (take count (drop held window')) ≡ count = length-take-le count (drop held window') (omega (arith, l, length-drop held window')) in (
        omega (arith, l),
        record {
          fits = omega (arith, size);
          size = l;
          before = take_put held (length window - held) window part h;
          behind = ap (λ (n : ℕ). take n (drop held window')) size;
        },
      )

  pub counted : (count : ℕ) → count ≤ length (take (length window' - held) (drop held window')) → held + count ≤ length window
  counted count c = omega (arith, l, length-take (length window' - held) (drop held window'), length-drop held window')

-- ---- a step
module _ (d : Desk) {e : Desk} (still : is_box e.words (length e.ring) ≡ is_box d.words (length d.ring)) where
  pub stepped-on : not d.flow.wants ≡ true → e ≡ turned 0 d → Stepped d e
  stepped-on w f = record { bytes = []; steps = subst (Steps d []) (sym f) (on (not-true d.flow.wants w)); still = still }

  pub stepped-read : (window : List ℕ) (count : ℕ) → not d.flow.wants ≡ false → d.flow.held + count ≤ length window
      → Brings d.window d.flow.held (take count (drop d.flow.held window)) window → e ≡ turned count (with_window window d) → Stepped d e
  stepped-read window count w l b f =
      let bytes : List ℕ = take count (drop d.flow.held window) in
      let size : length bytes ≡ count =
      length-take-le count (drop d.flow.held window) (omega (arith, length-drop d.flow.held window)) in
      record {
        bytes = bytes;
        steps =
            subst (Steps d bytes) (ap (λ (n : ℕ). turned n (with_window window d)) size ∙ sym f)
            (reads bytes window (not-false d.flow.wants w) b);
        still = still;
      }

-- at the outset
pub at-outset : {f : Flow} {words ring : List ℕ} (window lines : List ℕ) → f ≡ at_first → words ≡ kept fresh → ring ≡ replicate ring_room 0
    → Reaches (opened window lines) (record { flow = f; words = words; ring = ring; window = window; lines = lines })
at-outset window lines e w r = rw (e, w, r) begins
