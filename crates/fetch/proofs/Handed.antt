-- What a fetch hands over: how many bytes, the reply, and the record that is left.
use Prim.Native.Nat.{ℕ, ◌+◌, ◌-◌, ◌≤◌, min}
use mathlib.Core.Path.{◌≡◌, refl, sym, ap, ◌∙◌}
use mathlib.Core.Bool.{Bool, true, false, cond, false≢true}
use mathlib.Core.List.{List, [], ◌∷◌, ◌++◌, append-nil}
use native.Mathlib.Omega.{arith}
use borrow.Author.Tests.{lt-ltb, le-leb}
use borrow.Rule.Slice.PartMut.{put_mid}
use lib.Dec.{ltb}
use lib.ListN.{length, take, drop, length-drop}
use lib.Seq.{take_all, drop-length, drop-drop, take_at}
use Rattle.rules.specs.declared.Scan.{Scan}
use Rattle.rules.specs.declared.Record.{Record}
use Rattle.rules.specs.Record.{idle, finishing, sound}
use Rattle.rules.specs.Ring.{queue}
use Rattle.rules.specs.Moves.{headed, least}
use Rattle.rules.specs.Calls.{scan, Fetch}
use Rattle.rules.specs.Machine.{effect, scan_effect}
use Rattle.rules.proofs.Sound.{to-sound}
use Rattle.rules.proofs.RingLaws.{length-queue}
use Rattle.ring.specs.Lent.{has, goes_out, take_out}
use Rattle.answers.specs.Told.{After, state_of, gave}
use Rattle.fetch.specs.Reply.{reply_with, noted}

-- ---- the reply
-- the part behind the head, that is lent
abbrev pub behind : List ℕ → List ℕ
behind l = take (length l - headed) (drop headed l)

behind-is : (l : List ℕ) → behind l ≡ drop headed l
behind-is l = take_all (length l - headed) (drop headed l) (omega (arith, length-drop headed l))

behind-long : (l : List ℕ) → length (behind l) ≡ length l - headed
behind-long l = ap length (behind-is l) ∙ length-drop headed l

pub moved-count : (n start want k : ℕ) (l : List ℕ) → k ≡ goes_out n start want (length (behind l)) → k ≡ goes_out n start want (length l - headed)
moved-count n start want k l e = e ∙ ap (goes_out n start want) (behind-long l)

-- no more goes out than is wanted, from whatever start
pub goes-most : (n start want room k : ℕ) → k ≡ goes_out n start want room → k ≤ want
goes-most n start want room k e = by-test (ltb start n) e
  where
    by-test : (t : Bool) → k ≡ cond t (min (min want n) room) 0 → k ≤ want
    by-test true e = omega (arith, e)
    by-test false e = omega (arith, e)

-- the part as the ring's bytes left it, and then the head
pub reply-made : (ring l part head : List ℕ) (start want k : ℕ) → headed ≤ length l
    → k ≡ goes_out (length ring) start want (length (behind l)) → part ≡ take_out ring start want (behind l)
    → head ≡ 0xA5 ∷ 0x5A ∷ 0x06 ∷ k ∷ [] → head ++ drop headed (put_mid headed (length l - headed) l part) ≡ reply_with ring start k l
unfolding reply_with take_out
reply-made ring [] part head start want k h e p m = absurd (omega arith)
reply-made ring (a ∷ []) part head start want k h e p m = absurd (omega arith)
reply-made ring (a ∷ b ∷ []) part head start want k h e p m = absurd (omega arith)
reply-made ring (a ∷ b ∷ c ∷ []) part head start want k h e p m = absurd (omega arith)
reply-made ring (a ∷ b ∷ c ∷ d ∷ rest) part head start want k h e p m =
    let l : List ℕ = a ∷ b ∷ c ∷ d ∷ rest in
    let all : length l - headed ≡ length rest = omega arith in
    ap (λ (t : List ℕ). t ++ (part ++ drop (length l - headed) rest)) m
    ∙ ap (λ (t : List ℕ). 0xA5 ∷ 0x5A ∷ 0x06 ∷ k ∷ t)
    (ap (λ (n : ℕ). part ++ drop n rest) all
    ∙ ap (λ (t : List ℕ). part ++ t) (drop-length rest)
    ∙ append-nil part
    ∙ p
    ∙ ap (λ (j : ℕ). queue ring start j ++ drop j (behind l)) (sym e)
    ∙ ap (λ (t : List ℕ). queue ring start k ++ drop k t) (behind-is l)
    ∙ ap (λ (t : List ℕ). queue ring start k ++ t) (drop-drop k headed l))

pub ruleset made = (reply-made)

picture-read : (ring reply : List ℕ) (start k : ℕ) → take k (drop headed (reply_with ring start k reply)) ≡ queue ring start k
unfolding reply_with
picture-read ring reply start k = take_at (queue ring start k) (drop (headed + k) reply) k (length-queue ring start k)

-- what is told and left is the call's effect
pub handed : (r : Record) (ring called reply : List ℕ) (most : ℕ) {a : After} {l : List ℕ}
    → a ≡ noted (least r.ring.stored most (length reply)) (length ring) r
    → l ≡ reply_with ring r.ring.start (least r.ring.stored most (length reply)) reply
    → gave a ring l ≡ effect (scan (Fetch called most reply)) (state_of r ring)
unfolding noted reply_with effect scan_effect
handed r ring called reply most e f = rw (e, f) (rw (picture-read ring reply r.ring.start (least r.ring.stored most (length reply))))

-- ---- the record
-- in a sound box what is wanted stands in the ring, so only the reply's room holds it back
module _ (r : Record) (n most room want k : ℕ) (so : sound r n ≡ true) (w : want ≡ min r.ring.stored most)
    (e : k ≡ goes_out n r.ring.start want (room - headed)) where
  pub least-goes : k ≡ least r.ring.stored most room
  least-goes =
      let fit = (to-sound r n so).common.ring in
      let some : goes_out n r.ring.start want (room - headed) ≡ min (min want n) (room - headed) = rw (lt-ltb r.ring.start n fit.start) in
      omega (arith, w, e, some, fit.stored)

  pub least-there : has r.ring n k ≡ true
  least-there =
      let fit = (to-sound r n so).common.ring in
      rw (lt-ltb r.ring.start n fit.start, le-leb r.ring.stored n fit.stored, le-leb k r.ring.stored (omega (arith, least-goes)))

pub drains-held : (s : Scan) → finishing s ≡ true → idle s ≡ false
drains-held Scan.Idle e = absurd (false≢true e)
drains-held Scan.Pending e = refl
drains-held Scan.Scanning e = refl
drains-held Scan.Finishing e = refl
drains-held Scan.Erred e = refl
