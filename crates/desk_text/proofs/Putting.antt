-- Laws of texts put into a buffer as far as there is room: none, one byte, and one text behind another. None has a side condition
-- on the room, since `over` at a place past the end puts behind the end and a text that does not fit is cut to nothing there.
use Prim.Native.Nat.{ℕ, zero, suc, ◌+◌, ◌-◌, ◌*◌, ◌/◌, ◌%◌, ◌^◌, ◌<◌, ◌≤◌}
use mathlib.Core.Bool.{Bool, true, false, cond}
use mathlib.Core.Path.{◌≡◌, refl, sym, ap, ap₂, subst, ◌∙◌}
use mathlib.Core.List.{List, [], ◌∷◌, ◌++◌, append_assoc, append-nil}
use native.Mathlib.Nat.{add-zero, suc-add, sub-zero, suc-sub-suc, zero-add, pow-suc}
use native.Mathlib.Numerals.{add-one, sub-one}
use native.Mathlib.Omega.{arith}
use borrow.Rule.Slice.PartMut.{put_mid}
use borrow.Author.Tests.{lt-ltb, le-ltb, ltb-true, ltb-false}
use lib.Dec.{ltb}
use lib.ListN.{length, get_or, set, take, drop, length-append, length-take, length-drop, length-set, take-append-drop, drop_of_length-le}
use lib.Seq.{set_split, append_snoc, take-append_seam, drop-append-add, drop-drop, take-suc, take_all, take-nil, drop-nil, drop_at, length-take-le}
use Rattle.desk_text.specs.Put.{Puts, fitting, overlaid}
use Rattle.desk_text.specs.Digits.{last_digits, most_digits, decimal, hexes, hex_byte, hex_digit}

-- ---- a text over a buffer
over_none : (o : List ℕ) (at : ℕ) → overlaid o at [] ≡ o
over_none o at = rw (append-nil, add-zero) (take-append-drop at o)

-- one text, and another right behind it
over-then : (o t u : List ℕ) (at : ℕ) → overlaid (overlaid o at t) (at + length t) u ≡ overlaid o at (t ++ u)
over-then o t u zero =
    let d = drop (length t) o in
    let behind = drop-append-add t d (length u) ∙ drop-drop (length u) (length t) o in
    rw (zero-add (length t), zero-add (length (t ++ u)), take-append_seam t d, behind, length-append t u)
over-then [] t u (suc at) =
    let all = take_all (suc at + length t) t (omega arith) in
    let over-end = drop_of_length-le t {i = suc at + length t + length u} (omega arith) in
    simp (drop-nil, append-nil t, append-nil, all, over-end)
over-then (x ∷ o) t u (suc at) = simp suc-add (ap (λ (l : List ℕ). x ∷ l) (over-then o t u at))

over-size : (o t : List ℕ) (at : ℕ) → length (overlaid o at (fitting o at t)) ≡ length o
over-size o t at =
    let n = length-take (length o - at) t in
    simp (length-append, length-take at o, length-drop) (omega arith)

-- ---- what fits
whole : (o t : List ℕ) (at : ℕ) → at + length t ≤ length o → fitting o at t ≡ t
whole o t at h = take_all (length o - at) t (omega arith)

-- of two texts the first, and of the second what the first leaves room for
parts : (n : ℕ) (t u : List ℕ) → take n (t ++ u) ≡ take n t ++ take (n - length (take n t)) u
parts zero t u = refl
parts (suc n) [] u = rw sub-zero
parts (suc n) (x ∷ t) u = rw suc-sub-suc (ap (λ (l : List ℕ). x ∷ l) (parts n t u))

-- ---- no text, one byte
pub put-none : (o : List ℕ) (at : ℕ) → Puts o at [] at o
put-none o at =
    let none : fitting o at [] ≡ [] = take-nil (length o - at) in
    record { behind = rw none (sym (add-zero at)); stands = rw none (sym (over_none o at)) }

-- all of it
pub put_whole : {o o₁ t : List ℕ} {at r : ℕ} → at + length t ≤ length o → r ≡ at + length t → o₁ ≡ overlaid o at t → Puts o at t r o₁
put_whole {o} {o₁} {t} {at} {r} h e f =
    let all = whole o t at h in
    record { behind = rw all e; stands = rw all f }

pub put-one-fits : (o : List ℕ) (at b : ℕ) → at < length o → Puts o at (b ∷ []) (at + 1) (set o at b)
put-one-fits o at b h = put_whole (omega arith) refl (rw (add-one, append_snoc) (set_split o at b h))

-- where there is no room
pub put_full : (o t : List ℕ) (at : ℕ) → length o ≤ at → Puts o at t at o
put_full o t at h =
    let none : length o - at ≡ 0 = omega arith in
    record { behind = rw none (sym (add-zero at)); stands = rw none (sym (over_none o at)) }

module _ {o o₁ t : List ℕ} {at r : ℕ} where
  pub size : Puts o at t r o₁ → length o₁ ≡ length o
  size p = ap length p.stands ∙ over-size o t at

  pub moved : {u : List ℕ} → Puts o at t r o₁ → t ≡ u → Puts o at u r o₁
  moved p e = subst (λ (z : List ℕ). Puts o at z r o₁) e p

  pub whole-next : at + length t ≤ length o → Puts o at t r o₁ → r ≡ at + length t
  whole-next h p = p.behind ∙ ap (λ (z : List ℕ). at + length z) (whole o t at h)

  pub whole-stands : at + length t ≤ length o → Puts o at t r o₁ → o₁ ≡ overlaid o at t
  whole-stands h p = p.stands ∙ ap (overlaid o at) (whole o t at h)

  pub within : at ≤ length o → Puts o at t r o₁ → r ≤ length o
  within h p = omega (arith, p.behind, length-take (length o - at) t)

-- a text, and then another right behind it
pub then : {o o₁ o₂ t u : List ℕ} {a r q : ℕ} → Puts o a t r o₁ → Puts o₁ r u q o₂ → Puts o a (t ++ u) q o₂
then {o} {o₁} {o₂} {t} {u} {a} {r} {q} p k =
    let room : length o₁ - r ≡ length o - a - length (fitting o a t) = omega (arith, size p, p.behind) in
    let all : fitting o a (t ++ u) ≡ fitting o a t ++ fitting o₁ r u = rw room (parts (length o - a) t u) in
    record {
      behind = rw (all, length-append) (omega (arith, p.behind, k.behind));
      stands =
          k.stands
          ∙ ap₂ (λ (l : List ℕ) (n : ℕ). overlaid l n (fitting o₁ r u)) p.stands p.behind
          ∙ over-then o (fitting o a t) (fitting o₁ r u) a
          ∙ ap (overlaid o a) (sym all);
    }

-- no further than the text is long
pub put-most : {o o₁ t : List ℕ} {at r : ℕ} → Puts o at t r o₁ → r ≤ at + length t
put-most {o} {o₁} {t} {at} p = omega (arith, p.behind, length-take (length o - at) t)

-- two bytes, and three
pub put_two : (o : List ℕ) (at a b : ℕ) → at + 2 ≤ length o → Puts o at (a ∷ b ∷ []) (at + 2) (set (set o at a) (at + 1) b)
put_two o at a b h =
    let second = put-one-fits (set o at a) (at + 1) b (simp length-set (omega arith)) in
    let next : at + 1 + 1 ≡ at + 2 = omega arith in
    rw next at (then (put-one-fits o at a (omega arith)) second)

pub put_three : (o : List ℕ) (at a b c : ℕ) → at + 3 ≤ length o
    → Puts o at (a ∷ b ∷ c ∷ []) (at + 3) (set (set (set o at a) (at + 1) b) (at + 2) c)
put_three o at a b c h =
    let third = put-one-fits (set (set o at a) (at + 1) b) (at + 2) c (simp length-set (omega arith)) in
    let next : at + 2 + 1 ≡ at + 3 = omega arith in
    rw next at (then (put_two o at a b (omega arith)) third)

-- ---- digits
one-digit : (m n : ℕ) → 1 ≤ m → n < 10 → last_digits m n ≡ (48 + n) ∷ []
unfolding last_digits
one-digit zero n l h = absurd (omega arith)
one-digit (suc m) n l h = simp (lt-ltb _ _ h)

more-digits : (m n : ℕ) → 9 < n → last_digits (suc m) n ≡ last_digits m (n / 10) ++ (48 + n % 10) ∷ []
unfolding last_digits
more-digits m n h = simp (le-ltb n 10 h)

pub digit-alone : (n : ℕ) → n < 10 → (48 + n) ∷ [] ≡ decimal n
digit-alone n h = sym (one-digit most_digits n (omega arith) h)

pub digits-one : {o o₁ : List ℕ} {at r n : ℕ} → n < 10 → Puts o at ((48 + n) ∷ []) r o₁ → Puts o at (decimal n) r o₁
digits-one {n = n} h p = moved p (digit-alone n h)

pub digits-two : (n : ℕ) → 9 < n → n < 100 → (48 + n / 10) ∷ (48 + n % 10) ∷ [] ≡ decimal n
digits-two n l h = rw (more-digits 19 n l, one-digit 19 (n / 10) (omega arith) (omega arith))

pub digits-three : (n : ℕ) → 99 < n → n < 1000 → (48 + n / 100) ∷ (48 + n / 10 % 10) ∷ (48 + n % 10) ∷ [] ≡ decimal n
digits-three n l h =
    let hundreds : n / 10 / 10 ≡ n / 100 = omega arith in
    rw (more-digits 19 n (omega arith), more-digits 18 (n / 10) (omega arith), hundreds, one-digit 18 (n / 100) (omega arith) (omega arith))

-- as many digits as a number has are enough for it
record Exact (k n : ℕ) : Type 0 where
  same : last_digits (length (last_digits k n)) n ≡ last_digits k n
  fits : n < 10 ^ length (last_digits k n)
  some : 1 ≤ length (last_digits k n)

exact_one : (k n : ℕ) → n < 10 → Exact (suc k) n
exact_one k n h =
    let one = one-digit (suc k) n (omega arith) h in
    record { same = rw one (one-digit 1 n (omega arith) h); fits = rw one (omega arith); some = rw one (omega arith) }

exact-more : (k n : ℕ) → 9 < n → Exact k (n / 10) → Exact (suc k) n
exact-more k n h x =
    let all = more-digits k n h in
    let size : length (last_digits (suc k) n) ≡ suc (length (last_digits k (n / 10))) = rw (all, length-append) (add-one _) in
    record {
      same =
          rw size
          (more-digits (length (last_digits k (n / 10))) n h ∙ ap (λ (t : List ℕ). t ++ (48 + n % 10) ∷ []) x.same ∙ sym all);
      fits = rw (size, pow-suc) (omega (arith, x.fits));
      some = rw size (omega arith);
    }

exact-by : (k n : ℕ) (b : Bool) → ltb n 10 ≡ b → Exact k (n / 10) → Exact (suc k) n
exact-by k n true e x = exact_one k n (ltb-true n 10 e)
exact-by k n false e x = exact-more k n (ltb-false n 10 e) x

exact : (k n : ℕ) → 1 ≤ k → n < 10 ^ k → Exact k n
exact zero n l h = absurd (omega arith)
exact (suc zero) n l h = exact_one zero n (omega arith)
exact (suc (suc k)) n l h =
    let less : n / 10 < 10 ^ suc k = omega (arith, rw (pow-suc 10 (suc k)) at h) in
    exact-by (suc k) n (ltb n 10) refl (exact (suc k) (n / 10) (omega arith) less)

-- how many: from ten to the k on, and below ten times that, one more than k
count : (most k n : ℕ) → k < most → 10 ^ k ≤ n → n < 10 ^ suc k → length (last_digits most n) ≡ suc k
count zero k n l h g = absurd (omega arith)
count (suc m) zero n l h g = rw (one-digit (suc m) n (omega arith) (omega arith))
count (suc m) (suc k) n l h g =
    let low = rw (pow-suc 10 k) at h in
    let high = rw (pow-suc 10 (suc k), pow-suc 10 k) at g in
    let rest = count m k (n / 10) (omega arith) (omega arith) (rw (pow-suc 10 k) (omega arith)) in
    rw (more-digits m n (omega arith), length-append) (omega arith)

pub wide : (k n : ℕ) → k < most_digits → 10 ^ k ≤ n → n < 10 * 10 ^ k → k + 1 ≡ length (decimal n)
wide k n l h g = rw add-one (sym (count most_digits k n l h (rw (pow-suc 10 k) (omega arith))))

-- the digits that are left go before those that stand at the end of the part
pub record Filling (n : ℕ) (part : List ℕ) (from left : ℕ) : Type 0 where
  pub so : last_digits from left ++ drop from part ≡ decimal n
  pub long : length part ≡ length (decimal n)
  pub fits : left < 10 ^ from
  pub low : 1 ≤ from
  pub high : from ≤ length part

pub filling : (n : ℕ) (part : List ℕ) → length part ≡ length (decimal n) → n < 2 ^ 64 → Filling n part (length part) n
filling n part l h =
    let x = exact most_digits n (omega arith) (omega arith) in
    record {
      so = rw (drop_of_length-le part {i = length part} (omega arith), append-nil, l) x.same;
      long = l;
      fits = rw l x.fits;
      low = omega (arith, x.some);
      high = omega arith;
    }

-- one digit more, at the place before
set_front : (l : List ℕ) (i b : ℕ) → i < length l → drop i (set l i b) ≡ b ∷ drop (suc i) l
set_front l i b h = rw (set_split l i b h) (drop_at (take i l) (b ∷ drop (suc i) l) i (length-take-le i l (omega arith)))

-- where one digit is left, its place is the first of the part
first-left : (n from left : ℕ) (part : List ℕ) → Filling n part from left → left ≤ 9 → from ≡ 1
first-left n from left part f h =
    let one = rw (one-digit from left f.low (omega arith)) at f.so in
    omega (arith, simp length-drop at (ap length one), f.long, f.high, f.low)

-- where more places are left, so are more digits
more-left : (n from left : ℕ) (part : List ℕ) → Filling n part from left → 1 < from → 9 < left
more-left n from left part f h = by-test (ltb left 10) refl
  where
    by-test : (b : Bool) → ltb left 10 ≡ b → 9 < left
    by-test true e = absurd (omega (arith, h, first-left n from left part f (omega (arith, ltb-true left 10 e))))
    by-test false e = omega (arith, ltb-false left 10 e)

pub filling-again : (n from left : ℕ) (part : List ℕ) → Filling n part from left → 1 < from
    → Filling n (set part (from - 1) (48 + left % 10)) (from - 1) (left / 10)
filling-again n zero left part f h = absurd (omega arith)
filling-again n (suc zero) left part f h = absurd (omega arith)
filling-again n (suc (suc from)) left part f h =
    let i = suc from in
    let placed = set_front part i (48 + left % 10) (omega (arith, f.high)) in
    let fewer : left / 10 < 10 ^ i = omega (arith, rw (pow-suc 10 i) at f.fits) in
    rw sub-one
    (record {
      so =
          rw placed
          (sym (append_assoc (last_digits i (left / 10)) ((48 + left % 10) ∷ []) (drop (suc i) part))
          ∙ ap (λ (t : List ℕ). t ++ drop (suc i) part) (sym (more-digits i left (more-left n (suc i) left part f h)))
          ∙ f.so);
      long = length-set part i (48 + left % 10) ∙ f.long;
      fits = fewer;
      low = omega arith;
      high = simp length-set (omega (arith, f.high));
    })

-- at the first place one digit is left
pub one-left : (n from left : ℕ) (part : List ℕ) → Filling n part from left → from ≤ 1 → left ≤ 9
one-left n zero left part f h = absurd (omega (arith, f.low))
one-left n (suc zero) left part f h = omega (arith, f.fits)
one-left n (suc (suc from)) left part f h = absurd (omega arith)

pub filled : (n from left : ℕ) (part : List ℕ) → Filling n part from left → from ≤ 1 → set part 0 (48 + left) ≡ decimal n
filled n zero left part f h = absurd (omega (arith, f.low))
filled n (suc zero) left part f h =
    let first = set_front part 0 (48 + left) (omega (arith, f.high)) in
    first ∙ sym (ap (λ (t : List ℕ). t ++ drop 1 part) (one-digit 1 left (omega arith) (omega (arith, f.fits)))) ∙ f.so
filled n (suc (suc from)) left part f h = absurd (omega arith)

-- the front of a buffer, where the part was put back
pub front : (part rest t : List ℕ) (w : ℕ) → part ≡ t → w ≡ length t → take w (part ++ rest) ≡ t
front part rest t w e l = rw (l ∙ sym (ap length e)) (take-append_seam part rest ∙ e)

either : (b : Bool) (t u : List ℕ) (n : ℕ) → length t ≤ n → length u ≤ n → length (cond b t u) ≤ n
either true t u n h k = h
either false t u n h k = k

pub length_digits : (most n : ℕ) → length (last_digits most n) ≤ most
unfolding last_digits
length_digits zero n = omega arith
length_digits (suc most) n =
    let front = length_digits most (n / 10) in
    let all = length-append (last_digits most (n / 10)) ((48 + n % 10) ∷ []) in
    either (ltb n 10) _ _ (suc most) (omega arith) (omega arith)

-- ---- a part of the buffer that is as long as the text
over-all : (o t : List ℕ) → length t ≡ length o → overlaid o 0 t ≡ t
over-all o t e = rw (zero-add (length t), drop_of_length-le o {i = length t} (omega arith)) (append-nil t)

part_filled : {o o₁ t : List ℕ} {r : ℕ} → length t ≡ length o → Puts o 0 t r o₁ → o₁ ≡ t
part_filled {o} {o₁} {t} e p = whole-stands (omega arith) p ∙ over-all o t e

-- the part put back
pub put-part : (o part t : List ℕ) (at end : ℕ) → part ≡ t → end ≡ at + length t → end ≤ length o → Puts o at t end (put_mid at (end - at) o part)
put-part o part t at end f e h =
    let size : end - at ≡ length t = omega arith in
    put_whole (omega arith) e (rw (f, size, drop-drop) (sym (append_assoc (take at o) t (drop (at + length t) o))))

-- ---- hex
-- the sum has the seven signs between 9 and A in it from ten on
pub hex-sum : (n x : ℕ) → x ≡ cond (ltb n 10) 0 7 → 48 + n + x ≡ hex_digit n
hex-sum n x e = by-test (ltb n 10) e
  where
    by-test : (b : Bool) → x ≡ cond b 0 7 → 48 + n + x ≡ cond b (48 + n) (55 + n)
    by-test true e = omega (arith, e)
    by-test false e = omega (arith, e)

pub hex-most : (n x : ℕ) → x ≡ cond (ltb n 10) 0 7 → x ≤ 7
hex-most n x e = by-test (ltb n 10) e
  where
    by-test : (b : Bool) → x ≡ cond b 0 7 → x ≤ 7
    by-test true e = omega (arith, e)
    by-test false e = omega (arith, e)

pub hex-two : (o o₁ o₂ : List ℕ) (at r q b x y : ℕ) → x ≡ hex_digit (b / 16) → Puts o at (x ∷ []) r o₁ → y ≡ hex_digit (b % 16)
    → Puts o₁ r (y ∷ []) q o₂ → Puts o at (hex_byte b) q o₂
hex-two o o₁ o₂ at r q b x y e p f k = moved (then p k) (rw (e, f))

hexes-append : (s t : List ℕ) → hexes (s ++ t) ≡ hexes s ++ hexes t
unfolding hexes
hexes-append [] t = refl
hexes-append (b ∷ s) t = ap (λ (z : List ℕ). hex_byte b ++ z) (hexes-append s t)

pub length-hexes : (bs : List ℕ) → length (hexes bs) ≡ 2 * length bs
unfolding hexes
length-hexes [] = refl
length-hexes (b ∷ bs) = let h = length-hexes bs in omega arith

pub hexes-none : (o s : List ℕ) (at : ℕ) → Puts o at (hexes (take 0 s)) at o
unfolding hexes
hexes-none o s at = put-none o at

-- one byte more
more-hexes : (s : List ℕ) (i : ℕ) → i < length s → hexes (take i s) ++ hex_byte (get_or s i 0) ≡ hexes (take (i + 1) s)
unfolding hexes
more-hexes s i h = rw (add-one, take-suc s i 0 h) (sym (hexes-append (take i s) (get_or s i 0 ∷ [])))

pub hexes-more : (o o₁ o₂ s : List ℕ) (at i r q : ℕ) → i < length s → Puts o at (hexes (take i s)) r o₁ → Puts o₁ r (hex_byte (get_or s i 0)) q o₂
    → Puts o at (hexes (take (i + 1) s)) q o₂
hexes-more o o₁ o₂ s at i r q h p k = moved (then p k) (more-hexes s i h)

pub hexes-all : (o o₁ s : List ℕ) (at i r : ℕ) → length s ≤ i → Puts o at (hexes (take i s)) r o₁ → Puts o at (hexes s) r o₁
hexes-all o o₁ s at i r h p = moved p (ap hexes (take_all i s h))

-- two digits more, in a part with room for all of them
pub fill_more : (o o₁ s : List ℕ) (i x y : ℕ) → length o ≡ 2 * length s → i < length s → x ≡ hex_digit (get_or s i 0 / 16)
    → y ≡ hex_digit (get_or s i 0 % 16) → Puts o 0 (hexes (take i s)) (2 * i) o₁
    → Puts o 0 (hexes (take (i + 1) s)) (2 * (i + 1)) (set (set o₁ (2 * i) x) (2 * i + 1) y)
fill_more o o₁ s i x y l h e f p =
    let first = put-one-fits o₁ (2 * i) x (omega (arith, size p)) in
    let second = put-one-fits (set o₁ (2 * i) x) (2 * i + 1) y (simp length-set (omega (arith, size p))) in
    let next : 2 * i + 1 + 1 ≡ 2 * (i + 1) = omega arith in
    rw next at (hexes-more _ _ _ s 0 i _ _ h p (hex-two _ _ _ _ _ _ (get_or s i 0) x y e first f second))

pub fill-all : (o o₁ s : List ℕ) (i : ℕ) → length o ≡ 2 * length s → length s ≤ i → Puts o 0 (hexes (take i s)) (2 * i) o₁ → o₁ ≡ hexes s
fill-all o o₁ s i l h p = part_filled (omega (arith, length-hexes s)) (hexes-all o o₁ s 0 i (2 * i) h p)
