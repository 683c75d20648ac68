-- Names: what settles one, and the kept form settles the bytes.
use Prim.Native.Nat.{ℕ, zero, suc, ◌+◌, ◌-◌, ◌*◌, ◌/◌, ◌%◌, ◌^◌, ◌≤◌, ◌<◌, min}
use mathlib.Core.Path.{◌≡◌, refl, sym, ◌∙◌, ap, ap₂, subst}
use mathlib.Core.Logic.{◌↔◌, ◌≢◌}
use mathlib.Core.Bool.{Bool, true, false, ◌&&◌, cond, true≢false, false≢true}
use mathlib.Core.List.{List, [], ◌∷◌, ◌++◌}
use lib.Dec.{eqb}
use lib.ListN.{length, take, drop, replicate, length-append, length-replicate, length-take, length-drop, take-append-drop}
use lib.Seq.{drop-drop, take_at}
use native.Mathlib.Omega.{arith}
use native.Mathlib.Nat.{add-zero, div-one, div-eq_of_lt, div-add-mod', div-div-eq-div-mul, mod-lt, mod-eq_of_lt, mul-add-div_right, mul-add-mod_self_right}
use native.Mathlib.Nat.{mul-le-mul_right, suc-mul, pow-suc, pow-succ'}
use borrow.Author.Tests.{eqb-true, eq-eqb}
use Rattle.rules.specs.declared.Named.{Named}
use Rattle.rules.specs.declared.Record.{Record}
use Rattle.rules.specs.Name.{digits, name_of, name, same, name_room, eighteen, packed, spelt, present, alike}
use Rattle.rules.specs.Record.{on}
use Rattle.rules.specs.Promises.{All}
use Rattle.rules.proofs.Choice.{choice, and_l, and_r}

-- ---- the box's test of names is equality
pub same-eq : (xs ys : List ℕ) → same xs ys ≡ true → xs ≡ ys
same-eq [] [] e = refl
same-eq [] (y ∷ ys) e = absurd (false≢true e)
same-eq (x ∷ xs) [] e = absurd (false≢true e)
same-eq (x ∷ xs) (y ∷ ys) e =
    ap₂ (λ (z : ℕ) (zs : List ℕ). z ∷ zs) (eqb-true x y (and_l (eqb x y) (same xs ys) e)) (same-eq xs ys (and_r (eqb x y) (same xs ys) e))

same_self : (xs : List ℕ) → same xs xs ≡ true
same_self [] = refl
same_self (x ∷ xs) = rw (eq-eqb x x refl) (same_self xs)

pub same-is : (xs ys : List ℕ) → (same xs ys ≡ true) ↔ (xs ≡ ys)
same-is xs ys = (same-eq xs ys, λ (e : xs ≡ ys). rw e (same_self ys))

-- ---- k digits settle a number but for what lies above them
head-is : {x y : ℕ} {xs ys : List ℕ} → x ∷ xs ≡ y ∷ ys → x ≡ y
head-is e = cc

tail-is : {x y : ℕ} {xs ys : List ℕ} → x ∷ xs ≡ y ∷ ys → xs ≡ ys
tail-is e = cc

-- a digit and the number above it settle the number
both : (a b : ℕ) → 48 + a % 10 ≡ 48 + b % 10 → a / 10 ≡ b / 10 → a ≡ b
both a b d u = sym (div-add-mod' a 10) ∙ ap₂ (λ (x y : ℕ). x * 10 + y) u (omega (arith, d)) ∙ div-add-mod' b 10

above : (a k : ℕ) → a / 10 ^ suc k ≡ a / 10 ^ k / 10
above a k = ap (λ (x : ℕ). a / x) (pow-suc 10 k) ∙ sym (div-div-eq-div-mul a (10 ^ k) 10)

settle : (k a b : ℕ) (xs ys : List ℕ) → digits k a ++ xs ≡ digits k b ++ ys → a / 10 ^ k ≡ b / 10 ^ k → a ≡ b
settle zero a b xs ys e u = sym (div-one a) ∙ u ∙ div-one b
settle (suc k) a b xs ys e u =
    settle k a b xs ys (tail-is e) (both (a / 10 ^ k) (b / 10 ^ k) (head-is e) (sym (above a k) ∙ u ∙ above b k))

-- ten digits settle a number below 10,000,000,000
pub ten-digits : (a b : ℕ) (xs ys : List ℕ) → a < 10000000000 → b < 10000000000 → digits 10 a ++ xs ≡ digits 10 b ++ ys → a ≡ b
ten-digits a b xs ys l m e = settle 10 a b xs ys e (div-eq_of_lt l ∙ sym (div-eq_of_lt m))

pub names-differ : (r x : Record) → r.job.held < 10000000000 → x.job.held < 10000000000 → r.job.held ≢ x.job.held → name r ≢ name x
unfolding name_of
names-differ r x l m d e = d (ten-digits r.job.held x.job.held _ _ l m (tail-is e))

-- the rest behind the digits
behind-digits : (k a b : ℕ) (xs ys : List ℕ) → digits k a ++ xs ≡ digits k b ++ ys → xs ≡ ys
behind-digits zero a b xs ys e = e
behind-digits (suc k) a b xs ys e = behind-digits k a b xs ys (tail-is e)

-- ---- names are equal exactly when job and Append agree and, with Append 1, SideNumber
abbrev tail : Bool → ℕ → List ℕ
tail t n = cond t (digits 3 n) [] ++ 46 ∷ 106 ∷ 112 ∷ 103 ∷ []

no_digit : (d : ℕ) → 48 + d ≡ 46 → ⊥
no_digit d h = omega (arith, h)

tails : (s t : Bool) (n m : ℕ) → n < 1000 → m < 1000 → tail s n ≡ tail t m → (s ≡ t) × (s ≡ true → n ≡ m)
tails true true n m l k e = (refl, λ _. settle 3 n m _ _ e (div-eq_of_lt l ∙ sym (div-eq_of_lt k)))
tails true false n m l k e = absurd (no_digit _ (head-is e))
tails false true n m l k e = absurd (no_digit _ (sym (head-is e)))
tails false false n m l k e = (refl, λ h. absurd (false≢true h))

same-tails : (s t : Bool) (n m : ℕ) → s ≡ t → (s ≡ true → n ≡ m) → tail s n ≡ tail t m
same-tails true true n m e h = ap (tail true) (h refl)
same-tails true false n m e h = absurd (true≢false e)
same-tails false true n m e h = absurd (false≢true e)
same-tails false false n m e h = refl

-- with Append 1 SideNumber alone settles it; else it is not asked
pub side-settles : (job append n m : ℕ) → on append ≡ true → n < 1000 → m < 1000 → name_of job append n ≡ name_of job append m → n ≡ m
unfolding name_of
side-settles job append n m o l k e = (tails (on append) (on append) n m l k (behind-digits 10 job job _ _ (tail-is e))).1 o

pub side-unused : (job append n m : ℕ) → on append ≡ false → name_of job append n ≡ name_of job append m
unfolding name_of
side-unused job append n m o = rw o refl

pub name-parts : (r x : Record) → r.job.held < 10000000000 → x.job.held < 10000000000 → r.side.number < 1000 → x.side.number < 1000
    → (name r ≡ name x)
    ↔ ((r.job.held ≡ x.job.held) × (on r.settings.append ≡ on x.settings.append)
    × (on r.settings.append ≡ true → r.side.number ≡ x.side.number))
unfolding name_of
name-parts r x l m p q = (
  λ e.
      let t = tails (on r.settings.append) (on x.settings.append) r.side.number x.side.number p q
      (behind-digits 10 r.job.held x.job.held _ _ (tail-is e)) in
      (ten-digits r.job.held x.job.held _ _ l m (tail-is e), t.0, t.1),
  λ h. ap₂ (λ (j : ℕ) (t : List ℕ). 74 ∷ digits 10 j ++ t) h.0
      (same-tails (on r.settings.append) (on x.settings.append) r.side.number x.side.number h.1 h.2),
)

-- ---- the test of kept names is equality
four : (a b : Named) → a.first ≡ b.first → a.second ≡ b.second → a.third ≡ b.third → a.len ≡ b.len → a ≡ b
four a b p q r s = λ i. record { first = p i; second = q i; third = r i; len = s i }

pub alike-eq : (a b : Named) → alike a b ≡ true → a ≡ b
alike-eq a b e =
    let len = and_r ((eqb a.first b.first && eqb a.second b.second) && eqb a.third b.third) _ e in
    let three = and_l ((eqb a.first b.first && eqb a.second b.second) && eqb a.third b.third) _ e in
    let two = and_l (eqb a.first b.first && eqb a.second b.second) _ three in
    four a b
    (eqb-true _ _ (and_l (eqb a.first b.first) _ two))
    (eqb-true _ _ (and_r (eqb a.first b.first) _ two))
    (eqb-true _ _ (and_r (eqb a.first b.first && eqb a.second b.second) _ three))
    (eqb-true _ _ len)

pub alike_self : (a b : Named) → a ≡ b → alike a b ≡ true
alike_self a b e = rw (e, eq-eqb b.first b.first refl, eq-eqb b.second _ refl, eq-eqb b.third _ refl, eq-eqb b.len _ refl) refl

-- while a job is held the last name is that job's
abbrev pub Called : Record → Type 0
Called r = r.names.last ≡ present r

-- ---- bytes in one number: as many bytes that make the same number are the same
abbrev pub Bytes : List ℕ → Type 0
Bytes bs = All (λ (b : ℕ). b < 256) bs

packed-below : (bs : List ℕ) → Bytes bs → packed bs < 256 ^ length bs
packed-below [] h = omega arith
packed-below (b ∷ bs) h =
    let p = packed-below bs h.1 in
    let m = mul-le-mul_right (256 ^ length bs) h.0 in
    omega (arith, p, m, suc-mul b (256 ^ length bs), pow-succ' 256 (length bs))

parted : (x y p q P : ℕ) → p < P → q < P → x * P + p ≡ y * P + q → (x ≡ y) × (p ≡ q)
parted x y p q P l m e =
    let some : 0 < P = omega (arith, l) in (
      sym (add-zero x) ∙ ap (λ (d : ℕ). x + d) (sym (div-eq_of_lt l)) ∙ sym (mul-add-div_right some x p) ∙ ap (λ (n : ℕ). n / P) e
          ∙ mul-add-div_right some y q ∙ ap (λ (d : ℕ). y + d) (div-eq_of_lt m) ∙ add-zero y,
      sym (mod-eq_of_lt l) ∙ sym (mul-add-mod_self_right x P p) ∙ ap (λ (n : ℕ). n % P) e ∙ mul-add-mod_self_right y P q ∙ mod-eq_of_lt m,
    )

packed-settles : (xs ys : List ℕ) → length xs ≡ length ys → Bytes xs → Bytes ys → packed xs ≡ packed ys → xs ≡ ys
packed-settles [] [] l h k e = refl
packed-settles [] (y ∷ ys) l h k e = absurd (omega (arith, l))
packed-settles (x ∷ xs) [] l h k e = absurd (omega (arith, l))
packed-settles (x ∷ xs) (y ∷ ys) l h k e =
    let n : length xs ≡ length ys = omega (arith, l) in
    let below : packed xs < 256 ^ length ys = subst (λ (m : ℕ). packed xs < 256 ^ m) n (packed-below xs h.1) in
    let two = parted x y (packed xs) (packed ys) (256 ^ length ys) below (packed-below ys k.1)
    (ap (λ (m : ℕ). x * 256 ^ m + packed xs) (sym n) ∙ e) in
    ap₂ (λ (z : ℕ) (zs : List ℕ). z ∷ zs) two.0 (packed-settles xs ys n h.1 k.1 two.1)

-- ---- the kept form settles the bytes
pub record Spelling (bs : List ℕ) : Type 0 where
  pub short : length bs ≤ name_room
  pub bytes : Bytes bs

joined_bytes : (xs ys : List ℕ) → Bytes xs → Bytes ys → Bytes (xs ++ ys)
joined_bytes [] ys h k = k
joined_bytes (x ∷ xs) ys h k = (h.0, joined_bytes xs ys h.1 k)

no_bytes : (n : ℕ) → Bytes (replicate n 0)
no_bytes zero = tt
no_bytes (suc n) = (omega arith, no_bytes n)

take-bytes : (n : ℕ) (xs : List ℕ) → Bytes xs → Bytes (take n xs)
take-bytes zero xs h = tt
take-bytes (suc n) [] h = tt
take-bytes (suc n) (x ∷ xs) h = (h.0, take-bytes n xs h.1)

drop-bytes : (n : ℕ) (xs : List ℕ) → Bytes xs → Bytes (drop n xs)
drop-bytes zero xs h = h
drop-bytes (suc n) [] h = tt
drop-bytes (suc n) (x ∷ xs) h = drop-bytes n xs h.1

eighteen-long : (bs : List ℕ) → length bs ≤ name_room → length (eighteen bs) ≡ name_room
eighteen-long bs l =
    length-append bs (replicate (name_room - length bs) 0)
    ∙ ap (λ (n : ℕ). length bs + n) (length-replicate (name_room - length bs) 0)
    ∙ omega (arith, l)

eighteen-bytes : (bs : List ℕ) → Bytes bs → Bytes (eighteen bs)
eighteen-bytes bs h = joined_bytes bs (replicate (name_room - length bs) 0) h (no_bytes (name_room - length bs))

parts : (xs : List ℕ) → take 8 xs ++ (take 8 (drop 8 xs) ++ drop 16 xs) ≡ xs
parts xs =
    ap (λ (l : List ℕ). take 8 xs ++ l)
    (ap (λ (l : List ℕ). take 8 (drop 8 xs) ++ l) (sym (drop-drop 8 8 xs)) ∙ take-append-drop 8 (drop 8 xs)) ∙ take-append-drop 8 xs

module _ (xs ys : List ℕ) (h : Spelling xs) (k : Spelling ys) where
  pub spelt-settles : spelt xs ≡ spelt ys → xs ≡ ys
  unfolding spelt
  spelt-settles e =
      let a = eighteen xs in
      let b = eighteen ys in
      let la = eighteen-long xs h.short in
      let lb = eighteen-long ys k.short in
      let ba = eighteen-bytes xs h.bytes in
      let bb = eighteen-bytes ys k.bytes in
      let one = packed-settles (take 8 a) (take 8 b) (length-take 8 a ∙ ap (min 8) (la ∙ sym lb) ∙ sym (length-take 8 b))
      (take-bytes 8 a ba) (take-bytes 8 b bb) (ap (λ (n : Named). n.first) e) in
      let long : length (drop 8 a) ≡ length (drop 8 b) = length-drop 8 a ∙ ap (λ (n : ℕ). n - 8) (la ∙ sym lb) ∙ sym (length-drop 8 b) in
      let two = packed-settles (take 8 (drop 8 a)) (take 8 (drop 8 b)) (length-take 8 (drop 8 a) ∙ ap (min 8) long ∙ sym (length-take 8 (drop 8 b)))
      (take-bytes 8 (drop 8 a) (drop-bytes 8 a ba)) (take-bytes 8 (drop 8 b) (drop-bytes 8 b bb)) (ap (λ (n : Named). n.second) e) in
      let three = packed-settles (drop 16 a) (drop 16 b) (length-drop 16 a ∙ ap (λ (n : ℕ). n - 16) (la ∙ sym lb) ∙ sym (length-drop 16 b))
      (drop-bytes 16 a ba) (drop-bytes 16 b bb) (ap (λ (n : Named). n.third) e) in
      let whole : a ≡ b = sym (parts a) ∙ rw (one, two, three) (parts b) in
      let n : length xs ≡ length ys = ap (λ (n : Named). n.len) e in
      sym (take_at xs (replicate (name_room - length xs) 0) (length xs) refl) ∙ ap (take (length xs)) whole
      ∙ take_at ys (replicate (name_room - length ys) 0) (length xs) (sym n)

  -- so one test of the kept form is the test of the bytes
  pub alike_same : alike (spelt xs) (spelt ys) ≡ same ys xs
  alike_same = go (same ys xs) refl
    where
      go : (t : Bool) → same ys xs ≡ t → alike (spelt xs) (spelt ys) ≡ t
      go true e = alike_self _ _ (ap spelt (sym (same-eq ys xs e)))
      go false e = other (alike (spelt xs) (spelt ys)) refl
        where
          other : (t : Bool) → alike (spelt xs) (spelt ys) ≡ t → t ≡ false
          other true f = absurd (true≢false (sym ((same-is ys xs).1 (sym (spelt-settles (alike-eq _ _ f)))) ∙ e))
          other false f = refl

-- ---- a name is such a spelling, whatever the record
digit-bytes : (k n : ℕ) → Bytes (digits k n)
digit-bytes zero n = tt
digit-bytes (suc k) n = (omega (arith, mod-lt (n / 10 ^ k) {m = 10} (omega arith)), digit-bytes k n)

pub name-spelling : (r : Record) → Spelling (name r)
unfolding name_of
name-spelling r =
    record {
      short = choice (λ (l : List ℕ). length (74 ∷ digits 10 r.job.held ++ l ++ 46 ∷ 106 ∷ 112 ∷ 103 ∷ []) ≤ name_room) (on r.settings.append)
          (λ _. omega arith) (λ _. omega arith);
      bytes =
          let end : Bytes (46 ∷ 106 ∷ 112 ∷ 103 ∷ []) = (omega arith, (omega arith, (omega arith, (omega arith, tt)))) in
          let side = cond (on r.settings.append) (digits 3 r.side.number) [] in (
            omega arith,
            joined_bytes (digits 10 r.job.held) (side ++ 46 ∷ 106 ∷ 112 ∷ 103 ∷ []) (digit-bytes 10 r.job.held)
                (joined_bytes side (46 ∷ 106 ∷ 112 ∷ 103 ∷ [])
                (choice Bytes (on r.settings.append) (λ _. digit-bytes 3 r.side.number) (λ _. tt)) end),
          );
    }
