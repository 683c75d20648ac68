-- Straight runs: what stands or is put up to the ring's end is a run, and the rest is one from its front.
use Prim.Native.Nat.{ℕ, zero, suc, ◌+◌, ◌-◌, ◌<◌, ◌≤◌, min}
use mathlib.Core.Path.{◌≡◌, refl, sym, ap, ap₂, ◌∙◌, subst}
use mathlib.Core.Bool.{Bool, true, cond, ◌&&◌}
use mathlib.Core.List.{List, [], ◌∷◌, ◌++◌}
use native.Mathlib.Numerals.{add-one}
use native.Mathlib.Omega.{arith}
use native.Mathlib.Nat.{min-le_left, min-le_right}
use borrow.Author.Tests.{lt-ltb, le-ltb, ltb-true, leb-true}
use lib.Dec.{ltb, leb}
use lib.ListN.{length, get_or, set, take, drop, length-set, length-drop, take-append-drop}
use borrow.Rule.Slice.PartMut.{put_mid}
use Rattle.std.proofs.lemmas.Slice.{put_mid-paste}
use lib.Seq.{drop-cons, sets, sets-eq, paste, paste-zero, length-take-le, take_all, drop-drop, drop_at, take_at}
use Rattle.rules.specs.declared.Ring.{Ring}
use Rattle.rules.proofs.Choice.{and_l, and_r}
use Rattle.ring.specs.Lent.{takes, goes_out, take_out}
use Rattle.rules.specs.Ring.{next, wrap, put, queue}
use Rattle.rules.proofs.RingLaws.{wrap-zero, wrap-next, next-lt, length-put, queue-split}

-- ---- out
-- what stands before the ring's end is a run
queue-straight : (ring : List ℕ) (at k : ℕ) → at + k ≤ length ring → queue ring at k ≡ take k (drop at ring)
queue-straight ring at zero h = refl
queue-straight ring at (suc zero) h = sym (ap (take 1) (drop-cons ring at 0 (omega arith)))
queue-straight ring at (suc (suc k)) h =
    let more : at + 1 < length ring = omega arith in
    let rest : queue ring (next (length ring) at) (suc k) ≡ take (suc k) (drop (suc at) ring) =
    ap (λ (j : ℕ). queue ring j (suc k)) (ap (λ (t : Bool). cond t (at + 1) 0) (lt-ltb (at + 1) (length ring) more))
    ∙ queue-straight ring (at + 1) (suc k) (omega arith)
    ∙ ap (λ (j : ℕ). take (suc k) (drop j ring)) (add-one at) in
    ap (λ (xs : List ℕ). get_or ring at 0 ∷ xs) rest ∙ sym (ap (take (suc (suc k))) (drop-cons ring at 0 (omega arith)))

-- k bytes are a run up to the end and one from the front
module _ (ring : List ℕ) (at k : ℕ) (h : at < length ring) (l : k ≤ length ring) where
  abbrev pub run : ℕ
  run = min k (length ring - at)

  pub run-le : run ≤ k
  run-le = min-le_left k (length ring - at)

  pub run_inside : at + run ≤ length ring
  run_inside = omega (arith, min-le_right k (length ring - at))

  -- where it is not all, it goes up to the end, and the rest stands from the front
  pub front : run < k → wrap (length ring) (at + run) ≡ 0
  front e =
      let full : at + run ≡ length ring = omega arith in
      ap (wrap (length ring)) full ∙ simp (le-ltb (length ring) (length ring) (omega arith)) (omega arith)

  rest_out : (m : ℕ) → m ≡ k - run → queue ring (wrap (length ring) (at + run)) m ≡ take m ring
  rest_out zero e = refl
  rest_out (suc m) e = ap (λ (j : ℕ). queue ring j (suc m)) (front (omega arith)) ∙ queue-straight ring 0 (suc m) (omega arith)

  pub queue-runs : queue ring at k ≡ take run (drop at ring) ++ take (k - run) ring
  queue-runs =
      let parts : k ≡ run + (k - run) = omega arith in
      ap (λ (j : ℕ). queue ring at j) parts
      ∙ queue-split ring at run (k - run) h (omega (arith, run_inside))
      ∙ ap₂ (λ (xs ys : List ℕ). xs ++ ys) (queue-straight ring at run run_inside) (rest_out (k - run) refl)

  -- two runs into the front of a part
  pub out-runs : (out : List ℕ) → k ≤ length out
      → paste (paste out 0 (drop at ring) run) run ring (k - run) ≡ queue ring at k ++ drop k out
  out-runs out fits =
      let m : ℕ = k - run in
      let first : List ℕ = take run (drop at ring) in
      let long : length first ≡ run = length-take-le run (drop at ring) (omega (arith, length-drop at ring)) in
      let all : 0 + run + m ≡ k = omega arith in
      let behind : drop (run + m) (first ++ drop (0 + run) out) ≡ drop k out =
      sym (drop-drop m run (first ++ drop (0 + run) out))
      ∙ ap (drop m) (drop_at first (drop (0 + run) out) run long)
      ∙ drop-drop m (0 + run) out
      ∙ ap (λ (j : ℕ). drop j out) all in
      ap₂ (λ (xs ys : List ℕ). xs ++ take m ring ++ ys) (take_at first (drop (0 + run) out) run long) behind
      ∙ ap (λ (xs : List ℕ). xs ++ drop k out) (sym queue-runs)

-- ---- in
put-sets : (bs ring : List ℕ) (at : ℕ) → at + length bs ≤ length ring → put ring at bs ≡ sets ring at bs
put-sets [] ring at h = refl
put-sets (b ∷ []) ring at h = refl
put-sets (b ∷ c ∷ bs) ring at h =
    let h' : at + suc (suc (length bs)) ≤ length ring = h in
    let more : at + 1 < length ring = omega arith in
    ap (λ (j : ℕ). put (set ring at b) j (c ∷ bs)) (ap (λ (t : Bool). cond t (at + 1) 0) (lt-ltb (at + 1) (length ring) more) ∙ add-one at)
    ∙ put-sets (c ∷ bs) (set ring at b) (suc at) (omega (arith, length-set ring at b))

-- what is put before the ring's end is a run
put-straight : (ring bs : List ℕ) (at j : ℕ) → at + j ≤ length ring → j ≤ length bs → put ring at (take j bs) ≡ paste ring at bs j
put-straight ring bs at j h l =
    let long : length (take j bs) ≡ j = length-take-le j bs l in
    let fits : at + length (take j bs) ≤ length ring = omega (arith, long) in
    put-sets (take j bs) ring at fits
    ∙ sets-eq (take j bs) ring at fits
    ∙ ap (λ (i : ℕ). take at ring ++ take j bs ++ drop (at + i) ring) long

put-append : (xs ys ring : List ℕ) (at : ℕ) → at < length ring → length xs ≤ length ring
    → put ring at (xs ++ ys) ≡ put (put ring at xs) (wrap (length ring) (at + length xs)) ys
put-append [] ys ring at h l = ap (λ (j : ℕ). put ring j ys) (sym (wrap-zero (length ring) at h))
put-append (x ∷ xs) ys ring at h l =
    let n : ℕ = length ring in
    let l' : suc (length xs) ≤ n = l in
    let same : length (set ring at x) ≡ n = length-set ring at x in
    put-append xs ys (set ring at x) (next n at) (subst (λ (i : ℕ). next n at < i) (sym same) (next-lt n at h)) (omega (arith, same))
    ∙ ap (λ (j : ℕ). put (put (set ring at x) (next n at) xs) j ys)
    (ap (λ (i : ℕ). wrap i (next n at + length xs)) same ∙ wrap-next n at (length xs) h (omega arith))

rest_in : (ring bs : List ℕ) (p m : ℕ) → m ≤ length ring → m ≤ length bs → (0 < m → p ≡ 0) → put ring p (take m bs) ≡ paste ring 0 bs m
rest_in ring bs p zero h l z = paste-zero ring 0 bs
rest_in ring bs p (suc m) h l z = ap (λ (j : ℕ). put ring j (take (suc m) bs)) (z (omega arith)) ∙ put-straight ring bs 0 (suc m) (omega arith) l

-- k bytes are put as a run up to the end and one from the front
module _ (ring bs : List ℕ) (at : ℕ) (h : at < length ring) (l : length bs ≤ length ring) where
  abbrev near : ℕ
  near = run ring at (length bs) h l

  pub in-runs : put ring at bs ≡ paste (paste ring at bs near) 0 (drop near bs) (length bs - near)
  in-runs =
      let le : near ≤ length bs = run-le ring at (length bs) h l in
      let long : length (take near bs) ≡ near = length-take-le near bs le in
      let first : List ℕ = put ring at (take near bs) in
      let far : length bs - near ≤ length (drop near bs) = omega (arith, length-drop near bs) in
      ap (put ring at) (sym (take-append-drop near bs))
      ∙ put-append (take near bs) (drop near bs) ring at h (omega (arith, long))
      ∙ ap (λ (i : ℕ). put first (wrap (length ring) (at + i)) (drop near bs)) long
      ∙ ap (put first (wrap (length ring) (at + near))) (sym (take_all (length bs - near) (drop near bs) (omega (arith, length-drop near bs))))
      ∙ rest_in first (drop near bs) _ (length bs - near) (omega (arith, length-put (take near bs) ring at)) far
      (λ e. front ring at (length bs) h l (omega arith))
      ∙ ap (λ (d : List ℕ). paste d 0 (drop near bs) (length bs - near)) (put-straight ring bs at near (run_inside ring at (length bs) h l) le)

-- ---- the end of `fill`, and of `take_out`
-- a part that holds a run's bytes stands in the whole as the run
pub run_is : (dst src part : List ℕ) (to n k : ℕ) → n ≤ length src → part ≡ take n src → n ≡ k → put_mid to k dst part ≡ paste dst to src n
run_is dst src part to n k l e f =
    let long : length (take n src) ≡ n = length-take-le n src l in
    put_mid-paste to k dst part (take n src) n e f (sym long)
    ∙ ap (λ (xs : List ℕ). take to dst ++ xs ++ drop (to + n) dst) (take_all n (take n src) (omega (arith, long)))

pub fill_end : (ring bs first second : List ℕ) (at near k : ℕ) → at < length ring → length bs ≤ length ring → near ≡ min (length bs) (length ring - at)
    → first ≡ take near bs → second ≡ take (length bs - near) (drop near bs) → near ≡ k → put_mid 0 (length bs - near) (put_mid at k ring first) second ≡ put ring at bs
fill_end ring bs first second at near k h l n f s e =
    let m : ℕ = length bs - near in
    let le : near ≤ length bs = omega (arith, n, min-le_left (length bs) (length ring - at)) in
    let far : length (drop near bs) ≡ m = length-drop near bs in
    run_is (put_mid at k ring first) (drop near bs) second 0 m m (omega (arith, far)) s refl
    ∙ ap (λ (d : List ℕ). paste d 0 (drop near bs) m) (run_is ring bs first at near k le f e)
    ∙ rw n (sym (in-runs ring bs at h l))

goes_some : (n start want room : ℕ) → start < n → min (min want n) room ≡ goes_out n start want room
goes_some n start want room h = simp (lt-ltb start n h)

pub goes_none : (n start want room : ℕ) → n ≤ start → 0 ≡ goes_out n start want room
goes_none n start want room h = simp (le-ltb start n h)

pub take_end : (ring out first second : List ℕ) (at want k near n : ℕ) → at < length ring → k ≡ min (min want (length ring)) (length out)
    → near ≡ min k (length ring - at) → first ≡ take n (drop at ring) → second ≡ take (k - near) ring → near ≡ n
    → put_mid near (k - near) (put_mid 0 near out first) second ≡ take_out ring at want out
unfolding take_out
take_end ring out first second at want k near n h g e f s m =
    let inside : k ≤ length ring = omega arith in
    let fits : k ≤ length out = omega arith in
    let le : near ≤ length (drop at ring) = omega (arith, length-drop at ring) in
    run_is (put_mid 0 near out first) ring second near (k - near) (k - near) (omega arith) s refl
    ∙ ap (λ (d : List ℕ). paste d near ring (k - near)) (run_is out (drop at ring) first 0 near near le (f ∙ ap (λ (j : ℕ). take j (drop at ring)) (sym m)) refl)
    ∙ rw e (out-runs ring at k h inside out fits)
    ∙ ap (λ (j : ℕ). queue ring at j ++ drop j out) (g ∙ goes_some (length ring) at want (length out) h)

pub take_none : (ring out : List ℕ) (at want : ℕ) → length ring ≤ at → out ≡ take_out ring at want out
unfolding take_out
take_none ring out at want h = ap (λ (j : ℕ). queue ring at j ++ drop j out) (goes_none (length ring) at want (length out) h)

-- ---- what the test `takes` says
pub took : (g : Ring) (n k : ℕ) → takes g n k ≡ true → (g.start < n) × (g.stored ≤ n) × (k ≤ n - g.stored)
took g n k e =
    let ab : (ltb g.start n && leb g.stored n) ≡ true = and_l (ltb g.start n && leb g.stored n) (leb k (n - g.stored)) e in (
      ltb-true g.start n (and_l (ltb g.start n) (leb g.stored n) ab),
      leb-true g.stored n (and_r (ltb g.start n) (leb g.stored n) ab),
      leb-true k (n - g.stored) (and_r (ltb g.start n && leb g.stored n) (leb k (n - g.stored)) e),
    )
