-- The ring is a queue: bytes put in behind are read last, and a start moved on by k drops the first k.
use Prim.Native.Nat.{ℕ, zero, suc, ◌+◌, ◌-◌, ◌<◌, ◌≤◌}
use mathlib.Core.Path.{◌≡◌, refl, sym, ap, ap₂, ◌∙◌, subst}
use mathlib.Core.Logic.{◌≢◌}
use mathlib.Core.Bool.{cond}
use mathlib.Core.List.{List, [], ◌∷◌, ◌++◌, append_assoc, append-nil}
use lib.Dec.{ltb}
use lib.ListN.{length, get_or, set, take, drop, length-set}
use lib.Seq.{get_or-set_same, get_or-set_other, take_at, drop_at}
use native.Mathlib.Omega.{arith}
use native.Mathlib.Nat.{suc-add, add-zero, zero-add}
use borrow.Author.Tests.{ltb-true, ltb-false, lt-ltb, le-ltb}
use Rattle.rules.specs.Ring.{next, wrap, put, queue}
use Rattle.rules.proofs.Choice.{choice}

-- ---- places
by-lt : (P : ℕ → Type 0) (a b : ℕ) {x y : ℕ} → (a < b → P x) → (b ≤ a → P y) → P (cond (ltb a b) x y)
by-lt P a b f g = choice P (ltb a b) (λ e. f (ltb-true a b e)) (λ e. g (ltb-false a b e))

pub next-lt : (n at : ℕ) → at < n → next n at < n
next-lt n at h = by-lt (λ (k : ℕ). k < n) (at + 1) n (λ e. e) (λ e. omega arith)

pub wrap-lt : (n at k : ℕ) → at < n → k ≤ n → wrap n (at + k) < n
wrap-lt n at k h hk = by-lt (λ (j : ℕ). j < n) (at + k) n (λ e. e) (λ e. omega arith)

pub wrap-zero : (n at : ℕ) → at < n → wrap n (at + 0) ≡ at
wrap-zero n at h = by-lt (λ (j : ℕ). j ≡ at) (at + 0) n (λ e. omega arith) (λ e. omega arith)

-- one on, then k; k, then one on: both are k + 1 on
pub wrap-next : (n at k : ℕ) → at < n → k < n → wrap n (next n at + k) ≡ wrap n (at + suc k)
wrap-next n at k h hk =
    by-lt (λ (j : ℕ). wrap n (j + k) ≡ wrap n (at + suc k)) (at + 1) n (λ e. ap (λ (j : ℕ). wrap n j) (omega arith)) λ e.
    let low : 0 + k < n = omega arith in
    let high : n ≤ at + suc k = omega arith in
    simp (lt-ltb (0 + k) n low, le-ltb (at + suc k) n high) (omega arith)

next-wrap : (n at k : ℕ) → at < n → k < n → next n (wrap n (at + k)) ≡ wrap n (at + suc k)
next-wrap n at k h hk =
    by-lt (λ (j : ℕ). next n j ≡ wrap n (at + suc k)) (at + k) n
    (λ e. by-lt (λ (j : ℕ). next n (at + k) ≡ j) (at + suc k) n
    (λ f. by-lt (λ (j : ℕ). j ≡ at + suc k) (at + k + 1) n (λ g. omega arith) (λ g. omega arith))
    (λ f. by-lt (λ (j : ℕ). j ≡ at + suc k - n) (at + k + 1) n (λ g. omega arith) (λ g. omega arith)))
    (λ e. by-lt (λ (j : ℕ). next n (at + k - n) ≡ j) (at + suc k) n
    (λ f. by-lt (λ (j : ℕ). j ≡ at + suc k) (at + k - n + 1) n (λ g. omega arith) (λ g. omega arith))
    (λ f. by-lt (λ (j : ℕ). j ≡ at + suc k - n) (at + k - n + 1) n (λ g. omega arith) (λ g. omega arith)))

-- ---- lengths
pub length-put : (bs ring : List ℕ) (at : ℕ) → length (put ring at bs) ≡ length ring
length-put [] ring at = refl
length-put (b ∷ bs) ring at = length-put bs (set ring at b) (next (length ring) at) ∙ length-set ring at b

pub length-queue : (ring : List ℕ) (at k : ℕ) → length (queue ring at k) ≡ k
length-queue ring at zero = refl
length-queue ring at (suc k) = ap suc (length-queue ring (next (length ring) at) k)

-- ---- one byte put behind k bytes that stand from `at` on follows them
put_one : (ring : List ℕ) (at k b : ℕ) → at < length ring → k < length ring
    → queue (set ring (wrap (length ring) (at + k)) b) at (suc k) ≡ queue ring at k ++ (b ∷ [])
put_one ring at zero b h hk = ap (λ (x : ℕ). x ∷ []) (rw (wrap-zero (length ring) at h) (get_or-set_same ring at b 0 h))
put_one ring at (suc k) b h hk =
    let n : ℕ = length ring in
    let p : ℕ = wrap n (at + suc k) in
    let apart : at ≡ p → ⊥ = by-lt (λ (j : ℕ). at ≡ j → ⊥) (at + suc k) n (λ e. omega arith) (λ e. omega arith) in
    let rest : queue (set ring p b) (next (length (set ring p b)) at) (suc k) ≡ queue ring (next n at) k ++ (b ∷ []) =
    ap (λ (m : ℕ). queue (set ring p b) (next m at) (suc k)) (length-set ring p b)
    ∙ ap (λ (q : ℕ). queue (set ring q b) (next n at) (suc k)) (sym (wrap-next n at k h (omega arith)))
    ∙ put_one ring (next n at) k b (next-lt n at h) (omega arith) in
    ap₂ (λ (x : ℕ) (xs : List ℕ). x ∷ xs) (get_or-set_other ring p at b 0 apart) rest

-- what comes out is what went in, in order: the bytes put behind the k stored ones follow them
pub put-queue : (bs ring : List ℕ) (at k : ℕ) → at < length ring → k + length bs ≤ length ring
    → queue (put ring (wrap (length ring) (at + k)) bs) at (k + length bs) ≡ queue ring at k ++ bs
put-queue [] ring at k h hk = ap (λ (j : ℕ). queue ring at j) (add-zero k) ∙ sym (append-nil (queue ring at k))
put-queue (b ∷ bs) ring at k h hk =
    let n : ℕ = length ring in
    let ring' : List ℕ = set ring (wrap n (at + k)) b in
    let same : length ring' ≡ n = length-set ring (wrap n (at + k)) b in
    let hk' : k + suc (length bs) ≤ n = hk in
    let one : k + suc (length bs) ≡ suc k + length bs = omega arith in
    ap (λ (j : ℕ). queue (put ring' j bs) at (k + suc (length bs))) (next-wrap n at k h (omega arith) ∙ ap (λ (m : ℕ). wrap m (at + suc k)) (sym same))
    ∙ ap (λ (j : ℕ). queue (put ring' (wrap (length ring') (at + suc k)) bs) at j) one
    ∙ put-queue bs ring' at (suc k) (omega arith) (omega arith)
    ∙ ap (λ (xs : List ℕ). xs ++ bs) (put_one ring at k b h (omega arith))
    ∙ append_assoc (queue ring at k) (b ∷ []) bs

-- no other ring byte changes
pub put_other : (bs ring : List ℕ) (at i : ℕ) → at < length ring → length bs ≤ length ring
    → ((k : ℕ) → k < length bs → i ≢ wrap (length ring) (at + k)) → get_or (put ring at bs) i 0 ≡ get_or ring i 0
put_other [] ring at i h l d = refl
put_other (b ∷ bs) ring at i h l d =
    let n : ℕ = length ring in
    let same : length (set ring at b) ≡ n = length-set ring at b in
    let m : suc (length bs) ≤ n = l in
    put_other bs (set ring at b) (next n at) i (subst (λ (x : ℕ). next n at < x) (sym same) (next-lt n at h)) (omega arith)
    (λ k e. subst (λ (x : ℕ). i ≢ wrap x (next n at + k)) (sym same)
    (subst (λ (x : ℕ). i ≢ x) (sym (wrap-next n at k h (omega arith))) (d (suc k) (omega arith))))
    ∙ get_or-set_other ring at i b 0 (subst (λ (x : ℕ). i ≢ x) (wrap-zero n at h) (d 0 (omega arith)))

-- the k oldest bytes, and what is left after them
pub queue-split : (ring : List ℕ) (at k m : ℕ) → at < length ring → k ≤ length ring
    → queue ring at (k + m) ≡ queue ring at k ++ queue ring (wrap (length ring) (at + k)) m
queue-split ring at zero m h hk = ap₂ (λ (j i : ℕ). queue ring i j) (zero-add m) (sym (wrap-zero (length ring) at h))
queue-split ring at (suc k) m h hk =
    let n : ℕ = length ring in
    ap (λ (j : ℕ). queue ring at j) (suc-add k m)
    ∙ ap (λ (xs : List ℕ). get_or ring at 0 ∷ xs)
    (queue-split ring (next n at) k m (next-lt n at h) (omega arith)
    ∙ ap (λ (p : ℕ). queue ring (next n at) k ++ queue ring p m) (wrap-next n at k h (omega arith)))

module _ (ring : List ℕ) (at k stored : ℕ) (h : at < length ring) (e : k ≤ stored) (l : stored ≤ length ring) where
  whole : queue ring at stored ≡ queue ring at k ++ queue ring (wrap (length ring) (at + k)) (stored - k)
  whole = ap (λ (j : ℕ). queue ring at j) (parts k stored e) ∙ queue-split ring at k (stored - k) h (omega arith)
    where
      parts : (k stored : ℕ) → k ≤ stored → stored ≡ k + (stored - k)
      parts k stored e = omega arith

  -- a start moved on by k drops the first k; those are what stood first
  pub queue-drop : drop k (queue ring at stored) ≡ queue ring (wrap (length ring) (at + k)) (stored - k)
  queue-drop = ap (drop k) whole ∙ drop_at (queue ring at k) _ k (length-queue ring at k)

  pub queue-take : take k (queue ring at stored) ≡ queue ring at k
  queue-take = ap (take k) whole ∙ take_at (queue ring at k) _ k (length-queue ring at k)
