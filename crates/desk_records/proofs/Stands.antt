-- A record stands at the front of some bytes exactly where mark, kind and length are right and its payload is there.
use Prim.Native.Nat.{ℕ, ◌+◌, ◌≤◌}
use mathlib.Core.Path.{◌≡◌, refl, ap}
use mathlib.Core.Bool.{Bool, true, false, cond}
use mathlib.Core.List.{List}
use native.Mathlib.Omega.{arith}
use lib.Dec.{leb, eqb}
use lib.ListN.{length, get_or}
use borrow.Author.Tests.{leb-true, eqb-true, le-leb, eq-eqb}
use Rattle.std.specs.Prelude.{Option, Some, None, Ok}
use Rattle.desk_kinds.specs.declared.Limits.{Limits}
use Rattle.desk_kinds.specs.Kinds.{limits_of, is_listed, within}
use Rattle.desk_records.specs.declared.Fault.{Fault}
use Rattle.desk_records.specs.declared.Whole.{Whole}
use Rattle.desk_records.specs.Reading.{first_mark, length_at, head_of, length_in, Front, whole_of, wrong_at, expect, sized, front}

pub record Stands (m w k n : ℕ) (s : List ℕ) : Type 0 where
  pub first : get_or s 0 0 ≡ first_mark
  pub second : get_or s 1 0 ≡ m
  pub kind : get_or s 2 0 ≡ k
  pub size : length_in w s ≡ n
  pub allowed : within (limits_of k) n ≡ true
  pub inside : head_of w + n ≤ length s

-- ---- one step of the tests
record Passed (l i : ℕ) (ok : Bool) (rest f : Front) : Type 0 where
  there : i ≤ l
  right : ok ≡ true
  then : rest ≡ f

chosen : (l i j : ℕ) (f : Whole) (t ok : Bool) (fault : Fault) (rest : Front) → leb i l ≡ t
    → cond t (cond ok rest (wrong_at fault j)) (wrong_at Fault.Cut l) ≡ Ok f → Passed l i ok rest (Ok f)
chosen l i j f true true fault rest p e = record { there = leb-true i l p; right = refl; then = e }
chosen l i j f true false fault rest p e = absurd (cc)
chosen l i j f false ok fault rest p e = absurd (cc)

passed : (s : List ℕ) (i w : ℕ) (f : Whole) (ok : Bool) (fault : Fault) (rest : Front) → expect s i w ok fault rest ≡ Ok f
    → Passed (length s) (i + w) ok rest (Ok f)
passed s i w f ok fault rest e = chosen (length s) (i + w) i f (leb (i + w) (length s)) ok fault rest refl e

pass : (s : List ℕ) (i w : ℕ) (ok : Bool) (fault : Fault) (rest f : Front) → i + w ≤ length s → ok ≡ true → rest ≡ f
    → expect s i w ok fault rest ≡ f
pass s i w ok fault rest f h o e = rw (le-leb (i + w) (length s) h, o) e

-- ---- the front is whole, and so the record stands there
pub stands : {m w : ℕ} {s : List ℕ} {f : Whole} → front m w s ≡ Ok f → Stands m w f.kind f.len s
unfolding front sized
stands {m} {w} {s} {f} e =
    let a = passed s 0 1 f (eqb (get_or s 0 0) first_mark) Fault.Mark _ e in
    let b = passed s 1 1 f (eqb (get_or s 1 0) m) Fault.Mark _ a.then in
    let c = passed s 2 1 f (is_listed (limits_of (get_or s 2 0))) Fault.Kind _ b.then in
    let d = passed s length_at w f (within (limits_of (get_or s 2 0)) (length_in w s)) Fault.Length _ c.then in
    let last = passed s (head_of w) (length_in w s) f true Fault.Length (whole_of (get_or s 2 0) (length_in w s)) d.then in
    let same : ◌≡◌ {A = Whole} (record { kind = get_or s 2 0; len = length_in w s }) f = cc last.then in
    let g : get_or s 2 0 ≡ f.kind = ap (λ (x : Whole). x.kind) same in
    let h : length_in w s ≡ f.len = ap (λ (x : Whole). x.len) same in
    record {
      first = eqb-true (get_or s 0 0) first_mark a.right;
      second = eqb-true (get_or s 1 0) m b.right;
      kind = g;
      size = h;
      allowed = rw (g, h) at d.right;
      inside = rw h at last.there;
    }

-- ---- and back
within-listed : (l : Option Limits) (n : ℕ) → within l n ≡ true → is_listed l ≡ true
within-listed None n e = e
within-listed (Some l) n e = refl

pub whole : {m w k n : ℕ} {s : List ℕ} → Stands m w k n s → front m w s ≡ whole_of k n
unfolding front sized
whole {m} {w} {k} {n} {s} h =
    let i = h.inside in
    let l : is_listed (limits_of (get_or s 2 0)) ≡ true = rw h.kind (within-listed (limits_of k) n h.allowed) in
    let a : within (limits_of (get_or s 2 0)) (length_in w s) ≡ true = rw (h.kind, h.size) h.allowed in
    pass s 0 1 _ Fault.Mark _ _ (omega arith) (eq-eqb (get_or s 0 0) first_mark h.first)
    (pass s 1 1 _ Fault.Mark _ _ (omega arith) (eq-eqb (get_or s 1 0) m h.second)
    (pass s 2 1 _ Fault.Kind _ _ (omega arith) l
    (pass s length_at w _ Fault.Length _ _ (omega arith) a
    (pass s (head_of w) (length_in w s) true Fault.Length _ _ (omega (arith, h.size)) refl (rw (h.kind, h.size))))))
