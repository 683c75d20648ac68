-- The table's rules: what an arm that knows its kind finds, that a kind which is no entry's is unlisted, that no payload is longer
-- than 255 bytes, and that every payload which the table admits asks something.
use Prim.Native.Nat.{ℕ, ◌≤◌}
use mathlib.Core.Path.{◌≡◌, refl, sym, ap, ◌∙◌}
use mathlib.Core.Bool.{Bool, true, false, ◌&&◌, cond, false≢true}
use mathlib.Core.List.{List, [], ◌∷◌}
use native.Mathlib.Omega.{arith}
use lib.Dec.{eqb, leb}
use borrow.Author.Tests.{leb-true, ne_eqb}
use Rattle.std.specs.Prelude.{Option, Some, None}
use Rattle.rules.proofs.Choice.{and_l, and_r}
use Rattle.answers.specs.declared.Request.{Request}
use Rattle.desk_kinds.specs.declared.Limits.{Limits}
use Rattle.desk_kinds.specs.Kinds.{Entry, entries, entry_in, entry_of, limits_by, limits_of, said_of, within, asking_by, asking_of}

-- ---- an arm that knows its kind
pub said-arm : (k j : ℕ) (e : k ≡ j) (lo hi : ℕ) (r : Option Limits)
    → r ≡ said_of j lo hi k → said_of j lo hi j ≡ limits_of j → r ≡ limits_of k
said-arm k j e lo hi r f g = f ∙ ap (said_of j lo hi) e ∙ g ∙ ap limits_of (sym e)

-- ---- a kind that is none of the entries': what is known besides, then a miss for each
abbrev Misses : ℕ → List Entry → Type 0 → Type 0
Misses k [] N = N
Misses k (e ∷ es) N = Misses k es (N × (k ≡ e.kind → ⊥))

missed : (k : ℕ) (es : List Entry) (N : Type 0) → Misses k es N → (None ≡ entry_in k es) × N
unfolding entry_in
missed k [] N m = (refl, m)
missed k (e ∷ es) N m =
    let later = missed k es (N × (k ≡ e.kind → ⊥)) m in
    (later.0 ∙ rw (ne_eqb e.kind k (λ f. later.1.1 (sym f))), later.1.0)

pub no-limits : (k : ℕ) → Misses k entries (Unit {0}) → None ≡ limits_of k
unfolding limits_of
no-limits k m = ap limits_by (missed k entries (Unit {0}) m).0

-- ---- no payload is longer than 255 bytes
short : ℕ → List Entry → Bool
short most [] = true
short most (e ∷ es) = leb e.longest most && short most es

entries-short : (most k n : ℕ) (es : List Entry) → short most es ≡ true → within (limits_by (entry_in k es)) n ≡ true → n ≤ most
unfolding short entry_in
entries-short most k n [] s h = absurd (false≢true h)
entries-short most k n (e ∷ es) s h =
    one-short (eqb e.kind k) (leb-true e.longest most (and_l (leb e.longest most) (short most es) s))
    (entries-short most k n es (and_r (leb e.longest most) (short most es) s)) h
  where
    one-short : (t : Bool) → e.longest ≤ most → (within (limits_by (entry_in k es)) n ≡ true → n ≤ most)
        → within (limits_by (cond t (Some e) (entry_in k es))) n ≡ true → n ≤ most
    one-short true g later h = let l = leb-true n e.longest (and_r (leb e.shortest n) (leb n e.longest) h) in omega arith
    one-short false g later h = later h

all_short : short 255 entries ≡ true
unfolding short entries
all_short = refl

pub listed-short : (k n : ℕ) → within (limits_of k) n ≡ true → n ≤ 255
unfolding limits_of
listed-short k n h = entries-short 255 k n entries all_short h

-- ---- what the table admits asks something
asks-by : (e : Option Entry) (n : ℕ) (p : List ℕ) → within (limits_by e) n ≡ true → (q : Request) × (asking_by p e ≡ Some q)
asks-by None n p w = absurd (false≢true w)
asks-by (Some e) n p w = (e.requested p, refl)

pub admitted-asks : (k n : ℕ) (p : List ℕ) → within (limits_of k) n ≡ true → (q : Request) × (asking_of k p ≡ Some q)
unfolding limits_of asking_of
admitted-asks k n p = asks-by (entry_of k) n p
