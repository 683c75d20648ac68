-- What announcing a name comes to: nothing where it is the last one; and by SideNumber's next, where that settles it.
use Prim.Native.Nat.{ℕ, ◌≤◌, ◌<◌}
use mathlib.Core.Path.{◌≡◌, refl, sym, ◌∙◌, ap}
use mathlib.Core.Logic.{◌≢◌}
use mathlib.Core.Bool.{Bool, true, false}
use native.Mathlib.Omega.{arith}
use lib.Dec.{ltb}
use borrow.Author.Tests.{leb-true, le-leb, ltb-true, ltb-false}
use Rattle.rules.specs.declared.Record.{Record}
use Rattle.rules.specs.Record.{last_side, idle, on, sound}
use Rattle.rules.specs.Name.{name, spelt, present, alike, name_stays}
use Rattle.rules.specs.Moves.{risen, announced_by, announced, numbered}
use Rattle.rules.proofs.Choice.{choice, and_l, and_r}
use Rattle.rules.proofs.Sound.{to-sound}
use Rattle.rules.proofs.Naming.{side-settles, side-unused, spelt-settles, name-spelling, alike-eq, alike_self}
use Rattle.moves.specs.Holds.{is_named}

abbrev pub renamed : Record → Record
renamed r = announced_by (risen r.side.destination) r

pub stays-announced : (r : Record) → name_stays r ≡ true → r ≡ announced r
stays-announced r e = rw (e, sym (alike-eq r.names.last (present r) e)) refl

pub new-announced : (r : Record) → name_stays r ≡ false → renamed r ≡ announced r
new-announced r e = rw e refl

-- as the test tells
module _ (r : Record) {n : Record} {t : Bool} (k : n ≡ renamed r) (a : t ≡ alike r.names.last n.names.last) where
  told : t ≡ name_stays r
  told = a ∙ ap (λ (x : Record). alike r.names.last x.names.last) k

  pub told_same : t ≡ true → r ≡ announced r
  told_same e = stays-announced r (sym told ∙ e)

  pub told-new : t ≡ false → n ≡ announced r
  told-new e = k ∙ new-announced r (sym told ∙ e)

-- ---- SideNumber's next
next-below : (r : Record) → r.side.number ≤ last_side → (numbered r).side.number < 1000
next-below r l =
    choice (λ (x : ℕ). x < 1000) (ltb r.side.number last_side) (λ e. omega (arith, ltb-true r.side.number last_side e)) (λ _. omega arith)

next-other : (r : Record) → r.side.number ≤ last_side → r.side.number ≢ (numbered r).side.number
next-other r l =
    choice (λ (x : ℕ). r.side.number ≢ x) (ltb r.side.number last_side) (λ _ e. absurd (omega (arith, e)))
    (λ f e. absurd (omega (arith, e, ltb-false r.side.number last_side f)))

module _ (r : Record) (h : is_named r ≡ true) where
  kept : r.names.last ≡ present r
  kept = alike-eq _ _ (and_l (name_stays r) _ h)

  below : r.side.number ≤ last_side
  below = leb-true _ _ (and_r (name_stays r) _ h)

  -- with Append 1 it is another name
  pub next-named : on r.settings.append ≡ true → name_stays (numbered r) ≡ false
  next-named o = go (name_stays (numbered r)) refl
    where
      go : (t : Bool) → name_stays (numbered r) ≡ t → t ≡ false
      go true e =
          absurd (next-other r below (side-settles r.job.held r.settings.append r.side.number (numbered r).side.number o
          (omega (arith, below)) (next-below r below)
          (spelt-settles (name r) (name (numbered r)) (name-spelling r) (name-spelling (numbered r)) (sym kept ∙ alike-eq _ _ e))))
      go false e = refl

  -- else it stays
  pub next-same : on r.settings.append ≡ false → name_stays (numbered r) ≡ true
  next-same o =
      alike_self _ _ (kept ∙ ap spelt (side-unused r.job.held r.settings.append r.side.number (numbered r).side.number o))

  pub numbered-new : {n m : Record} → n ≡ numbered r → m ≡ renamed n → on r.settings.append ≡ true → m ≡ announced (numbered r)
  numbered-new k a o = a ∙ ap renamed k ∙ new-announced (numbered r) (next-named o)

  pub numbered-same : {n : Record} → n ≡ numbered r → on r.settings.append ≡ false → n ≡ announced (numbered r)
  numbered-same k o = k ∙ stays-announced (numbered r) (next-same o)

-- ---- while a job is held a sound record has its name
pub sound-named : (r : Record) (n : ℕ) → sound r n ≡ true → idle r.scanner.state ≡ false → is_named r ≡ true
sound-named r n so i =
    let h = to-sound r n so in
    rw (alike_self _ _ (h.called i)) (le-leb _ _ h.common.side.number)
