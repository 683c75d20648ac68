-- From a call on the record to the numbers.
use Prim.Native.Nat.{ℕ, ◌<◌, ◌≤◌}
use mathlib.Core.Path.{◌≡◌, refl, sym, ap, ◌∙◌, subst}
use mathlib.Core.Bool.{Bool, true, false, cond, false≢true}
use mathlib.Core.List.{List, []}
use lib.Dec.{eqb}
use lib.ListN.{length}
use Rattle.std.specs.Prelude.{Ok, Err, is_ok}
use Rattle.rules.specs.declared.Scan.{Scan}
use Rattle.rules.specs.declared.Record.{Record}
use Rattle.rules.specs.Name.{name_room}
use Rattle.rules.specs.Record.{every, sound, idle}
use Rattle.rules.specs.Moves.{with_feeder, with_ring, quiet_at}
use Rattle.rules.specs.Calls.{Call, State, Outcome, scan, Fetch, report, Tick}
use Rattle.rules.specs.Machine.{step}
use Rattle.rules.specs.Promises.{left_by}
use Rattle.rules.proofs.Sound.{to-sound, holds}
use Rattle.rules.proofs.Answers.{nonzero, refused-keeps}
use Rattle.rules.proofs.Follows.{kept-short}
use Rattle.answers.specs.declared.Told.{Told}
use Rattle.answers.specs.Told.{Answer, reason_of, number_told, values_told, state_of, gave}
use Rattle.stored.specs.Stored.{number_at, wide16, feeder_kept, feeder_fits, heard_in, fed_in, names_at, from, word_count, kept, fitting, all_fit, recorded, is_box}
use Rattle.stored.proofs.Widths.{names-below}
use Rattle.stored.proofs.Boxes.{box-fits, box-sound}
use Rattle.stored.proofs.Back.{kept-recorded, heard-kept, heard-fits, fed-kept, fed-fits}
use Rattle.working.specs.Worked.{Does}
use Rattle.working.specs.Kept.{is_last, Settled, SettledFed}
use Rattle.working.proofs.Little.{Fed, Heard, last_told, idle-second, second-heard, fetch-heard}

refused-number : (a : Answer) → is_ok a ≡ false → eqb (number_told a) 0 ≡ false
refused-number (Ok told) e = absurd (false≢true (sym e))
refused-number (Err why) e = nonzero (reason_of why)

-- what is told as the last bytes of a side
last-told : (r : Record) (reply : List ℕ) (a : Answer) → last_told (values_told r reply a) ≡ is_last a
last-told r reply (Ok Told.Done) = refl
last-told r reply (Ok (Told.Time seconds)) = refl
last-told r reply (Ok (Told.Destination id)) = refl
last-told r reply (Ok (Told.Picture k last)) = refl
last-told r reply (Ok (Told.State s why)) = refl
last-told r reply (Ok (Told.Sides number count long)) = refl
last-told r reply (Ok (Told.Feeding f tray why)) = refl
last-told r reply (Ok (Told.Mode m)) = refl
last-told r reply (Ok (Told.Stored k)) = refl
last-told r reply (Err why) = refl

module _ (c : Call) (ws ring : List ℕ) (box : is_box ws (length ring) ≡ true) where
  fits : all_fit ws ≡ true
  fits = box-fits ws (length ring) box

  sound-ws : sound (recorded ws) (length ring) ≡ true
  sound-ws = box-sound ws (length ring) box

  -- what the call makes of the record that the numbers are
  abbrev result : Outcome
  result = step (state_of (recorded ws) ring) c

  -- the last name stays within its eighteen bytes
  abbrev Short : Record → Type 0
  Short x = x.names.last.len ≤ name_room

  short : Short (recorded ws)
  unfolding recorded all_fit
  short = (names-below (from ws names_at) (holds (fitting ws) fits).1.1.1.1.1.1.0).1

  module _ (l : length ws ≡ word_count) where
    wrote : ws ≡ kept (recorded ws)
    wrote = sym (kept-recorded ws l fits)

    kept-fit : all_fit (kept (recorded ws)) ≡ true
    kept-fit = ap all_fit (sym wrote) ∙ fits

  -- a call on the record that was loaded is one on the record that the numbers are
  pub did : {r left : Record} (a : Answer) {ring' reply' : List ℕ} → (all_fit ws ≡ true → r ≡ recorded ws)
      → (sound r (length ring) ≡ true → gave (record { next = left; answer = a }) ring' reply' ≡ step (state_of r ring) c)
      → gave (record { next = left; answer = a }) ring' reply' ≡ result
  did a load g =
      let same = load fits in
      g (ap (λ (x : Record). sound x (length ring)) same ∙ sound-ws) ∙ ap (λ (x : Record). step (state_of x ring) c) same

  -- ---- what is kept of the record left, in each way
  module _ {left : Record} (a : Answer) {ring' reply' : List ℕ} (o : gave (record { next = left; answer = a }) ring' reply' ≡ result) where
    next : left ≡ result.state.box
    next = ap (λ (x : Outcome). x.state.box) o

    -- all
    pub whole-does : {ws' : List ℕ} → (ws' ≡ kept left) × (left.names.last.len ≤ name_room → all_fit ws' ≡ true)
        → Does c ws ring a ws' ring' reply'
    whole-does k = record {
      told = ap (λ (x : Record). gave (record { next = x; answer = a }) ring' reply') (sym next) ∙ o;
      keeps = k.0 ∙ ap kept next;
      fits = k.1 (subst Short (sym next) (kept-short (state_of (recorded ws) ring) c (to-sound _ _ sound-ws) short));
    }

    module _ (l : length ws ≡ word_count) where
      -- nothing
      pub still-does : result.state.box ≡ recorded ws → Does c ws ring a ws ring' reply'
      still-does n = whole-does (wrote l ∙ ap kept (sym n ∙ sym next), λ _. fits)

      -- quiet and the ring's two
      pub heard-does : {ws' : List ℕ} → Heard (recorded ws) result
          → (ws' ≡ heard_in left.job.quiet left.ring ws) × (left.job.quiet < wide16) → Does c ws ring a ws' ring' reply'
      heard-does {ws'} only k =
          let n : quiet_at left.job.quiet (with_ring left.ring (recorded ws)) ≡ left =
          sym (subst (λ (x : Record). x ≡ quiet_at x.job.quiet (with_ring x.ring (recorded ws))) (sym next) only) in
          let w : ws' ≡ kept (quiet_at left.job.quiet (with_ring left.ring (recorded ws))) =
          k.0 ∙ ap (heard_in left.job.quiet left.ring) (wrote l) ∙ heard-kept (recorded ws) left.job.quiet left.ring in
          whole-does (w ∙ ap kept n, λ _. ap all_fit w ∙ heard-fits (recorded ws) (kept-fit l) left.job.quiet left.ring k.1)

      -- the feeder's part
      pub fed-does : {ws' : List ℕ} → Fed (recorded ws) result
          → (ws' ≡ fed_in left.feeder ws) × (every (feeder_fits (number_at (feeder_kept left.feeder))) ≡ true)
          → Does c ws ring a ws' ring' reply'
      fed-does {ws'} only k =
          let n : with_feeder left.feeder (recorded ws) ≡ left =
          sym (subst (λ (x : Record). x ≡ with_feeder x.feeder (recorded ws)) (sym next) only) in
          let w : ws' ≡ kept (with_feeder left.feeder (recorded ws)) =
          k.0 ∙ ap (fed_in left.feeder) (wrote l) ∙ fed-kept (recorded ws) left.feeder in
          whole-does (w ∙ ap kept n, λ _. ap all_fit w ∙ fed-fits (recorded ws) (kept-fit l) left.feeder k.1)

      -- all, but nothing of a refusal that leaves all as it was
      pub refusing-does : {ws' : List ℕ} → ((n : ℕ) → left_by c n (state_of (recorded ws) ring) ≡ state_of (recorded ws) ring)
          → (ws' ≡ cond (is_ok a) (kept left) ws) × (left.names.last.len ≤ name_room → all_fit ws' ≡ true)
          → Does c ws ring a ws' ring' reply'
      refusing-does kept-all k = whole-does (k.0 ∙ go (is_ok a) refl, k.1)
        where
          go : (b : Bool) → is_ok a ≡ b → cond b (kept left) ws ≡ kept left
          go false f =
              let number : eqb result.number 0 ≡ false = ap (λ (x : Outcome). eqb x.number 0) (sym o) ∙ refused-number a f in
              let n : result.state ≡ state_of (recorded ws) ring =
              (refused-keeps (state_of (recorded ws) ring) c number).left ∙ kept-all _ in
              wrote l ∙ ap kept (sym (ap (λ (s : State). s.box) n) ∙ sym next)
          go true f = refl

  -- ---- the calls that `perform` makes
  module _ (l : length ws ≡ word_count) where
    -- a call that only tells
    pub tells : {r : Record} (a : Answer) → (all_fit ws ≡ true → r ≡ recorded ws)
        → (sound r (length ring) ≡ true → gave (record { next = r; answer = a }) ring [] ≡ step (state_of r ring) c)
        → Does c ws ring a ws ring []
    tells a load g = let o = did a load g in still-does a o l (sym (ap (λ (x : Outcome). x.state.box) o) ∙ load fits)

    module _ {Ran : Record → Answer → Record → Type 0} (a : Answer) {ws' : List ℕ} where
      -- one that may change all of the record
      pub changes : ((n : ℕ) → left_by c n (state_of (recorded ws) ring) ≡ state_of (recorded ws) ring)
          → (all_fit ws ≡ true → Settled Ran ws a ws')
          → ((left : Record) → Ran (recorded ws) a left → sound (recorded ws) (length ring) ≡ true
          → gave (record { next = left; answer = a }) ring [] ≡ result)
          → Does c ws ring a ws' ring []
      changes kept-all settled gives = let s = settled fits in refusing-does a (gives s.left s.ran sound-ws) l kept-all (s.numbers, s.fits)

      -- one that may change the feeder alone
      pub feeds : Fed (recorded ws) result → (all_fit ws ≡ true → SettledFed Ran ws a ws')
          → ((left : Record) → Ran (recorded ws) a left → sound (recorded ws) (length ring) ≡ true
          → gave (record { next = left; answer = a }) ring [] ≡ result)
          → Does c ws ring a ws' ring []
      feeds only settled gives = let s = settled fits in fed-does a (gives s.left s.ran sound-ws) l only (s.numbers, s.fits)

-- ---- a second and a fetch
-- a second in Idle changes nothing
pub second-still : (ws ring : List ℕ) {r : Record} → r ≡ recorded ws → r.scanner.state ≡ Scan.Idle
    → (step (state_of (recorded ws) ring) (report Tick)).state.box ≡ recorded ws
second-still ws ring e i = idle-second (state_of (recorded ws) ring) (ap (λ (x : Record). idle x.scanner.state) (sym e) ∙ ap idle i)

-- a second that leaves a job, and a fetch that is not the last of its side, change quiet and the ring alone
pub second-on : (s : State) (left : Record) (a : Answer) {ring' : List ℕ}
    → gave (record { next = left; answer = a }) ring' [] ≡ step s (report Tick)
    → idle left.scanner.state ≡ false → Heard s.box (step s (report Tick))
second-on s left a o e = second-heard s (ap (λ (x : Outcome). idle x.state.box.scanner.state) (sym o) ∙ e)

pub fetch-on : (s : State) (called reply : List ℕ) (most : ℕ) (left : Record) (a : Answer) {ring' reply' : List ℕ}
    → gave (record { next = left; answer = a }) ring' reply' ≡ step s (scan (Fetch called most reply))
    → is_last a ≡ false → Heard s.box (step s (scan (Fetch called most reply)))
fetch-on s called reply most left a {ring'} {reply'} o e =
    fetch-heard s called reply most (ap (λ (x : Outcome). last_told x.values) (sym o) ∙ last-told left reply' a ∙ e)
