-- What a turn comes to: where the window stands in its buffer, and what its parts make of it.
use Rattle.std.proofs.Common.{◌≡◌, ℕ, ◌-◌, ◌≤◌, List, [], length, drop, refl, ap, ◌∙◌, arith, length-drop, length-take}
use Rattle.std.specs.Prelude.{Result, Ok, Err}
use Rattle.answers.specs.declared.Why.{Why}
use Rattle.desk_stream.specs.declared.Came.{Came as Read}
use Rattle.desk_stream.specs.Boxed.{Came, came_of, serving}
use Rattle.desk_loop.specs.declared.Flow.{Flow}
use Rattle.desk_loop.specs.Loop.{unread, filled, settled, settled_window, Desk, came, passing, behind, turned}

-- the window stands in its buffer
pub record Within (f : Flow) (room : ℕ) : Type 0 where
  pub front : f.at ≤ f.held
  pub back : f.held ≤ room

pub length-unread : (window : List ℕ) (at held : ℕ) → held ≤ length window → length (unread window at held) ≡ held - at
length-unread window at held h = omega (arith, length-take (held - at) (drop at window), length-drop at window)

-- ---- a turn in the program's hands
module _ (f : Flow) (got : ℕ) (ws ring window lines : List ℕ) {g : Flow} (e : g ≡ filled f got (length window)) where
  abbrev d : Desk
  d = record { flow = f; words = ws; ring = ring; window = window; lines = lines }

  abbrev full : Flow
  full = filled f got (length window)

  pub turn-done : (served : Result Read Why) (room : ℕ) {h i : Flow} {window' ws' ring' lines' : List ℕ} → room ≡ length lines
      → h ≡ passing g (came_of served [] [] [] []) room → i ≡ settled h → window' ≡ settled_window h window
      → came_of served ws' ring' [] lines' ≡ serving ws ring (unread window g.at g.held) g.base g.last lines
      → record { flow = i; words = ws'; ring = ring'; window = window'; lines = lines' } ≡ turned got d
  unfolding turned
  turn-done served room {h} {i} {window'} {ws'} {ring'} {lines'} l p k v s = by-served served p s
    where
      done : (c : Came) → h ≡ passing g c room → c ≡ serving ws ring (unread window g.at g.held) g.base g.last lines
          → record { flow = i; words = c.words; ring = c.ring; window = window'; lines = c.lines } ≡ behind full d (came full d)
      done c q t =
          let same : h ≡ passing g c (length lines) = q ∙ ap (passing g c) l in
          let whole : ◌≡◌ {A = Desk}
          (record { flow = i; words = c.words; ring = c.ring; window = window'; lines = c.lines }) (behind g d c) =
          rw (k, v, same) refl in
          whole ∙ ap (behind g d) t ∙ ap (λ (x : Flow). behind x d (came x d)) e

      by-served : (x : Result Read Why) → h ≡ passing g (came_of x [] [] [] []) room
          → came_of x ws' ring' [] lines' ≡ serving ws ring (unread window g.at g.held) g.base g.last lines
          → record { flow = i; words = ws'; ring = ring'; window = window'; lines = lines' } ≡ behind full d (came full d)
      by-served (Ok x) q t = done (came_of (Ok x) ws' ring' [] lines') q t
      by-served (Err why) q t = done (came_of (Err why) ws' ring' [] lines') q t
