-- What a request makes of a box's numbers.
use Rattle.std.specs.Prelude.{ℕ, ◌≡◌, true, List}
use Rattle.rules.specs.Calls.{Call, lent}
use Rattle.rules.specs.Machine.{step}
use Rattle.answers.specs.declared.Request.{Request}
use Rattle.answers.specs.Asked.{asked, replied}
use Rattle.answers.specs.Told.{Answer, state_of, gave}
use Rattle.stored.specs.Stored.{kept, all_fit, recorded}

-- the outcome is the rules', and the numbers are those of the record that it leaves
pub record Does (c : Call) (ws ring : List ℕ) (a : Answer) (ws' ring' reply' : List ℕ) : Type 0 where
  pub told : gave (record { next = (step (state_of (recorded ws) ring) c).state.box; answer = a }) ring' reply' ≡ step (state_of (recorded ws) ring) c
  pub keeps : ws' ≡ kept (step (state_of (recorded ws) ring) c).state.box
  pub fits : all_fit ws' ≡ true

-- a request with the bytes given and a reply lent: what it does, and the reply as it leaves it
pub record Works (q : Request) (given ws ring reply : List ℕ) (a : Answer) (ws' ring' reply' : List ℕ) : Type 0 where
  pub does : Does (asked q given reply) ws ring a ws' ring' (lent (asked q given reply'))
  pub replies : reply' ≡ replied (asked q given reply) (step (state_of (recorded ws) ring) (asked q given reply)) reply
