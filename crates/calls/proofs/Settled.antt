-- Whatever is asked, two performances that the contract allows are the same: answer, record, ring and reply.
use Prim.Native.Nat.{ℕ}
use mathlib.Core.Path.{◌≡◌, sym, ◌∙◌}
use mathlib.Core.List.{List}
use Rattle.rules.specs.declared.Record.{Record}
use Rattle.rules.specs.Calls.{lent}
use Rattle.rules.specs.Machine.{step}
use Rattle.answers.specs.declared.Request.{Request}
use Rattle.answers.specs.Asked.{asked, replied}
use Rattle.answers.specs.Told.{After, state_of, gave}
use Rattle.answers.proofs.Settled.{call_settled}

pub perform-settled : (r : Record) (q : Request) (given ring reply : List ℕ) {a b : After} {ring' ring'' reply' reply'' : List ℕ}
    (one : gave a ring' (lent (asked q given reply')) ≡ step (state_of r ring) (asked q given reply))
    (one-reply : reply' ≡ replied (asked q given reply) (step (state_of r ring) (asked q given reply)) reply)
    (other : gave b ring'' (lent (asked q given reply'')) ≡ step (state_of r ring) (asked q given reply))
    (other-reply : reply'' ≡ replied (asked q given reply) (step (state_of r ring) (asked q given reply)) reply)
    → (a ≡ b) × (ring' ≡ ring'') × (reply' ≡ reply'')
perform-settled r q given ring reply one one-reply other other-reply =
    let same = call_settled (state_of r ring) (asked q given reply) one other in
    (same.0, same.1, one-reply ∙ sym other-reply)
