-- For a box, two outcomes that a contract allows are the same: answer, numbers, ring and reply.
use Prim.Native.Nat.{ℕ}
use mathlib.Core.Path.{◌≡◌, sym, ap, ◌∙◌}
use mathlib.Core.Bool.{true}
use mathlib.Core.List.{List, []}
use lib.ListN.{length}
use Rattle.rules.specs.Calls.{Call, report, Tick}
use Rattle.answers.specs.declared.Request.{Request}
use Rattle.answers.specs.Asked.{asked}
use Rattle.answers.specs.Told.{Answer, After, state_of}
use Rattle.answers.proofs.Settled.{call_settled}
use Rattle.stored.specs.Stored.{recorded, is_box}
use Rattle.working.specs.Worked.{Does, Works}

does-settled : (c : Call) (ws ring : List ℕ) {a b : Answer} {ws' ws'' ring' ring'' reply' reply'' : List ℕ}
    (one : Does c ws ring a ws' ring' reply') (other : Does c ws ring b ws'' ring'' reply'') → (a ≡ b) × (ws' ≡ ws'') × (ring' ≡ ring'')
does-settled c ws ring one other =
    let same = call_settled (state_of (recorded ws) ring) c one.told other.told in
    (ap (λ (x : After). x.answer) same.0, one.keeps ∙ sym other.keeps, same.1)

-- a second, for numbers that are a box with some ring
pub tick-settled : (ws lent : List ℕ) (box : is_box ws (length lent) ≡ true) {a b : Answer} {ws' ws'' : List ℕ}
    (one : (ring : List ℕ) → is_box ws (length ring) ≡ true → Does (report Tick) ws ring a ws' ring [])
    (other : (ring : List ℕ) → is_box ws (length ring) ≡ true → Does (report Tick) ws ring b ws'' ring []) → (a ≡ b) × (ws' ≡ ws'')
tick-settled ws lent box one other =
    let same = does-settled (report Tick) ws lent (one lent box) (other lent box) in
    (same.0, same.1)

-- a request
pub works-settled : (q : Request) (given ws ring reply : List ℕ) (box : is_box ws (length ring) ≡ true) {a b : Answer}
    {ws' ws'' ring' ring'' reply' reply'' : List ℕ}
    (one : is_box ws (length ring) ≡ true → Works q given ws ring reply a ws' ring' reply')
    (other : is_box ws (length ring) ≡ true → Works q given ws ring reply b ws'' ring'' reply'')
    → (a ≡ b) × (ws' ≡ ws'') × (ring' ≡ ring'') × (reply' ≡ reply'')
works-settled q given ws ring reply box one other =
    let same = does-settled (asked q given reply) ws ring (one box).does (other box).does in
    (same.0, same.1, same.2, (one box).replies ∙ sym (other box).replies)
