-- What is told settles the answer: it is read back from its number and values.
use Prim.Native.Nat.{ℕ}
use mathlib.Core.Path.{◌≡◌, refl, sym, ap, ◌∙◌}
use mathlib.Core.Bool.{cond}
use mathlib.Core.List.{List, []}
use native.Mathlib.Omega.{arith}
use lib.Dec.{eqb}
use Rattle.std.specs.Prelude.{Ok, Err}
use Rattle.rules.specs.declared.Record.{Record}
use Rattle.rules.specs.Record.{fresh}
use Rattle.rules.specs.Calls.{Call, State, Values, nothing, time, destination, picture, state, sides, feeding, mode, stored, Outcome}
use Rattle.rules.specs.Machine.{step}
use Rattle.answers.specs.declared.Why.{Why}
use Rattle.answers.specs.declared.Told.{Told}
use Rattle.answers.specs.Told.{Answer, After, number_told, values_told, gave}

-- refusal is read from the number, acceptance from the values
abbrev refused_by : ℕ → Why
refused_by n =
    cond (eqb n 604) Why.Unsound
    (cond (eqb n 601) Why.Unlisted
    (cond (eqb n 712) Why.OtherJob
    (cond (eqb n 404) Why.OtherName
    (cond (eqb n 501) Why.WrongState
    (cond (eqb n 711) Why.FeederErred
    (cond (eqb n 713) Why.NoSheet Why.NoRoom))))))

abbrev accepted_with : Values → Answer
accepted_with nothing = Ok Told.Done
accepted_with (time t) = Ok (Told.Time t)
accepted_with (destination n i) = Ok (Told.Destination i)
accepted_with (picture k l bs) = Ok (Told.Picture k l)
accepted_with (state s f) = Ok (Told.State s f)
accepted_with (sides n c l) = Ok (Told.Sides n c l)
accepted_with (feeding f t x) = Ok (Told.Feeding f t x)
accepted_with (mode m) = Ok (Told.Mode m)
accepted_with (stored k) = Ok (Told.Stored k)

abbrev back : ℕ → Values → Answer
back n v = cond (eqb n 0) (accepted_with v) (Err (refused_by n))

read_back : (r : Record) (reply : List ℕ) (a : Answer) → back (number_told a) (values_told r reply a) ≡ a
read_back r reply (Ok Told.Done) = refl
read_back r reply (Ok (Told.Time t)) = refl
read_back r reply (Ok (Told.Destination i)) = refl
read_back r reply (Ok (Told.Picture k l)) = refl
read_back r reply (Ok (Told.State s f)) = refl
read_back r reply (Ok (Told.Sides n c l)) = refl
read_back r reply (Ok (Told.Feeding f t x)) = refl
read_back r reply (Ok (Told.Mode m)) = refl
read_back r reply (Ok (Told.Stored k)) = refl
read_back r reply (Err Why.Unsound) = refl
read_back r reply (Err Why.Unlisted) = refl
read_back r reply (Err Why.OtherJob) = refl
read_back r reply (Err Why.OtherName) = refl
read_back r reply (Err Why.WrongState) = refl
read_back r reply (Err Why.FeederErred) = refl
read_back r reply (Err Why.NoSheet) = refl
read_back r reply (Err Why.NoRoom) = refl

-- the number of a refusal settles its reason, and is not 0
pub why-settled : (v w : Why) → number_told (Err v) ≡ number_told (Err w) → v ≡ w
why-settled v w e =
    let x : Err v ≡ Err w =
    sym (read_back fresh [] (Err v)) ∙ ap (λ (n : ℕ). back n nothing) e ∙ read_back fresh [] (Err w) in
    cc

pub refusal-counts : (w : Why) → number_told (Err w) ≡ 0 → ⊥
refusal-counts w e =
    let x : Err w ≡ Ok Told.Done = sym (read_back fresh [] (Err w)) ∙ ap (λ (n : ℕ). back n nothing) e in
    let z : ◌≡◌ {A = ℕ} 0 1 = cc in
    omega arith

same_after : {n m : Record} {x y : Answer} → n ≡ m → x ≡ y → ◌≡◌ {A = After} (record { next = n; answer = x }) (record { next = m; answer = y })
same_after e f = rw (e, f)

-- two answers that a contract allows are the same, and so are the record, ring and reply that are left
pub gave-settled : {a b : After} {ring ring' reply reply' : List ℕ} → gave a ring reply ≡ gave b ring' reply'
    → (a ≡ b) × (ring ≡ ring') × (reply ≡ reply')
gave-settled {a} {b} {ring} {ring'} {reply} {reply'} e =
    let told : back (number_told a.answer) (values_told a.next reply a.answer) ≡ back (number_told b.answer)
    (values_told b.next reply' b.answer) =
    ap (λ (o : Outcome). back o.number o.values) e in
    let answer : a.answer ≡ b.answer = sym (read_back a.next reply a.answer) ∙ told ∙ read_back b.next reply' b.answer in
    let next : a.next ≡ b.next = ap (λ (o : Outcome). o.state.box) e in
    (same_after next answer, ap (λ (o : Outcome). o.state.bytes) e, ap (λ (o : Outcome). o.reply) e)

-- so of a call from a state
pub call_settled : (s : State) (c : Call) {a b : After} {ring ring' reply reply' : List ℕ} (one : gave a ring reply ≡ step s c)
    (other : gave b ring' reply' ≡ step s c) → (a ≡ b) × (ring ≡ ring') × (reply ≡ reply')
call_settled s c one other = gave-settled (one ∙ sym other)
