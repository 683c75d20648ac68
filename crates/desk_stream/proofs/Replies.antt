-- What a lent reply held before matters to no answer.
use Rattle.std.proofs.Common.{◌≡◌, ℕ, true, false, List, [], ◌∷◌, length, replicate, sym, refl, ap, ◌∙◌, true≢false}
use Rattle.std.specs.Prelude.{Some, Result, Ok, Err, ⊤, is_ok, MatchResult}
use lib.ListN.{length-replicate}
use Rattle.rules.specs.Calls.{Values, State, Outcome, Guard, refuse, leaving, Call}
use Rattle.rules.specs.Calls.{answer, scan, Fetch}
use Rattle.rules.specs.Machine.{step, refusals, scan_refusals, effect, scan_effect}
use Rattle.answers.specs.declared.Request.{Request}
use Rattle.answers.specs.declared.Told.{Told}
use Rattle.answers.specs.declared.Why.{Why}
use Rattle.answers.specs.Asked.{asked}
use Rattle.answers.specs.Told.{Answer, After, number_told, values_told, state_of}
use Rattle.answers.proofs.Lending.{Lending, fetches, lends_none, lending, told-beside}
use Rattle.rules.specs.declared.Record.{Record}
use Rattle.rules.proofs.Theorems.{step-sound}
use Rattle.stored.specs.Stored.{kept, all_fit, recorded, is_box}
use Rattle.stored.proofs.Back.{recorded-kept}
use Rattle.working.specs.Worked.{Works}
use Rattle.stored.proofs.Boxes.{box-sound, boxed}
use Rattle.desk_text.specs.Put.{Puts}
use Rattle.desk_text.proofs.Putting.{moved}
use Rattle.desk_line.specs.Line.{line_of}
use Rattle.desk_stream.specs.Desk.{call_with}
use Rattle.desk_stream.specs.Window.{answered_by}
use Rattle.desk_stream.specs.Boxed.{number_of_record}
use Rattle.desk_stream.specs.Held.{Turns}

-- what a call's acceptance reports is left out of what is told of its record: the number stays
pub number-stays : (a : Answer) (o : Result ⊤ Why) (P : Told → Type 0) → MatchResult a P (λ (w : Why). o ≡ Err w) → is_ok o ≡ is_ok a
    → number_of_record (Some o) ≡ number_told a
number-stays (Ok told) (Ok u) P m e = refl
number-stays (Ok told) (Err why) P m e = absurd (true≢false (sym e))
number-stays (Err why) o P m e = ap (λ (r : Result ⊤ Why). number_of_record (Some r)) m

-- an outcome but for the reply
pub record Bare : Type 0 where
  pub number : ℕ
  pub values : Values
  pub state : State

abbrev pub bare : Outcome → Bare
bare o = record { number = o.number; values = o.values; state = o.state }

bare-answer : (ls : List Guard) (s : State) (c d : Call) (o p : Outcome) → bare o ≡ bare p → bare (answer ls s c o) ≡ bare (answer ls s d p)
unfolding answer
bare-answer [] s c d o p e = e
bare-answer (refuse n true ∷ ls) s c d o p e = refl
bare-answer (refuse n false ∷ ls) s c d o p e = bare-answer ls s c d o p e
bare-answer (leaving n true r ∷ ls) s c d o p e = refl
bare-answer (leaving n false r ∷ ls) s c d o p e = bare-answer ls s c d o p e

fetch-alike : (s : State) (called : List ℕ) (most : ℕ) (r q : List ℕ) → length r ≡ length q
    → bare (step s (scan (Fetch called most r))) ≡ bare (step s (scan (Fetch called most q)))
unfolding step refusals scan_refusals effect scan_effect
fetch-alike s called most r q e = rw e (bare-answer _ _ _ _ _ _ refl)

alike : {q : Request} {given : List ℕ} (s : State) (r r' : List ℕ) → Lending given q → length r ≡ length r'
    → bare (step s (asked q given r)) ≡ bare (step s (asked q given r'))
alike {q} {given} s r r' (fetches most) e = fetch-alike s given most r r' e
alike s r r' (lends_none c u) e = rw (u.same r, u.same r')

pub reply-alike : (s : State) (q : Request) (given r r' : List ℕ) → length r ≡ length r' → bare (step s (asked q given r)) ≡ bare (step s (asked q given r'))
reply-alike s q given r r' e = alike s r r' (lending q given) e

same-bare : {n m : ℕ} {v w : Values} {s t : State} → n ≡ m → v ≡ w → s ≡ t
    → ◌≡◌ {A = Bare} (record { number = n; values = v; state = s }) (record { number = m; values = w; state = t })
same-bare a b c = rw (a, b, c)

-- ---- an answer in the program's hands
module _ (q : Request) (given ws ring reply : List ℕ) {a : Answer} {ws' ring' reply' : List ℕ} (box : is_box ws (length ring) ≡ true)
    (w : Works q given ws ring reply a ws' ring' reply') where
  abbrev s : State
  s = state_of (recorded ws) ring

  abbrev o : Outcome
  o = step s (asked q given reply)

  abbrev after : After
  after = record { next = o.state.box; answer = a }

  told : ◌≡◌ {A = Bare} (record { number = number_told a; values = values_told o.state.box reply' a; state = state_of o.state.box ring' })
      (bare (step s (call_with (length reply) q given)))
  told =
      let e = w.does.told in
      same-bare (ap (λ (o : Outcome). o.number) e) (told-beside s q given reply reply' ring' after e) (ap (λ (o : Outcome). o.state) e)
      ∙ reply-alike s q given reply (replicate (length reply) 0) (sym (length-replicate (length reply) 0))

  state : state_of o.state.box ring' ≡ (step s (call_with (length reply) q given)).state
  state = ap (λ (b : Bare). b.state) told

  left : recorded ws' ≡ o.state.box
  left = ap recorded w.does.keeps ∙ recorded-kept o.state.box

  still-box : is_box ws' (length ring') ≡ true
  still-box =
      boxed ws' (length ring') w.does.fits
      (rw (left, ap (λ (x : Outcome). x.state.bytes) w.does.told) (step-sound s (asked q given reply) (box-sound ws (length ring) box)))

  pub answered-turn : (kind : ℕ) {next : Record} {number shown written filled : ℕ} {out out' : List ℕ} → (all_fit ws' ≡ true → next ≡ recorded ws')
      → number ≡ number_told a → shown ≡ number_told a
      → Puts out filled (line_of kind number (values_told next reply' a) next) written out'
      → Turns (answered_by kind (step s (call_with (length reply) q given)) 0) out filled shown written false ws' ring' out'
  answered-turn kind {next} {number} ld f g p =
      let same : next ≡ o.state.box = ld w.does.fits ∙ left in
      record {
        tells = g ∙ ap (λ (b : Bare). b.number) told;
        stops = refl;
        puts =
            moved p
            (ap (λ (x : Record). line_of kind number (values_told x reply' a) x) same
            ∙ ap (λ (n : ℕ). line_of kind n (values_told o.state.box reply' a) o.state.box) f
            ∙ ap (λ (b : Bare). line_of kind b.number b.values b.state.box) told);
        keeps = w.does.keeps ∙ ap (λ (x : State). kept x.box) state;
        rings = ap (λ (x : State). x.bytes) state;
        box = still-box;
      }
