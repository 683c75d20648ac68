-- Call after call through the exported functions is `run`.
use mathlib.Core.Path.{◌≡◌, refl, sym, ap, ◌∙◌, subst}
use mathlib.Core.List.{List, ◌∷◌}
use Rattle.rules.specs.Calls.{Call, State, Outcome}
use Rattle.rules.specs.Machine.{step, Ran, run, run_by}
use Rattle.calls.specs.Listed.{Performed, performed-none, performed-one}

-- one outcome before a run
abbrev behind : Outcome → Ran → Ran
behind o x = record { outcomes = o ∷ x.outcomes; end = x.end }

pub chained : {s t : State} {cs : List Call} {os : List Outcome} → Performed s cs os t → run s cs ≡ record { outcomes = os; end = t }
unfolding run_by
chained performed-none = refl
chained (performed-one {s} {t} {c} {o} {cs} {os} e p) =
    let whole : Ran = record { outcomes = os; end = t } in
    let rest : run (step s c).state cs ≡ whole = subst (λ (x : Outcome). run x.state cs ≡ whole) e (chained p) in
    ap (behind (step s c)) rest ∙ ap (λ (x : Outcome). behind x whole) (sym e)

-- so what is performed is settled: two performances of one list from one box give and leave the same
pub performed-alike : {s t u : State} {cs : List Call} {os ps : List Outcome} → Performed s cs os t → Performed s cs ps u
    → ◌≡◌ {A = Ran} (record { outcomes = os; end = t }) (record { outcomes = ps; end = u })
performed-alike p q = sym (chained p) ∙ chained q
