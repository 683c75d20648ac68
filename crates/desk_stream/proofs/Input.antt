-- The text of an input from a place on: a line, and then the text of the rest. It is what `run` gives for the calls read.
use Rattle.std.proofs.Common.{◌≡◌, ℕ, zero, suc, ◌+◌, ◌-◌, ◌<◌, List, [], ◌∷◌, ◌++◌, length, drop, refl, ap, ◌∙◌, append_assoc, arith}
use Rattle.rules.specs.Calls.{Call, State}
use Rattle.rules.specs.Machine.{step, run_by, run}
use Rattle.answers.specs.declared.Request.{Request}
use Rattle.desk_line.specs.Line.{line_for}
use Rattle.desk_stream.specs.Desk.{Heard, calling, wrong, hears, desk_call, Records, ends}
use Rattle.desk_stream.specs.Desk.{before, bad_at, read_on, read_from, bad_text, end_text, lines_of, printed}

-- what is printed from an offset on, for a box
abbrev pub text_from : State → ℕ → List ℕ → List ℕ
text_from box at s = printed box (read_from 0 at s)

skipped : (skip at : ℕ) (s : List ℕ) → read_from skip at s ≡ read_from 0 at (drop skip s)
unfolding read_from
skipped zero at s = refl
skipped (suc skip) at [] = refl
skipped (suc skip) at (b ∷ s) = skipped skip at s

pub nothing_left : (box : State) (at : ℕ) (s : List ℕ) → length s ≡ 0 → text_from box at s ≡ []
unfolding read_from printed run_by
nothing_left box at [] e = refl
nothing_left box at (b ∷ s) e = absurd (omega arith)

reads : (at b : ℕ) (s : List ℕ) (h : Heard) → hears (b ∷ s) ≡ h → read_from 0 at (b ∷ s) ≡ read_on h at (λ skip next. read_from skip next s)
unfolding read_from
reads at b s h e = let rest : ℕ → ℕ → Records = λ skip next. read_from skip next s in ap (λ (x : Heard). read_on x at rest) e

printed-before : (box : State) (k : ℕ) (c : Call) (i : Records) → printed box (before k c i) ≡ line_for k (step box c) ++ printed (step box c).state i
unfolding printed run_by
printed-before box k c i = append_assoc (line_for k (step box c)) (lines_of i.kinds (run (step box c).state i.calls).outcomes) (end_text i.ending)

printed-end : (box : State) (at : ℕ) → printed box (ends (bad_at at)) ≡ bad_text at
unfolding printed run_by
printed-end box at = refl

-- a record, and then the rest behind it
pub one-read : (at : ℕ) (s : List ℕ) (k : ℕ) (q : Request) (given : List ℕ) (size : ℕ) → 0 < length s → hears s ≡ calling k q given size → 0 < size
    → read_from 0 at s ≡ before k (desk_call q given) (read_from 0 (at + size) (drop size s))
one-read at [] k q given size h e g = absurd (omega arith)
one-read at (b ∷ s) k q given zero h e g = absurd (omega arith)
one-read at (b ∷ s) k q given (suc size) h e g =
    let rest : suc size - 1 ≡ size = omega arith in
    reads at b s (calling k q given (suc size)) e
    ∙ ap (λ (n : ℕ). before k (desk_call q given) (read_from n (at + suc size) s)) rest
    ∙ ap (before k (desk_call q given)) (skipped size (at + suc size) s)

pub one_more : (box : State) (at : ℕ) (s : List ℕ) (k : ℕ) (q : Request) (given : List ℕ) (size : ℕ) → 0 < length s
    → hears s ≡ calling k q given size → 0 < size
    → text_from box at s ≡ line_for k (step box (desk_call q given)) ++ text_from (step box (desk_call q given)).state (at + size) (drop size s)
one_more box at s k q given size h e g =
    ap (printed box) (one-read at s k q given size h e g) ∙ printed-before box k (desk_call q given) (read_from 0 (at + size) (drop size s))

pub one-bad : (box : State) (at : ℕ) (s : List ℕ) → 0 < length s → hears s ≡ wrong → text_from box at s ≡ bad_text at
one-bad box at [] h e = absurd (omega arith)
one-bad box at (b ∷ s) h e = ap (printed box) (reads at b s wrong e) ∙ printed-end box at
