-- What is heard at the front of some bytes: it is what the front says, and stays when more bytes follow.
use Rattle.std.proofs.Common.{◌≡◌, ℕ, ◌+◌, ◌<◌, ◌≤◌, false, List, ◌++◌, length, take, drop, sym, refl, ap, ◌∙◌, arith, length-drop}
use lib.ListN.{get_or-append}
use lib.Seq.{drop-append-le, take-append-le}
use Rattle.answers.specs.declared.Request.{Request}
use Rattle.std.specs.Prelude.{Option, Some, None, Ok, Err}
use Rattle.desk_records.specs.declared.Bad.{Bad}
use Rattle.desk_records.specs.declared.Hearing.{Hearing}
use Rattle.desk_records.specs.Hearing.{hear_at}
use Rattle.desk_kinds.specs.Numbers.{big_endian}
use Rattle.desk_records.proofs.Stands.{stands, whole}
use Rattle.desk_records.specs.Reading.{second_mark, length_width, length_at, length_in, head_of, Front, whole_of, front, placed, read_with, cut, part_of}
use Rattle.desk_records.proofs.Stable.{front-stable}
use Rattle.desk_records.proofs.Admits.{front-inside, whole-at, read-places}
use Rattle.desk_records.proofs.Heard.{heard-record, heard-none}
use Rattle.desk_kinds.specs.Kinds.{asking_of, given_of}
use Rattle.desk_stream.specs.Desk.{calling, wrong, hears_as, hears_in, payload_of, hears}

abbrev pub fronted : List ℕ → Front
fronted s = front second_mark length_width s

pub heard-front : (s : List ℕ) (f : Front) → fronted s ≡ f → hears s ≡ hears_in s f
unfolding hears
heard-front s f e = ap (hears_in s) e

same-payload : (s t : List ℕ) (n : ℕ) → head_of length_width + n ≤ length s → payload_of (s ++ t) n ≡ payload_of s n
same-payload s t n h =
    ap (take n) (drop-append-le (head_of length_width) s t (omega arith))
    ∙ take-append-le n (drop (head_of length_width) s) t (omega (arith, length-drop (head_of length_width) s))

stays : (s t : List ℕ) (f : Front) → fronted s ≡ f → fronted (s ++ t) ≡ f → hears (s ++ t) ≡ hears s
stays s t (Ok f) e g =
    heard-front (s ++ t) (Ok f) g
    ∙ ap (λ (p : List ℕ). hears_as f.kind p (head_of length_width + f.len) (asking_of f.kind p))
    (same-payload s t f.len (front-inside second_mark length_width s e))
    ∙ sym (heard-front s (Ok f) e)
stays s t (Err x) e g = heard-front (s ++ t) (Err x) g ∙ sym (heard-front s (Err x) e)

pub heard-stable : (s t : List ℕ) → cut (fronted s) ≡ false → hears (s ++ t) ≡ hears s
heard-stable s t c = stays s t (fronted s) refl (front-stable second_mark length_width s t c)

-- a record that asks is whole, and has its head at least
pub record Whole (s : List ℕ) (size : ℕ) : Type 0 where
  pub uncut : cut (fronted s) ≡ false
  pub some : 0 < size
  pub inside : size ≤ length s

asks-whole : (s : List ℕ) (f : Front) {k : ℕ} {q : Request} {given : List ℕ} {size : ℕ} → fronted s ≡ f → hears_in s f ≡ calling k q given size
    → Whole s size
asks-whole s (Ok f) e h = go (asking_of f.kind (payload_of s f.len)) h
  where
    go : (a : Option Request) {j : ℕ} {q : Request} {given : List ℕ} {size : ℕ}
        → hears_as f.kind (payload_of s f.len) (head_of length_width + f.len) a ≡ calling j q given size → Whole s size
    go (Some r) {j} {q} {given} {size} h =
        let long : head_of length_width + f.len ≡ size = cc in
        record { uncut = ap cut e; some = omega arith; inside = omega (arith, front-inside second_mark length_width s e) }
    go None h = let z : ◌≡◌ {A = ℕ} 0 1 = cc in absurd (omega arith)
asks-whole s (Err x) e h = let z : ◌≡◌ {A = ℕ} 0 1 = cc in absurd (omega arith)

pub heard-whole : (s : List ℕ) {k : ℕ} {q : Request} {given : List ℕ} {size : ℕ} → hears s ≡ calling k q given size → Whole s size
heard-whole s h = asks-whole s (fronted s) refl (sym (heard-front s (fronted s) refl) ∙ h)

-- ---- of the bytes behind it a record knows nothing
module _ (u v : List ℕ) where
  whole-alone : {k n : ℕ} → fronted (u ++ v) ≡ whole_of k n → head_of length_width + n ≤ length u → fronted u ≡ whole_of k n
  unfolding big_endian
  whole-alone {k} {n} e h =
      let t = stands e in
      let same : length_in length_width (u ++ v) ≡ length_in length_width u =
      rw (drop-append-le length_at u v (omega arith), get_or-append (drop length_at u) v 0 0 (simp length-drop (omega arith))) in
      whole
      record {
        first = sym (get_or-append u v 0 0 (omega arith)) ∙ t.first;
        second = sym (get_or-append u v 0 1 (omega arith)) ∙ t.second;
        kind = sym (get_or-append u v 0 2 (omega arith)) ∙ t.kind;
        size = sym same ∙ t.size;
        allowed = t.allowed;
        inside = h;
      }

  uncut-alone : (f : Front) {k size : ℕ} {q : Request} {given : List ℕ} → fronted (u ++ v) ≡ f → hears_in (u ++ v) f ≡ calling k q given size
      → size ≤ length u → cut (fronted u) ≡ false
  uncut-alone (Ok f) e h l = go (asking_of f.kind (payload_of (u ++ v) f.len)) h l
    where
      go : (a : Option Request) {j size : ℕ} {q : Request} {given : List ℕ}
          → hears_as f.kind (payload_of (u ++ v) f.len) (head_of length_width + f.len) a ≡ calling j q given size → size ≤ length u → cut (fronted u) ≡ false
      go (Some r) {j} {size} h l =
          let long : head_of length_width + f.len ≡ size = cc in
          ap cut (whole-alone {k = f.kind} {n = f.len} e (omega (arith, long)))
      go None h l = let z : ◌≡◌ {A = ℕ} 0 1 = cc in absurd (omega arith)
  uncut-alone (Err x) e h l = let z : ◌≡◌ {A = ℕ} 0 1 = cc in absurd (omega arith)

  pub heard-alone : {k size : ℕ} {q : Request} {given : List ℕ} → hears (u ++ v) ≡ calling k q given size → size ≤ length u
      → hears u ≡ calling k q given size
  heard-alone h l =
      sym (heard-stable u v (uncut-alone (fronted (u ++ v)) refl (sym (heard-front (u ++ v) (fronted (u ++ v)) refl) ∙ h) l)) ∙ h

-- ---- by what reading at a place answered
module _ (s : List ℕ) (at : ℕ) where
  -- a record and what it asks
  pub heard-asking : {h : Hearing} → hear_at s at ≡ Ok h
      → hears (drop at s)
      ≡ calling h.found.kind h.request (given_of h.found.kind (part_of s h.found.start h.found.len)) (head_of length_width + h.found.len)
  heard-asking {h} x =
      let f = h.found in
      let e = (heard-record s at x).0 in
      heard-front (drop at s) (whole_of f.kind f.len) (whole-at second_mark length_width s at e)
      ∙ ap (λ (p : List ℕ). hears_as f.kind p (head_of length_width + f.len) (asking_of f.kind p)) (sym (read-places s at e).4)
      ∙ ap (hears_as f.kind (part_of s f.start f.len) (head_of length_width + f.len)) (heard-record s at x).1

  unread : (f : Front) {b : Bad} → fronted (drop at s) ≡ f → placed length_width at f ≡ Err b → hears (drop at s) ≡ wrong
  unfolding placed
  unread (Ok f) e h = let z : ◌≡◌ {A = ℕ} 0 1 = cc in absurd (omega arith)
  unread (Err x) e h = heard-front (drop at s) (Err x) e

  -- or nothing that reads
  pub heard-bad : {b : Bad} → hear_at s at ≡ Err b → hears (drop at s) ≡ wrong
  unfolding read_with
  heard-bad h = unread (fronted (drop at s)) refl (heard-none s at h)
