-- Names: the rule that gives one, and a name as the record keeps it.
use Rattle.std.specs.Prelude.{ℕ, zero, suc, ◌+◌, ◌-◌, ◌*◌, ◌/◌, ◌%◌, ◌^◌, Bool, true, false, ◌&&◌, cond, List, [], ◌∷◌, ◌++◌, eqb, length, take, drop, replicate}
use Rattle.rules.specs.declared.Named.{Named}
use Rattle.rules.specs.declared.Record.{Record}

-- ---- the name is J, ten digits of job, three digits of SideNumber if Append is 1, then .jpg
abbrev pub digits : ℕ → ℕ → List ℕ
digits zero n = []
digits (suc k) n = (48 + n / 10 ^ k % 10) ∷ digits k n

unfoldable pub name_of : ℕ → ℕ → ℕ → List ℕ
name_of job append number = 74 ∷ digits 10 job ++ cond (eqb append 1) (digits 3 number) [] ++ 46 ∷ 106 ∷ 112 ∷ 103 ∷ []

-- the name that the record now gives
abbrev pub name : Record → List ℕ
name r = name_of r.job.held r.settings.append r.side.number

-- the same bytes
abbrev pub same : List ℕ → List ℕ → Bool
same [] [] = true
same [] (y ∷ ys) = false
same (x ∷ xs) [] = false
same (x ∷ xs) (y ∷ ys) = eqb x y && same xs ys

-- ---- a name as it is kept: eighteen bytes, unused ones 0, and a length
abbrev pub name_room : ℕ
name_room = 18

abbrev pub eighteen : List ℕ → List ℕ
eighteen bs = bs ++ replicate (name_room - length bs) 0

-- bytes as one number, the first byte highest
abbrev pub packed : List ℕ → ℕ
packed [] = 0
packed (b ∷ bs) = b * 256 ^ length bs + packed bs

-- the eighteen stand in three numbers, of eight, eight and two bytes
unfoldable pub spelt : List ℕ → Named
spelt bs =
    record {
      first = packed (take 8 (eighteen bs));
      second = packed (take 8 (drop 8 (eighteen bs)));
      third = packed (drop 16 (eighteen bs));
      len = length bs;
    }

-- the present name; two kept names are the same; the present one is the last one
abbrev pub present : Record → Named
present r = spelt (name r)

abbrev pub alike : Named → Named → Bool
alike a b = ((eqb a.first b.first && eqb a.second b.second) && eqb a.third b.third) && eqb a.len b.len

abbrev pub name_stays : Record → Bool
name_stays r = alike r.names.last (present r)
