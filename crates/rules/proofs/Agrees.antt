-- The definitions agree with the paper's cases. A case holds its own proof, so this is the same for every list of them. It stands
-- first, with all the files of cases: a wrong definition is told at the line of a case before any proof.
use mathlib.Core.List.{List, [], ◌∷◌}
use Rattle.rules.specs.Promises.{All}
use Rattle.rules.specs.Cases.{Case, Right}
use Rattle.rules.proofs.Table.{table}
use Rattle.rules.proofs.Judged.{soundness}
use Rattle.rules.proofs.Watched.{lives}
use Rattle.rules.proofs.Worded.{borne}

pub all_right : {A : Type 0} (cs : List (Case A)) → All Right cs
all_right [] = tt
all_right (c ∷ cs) = (c.holds, all_right cs)

pub table-holds : All Right table
table-holds = all_right table

pub soundness-holds : All Right soundness
soundness-holds = all_right soundness

pub lives-hold : All Right lives
lives-hold = all_right lives

pub borne-hold : All Right borne
borne-hold = all_right borne
