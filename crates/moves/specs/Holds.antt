-- What a drain step is handed.
use Rattle.std.specs.Prelude.{Bool, ◌&&◌, leb}
use Rattle.rules.specs.declared.Record.{Record}
use Rattle.rules.specs.Record.{last_side}
use Rattle.rules.specs.Name.{name_stays}

-- the last name is the record's, and SideNumber is 0 to 999: so it is while a job is held
abbrev pub is_named : Record → Bool
is_named r = name_stays r && leb r.side.number last_side
