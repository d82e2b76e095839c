use Rattle.cases.specs.Levels.{level_rows}
use Rattle.cases.specs.Lines.{line_rows}
use Rattle.cases.specs.Memories.{memory_rows}
use Rattle.cases.specs.Numbers.{number_rows}
use Rattle.cases.specs.Ports.{port_rows}
use Rattle.cases.specs.Requests.{request_rows}
use Rattle.cases.specs.Row.{Row}
use Rattle.cases.specs.Rules.{rule_rows}
use Rattle.std.specs.Prelude.{List, ◌++◌}

-- the worked examples of the rules
abbrev pub table : List Row
table = line_rows ++ rule_rows ++ memory_rows ++ level_rows ++ number_rows ++ request_rows ++ port_rows
