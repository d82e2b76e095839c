use Rattle.cases.proofs.Broken.{refuses}
use Rattle.cases.proofs.examples_hold.Goals as goal

pub returns-clause-refused : goal.returns-clause-refused
returns-clause-refused c = refuses
