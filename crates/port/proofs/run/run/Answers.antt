use Rattle.port.proofs.Made.{begins, goes_on, ends}
use Rattle.port.proofs.run.run.Goals as goal

pub loop-entry-init : goal.loop-entry-init
loop-entry-init g c = begins g.M.State g.M.Memory _ _ _ _ c.new-port.ensures

pub loop-entry-preserved : goal.loop-entry-preserved
loop-entry-preserved g c =
    goes_on g.M.State g.M.Memory _ _ _ c.loop-entry-test.true c.loop-entry.invariant c.make.ensures.call c.make.ensures.moves

pub returns : goal.returns
returns g c =
    rw c.into_below.ensures (ends g.M.State g.M.Memory (let m = g.met.M.Memory in record { well = m.well; reading = m.reading; writing = m.writing; stepping = m.stepping }) c.loop-entry-test.false c.loop-entry.invariant)
