use Rattle.level.proofs.level.LevelMemory.write.Goals as goal
use Rattle.level_model.proofs.Laws.{write_means}

pub invariant_of-self : goal.invariant_of-self
invariant_of-self g c =
    record { kept = (write_means g.M.State g.M.Memory (let m = g.met.M.Memory in record { well = m.well; reading = m.reading; writing = m.writing; stepping = m.stepping }) g.R.Replacement g.met.R.Replacement.once _ _ _ _ _ _ _ _ _ _ c.args.self.now.kept (c.ask.ensures.below, c.ask.ensures.asks)).0 }
