-- what is known of records, of levels and of the end of a play
use Rattle.std.proofs.Common.{ℕ, zero, suc, ◌<◌, None, refl, arith}
use Rattle.player.specs.Session.{EndDoes, StepMade}
use Rattle.player.specs.declared.session.Session.{Session}

-- while some number is out, the end is a step
pub end_step : (s t : Session) (out : ℕ) → 0 < out → StepMade s t → EndDoes out s None t
end_step s t zero some made = absurd (omega arith)
end_step s t (suc others) some made = (refl, made)
