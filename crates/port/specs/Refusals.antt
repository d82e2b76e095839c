use Rattle.std.specs.Prelude.{ℕ}
use Rattle.port.specs.Requests.{unlawful_code}
use Rattle.port.specs.declared.refusal.Refusal.{Refusal}
use Rattle.port.specs.declared.refusal.Refusal.TheVariants.{Unlawful, RationUsed, TooManyOut, Busy}
use Rattle.port.specs.declared.refusal.Unredeemed.{Unredeemed}
use Rattle.port.specs.declared.refusal.Unredeemed.TheVariants.{NotOut, NotCome}

-- the number of a refusal of a request
abbrev pub refusal_code : Refusal → ℕ
refusal_code (Unlawful why) = unlawful_code why
refusal_code TooManyOut = 21
refusal_code RationUsed = 22
refusal_code Busy = 23

-- the number of a refusal to redeem
abbrev pub unredeemed_code : Unredeemed → ℕ
unredeemed_code NotOut = 24
unredeemed_code NotCome = 25
