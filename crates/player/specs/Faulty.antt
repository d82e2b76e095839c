use Rattle.std.specs.Prelude.{◌≡◌, ℕ, List, Some, None, Option}
use Rattle.player.specs.Lines.{refused_line, end_line}
use Rattle.player.specs.declared.faulty.Faulty.{Faulty}
use Rattle.player.specs.declared.faulty.Faulty.TheVariants.{Refused, Cut, Ended}
use Rattle.trace.specs.Refusal.{refusal_code}

-- one call of a player whose setup was refused: the line of that refusal, then the last line, then nothing
abbrev pub FaultyDoes : Faulty → Option (List ℕ) → Faulty → Type 0
FaultyDoes (Refused refusal) line g = (line ≡ Some (refused_line 0 (refusal_code refusal))) × (g ≡ Cut)
FaultyDoes Cut line g = (line ≡ Some (end_line 0 0)) × (g ≡ Ended)
FaultyDoes Ended line g = (line ≡ None) × (g ≡ Ended)
