use Rattle.std.specs.Prelude.{◌≡◌, ℕ, ◌-◌, ◌^◌, ◌<◌, Bool, true, false}

-- how many tickets there are: every number of 32 bits but the highest is one
abbrev pub ticket_count : ℕ
ticket_count = 2 ^ 32 - 1

-- every ticket below a number is open
abbrev pub AllOpenBelow : (ℕ → Bool) → ℕ → Type 0
AllOpenBelow is_open n = (k : ℕ) → k < n → is_open k ≡ true

-- a number is the lowest ticket that is not open
abbrev pub LowestUnopened : (ℕ → Bool) → ℕ → Type 0
LowestUnopened is_open n = (n < ticket_count) × (is_open n ≡ false) × AllOpenBelow is_open n
