use Rattle.std.specs.Prelude.{ℕ}

-- the most numbers that can be out at once
abbrev pub most_out : ℕ
most_out = 16

-- the largest ration of requests
abbrev pub largest_ration : ℕ
largest_ration = 1000000
