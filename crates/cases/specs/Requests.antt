use Rattle.cases.specs.Row.{Row}
use Rattle.port.specs.Requests.{Verdict, unlawful_code, load_verdict, store_verdict}
use Rattle.std.specs.Prelude.{ℕ, List, [], ◌∷◌, Ok, Err}

-- 0 for a lawful request, or the number of the refusal
abbrev verdict_numbers : Verdict → List ℕ
verdict_numbers (Ok done) = 0 ∷ []
verdict_numbers (Err r) = unlawful_code r ∷ []

-- worked examples of requests, in a memory of 4 lines
abbrev pub request_rows : List Row
request_rows =
    -- 8 bytes at 56 are the last
    record { computed = verdict_numbers (load_verdict 4 8 56); wanted = 0 ∷ [] }
    -- the byte at 64 is outside
    ∷ record { computed = verdict_numbers (load_verdict 4 1 64); wanted = 8 ∷ [] }
    -- no value has 3 bytes
    ∷ record { computed = verdict_numbers (load_verdict 4 3 0); wanted = 6 ∷ [] }
    -- 66 is outside too, but first it is no multiple of 4
    ∷ record { computed = verdict_numbers (load_verdict 4 4 66); wanted = 7 ∷ [] }
    -- 2 bytes hold 65,535
    ∷ record { computed = verdict_numbers (store_verdict 4 2 0 65535); wanted = 0 ∷ [] }
    -- 2 bytes do not hold 65,536
    ∷ record { computed = verdict_numbers (store_verdict 4 2 0 65536); wanted = 9 ∷ [] }
    ∷ []
